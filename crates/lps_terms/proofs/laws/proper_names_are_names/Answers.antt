use Rattle.lps_terms.specs.NameLaws.{proper_is_name}
use Rattle.lps_terms.proofs.laws.proper_names_are_names.Goals as goal

pub returns : goal.returns
returns c = proper_is_name
