use Rattle.lps_terms.specs.Put.{put-put, put_atom-put_atom}
use Rattle.lps_terms.proofs.laws.substitution_composes.Goals as goal

pub returns-clause-terms : goal.returns-clause-terms
returns-clause-terms c = put-put

pub returns-clause-atoms : goal.returns-clause-atoms
returns-clause-atoms c = put_atom-put_atom
