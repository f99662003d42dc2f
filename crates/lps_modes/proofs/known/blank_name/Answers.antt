use Rattle.std.proofs.Common.{rules}
use Rattle.lps_terms.specs.Names.{is_name}
use Rattle.lps_modes.proofs.known.blank_name.Goals as goal

pub unwrap-requires : goal.unwrap-requires
unfolding is_name
unwrap-requires c = search rules
