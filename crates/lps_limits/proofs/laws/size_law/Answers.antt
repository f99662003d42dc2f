use Rattle.lps_limits.proofs.Keeping.{kept_is_told, sizes_are_told}
use Rattle.lps_limits.proofs.Unique.{sizes_are_unique}
use Rattle.lps_limits.proofs.laws.size_law.Goals as goal

pub returns-clause-kept : goal.returns-clause-kept
returns-clause-kept c = kept_is_told

pub returns-clause-sizes : goal.returns-clause-sizes
returns-clause-sizes c = sizes_are_told

pub returns-clause-unique : goal.returns-clause-unique
returns-clause-unique c = sizes_are_unique
