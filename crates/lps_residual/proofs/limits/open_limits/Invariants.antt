use Rattle.std.proofs.Common.{◌≡◌, ◌++◌, drop}
use Rattle.std.specs.List.{AllByRecursion, filter}
use Rattle.lps_windows.specs.Bounds.{IsShort}
use Rattle.lps_residual.specs.Limits.{HasFalse, IsOpenOrTrue, is_open}
use Rattle.lps_residual.proofs.limits.open_limits.Given as goal

-- the constraints so far are those of the first ones that name an unknown time, and the others of these are true
abbrev pub invariant-loop-limit : goal.invariant-loop-limit
invariant-loop-limit l = record {
  kept : l.kept.items ++ filter is_open (drop l.limit-index l.limits) ≡ filter is_open l.limits;
  all : AllByRecursion IsOpenOrTrue (drop l.limit-index l.limits) → AllByRecursion IsOpenOrTrue l.limits;
  none : HasFalse (drop l.limit-index l.limits) → HasFalse l.limits;
  short : AllByRecursion IsShort (drop l.limit-index l.limits);
}
