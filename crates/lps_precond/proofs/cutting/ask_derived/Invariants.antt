use Rattle.std.proofs.Common.{◌≡◌, drop}
use Rattle.std.specs.List.{list_any}
use Rattle.lps_precond.specs.Cut.{asks_derived}
use Rattle.lps_precond.proofs.cutting.ask_derived.Given as goal

-- what is left decides
abbrev pub invariant-loop-cond : goal.invariant-loop-cond
invariant-loop-cond l = list_any (asks_derived l.text) (drop l.cond-index l.conds) ≡ list_any (asks_derived l.text) l.conds
