use Rattle.std.proofs.Common.{◌+◌, ◌∙◌, All, arith, subst, sym}
use Rattle.std.proofs.lemmas.Option.{MatchOption-at_none, MatchOption-at_some}
use Rattle.lps_windows.specs.Bounds.{IsBetween}
use Rattle.lps_windows.specs.Matrices.{HaveNoLowSolution, IsReady}
use Rattle.lps_windows.proofs.Bounding.{all_between}
use Rattle.lps_windows.proofs.Tightening.{ready_as}
use Rattle.lps_windows.proofs.Windowing.{none_at_all, ready_ends, ready_window}
use Rattle.lps_windows.proofs.window.window_of.Goals as goal

pub closed-requires-clause-between : goal.closed-requires-clause-between
closed-requires-clause-between c =
    subst (All (IsBetween (c.args.unknowns + 1))) (sym (c.as_slice.ensures.value ∙ c.in_ok-bounds.ensures)) (all_between c.args.unknowns c.args.conditions.now c.requires.within)

pub returns-in-None : goal.returns-in-None
returns-in-None c = none_at_all c.args.unknowns c.args.conditions.now c.requires.few c.requires.within
    (subst (HaveNoLowSolution (c.args.unknowns + 1)) (c.as_slice.ensures.value ∙ c.in_ok-bounds.ensures) (MatchOption-at_none _ _ c.in-None.is c.in_ok-closed.ensures))

pub ends-requires-clause-matrix : goal.ends-requires-clause-matrix
ends-requires-clause-matrix c = ready_ends (c.args.unknowns + 1) c.as_slice.result.now c.as_slice-in-Some.result.now (omega arith)
    (ready_as _ _ _ _ _ c.as_slice-in-Some.ensures.value (MatchOption-at_some _ _ _ c.in-Some.is c.in_ok-closed.ensures))

pub returns : goal.returns
returns c =
    let ready = ready_as _ _ _ _ _ c.as_slice-in-Some.ensures.value (MatchOption-at_some _ _ _ c.in-Some.is c.in_ok-closed.ensures) in
    ready_window c.args.unknowns c.args.conditions.now c.args.time c.as_slice-in-Some.result.now c.ends.result c.requires.few c.requires.within c.requires.time
    (subst (λ bounds. IsReady (c.args.unknowns + 1) bounds (c.args.unknowns + 1) c.as_slice-in-Some.result.now) (c.as_slice.ensures.value ∙ c.in_ok-bounds.ensures) ready) c.ends.ensures
