use Rattle.std.proofs.Common.{◌≡◌, ◌<◌, arith}
use Rattle.std.specs.List.{AllByRecursion, flat_map}
use Rattle.lps_model.specs.VariableLists.{atom_vars, cond_vars}
use Rattle.lps_solve.proofs.Results.{IfOk-map}
use Rattle.lps_causal.proofs.Binding.{below_more}
use Rattle.lps_causal.proofs.causal_law.variables_of.Goals as goal

pub returns-clause-event : goal.returns-clause-event
returns-clause-event c =
    IfOk-map c.in_range.result (λ above. above ≡ c.max-2.result) (λ above. AllByRecursion (λ v. v < above) (atom_vars c.args.event.now))
    (λ above e. below_more c.in_ok-of_event.of_event above (atom_vars c.args.event.now) (omega (arith, e, c.max.ensures, c.max-2.ensures)) c.in_ok-of_event.ensures) c.in_range.ensures

pub returns-clause-fluent : goal.returns-clause-fluent
returns-clause-fluent c =
    IfOk-map c.in_range.result (λ above. above ≡ c.max-2.result) (λ above. AllByRecursion (λ v. v < above) (atom_vars c.args.fluent.now))
    (λ above e. below_more c.in_ok-of_fluent.of_fluent above (atom_vars c.args.fluent.now) (omega (arith, e, c.max.ensures, c.max-2.ensures)) c.in_ok-of_fluent.ensures) c.in_range.ensures

pub returns-clause-conds : goal.returns-clause-conds
returns-clause-conds c =
    IfOk-map c.in_range.result (λ above. above ≡ c.max-2.result) (λ above. AllByRecursion (λ v. v < above) (flat_map cond_vars c.args.conds.now))
    (λ above e. below_more c.above_conds.result above (flat_map cond_vars c.args.conds.now) (omega (arith, e, c.max-2.ensures)) c.above_conds.ensures) c.in_range.ensures
