use Rattle.std.proofs.Common.{◌∙◌, ap, subst, Bool}
use Rattle.lps_terms.specs.declared.term.Term.{Term}
use Rattle.lps_unify.specs.Unified.{OccursOn}
use Rattle.lps_unify.proofs.Joins.{then_bind, extended_refl, extended_bind}
use Rattle.lps_unify.proofs.Lists.{joins_free}
use Rattle.lps_unify.proofs.Steps.{occurs_clash}
use Rattle.lps_unify.proofs.unify.bind_free.Goals as goal

pub returns-then-branch-clause-answer : goal.returns-then-branch-clause-answer
returns-then-branch-clause-answer c =
    occurs_clash c.args.bindings.now c.args.v c.requires.free c.args.b.now c.requires.none
    (subst (λ (found : Bool). OccursOn found c.args.bindings.now c.args.v c.args.b.now) c.if-branch.true c.in_ok-occurs.ensures)

pub returns-clause-answer : goal.returns-clause-answer
returns-clause-answer c =
    let new = c.in_ok-bind.ensures ∙ ap (λ (u : Term). then_bind c.args.bindings.now c.args.v u) c.in_ok-copy_term.ensures in
    joins_free c.args.bindings.now c.bind.new.self c.args.v c.args.b.now new

pub returns-clause-extended : goal.returns-clause-extended
returns-clause-extended c =
    extended_bind c.args.bindings.now c.args.bindings.now c.bind.new.self c.args.v c.in_ok-copy_term.field-0 c.in_ok-bind.ensures (extended_refl c.args.bindings.now)
