use Rattle.std.proofs.Common.{◌≡◌, ◌∙◌, sym, ap, subst}
use Rattle.std.specs.List.{filter}
use Rattle.lps_meaning.specs.Reports.{is_pending}
use Rattle.lps_meaning.proofs.Lists.{of_filter}
use Rattle.lps_goaltrees.specs.declared.slot.Which.TheVariants.{Before, Now}
use Rattle.lps_goaltrees.specs.Pursued.{AreReadyGoals, IsReadyGoal, Pursued, Pursuit, closed_as}
use Rattle.lps_goaltrees.specs.Slots.{goals_of}
use Rattle.lps_goaltrees.proofs.Pursuing.{left_settled, left_unsettled}
use Rattle.lps_goaltrees.proofs.Settling.{pending_are, pending_filtered}
use Rattle.lps_goaltrees.proofs.goals.Goals.keep_pending.Goals as goal
use Rattle.lps_goaltrees.proofs.goals.Goals.keep_pending.Goals.{After-self-1}

pub returns-then-self-clause-goals : goal.returns-then-self-clause-goals
returns-then-self-clause-goals c =
    let slots = c.self.inside.slots.items in
    let same : goals_of Now slots ≡ c.args.self.now.pursuit.goals = ap (λ (p : Pursued). p.pursuit.goals) c.self.view_is in
    ap (λ (p : Pursuit). p.goals) c.commit.ensures.pursuit ∙ sym same ∙ sym (pending_are slots (c.self.invariant.1 c.if-self.true)) ∙ pending_filtered slots ∙ ap (filter (λ goal. is_pending (closed_as goal))) same

pub returns-then-self-clause-before : goal.returns-then-self-clause-before
returns-then-self-clause-before c = c.commit.ensures.before ∙ sym (left_settled c.args.self.now (ap (λ (p : Pursued). p.is_settled) (sym c.self.view_is) ∙ c.if-self.true))

pub invariant_of-self : goal.invariant_of-self
invariant_of-self c =
    let inside = c.self.inside in
    let closed = c.close_all.ensures.stored inside.before inside.next inside.table c.self.invariant.0 in (closed.0, λ settled. closed.1)

goals_left : (c : After-self-1) → goals_of Now c.close_all.new.slots.items ≡ filter (λ goal. is_pending (closed_as goal)) c.args.self.now.pursuit.goals
goals_left c =
    let inside = c.self.inside in
    let closed = c.close_all.ensures.stored inside.before inside.next inside.table c.self.invariant.0 in
    sym (pending_are c.close_all.new.slots.items closed.1) ∙ c.close_all.ensures.goals ∙ pending_filtered inside.slots.items
    ∙ ap (λ (p : Pursued). filter (λ goal. is_pending (closed_as goal)) p.pursuit.goals) c.self.view_is

before_left : (c : After-self-1) → goals_of Before c.close_all.new.slots.items ≡ c.args.self.now.before.goals
before_left c = c.close_all.ensures.before ∙ ap (λ (p : Pursued). p.before.goals) c.self.view_is

pub returns-clause-goals : goal.returns-clause-goals
returns-clause-goals c = goals_left c

pub returns-clause-before : goal.returns-clause-before
returns-clause-before c =
    let goals = before_left c in
    let next = ap (λ (p : Pursued). p.before.next) c.self.view_is in
    let is : record { goals = goals_of Before c.close_all.new.slots.items; next = c.self.inside.before } ≡ c.args.self.now.before = λ i. record { goals = goals i; next = next i } in
    ◌∙◌ {A = Pursuit} is (sym (left_unsettled c.args.self.now (ap (λ (p : Pursued). p.is_settled) (sym c.self.view_is) ∙ c.if-self.false)))

pub returns-clause-ready : goal.returns-clause-ready
returns-clause-ready c = λ text ready. (
  subst (AreReadyGoals text) (sym (goals_left c)) (of_filter (IsReadyGoal text) (λ goal. is_pending (closed_as goal)) c.args.self.now.pursuit.goals ready.0),
  subst (AreReadyGoals text) (sym (before_left c)) ready.1,
)
