use Rattle.std.proofs.Common.{◌≡◌, ◌∙◌, ℕ, [], true, sym, ap, subst}
use Rattle.std.specs.BTreeSet.{BTreeSet}
use Rattle.lps_goaltrees.specs.declared.slot.Which.TheVariants.{Before, Now}
use Rattle.lps_goaltrees.specs.Pursued.{AreReadyGoals, Pursued}
use Rattle.lps_goaltrees.specs.Slots.{IsStored, goals_of}
use Rattle.lps_goaltrees.proofs.Putting.{kept_either, kept_now, pending_unchanged}
use Rattle.lps_goaltrees.proofs.Settling.{all_same, one_version}
use Rattle.lps_goaltrees.proofs.goals.Goals.commit.Goals as goal
use Rattle.lps_goaltrees.proofs.goals.Goals.commit.Goals.{After-drop-changed}

-- nothing has changed, and the goals now are kept
tidied : (c : After-drop-changed) → IsStored Now c.self.inside.next c.self.inside.next c.tidy-self-inside.new.table [] c.tidy-self-inside.new.slots.items
tidied c =
    let inside = c.self.inside in
    let settled : inside.is_settled ≡ true = ap (λ (p : Pursued). p.is_settled) c.self.view_is ∙ c.requires.settled in
    let now = kept_now inside.slots.items (c.self.invariant.1 settled) c.self.invariant.0 in
    let kept = subst (λ (s : BTreeSet ℕ). IsStored Now inside.next inside.next inside.table s.keys inside.slots.items) (sym c.replace-changed.ensures.value) now in
    c.tidy-self-inside.ensures.stored Now inside.next inside.next [] (c.settle_all.ensures.stored inside.next inside.next inside.table kept)

same_goals : (c : After-drop-changed) → goals_of Now c.tidy-self-inside.new.slots.items ≡ c.args.self.now.pursuit.goals
same_goals c = c.tidy-self-inside.ensures.goals Now ∙ c.settle_all.ensures.goals ∙ ap (λ (p : Pursued). p.pursuit.goals) c.self.view_is

same_before : (c : After-drop-changed) → goals_of Before c.tidy-self-inside.new.slots.items ≡ c.args.self.now.pursuit.goals
same_before c = one_version c.tidy-self-inside.new.slots.items (all_same (tidied c)) Before Now ∙ same_goals c

pub invariant_of-self : goal.invariant_of-self
invariant_of-self c =
    let slots = c.tidy-self-inside.new.slots.items in
    let empty : c.replace-changed.new.dest.keys ≡ [] = ap (λ (s : BTreeSet ℕ). s.keys) c.replace-changed.ensures.after ∙ c.new.ensures.empty in
    (rw empty (kept_either Now Before slots (tidied c)), λ settled. pending_unchanged Now slots (tidied c))

pub returns-clause-pursuit : goal.returns-clause-pursuit
returns-clause-pursuit c = λ i. record { goals = same_goals c i; next = ap (λ (p : Pursued). p.pursuit.next) c.self.view_is i }

pub returns-clause-before : goal.returns-clause-before
returns-clause-before c = λ i. record { goals = same_before c i; next = ap (λ (p : Pursued). p.pursuit.next) c.self.view_is i }

pub returns-clause-ready : goal.returns-clause-ready
returns-clause-ready c = λ text ready. (subst (AreReadyGoals text) (sym (same_goals c)) ready.0, subst (AreReadyGoals text) (sym (same_before c)) ready.0)
