use Rattle.std.proofs.Common.{◌≡◌, ◌∙◌, ℕ, List, sym, ap, subst}
use Rattle.std.specs.Prelude.{Contains}
use Rattle.std.specs.BTreeSet.{BTreeSet}
use Rattle.std.specs.List.{AllZip, filter_map}
use Rattle.lps_facts.specs.Facts.{members}
use Rattle.lps_goaltrees.specs.declared.goal.Goal.{Goal}
use Rattle.lps_goaltrees.specs.declared.slot.Slot.{Slot}
use Rattle.lps_goaltrees.specs.declared.slot.Which.TheVariants.{Before, Now}
use Rattle.lps_goaltrees.specs.Found.{IsAdvanced}
use Rattle.lps_goaltrees.specs.Pursued.{AreReadyGoals, Pursued, Pursuit}
use Rattle.lps_goaltrees.specs.Slots.{IsGoalOf, IsStored, goals_of, version_at}
use Rattle.lps_goaltrees.proofs.Advancing.{AreAllLed, all_are_led}
use Rattle.lps_goaltrees.proofs.Pursuing.{is_led_on, left_settled}
use Rattle.lps_goaltrees.proofs.Putting.{still_stored}
use Rattle.lps_goaltrees.proofs.goals.Goals.advance.Goals as goal
use Rattle.lps_goaltrees.proofs.goals.Goals.advance.Goals.{After-drop-changed}

goals_now : (c : After-drop-changed) → goals_of Now c.self.inside.slots.items ≡ c.args.self.now.pursuit.goals
goals_now c = ap (λ (p : Pursued). p.pursuit.goals) c.self.view_is

all_led : (c : After-drop-changed) →
    AreAllLed c.args.program.now c.args.depth c.args.time (members c.args.facts.now) c.args.events.now c.self.inside.next c.in_ok-touched.touched.keys c.tidy-self-inside.new.table c.self.inside.slots.items
    c.tidy-self-inside.new.slots.items
all_led c =
    let inside = c.self.inside in
    let slots = inside.slots.items in
    let touched = c.in_ok-touched.touched.keys in
    let goals = c.in_ok-goals.goals.items in
    let R = IsAdvanced c.args.program.now c.args.depth c.args.time (members c.args.facts.now) c.args.events.now in
    all_are_led c.rest_law.ensures c.args.program.now c.lawful.ensures.accepted c.lawful.ensures.formed c.args.depth c.args.time (members c.args.facts.now) c.args.events.now c.requires.time.1 inside.before inside.next
    inside.changed.keys touched goals inside.table c.find_all_by.new.table c.tidy-self-inside.new.table slots c.settle_all.new.slots.items c.put_all.new.slots.items c.tidy-self-inside.new.slots.items
    (record {
      stored = c.self.invariant.0;
      pending = c.self.invariant.1 (ap (λ (p : Pursued). p.is_settled) c.self.view_is ∙ c.requires.settled);
      ready = subst (AreReadyGoals c.args.program.now) (sym (goals_now c)) c.requires.ready.0;
      more = c.find_all_by.ensures.others;
      finds = c.in_ok-touched.ensures;
      advanced = subst (λ (ss : List Slot). AllZip R (filter_map (version_at Now ss) touched) goals) c.as_slice-slots.ensures.value c.in_ok-goals.ensures.advanced;
      advanced_ready = c.in_ok-goals.ensures.ready;
      found = subst (λ (gs : List Goal). (g : Goal) → Contains gs g → IsGoalOf c.find_all_by.new.table g.goal.0 g) c.as_slice.ensures.value c.in_ok-find_all_by.ensures.found;
      settled_goals = c.settle_all.ensures.goals;
      settled_found = c.settle_all.ensures.found;
      settled_stored = λ limit next table was.
          c.settle_all.ensures.stored limit next table (subst (λ (s : BTreeSet ℕ). IsStored Now limit next table s.keys slots) (sym c.replace-changed.ensures.value) was);
      put_is = c.put_all.ensures.put;
      tidied_goals = c.tidy-self-inside.ensures.goals;
      tidied_stored = c.tidy-self-inside.ensures.stored;
    })

pub invariant_of-self : goal.invariant_of-self
invariant_of-self c = (
  still_stored c.self.inside.table c.find_all_by.new.table c.find_all_by.ensures.others Before c.self.inside.before c.self.inside.next c.self.inside.changed.keys c.self.inside.slots.items c.self.invariant.0,
  c.self.invariant.1,
)

pub invariant_of-self-2 : goal.invariant_of-self-2
invariant_of-self-2 c = (
  subst (λ (s : BTreeSet ℕ). IsStored Before c.self.inside.next c.self.inside.next c.tidy-self-inside.new.table s.keys c.tidy-self-inside.new.slots.items) (sym c.replace-changed.ensures.after) (all_led c).stored,
  λ settled. absurd cc,
)

pub returns-clause-led_on : goal.returns-clause-led_on
returns-clause-led_on c =
    let old : Pursuit = c.args.self.now.pursuit in
    let new : Pursuit = record { goals = goals_of Now c.tidy-self-inside.new.slots.items; next = c.self.inside.next } in
    let facts = members c.args.facts.now in
    is_led_on c.args.program.now c.args.depth c.args.time facts c.args.events.now old new (ap (λ (p : Pursued). p.pursuit.next) c.self.view_is)
    (subst (λ (gs : List Goal). AllZip (IsAdvanced c.args.program.now c.args.depth c.args.time facts c.args.events.now) gs new.goals) (goals_now c) (all_led c).advanced)

pub returns-clause-before : goal.returns-clause-before
returns-clause-before c =
    let goals = (all_led c).before ∙ goals_now c in
    let next = ap (λ (p : Pursued). p.pursuit.next) c.self.view_is in
    let is : record { goals = goals_of Before c.tidy-self-inside.new.slots.items; next = c.self.inside.next } ≡ c.args.self.now.pursuit = λ i. record { goals = goals i; next = next i } in
    ◌∙◌ {A = Pursuit} is (sym (left_settled c.args.self.now c.requires.settled))

pub returns-clause-ready : goal.returns-clause-ready
returns-clause-ready c = ((all_led c).ready, subst (AreReadyGoals c.args.program.now) (sym ((all_led c).before ∙ goals_now c)) c.requires.ready.0)
