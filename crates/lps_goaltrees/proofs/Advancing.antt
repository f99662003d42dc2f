-- What is kept of goals once a cycle leads them on: those that it touches are advanced, and the others stay as they are.
use Rattle.std.proofs.Common.{◌≡◌, ◌≤◌, ◌∙◌, ℕ, List, [], map, sym, ap, subst}
use Rattle.std.specs.Prelude.{IsTrue, Contains, Some}
use Rattle.std.specs.List.{AllZip, filter_map}
use Rattle.lps_terms.specs.declared.atom.Atom.{Atom}
use Rattle.lps_terms.specs.declared.text.Text.{Text}
use Rattle.lps_model.specs.Acceptance.{IsAccepted}
use Rattle.lps_model.specs.Formed.{is_formed}
use Rattle.lps_meaning.proofs.Lists.{of_element}
use Rattle.lps_residual.specs.declared.waking.Wake.{Wake}
use Rattle.lps_residual.specs.Waking.{IsTouched}
use Rattle.lps_seq.specs.Resting.{RestsUntilTouched}
use Rattle.lps_goaltrees.specs.declared.goal.Goal.{Goal}
use Rattle.lps_goaltrees.specs.declared.slot.Slot.{Slot}
use Rattle.lps_goaltrees.specs.declared.slot.Which.{Which}
use Rattle.lps_goaltrees.specs.declared.slot.Which.TheVariants as w
use Rattle.lps_goaltrees.specs.declared.table.Table.{Table}
use Rattle.lps_goaltrees.specs.Found.{IsAdvanced}
use Rattle.lps_goaltrees.specs.Pursued.{AreReadyGoals, IsReadyGoal}
use Rattle.lps_goaltrees.specs.Slots.{ArePending, IsGoalOf, IsStored, IsWoken, goals_of, version, version_at, with_goals}
use Rattle.lps_goaltrees.proofs.Lists.{to_chosen}
use Rattle.lps_goaltrees.proofs.Places.{chosen_alike}
use Rattle.lps_goaltrees.proofs.Putting.{all_led, kept_now, put_goals_before, put_ready, put_stored, still_stored}
use Rattle.lps_goaltrees.proofs.Resting.{led_to_itself}
use Rattle.lps_goaltrees.proofs.Settling.{all_same, one_version}

-- what the calls of a cycle make of the goals, one after the other
pub record AreLedOn (text : Text) (depth time : ℕ) (facts events : List Atom) (limit next : ℕ) (changed touched : List ℕ) (goals : List Goal) (table found_in last : Table) (slots settled put tidied : List Slot) : Type 0 where
  pub stored : IsStored w.Before limit next table changed slots
  pub pending : ArePending slots
  pub ready : AreReadyGoals text (goals_of w.Now slots)
  pub more : (wake : Wake) (n : ℕ) → IsWoken table wake n → IsWoken found_in wake n
  pub finds : (wake : Wake) (n : ℕ) → IsWoken table wake n → IsTouched wake time events → Contains touched n
  pub advanced : AllZip (IsAdvanced text depth time facts events) (filter_map (version_at w.Now slots) touched) goals
  pub advanced_ready : AreReadyGoals text goals
  pub found : (goal : Goal) → Contains goals goal → IsGoalOf found_in goal.goal.0 goal
  pub settled_goals : goals_of w.Now settled ≡ goals_of w.Now slots
  pub settled_found : (n : ℕ) → version_at w.Now settled n ≡ version_at w.Now slots n
  pub settled_stored : (limit next : ℕ) (table : Table) → IsStored w.Now limit next table changed slots → IsStored w.Now limit next table [] settled
  pub put_is : put ≡ map (with_goals goals) settled
  pub tidied_goals : (which : Which) → goals_of which tidied ≡ goals_of which put
  pub tidied_stored : (which : Which) (limit next : ℕ) (noted : List ℕ) → IsStored which limit next found_in noted put → IsStored which limit next last noted tidied

-- what comes of it
pub record AreAllLed (text : Text) (depth time : ℕ) (facts events : List Atom) (next : ℕ) (touched : List ℕ) (last : Table) (slots tidied : List Slot) : Type 0 where
  pub stored : IsStored w.Before next next last touched tidied
  pub advanced : AllZip (IsAdvanced text depth time facts events) (goals_of w.Now slots) (goals_of w.Now tidied)
  pub before : goals_of w.Before tidied ≡ goals_of w.Now slots
  pub ready : AreReadyGoals text (goals_of w.Now tidied)

pub all_are_led : RestsUntilTouched → (text : Text) → IsAccepted text → IsTrue (is_formed text) → (depth time : ℕ) (facts events : List Atom) → time ≤ 1000000 →
    (limit next : ℕ) (changed touched : List ℕ) (goals : List Goal) (table found_in last : Table) (slots settled put tidied : List Slot) →
    AreLedOn text depth time facts events limit next changed touched goals table found_in last slots settled put tidied →
    AreAllLed text depth time facts events next touched last slots tidied
all_are_led rest text accepted formed depth time facts events within limit next changed touched goals table found_in last slots settled put tidied led =
    let now : IsStored w.Now next next table [] settled = led.settled_stored next next table (kept_now slots led.pending led.stored) in
    let then : IsStored w.Now next next found_in [] settled = still_stored table found_in led.more w.Now next next [] settled now in
    let zip : AllZip (IsAdvanced text depth time facts events) (filter_map (version_at w.Now settled) touched) goals =
    subst (λ gs. AllZip (IsAdvanced text depth time facts events) gs goals) (sym (chosen_alike (version_at w.Now settled) (version_at w.Now slots) touched (λ n there. led.settled_found n))) led.advanced in
    let ready : AreReadyGoals text (goals_of w.Now settled) = subst (AreReadyGoals text) (sym led.settled_goals) led.ready in
    let rests : (slot : Slot) → Contains settled slot → (old : Goal) → version w.Now slot.versions ≡ Some old → (Contains touched slot.number → ⊥) → IsAdvanced text depth time facts events old old =
    λ slot there old is none. led_to_itself rest text accepted formed depth time events within old
    (of_element (IsReadyGoal text) (goals_of w.Now settled) old ready (to_chosen (λ (s : Slot). version w.Now s.versions) settled slot old there is))
    (λ wake among touches. none (led.finds wake slot.number ((now.goals slot there w.Now old is).woken wake among) touches)) facts in
    let zipped : AllZip (IsAdvanced text depth time facts events) (goals_of w.Now settled) (goals_of w.Now (map (with_goals goals) settled)) = all_led (IsAdvanced text depth time facts events) same next next found_in touched settled goals then zip rests in
    record {
      stored = led.tidied_stored w.Before next next touched
          (subst (IsStored w.Before next next found_in touched) (sym led.put_is) (put_stored (IsAdvanced text depth time facts events) same next next found_in touched settled goals then zip led.found));
      advanced = subst (λ gs. AllZip (IsAdvanced text depth time facts events) gs (goals_of w.Now tidied)) led.settled_goals
          (subst (AllZip (IsAdvanced text depth time facts events) (goals_of w.Now settled)) (sym (led.tidied_goals w.Now ∙ ap (goals_of w.Now) led.put_is)) zipped);
      before = led.tidied_goals w.Before ∙ ap (goals_of w.Before) led.put_is ∙ put_goals_before goals settled ∙ one_version settled (all_same now) w.Before w.Now ∙ led.settled_goals;
      ready = subst (AreReadyGoals text) (sym (led.tidied_goals w.Now ∙ ap (goals_of w.Now) led.put_is))
          (put_ready (IsAdvanced text depth time facts events) same next next found_in touched settled goals then zip (IsReadyGoal text) led.advanced_ready ready);
    }
  where
    same : (one two : Goal) → IsAdvanced text depth time facts events one two → two.goal ≡ one.goal
    same one two r = r.number
