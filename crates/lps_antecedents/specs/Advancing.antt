-- What those that a cycle touches come to in it.
use Rattle.std.specs.Prelude.{◌≡◌, ◌⊎◌, ◌↔◌, ℕ, suc, false, List, [], ◌∷◌, Contains, map}
use Rattle.lps_terms.specs.declared.atom.Atom.{Atom}
use Rattle.lps_terms.specs.declared.text.Text.{Text}
use Rattle.lps_model.specs.declared.trace.Trace.{Trace}
use Rattle.lps_model.specs.Clauses.{clauses}
use Rattle.lps_derivation.specs.Levels.{AreLevels}
use Rattle.lps_meaning.specs.declared.goal.GoalKey.{GoalKey}
use Rattle.lps_meeting.specs.Stages.{AreEventsOf, IsStateOf}
use Rattle.lps_nodes.specs.Plans.{IsWaiting}
use Rattle.lps_residual.specs.declared.waking.Wake.{Wake}
use Rattle.lps_antecedents.specs.declared.gathered.Gathered.{Gathered}
use Rattle.lps_antecedents.specs.declared.held.Held.{Held}
use Rattle.lps_antecedents.specs.declared.slot.Slot.{Slot}
use Rattle.lps_antecedents.specs.Buckets.{LiesIn, kept, waiting}
use Rattle.lps_antecedents.specs.Gathered.{ByOne, HeldEndsWith, HeldGoesOnTo}
use Rattle.lps_antecedents.specs.Slots.{held_of, waiting_in}

-- none of those in the buckets of these wakes waits
abbrev pub AreOff : List Wake → List (Wake × List Slot) → Type 0
AreOff wakes buckets = (wake : Wake) (slot : Slot) → Contains wakes wake → LiesIn buckets wake slot → slot.waits ≡ false

-- it lies in the bucket of one of these wakes
abbrev pub LiesInSome : List Wake → List (Wake × List Held) → Held → Type 0
LiesInSome wakes buckets h = (wake : Wake) × Contains wakes wake × LiesIn buckets wake h

-- what some of these gives
abbrev pub BySome : {Y : Type 0} → (Held → Type 0) → (Held → Y → Type 0) → Y → Type 0
BySome {Y} P R y = (h : Held) × P h × R h y

-- Whatever trace has this state and these events, and in which these all wait at the time before.
abbrev pub OverAll : Text → ℕ → List Atom → List Atom → (Held → Type 0) → ((Held → Held → Type 0) → (Held → GoalKey → Type 0) → Type 0) → Type 0
OverAll text time facts events P Says =
    (level : List ℕ → ℕ) → AreLevels (clauses text) level → (trace : Trace) (now : ℕ) → time ≡ suc now → IsStateOf text level trace time facts → AreEventsOf trace time events →
    ((h : Held) → P h → IsWaiting text level trace now h.rule h.node) → Says (HeldGoesOnTo text level trace now) (HeldEndsWith text level trace now)

-- what was gathered and what waited, with what these give, is what is gathered and what waits
abbrev pub IsMore : (Held → Type 0) → (Held → Held → Type 0) → (Held → GoalKey → Type 0) → List Held → List Held → Gathered → Gathered → Type 0
IsMore P goes ends waited waits old new =
    ((o : Held) → (Contains new.held.items o ⊎ Contains waits o) ↔ ((Contains old.held.items o ⊎ Contains waited o) ⊎ BySome P goes o))
    × ((key : GoalKey) → Contains new.keys.keys key ↔ (Contains old.keys.keys key ⊎ BySome P ends key))

-- of those that lie here
abbrev pub AreStepped : Text → ℕ → List Atom → List Atom → List Slot → List Slot → Gathered → Gathered → Type 0
AreStepped text time facts events old new from to =
    OverAll text time facts events (Contains (map held_of old)) (λ goes ends. ((o : Held) → (Contains to.held.items o ⊎ Contains (waiting_in new) o) ↔ (Contains from.held.items o ⊎ ByOne (map held_of old) goes o))
    × ((key : GoalKey) → Contains to.keys.keys key ↔ (Contains from.keys.keys key ⊎ ByOne (map held_of old) ends key)))

-- of those in the bucket of the wake, where they are off
abbrev pub IsSteppedIn : Text → ℕ → List Atom → List Atom → Wake → List (Wake × List Slot) → List (Wake × List Slot) → Gathered → Gathered → Type 0
IsSteppedIn text time facts events wake old new from to = AreOff (wake ∷ []) old →
    OverAll text time facts events (LiesIn (kept old) wake) (λ goes ends. IsMore (LiesIn (kept old) wake) goes ends (waiting old) (waiting new) from to)

-- of those in the buckets of these wakes, where nothing was gathered
abbrev pub IsGatheredFrom : Text → ℕ → List Atom → List Atom → List Wake → List (Wake × List Slot) → List (Wake × List Slot) → Gathered → Type 0
IsGatheredFrom text time facts events wakes old new g =
    OverAll text time facts events (LiesInSome wakes (kept old)) (λ goes ends.
    ((o : Held) → (Contains g.held.items o ⊎ Contains (waiting new) o) ↔ (Contains (waiting old) o ⊎ BySome (LiesInSome wakes (kept old)) goes o))
    × ((key : GoalKey) → Contains g.keys.keys key ↔ BySome (LiesInSome wakes (kept old)) ends key))
