-- How goals are kept: each with what it is now and what it was before the last changes, and found by what wakes its nodes.
use Rattle.std.specs.Prelude.{◌≡◌, ◌⊎◌, ◌==◌, ◌<◌, ℕ, Bool, true, false, List, [], ◌∷◌, Option, Some, None, Contains, if◌then◌else◌}
use Rattle.std.specs.BTreeMap.{BTreeMap, get}
use Rattle.std.specs.BTreeSet.{BTreeSet}
use Rattle.std.specs.List.{filter_map}
use Rattle.std.specs.List.Sorted.{IsStrictlySortedBy}
use Rattle.std.specs.Option.{option_cmp}
use Rattle.std.specs.Ordering.{nat_cmp, on, ordering_then}
use Rattle.std.specs.declared.cmp.Ordering.{Ordering}
use Rattle.lps_terms.specs.Order.{name_cmp, term_cmp}
use Rattle.lps_meaning.specs.declared.goal.Closed.{Closed}
use Rattle.lps_meaning.specs.declared.goal.GoalId.{GoalId}
use Rattle.lps_meaning.specs.Reports.{is_pending}
use Rattle.lps_nodes.specs.Nodes.{goal_size}
use Rattle.lps_residual.specs.declared.waking.Awaited.{Awaited}
use Rattle.lps_residual.specs.declared.waking.Wake.{Wake}
use Rattle.lps_goaltrees.specs.declared.goal.Goal.{Goal}
use Rattle.lps_goaltrees.specs.declared.slot.Change.{Change}
use Rattle.lps_goaltrees.specs.declared.slot.Change.TheVariants as act
use Rattle.lps_goaltrees.specs.declared.slot.Slot.{Slot}
use Rattle.lps_goaltrees.specs.declared.slot.Versions.{Versions}
use Rattle.lps_goaltrees.specs.declared.slot.Versions.TheVariants as v
use Rattle.lps_goaltrees.specs.declared.slot.Which.{Which}
use Rattle.lps_goaltrees.specs.declared.slot.Which.TheVariants as w
use Rattle.lps_goaltrees.specs.declared.table.Table.{Table}
use Rattle.lps_goaltrees.specs.Pursued.{closed_as, with_number}

-- ---- two versions of a goal

-- one of the versions, where the goal was pursued then
abbrev pub version : Which → Versions → Option Goal
version which (v.Same goal) = goal
version w.Now (v.Changed before now) = now
version w.Before (v.Changed before now) = before

-- the other version, where they differ
abbrev pub other_version : Which → Versions → Option Goal
other_version which (v.Same goal) = None
other_version w.Now (v.Changed before now) = before
other_version w.Before (v.Changed before now) = now

-- the goal, where it is pending
abbrev pub pending_only : Option Goal → Option Goal
pending_only None = None
pending_only (Some goal) = if is_pending (closed_as goal) then Some goal else None

-- the goal is dropped now, where it was changed and is no longer pending
abbrev pub closed_versions : Versions → Versions
closed_versions (v.Same goal) = v.Same goal
closed_versions (v.Changed before now) = v.Changed before (pending_only now)

-- what a change makes of both versions: one alone is left, there is a new goal now, or a closed goal is dropped
abbrev pub changed_by : Change → Versions → Versions
changed_by (act.Settle which) versions = v.Same (version which versions)
changed_by (act.Put goal) versions = v.Changed (version w.Before versions) (Some goal)
changed_by act.Close versions = closed_versions versions
changed_by act.Clean versions = versions

-- the version that is no longer kept, until it is cleaned up
abbrev pub dropped_by : Change → Slot → Option Goal
dropped_by (act.Settle which) slot = other_version which slot.versions
dropped_by (act.Put goal) slot = slot.dropped
dropped_by act.Close slot = slot.dropped
dropped_by act.Clean slot = None

-- ---- goals by number

-- the slot, changed where it is the one with this number
abbrev pub changed_at : Change → ℕ → Slot → Slot
changed_at change number slot = if slot.number == number then record { number = slot.number; versions = changed_by change slot.versions; dropped = dropped_by change slot } else slot

-- the goals as they are now, or as they were before
abbrev pub goals_of : Which → List Slot → List Goal
goals_of which slots = filter_map (λ slot. version which slot.versions) slots

-- the size of the goal now, with its nodes
abbrev pub size_of : Option Goal → ℕ
size_of None = 0
size_of (Some goal) = goal_size goal.key goal.nodes

abbrev pub size_now : Slot → ℕ
size_now slot = size_of (version w.Now slot.versions)

-- the goals that are pending now
abbrev pub pending_goals : List Slot → List Goal
pending_goals slots = filter_map (λ slot. pending_only (version w.Now slot.versions)) slots

-- the goal with this number
abbrev pub version_at : Which → List Slot → ℕ → Option Goal
version_at which [] number = None
version_at which (slot ∷ slots) number = if slot.number == number then version which slot.versions else version_at which slots number

-- a goal that is new
abbrev pub new_slot : Goal → Slot
new_slot goal = record { number = goal.goal.0; versions = v.Changed None (Some goal); dropped = None }

-- the slot once each of these goals is put where its number is
abbrev pub with_goals : List Goal → Slot → Slot
with_goals [] slot = slot
with_goals (goal ∷ goals) slot = with_goals goals (changed_at (act.Put goal) goal.goal.0 slot)

abbrev pub closing_with : ℕ → Option Goal → Option (GoalId × Closed)
closing_with number None = None
closing_with number (Some goal) = with_number (record { 0 = number }) (closed_as goal)

-- the goal with this number, and how it is closed now
abbrev pub closing_at : List Slot → ℕ → Option (GoalId × Closed)
closing_at slots number = closing_with number (version_at w.Now slots number)

-- by rising number
abbrev pub AreRising : List Slot → Type 0
AreRising slots = IsStrictlySortedBy (on (λ slot. slot.number) nat_cmp) slots

-- the slot has a goal, or had one
abbrev pub is_used_by : Versions → Bool
is_used_by (v.Same None) = false
is_used_by (v.Same (Some goal)) = true
is_used_by (v.Changed before now) = true

abbrev pub is_used : Slot → Bool
is_used slot = is_used_by slot.versions

-- ---- what wakes them

abbrev pub awaited_cmp : Awaited → Awaited → Ordering
awaited_cmp x y = ordering_then (name_cmp x.name y.name) (option_cmp term_cmp x.first y.first)

-- the order of wakes: by what is awaited, and then by the time
abbrev pub wake_cmp : Wake → Wake → Ordering
wake_cmp x y = ordering_then (option_cmp awaited_cmp x.awaited y.awaited) (nat_cmp x.due y.due)

-- the goal with this number is listed for the wake
pub record IsListed (goals : BTreeMap Wake (BTreeSet ℕ)) (wake : Wake) (number : ℕ) : Type 0 where
  pub numbers : BTreeSet ℕ
  pub found : get wake_cmp goals wake ≡ Some numbers
  pub among : Contains numbers.keys number

-- by this wake the goal with this number is found
pub record IsWoken (table : Table) (wake : Wake) (number : ℕ) : Type 0 where
  pub watched : Contains table.wakes wake
  pub listed : IsListed table.goals wake number

-- what wakes a goal
abbrev pub wakes_of : Option Goal → List Wake
wakes_of None = []
wakes_of (Some goal) = goal.wakes

-- all is found that was, but for what woke this goal and wakes neither of its versions
abbrev pub IsCleaned : ℕ → List Slot → Table → Table → Type 0
IsCleaned number slots old new = (wake : Wake) (n : ℕ) → IsWoken old wake n →
    (n ≡ number → Contains (wakes_of (version_at w.Before slots number)) wake ⊎ Contains (wakes_of (version_at w.Now slots number)) wake) → IsWoken new wake n

-- ---- what holds of all

-- the goal has this number, and is found by what wakes it
pub record IsGoalOf (table : Table) (number : ℕ) (goal : Goal) : Type 0 where
  pub numbered : goal.goal.0 ≡ number
  pub woken : (wake : Wake) → Contains goal.wakes wake → IsWoken table wake number

-- nothing has changed
abbrev pub IsSame : Versions → Type 0
IsSame versions = (goal : Option Goal) × (versions ≡ v.Same goal)

-- Of goals by rising number below a next one: what wakes each version is found by it, those that have changed are noted, and the version of
-- one kind has a number below some limit and is pending.
pub record IsStored (which : Which) (limit next : ℕ) (table : Table) (changed : List ℕ) (slots : List Slot) : Type 0 where
  pub rising : AreRising slots
  pub below : (slot : Slot) → Contains slots slot → slot.number < next
  pub goals : (slot : Slot) → Contains slots slot → (kind : Which) (goal : Goal) → version kind slot.versions ≡ Some goal → IsGoalOf table slot.number goal
  pub noted : (slot : Slot) → Contains slots slot → IsSame slot.versions ⊎ Contains changed slot.number
  pub kept : (slot : Slot) → Contains slots slot → (goal : Goal) → version which slot.versions ≡ Some goal → (slot.number < limit) × (closed_as goal ≡ None)

-- each goal is pending now
abbrev pub ArePending : List Slot → Type 0
ArePending slots = (slot : Slot) → Contains slots slot → (goal : Goal) → version w.Now slot.versions ≡ Some goal → closed_as goal ≡ None
