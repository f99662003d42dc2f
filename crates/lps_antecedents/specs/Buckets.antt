-- Those that wait, in buckets by what wakes them.
use Rattle.std.specs.Prelude.{◌≡◌, ◌⊎◌, ◌&&◌, Bool, List, Option, Some, None, map, Contains}
use Rattle.std.specs.BTreeMap.{BTreeMap, is_at}
use Rattle.std.specs.List.{AllByRecursion, flat_map}
use Rattle.std.specs.List.Sorted.{IsStrictlySortedBy}
use Rattle.std.specs.Map.{keys_of, lookup, set_value}
use Rattle.std.specs.declared.alloc.Global.{Global}
use Rattle.std.specs.declared.vec.Vec.{Vec}
use Rattle.lps_terms.specs.declared.text.Text.{Text}
use Rattle.lps_residual.specs.Moments.{IsReady}
use Rattle.lps_residual.specs.declared.waking.Wake.{Wake}
use Rattle.lps_watch.specs.Orders.{wake_cmp}
use Rattle.lps_residual.specs.Waking.{IsWake}
use Rattle.lps_antecedents.specs.declared.buckets.Buckets.{Buckets}
use Rattle.lps_antecedents.specs.declared.held.Held.{Held}
use Rattle.lps_antecedents.specs.declared.slot.Slot.{Slot}
use Rattle.lps_antecedents.specs.Lists.{Gains}
use Rattle.lps_antecedents.specs.Slots.{AreApart, IsSettled, before_in, held_of, waited_in, waiting_in}

-- the buckets of a map, each with its wake, in the order of wakes
abbrev pub slots_of : BTreeMap Wake (Vec Slot Global) → List (Wake × List Slot)
slots_of m = map (λ e. (e.0, e.1.items)) m.entries

-- those that wait now, and those that waited before
abbrev pub waiting : List (Wake × List Slot) → List Held
waiting buckets = flat_map (λ b. waiting_in b.1) buckets

abbrev pub waited : List (Wake × List Slot) → List Held
waited buckets = flat_map (λ b. waited_in b.1) buckets

-- all that lies in each bucket
abbrev pub kept : List (Wake × List Slot) → List (Wake × List Held)
kept buckets = map (λ b. (b.0, map held_of b.1)) buckets

-- it lies in the bucket of the wake
abbrev pub LiesIn : {X : Type 0} → List (Wake × List X) → Wake → X → Type 0
LiesIn {X} buckets wake x = (bucket : Wake × List X) × Contains buckets bucket × (bucket.0 ≡ wake) × Contains bucket.1 x

-- steps can be made on all of it, and each lies in the bucket of what wakes it
abbrev pub AreReadyIn : Text → List (Wake × List Held) → Type 0
AreReadyIn text buckets = (wake : Wake) (held : Held) → LiesIn buckets wake held → IsReady text held.node × IsWake text held.node wake

-- The buckets are in order, and none has the same twice; what wakes a bucket is watched; and where one waits that did not wait before, or the
-- other way round, the bucket is among the changed ones.
pub record IsSound (buckets : List (Wake × List Slot)) (watched changed : List Wake) : Type 0 where
  pub ordered : IsStrictlySortedBy wake_cmp (keys_of buckets)
  pub apart : AllByRecursion (λ (b : Wake × List Held). AreApart b.1) (kept buckets)
  pub watching : (wake : Wake) (slot : Slot) → LiesIn buckets wake slot → Contains watched wake
  pub settled : (wake : Wake) (slot : Slot) → LiesIn buckets wake slot → Contains changed wake ⊎ IsSettled slot

abbrev pub IsSoundOf : Buckets → Type 0
IsSoundOf b = IsSound (slots_of b.by_wake) b.watch b.changed.items

-- ---- changes

module _ (change : List Slot → List Slot) (wake : Wake) (buckets : List (Wake × List Slot)) where
  abbrev pub set_where : Option (List Slot) → List (Wake × List Slot)
  set_where None = buckets
  set_where (Some slots) = set_value (is_at (wake_cmp wake)) buckets (change slots)

  -- the bucket of the wake is changed, if there is one
  abbrev pub set_at : List (Wake × List Slot)
  set_at = set_where (lookup (is_at (wake_cmp wake)) buckets)

-- what lies in the buckets, and whether it waited before
abbrev pub before_of : List (Wake × List Slot) → List (Wake × List (Held × Bool))
before_of buckets = map (λ b. (b.0, before_in b.1)) buckets

-- nothing changes but who waits now in the buckets of these wakes
pub record ChangesOnly (wakes : List Wake) (old new : List (Wake × List Slot)) : Type 0 where
  pub before : before_of new ≡ before_of old
  pub ordered : IsStrictlySortedBy wake_cmp (keys_of new)
  pub new_lie : (wake : Wake) (slot : Slot) → LiesIn new wake slot → Contains wakes wake ⊎ LiesIn old wake slot
  pub old_lie : (wake : Wake) (slot : Slot) → LiesIn old wake slot → Contains wakes wake ⊎ LiesIn new wake slot

-- those in the buckets of these wakes that waited before are switched on, or off
pub record AreSwitched (on : Bool) (wakes : List Wake) (old new : List (Wake × List Slot)) : Type 0 where
  pub only : ChangesOnly wakes old new
  pub turned : (wake : Wake) (slot : Slot) → LiesIn new wake slot → Contains wakes wake → slot.waits ≡ (on && slot.waited)

-- one more waits, in the bucket of its wake
pub record IsPut (wake : Wake) (held : Held) (old new : List (Wake × List Slot)) : Type 0 where
  pub waits : Gains (waiting old) (waiting new) (λ h. h ≡ held)
  pub waited : waited new ≡ waited old
  pub ordered : IsStrictlySortedBy wake_cmp (keys_of new)
  pub apart : AllByRecursion (λ (b : Wake × List Held). AreApart b.1) (kept old) → AllByRecursion (λ (b : Wake × List Held). AreApart b.1) (kept new)
  pub lies : (other : Wake) (h : Held) → LiesIn (kept new) other h → LiesIn (kept old) other h ⊎ ((other ≡ wake) × (h ≡ held))
  pub others : (other : Wake) (slot : Slot) → LiesIn new other slot → (other ≡ wake) ⊎ LiesIn old other slot
