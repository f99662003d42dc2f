-- Denials cut into what is to happen, the conditions before the second of their times begins, which are on the state before, and
-- those from there on, which are on the state after.
use Rattle.std.specs.Prelude.{ℕ, suc, Bool, true, false, List, [], ◌∷◌, Option, Some, None, if◌then◌else◌, map, take, drop}
use Rattle.std.specs.List.{flat_map, list_any}
use Rattle.lps_terms.specs.declared.cond.Cond.{Cond}
use Rattle.lps_terms.specs.declared.cond.Cond.TheVariants as c
use Rattle.lps_terms.specs.declared.item.Item.{Item}
use Rattle.lps_terms.specs.declared.item.Item.TheVariants as i
use Rattle.lps_terms.specs.declared.kind.Kind.{Kind}
use Rattle.lps_terms.specs.declared.kind.Kind.TheVariants as k
use Rattle.lps_terms.specs.declared.lit.Lit.{Lit}
use Rattle.lps_terms.specs.declared.text.Text.{Text}
use Rattle.lps_model.specs.Order.{stands_at}
use Rattle.lps_model.specs.Rules.{denials, kind_of}

-- what is to happen, as conditions, the conditions before the second time begins, and those from there on
pub record Cut : Type 0 where
  pub happen : List Cond
  pub front : List Cond
  pub back : List Cond
  -- the fluents that are to be true or not to be true from there on, each as a condition that is to be true
  pub touches : List Cond
  -- a derived predicate is asked for from there on
  pub is_derived : Bool

-- the item as a condition on a state: what is to happen is none
abbrev pub cond_of : Item → List Cond
cond_of (i.At l time) = c.Lit l ∷ []
cond_of (i.Bare l) = c.Lit l ∷ []
cond_of (i.Built built) = c.Built built ∷ []
cond_of (i.Span a from to) = []
cond_of (i.Con con) = []

-- the items as conditions on a state
abbrev pub conds_of : List Item → List Cond
conds_of items = flat_map cond_of items

-- what is to happen, as a condition on events
abbrev pub event_of : Item → List Cond
event_of (i.Span a from to) = c.Lit (record { negated = false; atom = a }) ∷ []
event_of _ = []

-- the items as conditions on events
abbrev pub events_of : List Item → List Cond
events_of items = flat_map event_of items

-- the second time of the first item that has two
abbrev pub second_in : List Item → Option ℕ
second_in [] = None
second_in (i.Span a from to ∷ items) = Some to.0
second_in (item ∷ items) = second_in items

-- the item is at the second time, where there is one
abbrev pub is_late : Option ℕ → Item → Bool
is_late None item = false
is_late (Some second) item = stands_at second item

-- how many items stand before the first one that is at the second time
abbrev pub count_early : Option ℕ → List Item → ℕ
count_early second [] = 0
count_early second (item ∷ items) = if is_late second item then 0 else suc (count_early second items)

-- the items before the first one that is at the second time
abbrev pub front_of : List Item → List Item
front_of items = take (count_early (second_in items) items) items

-- the items from there on
abbrev pub back_of : List Item → List Item
back_of items = drop (count_early (second_in items) items) items

-- the atom of a literal, to be true, where it is of a fluent
abbrev pub touch_by : Option Kind → Lit → List Cond
touch_by (Some k.Fluent) l = c.Lit (record { negated = false; atom = l.atom }) ∷ []
touch_by _ l = []

-- the same of a condition
abbrev pub touch_of : Text → Cond → List Cond
touch_of text (c.Lit l) = touch_by (kind_of text l.atom.name) l
touch_of text (c.Built built) = []

-- the kind of a derived predicate
abbrev pub is_derived_kind : Option Kind → Bool
is_derived_kind (Some k.Derived) = true
is_derived_kind _ = false

-- the condition asks for a derived predicate
abbrev pub asks_derived : Text → Cond → Bool
asks_derived text (c.Lit l) = is_derived_kind (kind_of text l.atom.name)
asks_derived text (c.Built built) = false

-- a denial with these conditions
abbrev pub cut_at : Text → List Cond → List Cond → List Cond → Cut
cut_at text happen front back = record { happen = happen; front = front; back = back; touches = flat_map (touch_of text) back; is_derived = list_any (asks_derived text) back }

-- a denial of a text, cut
abbrev pub cut : Text → List Item → Cut
cut text items = cut_at text (events_of items) (conds_of (front_of items)) (conds_of (back_of items))

-- the denials of a text, cut, in text order
abbrev pub cuts : Text → List Cut
cuts text = map (cut text) (denials text)
