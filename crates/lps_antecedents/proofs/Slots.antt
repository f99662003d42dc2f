-- What lies in a bucket, and changes of it.
use Rattle.std.proofs.Common.{ℕ, zero, suc, ◌≡◌, ◌∙◌, Bool, true, false, cond, ◌&&◌, List, [], ◌∷◌, ◌++◌, map, set, get_or, refl, sym, ap, subst, inl, inr}
use Rattle.std.specs.Prelude.{Contains, Some, slice_get}
use Rattle.std.specs.List.Retain.{RetainsInTurn}
use Rattle.std.proofs.lemmas.List.Elements.{Contains-append_cases}
use Rattle.lps_model.proofs.Elements.{first_is_contained, later_is_contained, nothing_contained}
use Rattle.lps_meaning.proofs.Numbers.{some_same}
use Rattle.lps_antecedents.specs.declared.held.Held.{Held}
use Rattle.lps_antecedents.specs.declared.slot.Slot.{Slot}
use Rattle.lps_antecedents.specs.Lists.{Gains}
use Rattle.lps_antecedents.specs.Slots.{AreApart, IsAdded, IsSettled, before_in, held_of, held_where, left_settled, switched, waited_in, waiting_in}
use Rattle.lps_antecedents.proofs.Lists.{gains_old, gains_pushed}
use Rattle.lps_antecedents.proofs.Middles.{cases_first, cond_appended, cond_cases, cond_first, cond_later, is_first, map_cond, mapped_back}

-- ---- those that meet a test

cond_apart : (b : Bool) (h : Held) (hs : List Held) → (Contains hs h → ⊥) → AreApart hs → AreApart (cond b (h ∷ hs) hs)
cond_apart true h hs new apart = (new, apart)
cond_apart false h hs new apart = apart

module _ (test : Slot → Bool) where
  pub where_has : (slots : List Slot) (h : Held) → Contains (held_where test slots) h → (slot : Slot) × Contains slots slot × (test slot ≡ true) × (slot.held ≡ h)
  where_has [] h there = absurd (nothing_contained h there)
  where_has (slot ∷ slots) h there = elim (cond_cases (test slot) slot.held h (held_where test slots) there) [
    | inl first ↦ (slot, first_is_contained slot slots, first.0, sym first.1)
    | inr more ↦ let found = where_has slots h more in (found.0, later_is_contained slot slots found.0 found.1, found.2, found.3)
  ]

  pub has_where : (slots : List Slot) (slot : Slot) → Contains slots slot → test slot ≡ true → Contains (held_where test slots) slot.held
  has_where [] one there meets = absurd (nothing_contained one there)
  has_where (slot ∷ slots) one there meets = elim (cases_first slot slots one there) [
    | inl e ↦ cond_first (test slot) slot.held one.held (held_where test slots) (ap test (sym e) ∙ meets) (ap held_of e)
    | inr more ↦ cond_later (test slot) slot.held one.held (held_where test slots) (has_where slots one more meets)
  ]

  pub where_lies : (slots : List Slot) (h : Held) → Contains (held_where test slots) h → Contains (map held_of slots) h
  where_lies [] h there = there
  where_lies (slot ∷ slots) h there = elim (cond_cases (test slot) slot.held h (held_where test slots) there) [
    | inl first ↦ is_first h slot.held (map held_of slots) first.1
    | inr more ↦ later_is_contained slot.held (map held_of slots) h (where_lies slots h more)
  ]

  pub where_apart : (slots : List Slot) → AreApart (map held_of slots) → AreApart (held_where test slots)
  where_apart [] apart = tt
  where_apart (slot ∷ slots) apart = cond_apart (test slot) slot.held (held_where test slots) (λ there. apart.0 (where_lies slots slot.held there)) (where_apart slots apart.1)

  pub where_appended : (slots others : List Slot) → held_where test (slots ++ others) ≡ held_where test slots ++ held_where test others
  where_appended [] others = refl
  where_appended (slot ∷ slots) others =
      cond_appended (test slot) slot.held (held_where test slots) (held_where test others) (held_where test (slots ++ others)) (where_appended slots others)

-- ---- what was there before

pub before_switched : (on : Bool) (slots : List Slot) → before_in (map (switched on) slots) ≡ before_in slots
before_switched on [] = refl
before_switched on (slot ∷ slots) = ap (λ ps. (slot.held, slot.waited) ∷ ps) (before_switched on slots)

pub switched_one : (on : Bool) (slots : List Slot) (slot : Slot) → Contains (map (switched on) slots) slot → slot.waits ≡ (on && slot.waited)
switched_one on [] slot there = absurd (nothing_contained slot there)
switched_one on (one ∷ slots) slot there = elim (cases_first (switched on one) (map (switched on) slots) slot there) [
  | inl e ↦ ap (λ (s : Slot). s.waits) e ∙ ap (λ (s : Slot). on && s.waited) (sym e)
  | inr more ↦ switched_one on slots slot more
]

abbrev pub from_before : List (Held × Bool) → List Held
from_before [] = []
from_before (p ∷ ps) = cond p.1 (p.0 ∷ from_before ps) (from_before ps)

pub waited_from : (slots : List Slot) → waited_in slots ≡ from_before (before_in slots)
waited_from [] = refl
waited_from (slot ∷ slots) = ap (λ hs. cond slot.waited (slot.held ∷ hs) hs) (waited_from slots)

pub held_from : (slots : List Slot) → map held_of slots ≡ map (λ (p : Held × Bool). p.0) (before_in slots)
held_from [] = refl
held_from (slot ∷ slots) = ap (λ hs. slot.held ∷ hs) (held_from slots)

-- ---- settling

abbrev settled : Slot → Slot
settled slot = record { held = slot.held; waited = slot.waits; waits = slot.waits }

waits_first : (b : Bool) (h : Held) (slots : List Slot) (hs : List Held) → waiting_in slots ≡ hs → waiting_in (cond b (record { held = h; waited = b; waits = b } ∷ slots) slots) ≡ cond b (h ∷ hs) hs
waits_first true h slots hs e = ap (λ more. h ∷ more) e
waits_first false h slots hs e = e

pub settled_waits : (slots : List Slot) → waiting_in (left_settled slots) ≡ waiting_in slots
settled_waits [] = refl
settled_waits (slot ∷ slots) = waits_first slot.waits slot.held (left_settled slots) (waiting_in slots) (settled_waits slots)

pub settled_lies : (slots : List Slot) (one : Slot) → Contains (left_settled slots) one → IsSettled one × Contains (map held_of slots) one.held
settled_lies [] one there = absurd (nothing_contained one there)
settled_lies (slot ∷ slots) one there = elim (cond_cases slot.waits (settled slot) one (left_settled slots) there) [
  | inl first ↦ ((ap (λ (s : Slot). s.waited) first.1 ∙ first.0, ap (λ (s : Slot). s.waits) first.1 ∙ first.0), is_first one.held slot.held (map held_of slots) (ap held_of first.1))
  | inr more ↦ let found = settled_lies slots one more in (found.0, later_is_contained slot.held (map held_of slots) one.held found.1)
]

settled_held : (slots : List Slot) (h : Held) → Contains (map held_of (left_settled slots)) h → Contains (map held_of slots) h
settled_held slots h there =
    let one = mapped_back held_of (left_settled slots) h there in subst (Contains (map held_of slots)) one.2 (settled_lies slots one.0 one.1).1

pub settled_apart : (slots : List Slot) → AreApart (map held_of slots) → AreApart (map held_of (left_settled slots))
settled_apart [] apart = tt
settled_apart (slot ∷ slots) apart = subst AreApart (sym (map_cond held_of slot.waits (settled slot) (left_settled slots)))
    (cond_apart slot.waits slot.held (map held_of (left_settled slots)) (λ there. apart.0 (settled_held slots slot.held there)) (settled_apart slots apart.1))

-- each in turn, as a closure settles it
pub turned_settled : {S : Type 0} (R : S → Slot → Bool → S → Slot → Type 0) → ((s : S) (x : Slot) (b : Bool) (t : S) (y : Slot) → R s x b t y → (b ≡ x.waits) × (y ≡ settled x)) →
    (s : S) (xs ys : List Slot) → RetainsInTurn R s xs ys → ys ≡ left_settled xs
turned_settled R says s [] ys h = h
turned_settled R says s (x ∷ xs) ys h =
    let said = says s x h.0 h.1 h.2 h.3 in
    let rest = turned_settled R says h.1 xs h.4 h.5 in
    h.6 ∙ (λ i. cond (said.0 i) (said.1 i ∷ rest i) (rest i))

-- ---- one more

-- one that is there is switched on
abbrev pub on : Slot → Slot
on slot = record { held = slot.held; waited = slot.waited; waits = true }

on_held : (slots : List Slot) (place : ℕ) (slot : Slot) → slice_get slots place ≡ Some slot → map held_of (set slots place (on slot)) ≡ map held_of slots
on_held [] place slot at = refl
on_held (one ∷ slots) zero slot at = ap (λ (s : Slot). s.held ∷ map held_of slots) (sym (some_same at))
on_held (one ∷ slots) (suc place) slot at = ap (λ hs. one.held ∷ hs) (on_held slots place slot at)

on_waited : (slots : List Slot) (place : ℕ) (slot : Slot) → slice_get slots place ≡ Some slot → waited_in (set slots place (on slot)) ≡ waited_in slots
on_waited [] place slot at = refl
on_waited (one ∷ slots) zero slot at = ap (λ (s : Slot). cond s.waited (s.held ∷ waited_in slots) (waited_in slots)) (sym (some_same at))
on_waited (one ∷ slots) (suc place) slot at = ap (λ hs. cond one.waited (one.held ∷ hs) hs) (on_waited slots place slot at)

gains_cond : (b : Bool) (h : Held) (old new : List Held) (P : Held → Type 0) → Gains old new P → Gains (cond b (h ∷ old) old) (cond b (h ∷ new) new) P
gains_cond true h old new P g = λ x. (
  λ there. elim (cases_first h new x there) [
    | inl e ↦ inl (is_first x h old e)
    | inr more ↦ elim ((g x).0 more) [ inl before ↦ inl (later_is_contained h old x before) | inr p ↦ inr p ]
  ],
  λ there. elim there [
    | inl before ↦ elim (cases_first h old x before) [ inl e ↦ is_first x h new e | inr more ↦ later_is_contained h new x ((g x).1 (inl more)) ]
    | inr p ↦ later_is_contained h new x ((g x).1 (inr p))
  ],
)
gains_cond false h old new P g = g

gains_first : (b : Bool) (h : Held) (hs : List Held) → Gains (cond b (h ∷ hs) hs) (h ∷ hs) (λ x. x ≡ h)
gains_first true h hs = gains_old (h ∷ hs) h (first_is_contained h hs)
gains_first false h hs = λ x. (
  λ there. elim (cases_first h hs x there) [ inl e ↦ inr e | inr more ↦ inl more ],
  λ there. elim there [ inl more ↦ later_is_contained h hs x more | inr e ↦ is_first x h hs e ],
)

on_waits : (slots : List Slot) (place : ℕ) (slot : Slot) → slice_get slots place ≡ Some slot → Gains (waiting_in slots) (waiting_in (set slots place (on slot))) (λ h. h ≡ slot.held)
on_waits [] place slot at = absurd cc
on_waits (one ∷ slots) zero slot at =
    subst (λ (s : Slot). Gains (waiting_in (s ∷ slots)) (slot.held ∷ waiting_in slots) (λ h. h ≡ slot.held)) (sym (some_same at)) (gains_first slot.waits slot.held (waiting_in slots))
on_waits (one ∷ slots) (suc place) slot at = gains_cond one.waits one.held (waiting_in slots) (waiting_in (set slots place (on slot))) (λ h. h ≡ slot.held) (on_waits slots place slot at)

at_lies : (slots : List Slot) (place : ℕ) (slot : Slot) → slice_get slots place ≡ Some slot → Contains (map held_of slots) slot.held
at_lies [] place slot at = absurd cc
at_lies (one ∷ slots) zero slot at = is_first slot.held one.held (map held_of slots) (ap held_of (sym (some_same at)))
at_lies (one ∷ slots) (suc place) slot at = later_is_contained one.held (map held_of slots) slot.held (at_lies slots place slot at)

pub switched_on : (slots : List Slot) (place : ℕ) (slot : Slot) → slice_get slots place ≡ Some slot → IsAdded slot.held slots (set slots place (on slot))
switched_on slots place slot at = record {
  waited = on_waited slots place slot at;
  waits = on_waits slots place slot at;
  lies = subst (λ hs. Gains (map held_of slots) hs (λ h. h ≡ slot.held)) (sym (on_held slots place slot at)) (gains_old (map held_of slots) slot.held (at_lies slots place slot at));
  apart = subst AreApart (sym (on_held slots place slot at));
}

-- one that is new is put behind the others
abbrev pub fresh : Held → Slot
fresh held = record { held = held; waited = false; waits = true }

map_pushed : (slots : List Slot) (slot : Slot) → map held_of (slots ++ slot ∷ []) ≡ map held_of slots ++ slot.held ∷ []
map_pushed [] slot = refl
map_pushed (one ∷ slots) slot = ap (λ hs. one.held ∷ hs) (map_pushed slots slot)

nothing_more : (hs : List Held) → hs ++ [] ≡ hs
nothing_more [] = refl
nothing_more (h ∷ hs) = ap (λ more. h ∷ more) (nothing_more hs)

pub apart_appended : (hs others : List Held) → AreApart hs → AreApart others → ((h : Held) → Contains hs h → Contains others h → ⊥) → AreApart (hs ++ others)
apart_appended [] others apart more never = more
apart_appended (h ∷ hs) others apart more never = (
  λ there. elim (Contains-append_cases hs others h there) [ inl early ↦ apart.0 early | inr late ↦ never h (first_is_contained h hs) late ],
  apart_appended hs others apart.1 more (λ x early late. never x (later_is_contained h hs x early) late),
)

pub pushed : (slots : List Slot) (held : Held) → (Contains (map held_of slots) held → ⊥) → IsAdded held slots (slots ++ fresh held ∷ [])
pushed slots held new = record {
  waited = where_appended (λ slot. slot.waited) slots (fresh held ∷ []) ∙ nothing_more (waited_in slots);
  waits = subst (λ hs. Gains (waiting_in slots) hs (λ h. h ≡ held)) (sym (where_appended (λ slot. slot.waits) slots (fresh held ∷ []))) (gains_pushed (waiting_in slots) held);
  lies = subst (λ hs. Gains (map held_of slots) hs (λ h. h ≡ held)) (sym (map_pushed slots (fresh held))) (gains_pushed (map held_of slots) held);
  apart = λ apart. subst AreApart (sym (map_pushed slots (fresh held))) (apart_appended (map held_of slots) (held ∷ []) apart ((λ there. nothing_contained held there), tt)
      (λ h early late. elim (cases_first held [] h late) [ inl e ↦ new (subst (Contains (map held_of slots)) e early) | inr none ↦ nothing_contained h none ]));
}

pub got : (slots : List Slot) (place : ℕ) (slot d : Slot) → slice_get slots place ≡ Some slot → get_or slots place d ≡ slot
got [] place slot d at = absurd cc
got (one ∷ slots) zero slot d at = some_same at
got (one ∷ slots) (suc place) slot d at = got slots place slot d at
