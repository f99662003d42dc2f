-- One step after another: in the slots of a bucket, and from bucket to bucket.
use Rattle.std.proofs.Common.{ℕ, zero, suc, ◌≡◌, ◌∙◌, ◌<◌, ◌+◌, Bool, cond, List, [], ◌∷◌, ◌++◌, length, map, set, take, drop, get_or, refl, sym, ap, subst, arith, inl, inr}
use Rattle.std.specs.Prelude.{◌⊎◌, ◌↔◌, IsTrue, Contains, Some, None, slice_get}
use Rattle.std.specs.BTreeMap.{BTreeMap, get_by, is_at}
use Rattle.std.specs.List.Sorted.{IsStrictlySortedBy}
use Rattle.std.specs.Map.{keys_of, set_value}
use Rattle.std.specs.declared.alloc.Global.{Global}
use Rattle.std.specs.declared.vec.Vec.{Vec}
use Rattle.std.proofs.lemmas.List.{drop-set-lt, take_more_set}
use Rattle.lps_terms.specs.declared.atom.Atom.{Atom}
use Rattle.lps_terms.specs.declared.text.Text.{Text}
use Rattle.lps_meaning.specs.declared.node.Node.{Node}
use Rattle.lps_meaning.proofs.Numbers.{some_same}
use Rattle.lps_model.proofs.Elements.{first_is_contained, later_is_contained}
use Rattle.lps_watch.specs.Orders.{wake_cmp}
use Rattle.lps_residual.specs.declared.waking.Wake.{Wake}
use Rattle.lps_antecedents.specs.declared.gathered.Gathered.{Gathered}
use Rattle.lps_antecedents.specs.declared.held.Held.{Held}
use Rattle.lps_antecedents.specs.declared.slot.Slot.{Slot}
use Rattle.lps_antecedents.specs.Advancing.{AreStepped, BySome, IsSteppedIn, LiesInSome}
use Rattle.lps_antecedents.specs.Buckets.{ChangesOnly, LiesIn, kept, slots_of, waiting}
use Rattle.lps_antecedents.specs.Gathered.{IsLeftFor}
use Rattle.lps_antecedents.specs.Lists.{ByOne, Gains}
use Rattle.lps_antecedents.specs.Slots.{before_in, held_of, waiting_in}
use Rattle.lps_antecedents.proofs.Focus.{Focus, none_at}
use Rattle.lps_antecedents.proofs.Gaining.{all_had, at_place, by_first, more_had, one_step, some_first, some_nothing}
use Rattle.lps_antecedents.proofs.Lists.{rest_from}
use Rattle.lps_antecedents.proofs.Lying.{lies_old, lies_slot, one_changes, slot_lies}
use Rattle.lps_antecedents.proofs.Maps.{found_focus, no_slots, slots_in_focus}
use Rattle.lps_antecedents.proofs.Middles.{among_all, among_one, beside_middle, cases_middle, in_middle, mapped, mapped_back}
use Rattle.lps_antecedents.proofs.Slots.{where_appended, where_has}

-- ---- lists that are the same from a place on

module _ {X : Type 0} where
  next_left : (ys : List X) (i : ℕ) (x : X) (zs : List X) → drop i ys ≡ x ∷ zs → drop (suc i) ys ≡ zs
  next_left [] zero x zs is = absurd cc
  next_left [] (suc i) x zs is = absurd cc
  next_left (y ∷ ys) zero x zs is = cc is
  next_left (y ∷ ys) (suc i) x zs is = next_left ys i x zs is

  left_lies : (ys : List X) (i : ℕ) (x : X) (zs : List X) → drop i ys ≡ x ∷ zs → Contains ys x
  left_lies [] zero x zs is = absurd cc
  left_lies [] (suc i) x zs is = absurd cc
  left_lies (y ∷ ys) zero x zs is = subst (λ xs. Contains xs x) (sym is) (first_is_contained x zs)
  left_lies (y ∷ ys) (suc i) x zs is = later_is_contained y ys x (left_lies ys i x zs is)

  module _ (xs ys : List X) (i : ℕ) (x : X) (same : drop i xs ≡ drop i ys) (lt : i < length xs) (is : x ≡ get_or xs i x) where
    pub also_next : drop (i + 1) xs ≡ drop (i + 1) ys
    also_next =
        let from = sym same ∙ rest_from xs i x lt is in
        let next : suc i ≡ i + 1 = omega arith in
        sym (subst (λ n. drop n ys ≡ drop (i + 1) xs) next (next_left ys i x (drop (i + 1) xs) from))

    pub rest_same : drop i ys ≡ x ∷ drop (i + 1) ys
    rest_same = sym same ∙ rest_from xs i x lt is ∙ ap (λ zs. x ∷ zs) also_next

    pub lies_same : Contains ys x
    lies_same = left_lies ys i x (drop (i + 1) ys) rest_same

-- what is at a place is one, whatever stands for a place past the end
pub same_item : {X : Type 0} (xs : List X) (i : ℕ) (x y : X) → i < length xs → x ≡ get_or xs i x → y ≡ get_or xs i y → x ≡ y
same_item xs i x y lt is also = some_same (sym (at_place xs i x lt is) ∙ at_place xs i y lt also)

-- ---- one slot

-- it waits, or not
abbrev pub turn : Bool → Slot → Slot
turn waits slot = record { held = slot.held; waited = slot.waited; waits = waits }

before_set : (slots : List Slot) (place : ℕ) (slot : Slot) (waits : Bool) → slice_get slots place ≡ Some slot → before_in (set slots place (turn waits slot)) ≡ before_in slots
before_set [] place slot waits at = refl
before_set (one ∷ slots) zero slot waits at = ap (λ (s : Slot). (s.held, s.waited) ∷ before_in slots) (sym (some_same at))
before_set (one ∷ slots) (suc place) slot waits at = ap (λ ps. (one.held, one.waited) ∷ ps) (before_set slots place slot waits at)

module _ (slots : List Slot) (place : ℕ) (slot : Slot) (waits : Bool) (lt : place < length slots) (is : slot ≡ get_or slots place slot) where
  pub turned_before : before_in (set slots place (turn waits slot)) ≡ before_in slots
  turned_before = before_set slots place slot waits (at_place slots place slot lt is)

  pub turned_left : drop (place + 1) (set slots place (turn waits slot)) ≡ drop (place + 1) slots
  turned_left = drop-set-lt (place + 1) slots place (turn waits slot) (omega arith)

  pub turned_waiting : waiting_in (take (place + 1) (set slots place (turn waits slot))) ≡ waiting_in (take place slots) ++ cond waits (slot.held ∷ []) []
  turned_waiting = ap waiting_in (take_more_set slots place (turn waits slot) lt) ∙ where_appended (λ s. s.waits) (take place slots) (turn waits slot ∷ [])

-- what is had of those so far, once one more has gone on
module _ (old slots : List Slot) (place : ℕ) (slot : Slot) (waits : Bool) (lt : place < length slots) (is : slot ≡ get_or slots place slot) (same : drop place slots ≡ drop place old)
    (nodes others : List Node) (takes : (x : Node) → Contains nodes x ↔ (Contains others x ⊎ (IsTrue waits × (x ≡ slot.held.node)))) (before after : List Held) (gains : Gains before after (IsLeftFor slot.held.rule others))
    (goes : Held → Held → Type 0) (go : (o : Held) → IsLeftFor slot.held.rule nodes o ↔ goes slot.held o) (All : Held → Type 0)
    (all : (o : Held) → ((Contains before o ⊎ Contains (waiting_in (take place slots)) o) ⊎ ByOne (map held_of (drop place old)) goes o) ↔ All o) where
  grown : (o : Held) → (Contains after o ⊎ Contains (waiting_in (take (place + 1) (set slots place (turn waits slot)))) o) ↔ ((Contains before o ⊎ Contains (waiting_in (take place slots)) o) ⊎ goes slot.held o)
  grown o =
      let step = one_step slot.held nodes others waits takes before after (waiting_in (take place slots)) (waiting_in (take (place + 1) (set slots place (turn waits slot)))) gains
      (turned_waiting slots place slot waits lt is) o in (
        λ there. elim (step.0 there) [ inl had ↦ inl had | inr left ↦ inr ((go o).0 left) ],
        λ sides. elim sides [ inl had ↦ step.1 (inl had) | inr on ↦ step.1 (inr ((go o).1 on)) ],
      )

  pub goes_one_more : (o : Held) → ((Contains after o ⊎ Contains (waiting_in (take (place + 1) (set slots place (turn waits slot)))) o) ⊎ ByOne (map held_of (drop (place + 1) old)) goes o) ↔ All o
  goes_one_more = more_had (λ o. Contains before o ⊎ Contains (waiting_in (take place slots)) o) (λ o. Contains after o ⊎ Contains (waiting_in (take (place + 1) (set slots place (turn waits slot)))) o)
      (goes slot.held) (λ o. ByOne (map held_of (drop place old)) goes o) (λ o. ByOne (map held_of (drop (place + 1) old)) goes o) All grown
      (λ o. subst (λ ss. ByOne (map held_of ss) goes o ↔ (goes slot.held o ⊎ ByOne (map held_of (drop (place + 1) old)) goes o)) (sym (rest_same slots old place slot same lt is))
      (by_first goes slot.held (map held_of (drop (place + 1) old)) o)) all

pub ends_one_more : {K : Type 0} (old slots : List Slot) (place : ℕ) (slot : Slot) → place < length slots → slot ≡ get_or slots place slot → drop place slots ≡ drop place old →
    (before after : List K) (ends : Held → K → Type 0) → Gains before after (ends slot.held) → (All : K → Type 0) → ((key : K) → (Contains before key ⊎ ByOne (map held_of (drop place old)) ends key) ↔ All key) →
    (key : K) → (Contains after key ⊎ ByOne (map held_of (drop (place + 1) old)) ends key) ↔ All key
ends_one_more old slots place slot lt is same before after ends gains All all =
    more_had (Contains before) (Contains after) (ends slot.held) (λ key. ByOne (map held_of (drop place old)) ends key) (λ key. ByOne (map held_of (drop (place + 1) old)) ends key) All gains
    (λ key. subst (λ ss. ByOne (map held_of ss) ends key ↔ (ends slot.held key ⊎ ByOne (map held_of (drop (place + 1) old)) ends key)) (sym (rest_same slots old place slot same lt is))
    (by_first ends slot.held (map held_of (drop (place + 1) old)) key)) all

-- ---- one bucket

abbrev waits_in : Wake × List Slot → List Held
waits_in b = waiting_in b.1

module _ (front back : List (Wake × List Slot)) (wake : Wake) (slots : List Slot) where
  waiting_apart : (o : Held) → Contains (waiting (front ++ (wake, slots) ∷ back)) o ↔ (Contains (waiting (front ++ back)) o ⊎ Contains (waiting_in slots) o)
  waiting_apart o = (
    λ there. let b = among_one waits_in (front ++ (wake, slots) ∷ back) o there in elim (cases_middle front back (wake, slots) b.0 b.1) [
      | inl beside ↦ inl (among_all waits_in (front ++ back) b.0 o beside b.2)
      | inr e ↦ inr (subst (λ c. Contains (waits_in c) o) e b.2)
    ],
    λ sides. elim sides [
      | inl beside ↦ let b = among_one waits_in (front ++ back) o beside in among_all waits_in (front ++ (wake, slots) ∷ back) b.0 o (beside_middle front back (wake, slots) b.0 b.1) b.2
      | inr here ↦ among_all waits_in (front ++ (wake, slots) ∷ back) (wake, slots) o (in_middle front back (wake, slots)) here
    ],
  )

module _ (wake : Wake) (m : BTreeMap Wake (Vec Slot Global)) (v : Vec Slot Global) (there : get_by (wake_cmp wake) m ≡ Some v) (sorted : IsStrictlySortedBy wake_cmp (keys_of (slots_of m))) where
  abbrev f : Focus wake (slots_of m) v.items
  f = found_focus wake m v there sorted

  slot_there : (slot : Slot) → Contains v.items slot → LiesIn (slots_of m) wake slot
  slot_there slot among = ((wake, v.items), subst (λ bs. Contains bs (wake, v.items)) (sym f.whole) (in_middle f.front f.back (wake, v.items)), refl, among)

  pub held_there : (h : Held) → Contains (map held_of v.items) h → LiesIn (kept (slots_of m)) wake h
  held_there h among = let slot = mapped_back held_of v.items h among in subst (LiesIn (kept (slots_of m)) wake) slot.2 (slot_lies (slots_of m) wake slot.0 (slot_there slot.0 slot.1))

  there_held : (h : Held) → LiesIn (kept (slots_of m)) wake h → Contains (map held_of v.items) h
  there_held h lies = let slot = lies_slot (slots_of m) wake h lies in
      subst (Contains (map held_of v.items)) slot.2 (mapped held_of v.items slot.0 (lies_old wake (slots_of m) sorted v.items v.items f slot.0 slot.1))

  module _ (n : BTreeMap Wake (Vec Slot Global)) (w : Vec Slot Global) (written : n.entries ≡ set_value (is_at (wake_cmp wake)) m.entries w) where
    new : slots_of n ≡ f.front ++ (wake, w.items) ∷ f.back
    new = slots_in_focus wake m n v w there written sorted

    pub changes_there : before_in w.items ≡ before_in v.items → ChangesOnly (wake ∷ []) (slots_of m) (slots_of n)
    changes_there same = subst (ChangesOnly (wake ∷ []) (slots_of m)) (sym new) (one_changes wake (slots_of m) sorted v.items w.items f same)

    pub stepped_there : (text : Text) (time : ℕ) (facts events : List Atom) (from to : Gathered) → AreStepped text time facts events v.items w.items from to →
        IsSteppedIn text time facts events wake (slots_of m) (slots_of n) from to
    stepped_there text time facts events from to stepped off level levels trace now at state happen waits =
        let both = stepped level levels trace now at state happen (λ h among. waits h (held_there h among)) in (
          (λ o. (
            λ sides. elim sides [
              | inl among ↦ elim ((both.0 o).0 (inl among)) [ inl before ↦ inl (inl before) | inr on ↦ inr (on.0, held_there on.0 on.1, on.2) ]
              | inr waits_now ↦ elim ((waiting_apart f.front f.back wake w.items o).0 (subst (λ bs. Contains (waiting bs) o) new waits_now)) [
                | inl beside ↦ inl (inr (subst (λ bs. Contains (waiting bs) o) (sym f.whole) ((waiting_apart f.front f.back wake v.items o).1 (inl beside))))
                | inr here ↦ elim ((both.0 o).0 (inr here)) [ inl before ↦ inl (inl before) | inr on ↦ inr (on.0, held_there on.0 on.1, on.2) ]
              ]
            ],
            λ sides. elim sides [
              | inl before ↦ elim before [
                | inl among ↦ to_now o ((both.0 o).1 (inl among))
                | inr waited ↦ elim ((waiting_apart f.front f.back wake v.items o).0 (subst (λ bs. Contains (waiting bs) o) f.whole waited)) [
                  | inl beside ↦ inr (subst (λ bs. Contains (waiting bs) o) (sym new) ((waiting_apart f.front f.back wake w.items o).1 (inl beside)))
                  | inr here ↦ let slot = where_has (λ s. s.waits) v.items o here in
                      let gone = off wake slot.0 (first_is_contained wake []) (slot_there slot.0 slot.1) in let is = slot.2 in absurd cc
                ]
              ]
              | inr on ↦ to_now o ((both.0 o).1 (inr (on.0, there_held on.0 on.1, on.2)))
            ],
          )),
          (λ key. (
            λ among. elim ((both.1 key).0 among) [ inl before ↦ inl before | inr end ↦ inr (end.0, held_there end.0 end.1, end.2) ],
            λ sides. elim sides [ inl before ↦ (both.1 key).1 (inl before) | inr end ↦ (both.1 key).1 (inr (end.0, there_held end.0 end.1, end.2)) ],
          )),
        )
      where
        to_now : (o : Held) → Contains to.held.items o ⊎ Contains (waiting_in w.items) o → Contains to.held.items o ⊎ Contains (waiting (slots_of n)) o
        to_now o sides = elim sides [
          | inl among ↦ inl among
          | inr here ↦ inr (subst (λ bs. Contains (waiting bs) o) (sym new) ((waiting_apart f.front f.back wake w.items o).1 (inr here)))
        ]

-- where there is no bucket, nothing is added
pub stepped_nowhere : (wake : Wake) (m n : BTreeMap Wake (Vec Slot Global)) → get_by (wake_cmp wake) m ≡ None → n ≡ m → (text : Text) (time : ℕ) (facts events : List Atom) (g : Gathered) →
    IsSteppedIn text time facts events wake (slots_of m) (slots_of n) g g
stepped_nowhere wake m n none same text time facts events g off level levels trace now at state happen waits = (
  (λ o. (
    λ sides. elim sides [ inl among ↦ inl (inl among) | inr there ↦ inl (inr (subst (λ k. Contains (waiting (slots_of k)) o) same there)) ],
    λ sides. elim sides [
      | inl before ↦ elim before [ inl among ↦ inl among | inr there ↦ inr (subst (λ k. Contains (waiting (slots_of k)) o) (sym same) there) ]
      | inr on ↦ absurd (nowhere on.0 on.1)
    ],
  )),
  (λ key. (λ among. inl among, λ sides. elim sides [ inl among ↦ among | inr end ↦ absurd (nowhere end.0 end.1) ])),
)
  where
    nowhere : (h : Held) → LiesIn (kept (slots_of m)) wake h → ⊥
    nowhere h lies = let slot = lies_slot (slots_of m) wake h lies in none_at wake (slots_of m) (no_slots wake m none) slot.1.0 slot.1.1 slot.1.2

-- ---- from bucket to bucket

module _ {X : Type 0} (old middle : List (Wake × List Held)) (same : middle ≡ old) (R : Held → X → Type 0) where
  pub some_more : (wake : Wake) (wakes later : List Wake) → wakes ≡ wake ∷ later → (Had Has All : X → Type 0) → ((x : X) → Has x ↔ (Had x ⊎ BySome (LiesIn middle wake) R x)) →
      ((x : X) → (Had x ⊎ BySome (LiesInSome wakes old) R x) ↔ All x) → (x : X) → (Has x ⊎ BySome (LiesInSome later old) R x) ↔ All x
  some_more wake wakes later is Had Has All gains all =
      more_had Had Has (λ x. BySome (LiesIn old wake) R x) (λ x. BySome (LiesInSome wakes old) R x) (λ x. BySome (LiesInSome later old) R x) All
      (λ x. subst (λ bs. Has x ↔ (Had x ⊎ BySome (LiesIn bs wake) R x)) same (gains x))
      (λ x. subst (λ ws. BySome (LiesInSome ws old) R x ↔ (BySome (LiesIn old wake) R x ⊎ BySome (LiesInSome later old) R x)) (sym is) (some_first old R wake later x)) all

pub some_had : {X : Type 0} (old : List (Wake × List Held)) (R : Held → X → Type 0) (wakes : List Wake) → wakes ≡ [] → (Has All : X → Type 0) →
    ((x : X) → (Has x ⊎ BySome (LiesInSome wakes old) R x) ↔ All x) → (x : X) → Has x ↔ All x
some_had old R wakes none Has All all =
    all_had Has (λ x. BySome (LiesInSome wakes old) R x) All (λ x some. some_nothing old R x (subst (λ ws. BySome (LiesInSome ws old) R x) none some)) all
