-- In a sequence that is in order each span that begins a step ends at a time that is new there.
use Rattle.std.proofs.Common.{ℕ, Bool, true, false, ◌≡◌, List, [], ◌∷◌, ◌++◌, ◌∙◌, refl, sym, ap, subst, arith}
use Rattle.std.specs.Prelude.{◌&&◌, ◌||◌, ◌==◌, if◌then◌else◌, not, Option, Some, None}
use Rattle.std.specs.List.{AllByRecursion}
use Rattle.std.proofs.lemmas.Bool.{and_parts}
use Rattle.std.proofs.lemmas.Bool.Decides.{nat_tests}
use Rattle.lps_terms.specs.declared.item.Item.{Item}
use Rattle.lps_terms.specs.declared.item.Item.TheVariants as i
use Rattle.lps_terms.specs.declared.text.Text.{Text}
use Rattle.lps_model.specs.Order.{happens, are_grouped, joins, with_first, parts, Step, step_of, step_before, steps_in, steps, occurs, may_begin, may_end, follow}
use Rattle.lps_model.specs.Rules.{kind_of}
use Rattle.lps_meaning.specs.Sequences.{joins_to}
use Rattle.lps_meaning.proofs.Occurrences.{all_front, all_behind, all_joined}

false_true : false ≡ true → ⊥
false_true e = cc

-- x is none of these
abbrev pub IsNone : {X : Type 0} → X → List X → Type 0
IsNone x ys = AllByRecursion (λ y. x ≡ y → ⊥) ys

-- the times of a step
abbrev pub step_times : Item → List ℕ
step_times (i.At l time) = time.0 ∷ []
step_times (i.Span a from to) = from.0 ∷ to.0 ∷ []
step_times _ = []

-- a span ends at none of these times, nor when it begins
abbrev pub EndsFresh : List ℕ → Item → Type 0
EndsFresh seen (i.Span a from to) = IsNone to.0 (from.0 ∷ seen)
EndsFresh seen _ = Unit {0}

-- each span that begins a step ends at a time that is none of these and of those before it
abbrev pub AreFresh : Text → List ℕ → Option Item → List Item → Type 0
AreFresh text seen before [] = Unit {0}
AreFresh text seen before (item ∷ items) = (joins_to text before item ≡ false → EndsFresh seen item) × AreFresh text (step_times item ++ seen) (Some item) items

-- other times, of which one is none where it is none of these
pub fresh_weaker : (text : Text) (items : List Item) (before : Option Item) (seen others : List ℕ) → ((v : ℕ) → IsNone v seen → IsNone v others) → AreFresh text seen before items →
    AreFresh text others before items
fresh_weaker text [] before seen others sub h = tt
fresh_weaker text (item ∷ items) before seen others sub h = (
  (λ no. ends_weaker item (h.0 no)),
  fresh_weaker text items (Some item) (step_times item ++ seen) (step_times item ++ others)
      (λ v no. all_joined (λ y. v ≡ y → ⊥) (step_times item) others (all_front (λ y. v ≡ y → ⊥) (step_times item) seen no) (sub v (all_behind (λ y. v ≡ y → ⊥) (step_times item) seen no))) h.1,
)
  where
    ends_weaker : (it : Item) → EndsFresh seen it → EndsFresh others it
    ends_weaker (i.Span a from to) h = (h.0, sub to.0 h.1)
    ends_weaker (i.At l time) h = tt
    ends_weaker (i.Bare l) h = tt
    ends_weaker (i.Built c) h = tt
    ends_weaker (i.Con con) h = tt

module _ (text : Text) where
  -- the steps of items, each item by itself or with the group before it
  abbrev steps_from : Option Item → List Item → List Step
  steps_from before [] = []
  steps_from before (item ∷ items) = if joins_to text before item then steps_from (Some item) items else step_before (step_of item) (steps_from (Some item) items)

  -- ---- steps are those of the parts

  same_number : (n m : ℕ) → (n == m) ≡ true → n ≡ m
  same_number n m e = grind (arith, nat_tests)

  -- grouped items have the same times
  grouped_times : (x y : Item) → are_grouped (kind_of text) x y ≡ true → step_of x ≡ step_of y
  grouped_times (i.Span a from to) (i.Span b from' to') e =
      let later = (and_parts (happens (kind_of text a.name)) (happens (kind_of text b.name) && (from.0 == from'.0 && to.0 == to'.0)) e).1 in
      let times = and_parts (from.0 == from'.0) (to.0 == to'.0) (and_parts (happens (kind_of text b.name)) (from.0 == from'.0 && to.0 == to'.0) later).1 in
      λ j. Some (record { begin = same_number from.0 from'.0 times.0 j; end = same_number to.0 to'.0 times.1 j; has_end = true })
  grouped_times (i.Span a from to) (i.At l time) e = absurd (false_true e)
  grouped_times (i.Span a from to) (i.Bare l) e = absurd (false_true e)
  grouped_times (i.Span a from to) (i.Built c) e = absurd (false_true e)
  grouped_times (i.Span a from to) (i.Con con) e = absurd (false_true e)
  grouped_times (i.At l time) y e = absurd (false_true e)
  grouped_times (i.Bare l) y e = absurd (false_true e)
  grouped_times (i.Built c) y e = absurd (false_true e)
  grouped_times (i.Con con) y e = absurd (false_true e)

  -- the first part of a sequence begins with its first item
  opened : (grouped : Bool) (item : Item) (more : List (List Item)) → (part : List Item) × (later : List (List Item)) × ((if grouped then with_first item more else (item ∷ []) ∷ more) ≡ (item ∷ part) ∷ later)
  opened false item more = ([], more, refl)
  opened true item [] = ([], [], refl)
  opened true item (part ∷ more) = (part, more, refl)

  behind_same : (step : Option Step) (xs ys : List Step) → step_before step xs ≡ step_before step ys → xs ≡ ys
  behind_same None xs ys e = e
  behind_same (Some step) xs ys e = ap (tail_of) e
    where
      tail_of : List Step → List Step
      tail_of [] = []
      tail_of (x ∷ rest) = rest

  -- what stands behind an item does not depend on one that it is not grouped with
  same_from : (item : Item) (items : List Item) → joins (kind_of text) item items ≡ false → steps_from (Some item) items ≡ steps_from None items
  same_from item [] e = refl
  same_from item (next ∷ items) e = ap (λ grouped. if grouped then steps_from (Some next) items else step_before (step_of next) (steps_from (Some next) items)) e

  steps_are : (items : List Item) → steps (kind_of text) items ≡ steps_from None items
  steps_are [] = refl
  steps_are (item ∷ items) = by (steps_are items) (joins (kind_of text) item items) refl items refl
    where
      by : steps (kind_of text) items ≡ steps_from None items → (grouped : Bool) → joins (kind_of text) item items ≡ grouped → (rest : List Item) → items ≡ rest →
          steps_in (if grouped then with_first item (parts (kind_of text) items) else (item ∷ []) ∷ parts (kind_of text) items) ≡ step_before (step_of item) (steps_from (Some item) items)
      by later false e rest same = ap (step_before (step_of item)) (later ∙ sym (same_from item items e))
      by later true e [] same = absurd (false_true (sym (ap (joins (kind_of text) item) same) ∙ e))
      by later true e (next ∷ rest) same =
          let grouped : are_grouped (kind_of text) item next ≡ true = sym (ap (joins (kind_of text) item) same) ∙ e in
          let first = opened (joins (kind_of text) next rest) next (parts (kind_of text) rest) in
          let parted : parts (kind_of text) items ≡ (next ∷ first.0) ∷ first.1 = ap (parts (kind_of text)) same ∙ first.2 in
          let behind : steps_in first.1 ≡ steps_from (Some next) rest =
          behind_same (step_of next) (steps_in first.1) (steps_from (Some next) rest) (sym (ap steps_in parted) ∙ later ∙ ap (steps_from None) same) in
          let onward : steps_from (Some item) items ≡ steps_from (Some next) rest =
          ap (steps_from (Some item)) same ∙ ap (λ g. if g then steps_from (Some next) rest else step_before (step_of next) (steps_from (Some next) rest)) grouped in
          ap (λ ps. steps_in (with_first item ps)) parted ∙ ap (step_before (step_of item)) (behind ∙ sym onward)

  -- ---- ends are new

  -- what is not among the first times is none of the others
  abbrev Covers : List ℕ → List ℕ → Type 0
  Covers seen others = (v : ℕ) → occurs v seen ≡ false → IsNone v others

  neither : (a b : Bool) → (a || b) ≡ false → (a ≡ false) × (b ≡ false)
  neither true b e = absurd (false_true (sym e))
  neither false b e = (refl, e)

  differ : (n m : ℕ) → (n == m) ≡ false → m ≡ n → ⊥
  differ n m e same = false_true (sym e ∙ ap (λ k. n == k) same ∙ (grind (arith, nat_tests)))

  abbrev times_before : Option Item → List ℕ
  times_before None = []
  times_before (Some item) = step_times item

  times_grouped : (x y : Item) → are_grouped (kind_of text) x y ≡ true → step_times x ≡ step_times y
  times_grouped (i.Span a from to) (i.Span b from' to') e =
      let later = (and_parts (happens (kind_of text a.name)) (happens (kind_of text b.name) && (from.0 == from'.0 && to.0 == to'.0)) e).1 in
      let times = and_parts (from.0 == from'.0) (to.0 == to'.0) (and_parts (happens (kind_of text b.name)) (from.0 == from'.0 && to.0 == to'.0) later).1 in
      λ j. same_number from.0 from'.0 times.0 j ∷ same_number to.0 to'.0 times.1 j ∷ []
  times_grouped (i.Span a from to) (i.At l time) e = absurd (false_true e)
  times_grouped (i.Span a from to) (i.Bare l) e = absurd (false_true e)
  times_grouped (i.Span a from to) (i.Built c) e = absurd (false_true e)
  times_grouped (i.Span a from to) (i.Con con) e = absurd (false_true e)
  times_grouped (i.At l time) y e = absurd (false_true e)
  times_grouped (i.Bare l) y e = absurd (false_true e)
  times_grouped (i.Built c) y e = absurd (false_true e)
  times_grouped (i.Con con) y e = absurd (false_true e)

  joined_times : (before : Option Item) (item : Item) → joins_to text before item ≡ true → times_before before ≡ step_times item
  joined_times None item e = absurd (false_true e)
  joined_times (Some before) item e = times_grouped before item e

  not_true : (b : Bool) → not b ≡ true → b ≡ false
  not_true true e = absurd (false_true e)
  not_true false e = refl

  -- what holds of the items behind an item
  abbrev Later : Item → List Item → Type 0
  Later item items =
      (seen others : List ℕ) (end : Option ℕ) → follow seen end (steps_from (Some item) items) ≡ true → Covers seen others → Covers seen (step_times item) → AreFresh text others (Some item) items

  abbrev Ahead : Option Item → Item → List Item → List ℕ → Type 0
  Ahead before item items others = (joins_to text before item ≡ false → EndsFresh others item) × AreFresh text (step_times item ++ others) (Some item) items

  -- an item that begins a step
  alone : (before : Option Item) (item : Item) (items : List Item) (seen others : List ℕ) (end : Option ℕ) → Later item items →
      follow seen end (step_before (step_of item) (steps_from (Some item) items)) ≡ true → Covers seen others → Ahead before item items others
  alone before (i.At l time) items seen others end later e covers =
      let first = and_parts (may_begin seen end time.0) _ e in
      let second = and_parts (may_end seen (record { begin = time.0; end = time.0; has_end = false })) _ first.1 in
      let apart : (v : ℕ) → occurs v (time.0 ∷ time.0 ∷ seen) ≡ false → (v ≡ time.0 → ⊥) × (occurs v seen ≡ false) = λ v none.
      let one = neither (time.0 == v) (occurs v (time.0 ∷ seen)) none in (differ time.0 v one.0, (neither (time.0 == v) (occurs v seen) one.1).1) in
      ((λ no. tt), later (time.0 ∷ time.0 ∷ seen) (time.0 ∷ others) (Some time.0) second.1 (λ v none. let d = apart v none in (d.0, covers v d.1)) (λ v none. ((apart v none).0, tt)))
  alone before (i.Span a from to) items seen others end later e covers =
      let first = and_parts (may_begin seen end from.0) _ e in
      let second = and_parts (may_end seen (record { begin = from.0; end = to.0; has_end = true })) _ first.1 in
      let ends = and_parts (not (occurs to.0 seen)) (not (from.0 == to.0)) second.0 in
      let apart : (v : ℕ) → occurs v (to.0 ∷ from.0 ∷ seen) ≡ false → (v ≡ to.0 → ⊥) × (v ≡ from.0 → ⊥) × (occurs v seen ≡ false) = λ v none.
      let one = neither (to.0 == v) (occurs v (from.0 ∷ seen)) none in
      let two = neither (from.0 == v) (occurs v seen) one.1 in (differ to.0 v one.0, differ from.0 v two.0, two.1) in (
        (λ no. (differ from.0 to.0 (not_true (from.0 == to.0) ends.1), covers to.0 (not_true (occurs to.0 seen) ends.0))),
        later (to.0 ∷ from.0 ∷ seen) (from.0 ∷ to.0 ∷ others) (Some to.0) second.1 (λ v none. let d = apart v none in (d.1, (d.0, covers v d.2))) (λ v none. let d = apart v none in (d.1, (d.0, tt))),
      )
  alone before (i.Bare l) items seen others end later e covers = ((λ no. tt), later seen others end e covers (λ v none. tt))
  alone before (i.Built c) items seen others end later e covers = ((λ no. tt), later seen others end e covers (λ v none. tt))
  alone before (i.Con con) items seen others end later e covers = ((λ no. tt), later seen others end e covers (λ v none. tt))

  fresh_from : (items : List Item) (before : Option Item) (seen others : List ℕ) (end : Option ℕ) → follow seen end (steps_from before items) ≡ true →
      Covers seen others → Covers seen (times_before before) → AreFresh text others before items
  fresh_from [] before seen others end e covers known = tt
  fresh_from (item ∷ items) before seen others end e covers known = by (fresh_from items (Some item)) (joins_to text before item) refl e
    where
      by : Later item items → (grouped : Bool) → joins_to text before item ≡ grouped →
          follow seen end (if grouped then steps_from (Some item) items else step_before (step_of item) (steps_from (Some item) items)) ≡ true → AreFresh text others before (item ∷ items)
      by later true is h =
          let same = joined_times before item is in
          let here : Covers seen (step_times item) = λ v none. subst (IsNone v) same (known v none) in
          ((λ no. absurd (false_true (sym no ∙ is))), later seen (step_times item ++ others) end h (λ v none. all_joined (λ y. v ≡ y → ⊥) (step_times item) others (here v none) (covers v none)) here)
      by later false is h = alone before item items seen others end later h covers

  none_of : (v : ℕ) (seen : List ℕ) → occurs v seen ≡ false → IsNone v seen
  none_of v [] e = tt
  none_of v (x ∷ seen) e = let d = neither (x == v) (occurs v seen) e in (differ x v d.0, none_of v seen d.1)

  -- the ends of the steps of items that are in order, where these times were seen
  pub fresh : (items : List Item) (seen : List ℕ) (end : Option ℕ) → follow seen end (steps (kind_of text) items) ≡ true → AreFresh text seen None items
  fresh items seen end e = fresh_from items None seen seen end (subst (λ ss. follow seen end ss ≡ true) (steps_are items) e) (λ v none. none_of v seen none) (λ v none. tt)
