-- Where the facts lie that begin as a pattern does: none below the least atom that begins so, none behind the first
-- that does not, and all instances among them.
use Rattle.std.proofs.Common.{◌≡◌, ℕ, zero, suc, Bool, true, false, cond, List, [], ◌∷◌, ◌++◌, length, map, arith, refl, sym, ap, subst, ◌∙◌, inl, inr}
use Rattle.std.specs.Prelude.{◌&&◌, ◌||◌, if◌then◌else◌}
use Rattle.std.specs.List.{AllByRecursion, filter, list_all}
use Rattle.std.specs.List.Sorted.{IsStrictlySortedBy}
use Rattle.std.specs.BTreeMap.Range.{range_contains}
use Rattle.std.specs.declared.ops.Bound.TheVariants.{Included, Unbounded}
use Rattle.std.specs.Map.{keys_of}
use Rattle.std.specs.Ordering.{nat_cmp, ordering_then, ordering_reverse, is_eq, is_le, is_gt}
use Rattle.std.specs.declared.cmp.Ordering.{Ordering}
use Rattle.std.specs.declared.cmp.Ordering.TheVariants.{Less, Equal, Greater}
use Rattle.std.specs.Cmp.{IsTotalOrder, nat_cmp_is, tied_itself}
use Rattle.std.specs.Cmp.Lexicographic.{slice_cmp}
use Rattle.std.specs.FinMap.{IsAntisymmetric, nat_cmp-IsAntisymmetric}
use Rattle.std.proofs.lemmas.Cmp.{nat_cmp_total}
use Rattle.std.proofs.lemmas.Map.Keys.{sorted_head, sorted_tail}
use Rattle.lps_terms.specs.declared.atom.Atom.{Atom}
use Rattle.lps_terms.specs.declared.term.Term.{Term}
use Rattle.lps_terms.specs.declared.term.Term.TheVariants as t
use Rattle.lps_terms.specs.Forms.{term_ind}
use Rattle.lps_terms.specs.Order.{atom_cmp, atom_eq, name_cmp, term_cmp, term_eq}
use Rattle.lps_terms.specs.OrderLaws.{name_cmp_total, name_cmp-IsAntisymmetric, term_cmp_total, term_cmp-IsAntisymmetric, term_cmp-ranks, term_cmp-Var, atom_eq-decides, term_eq-decides}
use Rattle.lps_terms.specs.Put.{put, put_atom, put-Int, put-Sym, put-App}
use Rattle.lps_facts.specs.Beginning.{BeginsAs, begin_alike, is_fixed, is_fixed-App, is_fixed-Var, least_atom, least_of}
use Rattle.lps_facts.specs.Facts.{is_among}
use Rattle.lps_facts.specs.Matching.{IsInstance, IsSelection}
use Rattle.lps_facts.specs.Trail.{present}
use Rattle.lps_facts.proofs.Selections.{Continues}
use Rattle.lps_facts.proofs.Sets.{AreAbove, atom_eq-refl, true_not_false}

-- ---- instances begin as the pattern does

and_both : (a b : Bool) → (a && b) ≡ true → (a ≡ true) × (b ≡ true)
and_both true b e = (refl, e)
and_both false b e = absurd (true_not_false (sym e))

-- terms without variables stay as they are
fixed_stays : (s : ℕ → Term) (x : Term) → is_fixed x ≡ true → put s x ≡ x
fixed_stays s = term_ind (λ x. is_fixed x ≡ true → put s x ≡ x) (λ z e. put-Int s z) (λ n e. put-Sym s n)
    (λ n ts each e. put-App s n ts ∙ ap (t.App n) (all ts each (sym (is_fixed-App n ts) ∙ e)))
    (λ v e. absurd (true_not_false (sym e ∙ is_fixed-Var v)))
  where
    all : (ts : List Term) → AllByRecursion (λ x. is_fixed x ≡ true → put s x ≡ x) ts → list_all is_fixed ts ≡ true → map (put s) ts ≡ ts
    all [] each e = refl
    all (x ∷ xs) each e =
        let both = and_both (is_fixed x) (list_all is_fixed xs) e in
        λ i. each.0 both.0 i ∷ all xs each.1 both.1 i

terms_stay : (s : ℕ → Term) (ts : List Term) → list_all is_fixed ts ≡ true → map (put s) ts ≡ ts
terms_stay s [] e = refl
terms_stay s (x ∷ xs) e =
    let both = and_both (is_fixed x) (list_all is_fixed xs) e in
    λ i. fixed_stays s x both.0 i ∷ terms_stay s xs both.1 i

term_eq-refl : (x : Term) → term_eq x x ≡ true
term_eq-refl x = (term_eq-decides x x).1 refl

alike_instance : (s : ℕ → Term) (xs : List Term) → begin_alike xs (map (put s) xs) ≡ true
alike_instance s [] = refl
alike_instance s (x ∷ xs) = by (alike_instance s xs) (is_fixed x) refl
  where
    by : begin_alike xs (map (put s) xs) ≡ true → (fixed : Bool) → is_fixed x ≡ fixed → cond fixed (term_eq x (put s x) && begin_alike xs (map (put s) xs)) true ≡ true
    by rest true e = (λ i. (ap (term_eq x) (fixed_stays s x e) ∙ term_eq-refl x) i && begin_alike xs (map (put s) xs)) ∙ rest
    by rest false e = refl

map_length : (f : Term → Term) (xs : List Term) → length (map f xs) ≡ length xs
map_length f [] = refl
map_length f (x ∷ xs) = ap suc (map_length f xs)

pub instance_begins : (pattern fact : Atom) → IsInstance pattern fact → BeginsAs pattern fact
instance_begins pattern fact instance =
    subst (BeginsAs pattern) instance.1 (refl, sym (map_length (put instance.0) pattern.args), alike_instance instance.0 pattern.args)

-- ---- what begins so is not below the least that does

-- the parts of an order that is no descent
le_then : (r s : Ordering) → is_gt (ordering_then r s) ≡ false → (is_gt r ≡ false) × (r ≡ Equal → is_gt s ≡ false)
le_then Less s e = (refl, λ h. absurd cc)
le_then Equal s e = (refl, λ h. e)
le_then Greater s e = absurd (true_not_false e)

then_le : (r s : Ordering) → is_gt r ≡ false → is_gt s ≡ false → is_gt (ordering_then r s) ≡ false
then_le Less s a b = refl
then_le Equal s a b = b
then_le Greater s a b = a

least_term : (y : Term) → is_gt (term_cmp (t.Var 0) y) ≡ false
least_term = term_ind (λ y. is_gt (term_cmp (t.Var 0) y) ≡ false)
    (λ z. ap is_gt (term_cmp-ranks (t.Var 0) (t.Int z) (omega arith))) (λ n. ap is_gt (term_cmp-ranks (t.Var 0) (t.Sym n) (omega arith)))
    (λ n ts each. ap is_gt (term_cmp-ranks (t.Var 0) (t.App n ts) (omega arith))) (λ v. ap is_gt (term_cmp-Var 0 v) ∙ number v)
  where
    number : (v : ℕ) → is_gt (nat_cmp 0 v) ≡ false
    number zero = refl
    number (suc v) = ap is_gt (sym (nat_cmp_is 0 (suc v) Less (omega arith)))

length_least : (fixed : Bool) (xs : List Term) → length (least_of fixed xs) ≡ length xs
length_least fixed [] = refl
length_least fixed (x ∷ xs) = ap suc (length_least (fixed && is_fixed x) xs)

all_least : (xs ys : List Term) → length xs ≡ length ys → is_gt (slice_cmp term_cmp (least_of false xs) ys) ≡ false
all_least [] [] count = refl
all_least [] (y ∷ ys) count = refl
all_least (x ∷ xs) [] count = absurd (omega (arith, count))
all_least (x ∷ xs) (y ∷ ys) count = then_le _ _ (least_term y) (all_least xs ys (omega (arith, count)))

alike_above : (xs ys : List Term) → length xs ≡ length ys → begin_alike xs ys ≡ true → is_gt (slice_cmp term_cmp (least_of true xs) ys) ≡ false
alike_above [] [] count alike = refl
alike_above [] (y ∷ ys) count alike = refl
alike_above (x ∷ xs) [] count alike = absurd (omega (arith, count))
alike_above (x ∷ xs) (y ∷ ys) count alike = by (alike_above xs ys (omega (arith, count))) (is_fixed x) alike
  where
    by : (begin_alike xs ys ≡ true → is_gt (slice_cmp term_cmp (least_of true xs) ys) ≡ false) → (fixed : Bool) → cond fixed (term_eq x y && begin_alike xs ys) true ≡ true → is_gt (ordering_then (term_cmp (cond fixed x (t.Var 0)) y) (slice_cmp term_cmp (least_of fixed xs) ys)) ≡ false
    by rest true e =
        let both = and_both (term_eq x y) (begin_alike xs ys) e in
        let same : term_cmp x y ≡ Equal = ap (term_cmp x) (sym ((term_eq-decides x y).0 both.0)) ∙ tied_itself term_cmp_total x in
        then_le _ _ (ap is_gt same) (rest both.1)
    by rest false e = then_le _ _ (least_term y) (all_least xs ys (omega (arith, count)))

tied_le : (r : Ordering) → r ≡ Equal → is_gt r ≡ false
tied_le r e = ap is_gt e

pub beginning_above : (pattern fact : Atom) → BeginsAs pattern fact → is_gt (atom_cmp (least_atom pattern) fact) ≡ false
beginning_above pattern fact begins =
    then_le _ _ (ap is_gt (ap (name_cmp pattern.name) (sym begins.0) ∙ tied_itself name_cmp_total pattern.name))
    (then_le _ _ (ap is_gt (ap (nat_cmp (length (least_of true pattern.args))) (sym begins.1 ∙ sym (length_least true pattern.args)) ∙ tied_itself nat_cmp_total (length (least_of true pattern.args))))
    (alike_above pattern.args fact.args begins.1 begins.2))

-- ---- between two that begin so all do

-- what is neither below nor above another
squeezed : {X : Type 0} {R : X → X → Ordering} → IsTotalOrder R → IsAntisymmetric R → (x y : X) → is_gt (R x y) ≡ false → is_gt (R y x) ≡ false → x ≡ y
squeezed {X} {R} total same x y up down = by (R x y) refl up
  where
    by : (r : Ordering) → R x y ≡ r → is_gt r ≡ false → x ≡ y
    by Less e h = absurd (true_not_false (sym (ap is_gt (total.antisymm y x ∙ ap ordering_reverse e)) ∙ down))
    by Equal e h = same x y e
    by Greater e h = absurd (true_not_false h)

alike_between : (xs ys zs : List Term) → length xs ≡ length ys → length xs ≡ length zs → is_gt (slice_cmp term_cmp (least_of true xs) ys) ≡ false →
    is_gt (slice_cmp term_cmp ys zs) ≡ false → begin_alike xs zs ≡ true → begin_alike xs ys ≡ true
alike_between [] ys zs count counts low high alike = refl
alike_between (x ∷ xs) [] zs count counts low high alike = absurd (omega (arith, count))
alike_between (x ∷ xs) (y ∷ ys) [] count counts low high alike = absurd (omega (arith, counts))
alike_between (x ∷ xs) (y ∷ ys) (z ∷ zs) count counts low high alike =
    by (alike_between xs ys zs (omega (arith, count)) (omega (arith, counts))) (is_fixed x) low alike
  where
    by : (is_gt (slice_cmp term_cmp (least_of true xs) ys) ≡ false → is_gt (slice_cmp term_cmp ys zs) ≡ false → begin_alike xs zs ≡ true → begin_alike xs ys ≡ true) →
        (fixed : Bool) → is_gt (ordering_then (term_cmp (cond fixed x (t.Var 0)) y) (slice_cmp term_cmp (least_of fixed xs) ys)) ≡ false →
        cond fixed (term_eq x z && begin_alike xs zs) true ≡ true → cond fixed (term_eq x y && begin_alike xs ys) true ≡ true
    by rest true above e =
        let both = and_both (term_eq x z) (begin_alike xs zs) e in
        let first = le_then _ _ above in
        let second = le_then _ _ high in
        let below : is_gt (term_cmp y x) ≡ false = ap (λ (w : Term). is_gt (term_cmp y w)) ((term_eq-decides x z).0 both.0) ∙ second.0 in
        let same : x ≡ y = squeezed term_cmp_total term_cmp-IsAntisymmetric x y first.0 below in
        let level : term_cmp x y ≡ Equal = ap (term_cmp x) (sym same) ∙ tied_itself term_cmp_total x in
        let onward : term_cmp y z ≡ Equal = ap (λ (w : Term). term_cmp w z) (sym same) ∙ ap (term_cmp x) (sym ((term_eq-decides x z).0 both.0)) ∙ tied_itself term_cmp_total x in
        (λ i. (term_eq-decides x y).1 same i && begin_alike xs ys)
        ∙ rest (first.1 level) (second.1 onward) both.1
    by rest false above e = refl

pub beginning_between : (pattern y z : Atom) → is_gt (atom_cmp (least_atom pattern) y) ≡ false → is_gt (atom_cmp y z) ≡ false → BeginsAs pattern z → BeginsAs pattern y
beginning_between pattern y z low high begins =
    let low_name = le_then (name_cmp pattern.name y.name) _ low in
    let high_name = le_then (name_cmp y.name z.name) _ high in
    let down_name : is_gt (name_cmp y.name pattern.name) ≡ false = ap (λ (n : List ℕ). is_gt (name_cmp y.name n)) begins.0 ∙ high_name.0 in
    let name : pattern.name ≡ y.name = squeezed name_cmp_total name_cmp-IsAntisymmetric pattern.name y.name low_name.0 down_name in
    let low_name_tied : name_cmp pattern.name y.name ≡ Equal = ap (name_cmp pattern.name) (sym name) ∙ tied_itself name_cmp_total pattern.name in
    let high_name_tied : name_cmp y.name z.name ≡ Equal = ap (name_cmp y.name) (sym begins.0 ∙ name) ∙ tied_itself name_cmp_total y.name in
    let low_count = le_then (nat_cmp (length (least_of true pattern.args)) (length y.args)) _ (low_name.1 low_name_tied) in
    let high_count = le_then (nat_cmp (length y.args) (length z.args)) _ (high_name.1 high_name_tied) in
    let down_count : is_gt (nat_cmp (length y.args) (length (least_of true pattern.args))) ≡ false =
    ap (λ n. is_gt (nat_cmp (length y.args) n)) (length_least true pattern.args ∙ begins.1) ∙ high_count.0 in
    let least_count : length (least_of true pattern.args) ≡ length y.args = squeezed nat_cmp_total nat_cmp-IsAntisymmetric _ _ low_count.0 down_count in
    let count : length pattern.args ≡ length y.args = sym (length_least true pattern.args) ∙ least_count in
    let low_count_tied : nat_cmp (length (least_of true pattern.args)) (length y.args) ≡ Equal = ap (nat_cmp (length (least_of true pattern.args))) (sym least_count) ∙ tied_itself nat_cmp_total (length (least_of true pattern.args)) in
    let high_count_tied : nat_cmp (length y.args) (length z.args) ≡ Equal = ap (nat_cmp (length y.args)) (sym begins.1 ∙ count) ∙ tied_itself nat_cmp_total (length y.args) in
    (name, count, alike_between pattern.args y.args z.args count begins.1 (low_count.1 low_count_tied) (high_count.1 high_count_tied) begins.2)

-- ---- the entries from the least on

-- whether an entry is not below the least atom that begins as the pattern does
abbrev pub is_kept : Atom → Atom × Bool → Bool
is_kept pattern entry = range_contains atom_cmp (Included (least_atom pattern)) Unbounded entry.0

-- no entry has an instance
abbrev pub HaveNone : Atom → List (Atom × Bool) → Type 0
HaveNone pattern entries = AllByRecursion (λ (entry : Atom × Bool). IsInstance pattern entry.0 → ⊥) entries

-- behind an entry that does not begin as the pattern does there are no instances
abbrev pub LieTogether : Atom → List (Atom × Bool) → Type 0
LieTogether pattern [] = Unit {0}
LieTogether pattern (entry ∷ entries) = ((BeginsAs pattern entry.0 → ⊥) → HaveNone pattern (entry ∷ entries)) × LieTogether pattern entries

module _ (pattern : Atom) where
  abbrev P : Atom → Type 0
  P = IsInstance pattern

  none_among : (entries : List (Atom × Bool)) → HaveNone pattern entries → IsSelection P (present entries) []
  none_among [] none = refl
  none_among (entry ∷ entries) none = by (none_among entries none.1) entry.1
    where
      by : IsSelection P (present entries) [] → (here : Bool) → IsSelection P (cond here (entry.0 ∷ present entries) (present entries)) []
      by rest true = inr (none.0, rest)
      by rest false = rest

  -- the first that is left does not begin so
  pub continues_past : (whole selected : List Atom) (entries : List (Atom × Bool)) (entry : Atom × Bool) → LieTogether pattern (entry ∷ entries) →
      (BeginsAs pattern entry.0 → ⊥) → Continues P whole (present (entry ∷ entries)) selected → Continues P whole [] selected
  continues_past whole selected entries entry together other before rest is =
      subst (λ (xs : List Atom). IsSelection P whole (selected ++ xs)) (sym is) (before [] (none_among (entry ∷ entries) (together.0 other)))

  -- what is left out below the least has no instance
  pub continues_kept : (entries : List (Atom × Bool)) → Continues P (present entries) (present (filter (is_kept pattern) entries)) []
  continues_kept [] rest is = is
  continues_kept (entry ∷ entries) rest is = by (continues_kept entries) (is_kept pattern entry) refl entry.1 rest is
    where
      low : is_kept pattern entry ≡ false → P entry.0 → ⊥
      low e instance = by_cmp (atom_cmp (least_atom pattern) entry.0) e (beginning_above pattern entry.0 (instance_begins pattern entry.0 instance))
        where
          by_cmp : (r : Ordering) → (is_le r && true) ≡ false → is_gt r ≡ false → ⊥
          by_cmp Less a b = true_not_false a
          by_cmp Equal a b = true_not_false a
          by_cmp Greater a b = true_not_false b

      by : Continues P (present entries) (present (filter (is_kept pattern) entries)) [] → (kept : Bool) → is_kept pattern entry ≡ kept → (here : Bool) (rest : List Atom) →
          IsSelection P (present (cond kept ((entry.0, here) ∷ filter (is_kept pattern) entries) (filter (is_kept pattern) entries))) rest →
          IsSelection P (cond here (entry.0 ∷ present entries) (present entries)) rest
      by more true e true rest (inl meets) = inl (meets.0, (meets.1.0, meets.1.1, more meets.1.0 meets.1.2))
      by more true e true rest (inr misses) = inr (misses.0, more rest misses.1)
      by more true e false rest is = more rest is
      by more false e true rest is = inr (low e, more rest is)
      by more false e false rest is = more rest is

  kept_above : (e : Atom × Bool) → is_kept pattern e ≡ true → is_gt (atom_cmp (least_atom pattern) e.0) ≡ false
  kept_above e kept = by (atom_cmp (least_atom pattern) e.0) kept
    where
      by : (r : Ordering) → (is_le r && true) ≡ true → is_gt r ≡ false
      by Less h = refl
      by Equal h = refl
      by Greater h = absurd (true_not_false (sym h))

  none_behind : (entry : Atom × Bool) (entries : List (Atom × Bool)) → AllByRecursion (λ y. atom_cmp entry.0 y ≡ Less) (keys_of entries) → is_kept pattern entry ≡ true →
      (BeginsAs pattern entry.0 → ⊥) → HaveNone pattern (filter (is_kept pattern) entries)
  none_behind entry [] above kept other = tt
  none_behind entry (next ∷ entries) above kept other = by (none_behind entry entries above.1 kept other) (is_kept pattern next)
    where
      none : P next.0 → ⊥
      none instance = other (beginning_between pattern entry.0 next.0 (kept_above entry kept) (ap is_gt above.0) (instance_begins pattern next.0 instance))

      by : HaveNone pattern (filter (is_kept pattern) entries) → (stays : Bool) → HaveNone pattern (cond stays (next ∷ filter (is_kept pattern) entries) (filter (is_kept pattern) entries))
      by rest true = (none, rest)
      by rest false = rest

  pub kept_together : (entries : List (Atom × Bool)) → IsStrictlySortedBy atom_cmp (keys_of entries) → LieTogether pattern (filter (is_kept pattern) entries)
  kept_together [] sorted = tt
  kept_together (entry ∷ entries) sorted = by (kept_together entries (sorted_tail atom_cmp entry.0 (keys_of entries) sorted)) (is_kept pattern entry) refl
    where
      by : LieTogether pattern (filter (is_kept pattern) entries) → (kept : Bool) → is_kept pattern entry ≡ kept → LieTogether pattern (cond kept (entry ∷ filter (is_kept pattern) entries) (filter (is_kept pattern) entries))
      by rest true e = (
        (λ other. (
          (λ instance. other (instance_begins pattern entry.0 instance)),
          none_behind entry entries (sorted_head atom_cmp entry.0 (keys_of entries) sorted) e other,
        )),
        rest,
      )
      by rest false e = rest

-- ---- a pattern without variables

module _ (pattern : Atom) (fixed : list_all is_fixed pattern.args ≡ true) where
  stays : (s : ℕ → Term) → put_atom s pattern ≡ pattern
  stays s = λ i. record { name = pattern.name; args = terms_stay s pattern.args fixed i }

  only_itself : (fact : Atom) → IsInstance pattern fact → pattern ≡ fact
  only_itself fact instance = sym (stays instance.0) ∙ instance.1

  none_after : (xs : List Atom) → AreAbove pattern xs → IsSelection (IsInstance pattern) xs []
  none_after [] above = refl
  none_after (x ∷ xs) above = inr (
    (λ instance. true_not_false (sym (atom_eq-refl pattern) ∙ ap (atom_eq pattern) (only_itself x instance) ∙ ap is_eq above.0)),
    none_after xs above.1,
  )

  -- its one instance is itself
  pub selected_one : (xs : List Atom) → IsStrictlySortedBy atom_cmp xs → IsSelection (IsInstance pattern) xs (if is_among xs pattern then pattern ∷ [] else [])
  selected_one [] sorted = refl
  selected_one (x ∷ xs) sorted = by (selected_one xs (sorted_tail atom_cmp x xs sorted)) (atom_eq pattern x) refl
    where
      by : IsSelection (IsInstance pattern) xs (if is_among xs pattern then pattern ∷ [] else []) → (tied : Bool) → atom_eq pattern x ≡ tied →
          IsSelection (IsInstance pattern) (x ∷ xs) (if tied || is_among xs pattern then pattern ∷ [] else [])
      by rest true e =
          let same : pattern ≡ x = (atom_eq-decides pattern x).0 e in
          inl ((λ v. t.Var v, stays (λ v. t.Var v) ∙ same), ([], ap (λ (y : Atom). y ∷ []) same, none_after xs (subst (λ (y : Atom). AreAbove y xs) (sym same) (sorted_head atom_cmp x xs sorted))))
      by rest false e = inr ((λ instance. true_not_false (sym ((atom_eq-decides pattern x).1 (only_itself x instance)) ∙ e)), rest)
