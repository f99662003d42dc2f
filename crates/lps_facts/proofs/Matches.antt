-- Matching a pattern with a value: variables, constants, functions and their arguments.
use Rattle.std.proofs.Common.{◌≡◌, ℕ, zero, suc, ◌+◌, ◌<◌, Bool, true, false, cond, List, [], ◌∷◌, Some, None, length, map, get_or, arith, refl, sym, ap, ◌∙◌, below_more}
use Rattle.std.specs.Prelude.{is_some, not, unwrap_or}
use Rattle.std.specs.Bool.{Decides}
use Rattle.std.specs.BTreeMap.{BTreeMap, get, is_at}
use Rattle.std.specs.Cmp.{Equal-is}
use Rattle.std.specs.FinMap.{nat_cmp-IsAntisymmetric}
use Rattle.std.specs.Ordering.{nat_cmp}
use Rattle.lps_terms.specs.declared.atom.Atom.{Atom}
use Rattle.lps_terms.specs.declared.term.Term.{Term}
use Rattle.lps_terms.specs.declared.term.Term.TheVariants as t
use Rattle.lps_terms.specs.Order.{name_of, args_of, args_of-App, is_function, name_eq, term_eq}
use Rattle.lps_terms.specs.OrderLaws.{name_eq-decides, term_eq-decides}
use Rattle.lps_terms.specs.Put.{put, put-App, put-Var}
use Rattle.lps_facts.specs.Matching.{IsInstance, Agrees, MatchesOn, MatchesAllOn, MatchesFirst}
use Rattle.lps_facts.proofs.Sets.{true_not_false}

-- ---- constants

-- a pattern without variables
pub fixed_match : (pattern value : Term) → ((s : ℕ → Term) → put s pattern ≡ pattern) → (known : BTreeMap ℕ Term) → MatchesOn (term_eq pattern value) known known pattern value
fixed_match pattern value fixed known = by (term_eq pattern value) refl
  where
    by : (same : Bool) → term_eq pattern value ≡ same → MatchesOn same known known pattern value
    by true e = λ s. (λ agrees. (agrees, fixed s ∙ (term_eq-decides pattern value).0 e), λ both. both.0)
    by false e = λ s agrees is. true_not_false (sym ((term_eq-decides pattern value).1 (sym (fixed s) ∙ is)) ∙ e)

-- ---- variables

pub known_match : (v : ℕ) (value is : Term) (known : BTreeMap ℕ Term) → get nat_cmp known v ≡ Some is → MatchesOn (term_eq is value) known known (t.Var v) value
known_match v value is known found = by (term_eq is value) refl
  where
    by : (same : Bool) → term_eq is value ≡ same → MatchesOn same known known (t.Var v) value
    by true e = λ s. (λ agrees. (agrees, put-Var s v ∙ agrees v is found ∙ (term_eq-decides is value).0 e), λ both. both.0)
    by false e = λ s agrees at. true_not_false (sym ((term_eq-decides is value).1 (sym (agrees v is found) ∙ sym (put-Var s v) ∙ at)) ∙ e)

tied_numbers : (v w : ℕ) → is_at (nat_cmp v) w ≡ true → v ≡ w
tied_numbers v w e = nat_cmp-IsAntisymmetric v w ((Equal-is (nat_cmp v w)).0 e)

same_value : (x y : Term) → Some x ≡ Some y → x ≡ y
same_value x y e = ap (λ o. unwrap_or o x) e

none_some : (x : Term) → None ≡ Some x → ⊥
none_some x e = true_not_false (sym (ap is_some e))

pub new_match : (v : ℕ) (value : Term) (known new : BTreeMap ℕ Term) → get nat_cmp known v ≡ None →
    ((w : ℕ) → get nat_cmp new w ≡ cond (is_at (nat_cmp v) w) (Some value) (get nat_cmp known w)) → get nat_cmp new v ≡ Some value → MatchesOn true known new (t.Var v) value
new_match v value known new absent written at s =
    (λ agrees. ((λ w x found. before agrees w x found (is_at (nat_cmp v) w) refl), put-Var s v ∙ agrees v value at), λ both w x found. after both w x found (is_at (nat_cmp v) w) refl)
  where
    before : Agrees new s → (w : ℕ) (x : Term) → get nat_cmp known w ≡ Some x → (tied : Bool) → is_at (nat_cmp v) w ≡ tied → s w ≡ x
    before agrees w x found true e = absurd (none_some x (sym absent ∙ ap (get nat_cmp known) (tied_numbers v w e) ∙ found))
    before agrees w x found false e = agrees w x (written w ∙ ap (λ b. cond b (Some value) (get nat_cmp known w)) e ∙ found)

    after : (Agrees known s × (put s (t.Var v) ≡ value)) → (w : ℕ) (x : Term) → get nat_cmp new w ≡ Some x → (tied : Bool) → is_at (nat_cmp v) w ≡ tied → s w ≡ x
    after both w x found true e =
        ap s (sym (tied_numbers v w e)) ∙ sym (put-Var s v) ∙ both.1
        ∙ same_value value x (sym (ap (λ b. cond b (Some value) (get nat_cmp known w)) e) ∙ sym (written w) ∙ found)
    after both w x found false e = both.0 w x (sym (ap (λ b. cond b (Some value) (get nat_cmp known w)) e) ∙ sym (written w) ∙ found)

-- ---- functions

same_names : (n m : List ℕ) (ps xs : List Term) → t.App n ps ≡ t.App m xs → n ≡ m
same_names n m ps xs e = ap name_of e

same_args : (n m : List ℕ) (ps xs : List Term) → t.App n ps ≡ t.App m xs → ps ≡ xs
same_args n m ps xs e = sym (args_of-App n ps) ∙ ap args_of e ∙ args_of-App m xs

-- names that no test tells apart
pub named_same : (n m : List ℕ) → false ≡ not (name_eq n m) → n ≡ m
named_same n m e = by (name_eq n m) refl
  where
    by : (same : Bool) → name_eq n m ≡ same → n ≡ m
    by true tied = (name_eq-decides n m).0 tied
    by false tied = absurd (true_not_false (sym (e ∙ ap not tied)))

pub name_clash : (n m : List ℕ) (ps xs : List Term) → (n ≡ m → ⊥) → (known new : BTreeMap ℕ Term) → MatchesOn false known new (t.App n ps) (t.App m xs)
name_clash n m ps xs differ known new s agrees e = differ (same_names n m (map (put s) ps) xs (sym (put-App s n ps) ∙ e))

map_length : (f : Term → Term) (ps : List Term) → length (map f ps) ≡ length ps
map_length f [] = refl
map_length f (p ∷ ps) = ap suc (map_length f ps)

pub count_clash : (n m : List ℕ) (ps xs : List Term) → (length ps ≡ length xs → ⊥) → (known new : BTreeMap ℕ Term) → MatchesOn false known new (t.App n ps) (t.App m xs)
count_clash n m ps xs differ known new s agrees e =
    differ (sym (map_length (put s) ps) ∙ ap length (same_args n m (map (put s) ps) xs (sym (put-App s n ps) ∙ e)))

-- a function against what is none
pub form_clash : (n : List ℕ) (ps : List Term) (value : Term) → is_function value ≡ 0 → (known new : BTreeMap ℕ Term) → MatchesOn false known new (t.App n ps) value
form_clash n ps value none known new s agrees e =
    let one : 1 ≡ 0 = ap is_function (sym (put-App s n ps) ∙ e) ∙ none in omega (arith, one)

pub args_match : (found : Bool) (n m : List ℕ) (ps xs : List Term) → n ≡ m → (known new : BTreeMap ℕ Term) → MatchesAllOn found known new ps xs → MatchesOn found known new (t.App n ps) (t.App m xs)
args_match true n m ps xs same known new all = λ s. (
  λ agrees. let both = (all s).0 agrees in (both.0, put-App s n ps ∙ (λ i. t.App (same i) (both.1 i))),
  λ both. (all s).1 (both.0, same_args n m (map (put s) ps) xs (sym (put-App s n ps) ∙ both.1)),
)
args_match false n m ps xs same known new all = λ s agrees e. all s agrees (same_args n m (map (put s) ps) xs (sym (put-App s n ps) ∙ e))

-- ---- arguments

item_of_map : (f : Term → Term) (ps : List Term) (k : ℕ) (d : Term) → k < length ps → f (get_or ps k d) ≡ get_or (map f ps) k d
item_of_map f [] k d lt = absurd (omega arith)
item_of_map f (p ∷ ps) zero d lt = refl
item_of_map f (p ∷ ps) (suc k) d lt = item_of_map f ps k d (omega arith)

items_make_map : (f : Term → Term) (ps xs : List Term) → length ps ≡ length xs → ((k : ℕ) → k < length ps → (d : Term) → f (get_or ps k d) ≡ get_or xs k d) → map f ps ≡ xs
items_make_map f [] [] count each = refl
items_make_map f [] (x ∷ xs) count each = absurd (omega (arith, count))
items_make_map f (p ∷ ps) [] count each = absurd (omega (arith, count))
items_make_map f (p ∷ ps) (x ∷ xs) count each =
    let first : f p ≡ x = each 0 (omega arith) x in
    let rest : map f ps ≡ xs = items_make_map f ps xs (omega (arith, count)) (λ k lt d. each (suc k) (omega arith) d) in
    λ i. first i ∷ rest i

any_default : (xs : List Term) (k : ℕ) (d e : Term) → k < length xs → get_or xs k d ≡ get_or xs k e
any_default [] k d e lt = absurd (omega arith)
any_default (x ∷ xs) zero d e lt = refl
any_default (x ∷ xs) (suc k) d e lt = any_default xs k d e (omega arith)

pub first_start : (known : BTreeMap ℕ Term) (ps xs : List Term) → MatchesFirst 0 known known ps xs
first_start known ps xs s = (λ agrees. (agrees, λ k lt d. absurd (omega arith)), λ both. both.0)

module _ (old mid new : BTreeMap ℕ Term) (ps xs : List Term) (i : ℕ) (p x : Term) (count : length ps ≡ length xs) (lt : i < length ps) (p_is : p ≡ get_or ps i p)
    (x_is : x ≡ get_or xs i x) (first : MatchesFirst i old mid ps xs) where
  -- what the item at i says
  at_item : (s : ℕ → Term) → put s p ≡ x → (d : Term) → put s (get_or ps i d) ≡ get_or xs i d
  at_item s is d = ap (put s) (any_default ps i d p lt ∙ sym p_is) ∙ is ∙ x_is ∙ any_default xs i x d (omega (arith, count))

  item_at : (s : ℕ → Term) → ((d : Term) → put s (get_or ps i d) ≡ get_or xs i d) → put s p ≡ x
  item_at s is = ap (put s) (p_is ∙ any_default ps i p x lt) ∙ is x ∙ sym x_is

  pub first_more : MatchesOn true mid new p x → MatchesFirst (i + 1) old new ps xs
  first_more one s = (
    λ agrees.
        let both = (one s).0 agrees in
        let earlier = (first s).0 both.0 in
        (earlier.0, below_more (λ k. (d : Term) → put s (get_or ps k d) ≡ get_or xs k d) i earlier.1 (at_item s both.1)),
    λ both. (one s).1 ((first s).1 (both.0, λ k below d. both.1 k (omega arith) d), item_at s (both.1 i (omega arith))),
  )

  pub first_fails : MatchesOn false mid new p x → MatchesAllOn false old new ps xs
  first_fails one s agrees all =
      let each : (k : ℕ) → k < length ps → (d : Term) → put s (get_or ps k d) ≡ get_or xs k d = λ k below d. item_of_map (put s) ps k d below ∙ ap (λ (ys : List Term). get_or ys k d) all in
      one s ((first s).1 (agrees, λ k below d. each k (omega (arith, below, lt)) d)) (item_at s (each i lt))

pub first_whole : (old new : BTreeMap ℕ Term) (ps xs : List Term) → length ps ≡ length xs → MatchesFirst (length ps) old new ps xs → MatchesAllOn true old new ps xs
first_whole old new ps xs count first s = (
  λ agrees. let both = (first s).0 agrees in (both.0, items_make_map (put s) ps xs count both.1),
  λ both. (first s).1 (both.0, λ k below d. item_of_map (put s) ps k d below ∙ ap (λ (ys : List Term). get_or ys k d) both.1),
)

-- ---- atoms

-- what is known, and else the variable itself
abbrev chosen : BTreeMap ℕ Term → ℕ → Term
chosen known v = unwrap_or (get nat_cmp known v) (t.Var v)

chosen_agrees : (known : BTreeMap ℕ Term) → Agrees known (chosen known)
chosen_agrees known v x found = ap (λ o. unwrap_or o (t.Var v)) found

instance_found : (pattern fact : Atom) (old new : BTreeMap ℕ Term) → pattern.name ≡ fact.name → MatchesAllOn true old new pattern.args fact.args → IsInstance pattern fact
instance_found pattern fact old new same all =
    let args = ((all (chosen new)).0 (chosen_agrees new)).1 in (chosen new, λ i. record { name = same i; args = args i })

instance_missed : (pattern fact : Atom) (old new : BTreeMap ℕ Term) → ((v : ℕ) → get nat_cmp old v ≡ None) → MatchesAllOn false old new pattern.args fact.args → IsInstance pattern fact → ⊥
instance_missed pattern fact old new nothing all instance =
    all instance.0 (λ v x found. absurd (none_some x (sym (nothing v) ∙ found))) (ap (λ (a : Atom). a.args) instance.1)

pub instance_decided : (found : Bool) (pattern fact : Atom) (old new : BTreeMap ℕ Term) → pattern.name ≡ fact.name → ((v : ℕ) → get nat_cmp old v ≡ None) →
    MatchesAllOn found old new pattern.args fact.args → Decides found (IsInstance pattern fact)
instance_decided true pattern fact old new same nothing all = (λ e. instance_found pattern fact old new same all, λ instance. refl)
instance_decided false pattern fact old new same nothing all = (λ e. absurd (true_not_false (sym e)), λ instance. absurd (instance_missed pattern fact old new nothing all instance))
