-- The bucket of a wake, set apart from the others.
use Rattle.std.proofs.Common.{◌≡◌, ◌∙◌, Bool, true, false, cond, List, [], ◌∷◌, ◌++◌, map, refl, sym, ap, inl, inr}
use Rattle.std.specs.Prelude.{Contains, Option, Some, None, is_some}
use Rattle.std.specs.declared.cmp.Ordering.{Ordering}
use Rattle.std.specs.declared.cmp.Ordering.TheVariants.{Less, Equal, Greater}
use Rattle.std.specs.BTreeMap.{insert_entry, is_at}
use Rattle.std.specs.List.Sorted.{IsStrictlySortedBy}
use Rattle.std.specs.Map.{keys_of, lookup, remove_entry, set_value}
use Rattle.std.specs.Ordering.{is_eq, match_ordering}
use Rattle.std.proofs.lemmas.Cmp.{tied_itself}
use Rattle.std.proofs.lemmas.Map.Keys.{sorted_head, sorted_tail}
use Rattle.lps_meaning.proofs.Lists.{of_element}
use Rattle.lps_meaning.proofs.Numbers.{some_same}
use Rattle.lps_model.proofs.Elements.{nothing_contained}
use Rattle.lps_watch.specs.Orders.{wake_cmp}
use Rattle.lps_watch.proofs.Orders.{wake_cmp_total, wake_exact}
use Rattle.lps_residual.specs.declared.waking.Wake.{Wake}
use Rattle.lps_antecedents.proofs.Middles.{cases_first, mapped}

equal_at : (o : Ordering) → is_eq o ≡ true → o ≡ Equal
equal_at Less e = absurd cc
equal_at Equal e = refl
equal_at Greater e = absurd cc

pub same_at : (wake key : Wake) → is_at (wake_cmp wake) key ≡ true → key ≡ wake
same_at wake key e = sym (wake_exact wake key (equal_at (wake_cmp wake key) e))

pub at_itself : (wake : Wake) → is_at (wake_cmp wake) wake ≡ true
at_itself wake = ap is_eq (tied_itself wake_cmp_total wake)

pub below_itself : (wake key : Wake) → wake_cmp wake key ≡ Less → key ≡ wake → ⊥
below_itself wake key less same =
    let tied : wake_cmp wake key ≡ Equal = ap (wake_cmp wake) same ∙ tied_itself wake_cmp_total wake in cc (less, tied)

-- the bucket of a wake, with those before it and those behind it
pub record Focus {X : Type 0} (wake : Wake) (buckets : List (Wake × X)) (x : X) : Type 0 where
  pub front : List (Wake × X)
  pub back : List (Wake × X)
  pub whole : buckets ≡ front ++ (wake, x) ∷ back
  pub set : (y : X) → set_value (is_at (wake_cmp wake)) buckets y ≡ front ++ (wake, y) ∷ back
  pub gone : remove_entry (is_at (wake_cmp wake)) buckets ≡ front ++ back
  pub others : (b : Wake × X) → Contains (front ++ back) b → b.0 ≡ wake → ⊥

abbrev test : Wake → Wake → Bool
test wake = is_at (wake_cmp wake)

module _ {X : Type 0} (wake : Wake) where
  first_in : (e : Wake × X) (es : List (Wake × X)) (x : X) → IsStrictlySortedBy wake_cmp (keys_of (e ∷ es)) → test wake e.0 ≡ true → e.1 ≡ x → Focus wake (e ∷ es) x
  first_in e es x sorted at value = let key : e.0 ≡ wake = same_at wake e.0 at in record {
    front = [];
    back = es;
    whole = λ i. (key i, value i) ∷ es;
    set = λ y. (λ i. cond (at i) ((e.0, y) ∷ es) (e ∷ set_value (test wake) es y)) ∙ (λ i. (key i, y) ∷ es);
    gone = λ i. cond (at i) es (e ∷ remove_entry (test wake) es);
    others = λ b there same.
        let less = of_element (λ k. wake_cmp e.0 k ≡ Less) (keys_of es) b.0 (sorted_head wake_cmp e.0 (keys_of es) sorted) (mapped (λ (p : Wake × X). p.0) es b there) in
        below_itself e.0 b.0 less (same ∙ sym key);
  }

  not_first : (e b : Wake × X) → test wake e.0 ≡ false → b ≡ e → b.0 ≡ wake → ⊥
  not_first e b at is same = let tied : test wake e.0 ≡ true = ap (test wake) (sym (ap (λ (p : Wake × X). p.0) is) ∙ same) ∙ at_itself wake in cc (at, tied)

  later_in : (e : Wake × X) (es : List (Wake × X)) (x : X) → test wake e.0 ≡ false → Focus wake es x → Focus wake (e ∷ es) x
  later_in e es x at rest = record {
    front = e ∷ rest.front;
    back = rest.back;
    whole = ap (λ bs. e ∷ bs) rest.whole;
    set = λ y. (λ i. cond (at i) ((e.0, y) ∷ es) (e ∷ set_value (test wake) es y)) ∙ ap (λ bs. e ∷ bs) (rest.set y);
    gone = (λ i. cond (at i) es (e ∷ remove_entry (test wake) es)) ∙ ap (λ bs. e ∷ bs) rest.gone;
    others = λ b there same. elim (cases_first e (rest.front ++ rest.back) b there) [ inl is ↦ not_first e b at is same | inr more ↦ rest.others b more same ];
  }

  pub focus : (buckets : List (Wake × X)) → IsStrictlySortedBy wake_cmp (keys_of buckets) → (x : X) → lookup (test wake) buckets ≡ Some x → Focus wake buckets x
  focus [] sorted x found = absurd cc
  focus (e ∷ es) sorted x found = by (test wake e.0) refl (focus es (sorted_tail wake_cmp e.0 (keys_of es) sorted) x)
    where
      by : (tied : Bool) → test wake e.0 ≡ tied → (lookup (test wake) es ≡ Some x → Focus wake es x) → Focus wake (e ∷ es) x
      by true at deeper = first_in e es x sorted at (some_same ((λ i. cond (sym at i) (Some e.1) (lookup (test wake) es)) ∙ found))
      by false at deeper = later_in e es x at (deeper ((λ i. cond (sym at i) (Some e.1) (lookup (test wake) es)) ∙ found))

  -- where there is none, none has the wake
  pub none_at : (buckets : List (Wake × X)) → lookup (test wake) buckets ≡ None → (b : Wake × X) → Contains buckets b → b.0 ≡ wake → ⊥
  none_at [] none b there same = nothing_contained b there
  none_at (e ∷ es) none b there same = by (test wake e.0) refl (λ none more. none_at es none b more same)
    where
      by : (tied : Bool) → test wake e.0 ≡ tied → (lookup (test wake) es ≡ None → Contains es b → ⊥) → ⊥
      by true at deeper = let found : Some e.1 ≡ None = (λ i. cond (sym at i) (Some e.1) (lookup (test wake) es)) ∙ none in absurd cc
      by false at deeper = elim (cases_first e es b there) [
        | inl is ↦ not_first e b at is same
        | inr more ↦ deeper ((λ i. cond (sym at i) (Some e.1) (lookup (test wake) es)) ∙ none) more
      ]

  -- a new one has its place
  abbrev HasPlace : List (Wake × X) → X → Type 0
  HasPlace buckets x = (front : List (Wake × X)) × (back : List (Wake × X)) × (buckets ≡ front ++ back) × (insert_entry wake_cmp buckets wake x ≡ front ++ (wake, x) ∷ back)

  pub place_for : (buckets : List (Wake × X)) → lookup (test wake) buckets ≡ None → (x : X) → HasPlace buckets x
  place_for [] none x = ([], [], refl, refl)
  place_for (e ∷ es) none x = by (wake_cmp wake e.0) refl (λ none. place_for es none x)
    where
      by : (o : Ordering) → wake_cmp wake e.0 ≡ o → (lookup (test wake) es ≡ None → HasPlace es x) → HasPlace (e ∷ es) x
      by Less is deeper = ([], e ∷ es, refl, λ i. match_ordering (is i) ((wake, x) ∷ e ∷ es) ((e.0, x) ∷ es) (e ∷ insert_entry wake_cmp es wake x))
      by Equal is deeper = let found : Some e.1 ≡ None = (λ i. cond (is_eq (sym is i)) (Some e.1) (lookup (test wake) es)) ∙ none in absurd cc
      by Greater is deeper =
          let rest = deeper ((λ i. cond (is_eq (sym is i)) (Some e.1) (lookup (test wake) es)) ∙ none) in (
            e ∷ rest.0,
            rest.1,
            ap (λ bs. e ∷ bs) rest.2,
            (λ i. match_ordering (is i) ((wake, x) ∷ e ∷ es) ((e.0, x) ∷ es) (e ∷ insert_entry wake_cmp es wake x)) ∙ ap (λ bs. e ∷ bs) rest.3,
          )

-- ---- a map of the values

abbrev pub values_as : {X Y : Type 0} → (X → Y) → List (Wake × X) → List (Wake × Y)
values_as {X} {Y} f buckets = map {B = Wake × Y} (λ (b : Wake × X). (b.0, f b.1)) buckets

abbrev pub value_as : {X Y : Type 0} → (X → Y) → Option X → Option Y
value_as f None = None
value_as f (Some x) = Some (f x)

module _ {X Y : Type 0} (f : X → Y) (tests : Wake → Bool) where
  pub set_as : (buckets : List (Wake × X)) (x : X) → values_as f (set_value tests buckets x) ≡ set_value tests (values_as f buckets) (f x)
  set_as [] x = refl
  set_as (e ∷ es) x = by (tests e.0) (set_as es x)
    where
      by : (tied : Bool) → values_as f (set_value tests es x) ≡ set_value tests (values_as f es) (f x) → values_as f (cond tied ((e.0, x) ∷ es) (e ∷ set_value tests es x)) ≡ cond tied ((e.0, f x) ∷ values_as f es) ((e.0, f e.1) ∷ set_value tests (values_as f es) (f x))
      by true rest = refl
      by false rest = ap (λ bs. (e.0, f e.1) ∷ bs) rest

  pub gone_as : (buckets : List (Wake × X)) → values_as f (remove_entry tests buckets) ≡ remove_entry tests (values_as f buckets)
  gone_as [] = refl
  gone_as (e ∷ es) = by (tests e.0) (gone_as es)
    where
      by : (tied : Bool) → values_as f (remove_entry tests es) ≡ remove_entry tests (values_as f es) → values_as f (cond tied es (e ∷ remove_entry tests es)) ≡ cond tied (values_as f es) ((e.0, f e.1) ∷ remove_entry tests (values_as f es))
      by true rest = refl
      by false rest = ap (λ bs. (e.0, f e.1) ∷ bs) rest

  pub found_as : (buckets : List (Wake × X)) → lookup tests (values_as f buckets) ≡ value_as f (lookup tests buckets)
  found_as [] = refl
  found_as (e ∷ es) = by (tests e.0) (found_as es)
    where
      by : (tied : Bool) → lookup tests (values_as f es) ≡ value_as f (lookup tests es) → cond tied (Some (f e.1)) (lookup tests (values_as f es)) ≡ value_as f (cond tied (Some e.1) (lookup tests es))
      by true rest = refl
      by false rest = rest

module _ {X Y : Type 0} (f : X → Y) (cmp : Wake → Wake → Ordering) where
  pub inserted_as : (buckets : List (Wake × X)) (wake : Wake) (x : X) → values_as f (insert_entry cmp buckets wake x) ≡ insert_entry cmp (values_as f buckets) wake (f x)
  inserted_as [] wake x = refl
  inserted_as (e ∷ es) wake x = by (cmp wake e.0) (inserted_as es wake x)
    where
      by : (o : Ordering) → values_as f (insert_entry cmp es wake x) ≡ insert_entry cmp (values_as f es) wake (f x) → values_as f (match_ordering o ((wake, x) ∷ e ∷ es) ((e.0, x) ∷ es) (e ∷ insert_entry cmp es wake x))
          ≡ match_ordering o ((wake, f x) ∷ (e.0, f e.1) ∷ values_as f es) ((e.0, f x) ∷ values_as f es)
          ((e.0, f e.1) ∷ insert_entry cmp (values_as f es) wake (f x))
      by Less rest = refl
      by Equal rest = refl
      by Greater rest = ap (λ bs. (e.0, f e.1) ∷ bs) rest

pub keys_as : {X Y : Type 0} (f : X → Y) (buckets : List (Wake × X)) → keys_of (map {B = Wake × Y} (λ (b : Wake × X). (b.0, f b.1)) buckets) ≡ keys_of buckets
keys_as f [] = refl
keys_as f (e ∷ es) = ap (λ ks. e.0 ∷ ks) (keys_as f es)

pub none_of : {X : Type 0} (o : Option X) → is_some o ≡ false → o ≡ None
none_of None e = refl
none_of (Some x) e = absurd cc
