-- What a sequence carries is known once all of it is passed, and so are the times of its constraints.
use Rattle.std.proofs.Common.{ℕ, true, false, ◌≡◌, ◌⊎◌, List, [], ◌∷◌, ◌++◌, ◌∙◌, map, refl, sym, ap, subst, inl, inr}
use Rattle.std.specs.Prelude.{◌||◌, Contains, None, Option, Some}
use Rattle.std.specs.List.{AllByRecursion, flat_map}
use Rattle.lps_terms.specs.declared.item.Item.{Item}
use Rattle.lps_terms.specs.declared.item.Item.TheVariants as i
use Rattle.lps_terms.specs.declared.term.Term.{Term}
use Rattle.lps_terms.specs.declared.text.Text.{Text}
use Rattle.lps_model.specs.declared.trace.Trace.{Trace}
use Rattle.lps_model.specs.Acceptance.{IsAccepted}
use Rattle.lps_model.specs.Order.{occurs, times_of}
use Rattle.lps_model.specs.Rules.{Rule, rules}
use Rattle.lps_model.specs.VariableLists.{item_vars}
use Rattle.lps_model.proofs.Elements.{nothing_contained}
use Rattle.lps_meaning.specs.declared.node.Left.{Left}
use Rattle.lps_meaning.specs.declared.node.LeftCon.{LeftCon}
use Rattle.lps_meaning.specs.declared.node.LeftItem.TheVariants as l
use Rattle.lps_meaning.specs.declared.when.When.{When}
use Rattle.lps_meaning.specs.declared.when.When.TheVariants.{Known, Unknown}
use Rattle.lps_meaning.specs.Goals.{distinct, shared}
use Rattle.lps_meaning.specs.Sequences.{Entry, Place, Times, Values, Walk, entries, is_call, pass, replace, start, stop}
use Rattle.lps_meaning.proofs.Lists.{of_each, of_element, of_filter, of_flat}
use Rattle.lps_meaning.proofs.Stepped.{IsConOf, IsStepped, IsSteppedRule, IsTimeOf, con_to, rules_stepped}
use Rattle.lps_nodes.specs.Integers.{AreTimesLeft}
use Rattle.lps_nodes.specs.Laws.{IsOfText}
use Rattle.lps_nodes.specs.Shapes.{Sequence, Shape, Whens, all_known, alternative_of, antecedent_of, is_unknown, left_at, left_of, left_unknowns, unknowns}
use Rattle.lps_nodes.proofs.ConditionLaws.{item_or}
use Rattle.lps_nodes.proofs.Entrances.{item_no_call}
use Rattle.lps_nodes.proofs.LedBasics.{HaveNoCalls, entries_no_call}
use Rattle.lps_nodes.proofs.Moves.{past_of}
use Rattle.lps_nodes.proofs.NodeLaws.{all_two, first_time, second_time}
use Rattle.lps_nodes.proofs.Orderly.{all_distinct}
use Rattle.lps_nodes.proofs.ShapeTerms.{item_same_vars}
use Rattle.lps_nodes.proofs.TestedLimits.{is_open}
use Rattle.lps_meaning.proofs.Occurrences.{all_behind, all_front, all_to}

true_false : true ≡ false → ⊥
true_false e = cc

-- ---- an item passed

-- the variables of an item that is the same with both have the same values
pub vars_told : (u s : ℕ → Term) (w z : ℕ → When) (nest : ℕ) (item : Item) → left_of u w nest item ≡ left_of s z nest item → AllByRecursion (λ v. u v ≡ s v) (item_vars item)
vars_told u s w z nest (i.At lit time) e = item_same_vars u s w z (l.At lit (Unknown time.0)) (ap (λ ls. item_or (l.At lit (Known 0)) ls) e)
vars_told u s w z nest (i.Bare lit) e = item_same_vars u s w z (l.Bare lit) (ap (λ ls. item_or (l.Bare lit) ls) e)
vars_told u s w z nest (i.Built built) e = item_same_vars u s w z (l.Built built) (ap (λ ls. item_or (l.Built built) ls) e)
vars_told u s w z nest (i.Span a from to) e = item_same_vars u s w z (l.Span a (Unknown from.0) (Unknown to.0)) (ap (λ ls. item_or (l.Span a (Known 0) (Known 0)) ls) e)
vars_told u s w z nest (i.Con con) e = tt

-- and its times are the same
time_told : (u s : ℕ → Term) (w z : ℕ → When) (nest : ℕ) (item : Item) → left_of u w nest item ≡ left_of s z nest item → (v : ℕ) → IsTimeOf v item → w v ≡ z v
time_told u s w z nest (i.At lit time) e v at = subst (λ n. w n ≡ z n) at (ap (first_time (Known 0)) e)
time_told u s w z nest (i.Span a from to) e v (inl at) = subst (λ n. w n ≡ z n) at (ap (first_time (Known 0)) e)
time_told u s w z nest (i.Span a from to) e v (inr at) = subst (λ n. w n ≡ z n) at (ap (second_time (Known 0)) e)
time_told u s w z nest (i.Bare lit) e v at = absurd at
time_told u s w z nest (i.Built built) e v at = absurd at
time_told u s w z nest (i.Con con) e v at = absurd at

-- ---- what is shared

all_shared : (P : ℕ → Type 0) (parts : Item → List ℕ) (rule : Rule) → AllByRecursion P (flat_map parts rule.antecedent) → AllByRecursion P (shared parts rule)
all_shared P parts rule h =
    of_filter P (λ v. occurs v (flat_map (flat_map parts) rule.alternatives)) (distinct [] (flat_map parts rule.antecedent)) (all_distinct P (flat_map parts rule.antecedent) [] h)

same_maps : {X : Type 0} (f g : ℕ → X) (vs : List ℕ) → AllByRecursion (λ v. f v ≡ g v) vs → map f vs ≡ map g vs
same_maps f g [] h = refl
same_maps f g (v ∷ vs) h = λ j. h.0 j ∷ same_maps f g vs h.1 j

-- ---- an antecedent that is passed

module _ (text : Text) (accepted : IsAccepted text) (level : List ℕ → ℕ) (trace : Trace) (given : List ℕ) (s : Values) (t : Times) (u : Values) (w : Whens) where
  abbrev IsTold : Entry → Type 0
  IsTold e = left_at u w e ≡ left_at s (all_known t) e

  -- without macro calls all entries that were left are passed
  told_along : {now : ℕ} {end place : Place} → Walk text level trace given s t now end place → HaveNoCalls text place.left → AllByRecursion IsTold end.past → end.left ≡ [] → AllByRecursion IsTold place.left
  told_along stop none past whole = subst (AllByRecursion IsTold) (sym whole) tt
  told_along (pass env nest joins item rest left no_call is_true small placed walk) none past whole =
      subst (AllByRecursion IsTold) (sym left) ((past_of s s t t text level trace given IsTold walk past).0, told_along walk (subst (HaveNoCalls text) left none).1 past whole)
  told_along (replace e rest a from to number clause left item macro named values times small walk) none past whole =
      absurd (true_false (sym macro ∙ sym (ap (is_call text) item) ∙ (subst (HaveNoCalls text) left none).0))

  abbrev IsToldItem : Item → Type 0
  IsToldItem item = left_of (u 0) (w 0) 0 item ≡ left_of (s 0) (all_known t 0) 0 item

  items_told : (before : Option Item) (items : List Item) → AllByRecursion IsTold (entries text 0 0 before items) → AllByRecursion IsToldItem items
  items_told before [] h = tt
  items_told before (item ∷ items) h = (h.0, items_told (Some item) items h.1)

  abbrev IsKnownTime : ℕ → Type 0
  IsKnownTime v = w 0 v ≡ all_known t 0 v

  stepped_known : (v : ℕ) (items : List Item) → AllByRecursion IsToldItem items → IsStepped v items → IsKnownTime v
  stepped_known v [] h at = absurd at
  stepped_known v (item ∷ items) h (inl at) = time_told (u 0) (s 0) (w 0) (all_known t 0) 0 item h.0 v at
  stepped_known v (item ∷ items) h (inr at) = stepped_known v items h.1 at

  item_known : (known : (v : ℕ) (item : Item) → IsToldItem item → IsTimeOf v item → IsKnownTime v) (item : Item) → IsToldItem item → IsConOf IsKnownTime item → AllByRecursion IsKnownTime (times_of item)
  item_known known (i.At lit time) h con = (known time.0 (i.At lit time) h refl, tt)
  item_known known (i.Span a from to) h con = (known from.0 (i.Span a from to) h (inl refl), (known to.0 (i.Span a from to) h (inr refl), tt))
  item_known known (i.Bare lit) h con = tt
  item_known known (i.Built built) h con = tt
  item_known known (i.Con c) h con = (con.0, (con.1, tt))

  -- what a sequence carries is what the instance gives
  abbrev Carries : Sequence → Type 0
  Carries q = (map (u 0) q.carried_values ≡ map (s 0) q.carried_values) × (map (w 0) q.carried_times ≡ map (all_known t 0) q.carried_times)

  antecedent_carries : (rule : Rule) → Contains (rules text) rule → AllByRecursion IsToldItem rule.antecedent → Carries (antecedent_of rule)
  antecedent_carries rule of_rule told =
      let steps : IsSteppedRule rule = of_element IsSteppedRule (rules text) rule (rules_stepped text accepted) of_rule in
      let cons : AllByRecursion (IsConOf IsKnownTime) rule.antecedent =
      all_to (IsConOf (λ v. IsStepped v rule.antecedent)) (IsConOf IsKnownTime) (con_to (λ v. IsStepped v rule.antecedent) IsKnownTime (λ v at. stepped_known v rule.antecedent told at)) rule.antecedent steps.0 in
      let values : AllByRecursion (λ v. u 0 v ≡ s 0 v) (flat_map item_vars rule.antecedent) =
      of_flat IsToldItem (λ v. u 0 v ≡ s 0 v) item_vars (λ item h. vars_told (u 0) (s 0) (w 0) (all_known t 0) 0 item h) rule.antecedent told in
      let times : AllByRecursion IsKnownTime (flat_map times_of rule.antecedent) =
      of_flat (λ item. IsToldItem item × IsConOf IsKnownTime item) IsKnownTime times_of
      (λ item h. item_known (λ v it is at. time_told (u 0) (s 0) (w 0) (all_known t 0) 0 it is v at) item h.0 h.1) rule.antecedent
      (all_two IsToldItem (IsConOf IsKnownTime) (λ item. IsToldItem item × IsConOf IsKnownTime item) (λ item a b. (a, b)) rule.antecedent told cons) in (
        same_maps (u 0) (s 0) (shared item_vars rule) (all_shared (λ v. u 0 v ≡ s 0 v) item_vars rule values),
        same_maps (w 0) (all_known t 0) (shared times_of rule) (all_shared IsKnownTime times_of rule times),
      )

  pub carried_known : (q : Sequence) → IsOfText text q → (since : ℕ) {now : ℕ} {end : Place} → Walk text level trace given s t now end (start text since q.items) →
      AllByRecursion (λ (e : Entry). left_at u w e ≡ left_at s (all_known t) e) end.past → end.left ≡ [] →
      (map (u 0) q.carried_values ≡ map (s 0) q.carried_values) × (map (w 0) q.carried_times ≡ map (all_known t 0) q.carried_times)
  carried_known q of_text since {now} {end} walk past whole = by of_text.2
    where
      of_antecedent : Walk text level trace given s t now end (start text since of_text.0.antecedent) → Carries (antecedent_of of_text.0)
      of_antecedent walk =
          let none = of_each (λ item. is_call text item ≡ false) of_text.0.antecedent (item_no_call text accepted of_text.0 of_text.1) in
          antecedent_carries of_text.0 of_text.1 (items_told None of_text.0.antecedent (told_along walk (entries_no_call text None of_text.0.antecedent none) past whole))

      by : (q ≡ antecedent_of of_text.0) ⊎ ((items : List Item) × Contains of_text.0.alternatives items × (q ≡ alternative_of of_text.0 items)) → Carries q
      by (inl is) = subst Carries (sym is) (of_antecedent (subst (λ (z : Sequence). Walk text level trace given s t now end (start text since z.items)) is walk))
      by (inr is) = subst Carries (sym is.2) (refl, refl)

-- ---- constraints where nothing is left

none_unknown : (left right : When) → AllByRecursion (Contains []) (unknowns left ++ unknowns right) → (is_unknown left || is_unknown right) ≡ false
none_unknown (Known n) (Known m) h = refl
none_unknown (Known n) (Unknown k) h = absurd (nothing_contained k h.0)
none_unknown (Unknown k) right h = absurd (nothing_contained k h.0)

all_closed : (limits : List LeftCon) → AllByRecursion (Contains []) (flat_map (λ con. unknowns con.left ++ unknowns con.right) limits) → AllByRecursion (λ con. is_open con ≡ false) limits
all_closed [] h = tt
all_closed (con ∷ limits) h = (
  none_unknown con.left con.right (all_front (Contains []) (unknowns con.left ++ unknowns con.right) (flat_map (λ con. unknowns con.left ++ unknowns con.right) limits) h),
  all_closed limits (all_behind (Contains []) (unknowns con.left ++ unknowns con.right) (flat_map (λ con. unknowns con.left ++ unknowns con.right) limits) h),
)

-- where no item is left, the times of all constraints are known
pub closed_limits : (g : Shape) → AreTimesLeft g → g.rest ≡ [] → AllByRecursion (λ con. is_open con ≡ false) g.limits
closed_limits g left whole =
    all_closed g.limits (subst (λ (rest : List Left). AllByRecursion (Contains (flat_map (λ left. left_unknowns left.item) rest)) (flat_map (λ con. unknowns con.left ++ unknowns con.right) g.limits)) whole left)
