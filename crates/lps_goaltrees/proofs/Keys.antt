-- The key of a goal of an accepted text can be entered: it has a value for each variable and a time for each time that its rule shares, its
-- values are ground, and no time is later than its own.
use Rattle.std.proofs.Common.{ℕ, suc, ◌≡◌, ◌≤◌, ◌∙◌, Bool, true, false, cond, List, [], ◌∷◌, length, map, refl, sym, ap, subst, arith, inl, inr}
use Rattle.std.specs.Prelude.{Contains, IsTrue, Option, Some, None}
use Rattle.std.specs.List.{AllByRecursion, flat_map}
use Rattle.lps_terms.specs.declared.item.Item.{Item}
use Rattle.lps_terms.specs.declared.item.Item.TheVariants as i
use Rattle.lps_terms.specs.declared.text.Text.{Text}
use Rattle.lps_model.specs.declared.trace.Trace.{Trace}
use Rattle.lps_model.specs.Acceptance.{IsAccepted}
use Rattle.lps_model.specs.Order.{occurs, times_of}
use Rattle.lps_model.specs.Rules.{Rule, is_macro, kind_of, rules}
use Rattle.lps_derivation.specs.Ground.{is_ground}
use Rattle.lps_meaning.specs.declared.goal.GoalKey.{GoalKey}
use Rattle.lps_meaning.specs.Goals.{IsGoal, distinct, shared_times, shared_values}
use Rattle.lps_meaning.specs.Items.{put_item}
use Rattle.lps_meaning.specs.Sequences.{Entry, IsPlaced, IsSpanPlaced, IsTrueItem, Place, Times, Values, Walk, stop, pass, replace, entries, is_call}
use Rattle.lps_meaning.proofs.Lists.{number_contained, of_each, of_element, of_filter, of_flat}
use Rattle.lps_meaning.proofs.Occurrences.{all_to}
use Rattle.lps_meaning.proofs.Stepped.{HaveSteps, IsConOf, IsStepped, IsSteppedRule, IsTimeOf, rules_stepped}
use Rattle.lps_nodes.proofs.Entrances.{item_no_call}
use Rattle.lps_goaltrees.specs.Followed.{IsEnterable}
use Rattle.lps_goaltrees.proofs.GoalNodes.{entries_no_calls, false_true}

-- ---- times of a walk over all of a sequence

-- the times of an item are none later than now
abbrev AreBy : ℕ → (ℕ → ℕ) → Item → Type 0
AreBy now t (i.At lit time) = t time.0 ≤ now
AreBy now t (i.Span a from to) = (t from.0 ≤ now) × (t to.0 ≤ now)
AreBy now t _ = Unit {0}

span_by : (is_macro joins : Bool) (before from to now : ℕ) → is_macro ≡ false → IsSpanPlaced is_macro joins before from to → to ≤ now → from ≤ now
span_by true joins before from to now is placed le = absurd (false_true (sym is))
span_by false true before from to now is placed le = let next = placed.0 in omega (arith, next)
span_by false false before from to now is placed le = let next = placed.0 in omega (arith, next)

module _ (text : Text) (level : List ℕ → ℕ) (trace : Trace) (given : List ℕ) (s : Values) (t : Times) where
  item_by : (now env before : ℕ) (joins : Bool) (item : Item) → is_call text item ≡ false → IsTrueItem text level trace now (t env) (put_item (s env) item) →
      IsPlaced text (t env) before joins item → AreBy now (t env) item
  item_by now env before joins (i.At lit time) no_call is_true placed = is_true.0
  item_by now env before joins (i.Span a from to) no_call is_true placed =
      (span_by (is_macro (kind_of text a.name)) joins before (t env from.0) (t env to.0) now no_call placed is_true.0, is_true.0)
  item_by now env before joins (i.Bare lit) no_call is_true placed = tt
  item_by now env before joins (i.Built built) no_call is_true placed = tt
  item_by now env before joins (i.Con con) no_call is_true placed = tt

  -- what is passed is by now
  passed_by : {now : ℕ} {end place : Place} → Walk text level trace given s t now end place → AllByRecursion (λ (e : Entry). is_call text e.item ≡ false) place.left → end.left ≡ [] →
      AllByRecursion (λ (e : Entry). AreBy now (t e.env) e.item) place.left
  passed_by {now} {end} stop none whole = subst (AllByRecursion (λ (e : Entry). AreBy now (t e.env) e.item)) (sym whole) tt
  passed_by {now} {end} {place} (pass env nest joins item rest left no_call is_true small placed walk) none whole =
      let later = (subst (AllByRecursion (λ (e : Entry). is_call text e.item ≡ false)) left none).1 in
      subst (AllByRecursion (λ (e : Entry). AreBy now (t e.env) e.item)) (sym left) (item_by now env place.before joins item no_call is_true placed, passed_by walk later whole)
  passed_by (replace e rest a from to number clause left item macro named values times small walk) none whole =
      absurd (false_true (sym (subst (AllByRecursion (λ (e : Entry). is_call text e.item ≡ false)) left none).0 ∙ ap (is_call text) item ∙ macro))

of_entries : (text : Text) (now : ℕ) (t : Times) (before : Option Item) (items : List Item) → AllByRecursion (λ (e : Entry). AreBy now (t e.env) e.item) (entries text 0 0 before items) →
    AllByRecursion (AreBy now (t 0)) items
of_entries text now t before [] h = tt
of_entries text now t before (item ∷ items) h = (h.0, of_entries text now t (Some item) items h.1)

-- ---- times of items

module _ (now : ℕ) (t : ℕ → ℕ) where
  time_by : (v : ℕ) (item : Item) → IsTimeOf v item → AreBy now t item → t v ≤ now
  time_by v (i.At lit time) e le = subst (λ u. t u ≤ now) e le
  time_by v (i.Span a from to) (inl e) le = subst (λ u. t u ≤ now) e le.0
  time_by v (i.Span a from to) (inr e) le = subst (λ u. t u ≤ now) e le.1
  time_by v (i.Bare lit) e le = absurd e
  time_by v (i.Built built) e le = absurd e
  time_by v (i.Con con) e le = absurd e

  stepped_by : (items : List Item) → AllByRecursion (AreBy now t) items → (v : ℕ) → IsStepped v items → t v ≤ now
  stepped_by [] by v h = absurd h
  stepped_by (item ∷ items) by v (inl here) = time_by v item here by.0
  stepped_by (item ∷ items) by v (inr later) = stepped_by items by.1 v later

  -- all times of an item are, where those of its constraints are
  times_by : (item : Item) → AreBy now t item × IsConOf (λ v. t v ≤ now) item → AllByRecursion (λ v. t v ≤ now) (times_of item)
  times_by (i.At lit time) h = (h.0, tt)
  times_by (i.Span a from to) h = (h.0.0, (h.0.1, tt))
  times_by (i.Con con) h = (h.1.0, (h.1.1, tt))
  times_by (i.Bare lit) h = tt
  times_by (i.Built built) h = tt

  con_by : (P : ℕ → Type 0) → ((v : ℕ) → P v → t v ≤ now) → (item : Item) → IsConOf P item → IsConOf (λ v. t v ≤ now) item
  con_by P f (i.Con con) h = (f con.left.0 h.0, f con.right.0 h.1)
  con_by P f (i.At lit time) h = tt
  con_by P f (i.Bare lit) h = tt
  con_by P f (i.Built built) h = tt
  con_by P f (i.Span a from to) h = tt

of_distinct : (P : ℕ → Type 0) (seen vs : List ℕ) → AllByRecursion P vs → AllByRecursion P (distinct seen vs)
of_distinct P seen [] h = tt
of_distinct P seen (v ∷ vs) h = by (of_distinct P seen vs h.1) (of_distinct P (v ∷ seen) vs h.1) (occurs v seen)
  where
    by : AllByRecursion P (distinct seen vs) → AllByRecursion P (distinct (v ∷ seen) vs) → (b : Bool) → AllByRecursion P (cond b (distinct seen vs) (v ∷ distinct (v ∷ seen) vs))
    by old new true = old
    by old new false = (h.0, new)

both : {X : Type 0} (P Q : X → Type 0) (xs : List X) → AllByRecursion P xs → AllByRecursion Q xs → AllByRecursion (λ x. P x × Q x) xs
both P Q [] p q = tt
both P Q (x ∷ xs) p q = ((p.0, q.0), both P Q xs p.1 q.1)

of_map : {X Y : Type 0} (P : Y → Type 0) (f : X → Y) (xs : List X) → AllByRecursion (λ x. P (f x)) xs → AllByRecursion P (map f xs)
of_map P f [] h = tt
of_map P f (x ∷ xs) h = (h.0, of_map P f xs h.1)

all_of : {X : Type 0} (P : X → Type 0) → ((x : X) → P x) → (xs : List X) → AllByRecursion P xs
all_of P f [] = tt
all_of P f (x ∷ xs) = (f x, all_of P f xs)

length_mapped : {X Y : Type 0} (f : X → Y) (xs : List X) → length (map f xs) ≡ length xs
length_mapped f [] = refl
length_mapped f (x ∷ xs) = ap suc (length_mapped f xs)

-- ---- keys

pub is_enterable : (text : Text) → IsAccepted text → (level : List ℕ → ℕ) (trace : Trace) (key : GoalKey) → IsGoal text level trace key → key.time ≤ 1000000 → IsEnterable text key
is_enterable text accepted level trace key goal early =
    let rule : Rule = goal.rule in
    let h = goal.instance in
    let t = h.times in
    let among : Contains (rules text) rule = number_contained (rules text) key.rule rule goal.of_text in
    let no_calls : AllByRecursion (λ item. is_call text item ≡ false) rule.antecedent = of_each (λ item. is_call text item ≡ false) rule.antecedent (item_no_call text accepted rule among) in
    let by = of_entries text key.time t None rule.antecedent (passed_by text level trace [] h.values t h.walk (entries_no_calls text 0 0 None rule.antecedent no_calls) h.whole) in
    let stepped : HaveSteps rule.antecedent = (of_element IsSteppedRule (rules text) rule (rules_stepped text accepted) among).0 in
    let cons = all_to (IsConOf (λ v. IsStepped v rule.antecedent)) (IsConOf (λ v. t 0 v ≤ key.time)) (con_by key.time (t 0) (λ v. IsStepped v rule.antecedent) (stepped_by key.time (t 0) rule.antecedent by)) rule.antecedent stepped in
    let all = of_flat (λ item. AreBy key.time (t 0) item × IsConOf (λ v. t 0 v ≤ key.time) item) (λ v. t 0 v ≤ key.time) times_of (times_by key.time (t 0)) rule.antecedent
    (both (AreBy key.time (t 0)) (IsConOf (λ v. t 0 v ≤ key.time)) rule.antecedent by cons) in
    let shared = of_filter (λ v. t 0 v ≤ key.time) (λ v. occurs v (flat_map (flat_map times_of) rule.alternatives)) (distinct [] (flat_map times_of rule.antecedent))
    (of_distinct (λ v. t 0 v ≤ key.time) [] (flat_map times_of rule.antecedent) all) in
    record {
      rule = rule;
      of_text = goal.of_text;
      value_count = ap length (sym h.of_key.values) ∙ length_mapped (h.values 0) (shared_values rule);
      time_count = ap length (sym h.of_key.times) ∙ length_mapped (t 0) (shared_times rule);
      ground = subst (AllByRecursion (λ v. IsTrue (is_ground v))) h.of_key.values (of_map (λ v. IsTrue (is_ground v)) (h.values 0) (shared_values rule) (all_of (λ v. IsTrue (is_ground (h.values 0 v))) (h.ground 0) (shared_values rule)));
      times = subst (AllByRecursion (λ time. time ≤ 1000000)) h.of_key.times
          (of_map (λ time. time ≤ 1000000) (t 0) (shared_times rule) (all_to (λ v. t 0 v ≤ key.time) (λ v. t 0 v ≤ 1000000) (λ v le. through (t 0 v) key.time 1000000 le early) (shared_times rule) shared));
      time = early;
    }
  where
    through : (a b c : ℕ) → a ≤ b → b ≤ c → a ≤ c
    through a b c one two = omega arith
