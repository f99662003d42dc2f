-- The first goals of a parcel office: one for each parcel that arrives.
use Rattle.std.proofs.Common.{ℕ, zero, suc, true, false, ◌≡◌, ◌≤◌, ◌⊎◌, List, [], ◌∷◌, ◌++◌, map, refl, sym, ap, subst, ◌∙◌, arith, inl, inr}
use Rattle.std.specs.Prelude.{Contains, codes}
use Rattle.std.specs.List.{filter}
use Rattle.std.specs.List.Sorted.{IsStrictlySortedBy}
use Rattle.std.specs.declared.cmp.Ordering.TheVariants.{Equal}
use Rattle.std.specs.Ordering.{ordering_then}
use Rattle.lps_terms.specs.declared.atom.Atom.{Atom}
use Rattle.lps_terms.specs.declared.term.Term.{Term}
use Rattle.lps_terms.specs.declared.term.Term.TheVariants as t
use Rattle.lps_terms.specs.Forms.{fold-Var}
use Rattle.lps_terms.specs.Names.{is_proper_name, reserved}
use Rattle.lps_terms.specs.OrderLaws.{term_cmp-Sym}
use Rattle.lps_terms.specs.Put.{put, put-Var}
use Rattle.lps_terms.specs.Symbols.{symbols_of, symbols_of_all, symbols_of_all-cons, symbols_of-Sym}
use Rattle.lps_model.specs.Order.{occurs}
use Rattle.lps_model.specs.Trace.{events_at}
use Rattle.lps_model.specs.VariableLists.{vars_step}
use Rattle.lps_model.proofs.Elements.{nothing_contained, first_or_later}
use Rattle.lps_derivation.specs.Ground.{is_ground, is_ground-Sym}
use Rattle.lps_meaning.specs.declared.goal.GoalKey.{GoalKey}
use Rattle.lps_meaning.specs.Cycles.{key_cmp, AreGoals}
use Rattle.lps_examples.specs.Examples.{from_to, arrive_of, office_rule, office_text, office_trace, office_key}
use Rattle.lps_meaning.specs.Goals.{IsGoal, HasInstance, distinct, shared_values}
use Rattle.lps_meaning.specs.Items.{IsSmallItem, put_item}
use Rattle.lps_meaning.specs.Sequences.{Entry, Place, stop, pass, passed, start}
use Rattle.lps_examples.proofs.ExampleWalks.{head_or, not_empty, only_one, stops_or_passes, stops, only_numbered}

abbrev p1 : Term
p1 = t.Sym (codes "p1")

abbrev p2 : Term
p2 = t.Sym (codes "p2")

abbrev begin : Place
begin = start office_text 0 office_rule.antecedent

abbrev entry : Entry
entry = record { env = 0; nest = 0; joins = false; item = from_to (arrive_of (t.Var 0)) 0 1 }

-- the parcel alone is shared
parcel_is_shared : shared_values office_rule ≡ 0 ∷ []
parcel_is_shared =
    ap (λ vs. filter (λ v. occurs v (((vs ++ []) ++ ((vs ++ []) ++ [])) ++ (((vs ++ []) ++ []) ++ []))) (distinct [] ((vs ++ []) ++ []))) (fold-Var (List ℕ) vars_step 0)

ground_1 : is_ground p1 ≡ true
unfolding is_proper_name reserved
ground_1 = is_ground-Sym (codes "p1")

ground_2 : is_ground p2 ≡ true
unfolding is_proper_name reserved
ground_2 = is_ground-Sym (codes "p2")

small_arrive : (name : List ℕ) (s : ℕ → Term) → put s (t.Var 0) ≡ t.Sym name → IsSmallItem (put_item s (from_to (arrive_of (t.Var 0)) 0 1))
small_arrive name s e =
    let one : symbols_of (put s (t.Var 0)) ≡ 1 = ap symbols_of e ∙ symbols_of-Sym name in
    let none : symbols_of_all [] ≡ 0 = refl in
    omega (arith, one, none, symbols_of_all-cons (put s (t.Var 0)) [])

abbrev arg_of : Atom → Term
arg_of a = head_or p1 a.args

-- the two parcels arrive in cycle 1, and nothing else happens
arrives : (k : ℕ) (x : Term) → Contains (events_at office_trace k) (arrive_of x) → (k ≡ 1) × ((p1 ≡ x) ⊎ (p2 ≡ x))
arrives zero x h = absurd (nothing_contained _ h)
arrives (suc zero) x h =
    elim (first_or_later (arrive_of p1) (arrive_of p2 ∷ []) (arrive_of x) h) [
      | inl e ↦ (refl, inl (ap arg_of e))
      | inr later ↦ (refl, inr (ap arg_of (only_one (arrive_of p2) (arrive_of x) later)))
    ]
arrives (suc (suc k)) x h = absurd (nothing_contained _ h)

keys_in_order : IsStrictlySortedBy key_cmp (office_key p1 ∷ office_key p2 ∷ [])
unfolding IsStrictlySortedBy
keys_in_order = ((ap (λ r. ordering_then (ordering_then r Equal) Equal) (term_cmp-Sym (codes "p1") (codes "p2")), tt), (tt, tt))

module _ (level : List ℕ → ℕ) where
  is_goal : (name : List ℕ) → is_ground (t.Sym name) ≡ true → Contains (events_at office_trace 1) (arrive_of (t.Sym name)) → IsGoal office_text level office_trace (office_key (t.Sym name))
  is_goal name ground among =
      let s : ℕ → Term = λ v. t.Sym name in
      record {
        rule = office_rule;
        of_text = refl;
        instance = record {
          values = λ env v. t.Sym name;
          times = λ env v. v;
          ground = λ env v. ground;
          of_key = record { values = ap (map (λ v. t.Sym name)) parcel_is_shared; times = refl };
          end = _;
          walk = pass 0 0 false (from_to (arrive_of (t.Var 0)) 0 1) [] refl refl
              (omega arith, subst (λ x. Contains (events_at office_trace 1) (arrive_of x)) (sym (put-Var (λ v. t.Sym name) 0)) among)
              (small_arrive name (λ v. t.Sym name) (put-Var (λ v. t.Sym name) 0)) (refl, omega arith) stop;
          whole = refl;
          limits = (tt, tt);
          last = refl;
        };
      }

  module _ (key : GoalKey) (g : IsGoal office_text level office_trace key) where
    rule_is : (key.rule ≡ 1) × (office_rule ≡ g.rule)
    rule_is = only_numbered office_rule g.rule key.rule g.of_text

    instance_of : HasInstance office_text level office_trace office_rule key
    instance_of = subst (λ r. HasInstance office_text level office_trace r key) (sym rule_is.1) g.instance

    -- what arrived, and when
    arrived : (key.time ≡ instance_of.times 0 1) × Contains (events_at office_trace (instance_of.times 0 1)) (arrive_of (instance_of.values 0 0))
    arrived =
        let h = instance_of in
        elim (stops_or_passes office_text level office_trace [] h.values h.times entry [] refl refl h.walk) [
          | inl e ↦ absurd (not_empty entry [] (sym (ap (λ p. p.left) e) ∙ h.whole))
          | inr w ↦
              let here : h.end ≡ passed h.times begin entry [] = stops office_text level office_trace [] h.values h.times refl w.walk in (
                sym h.last ∙ ap (λ q. q.before) here,
                subst (λ x. Contains (events_at office_trace (h.times 0 1)) (arrive_of x)) (put-Var (h.values 0) 0) w.is_true.1,
              )
        ]

    key_is : (x : Term) → x ≡ instance_of.values 0 0 → instance_of.times 0 1 ≡ 1 → office_key x ≡ key
    key_is x value time =
        let h = instance_of in
        let values : x ∷ [] ≡ key.values = (λ i. value i ∷ []) ∙ sym (ap (map (h.values 0)) parcel_is_shared) ∙ h.of_key.values in
        let times : 1 ∷ [] ≡ key.times = (λ i. sym time i ∷ []) ∙ h.of_key.times in
        let last : 1 ≡ key.time = sym (arrived.0 ∙ time) in
        let rule : 1 ≡ key.rule = sym rule_is.0 in
        λ i. record { rule = rule i; values = values i; times = times i; time = last i }

    is_listed : Contains (office_key p1 ∷ office_key p2 ∷ []) key
    is_listed =
        let it = arrives (instance_of.times 0 1) (instance_of.values 0 0) arrived.1 in
        elim it.1 [
          | inl e ↦ (0, omega arith, key_is p1 e it.0)
          | inr e ↦ (1, omega arith, key_is p2 e it.0)
        ]

  abbrev IsThere : GoalKey → Type 0
  IsThere key = (key.time ≤ 1) × IsGoal office_text level office_trace key

  listed_is : (key : GoalKey) → Contains (office_key p1 ∷ office_key p2 ∷ []) key → IsThere key
  listed_is key among =
      elim (first_or_later (office_key p1) (office_key p2 ∷ []) key among) [
        | inl e ↦ subst IsThere e (omega arith, is_goal (codes "p1") ground_1 (0, omega arith, refl))
        | inr later ↦ subst IsThere (only_one (office_key p2) key later) (omega arith, is_goal (codes "p2") ground_2 (1, omega arith, refl))
      ]

  pub parcel_office : AreGoals office_text level office_trace 1 (office_key p1 ∷ office_key p2 ∷ [])
  parcel_office = record { sorted = keys_in_order; exact = λ key. (listed_is key, λ g. is_listed key g.1) }
