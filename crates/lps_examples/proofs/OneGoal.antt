-- One goal for two instances of an antecedent.
use Rattle.std.proofs.Common.{ℕ, zero, suc, false, ◌≡◌, ◌≤◌, List, [], ◌∷◌, ◌++◌, map, refl, sym, ap, subst, ◌∙◌, arith, inl, inr}
use Rattle.std.specs.Prelude.{◌+◌, Contains, codes}
use Rattle.std.specs.List.{filter, flat_map}
use Rattle.lps_terms.specs.declared.atom.Atom.{Atom}
use Rattle.lps_terms.specs.declared.term.Term.{Term}
use Rattle.lps_terms.specs.declared.term.Term.TheVariants as t
use Rattle.lps_terms.specs.Forms.{fold-Var}
use Rattle.lps_terms.specs.Names.{is_proper_name, reserved}
use Rattle.lps_terms.specs.Put.{put, put_atom, put-Var}
use Rattle.lps_terms.specs.Symbols.{symbols_of, symbols_of_all, symbols_of_all-cons, symbols_of-Sym}
use Rattle.lps_model.specs.Order.{occurs}
use Rattle.lps_model.specs.Trace.{events_at}
use Rattle.lps_model.specs.VariableLists.{item_vars, vars_step}
use Rattle.lps_model.proofs.Elements.{nothing_contained, first_is_contained}
use Rattle.lps_derivation.specs.Ground.{is_ground-Sym}
use Rattle.lps_meaning.specs.declared.goal.GoalKey.{GoalKey}
use Rattle.lps_meaning.specs.Cycles.{key_cmp, AreGoals}
use Rattle.lps_examples.specs.Examples.{from_to, unary, action_a, one_goal_text, one_goal_trace, one_goal_key}
use Rattle.lps_meaning.specs.Goals.{IsGoal, AreAllGround, HasInstance, distinct, shared_values}
use Rattle.lps_model.specs.Rules.{Rule}
use Rattle.lps_meaning.specs.Sequences.{Entry, Place, Values, Times, Walk, stop, pass, passed, start}
use Rattle.lps_examples.proofs.ExampleWalks.{not_empty, only_one, stops_or_passes, stops, only_numbered, one_sorted}

abbrev e_of : Term → Atom
e_of x = unary (codes "e") x

abbrev the_rule : Rule
the_rule = record { antecedent = from_to (e_of (t.Var 0)) 0 1 ∷ []; alternatives = (from_to action_a 2 3 ∷ []) ∷ [] }

abbrev begin : Place
begin = start one_goal_text 0 the_rule.antecedent

abbrev first_entry : Entry
first_entry = record { env = 0; nest = 0; joins = false; item = from_to (e_of (t.Var 0)) 0 1 }

-- no variable is shared
nothing_shared : shared_values the_rule ≡ []
nothing_shared =
    ap (λ vs. filter (λ v. occurs v (flat_map (flat_map item_vars) the_rule.alternatives)) (distinct [] ((vs ++ []) ++ []))) (fold-Var (List ℕ) vars_step 0)

abbrev all_p : Values
all_p env v = t.Sym (codes "p")

p_is_ground : AreAllGround all_p
unfolding is_proper_name reserved
p_is_ground env v = is_ground-Sym (codes "p")

put_p : put_atom (all_p 0) (e_of (t.Var 0)) ≡ e_of (t.Sym (codes "p"))
put_p = ap e_of (put-Var (all_p 0) 0)

small_p : 1 + symbols_of_all (put (all_p 0) (t.Var 0) ∷ []) ≤ 1024
small_p =
    let one : symbols_of (put (all_p 0) (t.Var 0)) ≡ 1 = ap symbols_of (put-Var (all_p 0) 0) ∙ symbols_of-Sym (codes "p") in
    let none : symbols_of_all [] ≡ 0 = refl in
    omega (arith, one, none, symbols_of_all-cons (put (all_p 0) (t.Var 0)) [])

-- something happens in cycle 1 alone
in_first : (k : ℕ) (a : Atom) → Contains (events_at one_goal_trace k) a → k ≡ 1
in_first zero a h = absurd (nothing_contained a h)
in_first (suc zero) a h = refl
in_first (suc (suc k)) a h = absurd (nothing_contained a h)

module _ (level : List ℕ → ℕ) where
  abbrev Walking : ℕ → Values → Times → Place → Place → Type 0
  Walking now s t end place = Walk one_goal_text level one_goal_trace [] s t now end place

  is_goal : IsGoal one_goal_text level one_goal_trace one_goal_key
  is_goal = record {
    rule = the_rule;
    of_text = refl;
    instance = record {
      values = all_p;
      times = λ env v. v;
      ground = p_is_ground;
      of_key = record { values = ap (map (all_p 0)) nothing_shared; times = refl };
      end = _;
      walk = pass 0 0 false (from_to (e_of (t.Var 0)) 0 1) [] refl refl (omega arith, (0, omega arith, sym put_p)) small_p (refl, omega arith) stop;
      whole = refl;
      limits = (tt, tt);
      last = refl;
    };
  }

  module _ (key : GoalKey) (g : IsGoal one_goal_text level one_goal_trace key) where
    rule_is : (key.rule ≡ 1) × (the_rule ≡ g.rule)
    rule_is = only_numbered the_rule g.rule key.rule g.of_text

    instance_of : HasInstance one_goal_text level one_goal_trace the_rule key
    instance_of = subst (λ r. HasInstance one_goal_text level one_goal_trace r key) (sym rule_is.1) g.instance

    time_is : key.time ≡ 1
    time_is =
        let h = instance_of in
        elim (stops_or_passes one_goal_text level one_goal_trace [] h.values h.times first_entry [] refl refl h.walk) [
          | inl e ↦ absurd (not_empty first_entry [] (sym (ap (λ p. p.left) e) ∙ h.whole))
          | inr g ↦
              let here : h.end ≡ passed h.times begin first_entry [] = stops one_goal_text level one_goal_trace [] h.values h.times refl g.walk in
              sym h.last ∙ ap (λ p. p.before) here ∙ in_first (h.times 0 1) _ g.is_true.1
        ]

    key_is : one_goal_key ≡ key
    key_is =
        let h = instance_of in
        let rule = rule_is.0 in let time = time_is in
        let values : [] ≡ key.values = sym (ap (map (h.values 0)) nothing_shared) ∙ h.of_key.values in
        let times : [] ≡ key.times = h.of_key.times in
        λ i. record { rule = sym rule i; values = values i; times = times i; time = sym time i }

  pub one_goal : AreGoals one_goal_text level one_goal_trace 1 (one_goal_key ∷ [])
  one_goal = record {
    sorted = one_sorted key_cmp one_goal_key;
    exact = λ key. (
      (λ among. subst (λ k. (k.time ≤ 1) × IsGoal one_goal_text level one_goal_trace k) (only_one one_goal_key key among) (omega arith, is_goal)),
      (λ g. subst (λ k. Contains (one_goal_key ∷ []) k) (key_is key g.1) (first_is_contained one_goal_key [])),
    );
  }
