-- The goal of a fire: it comes with the fire, and is solved by the action that puts it out.
use Rattle.std.proofs.Common.{ℕ, zero, suc, false, true, ◌≡◌, ◌≤◌, List, [], ◌∷◌, refl, sym, ap, subst, ◌∙◌, arith, inl, inr}
use Rattle.std.specs.Prelude.{Contains, Some, codes, slice_index_or}
use Rattle.lps_terms.specs.declared.item.Item.{Item}
use Rattle.lps_terms.specs.declared.term.Term.{Term}
use Rattle.lps_terms.specs.Put.{put_atom}
use Rattle.lps_model.specs.Program.{Law}
use Rattle.lps_model.specs.Trace.{events_at}
use Rattle.lps_model.proofs.Elements.{nothing_contained, first_or_later, first_is_contained}
use Rattle.lps_derivation.specs.Derivation.{of_fact}
use Rattle.lps_meaning.specs.declared.goal.Closed.TheVariants as c
use Rattle.lps_meaning.specs.declared.goal.GoalKey.{GoalKey}
use Rattle.lps_meaning.specs.Cycles.{key_cmp, AreGoals}
use Rattle.lps_examples.specs.Examples.{from_to, at_time, fluent_fire, event_spark, action_eliminate, fire_text, fire_trace, fire_key}
use Rattle.lps_meaning.specs.Goals.{IsGoal, HasInstance, IsFulfilledWithin, HasLive, IsPending, IsClosed, shared_values}
use Rattle.lps_meaning.specs.Holds.{Holds, Initiated}
use Rattle.lps_model.specs.Rules.{Rule, numbered}
use Rattle.lps_meaning.specs.Sequences.{Entry, Place, Walk, stop, pass, passed, start}
use Rattle.lps_examples.proofs.ExampleWalks.{not_empty, other_letter, only_one, constants, constants_ground, stops_or_passes, stops, some_of, only_numbered, small_atom, one_sorted}
use Rattle.lps_meaning.proofs.Persistence.{start_law, update_law}
use Rattle.lps_examples.proofs.StateExamples.{law_of, caused, true_is_held, true_false}

abbrev consequent : List Item
consequent = from_to action_eliminate 1 2 ∷ []

abbrev the_rule : Rule
the_rule = record { antecedent = at_time fluent_fire 0 ∷ []; alternatives = consequent ∷ [] }

abbrev entry_fire : Entry
entry_fire = record { env = 0; nest = 0; joins = false; item = at_time fluent_fire 0 }

abbrev entry_eliminate : Entry
entry_eliminate = record { env = 0; nest = 0; joins = false; item = from_to action_eliminate 1 2 }

abbrev antecedent_begin : Place
antecedent_begin = start fire_text 0 the_rule.antecedent

abbrev begin : Place
begin = start fire_text 1 consequent

-- eliminate from 1 to 2
abbrev time_of : ℕ → ℕ
time_of zero = 0
time_of (suc zero) = 1
time_of (suc (suc n)) = 2

-- it is not done by cycle 1
not_yet : (k : ℕ) (u : ℕ → Term) → k ≤ 1 → Contains (events_at fire_trace k) (put_atom u action_eliminate) → ⊥
not_yet zero u upto h = nothing_contained _ h
not_yet (suc zero) u upto h = other_letter event_spark (put_atom u action_eliminate) 115 101 refl refl (λ e. omega (arith, e)) (only_one event_spark (put_atom u action_eliminate) h)
not_yet (suc (suc k)) u upto h = omega (arith, upto)

abbrev puts_out : Law
puts_out = law_of false (codes "eliminate") (codes "fire")

module _ (level : List ℕ → ℕ) where
  abbrev Burns : ℕ → Type 0
  Burns i = Holds fire_text level fire_trace i fluent_fire

  burns_in_one : Burns 1
  burns_in_one = (update_law fire_text level fire_trace fluent_fire 0).1 (inl (caused fire_text level true (Holds fire_text level fire_trace 0) (event_spark ∷ []) (codes "spark") (codes "fire")
      (0, omega arith, refl) (0, omega arith, refl)))

  begins_not : Initiated fire_text level fire_trace 2 fluent_fire → ⊥
  begins_not h =
      elim (first_or_later _ (puts_out ∷ []) h.of_text.law h.of_text.in_text) [
        | inl e ↦
            let event : h.instance.event.name ≡ codes "spark" = ap (λ l. l.event.name) h.of_text.put_in ∙ sym (ap (λ l. l.event.name) e) in
            other_letter h.instance.event action_eliminate 115 101 (ap (λ n. slice_index_or n 0 0) event) refl (λ e. omega (arith, e)) (sym (only_one action_eliminate h.instance.event h.event))
        | inr later ↦ true_false h.kind (ap (λ l. l.initiates) h.of_text.put_in ∙ sym (ap (λ l. l.initiates) (only_one puts_out h.of_text.law later)))
      ]

  burns_when : (i : ℕ) → i ≤ 2 → Burns i → i ≡ 1
  burns_when zero upto h = absurd (nothing_contained _ ((start_law fire_text level fire_trace fluent_fire).0 h))
  burns_when (suc zero) upto h = refl
  burns_when (suc (suc zero)) upto h =
      elim ((update_law fire_text level fire_trace fluent_fire 1).0 h) [
        | inl begins ↦ absurd (begins_not begins)
        | inr held ↦ absurd (held.1 (
          caused fire_text level false (Holds fire_text level fire_trace 1) (action_eliminate ∷ []) (codes "eliminate") (codes "fire")
              (1, omega arith, refl) (0, omega arith, refl),
          begins_not,
        ))
      ]
  burns_when (suc (suc (suc i))) upto h = absurd (omega (arith, upto))

  is_goal : IsGoal fire_text level fire_trace fire_key
  is_goal = record {
    rule = the_rule;
    of_text = refl;
    instance = record {
      values = constants;
      times = λ env v. 1;
      ground = constants_ground;
      of_key = record { values = refl; times = refl };
      end = _;
      walk = pass 0 0 false (at_time fluent_fire 0) [] refl refl (omega arith, of_fact burns_in_one) (small_atom (codes "fire")) (omega arith) stop;
      whole = refl;
      limits = (tt, tt);
      last = refl;
    };
  }

  module _ (key : GoalKey) (by_two : key.time ≤ 2) (g : IsGoal fire_text level fire_trace key) where
    rule_number : (key.rule ≡ 1) × (the_rule ≡ g.rule)
    rule_number = only_numbered the_rule g.rule key.rule g.of_text

    instance_of : HasInstance fire_text level fire_trace the_rule key
    instance_of = subst (λ r. HasInstance fire_text level fire_trace r key) (sym rule_number.1) g.instance

    time_is : key.time ≡ 1
    time_is =
        let h = instance_of in
        elim (stops_or_passes fire_text level fire_trace [] h.values h.times entry_fire [] refl refl h.walk) [
          | inl e ↦ absurd (not_empty entry_fire [] (sym (ap (λ p. p.left) e) ∙ h.whole))
          | inr p ↦
              let here : h.end ≡ passed h.times antecedent_begin entry_fire [] = stops fire_text level fire_trace [] h.values h.times refl p.walk in
              let time : h.times 0 0 ≡ key.time = sym (ap (λ q. q.before) here) ∙ h.last in
              burns_when key.time by_two (subst Burns time (true_is_held fire_text level fire_trace (h.times 0 0) fluent_fire refl p.is_true.1))
        ]

    key_is : fire_key ≡ key
    key_is =
        let h = instance_of in
        let rule = rule_number.0 in let time = time_is in
        let values : [] ≡ key.values = h.of_key.values in
        let times : [] ≡ key.times = h.of_key.times in
        λ i. record { rule = sym rule i; values = values i; times = times i; time = sym time i }

  goals : AreGoals fire_text level fire_trace 2 (fire_key ∷ [])
  goals = record {
    sorted = one_sorted key_cmp fire_key;
    exact = λ key. (
      (λ among. subst (λ k. (k.time ≤ 2) × IsGoal fire_text level fire_trace k) (only_one fire_key key among) (omega arith, is_goal)),
      (λ g. subst (λ k. Contains (fire_key ∷ []) k) (key_is key g.0 g.1) (first_is_contained fire_key [])),
    );
  }

  live : HasLive fire_text level fire_trace 100 fire_key 1
  live = (
    begin,
    record {
      plan = record {
        reaches = record {
          rule = the_rule;
          of_text = refl;
          alternative = 1;
          items = consequent;
          of_rule = refl;
          values = constants;
          times = λ env. time_of;
          ground = constants_ground;
          of_key = record { values = refl; times = refl };
          walk = stop;
        };
        within = tt;
        on = record {
          next = entry_eliminate;
          rest = [];
          is_next = refl;
          step = refl;
          ahead = omega arith;
          in_order = ((refl, omega arith), tt);
          limits = (tt, tt);
          small = (record { other = constants; alike = record { start = refl; past = tt; links = tt }; small = small_atom (codes "eliminate") }, tt);
        };
      };
      no_call = refl;
    },
  )

  not_met : IsFulfilledWithin fire_text level fire_trace 100 fire_key 1 → ⊥
  not_met h =
      let r = h.met.reaches in
      let rule : the_rule ≡ r.rule = some_of r.of_text in
      let items : consequent ≡ r.items = (only_numbered consequent r.items r.alternative (subst (λ q. numbered q.alternatives r.alternative ≡ Some r.items) (sym rule) r.of_rule)).1 in
      let walk : Walk fire_text level fire_trace (shared_values r.rule) r.values r.times 1 h.met.end begin =
      subst (λ items. Walk fire_text level fire_trace (shared_values r.rule) r.values r.times 1 h.met.end (start fire_text 1 items)) (sym items) r.walk in
      elim (stops_or_passes fire_text level fire_trace (shared_values r.rule) r.values r.times entry_eliminate [] refl refl walk) [
        | inl e ↦ not_empty entry_eliminate [] (sym (ap (λ p. p.left) e) ∙ h.met.whole)
        | inr g ↦ not_yet (r.times 0 2) (r.values 0) g.is_true.0 g.is_true.1
      ]

  met : IsFulfilledWithin fire_text level fire_trace 100 fire_key 2
  met = record {
    met = record {
      end = _;
      reaches = record {
        rule = the_rule;
        of_text = refl;
        alternative = 1;
        items = consequent;
        of_rule = refl;
        values = constants;
        times = λ env. time_of;
        ground = constants_ground;
        of_key = record { values = refl; times = refl };
        walk = pass 0 0 false (from_to action_eliminate 1 2) [] refl refl (omega arith, (0, omega arith, refl)) (small_atom (codes "eliminate")) (refl, omega arith) stop;
      };
      whole = refl;
      limits = (tt, tt);
    };
    within = tt;
  }

  pub fire : AreGoals fire_text level fire_trace 2 (fire_key ∷ [])
      × IsPending fire_text level fire_trace 100 fire_key 1 × IsClosed fire_text level fire_trace 100 fire_key 2 c.Solved
  fire = (goals, (not_met, live), met)
