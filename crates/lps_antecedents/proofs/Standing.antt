-- What is gathered is what waits, and the keys of a cycle.
use Rattle.std.proofs.Common.{ℕ, zero, suc, ◌≡◌, ◌≤◌, List, refl, sym, subst, arith, length}
use Rattle.std.specs.Prelude.{IsTrue, Contains, Some}
use Rattle.std.specs.List.Sorted.{IsStrictlySortedBy}
use Rattle.lps_terms.specs.declared.text.Text.{Text}
use Rattle.lps_model.specs.declared.trace.Trace.{Trace}
use Rattle.lps_model.specs.Acceptance.{IsAccepted}
use Rattle.lps_model.specs.Formed.{is_formed}
use Rattle.lps_model.specs.Rules.{numbered, rules}
use Rattle.lps_meaning.specs.declared.goal.GoalKey.{GoalKey}
use Rattle.lps_meaning.specs.Cycles.{key_cmp}
use Rattle.lps_meaning.specs.Goals.{IsGoal}
use Rattle.lps_meaning.proofs.Lists.{number_contained}
use Rattle.lps_meaning.proofs.Numbers.{numbered_one}
use Rattle.lps_nodes.specs.Laws.{EndsComeFromNodes, KeysAreEnds, NodesComeFromNodes, WaitingNodesAreNodes}
use Rattle.lps_nodes.specs.Plans.{AreKeysOf, EndsWith, GoesOnTo, IsEnded, IsWaiting, antecedent_entrance, key_carry}
use Rattle.lps_antecedents.specs.declared.held.Held.{Held}
use Rattle.lps_antecedents.specs.Gathered.{AreOnce, ByOne, HasExactly, HeldEndsWith, HeldGoesOnTo}
use Rattle.lps_antecedents.specs.Waiting.{StandsFor}
use Rattle.lps_antecedents.proofs.Lists.{number_within}
use Rattle.lps_antecedents.proofs.Stepping.{node_of, of_text}

module _ (text : Text) (level : List ℕ → ℕ) (trace : Trace) (held : List Held) (keys : List GoalKey) (once : AreOnce held) (sorted : IsStrictlySortedBy key_cmp keys) where
  -- at the start, where it is so for as many rules as there are
  pub stand_at_first : HasExactly held (λ h. (h.rule ≤ length (rules text)) × IsWaiting text level trace zero h.rule h.node) →
      HasExactly keys (λ key. (key.rule ≤ length (rules text)) × (key.time ≡ zero) × IsGoal text level trace key) → StandsFor text level trace zero held × AreKeysOf text level trace zero keys
  stand_at_first waits goals = (
    record { once = once; exact = λ h. (λ among. ((waits h).0 among).1, λ w. (waits h).1 ((number_within (rules text) h.rule w.rule w.of_text).1, w)) },
    record {
      sorted = sorted;
      exact = λ key. (λ among. let all = (goals key).0 among in (all.1, all.2), λ g. (goals key).1 ((number_within (rules text) key.rule g.1.rule g.1.of_text).1, g.0, g.1));
    },
  )

  -- after a cycle
  module _ (accepted : IsAccepted text) (formed : IsTrue (is_formed text)) (come : NodesComeFromNodes) (ends_come : EndsComeFromNodes) (waiting : WaitingNodesAreNodes) (key_ends : KeysAreEnds) (now : ℕ)
      (before : List Held) (stands : StandsFor text level trace now before) where
    from_start : 0 ≤ now
    from_start = omega arith

    goes_by : (h o : Held) → Contains before h → HeldGoesOnTo text level trace now h o → IsWaiting text level trace (suc now) o.rule o.node
    goes_by h o among goes =
        let w : IsWaiting text level trace now h.rule h.node = (stands.exact h).0 among in
        let on = subst (λ rule. GoesOnTo text level trace 1 (antecedent_entrance rule) now h.node o.node) (numbered_one (rules text) h.rule goes.1 w.rule goes.2 w.of_text) goes.3 in
        let node = (come text accepted formed level trace 1 (antecedent_entrance w.rule) (of_text text h.rule w.rule w.of_text) now from_start o.node).1 (h.node, node_of text accepted waiting level trace now h w, on) in
        record {
          rule = w.rule;
          of_text = subst (λ n. numbered (rules text) n ≡ Some w.rule) (sym goes.0) w.of_text;
          waits = (waiting text accepted w.rule (number_contained (rules text) h.rule w.rule w.of_text) level trace 1 (suc now) o.node).1 node;
        }

    gone_from : (o : Held) → IsWaiting text level trace (suc now) o.rule o.node → ByOne before (HeldGoesOnTo text level trace now) o
    gone_from o w =
        let from = (come text accepted formed level trace 1 (antecedent_entrance w.rule) (of_text text o.rule w.rule w.of_text) now from_start o.node).0 (node_of text accepted waiting level trace (suc now) o w) in
        let h : Held = record { rule = o.rule; node = from.0 } in
        let waited : IsWaiting text level trace now h.rule h.node = record {
          rule = w.rule;
          of_text = w.of_text;
          waits = (waiting text accepted w.rule (number_contained (rules text) o.rule w.rule w.of_text) level trace 1 now from.0).1 from.1;
        } in
        (h, (stands.exact h).1 waited, (refl, w.rule, w.of_text, from.2))

    ends_by : (h : Held) (key : GoalKey) → Contains before h → HeldEndsWith text level trace now h key → (key.time ≡ suc now) × IsGoal text level trace key
    ends_by h key among ends =
        let w : IsWaiting text level trace now h.rule h.node = (stands.exact h).0 among in
        let with = subst (λ rule. EndsWith text level trace 1 (antecedent_entrance rule) now h.node (key_carry key)) (numbered_one (rules text) h.rule ends.2 w.rule ends.3 w.of_text) ends.4 in
        let ended = (ends_come text accepted formed level trace 1 (antecedent_entrance w.rule) (of_text text h.rule w.rule w.of_text) now from_start (key_carry key)).1 (h.node, node_of text accepted waiting level trace now h w, with) in (
          ends.1,
          record {
            rule = w.rule;
            of_text = subst (λ n. numbered (rules text) n ≡ Some w.rule) (sym ends.0) w.of_text;
            instance = (key_ends text accepted w.rule (number_contained (rules text) h.rule w.rule w.of_text) level trace 1 key).1
                (subst (λ t. IsEnded text level trace 1 (antecedent_entrance w.rule) t (key_carry key)) (sym ends.1) ended);
          },
        )

    ended_from : (key : GoalKey) → key.time ≡ suc now → IsGoal text level trace key → ByOne before (HeldEndsWith text level trace now) key
    ended_from key time g =
        let contained = number_contained (rules text) key.rule g.rule g.of_text in
        let ended = subst (λ t. IsEnded text level trace 1 (antecedent_entrance g.rule) t (key_carry key)) time ((key_ends text accepted g.rule contained level trace 1 key).0 g.instance) in
        let from = (ends_come text accepted formed level trace 1 (antecedent_entrance g.rule) (of_text text key.rule g.rule g.of_text) now from_start (key_carry key)).0 ended in
        let h : Held = record { rule = key.rule; node = from.0 } in
        let waited : IsWaiting text level trace now h.rule h.node = record {
          rule = g.rule;
          of_text = g.of_text;
          waits = (waiting text accepted g.rule contained level trace 1 now from.0).1 from.1;
        } in
        (h, (stands.exact h).1 waited, (refl, time, g.rule, g.of_text, from.2))

    pub stand_after : HasExactly held (ByOne before (HeldGoesOnTo text level trace now)) → HasExactly keys (ByOne before (HeldEndsWith text level trace now)) →
        StandsFor text level trace (suc now) held × AreKeysOf text level trace (suc now) keys
    stand_after waits goals = (
      record { once = once; exact = λ o. (λ among. let one = (waits o).0 among in goes_by one.0 o one.1 one.2, λ w. (waits o).1 (gone_from o w)) },
      record { sorted = sorted; exact = λ key. (λ among. let one = (goals key).0 among in ends_by one.0 key one.1 one.2, λ g. (goals key).1 (ended_from key g.0 g.1)) },
    )
