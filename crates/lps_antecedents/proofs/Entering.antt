-- What the antecedents of the first rules come to at time 0, so many of them, and one more.
use Rattle.std.proofs.Common.{ℕ, zero, suc, ◌≡◌, ◌+◌, ◌<◌, ◌≤◌, List, false, refl, sym, ap, subst, arith, inl, inr}
use Rattle.std.specs.Prelude.{◌⊎◌, ◌↔◌, Contains, Some, length}
use Rattle.lps_terms.specs.declared.atom.Atom.{Atom}
use Rattle.lps_terms.specs.declared.text.Text.{Text}
use Rattle.lps_model.specs.declared.trace.Trace.{Trace}
use Rattle.lps_model.specs.Acceptance.{IsAccepted}
use Rattle.lps_model.specs.Clauses.{clauses}
use Rattle.lps_model.specs.Rules.{Rule, numbered, rules}
use Rattle.lps_derivation.specs.Levels.{AreLevels}
use Rattle.lps_meaning.specs.declared.goal.GoalKey.{GoalKey}
use Rattle.lps_meaning.specs.Goals.{IsGoal}
use Rattle.lps_meaning.specs.Sequences.{is_call}
use Rattle.lps_meaning.proofs.Lists.{number_contained, of_each}
use Rattle.lps_meaning.proofs.Numbers.{numbered_one}
use Rattle.lps_meaning.proofs.Splits.{le_or_lt}
use Rattle.lps_nodes.specs.Laws.{KeysAreEnds, WaitingNodesAreNodes}
use Rattle.lps_nodes.specs.Plans.{IsCutNow, IsEnded, IsNode, IsWaiting, antecedent_entrance, key_carry}
use Rattle.lps_nodes.specs.Shapes.{antecedent_of}
use Rattle.lps_nodes.proofs.Entrances.{item_no_call}
use Rattle.lps_seq.specs.declared.start.Start.TheVariants as s
use Rattle.lps_seq.specs.declared.stepped.Stepped.{Stepped}
use Rattle.lps_seq.specs.Calls.{IsEntry}
use Rattle.lps_seq.specs.Found.{AreGiven}
use Rattle.lps_seq.specs.Starts.{IsStart}
use Rattle.lps_meeting.specs.Stages.{IsStateOf}
use Rattle.lps_antecedents.specs.declared.held.Held.{Held}
use Rattle.lps_antecedents.specs.Gathered.{IsKeyOf, IsLeftFor}
use Rattle.lps_antecedents.proofs.Known.{carry_back, numbers_back}
use Rattle.lps_antecedents.proofs.Lists.{one_at}

-- each antecedent can be entered, and is given nothing
pub is_start : (text : Text) → IsAccepted text → (n : ℕ) → n < length (rules text) → IsStart text (s.Antecedent (n + 1)) 0
is_start text accepted n lt =
    let rule = one_at (rules text) n lt in
    record {
      entrance = antecedent_entrance rule.0;
      entered = record { rule = rule.0; of_text = rule.1; entered = refl };
      since = refl;
      no_calls = of_each (λ item. is_call text item ≡ false) rule.0.antecedent (item_no_call text accepted rule.0 (number_contained (rules text) (n + 1) rule.0 rule.1));
      given = record { values = refl; times = refl; ground = tt; early = tt };
    }

-- no rule has the number 0
pub none_first : (text : Text) (n : ℕ) (rule : Rule) → n ≤ 0 → numbered (rules text) n ≡ Some rule → ⊥
none_first text zero rule le at = cc
none_first text (suc n) rule le at = omega (arith, le)

module _ (text : Text) (accepted : IsAccepted text) (waiting : WaitingNodesAreNodes) (key_ends : KeysAreEnds) (level : List ℕ → ℕ) (levels : AreLevels (clauses text) level) (trace : Trace)
    (facts : List Atom) (state : IsStateOf text level trace zero facts) (n : ℕ) (lt : n < length (rules text)) (stepped : Stepped) (entry : IsEntry text 1 (s.Antecedent (n + 1)) zero facts stepped) where
  abbrev r : Rule
  r = (one_at (rules text) n lt).0

  is : numbered (rules text) (n + 1) ≡ Some r
  is = (one_at (rules text) n lt).1

  contained : Contains (rules text) r
  contained = number_contained (rules text) (n + 1) r is

  given : AreGiven (IsNode text level trace 1 (antecedent_entrance r) zero) (IsEnded text level trace 1 (antecedent_entrance r) zero) (IsCutNow text level trace 1 (antecedent_entrance r) zero) stepped
  given = entry level levels trace (antecedent_entrance r) (record { rule = r; of_text = is; entered = refl }) state

  this_rule : (number : ℕ) (rule : Rule) → number ≡ n + 1 → numbered (rules text) number ≡ Some rule → rule ≡ r
  this_rule number rule e at = numbered_one (rules text) (n + 1) rule r (subst (λ k. numbered (rules text) k ≡ Some rule) e at) is

  last_or_before : (number : ℕ) → number ≤ n + 1 → (number ≤ n) ⊎ (number ≡ n + 1)
  last_or_before number le = elim (le_or_lt number n) [ inl before ↦ inl before | inr after ↦ inr (omega (arith, le, after)) ]

  pub waits_more : (o : Held) → (((o.rule ≤ n) × IsWaiting text level trace zero o.rule o.node) ⊎ IsLeftFor (n + 1) stepped.nodes.items o)
      ↔ ((o.rule ≤ n + 1) × IsWaiting text level trace zero o.rule o.node)
  waits_more o = (
    (λ h. elim h [
      | inl before ↦ (omega (arith, before.0), before.1)
      | inr one ↦ let number = ap (λ (x : Held). x.rule) one.2 in (
        omega (arith, number),
        record {
          rule = r;
          of_text = subst (λ k. numbered (rules text) k ≡ Some r) (sym number) is;
          waits = (waiting text accepted r contained level trace 1 zero o.node).1
              (subst (IsNode text level trace 1 (antecedent_entrance r) zero) (sym (ap (λ (x : Held). x.node) one.2)) ((given.nodes.exact one.0).0 one.1));
        },
      )
    ]),
    (λ h. elim (last_or_before o.rule h.0) [
      | inl before ↦ inl (before, h.1)
      | inr last ↦ let w : IsWaiting text level trace zero o.rule o.node = h.1 in
          let node = (waiting text accepted w.rule (number_contained (rules text) o.rule w.rule w.of_text) level trace 1 zero o.node).0 w.waits in
          inr (
            o.node,
            (given.nodes.exact o.node).1 (subst (λ rule. IsNode text level trace 1 (antecedent_entrance rule) zero o.node) (this_rule o.rule w.rule last w.of_text) node),
            λ i. record { rule = last i; node = o.node },
          )
    ]),
  )

  pub keys_more : (key : GoalKey) → (((key.rule ≤ n) × (key.time ≡ zero) × IsGoal text level trace key) ⊎ IsKeyOf (n + 1) zero stepped.ended.items key)
      ↔ ((key.rule ≤ n + 1) × (key.time ≡ zero) × IsGoal text level trace key)
  keys_more key = (
    (λ h. elim h [
      | inl before ↦ (omega (arith, before.0), before.1, before.2)
      | inr one ↦ let number = ap (λ (k : GoalKey). k.rule) one.2 in
          let time = ap (λ (k : GoalKey). k.time) one.2 in
          let ended = (given.exact one.0).0 one.1 in
          let same = carry_back ended.times (antecedent_of r).carried_times (n + 1) zero one.0 key ended.carried.times one.2 in (
            omega (arith, number),
            time,
            record {
              rule = r;
              of_text = subst (λ k. numbered (rules text) k ≡ Some r) (sym number) is;
              instance = (key_ends text accepted r contained level trace 1 key).1
                  (subst (λ t. IsEnded text level trace 1 (antecedent_entrance r) t (key_carry key)) (sym time) (subst (IsEnded text level trace 1 (antecedent_entrance r) zero) (sym same) ended));
            },
          )
    ]),
    (λ h. elim (last_or_before key.rule h.0) [
      | inl before ↦ inl (before, h.1, h.2)
      | inr last ↦ let g : IsGoal text level trace key = h.2 in
          let ended = (key_ends text accepted g.rule (number_contained (rules text) key.rule g.rule g.of_text) level trace 1 key).0 g.instance in
          let at_first = subst (λ t. IsEnded text level trace 1 (antecedent_entrance g.rule) t (key_carry key)) h.1 ended in
          inr (
            key_carry key,
            (given.exact (key_carry key)).1 (subst (λ rule. IsEnded text level trace 1 (antecedent_entrance rule) zero (key_carry key)) (this_rule key.rule g.rule last g.of_text) at_first),
            λ i. record { rule = last i; values = key.values; times = numbers_back key.times i; time = h.1 i },
          )
    ]),
  )
