-- What one that waits comes to in a cycle, and what all that waits comes to.
use Rattle.std.proofs.Common.{ℕ, suc, ◌≡◌, ◌∙◌, List, refl, sym, ap, subst, arith, inl}
use Rattle.std.specs.Prelude.{◌↔◌, Some}
use Rattle.lps_terms.specs.declared.atom.Atom.{Atom}
use Rattle.lps_terms.specs.declared.text.Text.{Text}
use Rattle.lps_model.specs.declared.trace.Trace.{Trace}
use Rattle.lps_model.specs.Acceptance.{IsAccepted}
use Rattle.lps_model.specs.Clauses.{clauses}
use Rattle.lps_model.specs.Rules.{Rule, numbered, rules}
use Rattle.lps_derivation.specs.Levels.{AreLevels}
use Rattle.lps_meaning.specs.declared.goal.GoalKey.{GoalKey}
use Rattle.lps_meaning.proofs.Lists.{number_contained}
use Rattle.lps_meaning.proofs.Numbers.{numbered_one}
use Rattle.lps_nodes.specs.Laws.{IsOfText, WaitingNodesAreNodes}
use Rattle.lps_nodes.specs.Plans.{EndsWith, GoesOnTo, IsCutNext, IsNode, IsWaiting, antecedent_entrance, key_carry}
use Rattle.lps_nodes.specs.Shapes.{antecedent_of}
use Rattle.lps_seq.specs.declared.stepped.Stepped.{Stepped}
use Rattle.lps_seq.specs.Calls.{IsNext}
use Rattle.lps_seq.specs.Found.{AreGiven}
use Rattle.lps_meeting.specs.Stages.{AreEventsOf, IsStateOf}
use Rattle.lps_antecedents.specs.declared.held.Held.{Held}
use Rattle.lps_antecedents.specs.Gathered.{HeldEndsWith, HeldGoesOnTo, IsKeyOf, IsLeftFor}
use Rattle.lps_antecedents.proofs.Known.{carry_back, numbers_back}

pub of_text : (text : Text) (n : ℕ) (rule : Rule) → numbered (rules text) n ≡ Some rule → IsOfText text (antecedent_of rule)
of_text text n rule at = (rule, number_contained (rules text) n rule at, inl refl)

-- ---- one that waits

module _ (text : Text) (accepted : IsAccepted text) (waiting : WaitingNodesAreNodes) (level : List ℕ → ℕ) (trace : Trace) (now : ℕ) where
  pub node_of : (h : Held) (w : IsWaiting text level trace now h.rule h.node) → IsNode text level trace 1 (antecedent_entrance w.rule) now h.node
  node_of h w = (waiting text accepted w.rule (number_contained (rules text) h.rule w.rule w.of_text) level trace 1 now h.node).0 w.waits

  module _ (levels : AreLevels (clauses text) level) (time : ℕ) (at : time ≡ suc now) (facts events : List Atom) (state : IsStateOf text level trace time facts) (happen : AreEventsOf trace time events)
      (h : Held) (stepped : Stepped) (next : IsNext text 1 h.node time facts events stepped) (w : IsWaiting text level trace now h.rule h.node) where
    given : AreGiven (GoesOnTo text level trace 1 (antecedent_entrance w.rule) now h.node) (EndsWith text level trace 1 (antecedent_entrance w.rule) now h.node)
        (IsCutNext text level trace 1 (antecedent_entrance w.rule) now h.node) stepped
    given = next level levels trace (antecedent_entrance w.rule) (of_text text h.rule w.rule w.of_text) now at (omega arith) (node_of h w) state happen

    same_rule : (rule : Rule) → numbered (rules text) h.rule ≡ Some rule → rule ≡ w.rule
    same_rule rule e = numbered_one (rules text) h.rule rule w.rule e w.of_text

    pub goes_on : (o : Held) → IsLeftFor h.rule stepped.nodes.items o ↔ HeldGoesOnTo text level trace now h o
    goes_on o = (
      (λ one. (
        ap (λ (x : Held). x.rule) one.2,
        w.rule,
        w.of_text,
        subst (GoesOnTo text level trace 1 (antecedent_entrance w.rule) now h.node) (sym (ap (λ (x : Held). x.node) one.2)) ((given.nodes.exact one.0).0 one.1),
      )),
      (λ goes. (
        o.node,
        (given.nodes.exact o.node).1 (subst (λ rule. GoesOnTo text level trace 1 (antecedent_entrance rule) now h.node o.node) (same_rule goes.1 goes.2) goes.3),
        λ i. record { rule = goes.0 i; node = o.node },
      )),
    )

    pub ends : (key : GoalKey) → IsKeyOf h.rule time stepped.ended.items key ↔ HeldEndsWith text level trace now h key
    ends key = (
      (λ one. let ended = (given.exact one.0).0 one.1 in (
        ap (λ (k : GoalKey). k.rule) one.2,
        ap (λ (k : GoalKey). k.time) one.2 ∙ at,
        w.rule,
        w.of_text,
        subst (EndsWith text level trace 1 (antecedent_entrance w.rule) now h.node) (sym (carry_back ended.times (antecedent_of w.rule).carried_times h.rule time one.0 key ended.carried.times one.2)) ended,
      )),
      (λ ends. (
        key_carry key,
        (given.exact (key_carry key)).1 (subst (λ rule. EndsWith text level trace 1 (antecedent_entrance rule) now h.node (key_carry key)) (same_rule ends.2 ends.3) ends.4),
        λ i. record { rule = ends.0 i; values = key.values; times = numbers_back key.times i; time = (ends.1 ∙ sym at) i },
      )),
    )
