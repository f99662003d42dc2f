-- What waits at a time is the same in traces that agree up to then.
use Rattle.std.proofs.Common.{ℕ, List, sym}
use Rattle.lps_terms.specs.declared.text.Text.{Text}
use Rattle.lps_model.specs.declared.trace.Trace.{Trace}
use Rattle.lps_model.specs.Acceptance.{IsAccepted}
use Rattle.lps_model.specs.Rules.{rules}
use Rattle.lps_meaning.specs.declared.node.Node.{Node}
use Rattle.lps_meaning.proofs.Lists.{number_contained}
use Rattle.lps_nodes.specs.Laws.{WaitingNodesAreNodes}
use Rattle.lps_nodes.specs.LedLaws.{AgreeUpTo, NodesAreThoseOfPrefix}
use Rattle.lps_nodes.specs.Plans.{IsWaiting, antecedent_entrance}
use Rattle.lps_antecedents.specs.Laws.{StandsForPrefixes}

agree_back : (now : ℕ) (trace other : Trace) → AgreeUpTo now trace other → AgreeUpTo now other trace
agree_back now trace other agree = record { initial = sym agree.initial; cycles = λ k le. sym (agree.cycles k le) }

module _ (prefix : NodesAreThoseOfPrefix) (waiting : WaitingNodesAreNodes) (text : Text) (accepted : IsAccepted text) (level : List ℕ → ℕ) (now : ℕ) where
  waits_too : (trace other : Trace) → AgreeUpTo now trace other → (n : ℕ) (node : Node) → IsWaiting text level trace now n node → IsWaiting text level other now n node
  waits_too trace other agree n node w =
      let contained = number_contained (rules text) n w.rule w.of_text in
      record {
        rule = w.rule;
        of_text = w.of_text;
        waits = (waiting text accepted w.rule contained level other 1 now node).1
            (prefix text level now trace other agree 1 (antecedent_entrance w.rule) node ((waiting text accepted w.rule contained level trace 1 now node).0 w.waits));
      }

pub stands_for_prefixes : NodesAreThoseOfPrefix → WaitingNodesAreNodes → StandsForPrefixes
stands_for_prefixes prefix waiting text accepted level now trace other agree held stands = record {
  once = stands.once;
  exact = λ h. (
    λ among. waits_too prefix waiting text accepted level now trace other agree h.rule h.node ((stands.exact h).0 among),
    λ w. (stands.exact h).1 (waits_too prefix waiting text accepted level now other trace (agree_back now trace other agree) h.rule h.node w),
  );
}
