-- What is left behind an item, put together.
use Rattle.std.proofs.Common.{ℕ, Bool, ◌≡◌, ◌∙◌, ap, subst}
use Rattle.std.specs.List.{AllByRecursion, filter}
use Rattle.lps_terms.specs.declared.term.Term.{Term}
use Rattle.lps_meaning.specs.declared.node.LeftItem.{LeftItem}
use Rattle.lps_meaning.specs.declared.node.Node.{Node}
use Rattle.lps_meaning.specs.declared.when.When.{When}
use Rattle.lps_residual.specs.Limits.{IsOpenOrTrue, is_open, with_limits}
use Rattle.lps_meeting.specs.declared.stage.Stage.{Stage}
use Rattle.lps_meeting.specs.Steps.{before_then, is_span, limits_with, node_behind, stage_behind}

module _ (stage : Stage) (time : ℕ) (s : ℕ → Term) (w : ℕ → When) (item : LeftItem) (whole : Node) (is : whole ≡ node_behind stage time s w item) where
  pub stage_is : (node : Node) (before : ℕ) (joins : Bool) → node ≡ with_limits whole (filter is_open whole.limits) → before ≡ before_then stage.before time item → joins ≡ is_span item →
      ◌≡◌ {A = Stage} (record { node = node; before = before; joins = joins }) (stage_behind stage time s w item)
  stage_is node before joins one two three = λ i. record { node = (one ∙ ap (λ (n : Node). with_limits n (filter is_open n.limits)) is) i; before = two i; joins = three i }

  pub limits_are : AllByRecursion IsOpenOrTrue whole.limits → AllByRecursion IsOpenOrTrue (limits_with stage w)
  limits_are = subst (λ (n : Node). AllByRecursion IsOpenOrTrue n.limits) is
