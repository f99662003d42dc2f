-- The nodes of goals: each live plan leaves one, and where alternatives have no macro calls no plan is cut.
use Rattle.std.proofs.Common.{ℕ, true, false, ◌≡◌, List, [], ◌∷◌, ◌∙◌, sym, ap, subst}
use Rattle.std.specs.Prelude.{Option, Some, None}
use Rattle.std.specs.List.{AllByRecursion}
use Rattle.lps_terms.specs.declared.item.Item.{Item}
use Rattle.lps_terms.specs.declared.text.Text.{Text}
use Rattle.lps_model.specs.declared.trace.Trace.{Trace}
use Rattle.lps_model.specs.Rules.{Rule, numbered, rules}
use Rattle.lps_meaning.specs.declared.goal.GoalKey.{GoalKey}
use Rattle.lps_meaning.specs.declared.node.Node.{Node}
use Rattle.lps_meaning.specs.Goals.{HasMetCut, IsCut, IsLive}
use Rattle.lps_meaning.specs.Sequences.{Entry, Place, Times, Values, Walk, stop, pass, replace, entries, is_call}
use Rattle.lps_meaning.proofs.Lists.{number_contained, of_element}
use Rattle.lps_nodes.specs.LedLaws.{IsWithoutCalls}
use Rattle.lps_nodes.specs.Nodes.{IsGoalNode, IsResidual}
use Rattle.lps_nodes.specs.Shapes.{Sequence, alternative_of}
use Rattle.lps_nodes.proofs.Numbering.{residual_there}
use Rattle.lps_nodes.proofs.Reaching.{reach, start_general}
use Rattle.lps_nodes.proofs.ShapeLaws.{fresh_start}
use Rattle.lps_goaltrees.specs.Followed.{AreCallFree, IsCallFree}

pub false_true : false ≡ true → ⊥
false_true e = cc

-- ---- no macro calls

pub entries_no_calls : (text : Text) (env nest : ℕ) (before : Option Item) (items : List Item) → AllByRecursion (λ item. is_call text item ≡ false) items →
    AllByRecursion (λ (e : Entry). is_call text e.item ≡ false) (entries text env nest before items)
entries_no_calls text env nest before [] h = tt
entries_no_calls text env nest before (item ∷ items) h = (h.0, entries_no_calls text env nest (Some item) items h.1)

module _ (text : Text) (level : List ℕ → ℕ) (trace : Trace) (given : List ℕ) (s : Values) (t : Times) where
  -- a walk over what has no macro call comes to no macro call
  walk_no_calls : {now : ℕ} {end place : Place} → Walk text level trace given s t now end place →
      AllByRecursion (λ (e : Entry). is_call text e.item ≡ false) place.left → AllByRecursion (λ (e : Entry). is_call text e.item ≡ false) end.left
  walk_no_calls stop h = h
  walk_no_calls (pass env nest joins item rest left no_call is_true small placed walk) h =
      walk_no_calls walk (subst (λ es. AllByRecursion (λ (e : Entry). is_call text e.item ≡ false) es) left h).1
  walk_no_calls (replace e rest a from to number clause left item macro named values times small walk) h =
      let none = (subst (λ es. AllByRecursion (λ (e : Entry). is_call text e.item ≡ false) es) left h).0 in
      absurd (false_true (sym none ∙ ap (is_call text) item ∙ macro))

module _ (text : Text) (free : AreCallFree text) (level : List ℕ → ℕ) (trace : Trace) (depth : ℕ) (key : GoalKey) where
  -- an alternative of a rule has none
  items_no_calls : (rule : Rule) (n : ℕ) → numbered (rules text) n ≡ Some rule → (number : ℕ) (items : List Item) → numbered rule.alternatives number ≡ Some items →
      IsWithoutCalls text (alternative_of rule items)
  items_no_calls rule n of_text number items of_rule =
      let rule_free : IsCallFree text rule = of_element (IsCallFree text) (rules text) rule free (number_contained (rules text) n rule of_text) in
      of_element (λ items. IsWithoutCalls text (alternative_of rule items)) rule.alternatives items rule_free (number_contained rule.alternatives number items of_rule)

  not_cut : (now : ℕ) (end : Place) → IsCut text level trace depth key now end → ⊥
  not_cut now end cut =
      let r = cut.plan.reaches in
      let none = items_no_calls r.rule key.rule r.of_text r.alternative r.items r.of_rule in
      let left = walk_no_calls text level trace _ r.values r.times r.walk (entries_no_calls text 0 0 None r.items none) in
      let next = subst (λ es. AllByRecursion (λ (e : Entry). is_call text e.item ≡ false) es) cut.plan.on.is_next left in
      false_true (sym next.0 ∙ cut.call)

  pub no_cut_met : (now : ℕ) → HasMetCut text level trace depth key now → ⊥
  no_cut_met now h = not_cut h.1 h.0 h.4

-- ---- live plans

-- something is left of a live plan
pub left_live : (text : Text) (level : List ℕ → ℕ) (trace : Trace) (depth : ℕ) (key : GoalKey) (now : ℕ) (end : Place) (live : IsLive text level trace depth key now end) →
    (node : Node) × (node.alternative ≡ live.plan.reaches.alternative)
    × IsResidual (alternative_of live.plan.reaches.rule live.plan.reaches.items) live.plan.reaches.values live.plan.reaches.times end node
left_live text level trace depth key now end live =
    let r = live.plan.reaches in
    let q : Sequence = alternative_of r.rule r.items in
    let g = start_general text q r.values r.times r.ground key.time in
    let k = reach text q r.values r.times r.ground level trace r.walk (fresh_start text q r.values r.times r.ground level trace key.time q.items) tt tt g.0 g.1 in
    residual_there text q r.values r.times r.ground end k.0 k.2 r.alternative

-- a live plan leaves a node
pub live_node : (text : Text) (level : List ℕ → ℕ) (trace : Trace) (depth : ℕ) (key : GoalKey) (now : ℕ) (end : Place) → IsLive text level trace depth key now end →
    (node : Node) × IsGoalNode text level trace depth key now node
live_node text level trace depth key now end live =
    let n = left_live text level trace depth key now end live in (n.0, record { end = end; live = live; alternative = n.1; residual = n.2 })
