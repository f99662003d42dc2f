-- Items of a text with what is given put in are what is left where the sequence is entered.
use Rattle.std.proofs.Common.{ℕ, ◌≡◌, List, map, sym, ap, subst, ◌∙◌}
use Rattle.std.specs.Prelude.{Option, Some}
use Rattle.std.specs.List.{flat_map}
use Rattle.lps_terms.specs.declared.item.Item.{Item}
use Rattle.lps_terms.specs.declared.term.Term.{Term}
use Rattle.lps_terms.specs.declared.term.Term.TheVariants as t
use Rattle.lps_terms.specs.declared.text.Text.{Text}
use Rattle.lps_terms.specs.Put.{after, put-Var}
use Rattle.lps_meaning.specs.declared.goal.GoalKey.{GoalKey}
use Rattle.lps_meaning.specs.declared.node.Node.{Node}
use Rattle.lps_meaning.specs.declared.when.When.{When}
use Rattle.lps_meaning.specs.declared.when.When.TheVariants.{Unknown}
use Rattle.lps_model.specs.Rules.{Rule, numbered, rules}
use Rattle.lps_nodes.specs.Plans.{Entrance, IsAlternativeEntered, alternative_entrance}
use Rattle.lps_nodes.specs.Shapes.{con_of, left_of, put_left, put_left_con}
use Rattle.lps_nodes.proofs.ShapeLaws.{con_after, flat_after, left_after}
use Rattle.lps_meaning.specs.Goals.{shared_times, shared_values}
use Rattle.lps_residual.specs.Putting.{put_node}
use Rattle.lps_seq.specs.declared.start.Start.{Start}
use Rattle.lps_seq.specs.declared.start.Start.TheVariants as s
use Rattle.lps_seq.specs.Starts.{IsEntered, con_whole_of, entered_node, given_value, given_when, left_whole, left_whole_of}

some_same : {X : Type 0} (x y : X) → Some x ≡ Some y → x ≡ y
some_same x y e = cc

module _ (f : ℕ → Term) (h : ℕ → When) where
  own_after : after f (λ v. t.Var v) ≡ f
  own_after = λ i v. put-Var f v i

  left_put : (item : Item) → map (put_left f h) (left_whole_of item) ≡ left_of f h 0 item
  left_put item = left_after f (λ v. t.Var v) h (λ k. Unknown k) 0 item ∙ ap (λ s. left_of s h 0 item) own_after

  pub rest_put : (items : List Item) → map (put_left f h) (flat_map left_whole_of items) ≡ flat_map (left_of f h 0) items
  rest_put items = flat_after (put_left f h) left_whole_of (left_of f h 0) left_put items

  pub limits_put : (items : List Item) → map (put_left_con h) (flat_map con_whole_of items) ≡ flat_map (con_of h) items
  limits_put items = flat_after (put_left_con h) con_whole_of (con_of h) (λ item. con_after h (λ k. Unknown k) item) items

-- an alternative is entered with what is given put in
pub alternative_is : (rule : Rule) (key : GoalKey) (number : ℕ) (items : List Item) (terms : ℕ → Term) (w : ℕ → When) → ((v : ℕ) → terms v ≡ given_value (shared_values rule) key.values v) →
    ((k : ℕ) → w k ≡ given_when (shared_times rule) key.times k) → (whole : Node) → whole ≡ left_whole items → (node : Node) → node ≡ put_node terms w whole →
    record { alternative = number; rank = node.rank; done = node.done; carry = node.carry; rest = node.rest; limits = node.limits } ≡ entered_node (alternative_entrance rule key number items)
alternative_is rule key number items terms w values times whole is node put_is =
    let f = given_value (shared_values rule) key.values in
    let h = given_when (shared_times rule) key.times in
    let same : node ≡ put_node f h (left_whole items) = put_is ∙ (λ i. put_node (λ v. values v i) (λ k. times k i) (is i)) in
    λ i. record {
      alternative = number;
      rank = (same i).rank;
      done = (same i).done;
      carry = (same i).carry;
      rest = (ap (λ (n : Node). n.rest) same ∙ rest_put f h items) i;
      limits = (ap (λ (n : Node). n.limits) same ∙ limits_put f h items) i;
    }

-- and so it is where the start is one of that alternative
pub entered_by : (text : Text) (start : Start) (key : GoalKey) (number : ℕ) → start ≡ s.Alternative key number → (rule : Rule) → Some rule ≡ numbered (rules text) key.rule → (found : Option Node) →
    ((items : List Item) → numbered rule.alternatives number ≡ Some items → found ≡ Some (entered_node (alternative_entrance rule key number items))) → (e : Entrance) → IsEntered text start e →
    found ≡ Some (entered_node e)
entered_by text start key number is rule of_text found by_items e entered =
    let of : IsAlternativeEntered text key number e = subst (λ z. IsEntered text z e) is entered in
    let same : of.rule ≡ rule = some_same of.rule rule (sym of.of_text ∙ sym of_text) in
    by_items of.items (ap (λ (r : Rule). numbered r.alternatives number) (sym same) ∙ of.of_rule)
    ∙ ap (λ r. Some (entered_node (alternative_entrance r key number of.items))) (sym same) ∙ ap (λ z. Some (entered_node z)) (sym of.entered)
