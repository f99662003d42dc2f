-- A node in canonical numbers is ready as far as the node was.
use Rattle.std.proofs.Common.{ℕ, List, [], ◌∷◌, map, sym, ◌∙◌, length}
use Rattle.std.specs.List.{AllByRecursion}
use Rattle.lps_terms.specs.declared.term.Term.{Term}
use Rattle.lps_terms.specs.declared.text.Text.{Text}
use Rattle.lps_terms.specs.Put.{after}
use Rattle.lps_meaning.specs.declared.node.Left.{Left}
use Rattle.lps_meaning.specs.declared.node.LeftItem.{LeftItem}
use Rattle.lps_meaning.specs.declared.node.LeftItem.TheVariants as l
use Rattle.lps_meaning.specs.declared.node.Node.{Node}
use Rattle.lps_meaning.specs.declared.when.When.{When}
use Rattle.lps_nodes.specs.Nodes.{left_in}
use Rattle.lps_nodes.specs.Shapes.{Shape, put_left, put_left_item, put_shape}
use Rattle.lps_nodes.proofs.ShapeLaws.{after_when, rest_put, shape_put}
use Rattle.lps_unify.specs.Canonical.{renumbered}
use Rattle.lps_residual.specs.Moments.{HappensOrHolds, IsDecided, IsModedNode, IsReady, IsTimed}
use Rattle.lps_residual.specs.Numbered.{canonical_node, seen_unknowns, seen_variables}
use Rattle.lps_residual.specs.Putting.{put_node, when_renumbered}
use Rattle.lps_residual.proofs.Moding.{moded_put}
use Rattle.lps_residual.proofs.Renumbering.{canonical}
use Rattle.lps_residual.proofs.Timing.{timed_in_numbers}

module _ (s : ℕ → Term) (w : ℕ → When) where
  -- what is decided by the items left is so with s and w put in
  pub decided_put : (g : Shape) → IsDecided g → IsDecided (put_shape s w g)
  decided_put g decided u v x y e =
      shape_put u s x w g ∙ decided (after u s) (after v s) (after_when x w) (after_when y w) (sym (rest_put u s x w g.rest) ∙ e ∙ rest_put v s y w g.rest) ∙ sym (shape_put v s y w g)

  happens_put : (text : Text) (item : LeftItem) → HappensOrHolds text item → HappensOrHolds text (put_left_item s w item)
  happens_put text (l.At lit time) h = tt
  happens_put text (l.Bare lit) h = h
  happens_put text (l.Built built) h = tt
  happens_put text (l.Span a from to) h = h

  -- nor are macro calls put in
  pub no_calls_put : (text : Text) (rest : List Left) → AllByRecursion (λ left. HappensOrHolds text left.item) rest → AllByRecursion (λ left. HappensOrHolds text left.item) (map (put_left s w) rest)
  no_calls_put text [] h = tt
  no_calls_put text (left ∷ rest) h = (happens_put text left.item h.0, no_calls_put text rest h.1)

  -- a node stays moded, where no variable is known
  pub moded_node_put : (text : Text) (node : Node) → IsModedNode text node → IsModedNode text (put_node s w node)
  moded_node_put text node moded =
      record { scope = moded.scope; declared = moded.declared; seen = moded.seen; moded = moded_put s moded.scope w [] [] (λ v e. absurd (cc)) node.rest moded.moded }

pub ready_numbered : (text : Text) (node : Node) (count : ℕ) → IsModedNode text node → IsDecided (left_in node) → IsTimed count node → AllByRecursion (λ left. HappensOrHolds text left.item) node.rest →
    IsReady text (canonical_node node)
ready_numbered text node count moded decided timed no_calls = record {
  canonical = canonical node;
  moded = moded_node_put (renumbered (seen_variables node)) (when_renumbered (seen_unknowns node)) text node moded;
  decided = decided_put (renumbered (seen_variables node)) (when_renumbered (seen_unknowns node)) (left_in node) decided;
  unknowns = length (seen_unknowns node);
  timed = timed_in_numbers count node timed;
  no_calls = no_calls_put (renumbered (seen_variables node)) (when_renumbered (seen_unknowns node)) text node.rest no_calls;
}
