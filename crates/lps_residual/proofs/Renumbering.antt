-- Nodes whose variables and unknown times are put by where they first occur are canonical, and those that are so already stay the same.
use Rattle.std.proofs.Common.{ℕ, ◌≡◌, ◌<◌, ◌++◌, List, [], ◌∷◌, length, map, refl, sym, ap, subst, ◌∙◌}
use Rattle.std.specs.List.{AllByRecursion, flat_map}
use Rattle.lps_terms.specs.declared.term.Term.TheVariants as t
use Rattle.lps_model.specs.VariableLists.{term_vars}
use Rattle.lps_meaning.specs.declared.node.Node.{Node}
use Rattle.lps_meaning.specs.declared.when.When.TheVariants.{Unknown}
use Rattle.lps_meaning.proofs.Occurrences.{all_to, vars-Var}
use Rattle.lps_nodes.specs.Nodes.{left_in}
use Rattle.lps_nodes.specs.Shapes.{IsCanonical, Shape, is_numbered, shape_unknowns, shape_vars, unknowns}
use Rattle.lps_nodes.proofs.OwnShapes.{own, own_shape, own_time}
use Rattle.lps_nodes.proofs.ShapeTerms.{same_shape, unknowns_of_put, vars_of_put}
use Rattle.lps_unify.specs.Canonical.{place_of, renumbered}
use Rattle.lps_residual.specs.Numbered.{canonical_node, seen_unknowns, seen_variables}
use Rattle.lps_residual.specs.Putting.{when_renumbered}
use Rattle.lps_residual.proofs.Places.{all_placed, numbers_from, own_places}

renamed : (seen vs : List ℕ) → flat_map (λ v. term_vars (renumbered seen v)) vs ≡ map (place_of seen) vs
renamed seen [] = refl
renamed seen (v ∷ vs) = λ j. vars-Var (place_of seen v) j ++ renamed seen vs j

renamed_times : (seen ks : List ℕ) → flat_map (λ k. unknowns (when_renumbered seen k)) ks ≡ map (place_of seen) ks
renamed_times seen [] = refl
renamed_times seen (k ∷ ks) = ap (λ more. place_of seen k ∷ more) (renamed_times seen ks)

abbrev with_shape : Node → Shape → Node
with_shape node g = record { alternative = node.alternative; rank = node.rank; done = node.done; carry = g.carry; rest = g.rest; limits = g.limits }

pub canonical : (node : Node) → IsCanonical (left_in (canonical_node node))
canonical node = (
  ap (is_numbered 0) (vars_of_put (renumbered (seen_variables node)) (when_renumbered (seen_unknowns node)) (left_in node) ∙ renamed (seen_variables node) (shape_vars (left_in node)))
      ∙ numbers_from [] (shape_vars (left_in node)),
  ap (is_numbered 0) (unknowns_of_put (renumbered (seen_variables node)) (when_renumbered (seen_unknowns node)) (left_in node) ∙ renamed_times (seen_unknowns node) (shape_unknowns (left_in node)))
      ∙ numbers_from [] (shape_unknowns (left_in node)),
)

pub is_canonical : (node other : Node) → other ≡ canonical_node node → IsCanonical (left_in other)
is_canonical node other is = subst (λ n. IsCanonical (left_in n)) (sym is) (canonical node)

-- a node that is canonical is the same in canonical numbers
pub canonical_itself : (node : Node) → IsCanonical (left_in node) → canonical_node node ≡ node
canonical_itself node is =
    let variables = all_to _ (λ v. renumbered (seen_variables node) v ≡ own v) (λ v e. ap (λ n. t.Var n) e) (shape_vars (left_in node)) (own_places (shape_vars (left_in node)) is.0) in
    let times = all_to _ (λ k. when_renumbered (seen_unknowns node) k ≡ own_time k) (λ k e. ap (λ n. Unknown n) e) (shape_unknowns (left_in node)) (own_places (shape_unknowns (left_in node)) is.1) in
    ap (with_shape node)
    (same_shape (renumbered (seen_variables node)) own (when_renumbered (seen_unknowns node)) own_time (left_in node) variables times ∙ own_shape (left_in node))

placed_below : (seen vs : List ℕ) → AllByRecursion (λ v. place_of seen v < length seen) vs → AllByRecursion (λ p. p < length seen) (map (place_of seen) vs)
placed_below seen [] h = tt
placed_below seen (v ∷ vs) h = (h.0, placed_below seen vs h.1)

-- the variables of a node in canonical numbers have numbers below their count
pub variables_below : (node : Node) → AllByRecursion (λ v. v < length (seen_variables node)) (shape_vars (left_in (canonical_node node)))
variables_below node =
    subst (AllByRecursion (λ v. v < length (seen_variables node)))
    (sym (vars_of_put (renumbered (seen_variables node)) (when_renumbered (seen_unknowns node)) (left_in node) ∙ renamed (seen_variables node) (shape_vars (left_in node))))
    (placed_below (seen_variables node) (shape_vars (left_in node)) (all_placed (shape_vars (left_in node))))
