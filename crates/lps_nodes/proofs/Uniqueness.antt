-- A cycle has one list of keys, and a node proposes one group at most.
use Rattle.std.proofs.Common.{ℕ, ◌≡◌, List, [], ◌∷◌, ◌∙◌, sym, ap, subst}
use Rattle.std.specs.Prelude.{◌++◌, Contains}
use Rattle.lps_terms.specs.declared.atom.Atom.{Atom}
use Rattle.lps_terms.specs.declared.text.Text.{Text}
use Rattle.lps_terms.specs.OrderLaws.{atom_cmp_total, atom_cmp-IsAntisymmetric}
use Rattle.lps_model.proofs.Elements.{sorted_same}
use Rattle.lps_model.specs.declared.trace.Trace.{Trace}
use Rattle.lps_meaning.specs.declared.goal.GoalKey.{GoalKey}
use Rattle.lps_meaning.specs.declared.node.Left.{Left}
use Rattle.lps_meaning.specs.declared.node.Node.{Node}
use Rattle.lps_meaning.proofs.Numbers.{key_cmp_total, key_cmp-IsAntisymmetric}
use Rattle.lps_nodes.specs.NextSteps.{IsProposed, atoms_behind, atoms_of}
use Rattle.lps_nodes.specs.Plans.{AreKeysOf}

pub keys_unique : (text : Text) (level : List ℕ → ℕ) (trace : Trace) (cycle : ℕ) (keys others : List GoalKey) → AreKeysOf text level trace cycle keys → AreKeysOf text level trace cycle others → keys ≡ others
keys_unique text level trace cycle keys others s t =
    sorted_same key_cmp_total key_cmp-IsAntisymmetric keys others s.sorted t.sorted
    (λ q among. (t.exact q).1 ((s.exact q).0 among)) (λ q among. (s.exact q).1 ((t.exact q).0 among))

-- the atoms of the group that is the next step
abbrev next_atoms : Text → List Left → List Atom
next_atoms text [] = []
next_atoms text (first ∷ behind) = atoms_of first.item ++ atoms_behind text first.item behind

spelled : (text : Text) (now : ℕ) (node : Node) (group : List Atom) (p : IsProposed text now node group) → next_atoms text node.rest ≡ p.atom ∷ atoms_behind text p.first.item p.behind
spelled text now node group p = ap (next_atoms text) p.is_first ∙ ap (λ item. atoms_of item ++ atoms_behind text p.first.item p.behind) p.item

pub proposals_unique : (text : Text) (now : ℕ) (node : Node) (group other : List Atom) → IsProposed text now node group → IsProposed text now node other → group ≡ other
proposals_unique text now node group other p r =
    let same = sym (spelled text now node group p) ∙ spelled text now node other r in
    sorted_same atom_cmp_total atom_cmp-IsAntisymmetric group other p.sorted r.sorted
    (λ a among. (r.exact a).1 (subst (λ atoms. Contains atoms a) same ((p.exact a).0 among)))
    (λ a among. (p.exact a).1 (subst (λ atoms. Contains atoms a) (sym same) ((r.exact a).0 among)))
