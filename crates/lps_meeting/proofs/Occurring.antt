-- Where each variable and unknown time of a shape occurs in its items, the items decide the shape.
use Rattle.std.proofs.Common.{ℕ, ◌≡◌, List, [], ◌∷◌, ◌++◌, map, ap, subst, inl, inr}
use Rattle.std.specs.Prelude.{Contains}
use Rattle.std.specs.List.{AllByRecursion, flat_map}
use Rattle.lps_terms.specs.declared.term.Term.{Term}
use Rattle.lps_model.proofs.Elements.{first_or_later, nothing_contained}
use Rattle.lps_model.specs.VariableLists.{args_vars}
use Rattle.lps_meaning.specs.declared.node.Left.{Left}
use Rattle.lps_meaning.specs.declared.node.LeftItem.{LeftItem}
use Rattle.lps_meaning.specs.declared.when.When.{When}
use Rattle.lps_meaning.proofs.Occurrences.{all_joined}
use Rattle.lps_nodes.specs.Shapes.{Shape, left_unknowns, left_vars, put_left, put_left_item, unknowns}
use Rattle.lps_nodes.proofs.ShapeTerms.{item_same_unknowns, item_same_vars, same_shape}
use Rattle.lps_residual.specs.Moments.{IsDecided}

-- each number is among these
abbrev pub AreAmong : List ℕ → List ℕ → Type 0
AreAmong others numbers = AllByRecursion (Contains others) numbers

-- what is so of all is so of one of them
of_all : (P : ℕ → Type 0) (vs : List ℕ) (v : ℕ) → AllByRecursion P vs → Contains vs v → P v
of_all P [] v h among = absurd (nothing_contained v among)
of_all P (u ∷ vs) v h among = elim (first_or_later u vs v among) [ inl same ↦ subst P same h.0 | inr later ↦ of_all P vs v h.1 later ]

of_those : (P : ℕ → Type 0) (others vs : List ℕ) → AllByRecursion P others → AreAmong others vs → AllByRecursion P vs
of_those P others [] h among = tt
of_those P others (v ∷ vs) h among = (of_all P others v h among.0, of_those P others vs h among.1)

abbrev pub rest_vars : List Left → List ℕ
rest_vars rest = flat_map (λ left. left_vars left.item) rest

abbrev pub rest_unknowns : List Left → List ℕ
rest_unknowns rest = flat_map (λ left. left_unknowns left.item) rest

module _ (s r : ℕ → Term) (w x : ℕ → When) where
  abbrev item_or : LeftItem → List Left → LeftItem
  item_or item [] = item
  item_or item (left ∷ rest) = left.item

  abbrev behind_first : List Left → List Left
  behind_first [] = []
  behind_first (left ∷ rest) = rest

  -- what makes the items the same agrees on what occurs in them
  pub agree_on : (rest : List Left) → map (put_left s w) rest ≡ map (put_left r x) rest → AllByRecursion (λ v. s v ≡ r v) (rest_vars rest) × AllByRecursion (λ k. w k ≡ x k) (rest_unknowns rest)
  agree_on [] e = (tt, tt)
  agree_on (left ∷ rest) e =
      let here : put_left_item s w left.item ≡ put_left_item r x left.item = ap (item_or left.item) e in
      let more = agree_on rest (ap behind_first e) in (
        all_joined (λ v. s v ≡ r v) (left_vars left.item) (rest_vars rest) (item_same_vars s r w x left.item here) more.0,
        all_joined (λ k. w k ≡ x k) (left_unknowns left.item) (rest_unknowns rest) (item_same_unknowns s r w x left.item here) more.1,
      )

pub decided_by_occurring : (g : Shape) → AreAmong (rest_vars g.rest) (args_vars g.carry.values) →
    AreAmong (rest_unknowns g.rest) (flat_map unknowns g.carry.times) → AreAmong (rest_unknowns g.rest) (flat_map (λ con. unknowns con.left ++ unknowns con.right) g.limits) → IsDecided g
decided_by_occurring g values times limits s r w x e =
    let agree = agree_on s r w x g.rest e in
    let of_limits : List ℕ = flat_map (λ con. unknowns con.left ++ unknowns con.right) g.limits in
    same_shape s r w x g
    (all_joined (λ v. s v ≡ r v) (args_vars g.carry.values) (rest_vars g.rest) (of_those (λ v. s v ≡ r v) (rest_vars g.rest) (args_vars g.carry.values) agree.0 values) agree.0)
    (all_joined (λ k. w k ≡ x k) (flat_map unknowns g.carry.times ++ rest_unknowns g.rest) of_limits
    (all_joined (λ k. w k ≡ x k) (flat_map unknowns g.carry.times) (rest_unknowns g.rest)
    (of_those (λ k. w k ≡ x k) (rest_unknowns g.rest) (flat_map unknowns g.carry.times) agree.1 times) agree.1) (of_those (λ k. w k ≡ x k) (rest_unknowns g.rest) of_limits agree.1 limits))
