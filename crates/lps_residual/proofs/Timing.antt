-- In canonical numbers the times of a node stay in range.
use Rattle.std.proofs.Common.{ℕ, ◌<◌, List, [], ◌∷◌, ◌++◌, length, map, subst, arith}
use Rattle.std.specs.List.{AllByRecursion, flat_map}
use Rattle.lps_terms.specs.declared.term.Term.{Term}
use Rattle.lps_meaning.specs.declared.node.LeftCon.{LeftCon}
use Rattle.lps_meaning.specs.declared.node.LeftItem.{LeftItem}
use Rattle.lps_meaning.specs.declared.node.LeftItem.TheVariants as l
use Rattle.lps_meaning.specs.declared.node.Node.{Node}
use Rattle.lps_meaning.specs.declared.when.When.{When}
use Rattle.lps_meaning.specs.declared.when.When.TheVariants.{Known, Unknown}
use Rattle.lps_meaning.proofs.Occurrences.{all_front, all_behind, all_joined}
use Rattle.lps_nodes.specs.Nodes.{left_in}
use Rattle.lps_nodes.specs.Shapes.{IsCanonical, left_unknowns, put_left, put_left_con, put_left_item, put_when, shape_unknowns, unknowns}
use Rattle.lps_windows.specs.Windows.{IsTime, IsWithin}
use Rattle.lps_unify.specs.Canonical.{place_of, renumbered}
use Rattle.lps_residual.specs.Moments.{IsTimeOf, IsTimed}
use Rattle.lps_residual.specs.Numbered.{canonical_node, seen_unknowns, seen_variables}
use Rattle.lps_residual.specs.Putting.{when_renumbered}
use Rattle.lps_residual.proofs.Counting.{all_few}
use Rattle.lps_residual.proofs.Places.{all_placed}
use Rattle.lps_residual.proofs.Renumbering.{canonical_itself}

abbrev con_unknowns : LeftCon → List ℕ
con_unknowns con = unknowns con.left ++ unknowns con.right

module _ {X : Type 0} (f : X → List ℕ) (P : ℕ → Type 0) (Q : X → Type 0) where
  -- what each part says of its numbers holds of the numbers of all parts
  all_parts : ((x : X) → Q x → AllByRecursion P (f x)) → (xs : List X) → AllByRecursion Q xs → AllByRecursion P (flat_map f xs)
  all_parts each [] h = tt
  all_parts each (x ∷ xs) h = all_joined P (f x) (flat_map f xs) (each x h.0) (all_parts each xs h.1)

  module _ {Y : Type 0} (g : X → Y) (R : Y → Type 0) where
    -- and what follows for each part from both holds of all parts
    all_put : ((x : X) → AllByRecursion P (f x) → Q x → R (g x)) → (xs : List X) → AllByRecursion P (flat_map f xs) → AllByRecursion Q xs → AllByRecursion R (map g xs)
    all_put each [] h q = tt
    all_put each (x ∷ xs) h q = (each x (all_front P (f x) (flat_map f xs) h) q.0, all_put each xs (all_behind P (f x) (flat_map f xs) h) q.1)

module _ (count : ℕ) where
  abbrev IsBelow : ℕ → Type 0
  IsBelow k = k < count

  when_below : (time : When) → IsTime count time → AllByRecursion IsBelow (unknowns time)
  when_below (Known n) t = tt
  when_below (Unknown k) t = (t, tt)

  item_below : (item : LeftItem) → IsTimeOf count item → AllByRecursion IsBelow (left_unknowns item)
  item_below (l.At lit time) t = when_below time t
  item_below (l.Bare lit) t = tt
  item_below (l.Built built) t = tt
  item_below (l.Span a from to) t = all_joined IsBelow (unknowns from) (unknowns to) (when_below from t.0) (when_below to t.1)

  con_below : (con : LeftCon) → IsWithin count con → AllByRecursion IsBelow (con_unknowns con)
  con_below con t = all_joined IsBelow (unknowns con.left) (unknowns con.right) (when_below con.left t.left) (when_below con.right t.right)

  -- the unknown times of a node whose times are in range
  all_below : (node : Node) → IsTimed count node → AllByRecursion IsBelow (shape_unknowns (left_in node))
  all_below node timed =
      all_joined IsBelow (flat_map unknowns node.carry.times ++ flat_map (λ left. left_unknowns left.item) node.rest) (flat_map con_unknowns node.limits)
      (all_joined IsBelow (flat_map unknowns node.carry.times) (flat_map (λ left. left_unknowns left.item) node.rest)
      (all_parts unknowns IsBelow (IsTime count) when_below node.carry.times timed.carried)
      (all_parts (λ left. left_unknowns left.item) IsBelow (λ left. IsTimeOf count left.item) (λ left. item_below left.item) node.rest timed.items))
      (all_parts con_unknowns IsBelow (IsWithin count) con_below node.limits timed.limits)

  module _ (seen : List ℕ) where
    abbrev IsPlaced : ℕ → Type 0
    IsPlaced k = place_of seen k < length seen

    when_put : (time : When) → AllByRecursion IsPlaced (unknowns time) → IsTime count time → IsTime (length seen) (put_when (when_renumbered seen) time)
    when_put (Known n) p t = t
    when_put (Unknown k) p t = p.0

    item_put : (item : LeftItem) (s : ℕ → Term) → AllByRecursion IsPlaced (left_unknowns item) → IsTimeOf count item → IsTimeOf (length seen) (put_left_item s (when_renumbered seen) item)
    item_put (l.At lit time) s p t = when_put time p t
    item_put (l.Bare lit) s p t = tt
    item_put (l.Built built) s p t = tt
    item_put (l.Span a from to) s p t =
        (when_put from (all_front IsPlaced (unknowns from) (unknowns to) p) t.0, when_put to (all_behind IsPlaced (unknowns from) (unknowns to) p) t.1)

    con_put : (con : LeftCon) → AllByRecursion IsPlaced (con_unknowns con) → IsWithin count con → IsWithin (length seen) (put_left_con (when_renumbered seen) con)
    con_put con p t = record {
      left = when_put con.left (all_front IsPlaced (unknowns con.left) (unknowns con.right) p) t.left;
      right = when_put con.right (all_behind IsPlaced (unknowns con.left) (unknowns con.right) p) t.right;
      low = t.low;
      high = t.high;
    }

-- there are no more unknown times than before, and each has a number below theirs
pub timed_in_numbers : (count : ℕ) (node : Node) → IsTimed count node → IsTimed (length (seen_unknowns node)) (canonical_node node)
timed_in_numbers count node timed =
    let seen = seen_unknowns node in
    let placed = all_placed (shape_unknowns (left_in node)) in
    let times = flat_map unknowns node.carry.times in
    let items = flat_map (λ left. left_unknowns left.item) node.rest in
    let cons = flat_map con_unknowns node.limits in
    let front = all_front (IsPlaced count seen) (times ++ items) cons placed in
    let few = all_few count (shape_unknowns (left_in node)) (all_below count node timed) in
    let most = timed.few in
    record {
      few = omega (arith, few, most);
      items = all_put (λ left. left_unknowns left.item) (IsPlaced count seen) (λ left. IsTimeOf count left.item) (put_left (renumbered (seen_variables node)) (when_renumbered seen))
          (λ left. IsTimeOf (length seen) left.item) (λ left. item_put count seen left.item (renumbered (seen_variables node))) node.rest (all_behind (IsPlaced count seen) times items front) timed.items;
      limits = all_put con_unknowns (IsPlaced count seen) (IsWithin count) (put_left_con (when_renumbered seen)) (IsWithin (length seen)) (con_put count seen) node.limits
          (all_behind (IsPlaced count seen) (times ++ items) cons placed) timed.limits;
      carried = all_put unknowns (IsPlaced count seen) (IsTime count) (put_when (when_renumbered seen)) (IsTime (length seen)) (when_put count seen) node.carry.times
          (all_front (IsPlaced count seen) times items front) timed.carried;
    }

-- the same of a node in canonical numbers
pub timed_as_counted : (count : ℕ) (node : Node) → IsCanonical (left_in node) → IsTimed count node → IsTimed (length (seen_unknowns node)) node
timed_as_counted count node is timed = subst (IsTimed (length (seen_unknowns node))) (canonical_itself node is) (timed_in_numbers count node timed)
