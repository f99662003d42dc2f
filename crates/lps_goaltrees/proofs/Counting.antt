-- The sizes of goals as they are counted.
use Rattle.std.proofs.Common.{ℕ, ◌≡◌, ◌<◌, ◌+◌, ◌∙◌, ◌++◌, List, [], ◌∷◌, take, length, get_or, refl, sym, ap, arith}
use Rattle.std.specs.Prelude.{Option, Some, None, min, sum_by}
use Rattle.std.specs.List.{cons_option}
use Rattle.std.proofs.lemmas.List.Sums.{sum_by-cons}
use Rattle.lps_nodes.specs.Nodes.{goal_size}
use Rattle.lps_sizes.specs.Sizes.{limited}
use Rattle.lps_goaltrees.specs.declared.goal.Goal.{Goal}
use Rattle.lps_goaltrees.specs.declared.slot.Slot.{Slot}
use Rattle.lps_goaltrees.specs.declared.slot.Which.TheVariants as w
use Rattle.lps_goaltrees.specs.Pursued.{goals_size}
use Rattle.lps_goaltrees.specs.Slots.{goals_of, size_now, size_of, version}
use Rattle.lps_goaltrees.proofs.Lists.{chosen_next}

-- the sum of two counts is the count of the sum
pub counted : (a b : ℕ) → limited (limited a + limited b) ≡ limited (a + b)
counted a b = omega arith

one_more : (goals : List Goal) (one : Option Goal) → goals_size (goals ++ cons_option one []) ≡ goals_size goals + size_of one
one_more [] None = refl
one_more [] (Some goal) = let here = sum_by-cons (λ (g : Goal). goal_size g.key g.nodes) goal [] in omega (arith, here)
one_more (first ∷ goals) one =
    let rest = one_more goals one in
    let here = sum_by-cons (λ (g : Goal). goal_size g.key g.nodes) first goals in
    let more = sum_by-cons (λ (g : Goal). goal_size g.key g.nodes) first (goals ++ cons_option one []) in
    omega (arith, rest, here, more)

pub size_next : (slots : List Slot) (i : ℕ) (slot : Slot) → i < length slots → slot ≡ get_or slots i slot →
    goals_size (goals_of w.Now (take (i + 1) slots)) ≡ goals_size (goals_of w.Now (take i slots)) + size_now slot
size_next slots i slot lt is = ap goals_size (chosen_next (λ (s : Slot). version w.Now s.versions) slots i slot lt is) ∙ one_more (goals_of w.Now (take i slots)) (version w.Now slot.versions)
