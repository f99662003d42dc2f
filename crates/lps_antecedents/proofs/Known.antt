-- All that an instance that ended carries is known: it is what the key of a goal gives back.
use Rattle.std.proofs.Common.{ℕ, ◌≡◌, ◌∙◌, List, [], ◌∷◌, map, refl, sym, ap}
use Rattle.lps_meaning.specs.declared.goal.GoalKey.{GoalKey}
use Rattle.lps_meaning.specs.declared.node.Carry.{Carry}
use Rattle.lps_meaning.specs.declared.when.When.TheVariants.{Known}
use Rattle.lps_meaning.specs.Sequences.{Times}
use Rattle.lps_nodes.specs.Plans.{key_carry}
use Rattle.lps_nodes.specs.Shapes.{all_known}
use Rattle.lps_antecedents.specs.Gathered.{key_of, numbers_in}

pub numbers_back : (ns : List ℕ) → ns ≡ numbers_in (map (λ n. Known n) ns)
numbers_back [] = refl
numbers_back (n ∷ ns) = ap (λ more. n ∷ more) (numbers_back ns)

known_back : (t : Times) (ns : List ℕ) → map (λ n. Known n) (numbers_in (map (all_known t 0) ns)) ≡ map (all_known t 0) ns
known_back t [] = refl
known_back t (n ∷ ns) = ap (λ more. Known (t 0 n) ∷ more) (known_back t ns)

pub carry_back : (t : Times) (ns : List ℕ) (rule time : ℕ) (carry : Carry) (key : GoalKey) → carry.times ≡ map (all_known t 0) ns → key ≡ key_of rule time carry → key_carry key ≡ carry
carry_back t ns rule time carry key known is =
    let times : map (λ n. Known n) key.times ≡ carry.times =
    ap (λ (k : GoalKey). map (λ n. Known n) k.times) is ∙ ap (λ whens. map (λ n. Known n) (numbers_in whens)) known ∙ known_back t ns ∙ sym known in
    λ i. record { values = (is i).values; times = times i }
