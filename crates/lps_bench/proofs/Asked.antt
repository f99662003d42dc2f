-- What a search asks for, from tests on facts and variables.
use Rattle.std.proofs.Common.{ℕ, true, ◌≡◌, ◌+◌, ◌<◌, List, [], ◌∷◌, sym, subst, arith, inl, inr}
use Rattle.std.specs.Prelude.{◌⊎◌, Contains}
use Rattle.std.specs.List.{AllByRecursion, list_all}
use Rattle.lps_terms.specs.declared.atom.Atom.{Atom}
use Rattle.lps_model.proofs.Elements.{first_or_later, nothing_contained}
use Rattle.lps_derivation.specs.Ground.{is_ground}
use Rattle.lps_solve.specs.Met.{AreGround}
use Rattle.lps_solve.proofs.Grounds.{first_of_two, second_of}

-- each of some facts that pass the test is ground
pub each_is_ground : (facts : List Atom) → list_all (λ (fact : Atom). list_all is_ground fact.args) facts ≡ true → (a : Atom) → Contains facts a → AreGround a.args
each_is_ground [] h a at = absurd (nothing_contained a at)
each_is_ground (fact ∷ facts) h a at = by (each_is_ground facts (second_of (list_all is_ground fact.args) (list_all (λ (fact : Atom). list_all is_ground fact.args) facts) h) a) (first_or_later fact facts a at)
  where
    by : (Contains facts a → AreGround a.args) → (fact ≡ a) ⊎ Contains facts a → AreGround a.args
    by later (inl same) = subst (λ (b : Atom). AreGround b.args) same (first_of_two (list_all is_ground fact.args) (list_all (λ (fact : Atom). list_all is_ground fact.args) facts) h)
    by later (inr rest) = later rest

-- variables below a number are among so many
pub below : (vars : List ℕ) (n count : ℕ) → count ≡ n → AllByRecursion (λ v. v < n) vars → AllByRecursion (λ v. 0 + v < count) vars
below [] n count same h = tt
below (v ∷ vars) n count same h = (subst (λ m. 0 + v < m) (sym same) (omega (arith, h.0)), below vars n count same h.1)
