-- Laws of names: what a text may give as a name is a name.
use Rattle.std.specs.Prelude.{ℕ, Bool, true, false, List, [], ◌∷◌, length, nat_lt, not, ◌&&◌, IsTrue}
use Rattle.std.proofs.Common.{arith}
use Rattle.std.proofs.lemmas.Bool.Decides.{nat_tests}
use Rattle.lps_terms.specs.Names.{is_lower_byte, is_name, is_proper_name}

pick : (some low short words free : Bool) → IsTrue some → IsTrue (low && short && words && not free) → IsTrue (some && short && words)
pick true true true true false e h = h
pick true true true true true e h = absurd (cc)
pick true true true false free e h = absurd (cc)
pick true true false words free e h = absurd (cc)
pick true false short words free e h = absurd (cc)
pick false low short words free e h = absurd (cc)

some_first : (first : ℕ) (rest : List ℕ) → IsTrue (nat_lt 0 (length (first ∷ rest)))
some_first first rest = grind (arith, nat_tests)

pub proper_is_name : (bytes : List ℕ) → IsTrue (is_proper_name bytes) → IsTrue (is_name bytes)
unfolding is_proper_name is_name
proper_is_name [] h = absurd (cc)
proper_is_name (first ∷ rest) h = pick (nat_lt 0 (length (first ∷ rest))) (is_lower_byte first) _ _ _ (some_first first rest) h
