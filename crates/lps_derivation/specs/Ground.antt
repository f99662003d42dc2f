-- Ground terms: those that stand in the places of variables.
use Rattle.std.specs.Prelude.{ℕ, ℤ, Bool, false, ◌≡◌, ◌&&◌, nat_lt, nat_le, List, length}
use Rattle.std.specs.List.{list_all}
use Rattle.std.proofs.Common.{◌∙◌, ap}
use Prim.Native.Nat.compare
use lib.Dec.{is_le}
use Rattle.lps_terms.specs.declared.term.Term.{Term}
use Rattle.lps_terms.specs.declared.term.Term.TheVariants as t
use Rattle.lps_terms.specs.Names.{is_proper_name}
use Rattle.lps_model.specs.Formed.{is_formed_term, is_formed-Int, is_formed-Sym, is_formed-App, is_formed-Var}
use Rattle.lps_terms.specs.Integers.{is_i64}

-- a ground term: a well-formed one without variables
abbrev pub is_ground : Term → Bool
is_ground = is_formed_term 0

pub is_ground-Int : (z : ℤ) → is_ground (t.Int z) ≡ is_i64 z
is_ground-Int = is_formed-Int 0

pub is_ground-Sym : (n : List ℕ) → is_ground (t.Sym n) ≡ is_proper_name n
is_ground-Sym = is_formed-Sym 0

pub is_ground-App : (n : List ℕ) (ts : List Term) → is_ground (t.App n ts) ≡ (is_proper_name n && nat_lt 0 (length ts) && nat_le (length ts) 64 && list_all is_ground ts)
is_ground-App = is_formed-App 0

pub is_ground-Var : (v : ℕ) → is_ground (t.Var v) ≡ false
is_ground-Var v = is_formed-Var 0 v ∙ ap is_le (compare.suc-zero v)
