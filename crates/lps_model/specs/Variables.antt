-- Which terms hold a variable.
use Rattle.std.specs.Prelude.{ℕ, ℤ, ◌≡◌, Bool, true, false, List, map}
use Rattle.std.specs.List.{list_any}
use Rattle.lps_terms.specs.declared.atom.Atom.{Atom}
use Rattle.lps_terms.specs.declared.term.Term.{Term}
use Rattle.lps_terms.specs.declared.term.Term.TheVariants as t
use Rattle.lps_terms.specs.declared.term.Term.TheOpen.{Term-F}
use Rattle.lps_terms.specs.declared.term.Term.TheFolds.{fold-Term}
use Rattle.lps_terms.specs.Forms.{fold-Int, fold-Sym, fold-App, fold-Var}

-- a variable holds one, and a function where one of its arguments does
abbrev pub variable_step : Term-F Bool → Bool
variable_step (Term-F.App name bs) = list_any (λ b. b) bs
variable_step (Term-F.Var number) = true
variable_step _ = false

-- whether a term holds a variable
abbrev pub has_variable : Term → Bool
has_variable = fold-Term Bool variable_step

-- whether one of these terms holds a variable
abbrev pub have_variables : List Term → Bool
have_variables ts = list_any (λ b. b) (map has_variable ts)

pub variable_in_int : (z : ℤ) → has_variable (t.Int z) ≡ false
variable_in_int = fold-Int Bool variable_step

pub variable_in_sym : (n : List ℕ) → has_variable (t.Sym n) ≡ false
variable_in_sym = fold-Sym Bool variable_step

pub variable_in_app : (n : List ℕ) (ts : List Term) → has_variable (t.App n ts) ≡ have_variables ts
variable_in_app = fold-App Bool variable_step

pub variable_in_var : (v : ℕ) → has_variable (t.Var v) ≡ true
variable_in_var = fold-Var Bool variable_step

-- whether one of these atoms holds a variable
abbrev pub hold_variables : List Atom → Bool
hold_variables atoms = list_any (λ atom. have_variables atom.args) atoms
