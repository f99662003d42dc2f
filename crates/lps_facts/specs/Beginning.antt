-- How a pattern begins: with its name, the number of its arguments, and the arguments before the first that has a variable.
-- Facts that begin so lie side by side in the order of atoms, and the instances of the pattern are among them.
use Rattle.std.specs.Prelude.{ℕ, ℤ, ◌≡◌, ◌&&◌, Bool, true, false, cond, List, [], ◌∷◌, length}
use Rattle.std.specs.List.{list_all}
use Rattle.std.proofs.Common.{◌∙◌}
use Rattle.std.proofs.lemmas.List.Folds.{list_all-map}
use Rattle.lps_terms.specs.declared.atom.Atom.{Atom}
use Rattle.lps_terms.specs.declared.term.Term.{Term}
use Rattle.lps_terms.specs.declared.term.Term.TheVariants as t
use Rattle.lps_terms.specs.declared.term.Term.TheOpen.{Term-F}
use Rattle.lps_terms.specs.declared.term.Term.TheFolds.{fold-Term}
use Rattle.lps_terms.specs.Forms.{fold-Int, fold-Sym, fold-App, fold-Var}
use Rattle.lps_terms.specs.Order.{term_eq}

-- whether one form has no variables, with whether each argument has none in its place
abbrev pub fixed_step : Term-F Bool → Bool
fixed_step (Term-F.Int z) = true
fixed_step (Term-F.Sym name) = true
fixed_step (Term-F.App name args) = list_all (λ arg. arg) args
fixed_step (Term-F.Var v) = false

-- whether a term has no variables
abbrev pub is_fixed : Term → Bool
is_fixed = fold-Term Bool fixed_step

pub is_fixed-Int : (z : ℤ) → is_fixed (t.Int z) ≡ true
is_fixed-Int = fold-Int Bool fixed_step

pub is_fixed-Sym : (n : List ℕ) → is_fixed (t.Sym n) ≡ true
is_fixed-Sym = fold-Sym Bool fixed_step

pub is_fixed-App : (n : List ℕ) (ts : List Term) → is_fixed (t.App n ts) ≡ list_all is_fixed ts
is_fixed-App n ts = fold-App Bool fixed_step n ts ∙ list_all-map (λ arg. arg) is_fixed ts

pub is_fixed-Var : (v : ℕ) → is_fixed (t.Var v) ≡ false
is_fixed-Var = fold-Var Bool fixed_step

-- the terms with the least term, a variable, in the place of the first that has a variable and of all behind it; where one
-- with a variable came before them, in the places of all
abbrev pub least_of : Bool → List Term → List Term
least_of fixed [] = []
least_of fixed (x ∷ xs) = cond (fixed && is_fixed x) x (t.Var 0) ∷ least_of (fixed && is_fixed x) xs

-- the least atom that begins as the pattern does
abbrev pub least_atom : Atom → Atom
least_atom pattern = record { name = pattern.name; args = least_of true pattern.args }

-- whether the values begin with the patterns before the first that has a variable
abbrev pub begin_alike : List Term → List Term → Bool
begin_alike [] values = true
begin_alike (x ∷ xs) [] = false
begin_alike (x ∷ xs) (y ∷ ys) = cond (is_fixed x) (term_eq x y && begin_alike xs ys) true

-- the fact begins as the pattern does
abbrev pub BeginsAs : Atom → Atom → Type 0
BeginsAs pattern fact = (pattern.name ≡ fact.name) × (length pattern.args ≡ length fact.args) × (begin_alike pattern.args fact.args ≡ true)
