-- How many symbols a term or an atom has. Each integer, each name and each variable counts one.
use Rattle.std.specs.Prelude.{ℕ, ℤ, ◌+◌, ◌≡◌, List, ◌∷◌, sum, sum_by}
use Rattle.std.proofs.Common.{◌∙◌, ap}
use Rattle.std.proofs.lemmas.List.Sums.{sum-map, sum_by-cons}
use Rattle.lps_terms.specs.declared.atom.Atom.{Atom}
use Rattle.lps_terms.specs.declared.term.Term.{Term}
use Rattle.lps_terms.specs.declared.term.Term.TheVariants as t
use Rattle.lps_terms.specs.declared.term.Term.TheOpen.{Term-F}
use Rattle.lps_terms.specs.declared.term.Term.TheFolds.{fold-Term}
use Rattle.lps_terms.specs.Forms.{fold-Int, fold-Sym, fold-App, fold-Var}

-- the symbols of one form, with those of each argument in its place
abbrev pub symbols_step : Term-F ℕ → ℕ
symbols_step (Term-F.App name counts) = 1 + sum counts
symbols_step _ = 1

-- the symbols of a term
abbrev pub symbols_of : Term → ℕ
symbols_of = fold-Term ℕ symbols_step

-- the symbols of terms together
abbrev pub symbols_of_all : List Term → ℕ
symbols_of_all ts = sum_by symbols_of ts

-- the symbols of an atom
abbrev pub atom_symbols_of : Atom → ℕ
atom_symbols_of a = 1 + symbols_of_all a.args

pub symbols_of-Int : (z : ℤ) → symbols_of (t.Int z) ≡ 1
symbols_of-Int = fold-Int ℕ symbols_step

pub symbols_of-Sym : (n : List ℕ) → symbols_of (t.Sym n) ≡ 1
symbols_of-Sym = fold-Sym ℕ symbols_step

pub symbols_of-App : (n : List ℕ) (ts : List Term) → symbols_of (t.App n ts) ≡ 1 + symbols_of_all ts
symbols_of-App n ts = fold-App ℕ symbols_step n ts ∙ ap (λ k. 1 + k) (sum-map symbols_of ts)

pub symbols_of-Var : (v : ℕ) → symbols_of (t.Var v) ≡ 1
symbols_of-Var = fold-Var ℕ symbols_step

pub symbols_of_all-cons : (x : Term) (xs : List Term) → symbols_of_all (x ∷ xs) ≡ symbols_of x + symbols_of_all xs
symbols_of_all-cons = sum_by-cons symbols_of
