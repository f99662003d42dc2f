-- The order of terms: a variable before an integer, and that before a constant or a function. Variables compare by
-- number and integers by value; constants, functions and atoms by the bytes of the name, then by how many arguments they
-- have, then by the first argument that differs.
use Rattle.std.specs.Prelude.{ℕ, ℤ, Bool, pos, zero, suc, ◌≡◌, List, [], length}
use Rattle.std.specs.declared.cmp.Ordering.{Ordering}
use Rattle.std.specs.Ordering.{nat_cmp, int_cmp, then_cmp, on, eq_by_cmp}
use Rattle.std.specs.Cmp.Lexicographic.{slice_cmp}
use Rattle.lps_terms.specs.declared.atom.Atom.{Atom}
use Rattle.lps_terms.specs.declared.term.Term.{Term, App', items-the_row-Term, items_hidden-the_row-Term-0}
use Rattle.lps_terms.specs.declared.term.Term.TheVariants as t
use Rattle.lps_terms.specs.declared.term.Term.TheVariants.{Int, Sym, Var}
use Rattle.lps_terms.specs.Symbols.{symbols_of}
pub use Rattle.lps_terms.specs.Names.{name_cmp, name_eq}

-- variables come first, then integers, then names
abbrev pub rank_of : Term → ℕ
rank_of (Var v) = 0
rank_of (Int z) = 1
rank_of (Sym n) = 2
rank_of (App' n shape row) = 2

-- the number of a variable
abbrev pub variable_of : Term → ℕ
variable_of (Var v) = v
variable_of _ = 0

-- the value of an integer
abbrev pub integer_of : Term → ℤ
integer_of (Int z) = z
integer_of _ = pos 0

-- the name of a constant or a function
abbrev pub name_of : Term → List ℕ
name_of (Sym n) = n
name_of (App' n shape row) = n
name_of _ = []

-- the arguments of a function
abbrev pub args_of : Term → List Term
args_of (App' n shape row) = items-the_row-Term _ row
args_of _ = []

pub args_of-App : (n : List ℕ) (ts : List Term) → args_of (t.App n ts) ≡ ts
args_of-App n ts = items_hidden-the_row-Term-0 ts

-- a function with no arguments, which no text has, comes after the constant of that name
abbrev pub is_function : Term → ℕ
is_function (App' n shape row) = 1
is_function _ = 0

-- all but the arguments
abbrev pub head_cmp : Term → Term → Ordering
head_cmp = then_cmp (on rank_of nat_cmp) (then_cmp (on variable_of nat_cmp) (then_cmp (on integer_of int_cmp) (then_cmp (on name_of name_cmp)
    (then_cmp (on (λ x. length (args_of x)) nat_cmp) (on is_function nat_cmp)))))

-- the order of terms whose arguments nest at most so deep
abbrev pub cmp_within : ℕ → Term → Term → Ordering
cmp_within zero = head_cmp
cmp_within (suc depth) = then_cmp head_cmp (on args_of (slice_cmp (cmp_within depth)))

-- the order of terms
abbrev pub term_cmp : Term → Term → Ordering
term_cmp x y = cmp_within (symbols_of x) x y

-- the order of atoms
abbrev pub atom_cmp : Atom → Atom → Ordering
atom_cmp = then_cmp (on (λ a. a.name) name_cmp) (then_cmp (on (λ a. length a.args) nat_cmp) (on (λ a. a.args) (slice_cmp term_cmp)))

-- whether terms, or atoms, are equal
abbrev pub term_eq : Term → Term → Bool
term_eq = eq_by_cmp term_cmp

abbrev pub atom_eq : Atom → Atom → Bool
atom_eq = eq_by_cmp atom_cmp
