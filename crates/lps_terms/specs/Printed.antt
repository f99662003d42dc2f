-- The text of a term and of an atom: `f(a, b)`, integers in decimal, a variable as `V` and its number.
use Rattle.std.specs.Prelude.{ℕ, ℤ, ◌≡◌, Bool, true, false, List, [], ◌∷◌, ◌++◌, map, codes, ◌==◌, if◌then◌else◌}
use Rattle.std.specs.Fmt.{decimal, signed_decimal}
use Rattle.std.proofs.Common.{ap}
use Rattle.lps_terms.specs.declared.atom.Atom.{Atom}
use Rattle.lps_terms.specs.declared.term.Term.{Term}
use Rattle.lps_terms.specs.declared.term.Term.TheVariants as t
use Rattle.lps_terms.specs.declared.term.Term.TheOpen.{Term-F}
use Rattle.lps_terms.specs.declared.term.Term.TheFolds.{fold-Term}
use Rattle.lps_terms.specs.Forms.{fold-Int, fold-Sym, fold-App, fold-Var}

-- each piece after a comma and a space
abbrev pub led : List (List ℕ) → List ℕ
led [] = []
led (piece ∷ pieces) = codes ", " ++ (piece ++ led pieces)

-- the pieces, with a comma and a space between each two
abbrev pub separated : List (List ℕ) → List ℕ
separated [] = []
separated (piece ∷ pieces) = piece ++ led pieces

-- what stands before piece i
abbrev pub separator : ℕ → List ℕ
separator i = if i == 0 then [] else codes ", "

-- a name, and after it its arguments in parentheses
abbrev pub call_text : List ℕ → List (List ℕ) → List ℕ
call_text name pieces = name ++ codes "(" ++ separated pieces ++ codes ")"

-- the text of one form, with that of each argument in its place
abbrev pub printed_step : Term-F (List ℕ) → List ℕ
printed_step (Term-F.Int z) = signed_decimal z
printed_step (Term-F.Sym name) = name
printed_step (Term-F.App name pieces) = call_text name pieces
printed_step (Term-F.Var v) = codes "V" ++ decimal v

-- the text of a term
abbrev pub printed : Term → List ℕ
printed = fold-Term (List ℕ) printed_step

-- the text of a predicate with these arguments: without parentheses where there are none
abbrev pub applied_text : List ℕ → List Term → List ℕ
applied_text name [] = name
applied_text name (x ∷ xs) = call_text name (map printed (x ∷ xs))

-- the text of an atom
abbrev pub atom_text : Atom → List ℕ
atom_text a = applied_text a.name a.args

-- what stands before an atom of a list: a space before the first, and a comma and a space before a later one
abbrev pub before_atom : Bool → List ℕ
before_atom false = codes " "
before_atom true = codes ", "

-- atoms one after the other; `later` says that one stands before them
abbrev pub listed_from : Bool → List Atom → List ℕ
listed_from later [] = []
listed_from later (atom ∷ atoms) = before_atom later ++ atom_text atom ++ listed_from true atoms

-- an atom without arguments is its name
pub atom_text-name : (a : Atom) → a.args ≡ [] → atom_text a ≡ a.name
atom_text-name a e = ap (applied_text a.name) e

pub printed-Int : (z : ℤ) → printed (t.Int z) ≡ signed_decimal z
printed-Int = fold-Int (List ℕ) printed_step

pub printed-Sym : (n : List ℕ) → printed (t.Sym n) ≡ n
printed-Sym = fold-Sym (List ℕ) printed_step

pub printed-App : (n : List ℕ) (ts : List Term) → printed (t.App n ts) ≡ call_text n (map printed ts)
printed-App = fold-App (List ℕ) printed_step

pub printed-Var : (v : ℕ) → printed (t.Var v) ≡ codes "V" ++ decimal v
printed-Var = fold-Var (List ℕ) printed_step
