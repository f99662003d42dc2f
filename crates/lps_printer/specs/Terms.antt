-- The canonical text of terms and atoms of a statement: variables stand under their written names.
use Rattle.std.specs.Prelude.{◌≡◌, ℕ, ℤ, Bool, true, false, List, [], ◌∷◌, ◌++◌, map, codes, slice_index_or, if◌then◌else◌}
use Rattle.std.specs.Fmt.{signed_decimal}
use Rattle.lps_terms.specs.declared.atom.Atom.{Atom}
use Rattle.lps_terms.specs.declared.term.Term.{Term}
use Rattle.lps_terms.specs.declared.term.Term.TheVariants as t
use Rattle.lps_terms.specs.declared.term.Term.TheOpen.{Term-F}
use Rattle.lps_terms.specs.declared.term.Term.TheFolds.{fold-Term}
use Rattle.lps_terms.specs.Forms.{fold-Int, fold-Sym, fold-App, fold-Var}

-- pieces with a separator between each two; `later` says that one stands before them
abbrev pub joined : List ℕ → Bool → List (List ℕ) → List ℕ
joined separator later [] = []
joined separator later (piece ∷ pieces) = (if later then separator else []) ++ (piece ++ joined separator true pieces)

-- the pieces of a list
abbrev pub listed : List (List ℕ) → List ℕ
listed pieces = joined (codes ", ") false pieces

-- the written name of a variable or a time
abbrev pub written : List (List ℕ) → ℕ → List ℕ
written names number = slice_index_or names number []

-- a name, and after it its arguments in parentheses
abbrev pub call_text : List ℕ → List (List ℕ) → List ℕ
call_text name pieces = name ++ (codes "(" ++ (listed pieces ++ codes ")"))

-- the text of one form, with that of each argument in its place
abbrev pub term_step : List (List ℕ) → Term-F (List ℕ) → List ℕ
term_step names (Term-F.Int z) = signed_decimal z
term_step names (Term-F.Sym name) = name
term_step names (Term-F.App name pieces) = call_text name pieces
term_step names (Term-F.Var v) = written names v

-- the text of a term
abbrev pub term_text : List (List ℕ) → Term → List ℕ
term_text names = fold-Term (List ℕ) (term_step names)

-- the text of a predicate with these arguments: without parentheses where there are none
abbrev pub applied_text : List (List ℕ) → List ℕ → List Term → List ℕ
applied_text names name [] = name
applied_text names name (x ∷ xs) = call_text name (map (term_text names) (x ∷ xs))

-- the text of an atom
abbrev pub atom_text : List (List ℕ) → Atom → List ℕ
atom_text names a = applied_text names a.name a.args

pub term_text-Int : (names : List (List ℕ)) (z : ℤ) → term_text names (t.Int z) ≡ signed_decimal z
term_text-Int names = fold-Int (List ℕ) (term_step names)

pub term_text-Sym : (names : List (List ℕ)) (n : List ℕ) → term_text names (t.Sym n) ≡ n
term_text-Sym names = fold-Sym (List ℕ) (term_step names)

pub term_text-App : (names : List (List ℕ)) (n : List ℕ) (ts : List Term) → term_text names (t.App n ts) ≡ call_text n (map (term_text names) ts)
term_text-App names = fold-App (List ℕ) (term_step names)

pub term_text-Var : (names : List (List ℕ)) (v : ℕ) → term_text names (t.Var v) ≡ written names v
term_text-Var names = fold-Var (List ℕ) (term_step names)
