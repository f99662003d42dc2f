-- How far down a search may go: a number for each goal that is higher than those of the goals that its clauses call.
use Rattle.std.specs.Prelude.{ℕ, ◌+◌, ◌*◌, List, [], ◌∷◌, length, max, min, Option, None, Some, if◌then◌else◌}
use Rattle.lps_terms.specs.declared.atom.Atom.{Atom}
use Rattle.lps_terms.specs.declared.cond.Cond.{Cond}
use Rattle.lps_terms.specs.declared.cond.Cond.TheVariants as c
use Rattle.lps_terms.specs.declared.decl.Decl.{Decl}
use Rattle.lps_terms.specs.declared.term.Term.{Term}
use Rattle.lps_terms.specs.declared.text.Text.{Text}
use Rattle.lps_terms.specs.Symbols.{symbols_of}
use Rattle.lps_model.specs.Calls.{is_called, starred_of}
use Rattle.lps_model.specs.Declarations.{kind_among}
use Rattle.lps_model.specs.Levels.{level_among}
use Rattle.lps_model.specs.VariableLists.{term_vars}
use Rattle.lps_model.specs.Clauses.{Clause, clauses}
use Rattle.lps_derivation.specs.Instances.{put_cond}

-- what is left to descend on a term with these variables and so many symbols: its symbols once it is closed, and at most 1,024
abbrev pub left_on : List ℕ → ℕ → ℕ
left_on [] symbols = min symbols 1024
left_on (v ∷ vars) symbols = 1024

-- the same of the argument that is marked `*`
abbrev pub left_on_starred : Option Term → ℕ
left_on_starred None = 0
left_on_starred (Some x) = left_on (term_vars x) (symbols_of x)

-- over some declarations and levels of names
module _ (decls : List Decl) (levels : List (List ℕ × ℕ)) where
  -- the height of a goal: by its level first, and then by what is left to descend on
  abbrev pub height_of : Atom → ℕ
  height_of goal = if is_called (kind_among decls goal.name) then 1 + level_among levels goal.name * 1025 + left_on_starred (starred_of decls goal) else 0

  -- more than the height of the goal of a condition
  abbrev pub weight_of : Cond → ℕ
  weight_of (c.Lit l) = 1 + height_of l.atom
  weight_of (c.Built built) = 0

  -- the greatest weight of the conditions, with s of each variable in its place
  abbrev pub weights_of : (ℕ → Term) → List Cond → ℕ
  weights_of s [] = 0
  weights_of s (cond ∷ conds) = max (weight_of (put_cond s cond)) (weights_of s conds)

-- the greatest number of conditions of a clause
abbrev pub most_conditions : List Clause → ℕ
most_conditions [] = 0
most_conditions (k ∷ program) = max (length k.conds) (most_conditions program)

-- how many steps a search may take between two heights
abbrev pub stride : Text → ℕ
stride text = 8 * most_conditions (clauses text) + 16
