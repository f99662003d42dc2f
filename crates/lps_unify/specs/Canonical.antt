-- Terms with their variables numbered anew, by where they first occur.
use Rattle.std.specs.Prelude.{ℕ, List, [], ◌∷◌, ◌++◌, map, length, nat_eq, nat_lt, if◌then◌else◌}
use Rattle.std.specs.List.{position_or_len}
use Rattle.lps_terms.specs.declared.term.Term.{Term}
use Rattle.lps_terms.specs.declared.term.Term.TheVariants as t
use Rattle.lps_terms.specs.declared.term.Term.TheOpen.{Term-F}
use Rattle.lps_terms.specs.declared.term.Term.TheFolds.{fold-Term}
use Rattle.lps_terms.specs.Put.{put}

-- all lists one after another
abbrev pub joined : List (List ℕ) → List ℕ
joined [] = []
joined (vs ∷ rest) = vs ++ joined rest

-- the variables of one form, with those of each argument in its place
abbrev pub variables_step : Term-F (List ℕ) → List ℕ
variables_step (Term-F.App name lists) = joined lists
variables_step (Term-F.Var v) = v ∷ []
variables_step _ = []

-- the variables of a term, each where it occurs
abbrev pub variables_of : Term → List ℕ
variables_of = fold-Term (List ℕ) variables_step

-- the variables of terms, one term after another
abbrev pub variables_of_all : List Term → List ℕ
variables_of_all ts = joined (map variables_of ts)

-- the place of v among those seen, or how many there are
abbrev pub place_of : List ℕ → ℕ → ℕ
place_of seen v = position_or_len (λ w. nat_eq w v) seen

-- those seen, and v after them where it is new
abbrev pub with_variable : List ℕ → ℕ → List ℕ
with_variable seen v = if nat_lt (place_of seen v) (length seen) then seen else seen ++ v ∷ []

-- those seen, and after them each that is new, once
abbrev pub first_seen : List ℕ → List ℕ → List ℕ
first_seen seen [] = seen
first_seen seen (v ∷ vs) = first_seen (with_variable seen v) vs

-- a variable is its place among those seen
abbrev pub renumbered : List ℕ → ℕ → Term
renumbered seen v = t.Var (place_of seen v)

-- terms with their variables numbered by where they first occur
abbrev pub canonical_of : List Term → List Term
canonical_of ts = map (put (renumbered (first_seen [] (variables_of_all ts)))) ts
