-- The names that have levels.
use Rattle.std.specs.Prelude.{◌≡◌, ℕ, ◌&&◌, List, [], ◌∷◌, ◌++◌, if◌then◌else◌}
use Rattle.std.specs.List.{list_any}
use Rattle.std.specs.Str.{bytes_eq}
use Rattle.lps_terms.specs.declared.decl.Decl.{Decl}
use Rattle.lps_model.specs.Calls.{is_called}
use Rattle.lps_model.specs.Declarations.{kind_among}
use Rattle.lps_levels.specs.Graphs.{AreApart}

-- the names with one more, where it is not among them
abbrev pub with_name : List (List ℕ) → List ℕ → List (List ℕ)
with_name names name = if list_any (bytes_eq name) names then names else names ++ name ∷ []

-- the timeless, derived and macro names of some declarations, each once
pub record AreCalledAmong (decls seen : List Decl) (names : List (List ℕ)) : Type 0 where
  pub apart : AreApart names
  pub members : (name : List ℕ) → list_any (bytes_eq name) names ≡ (list_any (λ decl. bytes_eq decl.name name) seen && is_called (kind_among decls name))

-- the timeless, derived and macro names, each once
pub record AreCalledNames (decls : List Decl) (names : List (List ℕ)) : Type 0 where
  pub apart : AreApart names
  pub members : (name : List ℕ) → list_any (bytes_eq name) names ≡ is_called (kind_among decls name)
