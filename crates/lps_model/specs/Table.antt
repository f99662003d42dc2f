-- Tables of declarations by name.
use Rattle.std.specs.Prelude.{◌≡◌, ℕ, List, Option}
use Rattle.std.specs.Map.{lookup}
use Rattle.std.specs.Str.{bytes_eq}
use Rattle.lps_terms.specs.declared.decl.Decl.{Decl}
use Rattle.lps_model.specs.Declarations.{decl_among}

-- the declaration that a table has for a name
abbrev pub decl_named : List (List ℕ × Decl) → List ℕ → Option Decl
decl_named table name = lookup (bytes_eq name) table

-- the table has for each name its first declaration, and nothing for other names
pub record IsTableOf (decls : List Decl) (table : List (List ℕ × Decl)) : Type 0 where
  pub first : (name : List ℕ) → decl_named table name ≡ decl_among decls name
