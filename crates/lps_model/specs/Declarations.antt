-- What a list of declarations says of a name: the first declaration of the name counts.
use Rattle.std.specs.Prelude.{ℕ, List, [], ◌∷◌, Option, Some, None, if◌then◌else◌}
use Rattle.std.specs.Str.{bytes_eq}
use Rattle.lps_terms.specs.declared.decl.Decl.{Decl}
use Rattle.lps_terms.specs.declared.kind.Kind.{Kind}
use Rattle.lps_terms.specs.declared.mode.Mode.{Mode}

-- the first declaration of a name
abbrev pub decl_among : List Decl → List ℕ → Option Decl
decl_among [] name = None
decl_among (d ∷ ds) name = if bytes_eq d.name name then Some d else decl_among ds name

abbrev pub kind_in : Option Decl → Option Kind
kind_in None = None
kind_in (Some decl) = Some decl.kind

abbrev pub arity_in : Option Decl → Option ℕ
arity_in None = None
arity_in (Some decl) = Some decl.arity

abbrev pub modes_in : Option Decl → Option (List Mode)
modes_in None = None
modes_in (Some decl) = Some decl.modes

-- the kind that a name is declared with
abbrev pub kind_among : List Decl → List ℕ → Option Kind
kind_among decls name = kind_in (decl_among decls name)

-- the number of arguments that a name is declared with
abbrev pub arity_among : List Decl → List ℕ → Option ℕ
arity_among decls name = arity_in (decl_among decls name)

-- the modes that a name is declared with
abbrev pub modes_among : List Decl → List ℕ → Option (List Mode)
modes_among decls name = modes_in (decl_among decls name)
