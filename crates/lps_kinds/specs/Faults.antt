-- What each fault of a name is, by the definitions of the text.
use Rattle.std.specs.Prelude.{ℕ, Bool, List, Option}
use Rattle.lps_terms.specs.declared.decl.Decl.{Decl}
use Rattle.lps_terms.specs.declared.refused.Refused.{Refused}
use Rattle.lps_terms.specs.declared.refused.Refused.TheVariants as r
use Rattle.lps_model.specs.declared.occurrence.Occurrence.{Occurrence}
use Rattle.lps_model.specs.KindRefusals.{is_undeclared, is_wrong_arity, is_wrong_kind, first_where, refused_by}
use Rattle.lps_kinds.specs.declared.fault.Fault.{Fault}
use Rattle.lps_kinds.specs.declared.fault.Fault.TheVariants as f

-- whether an occurrence has the fault, where its name has this declaration
abbrev pub is_fault : Fault → Occurrence → Option Decl → Bool
is_fault f.Undeclared o found = is_undeclared found
is_fault f.WrongArity o found = is_wrong_arity o.count found
is_fault f.WrongKind o found = is_wrong_kind o.place found

-- the refusal of the fault at a line and a name
abbrev pub refusal_of : Fault → ℕ → List ℕ → Refused
refusal_of f.Undeclared line name = r.Undeclared line name
refusal_of f.WrongArity line name = r.WrongArity line name
refusal_of f.WrongKind line name = r.WrongKind line name

-- the refusal of the first occurrence with the fault
abbrev pub first_refusal : Fault → List Decl → List Occurrence → Option Refused
first_refusal fault decls os = refused_by (refusal_of fault) (first_where (is_fault fault) decls os)
