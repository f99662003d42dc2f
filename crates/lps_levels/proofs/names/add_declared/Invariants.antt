use Rattle.std.proofs.Common.{List, ◌++◌, take}
use Rattle.lps_terms.specs.declared.decl.Decl.{Decl}
use Rattle.lps_levels.specs.Names.{AreCalledAmong}
use Rattle.lps_levels.proofs.names.add_declared.Given as goal

-- the names of the declarations so far are there
abbrev pub invariant-loop-decl : goal.invariant-loop-decl
invariant-loop-decl l = (seen : List Decl) → AreCalledAmong l.kinds seen l.initial.names → AreCalledAmong l.kinds (seen ++ take l.decl-index l.decl-items) l.names
