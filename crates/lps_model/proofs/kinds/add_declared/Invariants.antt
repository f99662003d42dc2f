use Rattle.std.proofs.Common.{◌≡◌, ◌++◌, take}
use Rattle.lps_model.proofs.kinds.add_declared.Given as goal

-- the declarations so far are copied
abbrev pub invariant-loop-decl : goal.invariant-loop-decl
invariant-loop-decl l = l.decls.items ≡ l.initial.decls.items ++ take l.decl-index l.decl-items
