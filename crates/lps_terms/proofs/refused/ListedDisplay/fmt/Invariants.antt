use Rattle.std.proofs.Common.{take}
use Rattle.std.specs.Fmt.{HasWritten, IsPlainFormatter}
use Rattle.lps_terms.specs.Printed.{led}
use Rattle.lps_terms.proofs.refused.ListedDisplay.fmt.Given as goal

-- the names so far after the first
abbrev pub invariant-loop-name : goal.invariant-loop-name
invariant-loop-name g l =
    IsPlainFormatter l.initial.f → HasWritten g.W.Write.write_str_gives l.initial.f (led (take l.name-index l.rest)) l.f
