use Rattle.lps_watch.specs.Watches.{due_of}
use Rattle.lps_watch.proofs.Along.{IsDue}
use Rattle.lps_watch.proofs.Walks.{MayStop, Walked}
use Rattle.lps_watch.proofs.finding.find_due.Given as goal

-- what is found so far, and what is left
abbrev pub invariant-loop-due : goal.invariant-loop-due
invariant-loop-due l = Walked due_of (IsDue l.time) l.dues.keys l.fn.found.keys l.due-iterator l.found.keys × MayStop (IsDue l.time) l.due-iterator
