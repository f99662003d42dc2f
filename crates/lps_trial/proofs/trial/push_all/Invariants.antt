use Rattle.std.proofs.Common.{◌≡◌, ◌++◌, take}
use Rattle.lps_trial.proofs.trial.push_all.Given as goal

-- those so far are added
abbrev pub invariant-loop-atom : goal.invariant-loop-atom
invariant-loop-atom l = l.all.items ≡ l.fn.all.items ++ take l.atom-index l.more
