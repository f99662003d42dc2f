use Rattle.lps_facts.specs.Matching.{MatchesFirst}
use Rattle.lps_facts.proofs.matching.+matching.Given as goal

-- what is known says that the patterns so far are the values
abbrev pub invariant-match_all-loop-i : goal.invariant-match_all-loop-i
invariant-match_all-loop-i l = MatchesFirst l.i l.fn.known l.known l.patterns l.values
