use Rattle.std.proofs.Common.{◌≡◌, ◌++◌, List}
use Rattle.lps_meaning.specs.Plain.{Ranked}
use Rattle.lps_goaltrees.specs.Offers.{AreFirsts}
use Rattle.lps_goaltrees.proofs.proposing.firsts.Given as goal

-- the groups are the first ones of some, and the others are left
abbrev pub invariant-loop-offer : goal.invariant-loop-offer
invariant-loop-offer l = record {
  some : List Ranked;
  parts : some ++ l.offer-iterator ≡ l.fn.offers.keys;
  are : AreFirsts some l.groups.items;
}
