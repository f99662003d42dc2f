use Rattle.std.proofs.Common.{◌≡◌, ◌<◌, ◌∙◌, List, get_or, length, ap, sym, subst}
use Rattle.lps_cycle.specs.declared.candidates.Candidate.{Candidate}
use Rattle.lps_cycle.specs.Candidates.{groups_of, number_of, proposers_of}
use Rattle.lps_cycle.proofs.RoundsAsked.{groups_at}
use Rattle.lps_cycle.proofs.candidates.Candidates.proposals.Goals as goal

pub returns-in-Some : goal.returns-in-Some
returns-in-Some c =
    let candidates = c.self.inside.candidates.items in
    let place = c.in-Some.place in
    let found : (place < length candidates) × ((d : Candidate) → number_of (get_or candidates place d) ≡ c.args.goal.0) = rw (← c.as_slice.ensures.value) c.in-Some.ensures in
    let same = ap number_of c.index.ensures ∙ found.1 c.index.result.now in
    let at = groups_at candidates c.self.invariant.1 c.args.goal.0 place c.index.result.now found.0 c.index.ensures same in
    c.as_slice-in-Some.ensures ∙ subst (λ (cs : List Candidate). c.index.result.now.proposals ≡ groups_of (proposers_of cs) c.args.goal.0) c.self.view_is (sym at)
