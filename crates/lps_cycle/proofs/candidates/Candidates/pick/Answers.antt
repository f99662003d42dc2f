use Rattle.std.proofs.Common.{◌≡◌, ◌<◌, ◌∙◌, List, get_or, length, map, set, true, ap, sym, subst}
use Rattle.std.specs.List.Sorted.{IsStrictlySortedBy}
use Rattle.std.specs.Ordering.{nat_cmp}
use Rattle.lps_cycle.specs.declared.candidates.Candidate.{Candidate}
use Rattle.lps_cycle.specs.Candidates.{AreRising, number_of, with_picks}
use Rattle.lps_cycle.proofs.RoundsAsked.{same_goals, same_numbers, set_is, with_flag}
use Rattle.lps_cycle.proofs.candidates.Candidates.pick.Goals as goal

pub invariant_of-self : goal.invariant_of-self
invariant_of-self c =
    let candidates = c.self.inside.candidates.items in
    let place = c.in-Some.place in
    let goal = c.args.goal.0 in
    let item : Candidate = c.index_mut.result.now in
    let found : (place < length candidates) × ((d : Candidate) → number_of (get_or candidates place d) ≡ goal) = rw (← c.as_slice.ensures.value) c.in-Some.ensures in
    let same = ap number_of c.index_mut.ensures.value ∙ found.1 item in
    let is : set candidates place (with_flag true item) ≡ with_picks goal candidates = set_is candidates c.self.invariant.1 goal place item found.0 c.index_mut.ensures.value same in (
      c.self.invariant.0 ∙ sym (ap (λ (cs : List Candidate). map (λ (candidate : Candidate). candidate.goal) cs) is ∙ same_goals goal candidates),
      subst AreRising (sym is) (subst (IsStrictlySortedBy nat_cmp) (sym (same_numbers goal candidates)) c.self.invariant.1),
    )

pub returns-in-Some : goal.returns-in-Some
returns-in-Some c =
    let candidates = c.self.inside.candidates.items in
    let place = c.in-Some.place in
    let goal = c.args.goal.0 in
    let item : Candidate = c.index_mut.result.now in
    let found : (place < length candidates) × ((d : Candidate) → number_of (get_or candidates place d) ≡ goal) = rw (← c.as_slice.ensures.value) c.in-Some.ensures in
    let same = ap number_of c.index_mut.ensures.value ∙ found.1 item in
    set_is candidates c.self.invariant.1 goal place item found.0 c.index_mut.ensures.value same ∙ ap (with_picks goal) c.self.view_is
