use Rattle.std.proofs.Common.{rules, sym, subst, ◌≡◌, ◌<◌, length}
use Rattle.std.specs.Prelude.{Contains, MatchOption, Option, ℕ}
use Rattle.std.specs.List.{HoldsAt}
use Rattle.std.proofs.lemmas.List.Sorted.{answers_always}
use Rattle.lps_cycle.specs.declared.candidates.Candidate.{Candidate}
use Rattle.lps_cycle.specs.Candidates.{number_of, numbers_of}
use Rattle.lps_cycle.proofs.RoundsAsked.{found_place}
use Rattle.lps_cycle.proofs.candidates.place_of.Goals as goal

pub returns : goal.returns
returns c =
    let candidates = c.args.candidates.now in
    let goal = c.args.goal.0 in
    let facts = c.binary_search_by_key.ensures in
    let by_key = facts.position (λ (candidate : Candidate). candidate.goal.0) (answers_always _ _ _ (λ f a r g called. search rules)) in
    subst (λ (found : Option ℕ). MatchOption found (Contains (numbers_of candidates) goal → ⊥) (λ place. (place < length candidates) × HoldsAt (λ candidate. number_of candidate ≡ goal) candidates place))
    (sym c.ok.ensures.value) (found_place candidates c.requires.rising goal c.binary_search_by_key.result facts.bound by_key)
