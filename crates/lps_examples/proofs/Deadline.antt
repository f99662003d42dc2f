-- The deadline: a goal whose action is not done is pending until it is too late.
use Rattle.std.proofs.Common.{ℕ, zero, suc, ◌≤◌, [], refl, arith}
use Rattle.std.specs.Prelude.{pos, ◌+ℤ◌, ◌≤ℤ◌, Contains, codes}
use Rattle.std.proofs.lemmas.Int.{ints}
use Rattle.lps_model.specs.Trace.{events_at}
use Rattle.lps_model.proofs.Elements.{nothing_contained, first_is_contained}
use Rattle.lps_examples.specs.Examples.{event_e, action_a, deadline_text, deadline_trace, DeadlineExample}
use Rattle.lps_examples.proofs.DueRules as d
use Rattle.lps_examples.proofs.DueRules.{Due}
use Rattle.lps_examples.proofs.ExampleWalks.{other_letter, only_one}

pub too_late : (n : ℕ) → 3 ≤ n → pos (suc n) ≤ℤ pos 3 → ⊥
too_late n ahead bound = omega (arith, ints)

pub in_time : (c : ℕ) → c ≤ 2 → pos (suc c) ≤ℤ (pos 1 +ℤ pos 2)
in_time c le = omega (arith, ints)

abbrev due_a : Due deadline_text
due_a = record { number = 1; event = codes "e"; action = codes "a"; plus = 2; of_text = refl; event_kind = refl; action_kind = refl }

-- a does not happen
never : (k : ℕ) → Contains (events_at deadline_trace k) action_a → ⊥
never zero h = nothing_contained _ h
never (suc zero) h = other_letter event_e action_a 101 97 refl refl (λ e. omega (arith, e)) (only_one event_e action_a h)
never (suc (suc zero)) h = nothing_contained _ h
never (suc (suc (suc zero))) h = nothing_contained _ h
never (suc (suc (suc (suc k)))) h = nothing_contained _ h

pub deadline : DeadlineExample
deadline level = (
  d.is_goal deadline_text level deadline_trace due_a 0 (first_is_contained event_e []),
  d.pending deadline_text level deadline_trace due_a 100 1 1 (omega arith) (omega arith) (λ k h. never k h.happens),
  d.pending deadline_text level deadline_trace due_a 100 1 2 (omega arith) (omega arith) (λ k h. never k h.happens),
  (
    d.not_met deadline_text level deadline_trace due_a 100 1 3 (λ k h. never k h.happens),
    d.not_live deadline_text level deadline_trace due_a 100 1 3 (omega arith),
    d.not_cut deadline_text level deadline_trace due_a 100 1 3,
  ),
)
