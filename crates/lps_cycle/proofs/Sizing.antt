-- How the sizes of a run with a cycle more are counted.
use Rattle.std.proofs.Common.{ℕ, ◌≡◌, ◌≤◌, ◌+◌, ◌⊎◌, ◌∙◌, List, [], sym, subst, arith}
use Rattle.std.specs.Prelude.{Contains, None, sum_by}
use Rattle.std.specs.List.Sorted.{IsStrictlySortedBy}
use Rattle.lps_terms.specs.declared.atom.Atom.{Atom}
use Rattle.lps_terms.specs.Order.{atom_cmp}
use Rattle.lps_model.specs.declared.cycle.Pick.{Pick}
use Rattle.lps_sizes.specs.Sizes.{atoms_size, cycle_size, limited, pick_size}
use Rattle.lps_limits.specs.declared.limit.Sizes.{Sizes}
use Rattle.lps_limits.specs.Limits.{AreCounts, IsExcess, IsStateCount, IsWithinLimits}
use Rattle.lps_limits.specs.Sizes.{kept_size, state_size}
use Rattle.lps_limits.proofs.Growing.{state_grows}
use Rattle.lps_cycle.specs.Agenda.{AgendaState}
use Rattle.lps_cycle.specs.Making.{sizes_of, sizes_with}

-- the state has at most the symbols before and those of what is new
pub most_of_state : (before begun after : List Atom) (was most : ℕ) → IsStrictlySortedBy atom_cmp after → ((a : Atom) → Contains after a → Contains before a ⊎ Contains begun a) →
    limited (state_size before) ≤ was → most ≡ limited (was + limited (atoms_size begun)) → most ≤ 4000000 → IsStateCount most (state_size after)
most_of_state before begun after was most sorted among least is few =
    let grows = state_grows before begun after sorted among in
    record { most = bound (state_size before) (atoms_size begun) (state_size after) grows least is; exact = λ over. absurd (omega (arith, over, few)) }
  where
    bound : (old new all : ℕ) → all ≤ old + new → limited old ≤ was → most ≡ limited (was + limited new) → limited all ≤ most
    bound old new all grows least is = omega (arith, grows, least, is)

-- the state is counted exactly
pub counted_state : (count size : ℕ) → count ≡ limited size → IsStateCount count size
counted_state count size is = record { most = omega (arith, is); exact = λ over. is }

-- the sizes with the cycle are counted
pub counted_with : (counts : Sizes) (next : List Atom) (agenda : AgendaState) (log : ℕ) (events : List Atom) (picks : List Pick) → IsStateCount counts.state (state_size next) →
    counts.kept ≡ limited (kept_size agenda.waiting.held agenda.goals.pursuit.goals) → counts.log ≡ limited (log + limited (1 + atoms_size events + sum_by pick_size picks)) →
    AreCounts counts (sizes_with next agenda log events picks)
counted_with counts next agenda log events picks state kept logged = record { state = state; kept = kept; log = logged ∙ twice log (1 + atoms_size events + sum_by pick_size picks) }
  where
    twice : (m n : ℕ) → limited (m + limited n) ≡ limited (m + n)
    twice m n = omega arith

-- where they are within the limits, the log is counted exactly
pub settled_within : (keep : ℕ) (counts : Sizes) (next facts : List Atom) (agenda : AgendaState) (log : ℕ) (events : List Atom) (picks : List Pick) → facts ≡ next →
    AreCounts counts (sizes_with next agenda log events picks) → IsExcess keep (sizes_with next agenda log events picks) None →
    IsWithinLimits keep (sizes_of facts agenda counts.log) × (counts.log ≡ log + cycle_size (record { events = events; verdicts = []; picks = picks }))
settled_within keep counts next facts agenda log events picks same are within =
    let exact = counted (log + (1 + atoms_size events + sum_by pick_size picks)) counts.log are.log within.2 in (
      subst (λ (fs : List Atom). IsWithinLimits keep (sizes_of fs agenda counts.log)) (sym same) (within.0, within.1, omega (arith, exact, within.2)),
      exact,
    )
  where
    counted : (size count : ℕ) → count ≡ limited size → size ≤ 16000000 → count ≡ size
    counted size count is few = omega (arith, is, few)
