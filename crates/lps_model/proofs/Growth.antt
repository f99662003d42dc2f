-- What stays of a trace to which a cycle is added.
use Rattle.std.proofs.Common.{◌≡◌, ℕ, zero, suc, ◌≤◌, length, refl, sym, ap, arith}
use Rattle.lps_model.specs.declared.cycle.Cycle.{Cycle}
use Rattle.lps_model.specs.declared.trace.Trace.{Trace}
use Rattle.lps_model.specs.Trace.{cycle_at, cycle_or_none, then_cycle}
use Rattle.lps_model.proofs.Elements.{slice_get-push}

-- two traces with the same initial facts and the same first n cycles
pub record AreSame (n : ℕ) (trace other : Trace) : Type 0 where
  pub initial : trace.initial ≡ other.initial
  pub cycles : (k : ℕ) → k ≤ n → cycle_at trace k ≡ cycle_at other k

pub same_back : (n : ℕ) (trace other : Trace) → AreSame n trace other → AreSame n other trace
same_back n trace other same = record { initial = sym same.initial; cycles = λ k upto. sym (same.cycles k upto) }

-- a trace agrees with the trace that has one cycle more
pub same_first : (trace : Trace) (cycle : Cycle) → AreSame (length trace.cycles) trace (then_cycle trace cycle)
same_first trace cycle = record { initial = refl; cycles = at }
  where
    at : (k : ℕ) → k ≤ length trace.cycles → cycle_at trace k ≡ cycle_at (then_cycle trace cycle) k
    at zero upto = refl
    at (suc k) upto = ap cycle_or_none (sym (slice_get-push trace.cycles cycle k (omega arith)))
