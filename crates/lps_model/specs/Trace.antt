-- What happens when in a trace. Cycles count from 1; cycle i leads from state i-1 to state i.
use Rattle.std.specs.Prelude.{ℕ, zero, suc, List, [], ◌∷◌, ◌++◌, Option, Some, None, slice_get}
use Rattle.std.specs.List.{flat_map}
use Rattle.lps_terms.specs.declared.atom.Atom.{Atom}
use Rattle.lps_model.specs.declared.verdict.Verdict.{Verdict}
use Rattle.lps_model.specs.declared.verdict.Verdict.TheVariants.{Admitted, Rejected}
use Rattle.lps_model.specs.declared.cycle.Cycle.{Cycle}
use Rattle.lps_model.specs.declared.trace.Trace.{Trace}

-- the event, where it was admitted
abbrev pub if_admitted : Verdict → Atom → List Atom
if_admitted Admitted event = event ∷ []
if_admitted (Rejected denial) event = []

-- the admitted of some events with their verdicts
abbrev pub admitted : List Atom → List Verdict → List Atom
admitted (event ∷ events) (verdict ∷ verdicts) = if_admitted verdict event ++ admitted events verdicts
admitted _ _ = []

-- what happens in a cycle: the admitted events, and the actions of all groups that were picked
abbrev pub happens_in : Cycle → List Atom
happens_in cycle = admitted cycle.events cycle.verdicts ++ flat_map (λ pick. pick.group.atoms) cycle.picks

-- the cycle in which nothing happens, which stands for the time before the first cycle
abbrev pub no_cycle : Cycle
no_cycle = record { events = []; verdicts = []; picks = [] }

abbrev pub cycle_or_none : Option Cycle → Cycle
cycle_or_none None = no_cycle
cycle_or_none (Some cycle) = cycle

-- cycle i of a trace
abbrev pub cycle_at : Trace → ℕ → Cycle
cycle_at trace zero = no_cycle
cycle_at trace (suc i) = cycle_or_none (slice_get trace.cycles i)

-- what happens from i-1 to i
abbrev pub events_at : Trace → ℕ → List Atom
events_at trace i = happens_in (cycle_at trace i)

-- a trace with one cycle more
abbrev pub then_cycle : Trace → Cycle → Trace
then_cycle trace cycle = record { initial = trace.initial; cycles = trace.cycles ++ cycle ∷ [] }
