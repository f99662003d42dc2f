-- The laws of sizes.
use Rattle.std.specs.Prelude.{◌≡◌, ℕ, List, length}
use Rattle.lps_terms.specs.declared.atom.Atom.{Atom}
use Rattle.lps_terms.specs.declared.text.Text.{Text}
use Rattle.lps_model.specs.declared.trace.Trace.{Trace}
use Rattle.lps_meaning.specs.Reports.{IsState}
use Rattle.lps_nodes.specs.Nodes.{IsKept}
use Rattle.lps_antecedents.specs.declared.held.Held.{Held}
use Rattle.lps_antecedents.specs.Waiting.{StandsFor as WaitsFor}
use Rattle.lps_goaltrees.specs.Followed.{StandsFor as PursuedFor}
use Rattle.lps_goaltrees.specs.Pursued.{Pursuit}
use Rattle.lps_sizes.specs.Sizes.{log_size}
use Rattle.lps_limits.specs.declared.limit.Sizes.{Sizes}
use Rattle.lps_limits.specs.Sizes.{AreSizesOf, kept_size, state_size}

-- Where what waits and what is pursued stand for a trace, their size together is what is kept by rule and by goal at its last cycle.
abbrev pub KeptIsTold : Type 0
KeptIsTold = (text : Text) (level : List ℕ → ℕ) (depth : ℕ) (trace : Trace) (held : List Held) (p : Pursuit) →
    WaitsFor text level trace (length trace.cycles) held → PursuedFor text level depth trace p →
    IsKept text level depth trace (length trace.cycles) (kept_size held p.goals)

-- So the sizes of the values that stand for a trace are those of the trace.
abbrev pub SizesAreTold : Type 0
SizesAreTold = (text : Text) (level : List ℕ → ℕ) (depth : ℕ) (trace : Trace) (facts : List Atom) (held : List Held) (p : Pursuit) →
    IsState text level trace (length trace.cycles) facts → WaitsFor text level trace (length trace.cycles) held → PursuedFor text level depth trace p →
    AreSizesOf text level depth trace (record { state = state_size facts; kept = kept_size held p.goals; log = log_size trace })

-- a trace has one size of each kind
abbrev pub SizesAreUnique : Type 0
SizesAreUnique = (text : Text) (level : List ℕ → ℕ) (depth : ℕ) (trace : Trace) (sizes others : Sizes) →
    AreSizesOf text level depth trace sizes → AreSizesOf text level depth trace others → sizes ≡ others
