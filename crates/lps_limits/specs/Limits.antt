-- Which limit the sizes of a run exceed first.
use Rattle.std.specs.Prelude.{◌≡◌, ◌≤◌, ◌<◌, ℕ, List, [], ◌∷◌, Option, Some, None}
use Rattle.lps_terms.specs.declared.text.Text.{Text}
use Rattle.lps_model.specs.declared.cycle.Cycle.{Cycle}
use Rattle.lps_model.specs.declared.trace.Trace.{Trace}
use Rattle.lps_model.specs.Run.{first_trace}
use Rattle.lps_model.specs.Trace.{then_cycle}
use Rattle.lps_sizes.specs.Sizes.{limited}
use Rattle.lps_limits.specs.declared.limit.Limit.{Limit}
use Rattle.lps_limits.specs.declared.limit.Limit.TheVariants as l
use Rattle.lps_limits.specs.declared.limit.Sizes.{Sizes}
use Rattle.lps_limits.specs.Sizes.{AreSizesOf}

-- ---- sizes

-- the size that the limit is for
abbrev pub size_for : Limit → Sizes → ℕ
size_for l.State sizes = sizes.state
size_for l.Kept sizes = sizes.kept
size_for l.Log sizes = sizes.log

-- The limit is exceeded, and none before it: that of the state comes first, then that of what is kept, then that of the log.
abbrev pub IsExceededFirst : ℕ → Sizes → Limit → Type 0
IsExceededFirst keep sizes l.State = 4000000 < sizes.state
IsExceededFirst keep sizes l.Kept = (sizes.state ≤ 4000000) × (keep < sizes.kept)
IsExceededFirst keep sizes l.Log = (sizes.state ≤ 4000000) × (sizes.kept ≤ keep) × (16000000 < sizes.log)

-- none is exceeded
abbrev pub IsWithinLimits : ℕ → Sizes → Type 0
IsWithinLimits keep sizes = (sizes.state ≤ 4000000) × (sizes.kept ≤ keep) × (sizes.log ≤ 16000000)

-- what is found of the sizes: the limit that is exceeded first, with the size that exceeds it as it is counted, or nothing where none is
abbrev pub IsExcess : ℕ → Sizes → Option (Limit × ℕ) → Type 0
IsExcess keep sizes None = IsWithinLimits keep sizes
IsExcess keep sizes (Some found) = IsExceededFirst keep sizes found.0 × (found.1 ≡ limited (size_for found.0 sizes))

-- ---- counts of sizes

-- a state of this size is counted so: exactly, or by a greater number that is within the limit
pub record IsStateCount (count size : ℕ) : Type 0 where
  pub most : limited size ≤ count
  pub exact : 4000000 < count → count ≡ limited size

-- the sizes are counted so
pub record AreCounts (counts sizes : Sizes) : Type 0 where
  pub state : IsStateCount counts.state sizes.state
  pub kept : counts.kept ≡ limited sizes.kept
  pub log : counts.log ≡ limited sizes.log

-- ---- traces

module _ (text : Text) (level : List ℕ → ℕ) (depth keep : ℕ) where
  -- at the end of the trace this limit is exceeded first, by so many symbols as they are counted
  pub record IsFull (trace : Trace) (limit : Limit) (symbols : ℕ) : Type 0 where
    pub sizes : Sizes
    pub are_sizes : AreSizesOf text level depth trace sizes
    pub exceeded : IsExceededFirst keep sizes limit
    pub counted : symbols ≡ limited (size_for limit sizes)

  -- at the end of the trace no limit is exceeded
  pub record IsWithin (trace : Trace) : Type 0 where
    pub sizes : Sizes
    pub are_sizes : AreSizesOf text level depth trace sizes
    pub within : IsWithinLimits keep sizes

  -- no limit is exceeded after the cycles before, and after each of these cycles
  abbrev pub AreWithin : Trace → List Cycle → Type 0
  AreWithin before [] = IsWithin before
  AreWithin before (cycle ∷ cycles) = IsWithin before × AreWithin (then_cycle before cycle) cycles

  -- no limit is exceeded anywhere on the way, from before the first cycle to after the last
  abbrev pub StaysWithin : Trace → Type 0
  StaysWithin trace = AreWithin (first_trace trace.initial) trace.cycles
