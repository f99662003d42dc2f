-- Picks that are made by passes over the goals, oldest or newest first.
use Rattle.std.specs.Prelude.{◌≡◌, ◌⊎◌, ◌++◌, ℕ, List, [], ◌∷◌, map, length, reverse, Contains}
use Rattle.std.specs.List.{range_with_len, flat_map}
use Rattle.std.specs.declared.cmp.Ordering.{Ordering}
use Rattle.std.specs.declared.cmp.Ordering.TheVariants.{Less}
use Rattle.std.specs.Ordering.{nat_cmp, then_cmp, on}
use Rattle.std.specs.Cmp.Lexicographic.{slice_cmp}
use Rattle.lps_terms.specs.declared.atom.Atom.{Atom}
use Rattle.lps_terms.specs.declared.prefer.Prefer.{Prefer}
use Rattle.lps_terms.specs.declared.prefer.Prefer.TheVariants.{Oldest, Newest}
use Rattle.lps_terms.specs.declared.text.Text.{Text}
use Rattle.lps_terms.specs.Order.{atom_cmp}
use Rattle.lps_model.specs.declared.cycle.Cycle.{Cycle}
use Rattle.lps_model.specs.declared.cycle.Pick.{Pick}
use Rattle.lps_model.specs.declared.trace.Trace.{Trace}
use Rattle.lps_model.specs.Run.{AreInitial, first_trace}
use Rattle.lps_model.specs.Trace.{admitted, then_cycle}
use Rattle.lps_meaning.specs.declared.goal.GoalKey.{GoalKey}
use Rattle.lps_meaning.specs.Cycles.{IsProposal, IsPendingNumber, IsLegal}
use Rattle.lps_meaning.specs.Denials.{ViolatesNone}
use Rattle.lps_meaning.specs.Sequences.{rank}

-- a proposal, with the alternative and the rank that order it
pub record Ranked : Type 0 where
  pub alternative : ℕ
  pub rank : List ℕ
  pub group : List Atom

-- by alternative, then by rank, then by group
abbrev pub ranked_cmp : Ranked → Ranked → Ordering
ranked_cmp = then_cmp (on (λ r. r.alternative) nat_cmp) (then_cmp (on (λ r. r.rank) (slice_cmp nat_cmp)) (on (λ r. r.group) (slice_cmp atom_cmp)))

-- the numbers of n goals in the order in which a pass goes over them
abbrev pub order_of : Prefer → ℕ → List ℕ
order_of Oldest n = range_with_len 1 n
order_of Newest n = reverse (range_with_len 1 n)

module _ (text : Text) (level : List ℕ → ℕ) (depth : ℕ) (trace : Trace) (keys : List GoalKey) where
  -- a proposal of the goal that violates no denial with the events so far
  pub record IsOffer (key : GoalKey) (events : List Atom) (r : Ranked) : Type 0 where
    pub proposal : IsProposal text level depth trace key r.group
    pub alternative : proposal.live.plan.reaches.alternative ≡ r.alternative
    pub of_rank : rank proposal.end ≡ r.rank
    pub admissible : ViolatesNone text level trace (events ++ r.group)

  -- the first of them
  abbrev pub IsFirstOffer : GoalKey → List Atom → Ranked → Type 0
  IsFirstOffer key events r = IsOffer key events r × ((other : Ranked) → IsOffer key events other → ranked_cmp other r ≡ Less → ⊥)

  -- a pass gives goal n nothing: it has a pick, or no offer
  abbrev pub IsPassedOver : ℕ → List ℕ → List Atom → Type 0
  IsPassedOver n taken events = Contains taken n ⊎ ((key : GoalKey) (r : Ranked) → IsPendingNumber text level depth trace keys n key → IsOffer key events r → ⊥)

  -- a pass gives goal n its first offer
  pub record IsGiven (n : ℕ) (taken : List ℕ) (events : List Atom) (r : Ranked) : Type 0 where
    pub free : Contains taken n → ⊥
    pub key : GoalKey
    pub pending : IsPendingNumber text level depth trace keys n key
    pub first : IsFirstOffer key events r

  abbrev pub pick_of : ℕ → Ranked → Pick
  pick_of n r = record { goal = n; group = record { atoms = r.group } }

  -- a pass over goals, with the goals that have a pick and the events so far, makes these picks
  abbrev pub Pass : List ℕ → List ℕ → List Atom → List Pick → Type 0
  Pass [] taken events picks = picks ≡ []
  Pass (n ∷ ns) taken events picks = (IsPassedOver n taken events × Pass ns taken events picks)
      ⊎ ((r : Ranked) × (rest : List Pick) × IsGiven n taken events r × (picks ≡ pick_of n r ∷ rest) × Pass ns (n ∷ taken) (events ++ r.group) rest)

  -- passes one after the other: each but the last makes a pick, and the last makes none
  pub data AllPasses (order : List ℕ) : List ℕ → List Atom → List Pick → Type 0 where
    last : {taken : List ℕ} {events : List Atom} {all : List Pick} → Pass order taken events [] → all ≡ [] → AllPasses order taken events all
    more : {taken : List ℕ} {events : List Atom} {all : List Pick} (pick : Pick) (picks rest : List Pick) → Pass order taken events (pick ∷ picks) →
        AllPasses order (map (λ p. p.goal) (pick ∷ picks) ++ taken) (events ++ flat_map (λ p. p.group.atoms) (pick ∷ picks)) rest →
        all ≡ (pick ∷ picks) ++ rest → AllPasses order taken events all

module _ (text : Text) (level : List ℕ → ℕ) (depth : ℕ) (prefer : Prefer) where
  -- a legal cycle whose picks are made by passes
  pub record IsPlain (trace : Trace) (cycle : Cycle) : Type 0 where
    pub legal : IsLegal text level depth trace cycle
    pub passes : AllPasses text level depth trace legal.keys (order_of prefer (length legal.keys)) [] (admitted cycle.events cycle.verdicts) cycle.picks

  -- each cycle is plain after those before it
  abbrev pub ArePlain : Trace → List Cycle → Type 0
  ArePlain before [] = Unit {0}
  ArePlain before (cycle ∷ cycles) = IsPlain before cycle × ArePlain (then_cycle before cycle) cycles

  -- the trace is the plain run over these batches: one plain cycle for each
  pub record IsPlainRun (batches : List (List Atom)) (trace : Trace) : Type 0 where
    pub initial : AreInitial text trace.initial
    pub plain : ArePlain (first_trace trace.initial) trace.cycles
    pub events : map (λ cycle. cycle.events) trace.cycles ≡ batches
