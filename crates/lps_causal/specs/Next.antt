-- The state after some events, by the state before them alone; and which facts are the next state, whatever the trace is.
use Rattle.std.specs.Prelude.{ℕ, suc, true, false, ◌≡◌, ◌↔◌, ◌⊎◌, List, length, Contains}
use Rattle.std.specs.List.Sorted.{IsStrictlySortedBy}
use Rattle.lps_terms.specs.declared.atom.Atom.{Atom}
use Rattle.lps_terms.specs.declared.text.Text.{Text}
use Rattle.lps_terms.specs.Order.{atom_cmp}
use Rattle.lps_model.specs.declared.cycle.Cycle.{Cycle}
use Rattle.lps_model.specs.declared.trace.Trace.{Trace}
use Rattle.lps_model.specs.Trace.{happens_in, then_cycle}
use Rattle.lps_model.specs.Clauses.{clauses}
use Rattle.lps_derivation.specs.Levels.{AreLevels}
use Rattle.lps_meaning.specs.Holds.{Causes}
use Rattle.lps_meaning.specs.Reports.{IsState}
use Rattle.lps_causal.specs.Names.{AreFluents}

-- the facts after are the state that the events make of the facts before, which come in a cycle after a trace
pub record IsUpdate (text : Text) (before events after : List Atom) : Type 0 where
  pub fluents : AreFluents text after
  pub state : (level : List ℕ → ℕ) → AreLevels (clauses text) level → (trace : Trace) (cycle : Cycle) → happens_in cycle ≡ events →
      IsState text level trace (length trace.cycles) before → IsState text level (then_cycle trace cycle) (suc (length trace.cycles)) after

module _ (text : Text) (level : List ℕ → ℕ) (before events : List Atom) where
  -- the events initiate the fluent in the state before
  abbrev pub Begins : Atom → Type 0
  Begins fluent = Causes text level true (Contains before) events fluent

  -- they terminate it there, and do not initiate it
  abbrev pub Ends : Atom → Type 0
  Ends fluent = Causes text level false (Contains before) events fluent × (Begins fluent → ⊥)

  -- the facts after are exactly what begins, and what was there before and does not end
  pub record IsAfter (after : List Atom) : Type 0 where
    pub sorted : IsStrictlySortedBy atom_cmp after
    pub exact : (fluent : Atom) → Contains after fluent ↔ (Begins fluent ⊎ (Contains before fluent × (Ends fluent → ⊥)))

  -- exactly what begins
  abbrev pub AreBegun : List Atom → Type 0
  AreBegun begun = (fluent : Atom) → Contains begun fluent ↔ Begins fluent

  -- what ends is in the list, and nothing but what the events terminate
  pub record AreEnded (ended : List Atom) : Type 0 where
    pub only : (fluent : Atom) → Contains ended fluent → Causes text level false (Contains before) events fluent
    pub all : (fluent : Atom) → Ends fluent → Contains ended fluent
