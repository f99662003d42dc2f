-- Which fluents hold when, and what is true when: a fluent holds in a state where it began by then and did not end since.
-- A law has conditions on the state before, so this is defined going up the states; no state is made from the one before it.
use Rattle.std.specs.Prelude.{◌≡◌, ◌⊎◌, ◌≤◌, ◌<◌, ℕ, zero, suc, IsTrue, Bool, true, false, List, map, Contains}
use Rattle.std.specs.List.{AllByRecursion}
use Rattle.lps_terms.specs.declared.atom.Atom.{Atom}
use Rattle.lps_terms.specs.declared.lit.Lit.{Lit}
use Rattle.lps_terms.specs.declared.term.Term.{Term}
use Rattle.lps_terms.specs.declared.text.Text.{Text}
use Rattle.lps_terms.specs.Put.{put_atom}
use Rattle.lps_terms.specs.Symbols.{atom_symbols_of}
use Rattle.lps_values.specs.Truth.{is_true}
use Rattle.lps_model.specs.declared.trace.Trace.{Trace}
use Rattle.lps_model.specs.Program.{Law, laws}
use Rattle.lps_model.specs.Trace.{events_at}
use Rattle.lps_model.specs.Clauses.{clauses}
use Rattle.lps_derivation.specs.Derivation.{Agrees, IsDerived, IsMet}
use Rattle.lps_derivation.specs.Ground.{is_ground}
use Rattle.lps_derivation.specs.Instances.{put_cond, IsSmall, IsSmallCond}
use Rattle.lps_derivation.specs.Laws.{Passes}

-- a law with s of each variable in its place
abbrev pub put_law : (ℕ → Term) → Law → Law
put_law s law = record { initiates = law.initiates; event = put_atom s law.event; fluent = put_atom s law.fluent; conds = map (put_cond s) law.conds }

-- an instance of a law of the text: ground terms stand in the places of its variables, and nothing in it is large
pub record IsLawInstance (text : Text) (instance : Law) : Type 0 where
  pub law : Law
  pub in_text : Contains (laws text) law
  pub values : ℕ → Term
  pub all_ground : (v : ℕ) → IsTrue (is_ground (values v))
  pub put_in : instance ≡ put_law values law
  pub small_event : IsSmall (atom_symbols_of instance.event)
  pub small_fluent : IsSmall (atom_symbols_of instance.fluent)
  pub small_conds : AllByRecursion IsSmallCond instance.conds

module _ (text : Text) (level : List ℕ → ℕ) where
  -- the atom is true by the clauses of the text, over some fluents
  abbrev pub IsTrueOver : (Atom → Type 0) → Atom → Type 0
  IsTrueOver IsFact a = IsDerived (Passes is_true) (clauses text) IsFact level a

  -- a law of this kind has an instance with its event among these, its conditions true over the fluents of the state
  -- before, and this fluent
  pub record Causes (initiates : Bool) (HeldBefore : Atom → Type 0) (events : List Atom) (fluent : Atom) : Type 0 where
    pub instance : Law
    pub of_text : IsLawInstance text instance
    pub kind : instance.initiates ≡ initiates
    pub event : Contains events instance.event
    pub conds : AllByRecursion (IsMet (Passes is_true) (IsTrueOver HeldBefore)) instance.conds
    pub effect : instance.fluent ≡ fluent

module _ (text : Text) (level : List ℕ → ℕ) (trace : Trace) where
  -- over what held in earlier states
  module _ (Held : ℕ → Atom → Type 0) where
    -- a law of this kind takes effect in cycle j
    abbrev pub CausedIn : Bool → ℕ → Atom → Type 0
    CausedIn initiates zero fluent = ⊥
    CausedIn initiates (suc i) fluent = Causes text level initiates (Held i) (events_at trace (suc i)) fluent

    -- the fluent begins at j: j is 0 and it is an initial fact, or it is initiated in cycle j
    abbrev pub BeginsAt : ℕ → Atom → Type 0
    BeginsAt j fluent = ((j ≡ 0) × Contains trace.initial fluent) ⊎ CausedIn true j fluent

    -- the fluent ends in cycle k: it is terminated and not initiated there
    abbrev pub EndsIn : ℕ → Atom → Type 0
    EndsIn k fluent = CausedIn false k fluent × (CausedIn true k fluent → ⊥)

    -- the fluent began at some j up to i, and ends in no cycle k with j < k ≤ i
    pub record Persists (i : ℕ) (fluent : Atom) : Type 0 where
      pub since : ℕ
      pub by_then : since ≤ i
      pub begins : BeginsAt since fluent
      pub lasts : (k : ℕ) → since < k → k ≤ i → EndsIn k fluent → ⊥

  -- what holds in state i, seen from state n: what held before is seen from the state before
  abbrev pub HoldsUpTo : ℕ → ℕ → Atom → Type 0
  HoldsUpTo zero = Persists (λ j fluent. ⊥)
  HoldsUpTo (suc n) = Persists (HoldsUpTo n)

  -- the fluent holds in state i
  abbrev pub Holds : ℕ → Atom → Type 0
  Holds i fluent = HoldsUpTo i i fluent

  -- the fluent is initiated in cycle i
  abbrev pub Initiated : ℕ → Atom → Type 0
  Initiated = CausedIn Holds true

  -- the fluent is terminated in cycle i
  abbrev pub Terminated : ℕ → Atom → Type 0
  Terminated = CausedIn Holds false

  -- the fluent is terminated in cycle i and not initiated there
  abbrev pub Ends : ℕ → Atom → Type 0
  Ends = EndsIn Holds

  -- the atom is true in state i
  abbrev pub IsTrueAt : ℕ → Atom → Type 0
  IsTrueAt i a = IsTrueOver text level (Holds i) a

  -- the literal, negated or not, is true in state i
  abbrev pub IsTrueLit : ℕ → Lit → Type 0
  IsTrueLit i l = Agrees l.negated (IsTrueAt i l.atom)
