-- The effects of events in a state: which fluents they initiate, and which they terminate and do not initiate.
use Rattle.std.specs.Prelude.{◌↔◌, ℕ, true, false, List, Contains}
use Rattle.std.specs.List.Sorted.{IsStrictlySortedBy}
use Rattle.lps_terms.specs.declared.atom.Atom.{Atom}
use Rattle.lps_terms.specs.declared.effects.Effects.{Effects}
use Rattle.lps_terms.specs.declared.text.Text.{Text}
use Rattle.lps_terms.specs.Order.{atom_cmp}
use Rattle.lps_meaning.specs.Holds.{Causes}

-- Exactly the effects of the events by the laws of the text, where these facts are the state before, each once and in order.
pub record AreEffects (text : Text) (level : List ℕ → ℕ) (facts events : List Atom) (effects : Effects) : Type 0 where
  pub initiated : (fluent : Atom) → Contains effects.initiated fluent ↔ Causes text level true (Contains facts) events fluent
  pub terminated : (fluent : Atom) →
      Contains effects.terminated fluent ↔ (Causes text level false (Contains facts) events fluent × (Causes text level true (Contains facts) events fluent → ⊥))
  pub initiated_sorted : IsStrictlySortedBy atom_cmp effects.initiated
  pub terminated_sorted : IsStrictlySortedBy atom_cmp effects.terminated
