-- What holds of a list of wakes.
use Rattle.std.specs.Prelude.{◌≡◌, ◌⊎◌, ◌↔◌, ℕ, List, Some, slice_get, Contains}
use Rattle.lps_terms.specs.declared.atom.Atom.{Atom}
use Rattle.lps_residual.specs.declared.waking.Awaited.{Awaited}
use Rattle.lps_residual.specs.declared.waking.Wake.{Wake}
use Rattle.lps_residual.specs.Waking.{IsAwaited}
use Rattle.lps_watch.specs.declared.due.Due.{Due}

-- each is there once
abbrev pub AreOnce : List Wake → Type 0
AreOnce wakes = (i j : ℕ) (x : Wake) → slice_get wakes i ≡ Some x → slice_get wakes j ≡ Some x → i ≡ j

-- the wake, by when it is due
abbrev pub due_of : Wake → Due
due_of wake = record { time = wake.due; awaited = wake.awaited }

-- the same wakes are found by event and by time
abbrev pub Agree : List Wake → List Due → Type 0
Agree wakes dues = (w : Wake) → Contains wakes w ↔ Contains dues (due_of w)

-- it awaits the event
abbrev pub IsFor : Atom → Wake → Type 0
IsFor event wake = (a : Awaited) × (wake.awaited ≡ Some a) × IsAwaited a event

-- the new list has besides what the old one has the wakes of which this holds
abbrev pub Adds : List Wake → List Wake → (Wake → Type 0) → Type 0
Adds old new P = (w : Wake) → Contains new w ↔ (Contains old w ⊎ P w)
