-- What wakes a node that waits: an event that it awaits, or the time at which it is due.
use Rattle.std.specs.Prelude.{◌≡◌, ◌⊎◌, ◌≤◌, ◌<◌, [], ◌∷◌, ℕ, suc, min, ⊤, List, Contains, Option, Some, None, MatchOption}
use Rattle.lps_terms.specs.declared.atom.Atom.{Atom}
use Rattle.lps_terms.specs.declared.term.Term.{Term}
use Rattle.lps_terms.specs.declared.text.Text.{Text}
use Rattle.lps_terms.specs.Put.{put_atom}
use Rattle.lps_model.specs.VariableLists.{term_vars}
use Rattle.lps_meaning.specs.declared.node.Left.{Left}
use Rattle.lps_meaning.specs.declared.node.LeftItem.{LeftItem}
use Rattle.lps_meaning.specs.declared.node.LeftItem.TheVariants as l
use Rattle.lps_meaning.specs.declared.node.Node.{Node}
use Rattle.lps_meaning.specs.declared.when.When.{When}
use Rattle.lps_nodes.specs.Conditions.{CanComeTrue, time_in}
use Rattle.lps_nodes.specs.Nodes.{left_in}
use Rattle.lps_windows.specs.declared.window.Window.{Window}
use Rattle.lps_residual.specs.Moments.{IsReady, IsWindowOf, MeetsNone}
use Rattle.lps_residual.specs.declared.waking.Awaited.{Awaited}
use Rattle.lps_residual.specs.declared.waking.Wake.{Wake}

-- the arguments begin with this one, if one is asked for
abbrev pub BeginWith : Option Term → List Term → Type 0
BeginWith None args = ⊤
BeginWith (Some first) args = (others : List Term) × (args ≡ first ∷ others)

-- the event is one that is awaited
abbrev pub IsAwaited : Awaited → Atom → Type 0
IsAwaited awaited event = (awaited.name ≡ event.name) × BeginWith awaited.first event.args

-- one of the events is awaited
abbrev pub IsAwaitedAmong : Option Awaited → List Atom → Type 0
IsAwaitedAmong awaited events = (a : Awaited) × (awaited ≡ Some a) × (event : Atom) × Contains events event × IsAwaited a event

-- it is due at the time, or an event that it awaits is among these
abbrev pub IsTouched : Wake → ℕ → List Atom → Type 0
IsTouched wake time events = (wake.due ≤ time) ⊎ IsAwaitedAmong wake.awaited events

-- each instance of the atom is awaited
abbrev pub AreInstancesAwaited : Option Awaited → Atom → Type 0
AreInstancesAwaited awaited atom = (a : Awaited) × (awaited ≡ Some a) × ((s : ℕ → Term) → IsAwaited a (put_atom s atom))

-- The first item of the node cannot be met at the time but by an event that is awaited: an event or an action is awaited itself, and an
-- `at` item comes later in whatever way the node can come true.
abbrev pub IsMetByAwaited : Text → Node → Option Awaited → ℕ → LeftItem → Type 0
IsMetByAwaited text node awaited time (l.At lit at) = (since : ℕ) (can : CanComeTrue text since (left_in node)) → time < time_in can.times at
IsMetByAwaited text node awaited time (l.Span a from to) = AreInstancesAwaited awaited a
IsMetByAwaited text node awaited time _ = ⊤

-- nothing but an event that is awaited changes the node at the time: it can come true after it, and its first item is met by no other then
pub record IsAsleep (text : Text) (node : Node) (awaited : Option Awaited) (time : ℕ) : Type 0 where
  pub can : CanComeTrue text time (left_in node)
  pub met : IsMetByAwaited text node awaited time can.first.item

-- so it is until it is due
abbrev pub SleepsUntil : Text → Node → Wake → Type 0
SleepsUntil text node wake = (time : ℕ) → time < wake.due → IsAsleep text node wake.awaited time

-- ---- exactly what wakes a node

-- a term, where these are its variables and there are none
abbrev pub told_by : List ℕ → Term → Option Term
told_by [] x = Some x
told_by (v ∷ vs) x = None

-- the first of some terms, where it has no variables
abbrev pub first_told : List Term → Option Term
first_told [] = None
first_told (x ∷ xs) = told_by (term_vars x) x

-- what is awaited where this is the first item
abbrev pub awaited_in : LeftItem → Option Awaited
awaited_in (l.Span a from to) = Some (record { name = a.name; first = first_told a.args })
awaited_in _ = None

-- the first time of a window; 0 where there is none
abbrev pub first_of : Option Window → ℕ
first_of None = 0
first_of (Some window) = window.first

-- the time after the last, as far as there is such a number
abbrev pub past_last : Option ℕ → ℕ
past_last None = 18446744073709551615
past_last (Some last) = min (suc last) 18446744073709551615

-- the time after the last of a window; 0 where there is none
abbrev pub past : Option Window → ℕ
past None = 0
past (Some window) = past_last window.last

-- the window of a time of the node, or none where it has none
abbrev pub IsFound : Text → Node → When → Option Window → Type 0
IsFound text node time found = MatchOption found (MeetsNone text node) (IsWindowOf text node time)

-- when a node with this first item is due
abbrev pub IsDue : Text → Node → ℕ → LeftItem → Type 0
IsDue text node due (l.At lit at) = (found : Option Window) × IsFound text node at found × (due ≡ first_of found)
IsDue text node due (l.Span a from to) = (found : Option Window) × IsFound text node from found × (due ≡ past found)
IsDue text node due _ = due ≡ 0

-- what wakes a node that has these items left
abbrev pub IsToldBy : Text → Node → Wake → List Left → Type 0
IsToldBy text node wake [] = (wake.awaited ≡ None) × (wake.due ≡ 0)
IsToldBy text node wake (first ∷ behind) = (wake.awaited ≡ awaited_in first.item) × IsDue text node wake.due first.item

-- what wakes a node: one thing exactly, until which nothing but an event that is awaited changes it
pub record IsWake (text : Text) (node : Node) (wake : Wake) : Type 0 where
  pub asleep : SleepsUntil text node wake
  pub told : IsToldBy text node wake node.rest

-- a node is woken by one thing alone
abbrev pub WakesAreOne : Type 0
WakesAreOne = (text : Text) (node : Node) (wake other : Wake) → IsReady text node → IsWake text node wake → IsWake text node other → wake ≡ other
