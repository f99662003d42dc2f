-- How many symbols a run has: in its state, in what it keeps from cycle to cycle, and in its log.
use Rattle.std.specs.Prelude.{◌≡◌, ℕ, ◌+◌, List, length}
use Rattle.lps_terms.specs.declared.atom.Atom.{Atom}
use Rattle.lps_terms.specs.declared.text.Text.{Text}
use Rattle.lps_model.specs.declared.trace.Trace.{Trace}
use Rattle.lps_meaning.specs.Reports.{IsState}
use Rattle.lps_nodes.specs.Nodes.{IsKept}
use Rattle.lps_antecedents.specs.declared.held.Held.{Held}
use Rattle.lps_antecedents.specs.Slots.{held_size}
use Rattle.lps_goaltrees.specs.declared.goal.Goal.{Goal}
use Rattle.lps_goaltrees.specs.Pursued.{goals_size}
use Rattle.lps_sizes.specs.Sizes.{atoms_size, log_size}
use Rattle.lps_limits.specs.declared.limit.Sizes.{Sizes}

-- the size of a state: that of all its facts
abbrev pub state_size : List Atom → ℕ
state_size facts = atoms_size facts

-- the size of all that is kept: of what waits for antecedents, and of the goals that are pursued, with their nodes
abbrev pub kept_size : List Held → List Goal → ℕ
kept_size held goals = held_size held + goals_size goals

-- these are the sizes of the trace at its last cycle: of its state, of what is kept by rule and by goal, and of its log
pub record AreSizesOf (text : Text) (level : List ℕ → ℕ) (depth : ℕ) (trace : Trace) (sizes : Sizes) : Type 0 where
  pub facts : List Atom
  pub are_facts : IsState text level trace (length trace.cycles) facts
  pub state : sizes.state ≡ state_size facts
  pub kept : IsKept text level depth trace (length trace.cycles) sizes.kept
  pub log : sizes.log ≡ log_size trace
