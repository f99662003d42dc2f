-- How many symbols atoms, cycles and logs have.
use Rattle.std.specs.Prelude.{ℕ, ◌+◌, List, min, sum_by}
use Rattle.lps_terms.specs.declared.atom.Atom.{Atom}
use Rattle.lps_terms.specs.Symbols.{atom_symbols_of}
use Rattle.lps_model.specs.declared.cycle.Cycle.{Cycle}
use Rattle.lps_model.specs.declared.cycle.Pick.{Pick}
use Rattle.lps_model.specs.declared.trace.Trace.{Trace}

-- a size as it is counted: past the greatest number that a count can have, it is that number
abbrev pub limited : ℕ → ℕ
limited size = min size 18446744073709551615

-- the size of some atoms together
abbrev pub atoms_size : List Atom → ℕ
atoms_size atoms = sum_by atom_symbols_of atoms

-- the size of a pick: one more than that of its group
abbrev pub pick_size : Pick → ℕ
pick_size pick = 1 + atoms_size pick.group.atoms

-- the size of a cycle in the log: all events of its batch count, those that were rejected too
abbrev pub cycle_size : Cycle → ℕ
cycle_size cycle = 1 + atoms_size cycle.events + sum_by pick_size cycle.picks

-- the size of the log: that of all its cycles
abbrev pub log_size : Trace → ℕ
log_size trace = sum_by cycle_size trace.cycles
