-- What is told by the bytes of a report: the laws, each a statement over texts, traces and blocks.
use Rattle.std.specs.Prelude.{◌≡◌, ◌≤◌, ℕ, suc, IsTrue, List, length}
use Rattle.std.specs.List.{AllByRecursion}
use Rattle.lps_terms.specs.declared.atom.Atom.{Atom}
use Rattle.lps_terms.specs.Printed.{atom_text}
use Rattle.lps_terms.specs.declared.text.Text.{Text}
use Rattle.lps_model.specs.declared.trace.Trace.{Trace}
use Rattle.lps_model.specs.Formed.{is_formed}
use Rattle.lps_model.specs.Acceptance.{IsAccepted}
use Rattle.lps_meaning.specs.Cycles.{IsRun}
use Rattle.lps_meaning.specs.Reports.{AreBlocks, Block, IsBlockOf, IsBlock, IsReport, IsGroundAtom, block_text}
use Rattle.lps_telling.specs.Grounded.{IsGroundBlock, IsGroundCycle, IsSmallBlock, IsSmallCycle}

-- a ground atom is told by its text
abbrev pub AtomsAreTold : Type 0
AtomsAreTold = (a b : Atom) → IsGroundAtom a → IsGroundAtom b → atom_text a ≡ atom_text b → a ≡ b

-- what is reported of cycle k of one trace or of two is one, where it is ground and has the same bytes
abbrev pub BytesTellBlocks : Type 0
BytesTellBlocks = (text : Text) (level : List ℕ → ℕ) (depth : ℕ) (trace other : Trace) (k : ℕ) (block another : Block) →
    IsBlockOf text level depth trace k block → IsBlockOf text level depth other k another → IsGroundBlock block → IsGroundBlock another →
    block_text k block ≡ block_text k another → block ≡ another

-- two runs of as many ground cycles, with blocks of the same bytes, are one
abbrev pub BytesTellRuns : Type 0
BytesTellRuns = (text : Text) (level : List ℕ → ℕ) (depth : ℕ) (trace other : Trace) → IsRun text level depth trace → IsRun text level depth other →
    AllByRecursion IsGroundCycle trace.cycles → AllByRecursion IsGroundCycle other.cycles → length trace.cycles ≡ length other.cycles →
    ((k : ℕ) → k ≤ length trace.cycles → (bytes : List ℕ) × IsBlock text level depth trace k bytes × IsBlock text level depth other k bytes) → trace ≡ other

-- the cycles of a run of a well-formed text are ground, as long as their numbers have 64 bits
abbrev pub RunsAreGround : Type 0
RunsAreGround = (text : Text) (level : List ℕ → ℕ) (depth : ℕ) (trace : Trace) → IsTrue (is_formed text) → IsRun text level depth trace →
    AllByRecursion IsSmallCycle trace.cycles → AllByRecursion IsGroundCycle trace.cycles

-- all that is reported of the cycles of a trace is ground
abbrev pub IsGroundReport : Text → (List ℕ → ℕ) → ℕ → Trace → Type 0
IsGroundReport text level depth trace = (k : ℕ) → k ≤ length trace.cycles → (block : Block) → IsBlockOf text level depth trace k block → IsGroundBlock block

-- the numbers of denials, goals and rules in it have 64 bits
pub record IsSmallReport (text : Text) (level : List ℕ → ℕ) (depth : ℕ) (trace : Trace) : Type 0 where
  pub cycles : AllByRecursion IsSmallCycle trace.cycles
  pub blocks : (k : ℕ) → k ≤ length trace.cycles → (block : Block) → IsBlockOf text level depth trace k block → IsSmallBlock block

-- a run of an accepted and well-formed text whose reported numbers have 64 bits
pub record IsSmallRun (text : Text) (level : List ℕ → ℕ) (depth : ℕ) (trace : Trace) : Type 0 where
  pub accepted : IsAccepted text
  pub formed : IsTrue (is_formed text)
  pub run : IsRun text level depth trace
  pub small : IsSmallReport text level depth trace

-- all that is reported of such a run is ground
abbrev pub ReportsAreGround : Type 0
ReportsAreGround = (text : Text) (level : List ℕ → ℕ) (depth : ℕ) (trace : Trace) → IsSmallRun text level depth trace → IsGroundReport text level depth trace

-- two such runs with the same bytes of all their blocks, one after the other, are one
abbrev pub AllBytesTellRuns : Type 0
AllBytesTellRuns = (text : Text) (level : List ℕ → ℕ) (depth : ℕ) (trace other : Trace) → IsSmallRun text level depth trace → IsSmallRun text level depth other →
    (bytes : List ℕ) → AreBlocks text level depth trace 0 (suc (length trace.cycles)) bytes → AreBlocks text level depth other 0 (suc (length other.cycles)) bytes → trace ≡ other

-- and so are two with the same bytes of the whole report
abbrev pub ReportsTellRuns : Type 0
ReportsTellRuns = (text : Text) (level : List ℕ → ℕ) (depth : ℕ) (trace other : Trace) → IsSmallRun text level depth trace → IsSmallRun text level depth other →
    (bytes : List ℕ) → IsReport text level depth trace 0 bytes → IsReport text level depth other 0 bytes → trace ≡ other
