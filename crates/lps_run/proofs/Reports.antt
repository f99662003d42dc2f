-- The blocks of a run that goes on, and its last line.
use Rattle.std.proofs.Common.{◌≡◌, ℕ, zero, suc, ◌+◌, ◌-◌, ◌≤◌, List, [], ◌∷◌, ◌++◌, length, refl, sym, ap, subst, ◌∙◌, arith, length-append, append_assoc}
use Rattle.std.specs.Prelude.{Some, slice_get}
use Rattle.std.proofs.lemmas.List.{append-nil}
use Rattle.lps_terms.specs.declared.atom.Atom.{Atom}
use Rattle.lps_terms.specs.declared.text.Text.{Text}
use Rattle.lps_model.specs.declared.cycle.Cycle.{Cycle}
use Rattle.lps_model.specs.declared.trace.Trace.{Trace}
use Rattle.lps_model.specs.Trace.{cycle_at, cycle_or_none, no_cycle, then_cycle}
use Rattle.lps_model.specs.Run.{first_trace}
use Rattle.lps_model.specs.Clauses.{clauses}
use Rattle.lps_derivation.specs.Levels.{AreLevels}
use Rattle.lps_meaning.specs.Laws.{BlocksStay, IsContinuation}
use Rattle.lps_meaning.specs.Reports.{AreBlocks, IsBlock, block_text, last_line}
use Rattle.lps_meaning.specs.declared.goal.Counts.{Counts}
use Rattle.lps_cycle.specs.Engine.{EngineState, Stands, block_with, depth}
use Rattle.lps_run.specs.Reporting.{AreAllBlocks, AreCountsOf, IsLastLine, IsWholeReport}

last_one : {X : Type 0} (xs : List X) (y : X) → slice_get (xs ++ y ∷ []) (length xs) ≡ Some y
last_one [] y = refl
last_one (x ∷ xs) y = last_one xs y

-- ---- one block

-- what the engine has of its last cycle is the block of that cycle
is_block : {engine : EngineState} {batches : List (List Atom)} {trace : Trace} (stands : Stands engine batches trace) (number : ℕ) (cycle : Cycle) (block : List ℕ) → number ≡ length trace.cycles → cycle ≡ cycle_at trace (length trace.cycles) →
    block ≡ block_text number (block_with engine cycle) → (level : List ℕ → ℕ) → AreLevels (clauses engine.text) level → IsBlock engine.text level depth trace (length trace.cycles) block
is_block {engine = engine} {trace = trace} stands number cycle block number_is at spelled level levels =
    (block_with engine (cycle_at trace (length trace.cycles)), stands.carries.block level levels, spelled ∙ (λ i. block_text (number_is i) (block_with engine (at i))))

-- ---- several blocks

-- one more block behind some
blocks_then : (text : Text) (level : List ℕ → ℕ) (trace : Trace) (first n : ℕ) (bytes block : List ℕ) → AreBlocks text level depth trace first n bytes →
    IsBlock text level depth trace (first + n) block → AreBlocks text level depth trace first (suc n) (bytes ++ block)
blocks_then text level trace first zero bytes block none one =
    let same : first + 0 ≡ first = omega arith in
    (block, [], subst (λ k. IsBlock text level depth trace k block) same one, refl, ap (λ (bs : List ℕ). bs ++ block) none ∙ sym (append-nil block))
blocks_then text level trace first (suc n) bytes block blocks one =
    let same : first + suc n ≡ suc first + n = omega arith in (
      blocks.0,
      blocks.1 ++ block,
      blocks.2,
      blocks_then text level trace (suc first) n blocks.1 block blocks.3 (subst (λ k. IsBlock text level depth trace k block) same one),
      ap (λ (bs : List ℕ). bs ++ block) blocks.4 ∙ append_assoc blocks.0 blocks.1 block,
    )

-- what was reported stays when a cycle is added
blocks_stay : BlocksStay → (text : Text) (level : List ℕ → ℕ) (trace longer : Trace) → IsContinuation trace longer → (first n : ℕ) (bytes : List ℕ) → first + n ≤ suc (length trace.cycles) →
    AreBlocks text level depth trace first n bytes → AreBlocks text level depth longer first n bytes
blocks_stay stay text level trace longer on first zero bytes upto blocks = blocks
blocks_stay stay text level trace longer on first (suc n) bytes upto blocks = (
  blocks.0,
  blocks.1,
  (stay text level depth trace longer on first (omega arith) blocks.0).0 blocks.2,
  blocks_stay stay text level trace longer on (suc first) n blocks.1 (omega arith) blocks.3,
  blocks.4,
)

-- the blocks, and that of one cycle more
pub block_more : BlocksStay → (before after : EngineState) (batches more : List (List Atom)) (trace : Trace) (cycle : Cycle) (blocks block : List ℕ) →
    Stands after more (then_cycle trace cycle) → after.text ≡ before.text →
    AreAllBlocks before.text trace blocks → block ≡ block_text after.cycles (block_with after cycle) → AreAllBlocks after.text (then_cycle trace cycle) (blocks ++ block)
block_more stay before after batches more trace cycle blocks block next same_text reported spelled level levels =
    let longer : length (trace.cycles ++ cycle ∷ []) ≡ suc (length trace.cycles) = omega (arith, length-append trace.cycles (cycle ∷ [])) in
    let at : cycle ≡ cycle_at (then_cycle trace cycle) (length (trace.cycles ++ cycle ∷ [])) = sym (ap (cycle_at (then_cycle trace cycle)) longer ∙ ap cycle_or_none (last_one trace.cycles cycle)) in
    let one = is_block next after.cycles cycle block (sym next.carries.count) at spelled level levels in
    let old : AreBlocks after.text level depth trace 0 (suc (length trace.cycles)) blocks =
    subst (λ (t : Text). AreBlocks t level depth trace 0 (suc (length trace.cycles)) blocks) (sym same_text) (reported level (subst (λ (t : Text). AreLevels (clauses t) level) same_text levels)) in
    let kept = blocks_stay stay after.text level trace (then_cycle trace cycle) (record { initial = refl; more = cycle ∷ []; cycles = refl }) 0 (suc (length trace.cycles)) blocks (omega arith) old in
    subst (λ k. AreBlocks after.text level depth (then_cycle trace cycle) 0 (suc k) (blocks ++ block)) (sym longer)
    (blocks_then after.text level (then_cycle trace cycle) 0 (suc (length trace.cycles)) blocks block kept
    (subst (λ k. IsBlock after.text level depth (then_cycle trace cycle) k block) (let e : length (trace.cycles ++ cycle ∷ []) ≡ 0 + suc (length trace.cycles) = omega (arith, longer) in e) one))

-- the block of cycle 0
pub block_first : (engine : EngineState) (block : List ℕ) → Stands engine [] (first_trace engine.facts) → block ≡ block_text 0 (block_with engine no_cycle) → AreAllBlocks engine.text (first_trace engine.facts) block
block_first engine block stands spelled level levels = (block, [], is_block stands 0 no_cycle block refl refl spelled level levels, refl, sym (append-nil block))

-- ---- the last line

pub last_of : (text : Text) (trace : Trace) (counts : Counts) (bytes : List ℕ) → AreCountsOf text trace counts → bytes ≡ last_line counts → IsLastLine text trace bytes
last_of text trace counts bytes counted is level levels = (counts, counted level levels, is)

pub report_of : (text : Text) (trace : Trace) (counts : Counts) (blocks bytes : List ℕ) → AreAllBlocks text trace blocks → AreCountsOf text trace counts → bytes ≡ last_line counts →
    IsWholeReport text trace counts (blocks ++ bytes)
report_of text trace counts blocks bytes reported counted is level levels = (
  record {
    blocks = blocks;
    are_blocks = subst (λ k. AreBlocks text level depth trace 0 k blocks) (let e : suc (length trace.cycles) ≡ suc (length trace.cycles) - 0 = omega arith in e) (reported level levels);
    counts = counts;
    are_counts = counted level levels;
    spelled = ap (λ (bs : List ℕ). blocks ++ bs) is;
  },
  refl,
)
