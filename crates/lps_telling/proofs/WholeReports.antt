-- Blocks one after the other can be cut apart, so the bytes of all blocks, or of a whole report, tell the run.
use Rattle.std.proofs.Common.{ℕ, zero, suc, ◌≡◌, ◌≤◌, ◌<◌, ◌+◌, Bool, true, false, List, [], ◌∷◌, ◌++◌, length, refl, sym, ap, subst, ◌∙◌, arith, append_assoc, inl, inr}
use Rattle.std.specs.Prelude.{◌==◌, ◌&&◌, ◌-◌, if◌then◌else◌, nat_eq, codes}
use Rattle.std.specs.Fmt.{decimal}
use Rattle.lps_terms.specs.declared.text.Text.{Text}
use Rattle.lps_model.specs.declared.trace.Trace.{Trace}
use Rattle.lps_meaning.specs.declared.goal.Counts.{Counts}
use Rattle.lps_meaning.specs.Cycles.{IsRun}
use Rattle.lps_telling.specs.Laws.{IsGroundReport}
use Rattle.lps_meaning.specs.Reports.{AreBlocks, Block, block_text, IsBlockOf, IsReport, last_line}
use Rattle.lps_telling.proofs.BlockLines.{block_told_before, MayFollow}
use Rattle.lps_telling.proofs.BlockTexts.{block_before}
use Rattle.lps_meaning.proofs.ReportLaws.{trace_of_blocks}
use Rattle.lps_telling.proofs.TextPieces.{head_or}
use Rattle.lps_meaning.proofs.Splits.{le_or_lt}

-- whether a block comes next
abbrev starts_block : List ℕ → Bool
starts_block [] = false
starts_block (byte ∷ bytes) = (byte == 99) && (head_or 0 bytes == 121)

-- what may stand behind all blocks: no block, and nothing with which a block goes on
abbrev IsLast : List ℕ → Type 0
IsLast rest = MayFollow rest × (starts_block rest ≡ false)

last_is : (counts : Counts) → IsLast (last_line counts)
last_is counts = by (nat_eq counts.pending 0 && nat_eq counts.failed 0 && nat_eq counts.cut 0)
  where
    by : (none : Bool) → IsLast (if none then codes "done\n" else codes "open " ++ decimal counts.pending ++ codes " failed " ++ decimal counts.failed ++ codes " cut " ++ decimal counts.cut ++ codes "\n")
    by true = ((refl, refl), refl)
    by false = ((refl, refl), refl)

block_starts : (k : ℕ) (block : Block) (rest : List ℕ) → starts_block (block_text k block ++ rest) ≡ true
block_starts k block rest = ap starts_block (block_before k block rest)

module _ (text : Text) (level : List ℕ → ℕ) (depth : ℕ) where
  blocks_follow : (trace : Trace) (first n : ℕ) (bytes rest : List ℕ) → AreBlocks text level depth trace first n bytes → MayFollow rest → MayFollow (bytes ++ rest)
  blocks_follow trace first zero bytes rest none last = subst (λ (front : List ℕ). MayFollow (front ++ rest)) (sym none) last
  blocks_follow trace first (suc n) bytes rest are last =
      subst MayFollow (sym (ap (λ front. front ++ rest) (are.4 ∙ ap (λ block. block ++ are.1) are.2.2) ∙ append_assoc (block_text first are.2.0) are.1 rest ∙ block_before first are.2.0 (are.1 ++ rest)))
      (refl, refl)

  module _ (trace other : Trace) (ground : IsGroundReport text level depth trace) (same_ground : IsGroundReport text level depth other) where
    -- one thing is reported of cycle k of both
    abbrev SameBlock : ℕ → Type 0
    SameBlock k = (block : Block) × IsBlockOf text level depth trace k block × IsBlockOf text level depth other k block

    apart : (mine : Trace) (first n : ℕ) (bytes rest : List ℕ) (are : AreBlocks text level depth mine first (suc n) bytes) → bytes ++ rest ≡ block_text first are.2.0 ++ (are.1 ++ rest)
    apart mine first n bytes rest are = ap (λ front. front ++ rest) (are.4 ∙ ap (λ block. block ++ are.1) are.2.2) ∙ append_assoc (block_text first are.2.0) are.1 rest

    nothing_left : (mine : Trace) (first n : ℕ) (bytes others rest after : List ℕ) → IsLast after → bytes ≡ [] → AreBlocks text level depth mine first (suc n) others →
        bytes ++ after ≡ others ++ rest → ⊥
    nothing_left mine first n bytes others rest after last none are e =
        let starting = block_starts first are.2.0 (are.1 ++ rest) in
        let same = ap starts_block (ap (λ front. front ++ after) (sym none) ∙ e ∙ apart mine first n others rest are) in
        let stops = last.1 in
        absurd cc

    same_blocks : (first n m : ℕ) (bytes others rest after : List ℕ) → IsLast rest → IsLast after → first + n ≡ suc (length trace.cycles) → first + m ≡ suc (length other.cycles) →
        AreBlocks text level depth trace first n bytes → AreBlocks text level depth other first m others → bytes ++ rest ≡ others ++ after →
        (n ≡ m) × ((k : ℕ) → first ≤ k → k < first + n → SameBlock k)
    same_blocks first zero zero bytes others rest after last ends all every one two e = (refl, λ k from upto. absurd (omega arith))
    same_blocks first zero (suc m) bytes others rest after last ends all every one two e = absurd (nothing_left other first m bytes others after rest last one two e)
    same_blocks first (suc n) zero bytes others rest after last ends all every one two e = absurd (nothing_left trace first n others bytes rest after ends two one (sym e))
    same_blocks first (suc n) (suc m) bytes others rest after last ends all every one two e =
        let told = block_told_before text level depth trace other first one.2.0 two.2.0 one.2.1 two.2.1
        (ground first (omega (arith, all)) one.2.0 one.2.1) (same_ground first (omega (arith, every)) two.2.0 two.2.1) (one.1 ++ rest) (two.1 ++ after)
        (blocks_follow trace (suc first) n one.1 rest one.3 last.0) (blocks_follow other (suc first) m two.1 after two.3 ends.0)
        (sym (apart trace first n bytes rest one) ∙ e ∙ apart other first m others after two) in
        let later = same_blocks (suc first) n m one.1 two.1 rest after last ends (omega (arith, all)) (omega (arith, every)) one.3 two.3 told.1 in
        let here : SameBlock first = (one.2.0, one.2.1, subst (IsBlockOf text level depth other first) (sym told.0) two.2.1) in (
          ap suc later.0,
          λ k from upto. elim (le_or_lt (suc first) k) [
            | inl le ↦ later.1 k le (omega arith)
            | inr lt ↦ let at : first ≡ k = omega arith in subst SameBlock at here
          ],
        )

    run_of : IsRun text level depth trace → IsRun text level depth other → (bytes others rest after : List ℕ) → IsLast rest → IsLast after →
        AreBlocks text level depth trace 0 (suc (length trace.cycles)) bytes → AreBlocks text level depth other 0 (suc (length other.cycles)) others → bytes ++ rest ≡ others ++ after → trace ≡ other
    run_of s t bytes others rest after last ends one two e =
        let same = same_blocks 0 (suc (length trace.cycles)) (suc (length other.cycles)) bytes others rest after last ends (omega arith) (omega arith) one two e in
        let len : length trace.cycles ≡ length other.cycles = let n = same.0 in omega (arith, n) in
        trace_of_blocks text level depth trace other s.initial t.initial len (λ k upto. same.1 k (omega arith) (omega arith))

  pub run_of_blocks : (trace other : Trace) → IsRun text level depth trace → IsRun text level depth other → IsGroundReport text level depth trace → IsGroundReport text level depth other →
      (bytes : List ℕ) → AreBlocks text level depth trace 0 (suc (length trace.cycles)) bytes → AreBlocks text level depth other 0 (suc (length other.cycles)) bytes → trace ≡ other
  run_of_blocks trace other s t g h bytes one two = run_of trace other g h s t bytes bytes [] [] ((refl, refl), refl) ((refl, refl), refl) one two refl

  from_zero : (trace : Trace) (n : ℕ) (bytes : List ℕ) → AreBlocks text level depth trace 0 (n - 0) bytes → AreBlocks text level depth trace 0 n bytes
  from_zero trace n bytes are = let same : n - 0 ≡ n = omega arith in subst (λ (m : ℕ). AreBlocks text level depth trace 0 m bytes) same are

  pub run_of_report : (trace other : Trace) → IsRun text level depth trace → IsRun text level depth other → IsGroundReport text level depth trace → IsGroundReport text level depth other →
      (bytes : List ℕ) → IsReport text level depth trace 0 bytes → IsReport text level depth other 0 bytes → trace ≡ other
  run_of_report trace other s t g h bytes one two =
      run_of trace other g h s t one.blocks two.blocks (last_line one.counts) (last_line two.counts) (last_is one.counts) (last_is two.counts)
      (from_zero trace (suc (length trace.cycles)) one.blocks one.are_blocks) (from_zero other (suc (length other.cycles)) two.blocks two.are_blocks) (sym one.spelled ∙ two.spelled)
