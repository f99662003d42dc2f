-- Lines at the front of bytes, and what stands ahead behind them.
use Rattle.std.specs.Prelude.{ℕ, zero, suc, ◌≡◌, ◌+◌, ◌-◌, ◌<◌, ◌≤◌, Bool, true, false, List, [], ◌∷◌, length, drop, nat_lt, ◌==◌, if◌then◌else◌, refl}
use Rattle.std.proofs.Common.{◌∙◌, sym, ap, subst, arith, length-drop}
use Rattle.std.proofs.lemmas.Bool.{eqb-false}
pub use Rattle.lps_lex.proofs.Runs.{take_run, run_within}
use Rattle.lps_batches.specs.declared.ahead.Step.{Step}
use Rattle.lps_batches.specs.declared.ahead.Step.TheVariants as step
use Rattle.lps_batches.specs.declared.front.Front.{Front}
use Rattle.lps_batches.specs.LookAhead.{ahead_from, is_no_feed, is_skipped, PassesIn, step_by, step_of, with_step}

passes_if : (count : ℕ) (test : Bool) (first otherwise : Step) → (test ≡ true → PassesIn count first) → (test ≡ false → PassesIn count otherwise) →
    PassesIn count (if test then first else otherwise)
passes_if count true first otherwise f g = f refl
passes_if count false first otherwise f g = g refl

pub line_passes : (count : ℕ) (line : List ℕ) → length line ≤ count → PassesIn count (step_by line count)
line_passes count line within =
    passes_if count (nat_lt 65536 (length line)) _ _ (λ long. tt) (λ short.
    passes_if count (length line == count) _ _ (λ part. tt) (λ whole. let apart = eqb-false _ _ whole in
    passes_if count (is_skipped line) _ _ (λ skipped. (omega arith, omega arith)) (λ kept. tt)))

-- the line at a place lies within the bytes
pub passes_at : (at : ℕ) (bytes : List ℕ) (found : Step) → found ≡ step_of (drop at bytes) → PassesIn (length bytes - at) found
passes_at at bytes found e =
    subst (λ x. PassesIn (length bytes - at) x) (sym e)
    (subst (λ count. PassesIn count (step_of (drop at bytes))) (length-drop at bytes) (line_passes (length (drop at bytes)) _ (run_within is_no_feed (drop at bytes))))

-- to skip bytes is to begin behind them
pub ahead_from-skip : (skip : ℕ) (bytes : List ℕ) (at lines : ℕ) → skip ≤ length bytes → ahead_from bytes skip at lines ≡ ahead_from (drop skip bytes) 0 (at + skip) lines
ahead_from-skip zero bytes at lines within = ap (λ place. ahead_from bytes 0 place lines) (omega arith)
ahead_from-skip (suc skip) [] at lines within = absurd (omega arith)
ahead_from-skip (suc skip) (byte ∷ bytes) at lines within =
    ahead_from-skip skip bytes (suc at) lines (omega arith) ∙ ap (λ place. ahead_from (drop skip bytes) 0 place lines) (omega arith)

pub ahead_from-pass : (bytes : List ℕ) (count at lines : ℕ) → 0 < count → count ≤ length bytes → step_of bytes ≡ step.Pass count →
    ahead_from bytes 0 at lines ≡ ahead_from (drop count bytes) 0 (at + count) (lines + 1)
ahead_from-pass [] count at lines some within e = absurd (omega arith)
ahead_from-pass (byte ∷ bytes) zero at lines some within e = absurd (omega arith)
ahead_from-pass (byte ∷ bytes) (suc count) at lines some within e =
    ap (λ found. with_step found at lines (λ skip next. ahead_from bytes (skip - 1) (suc at) next)) e
    ∙ ap (λ skip. ahead_from bytes skip (suc at) (suc lines)) (let less : suc count - 1 ≡ count = omega arith in less)
    ∙ ahead_from-skip count bytes (suc at) (suc lines) (omega arith)
    ∙ ap (λ place. ahead_from (drop count bytes) 0 place (suc lines)) (omega arith) ∙ ap (ahead_from (drop count bytes) 0 (at + suc count)) (omega arith)

pub ahead_from-stop : (bytes : List ℕ) (found : Front) (at lines : ℕ) → 0 < length bytes → step_of bytes ≡ step.Stop found →
    ahead_from bytes 0 at lines ≡ record { lines = lines; bytes = at; front = found }
ahead_from-stop [] found at lines some e = absurd (omega arith)
ahead_from-stop (byte ∷ bytes) found at lines some e = ap (λ found. with_step found at lines (λ skip next. ahead_from bytes (skip - 1) (suc at) next)) e
