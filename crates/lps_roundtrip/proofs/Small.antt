-- The canonical text of a text with few enough symbols has few enough.
use Rattle.std.specs.Prelude.{ℕ, ◌≡◌, ◌≤◌, List, [], ◌∷◌, Option, Some, None, All, refl, length, take}
use Rattle.std.proofs.Common.{sym, ap, subst, append-nil}
use Rattle.lps_grammar.specs.declared.tok.Tok.{Tok}
use Rattle.lps_grammar.specs.Statements.{Text, spell_text}
use Rattle.lps_grammar.specs.Sizes.{symbols_text}
use Rattle.lps_syntax.specs.declared.frame.Frame.{Frame}
use Rattle.lps_syntax.specs.Runs.{step}
use Rattle.lps_syntax.specs.Counts.{counts, counts_if, count_step, symbols_after}
use Rattle.lps_syntax.specs.Judging.{IsSmallText}
use Rattle.lps_syntax.proofs.Symbols.{text_symbols}
use Rattle.lps_syntax.proofs.Tallies.{fits}
use Rattle.lps_syntax.proofs.Verdicts.{text_start, text_of, symbols_of, text_through}
use Rattle.lps_roundtrip.specs.Canonical.{canonical_text}
use Rattle.lps_roundtrip.proofs.Growth.{text_lessens}

-- there are no more counts than tokens
on : (o : Option (List Frame)) (n : ℕ) (ts : List Tok) → ((s : List Frame) → take (length ts) (counts symbols_after s n ts) ≡ counts symbols_after s n ts) →
    take (length ts) (counts_if o (λ s. counts symbols_after s n ts)) ≡ counts_if o (λ s. counts symbols_after s n ts)
on None n [] h = refl
on None n (t ∷ ts) h = refl
on (Some s) n ts h = h s

all_counts : (ts : List Tok) (s : List Frame) (n : ℕ) → take (length ts) (counts symbols_after s n ts) ≡ counts symbols_after s n ts
all_counts [] s n = refl
all_counts (t ∷ ts) s n =
    ap (λ us. count_step symbols_after s n t ∷ us) (on (step s t) (count_step symbols_after s n t) ts (λ u. all_counts ts u (count_step symbols_after s n t)))

all_symbols : (x : Text) → take (length (spell_text x [])) (symbols_text x []) ≡ symbols_text x []
all_symbols x = subst (λ us. take (length (spell_text x [])) us ≡ us) (text_symbols x) (all_counts (spell_text x []) text_start 0)

-- of the tokens of a text: few enough in each text that begins with them is few enough in this one
pub small_counts : (x : Text) → IsSmallText (spell_text x []) → All (λ n. n ≤ 1024) (symbols_text x [])
small_counts x small = subst (All (λ n. n ≤ 1024)) (all_symbols x) (small x [] (append-nil (spell_text x [])))

pub counts_small : (x : Text) → All (λ n. n ≤ 1024) (symbols_text x []) → IsSmallText (spell_text x [])
counts_small x all =
    fits symbols_after Text text_of symbols_of text_start 1024 text_symbols (spell_text x []) text_start (text_through x) (subst (All (λ n. n ≤ 1024)) (sym (text_symbols x)) all)

pub small_stays : (x : Text) → IsSmallText (spell_text x []) → IsSmallText (spell_text (canonical_text x) [])
small_stays x small = counts_small (canonical_text x) (text_lessens x [] [] (λ limit all. all) 1024 (small_counts x small))
