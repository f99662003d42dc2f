-- What is counted while tokens are run through.
use Rattle.std.specs.Prelude.{ℕ, ◌+◌, List, [], ◌∷◌, Option, Some, None, if◌then◌else◌}
use Rattle.lps_grammar.specs.declared.tok.Tok.{Tok}
use Rattle.lps_grammar.specs.declared.tok.Tok.TheVariants as k
use Rattle.lps_grammar.specs.Signs.{is_op}
use Rattle.lps_syntax.specs.declared.frame.Frame.{Frame}
use Rattle.lps_syntax.specs.declared.frame.Frame.TheVariants as f
use Rattle.lps_syntax.specs.Runs.{step, taker}

-- ---- symbols

-- at the first token of a statement
abbrev pub symbols_at_start : Tok → ℕ
symbols_at_start (k.Name n) = 1
symbols_at_start t = 0

-- at the first token of a condition or an item
abbrev pub symbols_at_first : Tok → ℕ
symbols_at_first k.Not = 0
symbols_at_first (k.Time n) = 0
symbols_at_first t = 1

-- the symbols of the part after a token that the phrase takes, where it had `c` before
abbrev pub symbols_after : Frame → ℕ → Tok → ℕ
symbols_after f.Text c t = symbols_at_start t
symbols_after (f.Atom vars) c t = 1
symbols_after f.Events c t = 1
symbols_after f.Event c t = 1
symbols_after (f.Args vars) c t = c
symbols_after (f.Terms vars n) c t = c
symbols_after f.Negative c t = c
symbols_after (f.Term vars) c t = c + 1
symbols_after f.Unit c t = c + 1
symbols_after f.Rest c t = c + 1
symbols_after f.Cond c t = symbols_at_first t
symbols_after (f.Item bounds) c t = symbols_at_first t
symbols_after f.AfterLeaf c t = if is_op t then c + 1 else 0
symbols_after f.RestThenRel c t = if is_op t then c + 1 else 0
symbols_after f.RestThenClose c t = if is_op t then c + 1 else c
symbols_after a c t = 0

-- ---- events

-- the events begun after a token that the phrase takes, where there were `c` before
abbrev pub events_after : Frame → ℕ → Tok → ℕ
events_after f.Events c t = c + 1
events_after f.Event c t = c + 1
events_after a c t = c

-- ---- counts

-- the count at the phrase that takes the token
abbrev pub count_if : Option Frame → (Frame → ℕ) → ℕ
count_if None count = 0
count_if (Some a) count = count a

-- the count after a token
abbrev pub count_step : (Frame → ℕ → Tok → ℕ) → List Frame → ℕ → Tok → ℕ
count_step after s c t = count_if (taker s t) (λ a. after a c t)

-- the counts from there on
abbrev pub counts_if : Option (List Frame) → (List Frame → List ℕ) → List ℕ
counts_if None go = []
counts_if (Some s) go = go s

-- the count after each token
abbrev pub counts : (Frame → ℕ → Tok → ℕ) → List Frame → ℕ → List Tok → List ℕ
counts after s c [] = []
counts after s c (t ∷ ts) = count_step after s c t ∷ counts_if (step s t) (λ u. counts after u (count_step after s c t) ts)
