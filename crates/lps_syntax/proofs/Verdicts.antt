-- What running and counting say of a text, and of a line.
use Rattle.std.specs.Prelude.{ℕ, ◌≡◌, ◌+◌, ◌<◌, ◌≤◌, List, [], ◌∷◌, Some, None, All, refl, length, take}
use Rattle.std.proofs.Common.{◌∙◌, ap, get_or}
use Rattle.lps_grammar.specs.declared.tok.Tok.{Tok}
use Rattle.lps_grammar.specs.Statements.{Text, spell_text}
use Rattle.lps_grammar.specs.Lines.{Line, spell_line}
use Rattle.lps_grammar.specs.Sizes.{symbols_text, symbols_line, begun_line}
use Rattle.lps_syntax.specs.declared.frame.Frame.{Frame}
use Rattle.lps_syntax.specs.declared.frame.Frame.TheVariants as f
use Rattle.lps_syntax.specs.Runs.{run, step}
use Rattle.lps_syntax.proofs.Complete.{through_text, through_line}
use Rattle.lps_syntax.proofs.Sound.{begins_text, is_text, begins_line, is_line}
use Rattle.lps_syntax.specs.Counts.{counts, count_step, symbols_after, events_after}
use Rattle.lps_syntax.specs.Judging.{IsSmallText, HasFewEvents, KeepsLimits, IsTextVerdict, IsLineVerdict}
use Rattle.lps_syntax.specs.declared.text_verdict.TextVerdict.TheVariants as tv
use Rattle.lps_syntax.specs.declared.line_verdict.LineVerdict.TheVariants as lv
use Rattle.lps_syntax.proofs.Symbols.{text_symbols, line_symbols}
use Rattle.lps_syntax.proofs.Begun.{line_begun}
use Rattle.lps_syntax.proofs.Running.{run_more, none_begins, none_spelled}
use Rattle.lps_syntax.proofs.Tallies.{Within, within_none, within_more, past_limit, fits, fits_not}

-- ---- texts

abbrev pub text_start : List Frame
text_start = f.Text ∷ []

abbrev pub text_of : Text → List Tok
text_of x = spell_text x []

abbrev pub symbols_of : Text → List ℕ
symbols_of x = symbols_text x []

pub text_through : (x : Text) → run text_start (text_of x) ≡ Some text_start
text_through x = through_text x [] []

small_text : (ts : List Tok) (u : List Frame) → run text_start ts ≡ Some u → All (λ n. n ≤ 1024) (counts symbols_after text_start 0 ts) → IsSmallText ts
small_text ts u e all = fits symbols_after Text text_of symbols_of text_start 1024 text_symbols ts u e all

-- after these tokens of a text `u` is expected, and the part has `c` symbols
pub record TextSoFar (ts : List Tok) (u : List Frame) (c : ℕ) : Type 0 where
  pub there : run text_start ts ≡ Some u
  pub symbols : Within symbols_after 1024 text_start ts c

pub text_none : TextSoFar [] text_start 0
text_none = record { there = refl; symbols = within_none symbols_after 1024 text_start }

module _ (ts : List Tok) (i : ℕ) (t : Tok) (u : List Frame) (c : ℕ) (h : i < length ts) (so_far : TextSoFar (take i ts) u c) (is : t ≡ get_or ts i t) where
  pub text_bad : step u t ≡ None → IsTextVerdict (tv.Bad i) ts
  text_bad none = (
    h,
    begins_text (take i ts) u so_far.there,
    small_text (take i ts) u so_far.there so_far.symbols.low,
    none_begins Text text_of text_start text_start text_through (take (i + 1) ts) (run_more text_start ts i t u h is so_far.there ∙ none),
  )

  module _ (v : List Frame) (n : ℕ) (on : step u t ≡ Some v) (e : n ≡ count_step symbols_after u c t) where
    text_there : run text_start (take (i + 1) ts) ≡ Some v
    text_there = run_more text_start ts i t u h is so_far.there ∙ on

    pub text_more : n ≤ 1024 → TextSoFar (take (i + 1) ts) v n
    text_more le = record { there = text_there; symbols = within_more symbols_after 1024 text_start ts i t u v c n h is so_far.there on so_far.symbols e le }

    pub text_large : 1024 < n → IsTextVerdict (tv.TooLarge i) ts
    text_large big = (
      h,
      begins_text (take (i + 1) ts) v text_there,
      small_text (take i ts) u so_far.there so_far.symbols.low,
      fits_not symbols_after Text text_of symbols_of text_start 1024 text_symbols (take (i + 1) ts) v text_there (begins_text (take (i + 1) ts) v text_there)
          (past_limit symbols_after 1024 text_start ts i t u v c n h is so_far.there on so_far.symbols e big),
    )

pub text_accepted : (ts : List Tok) (u : List Frame) (c : ℕ) → TextSoFar ts u c → u ≡ text_start → IsTextVerdict tv.Accepted ts
text_accepted ts u c so_far e = (is_text ts (so_far.there ∙ ap Some e), small_text ts u so_far.there so_far.symbols.low)

pub text_incomplete : (ts : List Tok) (u : List Frame) (c : ℕ) → TextSoFar ts u c → (u ≡ text_start → ⊥) → IsTextVerdict tv.Incomplete ts
text_incomplete ts u c so_far other = (
  begins_text ts u so_far.there,
  none_spelled Text text_of text_start text_start text_through ts u so_far.there other,
  small_text ts u so_far.there so_far.symbols.low,
)

-- ---- lines

abbrev pub line_start : List Frame
line_start = f.Line ∷ []

abbrev pub line_of : Line → List Tok
line_of x = spell_line x []

abbrev pub symbols_in : Line → List ℕ
symbols_in x = symbols_line x []

pub line_through : (x : Line) → run line_start (line_of x) ≡ Some []
line_through x = through_line x [] []

-- after these tokens of a line `u` is expected, `b` events have begun, and the part has `c` symbols
pub record LineSoFar (ts : List Tok) (u : List Frame) (b c : ℕ) : Type 0 where
  pub there : run line_start ts ≡ Some u
  pub events : Within events_after 1000 line_start ts b
  pub symbols : Within symbols_after 1024 line_start ts c

pub line_none : LineSoFar [] line_start 0 0
line_none = record { there = refl; events = within_none events_after 1000 line_start; symbols = within_none symbols_after 1024 line_start }

few_events : (ts : List Tok) (u : List Frame) → run line_start ts ≡ Some u → All (λ n. n ≤ 1000) (counts events_after line_start 0 ts) → HasFewEvents ts
few_events ts u e all = fits events_after Line line_of begun_line line_start 1000 line_begun ts u e all

line_limits : (ts : List Tok) (u : List Frame) (b c : ℕ) → LineSoFar ts u b c → KeepsLimits ts
line_limits ts u b c so_far = (
  few_events ts u so_far.there so_far.events.low,
  fits symbols_after Line line_of symbols_in line_start 1024 line_symbols ts u so_far.there so_far.symbols.low,
)

module _ (ts : List Tok) (i : ℕ) (t : Tok) (u : List Frame) (b c : ℕ) (h : i < length ts) (so_far : LineSoFar (take i ts) u b c) (is : t ≡ get_or ts i t) where
  pub line_bad : step u t ≡ None → IsLineVerdict (lv.Bad i) ts
  line_bad none = (
    h,
    begins_line (take i ts) u so_far.there,
    line_limits (take i ts) u b c so_far,
    none_begins Line line_of line_start [] line_through (take (i + 1) ts) (run_more line_start ts i t u h is so_far.there ∙ none),
  )

  module _ (v : List Frame) (m : ℕ) (on : step u t ≡ Some v) (d : m ≡ count_step events_after u b t) where
    line_there : run line_start (take (i + 1) ts) ≡ Some v
    line_there = run_more line_start ts i t u h is so_far.there ∙ on

    pub line_many : 1000 < m → IsLineVerdict (lv.TooManyEvents i) ts
    line_many big = (
      h,
      begins_line (take (i + 1) ts) v line_there,
      line_limits (take i ts) u b c so_far,
      fits_not events_after Line line_of begun_line line_start 1000 line_begun (take (i + 1) ts) v line_there (begins_line (take (i + 1) ts) v line_there)
          (past_limit events_after 1000 line_start ts i t u v b m h is so_far.there on so_far.events d big),
    )

    module _ (few : m ≤ 1000) (n : ℕ) (e : n ≡ count_step symbols_after u c t) where
      more_events : Within events_after 1000 line_start (take (i + 1) ts) m
      more_events = within_more events_after 1000 line_start ts i t u v b m h is so_far.there on so_far.events d few

      pub line_more : n ≤ 1024 → LineSoFar (take (i + 1) ts) v m n
      line_more le = record {
        there = line_there;
        events = more_events;
        symbols = within_more symbols_after 1024 line_start ts i t u v c n h is so_far.there on so_far.symbols e le;
      }

      pub line_large : 1024 < n → IsLineVerdict (lv.TooLarge i) ts
      line_large big = (
        h,
        begins_line (take (i + 1) ts) v line_there,
        line_limits (take i ts) u b c so_far,
        few_events (take (i + 1) ts) v line_there more_events.low,
        fits_not symbols_after Line line_of symbols_in line_start 1024 line_symbols (take (i + 1) ts) v line_there (begins_line (take (i + 1) ts) v line_there)
            (past_limit symbols_after 1024 line_start ts i t u v c n h is so_far.there on so_far.symbols e big),
      )

pub line_accepted : (ts : List Tok) (u : List Frame) (b c : ℕ) → LineSoFar ts u b c → u ≡ [] → IsLineVerdict lv.Accepted ts
line_accepted ts u b c so_far e = (is_line ts (so_far.there ∙ ap Some e), line_limits ts u b c so_far)

pub line_incomplete : (ts : List Tok) (u : List Frame) (b c : ℕ) → LineSoFar ts u b c → (u ≡ [] → ⊥) → IsLineVerdict lv.Incomplete ts
line_incomplete ts u b c so_far other = (
  begins_line ts u so_far.there,
  none_spelled Line line_of line_start [] line_through ts u so_far.there other,
  line_limits ts u b c so_far,
)
