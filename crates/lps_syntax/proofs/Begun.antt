-- The counts of events are the numbers of the events of each line.
use Rattle.std.specs.Prelude.{ℕ, suc, ◌+◌, ◌≡◌, Bool, false, List, [], ◌∷◌, refl}
use Rattle.std.proofs.Common.{◌∙◌, ap}
use Rattle.lps_grammar.specs.declared.tok.Tok.{Tok}
use Rattle.lps_grammar.specs.declared.tok.Tok.TheVariants as k
use Rattle.lps_grammar.specs.Terms as te
use Rattle.lps_grammar.specs.Lines as li
use Rattle.lps_grammar.specs.Sizes as sz
use Rattle.lps_syntax.specs.declared.frame.Frame.{Frame}
use Rattle.lps_syntax.specs.declared.frame.Frame.TheVariants as f
use Rattle.lps_syntax.specs.Counts as c

abbrev tally : List Frame → ℕ → List Tok → List ℕ
tally = c.counts c.events_after

-- these tokens go past the phrase, and the counts are those of what is below
abbrev Passes : Frame → List Tok → Type 0
Passes a rest = (s : List Frame) (n : ℕ) → tally (a ∷ s) n rest ≡ tally s n rest

terms_pass : {vars : Bool} {m : ℕ} (xs : te.Terms vars m) (rest : List Tok) → Passes (f.Args vars) (te.spell_terms xs rest)
terms_pass te.end rest s n = refl
terms_pass (te.more x xs) rest s n = refl

leaf_begun : {vars : Bool} (x : te.Leaf vars) (rest : List Tok) (s : List Frame) (n : ℕ) →
    tally (f.Term vars ∷ s) n (te.spell_leaf x rest) ≡ sz.begun_leaf x n (tally s n rest)
leaf_begun (te.variable may v) rest s n = rw may refl
leaf_begun (te.number v small) rest s n = rw small refl
leaf_begun (te.negative v small) rest s n = rw small refl

mutual
  term_begun : {vars : Bool} (x : te.Term vars) (rest : List Tok) → Passes (f.Args vars) rest → (s : List Frame) (n : ℕ) →
      tally (f.Term vars ∷ s) n (te.spell_term x rest) ≡ sz.begun_term x n (tally s n rest)
  term_begun (te.named v xs) rest p s n = ap (λ us. n ∷ us) (args_begun xs rest p s n)
  term_begun (te.leaf x) rest p s n = leaf_begun x rest s n

  args_begun : {vars : Bool} (x : te.Args vars) (rest : List Tok) → Passes (f.Args vars) rest → (s : List Frame) (n : ℕ) →
      tally (f.Args vars ∷ s) n (te.spell_args x rest) ≡ sz.begun_args x n (tally s n rest)
  args_begun te.bare rest p s n = p s n
  args_begun {vars = vars} (te.args x xs) rest p s n = ap (λ us. n ∷ us)
      (term_begun x (te.spell_terms xs rest) (terms_pass xs rest) (f.Terms vars 63 ∷ s) n ∙ ap (sz.begun_term x n) (terms_begun xs rest s n))

  terms_begun : {vars : Bool} {m : ℕ} (xs : te.Terms vars m) (rest : List Tok) (s : List Frame) (n : ℕ) →
      tally (f.Terms vars m ∷ s) n (te.spell_terms xs rest) ≡ sz.begun_terms xs n (tally s n rest)
  terms_begun te.end rest s n = refl
  terms_begun {vars = vars} {m = suc m} (te.more x xs) rest s n = ap (λ us. n ∷ us)
      (term_begun x (te.spell_terms xs rest) (terms_pass xs rest) (f.Terms vars m ∷ s) n ∙ ap (sz.begun_term x n) (terms_begun xs rest s n))

events_pass : (xs : li.MoreEvents) (ts : List Tok) → Passes (f.Args false) (li.spell_more_events xs (k.Dot ∷ ts))
events_pass li.no_event ts s n = refl
events_pass (li.also_event x xs) ts s n = refl

more_events_begun : (xs : li.MoreEvents) (ts : List Tok) (s : List Frame) (n : ℕ) →
    tally (f.MoreEvents ∷ s) n (li.spell_more_events xs (k.Dot ∷ ts)) ≡ sz.begun_more_events xs n (λ d. tally s d (k.Dot ∷ ts))
more_events_begun li.no_event ts s n = refl
more_events_begun (li.also_event (te.atom v x) xs) ts s n = ap (λ us. n ∷ (n + 1) ∷ us)
    (args_begun x (li.spell_more_events xs (k.Dot ∷ ts)) (events_pass xs ts) (f.MoreEvents ∷ s) (n + 1) ∙ ap (sz.begun_args x (n + 1)) (more_events_begun xs ts s (n + 1)))

events_begun : (x : li.Events) (ts : List Tok) (s : List Frame) →
    tally (f.Events ∷ s) 0 (li.spell_events x (k.Dot ∷ ts)) ≡ sz.begun_events x (λ d. tally s d (k.Dot ∷ ts))
events_begun li.none ts s = refl
events_begun (li.events (te.atom v x) xs) ts s = ap (λ us. 1 ∷ us)
    (args_begun x (li.spell_more_events xs (k.Dot ∷ ts)) (events_pass xs ts) (f.MoreEvents ∷ s) 1 ∙ ap (sz.begun_args x 1) (more_events_begun xs ts s 1))

pub line_begun : (x : li.Line) → c.counts c.events_after (f.Line ∷ []) 0 (li.spell_line x []) ≡ sz.begun_line x
line_begun (li.line v xs) = ap (λ us. 0 ∷ 0 ∷ us) (events_begun xs [] (f.LineEnd ∷ []))
