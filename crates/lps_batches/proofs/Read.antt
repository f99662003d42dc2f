-- How a line is read, and that it is read in one way.
use Rattle.std.specs.Prelude.{ℕ, ◌≡◌, ◌<◌, ◌≤◌, ◌⊎◌, List, [], length, Option, Some, None, Result, Ok, Err, refl}
use Rattle.std.proofs.Common.{◌∙◌, ap, sym, subst, arith, inl, inr}
use Rattle.lps_terms.specs.declared.atom.Atom.{Atom}
use Rattle.lps_terms.specs.declared.batch_kind.BatchKind.{BatchKind}
use Rattle.lps_terms.specs.declared.lex_refused.LexRefused.{LexRefused}
use Rattle.lps_grammar.specs.declared.tok.Tok.{Tok}
use Rattle.lps_terms.specs.declared.batch_kind.BatchKind.TheVariants as kind
use Rattle.lps_model.specs.declared.batch.Batch.{Batch}
use Rattle.lps_lex.specs.Lexing.{lexed}
use Rattle.lps_lex.proofs.Places.{lexed_spans}
use Rattle.lps_grammar.specs.Lines as gl
use Rattle.lps_build.specs.Fits.{AreNamed}
use Rattle.lps_build.specs.Meaning.{line_of}
use Rattle.lps_build.specs.ReadLines.{line_in}
use Rattle.lps_build.proofs.LineTrees.{read_line}
use Rattle.lps_syntax.specs.Judging.{IsLineVerdict}
use Rattle.lps_syntax.specs.declared.line_verdict.LineVerdict.{LineVerdict}
use Rattle.lps_syntax.specs.declared.line_verdict.LineVerdict.TheVariants as verdict
use Rattle.lps_syntax.proofs.Unique.{line_unique}
use Rattle.lps_batches.specs.Lines.{IsLineRead, IsOutside, line_toks, SpellsBatch}
use Rattle.lps_batches.proofs.Named.{named_plain}

-- the names among the tokens of a line are ones that the syntax may have
pub line_named : (line : List ℕ) → AreNamed (line_toks line)
line_named line = named_plain line (lexed line).tokens (lexed_spans line (lexed line).tokens refl)

-- ---- one way

line_is : (x : gl.Line) (toks : List Tok) → toks ≡ gl.spell_line x [] → AreNamed toks → line_in (length toks) toks ≡ Some (line_of x, [])
line_is x toks e named = subst Reads (sym e) (λ n. read_line x _ [] (record { named = n; few = omega arith })) named
  where
    Reads : List Tok → Type 0
    Reads ts = AreNamed ts → line_in (length ts) ts ≡ Some (line_of x, [])

abbrev found_in : Option ((ℕ × List Atom) × List Tok) → ℕ × List Atom
found_in None = (0, [])
found_in (Some p) = p.0

one_meaning : (line : List ℕ) (x y : gl.Line) → line_toks line ≡ gl.spell_line x [] → line_toks line ≡ gl.spell_line y [] → line_of x ≡ line_of y
one_meaning line x y e f = ap found_in (sym (line_is x (line_toks line) e (line_named line)) ∙ line_is y (line_toks line) f (line_named line))

abbrev batch_of : ℕ × List Atom → Batch
batch_of p = record { number = p.0; events = p.1 }

one_batch : (line : List ℕ) (a b : Batch) → SpellsBatch line a → SpellsBatch line b → a ≡ b
one_batch line a b x y = ap batch_of (x.means ∙ one_meaning line x.tree y.tree x.spells y.spells ∙ sym y.means)

-- what a verdict says of how the line is read
abbrev Says : List ℕ → Result Batch BatchKind → LineVerdict → Type 0
Says line a verdict.Accepted = ((batch : Batch) × (a ≡ Ok batch) × SpellsBatch line batch) ⊎ ((a ≡ Err kind.BadLine) × ((lexed line).fault ≡ None → ⊥))
Says line a verdict.Incomplete = a ≡ Err kind.BadLine
Says line a (verdict.Bad i) = a ≡ Err kind.BadLine
Says line a (verdict.TooManyEvents i) = a ≡ Err kind.TooManyEvents
Says line a (verdict.TooLarge i) = a ≡ Err kind.TermTooLarge

-- a verdict stands, and says this
abbrev IsJudged : List ℕ → Result Batch BatchKind → Type 0
IsJudged line a = (v : LineVerdict) × IsLineVerdict v (line_toks line) × Says line a v

some_fault : {fault : Option LexRefused} {refused : LexRefused} → fault ≡ Some refused → fault ≡ None → ⊥
some_fault e f = let both = sym e ∙ f in absurd cc

outside_judged : (line : List ℕ) → IsOutside line → IsJudged line (Err kind.BadLine)
outside_judged line (inl (i, v)) = (verdict.Bad i, v, refl)
outside_judged line (inr (inl v)) = (verdict.Incomplete, v, refl)
outside_judged line (inr (inr (v, (fault, e)))) = (verdict.Accepted, v, inr (refl, some_fault e))

-- the line is short and judged, or too long
size_of : (line : List ℕ) (a : Result Batch BatchKind) → IsLineRead line a → ((length line ≤ 65536) × IsJudged line a) ⊎ ((65536 < length line) × (a ≡ Err kind.LineTooLong))
size_of line (Ok batch) r = inl (r.short, (verdict.Accepted, r.accepted, inl (batch, refl, r)))
size_of line (Err kind.LineTooLong) r = inr (r, refl)
size_of line (Err kind.BadLine) r = inl (r.0, outside_judged line r.1)
size_of line (Err kind.TooManyEvents) r = inl (r.0, (verdict.TooManyEvents r.1.0, r.1.1, refl))
size_of line (Err kind.TermTooLarge) r = inl (r.0, (verdict.TooLarge r.1.0, r.1.1, refl))
size_of line (Err other) r = absurd r

one_by_verdict : (line : List ℕ) (v : LineVerdict) (a b : Result Batch BatchKind) → Says line a v → Says line b v → a ≡ b
one_by_verdict line verdict.Accepted a b (inl (x, e, p)) (inl (y, f, q)) = e ∙ ap Ok (one_batch line x y p q) ∙ sym f
one_by_verdict line verdict.Accepted a b (inl (x, e, p)) (inr (f, fault)) = absurd (fault p.faultless)
one_by_verdict line verdict.Accepted a b (inr (e, fault)) (inl (y, f, q)) = absurd (fault q.faultless)
one_by_verdict line verdict.Accepted a b (inr (e, fault)) (inr (f, other)) = e ∙ sym f
one_by_verdict line verdict.Incomplete a b e f = e ∙ sym f
one_by_verdict line (verdict.Bad i) a b e f = e ∙ sym f
one_by_verdict line (verdict.TooManyEvents i) a b e f = e ∙ sym f
one_by_verdict line (verdict.TooLarge i) a b e f = e ∙ sym f

one_by_size : (line : List ℕ) (a b : Result Batch BatchKind) → ((length line ≤ 65536) × IsJudged line a) ⊎ ((65536 < length line) × (a ≡ Err kind.LineTooLong)) →
    ((length line ≤ 65536) × IsJudged line b) ⊎ ((65536 < length line) × (b ≡ Err kind.LineTooLong)) → a ≡ b
one_by_size line a b (inl (short, (v, p, says))) (inl (also_short, (w, q, also))) =
    one_by_verdict line w a b (subst (Says line a) (line_unique (line_toks line) v w p q) says) also
one_by_size line a b (inl (short, judged)) (inr (long, e)) = absurd (omega arith)
one_by_size line a b (inr (long, e)) (inl (short, judged)) = absurd (omega arith)
one_by_size line a b (inr (long, e)) (inr (also_long, f)) = e ∙ sym f

pub one_reading : (line : List ℕ) (a b : Result Batch BatchKind) → IsLineRead line a → IsLineRead line b → a ≡ b
one_reading line a b p q = one_by_size line a b (size_of line a p) (size_of line b q)

-- ---- the tokens of a line are built

-- something is built
pub built_some : (line : List ℕ) (toks : List Tok) → toks ≡ line_toks line → IsLineVerdict verdict.Accepted toks →
    ((x : gl.Line) → toks ≡ gl.spell_line x [] → AreNamed toks → ⊥) → ⊥
built_some line toks e accepted none = none accepted.0.0 accepted.0.1 (subst AreNamed (sym e) (line_named line))

pub built_batch : (line : List ℕ) (toks : List Tok) (number : ℕ) (events : List Atom) → length line ≤ 65536 → (lexed line).fault ≡ None → toks ≡ line_toks line →
    IsLineVerdict verdict.Accepted toks → ((x : gl.Line) → toks ≡ gl.spell_line x [] → AreNamed toks → (number, events) ≡ line_of x) →
    IsLineRead line (Ok (record { number = number; events = events }))
built_batch line toks number events short faultless e accepted builds = record {
  short = short;
  faultless = faultless;
  accepted = subst (IsLineVerdict verdict.Accepted) e accepted;
  tree = accepted.0.0;
  spells = sym e ∙ accepted.0.1;
  means = builds accepted.0.0 accepted.0.1 (subst AreNamed (sym e) (line_named line));
}
