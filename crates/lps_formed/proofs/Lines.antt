-- The events of a line that was read are ground: one walk over the tree of the line, each name of which is one that a text
-- may give. Tokens of bytes may be variables, but a tree of a line spells none, so a line that is read has none.
use Rattle.std.specs.Prelude.{ℕ, zero, suc, ◌≡◌, ◌≤◌, ◌^◌, pos, Bool, true, false, List, [], ◌∷◌, All, length, nat_le, IsTrue, refl}
use Rattle.std.specs.Cmp.Derive.{both_true}
use Rattle.std.specs.List.{AllByRecursion, list_all}
use Rattle.std.proofs.Common.{◌∙◌, sym, ap, subst, arith}
use Rattle.std.proofs.lemmas.Bool.{leb-true, le-leb, lt-ltb}
use Rattle.lps_terms.specs.Names.{is_proper_name}
use Rattle.lps_terms.specs.declared.atom.Atom.{Atom}
use Rattle.lps_terms.specs.declared.term.Term.{Term}
use Rattle.lps_lex.specs.declared.token.Token.{Token}
use Rattle.lps_lex.specs.Lexing.{lexed}
use Rattle.lps_lex.specs.Spans.{IsTokenOf}
use Rattle.lps_lex.proofs.Places.{lexed_spans}
use Rattle.lps_grammar.specs.declared.tok.Tok.{Tok}
use Rattle.lps_grammar.specs.declared.tok.Tok.TheVariants as k
use Rattle.lps_grammar.specs.Terms as g
use Rattle.lps_grammar.specs.Lines as gl
use Rattle.lps_numbering.specs.Numbers.{entered, no_names, text_of}
use Rattle.lps_numbering.specs.Plain.{plain_tok, plain_toks}
use Rattle.lps_numbering.proofs.Alike.{on_refl}
use Rattle.lps_build.specs.Meaning.{args_of, atom_of, call_of, events_of, leaf_of, line_of, minus, more_events_of, term_of, terms_of}
use Rattle.lps_model.specs.declared.batch.Batch.{Batch}
use Rattle.lps_derivation.specs.Ground.{is_ground, is_ground-App, is_ground-Int, is_ground-Sym}
use Rattle.lps_terms.specs.Integers.{is_i64}
use Rattle.lps_batches.specs.Lines.{IsBatchLine}
use Rattle.lps_formed.proofs.Along.{IsFormedTok, tok_formed}

-- ---- the tokens of a line

-- a name is one that a text may give
abbrev IsProperTok : Tok → Type 0
IsProperTok (k.Name n) = is_proper_name n ≡ true
IsProperTok tok = Unit {0}

abbrev AreProper : List Tok → Type 0
AreProper = AllByRecursion IsProperTok

formed_proper : (variables times : ℕ) (tok : Tok) → IsFormedTok variables times tok → IsProperTok tok
formed_proper variables times (k.Name n) formed = formed
formed_proper variables times tok formed = tt

-- each token is formed under its own name
proper_tok : (bytes : List ℕ) (token : Token) → IsTokenOf bytes token → IsProperTok (plain_tok bytes token)
proper_tok bytes token is =
    let own = entered no_names token.kind (text_of bytes token) in
    formed_proper (length own.names) (length own.times) (plain_tok bytes token)
    (tok_formed no_names own token.kind (text_of bytes token) is.is.form is.is.limit (on_refl own.names, on_refl own.times))

proper_toks : (bytes : List ℕ) (tokens : List Token) → All (IsTokenOf bytes) tokens → AreProper (plain_toks bytes tokens)
proper_toks bytes [] all = tt
proper_toks bytes (token ∷ tokens) all =
    (proper_tok bytes token (all 0 token (omega arith)), proper_toks bytes tokens (λ j d inside. all (suc j) d (omega (arith, inside))))

-- ---- terms

-- the test is passed, and the names after the tree are proper
abbrev Passes : Bool → List Tok → Type 0
Passes test rest = (test ≡ true) × AreProper rest

minus_in_range : (n : ℕ) → nat_le n (2 ^ 63) ≡ true → is_i64 (minus n) ≡ true
minus_in_range zero small = refl
minus_in_range (suc n) small = lt-ltb n (2 ^ 63) (leb-true (suc n) (2 ^ 63) small)

leaf_ground : (x : g.Leaf false) (rest : List Tok) → AreProper (g.spell_leaf x rest) → Passes (is_ground (leaf_of x)) rest
leaf_ground (g.variable may v) rest p = absurd cc
leaf_ground (g.number n small) rest p = (is_ground-Int (pos n) ∙ small, p.1)
leaf_ground (g.negative n small) rest p = (is_ground-Int (minus n) ∙ minus_in_range n small, p.1.1)

-- ground terms, at most so many
record AreArgs (most : ℕ) (xs : List Term) (rest : List Tok) : Type 0 where
  few : length xs ≤ most
  ground : list_all is_ground xs ≡ true
  left : AreProper rest

call_ground : (n : List ℕ) (xs : List Term) → is_proper_name n ≡ true → length xs ≤ 64 → list_all is_ground xs ≡ true → is_ground (call_of n xs) ≡ true
call_ground n [] proper few ground = is_ground-Sym n ∙ proper
call_ground n (x ∷ xs) proper few ground = is_ground-App n (x ∷ xs) ∙ both_true (both_true (both_true proper (lt-ltb 0 (length (x ∷ xs)) (omega arith))) (le-leb _ _ few)) ground

mutual
  term_ground : (x : g.Term false) (rest : List Tok) → AreProper (g.spell_term x rest) → Passes (is_ground (term_of x)) rest
  term_ground (g.named n xs) rest p =
      let args = args_ground xs rest p.1 in
      (call_ground n (args_of xs) p.0 args.few args.ground, args.left)
  term_ground (g.leaf x) rest p = leaf_ground x rest p

  args_ground : (xs : g.Args false) (rest : List Tok) → AreProper (g.spell_args xs rest) → AreArgs 64 (args_of xs) rest
  args_ground g.bare rest p = record { few = omega arith; ground = refl; left = p }
  args_ground (g.args x xs) rest p =
      let first = term_ground x (g.spell_terms xs rest) p.1 in
      let more = terms_ground xs rest first.1 in
      record { few = omega (arith, more.few); ground = both_true first.0 more.ground; left = more.left }

  terms_ground : {n : ℕ} (xs : g.Terms false n) (rest : List Tok) → AreProper (g.spell_terms xs rest) → AreArgs n (terms_of xs) rest
  terms_ground g.end rest p = record { few = omega arith; ground = refl; left = p.1 }
  terms_ground (g.more x xs) rest p =
      let first = term_ground x (g.spell_terms xs rest) p.1 in
      let more = terms_ground xs rest first.1 in
      record { few = omega (arith, more.few); ground = both_true first.0 more.ground; left = more.left }

-- ---- events

-- a name that a text may give, and ground arguments
abbrev IsGroundEvent : Atom → Type 0
IsGroundEvent event = IsTrue (is_proper_name event.name) × IsTrue (list_all is_ground event.args)

event_ground : (x : g.Atom false) (rest : List Tok) → AreProper (g.spell_atom x rest) → IsGroundEvent (atom_of x) × AreProper rest
event_ground (g.atom n xs) rest p = let args = args_ground xs rest p.1 in ((p.0, args.ground), args.left)

more_events_ground : (xs : gl.MoreEvents) (rest : List Tok) → AreProper (gl.spell_more_events xs rest) → AllByRecursion IsGroundEvent (more_events_of xs)
more_events_ground gl.no_event rest p = tt
more_events_ground (gl.also_event x xs) rest p =
    let first = event_ground x (gl.spell_more_events xs rest) p.1 in
    (first.0, more_events_ground xs rest first.1)

events_ground : (xs : gl.Events) (rest : List Tok) → AreProper (gl.spell_events xs rest) → AllByRecursion IsGroundEvent (events_of xs)
events_ground gl.none rest p = tt
events_ground (gl.events x xs) rest p =
    let first = event_ground x (gl.spell_more_events xs rest) p in
    (first.0, more_events_ground xs rest first.1)

line_ground : (x : gl.Line) → AreProper (gl.spell_line x []) → AllByRecursion IsGroundEvent (line_of x).1
line_ground (gl.line n xs) p = events_ground xs (k.Dot ∷ []) p.1.1

pub events_are_ground : (line : List ℕ) (batch : Batch) → IsBatchLine line batch → AllByRecursion IsGroundEvent batch.events
events_are_ground line batch is =
    let tokens = (lexed line).tokens in
    let proper = subst AreProper is.read.spells (proper_toks line tokens (lexed_spans line tokens refl)) in
    subst (AllByRecursion IsGroundEvent) (ap (λ p. p.1) (sym is.read.means)) (line_ground is.read.tree proper)
