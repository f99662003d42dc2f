-- Tokens that are a text are built as one, and bytes are one text.
use Rattle.std.specs.Prelude.{ℕ, zero, suc, ◌≡◌, List, [], ◌∷◌, length, map, Some, None, refl}
use Rattle.std.proofs.Common.{◌∙◌, sym, ap, subst, arith}
use Rattle.lps_terms.specs.declared.body.Body.{Body}
use Rattle.lps_terms.specs.declared.text.Text.{Text}
use Rattle.lps_lex.specs.declared.token.Token.{Token}
use Rattle.lps_lex.proofs.Places.{lexed_spans}
use Rattle.lps_grammar.specs.declared.tok.Tok.{Tok}
use Rattle.lps_grammar.specs.Statements.{IsText, spell_text}
use Rattle.lps_grammar.specs.Statements as gs
use Rattle.lps_numbering.specs.declared.names.Names.{Names}
use Rattle.lps_numbering.specs.Numbers.{statements_of, toks_of}
use Rattle.lps_build.specs.Meaning.{bodies_of}
use Rattle.lps_build.specs.Fits.{AreNamed}
use Rattle.lps_build.specs.ReadStatements.{text_in}
use Rattle.lps_build.proofs.StatementTrees.{read_text, text_found}
use Rattle.lps_reader.specs.Refusing.{line_at}
use Rattle.lps_reader.specs.Refusals.{IsRefusedAs, tokens_in}
use Rattle.lps_reader.specs.Made.{line_of, statements_made}
use Rattle.lps_reader.specs.Texts.{IsTextOf}
use Rattle.lps_batches.proofs.Named.{named_text}

-- the names among the tokens of bytes are names of the syntax
pub named : (bytes : List ℕ) → AreNamed (toks_of bytes (tokens_in bytes))
named bytes = named_text bytes (tokens_in bytes) (lexed_spans bytes (tokens_in bytes) refl)

-- tokens have one meaning
one_meaning : (toks : List Tok) (x y : gs.Text) → toks ≡ spell_text x [] → toks ≡ spell_text y [] → AreNamed toks → bodies_of (length toks) x ≡ bodies_of (length toks) y
one_meaning toks x y of_x of_y names =
    text_found y toks (bodies_of (length toks) x) [] (subst Reads (sym of_x) (λ n. read_text x _ _ [] (record { named = n; few = omega arith })) names) of_y names
  where
    Reads : List Tok → Type 0
    Reads ts = AreNamed ts → text_in (length ts) (length ts) [] ts ≡ Some (bodies_of (length ts) x, [])

pub unique : (bytes : List ℕ) (text other : Text) → IsTextOf bytes text → IsTextOf bytes other → text ≡ other
unique bytes text other a b =
    let same = one_meaning (toks_of bytes (tokens_in bytes)) a.tree b.tree a.spelled b.spelled (named bytes) in
    let statements : text.statements ≡ other.statements =
    a.statements ∙ ap (λ bodies. statements_made (line_at (tokens_in bytes)) bodies (statements_of bytes (tokens_in bytes))) same ∙ sym b.statements in
    λ i. record { statements = statements i }

-- the line at a place
line_same : (tokens : List Token) (at : ℕ) → line_of (map (λ (token : Token). token.line) tokens) at ≡ line_at tokens at
line_same [] at = refl
line_same (token ∷ tokens) zero = refl
line_same (token ∷ tokens) (suc at) = line_same tokens at

-- by lines the statements are made as by tokens
pub made_same : (tokens : List Token) (bodies : List (ℕ × Body)) (names : List Names) →
    statements_made (line_of (map (λ (token : Token). token.line) tokens)) bodies names ≡ statements_made (line_at tokens) bodies names
made_same tokens bodies names = λ i. statements_made (λ at. line_same tokens at i) bodies names

-- the tree of tokens that are a text
pub tree_of : (bytes : List ℕ) → IsRefusedAs bytes None → IsText (toks_of bytes (tokens_in bytes))
tree_of bytes accepted = accepted.2.0
