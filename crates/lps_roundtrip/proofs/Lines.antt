-- The canonical text of statements shows what is written for their canonical trees, each in a line of its own.
use Rattle.std.specs.Prelude.{ℕ, suc, ◌≡◌, List, [], ◌∷◌, ◌++◌, codes}
use Rattle.std.proofs.Common.{◌∙◌, ap, sym, subst}
use Rattle.std.specs.List.{flat_map}
use Rattle.lps_terms.specs.declared.statement.Statement.{Statement}
use Rattle.lps_terms.specs.declared.text.Text.{Text}
use Rattle.lps_grammar.specs.Statements as gs
use Rattle.lps_build.specs.Meaning.{body_of}
use Rattle.lps_numbering.specs.declared.names.Names.{Names}
use Rattle.lps_printer.specs.Statements.{body_text, canonical, statement_text}
use Rattle.lps_roundtrip.specs.Words.{Word}
use Rattle.lps_roundtrip.specs.Shown.{AreFine, Shown}
use Rattle.lps_roundtrip.specs.Shown as shown
use Rattle.lps_roundtrip.specs.Lines.{AreAllFine, AreOf, IsOf, toks_of, words_of_statement, words_of_text}
use Rattle.lps_roundtrip.proofs.Expressions.{expr_writes}
use Rattle.lps_roundtrip.proofs.StatementTexts.{statement_shows}

text_of : (names : Names) (tree : gs.Statement) (statement : Statement) → IsOf names tree statement →
    statement_text statement ≡ body_text names.names names.times (body_of tree) ++ codes ".\n"
text_of names tree statement is =
    ap (λ x. body_text x statement.times statement.body ++ codes ".\n") is.names
    ∙ ap (λ x. body_text names.names x statement.body ++ codes ".\n") is.times ∙ ap (λ x. body_text names.names names.times x ++ codes ".\n") is.body

-- a statement before what is shown from the next line on
pub statement_shown : (names : Names) (tree : gs.Statement) (statement : Statement) (line : ℕ) (rest : List ℕ) (words : List Word) →
    IsOf names tree statement → AreFine names (toks_of tree) → Shown (suc line) rest words → Shown line (statement_text statement ++ rest) (words_of_statement names line tree ++ words)
statement_shown names tree statement line rest words is fine more =
    subst (λ text. Shown line (text ++ rest) (words_of_statement names line tree ++ words)) (sym (text_of names tree statement is))
    (statement_shows names (expr_writes names) tree line rest words fine more)

pub statements_shown : (names : List Names) (tree : gs.Text) (statements : List Statement) (line : ℕ) →
    AreOf names tree statements → AreAllFine names tree → Shown line (flat_map statement_text statements) (words_of_text names line tree)
statements_shown names gs.done [] line are fine = shown.nothing
statements_shown names gs.done (statement ∷ statements) line are fine = absurd are
statements_shown [] (gs.next tree text) statements line are fine = absurd fine
statements_shown (names ∷ more) (gs.next tree text) [] line are fine = absurd are
statements_shown (names ∷ more) (gs.next tree text) (statement ∷ statements) line are fine =
    statement_shown names tree statement line (flat_map statement_text statements) (words_of_text more (suc line) text) are.0 fine.0
    (statements_shown more text statements (suc line) are.1 fine.1)

pub text_shown : (names : List Names) (tree : gs.Text) (text : Text) → AreOf names tree text.statements → AreAllFine names tree → Shown 1 (canonical text) (words_of_text names 1 tree)
text_shown names tree text are fine = statements_shown names tree text.statements 1 are fine
