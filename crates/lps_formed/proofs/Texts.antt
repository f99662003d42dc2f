-- A text that was read is formed, statement by statement, and has no more declarations than tokens.
use Rattle.std.specs.Prelude.{ℕ, suc, ◌≡◌, ◌+◌, ◌≤◌, Bool, true, false, List, [], ◌∷◌, length, IsTrue, if◌then◌else◌, refl}
use Rattle.std.specs.Cmp.Derive.{both_true}
use Rattle.std.specs.List.{flat_map, list_all}
use Rattle.std.proofs.Common.{◌∙◌, sym, ap, subst, arith, length-append}
use Rattle.std.proofs.lemmas.Bool.{le-leb}
use Rattle.lps_terms.specs.declared.statement.Statement.{Statement}
use Rattle.lps_terms.specs.declared.text.Text.{Text}
use Rattle.lps_lex.proofs.Places.{lexed_apart, lexed_spans}
use Rattle.lps_grammar.specs.declared.tok.Tok.{Tok}
use Rattle.lps_grammar.specs.declared.tok.Tok.TheVariants as k
use Rattle.lps_grammar.specs.Statements.{spell_statement, spell_text}
use Rattle.lps_grammar.specs.Statements as gs
use Rattle.lps_numbering.specs.declared.names.Names.{Names}
use Rattle.lps_numbering.specs.Numbers.{no_names, statements_of, toks_of}
use Rattle.lps_build.specs.Meaning.{bodies_of, body_of, decls_of, modeds_of}
use Rattle.lps_reader.specs.Refusals.{tokens_in}
use Rattle.lps_reader.specs.Made.{statements_made}
use Rattle.lps_reader.specs.Refusing.{line_at}
use Rattle.lps_reader.specs.Texts.{IsTextOf}
use Rattle.lps_model.specs.Formed.{is_formed, is_formed_body, is_formed_statement}
use Rattle.lps_model.specs.Program.{declarations, declared_in}
use Rattle.lps_formed.proofs.Along.{AreFew, AreFormedAlong, few_along, formed_along, is_dot, IsFormedTok, tokens_size, toks_size}
use Rattle.lps_formed.proofs.Trees.{statement_formed}

-- ---- one statement before others

-- the tokens are formed along these statements, and are at most so many
abbrev AreLeft : Names → List Names → ℕ → List Tok → Type 0
AreLeft names more most toks = AreFormedAlong (names ∷ more) toks × (length toks ≤ most)

step_left : (names : Names) (more : List Names) (most : ℕ) (tok : Tok) (toks : List Tok) → is_dot tok ≡ false → AreLeft names more most (tok ∷ toks) →
    IsFormedTok (length names.names) (length names.times) tok × AreLeft names more most toks
step_left names more most tok toks no_dot (along, few) =
    (along.0, (subst (λ dot. AreFormedAlong (if dot then more else (names ∷ more)) toks) no_dot along.1, omega (arith, few)))

-- the statement is formed, and so are the tokens after its full stop along the later ones, which are fewer
record IsFront (names : Names) (more : List Names) (x : gs.Statement) (rest : List Tok) : Type 0 where
  formed : is_formed_body (length names.names) (length names.times) (body_of x) ≡ true
  left : AreFormedAlong more rest
  fewer : suc (length rest) ≤ length (spell_statement x (k.Dot ∷ rest))

front_formed : (names : Names) (more : List Names) (x : gs.Statement) (rest : List Tok) → AreFormedAlong (names ∷ more) (spell_statement x (k.Dot ∷ rest)) → IsFront names more x rest
front_formed names more x rest along =
    let most = length (spell_statement x (k.Dot ∷ rest)) in
    let found = statement_formed (length names.names) (length names.times) (AreLeft names more most) (step_left names more most) x (k.Dot ∷ rest) (along, omega arith) in
    record { formed = found.0; left = found.1.0.1; fewer = found.1.1 }

-- ---- declarations

decls_size : (t : Tok) (xs : gs.MoreDecls) (rest : List Tok) → length (decls_of t xs) + length rest ≤ length (gs.spell_decls xs rest)
decls_size t gs.no_decl rest = omega arith
decls_size t (gs.also_decl (gs.decl n arity small) xs) rest = let more = decls_size t xs rest in omega (arith, more)

mutual
  modes_size : {n : ℕ} {free : Bool} (x : gs.Modes n free) (rest : List Tok) → length rest ≤ length (gs.spell_modes x rest)
  modes_size (gs.input xs) rest = let more = more_modes_size xs rest in omega (arith, more)
  modes_size (gs.output xs) rest = let more = more_modes_size xs rest in omega (arith, more)
  modes_size (gs.falling may xs) rest = let more = more_modes_size xs rest in omega (arith, more)

  more_modes_size : {n : ℕ} {free : Bool} (x : gs.MoreModes n free) (rest : List Tok) → length rest ≤ length (gs.spell_more_modes x rest)
  more_modes_size gs.last_mode rest = omega arith
  more_modes_size (gs.also_mode xs) rest = let more = modes_size xs rest in omega (arith, more)

-- a name with its modes has a token at least
moded_size : (x : gs.Moded) (rest : List Tok) → suc (length rest) ≤ length (gs.spell_moded x rest)
moded_size (gs.moded n gs.no_mode) rest = omega arith
moded_size (gs.moded n (gs.modes xs)) rest = let more = modes_size xs rest in omega (arith, more)

modeds_size : (t : Tok) (xs : gs.MoreModed) (rest : List Tok) → length (modeds_of t xs) + length rest ≤ length (gs.spell_modeds xs rest)
modeds_size t gs.no_moded rest = omega arith
modeds_size t (gs.also_moded x xs) rest =
    let first = moded_size x (gs.spell_modeds xs rest) in
    let more = modeds_size t xs rest in
    omega (arith, first, more)

-- each declaration has a token of its own
declared_size : (x : gs.Statement) (rest : List Tok) → length rest ≤ length (spell_statement x rest) → length (declared_in (body_of x)) + length rest ≤ length (spell_statement x rest)
declared_size (gs.declares t is (gs.decl n arity small) xs) rest fewer = let more = decls_size t xs rest in omega (arith, more)
declared_size (gs.declares_modes t is x xs) rest fewer =
    let first = moded_size x (gs.spell_modeds xs rest) in
    let more = modeds_size t xs rest in
    omega (arith, first, more)
declared_size (gs.initially x xs) rest fewer = omega (arith, fewer)
declared_size (gs.denial x) rest fewer = omega (arith, fewer)
declared_size (gs.rule x y ys) rest fewer = omega (arith, fewer)
declared_size (gs.law event t is fluent cs) rest fewer = omega (arith, fewer)
declared_size (gs.macro_clause a begin until x) rest fewer = omega (arith, fewer)
declared_size (gs.clause a cs) rest fewer = omega (arith, fewer)

-- ---- all statements

-- the statements are formed, and declare at most so many names
record AreAllFormed (most : ℕ) (statements : List Statement) : Type 0 where
  formed : list_all is_formed_statement statements ≡ true
  few : length (flat_map (λ (s : Statement). declared_in s.body) statements) ≤ most

all_formed : (line : ℕ → ℕ) (total : ℕ) (tree : gs.Text) (statements : List Names) → AreFew statements → AreFormedAlong statements (spell_text tree []) →
    AreAllFormed (length (spell_text tree [])) (statements_made line (bodies_of total tree) statements)
all_formed line total gs.done statements few along = record { formed = refl; few = omega arith }
all_formed line total (gs.next x text) [] few along = record { formed = refl; few = omega arith }
all_formed line total (gs.next x text) (names ∷ more) few along =
    let rest = spell_text text [] in
    let front = front_formed names more x rest along in
    let later = all_formed line total text more few.1 front.left in
    let here = declared_size x (k.Dot ∷ rest) front.fewer in
    let both = length-append (declared_in (body_of x)) (flat_map (λ (s : Statement). declared_in s.body) (statements_made line (bodies_of total text) more)) in
    record {
      formed = both_true (both_true (both_true (le-leb (length names.names) 255 (omega (arith, few.0))) (le-leb (length names.times) 255 (omega (arith, few.0)))) front.formed) later.formed;
      few = omega (arith, both, later.few, here);
    }

-- ---- a text

text_formed : (bytes : List ℕ) (text : Text) → IsTextOf bytes text → AreAllFormed (length bytes) text.statements
text_formed bytes text is =
    let tokens = tokens_in bytes in
    let spans = lexed_spans bytes tokens refl in
    let along = subst (AreFormedAlong (statements_of bytes tokens)) is.spelled (formed_along bytes no_names tokens spans) in
    let few = few_along bytes no_names 0 tokens (omega arith) is.accepted.2.2 in
    let found = all_formed (line_at tokens) (length (toks_of bytes tokens)) is.tree (statements_of bytes tokens) few along in
    let size = sym (ap (λ (ts : List Tok). length ts) is.spelled) ∙ toks_size bytes no_names tokens in
    let fewer = tokens_size bytes 0 tokens (omega arith) spans (lexed_apart bytes tokens refl) in
    subst (AreAllFormed (length bytes)) (sym is.statements) (record { formed = found.formed; few = omega (arith, found.few, size, fewer) })

pub texts_are_formed : (bytes : List ℕ) (text : Text) → IsTextOf bytes text → IsTrue (is_formed text)
texts_are_formed bytes text is = (text_formed bytes text is).formed

pub declarations_are_few : (bytes : List ℕ) (text : Text) → IsTextOf bytes text → length (declarations text) ≤ 1048576
declarations_are_few bytes text is = let few = (text_formed bytes text is).few in let short = is.accepted.0 in omega (arith, few, short)
