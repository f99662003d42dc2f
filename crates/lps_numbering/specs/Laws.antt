-- What the numbers of variables and times say of their names.
use Rattle.std.specs.Prelude.{ℕ, ◌≡◌, ◌↔◌, false, List, [], ◌∷◌, codes, slice_get, Some, if◌then◌else◌}
use Rattle.lps_grammar.specs.declared.tok.Tok.{Tok}
use Rattle.lps_grammar.specs.declared.tok.Tok.TheVariants as k
use Rattle.lps_lex.specs.declared.token.Token.{Token}
use Rattle.lps_lex.specs.declared.token_kind.TokenKind.{TokenKind}
use Rattle.lps_lex.specs.declared.token_kind.TokenKind.TheVariants as kind
use Rattle.lps_numbering.specs.declared.names.Names.{Names}
use Rattle.lps_numbering.specs.Numbers.{is_full_stop, names_from, text_of, tok_of}

-- the token does not end a statement
abbrev pub IsNoStop : List ℕ → Token → Type 0
IsNoStop bytes token = is_full_stop token.kind (text_of bytes token) ≡ false

-- the token for the grammar, after these names of its statement
abbrev pub tok_after : List ℕ → Names → Token → Tok
tok_after bytes so_far token = tok_of so_far token.kind (text_of bytes token)

-- the first token, after these names, and the last, after the first and some between, are one token for the grammar
-- exactly where they are written alike and not `_`
abbrev pub AreEqualWhereAlike : List ℕ → Names → Token → List Token → Token → Type 0
AreEqualWhereAlike bytes so_far first between last =
    (tok_after bytes so_far first ≡ tok_after bytes (names_from bytes so_far (first ∷ between)) last)
    ↔ ((text_of bytes first ≡ text_of bytes last) × (text_of bytes first ≡ codes "_" → ⊥))

-- a variable or a time has a number, under which its text stands among these names
abbrev pub IsNamed : Names → TokenKind → Tok → List ℕ → Type 0
IsNamed names kind.Variable tok text = (n : ℕ) × (tok ≡ k.Variable n) × (slice_get names.names n ≡ Some text)
IsNamed names kind.Time tok text = (n : ℕ) × (tok ≡ k.Time n) × (slice_get names.times n ≡ Some text)
IsNamed names other tok text = Unit {0}

-- each variable and each time has a number, under which its text stands among the names of its statement
abbrev pub AreNamed : List ℕ → List Names → List Token → List Tok → Type 0
AreNamed bytes (names ∷ statements) (token ∷ tokens) (tok ∷ toks) =
    IsNamed names token.kind tok (text_of bytes token)
    × AreNamed bytes (if is_full_stop token.kind (text_of bytes token) then statements else (names ∷ statements)) tokens toks
AreNamed bytes statements [] [] = Unit {0}
AreNamed bytes statements tokens toks = ⊥
