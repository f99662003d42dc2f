-- Variables and times have numbers by first occurrence in their statement, which ends at its full stop. The two are
-- numbered apart, and each `_` is a variable of its own.
use Rattle.std.specs.Prelude.{ℕ, suc, ◌+◌, Bool, false, List, [], ◌∷◌, ◌++◌, length, take, nat_lt, slice_range, codes, if◌then◌else◌, Option, Some, None}
use Rattle.std.specs.List.{position_or_len}
use Rattle.std.specs.Str.{bytes_eq}
use Rattle.lps_grammar.specs.declared.tok.Tok.{Tok}
use Rattle.lps_grammar.specs.declared.tok.Tok.TheVariants as k
use Rattle.lps_lex.specs.declared.token.Token.{Token}
use Rattle.lps_lex.specs.declared.token_kind.TokenKind.{TokenKind}
use Rattle.lps_lex.specs.declared.token_kind.TokenKind.TheVariants as kind
use Rattle.lps_lex.specs.Piece.{value_of}
use Rattle.lps_numbering.specs.Fixed.{reserved_tok, sign_tok}
use Rattle.lps_numbering.specs.declared.names.Names.{Names}

-- ---- names by number

-- where a text first stands among names, or else the place after the last
abbrev pub place_of : List (List ℕ) → List ℕ → ℕ
place_of names text = position_or_len (λ name. bytes_eq name text) names

-- the number of a name after these, which is a new one where none of them is equal, and for each `_`
abbrev pub number_of : List (List ℕ) → List ℕ → ℕ
number_of names text = if bytes_eq text (codes "_") then length names else place_of names text

-- the names by number, with this one
abbrev pub with_name : List (List ℕ) → List ℕ → List (List ℕ)
with_name names text = if nat_lt (number_of names text) (length names) then names else names ++ text ∷ []

-- ---- one token

-- of a statement that names nothing yet
abbrev pub no_names : Names
no_names = record { names = []; times = [] }

-- how many variables and times there are
abbrev pub count_of : Names → ℕ
count_of so_far = length so_far.names + length so_far.times

-- the token's text
abbrev pub text_of : List ℕ → Token → List ℕ
text_of bytes token = slice_range bytes token.start token.end

-- the token for the grammar of a kind and a text, after these names of its statement
abbrev pub tok_of : Names → TokenKind → List ℕ → Tok
tok_of so_far kind.Name text = k.Name text
tok_of so_far kind.Reserved text = reserved_tok text
tok_of so_far kind.Time text = k.Time (number_of so_far.times text)
tok_of so_far kind.Variable text = k.Variable (number_of so_far.names text)
tok_of so_far kind.Number text = k.Number (value_of text)
tok_of so_far kind.Sign text = sign_tok text

-- the names of the statement with those of a token of this kind and text
abbrev pub entered : Names → TokenKind → List ℕ → Names
entered so_far kind.Time text = record { names = so_far.names; times = with_name so_far.times text }
entered so_far kind.Variable text = record { names = with_name so_far.names text; times = so_far.times }
entered so_far other text = so_far

-- the token is a full stop
abbrev pub is_full_stop : TokenKind → List ℕ → Bool
is_full_stop kind.Sign text = bytes_eq text (codes ".")
is_full_stop other text = false

-- the names of the statement after a token: a full stop ends it, and the next has none yet
abbrev pub names_after : List ℕ → Names → Token → Names
names_after bytes so_far token = if is_full_stop token.kind (text_of bytes token) then no_names else entered so_far token.kind (text_of bytes token)

-- the names of the statement after some tokens
abbrev pub names_from : List ℕ → Names → List Token → Names
names_from bytes so_far [] = so_far
names_from bytes so_far (token ∷ tokens) = names_from bytes (names_after bytes so_far token) tokens

-- ---- all tokens

-- the tokens for the grammar, after these names of the statement
abbrev pub toks_from : List ℕ → Names → List Token → List Tok
toks_from bytes so_far [] = []
toks_from bytes so_far (token ∷ tokens) = tok_of so_far token.kind (text_of bytes token) ∷ toks_from bytes (names_after bytes so_far token) tokens

-- the tokens for the grammar
abbrev pub toks_of : List ℕ → List Token → List Tok
toks_of bytes tokens = toks_from bytes no_names tokens

-- the names of each statement that ends, and of what follows the last full stop, after these names of the first one
abbrev pub statements_from : List ℕ → Names → List Token → List Names
statements_from bytes so_far [] = so_far ∷ []
statements_from bytes so_far (token ∷ tokens) =
    (if is_full_stop token.kind (text_of bytes token) then so_far ∷ [] else []) ++ statements_from bytes (names_after bytes so_far token) tokens

-- the names of each statement that ends, and of what follows the last full stop
abbrev pub statements_of : List ℕ → List Token → List Names
statements_of bytes tokens = statements_from bytes no_names tokens

-- the first place, from this one on, of a 256th different variable or time of a statement, after these names
abbrev pub crowded_from : List ℕ → Names → ℕ → List Token → Option ℕ
crowded_from bytes so_far at [] = None
crowded_from bytes so_far at (token ∷ tokens) =
    if nat_lt 255 (count_of (names_after bytes so_far token)) then Some at else crowded_from bytes (names_after bytes so_far token) (suc at) tokens

-- the first token that is a 256th different variable or time of its statement
abbrev pub crowded_of : List ℕ → List Token → Option ℕ
crowded_of bytes tokens = crowded_from bytes no_names 0 tokens

-- the tokens up to and with this one, or all
abbrev pub up_to : Option ℕ → List Token → List Token
up_to None tokens = tokens
up_to (Some i) tokens = take (i + 1) tokens
