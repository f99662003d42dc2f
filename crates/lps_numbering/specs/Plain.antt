-- The tokens for the grammar of a line of events, which has no variables: each token is taken by itself.
use Rattle.std.specs.Prelude.{ℕ, List, map}
use Rattle.lps_grammar.specs.declared.tok.Tok.{Tok}
use Rattle.lps_lex.specs.declared.token.Token.{Token}
use Rattle.lps_numbering.specs.Numbers.{no_names, text_of, tok_of}

-- the token for the grammar, as if nothing was named before it
abbrev pub plain_tok : List ℕ → Token → Tok
plain_tok bytes token = tok_of no_names token.kind (text_of bytes token)

-- the tokens for the grammar
abbrev pub plain_toks : List ℕ → List Token → List Tok
plain_toks bytes tokens = map (plain_tok bytes) tokens
