-- What is written for each token of the grammar where a statement is printed: its kind, its bytes, and the line.
use Rattle.std.specs.Prelude.{ℕ, List, map}
use Rattle.std.specs.Fmt.{decimal}
use Rattle.lps_grammar.specs.declared.tok.Tok.{Tok}
use Rattle.lps_grammar.specs.declared.tok.Tok.TheVariants as k
use Rattle.lps_lex.specs.declared.token.Token.{Token}
use Rattle.lps_lex.specs.declared.token_kind.TokenKind.{TokenKind}
use Rattle.lps_lex.specs.declared.token_kind.TokenKind.TheVariants as kind
use Rattle.lps_numbering.specs.declared.names.Names.{Names}
use Rattle.lps_numbering.specs.Fixed.{text_of_fixed}
use Rattle.lps_numbering.specs.Numbers.{text_of}
use Rattle.lps_printer.specs.Terms.{written}

-- a token as it is written, and its line
pub record Word : Type 0 where
  pub kind : TokenKind
  pub text : List ℕ
  pub line : ℕ

-- the kind of what is written for a token of the grammar
abbrev pub kind_of : Tok → TokenKind
kind_of (k.Name n) = kind.Name
kind_of (k.Variable n) = kind.Variable
kind_of (k.Time n) = kind.Time
kind_of (k.Number n) = kind.Number
kind_of k.If = kind.Reserved
kind_of k.Then = kind.Reserved
kind_of k.Or = kind.Reserved
kind_of k.Not = kind.Reserved
kind_of k.False = kind.Reserved
kind_of k.Fluent = kind.Reserved
kind_of k.Event = kind.Reserved
kind_of k.Action = kind.Reserved
kind_of k.Timeless = kind.Reserved
kind_of k.Derived = kind.Reserved
kind_of k.Macro = kind.Reserved
kind_of k.Initially = kind.Reserved
kind_of k.Initiates = kind.Reserved
kind_of k.Terminates = kind.Reserved
kind_of k.At = kind.Reserved
kind_of k.From = kind.Reserved
kind_of k.To = kind.Reserved
kind_of k.Is = kind.Reserved
kind_of k.Div = kind.Reserved
kind_of k.Mod = kind.Reserved
kind_of t = kind.Sign

-- the bytes of what is written for a token, under these names of its statement
abbrev pub written_as : Names → Tok → List ℕ
written_as names (k.Name n) = n
written_as names (k.Variable n) = written names.names n
written_as names (k.Time n) = written names.times n
written_as names (k.Number n) = decimal n
written_as names t = text_of_fixed t

-- what is written for a token in this line
abbrev pub word_of : Names → ℕ → Tok → Word
word_of names line tok = record { kind = kind_of tok; text = written_as names tok; line = line }

-- what is written for tokens, all in this line
abbrev pub words_of : Names → ℕ → List Tok → List Word
words_of names line toks = map (word_of names line) toks

-- what is written at a token of bytes
abbrev pub word_at : List ℕ → Token → Word
word_at bytes token = record { kind = token.kind; text = text_of bytes token; line = token.line }

-- what is written at the tokens of bytes
abbrev pub words_in : List ℕ → List Token → List Word
words_in bytes tokens = map (word_at bytes) tokens
