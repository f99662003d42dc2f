-- The tokens whose text is fixed: reserved words and signs.
use Rattle.std.specs.Prelude.{ℕ, List, [], ◌∷◌, codes, if◌then◌else◌}
use Rattle.std.specs.Str.{bytes_eq}
use Rattle.lps_grammar.specs.declared.tok.Tok.{Tok}
use Rattle.lps_grammar.specs.declared.tok.Tok.TheVariants as k

-- a text and the token that is spelled so
pub record Spelling : Type 0 where
  pub text : List ℕ
  pub tok : Tok

-- the token that the table gives for a text, or else this one
abbrev pub tok_in : List Spelling → Tok → List ℕ → Tok
tok_in [] otherwise text = otherwise
tok_in (spelling ∷ table) otherwise text = if bytes_eq text spelling.text then spelling.tok else tok_in table otherwise text

-- a token with its text
abbrev pub spelled : Tok → List ℕ → Spelling
spelled tok text = record { text = text; tok = tok }

-- the reserved words but `mod`
abbrev pub words : List Spelling
words =
    spelled k.If (codes "if") ∷ spelled k.Then (codes "then") ∷ spelled k.Or (codes "or") ∷ spelled k.Not (codes "not") ∷ spelled k.False (codes "false")
    ∷ spelled k.Fluent (codes "fluent") ∷ spelled k.Event (codes "event") ∷ spelled k.Action (codes "action") ∷ spelled k.Timeless (codes "timeless") ∷ spelled k.Derived (codes "derived")
    ∷ spelled k.Macro (codes "macro") ∷ spelled k.Initially (codes "initially") ∷ spelled k.Initiates (codes "initiates") ∷ spelled k.Terminates (codes "terminates") ∷ spelled k.At (codes "at")
    ∷ spelled k.From (codes "from") ∷ spelled k.To (codes "to") ∷ spelled k.Is (codes "is") ∷ spelled k.Div (codes "div") ∷ []

-- the signs but `:`
abbrev pub signs : List Spelling
signs =
    spelled k.Open (codes "(") ∷ spelled k.Close (codes ")") ∷ spelled k.Comma (codes ",") ∷ spelled k.Dot (codes ".") ∷ spelled k.Slash (codes "/")
    ∷ spelled k.Plus (codes "+") ∷ spelled k.Minus (codes "-") ∷ spelled k.Star (codes "*")
    ∷ spelled k.Equal (codes "=") ∷ spelled k.Differ (codes "\\=") ∷ spelled k.Less (codes "<") ∷ spelled k.AtMost (codes "=<") ∷ spelled k.Greater (codes ">") ∷ spelled k.AtLeast (codes ">=") ∷ []

-- the token of a reserved word
abbrev pub reserved_tok : List ℕ → Tok
reserved_tok text = tok_in words k.Mod text

-- the token of a sign
abbrev pub sign_tok : List ℕ → Tok
sign_tok text = tok_in signs k.Colon text

-- the text of a reserved word or a sign; other tokens have none of their own
abbrev pub text_of_fixed : Tok → List ℕ
text_of_fixed k.If = codes "if"
text_of_fixed k.Then = codes "then"
text_of_fixed k.Or = codes "or"
text_of_fixed k.Not = codes "not"
text_of_fixed k.False = codes "false"
text_of_fixed k.Fluent = codes "fluent"
text_of_fixed k.Event = codes "event"
text_of_fixed k.Action = codes "action"
text_of_fixed k.Timeless = codes "timeless"
text_of_fixed k.Derived = codes "derived"
text_of_fixed k.Macro = codes "macro"
text_of_fixed k.Initially = codes "initially"
text_of_fixed k.Initiates = codes "initiates"
text_of_fixed k.Terminates = codes "terminates"
text_of_fixed k.At = codes "at"
text_of_fixed k.From = codes "from"
text_of_fixed k.To = codes "to"
text_of_fixed k.Is = codes "is"
text_of_fixed k.Div = codes "div"
text_of_fixed k.Mod = codes "mod"
text_of_fixed k.Open = codes "("
text_of_fixed k.Close = codes ")"
text_of_fixed k.Comma = codes ","
text_of_fixed k.Dot = codes "."
text_of_fixed k.Slash = codes "/"
text_of_fixed k.Plus = codes "+"
text_of_fixed k.Minus = codes "-"
text_of_fixed k.Star = codes "*"
text_of_fixed k.Equal = codes "="
text_of_fixed k.Differ = codes "\\="
text_of_fixed k.Less = codes "<"
text_of_fixed k.AtMost = codes "=<"
text_of_fixed k.Greater = codes ">"
text_of_fixed k.AtLeast = codes ">="
text_of_fixed k.Colon = codes ":"
text_of_fixed other = []
