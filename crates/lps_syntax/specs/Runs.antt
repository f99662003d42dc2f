-- What a stack of expected phrases becomes after a token, and after tokens. Its head is what is expected next.
use Rattle.std.specs.Prelude.{List, [], ◌∷◌, Option, Some, None}
use Rattle.lps_grammar.specs.declared.tok.Tok.{Tok}
use Rattle.lps_syntax.specs.declared.frame.Frame.{Frame}
use Rattle.lps_syntax.specs.declared.moved.Move.{Move}
use Rattle.lps_syntax.specs.declared.moved.Move.TheVariants as m
use Rattle.lps_syntax.specs.Moves.{move_of}

-- what a move makes of the phrases `s` below; `passed` is what they make of the same token
abbrev pub moved : Move → List Frame → Option (List Frame) → Option (List Frame)
moved m.Take s passed = Some s
moved (m.One a) s passed = Some (a ∷ s)
moved (m.Two a b) s passed = Some (a ∷ b ∷ s)
moved (m.Three a b c) s passed = Some (a ∷ b ∷ c ∷ s)
moved m.Pass s passed = passed
moved m.Refuse s passed = None

-- what is expected after the token, if it may stand there
abbrev pub step : List Frame → Tok → Option (List Frame)
step [] t = None
step (a ∷ s) t = moved (move_of a t) s (step s t)

-- one step after another, if there is one
abbrev pub then_on : Option (List Frame) → (List Frame → Option (List Frame)) → Option (List Frame)
then_on None go = None
then_on (Some s) go = go s

-- what is expected after the tokens, if they may stand there
abbrev pub run : List Frame → List Tok → Option (List Frame)
run s [] = Some s
run s (t ∷ ts) = then_on (step s t) (λ u. run u ts)

-- the phrase that takes the token, where `below` is the one among the phrases below
abbrev pub taken : Move → Frame → Option Frame → Option Frame
taken m.Pass a below = below
taken m.Refuse a below = None
taken b a below = Some a

-- the phrase that takes the token
abbrev pub taker : List Frame → Tok → Option Frame
taker [] t = None
taker (a ∷ s) t = taken (move_of a t) a (taker s t)
