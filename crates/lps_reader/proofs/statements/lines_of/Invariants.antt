use Rattle.std.proofs.Common.{◌≡◌, map, take}
use Rattle.lps_lex.specs.declared.token.Token.{Token}
use Rattle.lps_reader.proofs.statements.lines_of.Given as goal

-- the lines of the tokens so far
abbrev pub invariant-loop-token : goal.invariant-loop-token
invariant-loop-token l = l.lines.items ≡ map (λ (token : Token). token.line) (take l.token-index l.tokens)
