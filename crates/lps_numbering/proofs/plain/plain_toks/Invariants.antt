use Rattle.std.proofs.Common.{◌≡◌, map, take}
use Rattle.lps_numbering.specs.Plain.{plain_tok}
use Rattle.lps_numbering.proofs.plain.plain_toks.Given as goal

abbrev pub invariant-loop-token : goal.invariant-loop-token
invariant-loop-token l = l.toks.items ≡ map (plain_tok l.bytes) (take l.token-index l.tokens)
