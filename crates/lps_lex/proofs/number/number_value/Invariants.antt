use Rattle.std.proofs.Common.{◌≡◌, ◌≤◌, ◌^◌, drop}
use Rattle.lps_lex.specs.Piece.{value_of, value_onto}
use Rattle.lps_lex.proofs.number.number_value.Given as goal

abbrev pub invariant-loop-digit : goal.invariant-loop-digit
invariant-loop-digit l = record { so_far : value_of l.digits ≡ value_onto l.value (drop l.digit-index l.digits); small : l.value ≤ 2 ^ 63 }
