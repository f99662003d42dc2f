use Rattle.std.proofs.Common.{◌≡◌, ◌∙◌, ◌+◌, ◌*◌, ◌-◌, ◌<◌, ap, arith, drop, get_or, suc, drop-cons, length}
use Rattle.lps_lex.specs.Piece.{value_of, value_onto}
use Rattle.lps_lex.proofs.Numbers.{none_of}
use Rattle.lps_lex.proofs.number.number_value.Goals as goal

pub returns-then-value : goal.returns-then-value
returns-then-value c =
    let digits = c.args.digits.now in
    let i = c.loop-digit.digit-index in
    let inside : i < length digits = omega arith in
    let read : value_of digits ≡ value_onto (10 * c.loop-digit.value + (get_or digits i 0 - 48)) (drop (suc i) digits) =
    c.loop-digit.invariant.so_far ∙ ap (value_onto c.loop-digit.value) (drop-cons digits i 0 inside) in
    none_of (value_of digits) _ (drop (suc i) digits) read (omega arith)

pub returns-then-value-gt-GREATEST_NUMBER : goal.returns-then-value-gt-GREATEST_NUMBER
returns-then-value-gt-GREATEST_NUMBER c =
    let digits = c.args.digits.now in
    let i = c.loop-digit.digit-index in
    let inside : i < length digits = omega arith in
    let read : value_of digits ≡ value_onto (10 * c.loop-digit.value + (get_or digits i 0 - 48)) (drop (suc i) digits) =
    c.loop-digit.invariant.so_far ∙ ap (value_onto c.loop-digit.value) (drop-cons digits i 0 inside) in
    none_of (value_of digits) _ (drop (suc i) digits) read (omega (arith, c.saturating_sub.ensures))
