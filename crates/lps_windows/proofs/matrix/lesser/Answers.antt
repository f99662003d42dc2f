use Rattle.std.proofs.Common.{◌/◌, ◌%◌, ◌+ℤ◌, arith, refl}
use Rattle.std.proofs.lemmas.Int.{ints}
use Rattle.lps_windows.specs.Matrices.{entry}
use Rattle.lps_windows.proofs.Filling.{column_below, contradiction_as, from_false, from_true, kept, own_diagonal, row_below, taken}
use Rattle.lps_windows.proofs.matrix.lesser.Goals as goal

pub overflow_add-through-3 : goal.overflow_add-through-3
overflow_add-through-3 c =
    let row = row_below c.args.size c.args.place c.requires.some c.requires.place in
    let column = column_below c.args.size c.args.place c.requires.some in
    let b = c.requires.bounded in
    omega (arith, ints, b.low _ _ row c.requires.through, b.high _ _ row c.requires.through, b.low _ _ c.requires.through column, b.high _ _ c.requires.through column)

pub returns-then-is_contradiction : goal.returns-then-is_contradiction
returns-then-is_contradiction c =
    let row = row_below c.args.size c.args.place c.requires.some c.requires.place in
    let column = column_below c.args.size c.args.place c.requires.some in
    let b = c.requires.bounded in
    contradiction_as _ _ _ _ (from_true _ c.if-is_contradiction.true c.is_contradiction.ensures)
    (omega (arith, ints, b.low _ _ row c.requires.through, b.high _ _ row c.requires.through, b.low _ _ c.requires.through column, b.high _ _ c.requires.through column))

pub returns-then-through-before : goal.returns-then-through-before
returns-then-through-before c =
    let row = row_below c.args.size c.args.place c.requires.some c.requires.place in
    let column = column_below c.args.size c.args.place c.requires.some in
    let b = c.requires.bounded in
    let k = c.args.k in
    let i = c.args.place / c.args.size in
    let j = c.args.place % c.args.size in
    let one = b.low i k row c.requires.through in
    let two = b.high i k row c.requires.through in
    let three = b.low k j c.requires.through column in
    let four = b.high k j c.requires.through column in
    let five = b.low i j row column in
    let six = b.high i j row column in
    taken (entry c.args.size c.args.numbers.now) k i j (entry c.args.size c.args.numbers.now i k +ℤ entry c.args.size c.args.numbers.now k j) refl
    (λ h. from_false _ c.if-is_contradiction.false c.is_contradiction.ensures (contradiction_as _ _ _ _ h (omega (arith, ints, one, two, three, four))))
    five (own_diagonal c.args.size (entry c.args.size c.args.numbers.now) i j row b) _ (omega (arith, ints, one, two, three, four))
    (first_of (omega (arith, ints, one, two, three, four, five, six, c.if-through-before.true), grind (arith, ints, one, two, three, four, five, six, c.if-through-before.true)))

pub returns-else-through-before : goal.returns-else-through-before
returns-else-through-before c =
    let row = row_below c.args.size c.args.place c.requires.some c.requires.place in
    let column = column_below c.args.size c.args.place c.requires.some in
    let b = c.requires.bounded in
    let k = c.args.k in
    let i = c.args.place / c.args.size in
    let j = c.args.place % c.args.size in
    let one = b.low i k row c.requires.through in
    let two = b.high i k row c.requires.through in
    let three = b.low k j c.requires.through column in
    let four = b.high k j c.requires.through column in
    let five = b.low i j row column in
    let six = b.high i j row column in
    kept (entry c.args.size c.args.numbers.now) k i j (entry c.args.size c.args.numbers.now i k +ℤ entry c.args.size c.args.numbers.now k j) refl
    (λ h. from_false _ c.if-is_contradiction.false c.is_contradiction.ensures (contradiction_as _ _ _ _ h (omega (arith, ints, one, two, three, four))))
    five (own_diagonal c.args.size (entry c.args.size c.args.numbers.now) i j row b) _ (omega (arith, ints, five, six))
    (λ h. absurd (first_of (omega (arith, ints, one, two, three, four, five, six, h, c.if-through-before.false), grind (arith, ints, one, two, three, four, five, six, h, c.if-through-before.false))))
