use Rattle.std.proofs.Common.{◌≡◌, ◌≢◌, true, false, pos, ◌+ℤ◌, int_rem, FitsSigned, w64, to_z, of_z, Some, ap, sym, ◌∙◌}
use Rattle.std.proofs.lemmas.Int.{to_z-of_z}
use Rattle.lps_values.specs.Division.{is_opposite}
use Rattle.lps_values.proofs.Rest.{left_over-turned, left_over-stays, opposite_fits}
use Rattle.lps_values.proofs.arithmetic.modulo.Goals as goal

pub returns-then-are_opposite : goal.returns-then-are_opposite
returns-then-are_opposite c =
    let r = c.wrapping_rem-rest.result in
    let fits : FitsSigned w64 r = record { sfits = c.wrapping_rem-rest.type_inv } in
    let same_a = to_z-of_z w64 c.args.a c.ranges.a in
    let same_b = to_z-of_z w64 c.args.b c.ranges.b in
    let same_r = to_z-of_z w64 r fits in
    let is : r ≡ int_rem c.args.a c.args.b = c.wrapping_rem-rest.ensures ∙ (λ i. int_rem (same_a i) (same_b i)) in
    let opposite : is_opposite r c.args.b ≡ true = (λ i. is_opposite (sym same_r i) (sym same_b i)) ∙ sym c.are_opposite.ensures ∙ c.if-are_opposite.true in
    let sum_fits = opposite_fits r c.args.b fits c.ranges.b opposite in
    let n : c.args.b ≢ pos 0 = λ e. c.if-b-eq0.false (ap (of_z w64) e) in
    ap Some ((λ i. to_z w64 (of_z w64 (same_r i +ℤ same_b i))) ∙ to_z-of_z w64 (r +ℤ c.args.b) sum_fits)
    ∙ sym (left_over-turned c.args.a c.args.b r n sum_fits is opposite)

pub returns-else-are_opposite : goal.returns-else-are_opposite
returns-else-are_opposite c =
    let r = c.wrapping_rem-rest.result in
    let fits : FitsSigned w64 r = record { sfits = c.wrapping_rem-rest.type_inv } in
    let same_a = to_z-of_z w64 c.args.a c.ranges.a in
    let same_b = to_z-of_z w64 c.args.b c.ranges.b in
    let same_r = to_z-of_z w64 r fits in
    let is : r ≡ int_rem c.args.a c.args.b = c.wrapping_rem-rest.ensures ∙ (λ i. int_rem (same_a i) (same_b i)) in
    let opposite : is_opposite r c.args.b ≡ false = (λ i. is_opposite (sym same_r i) (sym same_b i)) ∙ sym c.are_opposite.ensures ∙ c.if-are_opposite.false in
    let n : c.args.b ≢ pos 0 = λ e. c.if-b-eq0.false (ap (of_z w64) e) in
    ap Some same_r ∙ sym (left_over-stays c.args.a c.args.b r n fits is opposite)
