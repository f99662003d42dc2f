use Rattle.std.proofs.Common.{◌≡◌, ◌+◌, ◌-◌, false, true, drop, arith, length-append}
use Rattle.std.specs.List.{flat_map}
use Rattle.std.proofs.lemmas.Bool.{eq-eqb, eqb-true}
use Rattle.lps_model.specs.declared.cycle.Pick.{Pick}
use Rattle.lps_tests_parts.proofs.board.is_forbidden.Goals as goal
use Rattle.lps_tests_parts.proofs.Boards.{count, none_left, one_less}

pub loop-pick-preserved : goal.loop-pick-preserved
loop-pick-preserved c =
    let picks = c.args.picks.now in
    let place = c.loop-pick.pick-index in
    let less = one_less picks place c.pick-item.result c.loop-pick-test.true c.pick-item.is in
    let so_far : count picks + c.loop-pick.left ≡ count (drop place picks) + c.args.forbidden = c.loop-pick.invariant in
    let next : count picks + (c.loop-pick.left - c.len-count.result) ≡ count (drop (place + 1) picks) + c.args.forbidden = omega (arith, less, so_far, c.len-count.ensures, c.if-left-count.false) in
    next

pub returns-then-left-count : goal.returns-then-left-count
returns-then-left-count c =
    let picks = c.args.picks.now in
    let place = c.loop-pick.pick-index in
    let less = one_less picks place c.pick-item.result c.loop-pick-test.true c.pick-item.is in
    let so_far : count picks + c.loop-pick.left ≡ count (drop place picks) + c.args.forbidden = c.loop-pick.invariant in
    let all = length-append (flat_map (λ (pick : Pick). pick.group.atoms) picks) c.args.group.now.atoms in (
      λ e. absurd (let never : false ≡ true = e in cc),
      λ same. absurd (omega (arith, less, so_far, c.len-count.ensures, c.if-left-count.true, all, same)),
    )

pub returns : goal.returns
returns c =
    let picks = c.args.picks.now in
    let past = none_left picks c.loop-pick.pick-index c.loop-pick-test.false in
    let so_far : count picks + c.loop-pick.left ≡ count (drop c.loop-pick.pick-index picks) + c.args.forbidden = c.loop-pick.invariant in
    let all = length-append (flat_map (λ (pick : Pick). pick.group.atoms) picks) c.args.group.now.atoms in (
      λ e. let same = eqb-true _ _ e in omega (arith, past, so_far, all, same, c.len.ensures),
      λ same. eq-eqb _ _ (omega (arith, past, so_far, all, same, c.len.ensures)),
    )
