use Rattle.std.proofs.Common.{◌≡◌, ◌∙◌, List, sym, ap, subst, arith}
use Rattle.std.specs.List.{list_all}
use Rattle.lps_terms.specs.declared.term.Term.{Term}
use Rattle.lps_terms.specs.Symbols.{symbols_of_all}
use Rattle.lps_derivation.specs.Ground.{is_ground}
use Rattle.lps_solve.specs.Found.{Gains, IsResolvedRow}
use Rattle.lps_solve.proofs.Gaining.{Gains-none}
use Rattle.lps_solve.proofs.Collected.{no_ground_row, too_large_item, more_terms, too_many, row_found}
use Rattle.lps_solve.proofs.found.collect.Goals as goal

pub returns-then-not-fits : goal.returns-then-not-fits
returns-then-not-fits c =
    Gains-none c.args.found.now.keys (IsResolvedRow 18446744073709551615 c.args.room c.args.bindings.now c.args.wanted.now)
    (too_large_item 18446744073709551615 c.args.room c.args.bindings.now c.lawful.ensures c.args.wanted.now c.loop-term.term-index c.term-item.result c.loop-term-test.true c.term-item.is
    (λ h. absurd (let holds = c.fits.ensures.1 h in let fails = c.if-not-fits.true in cc)))

pub loop-term-preserved : goal.loop-term-preserved
loop-term-preserved c =
    let more = more_terms c.args.bindings.now c.args.wanted.now c.loop-term.term-index c.term-item.result c.in_ok-resolve.field-0 c.loop-term.terms c.push.new.self c.loop-term-test.true c.term-item.is
    c.loop-term.invariant.all c.in_ok-resolve.ensures c.in_ok-push.ensures.ok c.loop-term.invariant.small (c.fits.ensures.0 c.if-not-fits.false) in
    record { all = more.0; small = more.1 }

pub returns-then-symbols_of_all-room : goal.returns-then-symbols_of_all-room
returns-then-symbols_of_all-room c =
    let ground = ap (list_all is_ground) (sym c.as_slice.ensures) ∙ sym c.are_ground.ensures ∙ c.if-not-are_ground.false in
    Gains-none c.args.found.now.keys (IsResolvedRow 18446744073709551615 c.args.room c.args.bindings.now c.args.wanted.now)
    (too_many 18446744073709551615 c.args.room c.args.bindings.now c.lawful.ensures c.args.wanted.now c.loop-term.terms c.loop-term.term-index (omega arith) c.loop-term.invariant.all ground
    (λ h. omega (arith, h, c.symbols_of_all.ensures, c.if-symbols_of_all-room.true, ap symbols_of_all c.as_slice-2.ensures)))

pub returns : goal.returns
returns c =
    let ground = ap (list_all is_ground) (sym c.as_slice.ensures) ∙ sym c.are_ground.ensures ∙ c.if-not-are_ground.false in
    row_found 18446744073709551615 c.args.room c.args.bindings.now c.lawful.ensures c.args.wanted.now c.loop-term.terms c.loop-term.term-index (omega arith) c.loop-term.invariant.all ground
    (omega (arith, c.symbols_of_all.ensures, ap symbols_of_all c.as_slice-2.ensures)) c.loop-term.invariant.small c.args.found.now.keys c.insert.new.found.keys
    (subst (λ (row : List Term). Gains c.args.found.now.keys c.insert.new.found.keys (λ x. x ≡ row)) c.new.ensures c.in_ok-insert.ensures)

pub returns-then-not-are_ground : goal.returns-then-not-are_ground
returns-then-not-are_ground c =
    Gains-none c.args.found.now.keys (IsResolvedRow 18446744073709551615 c.args.room c.args.bindings.now c.args.wanted.now)
    (no_ground_row 18446744073709551615 c.args.room c.args.bindings.now c.lawful.ensures c.args.wanted.now c.loop-term.terms c.loop-term.term-index (omega arith) c.loop-term.invariant.all c.requires.closed
    (ap (list_all is_ground) (sym c.as_slice.ensures) ∙ sym c.are_ground.ensures ∙ c.if-not-are_ground.true))
