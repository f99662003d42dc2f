use Rattle.std.proofs.Common.{◌≤◌, ◌∙◌, sym, subst}
use Rattle.lps_terms.specs.Symbols.{symbols_of}
use Rattle.lps_solve.proofs.Placing.{shifted_within, resolved_is, too_large}
use Rattle.lps_solve.proofs.place.place_term.Goals as goal

pub fits-requires : goal.fits-requires
fits-requires c = shifted_within c.args.bindings.now c.args.base c.args.term.now c.in_ok-term.term c.in_ok-term.ensures c.requires

pub returns-then-not-fits : goal.returns-then-not-fits
returns-then-not-fits c = too_large c.args.bindings.now c.args.base c.args.term.now c.in_ok-term.term c.in_ok-term.ensures (λ h. absurd (let yes = c.fits.ensures.1 h in let no = c.if-not-fits.true in cc))

pub resolve-requires : goal.resolve-requires
resolve-requires c = shifted_within c.args.bindings.now c.args.base c.args.term.now c.in_ok-term.term c.in_ok-term.ensures c.requires

pub returns : goal.returns
returns c =
    let is = c.in_ok-resolve.ensures in
    let small = c.fits.ensures.0 c.if-not-fits.false in
    (is ∙ resolved_is c.args.bindings.now c.args.base c.args.term.now c.in_ok-term.term c.in_ok-term.ensures, subst (λ x. symbols_of x ≤ 1024) (sym is) small)
