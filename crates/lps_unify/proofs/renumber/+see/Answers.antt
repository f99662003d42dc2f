use Rattle.std.proofs.Common.{◌∙◌, ◌+◌, drop, sym, ap, List, ℕ}
use Rattle.lps_unify.specs.Canonical.{first_seen, variables_of_all}
use Rattle.lps_unify.proofs.Places.{see_next, see_end}
use Rattle.lps_unify.proofs.renumber.+see.Goals as goal

pub see_all-loop-term-preserved : goal.see_all-loop-term-preserved
see_all-loop-term-preserved t c =
    ap (λ (seen : List ℕ). first_seen seen (variables_of_all (drop (c.loop-term.term-index + 1) c.args.terms.now))) c.in_ok-see.ensures
    ∙ sym (see_next c.loop-term.seen.items c.args.terms.now c.loop-term.term-index c.term-item.result c.loop-term-test.true c.term-item.is)
    ∙ c.loop-term.invariant

pub see_all-returns : goal.see_all-returns
see_all-returns t c = sym (see_end c.loop-term.seen.items c.args.terms.now c.loop-term.term-index c.loop-term-test.false) ∙ c.loop-term.invariant
