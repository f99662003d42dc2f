use Rattle.std.proofs.Common.{◌∙◌, ◌+◌, drop, sym, ap, List, ℕ}
use Rattle.std.proofs.lemmas.Result.{on_ok_weaker}
use Rattle.lps_model.specs.VariableLists.{args_vars, term_vars}
use Rattle.lps_meaning.proofs.Occurrences.{vars-App}
use Rattle.lps_unify.specs.Canonical.{first_seen}
use Rattle.lps_residual.proofs.FirstSeen.{seen_next, seen_end}
use Rattle.lps_residual.proofs.seen.+see.Goals as goal

pub see_terms-loop-term-preserved : goal.see_terms-loop-term-preserved
see_terms-loop-term-preserved t c =
    ap (λ (seen : List ℕ). first_seen seen (args_vars (drop (c.loop-term.term-index + 1) c.args.terms.now))) c.in_ok-see_term.ensures
    ∙ sym (seen_next term_vars c.loop-term.seen.items c.args.terms.now c.loop-term.term-index c.term-item.result c.loop-term-test.true c.term-item.is)
    ∙ c.loop-term.invariant

pub see_terms-returns : goal.see_terms-returns
see_terms-returns t c = sym (seen_end term_vars c.loop-term.seen.items c.args.terms.now c.loop-term.term-index c.loop-term-test.false) ∙ c.loop-term.invariant

pub see_term-returns-in-App : goal.see_term-returns-in-App
see_term-returns-in-App t c =
    on_ok_weaker c.see_terms.result
    (λ e.
    e ∙ ap (λ xs. first_seen c.args.seen.now.items (args_vars xs)) c.as_slice.ensures
    ∙ ap (first_seen c.args.seen.now.items) (sym (ap term_vars c.in-App.is ∙ vars-App c.in-App.field-0 c.in-App.args)))
    c.see_terms.ensures
