use Rattle.std.proofs.Common.{◌≡◌, ◌+◌, ◌*◌, ◌||◌, drop}
use Rattle.std.specs.List.{list_any}
use Rattle.lps_terms.specs.Order.{term_eq}
use Rattle.lps_terms.specs.Symbols.{symbols_of, symbols_of_all}
use Rattle.lps_model.specs.Calls.{is_inside}
use Rattle.lps_levels.proofs.inside.+inside.Given as goal

abbrev pub decreases-is_inside : goal.decreases-is_inside
decreases-is_inside l = 2 * symbols_of l.outer.now

abbrev pub decreases-is_or_is_inside : goal.decreases-is_or_is_inside
decreases-is_or_is_inside l = 2 * symbols_of_all l.terms.now + 1

-- the terms that are left decide
abbrev pub invariant-is_or_is_inside-loop-term : goal.invariant-is_or_is_inside-loop-term
invariant-is_or_is_inside-loop-term l =
    list_any (λ term. term_eq l.inner term || is_inside l.inner term) (drop l.term-index l.terms) ≡ list_any (λ term. term_eq l.inner term || is_inside l.inner term) l.terms
