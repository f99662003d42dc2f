use Rattle.std.proofs.Common.{◌≡◌, sym, subst, cond, Some, Bool}
use Rattle.std.specs.BTreeMap.{get, is_at}
use Rattle.std.specs.Ordering.{nat_cmp}
use Rattle.lps_terms.specs.declared.term.Term.{Term}
use Rattle.lps_terms.specs.declared.term.Term.TheVariants as t
use Rattle.lps_facts.specs.Matching.{MatchesOn}
use Rattle.lps_facts.proofs.Matches.{known_match, new_match}
use Rattle.lps_facts.proofs.matching.match_variable.Goals as goal

pub returns-in-Some : goal.returns-in-Some
returns-in-Some c =
    subst (λ (same : Bool). MatchesOn same c.args.known.now c.args.known.now (t.Var c.args.variable) c.args.value.now) (sym c.eq.ensures)
    (known_match c.args.variable c.args.value.now c.in-Some.bound.now c.args.known.now (sym c.in-Some.ensures.value))

pub returns-in_ok-insert-in-None : goal.returns-in_ok-insert-in-None
returns-in_ok-insert-in-None c =
    let new = c.insert.new.self in
    new_match c.args.variable c.args.value.now c.args.known.now new (sym c.in-None.ensures.value)
    (λ w. subst (λ (x : Term). get nat_cmp new w ≡ cond (is_at (nat_cmp c.args.variable) w) (Some x) (get nat_cmp c.args.known.now w)) c.in_ok-copy_term-in-None.ensures (c.in_ok-insert-in-None.ensures.updates.0 w))
    (subst (λ (x : Term). get nat_cmp new c.args.variable ≡ Some x) c.in_ok-copy_term-in-None.ensures c.in_ok-insert-in-None.ensures.updates.1)
