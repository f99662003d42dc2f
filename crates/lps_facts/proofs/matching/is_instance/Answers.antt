use Rattle.std.proofs.Common.{ℕ, List, ap, subst}
use Rattle.std.specs.BTreeMap.{is_at}
use Rattle.std.specs.Map.{lookup}
use Rattle.std.specs.Ordering.{nat_cmp}
use Rattle.lps_terms.specs.declared.term.Term.{Term}
use Rattle.lps_facts.specs.Matching.{MatchesAllOn}
use Rattle.lps_facts.proofs.Matches.{instance_decided, named_same}
use Rattle.lps_facts.proofs.matching.is_instance.Goals as goal

pub returns : goal.returns
returns c =
    let found = c.in_ok-found.found in
    let old = c.new-known.result in
    let new = c.match_all.new.known in
    let all = subst (λ (ys : List Term). MatchesAllOn found old new c.args.pattern.now.args ys) c.as_slice-2.ensures
    (subst (λ (xs : List Term). MatchesAllOn found old new xs c.as_slice-2.result.now) c.as_slice.ensures c.in_ok-found.ensures) in
    instance_decided found c.args.pattern.now c.args.fact.now old new (named_same c.args.pattern.now.name c.args.fact.now.name c.if-ne.ensures)
    (λ v. ap (λ (es : List (ℕ × Term)). lookup (is_at (nat_cmp v)) es) c.new-known.ensures.empty) all
