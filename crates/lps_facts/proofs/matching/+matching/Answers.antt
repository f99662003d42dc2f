use Rattle.std.proofs.Common.{◌≡◌, ◌∙◌, ◌<◌, ℕ, length, arith, sym, ap, subst, Bool, List}
use Rattle.lps_terms.specs.declared.term.Term.{Term}
use Rattle.lps_terms.specs.declared.term.Term.TheVariants.{App}
use Rattle.lps_terms.specs.Put.{put, put-Sym}
use Rattle.lps_facts.specs.Matching.{MatchesOn, MatchesAllOn, MatchesFirst}
use Rattle.lps_facts.proofs.Matches.{first_more, first_fails, first_whole, fixed_match, args_match, named_same}
use Rattle.lps_facts.proofs.matching.+matching.Goals as goal

pub match_all-returns-then-not-found : goal.match_all-returns-then-not-found
match_all-returns-then-not-found t c =
    let within : c.loop-i.i < length c.args.patterns.now = omega arith in
    first_fails c.args.known.now c.loop-i.known c.match_term.new.known c.args.patterns.now c.args.values.now c.loop-i.i
    c.index-patterns-i.result c.index-values-i.result c.requires within c.index-patterns-i.is c.index-values-i.is c.loop-i.invariant
    (subst (λ (found : Bool). MatchesOn found c.loop-i.known c.match_term.new.known c.index-patterns-i.result c.index-values-i.result) c.if-not-found.true c.in_ok-found.ensures)

pub match_all-loop-i-preserved : goal.match_all-loop-i-preserved
match_all-loop-i-preserved t c =
    let within : c.loop-i.i < length c.args.patterns.now = omega arith in
    first_more c.args.known.now c.loop-i.known c.match_term.new.known c.args.patterns.now c.args.values.now c.loop-i.i
    c.index-patterns-i.result c.index-values-i.result c.requires within c.index-patterns-i.is c.index-values-i.is c.loop-i.invariant
    (subst (λ (found : Bool). MatchesOn found c.loop-i.known c.match_term.new.known c.index-patterns-i.result c.index-values-i.result) c.if-not-found.false c.in_ok-found.ensures)

pub match_all-returns : goal.match_all-returns
match_all-returns t c =
    let all : c.loop-i.i ≡ length c.args.patterns.now = omega arith in
    first_whole c.args.known.now c.loop-i.known c.args.patterns.now c.args.values.now c.requires
    (subst (λ (k : ℕ). MatchesFirst k c.args.known.now c.loop-i.known c.args.patterns.now c.args.values.now) all c.loop-i.invariant)

pub match_term-returns-in-Sym : goal.match_term-returns-in-Sym
match_term-returns-in-Sym t c =
    let fixed : (s : ℕ → Term) → put s c.args.pattern.now ≡ c.args.pattern.now = λ s. ap (put s) c.in-Sym.is ∙ put-Sym s c.in-Sym.field-0 ∙ sym c.in-Sym.is in
    subst (λ (same : Bool). MatchesOn same c.args.known.now c.args.known.now c.args.pattern.now c.args.value.now) (sym c.eq-in-Sym.ensures)
    (fixed_match c.args.pattern.now c.args.value.now fixed c.args.known.now)

pub match_term-returns-in_ok-found-in-App-value : goal.match_term-returns-in_ok-found-in-App-value
match_term-returns-in_ok-found-in-App-value t c =
    let found = c.in_ok-found-in-App-value.found in
    let old = c.args.known.now in
    let new = c.match_all.new.known in
    let all = subst (λ (ys : List Term). MatchesAllOn found old new c.in-App.args ys) c.as_slice-in-App-value.ensures
    (subst (λ (xs : List Term). MatchesAllOn found old new xs c.as_slice-in-App-value.result.now) c.as_slice.ensures c.in_ok-found-in-App-value.ensures) in
    subst (λ (x : Term). MatchesOn found old new c.args.pattern.now x) (sym c.in-App-value.is)
    (subst (λ (p : Term). MatchesOn found old new p (App c.in-App-value.other c.in-App-value.values)) (sym c.in-App.is)
    (args_match found c.in-App.name c.in-App-value.other c.in-App.args c.in-App-value.values (named_same c.in-App.name c.in-App-value.other c.if-ne.ensures) old new all))
