use Rattle.std.proofs.Common.{◌≡◌, ◌∙◌, ◌+◌, ◌*◌, ◌≤◌, ◌∷◌, ◌++◌, List, map, sym, ap, subst, arith, refl, length, get_or}
use Rattle.std.specs.Prelude.{◌<◌, Bool, [], OnOk, Some}
use Rattle.std.specs.List.{flat_map, list_all}
use Rattle.std.proofs.lemmas.List.Elements.{Contains-get_or, Contains-append_left, Contains-append_right}
use Rattle.lps_terms.specs.declared.cond.Cond.{Cond}
use Rattle.lps_terms.specs.declared.cond.Cond.TheVariants as k
use Rattle.lps_terms.specs.declared.term.Term.{Term}
use Rattle.lps_terms.specs.Put.{put}
use Rattle.lps_model.specs.Declarations.{decl_among}
use Rattle.lps_model.specs.Program.{declarations}
use Rattle.lps_model.specs.VariableLists.{cond_vars}
use Rattle.lps_derivation.specs.Ground.{is_ground}
use Rattle.lps_derivation.specs.Instances.{put_cond}
use Rattle.lps_model.specs.Clauses.{clauses}
use Rattle.lps_facts.specs.Facts.{members}
use Rattle.lps_unify.specs.Bindings.{TrailedBindings, count_of}
use Rattle.lps_unify.specs.Unified.{AreWithin, JoinsAllOn}
use Rattle.lps_solve.specs.Found.{ByClause, Gains, GainsBy, IsFactFor, Reaches, ReachesBy}
use Rattle.lps_solve.specs.Heights.{stride, weight_of, weights_of}
use Rattle.lps_solve.specs.Met.{AreGround, MeetsBuilt, MeetsBy}
use Rattle.lps_solve.specs.Moded.{IsModedRun, IsModedStep, IsReadyCond, needs_of}
use Rattle.lps_solve.specs.Placed.{AreBelow, shift, values_in}
use Rattle.lps_solve.specs.Table.{clause_at, clause_of, clause_vars}
use Rattle.lps_solve.proofs.Accepted.{searched_is_sound}
use Rattle.lps_solve.proofs.Conditions.{built_meets, lit_resolved, lit_within, never_meets, placed_meets, placed_none, placed_some}
use Rattle.lps_solve.proofs.Entering.{conds_below}
use Rattle.lps_solve.proofs.Falling.{bound_falls, enter_falls, first_falls, rest_falls}
use Rattle.lps_solve.proofs.Gaining.{ByOne, default_free}
use Rattle.lps_solve.proofs.Meeting.{negative_on, positive_on}
use Rattle.lps_solve.proofs.Modes.{bound_moded, clause_among, clause_named, closed_marked, ended_closed, entered_moded, first_ready, row_moded}
use Rattle.lps_solve.proofs.Readiness.{never_negated}
use Rattle.lps_solve.proofs.Results.{IfOk-map}
use Rattle.lps_solve.proofs.Searching.{all_met, all_places, all_rows, both_places, below_of, bound_to, contains_at, entered, left_within, more_places, more_rows, nil_of_length, no_places, no_rows, not_bound, not_entered, one_met, right_within, solved}
use Rattle.lps_solve.proofs.Vars.{all_first, all_second, ground_within}
use Rattle.lps_solve.proofs.search.+search.Goals as goal

-- ---- a condition whose terms are a row

pub bound-run-requires : goal.bound-run-requires
bound-run-requires t c = (
  (let falls = bound_falls c.args.search.now.program.now c.args.search.now.levels.now c.args.bindings.now c.unify_all.new.bindings c.lawful.ensures c.lawful-then-branch.ensures c.args.terms.now c.terms-values.result.now c.in_ok-unify_all.field-0 c.in_ok-unify_all.ensures.answer c.if-branch.true c.args.query.now.base c.args.conds.now in
      omega (arith, c.decreases, falls)),
  (
    c.requires.sound,
    (
      subst (λ n. AreWithin n c.args.query.now.wanted.now) (sym c.in_ok-unify_all.ensures.extended.count) c.requires.within,
      (
        subst (λ n. AreBelow n c.args.query.now.base (flat_map cond_vars c.args.conds.now)) (sym c.in_ok-unify_all.ensures.extended.count) c.requires.below,
        bound_moded c.args.search.now.program.now c.args.bindings.now c.unify_all.new.bindings c.args.query.now.base c.args.conds.now c.args.query.now.wanted.now c.args.terms.now c.args.row.now c.requires.ground c.in_ok-unify_all.field-0
            (subst (λ (xs : List Term). JoinsAllOn c.in_ok-unify_all.field-0 c.args.bindings.now c.unify_all.new.bindings c.args.terms.now xs) c.terms-values.ensures c.in_ok-unify_all.ensures.answer)
            c.if-branch.true c.requires.moded,
      ),
    ),
  ),
)

pub bound-unify_all-requires-clause-right : goal.bound-unify_all-requires-clause-right
bound-unify_all-requires-clause-right t c = ground_within (count_of c.args.bindings.now) c.terms-values.result.now (subst AreGround (sym c.terms-values.ensures) c.requires.ground)

pub bound-returns-then-branch-clause-found : goal.bound-returns-then-branch-clause-found
bound-returns-then-branch-clause-found t c =
    bound_to (clauses c.args.search.now.program.now) (members c.args.search.now.facts.now) 18446744073709551615 c.args.query.now.room c.args.bindings.now c.args.query.now.base c.args.conds.now c.args.query.now.wanted.now c.args.terms.now c.args.row.now c.requires.ground c.unify_all.new.bindings c.in_ok-unify_all.field-0
    (subst (λ (xs : List Term). JoinsAllOn c.in_ok-unify_all.field-0 c.args.bindings.now c.unify_all.new.bindings c.args.terms.now xs) c.terms-values.ensures c.in_ok-unify_all.ensures.answer)
    c.if-branch.true c.run.result c.args.found.now.keys c.run.new.found.keys c.run.ensures.found

pub bound-returns-else-branch-clause-found : goal.bound-returns-else-branch-clause-found
bound-returns-else-branch-clause-found t c =
    not_bound (clauses c.args.search.now.program.now) (members c.args.search.now.facts.now) 18446744073709551615 c.args.query.now.room c.args.bindings.now c.args.query.now.base c.args.conds.now c.args.query.now.wanted.now c.args.terms.now c.args.row.now c.requires.ground c.unify_all.new.bindings c.in_ok-unify_all.field-0
    (subst (λ (xs : List Term). JoinsAllOn c.in_ok-unify_all.field-0 c.args.bindings.now c.unify_all.new.bindings c.args.terms.now xs) c.terms-values.ensures c.in_ok-unify_all.ensures.answer)
    c.if-branch.false c.args.found.now.keys

-- ---- a clause

pub enter-unify_all-requires-clause-left : goal.enter-unify_all-requires-clause-left
enter-unify_all-requires-clause-left t c =
    left_within c.args.bindings.now c.extend.new.self c.in-Some.variables c.in_ok-base.ensures.added c.args.goal.now.args c.as_slice-wanted.result.now c.as_slice-wanted.ensures c.requires.within

pub enter-unify_all-requires-clause-right : goal.enter-unify_all-requires-clause-right
enter-unify_all-requires-clause-right t c =
    right_within c.args.bindings.now c.extend.new.self c.in-Some.variables c.in_ok-base.base c.in_ok-base.ensures.added (clause_of c.args.clause.now) c.in_ok-base.ensures.first
    (subst (λ n. AreBelow n 0 (clause_vars (clause_of c.args.clause.now))) (sym c.in-Some.ensures.0) c.requires.variables) c.as_slice-pattern.result.now
    (c.as_slice-pattern.ensures ∙ c.in_ok-head.ensures ∙ ap (map (put (shift c.in_ok-base.base))) c.as_slice-own.ensures)

pub enter-run-requires : goal.enter-run-requires
enter-run-requires t c = (
  (let falls = enter_falls c.args.search.now.program.now c.args.search.now.levels.now c.requires.sound.accepted c.requires.sound.levelled (clause_of c.args.clause.now) c.requires.among c.args.goal.now c.requires.named c.requires.marked c.requires.small
      c.extend.new.self c.unify_all.new.bindings c.lawful-then-branch.ensures c.in_ok-base.base c.as_slice-wanted.result.now c.as_slice-pattern.result.now c.as_slice-conds.result.now c.as_slice-conds.ensures c.as_slice-wanted.ensures
      (c.as_slice-pattern.ensures ∙ c.in_ok-head.ensures ∙ ap (map (put (shift c.in_ok-base.base))) c.as_slice-own.ensures) c.in_ok-unify_all.field-0 c.in_ok-unify_all.ensures.answer c.if-branch.true in
      let less = falls.0 in
      let short = falls.1 in
      omega (arith, c.decreases, less, short)),
  (
    c.requires.sound,
    (
      subst (λ n. AreWithin n c.as_slice-wanted.result.now) (sym c.in_ok-unify_all.ensures.extended.count)
          (left_within c.args.bindings.now c.extend.new.self c.in-Some.variables c.in_ok-base.ensures.added c.args.goal.now.args c.as_slice-wanted.result.now c.as_slice-wanted.ensures c.requires.within),
      (
        subst (λ (xs : List Cond). AreBelow (count_of c.unify_all.new.bindings) c.in_ok-base.base (flat_map cond_vars xs)) (sym c.as_slice-conds.ensures)
            (conds_below c.args.bindings.now c.unify_all.new.bindings c.in-Some.variables c.in_ok-base.base (clause_of c.args.clause.now) c.in_ok-base.ensures.first
            (c.in_ok-unify_all.ensures.extended.count ∙ ap (λ (b : TrailedBindings). count_of b) c.in_ok-base.ensures.added)
            (subst (λ n. AreBelow n 0 (clause_vars (clause_of c.args.clause.now))) (sym c.in-Some.ensures.0) c.requires.variables)),
        entered_moded c.args.search.now.program.now c.requires.sound.accepted (clause_of c.args.clause.now) c.requires.among c.args.goal.now c.requires.named c.requires.marked
            c.extend.new.self c.unify_all.new.bindings c.in_ok-base.base c.as_slice-wanted.result.now c.as_slice-pattern.result.now c.as_slice-conds.result.now c.as_slice-conds.ensures c.as_slice-wanted.ensures
            (c.as_slice-pattern.ensures ∙ c.in_ok-head.ensures ∙ ap (map (put (shift c.in_ok-base.base))) c.as_slice-own.ensures) c.in_ok-unify_all.field-0 c.in_ok-unify_all.ensures.answer c.if-branch.true,
      ),
    ),
  ),
)

pub enter-returns-then-branch-clause-found : goal.enter-returns-then-branch-clause-found
enter-returns-then-branch-clause-found t c =
    let old = c.args.found.now.keys in
    let new = c.run.new.found.keys in
    entered (clauses c.args.search.now.program.now) (members c.args.search.now.facts.now) 18446744073709551615 (clause_of c.args.clause.now) c.args.goal.now c.args.bindings.now c.in-Some.variables c.lawful.ensures c.requires.within c.in_ok-base.base c.in_ok-base.ensures.first
    c.extend.new.self c.unify_all.new.bindings c.in_ok-base.ensures.added c.as_slice-pattern.result.now
    (c.as_slice-pattern.ensures ∙ c.in_ok-head.ensures ∙ ap (map (put (shift c.in_ok-base.base))) c.as_slice-own.ensures) c.in_ok-unify_all.field-0
    (subst (λ (xs : List Term). JoinsAllOn c.in_ok-unify_all.field-0 c.extend.new.self c.unify_all.new.bindings xs c.as_slice-pattern.result.now) c.as_slice-wanted.ensures c.in_ok-unify_all.ensures.answer)
    c.if-branch.true c.run.result old new
    (subst (λ (xs : List Cond). OnOk c.run.result (GainsBy (clauses c.args.search.now.program.now) old new (λ level. Reaches (clauses c.args.search.now.program.now) (members c.args.search.now.facts.now) level 18446744073709551615 1023 c.unify_all.new.bindings c.in_ok-base.base xs c.args.goal.now.args))) c.as_slice-conds.ensures
    (subst (λ (xs : List Term). OnOk c.run.result (GainsBy (clauses c.args.search.now.program.now) old new (λ level. Reaches (clauses c.args.search.now.program.now) (members c.args.search.now.facts.now) level 18446744073709551615 1023 c.unify_all.new.bindings c.in_ok-base.base c.as_slice-conds.result.now xs))) c.as_slice-wanted.ensures
    c.run.ensures.found))

pub enter-returns-clause-found : goal.enter-returns-clause-found
enter-returns-clause-found t c =
    not_entered (clauses c.args.search.now.program.now) (members c.args.search.now.facts.now) 18446744073709551615 (clause_of c.args.clause.now) c.args.goal.now c.args.bindings.now c.in-Some.variables c.lawful.ensures c.requires.within c.in_ok-base.base c.in_ok-base.ensures.first
    c.extend.new.self c.unify_all.new.bindings c.in_ok-base.ensures.added c.as_slice-pattern.result.now
    (c.as_slice-pattern.ensures ∙ c.in_ok-head.ensures ∙ ap (map (put (shift c.in_ok-base.base))) c.as_slice-own.ensures) c.in_ok-unify_all.field-0
    (subst (λ (xs : List Term). JoinsAllOn c.in_ok-unify_all.field-0 c.extend.new.self c.unify_all.new.bindings xs c.as_slice-pattern.result.now) c.as_slice-wanted.ensures c.in_ok-unify_all.ensures.answer)
    c.if-branch.false c.args.found.now.keys

-- ---- a condition

pub meet-meet_literal-requires : goal.meet-meet_literal-requires
meet-meet_literal-requires t c =
    let placed = placed_some c.args.bindings.now c.args.base c.args.cond.now c.in_ok-lit.field-0 (k.Lit c.in-Some-Lit.lit) (c.in-Some-Lit.is ∙ ap (λ x. Some x) c.in-Some-Lit.field-0-is) c.in_ok-lit.ensures in (
      (let same = ap (λ cond. weight_of (declarations c.args.search.now.program.now) c.args.search.now.levels.now cond * stride c.args.search.now.program.now) placed.0 in omega (arith, c.decreases, same)),
      (
        c.requires.sound,
        (
          lit_within c.args.bindings.now c.lawful.ensures c.args.base c.args.cond.now (k.Lit c.in-Some-Lit.lit) placed.0 c.in-Some-Lit.lit refl c.requires.below,
          (lit_resolved c.args.bindings.now c.lawful.ensures c.args.base c.args.cond.now (k.Lit c.in-Some-Lit.lit) placed.0 c.in-Some-Lit.lit refl, (placed.1, subst (IsReadyCond (declarations c.args.search.now.program.now)) (sym placed.0) c.requires.ready)),
        ),
      ),
    )

pub meet-returns-in-Some-Lit-clause-met : goal.meet-returns-in-Some-Lit-clause-met
meet-returns-in-Some-Lit-clause-met t c =
    let placed = placed_some c.args.bindings.now c.args.base c.args.cond.now c.in_ok-lit.field-0 (k.Lit c.in-Some-Lit.lit) (c.in-Some-Lit.is ∙ ap (λ x. Some x) c.in-Some-Lit.field-0-is) c.in_ok-lit.ensures in
    IfOk-map c.meet_literal.result (λ ways. MeetsBy (clauses c.args.search.now.program.now) (members c.args.search.now.facts.now) c.args.bindings.now (λ s. put_cond s (k.Lit c.in-Some-Lit.lit)) ways) (λ ways. MeetsBy (clauses c.args.search.now.program.now) (members c.args.search.now.facts.now) c.args.bindings.now (λ s. put_cond (λ v. s (c.args.base + v)) c.args.cond.now) ways)
    (λ ways h. placed_meets c.args.bindings.now c.lawful.ensures c.args.base c.args.cond.now (k.Lit c.in-Some-Lit.lit) placed.0 (clauses c.args.search.now.program.now) (members c.args.search.now.facts.now) ways h) c.meet_literal.ensures.met

pub meet-returns-in-Some-Built-clause-met : goal.meet-returns-in-Some-Built-clause-met
meet-returns-in-Some-Built-clause-met t c =
    let placed = placed_some c.args.bindings.now c.args.base c.args.cond.now c.in_ok-lit.field-0 (k.Built c.in-Some-Built.built) (c.in-Some-Built.is ∙ ap (λ x. Some x) c.in-Some-Built.field-0-is) c.in_ok-lit.ensures in
    IfOk-map c.ways_to_meet.result (λ ways. MeetsBuilt c.in-Some-Built.built ways) (λ ways. MeetsBy (clauses c.args.search.now.program.now) (members c.args.search.now.facts.now) c.args.bindings.now (λ s. put_cond (λ v. s (c.args.base + v)) c.args.cond.now) ways)
    (λ ways h. built_meets c.args.bindings.now c.lawful.ensures c.args.base c.args.cond.now (k.Built c.in-Some-Built.built) placed.0 (clauses c.args.search.now.program.now) (members c.args.search.now.facts.now) ways c.in-Some-Built.built refl c.requires.below h) c.ways_to_meet.ensures

pub meet-returns-in-None-clause-met : goal.meet-returns-in-None-clause-met
meet-returns-in-None-clause-met t c =
    never_meets (clauses c.args.search.now.program.now) (members c.args.search.now.facts.now) c.args.bindings.now c.lawful.ensures c.args.base c.args.cond.now c.never.result
    (placed_none c.args.bindings.now c.args.base c.args.cond.now c.in_ok-lit.field-0 c.in-None.is c.in_ok-lit.ensures) c.never.ensures.terms c.never.ensures.rows

pub meet-ways_to_meet-requires-clause-ready : goal.meet-ways_to_meet-requires-clause-ready
meet-ways_to_meet-requires-clause-ready t c =
    let placed = placed_some c.args.bindings.now c.args.base c.args.cond.now c.in_ok-lit.field-0 (k.Built c.in-Some-Built.built) (c.in-Some-Built.is ∙ ap (λ x. Some x) c.in-Some-Built.field-0-is) c.in_ok-lit.ensures in
    subst (IsReadyCond (declarations c.args.search.now.program.now)) (sym placed.0) c.requires.ready

-- ---- a literal

pub meet_literal-solve-requires : goal.meet_literal-solve-requires
meet_literal-solve-requires t c = (
  omega (arith, c.decreases),
  (
    c.requires.sound,
    (
      c.requires.within,
      (
        c.requires.resolved,
        (
          c.requires.small,
          closed_marked (decl_among (declarations c.args.search.now.program.now) c.args.lit.atom.name) c.args.lit.atom.args
              (subst (λ (negated : Bool). needs_of (declarations c.args.search.now.program.now) negated c.args.lit.atom ≡ []) c.if-lit.true c.requires.ready),
        ),
      ),
    ),
  ),
)

pub meet_literal-returns-then-not-are_ground-clause-met : goal.meet_literal-returns-then-not-are_ground-clause-met
meet_literal-returns-then-not-are_ground-clause-met t c =
    never_negated (clauses c.args.search.now.program.now) (members c.args.search.now.facts.now) c.args.bindings.now c.args.lit
    (subst (λ (negated : Bool). needs_of (declarations c.args.search.now.program.now) negated c.args.lit.atom ≡ []) c.if-lit.true c.requires.ready)
    (ap (list_all is_ground) (sym c.as_slice.ensures) ∙ sym c.are_ground.ensures ∙ c.if-not-are_ground.true) c.never.result c.never.ensures.terms c.never.ensures.rows

pub meet_literal-returns-in_ok-when-clause-met : goal.meet_literal-returns-in_ok-when-clause-met
meet_literal-returns-in_ok-when-clause-met t c = record {
  within = subst (AreWithin (count_of c.args.bindings.now)) (sym c.in_ok-when.ensures.terms) refl;
  meets = λ level levels.
      negative_on (clauses c.args.search.now.program.now) (members c.args.search.now.facts.now) (searched_is_sound c.args.search.now.program.now c.args.search.now.levels.now (members c.args.search.now.facts.now) c.requires.sound) c.args.bindings.now c.args.lit c.in_ok-found.found.keys c.in_ok-found.ensures.found level levels c.in_ok-when.field-0 c.is_empty.result c.if-lit.true
      (subst AreGround c.as_slice.ensures (sym c.are_ground.ensures ∙ c.if-not-are_ground.false)) c.requires.small (λ e. nil_of_length c.in_ok-found.found.keys (c.is_empty.ensures.0 e))
      (λ e none. absurd (let holds = c.is_empty.ensures.1 (ap length none) in cc)) c.in_ok-when.ensures.terms c.in_ok-when.ensures.rows;
}

pub meet_literal-returns-in_ok-rows-clause-met : goal.meet_literal-returns-in_ok-rows-clause-met
meet_literal-returns-in_ok-rows-clause-met t c = record {
  within = c.requires.within;
  meets = λ level levels.
      positive_on (clauses c.args.search.now.program.now) (members c.args.search.now.facts.now) (searched_is_sound c.args.search.now.program.now c.args.search.now.levels.now (members c.args.search.now.facts.now) c.requires.sound) c.args.bindings.now c.args.lit c.in_ok-found-2.found.keys c.in_ok-found-2.ensures.found level levels
      (record { terms = c.args.lit.atom.args; rows = c.in_ok-rows.rows }) c.if-lit.false refl c.in_ok-rows.ensures;
}

-- ---- conditions

pub run-meet-requires : goal.run-meet-requires
run-meet-requires t c =
    let split : c.args.conds.now ≡ c.in-Some.cond.now ∷ c.in-Some.rest.now = c.in-Some.ensures.cases.0 in (
      (let falls = first_falls c.args.search.now.program.now c.args.search.now.levels.now (values_in c.args.bindings.now c.args.query.now.base) c.in-Some.cond.now c.in-Some.rest.now c.args.conds.now split in
          let count = c.in-Some.ensures.cases.1 in
          omega (arith, c.decreases, falls, count)),
      (
        c.requires.sound,
        (
          all_first (λ v. c.args.query.now.base + v < count_of c.args.bindings.now) (cond_vars c.in-Some.cond.now) (flat_map cond_vars c.in-Some.rest.now)
              (subst (λ (xs : List Cond). AreBelow (count_of c.args.bindings.now) c.args.query.now.base (flat_map cond_vars xs)) split c.requires.below),
          first_ready c.args.search.now.program.now c.args.bindings.now c.lawful.ensures c.args.query.now.base c.in-Some.cond.now c.in-Some.rest.now c.args.query.now.wanted.now
              (subst (λ (xs : List Cond). IsModedRun c.args.search.now.program.now c.args.bindings.now c.args.query.now.base xs c.args.query.now.wanted.now) split c.requires.moded),
        ),
      ),
    )

pub run-collect-requires : goal.run-collect-requires
run-collect-requires t c = record {
  within = c.requires.within;
  closed = ended_closed c.args.search.now.program.now c.args.bindings.now c.lawful.ensures c.args.query.now.base c.args.conds.now c.args.query.now.wanted.now (nil_of_length c.args.conds.now c.in-None.ensures.cases) c.requires.moded;
}

pub run-loop-row-init : goal.run-loop-row-init
run-loop-row-init t c = record {
  same = c.meet.ensures.same;
  gains = no_rows (clauses c.args.search.now.program.now) (members c.args.search.now.facts.now) 18446744073709551615 c.args.query.now.room c.args.bindings.now c.args.query.now.base c.args.query.now.wanted.now c.in-Some.rest.now c.as_slice-terms.result.now c.as_slice-row-items.result.now c.args.found.now.keys;
}

pub run-step-requires : goal.run-step-requires
run-step-requires t c =
    let meets = c.in_ok-ways-in-Some.ensures.met in
    let sound = searched_is_sound c.args.search.now.program.now c.args.search.now.levels.now (members c.args.search.now.facts.now) c.requires.sound in
    let split : c.args.conds.now ≡ c.in-Some.cond.now ∷ c.in-Some.rest.now = c.in-Some.ensures.cases.0 in
    let among = contains_at c.as_slice-row-items.result.now c.in_ok-ways-in-Some.ways.rows c.loop-row.row-index c.row-item.result c.as_slice-row-items.ensures c.loop-row-test.true c.row-item.is in (
      (let falls = subst (λ (b : TrailedBindings). weights_of (declarations c.args.search.now.program.now) c.args.search.now.levels.now (values_in b c.args.query.now.base) c.in-Some.rest.now * stride c.args.search.now.program.now ≤ weights_of (declarations c.args.search.now.program.now) c.args.search.now.levels.now (values_in c.args.bindings.now c.args.query.now.base) c.args.conds.now * stride c.args.search.now.program.now) (sym c.loop-row.invariant.same)
          (rest_falls c.args.search.now.program.now c.args.search.now.levels.now (values_in c.args.bindings.now c.args.query.now.base) c.in-Some.cond.now c.in-Some.rest.now c.args.conds.now split) in
          let count = c.in-Some.ensures.cases.1 in
          omega (arith, c.decreases, falls, count)),
      (
        c.requires.sound,
        (
          subst (λ (b : TrailedBindings). AreWithin (count_of b) c.args.query.now.wanted.now) (sym c.loop-row.invariant.same) c.requires.within,
          (
            subst (λ (b : TrailedBindings). AreBelow (count_of b) c.args.query.now.base (flat_map cond_vars c.in-Some.rest.now)) (sym c.loop-row.invariant.same)
                (all_second (λ v. c.args.query.now.base + v < count_of c.args.bindings.now) (cond_vars c.in-Some.cond.now) (flat_map cond_vars c.in-Some.rest.now)
                (subst (λ (xs : List Cond). AreBelow (count_of c.args.bindings.now) c.args.query.now.base (flat_map cond_vars xs)) split c.requires.below)),
            (
              subst (λ (b : TrailedBindings). AreWithin (count_of b) c.as_slice-terms.result.now) (sym c.loop-row.invariant.same)
                  (subst (AreWithin (count_of c.args.bindings.now)) (sym c.as_slice-terms.ensures) meets.within),
              (
                (meets.meets sound.level sound.levels).ground c.row-item.result among,
                subst (λ (b : TrailedBindings). IsModedStep c.args.search.now.program.now b c.args.query.now.base c.in-Some.rest.now c.args.query.now.wanted.now c.as_slice-terms.result.now c.row-item.result) (sym c.loop-row.invariant.same)
                    (row_moded c.args.search.now.program.now c.args.bindings.now c.lawful.ensures c.args.query.now.base c.in-Some.cond.now c.in-Some.rest.now c.args.conds.now c.args.query.now.wanted.now split c.requires.moded
                    (clauses c.args.search.now.program.now) (members c.args.search.now.facts.now) sound.level c.in_ok-ways-in-Some.ways (meets.meets sound.level sound.levels) c.as_slice-terms.result.now c.row-item.result c.as_slice-terms.ensures among),
              ),
            ),
          ),
        ),
      ),
    )

pub run-loop-row-preserved : goal.run-loop-row-preserved
run-loop-row-preserved t c = record {
  same = c.step.ensures.same ∙ c.loop-row.invariant.same;
  gains = more_rows (clauses c.args.search.now.program.now) (members c.args.search.now.facts.now) 18446744073709551615 c.args.query.now.room c.args.bindings.now c.args.query.now.base c.args.query.now.wanted.now c.in-Some.rest.now c.as_slice-terms.result.now c.as_slice-row-items.result.now c.loop-row.row-index c.row-item.result
      c.loop-row-test.true c.row-item.is c.args.found.now.keys c.loop-row.found.keys c.step.new.found.keys c.loop-row.invariant.gains
      (subst (λ (b : TrailedBindings). GainsBy (clauses c.args.search.now.program.now) c.loop-row.found.keys c.step.new.found.keys (λ level. ReachesBy (clauses c.args.search.now.program.now) (members c.args.search.now.facts.now) level 18446744073709551615 c.args.query.now.room b c.args.query.now.base c.in-Some.rest.now c.args.query.now.wanted.now c.as_slice-terms.result.now c.row-item.result))
      c.loop-row.invariant.same c.in_ok-step-in-Some.ensures.found);
}

pub run-returns-after-loop-row-clause-found : goal.run-returns-after-loop-row-clause-found
run-returns-after-loop-row-clause-found t c =
    let ways = c.in_ok-ways-in-Some.ways in
    one_met (clauses c.args.search.now.program.now) (members c.args.search.now.facts.now) 18446744073709551615 c.args.query.now.room c.args.bindings.now c.args.query.now.base c.args.query.now.wanted.now c.in-Some.cond.now c.in-Some.rest.now c.args.conds.now ways (c.in-Some.ensures.cases.0) c.in_ok-ways-in-Some.ensures.met
    c.args.found.now.keys c.loop-row.found.keys
    (subst (λ (rows : List (List Term)). GainsBy (clauses c.args.search.now.program.now) c.args.found.now.keys c.loop-row.found.keys (λ level. ByOne rows (ReachesBy (clauses c.args.search.now.program.now) (members c.args.search.now.facts.now) level 18446744073709551615 c.args.query.now.room c.args.bindings.now c.args.query.now.base c.in-Some.rest.now c.args.query.now.wanted.now ways.terms))) c.as_slice-row-items.ensures
    (subst (λ (terms : List Term). GainsBy (clauses c.args.search.now.program.now) c.args.found.now.keys c.loop-row.found.keys (λ level. ByOne c.as_slice-row-items.result.now (ReachesBy (clauses c.args.search.now.program.now) (members c.args.search.now.facts.now) level 18446744073709551615 c.args.query.now.room c.args.bindings.now c.args.query.now.base c.in-Some.rest.now c.args.query.now.wanted.now terms))) c.as_slice-terms.ensures
    (all_rows (clauses c.args.search.now.program.now) (members c.args.search.now.facts.now) 18446744073709551615 c.args.query.now.room c.args.bindings.now c.args.query.now.base c.args.query.now.wanted.now c.in-Some.rest.now c.as_slice-terms.result.now c.as_slice-row-items.result.now c.loop-row.row-index (omega arith) c.args.found.now.keys c.loop-row.found.keys
    c.loop-row.invariant.gains)))

pub run-returns-in-None-clause-found : goal.run-returns-in-None-clause-found
run-returns-in-None-clause-found t c =
    all_met (clauses c.args.search.now.program.now) (members c.args.search.now.facts.now) 18446744073709551615 c.args.query.now.room c.args.bindings.now c.args.query.now.base c.args.query.now.wanted.now c.collect.result c.args.found.now.keys c.collect.new.found.keys c.args.conds.now (nil_of_length c.args.conds.now c.in-None.ensures.cases) c.collect.ensures

-- ---- a goal

pub solve-by_clauses-requires : goal.solve-by_clauses-requires
solve-by_clauses-requires t c = (
  omega (arith, c.decreases),
  (
    c.requires.sound,
    (
      (λ i h. (c.places_for-places.ensures i).0 (Contains-append_left c.places_for-places.result.keyed.now c.places_for-places.result.others.now i h)),
      (c.requires.within, (c.requires.small, c.requires.marked)),
    ),
  ),
)

pub solve-by_clauses-requires-2 : goal.solve-by_clauses-requires-2
solve-by_clauses-requires-2 t c = (
  omega (arith, c.decreases),
  (
    c.requires.sound,
    (
      (λ i h. (c.places_for-places.ensures i).0 (Contains-append_right c.places_for-places.result.keyed.now c.places_for-places.result.others.now i h)),
      (subst (λ (b : TrailedBindings). AreWithin (count_of b) c.args.goal.now.args) (sym c.by_clauses.ensures.same) c.requires.within, (c.requires.small, c.requires.marked)),
    ),
  ),
)

pub solve-returns-clause-found : goal.solve-returns-clause-found
solve-returns-clause-found t c =
    let program = clauses c.args.search.now.program.now in
    let facts = members c.args.search.now.facts.now in
    solved program facts 18446744073709551615 c.args.bindings.now c.args.goal.now (searched_is_sound c.args.search.now.program.now c.args.search.now.levels.now facts c.requires.sound) c.lawful.ensures c.requires.resolved
    (c.places_for-places.result.keyed.now ++ c.places_for-places.result.others.now) c.places_for-places.ensures (omega arith) c.add_facts.new.found.keys c.by_clauses-2.new.found.keys
    (subst (λ ks. Gains ks c.add_facts.new.found.keys (IsFactFor facts c.args.goal.now)) c.new-found.ensures.empty c.in_ok-add_facts.ensures)
    (both_places program facts 18446744073709551615 c.args.bindings.now c.args.goal.now c.places_for-places.result.keyed.now c.places_for-places.result.others.now c.add_facts.new.found.keys c.by_clauses.new.found.keys c.by_clauses-2.new.found.keys
    c.in_ok-by_clauses.ensures.found
    (subst (λ (b : TrailedBindings). GainsBy program c.by_clauses.new.found.keys c.by_clauses-2.new.found.keys (λ level. ByOne c.places_for-places.result.others.now (λ i. ByClause program facts level 18446744073709551615 b (clause_at program i) c.args.goal.now))) c.by_clauses.ensures.same c.in_ok-by_clauses-2.ensures.found))

-- ---- the clauses at some places

pub by_clauses-loop-place-init : goal.by_clauses-loop-place-init
by_clauses-loop-place-init t c = record {
  same = refl;
  gains = no_places (clauses c.args.search.now.program.now) (members c.args.search.now.facts.now) 18446744073709551615 c.args.bindings.now c.args.goal.now c.args.places.now c.args.found.now.keys;
}

pub by_clauses-clause-clause-requires : goal.by_clauses-clause-clause-requires
by_clauses-clause-clause-requires t c = (c.requires.places _ (Contains-get_or c.args.places.now c.loop-place.place-index 0 c.loop-place-test.true)).0

pub by_clauses-by_clause-requires : goal.by_clauses-by_clause-requires
by_clauses-by_clause-requires t c =
    let place = c.requires.places (get_or c.args.places.now c.loop-place.place-index 0) (Contains-get_or c.args.places.now c.loop-place.place-index 0 c.loop-place-test.true) in (
      omega (arith, c.decreases),
      (
        c.requires.sound,
        (
          subst (λ (b : TrailedBindings). AreWithin (count_of b) c.args.goal.now.args) (sym c.loop-place.invariant.same) c.requires.within,
          (
            below_of c.clause-clause.result.now.variables (clause_vars (clause_of c.clause-clause.result.now)) c.clause-clause.ensures.variables,
            (
              clause_among (clauses c.args.search.now.program.now) (get_or c.args.places.now c.loop-place.place-index 0) c.args.goal.now (clause_of c.clause-clause.result.now) c.clause-clause.ensures.clause place,
              (
                clause_named (clauses c.args.search.now.program.now) (get_or c.args.places.now c.loop-place.place-index 0) c.args.goal.now (clause_of c.clause-clause.result.now) c.clause-clause.ensures.clause place,
                (c.requires.small, c.requires.marked),
              ),
            ),
          ),
        ),
      ),
    )

pub by_clauses-loop-place-preserved : goal.by_clauses-loop-place-preserved
by_clauses-loop-place-preserved t c = record {
  same = c.by_clause.ensures.same ∙ c.loop-place.invariant.same;
  gains = more_places (clauses c.args.search.now.program.now) (members c.args.search.now.facts.now) 18446744073709551615 c.args.bindings.now c.args.goal.now c.args.places.now c.loop-place.place-index (get_or c.args.places.now c.loop-place.place-index 0) c.loop-place-test.true
      (default_free c.args.places.now c.loop-place.place-index 0 (get_or c.args.places.now c.loop-place.place-index 0) c.loop-place-test.true) (clause_of c.clause-clause.result.now) c.clause-clause.ensures.clause
      c.args.found.now.keys c.loop-place.found.keys c.by_clause.new.found.keys c.loop-place.invariant.gains
      (subst (λ (b : TrailedBindings). GainsBy (clauses c.args.search.now.program.now) c.loop-place.found.keys c.by_clause.new.found.keys (λ level. ByClause (clauses c.args.search.now.program.now) (members c.args.search.now.facts.now) level 18446744073709551615 b (clause_of c.clause-clause.result.now) c.args.goal.now)) c.loop-place.invariant.same c.in_ok-by_clause.ensures.found);
}

pub by_clauses-returns-clause-found : goal.by_clauses-returns-clause-found
by_clauses-returns-clause-found t c =
    all_places (clauses c.args.search.now.program.now) (members c.args.search.now.facts.now) 18446744073709551615 c.args.bindings.now c.args.goal.now c.args.places.now c.loop-place.place-index (omega arith) c.args.found.now.keys c.loop-place.found.keys c.loop-place.invariant.gains
