use Rattle.std.proofs.Common.{ℕ, ◌≡◌, ◌∙◌, inl, inr, ap, map, refl, sym, arith, subst}
use Rattle.std.proofs.lemmas.Result.{on_ok_weaker}
use Rattle.lps_terms.specs.declared.term.Term.{Term}
use Rattle.lps_terms.specs.Put.{put}
use Rattle.lps_residual.specs.Putting.{value_at, when_at}
use Rattle.lps_meeting.proofs.Readiness.{below_item, ready_behind, short_limits}
use Rattle.lps_meeting.specs.Steps.{IsFresh}
use Rattle.lps_seq.specs.Leads.{LeadsBehind}
use Rattle.lps_seq.proofs.Going.{first_here, leads_both, none_of, row_added, rows_added, same_values, some_of}
use Rattle.lps_seq.proofs.Rows.{none_by_time}
use Rattle.lps_seq.proofs.steps.+steps.Goals as goal

pub go_on-meet-requires : goal.go_on-meet-requires
go_on-meet-requires t c = (
  omega (arith, c.decreases),
  (c.requires.facts, (c.requires.events, (c.requires.fresh, (c.requires.stage, first_here c.args.stage.node.rest c.in-Some.first.now c.in-Some.ensures.value)))),
)

pub go_on-returns-in_ok-meet-in-Some-clause-found : goal.go_on-returns-in_ok-meet-in-Some-clause-found
go_on-returns-in_ok-meet-in-Some-clause-found t c =
    on_ok_weaker c.wait.result
    (leads_both c.args.moment.now c.args.stage c.requires.stage c.in-Some.first.now.item (first_here c.args.stage.node.rest c.in-Some.first.now c.in-Some.ensures.value) c.args.found.now c.meet.new.found c.wait.new.found
    c.in_ok-meet-in-Some.ensures.found)
    c.wait.ensures.found

pub meet-ways_to_meet-requires-clause-below : goal.meet-ways_to_meet-requires-clause-below
meet-ways_to_meet-requires-clause-below t c = below_item c.args.moment.now c.args.stage.now c.requires.stage c.args.item.now c.requires.first

pub meet-returns-in-None-clause-found : goal.meet-returns-in-None-clause-found
meet-returns-in-None-clause-found t c =
    none_by_time c.args.moment.now c.lawful.ensures.accepted c.args.stage.now c.requires.stage c.args.item.now c.requires.first c.args.found.now
    (none_of _ _ c.in_ok-times_when_met.field-0 c.in-None.is c.in_ok-times_when_met.ensures)

pub meet_by-go_on_with-requires : goal.meet_by-go_on_with-requires
meet_by-go_on_with-requires t c = (
  omega (arith, c.decreases),
  (
    c.requires.facts,
    (
      c.requires.events,
      (
        subst (IsFresh c.args.moment.now.variables) (sym c.in_ok-values_by.ensures.same) c.requires.fresh,
        (
          c.requires.first,
          (
            short_limits c.args.moment.now c.args.stage.now c.requires.stage c.args.item.now c.requires.first c.args.times.now c.requires.times,
            ready_behind c.args.moment.now c.args.stage.now c.requires.stage c.args.item.now c.requires.first c.args.times.now c.requires.times c.args.ways.now c.requires.ways c.args.row.now.0 c.requires.row
                c.as_slice-in-Some.result.now (same_values c.args.moment.now.variables c.as_slice.result.now c.args.ways.now.terms c.as_slice-2.result.now c.args.row.now.0 c.in-Some.values.items c.as_slice-in-Some.result.now
                c.as_slice.ensures c.as_slice-2.ensures (sym c.as_slice-in-Some.ensures.value) (some_of _ _ c.in_ok-values_by.field-0 c.in-Some.values c.in-Some.is c.in_ok-values_by.ensures.values)),
          ),
        ),
      ),
    ),
  ),
)

pub meet_by-returns-in-None-clause-found : goal.meet_by-returns-in-None-clause-found
meet_by-returns-in-None-clause-found t c = inl (
  λ (s : ℕ → Term) (e : map (put s) c.args.ways.now.terms ≡ c.args.row.now.0).
      none_of _ _ c.in_ok-values_by.field-0 c.in-None.is c.in_ok-values_by.ensures.values s (ap (map (put s)) c.as_slice.ensures ∙ e ∙ sym c.as_slice-2.ensures),
  refl,
)

pub meet_by-returns-in-Some-clause-found : goal.meet_by-returns-in-Some-clause-found
meet_by-returns-in-Some-clause-found t c =
    on_ok_weaker c.go_on_with.result (λ (led : LeadsBehind c.args.moment.now c.args.stage.now c.args.item.now (value_at c.as_slice-in-Some.result.now) (when_at c.args.times.now) c.args.found.now c.go_on_with.new.found).
    inr (
      c.as_slice-in-Some.result.now,
      same_values c.args.moment.now.variables c.as_slice.result.now c.args.ways.now.terms c.as_slice-2.result.now c.args.row.now.0 c.in-Some.values.items c.as_slice-in-Some.result.now
          c.as_slice.ensures c.as_slice-2.ensures (sym c.as_slice-in-Some.ensures.value) (some_of _ _ c.in_ok-values_by.field-0 c.in-Some.values c.in-Some.is c.in_ok-values_by.ensures.values),
      led,
    ))
    c.go_on_with.ensures.found

pub meet_each-loop-row-preserved : goal.meet_each-loop-row-preserved
meet_each-loop-row-preserved t c = record {
  added = row_added c.args.moment.now c.lawful.ensures.accepted c.requires.events c.args.stage.now c.requires.stage c.args.item.now c.requires.first c.requires.due c.args.times.now c.requires.times c.args.ways.now c.requires.ways
      c.as_slice-row-items.result.now c.as_slice-row-items.ensures.value c.loop-row.row-index c.args.found.now c.loop-row.found c.meet_by.new.found c.row-item.result c.loop-row-test.true c.row-item.is c.loop-row.invariant.added c.in_ok-meet_by.ensures.found;
  ready = λ h. c.in_ok-meet_by.ensures.ready (c.loop-row.invariant.ready h);
  same = c.in_ok-meet_by.ensures.same ∙ c.loop-row.invariant.same;
}

pub meet_each-returns-clause-found : goal.meet_each-returns-clause-found
meet_each-returns-clause-found t c =
    rows_added c.args.moment.now c.lawful.ensures.accepted c.requires.events c.args.stage.now c.requires.stage c.args.item.now c.requires.first c.requires.due c.args.times.now c.requires.times c.args.ways.now c.requires.ways
    c.as_slice-row-items.result.now c.as_slice-row-items.ensures.value c.loop-row.row-index c.args.found.now c.loop-row.found c.loop-row-test.false c.loop-row.invariant.added
