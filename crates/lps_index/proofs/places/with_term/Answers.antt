use Rattle.std.proofs.Common.{◌≡◌, ◌∙◌, cond, Some, ap, subst}
use Rattle.std.specs.BTreeMap.{get}
use Rattle.lps_terms.specs.declared.term.Term.{Term}
use Rattle.lps_terms.specs.Order.{term_cmp, term_eq}
use Rattle.lps_index.specs.Table.{places_or_none, with_place}
use Rattle.lps_index.proofs.Keyed.{put_back}
use Rattle.lps_index.proofs.places.with_term.Goals as goal

pub returns : goal.returns
returns c =
    put_back c.args.term.now c.args.place c.args.table c.remove-found.new.self c.insert.new.self c.in_ok-places.places c.remove-found.ensures.updates.0
    (c.in_ok-places.ensures ∙ ap (λ places. with_place places c.args.place) (c.found_or_none.ensures ∙ ap places_or_none c.remove-found.ensures.value))
    (subst (λ (x : Term). (other : Term) → get term_cmp c.insert.new.self other ≡ cond (term_eq x other) (Some c.in_ok-places.places) (get term_cmp c.remove-found.new.self other)) c.in_ok-term.ensures c.in_ok-insert.ensures.updates.0)
