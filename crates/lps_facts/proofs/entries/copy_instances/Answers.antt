use Rattle.std.proofs.Common.{◌≡◌, ◌∙◌, [], ◌∷◌, Bool, List, cond, sym, ap, subst}
use Rattle.std.specs.List.{filter}
use Rattle.std.specs.BTreeMap.Range.{entries_between}
use Rattle.std.specs.declared.ops.Bound.TheVariants.{Included, Unbounded}
use Rattle.lps_terms.specs.declared.atom.Atom.{Atom}
use Rattle.lps_terms.specs.Order.{atom_cmp}
use Rattle.lps_facts.specs.Beginning.{BeginsAs}
use Rattle.lps_facts.specs.Matching.{IsInstance}
use Rattle.lps_facts.specs.Trail.{present}
use Rattle.lps_facts.proofs.Beginnings.{LieTogether, is_kept, continues_kept, continues_past, kept_together}
use Rattle.lps_facts.proofs.Selections.{Continues, continues_picked, continues_done}
use Rattle.lps_facts.proofs.Sets.{true_not_false}
use Rattle.lps_facts.proofs.entries.copy_instances.Goals as goal

pub loop-fact-init : goal.loop-fact-init
loop-fact-init c =
    let pattern = c.args.pattern.now in
    let entries = c.args.entries.now.entries in
    let kept : c.into_iter-fact-iterator.result ≡ filter (is_kept pattern) entries =
    c.into_iter-fact-iterator.ensures.into_iter_gives ∙ c.range-fact-items.ensures.between tt
    ∙ ap (λ (least : Atom). entries_between atom_cmp (Included least) Unbounded entries) c.in_ok-least.ensures in
    let start : c.new-facts.result.items ≡ [] = c.new-facts.ensures.items in
    let both : Continues (IsInstance pattern) (present entries) (present (filter (is_kept pattern) entries)) [] × LieTogether pattern (filter (is_kept pattern) entries) =
    (continues_kept pattern entries, kept_together pattern entries c.requires) in
    subst (λ (left : List (Atom × Bool)). Continues (IsInstance pattern) (present entries) (present left) c.new-facts.result.items × LieTogether pattern left) (sym kept)
    (subst (λ (facts : List Atom). Continues (IsInstance pattern) (present entries) (present (filter (is_kept pattern) entries)) facts × LieTogether pattern (filter (is_kept pattern) entries)) (sym start) both)

pub returns-then-not-begins_as : goal.returns-then-not-begins_as
returns-then-not-begins_as c =
    let pattern = c.args.pattern.now in
    let P = IsInstance pattern in
    let whole = present c.args.entries.now.entries in
    let selected = c.loop-fact.facts.items in
    let entry : Atom × Bool = (c.in-Some.fact.now, c.in-Some.present.now) in
    let both =
    subst (λ (left : List (Atom × Bool)). Continues P whole (present left) selected × LieTogether pattern left) c.in-Some.ensures.steps c.loop-fact.invariant in
    let other : BeginsAs pattern entry.0 → ⊥ = λ begins. true_not_false (sym (c.begins_as.ensures.1 begins) ∙ c.if-not-begins_as.true) in
    continues_done P whole selected (continues_past pattern whole selected c.next.new.self entry both.1 other both.0)

pub loop-fact-preserved-in-Continue-branch-2 : goal.loop-fact-preserved-in-Continue-branch-2
loop-fact-preserved-in-Continue-branch-2 c =
    let P = IsInstance c.args.pattern.now in
    let whole = present c.args.entries.now.entries in
    let fact = c.in-Some.fact.now in
    let left = present c.next.new.self in
    let first : present c.loop-fact.fact-iterator ≡ fact ∷ left =
    ap present c.in-Some.ensures.steps ∙ ap (λ (here : Bool). cond here (fact ∷ left) left) c.if-present.true in (
      continues_picked P whole left fact c.loop-fact.facts.items c.pick.new.facts.items
          (subst (λ (facts : List Atom). Continues P whole facts c.loop-fact.facts.items) first c.loop-fact.invariant.0) c.in_ok-pick.ensures,
      (subst (LieTogether c.args.pattern.now) c.in-Some.ensures.steps c.loop-fact.invariant.1).1,
    )

pub returns : goal.returns
returns c =
    let P = IsInstance c.args.pattern.now in
    let whole = present c.args.entries.now.entries in
    continues_done P whole c.loop-fact.facts.items
    (subst (λ (facts : List Atom). Continues P whole facts c.loop-fact.facts.items) (ap present c.in-None.ensures.steps.0) c.loop-fact.invariant.0)
