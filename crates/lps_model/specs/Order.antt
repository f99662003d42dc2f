-- Which sequences of items and which denials are in order, which groups are mixed, and which macro clauses have the
-- times of their bodies. The kind of a name is given by a function.
use Rattle.std.specs.Prelude.{ℕ, Bool, true, false, not, ◌&&◌, ◌||◌, ◌==◌, List, [], ◌∷◌, Option, Some, None, if◌then◌else◌}
use Rattle.std.specs.List.{flat_map, list_any, list_all}
use Rattle.lps_terms.specs.declared.body.Body.{Body}
use Rattle.lps_terms.specs.declared.body.Body.TheVariants as b
use Rattle.lps_terms.specs.declared.item.Item.{Item}
use Rattle.lps_terms.specs.declared.item.Item.TheVariants as i
use Rattle.lps_terms.specs.declared.kind.Kind.{Kind}
use Rattle.lps_terms.specs.declared.kind.Kind.TheVariants as k
use Rattle.lps_terms.specs.declared.refused.Refused.{Refused}
use Rattle.lps_terms.specs.declared.refused.Refused.TheVariants.{OutOfOrder, MixedGroup, BadHeadTimes}
use Rattle.lps_terms.specs.declared.statement.Statement.{Statement}

-- ---- groups and steps

-- the name of an event
abbrev pub is_event : Option Kind → Bool
is_event (Some k.Event) = true
is_event _ = false

-- the name of an action
abbrev pub is_action : Option Kind → Bool
is_action (Some k.Action) = true
is_action _ = false

-- the name of an event or an action
abbrev pub happens : Option Kind → Bool
happens kind = is_event kind || is_action kind

-- two adjacent items of one group: both are events or actions, and they have the same two times
abbrev pub are_grouped : (List ℕ → Option Kind) → Item → Item → Bool
are_grouped kind (i.Span a from to) (i.Span b from' to') = happens (kind a.name) && (happens (kind b.name) && (from.0 == from'.0 && to.0 == to'.0))
are_grouped kind _ _ = false

-- an item is of one group with the first of these
abbrev pub joins : (List ℕ → Option Kind) → Item → List Item → Bool
joins kind item [] = false
joins kind item (next ∷ rest) = are_grouped kind item next

-- an item put in front of the first part
abbrev pub with_first : Item → List (List Item) → List (List Item)
with_first item [] = (item ∷ []) ∷ []
with_first item (part ∷ rest) = (item ∷ part) ∷ rest

-- the parts of a sequence: each longest run of adjacent events or actions with the same two times, which is a group,
-- and each other item by itself
abbrev pub parts : (List ℕ → Option Kind) → List Item → List (List Item)
parts kind [] = []
parts kind (item ∷ rest) = if joins kind item rest then with_first item (parts kind rest) else (item ∷ []) ∷ parts kind rest

-- a step: when it begins and ends, and whether it is a group or a macro call, whose end is a time of its own
pub record Step : Type 0 where
  pub begin : ℕ
  pub end : ℕ
  pub has_end : Bool

-- the step that an item with times is, or that its group is
abbrev pub step_of : Item → Option Step
step_of (i.At lit time) = Some (record { begin = time.0; end = time.0; has_end = false })
step_of (i.Span atom from to) = Some (record { begin = from.0; end = to.0; has_end = true })
step_of _ = None

-- a step in front of steps, where there is one
abbrev pub step_before : Option Step → List Step → List Step
step_before None steps = steps
step_before (Some step) steps = step ∷ steps

-- the step of a part in front of steps, where it is one
abbrev pub part_before : List Item → List Step → List Step
part_before [] steps = steps
part_before (item ∷ rest) steps = step_before (step_of item) steps

-- the steps of parts
abbrev pub steps_in : List (List Item) → List Step
steps_in [] = []
steps_in (part ∷ rest) = part_before part (steps_in rest)

-- the steps of a sequence: its `at` items, its macro calls and its groups
abbrev pub steps : (List ℕ → Option Kind) → List Item → List Step
steps kind items = steps_in (parts kind items)

-- when the first step begins
abbrev pub first_begin : List Step → Option ℕ
first_begin [] = None
first_begin (step ∷ rest) = Some step.begin

-- when the last step ends, or else that which was before
abbrev pub last_end_after : Option ℕ → List Step → Option ℕ
last_end_after before [] = before
last_end_after before (step ∷ rest) = last_end_after (Some step.end) rest

-- when the last step ends
abbrev pub last_end : List Step → Option ℕ
last_end steps = last_end_after None steps

-- ---- the order of sequences

-- a time is one of these
abbrev pub occurs : ℕ → List ℕ → Bool
occurs time times = list_any (λ t. t == time) times

-- a time is this one, where there is one
abbrev pub is_time : Option ℕ → ℕ → Bool
is_time None time = false
is_time (Some t) time = t == time

-- a step may begin at a time that has not occurred, or at the end of the step before
abbrev pub may_begin : List ℕ → Option ℕ → ℕ → Bool
may_begin occurred before time = not (occurs time occurred) || is_time before time

-- a group or a macro call may end at a time that has not occurred and is not its begin
abbrev pub may_end : List ℕ → Step → Bool
may_end occurred step = not step.has_end || (not (occurs step.end occurred) && not (step.begin == step.end))

-- steps in order after a step that ended at `before`, where these times have occurred
abbrev pub follow : List ℕ → Option ℕ → List Step → Bool
follow occurred before [] = true
follow occurred before (step ∷ rest) = may_begin occurred before step.begin && (may_end occurred step && follow (step.end ∷ step.begin ∷ occurred) (Some step.end) rest)

-- there is a step
abbrev pub has_step : List Step → Bool
has_step [] = false
has_step (step ∷ rest) = true

-- the order of an antecedent or a macro body: it has a step, and the first begins at any time
abbrev pub is_ordered : (List ℕ → Option Kind) → List Item → Bool
is_ordered kind items = has_step (steps kind items) && follow [] None (steps kind items)

-- the times of an item, in a step or a constraint
abbrev pub times_of : Item → List ℕ
times_of (i.At lit time) = time.0 ∷ []
times_of (i.Span atom from to) = from.0 ∷ to.0 ∷ []
times_of (i.Con con) = con.left.0 ∷ con.right.0 ∷ []
times_of _ = []

-- the times of items
abbrev pub times_in : List Item → List ℕ
times_in items = flat_map times_of items

-- the order of an alternative: it has a step, the first begins at a time that does not occur in the antecedent or at the
-- end of the antecedent's last step, and no new time occurs in the antecedent
abbrev pub is_ordered_after : (List ℕ → Option Kind) → List Item → List Item → Bool
is_ordered_after kind antecedent items = has_step (steps kind items) && follow (times_in antecedent) (last_end (steps kind antecedent)) (steps kind items)

-- ---- the order of denials

-- the two times of the first `from to` item
abbrev pub span_in : List Item → Option (ℕ × ℕ)
span_in [] = None
span_in (i.Span atom from to ∷ rest) = Some (from.0, to.0)
span_in (item ∷ rest) = span_in rest

-- an item of a denial whose events last between these times: a `from to` item has both, an `at` item has one of them, and
-- once an item at the second has stood no other may
abbrev pub may_stand_between : ℕ → ℕ → Bool → Item → Bool
may_stand_between first second late (i.At lit time) = (time.0 == first && not late) || time.0 == second
may_stand_between first second late (i.Span atom from to) = (from.0 == first && to.0 == second) && not late
may_stand_between first second late _ = true

-- an item at this time
abbrev pub stands_at : ℕ → Item → Bool
stands_at second (i.At lit time) = time.0 == second
stands_at second _ = false

-- the items of a denial may stand in this order, `late` once an item at the second time has stood
abbrev pub may_all_stand : ℕ → ℕ → Bool → List Item → Bool
may_all_stand first second late [] = true
may_all_stand first second late (item ∷ rest) = may_stand_between first second late item && may_all_stand first second (late || stands_at second item) rest

-- the items of a denial stand in order between these two times, which differ
abbrev pub is_between : Option (ℕ × ℕ) → List Item → Bool
is_between None items = true
is_between (Some (first, second)) items = not (first == second) && may_all_stand first second false items

-- the order of a denial, which says nothing where it has no `from to` item
abbrev pub is_denial_ordered : List Item → Bool
is_denial_ordered items = is_between (span_in items) items

-- ---- what a statement may be refused for

-- the order rule fails in a statement
abbrev pub is_out_of_order : (List ℕ → Option Kind) → Body → Bool
is_out_of_order kind (b.Rule antecedent alternatives) = not (is_ordered kind antecedent && list_all (is_ordered_after kind antecedent) alternatives)
is_out_of_order kind (b.Denial items) = not (is_denial_ordered items)
is_out_of_order kind (b.MacroClause head begin end items) = not (is_ordered kind items)
is_out_of_order kind _ = false

-- an item whose name is of a kind that passes
abbrev pub is_of : (Option Kind → Bool) → (List ℕ → Option Kind) → Item → Bool
is_of test kind (i.Span atom from to) = test (kind atom.name)
is_of test kind _ = false

-- a part with both an event and an action
abbrev pub is_mixed : (List ℕ → Option Kind) → List Item → Bool
is_mixed kind part = list_any (is_of is_event kind) part && list_any (is_of is_action kind) part

-- a sequence has a group with both an event and an action
abbrev pub has_mixed : (List ℕ → Option Kind) → List Item → Bool
has_mixed kind items = list_any (is_mixed kind) (parts kind items)

-- a group of a consequent or of a macro body has both an event and an action
abbrev pub is_mixed_somewhere : (List ℕ → Option Kind) → Body → Bool
is_mixed_somewhere kind (b.Rule antecedent alternatives) = list_any (has_mixed kind) alternatives
is_mixed_somewhere kind (b.MacroClause head begin end items) = has_mixed kind items
is_mixed_somewhere kind _ = false

-- a macro clause begins where its first step does, and ends where its last does
abbrev pub has_head_times : List Step → ℕ → ℕ → Bool
has_head_times steps begin end = is_time (first_begin steps) begin && is_time (last_end steps) end

-- a macro clause has other times than its first and last step
abbrev pub has_bad_head_times : (List ℕ → Option Kind) → Body → Bool
has_bad_head_times kind (b.MacroClause head begin end items) = not (has_head_times (steps kind items) begin.0 end.0)
has_bad_head_times kind _ = false

-- ---- the answer

-- the line of the first statement whose body passes
abbrev pub first_line : (Body → Bool) → List Statement → Option ℕ
first_line test [] = None
first_line test (statement ∷ rest) = if test statement.body then Some statement.line else first_line test rest

-- the refusal at the first of three lines that is there
abbrev pub refusal_at : Option ℕ → Option ℕ → Option ℕ → Option Refused
refusal_at (Some line) groups heads = Some (OutOfOrder line)
refusal_at None (Some line) heads = Some (MixedGroup line)
refusal_at None None (Some line) = Some (BadHeadTimes line)
refusal_at None None None = None

-- the refusal with the least number that stands anywhere in these statements, at the first one where it stands
abbrev pub order_refusal : (List ℕ → Option Kind) → List Statement → Option Refused
order_refusal kind statements =
    refusal_at (first_line (is_out_of_order kind) statements) (first_line (is_mixed_somewhere kind) statements) (first_line (has_bad_head_times kind) statements)
