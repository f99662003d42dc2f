-- What is read off the items of a sequence from the left, one item at a time.
use Rattle.std.specs.Prelude.{ℕ, Bool, true, false, not, ◌&&◌, ◌||◌, ◌==◌, List, [], ◌∷◌, ◌++◌, Option, Some, None, is_some, if◌then◌else◌}
use Rattle.lps_terms.specs.declared.item.Item.{Item}
use Rattle.lps_terms.specs.declared.item.Item.TheVariants as i
use Rattle.lps_terms.specs.declared.kind.Kind.{Kind}
use Rattle.lps_model.specs.Order.{Step, happens, is_event, may_begin, may_end, occurs, step_of}
use Rattle.lps_order.specs.declared.happening.Happening.{Happening}

-- an event or an action of these times, by its kind
abbrev pub happening_with : Option Kind → ℕ → ℕ → Option Happening
happening_with kind begin end = if happens kind then Some (record { begin = begin; end = end; is_event = is_event kind }) else None

-- the event or action that an item is
abbrev pub happening_of : (List ℕ → Option Kind) → Item → Option Happening
happening_of kind (i.Span atom from to) = happening_with (kind atom.name) from.0 to.0
happening_of kind _ = None

-- two adjacent ones of one group
abbrev pub are_joined : Option Happening → Option Happening → Bool
are_joined (Some before) (Some now) = before.begin == now.begin && before.end == now.end
are_joined _ _ = false

-- two of one group, an event and an action
abbrev pub are_mixed : Option Happening → Option Happening → Bool
are_mixed (Some before) (Some now) = (if before.is_event then not now.is_event else now.is_event) && (before.begin == now.begin && before.end == now.end)
are_mixed _ _ = false

-- these times with one more
abbrev pub noted : List ℕ → ℕ → List ℕ
noted times time = if occurs time times then times else times ++ time ∷ []

-- these times with those of an item
abbrev pub noted_of : List ℕ → Item → List ℕ
noted_of times (i.At lit time) = noted times time.0
noted_of times (i.Span atom from to) = noted (noted times from.0) to.0
noted_of times (i.Con con) = noted (noted times con.left.0) con.right.0
noted_of times _ = times

-- these times with those of items
abbrev pub noted_in : List ℕ → List Item → List ℕ
noted_in times [] = times
noted_in times (item ∷ rest) = noted_in (noted_of times item) rest

-- an item may stand after steps of which the last ended at `before`, where these times have occurred
abbrev pub may_step : List ℕ → Option ℕ → Option Step → Bool
may_step occurred before None = true
may_step occurred before (Some step) = may_begin occurred before step.begin && may_end occurred step

-- these times with those of a step
abbrev pub noted_step : List ℕ → Option Step → List ℕ
noted_step occurred None = occurred
noted_step occurred (Some step) = noted (noted occurred step.begin) step.end

-- the end of the last step, with this one
abbrev pub end_with : Option ℕ → Option Step → Option ℕ
end_with before None = before
end_with before (Some step) = Some step.end

-- items in order after steps of which the last ended at `before`, and after an event or action that stands next to them
abbrev pub walks : (List ℕ → Option Kind) → List ℕ → Option ℕ → Option Happening → List Item → Bool
walks kind occurred before prior [] = true
walks kind occurred before prior (item ∷ rest) =
    if are_joined prior (happening_of kind item)
    then walks kind occurred before (happening_of kind item) rest
    else (may_step occurred before (step_of item) && walks kind (noted_step occurred (step_of item)) (end_with before (step_of item)) (happening_of kind item) rest)

-- an event and an action of one group stand next to each other, after an event or action that stands next to them
abbrev pub mixes : (List ℕ → Option Kind) → Option Happening → List Item → Bool
mixes kind prior [] = false
mixes kind prior (item ∷ rest) = are_mixed prior (happening_of kind item) || mixes kind (happening_of kind item) rest

abbrev pub begin_before : Option Step → Option ℕ → Option ℕ
begin_before None later = later
begin_before (Some step) later = Some step.begin

-- when the first item with times begins
abbrev pub begin_of : List Item → Option ℕ
begin_of [] = None
begin_of (item ∷ rest) = begin_before (step_of item) (begin_of rest)

-- when the last item with times ends, or else that which was before
abbrev pub ends_after : Option ℕ → List Item → Option ℕ
ends_after before [] = before
ends_after before (item ∷ rest) = ends_after (end_with before (step_of item)) rest

-- items with a step, in order where these times have occurred and the step before ended then
abbrev pub follows : (List ℕ → Option Kind) → List ℕ → Option ℕ → List Item → Bool
follows kind occurred before items = is_some (begin_of items) && walks kind occurred before None items
