-- What is read off the items from the left is what the definitions say of the steps.
use Rattle.std.proofs.Common.{◌≡◌, ℕ, Bool, true, false, not, cond, ◌&&◌, ◌||◌, ◌==◌, List, [], ◌∷◌, ◌++◌, Option, Some, None, is_some, refl, sym, ap, subst, ◌∙◌}
use Rattle.std.specs.List.{list_all}
use Rattle.std.proofs.lemmas.Bool.{eqb-true}
use Rattle.std.proofs.lemmas.List.Folds.{list_any-append}
use Rattle.lps_terms.specs.declared.item.Item.{Item}
use Rattle.lps_terms.specs.declared.item.Item.TheVariants as i
use Rattle.lps_terms.specs.declared.kind.Kind.{Kind}
use Rattle.lps_model.specs.Order.{Step, first_begin, follow, happens, has_head_times, has_step, is_event, is_ordered, is_ordered_after, is_time, last_end, last_end_after, may_begin, may_end, occurs, step_before, step_of, steps, times_in, times_of}
use Rattle.lps_order.specs.declared.happening.Happening.{Happening}
use Rattle.lps_order.specs.Walking.{are_joined, begin_of, end_with, ends_after, follows, happening_of, may_step, noted, noted_in, noted_of, noted_step, walks}
use Rattle.lps_order.proofs.Steps.{none_joins, steps_after, steps_after_none, steps_by_first}

-- ---- times

-- the same times, in any order and as often as may be
pub record SameTimes (xs ys : List ℕ) : Type 0 where
  pub same : (t : ℕ) → occurs t xs ≡ occurs t ys

same_times : (xs : List ℕ) → SameTimes xs xs
same_times xs = record { same = λ t. refl }

or_swapped : (x y : Bool) → (x || (y || false)) ≡ (y || x)
or_swapped true true = refl
or_swapped true false = refl
or_swapped false true = refl
or_swapped false false = refl

-- one more time, noted or put in front
noted_same : (xs ys : List ℕ) (time : ℕ) → SameTimes xs ys → SameTimes (noted xs time) (time ∷ ys)
noted_same xs ys time h = record { same = λ t. by t (occurs time xs) refl }
  where
    there : (t : ℕ) (b : Bool) → (time == t) ≡ b → occurs time xs ≡ true → occurs t xs ≡ (b || occurs t ys)
    there t true e is = subst (λ u. occurs u xs ≡ true) (eqb-true time t e) is
    there t false e is = h.same t

    by : (t : ℕ) (b : Bool) → occurs time xs ≡ b → occurs t (cond b xs (xs ++ time ∷ [])) ≡ ((time == t) || occurs t ys)
    by t true e = there t (time == t) refl e
    by t false e = list_any-append (λ u. u == t) xs (time ∷ []) ∙ or_swapped (occurs t xs) (time == t) ∙ ap (λ b. (time == t) || b) (h.same t)

two_noted_same : (xs ys : List ℕ) (t u : ℕ) → SameTimes xs ys → SameTimes (noted (noted xs t) u) (u ∷ t ∷ ys)
two_noted_same xs ys t u h = noted_same (noted xs t) (t ∷ ys) u (noted_same xs ys t h)

-- ---- steps in order

begins_same : (xs ys : List ℕ) (before : Option ℕ) (time : ℕ) → SameTimes xs ys → may_begin xs before time ≡ may_begin ys before time
begins_same xs ys before time h = ap (λ b. not b || is_time before time) (h.same time)

ends_same : (xs ys : List ℕ) (step : Step) → SameTimes xs ys → may_end xs step ≡ may_end ys step
ends_same xs ys step h = ap (λ b. not step.has_end || (not b && not (step.begin == step.end))) (h.same step.end)

and_grouped : (x y z : Bool) → ((x && y) && z) ≡ (x && (y && z))
and_grouped true y z = refl
and_grouped false y z = refl

-- a walk along the items is right where the steps are in order
pub walks_where_in_order : (kind : List ℕ → Option Kind) (items : List Item) (prior : Option Happening) (before : Option ℕ) (xs ys : List ℕ) → SameTimes xs ys → walks kind xs before prior items ≡ follow ys before (steps_after kind prior items)
walks_where_in_order kind [] prior before xs ys h = refl
walks_where_in_order kind (item ∷ rest) prior before xs ys h = by (are_joined prior (happening_of kind item)) (λ prior before xs ys h. walks_where_in_order kind rest prior before xs ys h)
  where
    at : (s : Option Step) → ((prior : Option Happening) (before : Option ℕ) (xs ys : List ℕ) → SameTimes xs ys → walks kind xs before prior rest ≡ follow ys before (steps_after kind prior rest))
        → (may_step xs before s && walks kind (noted_step xs s) (end_with before s) (happening_of kind item) rest) ≡ follow ys before (step_before s (steps_after kind (happening_of kind item) rest))
    at None later = later (happening_of kind item) before xs ys h
    at (Some step) later = and_grouped (may_begin xs before step.begin) (may_end xs step) (walks kind (noted (noted xs step.begin) step.end) (Some step.end) (happening_of kind item) rest)
        ∙ ap (λ b. b && (may_end xs step && walks kind (noted (noted xs step.begin) step.end) (Some step.end) (happening_of kind item) rest)) (begins_same xs ys before step.begin h)
        ∙ ap (λ b. may_begin ys before step.begin && (b && walks kind (noted (noted xs step.begin) step.end) (Some step.end) (happening_of kind item) rest)) (ends_same xs ys step h)
        ∙ ap (λ b. may_begin ys before step.begin && (may_end ys step && b)) (later (happening_of kind item) (Some step.end) (noted (noted xs step.begin) step.end) (step.end ∷ step.begin ∷ ys) (two_noted_same xs ys step.begin step.end h))

    by : (b : Bool) → ((prior : Option Happening) (before : Option ℕ) (xs ys : List ℕ) → SameTimes xs ys → walks kind xs before prior rest ≡ follow ys before (steps_after kind prior rest))
        → cond b (walks kind xs before (happening_of kind item) rest) (may_step xs before (step_of item) && walks kind (noted_step xs (step_of item)) (end_with before (step_of item)) (happening_of kind item) rest)
        ≡ follow ys before (cond b (steps_after kind (happening_of kind item) rest) (step_before (step_of item) (steps_after kind (happening_of kind item) rest)))
    by true later = later (happening_of kind item) before xs ys h
    by false later = at (step_of item) later

-- ---- the first begin and the last end

-- the first item with times begins with the first step
pub begins_where_steps : (kind : List ℕ → Option Kind) (items : List Item) → first_begin (steps kind items) ≡ begin_of items
begins_where_steps kind [] = refl
begins_where_steps kind (i.At lit time ∷ rest) = ap first_begin (steps_by_first kind (i.At lit time) rest)
begins_where_steps kind (i.Span a from to ∷ rest) = ap first_begin (steps_by_first kind (i.Span a from to) rest)
begins_where_steps kind (i.Bare lit ∷ rest) = ap first_begin (steps_by_first kind (i.Bare lit) rest) ∙ ap first_begin (steps_after_none kind rest) ∙ begins_where_steps kind rest
begins_where_steps kind (i.Built built ∷ rest) = ap first_begin (steps_by_first kind (i.Built built) rest) ∙ ap first_begin (steps_after_none kind rest) ∙ begins_where_steps kind rest
begins_where_steps kind (i.Con con ∷ rest) = ap first_begin (steps_by_first kind (i.Con con) rest) ∙ ap first_begin (steps_after_none kind rest) ∙ begins_where_steps kind rest

has_first : (ss : List Step) → has_step ss ≡ is_some (first_begin ss)
has_first [] = refl
has_first (step ∷ rest) = refl

-- there is a step where an item has times
pub has_step_where_begins : (kind : List ℕ → Option Kind) (items : List Item) → has_step (steps kind items) ≡ is_some (begin_of items)
has_step_where_begins kind items = has_first (steps kind items) ∙ ap is_some (begins_where_steps kind items)

-- the step before ended when the event or action before did
abbrev Ended : Option Happening → Option ℕ → Type 0
Ended None before = Unit {0}
Ended (Some h) before = before ≡ Some h.end

ended_after : (kind : List ℕ → Option Kind) (item : Item) (before : Option ℕ) → Ended (happening_of kind item) (end_with before (step_of item))
ended_after kind (i.At lit time) before = tt
ended_after kind (i.Bare lit) before = tt
ended_after kind (i.Built built) before = tt
ended_after kind (i.Con con) before = tt
ended_after kind (i.Span a from to) before = by (happens (kind a.name)) (is_event (kind a.name))
  where
    by : (b p : Bool) → Ended (cond b (Some (record { begin = from.0; end = to.0; is_event = p })) None) (Some to.0)
    by true p = refl
    by false p = tt

and_second : (x y : Bool) → (x && y) ≡ true → y ≡ true
and_second true y e = e
and_second false y e = absurd (cc)

joined_end : (kind : List ℕ → Option Kind) (item : Item) (prior : Option Happening) (before : Option ℕ) → Ended prior before → are_joined prior (happening_of kind item) ≡ true → before ≡ end_with before (step_of item)
joined_end kind (i.At lit time) prior before h e = absurd (cc (none_joins prior))
joined_end kind (i.Bare lit) prior before h e = refl
joined_end kind (i.Built built) prior before h e = refl
joined_end kind (i.Con con) prior before h e = refl
joined_end kind (i.Span a from to) None before h e = absurd (cc)
joined_end kind (i.Span a from to) (Some p) before h e = by (happens (kind a.name)) (is_event (kind a.name)) e
  where
    by : (b q : Bool) → are_joined (Some p) (cond b (Some (record { begin = from.0; end = to.0; is_event = q })) None) ≡ true → before ≡ Some to.0
    by true q j = h ∙ ap Some (eqb-true p.end to.0 (and_second (p.begin == from.0) (p.end == to.0) j))
    by false q j = absurd (cc)

last_end_of_first : (s : Option Step) (before : Option ℕ) (ss : List Step) → last_end_after before (step_before s ss) ≡ last_end_after (end_with before s) ss
last_end_of_first None before ss = refl
last_end_of_first (Some step) before ss = refl

ends_after_where_steps : (kind : List ℕ → Option Kind) (items : List Item) (prior : Option Happening) (before : Option ℕ) → Ended prior before → last_end_after before (steps_after kind prior items) ≡ ends_after before items
ends_after_where_steps kind [] prior before h = refl
ends_after_where_steps kind (item ∷ rest) prior before h = by (are_joined prior (happening_of kind item)) refl (ends_after_where_steps kind rest (happening_of kind item) (end_with before (step_of item)) (ended_after kind item before))
  where
    by : (b : Bool) → are_joined prior (happening_of kind item) ≡ b → last_end_after (end_with before (step_of item)) (steps_after kind (happening_of kind item) rest) ≡ ends_after (end_with before (step_of item)) rest
        → last_end_after before (cond b (steps_after kind (happening_of kind item) rest) (step_before (step_of item) (steps_after kind (happening_of kind item) rest))) ≡ ends_after (end_with before (step_of item)) rest
    by true e after = ap (λ o. last_end_after o (steps_after kind (happening_of kind item) rest)) (joined_end kind item prior before h e) ∙ after
    by false e after = last_end_of_first (step_of item) before (steps_after kind (happening_of kind item) rest) ∙ after

-- the last item with times ends with the last step
pub ends_where_steps : (kind : List ℕ → Option Kind) (items : List Item) → last_end (steps kind items) ≡ ends_after None items
ends_where_steps kind items = ap (last_end_after None) (sym (steps_after_none kind items)) ∙ ends_after_where_steps kind items None None tt

-- a head has the times of its body
pub has_head_times_where_read : (kind : List ℕ → Option Kind) (items : List Item) (begin end : ℕ) → has_head_times (steps kind items) begin end ≡ (is_time (begin_of items) begin && is_time (ends_after None items) end)
has_head_times_where_read kind items begin end = ap (λ o. is_time o begin && is_time (last_end (steps kind items)) end) (begins_where_steps kind items) ∙ ap (λ o. is_time (begin_of items) begin && is_time o end) (ends_where_steps kind items)

-- ---- sequences

follows_same : (kind : List ℕ → Option Kind) (xs ys : List ℕ) (before : Option ℕ) (items : List Item) → SameTimes xs ys → follows kind xs before items ≡ (has_step (steps kind items) && follow ys before (steps kind items))
follows_same kind xs ys before items h = ap (λ b. b && walks kind xs before None items) (sym (has_step_where_begins kind items))
    ∙ ap (λ b. has_step (steps kind items) && b) (walks_where_in_order kind items None before xs ys h ∙ ap (follow ys before) (steps_after_none kind items))

-- an antecedent or a macro body is in order where it is read so
pub follows_where_ordered : (kind : List ℕ → Option Kind) (items : List Item) → is_ordered kind items ≡ follows kind [] None items
follows_where_ordered kind items = sym (follows_same kind [] [] None items (same_times []))

or_none : (x : Bool) → x ≡ (x || false)
or_none true = refl
or_none false = refl

or_turned : (x y z : Bool) → (z || (y || x)) ≡ (x || (y || (z || false)))
or_turned true true true = refl
or_turned true true false = refl
or_turned true false true = refl
or_turned true false false = refl
or_turned false true true = refl
or_turned false true false = refl
or_turned false false true = refl
or_turned false false false = refl

or_grouped : (x y z : Bool) → ((x || y) || z) ≡ (x || (y || z))
or_grouped true y z = refl
or_grouped false y z = refl

two_noted : (xs : List ℕ) (u v t : ℕ) → occurs t (noted (noted xs u) v) ≡ (occurs t xs || occurs t (u ∷ v ∷ []))
two_noted xs u v t = (two_noted_same xs xs u v (same_times xs)).same t ∙ or_turned (occurs t xs) (u == t) (v == t)

item_noted : (item : Item) (xs : List ℕ) (t : ℕ) → occurs t (noted_of xs item) ≡ (occurs t xs || occurs t (times_of item))
item_noted (i.At lit time) xs t = (noted_same xs xs time.0 (same_times xs)).same t ∙ sym (or_swapped (occurs t xs) (time.0 == t))
item_noted (i.Span a from to) xs t = two_noted xs from.0 to.0 t
item_noted (i.Con con) xs t = two_noted xs con.left.0 con.right.0 t
item_noted (i.Bare lit) xs t = or_none (occurs t xs)
item_noted (i.Built built) xs t = or_none (occurs t xs)

items_noted : (items : List Item) (xs : List ℕ) (t : ℕ) → occurs t (noted_in xs items) ≡ (occurs t xs || occurs t (times_in items))
items_noted [] xs t = or_none (occurs t xs)
items_noted (item ∷ rest) xs t = items_noted rest (noted_of xs item) t
    ∙ ap (λ b. b || occurs t (times_in rest)) (item_noted item xs t)
    ∙ or_grouped (occurs t xs) (occurs t (times_of item)) (occurs t (times_in rest))
    ∙ ap (λ b. occurs t xs || b) (sym (list_any-append (λ u. u == t) (times_of item) (times_in rest)))

-- an alternative is in order where it is read so
follows_where_ordered_after : (kind : List ℕ → Option Kind) (antecedent items : List Item) → is_ordered_after kind antecedent items ≡ follows kind (noted_in [] antecedent) (ends_after None antecedent) items
follows_where_ordered_after kind antecedent items = ap (λ o. has_step (steps kind items) && follow (times_in antecedent) o (steps kind items)) (ends_where_steps kind antecedent)
    ∙ sym (follows_same kind (noted_in [] antecedent) (times_in antecedent) (ends_after None antecedent) items (record { same = λ t. items_noted antecedent [] t }))

-- alternatives are in order where they are read so
pub all_follow_where_ordered : (kind : List ℕ → Option Kind) (antecedent : List Item) (alternatives : List (List Item)) → list_all (is_ordered_after kind antecedent) alternatives ≡ list_all (follows kind (noted_in [] antecedent) (ends_after None antecedent)) alternatives
all_follow_where_ordered kind antecedent [] = refl
all_follow_where_ordered kind antecedent (items ∷ rest) = ap (λ b. b && list_all (is_ordered_after kind antecedent) rest) (follows_where_ordered_after kind antecedent items)
    ∙ ap (λ b. follows kind (noted_in [] antecedent) (ends_after None antecedent) items && b) (all_follow_where_ordered kind antecedent rest)
