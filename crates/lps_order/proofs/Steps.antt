-- The steps of a sequence, read off its items from the left.
use Rattle.std.proofs.Common.{◌≡◌, ℕ, Bool, true, false, cond, ◌&&◌, ◌==◌, List, [], ◌∷◌, Option, Some, None, refl, sym, ap, ◌∙◌}
use Rattle.lps_terms.specs.declared.item.Item.{Item}
use Rattle.lps_terms.specs.declared.item.Item.TheVariants as i
use Rattle.lps_terms.specs.declared.kind.Kind.{Kind}
use Rattle.lps_model.specs.Order.{Step, are_grouped, happens, is_event, joins, parts, step_before, step_of, steps, steps_in, with_first}
use Rattle.lps_order.specs.declared.happening.Happening.{Happening}
use Rattle.lps_order.specs.Walking.{are_joined, happening_of}

-- nothing joins what is no event or action
pub none_joins : (h : Option Happening) → are_joined h None ≡ false
none_joins None = refl
none_joins (Some h) = refl

-- two items are of one group where their happenings are
pub joined_where_grouped : (kind : List ℕ → Option Kind) (x y : Item) → are_grouped kind x y ≡ are_joined (happening_of kind x) (happening_of kind y)
joined_where_grouped kind (i.At lit time) y = refl
joined_where_grouped kind (i.Bare lit) y = refl
joined_where_grouped kind (i.Built built) y = refl
joined_where_grouped kind (i.Con con) y = refl
joined_where_grouped kind (i.Span a from to) (i.At lit time) = sym (none_joins (happening_of kind (i.Span a from to)))
joined_where_grouped kind (i.Span a from to) (i.Bare lit) = sym (none_joins (happening_of kind (i.Span a from to)))
joined_where_grouped kind (i.Span a from to) (i.Built built) = sym (none_joins (happening_of kind (i.Span a from to)))
joined_where_grouped kind (i.Span a from to) (i.Con con) = sym (none_joins (happening_of kind (i.Span a from to)))
joined_where_grouped kind (i.Span a from to) (i.Span b from' to') = by (happens (kind a.name)) (happens (kind b.name)) from.0 to.0 from'.0 to'.0 (is_event (kind a.name)) (is_event (kind b.name))
  where
    by : (x y : Bool) (b e b' e' : ℕ) (p q : Bool) → (x && (y && (b == b' && e == e'))) ≡ are_joined (cond x (Some (record { begin = b; end = e; is_event = p })) None) (cond y (Some (record { begin = b'; end = e'; is_event = q })) None)
    by true true b e b' e' p q = refl
    by true false b e b' e' p q = refl
    by false y b e b' e' p q = refl

-- the steps of items after an event or action that stands next to them
abbrev pub steps_after : (List ℕ → Option Kind) → Option Happening → List Item → List Step
steps_after kind prior [] = []
steps_after kind prior (item ∷ rest) = cond (are_joined prior (happening_of kind item)) (steps_after kind (happening_of kind item) rest) (step_before (step_of item) (steps_after kind (happening_of kind item) rest))

-- the parts without the first
abbrev others : List (List Item) → List (List Item)
others [] = []
others (part ∷ rest) = rest

others_with_first : (item : Item) (ps : List (List Item)) → others (with_first item ps) ≡ others ps
others_with_first item [] = refl
others_with_first item (part ∷ rest) = refl

steps_with_first : (item : Item) (ps : List (List Item)) → steps_in (with_first item ps) ≡ step_before (step_of item) (steps_in (others ps))
steps_with_first item [] = refl
steps_with_first item (part ∷ rest) = refl

first_step : (kind : List ℕ → Option Kind) (item : Item) (rest : List Item) → steps kind (item ∷ rest) ≡ step_before (step_of item) (steps_in (others (parts kind (item ∷ rest))))
first_step kind item rest = by (joins kind item rest) (parts kind rest)
  where
    by : (b : Bool) (ps : List (List Item)) → steps_in (cond b (with_first item ps) ((item ∷ []) ∷ ps)) ≡ step_before (step_of item) (steps_in (others (cond b (with_first item ps) ((item ∷ []) ∷ ps))))
    by true ps = steps_with_first item ps ∙ ap (λ q. step_before (step_of item) (steps_in q)) (sym (others_with_first item ps))
    by false ps = refl

other_steps : (kind : List ℕ → Option Kind) (item : Item) (rest : List Item) → steps_in (others (parts kind (item ∷ rest))) ≡ steps_after kind (happening_of kind item) rest
other_steps kind item [] = refl
other_steps kind item (next ∷ more) = by (are_grouped kind item next) (other_steps kind next more) ∙ ap (λ b. cond b (steps_after kind (happening_of kind next) more) (step_before (step_of next) (steps_after kind (happening_of kind next) more))) (joined_where_grouped kind item next)
  where
    by : (b : Bool) → steps_in (others (parts kind (next ∷ more))) ≡ steps_after kind (happening_of kind next) more
        → steps_in (others (cond b (with_first item (parts kind (next ∷ more))) ((item ∷ []) ∷ parts kind (next ∷ more)))) ≡ cond b (steps_after kind (happening_of kind next) more) (step_before (step_of next) (steps_after kind (happening_of kind next) more))
    by true rest = ap steps_in (others_with_first item (parts kind (next ∷ more))) ∙ rest
    by false rest = first_step kind next more ∙ ap (step_before (step_of next)) rest

-- the steps are that of the first item, if it is one, and those after it
pub steps_by_first : (kind : List ℕ → Option Kind) (item : Item) (rest : List Item) → steps kind (item ∷ rest) ≡ step_before (step_of item) (steps_after kind (happening_of kind item) rest)
steps_by_first kind item rest = first_step kind item rest ∙ ap (step_before (step_of item)) (other_steps kind item rest)

-- after what is no event or action all steps are left
pub steps_after_none : (kind : List ℕ → Option Kind) (items : List Item) → steps_after kind None items ≡ steps kind items
steps_after_none kind [] = refl
steps_after_none kind (item ∷ rest) = sym (steps_by_first kind item rest)
