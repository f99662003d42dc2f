-- A group has both an event and an action where two that stand next to each other are one of each.
use Rattle.std.proofs.Common.{◌≡◌, ℕ, Bool, true, false, cond, ◌&&◌, ◌||◌, ◌==◌, List, [], ◌∷◌, Option, Some, None, refl, sym, ap, ◌∙◌}
use Rattle.std.specs.List.{list_any}
use Rattle.lps_terms.specs.declared.item.Item.{Item}
use Rattle.lps_terms.specs.declared.item.Item.TheVariants as i
use Rattle.lps_terms.specs.declared.kind.Kind.{Kind}
use Rattle.lps_terms.specs.declared.kind.Kind.TheVariants as k
use Rattle.lps_model.specs.Order.{are_grouped, happens, has_mixed, is_action, is_event, is_mixed, is_of, joins, parts, with_first}
use Rattle.lps_order.specs.declared.happening.Happening.{Happening}
use Rattle.lps_order.specs.Walking.{are_joined, are_mixed, happening_of, happening_with, mixes}
use Rattle.lps_order.proofs.Steps.{joined_where_grouped}

not_both : (kind : Option Kind) → ((is_event kind || false) && (is_action kind || false)) ≡ false
not_both None = refl
not_both (Some k.Fluent) = refl
not_both (Some k.Event) = refl
not_both (Some k.Action) = refl
not_both (Some k.Timeless) = refl
not_both (Some k.Derived) = refl
not_both (Some k.Macro) = refl

-- an item by itself is not mixed
alone_is_not_mixed : (kind : List ℕ → Option Kind) (item : Item) → is_mixed kind (item ∷ []) ≡ false
alone_is_not_mixed kind (i.At lit time) = refl
alone_is_not_mixed kind (i.Bare lit) = refl
alone_is_not_mixed kind (i.Built built) = refl
alone_is_not_mixed kind (i.Con con) = refl
alone_is_not_mixed kind (i.Span a from to) = not_both (kind a.name)

-- one item more of a group mixes it where it differs from the next, or where the others are mixed
one_more : (x y : Option Kind) (b e b' e' : ℕ) (events actions : Bool) → (happens x && (happens y && (b == b' && e == e'))) ≡ true
    → ((is_event x || (is_event y || events)) && (is_action x || (is_action y || actions))) ≡ (are_mixed (happening_with x b e) (happening_with y b' e') || ((is_event y || events) && (is_action y || actions)))
one_more (Some k.Event) (Some k.Event) b e b' e' events actions h = refl
one_more (Some k.Action) (Some k.Action) b e b' e' events actions h = refl
one_more (Some k.Event) (Some k.Action) b e b' e' events actions h = ap (λ t. t || (events && true)) (sym h)
one_more (Some k.Action) (Some k.Event) b e b' e' events actions h = ap (λ t. t || (true && actions)) (sym h)
one_more (Some k.Event) None b e b' e' events actions h = absurd (cc)
one_more (Some k.Event) (Some k.Fluent) b e b' e' events actions h = absurd (cc)
one_more (Some k.Event) (Some k.Timeless) b e b' e' events actions h = absurd (cc)
one_more (Some k.Event) (Some k.Derived) b e b' e' events actions h = absurd (cc)
one_more (Some k.Event) (Some k.Macro) b e b' e' events actions h = absurd (cc)
one_more (Some k.Action) None b e b' e' events actions h = absurd (cc)
one_more (Some k.Action) (Some k.Fluent) b e b' e' events actions h = absurd (cc)
one_more (Some k.Action) (Some k.Timeless) b e b' e' events actions h = absurd (cc)
one_more (Some k.Action) (Some k.Derived) b e b' e' events actions h = absurd (cc)
one_more (Some k.Action) (Some k.Macro) b e b' e' events actions h = absurd (cc)
one_more None y b e b' e' events actions h = absurd (cc)
one_more (Some k.Fluent) y b e b' e' events actions h = absurd (cc)
one_more (Some k.Timeless) y b e b' e' events actions h = absurd (cc)
one_more (Some k.Derived) y b e b' e' events actions h = absurd (cc)
one_more (Some k.Macro) y b e b' e' events actions h = absurd (cc)

grouped_more : (kind : List ℕ → Option Kind) (item next : Item) (rest : List Item) → are_grouped kind item next ≡ true → is_mixed kind (item ∷ next ∷ rest) ≡ (are_mixed (happening_of kind item) (happening_of kind next) || is_mixed kind (next ∷ rest))
grouped_more kind (i.At lit time) next rest h = absurd (cc)
grouped_more kind (i.Bare lit) next rest h = absurd (cc)
grouped_more kind (i.Built built) next rest h = absurd (cc)
grouped_more kind (i.Con con) next rest h = absurd (cc)
grouped_more kind (i.Span a from to) (i.At lit time) rest h = absurd (cc)
grouped_more kind (i.Span a from to) (i.Bare lit) rest h = absurd (cc)
grouped_more kind (i.Span a from to) (i.Built built) rest h = absurd (cc)
grouped_more kind (i.Span a from to) (i.Con con) rest h = absurd (cc)
grouped_more kind (i.Span a from to) (i.Span b from' to') rest h = one_more (kind a.name) (kind b.name) from.0 to.0 from'.0 to'.0 (list_any (is_of is_event kind) rest) (list_any (is_of is_action kind) rest) h

-- the first part begins with the first item
record BeginsWith (item : Item) (ps : List (List Item)) : Type 0 where
  rest : List Item
  others : List (List Item)
  is : ps ≡ (item ∷ rest) ∷ others

begins_with : (item : Item) (b : Bool) (ps : List (List Item)) → BeginsWith item (cond b (with_first item ps) ((item ∷ []) ∷ ps))
begins_with item false ps = record { rest = []; others = ps; is = refl }
begins_with item true [] = record { rest = []; others = []; is = refl }
begins_with item true (p ∷ ps) = record { rest = p; others = ps; is = refl }

parts_begin : (kind : List ℕ → Option Kind) (item : Item) (rest : List Item) → BeginsWith item (parts kind (item ∷ rest))
parts_begin kind item rest = begins_with item (joins kind item rest) (parts kind rest)

or_grouped : (x y z : Bool) → ((x || y) || z) ≡ (x || (y || z))
or_grouped true y z = refl
or_grouped false y z = refl

same_time_false : (p x : Bool) → x ≡ false → (p && x) ≡ false
same_time_false true x e = e
same_time_false false x e = refl

apart_is_not_mixed : (x y : Option Happening) → are_joined x y ≡ false → are_mixed x y ≡ false
apart_is_not_mixed None y e = refl
apart_is_not_mixed (Some x) None e = refl
apart_is_not_mixed (Some x) (Some y) e = same_time_false _ (x.begin == y.begin && x.end == y.end) e

-- a part is mixed where two that stand next to each other are
parts_mixed : (kind : List ℕ → Option Kind) (item : Item) (rest : List Item) → list_any (is_mixed kind) (parts kind (item ∷ rest)) ≡ mixes kind (happening_of kind item) rest
parts_mixed kind item [] = ap (λ b. b || false) (alone_is_not_mixed kind item)
parts_mixed kind item (next ∷ more) = by (are_grouped kind item next) refl (parts_mixed kind next more)
  where
    joined : (ps : List (List Item)) (later : Bool) → BeginsWith next ps → list_any (is_mixed kind) ps ≡ later → are_grouped kind item next ≡ true → list_any (is_mixed kind) (with_first item ps) ≡ (are_mixed (happening_of kind item) (happening_of kind next) || later)
    joined ps later first here h = ap (λ q. list_any (is_mixed kind) (with_first item q)) first.is
        ∙ ap (λ b. b || list_any (is_mixed kind) first.others) (grouped_more kind item next first.rest h)
        ∙ or_grouped (are_mixed (happening_of kind item) (happening_of kind next)) (is_mixed kind (next ∷ first.rest)) (list_any (is_mixed kind) first.others)
        ∙ ap (λ b. are_mixed (happening_of kind item) (happening_of kind next) || b) (ap (list_any (is_mixed kind)) (sym first.is) ∙ here)

    by : (b : Bool) → are_grouped kind item next ≡ b → list_any (is_mixed kind) (parts kind (next ∷ more)) ≡ mixes kind (happening_of kind next) more
        → list_any (is_mixed kind) (cond b (with_first item (parts kind (next ∷ more))) ((item ∷ []) ∷ parts kind (next ∷ more))) ≡ (are_mixed (happening_of kind item) (happening_of kind next) || mixes kind (happening_of kind next) more)
    by true e here = joined (parts kind (next ∷ more)) (mixes kind (happening_of kind next) more) (parts_begin kind next more) here e
    by false e here = ap (λ b. b || list_any (is_mixed kind) (parts kind (next ∷ more))) (alone_is_not_mixed kind item)
        ∙ here
        ∙ ap (λ b. b || mixes kind (happening_of kind next) more) (sym (apart_is_not_mixed (happening_of kind item) (happening_of kind next) (sym (joined_where_grouped kind item next) ∙ e)))

-- a sequence has a mixed group where two that stand next to each other are
pub mixes_where_mixed : (kind : List ℕ → Option Kind) (items : List Item) → has_mixed kind items ≡ mixes kind None items
mixes_where_mixed kind [] = refl
mixes_where_mixed kind (item ∷ rest) = parts_mixed kind item rest
