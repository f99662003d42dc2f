-- How far a sequence of items is true in a trace: a walk over its items from the left, which passes true items and puts
-- the body of a clause in the place of a macro call. Each body has an environment of its own for its variables and times,
-- so nothing is renamed and nothing unified: values are given for all environments at once, and a link says that a call and
-- the head of the body in its place agree.
use Rattle.std.specs.Prelude.{◌≡◌, ◌≤◌, ◌<◌, ◌+ℤ◌, ◌≤ℤ◌, ◌<ℤ◌, ◌++◌, ℕ, ℤ, pos, suc, Bool, true, false, not, IsTrue, List, [], ◌∷◌, map, Option, Some, None, Contains, reverse}
use Rattle.std.specs.List.{AllByRecursion, count_by}
use Rattle.lps_terms.specs.declared.atom.Atom.{Atom}
use Rattle.lps_terms.specs.declared.item.Item.{Item}
use Rattle.lps_terms.specs.declared.item.Item.TheVariants as i
use Rattle.lps_terms.specs.declared.term.Term.{Term}
use Rattle.lps_terms.specs.declared.text.Text.{Text}
use Rattle.lps_terms.specs.declared.time_rel.TimeRel.{TimeRel}
use Rattle.lps_terms.specs.declared.time_rel.TimeRel.TheVariants as r
use Rattle.lps_terms.specs.declared.time_var.TimeVar.{TimeVar}
use Rattle.lps_terms.specs.Put.{put_atom}
use Rattle.lps_values.specs.Truth.{is_true}
use Rattle.lps_model.specs.declared.trace.Trace.{Trace}
use Rattle.lps_model.specs.Order.{are_grouped}
use Rattle.lps_model.specs.Trace.{events_at}
use Rattle.lps_meaning.specs.Holds.{IsTrueLit}
use Rattle.lps_meaning.specs.Items.{put_item, IsSmallItem}
use Rattle.lps_model.specs.Rules.{MacroClause, clauses_of, numbered, kind_of, is_macro}

-- ---- entries and places

-- an item of a sequence with calls replaced: the environment of its variables, the nesting of the call that gave it (0 for an
-- item of the text's sequence), and whether it is of one group with the item before it
pub record Entry : Type 0 where
  pub env : ℕ
  pub nest : ℕ
  pub joins : Bool
  pub item : Item

-- a call of the environment `outer` that was replaced, how deep it nests, and the clause, by its number among those of its
-- macro, whose body in the environment `inner` stands in its place
pub record Link : Type 0 where
  pub outer : ℕ
  pub inner : ℕ
  pub nest : ℕ
  pub call : Atom
  pub from : ℕ
  pub to : ℕ
  pub number : ℕ
  pub clause : MacroClause

-- where a walk stands: the entries passed and the calls replaced, the latest first; the next new environment; the end of the
-- last step passed; and the entries left
pub record Place : Type 0 where
  pub past : List Entry
  pub links : List Link
  pub next : ℕ
  pub before : ℕ
  pub left : List Entry

-- a term for each variable of each environment
abbrev pub Values : Type 0
Values = ℕ → ℕ → Term

-- a number for each time of each environment
abbrev pub Times : Type 0
Times = ℕ → ℕ → ℕ

-- an item is of one group with the item before it
abbrev pub joins_to : Text → Option Item → Item → Bool
joins_to text None item = false
joins_to text (Some before) item = are_grouped (kind_of text) before item

-- the entries of items that stand after an item, if there is one
abbrev pub entries : Text → ℕ → ℕ → Option Item → List Item → List Entry
entries text env nest before [] = []
entries text env nest before (item ∷ items) =
    record { env = env; nest = nest; joins = joins_to text before item; item = item } ∷ entries text env nest (Some item) items

-- a macro call
abbrev pub is_call : Text → Item → Bool
is_call text (i.Span a from to) = is_macro (kind_of text a.name)
is_call text _ = false

-- an item that has times
abbrev pub is_step : Item → Bool
is_step (i.At l time) = true
is_step (i.Span a from to) = true
is_step _ = false

-- ---- time

-- when an item ends, or what was before where it has no times
abbrev pub end_of : (ℕ → ℕ) → ℕ → Item → ℕ
end_of t before (i.At l time) = t time.0
end_of t before (i.Span a from to) = t to.0
end_of t before _ = before

-- A macro call begins at or after the end of the step before, and ends at or after its begin. An event or action ends one after
-- it begins; where it joins a group, the step before ended with it, and else it begins at or after that end.
abbrev pub IsSpanPlaced : Bool → Bool → ℕ → ℕ → ℕ → Type 0
IsSpanPlaced true joins before from to = (before ≤ from) × (from ≤ to)
IsSpanPlaced false true before from to = (to ≡ suc from) × (to ≡ before)
IsSpanPlaced false false before from to = (to ≡ suc from) × (before ≤ from)

-- the item stands where it may after a step that ended at `before`
abbrev pub IsPlaced : Text → (ℕ → ℕ) → ℕ → Bool → Item → Type 0
IsPlaced text t before joins (i.At l time) = before ≤ t time.0
IsPlaced text t before joins (i.Span a from to) = IsSpanPlaced (is_macro (kind_of text a.name)) joins before (t from.0) (t to.0)
IsPlaced text t before joins _ = Unit {0}

-- each entry stands where it may after the one before
abbrev pub AreInOrder : Text → Times → ℕ → List Entry → Type 0
AreInOrder text t before [] = Unit {0}
AreInOrder text t before (e ∷ es) = IsPlaced text (t e.env) before e.joins e.item × AreInOrder text t (end_of (t e.env) before e.item) es

-- the step begins after now: an `at` item later, a group or a macro call now or later
abbrev pub IsAhead : ℕ → (ℕ → ℕ) → Item → Type 0
IsAhead now t (i.At l time) = now < t time.0
IsAhead now t (i.Span a from to) = now ≤ t from.0
IsAhead now t _ = ⊥

-- two times compare so
abbrev pub Relates : TimeRel → ℤ → ℤ → Type 0
Relates r.Less x y = x <ℤ y
Relates r.AtMost x y = x ≤ℤ y
Relates r.Equal x y = x ≡ y
Relates r.AtLeast x y = y ≤ℤ x
Relates r.Greater x y = y <ℤ x

-- a constraint is true
abbrev pub IsLimit : (ℕ → ℕ) → Item → Type 0
IsLimit t (i.Con con) = Relates con.rel (pos (t con.left.0)) (pos (t con.right.0) +ℤ con.plus)
IsLimit t _ = Unit {0}

-- the constraints of the sequence, and of the bodies that were put in, are true
abbrev pub AreLimits : Times → List Item → List Link → Type 0
AreLimits t items [] = AllByRecursion (IsLimit (t 0)) items
AreLimits t items (link ∷ links) = AllByRecursion (IsLimit (t link.inner)) link.clause.items × AreLimits t items links

-- ---- steps of a walk

-- a call and the head of the body in its place have the same values
abbrev pub HasSameValues : Values → Link → Type 0
HasSameValues s link = put_atom (s link.outer) link.call ≡ put_atom (s link.inner) link.clause.head

-- and the same times
abbrev pub HasSameTimes : Times → Link → Type 0
HasSameTimes t link = (t link.outer link.from ≡ t link.inner link.clause.begin) × (t link.outer link.to ≡ t link.inner link.clause.end)

-- the first entry left is passed
abbrev pub passed : Times → Place → Entry → List Entry → Place
passed t place e rest =
    record { past = e ∷ place.past; links = place.links; next = place.next; before = end_of (t e.env) place.before e.item; left = rest }

-- the link of a call of the first entry left, and a clause
abbrev pub link_at : Place → Entry → Atom → ℕ → ℕ → ℕ → MacroClause → Link
link_at place e a from to number clause =
    record { outer = e.env; inner = place.next; nest = suc e.nest; call = a; from = from; to = to; number = number; clause = clause }

-- the body of the link's clause stands in the place of the first entry left
abbrev pub replaced : Text → Place → Link → List Entry → Place
replaced text place link rest = record {
  past = place.past;
  links = link ∷ place.links;
  next = suc place.next;
  before = place.before;
  left = entries text link.inner link.nest None link.clause.items ++ rest;
}

-- with some variables given at the start
module _ (given : List ℕ) where
  -- other values that the entries passed and the calls replaced leave possible
  pub record AreAlike (s u : Values) (place : Place) : Type 0 where
    pub start : map (s 0) given ≡ map (u 0) given
    pub past : AllByRecursion (λ e. put_item (s e.env) e.item ≡ put_item (u e.env) e.item) place.past
    pub links : AllByRecursion (HasSameValues u) place.links

  -- the entry is small with what is known put in: some values that are possible make it so
  pub record IsSmallSoFar (s : Values) (place : Place) (e : Entry) : Type 0 where
    pub other : Values
    pub alike : AreAlike s other place
    pub small : IsSmallItem (put_item (other e.env) e.item)

module _ (text : Text) (level : List ℕ → ℕ) (trace : Trace) where
  -- an item of an instance is true by now, under values of its times; constraints stand apart
  abbrev pub IsTrueItem : ℕ → (ℕ → ℕ) → Item → Type 0
  IsTrueItem now t (i.At l time) = (t time.0 ≤ now) × IsTrueLit text level trace (t time.0) l
  IsTrueItem now t (i.Bare l) = IsTrueLit text level trace 0 l
  IsTrueItem now t (i.Built built) = IsTrue (is_true built)
  IsTrueItem now t (i.Span a from to) = (t to.0 ≤ now) × Contains (events_at trace (t to.0)) a
  IsTrueItem now t (i.Con con) = Unit {0}

  -- a walk to the place `end`, all of it by now
  pub data Walk (given : List ℕ) (s : Values) (t : Times) (now : ℕ) (end : Place) : Place → Type 0 where
    stop : Walk given s t now end end
    pass : {place : Place} (env nest : ℕ) (joins : Bool) (item : Item) (rest : List Entry) →
        place.left ≡ record { env = env; nest = nest; joins = joins; item = item } ∷ rest → is_call text item ≡ false →
        IsTrueItem now (t env) (put_item (s env) item) → IsSmallItem (put_item (s env) item) → IsPlaced text (t env) place.before joins item →
        Walk given s t now end (passed t place (record { env = env; nest = nest; joins = joins; item = item }) rest) → Walk given s t now end place
    replace : {place : Place} (e : Entry) (rest : List Entry) (a : Atom) (from to : TimeVar) (number : ℕ) (clause : MacroClause) →
        place.left ≡ e ∷ rest → e.item ≡ i.Span a from to → is_macro (kind_of text a.name) ≡ true →
        numbered (clauses_of text a.name) number ≡ Some clause →
        HasSameValues s (link_at place e a from.0 to.0 number clause) → HasSameTimes t (link_at place e a from.0 to.0 number clause) →
        IsSmallSoFar given s place e →
        Walk given s t now end (replaced text place (link_at place e a from.0 to.0 number clause) rest) → Walk given s t now end place

-- ---- what a place says

-- where a walk over a sequence starts: its steps are at `since` or later
abbrev pub start : Text → ℕ → List Item → Place
start text since items = record { past = []; links = []; next = 1; before = since; left = entries text 0 0 None items }

-- the numbers of the clauses chosen so far
abbrev pub rank : Place → List ℕ
rank place = map (λ link. link.number) (reverse place.links)

-- the first event or action of a group
abbrev pub starts_group : Bool → Item → Bool
starts_group joins (i.Span a from to) = not joins
starts_group joins _ = false

-- the number of groups passed
abbrev pub done : Place → ℕ
done place = count_by (λ e. starts_group e.joins e.item) place.past

-- no call that was replaced nests deeper than the depth
abbrev pub IsWithin : ℕ → Place → Type 0
IsWithin depth place = AllByRecursion (λ link. link.nest ≤ depth) place.links
