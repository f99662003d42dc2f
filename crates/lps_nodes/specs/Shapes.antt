-- What is left of a sequence at a place of a walk, as far as it is known there: the most general of what the walk leaves
-- possible. Nothing is unified: other values and times are possible where they give the same entries passed and make each
-- call agree with the body in its place, and what is left is general where all that is possible is an instance of it.
use Rattle.std.specs.Prelude.{◌≡◌, ◌++◌, ◌&&◌, ◌||◌, ℕ, suc, Bool, true, false, nat_eq, nat_lt, List, [], ◌∷◌, map}
use Rattle.std.specs.List.{AllByRecursion, filter, flat_map}
use Rattle.lps_terms.specs.declared.item.Item.{Item}
use Rattle.lps_terms.specs.declared.item.Item.TheVariants as i
use Rattle.lps_terms.specs.declared.term.Term.{Term}
use Rattle.lps_terms.specs.Put.{put, put_atom}
use Rattle.lps_model.specs.VariableLists.{args_vars, atom_vars, built_vars}
use Rattle.lps_derivation.specs.Instances.{put_lit, put_built}
use Rattle.lps_meaning.specs.declared.node.Carry.{Carry}
use Rattle.lps_meaning.specs.declared.node.Left.{Left}
use Rattle.lps_meaning.specs.declared.node.LeftCon.{LeftCon}
use Rattle.lps_meaning.specs.declared.node.LeftItem.{LeftItem}
use Rattle.lps_meaning.specs.declared.node.LeftItem.TheVariants as l
use Rattle.lps_meaning.specs.declared.when.When.{When}
use Rattle.lps_meaning.specs.declared.when.When.TheVariants.{Known, Unknown}
use Rattle.lps_meaning.specs.Goals.{shared_values, shared_times}
use Rattle.lps_model.specs.Rules.{Rule}
use Rattle.lps_meaning.specs.Sequences.{Entry, Link, Place, Values, Times, HasSameValues}

-- a sequence, with the variables and times whose values are given at its start, and those that it carries on
pub record Sequence : Type 0 where
  pub items : List Item
  pub given_values : List ℕ
  pub given_times : List ℕ
  pub carried_values : List ℕ
  pub carried_times : List ℕ

-- an alternative is given what its antecedent shares
abbrev pub alternative_of : Rule → List Item → Sequence
alternative_of rule items = record { items = items; given_values = shared_values rule; given_times = shared_times rule; carried_values = []; carried_times = [] }

-- an antecedent carries what it shares
abbrev pub antecedent_of : Rule → Sequence
antecedent_of rule =
    record { items = rule.antecedent; given_values = []; given_times = []; carried_values = shared_values rule; carried_times = shared_times rule }

-- a time for each time of each environment, as far as it is known
abbrev pub Whens : Type 0
Whens = ℕ → ℕ → When

-- ---- shapes

-- what is left of a sequence: what it carries, the items left and the constraints
pub record Shape : Type 0 where
  pub carry : Carry
  pub rest : List Left
  pub limits : List LeftCon

-- a time with w of each unknown one in its place
abbrev pub put_when : (ℕ → When) → When → When
put_when w (Known n) = Known n
put_when w (Unknown k) = w k

abbrev pub put_left_item : (ℕ → Term) → (ℕ → When) → LeftItem → LeftItem
put_left_item s w (l.At lit time) = l.At (put_lit s lit) (put_when w time)
put_left_item s w (l.Bare lit) = l.Bare (put_lit s lit)
put_left_item s w (l.Built built) = l.Built (put_built s built)
put_left_item s w (l.Span a from to) = l.Span (put_atom s a) (put_when w from) (put_when w to)

-- an item left, with s and w put in
abbrev pub put_left : (ℕ → Term) → (ℕ → When) → Left → Left
put_left s w left = record { item = put_left_item s w left.item; nest = left.nest }

abbrev pub put_left_con : (ℕ → When) → LeftCon → LeftCon
put_left_con w con = record { left = put_when w con.left; rel = con.rel; right = put_when w con.right; plus = con.plus }

-- a shape with s and w put in
abbrev pub put_shape : (ℕ → Term) → (ℕ → When) → Shape → Shape
put_shape s w g = record {
  carry = record { values = map (put s) g.carry.values; times = map (put_when w) g.carry.times };
  rest = map (put_left s w) g.rest;
  limits = map (put_left_con w) g.limits;
}

-- ---- from items to shapes

-- an item of the text with s and w put in, as an item left; a constraint is none
abbrev pub left_of : (ℕ → Term) → (ℕ → When) → ℕ → Item → List Left
left_of s w nest (i.At lit time) = record { item = l.At (put_lit s lit) (w time.0); nest = nest } ∷ []
left_of s w nest (i.Bare lit) = record { item = l.Bare (put_lit s lit); nest = nest } ∷ []
left_of s w nest (i.Built built) = record { item = l.Built (put_built s built); nest = nest } ∷ []
left_of s w nest (i.Span a from to) = record { item = l.Span (put_atom s a) (w from.0) (w to.0); nest = nest } ∷ []
left_of s w nest (i.Con con) = []

-- a constraint of the text with w put in
abbrev pub con_of : (ℕ → When) → Item → List LeftCon
con_of w (i.Con con) = record { left = w con.left.0; rel = con.rel; right = w con.right.0; plus = con.plus } ∷ []
con_of w _ = []

-- an entry as an item left
abbrev pub left_at : Values → Whens → Entry → List Left
left_at u w e = left_of (u e.env) (w e.env) e.nest e.item

-- the constraints of the bodies that were put in, those of the latest last
abbrev pub limits_of : Whens → List Link → List LeftCon
limits_of w [] = []
limits_of w (link ∷ links) = limits_of w links ++ flat_map (con_of (w link.inner)) link.clause.items

-- a call and the body in its place have the same times, as far as they are known
abbrev pub HasSameWhens : Whens → Link → Type 0
HasSameWhens w link = (w link.outer link.from ≡ w link.inner link.clause.begin) × (w link.outer link.to ≡ w link.inner link.clause.end)

-- what is known of times by numbers for all of them
abbrev pub all_known : Times → Whens
all_known t env v = Known (t env v)

module _ (q : Sequence) where
  -- what is left at a place under some values and times: the constraints of the sequence come first, then those of bodies
  abbrev pub shape_of : Place → Values → Whens → Shape
  shape_of place u w = record {
    carry = record { values = map (u 0) q.carried_values; times = map (w 0) q.carried_times };
    rest = flat_map (left_at u w) place.left;
    limits = flat_map (con_of (w 0)) q.items ++ limits_of w place.links;
  }

  module _ (s : Values) (t : Times) where
    -- A walk with the values s and the times t leaves these values and times possible: what was given and each entry passed are
    -- the same under them, and each call agrees with the body in its place.
    pub record IsPossible (place : Place) (u : Values) (w : Whens) : Type 0 where
      pub values : map (u 0) q.given_values ≡ map (s 0) q.given_values
      pub times : map (w 0) q.given_times ≡ map (all_known t 0) q.given_times
      pub past : AllByRecursion (λ e. left_at u w e ≡ left_at s (all_known t) e) place.past
      pub links : AllByRecursion (HasSameValues u) place.links
      pub when_links : AllByRecursion (HasSameWhens w) place.links

    -- the most general of what is left at the place
    pub record IsGeneral (place : Place) (g : Shape) : Type 0 where
      pub values : Values
      pub whens : Whens
      pub possible : IsPossible place values whens
      pub own : g ≡ shape_of place values whens
      pub general : (u : Values) (w : Whens) → IsPossible place u w → (v : ℕ → Term) × (x : ℕ → When) × (shape_of place u w ≡ put_shape v x g)

-- ---- canonical numbers

-- these numbers are numbered by first occurrence, where the numbers below n have occurred
abbrev pub is_numbered : ℕ → List ℕ → Bool
is_numbered n [] = true
is_numbered n (v ∷ vs) = (nat_lt v n && is_numbered n vs) || (nat_eq v n && is_numbered (suc n) vs)

abbrev pub unknowns : When → List ℕ
unknowns (Known n) = []
unknowns (Unknown k) = k ∷ []

abbrev pub left_vars : LeftItem → List ℕ
left_vars (l.At lit time) = atom_vars lit.atom
left_vars (l.Bare lit) = atom_vars lit.atom
left_vars (l.Built built) = built_vars built
left_vars (l.Span a from to) = atom_vars a

abbrev pub left_unknowns : LeftItem → List ℕ
left_unknowns (l.At lit time) = unknowns time
left_unknowns (l.Span a from to) = unknowns from ++ unknowns to
left_unknowns _ = []

-- the variables of a shape in written order
abbrev pub shape_vars : Shape → List ℕ
shape_vars g = args_vars g.carry.values ++ flat_map (λ left. left_vars left.item) g.rest

-- the unknown times of a shape in written order
abbrev pub shape_unknowns : Shape → List ℕ
shape_unknowns g =
    flat_map unknowns g.carry.times ++ flat_map (λ left. left_unknowns left.item) g.rest ++ flat_map (λ con. unknowns con.left ++ unknowns con.right) g.limits

-- variables and unknown times are numbered from 0 by first occurrence over carry, rest and limits
abbrev pub IsCanonical : Shape → Type 0
IsCanonical g = (is_numbered 0 (shape_vars g) ≡ true) × (is_numbered 0 (shape_unknowns g) ≡ true)

abbrev pub is_unknown : When → Bool
is_unknown (Known n) = false
is_unknown (Unknown k) = true

-- without the constraints whose times are all known
abbrev pub untested : Shape → Shape
untested g = record { carry = g.carry; rest = g.rest; limits = filter (λ con. is_unknown con.left || is_unknown con.right) g.limits }
