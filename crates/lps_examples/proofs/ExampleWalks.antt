-- How a walk goes on from a place whose first entry left is known.
use Rattle.std.proofs.Common.{ℕ, zero, suc, Bool, true, false, ◌≡◌, ◌⊎◌, List, [], ◌∷◌, ◌∙◌, length, refl, sym, ap, subst, arith, inl, inr}
use Rattle.std.specs.Prelude.{Option, Some, None, Contains, codes, slice_index_or}
use Rattle.std.specs.List.Sorted.{IsStrictlySortedBy}
use Rattle.std.specs.declared.cmp.Ordering.{Ordering}
use Rattle.lps_terms.specs.declared.atom.Atom.{Atom}
use Rattle.lps_terms.specs.declared.item.Item.{Item}
use Rattle.lps_terms.specs.declared.item.Item.TheVariants as i
use Rattle.lps_terms.specs.declared.term.Term.{Term}
use Rattle.lps_terms.specs.declared.term.Term.TheVariants as t
use Rattle.lps_terms.specs.declared.text.Text.{Text}
use Rattle.lps_terms.specs.declared.time_var.TimeVar.{TimeVar}
use Rattle.lps_terms.specs.Names.{is_proper_name, reserved}
use Rattle.lps_terms.specs.Symbols.{symbols_of_all}
use Rattle.lps_model.specs.declared.trace.Trace.{Trace}
use Rattle.lps_model.proofs.Elements.{first_or_later, nothing_contained}
use Rattle.lps_derivation.specs.Ground.{is_ground-Sym}
use Rattle.lps_meaning.specs.Items.{put_item, IsSmallItem}
use Rattle.lps_meaning.specs.Goals.{AreAllGround}
use Rattle.lps_model.specs.Rules.{MacroClause, numbered, clauses_of, is_macro, kind_of}
use Rattle.lps_meaning.specs.Sequences.{Entry, Place, Values, Times, Walk, stop, pass, replace, passed, replaced, link_at, IsTrueItem, IsPlaced, HasSameValues, HasSameTimes, is_call}

-- ---- lists and atoms

abbrev pub head_or : {X : Type 0} → X → List X → X
head_or d [] = d
head_or d (x ∷ xs) = x

abbrev tail_of : {X : Type 0} → List X → List X
tail_of [] = []
tail_of (x ∷ xs) = xs

pub first_same : {X : Type 0} {x y : X} {xs ys : List X} → ◌≡◌ {A = List X} (x ∷ xs) (y ∷ ys) → x ≡ y
first_same {x = x} e = ap (head_or x) e

pub rest_same : {X : Type 0} {x y : X} {xs ys : List X} → ◌≡◌ {A = List X} (x ∷ xs) (y ∷ ys) → xs ≡ ys
rest_same e = ap tail_of e

pub not_empty : {X : Type 0} (x : X) (xs : List X) → ◌≡◌ {A = List X} (x ∷ xs) [] → ⊥
not_empty x xs e = let len : ◌≡◌ {A = ℕ} (length (x ∷ xs)) 0 = ap length e in omega (arith, len)

-- atoms whose names begin with other bytes differ
abbrev letter : Atom → ℕ
letter a = slice_index_or a.name 0 0

pub other_letter : (a b : Atom) (m n : ℕ) → letter a ≡ m → letter b ≡ n → (m ≡ n → ⊥) → a ≡ b → ⊥
other_letter a b m n am bn differ e = differ (sym am ∙ ap letter e ∙ bn)

-- of a list of one element it is the only one
pub only_one : {X : Type 0} (x q : X) → Contains (x ∷ []) q → x ≡ q
only_one x q among = elim (first_or_later x [] q among) [ inl e ↦ e | inr later ↦ absurd (nothing_contained q later) ]

-- ---- values

-- one constant for all variables
pub constant : Term
constant = t.Sym (codes "k")

abbrev pub constants : Values
constants env v = t.Sym (codes "k")

pub constants_ground : AreAllGround constants
unfolding is_proper_name reserved
constants_ground env v = is_ground-Sym (codes "k")

-- ---- walks

module _ (text : Text) (level : List ℕ → ℕ) (trace : Trace) (given : List ℕ) (s : Values) (t : Times) where
  -- the first entry left is true now, stands in order, and is passed
  pub record GoesOn (now : ℕ) (end place : Place) (e : Entry) (rest : List Entry) : Type 0 where
    pub is_true : IsTrueItem text level trace now (t e.env) (put_item (s e.env) e.item)
    pub placed : IsPlaced text (t e.env) place.before e.joins e.item
    pub walk : Walk text level trace given s t now end (passed t place e rest)

  -- where it is no call, the walk stops there or passes it
  pub stops_or_passes : {now : ℕ} {end place : Place} (e : Entry) (rest : List Entry) → place.left ≡ e ∷ rest → is_call text e.item ≡ false →
      Walk text level trace given s t now end place → (end ≡ place) ⊎ GoesOn now end place e rest
  stops_or_passes e rest left no_call stop = inl refl
  stops_or_passes {now} {end} {place} e rest left no_call (pass env nest joins item rest' left' no_call' is_true small placed walk) =
      let f : Entry = record { env = env; nest = nest; joins = joins; item = item } in
      let same : f ≡ e = first_same (sym left' ∙ left) in
      let more : rest' ≡ rest = rest_same (sym left' ∙ left) in
      inr record {
        is_true = subst (λ x. IsTrueItem text level trace now (t x.env) (put_item (s x.env) x.item)) same is_true;
        placed = subst (λ x. IsPlaced text (t x.env) place.before x.joins x.item) same placed;
        walk = subst (λ x. Walk text level trace given s t now end (passed t place x rest)) same
            (subst (λ xs. Walk text level trace given s t now end (passed t place f xs)) more walk);
      }
  stops_or_passes {now} {end} {place} e rest left no_call (replace f rest' a from to number clause left' item macro named values times small walk) =
      let same : f ≡ e = first_same (sym left' ∙ left) in
      let call : is_call text e.item ≡ true = subst (λ x. is_call text x.item ≡ true) same (subst (λ it. is_call text it ≡ true) (sym item) macro) in
      absurd (true_false call no_call)
    where
      true_false : {b : Bool} → b ≡ true → b ≡ false → ⊥
      true_false p q = cc

  -- a clause's body is put in the place of the first entry left
  pub record IsReplaced (now : ℕ) (end place : Place) (e : Entry) (rest : List Entry) (a : Atom) (from to : TimeVar) : Type 0 where
    pub number : ℕ
    pub clause : MacroClause
    pub named : numbered (clauses_of text a.name) number ≡ Some clause
    pub values : HasSameValues s (link_at place e a from.0 to.0 number clause)
    pub times : HasSameTimes t (link_at place e a from.0 to.0 number clause)
    pub walk : Walk text level trace given s t now end (replaced text place (link_at place e a from.0 to.0 number clause) rest)

  -- where it is a call, the walk stops there or replaces it
  pub stops_or_replaces : {now : ℕ} {end place : Place} (e : Entry) (rest : List Entry) → place.left ≡ e ∷ rest →
      (a : Atom) (from to : TimeVar) → e.item ≡ i.Span a from to → is_macro (kind_of text a.name) ≡ true →
      Walk text level trace given s t now end place → (end ≡ place) ⊎ IsReplaced now end place e rest a from to
  stops_or_replaces e rest left a from to is macro stop = inl refl
  stops_or_replaces {now} {end} {place} e rest left a from to is macro (pass env nest joins item rest' left' no_call' is_true small placed walk) =
      let f : Entry = record { env = env; nest = nest; joins = joins; item = item } in
      let same : f ≡ e = first_same (sym left' ∙ left) in
      let call : is_call text item ≡ true = subst (λ x. is_call text x ≡ true) (sym (ap (λ x. x.item) same ∙ is)) macro in
      absurd (true_false call no_call')
    where
      true_false : {b : Bool} → b ≡ true → b ≡ false → ⊥
      true_false p q = cc
  stops_or_replaces {now} {end} {place} e rest left a from to is macro (replace f rest' b from' to' number clause left' item macro' named values times small walk) =
      let same : f ≡ e = first_same (sym left' ∙ left) in
      let more : rest' ≡ rest = rest_same (sym left' ∙ left) in
      let items : i.Span b from' to' ≡ i.Span a from to = sym item ∙ ap (λ x. x.item) same ∙ is in
      let atoms : b ≡ a = ap (atom_in b) items in
      let froms : from' ≡ from = ap (from_in from') items in
      let tos : to' ≡ to = ap (to_in to') items in
      inr record {
        number = number;
        clause = clause;
        named = subst (λ x. numbered (clauses_of text x.name) number ≡ Some clause) atoms named;
        values = subst (λ l. HasSameValues s l) (λ j. link_at place (same j) (atoms j) (froms j).0 (tos j).0 number clause) values;
        times = subst (λ l. HasSameTimes t l) (λ j. link_at place (same j) (atoms j) (froms j).0 (tos j).0 number clause) times;
        walk = subst (λ p. Walk text level trace given s t now end p) (λ j. replaced text place (link_at place (same j) (atoms j) (froms j).0 (tos j).0 number clause) (more j)) walk;
      }
    where
      atom_in : Atom → Item → Atom
      atom_in d (i.Span a from to) = a
      atom_in d _ = d

      from_in : TimeVar → Item → TimeVar
      from_in d (i.Span a from to) = from
      from_in d _ = d

      to_in : TimeVar → Item → TimeVar
      to_in d (i.Span a from to) = to
      to_in d _ = d

-- where nothing is left the walk stops
pub stops : (text : Text) (level : List ℕ → ℕ) (trace : Trace) (given : List ℕ) (s : Values) (t : Times) {now : ℕ} {end place : Place} → place.left ≡ [] →
    Walk text level trace given s t now end place → end ≡ place
stops text level trace given s t none stop = refl
stops text level trace given s t none (pass env nest joins item rest' left' no_call' is_true small placed walk) = absurd (not_empty _ _ (sym left' ∙ none))
stops text level trace given s t none (replace f rest' b from' to' number clause left' item macro' named values times small walk) = absurd (not_empty _ _ (sym left' ∙ none))

-- ---- texts of one rule with one alternative

pub some_of : {X : Type 0} {x y : X} → Some x ≡ Some y → x ≡ y
some_of {x = x} e = ap (or_else x) e
  where
    or_else : {X : Type 0} → X → Option X → X
    or_else d (Some x) = x
    or_else d None = d

-- the only element of a list is the first
pub only_numbered : {X : Type 0} (x y : X) (n : ℕ) → numbered (x ∷ []) n ≡ Some y → (n ≡ 1) × (x ≡ y)
only_numbered x y zero e = absurd (cc)
only_numbered x y (suc zero) e = (refl, some_of e)
only_numbered x y (suc (suc n)) e = absurd (cc)

-- a constant is small
pub small_atom : (n : List ℕ) → IsSmallItem (i.Span (record { name = n; args = [] }) (record { 0 = 0 }) (record { 0 = 0 }))
small_atom n = let none : symbols_of_all [] ≡ 0 = refl in omega (arith, none)

-- a list of one element is sorted
pub one_sorted : {K : Type 0} (cmp : K → K → Ordering) (x : K) → IsStrictlySortedBy cmp (x ∷ [])
unfolding IsStrictlySortedBy
one_sorted cmp x = (tt, tt)
