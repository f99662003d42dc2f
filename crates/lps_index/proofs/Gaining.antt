-- A table in which a place is found by an atom besides.
use Rattle.std.proofs.Common.{ℕ, Bool, true, false, ◌≡◌, ◌+◌, ◌↔◌, List, [], ◌∷◌, ◌++◌, refl, sym, ap, ◌∙◌, subst, inl, inr}
use Rattle.std.specs.Prelude.{◌⊎◌, ◌&&◌, ◌||◌, IsTrue, Option, Some, None, Contains, if◌then◌else◌}
use Rattle.std.specs.BTreeMap.{BTreeMap}
use Rattle.std.specs.Str.{bytes_eq}
use Rattle.std.specs.declared.alloc.Global.{Global}
use Rattle.std.specs.declared.vec.Vec.{Vec}
use Rattle.std.proofs.lemmas.List.Elements.{Contains-append_left, Contains-append_right, Contains-append_cases}
use Rattle.lps_terms.specs.declared.atom.Atom.{Atom}
use Rattle.lps_terms.specs.declared.term.Term.{Term}
use Rattle.lps_terms.specs.Order.{term_eq}
use Rattle.lps_index.specs.Matching.{agree, closed_first}
use Rattle.lps_index.specs.Table.{found_by, found_in, IsCounted, IsNoted, IsNotedIn, IsWithBoth, IsWithClosed, IsWithName, IsWithOther, places_at, places_of, with_place}
use Rattle.lps_index.specs.declared.table.Table.{Table}
use Rattle.lps_index.proofs.OnePlace.{one_more_where}

-- ---- lists

contains_both : (xs ys : List ℕ) (i : ℕ) → Contains (xs ++ ys) i ↔ (Contains xs i ⊎ Contains ys i)
contains_both xs ys i = (
  λ h. Contains-append_cases xs ys i h,
  λ h. elim h [ inl a ↦ Contains-append_left xs ys i a | inr b ↦ Contains-append_right xs ys i b ],
)

abbrev Gains : List ℕ → List ℕ → ℕ → Bool → Type 0
Gains old new place here = (i : ℕ) → Contains new i ↔ (Contains old i ⊎ ((i ≡ place) × IsTrue here))

gains_left : (xs new ys : List ℕ) (place : ℕ) (here : Bool) → Gains xs new place here → Gains (xs ++ ys) (new ++ ys) place here
gains_left xs new ys place here g = λ i. (
  λ h. elim ((contains_both new ys i).0 h) [
    | inl a ↦ elim ((g i).0 a) [ inl old ↦ inl ((contains_both xs ys i).1 (inl old)) | inr one ↦ inr one ]
    | inr b ↦ inl ((contains_both xs ys i).1 (inr b))
  ],
  λ h. elim h [
    | inl old ↦ elim ((contains_both xs ys i).0 old) [ inl a ↦ (contains_both new ys i).1 (inl ((g i).1 (inl a))) | inr b ↦ (contains_both new ys i).1 (inr b) ]
    | inr one ↦ (contains_both new ys i).1 (inl ((g i).1 (inr one)))
  ],
)

gains_right : (xs ys new : List ℕ) (place : ℕ) (here : Bool) → Gains ys new place here → Gains (xs ++ ys) (xs ++ new) place here
gains_right xs ys new place here g = λ i. (
  λ h. elim ((contains_both xs new i).0 h) [
    | inl a ↦ inl ((contains_both xs ys i).1 (inl a))
    | inr b ↦ elim ((g i).0 b) [ inl old ↦ inl ((contains_both xs ys i).1 (inr old)) | inr one ↦ inr one ]
  ],
  λ h. elim h [
    | inl old ↦ elim ((contains_both xs ys i).0 old) [ inl a ↦ (contains_both xs new i).1 (inl a) | inr b ↦ (contains_both xs new i).1 (inr ((g i).1 (inl b))) ]
    | inr one ↦ (contains_both xs new i).1 (inr ((g i).1 (inr one)))
  ],
)

gains_for : (old new : List ℕ) (place : ℕ) (here there : Bool) → here ≡ there → Gains old new place here → Gains old new place there
gains_for old new place here there e = subst (Gains old new place) e

and_true : (a : Bool) → a ≡ (a && true)
and_true true = refl
and_true false = refl

or_false : (a : Bool) → a ≡ (a || false)
or_false true = refl
or_false false = refl

-- ---- tables

named_gains : (name : List ℕ) (place : ℕ) (old new : List (List ℕ × Vec ℕ Global)) → IsWithName name place old new → (other : List ℕ) → Gains (places_of old other) (places_of new other) place (bytes_eq other name)
named_gains name place old new is other = λ i. subst (λ (xs : List ℕ). Contains xs i ↔ (Contains (places_of old other) i ⊎ ((i ≡ place) × IsTrue (bytes_eq other name)))) (sym (is other)) (one_more_where (places_of old other) place i (bytes_eq other name))

where_both : (places : List ℕ) (place : ℕ) (a b : Bool) → Gains places (if a then (if b then with_place places place else places) else places) place (a && b)
where_both places place true b = λ i. one_more_where places place i b
where_both places place false b = λ i. (λ h. inl h, λ h. elim h [ inl old ↦ old | inr new ↦ absurd (cc (new.1)) ])

both_gains : (name : List ℕ) (term : Term) (place : ℕ) (old new : List (List ℕ × BTreeMap Term (Vec ℕ Global))) → IsWithBoth name term place old new → (other : List ℕ) (x : Term) →
    Gains (places_at old other x) (places_at new other x) place (bytes_eq other name && term_eq term x)
both_gains name term place old new is other x = subst (λ (xs : List ℕ). Gains (places_at old other x) xs place (bytes_eq other name && term_eq term x)) (sym (is other x)) (where_both (places_at old other x) place (bytes_eq other name) (term_eq term x))

module _ (old new : Table) (place : ℕ) (atom : Atom) (all : IsWithName atom.name place old.all.entries new.all.entries) where
  abbrev GainsFor : List ℕ → Option Term → Type 0
  GainsFor name first = Gains (found_by old name first) (found_by new name first) place ((bytes_eq name atom.name && agree first (closed_first atom.args)) || false)

  by_name : (name : List ℕ) → GainsFor name None
  by_name name = gains_for (places_of old.all.entries name) (places_of new.all.entries name) place (bytes_eq name atom.name) ((bytes_eq name atom.name && true) || false)
      (and_true (bytes_eq name atom.name) ∙ or_false (bytes_eq name atom.name && true)) (named_gains atom.name place old.all.entries new.all.entries all name)

  -- where the first argument of the atom has no variables
  pub noted_closed : (y : Term) → closed_first atom.args ≡ Some y → IsWithBoth atom.name y place old.closed.entries new.closed.entries → new.others.entries ≡ old.others.entries → IsNoted old new place (atom ∷ [])
  noted_closed y is both same = λ asked. by asked.name (closed_first asked.args)
    where
      by : (name : List ℕ) (first : Option Term) → GainsFor name first
      by name None = by_name name
      by name (Some x) =
          gains_for (places_at old.closed.entries name x ++ places_of old.others.entries name) (places_at new.closed.entries name x ++ places_of new.others.entries name) place (bytes_eq name atom.name && term_eq y x)
          ((bytes_eq name atom.name && agree (Some x) (closed_first atom.args)) || false)
          (ap (λ (s : Option Term). bytes_eq name atom.name && agree (Some x) s) (sym is) ∙ or_false (bytes_eq name atom.name && agree (Some x) (closed_first atom.args)))
          (subst (λ (es : List (List ℕ × Vec ℕ Global)). Gains (places_at old.closed.entries name x ++ places_of old.others.entries name) (places_at new.closed.entries name x ++ places_of es name) place (bytes_eq name atom.name && term_eq y x)) (sym same)
          (gains_left (places_at old.closed.entries name x) (places_at new.closed.entries name x) (places_of old.others.entries name) place (bytes_eq name atom.name && term_eq y x)
          (both_gains atom.name y place old.closed.entries new.closed.entries both name x)))

  -- where it has variables, or there is none
  pub noted_other : closed_first atom.args ≡ None → IsWithName atom.name place old.others.entries new.others.entries → new.closed.entries ≡ old.closed.entries → IsNoted old new place (atom ∷ [])
  noted_other is with same = λ asked. by asked.name (closed_first asked.args)
    where
      by : (name : List ℕ) (first : Option Term) → GainsFor name first
      by name None = by_name name
      by name (Some x) =
          gains_for (places_at old.closed.entries name x ++ places_of old.others.entries name) (places_at new.closed.entries name x ++ places_of new.others.entries name) place (bytes_eq name atom.name)
          ((bytes_eq name atom.name && agree (Some x) (closed_first atom.args)) || false)
          (and_true (bytes_eq name atom.name) ∙ ap (λ (s : Option Term). bytes_eq name atom.name && agree (Some x) s) (sym is) ∙ or_false (bytes_eq name atom.name && agree (Some x) (closed_first atom.args)))
          (subst (λ (es : List (List ℕ × BTreeMap Term (Vec ℕ Global))). Gains (places_at old.closed.entries name x ++ places_of old.others.entries name) (places_at es name x ++ places_of new.others.entries name) place (bytes_eq name atom.name)) (sym same)
          (gains_right (places_at old.closed.entries name x) (places_of old.others.entries name) (places_of new.others.entries name) place (bytes_eq name atom.name)
          (named_gains atom.name place old.others.entries new.others.entries with name)))

-- ---- whole tables

pub closed_notes : (old new : Table) (place : ℕ) (atom : Atom) (y : Term) → closed_first atom.args ≡ Some y → IsWithClosed atom.name y place old new → IsNotedIn old new place (atom ∷ [])
closed_notes old new place atom y is with = record { noted = noted_closed old new place atom with.all y is with.closed with.others; count = with.count }

pub other_notes : (old new : Table) (place : ℕ) (atom : Atom) → closed_first atom.args ≡ None → IsWithOther atom.name place old new → IsNotedIn old new place (atom ∷ [])
other_notes old new place atom is with = record { noted = noted_other old new place atom with.all is with.others with.closed; count = with.count }

-- what is found depends on the tables alone
pub counted_more : (old new : Table) → new.count ≡ old.count + 1 → new.all.entries ≡ old.all.entries → new.others.entries ≡ old.others.entries → new.closed.entries ≡ old.closed.entries → IsCounted old new
counted_more old new count all others closed = record { count = count; same = λ asked. by asked.name (closed_first asked.args) }
  where
    by : (name : List ℕ) (first : Option Term) → found_by new name first ≡ found_by old name first
    by name None = ap (λ (es : List (List ℕ × Vec ℕ Global)). places_of es name) all
    by name (Some x) = λ i. places_at (closed i) name x ++ places_of (others i) name

pub found_is : (table : Table) (asked : Atom) (first : Option Term) → closed_first asked.args ≡ first → found_by table asked.name first ≡ found_in table asked
found_is table asked first e = ap (found_by table asked.name) (sym e)
