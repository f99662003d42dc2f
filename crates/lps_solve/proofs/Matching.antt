-- A goal and a clause whose head has an instance in common with it: the index finds the clause by the goal.
use Rattle.std.proofs.Common.{ℕ, Bool, true, false, ◌≡◌, ◌<◌, ◌↔◌, List, [], ◌∷◌, ◌++◌, map, length, refl, sym, ap, ◌∙◌, subst, inl, inr}
use Rattle.std.specs.Prelude.{◌&&◌, ◌||◌, IsTrue, Some, None, slice_get, if◌then◌else◌, Contains}
use Rattle.std.specs.List.{AllByRecursion}
use Rattle.std.specs.Str.{bytes_eq}
use Rattle.std.specs.Cmp.Lexicographic.{bytes_decides}
use Rattle.std.proofs.lemmas.Option.{slice_get-get_or, slice_get_cases, get_or_from_slice_get}
use Rattle.lps_terms.specs.declared.atom.Atom.{Atom}
use Rattle.lps_terms.specs.declared.term.Term.{Term}
use Rattle.lps_terms.specs.Forms.{term_ind}
use Rattle.lps_terms.specs.OrderLaws.{term_eq-decides}
use Rattle.lps_terms.specs.Put.{put}
use Rattle.lps_model.specs.Clauses.{Clause}
use Rattle.lps_model.specs.Variables.{has_variable, have_variables, variable_in_app, variable_in_var}
use Rattle.lps_model.specs.VariableLists.{args_vars, term_vars}
use Rattle.lps_index.specs.Matching.{agree, closed_first, may_match}
use Rattle.lps_index.specs.Spoken.{AreFound, IsFound, of_clause}
use Rattle.lps_solve.specs.Table.{clause_at, IsPlaceFor}
use Rattle.lps_solve.proofs.Closed.{closed_stays}
use Rattle.lps_solve.proofs.Vars.{vars_of-Int, vars_of-Sym, vars_of-App}

-- ---- terms without variables

abbrev Empty : Term → Type 0
Empty x = has_variable x ≡ false → term_vars x ≡ []

neither : (a b : Bool) → (a || b) ≡ false → (a ≡ false) × (b ≡ false)
neither true b h = absurd (cc)
neither false b h = (refl, h)

all_empty : (xs : List Term) → AllByRecursion Empty xs → have_variables xs ≡ false → args_vars xs ≡ []
all_empty [] is none = refl
all_empty (x ∷ xs) is none =
    let both = neither (has_variable x) (have_variables xs) none in
    λ i. is.0 both.0 i ++ all_empty xs is.1 both.1 i

-- a term that holds no variable has none
no_variable : (x : Term) → Empty x
no_variable = term_ind Empty (λ z none. vars_of-Int z) (λ n none. vars_of-Sym n)
    (λ n ts is none. vars_of-App n ts ∙ all_empty ts is (sym (variable_in_app n ts) ∙ none))
    (λ v none. absurd (let one : true ≡ false = sym (variable_in_var v) ∙ none in cc))

stays : (s : ℕ → Term) (x : Term) → has_variable x ≡ false → put s x ≡ x
stays s x none = closed_stays s x (no_variable x none)

-- ---- instances in common

abbrev head_of : Term → List Term → Term
head_of d [] = d
head_of d (x ∷ xs) = x

first_by : (s t : ℕ → Term) (x y : Term) (a b : Bool) → has_variable x ≡ a → has_variable y ≡ b → put s x ≡ put t y → agree (if a then None else Some x) (if b then None else Some y) ≡ true
first_by s t x y true b e f same = refl
first_by s t x y false true e f same = refl
first_by s t x y false false e f same = (term_eq-decides y x).1 (sym (stays t y f) ∙ sym same ∙ stays s x e)

firsts_agree : (s t : ℕ → Term) (xs ys : List Term) → map (put s) xs ≡ map (put t) ys → agree (closed_first xs) (closed_first ys) ≡ true
firsts_agree s t [] ys same = refl
firsts_agree s t (x ∷ xs) [] same = absurd (cc)
firsts_agree s t (x ∷ xs) (y ∷ ys) same = first_by s t x y (has_variable x) (has_variable y) refl refl (ap (head_of x) same)

both_are : (a b : Bool) → a ≡ true → b ≡ true → IsTrue (a && b)
both_are a b e f = subst IsTrue (λ i. sym e i && sym f i) refl

-- atoms of one name with an instance of their arguments in common may match
pub instances_match : (s t : ℕ → Term) (a b : Atom) → a.name ≡ b.name → map (put s) a.args ≡ map (put t) b.args → IsTrue (may_match a b)
instances_match s t a b named same = both_are (bytes_eq a.name b.name) (agree (closed_first a.args) (closed_first b.args)) ((bytes_decides a.name b.name).1 named) (firsts_agree s t a.args b.args same)

first_is : (a b : Bool) → IsTrue (a && b) → a ≡ true
first_is true b h = refl
first_is false b h = absurd (cc)

-- what may match has one name
pub matching_named : (a b : Atom) → IsTrue (may_match a b) → a.name ≡ b.name
matching_named a b h = (bytes_decides a.name b.name).0 (first_is (bytes_eq a.name b.name) (agree (closed_first a.args) (closed_first b.args)) h)

-- ---- the places that the index finds

alone : (a : Bool) → IsTrue (a || false) → IsTrue a
alone true h = h
alone false h = h

with_none : (a : Bool) → IsTrue a → IsTrue (a || false)
with_none true h = h
with_none false h = h

abbrev no_clause : Clause
no_clause = record { head = record { name = []; args = [] }; conds = [] }

within : {X : Type 0} (xs : List X) (i : ℕ) (x : X) → slice_get xs i ≡ Some x → i < length xs
within xs i x e = elim ((slice_get_cases xs i).1) [ inl there ↦ there.1 | inr past ↦ absurd (let none = past.1 in cc (e, none)) ]

module _ (program : List Clause) (goal : Atom) (i : ℕ) where
  to_place : IsFound of_clause program goal i → IsPlaceFor program goal i
  to_place h = (
    within program i h.statement h.at,
    subst (λ (k : Clause). IsTrue (may_match goal k.head)) (sym (get_or_from_slice_get program i h.statement no_clause h.at)) (alone (may_match goal h.statement.head) h.matching),
  )

  from_place : IsPlaceFor program goal i → IsFound of_clause program goal i
  from_place h = record { statement = clause_at program i; at = slice_get-get_or program i no_clause h.0; matching = with_none (may_match goal (clause_at program i).head) h.1 }

pub places_found : (program : List Clause) (goal : Atom) (places : List ℕ) → AreFound of_clause program goal places → (i : ℕ) → Contains places i ↔ IsPlaceFor program goal i
places_found program goal places are i = (λ h. to_place program goal i ((are i).0 h), λ h. (are i).1 (from_place program goal i h))
