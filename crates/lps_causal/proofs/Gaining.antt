-- What is gained, step by step.
use Rattle.std.proofs.Common.{ℕ, Bool, true, false, ◌≡◌, ◌+◌, ◌≤◌, ◌<◌, List, [], ◌∷◌, ◌++◌, map, take, length, get_or, sym, ap, ◌∙◌, subst, inl, inr}
use Rattle.std.specs.Prelude.{Contains, ◌⊎◌, ◌↔◌}
use Rattle.std.proofs.lemmas.List.{map-append}
use Rattle.std.proofs.lemmas.List.Elements.{Contains-push, Contains-push_cases, Contains-append_left, Contains-append_right, Contains-append_cases}
use Rattle.lps_terms.specs.declared.atom.Atom.{Atom}
use Rattle.lps_terms.specs.declared.term.Term.{Term}
use Rattle.lps_terms.specs.declared.values.Values.{Values}
use Rattle.lps_model.proofs.Elements.{nothing_contained}
use Rattle.lps_solve.proofs.Gaining.{take_more, take_whole}
use Rattle.lps_causal.specs.declared.given.Given.{Given}
use Rattle.lps_causal.specs.Given.{Adds, ByOne, Gains, IsOfRowAs, fluents_of}

pub Gains-none : (xs : List Atom) (P : Atom → Type 0) → ((a : Atom) → P a → ⊥) → Gains xs xs P
Gains-none xs P none = λ a. (λ h. inl h, λ e. elim e [ inl h ↦ h | inr h ↦ absurd (none a h) ])

pub Gains-same : (xs ys : List Atom) (P Q : Atom → Type 0) → ((a : Atom) → P a → Q a) → ((a : Atom) → Q a → P a) → Gains xs ys P → Gains xs ys Q
Gains-same xs ys P Q to from h = λ a. (
  λ g. elim ((h a).0 g) [ inl e ↦ inl e | inr e ↦ inr (to a e) ],
  λ g. (h a).1 (elim g [ inl e ↦ inl e | inr e ↦ inr (from a e) ]),
)

pub ByOne-none : {X : Type 0} (ys : List X) (P : X → Atom → Type 0) (xs : List Atom) → Gains xs xs (ByOne (take 0 ys) P)
ByOne-none ys P xs = Gains-none xs (ByOne (take 0 ys) P) (λ a h. absurd (nothing_contained h.0 h.1))

pub ByOne-more : {X : Type 0} (i : ℕ) (ys : List X) (y : X) (P : X → Atom → Type 0) (us bs cs : List Atom) → i < length ys → y ≡ get_or ys i y →
    Gains us bs (ByOne (take i ys) P) → Gains bs cs (P y) → Gains us cs (ByOne (take (i + 1) ys) P)
ByOne-more i ys y P us bs cs lt is g h =
    let e = take_more i ys y lt is in
    λ a. (
      λ inside. elim ((h a).0 inside) [
        | inl b ↦ elim ((g a).0 b) [ inl old ↦ inl old | inr one ↦ inr (one.0, subst (λ zs. Contains zs one.0) (sym e) (Contains-append_left (take i ys) (y ∷ []) one.0 one.1), one.2) ]
        | inr new ↦ inr (y, subst (λ zs. Contains zs y) (sym e) (Contains-push (take i ys) y), new)
      ],
      λ given. elim given [
        | inl old ↦ (h a).1 (inl ((g a).1 (inl old)))
        | inr one ↦ elim (Contains-push_cases (take i ys) y one.0 (subst (λ zs. Contains zs one.0) e one.1)) [
          | inl before ↦ (h a).1 (inl ((g a).1 (inr (one.0, before, one.2))))
          | inr here ↦ (h a).1 (inr (subst (λ z. P z a) (sym here) one.2))
        ]
      ],
    )

pub ByOne-all : {X : Type 0} (i : ℕ) (ys : List X) (P : X → Atom → Type 0) (us bs : List Atom) → length ys ≤ i → Gains us bs (ByOne (take i ys) P) → Gains us bs (ByOne ys P)
ByOne-all i ys P us bs le g = subst (λ zs. Gains us bs (ByOne zs P)) (take_whole i ys le) g

-- what some element of the one list gives, and then of the other
pub ByOne-both : {X : Type 0} (xs ys : List X) (P : X → Atom → Type 0) (us bs cs : List Atom) → Gains us bs (ByOne xs P) → Gains bs cs (ByOne ys P) → Gains us cs (ByOne (xs ++ ys) P)
ByOne-both xs ys P us bs cs g h = λ a. (
  λ inside. elim ((h a).0 inside) [
    | inl b ↦ elim ((g a).0 b) [ inl old ↦ inl old | inr one ↦ inr (one.0, Contains-append_left xs ys one.0 one.1, one.2) ]
    | inr one ↦ inr (one.0, Contains-append_right xs ys one.0 one.1, one.2)
  ],
  λ given. elim given [
    | inl old ↦ (h a).1 (inl ((g a).1 (inl old)))
    | inr one ↦ elim (Contains-append_cases xs ys one.0 one.1) [
      | inl first ↦ (h a).1 (inl ((g a).1 (inr (one.0, first, one.2))))
      | inr second ↦ (h a).1 (inr (one.0, second, one.2))
    ]
  ],
)

-- what is gained on top of nothing is all that there is
pub all_gained : (xs : List Atom) (P : Atom → Type 0) → Gains [] xs P → (a : Atom) → Contains xs a ↔ P a
all_gained xs P g a = (λ h. elim ((g a).0 h) [ inl none ↦ absurd (nothing_contained a none) | inr new ↦ new ], λ h. (g a).1 (inr h))

-- ---- one fluent more

push_gains : (atoms : List Atom) (k : Atom) → Gains atoms (atoms ++ k ∷ []) (λ a. a ≡ k)
push_gains atoms k = λ a. (
  λ h. elim (Contains-push_cases atoms k a h) [ inl old ↦ inl old | inr same ↦ inr (sym same) ],
  λ h. elim h [ inl old ↦ Contains-append_left atoms (k ∷ []) a old | inr same ↦ subst (Contains (atoms ++ k ∷ [])) (sym same) (Contains-push atoms k) ],
)

-- a fluent put in its own list, where a law of one kind gives it
pushed : (kind initiates : Bool) (old new : List Atom) (fluent : Atom) → kind ≡ initiates → new ≡ old ++ fluent ∷ [] → Gains old new (λ a. (kind ≡ initiates) × (a ≡ fluent))
pushed kind initiates old new fluent same put =
    subst (λ (xs : List Atom). Gains old xs (λ a. (kind ≡ initiates) × (a ≡ fluent))) (sym put)
    (Gains-same old (old ++ fluent ∷ []) (λ a. a ≡ fluent) (λ a. (kind ≡ initiates) × (a ≡ fluent)) (λ a e. (same, e)) (λ a h. h.1) (push_gains old fluent))

-- the other list stays
stayed : (kind initiates : Bool) (old new : List Atom) (fluent : Atom) → (kind ≡ initiates → ⊥) → new ≡ old → Gains old new (λ a. (kind ≡ initiates) × (a ≡ fluent))
stayed kind initiates old new fluent other kept =
    subst (λ (xs : List Atom). Gains old xs (λ a. (kind ≡ initiates) × (a ≡ fluent))) (sym kept) (Gains-none old (λ a. (kind ≡ initiates) × (a ≡ fluent)) (λ a h. other h.0))

pub initiated_added : (old new : Given) (fluent : Atom) → new.initiated.items ≡ old.initiated.items ++ fluent ∷ [] → new.terminated.items ≡ old.terminated.items →
    (kind : Bool) → kind ≡ true → Adds old new (λ initiates a. (kind ≡ initiates) × (a ≡ fluent))
initiated_added old new fluent put kept kind is true = pushed kind true old.initiated.items new.initiated.items fluent is put
initiated_added old new fluent put kept kind is false = stayed kind false old.terminated.items new.terminated.items fluent (λ e. (let no : true ≡ false = sym is ∙ e in cc)) kept

pub terminated_added : (old new : Given) (fluent : Atom) → new.terminated.items ≡ old.terminated.items ++ fluent ∷ [] → new.initiated.items ≡ old.initiated.items →
    (kind : Bool) → kind ≡ false → Adds old new (λ initiates a. (kind ≡ initiates) × (a ≡ fluent))
terminated_added old new fluent put kept kind is true = stayed kind true old.initiated.items new.initiated.items fluent (λ e. (let no : false ≡ true = sym is ∙ e in cc)) kept
terminated_added old new fluent put kept kind is false = pushed kind false old.terminated.items new.terminated.items fluent is put

-- nothing is given where both lists are empty
pub none_given : (given : Given) → given.initiated.items ≡ [] → given.terminated.items ≡ [] → (initiates : Bool) → fluents_of initiates given ≡ []
none_given given one other true = one
none_given given one other false = other

-- ---- rows

abbrev rows_of : List Values → List (List Term)
rows_of rows = map (λ (v : Values). v.0) rows

-- the fluent is there, or its arguments are a row that is left
abbrev pub IsThereOrLeft : Given → Bool → List ℕ → List Values → Bool → Atom → Type 0
IsThereOrLeft given kind name rows initiates a = Contains (fluents_of initiates given) a ⊎ IsOfRowAs kind name (rows_of rows) initiates a

-- the last row that was left is added
pub row_added : (old new : Given) (kind : Bool) (name : List ℕ) (rows left : List Values) (row : Values) → rows ≡ left ++ row ∷ [] →
    Adds old new (λ initiates a. (kind ≡ initiates) × (a ≡ record { name = name; args = row.0 })) →
    (initiates : Bool) (a : Atom) → IsThereOrLeft new kind name left initiates a ↔ IsThereOrLeft old kind name rows initiates a
row_added old new kind name rows left row e g initiates a =
    let split : rows_of rows ≡ rows_of left ++ row.0 ∷ [] = ap rows_of e ∙ map-append (λ (v : Values). v.0) left (row ∷ []) in (
      λ h. elim h [
        | inl there ↦ elim ((g initiates a).0 there) [
          | inl before ↦ inl before
          | inr here ↦ inr (
            here.0,
            ap (λ (b : Atom). b.name) here.1,
            subst (λ (xs : List (List Term)). Contains xs a.args) (sym split) (subst (Contains (rows_of left ++ row.0 ∷ [])) (sym (ap (λ (b : Atom). b.args) here.1)) (Contains-push (rows_of left) row.0)),
          )
        ]
        | inr one ↦ inr (one.0, one.1, subst (λ (xs : List (List Term)). Contains xs a.args) (sym split) (Contains-append_left (rows_of left) (row.0 ∷ []) a.args one.2))
      ],
      λ h. elim h [
        | inl before ↦ inl ((g initiates a).1 (inl before))
        | inr one ↦ elim (Contains-push_cases (rows_of left) row.0 a.args (subst (λ (xs : List (List Term)). Contains xs a.args) split one.2)) [
          | inl later ↦ inr (one.0, one.1, later)
          | inr same ↦ inl ((g initiates a).1 (inr (one.0, λ i. record { name = one.1 i; args = sym same i })))
        ]
      ],
    )

-- where no row is left all are added
pub rows_all : (old new : Given) (kind : Bool) (name : List ℕ) (rows left : List Values) → left ≡ [] →
    ((initiates : Bool) (a : Atom) → IsThereOrLeft new kind name left initiates a ↔ IsThereOrLeft old kind name rows initiates a) → Adds old new (IsOfRowAs kind name (rows_of rows))
rows_all old new kind name rows left none same initiates a = (
  λ h. (same initiates a).0 (inl h),
  λ h. elim ((same initiates a).1 h) [ inl there ↦ there | inr one ↦ absurd (nothing_contained a.args (subst (λ (vs : List Values). Contains (rows_of vs) a.args) none one.2)) ],
)
