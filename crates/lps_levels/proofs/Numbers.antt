-- The names that have levels, and their numbers.
use Rattle.std.proofs.Common.{◌≡◌, ◌⊎◌, ℕ, ◌+◌, ◌<◌, ◌≤◌, suc, zero, Bool, true, false, cond, nat_lt, ◌&&◌, ◌||◌, List, [], ◌∷◌, ◌++◌, flat_map, length, get_or, take, Some, None, position, refl, sym, ap, subst, ◌∙◌, arith, inl, inr}
use Rattle.std.specs.List.{list_any, position_or_len}
use Rattle.std.specs.Str.{bytes_eq}
use Rattle.std.proofs.lemmas.Bool.{cases_lt, ltb-false, ltb-true}
use Rattle.std.proofs.lemmas.List.{append-nil, append_assoc, get_or_append_left, get_or_push, length_push, take_more}
use Rattle.std.proofs.lemmas.List.Concat.{flat_map-append}
use Rattle.lps_terms.specs.declared.statement.Statement.{Statement}
use Rattle.lps_model.specs.Program.{declared_in}
use Rattle.std.proofs.lemmas.List.Folds.{list_any-append, list_any_at, list_any_none}
use Rattle.std.proofs.lemmas.List.Sums.{fails_before_first, passes_at_first}
use Rattle.std.proofs.lemmas.Slice.Eq.{bytes_eq-Decides}
use Rattle.lps_terms.specs.declared.decl.Decl.{Decl}
use Rattle.lps_model.specs.Calls.{is_called}
use Rattle.lps_model.specs.Declarations.{decl_among, kind_among, kind_in}
use Rattle.lps_levels.specs.Graphs.{AreApart, name_at}
use Rattle.lps_levels.specs.Names.{AreCalledAmong, AreCalledNames, with_name}

-- ---- a name among names

same_name : (one other : List ℕ) → bytes_eq one other ≡ true → one ≡ other
same_name one other = (bytes_eq-Decides one other).0

pub itself : (name : List ℕ) → bytes_eq name name ≡ true
itself name = (bytes_eq-Decides name name).1 refl

pub turned : (one other : List ℕ) → bytes_eq one other ≡ bytes_eq other one
turned one other = by (bytes_eq one other) refl (bytes_eq other one) refl
  where
    by : (a : Bool) → bytes_eq one other ≡ a → (b : Bool) → bytes_eq other one ≡ b → a ≡ b
    by true e true f = refl
    by false e false f = refl
    by true e false f = sym (itself other) ∙ ap (λ n. bytes_eq other n) (sym (same_name one other e)) ∙ f
    by false e true f = sym e ∙ ap (λ n. bytes_eq one n) (same_name other one f) ∙ itself one

pub is_among_at : (names : List (List ℕ)) (number : ℕ) → number < length names → list_any (bytes_eq (name_at names number)) names ≡ true
is_among_at [] number lt = absurd (omega (arith, lt))
is_among_at (name ∷ names) zero lt = ap (λ b. b || list_any (bytes_eq name) names) (itself name)
is_among_at (name ∷ names) (suc number) lt = by (bytes_eq (name_at names number) name) (is_among_at names number (omega (arith, lt)))
  where
    by : (b : Bool) → list_any (bytes_eq (name_at names number)) names ≡ true → (b || list_any (bytes_eq (name_at names number)) names) ≡ true
    by true e = refl
    by false e = e

-- ---- one name more

pub none_apart : AreApart []
none_apart one other lt lt' e = absurd (omega (arith, lt))

apart_more : (names : List (List ℕ)) (name : List ℕ) → AreApart names → list_any (bytes_eq name) names ≡ false → AreApart (names ++ name ∷ [])
apart_more names name apart new one other lt lt' e = by (cases_lt one (length names)) (cases_lt other (length names))
  where
    last : (number : ℕ) → length names ≤ number → number < length (names ++ name ∷ []) → length names ≡ number
    last number high low = omega (arith, high, low, length_push names name)

    at_last : (number : ℕ) → length names ≡ number → name_at (names ++ name ∷ []) number ≡ name
    at_last number long = get_or_push names name [] number long

    before : (number : ℕ) → number < length names → name_at (names ++ name ∷ []) number ≡ name_at names number
    before number low = get_or_append_left names (name ∷ []) [] number low

    not_name : (number : ℕ) → number < length names → name_at names number ≡ name → ⊥
    not_name number low same = clash (sym (ap (λ n. list_any (bytes_eq n) names) same) ∙ is_among_at names number low) new
      where
        clash : list_any (bytes_eq name) names ≡ true → list_any (bytes_eq name) names ≡ false → ⊥
        clash a b = true_false (sym a ∙ b)
          where
            true_false : true ≡ false → ⊥
            true_false f = absurd (cc)

    by : (one < length names) ⊎ (length names ≤ one) → (other < length names) ⊎ (length names ≤ other) → one ≡ other
    by (inl low) (inl low') = apart one other low low' (sym (before one low) ∙ e ∙ before other low')
    by (inl low) (inr high) = absurd (not_name one low (sym (before one low) ∙ e ∙ at_last other (last other high lt')))
    by (inr high) (inl low) = absurd (not_name other low (sym (before other low) ∙ sym e ∙ at_last one (last one high lt)))
    by (inr high) (inr high') = sym (last one high lt) ∙ last other high' lt'

pub with_name_apart : (names : List (List ℕ)) (name : List ℕ) → AreApart names → AreApart (with_name names name)
with_name_apart names name apart = by (list_any (bytes_eq name) names) refl
  where
    by : (b : Bool) → list_any (bytes_eq name) names ≡ b → AreApart (cond b names (names ++ name ∷ []))
    by true e = apart
    by false e = apart_more names name apart e

or_false : (a : Bool) → (a || false) ≡ a
or_false true = refl
or_false false = refl

or_swapped : (a b : Bool) → (a || b) ≡ (b || a)
or_swapped true true = refl
or_swapped true false = refl
or_swapped false true = refl
or_swapped false false = refl

pub with_name_members : (names : List (List ℕ)) (added name : List ℕ) → list_any (bytes_eq name) (with_name names added) ≡ (list_any (bytes_eq name) names || bytes_eq added name)
with_name_members names added name = by (list_any (bytes_eq added) names) refl
  where
    there : (b : Bool) → bytes_eq added name ≡ b → list_any (bytes_eq added) names ≡ true → list_any (bytes_eq name) names ≡ (list_any (bytes_eq name) names || b)
    there false e among = sym (or_false (list_any (bytes_eq name) names))
    there true e among =
        let has : list_any (bytes_eq name) names ≡ true = ap (λ n. list_any (bytes_eq n) names) (sym (same_name added name e)) ∙ among in
        has ∙ sym (ap (λ b. b || true) has)

    by : (b : Bool) → list_any (bytes_eq added) names ≡ b → list_any (bytes_eq name) (cond b names (names ++ added ∷ [])) ≡ (list_any (bytes_eq name) names || bytes_eq added name)
    by true e = there (bytes_eq added name) refl e
    by false e = list_any-append (bytes_eq name) names (added ∷ []) ∙ ap (λ b. list_any (bytes_eq name) names || b) (or_false (bytes_eq name added) ∙ turned name added)

-- ---- one declaration more

seen_more : (decls seen : List Decl) (decl : Decl) (name : List ℕ) → list_any (λ (d : Decl). bytes_eq d.name name) (seen ++ decl ∷ []) ≡ (list_any (λ (d : Decl). bytes_eq d.name name) seen || bytes_eq decl.name name)
seen_more decls seen decl name = list_any-append (λ (d : Decl). bytes_eq d.name name) seen (decl ∷ []) ∙ ap (λ b. list_any (λ (d : Decl). bytes_eq d.name name) seen || b) (or_false (bytes_eq decl.name name))

and_or : (a b c : Bool) → ((a || b) && c) ≡ ((a && c) || (b && c))
and_or true true true = refl
and_or true true false = refl
and_or true false true = refl
and_or true false false = refl
and_or false true true = refl
and_or false true false = refl
and_or false false true = refl
and_or false false false = refl

and_false : (a : Bool) → (a && false) ≡ false
and_false true = refl
and_false false = refl

and_true : (a : Bool) → (a && true) ≡ a
and_true true = refl
and_true false = refl

-- the called name of a declaration, where the declaration has a name
called_of : (decls : List Decl) (decl : Decl) (name : List ℕ) (called : Bool) → is_called (kind_among decls decl.name) ≡ called → (bytes_eq decl.name name && is_called (kind_among decls name)) ≡ (bytes_eq decl.name name && called)
called_of decls decl name called e = by (bytes_eq decl.name name) refl
  where
    by : (b : Bool) → bytes_eq decl.name name ≡ b → (b && is_called (kind_among decls name)) ≡ (b && called)
    by true same = ap (λ n. is_called (kind_among decls n)) (sym (same_name decl.name name same)) ∙ e
    by false same = refl

pub called_more : (decls seen : List Decl) (decl : Decl) (names new : List (List ℕ)) → new ≡ with_name names decl.name → is_called (kind_among decls decl.name) ≡ true → AreCalledAmong decls seen names → AreCalledAmong decls (seen ++ decl ∷ []) new
called_more decls seen decl names new is called h = subst (AreCalledAmong decls (seen ++ decl ∷ [])) (sym is) (record {
  apart = with_name_apart names decl.name h.apart;
  members = λ name. with_name_members names decl.name name
      ∙ ap (λ b. b || bytes_eq decl.name name) (h.members name)
      ∙ ap (λ b. (list_any (λ (d : Decl). bytes_eq d.name name) seen && is_called (kind_among decls name)) || b) (sym (called_of decls decl name true called ∙ and_true (bytes_eq decl.name name)))
      ∙ sym (and_or (list_any (λ (d : Decl). bytes_eq d.name name) seen) (bytes_eq decl.name name) (is_called (kind_among decls name)))
      ∙ ap (λ b. b && is_called (kind_among decls name)) (sym (seen_more decls seen decl name));
})

pub called_same : (decls seen : List Decl) (decl : Decl) (names : List (List ℕ)) → is_called (kind_among decls decl.name) ≡ false → AreCalledAmong decls seen names → AreCalledAmong decls (seen ++ decl ∷ []) names
called_same decls seen decl names called h = record {
  apart = h.apart;
  members = λ name. h.members name
      ∙ sym (or_false (list_any (λ (d : Decl). bytes_eq d.name name) seen && is_called (kind_among decls name)))
      ∙ ap (λ b. (list_any (λ (d : Decl). bytes_eq d.name name) seen && is_called (kind_among decls name)) || b) (sym (called_of decls decl name false called ∙ and_false (bytes_eq decl.name name)))
      ∙ sym (and_or (list_any (λ (d : Decl). bytes_eq d.name name) seen) (bytes_eq decl.name name) (is_called (kind_among decls name)))
      ∙ ap (λ b. b && is_called (kind_among decls name)) (sym (seen_more decls seen decl name));
}

pub called_none : (decls : List Decl) → AreCalledAmong decls [] []
called_none decls = record { apart = none_apart; members = λ name. refl }

-- ---- all declarations

declared_is_called : (all decls : List Decl) (name : List ℕ) (called : Bool) → is_called (kind_in (decl_among decls name)) ≡ called → (list_any (λ (d : Decl). bytes_eq d.name name) decls && called) ≡ called
declared_is_called all [] name called e = e
declared_is_called all (d ∷ ds) name called e = by (bytes_eq d.name name) e (declared_is_called all ds name called)
  where
    by : (b : Bool) → is_called (kind_in (cond b (Some d) (decl_among ds name))) ≡ called → (is_called (kind_in (decl_among ds name)) ≡ called → (list_any (λ (d : Decl). bytes_eq d.name name) ds && called) ≡ called)
        → ((b || list_any (λ (d : Decl). bytes_eq d.name name) ds) && called) ≡ called
    by true e' later = refl
    by false e' later = later e'

pub called_all : (decls : List Decl) (names : List (List ℕ)) → AreCalledAmong decls decls names → AreCalledNames decls names
called_all decls names h = record {
  apart = h.apart;
  members = λ name. h.members name ∙ declared_is_called decls decls name (is_called (kind_among decls name)) refl;
}

-- ---- numbers

-- the number of a name is a name's, and has that name
pub record HasNumber (names : List (List ℕ)) (name : List ℕ) (number : ℕ) : Type 0 where
  pub within : number < length names
  pub at : name_at names number ≡ name

clash : true ≡ false → ⊥
clash e = absurd (cc)

some_same : (a b : ℕ) → Some a ≡ Some b → a ≡ b
some_same a b e = cc

none_some : {A : Type 0} (a : A) → Some a ≡ None → ⊥
none_some a e = absurd (cc)

-- a place that is found is that of the first that passes
place : (names : List (List ℕ)) (name : List ℕ) (number : ℕ) → position (bytes_eq name) names ≡ Some number → (position_or_len (bytes_eq name) names < length names) × (position_or_len (bytes_eq name) names ≡ number)
place names name number e = by (nat_lt (position_or_len (bytes_eq name) names) (length names)) refl e
  where
    by : (b : Bool) → nat_lt (position_or_len (bytes_eq name) names) (length names) ≡ b → cond b (Some (position_or_len (bytes_eq name) names)) None ≡ Some number
        → (position_or_len (bytes_eq name) names < length names) × (position_or_len (bytes_eq name) names ≡ number)
    by true lt e' = (ltb-true _ _ lt, some_same _ _ e')
    by false lt e' = absurd (none_some number (sym e'))

pub has_number : (names : List (List ℕ)) (name : List ℕ) (number : ℕ) → position (bytes_eq name) names ≡ Some number → HasNumber names name number
has_number names name number e =
    let at = place names name number e in
    record {
      within = omega (arith, at.0, at.1);
      at = ap (name_at names) (sym at.1) ∙ sym (same_name name (name_at names (position_or_len (bytes_eq name) names)) (passes_at_first (bytes_eq name) names [] at.0));
    }

pub number_is_called : (decls : List Decl) (names : List (List ℕ)) (name : List ℕ) (number : ℕ) → AreCalledNames decls names → position (bytes_eq name) names ≡ Some number → is_called (kind_among decls name) ≡ true
number_is_called decls names name number h e =
    let at = place names name number e in
    sym (h.members name) ∙ list_any_at (bytes_eq name) names (position_or_len (bytes_eq name) names) [] at.0 (passes_at_first (bytes_eq name) names [] at.0)

pub has_no_number : (decls : List Decl) (names : List (List ℕ)) (name : List ℕ) → AreCalledNames decls names → position (bytes_eq name) names ≡ None → is_called (kind_among decls name) ≡ false
has_no_number decls names name h e = sym (h.members name) ∙ by (nat_lt (position_or_len (bytes_eq name) names) (length names)) refl e
  where
    by : (b : Bool) → nat_lt (position_or_len (bytes_eq name) names) (length names) ≡ b → cond b (Some (position_or_len (bytes_eq name) names)) None ≡ None → list_any (bytes_eq name) names ≡ false
    by true lt e' = absurd (none_some _ e')
    by false lt e' =
        let past = ltb-false _ _ lt in
        list_any_none (bytes_eq name) names (λ k d in_names. fails_before_first (bytes_eq name) names k d (omega (arith, past, in_names)))

-- ---- lists of declarations

pub seen_step : (seen decls : List Decl) (count : ℕ) (decl : Decl) → count < length decls → decl ≡ get_or decls count decl → (seen ++ take count decls) ++ decl ∷ [] ≡ seen ++ take (count + 1) decls
seen_step seen decls count decl lt is = append_assoc seen (take count decls) (decl ∷ []) ∙ ap (λ ds. seen ++ ds) (ap (λ d. take count decls ++ d ∷ []) is ∙ sym (take_more decls count decl lt))

pub declared_step : (statements : List Statement) (count : ℕ) (s : Statement) → count < length statements → s ≡ get_or statements count s
    → flat_map (λ (s : Statement). declared_in s.body) (take count statements) ++ declared_in s.body ≡ flat_map (λ (s : Statement). declared_in s.body) (take (count + 1) statements)
declared_step statements count s lt is =
    sym (ap (flat_map (λ (s : Statement). declared_in s.body)) (take_more statements count s lt)
    ∙ flat_map-append (λ (s : Statement). declared_in s.body) (take count statements) (get_or statements count s ∷ [])
    ∙ ap (λ ds. flat_map (λ (s : Statement). declared_in s.body) (take count statements) ++ ds) (append-nil (declared_in (get_or statements count s).body) ∙ ap (λ (s : Statement). declared_in s.body) (sym is)))
