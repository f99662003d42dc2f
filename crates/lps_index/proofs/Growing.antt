-- A table with one statement more.
use Rattle.std.proofs.Common.{ℕ, Bool, true, false, ◌≡◌, ◌+◌, ◌<◌, ◌≤◌, ◌↔◌, List, [], ◌∷◌, ◌++◌, map, take, length, get_or, refl, sym, ap, ◌∙◌, subst, arith, inl, inr}
use Rattle.std.specs.Prelude.{◌⊎◌, ◌||◌, zero, suc, IsTrue, Option, Some, None, nat_lt, slice_get, Contains}
use Rattle.std.specs.List.{flat_map, list_any}
use Rattle.std.specs.declared.alloc.Global.{Global}
use Rattle.std.specs.declared.vec.Vec.{Vec}
use Rattle.std.proofs.lemmas.Bool.Decides.{nat_tests}
use Rattle.std.proofs.lemmas.Grind.{flat_map-append}
use Rattle.std.proofs.lemmas.List.{length_push, map-append, take_more as take_more_by}
use Rattle.lps_terms.specs.declared.atom.Atom.{Atom}
use Rattle.lps_terms.specs.declared.body.Body.{Body}
use Rattle.lps_terms.specs.declared.item.Item.{Item}
use Rattle.lps_terms.specs.declared.statement.Statement.{Statement}
use Rattle.lps_terms.specs.declared.term.Term.{Term}
use Rattle.lps_model.proofs.Elements.{nothing_contained}
use Rattle.lps_model.specs.Clauses.{clause_in}
use Rattle.lps_model.specs.Program.{law_in}
use Rattle.lps_model.specs.Rules.{denial_in, macro_clause_in, rule_in}
use Rattle.lps_index.specs.Matching.{closed_first, may_match}
use Rattle.lps_index.specs.Spoken.{atom_in, IsFound, of_clause, of_items, of_law, of_macro_clause, of_rule}
use Rattle.lps_index.specs.Table.{AreTables, AreTablesOf, found_by, IsCounted, IsNoted, IsNotedIn, IsTableOf, places_at, places_of}
use Rattle.lps_index.specs.declared.table.Table.{Table}
use Rattle.lps_index.specs.declared.tables.Tables.{Tables}

-- ---- what stands at a place of a longer list

get_before : {X : Type 0} (xs : List X) (y : X) (i : ℕ) → i < length xs → slice_get (xs ++ y ∷ []) i ≡ slice_get xs i
get_before [] y i lt = absurd (omega arith)
get_before (x ∷ xs) y zero lt = refl
get_before (x ∷ xs) y (suc i) lt = get_before xs y i (omega arith)

get_last : {X : Type 0} (xs : List X) (y : X) (i : ℕ) → i ≡ length xs → slice_get (xs ++ y ∷ []) i ≡ Some y
get_last [] y zero e = refl
get_last [] y (suc i) e = absurd (omega (arith, e))
get_last (x ∷ xs) y zero e = absurd (omega (arith, e))
get_last (x ∷ xs) y (suc i) e = get_last xs y i (omega (arith, e))

within : {X : Type 0} (xs : List X) (i : ℕ) (x : X) → slice_get xs i ≡ Some x → i < length xs
within [] i x e = absurd (cc)
within (y ∷ xs) zero x e = omega arith
within (y ∷ xs) (suc i) x e = let lt = within xs i x e in omega (arith, lt)

pub same_some : {X : Type 0} (x y : X) → Some x ≡ Some y → x ≡ y
same_some x y e = cc

-- ---- one statement more

module _ (spoken : List (List Atom)) (atoms : List Atom) (asked : Atom) where
  abbrev more : List (List Atom)
  more = spoken ++ atoms ∷ []

  abbrev IsBefore : ℕ → Type 0
  IsBefore i = IsFound (λ xs. xs) spoken asked i

  abbrev IsAfter : ℕ → Type 0
  IsAfter i = IsFound (λ xs. xs) more asked i

  abbrev IsLast : ℕ → Type 0
  IsLast i = (i ≡ length spoken) × IsTrue (list_any (may_match asked) atoms)

  to_after : (i : ℕ) → IsBefore i ⊎ IsLast i → IsAfter i
  to_after i (inl old) = record { statement = old.statement; at = get_before spoken atoms i (within spoken i old.statement old.at) ∙ old.at; matching = old.matching }
  to_after i (inr new) = record { statement = atoms; at = get_last spoken atoms i new.0; matching = new.1 }

  from_after_by : (i : ℕ) (before : Bool) → nat_lt i (length spoken) ≡ before → IsAfter i → IsBefore i ⊎ IsLast i
  from_after_by i true e h =
      let lt : i < length spoken = grind (arith, nat_tests) in
      inl record { statement = h.statement; at = sym (get_before spoken atoms i lt) ∙ h.at; matching = h.matching }
  from_after_by i false e h =
      let le : length spoken ≤ i = grind (arith, nat_tests) in
      let lt = within more i h.statement h.at in
      let count = length_push spoken atoms in
      let last : i ≡ length spoken = omega (arith, le, lt, count) in
      inr (last, subst (λ (xs : List Atom). IsTrue (list_any (may_match asked) xs)) (same_some h.statement atoms (sym h.at ∙ get_last spoken atoms i last)) h.matching)

  from_after : (i : ℕ) → IsAfter i → IsBefore i ⊎ IsLast i
  from_after i h = from_after_by i (nat_lt i (length spoken)) refl h

-- what is noted for the last place, and counted, makes the table of one statement more
pub table_more : (spoken : List (List Atom)) (atoms : List Atom) (old noted new : Table) (place : ℕ) → IsTableOf spoken old → place ≡ old.count → IsNotedIn old noted place atoms → IsCounted noted new → IsTableOf (spoken ++ atoms ∷ []) new
table_more spoken atoms old noted new place is at notes counted = record {
  count = (let before = is.count in let kept = notes.count in let more = counted.count in let long = length_push spoken atoms in omega (arith, before, long, kept, more));
  found = λ asked i. (
    λ h. to_after spoken atoms asked i (elim ((notes.noted asked i).0 (subst (λ (xs : List ℕ). Contains xs i) (counted.same asked) h)) [
      | inl old ↦ inl ((is.found asked i).0 old)
      | inr one ↦ inr (one.0 ∙ at ∙ is.count, one.1)
    ]),
    λ h. subst (λ (xs : List ℕ). Contains xs i) (sym (counted.same asked)) ((notes.noted asked i).1 (elim (from_after spoken atoms asked i h) [
      | inl before ↦ inl ((is.found asked i).1 before)
      | inr one ↦ inr (one.0 ∙ sym (at ∙ is.count), one.1)
    ])),
  );
}

-- the table of no statements
pub none_in : (table : Table) → table.count ≡ 0 → table.all.entries ≡ [] → table.others.entries ≡ [] → table.closed.entries ≡ [] → IsTableOf [] table
none_in table count all others closed = record { count = count; found = λ asked i. (λ h. absurd (nothing_contained i (subst (λ (xs : List ℕ). Contains xs i) (by asked.name (closed_first asked.args)) h)), λ h. absurd (none h.statement i h.at)) }
  where
    by : (name : List ℕ) (first : Option Term) → found_by table name first ≡ []
    by name None = ap (λ (es : List (List ℕ × Vec ℕ Global)). places_of es name) all
    by name (Some x) = λ i. places_at (closed i) name x ++ places_of (others i) name

    none : (statement : List Atom) (i : ℕ) → slice_get [] i ≡ Some statement → ⊥
    none statement i e = let lt = within [] i statement e in omega (arith, lt)

-- ---- items, one by one

any_both : {X : Type 0} (test : X → Bool) (xs ys : List X) → list_any test (xs ++ ys) ≡ (list_any test xs || list_any test ys)
any_both test [] ys = refl
any_both test (x ∷ xs) ys = by (test x) (any_both test xs ys)
  where
    by : (first : Bool) → list_any test (xs ++ ys) ≡ (list_any test xs || list_any test ys) → (first || list_any test (xs ++ ys)) ≡ ((first || list_any test xs) || list_any test ys)
    by true rest = refl
    by false rest = rest

either : (a b : Bool) → IsTrue (a || b) ↔ (IsTrue a ⊎ IsTrue b)
either true b = (λ h. inl refl, λ h. refl)
either false b = (λ h. inr h, λ h. elim h [ inl a ↦ absurd (cc a) | inr b ↦ b ])

-- nothing is noted for no atoms
pub nothing_noted : (table : Table) (place : ℕ) → IsNotedIn table table place []
nothing_noted table place = record { noted = λ asked i. (λ h. inl h, λ h. elim h [ inl old ↦ old | inr one ↦ absurd (cc (one.1)) ]); count = refl }

-- what is noted for some atoms and then for others is noted for both
noted_both : (old mid new : Table) (place : ℕ) (xs ys : List Atom) → IsNoted old mid place xs → IsNoted mid new place ys → IsNoted old new place (xs ++ ys)
noted_both old mid new place xs ys one two = λ asked i.
    let parts = either (list_any (may_match asked) xs) (list_any (may_match asked) ys) in
    let whole = any_both (may_match asked) xs ys in (
      λ h. elim ((two asked i).0 h) [
        | inl before ↦ elim ((one asked i).0 before) [ inl old ↦ inl old | inr x ↦ inr (x.0, subst (λ (b : Bool). IsTrue b) (sym whole) (parts.1 (inl x.1))) ]
        | inr y ↦ inr (y.0, subst (λ (b : Bool). IsTrue b) (sym whole) (parts.1 (inr y.1)))
      ],
      λ h. elim h [
        | inl old ↦ (two asked i).1 (inl ((one asked i).1 (inl old)))
        | inr both ↦ elim (parts.0 (subst (λ (b : Bool). IsTrue b) whole both.1)) [
          | inl x ↦ (two asked i).1 (inl ((one asked i).1 (inr (both.0, x))))
          | inr y ↦ (two asked i).1 (inr (both.0, y))
        ]
      ],
    )

pub append_none : {X : Type 0} (xs : List X) → xs ++ [] ≡ xs
append_none [] = refl
append_none (x ∷ xs) = ap (λ ys. x ∷ ys) (append_none xs)

take_more : {X : Type 0} (i : ℕ) (xs : List X) (y : X) → i < length xs → y ≡ get_or xs i y → take (i + 1) xs ≡ take i xs ++ y ∷ []
take_more i xs y lt is = take_more_by xs i y lt ∙ ap (λ z. take i xs ++ z ∷ []) (sym is)

-- one item more
pub item_noted : (old mid new : Table) (place : ℕ) (items : List Item) (i : ℕ) (item : Item) → i < length items → item ≡ get_or items i item → IsNotedIn old mid place (of_items (take i items)) → IsNotedIn mid new place (atom_in item) →
    IsNotedIn old new place (of_items (take (i + 1) items))
item_noted old mid new place items i item lt is before one =
    let more : of_items (take (i + 1) items) ≡ of_items (take i items) ++ atom_in item =
    ap of_items (take_more i items item lt is) ∙ flat_map-append atom_in (take i items) (item ∷ []) ∙ ap (λ (atoms : List Atom). of_items (take i items) ++ atoms) (append_none (atom_in item)) in
    subst (IsNotedIn old new place) (sym more) record { noted = noted_both old mid new place (of_items (take i items)) (atom_in item) before.noted one.noted; count = one.count ∙ before.count }

take_whole : {X : Type 0} (i : ℕ) (xs : List X) → length xs ≤ i → take i xs ≡ xs
take_whole zero [] h = refl
take_whole zero (x ∷ xs) h = absurd (omega arith)
take_whole (suc i) [] h = refl
take_whole (suc i) (x ∷ xs) h = ap (λ ys. x ∷ ys) (take_whole i xs (omega arith))

-- all items
pub items_noted : (old new : Table) (place : ℕ) (items : List Item) (i : ℕ) → length items ≤ i → IsNotedIn old new place (of_items (take i items)) → IsNotedIn old new place (of_items items)
items_noted old new place items i le h = subst (λ (xs : List Item). IsNotedIn old new place (of_items xs)) (take_whole i items le) h

-- ---- one statement more in a text

pub spoken_more : {X : Type 0} (speaks : X → List Atom) (part : Body → List X) (statements : List Statement) (statement : Statement) →
    map speaks (flat_map (λ s. part s.body) (statements ++ statement ∷ [])) ≡ map speaks (flat_map (λ s. part s.body) statements) ++ map speaks (part statement.body)
spoken_more speaks part statements statement =
    ap (map speaks) (flat_map-append (λ s. part s.body) statements (statement ∷ []) ∙ ap (λ xs. flat_map (λ s. part s.body) statements ++ xs) (append_none (part statement.body)))
    ∙ map-append speaks (flat_map (λ s. part s.body) statements) (part statement.body)

-- the tables of each kind with what the statement is found by are those of one statement more
pub kind_by_kind : (statements : List Statement) (statement : Statement) (new : Tables) →
    AreTablesOf
    (map of_clause (flat_map (λ s. clause_in s.body) statements) ++ map of_clause (clause_in statement.body))
    (map of_law (flat_map (λ s. law_in s.body) statements) ++ map of_law (law_in statement.body))
    (map of_items (flat_map (λ s. denial_in s.body) statements) ++ map of_items (denial_in statement.body))
    (map of_macro_clause (flat_map (λ s. macro_clause_in s.body) statements) ++ map of_macro_clause (macro_clause_in statement.body))
    (map of_rule (flat_map (λ s. rule_in s.body) statements) ++ map of_rule (rule_in statement.body))
    new → AreTables (statements ++ statement ∷ []) new
kind_by_kind statements statement new are = record {
  clauses = subst (λ (xs : List (List Atom)). IsTableOf xs new.clauses) (sym (spoken_more of_clause clause_in statements statement)) are.clauses;
  laws = subst (λ (xs : List (List Atom)). IsTableOf xs new.laws) (sym (spoken_more of_law law_in statements statement)) are.laws;
  denials = subst (λ (xs : List (List Atom)). IsTableOf xs new.denials) (sym (spoken_more of_items denial_in statements statement)) are.denials;
  macro_clauses = subst (λ (xs : List (List Atom)). IsTableOf xs new.macro_clauses) (sym (spoken_more of_macro_clause macro_clause_in statements statement)) are.macro_clauses;
  rules = subst (λ (xs : List (List Atom)). IsTableOf xs new.rules) (sym (spoken_more of_rule rule_in statements statement)) are.rules;
}

-- nothing more is spoken
pub nothing_spoken : (spoken : List (List Atom)) (table : Table) → IsTableOf spoken table → IsTableOf (spoken ++ []) table
nothing_spoken spoken table is = subst (λ (xs : List (List Atom)). IsTableOf xs table) (sym (append_none spoken)) is

-- the tables of one statement more of a text
pub text_more : (statements : List Statement) (i : ℕ) (statement : Statement) (old new : Tables) → i < length statements → statement ≡ get_or statements i statement → AreTables (take i statements) old →
    ((before : List Statement) → AreTables before old → AreTables (before ++ statement ∷ []) new) → AreTables (take (i + 1) statements) new
text_more statements i statement old new lt is are more = subst (λ (xs : List Statement). AreTables xs new) (sym (take_more i statements statement lt is)) (more (take i statements) are)

-- the tables of a whole text
pub text_whole : (statements text : List Statement) (i : ℕ) (tables : Tables) → statements ≡ text → length statements ≤ i → AreTables (take i statements) tables → AreTables text tables
text_whole statements text i tables same le are = subst (λ (xs : List Statement). AreTables xs tables) (take_whole i statements le ∙ same) are
