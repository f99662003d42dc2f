-- Heights fall from a goal to the goals that its clauses call, and stay or fall as terms are put in.
use Rattle.std.proofs.Common.{ℕ, Bool, true, false, not, ◌≡◌, ◌+◌, ◌*◌, ◌≤◌, ◌<◌, List, [], ◌∷◌, map, length, min, refl, sym, ap, ◌∙◌, subst, arith, inl, inr}
use Rattle.std.specs.Prelude.{zero, suc, ◌⊎◌, ◌||◌, Contains, Option, Some, None, if◌then◌else◌}
use Rattle.std.specs.List.{AllByRecursion, list_any}
use Rattle.std.proofs.Math.Nat.{mul-le-mul_right}
use Rattle.lps_terms.specs.declared.atom.Atom.{Atom}
use Rattle.lps_terms.specs.declared.cond.Cond.{Cond}
use Rattle.lps_terms.specs.declared.cond.Cond.TheVariants as c
use Rattle.lps_terms.specs.declared.decl.Decl.{Decl}
use Rattle.lps_terms.specs.declared.kind.Kind.{Kind}
use Rattle.lps_terms.specs.declared.kind.Kind.TheVariants as k
use Rattle.lps_terms.specs.declared.lit.Lit.{Lit}
use Rattle.lps_terms.specs.declared.mode.Mode.{Mode}
use Rattle.lps_terms.specs.declared.mode.Mode.TheVariants as m
use Rattle.lps_terms.specs.declared.term.Term.{Term}
use Rattle.lps_terms.specs.declared.term.Term.TheVariants as t
use Rattle.lps_terms.specs.declared.text.Text.{Text}
use Rattle.lps_terms.specs.Forms.{term_ind}
use Rattle.lps_terms.specs.Order.{args_of, args_of-App, term_eq}
use Rattle.lps_terms.specs.OrderLaws.{term_eq-decides}
use Rattle.lps_terms.specs.Put.{put, put_atom, after, put-App}
use Rattle.lps_terms.specs.Symbols.{atom_symbols_of, symbols_of, symbols_of_all, symbols_of-App, symbols_of_all-cons}
use Rattle.lps_model.specs.Acceptance.{IsAccepted}
use Rattle.lps_model.specs.Calls.{are_nested, calls, descends, is_called, is_inside_within, starred, starred_by, starred_of}
use Rattle.lps_model.specs.Declarations.{decl_among, kind_among, kind_in}
use Rattle.lps_model.specs.Known.{declared_needs, kind_needs, marked_vars}
use Rattle.lps_model.specs.Levels.{AreCallLevels, IsLevel, level_among}
use Rattle.lps_model.specs.Program.{declarations}
use Rattle.lps_model.specs.VariableLists.{args_vars, term_vars}
use Rattle.lps_model.proofs.Elements.{first_is_contained, first_or_later, later_is_contained, nothing_contained}
use Rattle.lps_model.specs.Clauses.{Clause, clauses}
use Rattle.lps_derivation.specs.Instances.{put_cond}
use Rattle.lps_derivation.proofs.Puts.{put_cond-put_cond}
use Rattle.lps_unify.specs.Bindings.{TrailedBindings, standing, Solves, IsLawful}
use Rattle.lps_unify.specs.Unified.{JoinsAllOn}
use Rattle.lps_unify.proofs.Standings.{solves_itself}
use Rattle.lps_solve.specs.Heights.{height_of, left_on, left_on_starred, most_conditions, stride, weight_of, weights_of}
use Rattle.lps_solve.specs.Moded.{IsClosed, IsMarked}
use Rattle.lps_solve.specs.Placed.{shift, values_in}
use Rattle.lps_solve.proofs.Accepted.{call_at, call_is_level, is_called_head, no_kind_refusal}
use Rattle.lps_solve.proofs.Closed.{closed_stays, no_left, no_right}
use Rattle.lps_solve.proofs.Modes.{joined_args}
use Rattle.lps_solve.proofs.Placing.{same_values}
use Rattle.lps_solve.proofs.Vars.{vars_of-App}

-- ---- terms inside terms

module _ (inner : Term) (f : ℕ → Term) where
  -- what stands inside a term is smaller, whatever is put in, and closed where the term is
  abbrev IsBelow : Term → Type 0
  IsBelow x = (depth : ℕ) → is_inside_within depth inner x ≡ true → (symbols_of (put f inner) < symbols_of (put f x)) × (IsClosed (put f x) → IsClosed (put f inner))

  one_below : (depth : ℕ) (ts : List Term) → AllByRecursion IsBelow ts → list_any (λ arg. term_eq inner arg || is_inside_within depth inner arg) ts ≡ true →
      (symbols_of (put f inner) < 1 + symbols_of_all (map (put f) ts)) × (args_vars (map (put f) ts) ≡ [] → IsClosed (put f inner))
  one_below depth [] is h = absurd (cc)
  one_below depth (x ∷ xs) is h = by (one_below depth xs is.1) (term_eq inner x) refl (is_inside_within depth inner x) refl h
    where
      by : (list_any (λ arg. term_eq inner arg || is_inside_within depth inner arg) xs ≡ true → (symbols_of (put f inner) < 1 + symbols_of_all (map (put f) xs)) × (args_vars (map (put f) xs) ≡ [] → IsClosed (put f inner))) →
          (same : Bool) → term_eq inner x ≡ same → (inside : Bool) → is_inside_within depth inner x ≡ inside → ((same || inside) || list_any (λ arg. term_eq inner arg || is_inside_within depth inner arg) xs) ≡ true →
          (symbols_of (put f inner) < 1 + symbols_of_all (map (put f) (x ∷ xs))) × (args_vars (map (put f) (x ∷ xs)) ≡ [] → IsClosed (put f inner))
      by later true same inside i h =
          let e : inner ≡ x = (term_eq-decides inner x).0 same in
          let size = ap (λ y. symbols_of (put f y)) e in
          let whole = symbols_of_all-cons (put f x) (map (put f) xs) in (
            omega (arith, size, whole),
            λ none. ap (λ y. term_vars (put f y)) e ∙ no_left (term_vars (put f x)) (args_vars (map (put f) xs)) none,
          )
      by later false same true i h =
          let below = is.0 depth i in
          let less = below.0 in
          let whole = symbols_of_all-cons (put f x) (map (put f) xs) in (
            omega (arith, less, whole),
            λ none. below.1 (no_left (term_vars (put f x)) (args_vars (map (put f) xs)) none),
          )
      by later false same false i h =
          let below = later h in
          let less = below.0 in
          let whole = symbols_of_all-cons (put f x) (map (put f) xs) in (
            omega (arith, less, whole),
            λ none. below.1 (no_right (term_vars (put f x)) (args_vars (map (put f) xs)) none),
          )

  abbrev Ask : ℕ → Term → Bool
  Ask depth x = list_any (λ arg. term_eq inner arg || is_inside_within depth inner arg) (args_of x)

  nothing_inside : (x : Term) → args_of x ≡ [] → IsBelow x
  nothing_inside x none zero h = absurd (cc)
  nothing_inside x none (suc depth) h = absurd (let e = ap (list_any (λ arg. term_eq inner arg || is_inside_within depth inner arg)) none in cc)

  inside_below : (x : Term) → IsBelow x
  inside_below = term_ind IsBelow (λ z. nothing_inside (t.Int z) refl) (λ n. nothing_inside (t.Sym n) refl) application (λ v. nothing_inside (t.Var v) refl)
    where
      application : (n : List ℕ) (ts : List Term) → AllByRecursion IsBelow ts → IsBelow (t.App n ts)
      application n ts is zero h = absurd (cc)
      application n ts is (suc depth) h =
          let one = one_below depth ts is (sym (ap (list_any (λ arg. term_eq inner arg || is_inside_within depth inner arg)) (args_of-App n ts)) ∙ h) in
          let less = one.0 in
          let size = ap symbols_of (put-App f n ts) ∙ symbols_of-App n (map (put f) ts) in (
            omega (arith, less, size),
            λ none. one.1 (sym (ap term_vars (put-App f n ts) ∙ vars_of-App n (map (put f) ts)) ∙ none),
          )

-- ---- what is left to descend on

pub left_most : (vars : List ℕ) (symbols : ℕ) → left_on vars symbols ≤ 1024
left_most [] symbols = omega arith
left_most (v ∷ vars) symbols = omega arith

left_most_starred : (o : Option Term) → left_on_starred o ≤ 1024
left_most_starred None = omega arith
left_most_starred (Some x) = left_most (term_vars x) (symbols_of x)

abbrev put_option : (ℕ → Term) → Option Term → Option Term
put_option s None = None
put_option s (Some x) = Some (put s x)

module _ (s : ℕ → Term) where
  starred_put : (modes : List Mode) (args : List Term) → starred modes (map (put s) args) ≡ put_option s (starred modes args)
  starred_put [] args = refl
  starred_put (m.Plus ∷ modes) [] = refl
  starred_put (m.Minus ∷ modes) [] = refl
  starred_put (m.Star ∷ modes) [] = refl
  starred_put (m.Plus ∷ modes) (x ∷ args) = starred_put modes args
  starred_put (m.Minus ∷ modes) (x ∷ args) = starred_put modes args
  starred_put (m.Star ∷ modes) (x ∷ args) = refl

  starred_by_put : (decl : Option Decl) (args : List Term) → starred_by decl (map (put s) args) ≡ put_option s (starred_by decl args)
  starred_by_put None args = refl
  starred_by_put (Some decl) args = starred_put decl.modes args

  left_by : (x : Term) (vars : List ℕ) → term_vars x ≡ vars → left_on_starred (Some (put s x)) ≤ left_on vars (symbols_of x)
  left_by x [] none = let same = ap (λ y. left_on_starred (Some y)) (closed_stays s x none) in let is = ap (λ vs. left_on vs (symbols_of x)) none in omega (arith, same, is)
  left_by x (v ∷ vars) some = left_most (term_vars (put s x)) (symbols_of (put s x))

  no_more_left : (o : Option Term) → left_on_starred (put_option s o) ≤ left_on_starred o
  no_more_left None = omega arith
  no_more_left (Some x) = left_by x (term_vars x) refl

  module _ (decls : List Decl) (levels : List (List ℕ × ℕ)) where
    no_higher : (a : Atom) → height_of decls levels (put_atom s a) ≤ height_of decls levels a
    no_higher a = by (is_called (kind_among decls a.name))
      where
        by : (called : Bool) → (if called then 1 + level_among levels a.name * 1025 + left_on_starred (starred_of decls (put_atom s a)) else 0) ≤ (if called then 1 + level_among levels a.name * 1025 + left_on_starred (starred_of decls a) else 0)
        by true = let same = ap left_on_starred (starred_by_put (decl_among decls a.name) a.args) in let less = no_more_left (starred_of decls a) in omega (arith, same, less)
        by false = omega arith

    no_heavier : (cond : Cond) → weight_of decls levels (put_cond s cond) ≤ weight_of decls levels cond
    no_heavier (c.Lit l) = let less = no_higher l.atom in omega (arith, less)
    no_heavier (c.Built built) = omega arith

    none_heavier : (f : ℕ → Term) (conds : List Cond) → weights_of decls levels (after s f) conds ≤ weights_of decls levels f conds
    none_heavier f [] = omega arith
    none_heavier f (cond ∷ conds) =
        let same = ap (weight_of decls levels) (put_cond-put_cond s f cond) in
        let one = no_heavier (put_cond f cond) in
        let rest = none_heavier f conds in
        omega (arith, same, one, rest)

-- bindings that keep what they had make no condition heavier
pub extended_lighter : (decls : List Decl) (levels : List (List ℕ × ℕ)) (b : TrailedBindings) (lawful : IsLawful b) (s : ℕ → Term) → Solves s b → (base : ℕ) (conds : List Cond) →
    weights_of decls levels (λ v. s (base + v)) conds ≤ weights_of decls levels (values_in b base) conds
extended_lighter decls levels b lawful s solves base conds =
    subst (λ (f : ℕ → Term). weights_of decls levels f conds ≤ weights_of decls levels (values_in b base) conds) (same_values b lawful base s solves) (none_heavier s decls levels (values_in b base) conds)

-- ---- the goals that a clause calls

-- a marked argument of a called goal is closed
starred_closed : (modes : List Mode) (args : List Term) → marked_vars modes args ≡ [] → (x : Term) → starred modes args ≡ Some x → IsClosed x
starred_closed [] args none x is = absurd (cc)
starred_closed (m.Plus ∷ modes) [] none x is = absurd (cc)
starred_closed (m.Minus ∷ modes) [] none x is = absurd (cc)
starred_closed (m.Star ∷ modes) [] none x is = absurd (cc)
starred_closed (m.Plus ∷ modes) (y ∷ args) none x is = starred_closed modes args (no_right (term_vars y) (marked_vars modes args) none) x is
starred_closed (m.Minus ∷ modes) (y ∷ args) none x is = starred_closed modes args none x is
starred_closed (m.Star ∷ modes) (y ∷ args) none x is = subst IsClosed (let e : y ≡ x = cc in e) (no_left (term_vars y) (marked_vars modes args) none)

called_closed : (kind : Kind) (modes : List Mode) (args : List Term) → is_called (Some kind) ≡ true → kind_needs false kind modes args ≡ [] → (x : Term) → starred modes args ≡ Some x → IsClosed x
called_closed k.Fluent modes args called none x is = absurd (cc)
called_closed k.Event modes args called none x is = absurd (cc)
called_closed k.Action modes args called none x is = absurd (cc)
called_closed k.Timeless modes args called none x is = starred_closed modes args none x is
called_closed k.Derived modes args called none x is = starred_closed modes args none x is
called_closed k.Macro modes args called none x is = starred_closed modes args none x is

marked_closed : (decl : Option Decl) (args : List Term) → is_called (kind_in decl) ≡ true → declared_needs false decl args ≡ [] → (x : Term) → starred_by decl args ≡ Some x → IsClosed x
marked_closed None args called none x is = absurd (cc)
marked_closed (Some decl) args called none x is = called_closed decl.kind decl.modes args called none x is

starred_small : (modes : List Mode) (args : List Term) (x : Term) → starred modes args ≡ Some x → symbols_of x ≤ symbols_of_all args
starred_small [] args x is = absurd (cc)
starred_small (m.Plus ∷ modes) [] x is = absurd (cc)
starred_small (m.Minus ∷ modes) [] x is = absurd (cc)
starred_small (m.Star ∷ modes) [] x is = absurd (cc)
starred_small (m.Plus ∷ modes) (y ∷ args) x is = let less = starred_small modes args x is in let whole = symbols_of_all-cons y args in omega (arith, less, whole)
starred_small (m.Minus ∷ modes) (y ∷ args) x is = let less = starred_small modes args x is in let whole = symbols_of_all-cons y args in omega (arith, less, whole)
starred_small (m.Star ∷ modes) (y ∷ args) x is = let e : y ≡ x = (let same = is in cc) in let size = ap symbols_of e in let whole = symbols_of_all-cons y args in omega (arith, size, whole)

starred_by_small : (decl : Option Decl) (args : List Term) (x : Term) → starred_by decl args ≡ Some x → symbols_of x ≤ symbols_of_all args
starred_by_small None args x is = absurd (cc)
starred_by_small (Some decl) args x is = starred_small decl.modes args x is

left_closed : (x : Term) → IsClosed x → left_on_starred (Some x) ≡ min (symbols_of x) 1024
left_closed x none = ap (λ vs. left_on vs (symbols_of x)) none

-- The call descends: what is left is less.
nested_less : (f s : ℕ → Term) (inner outer whole : Option Term) → are_nested inner outer ≡ true → put_option s whole ≡ put_option f outer → ((x : Term) → whole ≡ Some x → IsClosed x) → ((x : Term) → whole ≡ Some x → symbols_of x ≤ 1024) →
    left_on_starred (put_option f inner) < left_on_starred whole
nested_less f s None outer whole nested same closed small = absurd (cc)
nested_less f s (Some inner) None whole nested same closed small = absurd (cc)
nested_less f s (Some inner) (Some outer) None nested same closed small = absurd (cc)
nested_less f s (Some inner) (Some outer) (Some x) nested same closed small =
    let none : IsClosed x = closed x refl in
    let put_same : put s x ≡ put f outer = (let e = same in cc) in
    let is : x ≡ put f outer = sym (closed_stays s x none) ∙ put_same in
    let below = inside_below inner f outer (symbols_of outer) nested in
    let less = below.0 in
    let size = ap symbols_of is in
    let few = small x refl in
    let first = left_closed (put f inner) (below.1 (sym (ap term_vars is) ∙ none)) in
    let second = left_closed x none in
    omega (arith, less, size, few, first, second)

module _ (text : Text) (accepted : IsAccepted text) (levels : List (List ℕ × ℕ)) (levelled : AreCallLevels (calls text) (level_among levels)) (clause : Clause) (among : Contains (clauses text) clause)
    (goal : Atom) (named : clause.head.name ≡ goal.name) (marked : IsMarked (declarations text) goal) (small : atom_symbols_of goal ≤ 1024) (f s : ℕ → Term)
    (same : map (put s) goal.args ≡ map (put f) clause.head.args) where
  abbrev decls : List Decl
  decls = declarations text

  head_called : is_called (kind_among decls clause.head.name) ≡ true
  head_called = is_called_head text (no_kind_refusal text accepted) clause among

  goal_called : is_called (kind_among decls goal.name) ≡ true
  goal_called = subst (λ name. is_called (kind_among decls name) ≡ true) named head_called

  starred_same : put_option s (starred_of decls goal) ≡ put_option f (starred_of decls clause.head)
  starred_same =
      sym (starred_by_put s (decl_among decls goal.name) goal.args)
      ∙ ap (starred_by (decl_among decls goal.name)) same
      ∙ ap (λ name. starred_by (decl_among decls name) (map (put f) clause.head.args)) (sym named)
      ∙ starred_by_put f (decl_among decls clause.head.name) clause.head.args

  goal_height : height_of decls levels goal ≡ 1 + level_among levels goal.name * 1025 + left_on_starred (starred_of decls goal)
  goal_height = ap (λ (called : Bool). if called then 1 + level_among levels goal.name * 1025 + left_on_starred (starred_of decls goal) else 0) goal_called

  goal_level : level_among levels clause.head.name ≡ level_among levels goal.name
  goal_level = ap (level_among levels) named

  module _ (l : Lit) (within : Contains clause.conds (c.Lit l)) where
    abbrev left_in : ℕ
    left_in = left_on_starred (starred_of decls (put_atom f l.atom))

    abbrev level_in : ℕ
    level_in = level_among levels l.atom.name

    call_less : level_in ≤ level_among levels clause.head.name → left_in < left_on_starred (starred_of decls goal) → 1 + (1 + level_in * 1025 + left_in) ≤ height_of decls levels goal
    call_less no_higher less = omega (arith, no_higher, less, goal_level, goal_height)

    call_strict : level_in < level_among levels clause.head.name → 1 + (1 + level_in * 1025 + left_in) ≤ height_of decls levels goal
    call_strict lower = let most = left_most_starred (starred_of decls (put_atom f l.atom)) in omega (arith, lower, most, goal_level, goal_height)

    call_descends : descends decls clause.head l.atom ≡ true → left_in < left_on_starred (starred_of decls goal)
    call_descends nested =
        subst (λ (o : Option Term). left_on_starred o < left_on_starred (starred_of decls goal)) (sym (starred_by_put f (decl_among decls l.atom.name) l.atom.args))
        (nested_less f s (starred_of decls l.atom) (starred_of decls clause.head) (starred_of decls goal) nested starred_same (marked_closed (decl_among decls goal.name) goal.args goal_called marked)
        (λ x is. let less = starred_by_small (decl_among decls goal.name) goal.args x is in omega (arith, less, small)))

    called_lower : (one two : Bool) → l.negated ≡ one → descends decls clause.head l.atom ≡ two → IsLevel (level_among levels) (call_at text clause.head l) → 1 + (1 + level_in * 1025 + left_in) ≤ height_of decls levels goal
    called_lower true two e d is = call_strict (is.lower (λ i. e i || not (descends decls clause.head l.atom || false)))
    called_lower false false e d is = call_strict (is.lower (λ i. e i || not (d i || false)))
    called_lower false true e d is = call_less is.no_higher (call_descends d)

    lower_by : (called : Bool) → is_called (kind_among decls l.atom.name) ≡ called → 1 + (if called then 1 + level_in * 1025 + left_in else 0) ≤ height_of decls levels goal
    lower_by true called = called_lower l.negated (descends decls clause.head l.atom) refl refl (call_is_level text (level_among levels) levelled clause among l within called)
    lower_by false called = omega (arith, goal_height)

    call_lower : weight_of decls levels (put_cond f (c.Lit l)) ≤ height_of decls levels goal
    call_lower = lower_by (is_called (kind_among decls l.atom.name)) refl

  cond_lower : (cond : Cond) → Contains clause.conds cond → weight_of decls levels (put_cond f cond) ≤ height_of decls levels goal
  cond_lower (c.Lit l) within = call_lower l within
  cond_lower (c.Built built) within = omega arith

  conds_lower : (conds : List Cond) → ((cond : Cond) → Contains conds cond → weight_of decls levels (put_cond f cond) ≤ height_of decls levels goal) → weights_of decls levels f conds ≤ height_of decls levels goal
  conds_lower [] each = omega arith
  conds_lower (cond ∷ conds) each =
      let one = each cond (first_is_contained cond conds) in
      let rest = conds_lower conds (λ other at. each other (later_is_contained cond conds other at)) in
      omega (arith, one, rest)

  -- the conditions of a clause are no heavier than the goal is high
  pub clause_lower : weights_of decls levels f clause.conds ≤ height_of decls levels goal
  clause_lower = conds_lower clause.conds cond_lower

pub clause_short : (program : List Clause) (clause : Clause) → Contains program clause → length clause.conds ≤ most_conditions program
clause_short [] clause at = absurd (nothing_contained clause at)
clause_short (first ∷ program) clause at = by (clause_short program clause) (first_or_later first program clause at)
  where
    by : (Contains program clause → length clause.conds ≤ most_conditions program) → (first ≡ clause) ⊎ Contains program clause → length clause.conds ≤ most_conditions (first ∷ program)
    by later (inl same) = let e = ap (λ (k : Clause). length k.conds) same in omega (arith, e)
    by later (inr rest) = let less = later rest in omega (arith, less)

-- ---- steps between heights

module _ (text : Text) (levels : List (List ℕ × ℕ)) where
  abbrev Weighs : (ℕ → Term) → List Cond → ℕ
  Weighs f conds = weights_of (declarations text) levels f conds * stride text

  pub first_falls : (f : ℕ → Term) (cond : Cond) (rest conds : List Cond) → conds ≡ cond ∷ rest → weight_of (declarations text) levels (put_cond f cond) * stride text ≤ Weighs f conds
  first_falls f cond rest conds split =
      mul-le-mul_right (stride text) (let e = ap (weights_of (declarations text) levels f) split in omega (arith, e))

  pub rest_falls : (f : ℕ → Term) (cond : Cond) (rest conds : List Cond) → conds ≡ cond ∷ rest → Weighs f rest ≤ Weighs f conds
  rest_falls f cond rest conds split = mul-le-mul_right (stride text) (let e = ap (weights_of (declarations text) levels f) split in omega (arith, e))

  pub bound_falls : (b new : TrailedBindings) → IsLawful b → IsLawful new → (terms row : List Term) (found : Bool) → JoinsAllOn found b new terms row → found ≡ true → (base : ℕ) (conds : List Cond) →
      Weighs (values_in new base) conds ≤ Weighs (values_in b base) conds
  bound_falls b new lawful after terms row found joins one base conds =
      mul-le-mul_right (stride text)
      (extended_lighter (declarations text) levels b lawful (standing new).value ((subst (λ (f : Bool). JoinsAllOn f b new terms row) one joins (standing new).value).0 (solves_itself new after)).0 base conds)

  pub enter_falls : IsAccepted text → AreCallLevels (calls text) (level_among levels) → (clause : Clause) → Contains (clauses text) clause → (goal : Atom) → clause.head.name ≡ goal.name → IsMarked (declarations text) goal → atom_symbols_of goal ≤ 1024 →
      (ext new : TrailedBindings) → IsLawful new → (base : ℕ) (wanted pattern : List Term) (conds : List Cond) → conds ≡ clause.conds → wanted ≡ goal.args → pattern ≡ map (put (shift base)) clause.head.args →
      (found : Bool) → JoinsAllOn found ext new wanted pattern → found ≡ true → (Weighs (values_in new base) conds ≤ height_of (declarations text) levels goal * stride text) × (length conds ≤ most_conditions (clauses text))
  enter_falls accepted levelled clause among goal named marked small ext new lawful base wanted pattern conds same_conds same_goal same_head found joins one =
      let lower = clause_lower text accepted levels levelled clause among goal named marked small (values_in new base) (standing new).value
      (joined_args ext new base goal.args clause.head.args wanted pattern same_goal same_head found joins one (standing new).value (solves_itself new lawful)) in
      let short = clause_short (clauses text) clause among in (
        mul-le-mul_right (stride text) (subst (λ (ks : List Cond). weights_of (declarations text) levels (values_in new base) ks ≤ height_of (declarations text) levels goal) (sym same_conds) lower),
        subst (λ (ks : List Cond). length ks ≤ most_conditions (clauses text)) (sym same_conds) short,
      )
