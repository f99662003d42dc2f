-- How conditions are met.
use Rattle.std.proofs.Common.{ℕ, ℤ, Bool, true, false, ◌≡◌, ◌+◌, ◌≤◌, ◌<◌, ◌↔◌, List, [], ◌∷◌, map, refl, sym, ap, ◌∙◌, subst, arith, inl, inr}
use Rattle.std.specs.Prelude.{Contains, IsTrue, ◌&&◌, if◌then◌else◌, Option, Some, None, FitsSigned, pos, negsuc}
use Rattle.std.specs.List.{AllByRecursion}
use Rattle.lps_terms.specs.declared.atom.Atom.{Atom}
use Rattle.lps_terms.specs.declared.built.Built.{Built}
use Rattle.lps_terms.specs.declared.built.Built.TheVariants as b
use Rattle.lps_terms.specs.declared.cond.Cond.{Cond}
use Rattle.lps_terms.specs.declared.cond.Cond.TheVariants as c
use Rattle.lps_terms.specs.declared.expr.Expr.{Expr}
use Rattle.lps_terms.specs.declared.lit.Lit.{Lit}
use Rattle.lps_terms.specs.declared.rel.Rel.{Rel}
use Rattle.std.proofs.lemmas.Bool.Decides.{Decides-int_eq, nat_tests}
use Rattle.std.proofs.lemmas.Int.{ints}
use Rattle.std.specs.Int.{w64}
use Rattle.lps_terms.specs.declared.term.Term.{Term, App'}
use Rattle.lps_terms.specs.declared.term.Term.TheVariants as t
use Rattle.lps_terms.specs.OrderLaws.{term_eq-decides}
use Rattle.lps_terms.specs.Put.{put, put_atom}
use Rattle.lps_terms.specs.Symbols.{symbols_of, symbols_of_all, atom_symbols_of, symbols_of-Int}
use Rattle.lps_model.specs.VariableLists.{args_vars, built_vars, term_vars, expr_vars}
use Rattle.lps_model.proofs.Elements.{first_or_later, first_is_contained, nothing_contained}
use Rattle.lps_model.specs.Clauses.{Clause}
use Rattle.lps_derivation.specs.Derivation.{Agrees}
use Rattle.lps_derivation.specs.Expressions.{put_expr, expr_symbols_of}
use Rattle.lps_derivation.specs.Ground.{is_ground, is_ground-Int}
use Rattle.lps_terms.specs.Integers.{is_i64}
use Rattle.lps_derivation.specs.Instances.{IsSmallBuilt, put_built, put_cond}
use Rattle.lps_derivation.specs.Laws.{IsDerivedFrom}
use Rattle.lps_derivation.specs.Levels.{AreLevels}
use Rattle.lps_derivation.proofs.Puts.{ground_stays}
use Rattle.lps_values.specs.Truth.{is_true, is_value}
use Rattle.lps_values.specs.Values.{value_of}
use Rattle.lps_unify.specs.Bindings.{TrailedBindings, Solves}
use Rattle.lps_solve.specs.declared.ways.Ways.{Ways}
use Rattle.lps_solve.specs.Answers.{IsSound}
use Rattle.lps_solve.specs.Found.{atom_of, Finds}
use Rattle.lps_solve.specs.Met.{AreGround, IsGroundBuilt, is_ground_expr, IsMetBuilt, IsMetCond, MeetsBuilt, MeetsOn}
use Rattle.lps_solve.proofs.Grounds.{list_stays, expr_stays}
use Rattle.lps_solve.proofs.Truths.{true_ground}
use Rattle.lps_solve.proofs.Vars.{all_append, all_first, all_second}

-- ---- rows

-- the row of no terms, or else no row
abbrev met_rows : Bool → List (List Term)
met_rows met = if met then ([] ∷ []) else []

abbrev no_terms : List Term
no_terms = []

one_row : (row : List Term) (x : List Term) → Contains (row ∷ []) x → x ≡ row
one_row row x h = elim (first_or_later row [] x h) [ inl e ↦ sym e | inr none ↦ absurd (nothing_contained x none) ]

row_is : (row : List Term) (x : List Term) → x ≡ row → Contains (row ∷ []) x
row_is row x e = subst (Contains (row ∷ [])) (sym e) (first_is_contained row [])

same_first : (x y : Term) (xs ys : List Term) → x ∷ xs ≡ y ∷ ys → x ≡ y
same_first x y xs ys e = cc

one_ground : (x : Term) → is_ground x ≡ true → AreGround (x ∷ [])
one_ground x h = ap (λ b. b && true) h

-- the terms are the given ones, met exactly where P holds
abbrev Meets : (terms : List Term) (rows : List (List Term)) → ((ℕ → Term) → Type 0) → Type 0
Meets terms rows P = (s : ℕ → Term) → P s ↔ Contains rows (map (put s) terms)

-- ---- built-ins

-- from what is told of the terms and the rows of the ways
ways_are : (built : Built) (ways : Ways) (terms : List Term) (rows : List (List Term)) → ways.terms ≡ terms → ways.rows ≡ rows → Meets terms rows (λ s. IsMetBuilt (put_built s built)) →
    ((row : List Term) → Contains rows row → AreGround row) → ((count : ℕ) → AllByRecursion (λ v. v < count) (built_vars built) → AllByRecursion (λ v. v < count) (args_vars terms)) → MeetsBuilt built ways
ways_are built ways terms rows et er met ground within = record {
  met = λ s. subst (λ (rs : List (List Term)). IsMetBuilt (put_built s built) ↔ Contains rs (map (put s) ways.terms)) (sym er)
      (subst (λ (ts : List Term). IsMetBuilt (put_built s built) ↔ Contains rows (map (put s) ts)) (sym et) (met s));
  ground = λ row h. ground row (subst (λ (rs : List (List Term)). Contains rs row) er h);
  within = λ count h. subst (λ (ts : List Term). AllByRecursion (λ v. v < count) (args_vars ts)) (sym et) (within count h);
}

-- the variables of one term
vars_one : (P : ℕ → Type 0) (x : Term) → AllByRecursion P (term_vars x) → AllByRecursion P (args_vars (x ∷ []))
vars_one P x h = all_append P (term_vars x) [] h tt

module _ (left right : Term) (small : IsSmallBuilt (b.Same left right)) where
  same_true : (x y : Term) → is_true (b.Same x y) ≡ true → x ≡ y
  same_true x y h = (term_eq-decides x y).0 h

  same_met : (s : ℕ → Term) (value other : Term) → is_ground value ≡ true → symbols_of value ≤ 1024 → put s other ≡ value → IsTrue (is_ground (put s other)) × (symbols_of (put s other) ≤ 1024)
  same_met s value other ground little e = (ap is_ground e ∙ ground, subst (λ (x : Term). symbols_of x ≤ 1024) (sym e) little)

  pub left_ways : (ways : Ways) → is_ground left ≡ true → ways.terms ≡ right ∷ [] → ways.rows ≡ (left ∷ []) ∷ [] → MeetsBuilt (b.Same left right) ways
  left_ways ways ground et er = ways_are (b.Same left right) ways (right ∷ []) ((left ∷ []) ∷ []) et er
      (λ s. (
        λ m. row_is (left ∷ []) (put s right ∷ []) (ap (λ x. x ∷ []) (sym (same_true (put s left) (put s right) m.met) ∙ ground_stays s left ground)),
        λ h.
            let e : put s right ≡ left = same_first (put s right) left [] [] (one_row (left ∷ []) (put s right ∷ []) h) in
            let stays : put s left ≡ left = ground_stays s left ground in
            let r = same_met s left right ground small.0 e in
            let l = same_met s left left ground small.0 stays in
            record { ground = (l.0, r.0); small = (l.1, r.1); met = (term_eq-decides (put s left) (put s right)).1 (stays ∙ sym e) },
      ))
      (λ row h. subst AreGround (sym (one_row (left ∷ []) row h)) (one_ground left ground))
      (λ count h. vars_one (λ v. v < count) right (all_second (λ v. v < count) (term_vars left) (term_vars right) h))

  pub right_ways : (ways : Ways) → is_ground right ≡ true → ways.terms ≡ left ∷ [] → ways.rows ≡ (right ∷ []) ∷ [] → MeetsBuilt (b.Same left right) ways
  right_ways ways ground et er = ways_are (b.Same left right) ways (left ∷ []) ((right ∷ []) ∷ []) et er
      (λ s. (
        λ m. row_is (right ∷ []) (put s left ∷ []) (ap (λ x. x ∷ []) (same_true (put s left) (put s right) m.met ∙ ground_stays s right ground)),
        λ h.
            let e : put s left ≡ right = same_first (put s left) right [] [] (one_row (right ∷ []) (put s left ∷ []) h) in
            let stays : put s right ≡ right = ground_stays s right ground in
            let l = same_met s right left ground small.1 e in
            let r = same_met s right right ground small.1 stays in
            record { ground = (l.0, r.0); small = (l.1, r.1); met = (term_eq-decides (put s left) (put s right)).1 (e ∙ sym stays) },
      ))
      (λ row h. subst AreGround (sym (one_row (right ∷ []) row h)) (one_ground right ground))
      (λ count h. vars_one (λ v. v < count) left (all_first (λ v. v < count) (term_vars left) (term_vars right) h))

-- nothing meets a built-in that is ground in no instance
pub never_ways : (built : Built) (ways : Ways) → ((s : ℕ → Term) → IsGroundBuilt (put_built s built) → ⊥) → ways.terms ≡ [] → ways.rows ≡ [] → MeetsBuilt built ways
never_ways built ways never et er = ways_are built ways [] [] et er
    (λ s. (
      λ m. absurd (never s m.ground),
      λ h. absurd (nothing_contained [] h),
    ))
    (λ row h. absurd (nothing_contained row h))
    (λ count h. tt)

-- a built-in that stays as it is where terms are put in
module _ (built : Built) (ground : IsGroundBuilt built) (small : IsSmallBuilt built) (stays : (s : ℕ → Term) → put_built s built ≡ built) where
  tested : (holds : Bool) → is_true built ≡ holds → Meets [] (met_rows holds) (λ s. IsMetBuilt (put_built s built))
  tested true e = λ s. (
    λ m. first_is_contained [] [],
    λ h. subst IsMetBuilt (sym (stays s)) record { ground = ground; small = small; met = e },
  )
  tested false e = λ s. (
    λ m. absurd (let holds : is_true built ≡ true = ap is_true (sym (stays s)) ∙ m.met in cc),
    λ h. absurd (nothing_contained [] h),
  )

  empty_ground : (holds : Bool) (row : List Term) → Contains (met_rows holds) row → AreGround row
  empty_ground true row h = subst AreGround (sym (one_row [] row h)) refl
  empty_ground false row h = absurd (nothing_contained row h)

  pub test_ways : (ways : Ways) (holds : Bool) → is_true built ≡ holds → ways.terms ≡ [] → ways.rows ≡ (met_rows holds) → MeetsBuilt built ways
  test_ways ways holds e et er = ways_are built ways [] (met_rows holds) et er (tested holds e) (empty_ground holds) (λ count h. tt)

pub differ_stays : (left right : Term) → is_ground left ≡ true → is_ground right ≡ true → (s : ℕ → Term) → put_built s (b.Differ left right) ≡ b.Differ left right
differ_stays left right l r s = λ i. b.Differ (ground_stays s left l i) (ground_stays s right r i)

pub compare_stays : (rel : Rel) (left right : Expr) → is_ground_expr left ≡ true → is_ground_expr right ≡ true → (s : ℕ → Term) → put_built s (b.Compare rel left right) ≡ b.Compare rel left right
compare_stays rel left right l r s = λ i. b.Compare rel (expr_stays s left l i) (expr_stays s right r i)

value_is : (x : Term) (z : ℤ) → is_value x (Some z) ≡ true → x ≡ t.Int z
value_is (t.Int n) z h = ap (λ k. t.Int k) ((Decides-int_eq n z).0 h)
value_is (t.Sym n) z h = absurd (cc)
value_is (App' n shape row) z h = absurd (cc)
value_is (t.Var v) z h = absurd (cc)

in_range : (z : ℤ) → FitsSigned w64 z → is_i64 z ≡ true
in_range (pos n) h = grind (arith, ints, nat_tests)
in_range (negsuc n) h = grind (arith, ints, nat_tests)

int_value : (z : ℤ) → is_value (t.Int z) (Some z) ≡ true
int_value z = (Decides-int_eq z z).1 refl

no_value : (x : Term) (value : Option ℤ) → value ≡ None → is_value x value ≡ false
no_value (t.Int n) value e = ap (is_value (t.Int n)) e
no_value (t.Sym n) value e = refl
no_value (App' n shape row) value e = refl
no_value (t.Var v) value e = refl

pub fits_range : (z : ℤ) → FitsSigned w64 z → is_ground (t.Int z) ≡ true
fits_range z h = is_ground-Int z ∙ in_range z h

module _ (left : Term) (right : Expr) (ground : is_ground_expr right ≡ true) (small : IsSmallBuilt (b.Is left right)) where
  pub value_ways : (ways : Ways) (z : ℤ) → is_ground (t.Int z) ≡ true → value_of right ≡ Some z → ways.terms ≡ left ∷ [] → ways.rows ≡ (t.Int z ∷ []) ∷ [] → MeetsBuilt (b.Is left right) ways
  value_ways ways z range e et er = ways_are (b.Is left right) ways (left ∷ []) ((t.Int z ∷ []) ∷ []) et er
      (λ s.
      let stays : put_expr s right ≡ right = expr_stays s right ground in (
        λ m. row_is (t.Int z ∷ []) (put s left ∷ []) (ap (λ x. x ∷ [])
            (value_is (put s left) z (sym (ap (is_value (put s left)) (ap value_of stays ∙ e)) ∙ m.met))),
        λ h.
            let is : put s left ≡ t.Int z = same_first (put s left) (t.Int z) [] [] (one_row (t.Int z ∷ []) (put s left ∷ []) h) in
            let one : symbols_of (put s left) ≡ 1 = ap symbols_of is ∙ symbols_of-Int z in
            record {
              ground = (ap is_ground is ∙ range, ap is_ground_expr stays ∙ ground);
              small = ((omega (arith, one)), subst (λ (x : Expr). expr_symbols_of x ≤ 1024) (sym stays) small.1);
              met = (λ i. is_value (is i) ((ap value_of stays ∙ e) i)) ∙ int_value z;
            },
      ))
      (λ row h. subst AreGround (sym (one_row (t.Int z ∷ []) row h)) (one_ground (t.Int z) range))
      (λ count h. vars_one (λ v. v < count) left (all_first (λ v. v < count) (term_vars left) (expr_vars right) h))

  pub no_value_ways : (ways : Ways) → value_of right ≡ None → ways.terms ≡ [] → ways.rows ≡ [] → MeetsBuilt (b.Is left right) ways
  no_value_ways ways e et er = ways_are (b.Is left right) ways [] [] et er
      (λ s. (
        λ m. absurd (let lacks = no_value (put s left) (value_of (put_expr s right)) (ap value_of (expr_stays s right ground) ∙ e) in let has = m.met in cc),
        λ h. absurd (nothing_contained [] h),
      ))
      (λ row h. absurd (nothing_contained row h))
      (λ count h. tt)

-- ---- literals

some_in : {X : Type 0} (xs : List X) → (xs ≡ [] → ⊥) → (y : X) × Contains xs y
some_in [] ne = absurd (ne refl)
some_in (x ∷ xs) ne = (x, first_is_contained x xs)

module _ (program : List Clause) (facts : List Atom) (sound : IsSound program facts) (b : TrailedBindings) (lit : Lit) (found : List (List Term))
    (finds : Finds program facts b lit.atom found) where
  module _ (level : List ℕ → ℕ) (levels : AreLevels program level) where
    abbrev IsTrueHere : Atom → Type 0
    IsTrueHere a = IsDerivedFrom is_true program facts level a

    found_ground : (x : List Term) → Contains found x → AreGround x
    found_ground x h = let answer = (finds level levels x).0 h in true_ground program facts sound level levels (atom_of lit.atom.name x) answer.true

    pub positive_on : (ways : Ways) → lit.negated ≡ false → ways.terms ≡ lit.atom.args → ways.rows ≡ found → MeetsOn program facts level b (λ s. put_cond s (c.Lit lit)) ways
    positive_on ways plain et er = record {
      met = λ s solves.
          subst (λ (rs : List (List Term)). IsMetCond program facts level (put_cond s (c.Lit lit)) ↔ Contains rs (map (put s) ways.terms)) (sym er)
          (subst (λ (ts : List Term). IsMetCond program facts level (put_cond s (c.Lit lit)) ↔ Contains found (map (put s) ts)) (sym et) (both s solves));
      ground = λ row h. found_ground row (subst (λ (rs : List (List Term)). Contains rs row) er h);
    }
      where
        both : (s : ℕ → Term) → Solves s b → IsMetCond program facts level (put_cond s (c.Lit lit)) ↔ Contains found (map (put s) lit.atom.args)
        both s solves = (
          λ m. (finds level levels (map (put s) lit.atom.args)).1 record {
            values = s;
            solve = solves;
            is = refl;
            true = subst (λ n. Agrees n (IsTrueHere (put_atom s lit.atom))) plain m.met;
            small = m.small;
          },
          λ h.
              let answer = (finds level levels (map (put s) lit.atom.args)).0 h in
              record {
                ground = found_ground (map (put s) lit.atom.args) h;
                small = answer.small;
                met = subst (λ n. Agrees n (IsTrueHere (put_atom s lit.atom))) (sym plain) answer.true;
              },
        )

    pub negative_on : (ways : Ways) (none : Bool) → lit.negated ≡ true → AreGround lit.atom.args → atom_symbols_of lit.atom ≤ 1024 → (none ≡ true → found ≡ []) → (none ≡ false → found ≡ [] → ⊥) →
        ways.terms ≡ [] → ways.rows ≡ (met_rows none) → MeetsOn program facts level b (λ s. put_cond s (c.Lit lit)) ways
    negative_on ways none negated ground small empty full et er = record {
      met = λ s solves.
          subst (λ (rs : List (List Term)). IsMetCond program facts level (put_cond s (c.Lit lit)) ↔ Contains rs (map (put s) ways.terms)) (sym er)
          (subst (λ (ts : List Term). IsMetCond program facts level (put_cond s (c.Lit lit)) ↔ Contains (met_rows none) (map (put s) ts)) (sym et) (both none refl s solves));
      ground = λ row h. rows_ground none row (subst (λ (rs : List (List Term)). Contains rs row) er h);
    }
      where
        rows_ground : (n : Bool) (row : List Term) → Contains (met_rows n) row → AreGround row
        rows_ground true row h = subst AreGround (sym (one_row [] row h)) refl
        rows_ground false row h = absurd (nothing_contained row h)

        args_stay : (s : ℕ → Term) → map (put s) lit.atom.args ≡ lit.atom.args
        args_stay s = list_stays s lit.atom.args ground

        true_found : (s : ℕ → Term) → Solves s b → IsTrueHere (put_atom s lit.atom) → Contains found lit.atom.args
        true_found s solves h = (finds level levels lit.atom.args).1 record {
          values = s;
          solve = solves;
          is = sym (args_stay s);
          true = subst (λ (xs : List Term). IsTrueHere (atom_of lit.atom.name xs)) (args_stay s) h;
          small = small;
        }

        found_true : (s : ℕ → Term) → (y : List Term) → Contains found y → IsTrueHere (put_atom s lit.atom)
        found_true s y h =
            let answer = (finds level levels y).0 h in
            let same : y ≡ map (put s) lit.atom.args = answer.is ∙ args_stay answer.values ∙ sym (args_stay s) in
            subst (λ (xs : List Term). IsTrueHere (atom_of lit.atom.name xs)) same answer.true

        both : (n : Bool) → none ≡ n → (s : ℕ → Term) → Solves s b → IsMetCond program facts level (put_cond s (c.Lit lit)) ↔ Contains (met_rows n) no_terms
        both true e s solves = (
          λ m. first_is_contained [] [],
          λ h. record {
            ground = subst AreGround (sym (args_stay s)) ground;
            small = subst (λ (xs : List Term). 1 + symbols_of_all xs ≤ 1024) (sym (args_stay s)) small;
            met = subst (λ n. Agrees n (IsTrueHere (put_atom s lit.atom))) (sym negated)
                (λ h. nothing_contained lit.atom.args (subst (λ (xs : List (List Term)). Contains xs lit.atom.args) (empty e) (true_found s solves h)));
          },
        )
        both false e s solves = (
          λ m.
              let one = some_in found (full e) in
              let fails = subst (λ n. Agrees n (IsTrueHere (put_atom s lit.atom))) negated m.met in
              absurd (fails (found_true s one.0 one.1)),
          λ h. absurd (nothing_contained [] h),
        )

-- nothing meets a condition that is too large
pub never_on : (program : List Clause) (facts : List Atom) (level : List ℕ → ℕ) (b : TrailedBindings) (cond : (ℕ → Term) → Cond) (ways : Ways) →
    ((s : ℕ → Term) → Solves s b → IsMetCond program facts level (cond s) → ⊥) → ways.rows ≡ [] → MeetsOn program facts level b cond ways
never_on program facts level b cond ways never er = record {
  met = λ s solves. (
    λ m. absurd (never s solves m),
    λ h. absurd (nothing_contained (map (put s) ways.terms) (subst (λ (rs : List (List Term)). Contains rs (map (put s) ways.terms)) er h)),
  );
  ground = λ row h. absurd (nothing_contained row (subst (λ (rs : List (List Term)). Contains rs row) er h));
}

-- a built-in meets as a condition
pub built_on : (program : List Clause) (facts : List Atom) (level : List ℕ → ℕ) (b : TrailedBindings) (built : Built) (ways : Ways) → MeetsBuilt built ways →
    MeetsOn program facts level b (λ s. put_cond s (c.Built built)) ways
built_on program facts level b built ways h = record {
  met = λ s solves. (
    λ m. (h.met s).0 record { ground = m.ground; small = m.small; met = m.met },
    λ inside. let m = (h.met s).1 inside in record { ground = m.ground; small = m.small; met = m.met },
  );
  ground = h.ground;
}

-- what solutions make of the condition is what is met
pub same_on : (program : List Clause) (facts : List Atom) (level : List ℕ → ℕ) (b : TrailedBindings) (cond other : (ℕ → Term) → Cond) (ways : Ways) →
    ((s : ℕ → Term) → Solves s b → cond s ≡ other s) → MeetsOn program facts level b cond ways → MeetsOn program facts level b other ways
same_on program facts level b cond other ways same h = record {
  met = λ s solves. subst (λ (k : Cond). IsMetCond program facts level k ↔ Contains ways.rows (map (put s) ways.terms)) (same s solves) (h.met s solves);
  ground = h.ground;
}
