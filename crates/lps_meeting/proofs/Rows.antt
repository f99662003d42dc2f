-- The instances of a literal or a built-in are the ways to meet it.
use Rattle.std.proofs.Common.{ℕ, ◌≡◌, ◌≤◌, ◌<◌, ◌+◌, List, [], ◌∷◌, ◌++◌, map, refl, sym, ap, subst, ◌∙◌, arith, get_or, inl, inr, pos}
use Rattle.std.specs.Prelude.{◌↔◌, ◌&&◌, Bool, true, false, Contains, IfOk, Option, Result, Some, None}
use Rattle.std.specs.List.{AllByRecursion}
use Rattle.std.specs.Option.{option_or}
use Rattle.std.proofs.lemmas.List.{length-map, map-append}
use Rattle.std.proofs.lemmas.List.Elements.{Contains-append_left, Contains-push, Contains-push_cases}
use Rattle.lps_terms.specs.declared.atom.Atom.{Atom}
use Rattle.lps_terms.specs.declared.built.Built.{Built}
use Rattle.lps_terms.specs.declared.built.Built.TheVariants as b
use Rattle.lps_terms.specs.declared.cond.Cond.{Cond}
use Rattle.lps_terms.specs.declared.cond.Cond.TheVariants as c
use Rattle.lps_terms.specs.declared.expr.Expr.{Expr}
use Rattle.lps_terms.specs.declared.lit.Lit.{Lit}
use Rattle.lps_terms.specs.declared.term.Term.{Term}
use Rattle.lps_terms.specs.declared.term.Term.TheVariants as t
use Rattle.lps_terms.specs.declared.text.Text.{Text}
use Rattle.lps_terms.specs.declared.values.Values.{Values}
use Rattle.lps_terms.specs.Put.{put, put_atom}
use Rattle.lps_terms.specs.Symbols.{atom_symbols_of, symbols_of, symbols_of_all}
use Rattle.lps_model.specs.Clauses.{Clause, clauses}
use Rattle.lps_model.specs.Known.{Scope, built_needs, cond_needs, learnt, unknown_among}
use Rattle.lps_model.specs.Program.{declarations}
use Rattle.lps_model.proofs.Elements.{nothing_contained}
use Rattle.lps_model.specs.VariableLists.{args_vars, built_vars, cond_vars, expr_vars, term_vars}
use Rattle.lps_derivation.specs.Ground.{is_ground}
use Rattle.lps_derivation.specs.Instances.{IsSmall, IsSmallBuilt, put_built}
use Rattle.lps_derivation.specs.Levels.{AreLevels}
use Rattle.lps_meaning.specs.declared.node.LeftItem.{LeftItem}
use Rattle.lps_meaning.specs.declared.node.LeftItem.TheVariants as l
use Rattle.lps_meaning.specs.declared.when.When.{When}
use Rattle.lps_meaning.specs.declared.when.When.TheVariants.{Known}
use Rattle.lps_meaning.proofs.Occurrences.{same_puts}
use Rattle.lps_unify.specs.Bindings.{TrailedBindings}
use Rattle.lps_unify.specs.Unified.{AreWithin}
use Rattle.lps_solve.specs.Answers.{IsInstanceFor, IsSound}
use Rattle.lps_solve.specs.Found.{ByOne, Gains, IsRow}
use Rattle.lps_solve.specs.Met.{AreGround, IsGroundBuilt, IsMetCond}
use Rattle.lps_solve.specs.Moded.{AreModedFor, IsClosed}
use Rattle.lps_solve.proofs.Closed.{closed_expr_stays, closed_stays, no_left, no_right, put_args_closed}
use Rattle.lps_solve.proofs.Results.{IfOk-map}
use Rattle.lps_solve.proofs.Sizes.{each_small}
use Rattle.lps_solve.proofs.Vars.{all_append, all_first, all_second, all_weaker, are_within, no_vars_list}
use Rattle.lps_meeting.specs.declared.ways.Ways.{Ways}
use Rattle.lps_meeting.specs.Steps.{AreGroundAtoms, AreInstances, AreWays, IsFresh, IsLeftBelow, IsMetBy, IsReadyItem, IsRowOfEvent, decided_by}
use Rattle.lps_residual.proofs.Knowing.{AreIn, IsIn, learnt_has, none_unknown}

abbrev pub rows_of : Ways → List (List Term)
rows_of ways = map (λ v. v.0) ways.rows.items

-- ---- what is asked for

none_both : {X : Type 0} (one other : Option X) → one ≡ None → other ≡ None → option_or one other ≡ None
none_both None other e f = f
none_both (Some x) other e f = absurd (cc)

-- a condition is well-moded alone where nothing that it needs is unknown, and its terms have no other variables
alone_moded : (text : Text) (bs : TrailedBindings) (scope : Scope) → scope.decls ≡ declarations text → scope.is_planned ≡ false → (cond : Cond) (terms : List Term) →
    unknown_among scope.names [] (cond_needs scope [] cond) ≡ None → AreIn (learnt [] (cond_vars cond)) (args_vars terms) → AreModedFor text bs (cond ∷ []) terms
alone_moded text bs scope declared seen cond terms none known = record {
  scope = scope;
  declared = declared;
  seen = seen;
  known = [];
  ground = tt;
  moded = none_both (unknown_among scope.names [] (cond_needs scope [] cond)) (unknown_among scope.names (learnt [] (cond_vars cond)) (args_vars terms)) none
      (none_unknown scope.names (learnt [] (cond_vars cond)) (args_vars terms) known);
}

pub lit_moded : (text : Text) (bs : TrailedBindings) (lit : Lit) → IsReadyItem text (l.Bare lit) → AreModedFor text bs (c.Lit lit ∷ []) lit.atom.args
lit_moded text bs lit ready = alone_moded text bs ready.scope ready.declared ready.seen (c.Lit lit) lit.atom.args ready.moded (learnt_has [] (args_vars lit.atom.args))

-- what is so of the variables of a built-in is so of those of the terms that decide it
decided_are : (P : ℕ → Type 0) (built : Built) → AllByRecursion P (built_vars built) → AllByRecursion P (args_vars (decided_by built))
decided_are P (b.Same x y) h = all_append P (term_vars x) (term_vars y ++ []) (all_first P (term_vars x) (term_vars y) h) (all_append P (term_vars y) [] (all_second P (term_vars x) (term_vars y) h) tt)
decided_are P (b.Differ x y) h = tt
decided_are P (b.Is x e) h = all_append P (term_vars x) [] (all_first P (term_vars x) (expr_vars e) h) tt
decided_are P (b.Compare rel x y) h = tt

pub built_moded : (text : Text) (bs : TrailedBindings) (built : Built) → IsReadyItem text (l.Built built) → AreModedFor text bs (c.Built built ∷ []) (decided_by built)
built_moded text bs built ready =
    alone_moded text bs ready.scope ready.declared ready.seen (c.Built built) (decided_by built) ready.moded
    (decided_are (IsIn (learnt [] (built_vars built))) built (learnt_has [] (built_vars built)))

pub decided_within : (n : ℕ) (built : Built) → AllByRecursion (λ v. v < n) (built_vars built) → AreWithin n (decided_by built)
decided_within n built h = are_within n (decided_by built) (decided_are (λ v. v < n) built h)

-- ---- built-ins by the terms that decide them

-- where nothing is known and nothing that is needed is unknown, nothing is needed
nothing_needed : (names : List (List ℕ)) (vars : List ℕ) → unknown_among names [] vars ≡ None → vars ≡ []
nothing_needed names [] h = refl
nothing_needed names (v ∷ vars) h = absurd (cc)

abbrev term_at : ℕ → List Term → Term
term_at k xs = get_or xs k (t.Int (pos 0))

module _ (names : List (List ℕ)) (s : ℕ → Term) where
  both_closed : (x y : Term) → unknown_among names [] (term_vars x ++ term_vars y) ≡ None → (term_vars x ≡ []) × (term_vars y ≡ [])
  both_closed x y none = let all = nothing_needed names (term_vars x ++ term_vars y) none in (no_left (term_vars x) (term_vars y) all, no_right (term_vars x) (term_vars y) all)

  both_exprs : (x y : Expr) → unknown_among names [] (expr_vars x ++ expr_vars y) ≡ None → (expr_vars x ≡ []) × (expr_vars y ≡ [])
  both_exprs x y none = let all = nothing_needed names (expr_vars x ++ expr_vars y) none in (no_left (expr_vars x) (expr_vars y) all, no_right (expr_vars x) (expr_vars y) all)

  built_same : (built : Built) → unknown_among names [] (built_needs [] built) ≡ None → (r : ℕ → Term) → map (put s) (decided_by built) ≡ map (put r) (decided_by built) → put_built s built ≡ put_built r built
  built_same (b.Same x y) none r e = λ i. b.Same (term_at 0 (e i)) (term_at 1 (e i))
  built_same (b.Differ x y) none r e =
      let closed = both_closed x y none in λ i. b.Differ ((closed_stays s x closed.0 ∙ sym (closed_stays r x closed.0)) i) ((closed_stays s y closed.1 ∙ sym (closed_stays r y closed.1)) i)
  built_same (b.Is x y) none r e =
      let closed = nothing_needed names (expr_vars y) none in λ i. b.Is (term_at 0 (e i)) ((closed_expr_stays s y closed ∙ sym (closed_expr_stays r y closed)) i)
  built_same (b.Compare rel x y) none r e =
      let closed = both_exprs x y none in
      λ i. b.Compare rel ((closed_expr_stays s x closed.0 ∙ sym (closed_expr_stays r x closed.0)) i) ((closed_expr_stays s y closed.1 ∙ sym (closed_expr_stays r y closed.1)) i)

  none_of : (vs : List ℕ) → vs ≡ [] → AllByRecursion (λ v. IsClosed (s v)) vs
  none_of vs e = subst (AllByRecursion (λ v. IsClosed (s v))) (sym e) tt

  -- where the terms are ground, each variable of the built-in has a value
  built_closed : (built : Built) → unknown_among names [] (built_needs [] built) ≡ None → AreGround (map (put s) (decided_by built)) → AllByRecursion (λ v. IsClosed (s v)) (built_vars built)
  built_closed built none ground = by built none (put_args_closed s (decided_by built) (no_vars_list (map (put s) (decided_by built)) ground))
    where
      by : (built : Built) → unknown_among names [] (built_needs [] built) ≡ None → AllByRecursion (λ v. IsClosed (s v)) (args_vars (decided_by built)) → AllByRecursion (λ v. IsClosed (s v)) (built_vars built)
      by (b.Same x y) none h =
          all_append (λ v. IsClosed (s v)) (term_vars x) (term_vars y) (all_first (λ v. IsClosed (s v)) (term_vars x) (term_vars y ++ []) h)
          (all_first (λ v. IsClosed (s v)) (term_vars y) [] (all_second (λ v. IsClosed (s v)) (term_vars x) (term_vars y ++ []) h))
      by (b.Differ x y) none h = none_of (term_vars x ++ term_vars y) (nothing_needed names (term_vars x ++ term_vars y) none)
      by (b.Is x y) none h =
          all_append (λ v. IsClosed (s v)) (term_vars x) (expr_vars y) (all_first (λ v. IsClosed (s v)) (term_vars x) [] h) (none_of (expr_vars y) (nothing_needed names (expr_vars y) none))
      by (b.Compare rel x y) none h = none_of (expr_vars x ++ expr_vars y) (nothing_needed names (expr_vars x ++ expr_vars y) none)

module _ (s : ℕ → Term) where
  and_true : (one two : Bool) → one ≡ true → two ≡ true → (one && two) ≡ true
  and_true true two e f = f
  and_true false two e f = absurd (cc)

  decided_ground : (built : Built) → IsGroundBuilt (put_built s built) → AreGround (map (put s) (decided_by built))
  decided_ground (b.Same x y) h = and_true (is_ground (put s x)) (is_ground (put s y) && true) h.0 (and_true (is_ground (put s y)) true h.1 refl)
  decided_ground (b.Differ x y) h = refl
  decided_ground (b.Is x y) h = and_true (is_ground (put s x)) true h.0 refl
  decided_ground (b.Compare rel x y) h = refl

  decided_small : (built : Built) → IsSmallBuilt (put_built s built) → AllByRecursion (λ x. IsSmall (symbols_of x)) (map (put s) (decided_by built))
  decided_small (b.Same x y) h = (h.0, (h.1, tt))
  decided_small (b.Differ x y) h = tt
  decided_small (b.Is x y) h = (h.0, tt)
  decided_small (b.Compare rel x y) h = tt

-- what is the same of terms is so of these where they are the terms
same_terms : {xs ts : List Term} → xs ≡ ts → (s r : ℕ → Term) → map (put s) ts ≡ map (put r) ts → map (put s) xs ≡ map (put r) xs
same_terms are s r e = ap (map (put s)) are ∙ e ∙ sym (ap (map (put r)) are)

-- ---- the ways

module _ (text : Text) (facts events : List Atom) (n : ℕ) (bs : TrailedBindings) (fresh : IsFresh n bs) (most : ℕ) (ways : Ways) where
  abbrev program : List Clause
  program = clauses text

  -- arguments that are small together are so each
  lit_row : (x : List Term) → AreGround x → 1 + symbols_of_all x ≤ 1024 → IsRow most 1023 x
  lit_row x ground small = record {
    ground = ground;
    each = all_weaker (λ y. symbols_of y ≤ 1023) (λ y. IsSmall (symbols_of y)) (λ y h. omega (arith, h)) x (each_small 1023 x (omega (arith, small)));
    all = omega (arith, small);
  }

  pub lit_ways : (lit : Lit) → IsLeftBelow n (l.Bare lit) → AreInstances program facts most 1023 bs (c.Lit lit) lit.atom.args ways → AreWays program facts events n (l.Bare lit) ways
  lit_ways lit below is = record {
    within = subst (AreWithin n) (sym is.terms_are) (are_within n lit.atom.args below);
    ground = is.ground;
    own = λ s r agree. same_terms is.terms_are s r (same_puts s r lit.atom.args agree);
    closed = λ s among.
        put_args_closed s lit.atom.args (no_vars_list (map (put s) lit.atom.args) (subst (λ ts. AreGround (map (put s) ts)) is.terms_are (is.ground (map (put s) ways.terms) among)));
    exact = λ level levels s. (to level levels s, from level levels s);
  } where
    to : (level : List ℕ → ℕ) → AreLevels program level → (s : ℕ → Term) → IsMetBy program facts level events s (l.Bare lit) → Contains (rows_of ways) (map (put s) ways.terms)
    to level levels s met = subst (λ ts. Contains (rows_of ways) (map (put s) ts)) (sym is.terms_are) ((is.exact level levels (map (put s) lit.atom.args)).1
        (record { values = s; solve = fresh.free s; met = (met, tt); is = refl; fits = lit_row (map (put s) lit.atom.args) met.ground met.small }))

    from : (level : List ℕ → ℕ) → AreLevels program level → (s : ℕ → Term) → Contains (rows_of ways) (map (put s) ways.terms) → IsMetBy program facts level events s (l.Bare lit)
    from level levels s among =
        let found = (is.exact level levels (map (put s) lit.atom.args)).0 (subst (λ ts. Contains (rows_of ways) (map (put s) ts)) is.terms_are among) in
        subst (λ args. IsMetCond program facts level (c.Lit (record { negated = lit.negated; atom = record { name = lit.atom.name; args = args } }))) (sym found.is) found.met.0

  pub built_ways : (built : Built) → IsReadyItem text (l.Built built) → IsLeftBelow n (l.Built built) → AreInstances program facts most most bs (c.Built built) (decided_by built) ways →
      AreWays program facts events n (l.Built built) ways
  built_ways built ready below is = record {
    within = subst (AreWithin n) (sym is.terms_are) (decided_within n built below);
    ground = is.ground;
    own = λ s r agree. same_terms is.terms_are s r (same_puts s r (decided_by built) (decided_are (λ v. s v ≡ r v) built agree));
    closed = λ s among. built_closed ready.scope.names s built ready.moded (subst (λ ts. AreGround (map (put s) ts)) is.terms_are (is.ground (map (put s) ways.terms) among));
    exact = λ level levels s. (to level levels s, from level levels s);
  } where
    to : (level : List ℕ → ℕ) → AreLevels program level → (s : ℕ → Term) → IsMetBy program facts level events s (l.Built built) → Contains (rows_of ways) (map (put s) ways.terms)
    to level levels s met = subst (λ ts. Contains (rows_of ways) (map (put s) ts)) (sym is.terms_are) ((is.exact level levels (map (put s) (decided_by built))).1 (record {
      values = s;
      solve = fresh.free s;
      met = (met, tt);
      is = refl;
      fits = record { ground = decided_ground s built met.ground; each = decided_small s built met.small; all = omega arith };
    }))

    from : (level : List ℕ → ℕ) → AreLevels program level → (s : ℕ → Term) → Contains (rows_of ways) (map (put s) ways.terms) → IsMetBy program facts level events s (l.Built built)
    from level levels s among =
        let found = (is.exact level levels (map (put s) (decided_by built))).0 (subst (λ ts. Contains (rows_of ways) (map (put s) ts)) is.terms_are among) in
        subst (λ put_in. IsMetCond program facts level (c.Built put_in)) (sym (built_same ready.scope.names s built ready.moded found.values found.is)) found.met.0

-- the rows of instances are ground, since there are levels
pub rows_are : (rules : List Clause) (facts : List Atom) (most room : ℕ) (bs : TrailedBindings) (cond : Cond) (conds : List Cond) (terms wanted : List Term) (ways : Ways) → IsSound rules facts →
    conds ≡ cond ∷ [] → wanted ≡ terms → ways.terms ≡ terms →
    ((level : List ℕ → ℕ) → AreLevels rules level → (x : List Term) → Contains (rows_of ways) x ↔ IsInstanceFor rules facts level most room bs conds wanted x) →
    AreInstances rules facts most room bs cond terms ways
rows_are rules facts most room bs cond conds terms wanted ways sound one two same exact = record {
  terms_are = same;
  ground = λ row among. ((exact sound.level sound.levels row).0 among).fits.ground;
  exact = λ level levels row.
      subst (λ ts. Contains (rows_of ways) row ↔ IsInstanceFor rules facts level most room bs (cond ∷ []) ts row) two
      (subst (λ ks. Contains (rows_of ways) row ↔ IsInstanceFor rules facts level most room bs ks wanted row) one (exact level levels row));
}

-- ---- what is found

module _ (text : Text) (facts events : List Atom) (n : ℕ) (bs : TrailedBindings) (fresh : IsFresh n bs) (most : ℕ) where
  pub lit_found : (lit copy : Lit) (atom : Atom) → copy ≡ lit → atom ≡ lit.atom → IsLeftBelow n (l.Bare lit) → {E : Type 0} (r : Result Ways E) →
      IfOk r (AreInstances (clauses text) facts most 1023 bs (c.Lit copy) atom.args) → IfOk r (AreWays (clauses text) facts events n (l.Bare lit))
  lit_found lit copy atom one two below r h =
      IfOk-map r (AreInstances (clauses text) facts most 1023 bs (c.Lit copy) atom.args) (AreWays (clauses text) facts events n (l.Bare lit))
      (λ ways is. lit_ways text facts events n bs fresh most ways lit below
      (subst (λ (a : Atom). AreInstances (clauses text) facts most 1023 bs (c.Lit lit) a.args ways) two (subst (λ k. AreInstances (clauses text) facts most 1023 bs (c.Lit k) atom.args ways) one is))) h

  pub built_found : (built copy : Built) (terms : List Term) → copy ≡ built → terms ≡ decided_by built → IsReadyItem text (l.Built built) → IsLeftBelow n (l.Built built) → {E : Type 0} (r : Result Ways E) →
      IfOk r (AreInstances (clauses text) facts most most bs (c.Built copy) terms) → IfOk r (AreWays (clauses text) facts events n (l.Built built))
  built_found built copy terms one two ready below r h =
      IfOk-map r (AreInstances (clauses text) facts most most bs (c.Built copy) terms) (AreWays (clauses text) facts events n (l.Built built))
      (λ ways is. built_ways text facts events n bs fresh most ways built ready below
      (subst (λ ts. AreInstances (clauses text) facts most most bs (c.Built built) ts ways) two (subst (λ k. AreInstances (clauses text) facts most most bs (c.Built k) terms ways) one is))) h

-- times do not matter to the ways
module _ (rules : List Clause) (facts events : List Atom) (n : ℕ) {E : Type 0} (r : Result Ways E) where
  pub at_found : (item : LeftItem) (lit : Lit) (at : When) → item ≡ l.At lit at → IfOk r (AreWays rules facts events n (l.Bare lit)) → IfOk r (AreWays rules facts events n item)
  at_found item lit at is h =
      subst (λ it. IfOk r (AreWays rules facts events n it)) (sym is)
      (IfOk-map r (AreWays rules facts events n (l.Bare lit)) (AreWays rules facts events n (l.At lit at))
      (λ ways ok. record { within = ok.within; ground = ok.ground; own = ok.own; closed = ok.closed; exact = ok.exact }) h)

  pub span_found : (item : LeftItem) (a : Atom) (from to : When) → item ≡ l.Span a from to → IfOk r (AreWays rules facts events n (l.Span a (Known 0) (Known 0))) → IfOk r (AreWays rules facts events n item)
  span_found item a from to is h =
      subst (λ it. IfOk r (AreWays rules facts events n it)) (sym is)
      (IfOk-map r (AreWays rules facts events n (l.Span a (Known 0) (Known 0))) (AreWays rules facts events n (l.Span a from to))
      (λ ways ok. record { within = ok.within; ground = ok.ground; own = ok.own; closed = ok.closed; exact = ok.exact }) h)

-- ---- events

-- a row more
pub row_added : (a event : Atom) (old new : List Values) (row : Values) → new ≡ old ++ row ∷ [] → IsRowOfEvent a event row.0 → Gains (map (λ v. v.0) old) (map (λ v. v.0) new) (IsRowOfEvent a event)
row_added a event old new row is of x = (
  λ among. elim (Contains-push_cases (map (λ v. v.0) old) row.0 x (subst (λ rows. Contains rows x) rows among)) [ inl before ↦ inl before | inr same ↦ inr (subst (IsRowOfEvent a event) same of) ],
  λ h. subst (λ rows. Contains rows x) (sym rows) (elim h [
    | inl before ↦ Contains-append_left (map (λ v. v.0) old) (row.0 ∷ []) x before
    | inr other ↦ subst (Contains (map (λ v. v.0) old ++ row.0 ∷ [])) (of.is ∙ sym other.is) (Contains-push (map (λ v. v.0) old) row.0)
  ]),
) where
  rows : map (λ v. v.0) new ≡ map (λ v. v.0) old ++ row.0 ∷ []
  rows = ap (map (λ v. v.0)) is ∙ map-append (λ v. v.0) old (row ∷ [])

pub event_ways : (rules : List Clause) (facts events : List Atom) (n : ℕ) (a : Atom) (from to : When) (ways : Ways) → AreGroundAtoms events → IsLeftBelow n (l.Span a from to) → ways.terms ≡ a.args →
    Gains [] (rows_of ways) (ByOne events (IsRowOfEvent a)) → AreWays rules facts events n (l.Span a from to) ways
event_ways rules facts events n a from to ways all_ground below terms gains = record {
  within = subst (AreWithin n) (sym terms) (are_within n a.args below);
  ground = ground;
  own = λ s r agree. same_terms terms s r (same_puts s r a.args agree);
  closed = λ s among. put_args_closed s a.args (no_vars_list (map (put s) a.args) (subst (λ ts. AreGround (map (put s) ts)) terms (ground (map (put s) ways.terms) among)));
  exact = λ level levels s. (
    λ met. subst (λ ts. Contains (rows_of ways) (map (put s) ts)) (sym terms) ((gains (map (put s) a.args)).1
        (inr (put_atom s a, met.0, record { named = refl; count = length-map a.args (put s); small = met.1; is = refl }))),
    λ among. elim ((gains (map (put s) a.args)).0 (subst (λ ts. Contains (rows_of ways) (map (put s) ts)) terms among)) [
      | inl none ↦ absurd (nothing_contained (map (put s) a.args) none)
      | inr found ↦
          let same : found.0 ≡ put_atom s a = λ i. record { name = found.2.named i; args = sym found.2.is i } in
          (subst (Contains events) same found.1, subst (λ event. IsSmall (atom_symbols_of event)) same found.2.small)
    ],
  );
} where
  ground : (row : List Term) → Contains (rows_of ways) row → AreGround row
  ground row among = elim ((gains row).0 among) [
    | inl none ↦ absurd (nothing_contained row none)
    | inr found ↦ subst AreGround (sym found.2.is) (all_ground found.0 found.1)
  ]
