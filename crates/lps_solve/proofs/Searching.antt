-- What each step of a search gains, by any levels.
use Rattle.std.proofs.Common.{ℕ, Bool, true, false, ◌≡◌, ◌+◌, ◌≤◌, ◌<◌, ◌↔◌, List, [], ◌∷◌, ◌++◌, map, take, length, get_or, refl, sym, ap, ◌∙◌, subst, arith}
use Rattle.std.specs.Prelude.{Result, OnOk, Contains}
use Rattle.std.specs.List.{AllByRecursion}
use Rattle.lps_terms.specs.declared.atom.Atom.{Atom}
use Rattle.lps_terms.specs.declared.cond.Cond.{Cond}
use Rattle.lps_terms.specs.declared.term.Term.{Term}
use Rattle.lps_terms.specs.Put.{put}
use Rattle.lps_model.specs.Clauses.{Clause}
use Rattle.lps_derivation.specs.Instances.{put_cond}
use Rattle.lps_unify.specs.Bindings.{TrailedBindings, standing, count_of, IsLawful}
use Rattle.lps_unify.specs.Unified.{AreWithin, JoinsAllOn}
use Rattle.lps_solve.specs.declared.ways.Ways.{Ways}
use Rattle.lps_solve.specs.Answers.{IsSound}
use Rattle.lps_solve.specs.Found.{ByClause, Finds, Gains, GainsBy, IsFactFor, IsResolvedRow, Reaches, ReachesBy}
use Rattle.lps_solve.specs.Met.{AreGround, AreMet, MeetsBy}
use Rattle.lps_solve.specs.Placed.{AreBelow, shift}
use Rattle.lps_solve.specs.Table.{clause_at, clause_vars, IsPlaceFor}
use Rattle.lps_solve.proofs.Entering.{opened, opened_count, are_within_more, head_within, enter_gains, enter_none, enter_other, bound_gains, bound_none, bound_other}
use Rattle.lps_solve.proofs.Gaining.{ByOne, ByOne-more, ByOne-all, ByOne-both, ByOne-none, Gains-same}
use Rattle.lps_solve.proofs.Results.{OnOk-map}
use Rattle.lps_solve.proofs.Truths.{found_all}
use Rattle.lps_solve.proofs.Vars.{all_weaker}

module _ (program : List Clause) (facts : List Atom) (most : ℕ) where
  -- ---- a clause

  module _ (k : Clause) (goal : Atom) (b : TrailedBindings) (more : ℕ) (lawful : IsLawful b) (within : AreWithin (count_of b) goal.args) (base : ℕ) (at : base ≡ count_of b) where
    abbrev the_head : List Term
    the_head = map (put (shift base)) k.head.args

    -- what a unifier of the goal and the head makes of the opened bindings
    module _ (ext new : TrailedBindings) (e : ext ≡ opened b more) (head : List Term) (is : head ≡ the_head) (found : Bool) (h : JoinsAllOn found ext new goal.args head) where
      joined : JoinsAllOn found (opened b more) new goal.args the_head
      joined = subst (λ (c : TrailedBindings). JoinsAllOn found c new goal.args the_head) e (subst (λ (xs : List Term). JoinsAllOn found ext new goal.args xs) is h)

      pub entered : found ≡ true → {T E : Type 0} (r : Result T E) (old out : List (List Term)) → OnOk r (GainsBy program old out (λ level. Reaches program facts level most 1023 new base k.conds goal.args)) →
          OnOk r (GainsBy program old out (λ level. ByClause program facts level most b k goal))
      entered one r old out = OnOk-map r (GainsBy program old out (λ level. Reaches program facts level most 1023 new base k.conds goal.args)) (GainsBy program old out (λ level. ByClause program facts level most b k goal))
          (λ g level levels.
          enter_gains program facts level most k goal b more lawful within base at new old out (subst (λ (f : Bool). JoinsAllOn f (opened b more) new goal.args the_head) one joined) (g level levels))

      pub not_entered : found ≡ false → (old : List (List Term)) → GainsBy program old old (λ level. ByClause program facts level most b k goal)
      not_entered no_unifier old = λ level levels.
          enter_none program facts level most k goal b more lawful within base at new old (subst (λ (f : Bool). JoinsAllOn f (opened b more) new goal.args the_head) no_unifier joined)

    pub other_count : (head : List Term) → head ≡ the_head → (length goal.args ≡ length head → ⊥) → (old : List (List Term)) → GainsBy program old old (λ level. ByClause program facts level most b k goal)
    other_count head is other old = λ level levels. enter_other program facts level most k goal b more lawful within base at old (λ e. other (e ∙ ap length (sym is)))

  -- ---- a row

  module _ (room : ℕ) (b : TrailedBindings) (base : ℕ) (conds : List Cond) (wanted terms row : List Term) (ground : AreGround row) where
    abbrev By : (List ℕ → ℕ) → List Term → Type 0
    By level = ReachesBy program facts level most room b base conds wanted terms row

    pub bound_to : (new : TrailedBindings) (found : Bool) → JoinsAllOn found b new terms row → found ≡ true → {T E : Type 0} (r : Result T E) (old out : List (List Term)) →
        OnOk r (GainsBy program old out (λ level. Reaches program facts level most room new base conds wanted)) → OnOk r (GainsBy program old out By)
    bound_to new found h one r old out = OnOk-map r (GainsBy program old out (λ level. Reaches program facts level most room new base conds wanted)) (GainsBy program old out By)
        (λ g level levels. bound_gains program facts level most room b base conds wanted terms row ground new old out (subst (λ (f : Bool). JoinsAllOn f b new terms row) one h) (g level levels))

    pub not_bound : (new : TrailedBindings) (found : Bool) → JoinsAllOn found b new terms row → found ≡ false → (old : List (List Term)) → GainsBy program old old By
    not_bound new found h no_unifier old = λ level levels. bound_none program facts level most room b base conds wanted terms row ground new old (subst (λ (f : Bool). JoinsAllOn f b new terms row) no_unifier h)

    pub other_row : (length terms ≡ length row → ⊥) → (old : List (List Term)) → GainsBy program old old By
    other_row other old = λ level levels. bound_other program facts level most room b base conds wanted terms row ground old other

  -- ---- conditions

  module _ (room : ℕ) (b : TrailedBindings) (base : ℕ) (wanted : List Term) where
    -- no condition is left
    pub all_met : {T E : Type 0} (r : Result T E) (old out : List (List Term)) (conds : List Cond) → conds ≡ [] → OnOk r (Gains old out (IsResolvedRow most room b wanted)) →
        OnOk r (GainsBy program old out (λ level. Reaches program facts level most room b base conds wanted))
    all_met r old out conds none = OnOk-map r (Gains old out (IsResolvedRow most room b wanted)) (GainsBy program old out (λ level. Reaches program facts level most room b base conds wanted))
        (λ g level levels. Gains-same old out (IsResolvedRow most room b wanted) (Reaches program facts level most room b base conds wanted)
        (λ x h. record { values = h.values; solve = h.solve; met = subst (AreMet program facts level (λ v. h.values (base + v))) (sym none) tt; is = h.is; fits = h.fits })
        (λ x h. record { values = h.values; solve = h.solve; is = h.is; fits = h.fits }) g)

    -- the first condition is met in one of the ways, and then the rest
    pub one_met : (cond : Cond) (rest conds : List Cond) (ways : Ways) → conds ≡ cond ∷ rest → MeetsBy program facts b (λ s. put_cond (λ v. s (base + v)) cond) ways → (old out : List (List Term)) →
        GainsBy program old out (λ level. ByOne ways.rows (ReachesBy program facts level most room b base rest wanted ways.terms)) →
        GainsBy program old out (λ level. Reaches program facts level most room b base conds wanted)
    one_met cond rest conds ways is meets old out g = λ level levels.
        let on = meets.meets level levels in
        Gains-same old out (ByOne ways.rows (ReachesBy program facts level most room b base rest wanted ways.terms)) (Reaches program facts level most room b base conds wanted)
        (λ x h.
        let r = h.2 in
        record {
          values = r.values;
          solve = r.solve;
          met = subst (AreMet program facts level (λ v. r.values (base + v))) (sym is) ((on.met r.values r.solve).1 (subst (Contains ways.rows) (sym r.same) h.1), r.met);
          is = r.is;
          fits = r.fits;
        })
        (λ x h.
        let met = subst (AreMet program facts level (λ v. h.values (base + v))) is h.met in
        (map (put h.values) ways.terms, (on.met h.values h.solve).0 met.0, record { values = h.values; solve = h.solve; same = refl; met = met.1; is = h.is; fits = h.fits }))
        (g level levels)

    -- one row more
    pub more_rows : (rest : List Cond) (terms : List Term) (rows : List (List Term)) (i : ℕ) (row : List Term) → i < length rows → row ≡ get_or rows i row → (start mid out : List (List Term)) →
        GainsBy program start mid (λ level. ByOne (take i rows) (ReachesBy program facts level most room b base rest wanted terms)) →
        GainsBy program mid out (λ level. ReachesBy program facts level most room b base rest wanted terms row) →
        GainsBy program start out (λ level. ByOne (take (i + 1) rows) (ReachesBy program facts level most room b base rest wanted terms))
    more_rows rest terms rows i row lt is start mid out g h = λ level levels. ByOne-more i rows row (ReachesBy program facts level most room b base rest wanted terms) start mid out lt is (g level levels) (h level levels)

    pub all_rows : (rest : List Cond) (terms : List Term) (rows : List (List Term)) (i : ℕ) → length rows ≤ i → (start out : List (List Term)) →
        GainsBy program start out (λ level. ByOne (take i rows) (ReachesBy program facts level most room b base rest wanted terms)) →
        GainsBy program start out (λ level. ByOne rows (ReachesBy program facts level most room b base rest wanted terms))
    all_rows rest terms rows i le start out g = λ level levels. ByOne-all i rows (ReachesBy program facts level most room b base rest wanted terms) start out le (g level levels)

    pub no_rows : (rest : List Cond) (terms : List Term) (rows : List (List Term)) (start : List (List Term)) →
        GainsBy program start start (λ level. ByOne (take 0 rows) (ReachesBy program facts level most room b base rest wanted terms))
    no_rows rest terms rows start = λ level levels. ByOne-none rows (ReachesBy program facts level most room b base rest wanted terms) start

  -- ---- a goal

  module _ (b : TrailedBindings) (goal : Atom) where
    pub more_places : (places : List ℕ) (i place : ℕ) → i < length places → place ≡ get_or places i place → (k : Clause) → k ≡ clause_at program place → (start mid out : List (List Term)) →
        GainsBy program start mid (λ level. ByOne (take i places) (λ p. ByClause program facts level most b (clause_at program p) goal)) → GainsBy program mid out (λ level. ByClause program facts level most b k goal) →
        GainsBy program start out (λ level. ByOne (take (i + 1) places) (λ p. ByClause program facts level most b (clause_at program p) goal))
    more_places places i place lt is k same start mid out g h = λ level levels.
        ByOne-more i places place (λ p. ByClause program facts level most b (clause_at program p) goal) start mid out lt is (g level levels)
        (subst (λ (j : Clause). Gains mid out (ByClause program facts level most b j goal)) same (h level levels))

    pub no_places : (places : List ℕ) (start : List (List Term)) → GainsBy program start start (λ level. ByOne (take 0 places) (λ p. ByClause program facts level most b (clause_at program p) goal))
    no_places places start = λ level levels. ByOne-none places (λ p. ByClause program facts level most b (clause_at program p) goal) start

    pub all_places : (places : List ℕ) (i : ℕ) → length places ≤ i → (start out : List (List Term)) →
        GainsBy program start out (λ level. ByOne (take i places) (λ p. ByClause program facts level most b (clause_at program p) goal)) →
        GainsBy program start out (λ level. ByOne places (λ p. ByClause program facts level most b (clause_at program p) goal))
    all_places places i le start out g = λ level levels. ByOne-all i places (λ p. ByClause program facts level most b (clause_at program p) goal) start out le (g level levels)

    pub both_places : (keyed others : List ℕ) (start mid out : List (List Term)) →
        GainsBy program start mid (λ level. ByOne keyed (λ p. ByClause program facts level most b (clause_at program p) goal)) →
        GainsBy program mid out (λ level. ByOne others (λ p. ByClause program facts level most b (clause_at program p) goal)) →
        GainsBy program start out (λ level. ByOne (keyed ++ others) (λ p. ByClause program facts level most b (clause_at program p) goal))
    both_places keyed others start mid out g h = λ level levels. ByOne-both keyed others (λ p. ByClause program facts level most b (clause_at program p) goal) start mid out (g level levels) (h level levels)

    pub solved : IsSound program facts → IsLawful b → map (put (standing b).value) goal.args ≡ goal.args → (places : List ℕ) → ((i : ℕ) → Contains places i ↔ IsPlaceFor program goal i) → 1023 < most →
        (first found : List (List Term)) → Gains [] first (IsFactFor facts goal) →
        GainsBy program first found (λ level. ByOne places (λ p. ByClause program facts level most b (clause_at program p) goal)) → Finds program facts b goal found
    solved sound lawful resolved places are large first found by_facts g = λ level levels.
        found_all program facts sound level levels b lawful goal resolved places are most large first found by_facts (g level levels)

-- ---- what is known of lists and bindings

pub nil_of_length : {X : Type 0} (xs : List X) → length xs ≡ 0 → xs ≡ []
nil_of_length [] e = refl
nil_of_length (x ∷ xs) e = absurd (omega (arith, e))

pub left_within : (b ext : TrailedBindings) (more : ℕ) → ext ≡ opened b more → (args wanted : List Term) → wanted ≡ args → AreWithin (count_of b) args → AreWithin (count_of ext) wanted
left_within b ext more e args wanted w h =
    let same : count_of ext ≡ count_of (opened b more) = ap (λ (c : TrailedBindings). count_of c) e in
    let more_count = opened_count b more in
    subst (AreWithin (count_of ext)) (sym w) (are_within_more (count_of b) (count_of ext) args (omega (arith, same, more_count)) h)

pub right_within : (b ext : TrailedBindings) (more base : ℕ) → ext ≡ opened b more → (k : Clause) → base ≡ count_of b → AreBelow more 0 (clause_vars k) → (pattern : List Term) → pattern ≡ map (put (shift base)) k.head.args →
    AreWithin (count_of ext) pattern
right_within b ext more base e k at h pattern is =
    subst (λ (c : TrailedBindings). AreWithin (count_of c) pattern) (sym e) (subst (AreWithin (count_of (opened b more))) (sym is) (head_within b more base k at h))

pub below_of : (n : ℕ) (vars : List ℕ) → AllByRecursion (λ v. v < n) vars → AreBelow n 0 vars
below_of n vars h = all_weaker (λ v. v < n) (λ v. 0 + v < n) (λ v lt. omega (arith, lt)) vars h

pub contains_at : {X : Type 0} (xs ys : List X) (i : ℕ) (y : X) → xs ≡ ys → i < length xs → y ≡ get_or xs i y → Contains ys y
contains_at xs ys i y e lt is = let within : Contains xs y = (i, lt, sym is) in subst (λ zs. Contains zs y) e within
