-- What is true is a fact, or is given by a clause.
use Rattle.std.proofs.Common.{ℕ, ◌≡◌, ◌+◌, ◌≤◌, ◌<◌, ◌↔◌, List, [], ◌∷◌, map, length, refl, sym, ap, ◌∙◌, subst, arith, inl, inr, min}
use Rattle.std.specs.Prelude.{Contains, IsTrue, ◌⊎◌}
use Rattle.std.specs.List.{AllByRecursion}
use Rattle.std.proofs.lemmas.List.Elements.{Contains-get_or}
use Rattle.lps_terms.specs.declared.atom.Atom.{Atom}
use Rattle.lps_terms.specs.declared.cond.Cond.{Cond}
use Rattle.lps_terms.specs.declared.term.Term.{Term}
use Rattle.lps_terms.specs.Put.{put, after, put-put}
use Rattle.lps_terms.specs.Symbols.{symbols_of_all}
use Rattle.lps_model.proofs.Elements.{nothing_contained}
use Rattle.lps_model.specs.Clauses.{Clause}
use Rattle.lps_derivation.specs.Derivation.{IsMet, Follows}
use Rattle.lps_derivation.specs.Instances.{IsSmallCond, put_cond, put_clause}
use Rattle.lps_derivation.specs.Laws.{Passes, IsDerivedFrom}
use Rattle.lps_derivation.specs.Levels.{AreLevels}
use Rattle.lps_derivation.proofs.Truth.{equation}
use Rattle.lps_values.specs.Truth.{is_true}
use Rattle.lps_unify.specs.Bindings.{TrailedBindings, standing, IsLawful}
use Rattle.lps_solve.specs.Answers.{IsSound}
use Rattle.lps_solve.specs.Found.{atom_of, Gains, IsAnswerTo, IsFactFor, ByClause}
use Rattle.lps_solve.specs.Met.{AreGround, AreMet, IsGroundCond}
use Rattle.lps_index.specs.Matching.{may_match}
use Rattle.lps_solve.specs.Table.{clause_at, IsPlaceFor}
use Rattle.lps_solve.proofs.Matching.{instances_match, matching_named}
use Rattle.lps_solve.proofs.Gaining.{ByOne, default_free}
use Rattle.lps_solve.proofs.Grounds.{settled, settled_ground, settles_list, settles_cond}
use Rattle.lps_solve.proofs.Placing.{solves_after}
use Rattle.lps_solve.proofs.Sizes.{each_small}

module _ (program : List Clause) (facts : List Atom) (sound : IsSound program facts) (level : List ℕ → ℕ) (levels : AreLevels program level) where
  abbrev IsTrueHere : Atom → Type 0
  IsTrueHere a = IsDerivedFrom is_true program facts level a

  abbrev IsMetHere : Cond → Type 0
  IsMetHere cond = IsMet (Passes is_true) IsTrueHere cond

  split : (a : Atom) → IsTrueHere a → Contains facts a ⊎ Follows (Passes is_true) IsTrueHere program a
  split a h = (equation (Passes is_true) program (Contains facts) level levels a).0 h

  true_fact : (a : Atom) → Contains facts a → IsTrueHere a
  true_fact a h = (equation (Passes is_true) program (Contains facts) level levels a).1 (inl h)

  follows : (a : Atom) → Follows (Passes is_true) IsTrueHere program a → IsTrueHere a
  follows a f = (equation (Passes is_true) program (Contains facts) level levels a).1 (inr f)

  -- ---- what is true is ground

  ground_by : (a : Atom) → Contains facts a ⊎ Follows (Passes is_true) IsTrueHere program a → AreGround a.args
  ground_by a (inl h) = sound.ground a h
  ground_by a (inr f) =
      let k = f.of_clauses in
      subst AreGround (sym (ap (λ (b : Atom). b.args) f.head ∙ ap (λ (i : Clause). i.head.args) k.put_in)) ((sound.written k.clause k.among).head k.values k.all_ground)

  pub true_ground : (a : Atom) → IsTrueHere a → AreGround a.args
  true_ground a h = ground_by a (split a h)

  -- ---- what a clause gives is true

  small_of : (own : ℕ → Term) (conds : List Cond) → AreMet program facts level own conds → AllByRecursion IsSmallCond (map (put_cond (settled own)) conds)
  small_of own [] h = tt
  small_of own (c ∷ conds) h = (subst IsSmallCond (sym (settles_cond own c h.0.ground)) h.0.small, small_of own conds h.1)

  met_of : (own : ℕ → Term) (conds : List Cond) → AreMet program facts level own conds → AllByRecursion IsMetHere (map (put_cond (settled own)) conds)
  met_of own [] h = tt
  met_of own (c ∷ conds) h = (subst IsMetHere (sym (settles_cond own c h.0.ground)) h.0.met, met_of own conds h.1)

  module _ (k : Clause) (among : Contains program k) (b : TrailedBindings) (goal : Atom) (x : List Term) (most : ℕ) (large : 1023 < most) where
    row_small : (row : min (symbols_of_all x) most ≤ 1023) → 1 + symbols_of_all x ≤ 1024
    row_small row = omega (arith, large, row)

    pub clause_true : k.head.name ≡ goal.name → ByClause program facts level most b k goal x → IsAnswerTo program facts level b goal x
    clause_true named h = record {
      values = h.values;
      solve = h.solve;
      is = h.is;
      true = follows (atom_of goal.name x) record {
        instance = put_clause (settled h.own) k;
        of_clauses = record {
          clause = k;
          among = among;
          values = settled h.own;
          all_ground = settled_ground h.own;
          put_in = refl;
          small_head = subst (λ (xs : List Term). 1 + symbols_of_all xs ≤ 1024) head_is (row_small h.fits.all);
          small_conds = small_of h.own k.conds h.met;
        };
        head = λ i. record { name = (sym named) i; args = head_is i };
        met = met_of h.own k.conds h.met;
      };
      small = row_small h.fits.all;
    }
      where
        head_is : x ≡ map (put (settled h.own)) k.head.args
        head_is = h.head ∙ sym (settles_list h.own k.head.args (subst AreGround h.head h.fits.ground))

  -- ---- what is true is given

  join : (own : ℕ → Term) (conds : List Cond) → AllByRecursion IsGroundCond (map (put_cond own) conds) → AllByRecursion IsSmallCond (map (put_cond own) conds) →
      AllByRecursion IsMetHere (map (put_cond own) conds) → AreMet program facts level own conds
  join own [] ground small met = tt
  join own (c ∷ conds) ground small met = (record { ground = ground.0; small = small.0; met = met.0 }, join own conds ground.1 small.1 met.1)

  module _ (b : TrailedBindings) (goal : Atom) (x : List Term) (most : ℕ) (h : IsAnswerTo program facts level b goal x) (f : Follows (Passes is_true) IsTrueHere program (atom_of goal.name x)) where
    abbrev the_clause : Clause
    the_clause = f.of_clauses.clause

    given_name : the_clause.head.name ≡ goal.name
    given_name = sym (ap (λ (a : Atom). a.name) f.head ∙ ap (λ (i : Clause). i.head.name) f.of_clauses.put_in)

    given_by : ByClause program facts level most b the_clause goal x
    given_by = record {
      values = h.values;
      solve = h.solve;
      is = h.is;
      own = f.of_clauses.values;
      head = ap (λ (a : Atom). a.args) f.head ∙ ap (λ (i : Clause). i.head.args) f.of_clauses.put_in;
      met = join f.of_clauses.values the_clause.conds ((sound.written the_clause f.of_clauses.among).conds f.of_clauses.values f.of_clauses.all_ground)
          (subst (λ (i : Clause). AllByRecursion IsSmallCond i.conds) f.of_clauses.put_in f.of_clauses.small_conds)
          (subst (λ (i : Clause). AllByRecursion IsMetHere i.conds) f.of_clauses.put_in f.met);
      fits = record {
        ground = true_ground (atom_of goal.name x) h.true;
        each = each_small 1024 x (let small = h.small in omega (arith, small));
        all = (let small = h.small in omega (arith, small));
      };
    }

  -- ---- facts

  module _ (b : TrailedBindings) (lawful : IsLawful b) (goal : Atom) (resolved : map (put (standing b).value) goal.args ≡ goal.args) where
    put_twice : (s : ℕ → Term) (xs : List Term) → map (put s) (map (put (standing b).value) xs) ≡ map (put (after s (standing b).value)) xs
    put_twice s [] = refl
    put_twice s (y ∷ ys) = λ i. put-put s (standing b).value y i ∷ put_twice s ys i

    fact_true : (x : List Term) → IsFactFor facts goal x → IsAnswerTo program facts level b goal x
    fact_true x h = record {
      values = after h.values (standing b).value;
      solve = solves_after b lawful h.values;
      is = h.is ∙ ap (map (put h.values)) (sym resolved) ∙ put_twice h.values goal.args;
      true = true_fact (atom_of goal.name x) h.among;
      small = h.small;
    }

    -- all clauses whose heads may match the goal
    module _ (places : List ℕ) (are : (i : ℕ) → Contains places i ↔ IsPlaceFor program goal i) (most : ℕ) (large : 1023 < most) (first found : List (List Term))
        (by_facts : Gains [] first (IsFactFor facts goal)) (by_clauses : Gains first found (ByOne places (λ i. ByClause program facts level most b (clause_at program i) goal))) where
      at_place : (i : ℕ) → i < length program → Contains program (clause_at program i)
      at_place i lt = Contains-get_or program i (record { head = record { name = []; args = [] }; conds = [] }) lt

      one_true : (x : List Term) → ByOne places (λ i. ByClause program facts level most b (clause_at program i) goal) x → IsAnswerTo program facts level b goal x
      one_true x one =
          let place = (are one.0).0 one.1 in
          clause_true (clause_at program one.0) (at_place one.0 place.0) b goal x most large (sym (matching_named goal (clause_at program one.0).head place.1)) one.2

      place_for : (k : Clause) → Contains program k → (i : ℕ) × (i < length program) × (clause_at program i ≡ k)
      place_for k c = (c.0, c.1, default_free program c.0 (record { head = record { name = []; args = [] }; conds = [] }) k c.1 ∙ c.2)

      one_given : (x : List Term) → IsAnswerTo program facts level b goal x → Follows (Passes is_true) IsTrueHere program (atom_of goal.name x) →
          ByOne places (λ i. ByClause program facts level most b (clause_at program i) goal) x
      one_given x h f =
          let k = f.of_clauses.clause in
          let place = place_for k f.of_clauses.among in
          let by_it = given_by b goal x most h f in
          let matches : IsTrue (may_match goal k.head) = instances_match by_it.values by_it.own goal k.head (sym (given_name b goal x most h f)) (sym by_it.is ∙ by_it.head) in
          (place.0, (are place.0).1 (place.1, subst (λ (j : Clause). IsTrue (may_match goal j.head)) (sym place.2) matches), subst (λ (j : Clause). ByClause program facts level most b j goal x) (sym place.2) by_it)

      given : (x : List Term) → IsAnswerTo program facts level b goal x → Contains facts (atom_of goal.name x) ⊎ Follows (Passes is_true) IsTrueHere program (atom_of goal.name x) → Contains found x
      given x h (inl fact) = (by_clauses x).1 (inl ((by_facts x).1 (inr record { among = fact; values = h.values; is = h.is; small = h.small })))
      given x h (inr f) = (by_clauses x).1 (inr (one_given x h f))

      answer : (x : List Term) → Contains [] x ⊎ IsFactFor facts goal x → IsAnswerTo program facts level b goal x
      answer x (inl none) = absurd (nothing_contained x none)
      answer x (inr fact) = fact_true x fact

      pub found_all : (x : List Term) → Contains found x ↔ IsAnswerTo program facts level b goal x
      found_all x = (
        λ inside. elim ((by_clauses x).0 inside) [ inl old ↦ answer x ((by_facts x).0 old) | inr one ↦ one_true x one ],
        λ h. given x h (split (atom_of goal.name x) h.true),
      )
