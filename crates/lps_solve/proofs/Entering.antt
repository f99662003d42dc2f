-- A clause's variables beside those of the bindings.
use Rattle.std.proofs.Common.{ℕ, Bool, true, false, nat_lt, ◌≡◌, ◌+◌, ◌-◌, ◌≤◌, ◌<◌, List, [], ◌∷◌, ◌++◌, map, take, length, get_or, sym, ap, subst, arith, refl, ◌∙◌, append_assoc}
use Rattle.std.specs.Prelude.{zero, suc, if◌then◌else◌}
use Rattle.std.proofs.Math.Seq.{take-append_seam}
use Rattle.std.proofs.lemmas.Bool.Decides.{nat_tests}
use Rattle.std.proofs.lemmas.List.{length-append, length-map}
use Rattle.std.proofs.lemmas.List.Sums.{sum_by-cons}
use Rattle.std.specs.List.{flat_map}
use Rattle.lps_terms.specs.declared.atom.Atom.{Atom}
use Rattle.lps_terms.specs.declared.cond.Cond.{Cond}
use Rattle.lps_terms.specs.declared.term.Term.{Term}
use Rattle.lps_terms.specs.Put.{put, put-put, put-Var}
use Rattle.lps_model.specs.VariableLists.{args_vars, cond_vars}
use Rattle.lps_model.specs.Clauses.{Clause}
use Rattle.lps_unify.specs.declared.added.Added.{Added}
use Rattle.lps_unify.specs.declared.added.Added.TheVariants.{More}
use Rattle.lps_unify.specs.Weights.{outside, weigh, IsWithin}
use Rattle.lps_unify.specs.Bindings.{TrailedBindings, Standing, back_to, count_of, start, Solves, IsLawful}
use Rattle.lps_unify.specs.Unified.{AreWithin, IsExtended, JoinsOn, JoinsAllOn, UnifiesOn}
use Rattle.lps_unify.proofs.Joins.{extended_refl}
use Rattle.lps_unify.proofs.Standings.{each_append, each_split, over_append}
use Rattle.lps_unify.proofs.Keeping.{append_none}
use Rattle.lps_unify.proofs.Sums.{put_within, within_more}
use Rattle.lps_unify.proofs.Variables.{solutions_agree}
use Rattle.lps_solve.specs.Found.{ByClause, Gains, IsLonger, Reaches, ReachesBy}
use Rattle.lps_solve.specs.Met.{AreGround, AreMet}
use Rattle.lps_solve.specs.Placed.{AreBelow, shift}
use Rattle.lps_solve.specs.Table.{clause_vars}
use Rattle.lps_solve.proofs.Gaining.{Gains-none, Gains-same}
use Rattle.lps_solve.proofs.Grounds.{list_stays}
use Rattle.lps_solve.proofs.Vars.{all_first, all_second, all_weaker, are_within, put_args_vars, shift_below}

-- ---- lists of terms

within_first : (n : ℕ) (x : Term) (xs : List Term) → AreWithin n (x ∷ xs) → IsWithin n x
within_first n x xs h = omega (arith, h, sum_by-cons (weigh (outside n)) x xs)

within_rest : (n : ℕ) (x : Term) (xs : List Term) → AreWithin n (x ∷ xs) → AreWithin n xs
within_rest n x xs h = omega (arith, h, sum_by-cons (weigh (outside n)) x xs)

-- an item of terms that are within
pub within_at : (n : ℕ) (xs : List Term) (i : ℕ) (x : Term) → i < length xs → x ≡ get_or xs i x → AreWithin n xs → IsWithin n x
within_at n [] i x lt is h = absurd (omega arith)
within_at n (y ∷ ys) zero x lt is h = subst (IsWithin n) (sym is) (within_first n y ys h)
within_at n (y ∷ ys) (suc i) x lt is h = within_at n ys i x (omega arith) is (within_rest n y ys h)

-- what a unifier says of the bindings
pub extends_on : (found : Bool) (old new : TrailedBindings) (x y : Term) → UnifiesOn found old new x y → IsExtended old new
extends_on true old new x y h = h.0
extends_on false old new x y h = subst (IsExtended old) (sym h.0) (extended_refl old)

pub joins_on : (found : Bool) (old new : TrailedBindings) (x y : Term) → UnifiesOn found old new x y → JoinsOn found old new x y
joins_on true old new x y h = h.1
joins_on false old new x y h = h.1

pub are_within_more : (n m : ℕ) (xs : List Term) → n ≤ m → AreWithin n xs → AreWithin m xs
are_within_more n m [] le h = refl
are_within_more n m (x ∷ xs) le h =
    let one = within_more n m x le (within_first n x xs h) in
    let rest = are_within_more n m xs le (within_rest n x xs h) in
    omega (arith, one, rest, sum_by-cons (weigh (outside m)) x xs)

put_all_within : (s r : ℕ → Term) (n : ℕ) → ((w : ℕ) → w < n → s w ≡ r w) → (xs : List Term) → AreWithin n xs → map (put s) xs ≡ map (put r) xs
put_all_within s r n same [] h = refl
put_all_within s r n same (x ∷ xs) h = λ i. put_within s r n same x (within_first n x xs h) i ∷ put_all_within s r n same xs (within_rest n x xs h) i

pub shifted_is : (base : ℕ) (s : ℕ → Term) (xs : List Term) → map (put s) (map (put (shift base)) xs) ≡ map (put (λ v. s (base + v))) xs
shifted_is base s [] = refl
shifted_is base s (x ∷ xs) =
    let one : put s (put (shift base) x) ≡ put (λ v. s (base + v)) x = put-put s (shift base) x ∙ ap (λ f. put f x) (λ i v. put-Var s (base + v) i) in
    (λ i. one i ∷ shifted_is base s xs i)

-- ---- longer bindings

pub longer_back : (old new : TrailedBindings) → IsLonger old new → back_to (length old.added) new ≡ old
longer_back old new h =
    let kept : take (length old.added) new.added ≡ old.added = ap (take (length old.added)) h.kept ∙ take-append_seam old.added h.more in
    (λ i. record { first = h.first i; added = kept i })

pub longer_length : (old new : TrailedBindings) → IsLonger old new → length old.added ≤ length new.added
longer_length old new h = omega (arith, ap length h.kept, length-append old.added h.more)

pub longer_same : (old new : TrailedBindings) → new ≡ old → IsLonger old new
longer_same old new e = record { first = ap (λ (b : TrailedBindings). b.first) e; more = []; kept = ap (λ (b : TrailedBindings). b.added) e ∙ sym (append_none old.added) }

pub longer_extended : (old new : TrailedBindings) → IsExtended old new → IsLonger old new
longer_extended old new h = record { first = h.first; more = h.more; kept = h.kept }

pub longer_more : (old mid new : TrailedBindings) → IsLonger old mid → IsLonger mid new → IsLonger old new
longer_more old mid new h g = record {
  first = g.first ∙ h.first;
  more = h.more ++ g.more;
  kept = g.kept ∙ ap (λ (xs : List Added). xs ++ g.more) h.kept ∙ append_assoc old.added h.more g.more;
}

-- ---- so many variables more

abbrev pub opened : TrailedBindings → ℕ → TrailedBindings
opened b more = record { first = b.first; added = b.added ++ More more ∷ [] }

pub longer_opened : (b : TrailedBindings) (more : ℕ) → IsLonger b (opened b more)
longer_opened b more = record { first = refl; more = More more ∷ []; kept = refl }

pub opened_count : (b : TrailedBindings) (more : ℕ) → count_of (opened b more) ≡ count_of b + more
opened_count b more = ap (λ (st : Standing). st.count) (over_append (start b.first) b.added (More more ∷ []))

-- the first of these below the count, and the second from there on
abbrev pub beside : ℕ → (ℕ → Term) → (ℕ → Term) → ℕ → Term
beside count g s w = if nat_lt w count then g w else s (w - count)

beside_low : (count : ℕ) (g s : ℕ → Term) (w : ℕ) → w < count → g w ≡ beside count g s w
beside_low count g s w lt = let yes : nat_lt w count ≡ true = grind (arith, nat_tests) in ap (λ b. if b then g w else s (w - count)) (sym yes)

beside_high : (count : ℕ) (g s : ℕ → Term) (v : ℕ) → beside count g s (count + v) ≡ s v
beside_high count g s v =
    let high : nat_lt (count + v) count ≡ false = grind (arith, nat_tests) in
    let back : (count + v) - count ≡ v = omega arith in
    ap (λ b. if b then g (count + v) else s ((count + v) - count)) high ∙ ap s back

module _ (program : List Clause) (facts : List Atom) (level : List ℕ → ℕ) (most : ℕ) (k : Clause) (goal : Atom) (b : TrailedBindings) (more : ℕ) (lawful : IsLawful b) (within : AreWithin (count_of b) goal.args) (base : ℕ)
    (at : base ≡ count_of b) where
  abbrev head : List Term
  head = map (put (shift base)) k.head.args

  module _ (x : List Term) (h : ByClause program facts level most b k goal x) where
    abbrev both : ℕ → Term
    both = beside base h.values h.own

    agrees : (w : ℕ) → w < count_of b → h.values w ≡ both w
    agrees w lt = beside_low base h.values h.own w (subst (λ n. w < n) (sym at) lt)

    both_solves : Solves both (opened b more)
    both_solves = each_append (λ v u. both v ≡ put both u) b.added (More more ∷ []) (solutions_agree b lawful h.values both agrees h.solve) tt

    both_goal : map (put both) goal.args ≡ x
    both_goal = sym (put_all_within h.values both (count_of b) agrees goal.args within) ∙ sym h.is

    own : (λ (v : ℕ). both (base + v)) ≡ h.own
    own = λ i v. beside_high base h.values h.own v i

    both_head : map (put both) head ≡ x
    both_head = shifted_is base both k.head.args ∙ ap (λ f. map (put f) k.head.args) own ∙ sym h.head

  pub enter_gains : (new : TrailedBindings) (old out : List (List Term)) → JoinsAllOn true (opened b more) new goal.args head →
      Gains old out (Reaches program facts level most 1023 new base k.conds goal.args) → Gains old out (ByClause program facts level most b k goal)
  enter_gains new old out joins g = Gains-same old out (Reaches program facts level most 1023 new base k.conds goal.args) (ByClause program facts level most b k goal)
      (λ x h.
      let solves = (joins h.values).0 h.solve in
      record {
        values = h.values;
        solve = (each_split (λ v u. h.values v ≡ put h.values u) b.added (More more ∷ []) solves.0).0;
        is = h.is;
        own = λ v. h.values (base + v);
        head = h.is ∙ solves.1 ∙ shifted_is base h.values k.head.args;
        met = h.met;
        fits = h.fits;
      })
      (λ x h. record {
        values = both x h;
        solve = (joins (both x h)).1 (both_solves x h, both_goal x h ∙ sym (both_head x h));
        met = subst (λ (f : ℕ → Term). AreMet program facts level f k.conds) (sym (own x h)) h.met;
        is = sym (both_goal x h);
        fits = h.fits;
      })
      g

  pub enter_none : (new : TrailedBindings) (old : List (List Term)) → JoinsAllOn false (opened b more) new goal.args head → Gains old old (ByClause program facts level most b k goal)
  enter_none new old none = Gains-none old (ByClause program facts level most b k goal) (λ x h. none (both x h) (both_solves x h) (both_goal x h ∙ sym (both_head x h)))

  pub enter_other : (old : List (List Term)) → (length goal.args ≡ length head → ⊥) → Gains old old (ByClause program facts level most b k goal)
  enter_other old other = Gains-none old (ByClause program facts level most b k goal) (λ x h.
      other (sym (length-map goal.args (put (both x h))) ∙ ap length (both_goal x h ∙ sym (both_head x h)) ∙ length-map head (put (both x h))))

-- the variables of the clause are among those of the opened bindings
pub head_within : (b : TrailedBindings) (more base : ℕ) (k : Clause) → base ≡ count_of b → AreBelow more 0 (clause_vars k) → AreWithin (count_of (opened b more)) (map (put (shift base)) k.head.args)
head_within b more base k at h =
    are_within (count_of (opened b more)) (map (put (shift base)) k.head.args)
    (put_args_vars (λ v. v < count_of (opened b more)) (shift base) k.head.args
    (shift_below (count_of (opened b more)) base (args_vars k.head.args) (all_first (λ v. base + v < count_of (opened b more)) (args_vars k.head.args) (flat_map cond_vars k.conds) (opened_below b more base k at h))))
  where
    opened_below : (b : TrailedBindings) (more base : ℕ) (k : Clause) → base ≡ count_of b → AreBelow more 0 (clause_vars k) → AreBelow (count_of (opened b more)) base (clause_vars k)
    opened_below b more base k at h = all_weaker (λ v. 0 + v < more) (λ v. base + v < count_of (opened b more)) (λ v lt. omega (arith, lt, at, opened_count b more)) (clause_vars k) h

pub conds_below : (b new : TrailedBindings) (more base : ℕ) (k : Clause) → base ≡ count_of b → count_of new ≡ count_of (opened b more) → AreBelow more 0 (clause_vars k) → AreBelow (count_of new) base (flat_map cond_vars k.conds)
conds_below b new more base k at same h =
    all_second (λ v. base + v < count_of new) (args_vars k.head.args) (flat_map cond_vars k.conds)
    (all_weaker (λ v. 0 + v < more) (λ v. base + v < count_of new) (λ v lt. omega (arith, lt, at, same, opened_count b more)) (clause_vars k) h)

-- ---- a condition whose terms are a row

module _ (program : List Clause) (facts : List Atom) (level : List ℕ → ℕ) (most room : ℕ) (b : TrailedBindings) (base : ℕ) (conds : List Cond) (wanted terms row : List Term) (ground : AreGround row) where
  pub bound_gains : (new : TrailedBindings) (old out : List (List Term)) → JoinsAllOn true b new terms row → Gains old out (Reaches program facts level most room new base conds wanted) →
      Gains old out (ReachesBy program facts level most room b base conds wanted terms row)
  bound_gains new old out joins g = Gains-same old out (Reaches program facts level most room new base conds wanted) (ReachesBy program facts level most room b base conds wanted terms row)
      (λ x h.
      let solves = (joins h.values).0 h.solve in
      record { values = h.values; solve = solves.0; same = solves.1 ∙ list_stays h.values row ground; met = h.met; is = h.is; fits = h.fits })
      (λ x h. record { values = h.values; solve = (joins h.values).1 (h.solve, h.same ∙ sym (list_stays h.values row ground)); met = h.met; is = h.is; fits = h.fits })
      g

  pub bound_none : (new : TrailedBindings) (old : List (List Term)) → JoinsAllOn false b new terms row → Gains old old (ReachesBy program facts level most room b base conds wanted terms row)
  bound_none new old none = Gains-none old (ReachesBy program facts level most room b base conds wanted terms row) (λ x h. none h.values h.solve (h.same ∙ sym (list_stays h.values row ground)))

  pub bound_other : (old : List (List Term)) → (length terms ≡ length row → ⊥) → Gains old old (ReachesBy program facts level most room b base conds wanted terms row)
  bound_other old other = Gains-none old (ReachesBy program facts level most room b base conds wanted terms row) (λ x h. other (sym (length-map terms (put h.values)) ∙ ap length h.same))
