-- Bindings under which the event of a law is an event: its variables have ground values.
use Rattle.std.proofs.Common.{ℕ, Bool, true, false, ◌≡◌, ◌+◌, ◌<◌, ◌≤◌, arith, List, [], ◌∷◌, map, refl, sym, ap, ◌∙◌, subst}
use Rattle.std.specs.Prelude.{◌↔◌, IsTrue, Contains, None}
use Rattle.std.specs.List.{AllByRecursion, list_all}
use Rattle.lps_terms.specs.declared.body.Body.{Body}
use Rattle.lps_terms.specs.declared.body.Body.TheVariants as b
use Rattle.lps_terms.specs.declared.decl.Decl.{Decl}
use Rattle.lps_terms.specs.declared.statement.Statement.{Statement}
use Rattle.lps_terms.specs.declared.term.Term.{Term}
use Rattle.lps_terms.specs.declared.term.Term.TheVariants as t
use Rattle.lps_terms.specs.declared.text.Text.{Text}
use Rattle.lps_terms.specs.Forms.{term_ind}
use Rattle.lps_terms.specs.Put.{put, put-App, put-Var}
use Rattle.lps_model.specs.Acceptance.{IsAccepted}
use Rattle.lps_model.specs.Known.{body_unknown, learnt, scope_at}
use Rattle.lps_model.specs.Program.{Law, declarations, laws}
use Rattle.lps_model.specs.VariableLists.{args_vars, atom_vars, term_vars}
use Rattle.lps_model.proofs.Stated.{statement_known}
use Rattle.lps_derivation.specs.Ground.{is_ground, is_ground-App}
use Rattle.lps_unify.specs.Bindings.{IsLawful, Solves, SolvesAll, TrailedBindings, count_of, standing}
use Rattle.lps_unify.specs.Unified.{AreWithin, JoinsAllOn}
use Rattle.lps_unify.proofs.Standings.{solves_itself}
use Rattle.lps_solve.specs.Met.{AreGround}
use Rattle.lps_solve.specs.Moded.{AreModedFor}
use Rattle.lps_solve.specs.Placed.{AreBelow}
use Rattle.lps_solve.proofs.Grounds.{first_of_two, list_stays, second_of}
use Rattle.lps_solve.proofs.Sets.{all_learnt}
use Rattle.lps_solve.proofs.Vars.{all_append, all_weaker, are_within, vars_of-App, vars_of-Int, vars_of-Sym, vars_of-Var}
use Rattle.lps_causal.proofs.Placed.{law_stated}

-- ---- what stands in ground terms is ground

module _ (s : ℕ → Term) where
  abbrev HasGround : ℕ → Type 0
  HasGround v = IsTrue (is_ground (s v))

  abbrev Comes : Term → Type 0
  Comes x = is_ground (put s x) ≡ true → AllByRecursion HasGround (term_vars x)

  all_come : (ts : List Term) → AllByRecursion Comes ts → AreGround (map (put s) ts) → AllByRecursion HasGround (args_vars ts)
  all_come [] is h = tt
  all_come (x ∷ xs) is h =
      all_append HasGround (term_vars x) (args_vars xs) (is.0 (first_of_two (is_ground (put s x)) (list_all is_ground (map (put s) xs)) h))
      (all_come xs is.1 (second_of (is_ground (put s x)) (list_all is_ground (map (put s) xs)) h))

  comes : (x : Term) → Comes x
  comes = term_ind Comes
      (λ z h. subst (AllByRecursion HasGround) (sym (vars_of-Int z)) tt)
      (λ n h. subst (AllByRecursion HasGround) (sym (vars_of-Sym n)) tt)
      (λ n ts is h.
      subst (AllByRecursion HasGround) (sym (vars_of-App n ts))
      (all_come ts is (second_of _ (list_all is_ground (map (put s) ts)) (sym (ap is_ground (put-App s n ts) ∙ is_ground-App n (map (put s) ts)) ∙ h))))
      (λ v h. subst (AllByRecursion HasGround) (sym (vars_of-Var v)) (sym (ap is_ground (put-Var s v)) ∙ h, tt))

  every : (ts : List Term) → AllByRecursion Comes ts
  every [] = tt
  every (x ∷ xs) = (comes x, every xs)

  -- the variables of terms have ground values where these make the terms ground
  ground_values : (ts : List Term) → AreGround (map (put s) ts) → AllByRecursion HasGround (args_vars ts)
  ground_values ts h = all_come ts (every ts) h

-- ---- after unifying

-- exactly these values make the terms the ground ones
abbrev pub AreSolved : TrailedBindings → List Term → List Term → Type 0
AreSolved b pattern args = (s : ℕ → Term) → Solves s b ↔ (map (put s) pattern ≡ args)

no_bindings : (b : TrailedBindings) → b.added ≡ [] → (s : ℕ → Term) → Solves s b
no_bindings b none s = subst (SolvesAll s) (sym none) tt

-- what is said of the terms of two slices is said of the terms themselves
pub joined : (found : Bool) (start new : TrailedBindings) (args pattern xs ys : List Term) → xs ≡ args → ys ≡ pattern → JoinsAllOn found start new xs ys → JoinsAllOn found start new args pattern
joined found start new args pattern xs ys one other joins = subst (λ (zs : List Term). JoinsAllOn found start new args zs) other (subst (λ (zs : List Term). JoinsAllOn found start new zs ys) one joins)

pub unified : (start new : TrailedBindings) (args pattern : List Term) → start.added ≡ [] → AreGround args → (found : Bool) → JoinsAllOn found start new args pattern → found ≡ true → AreSolved new pattern args
unified start new args pattern none ground found joins is = λ s.
    let one = subst (λ (f : Bool). JoinsAllOn f start new args pattern) is joins s in (
      λ solves. sym (one.0 solves).1 ∙ list_stays s args ground,
      λ same. one.1 (no_bindings start none s, list_stays s args ground ∙ sym same),
    )

pub not_unified : (start new : TrailedBindings) (args pattern : List Term) → start.added ≡ [] → AreGround args → (found : Bool) → JoinsAllOn found start new args pattern → found ≡ false →
    (s : ℕ → Term) → map (put s) pattern ≡ args → ⊥
not_unified start new args pattern none ground found joins is s same =
    subst (λ (f : Bool). JoinsAllOn f start new args pattern) is joins s (no_bindings start none s) (list_stays s args ground ∙ sym same)

-- ---- what is asked for

-- variables below a number are below one that is no less
pub below_more : (n m : ℕ) (vars : List ℕ) → n ≤ m → AllByRecursion (λ v. v < n) vars → AllByRecursion (λ v. v < m) vars
below_more n m vars le h = all_weaker (λ v. v < n) (λ v. v < m) (λ v lt. omega (arith, lt, le)) vars h

-- bindings that are made for so many variables have as many
pub count_first : (n : ℕ) (start : TrailedBindings) → start.first ≡ n → start.added ≡ [] → count_of start ≡ n
count_first n start first none = λ i. count_of (record { first = first i; added = none i })

pub below_count : (n : ℕ) (bound : TrailedBindings) → count_of bound ≡ n → (vars : List ℕ) → AllByRecursion (λ v. v < n) vars → AreBelow (count_of bound) 0 vars
below_count n bound count vars below = all_weaker (λ v. v < n) (λ v. 0 + v < count_of bound) (λ v lt. omega (arith, lt, count)) vars below

pub within_count : (n : ℕ) (bound : TrailedBindings) → count_of bound ≡ n → (xs : List Term) → AllByRecursion (λ v. v < n) (args_vars xs) → AreWithin (count_of bound) xs
within_count n bound count xs below = are_within (count_of bound) xs (subst (λ k. AllByRecursion (λ v. v < k) (args_vars xs)) (sym count) below)

-- the conditions of a law are well-moded where its event is a ground one
pub law_moded : (text : Text) → IsAccepted text → (law : Law) → Contains (laws text) law → (bound : TrailedBindings) → IsLawful bound → (args : List Term) → AreGround args → AreSolved bound law.event.args args →
    AreModedFor text bound law.conds law.fluent.args
law_moded text accepted law at bound lawful args ground solved =
    let stated = law_stated text law at in
    let s : Statement = stated.statement in
    let decls : List Decl = declarations text in
    let value : ℕ → Term = (standing bound).value in
    record {
      scope = scope_at decls s [] false;
      declared = refl;
      seen = refl;
      known = learnt [] (atom_vars law.event);
      ground = all_learnt (HasGround value) [] (atom_vars law.event) tt (ground_values value law.event.args (subst AreGround (sym ((solved value).0 (solves_itself bound lawful))) ground));
      moded = subst (λ (said : Body). body_unknown decls s said ≡ None) stated.says (statement_known text accepted s stated.among);
    }
