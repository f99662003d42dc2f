-- What is known along a search: from acceptance to the start of a clause, and from condition to condition.
use Rattle.std.proofs.Common.{ℕ, Bool, true, false, ◌≡◌, ◌+◌, List, [], ◌∷◌, ◌++◌, map, refl, sym, ap, ◌∙◌, subst, inl, inr}
use Rattle.std.specs.Prelude.{◌⊎◌, ◌||◌, IsTrue, Contains, Option, Some, None, if◌then◌else◌}
use Rattle.std.specs.List.{AllByRecursion, flat_map}
use Rattle.std.proofs.lemmas.List.Elements.{Contains-get_or}
use Rattle.lps_terms.specs.declared.atom.Atom.{Atom}
use Rattle.lps_terms.specs.declared.built.Built.{Built}
use Rattle.lps_terms.specs.declared.built.Built.TheVariants as b
use Rattle.lps_terms.specs.declared.cond.Cond.{Cond}
use Rattle.lps_terms.specs.declared.cond.Cond.TheVariants as c
use Rattle.lps_terms.specs.declared.decl.Decl.{Decl}
use Rattle.lps_terms.specs.declared.kind.Kind.{Kind}
use Rattle.lps_terms.specs.declared.kind.Kind.TheVariants as k
use Rattle.lps_terms.specs.declared.mode.Mode.{Mode}
use Rattle.lps_terms.specs.declared.mode.Mode.TheVariants as m
use Rattle.lps_terms.specs.declared.term.Term.{Term}
use Rattle.lps_terms.specs.declared.term.Term.TheVariants as t
use Rattle.lps_terms.specs.declared.text.Text.{Text}
use Rattle.lps_terms.specs.Put.{put}
use Rattle.lps_model.specs.Acceptance.{IsAccepted}
use Rattle.lps_model.specs.Declarations.{decl_among}
use Rattle.lps_model.specs.Known.{Scope, are_known, body_unknown, built_needs, cond_needs, conds_unknown, declared_needs, head_known, is_known, kind_needs, learnt, marked_vars, argument_needs, same_needs, scope_at, unknown_among}
use Rattle.lps_model.specs.Program.{declarations}
use Rattle.lps_model.specs.VariableLists.{args_vars, atom_vars, cond_vars, expr_vars, term_vars}
use Rattle.lps_model.specs.Clauses.{Clause, clauses}
use Rattle.lps_derivation.specs.Ground.{is_ground}
use Rattle.lps_derivation.specs.Instances.{put_built, put_cond}
use Rattle.lps_unify.specs.Bindings.{TrailedBindings, standing, Solves, IsLawful}
use Rattle.lps_unify.specs.Unified.{JoinsAllOn}
use Rattle.lps_unify.proofs.Standings.{sound, solves_itself}
use Rattle.lps_solve.specs.Answers.{variables_left}
use Rattle.lps_solve.specs.declared.ways.Ways.{Ways}
use Rattle.lps_solve.specs.Met.{AreGround, IsGroundCond, MeetsOn}
use Rattle.lps_solve.specs.Moded.{AreModed, AreModedFor, IsClosed, IsMarked, IsModedFor, IsModedRun, IsModedStep, IsReady, IsReadyCond, needs_of}
use Rattle.lps_solve.specs.Placed.{shift, values_in}
use Rattle.lps_solve.specs.Table.{IsPlaceFor, clause_at}
use Rattle.lps_solve.proofs.Matching.{matching_named}
use Rattle.lps_solve.proofs.Accepted.{is_stated}
use Rattle.lps_solve.proofs.Answering.{from_zero, with_all}
use Rattle.lps_solve.proofs.Closed.{IsClosedAt, closed_put, closed_put_args, closed_put_expr, closed_stays, cond_comes, no_left, no_right, put_closed}
use Rattle.lps_solve.proofs.Entering.{shifted_is}
use Rattle.lps_solve.proofs.Grounds.{first_of_two, list_stays, second_of}
use Rattle.lps_solve.proofs.Moding.{body_is_known, neither_is, wanted_nothing}
use Rattle.lps_solve.proofs.Sets.{all_learnt, each_known, ends_known, one_known}
use Rattle.lps_solve.proofs.Vars.{all_append, all_first, all_second, all_weaker, no_vars, put_cond_vars, vars_of-Var}

-- ---- marked arguments

module _ (s : ℕ → Term) where
  argument_closed : (mode : Mode) (x : Term) → AllByRecursion (IsClosedAt s) (argument_needs mode x) → argument_needs mode (put s x) ≡ []
  argument_closed m.Plus x h = closed_put s x h
  argument_closed m.Minus x h = refl
  argument_closed m.Star x h = closed_put s x h

  both_none : (xs ys : List ℕ) → xs ≡ [] → ys ≡ [] → (xs ++ ys) ≡ []
  both_none xs ys one two = λ i. one i ++ two i

  marked_closed : (modes : List Mode) (args : List Term) → AllByRecursion (IsClosedAt s) (marked_vars modes args) → marked_vars modes (map (put s) args) ≡ []
  marked_closed [] args h = refl
  marked_closed (mode ∷ modes) [] h = refl
  marked_closed (mode ∷ modes) (x ∷ args) h =
      both_none (argument_needs mode (put s x)) (marked_vars modes (map (put s) args)) (argument_closed mode x (all_first (IsClosedAt s) (argument_needs mode x) (marked_vars modes args) h))
      (marked_closed modes args (all_second (IsClosedAt s) (argument_needs mode x) (marked_vars modes args) h))

  kind_closed : (kind : Kind) (modes : List Mode) (args : List Term) → AllByRecursion (IsClosedAt s) (kind_needs false kind modes args) → kind_needs false kind modes (map (put s) args) ≡ []
  kind_closed k.Fluent modes args h = refl
  kind_closed k.Event modes args h = refl
  kind_closed k.Action modes args h = refl
  kind_closed k.Timeless modes args h = marked_closed modes args h
  kind_closed k.Derived modes args h = marked_closed modes args h
  kind_closed k.Macro modes args h = marked_closed modes args h

  pub declared_closed : (decl : Option Decl) (args : List Term) → AllByRecursion (IsClosedAt s) (declared_needs false decl args) → declared_needs false decl (map (put s) args) ≡ []
  declared_closed None args h = refl
  declared_closed (Some decl) args h = kind_closed decl.kind decl.modes args h

  -- ---- and back

  argument_comes : (mode : Mode) (x : Term) → argument_needs mode (put s x) ≡ [] → AllByRecursion (IsClosedAt s) (argument_needs mode x)
  argument_comes m.Plus x none = put_closed s x none
  argument_comes m.Minus x none = tt
  argument_comes m.Star x none = put_closed s x none

  marked_comes : (modes : List Mode) (args : List Term) → marked_vars modes (map (put s) args) ≡ [] → AllByRecursion (IsClosedAt s) (marked_vars modes args)
  marked_comes [] args none = tt
  marked_comes (mode ∷ modes) [] none = tt
  marked_comes (mode ∷ modes) (x ∷ args) none =
      all_append (IsClosedAt s) (argument_needs mode x) (marked_vars modes args) (argument_comes mode x (no_left (argument_needs mode (put s x)) (marked_vars modes (map (put s) args)) none))
      (marked_comes modes args (no_right (argument_needs mode (put s x)) (marked_vars modes (map (put s) args)) none))

  kind_comes : (kind : Kind) (modes : List Mode) (args : List Term) → kind_needs false kind modes (map (put s) args) ≡ [] → AllByRecursion (IsClosedAt s) (kind_needs false kind modes args)
  kind_comes k.Fluent modes args none = tt
  kind_comes k.Event modes args none = tt
  kind_comes k.Action modes args none = tt
  kind_comes k.Timeless modes args none = marked_comes modes args none
  kind_comes k.Derived modes args none = marked_comes modes args none
  kind_comes k.Macro modes args none = marked_comes modes args none

  pub declared_comes : (decl : Option Decl) (args : List Term) → declared_needs false decl (map (put s) args) ≡ [] → AllByRecursion (IsClosedAt s) (declared_needs false decl args)
  declared_comes None args none = tt
  declared_comes (Some decl) args none = kind_comes decl.kind decl.modes args none

-- closed arguments are closed where they are marked
marked_none : (modes : List Mode) (args : List Term) → args_vars args ≡ [] → marked_vars modes args ≡ []
marked_none [] args none = refl
marked_none (mode ∷ modes) [] none = refl
marked_none (mode ∷ modes) (x ∷ args) none =
    both (argument_needs mode x) (marked_vars modes args) (one mode (no_left (term_vars x) (args_vars args) none)) (marked_none modes args (no_right (term_vars x) (args_vars args) none))
  where
    both : (xs ys : List ℕ) → xs ≡ [] → ys ≡ [] → (xs ++ ys) ≡ []
    both xs ys one two = λ i. one i ++ two i

    one : (mode : Mode) → term_vars x ≡ [] → argument_needs mode x ≡ []
    one m.Plus none = none
    one m.Minus none = refl
    one m.Star none = none

pub closed_marked : (decl : Option Decl) (args : List Term) → args_vars args ≡ [] → declared_needs false decl args ≡ []
closed_marked None args none = refl
closed_marked (Some decl) args none = by decl.kind
  where
    by : (kind : Kind) → kind_needs false kind decl.modes args ≡ []
    by k.Fluent = refl
    by k.Event = refl
    by k.Action = refl
    by k.Timeless = marked_none decl.modes args none
    by k.Derived = marked_none decl.modes args none
    by k.Macro = marked_none decl.modes args none

-- a marked goal stays marked
pub stays_marked : (s : ℕ → Term) (decl : Option Decl) (args : List Term) → declared_needs false decl args ≡ [] → declared_needs false decl (map (put s) args) ≡ []
stays_marked s decl args none = declared_closed s decl args (subst (AllByRecursion (IsClosedAt s)) (sym none) tt)

-- ---- a condition that is reached

module _ (s : ℕ → Term) (known : List ℕ) (all : AllByRecursion (IsClosedAt s) known) where
  side_closed : (x : Term) → are_known known (term_vars x) ≡ true → IsClosed (put s x)
  side_closed x h = closed_put s x (all_known (term_vars x) h)
    where
      all_known : (vars : List ℕ) → are_known known vars ≡ true → AllByRecursion (IsClosedAt s) vars
      all_known [] h = tt
      all_known (v ∷ vars) h = (one_known (IsClosedAt s) known v all (first_of_two (is_known known v) (are_known known vars) h), all_known vars (second_of (is_known known v) (are_known known vars) h))

  same_ready : (x y : Term) → AllByRecursion (IsClosedAt s) (same_needs known (term_vars x) (term_vars y)) → IsClosed (put s x) ⊎ IsClosed (put s y)
  same_ready x y h = by (are_known known (term_vars x)) refl (are_known known (term_vars y)) refl h
    where
      by : (one : Bool) → are_known known (term_vars x) ≡ one → (two : Bool) → are_known known (term_vars y) ≡ two →
          AllByRecursion (IsClosedAt s) (if one || two then [] else (term_vars x ++ term_vars y)) → IsClosed (put s x) ⊎ IsClosed (put s y)
      by true e two f h = inl (side_closed x e)
      by false e true f h = inr (side_closed y f)
      by false e false f h = inl (closed_put s x (all_first (IsClosedAt s) (term_vars x) (term_vars y) h))

  built_ready : (built : Built) → AllByRecursion (IsClosedAt s) (built_needs known built) → IsReady (put_built s built)
  built_ready (b.Same x y) h = same_ready x y h
  built_ready (b.Differ x y) h = (closed_put s x (all_first (IsClosedAt s) (term_vars x) (term_vars y) h), closed_put s y (all_second (IsClosedAt s) (term_vars x) (term_vars y) h))
  built_ready (b.Is x y) h = closed_put_expr s y h
  built_ready (b.Compare rel x y) h = (closed_put_expr s x (all_first (IsClosedAt s) (expr_vars x) (expr_vars y) h), closed_put_expr s y (all_second (IsClosedAt s) (expr_vars x) (expr_vars y) h))

  lit_ready : (decls : List Decl) (negated : Bool) (atom : Atom) → AllByRecursion (IsClosedAt s) (needs_of decls negated atom) → needs_of decls negated (record { name = atom.name; args = map (put s) atom.args }) ≡ []
  lit_ready decls true atom h = closed_put_args s atom.args h
  lit_ready decls false atom h = declared_closed s (decl_among decls atom.name) atom.args h

  cond_ready : (scope : Scope) (decls : List Decl) → scope.decls ≡ decls → scope.is_planned ≡ false → (cond : Cond) → AllByRecursion (IsClosedAt s) (cond_needs scope known cond) → IsReadyCond decls (put_cond s cond)
  cond_ready scope decls declared seen (c.Lit l) h =
      lit_ready decls l.negated l.atom
      (subst (AllByRecursion (IsClosedAt s)) (λ i. if l.negated then atom_vars l.atom else declared_needs (seen i) (decl_among (declared i) l.atom.name) l.atom.args) h)
  cond_ready scope decls declared seen (c.Built built) h = built_ready built h

module _ (text : Text) (b : TrailedBindings) (lawful : IsLawful b) (base : ℕ) (cond : Cond) (conds : List Cond) (wanted : List Term) (is : IsModedRun text b base (cond ∷ conds) wanted) where
  parts : (unknown_among is.scope.names is.known (cond_needs is.scope is.known cond) ≡ None) × (conds_unknown is.scope [] (learnt is.known (cond_vars cond)) conds ≡ None)
  parts = neither_is (unknown_among is.scope.names is.known (cond_needs is.scope is.known cond)) (conds_unknown is.scope [] (learnt is.known (cond_vars cond)) conds) is.moded

  -- what the first condition needs is closed
  pub first_ready : IsReadyCond (declarations text) (put_cond (values_in b base) cond)
  first_ready =
      let all : AllByRecursion (IsClosedAt (values_in b base)) is.known = is.closed (standing b).value (solves_itself b lawful) in
      cond_ready (values_in b base) is.known all is.scope (declarations text) is.declared is.seen cond
      (each_known (IsClosedAt (values_in b base)) is.scope.names is.known (cond_needs is.scope is.known cond) all parts.0)

  -- where the terms are the row the condition is ground, and then its variables are known
  pub next_moded : (terms row : List Term) → ((s : ℕ → Term) → Solves s b → map (put s) terms ≡ row → IsGroundCond (put_cond (λ v. s (base + v)) cond)) → IsModedStep text b base conds wanted terms row
  next_moded terms row ground = record {
    scope = is.scope;
    declared = is.declared;
    seen = is.seen;
    known = learnt is.known (cond_vars cond);
    closed = λ s of. all_learnt (λ v. IsClosed (s (base + v))) is.known (cond_vars cond) (is.closed s of.0) (cond_comes (λ v. s (base + v)) cond (ground s of.0 of.1));
    moded = parts.1;
    ends = λ s of rest. is.ends s of.0 (all_append (λ v. IsClosed (s (base + v))) (cond_vars cond) (flat_map cond_vars conds) (cond_comes (λ v. s (base + v)) cond (ground s of.0 of.1)) rest);
  }

-- fewer values
pub moded_on : (text : Text) (P Q : (ℕ → Term) → Type 0) (base : ℕ) (conds : List Cond) (wanted : List Term) → ((s : ℕ → Term) → P s → Q s) → IsModedFor text Q base conds wanted → IsModedFor text P base conds wanted
moded_on text P Q base conds wanted fewer is = record {
  scope = is.scope;
  declared = is.declared;
  seen = is.seen;
  known = is.known;
  closed = λ s of. is.closed s (fewer s of);
  moded = is.moded;
  ends = λ s of rest. is.ends s (fewer s of) rest;
}

-- at the end the wanted terms are closed
pub ended_closed : (text : Text) (b : TrailedBindings) (lawful : IsLawful b) (base : ℕ) (conds : List Cond) (wanted : List Term) → conds ≡ [] → IsModedRun text b base conds wanted → args_vars (map (put (standing b).value) wanted) ≡ []
ended_closed text b lawful base conds wanted none is =
    is.ends (standing b).value (solves_itself b lawful) (subst (λ (ks : List Cond). AllByRecursion (λ v. IsClosed ((standing b).value (base + v))) (flat_map cond_vars ks)) (sym none) tt)

-- ---- the conditions of a clause

pub clause_moded : (text : Text) → IsAccepted text → (clause : Clause) → Contains (clauses text) clause → (goal : Atom) → clause.head.name ≡ goal.name → IsMarked (declarations text) goal →
    (Of : (ℕ → Term) → Type 0) (base : ℕ) → ((s : ℕ → Term) → Of s → map (put s) goal.args ≡ map (put (λ v. s (base + v))) clause.head.args) → IsModedFor text Of base clause.conds goal.args
clause_moded text accepted clause among goal named marked Of base same =
    let stated = is_stated text clause among in
    let decls = declarations text in
    let scope : Scope = scope_at decls stated.statement [] false in
    let whole : conds_unknown scope (atom_vars clause.head) (head_known decls clause.head) clause.conds ≡ None =
    sym (ap (body_unknown decls stated.statement) stated.says) ∙ body_is_known text accepted stated.statement stated.among in
    let starts : (s : ℕ → Term) → Of s → AllByRecursion (λ v. IsClosed (s (base + v))) (head_known decls clause.head) =
    λ s of. all_learnt (λ v. IsClosed (s (base + v))) [] (declared_needs false (decl_among decls clause.head.name) clause.head.args) tt
    (declared_comes (λ v. s (base + v)) (decl_among decls clause.head.name) clause.head.args
    (subst (λ args. declared_needs false (decl_among decls clause.head.name) args ≡ []) (same s of)
    (stays_marked s (decl_among decls clause.head.name) goal.args (ap (λ name. declared_needs false (decl_among decls name) goal.args) named ∙ marked)))) in
    record {
      scope = scope;
      declared = refl;
      seen = refl;
      known = head_known decls clause.head;
      closed = starts;
      moded = wanted_nothing scope (atom_vars clause.head) (head_known decls clause.head) clause.conds whole;
      ends = λ s of rest. ap args_vars (same s of)
          ∙ closed_put_args (λ v. s (base + v)) clause.head.args
          (ends_known (λ v. IsClosed (s (base + v))) scope (atom_vars clause.head) (head_known decls clause.head) clause.conds whole (starts s of) rest);
    }

-- ---- the conditions that are asked for

vars_closed : (s : ℕ → Term) (vars : List ℕ) → AllByRecursion (IsClosedAt s) vars → args_vars (map (put s) (map (λ v. t.Var v) vars)) ≡ []
vars_closed s vars h = closed_put_args s (map (λ v. t.Var v) vars) (each vars h)
  where
    each : (vars : List ℕ) → AllByRecursion (IsClosedAt s) vars → AllByRecursion (IsClosedAt s) (args_vars (map (λ v. t.Var v) vars))
    each [] h = tt
    each (v ∷ vars) h = all_append (IsClosedAt s) (term_vars (t.Var v)) (args_vars (map (λ w. t.Var w) vars)) (subst (AllByRecursion (IsClosedAt s)) (sym (vars_of-Var v)) (h.0, tt)) (each vars h.1)

module _ (b : TrailedBindings) (lawful : IsLawful b) (s : ℕ → Term) (solves : Solves s b) where
  -- what the value of a closed variable holds is closed
  inside_closed : (v : ℕ) → IsClosed (s v) → AllByRecursion (IsClosedAt s) (term_vars ((standing b).value v))
  inside_closed v none = put_closed s ((standing b).value v) (ap term_vars (λ i. (sound b lawful).through s solves v i) ∙ none)

  left_closed : (conds : List Cond) → AllByRecursion (IsClosedAt s) (flat_map cond_vars conds) → AllByRecursion (IsClosedAt s) (flat_map cond_vars (map (put_cond (standing b).value) conds))
  left_closed [] h = tt
  left_closed (cond ∷ conds) h =
      all_append (IsClosedAt s) (cond_vars (put_cond (standing b).value cond)) (flat_map cond_vars (map (put_cond (standing b).value) conds))
      (put_cond_vars (IsClosedAt s) (standing b).value cond (all_weaker (IsClosedAt s) (λ v. AllByRecursion (IsClosedAt s) (term_vars ((standing b).value v))) inside_closed (cond_vars cond) (all_first (IsClosedAt s) (cond_vars cond) (flat_map cond_vars conds) h)))
      (left_closed conds (all_second (IsClosedAt s) (cond_vars cond) (flat_map cond_vars conds) h))

  -- a variable with a ground value is closed
  ground_closed : (v : ℕ) → IsTrue (is_ground ((standing b).value v)) → IsClosed (s v)
  ground_closed v h =
      let none : IsClosed ((standing b).value v) = no_vars ((standing b).value v) h in
      ap term_vars (sym (λ i. (sound b lawful).through s solves v i) ∙ closed_stays s ((standing b).value v) none) ∙ none

pub asked_moded : (text : Text) (b : TrailedBindings) (lawful : IsLawful b) (conds : List Cond) (wanted : List Term) → wanted ≡ map (λ v. t.Var v) (variables_left b conds) → AreModed text b conds → IsModedRun text b 0 conds wanted
asked_moded text b lawful conds wanted is moded = record {
  scope = moded.scope;
  declared = moded.declared;
  seen = moded.seen;
  known = moded.known;
  closed = λ s solves. subst (λ (at : ℕ → Term). AllByRecursion (IsClosedAt at) moded.known) (sym (from_zero s))
      (all_weaker (λ v. IsTrue (is_ground ((standing b).value v))) (IsClosedAt s) (ground_closed b lawful s solves) moded.known moded.ground);
  moded = moded.moded;
  ends = λ s solves rest. ap (λ xs. args_vars (map (put s) xs)) is
      ∙ vars_closed s (variables_left b conds)
      (with_all (IsClosedAt s) [] (flat_map cond_vars (map (put_cond (standing b).value) conds)) tt
      (left_closed b lawful s solves conds (subst (λ (at : ℕ → Term). AllByRecursion (IsClosedAt at) (flat_map cond_vars conds)) (from_zero s) rest)));
}

-- what is wanted is closed at the end
pub wanted_moded : (text : Text) (b : TrailedBindings) (lawful : IsLawful b) (conds : List Cond) (wanted : List Term) → AreModedFor text b conds wanted → IsModedRun text b 0 conds wanted
wanted_moded text b lawful conds wanted moded = record {
  scope = moded.scope;
  declared = moded.declared;
  seen = moded.seen;
  known = moded.known;
  closed = λ s solves. subst (λ (at : ℕ → Term). AllByRecursion (IsClosedAt at) moded.known) (sym (from_zero s)) (starts s solves);
  moded = wanted_nothing moded.scope (args_vars wanted) moded.known conds moded.moded;
  ends = λ s solves rest. closed_put_args s wanted
      (ends_known (IsClosedAt s) moded.scope (args_vars wanted) moded.known conds moded.moded (starts s solves)
      (subst (λ (at : ℕ → Term). AllByRecursion (IsClosedAt at) (flat_map cond_vars conds)) (from_zero s) rest));
}
  where
    starts : (s : ℕ → Term) → Solves s b → AllByRecursion (IsClosedAt s) moded.known
    starts s solves = all_weaker (λ v. IsTrue (is_ground ((standing b).value v))) (IsClosedAt s) (ground_closed b lawful s solves) moded.known moded.ground

-- ---- from call to call

-- where the goal and the head are unified, their arguments have the same values
pub joined_args : (ext new : TrailedBindings) (base : ℕ) (args head wanted pattern : List Term) → wanted ≡ args → pattern ≡ map (put (shift base)) head →
    (found : Bool) → JoinsAllOn found ext new wanted pattern → found ≡ true → (s : ℕ → Term) → Solves s new → map (put s) args ≡ map (put (λ v. s (base + v))) head
joined_args ext new base args head wanted pattern same_goal same_head found joins one s solves =
    ap (map (put s)) (sym same_goal) ∙ ((subst (λ (b : Bool). JoinsAllOn b ext new wanted pattern) one joins s).0 solves).1 ∙ ap (map (put s)) same_head ∙ shifted_is base s head

pub entered_moded : (text : Text) → IsAccepted text → (clause : Clause) → Contains (clauses text) clause → (goal : Atom) → clause.head.name ≡ goal.name → IsMarked (declarations text) goal →
    (ext new : TrailedBindings) (base : ℕ) (wanted pattern : List Term) (conds : List Cond) → conds ≡ clause.conds → wanted ≡ goal.args → pattern ≡ map (put (shift base)) clause.head.args →
    (found : Bool) → JoinsAllOn found ext new wanted pattern → found ≡ true → IsModedRun text new base conds wanted
entered_moded text accepted clause among goal named marked ext new base wanted pattern conds same_conds same_goal same_head found joins one =
    subst (λ (ks : List Cond). IsModedRun text new base ks wanted) (sym same_conds)
    (subst (λ (xs : List Term). IsModedRun text new base clause.conds xs) (sym same_goal)
    (clause_moded text accepted clause among goal named marked (λ s. Solves s new) base (joined_args ext new base goal.args clause.head.args wanted pattern same_goal same_head found joins one)))

pub bound_moded : (text : Text) (b new : TrailedBindings) (base : ℕ) (conds : List Cond) (wanted terms row : List Term) → AreGround row → (found : Bool) → JoinsAllOn found b new terms row → found ≡ true →
    IsModedStep text b base conds wanted terms row → IsModedRun text new base conds wanted
bound_moded text b new base conds wanted terms row ground found joins one =
    moded_on text (λ s. Solves s new) (λ s. Solves s b × (map (put s) terms ≡ row)) base conds wanted
    (λ s solves. let both = (subst (λ (f : Bool). JoinsAllOn f b new terms row) one joins s).0 solves in (both.0, both.1 ∙ list_stays s row ground))

pub row_moded : (text : Text) (b : TrailedBindings) (lawful : IsLawful b) (base : ℕ) (cond : Cond) (rest conds : List Cond) (wanted : List Term) → conds ≡ cond ∷ rest → IsModedRun text b base conds wanted →
    (program : List Clause) (facts : List Atom) (level : List ℕ → ℕ) (ways : Ways) → MeetsOn program facts level b (λ s. put_cond (λ v. s (base + v)) cond) ways →
    (terms row : List Term) → terms ≡ ways.terms → Contains ways.rows row → IsModedStep text b base rest wanted terms row
row_moded text b lawful base cond rest conds wanted split moded program facts level ways meets terms row same among =
    next_moded text b lawful base cond rest wanted (subst (λ (ks : List Cond). IsModedRun text b base ks wanted) split moded) terms row
    (λ s solves is. ((meets.met s solves).1 (subst (Contains ways.rows) (sym (ap (map (put s)) (sym same) ∙ is)) among)).ground)

pub clause_among : (program : List Clause) (i : ℕ) (goal : Atom) (clause : Clause) → clause ≡ clause_at program i → IsPlaceFor program goal i → Contains program clause
clause_among program i goal clause is place = subst (Contains program) (sym is) (Contains-get_or program i (record { head = record { name = []; args = [] }; conds = [] }) place.0)

pub clause_named : (program : List Clause) (i : ℕ) (goal : Atom) (clause : Clause) → clause ≡ clause_at program i → IsPlaceFor program goal i → clause.head.name ≡ goal.name
clause_named program i goal clause is place = ap (λ (k : Clause). k.head.name) is ∙ sym (matching_named goal (clause_at program i).head place.1)
