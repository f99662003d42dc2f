-- A place of a walk has a residual: its most general shape, with variables and unknown times numbered by first occurrence.
use Rattle.std.proofs.Common.{ℕ, zero, suc, Bool, true, false, cond, ◌≡◌, ◌<◌, List, [], ◌∷◌, ◌++◌, ◌∙◌, length, map, refl, sym, ap, subst, arith}
use Rattle.std.specs.Prelude.{◌&&◌, ◌||◌, nat_eq, nat_lt}
use Rattle.std.specs.List.{AllByRecursion, flat_map}
use Rattle.std.proofs.lemmas.Bool.Decides.{nat_tests}
use Rattle.lps_terms.specs.declared.term.Term.{Term}
use Rattle.lps_terms.specs.declared.term.Term.TheVariants as term
use Rattle.lps_terms.specs.declared.text.Text.{Text}
use Rattle.lps_terms.specs.Put.{after, put-Var}
use Rattle.lps_model.specs.VariableLists.{term_vars}
use Rattle.lps_meaning.specs.declared.node.Node.{Node}
use Rattle.lps_meaning.specs.declared.when.When.{When}
use Rattle.lps_meaning.specs.declared.when.When.TheVariants.{Unknown}
use Rattle.lps_meaning.specs.Goals.{AreAllGround}
use Rattle.lps_meaning.specs.Sequences.{Place, Times, Values, done, rank}
use Rattle.lps_nodes.specs.Nodes.{IsResidual}
use Rattle.lps_nodes.specs.Shapes.{IsCanonical, IsGeneral, Sequence, Shape, is_numbered, put_shape, shape_unknowns, shape_vars, unknowns, untested}
use Rattle.lps_meaning.proofs.Occurrences.{all_to, vars-Var}
use Rattle.lps_nodes.proofs.Canonical.{canonical_untested}
use Rattle.lps_nodes.proofs.OwnShapes.{own, own_shape, own_time}
use Rattle.lps_nodes.proofs.ShapeLaws.{after_when, closed, shape_after, shape_put}
use Rattle.lps_nodes.proofs.ShapeTerms.{same_shape, unknowns_of_put, vars_of_put}
use Rattle.lps_nodes.proofs.Unifiers.{is_in}

-- ---- numbers by first occurrence

-- those of the list that are not among these, each once, by first occurrence
abbrev new_in : List ℕ → List ℕ → List ℕ
new_in seen [] = []
new_in seen (v ∷ vs) = cond (is_in v seen) (new_in seen vs) (v ∷ new_in (seen ++ v ∷ []) vs)

-- where v first stands in the list
abbrev index : List ℕ → ℕ → ℕ
index [] v = 0
index (x ∷ xs) v = cond (nat_eq x v) 0 (suc (index xs v))

-- what stands there
abbrev at : List ℕ → ℕ → ℕ
at [] n = 0
at (x ∷ xs) zero = x
at (x ∷ xs) (suc n) = at xs n

false_true : false ≡ true → ⊥
false_true e = cc

equal : (m n : ℕ) → nat_eq m n ≡ true → m ≡ n
equal m n e = grind (arith, nat_tests)

same : (n : ℕ) → nat_eq n n ≡ true
same n = grind (arith, nat_tests)

lower : (m n : ℕ) → m < n → nat_lt m n ≡ true
lower m n lt = grind (arith, nat_tests)

in_first : (seen more : List ℕ) (v : ℕ) → is_in v seen ≡ true → index (seen ++ more) v < length seen
in_first [] more v e = absurd (false_true e)
in_first (x ∷ seen) more v e = by (in_first seen more v) (nat_eq x v) refl
  where
    by : (is_in v seen ≡ true → index (seen ++ more) v < length seen) → (b : Bool) → nat_eq x v ≡ b → cond b 0 (suc (index (seen ++ more) v)) < suc (length seen)
    by later true is = omega arith
    by later false is = let more_in = later (ap (λ b. b || is_in v seen) (sym is) ∙ e) in omega (arith, more_in)

in_behind : (seen more : List ℕ) (v : ℕ) → is_in v seen ≡ false → index (seen ++ v ∷ more) v ≡ length seen
in_behind [] more v e = ap (λ b. cond b 0 (suc (index more v))) (same v)
in_behind (x ∷ seen) more v e = by (in_behind seen more v) (nat_eq x v) refl
  where
    by : (is_in v seen ≡ false → index (seen ++ v ∷ more) v ≡ length seen) → (b : Bool) → nat_eq x v ≡ b → cond b 0 (suc (index (seen ++ v ∷ more) v)) ≡ suc (length seen)
    by later true is = absurd (false_true (sym e ∙ ap (λ b. b || is_in v seen) is))
    by later false is = ap suc (later (ap (λ b. b || is_in v seen) (sym is) ∙ e))

at_index : (xs : List ℕ) (v : ℕ) → is_in v xs ≡ true → at xs (index xs v) ≡ v
at_index [] v e = absurd (false_true e)
at_index (x ∷ xs) v e = by (at_index xs v) (nat_eq x v) refl
  where
    by : (is_in v xs ≡ true → at xs (index xs v) ≡ v) → (b : Bool) → nat_eq x v ≡ b → at (x ∷ xs) (cond b 0 (suc (index xs v))) ≡ v
    by later true is = equal x v is
    by later false is = later (ap (λ b. b || is_in v xs) (sym is) ∙ e)

append_one : (xs : List ℕ) (v : ℕ) (ys : List ℕ) → (xs ++ v ∷ []) ++ ys ≡ xs ++ v ∷ ys
append_one [] v ys = refl
append_one (x ∷ xs) v ys = ap (λ zs. x ∷ zs) (append_one xs v ys)

longer_by_one : (xs : List ℕ) (v : ℕ) → length (xs ++ v ∷ []) ≡ suc (length xs)
longer_by_one [] v = refl
longer_by_one (x ∷ xs) v = ap suc (longer_by_one xs v)

or_left : (a b : Bool) → a ≡ true → (a || b) ≡ true
or_left true b e = refl
or_left false b e = absurd (false_true e)

or_right : (a b : Bool) → b ≡ true → (a || b) ≡ true
or_right true b e = refl
or_right false b e = e

and_both : (a b : Bool) → a ≡ true → b ≡ true → (a && b) ≡ true
and_both true b e f = f
and_both false b e f = absurd (false_true e)

-- each of the list has a number, and they are numbered by first occurrence
numbered_from : (seen vs : List ℕ) → is_numbered (length seen) (map (index (seen ++ new_in seen vs)) vs) ≡ true
numbered_from seen [] = refl
numbered_from seen (v ∷ vs) = by (numbered_from seen vs) (numbered_from (seen ++ v ∷ []) vs) (is_in v seen) refl
  where
    by : is_numbered (length seen) (map (index (seen ++ new_in seen vs)) vs) ≡ true →
        is_numbered (length (seen ++ v ∷ [])) (map (index ((seen ++ v ∷ []) ++ new_in (seen ++ v ∷ []) vs)) vs) ≡ true →
        (b : Bool) → is_in v seen ≡ b → is_numbered (length seen) (map (index (seen ++ cond b (new_in seen vs) (v ∷ new_in (seen ++ v ∷ []) vs))) (v ∷ vs)) ≡ true
    by same_seen one_more true is = or_left _ _ (and_both _ _ (lower _ _ (in_first seen (new_in seen vs) v is)) same_seen)
    by same_seen one_more false is =
        let more = new_in (seen ++ v ∷ []) vs in
        let here : index (seen ++ v ∷ more) v ≡ length seen = in_behind seen more v is in
        or_right _ _ (and_both _ _ (ap (λ n. nat_eq n (length seen)) here ∙ same (length seen))
        (subst (λ all. is_numbered (suc (length seen)) (map (index all) vs) ≡ true) (append_one seen v more)
        (subst (λ n. is_numbered n (map (index ((seen ++ v ∷ []) ++ more)) vs) ≡ true) (longer_by_one seen v) one_more)))

in_front_of : (v : ℕ) (seen more : List ℕ) → is_in v seen ≡ true → is_in v (seen ++ more) ≡ true
in_front_of v [] more e = absurd (false_true e)
in_front_of v (x ∷ seen) more e = by (in_front_of v seen more) (nat_eq x v) refl
  where
    by : (is_in v seen ≡ true → is_in v (seen ++ more) ≡ true) → (b : Bool) → nat_eq x v ≡ b → (b || is_in v (seen ++ more)) ≡ true
    by later true is = refl
    by later false is = later (ap (λ b. b || is_in v seen) (sym is) ∙ e)

in_middle : (v : ℕ) (seen more : List ℕ) → is_in v (seen ++ v ∷ more) ≡ true
in_middle v [] more = or_left (nat_eq v v) (is_in v more) (same v)
in_middle v (x ∷ seen) more = or_right (nat_eq x v) _ (in_middle v seen more)

each_has_place : (seen vs : List ℕ) → AllByRecursion (λ v. is_in v (seen ++ new_in seen vs) ≡ true) vs
each_has_place seen [] = tt
each_has_place seen (v ∷ vs) = by (each_has_place seen vs) (each_has_place (seen ++ v ∷ []) vs) (is_in v seen) refl
  where
    by : AllByRecursion (λ u. is_in u (seen ++ new_in seen vs) ≡ true) vs → AllByRecursion (λ u. is_in u ((seen ++ v ∷ []) ++ new_in (seen ++ v ∷ []) vs) ≡ true) vs →
        (b : Bool) → is_in v seen ≡ b → AllByRecursion (λ u. is_in u (seen ++ cond b (new_in seen vs) (v ∷ new_in (seen ++ v ∷ []) vs)) ≡ true) (v ∷ vs)
    by same_seen one_more true is = (in_front_of v seen (new_in seen vs) is, same_seen)
    by same_seen one_more false is =
        let more = new_in (seen ++ v ∷ []) vs in
        (in_middle v seen more, subst (λ all. AllByRecursion (λ u. is_in u all ≡ true) vs) (append_one seen v more) one_more)

-- ---- shapes

module _ (text : Text) (seq : Sequence) (s : Values) (t : Times) (ground : AreAllGround s) (place : Place) (g : Shape) (is : IsGeneral seq s t place g) where
  abbrev variables : List ℕ
  variables = new_in [] (shape_vars g)

  abbrev times : List ℕ
  times = new_in [] (shape_unknowns g)

  abbrev f : ℕ → Term
  f v = term.Var (index variables v)

  abbrev f' : ℕ → Term
  f' n = term.Var (at variables n)

  abbrev e : ℕ → When
  e k = Unknown (index times k)

  abbrev e' : ℕ → When
  e' n = Unknown (at times n)

  abbrev numbered_shape : Shape
  numbered_shape = put_shape f e g

  renamed : (vs : List ℕ) → flat_map (λ v. term_vars (f v)) vs ≡ map (index variables) vs
  renamed [] = refl
  renamed (v ∷ vs) = λ j. vars-Var (index variables v) j ++ renamed vs j

  renamed_times : (ks : List ℕ) → flat_map (λ k. unknowns (e k)) ks ≡ map (index times) ks
  renamed_times [] = refl
  renamed_times (k ∷ ks) = ap (λ more. index times k ∷ more) (renamed_times ks)

  canonical : IsCanonical numbered_shape
  canonical = (
    ap (is_numbered 0) (vars_of_put f e g ∙ renamed (shape_vars g)) ∙ numbered_from [] (shape_vars g),
    ap (is_numbered 0) (unknowns_of_put f e g ∙ renamed_times (shape_unknowns g)) ∙ numbered_from [] (shape_unknowns g),
  )

  back : put_shape f' e' numbered_shape ≡ g
  back =
      shape_put f' f e' e g
      ∙ same_shape (after f' f) own (after_when e' e) own_time g
      (all_to (λ v. is_in v variables ≡ true) (λ v. after f' f v ≡ own v) (λ v among. put-Var f' (index variables v) ∙ ap (λ n. term.Var n) (at_index variables v among)) (shape_vars g)
      (each_has_place [] (shape_vars g)))
      (all_to (λ k. is_in k times ≡ true) (λ k. after_when e' e k ≡ own_time k) (λ k among. ap (λ n. Unknown n) (at_index times k among)) (shape_unknowns g) (each_has_place [] (shape_unknowns g)))
      ∙ own_shape g

  general : IsGeneral seq s t place numbered_shape
  general = record {
    values = λ env. after f (is.values env);
    whens = λ env. after_when e (is.whens env);
    possible = closed text seq s t ground place is.values is.whens f e is.possible;
    own = ap (put_shape f e) is.own ∙ shape_after text seq s t ground place is.values is.whens f e;
    general = λ u w possible.
        let r = is.general u w possible in
        (after r.0 f', after_when r.1 e', r.2 ∙ ap (put_shape r.0 r.1) (sym back) ∙ shape_put r.0 f' r.1 e' numbered_shape);
  }

  pub residual_there : (number : ℕ) → (node : Node) × (node.alternative ≡ number) × IsResidual seq s t place node
  residual_there number = (
    record {
      alternative = number;
      rank = rank place;
      done = done place;
      carry = (untested numbered_shape).carry;
      rest = (untested numbered_shape).rest;
      limits = (untested numbered_shape).limits;
    },
    refl,
    record { whole = numbered_shape; general = general; tested = refl; canonical = canonical_untested numbered_shape canonical; of_rank = refl; of_done = refl },
  )
