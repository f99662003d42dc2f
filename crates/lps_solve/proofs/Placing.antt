-- What the bindings make of a condition, and what solutions make of that.
use Rattle.std.proofs.Common.{ℕ, ◌≡◌, ◌+◌, ◌≤◌, ◌<◌, List, [], ◌∷◌, ◌++◌, map, take, length, get_or, refl, sym, ap, ◌∙◌, subst, arith}
use Rattle.std.specs.Prelude.{zero, suc, Option, Some, None, MatchOption, nat_lt, Bool, true, false}
use Rattle.std.proofs.lemmas.Bool.Decides.{nat_tests}
use Rattle.std.proofs.lemmas.List.{map-append}
use Rattle.lps_terms.specs.declared.expr.Expr.{Expr}
use Rattle.lps_terms.specs.declared.expr.Expr.TheVariants as e
use Rattle.lps_terms.specs.declared.op.Op.{Op}
use Rattle.lps_terms.specs.Symbols.{symbols_of, symbols_of_all, symbols_of_all-cons}
use Rattle.lps_model.specs.VariableLists.{args_vars, expr_vars, term_vars}
use Rattle.lps_unify.specs.Weights.{IsWithin}
use Rattle.lps_terms.specs.declared.cond.Cond.{Cond}
use Rattle.lps_terms.specs.declared.term.Term.{Term}
use Rattle.lps_terms.specs.Put.{put, after, put-put, put-Var}
use Rattle.lps_derivation.specs.Instances.{IsSmallCond, put_cond}
use Rattle.lps_derivation.proofs.Puts.{put_cond-put_cond}
use Rattle.lps_unify.specs.Bindings.{TrailedBindings, standing, count_of, resolved, Solves, IsLawful}
use Rattle.lps_unify.proofs.Standings.{sound, solves_itself, each_more}
use Rattle.lps_solve.specs.Placed.{AreBelow, shift, values_in}
use Rattle.lps_solve.proofs.Gaining.{take_more}
use Rattle.lps_solve.proofs.Vars.{all_first, all_second, IsBelow, put_vars, shift_below, within_of, vars_of-Apply}
use Rattle.lps_solve.proofs.Sizes.{small_before}

module _ (b : TrailedBindings) (lawful : IsLawful b) where
  -- with any terms in the places of what is free the bindings are solved
  pub solves_after : (s : ℕ → Term) → Solves (after s (standing b).value) b
  solves_after s = each_more (λ v u. (standing b).value v ≡ put (standing b).value u) (λ v u. after s (standing b).value v ≡ put (after s (standing b).value) u)
      (λ v u e. ap (put s) e ∙ put-put s (standing b).value u) b.added (solves_itself b lawful)

  module _ (base : ℕ) where
    -- a solution of what the bindings make of the variables is the solution of these
    pub same_values : (s : ℕ → Term) → Solves s b → after s (values_in b base) ≡ (λ v. s (base + v))
    same_values s solves = λ i v. (sound b lawful).through s solves (base + v) i

    pub placed_cond : (s : ℕ → Term) → Solves s b → (x : Cond) → put_cond s (put_cond (values_in b base) x) ≡ put_cond (λ v. s (base + v)) x
    placed_cond s solves x = put_cond-put_cond s (values_in b base) x ∙ ap (λ f. put_cond f x) (same_values s solves)

    pub placed_again : (xs : List Term) → map (put (standing b).value) (map (put (values_in b base)) xs) ≡ map (put (values_in b base)) xs
    placed_again [] = refl
    placed_again (x ∷ xs) =
        let one : put (standing b).value (put (values_in b base) x) ≡ put (values_in b base) x =
        put-put (standing b).value (values_in b base) x ∙ ap (λ f. put f x) (same_values (standing b).value (solves_itself b lawful)) in
        (λ i. one i ∷ placed_again xs i)

    -- what is too large with the bindings put in is too large in each instance
    pub never_small : (s : ℕ → Term) → Solves s b → (x : Cond) → (IsSmallCond (put_cond (values_in b base) x) → ⊥) → IsSmallCond (put_cond (λ v. s (base + v)) x) → ⊥
    never_small s solves x never h = never (small_before s (put_cond (values_in b base) x) (subst IsSmallCond (sym (placed_cond s solves x)) h))

-- ---- what the code builds

not_small_by : (n : ℕ) (small : Bool) → nat_lt 1024 n ≡ small → (n ≤ 1024 → ⊥) → 1024 < n
not_small_by n true e never = grind (arith, nat_tests)
not_small_by n false e never = absurd (never (grind (arith, nat_tests)))

not_small : (n : ℕ) → (n ≤ 1024 → ⊥) → 1024 < n
not_small n never = not_small_by n (nat_lt 1024 n) refl never

module _ (b : TrailedBindings) (base : ℕ) (x shifted : Term) (is : shifted ≡ put (shift base) x) where
  pub shifted_within : AreBelow (count_of b) base (term_vars x) → IsWithin (count_of b) shifted
  shifted_within h =
      subst (IsWithin (count_of b)) (sym is) (within_of (count_of b) (put (shift base) x) (put_vars (IsBelow (count_of b)) (shift base) x (shift_below (count_of b) base (term_vars x) h)))

  pub resolved_is : resolved b shifted ≡ put (values_in b base) x
  resolved_is =
      ap (resolved b) is ∙ put-put (standing b).value (shift base) x ∙ ap (λ f. put f x) (λ i v. put-Var (standing b).value (base + v) i)

  pub too_large : (symbols_of (resolved b shifted) ≤ 1024 → ⊥) → 1024 < symbols_of (put (values_in b base) x)
  too_large never = let e = ap symbols_of resolved_is in let more = not_small (symbols_of (resolved b shifted)) never in omega (arith, e, more)

pub item_below : (count base : ℕ) (xs : List Term) (i : ℕ) (x : Term) → i < length xs → x ≡ get_or xs i x → AreBelow count base (args_vars xs) → AreBelow count base (term_vars x)
item_below count base [] i x lt is h = absurd (omega arith)
item_below count base (y ∷ ys) zero x lt is h = subst (λ z. AreBelow count base (term_vars z)) (sym is) (all_first (λ v. base + v < count) (term_vars y) (args_vars ys) h)
item_below count base (y ∷ ys) (suc i) x lt is h = item_below count base ys i x (omega arith) is (all_second (λ v. base + v < count) (term_vars y) (args_vars ys) h)

pub large_item : (s : ℕ → Term) (xs : List Term) (i : ℕ) (x : Term) → i < length xs → x ≡ get_or xs i x → 1024 < symbols_of (put s x) → 1024 < symbols_of_all (map (put s) xs)
large_item s [] i x lt is h = absurd (omega arith)
large_item s (y ∷ ys) zero x lt is h = let e = ap (λ z. symbols_of (put s z)) is in omega (arith, h, e, symbols_of_all-cons (put s y) (map (put s) ys))
large_item s (y ∷ ys) (suc i) x lt is h = let rest = large_item s ys i x (omega arith) is h in omega (arith, rest, symbols_of_all-cons (put s y) (map (put s) ys))

pub map_more : (f : Term → Term) (xs : List Term) (i : ℕ) (x y : Term) (copies new : List Term) → i < length xs → x ≡ get_or xs i x → copies ≡ map f (take i xs) → y ≡ f x → new ≡ copies ++ y ∷ [] → new ≡ map f (take (i + 1) xs)
map_more f xs i x y copies new lt is so one e =
    e ∙ (λ j. so j ++ one j ∷ []) ∙ sym (map-append f (take i xs) (x ∷ [])) ∙ ap (map f) (sym (take_more i xs x lt is))

pub none_is : {X : Type 0} (o : Option X) (P : Type 0) (Q : X → Type 0) → o ≡ None → MatchOption o P Q → P
none_is o P Q e h = subst (λ z. MatchOption z P Q) e h

pub some_is : {X : Type 0} (o : Option X) (P : Type 0) (Q : X → Type 0) (x : X) → o ≡ Some x → MatchOption o P Q → Q x
some_is o P Q x e h = subst (λ z. MatchOption z P Q) e h

pub operands_below : (count base : ℕ) (op : Op) (x y : Expr) → AreBelow count base (expr_vars (e.Apply op x y)) → AreBelow count base (expr_vars x) × AreBelow count base (expr_vars y)
operands_below count base op x y h =
    let both = subst (AreBelow count base) (vars_of-Apply op x y) h in
    (all_first (λ v. base + v < count) (expr_vars x) (expr_vars y) both, all_second (λ v. base + v < count) (expr_vars x) (expr_vars y) both)
