-- What unifying two terms does to bindings.
use Rattle.std.proofs.Common.{Bor}
use Rattle.std.specs.Prelude.{◌<◌, ℕ, zero, suc, ◌+◌, ◌≡◌, ◌≤◌, ◌↔◌, not, if◌then◌else◌, Bool, true, false, List, ◌++◌, map, slice_index_or, sum_by}
use Rattle.std.specs.BTreeSet.{BTreeSet, contains}
use Rattle.std.specs.declared.cmp.Ordering.{Ordering}
use Rattle.std.specs.Ordering.{nat_cmp, ordering_then}
use Rattle.lps_terms.specs.declared.term.Term.{Term}
use Rattle.lps_terms.specs.declared.term.Term.TheVariants as t
use Rattle.lps_terms.specs.Order.{rank_of, term_cmp}
use Rattle.lps_terms.specs.Put.{put}
use Rattle.lps_unify.specs.declared.added.Added.{Added}
use Rattle.lps_unify.specs.declared.step.Step.{Step}
use Rattle.lps_unify.specs.declared.step.Step.TheVariants as step
use Rattle.lps_unify.specs.Weights.{occurrences, outside, weigh}
use Rattle.lps_unify.specs.Bindings.{TrailedBindings, standing, count_of, resolved, Solves, IsBindable}

-- the bindings keep what they had, and their variables, and may have more bound
pub record IsExtended (old new : TrailedBindings) : Type 0 where
  pub first : new.first ≡ old.first
  pub count : count_of new ≡ count_of old
  pub more : List Added
  pub kept : new.added ≡ old.added ++ more

-- exactly the substitutions that solve the old bindings and make x and y equal solve the new ones
abbrev pub AddsUnifier : TrailedBindings → TrailedBindings → Term → Term → Type 0
AddsUnifier old new x y = (s : ℕ → Term) → Solves s new ↔ (Solves s old × (put s x ≡ put s y))

-- no substitution that solves the bindings makes x and y equal
abbrev pub HasNoUnifier : TrailedBindings → Term → Term → Type 0
HasNoUnifier b x y = (s : ℕ → Term) → Solves s b → put s x ≡ put s y → ⊥

-- true adds a unifier, and false comes where there is none
abbrev pub JoinsOn : Bool → TrailedBindings → TrailedBindings → Term → Term → Type 0
JoinsOn true old new x y = AddsUnifier old new x y
JoinsOn false old new x y = HasNoUnifier old x y

-- the same, with the bindings as before where there is none
abbrev pub UnifiesOn : Bool → TrailedBindings → TrailedBindings → Term → Term → Type 0
UnifiesOn true old new x y = IsExtended old new × AddsUnifier old new x y
UnifiesOn false old new x y = (new ≡ old) × HasNoUnifier old x y

-- x and y are equal under each substitution that solves the bindings
abbrev pub IsSame : TrailedBindings → Term → Term → Type 0
IsSame b x y = (s : ℕ → Term) → Solves s b → put s x ≡ put s y

-- to make x and y equal, v has to be u
pub record Binds (b : TrailedBindings) (x y : Term) (v : ℕ) (u : Term) : Type 0 where
  pub bindable : IsBindable (standing b) v u
  pub follows : (s : ℕ → Term) → Solves s b → put s x ≡ put s y → s v ≡ put s u

-- what is next on the way to a unifier of x and y
abbrev pub IsStep : TrailedBindings → Term → Term → Step → Type 0
IsStep b x y step.Same = IsSame b x y
IsStep b x y step.Clash = HasNoUnifier b x y
IsStep b x y (step.Bind v u) = Binds b x y v u

-- whether v stands in the term with the bindings put in
abbrev pub OccursOn : Bool → TrailedBindings → ℕ → Term → Type 0
OccursOn true b v x = 1 ≤ occurrences v (resolved b x)
OccursOn false b v x = occurrences v (resolved b x) ≡ 0

-- v stands in the value of none of these variables
abbrev pub AreWithout : TrailedBindings → ℕ → BTreeSet ℕ → Type 0
AreWithout b v seen = (w : ℕ) → contains nat_cmp seen w ≡ true → occurrences v ((standing b).value w) ≡ 0

-- the term is no variable
abbrev pub IsNoVariable : Term → Type 0
IsNoVariable x = 1 ≤ rank_of x

-- each variable of the terms is one of the first so many
abbrev pub AreWithin : ℕ → List Term → Type 0
AreWithin count xs = sum_by (weigh (outside count)) xs ≡ 0

-- x and y are equal item by item under each substitution that solves the bindings
abbrev pub IsSameAll : TrailedBindings → List Term → List Term → Type 0
IsSameAll b xs ys = (s : ℕ → Term) → Solves s b → map (put s) xs ≡ map (put s) ys

-- what is next on the way to a unifier of two lists
pub record BindsAll (b : TrailedBindings) (xs ys : List Term) (v : ℕ) (u : Term) : Type 0 where
  pub bindable : IsBindable (standing b) v u
  pub follows : (s : ℕ → Term) → Solves s b → map (put s) xs ≡ map (put s) ys → s v ≡ put s u

abbrev pub IsStepOfAll : TrailedBindings → List Term → List Term → Step → Type 0
IsStepOfAll b xs ys step.Same = IsSameAll b xs ys
IsStepOfAll b xs ys step.Clash = (s : ℕ → Term) → Solves s b → map (put s) xs ≡ map (put s) ys → ⊥
IsStepOfAll b xs ys (step.Bind v u) = BindsAll b xs ys v u

-- the order of pairs of a variable and a term
abbrev pub pair_cmp : ℕ × Bor Term → ℕ × Bor Term → Ordering
pair_cmp p q = ordering_then (nat_cmp p.0 q.0) (term_cmp p.1.now q.1.now)

-- the variable and the term of each pair are equal under each substitution that solves the bindings
abbrev pub AreSame : TrailedBindings → BTreeSet (ℕ × Bor Term) → Type 0
AreSame b same = (v : ℕ) (x : Bor Term) → contains pair_cmp same (v, x) ≡ true → IsSame b (t.Var v) x.now

-- how many numbers below n pass
abbrev pub count_below : ℕ → (ℕ → Bool) → ℕ
count_below zero p = 0
count_below (suc n) p = (if p n then 1 else 0) + count_below n p

-- how many variables are not bound
abbrev pub count_free : TrailedBindings → ℕ
count_free b = count_below (count_of b) (λ w. not ((standing b).is_bound w))

-- the same of two lists, item by item
abbrev pub JoinsAllOn : Bool → TrailedBindings → TrailedBindings → List Term → List Term → Type 0
JoinsAllOn true old new xs ys = (s : ℕ → Term) → Solves s new ↔ (Solves s old × (map (put s) xs ≡ map (put s) ys))
JoinsAllOn false old new xs ys = (s : ℕ → Term) → Solves s old → map (put s) xs ≡ map (put s) ys → ⊥

-- the first so many items are equal
abbrev pub AreFirst : (ℕ → Term) → ℕ → List Term → List Term → Type 0
AreFirst s count xs ys = (k : ℕ) → k < count → (d : Term) → put s (slice_index_or xs k d) ≡ put s (slice_index_or ys k d)

-- exactly the substitutions that solve the old bindings and make the first so many items equal solve the new ones
abbrev pub AddsFirst : ℕ → TrailedBindings → TrailedBindings → List Term → List Term → Type 0
AddsFirst count old new xs ys = (s : ℕ → Term) → Solves s new ↔ (Solves s old × AreFirst s count xs ys)
