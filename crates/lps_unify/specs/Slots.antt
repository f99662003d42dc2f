-- Where the binding of each variable stands among the additions.
use Rattle.std.specs.Prelude.{ℕ, zero, suc, ◌≡◌, ◌<◌, false, Option, None, Some, List, [], ◌∷◌, length, slice_index_or}
use Rattle.lps_terms.specs.declared.term.Term.{Term}
use Rattle.lps_terms.specs.Put.{put}
use Rattle.lps_terms.specs.declared.term.Term.TheVariants as t
use Rattle.lps_unify.specs.declared.added.Added.{Added}
use Rattle.lps_unify.specs.declared.added.Added.TheVariants.{Bind, More}
use Rattle.lps_unify.specs.Weights.{size, IsWithin}
use Rattle.lps_unify.specs.Bindings.{TrailedBindings, standing, count_of, resolved, Solves, IsLawful}

-- so many slots of variables that are not bound
abbrev pub free_slots : ℕ → List (Option ℕ)
free_slots zero = []
free_slots (suc n) = None ∷ free_slots n

-- addition i binds v
abbrev pub BindsAt : List Added → ℕ → ℕ → Type 0
BindsAt added i v = (i < length added) × ((u : Term) × (slice_index_or added i (More 0) ≡ Bind v u))

-- The additions could be made, and there is a slot for each variable, which says where it is bound.
pub record IsKept (slots : List (Option ℕ)) (b : TrailedBindings) : Type 0 where
  pub lawful : IsLawful b
  pub each : length slots ≡ count_of b
  pub bound : (v i : ℕ) → v < length slots → slice_index_or slots v None ≡ Some i → BindsAt b.added i v
  pub free : (v : ℕ) → v < length slots → slice_index_or slots v None ≡ None → (standing b).is_bound v ≡ false

-- v is bound to u
pub record IsBound (b : TrailedBindings) (v : ℕ) (u : Term) : Type 0 where
  pub solved : (s : ℕ → Term) → Solves s b → s v ≡ put s u
  pub value : (standing b).value v ≡ put (standing b).value u
  pub smaller : size (standing b).rank u < (standing b).rank v
  pub within : IsWithin (count_of b) u

-- v is not bound, and each solution goes through the values
pub record IsFree (b : TrailedBindings) (v : ℕ) : Type 0 where
  pub unbound : (standing b).is_bound v ≡ false
  pub value : (standing b).value v ≡ t.Var v
  pub through : (s : ℕ → Term) → Solves s b → (x : Term) → put s (resolved b x) ≡ put s x
