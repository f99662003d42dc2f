-- What lists have, and lists that grow.
use Rattle.std.specs.Prelude.{◌≡◌, ◌⊎◌, ◌↔◌, ℕ, List, Some, slice_get, Contains}

-- the list has exactly what P holds of
abbrev pub HasExactly : {X : Type 0} → List X → (X → Type 0) → Type 0
HasExactly {X} xs P = (x : X) → Contains xs x ↔ P x

-- the new list has what the old one has, and what P holds of
abbrev pub Gains : {X : Type 0} → List X → List X → (X → Type 0) → Type 0
Gains {X} old new P = HasExactly new (λ x. Contains old x ⊎ P x)

-- each is there once
abbrev pub AreOnce : {X : Type 0} → List X → Type 0
AreOnce {X} xs = (i j : ℕ) (x : X) → slice_get xs i ≡ Some x → slice_get xs j ≡ Some x → i ≡ j

-- what some element of a list gives
abbrev pub ByOne : {X Y : Type 0} → List X → (X → Y → Type 0) → Y → Type 0
ByOne {X} xs R y = (x : X) × Contains xs x × R x y
