-- The ends of a window.
use Rattle.std.specs.Prelude.{◌≡◌, ◌≤ℤ◌, ◌<ℤ◌, ◌+ℤ◌, ℕ, ℤ, pos, MatchOption}
use Rattle.lps_windows.specs.declared.window.Window.{Window}

-- a last value from here on is only that of the horizon
abbrev pub unbounded : ℕ
unbounded = 500000000000000

-- a window has the numbers from the least to the greatest, each shifted; where the greatest is unbounded there is no last
pub record IsShifted (least greatest : ℤ) (shift : ℕ) (window : Window) : Type 0 where
  pub first : pos window.first ≡ least +ℤ pos shift
  pub last : MatchOption window.last (pos unbounded ≤ℤ greatest) (λ last. (greatest <ℤ pos unbounded) × (pos last ≡ greatest +ℤ pos shift))
