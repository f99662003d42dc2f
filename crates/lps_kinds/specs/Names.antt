-- Sets of names.
use Rattle.std.specs.Prelude.{◌≡◌, ℕ, List}
use Rattle.std.specs.List.{list_any}
use Rattle.std.specs.Str.{bytes_eq}
use Rattle.lps_model.specs.KindRefusals.{is_among}

-- the set has exactly these names
pub record IsSetOf (before : List (List ℕ)) (names : List (List ℕ)) : Type 0 where
  pub members : (name : List ℕ) → list_any (bytes_eq name) names ≡ is_among before name
