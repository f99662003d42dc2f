-- What is known of an accepted text.
use Rattle.std.specs.Prelude.{◌≡◌, ℕ, IsTrue, List, None}
use Rattle.lps_terms.specs.declared.decl.Decl.{Decl}
use Rattle.lps_terms.specs.declared.text.Text.{Text}
use Rattle.lps_model.specs.Acceptance.{early_refusal}
use Rattle.lps_model.specs.Formed.{is_formed}
use Rattle.lps_model.specs.Levels.{AreLevelsOf}
use Rattle.lps_model.specs.Program.{declarations}

-- the text is well-formed and not refused, and these are its declarations and levels for its names
pub record IsAdopted (text : Text) (decls : List Decl) (levels : List (List ℕ × ℕ)) : Type 0 where
  pub declared : decls ≡ declarations text
  pub not_refused : early_refusal text ≡ None
  pub levelled : AreLevelsOf text levels
  pub formed : IsTrue (is_formed text)
