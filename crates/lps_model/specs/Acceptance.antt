-- Which texts are accepted, and why another is not.
use Rattle.std.specs.Prelude.{◌≡◌, ℕ, List, Option, Some, None}
use Rattle.std.specs.Option.{option_or}
use Rattle.lps_terms.specs.declared.refused.Refused.{Refused}
use Rattle.lps_terms.specs.declared.refused.Refused.TheVariants.{Unlevelled}
use Rattle.lps_terms.specs.declared.text.Text.{Text}
use Rattle.lps_model.specs.Calls.{calls}
use Rattle.lps_model.specs.Declarations.{kind_among}
use Rattle.lps_model.specs.KindRefusals.{kind_refusal}
use Rattle.lps_model.specs.Known.{unknown_of}
use Rattle.lps_model.specs.Levels.{AreCallLevels, IsUnlevelled}
use Rattle.lps_model.specs.Order.{order_refusal}
use Rattle.lps_model.specs.Program.{declarations}

-- the refusal for names and kinds, for order, or for an unknown variable: the first of these that stands
abbrev pub early_refusal : Text → Option Refused
early_refusal text = option_or (kind_refusal text) (option_or (order_refusal (kind_among (declarations text)) text.statements) (unknown_of text))

-- the text is accepted: none of these stands, and there are levels for its calls
pub record IsAccepted (text : Text) : Type 0 where
  pub not_refused : early_refusal text ≡ None
  pub level : List ℕ → ℕ
  pub levelled : AreCallLevels (calls text) level

-- The text is refused for this: the first that stands, where it has no levels last.
abbrev pub IsRefusedFor : Text → Refused → Type 0
IsRefusedFor text (Unlevelled cycle) = (early_refusal text ≡ None) × IsUnlevelled text cycle
IsRefusedFor text refused = early_refusal text ≡ Some refused
