-- The times of a macro clause: the begin of its first step and the end of its last.
use Rattle.std.specs.Prelude.{◌≡◌, ℕ, List, [], ◌∷◌, Option, Some, None}
use Rattle.lps_terms.specs.declared.item.Item.{Item}
use Rattle.lps_terms.specs.declared.item.Item.TheVariants as i
use Rattle.lps_terms.specs.declared.text.Text.{Text}
use Rattle.lps_model.specs.Rules.{MacroClause, clauses_of, numbered}

-- when the first step of a sequence begins
abbrev pub first_begin : List Item → Option ℕ
first_begin [] = None
first_begin (i.At l time ∷ items) = Some time.0
first_begin (i.Span a from to ∷ items) = Some from.0
first_begin (_ ∷ items) = first_begin items

-- when its last step ends, or else what is given
abbrev pub last_end_or : Option ℕ → List Item → Option ℕ
last_end_or given [] = given
last_end_or given (i.At l time ∷ items) = last_end_or (Some time.0) items
last_end_or given (i.Span a from to ∷ items) = last_end_or (Some to.0) items
last_end_or given (_ ∷ items) = last_end_or given items

-- the two times of a macro clause are the begin of its first step and the end of its last
pub record IsFramed (clause : MacroClause) : Type 0 where
  pub begin : first_begin clause.items ≡ Some clause.begin
  pub end : last_end_or None clause.items ≡ Some clause.end

-- each macro clause of the text is framed
pub record AreFramed (text : Text) : Type 0 where
  pub each : (name : List ℕ) (number : ℕ) (clause : MacroClause) → numbered (clauses_of text name) number ≡ Some clause → IsFramed clause
