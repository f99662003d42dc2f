-- What the judges say together.
use Rattle.std.proofs.Common.{◌≡◌, ℕ, List, Option, Some, None, refl, sym, ap, ◌∙◌, inl, inr}
use Rattle.std.specs.Prelude.{◌⊎◌}
use Rattle.std.specs.Option.{option_or}
use Rattle.lps_terms.specs.declared.refused.Refused.{Refused}
use Rattle.lps_terms.specs.declared.refused.Refused.TheVariants.{Undeclared, DeclaredTwice, WrongArity, WrongKind, NotGround, NoEvent, OutOfOrder, MixedGroup, BadHeadTimes, Unknown, Unlevelled}
use Rattle.lps_terms.specs.declared.text.Text.{Text}
use Rattle.lps_model.specs.Acceptance.{early_refusal, IsRefusedFor}
use Rattle.lps_model.specs.Calls.{calls}
use Rattle.lps_model.specs.Declarations.{kind_among}
use Rattle.lps_model.specs.KindRefusals.{kind_refusal}
use Rattle.lps_model.specs.Known.{unknown_of}
use Rattle.lps_model.specs.Levels.{IsUnlevelled}
use Rattle.lps_model.specs.Order.{order_refusal}
use Rattle.lps_model.specs.Program.{declarations}
use Rattle.lps_kinds.specs.Answer as kinds_answer
use Rattle.lps_order.specs.Answers as order_answers
use Rattle.lps_modes.specs.Answers.{IsFirstUnknown}
use Rattle.lps_model.specs.declared.judge_error.JudgeError.{JudgeError}
use Rattle.lps_model.specs.declared.judge_error.JudgeError.TheVariants as judged
use Rattle.lps_levels.specs.Answers as levels_answers
use Rattle.lps_levels.specs.Laws.{CyclesAreUnique, LevelsExcludeCycles}
use Rattle.lps_accept.specs.Answers.{IsRightError}
use Rattle.lps_accept.specs.Laws.{AcceptedAreNotRefused, RefusalsAreUnique}
use Rattle.lps_accept.proofs.Early.{early_is_refused}

-- the refusal for the order of times
abbrev order_of : Text → Option Refused
order_of text = order_refusal (kind_among (declarations text)) text.statements

-- ---- the error of each judge, behind those before it

pub kinds_refuse : (text : Text) (error : JudgeError) → kinds_answer.IsRightError text error → IsRightError text error
kinds_refuse text judged.NoMemory right = tt
kinds_refuse text (judged.Refused refused) right = early_is_refused text refused (ap (λ first. option_or first (option_or (order_of text) (unknown_of text))) right)

behind_kinds : (text : Text) → kind_refusal text ≡ None → early_refusal text ≡ option_or (order_of text) (unknown_of text)
behind_kinds text placed = ap (λ first. option_or first (option_or (order_of text) (unknown_of text))) placed

pub order_refuses : (text : Text) (error : JudgeError) → kind_refusal text ≡ None → order_answers.IsRightError (kind_among (declarations text)) text.statements error →
    IsRightError text error
order_refuses text judged.NoMemory placed right = tt
order_refuses text (judged.Refused refused) placed right = early_is_refused text refused (behind_kinds text placed ∙ ap (λ first. option_or first (unknown_of text)) right)

behind_order : (text : Text) → kind_refusal text ≡ None → order_of text ≡ None → early_refusal text ≡ unknown_of text
behind_order text placed ordered = behind_kinds text placed ∙ ap (λ first. option_or first (unknown_of text)) ordered

pub modes_refuse : (text : Text) (error : JudgeError) → kind_refusal text ≡ None → order_of text ≡ None → IsFirstUnknown text error → IsRightError text error
modes_refuse text judged.NoMemory placed ordered right = tt
modes_refuse text (judged.Refused refused) placed ordered right = early_is_refused text refused (behind_order text placed ordered ∙ right)

-- the three judges before levels pass the text
pub none_early : (text : Text) → kind_refusal text ≡ None → order_of text ≡ None → unknown_of text ≡ None → early_refusal text ≡ None
none_early text placed ordered known = behind_order text placed ordered ∙ known

pub levels_refuse : (text : Text) (error : JudgeError) → early_refusal text ≡ None → levels_answers.IsRightError text error → IsRightError text error
levels_refuse text judged.NoMemory none right = tt
levels_refuse text (judged.Refused (Unlevelled cycle)) none right = (none, right)
levels_refuse text (judged.Refused (Undeclared line name)) none right = absurd right
levels_refuse text (judged.Refused (DeclaredTwice line name)) none right = absurd right
levels_refuse text (judged.Refused (WrongArity line name)) none right = absurd right
levels_refuse text (judged.Refused (WrongKind line name)) none right = absurd right
levels_refuse text (judged.Refused (NotGround line)) none right = absurd right
levels_refuse text (judged.Refused (NoEvent line)) none right = absurd right
levels_refuse text (judged.Refused (OutOfOrder line)) none right = absurd right
levels_refuse text (judged.Refused (MixedGroup line)) none right = absurd right
levels_refuse text (judged.Refused (BadHeadTimes line)) none right = absurd right
levels_refuse text (judged.Refused (Unknown line var)) none right = absurd right

-- ---- what a text is refused for

-- the refusal stands before levels, or it is for a cycle, and then none stands before
abbrev IsEither : Text → Refused → Type 0
IsEither text refused = (early_refusal text ≡ Some refused) ⊎ ((early_refusal text ≡ None) × ((cycle : List (List ℕ)) × (refused ≡ Unlevelled cycle) × IsUnlevelled text cycle))

either_of : (text : Text) (refused : Refused) → IsRefusedFor text refused → IsEither text refused
either_of text (Undeclared line name) for = inl for
either_of text (DeclaredTwice line name) for = inl for
either_of text (WrongArity line name) for = inl for
either_of text (WrongKind line name) for = inl for
either_of text (NotGround line) for = inl for
either_of text (NoEvent line) for = inl for
either_of text (OutOfOrder line) for = inl for
either_of text (MixedGroup line) for = inl for
either_of text (BadHeadTimes line) for = inl for
either_of text (Unknown line var) for = inl for
either_of text (Unlevelled cycle) for = inr (for.0, (cycle, refl, for.1))

pub accepted_or_refused : LevelsExcludeCycles → AcceptedAreNotRefused
accepted_or_refused exclude text refused accepted for =
    elim (either_of text refused for) [
      | inl early ↦ absurd (cc (early, accepted.not_refused))
      | inr late ↦ exclude (calls text) accepted.level late.1.0 accepted.levelled late.1.2
    ]

some_or_none : (one : Option Refused) (refused : Refused) → one ≡ Some refused → one ≡ None → ⊥
some_or_none one refused some none = absurd (cc (some, none))

same_early : (found : Option Refused) (one other : Refused) → found ≡ Some one → found ≡ Some other → one ≡ other
same_early found one other first second = cc (first, second)

pub refused_once : CyclesAreUnique → RefusalsAreUnique
refused_once unique text one other first second = by (either_of text one first) (either_of text other second)
  where
    by : IsEither text one → IsEither text other → one ≡ other
    by (inl early) (inl later) = same_early (early_refusal text) one other early later
    by (inl early) (inr later) = absurd (some_or_none (early_refusal text) one early later.0)
    by (inr early) (inl later) = absurd (some_or_none (early_refusal text) other later early.0)
    by (inr early) (inr later) = early.1.1 ∙ ap (λ (cycle : List (List ℕ)). Unlevelled cycle) (unique (calls text) early.1.0 later.1.0 early.1.2 later.1.2) ∙ sym later.1.1
