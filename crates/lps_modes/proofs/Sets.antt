-- The laws of sets of known variables.
use Rattle.std.specs.Prelude.{ℕ, Bool, true, false, List, [], ◌∷◌, ◌++◌, ◌≡◌, ◌↔◌, ◌||◌, ◌&&◌, nat_eq, Option, Some, None, refl, if◌then◌else◌}
use Rattle.std.proofs.Common.{◌∙◌, ap, sym}
use Rattle.std.proofs.lemmas.Bool.{eqb-true}
use Rattle.std.proofs.lemmas.List.Folds.{list_any-append}
use Rattle.lps_model.specs.Known.{are_known, is_known, unknown_among, with_var, written}
use Rattle.lps_modes.specs.Laws.{LearningIsUnion, NoneIsUnknown}

or_false : (a : Bool) → a ≡ (a || false)
or_false true = refl
or_false false = refl

or_true : (a : Bool) → a ≡ true → a ≡ (a || true)
or_true true is = refl
or_true false is = is

or_assoc : (a b c : Bool) → ((a || b) || c) ≡ (a || (b || c))
or_assoc true b c = refl
or_assoc false b c = refl

-- a known variable adds nothing
adds_none : (known : List ℕ) (w v : ℕ) → is_known known w ≡ true → (same : Bool) → nat_eq w v ≡ same → is_known known v ≡ (is_known known v || same)
adds_none known w v is true equal = or_true (is_known known v) (ap (is_known known) (sym (eqb-true w v equal)) ∙ is)
adds_none known w v is false equal = or_false (is_known known v)

adds_one : (known : List ℕ) (w v : ℕ) (b : Bool) → is_known known w ≡ b → is_known (if b then known else (known ++ w ∷ [])) v ≡ (is_known known v || nat_eq w v)
adds_one known w v true is = adds_none known w v is (nat_eq w v) refl
adds_one known w v false is = list_any-append (λ each. nat_eq each v) known (w ∷ []) ∙ ap (λ b. is_known known v || b) (sym (or_false (nat_eq w v)))

pub learning_is_union : LearningIsUnion
learning_is_union known [] v = or_false (is_known known v)
learning_is_union known (w ∷ vars) v =
    learning_is_union (with_var known w) vars v
    ∙ (ap (λ b. b || is_known vars v) (adds_one known w v (is_known known w) refl) ∙ or_assoc (is_known known v) (nat_eq w v) (is_known vars v))

first_or_none : (b : Bool) (name : List ℕ) (later : Option (List ℕ)) (all : Bool) → (later ≡ None) ↔ (all ≡ true) → ((if b then later else Some name) ≡ None) ↔ ((b && all) ≡ true)
first_or_none true name later all rest = rest
first_or_none false name later all rest = (λ e. absurd (cc), λ e. absurd (cc))

pub none_is_unknown : NoneIsUnknown
none_is_unknown names known [] = (λ e. refl, λ e. refl)
none_is_unknown names known (v ∷ vars) =
    first_or_none (is_known known v) (written names v) (unknown_among names known vars) (are_known known vars) (none_is_unknown names known vars)
