-- Known variables: what is learnt is known, and what has to be known is so where more is known.
use Rattle.std.proofs.Common.{ℕ, Bool, true, false, ◌≡◌, List, [], ◌∷◌, ◌++◌, refl, sym, ap, ◌∙◌, arith, inl, inr}
use Rattle.std.specs.Prelude.{◌⊎◌, ◌&&◌, ◌||◌, nat_eq, Some, None, if◌then◌else◌}
use Rattle.std.specs.List.{AllByRecursion}
use Rattle.std.proofs.lemmas.Bool.{eqb-true}
use Rattle.std.proofs.lemmas.Bool.Decides.{nat_tests}
use Rattle.std.proofs.lemmas.List.Folds.{list_any-append}
use Rattle.lps_model.specs.Known.{are_known, is_known, learnt, unknown_among, with_var, written}

abbrev pub IsIn : List ℕ → ℕ → Type 0
IsIn known v = is_known known v ≡ true

-- each of the variables is known
abbrev pub AreIn : List ℕ → List ℕ → Type 0
AreIn known vars = AllByRecursion (IsIn known) vars

pub or_true : (b : Bool) → (b || true) ≡ true
or_true true = refl
or_true false = refl

in_first : (known : List ℕ) (v : ℕ) → IsIn (v ∷ known) v
in_first known v = let same : nat_eq v v ≡ true = grind (arith, nat_tests) in ap (λ b. b || is_known known v) same

in_later : (known : List ℕ) (w v : ℕ) → IsIn known v → IsIn (w ∷ known) v
in_later known w v h = ap (λ b. nat_eq w v || b) h ∙ or_true (nat_eq w v)

in_front : (known more : List ℕ) (v : ℕ) → IsIn known v → IsIn (known ++ more) v
in_front [] more v h = absurd (cc)
in_front (w ∷ known) more v h = by (in_front known more v) (nat_eq w v) refl h
  where
    by : (IsIn known v → IsIn (known ++ more) v) → (same : Bool) → nat_eq w v ≡ same → (same || is_known known v) ≡ true → IsIn (w ∷ known ++ more) v
    by later true e h' = ap (λ b. b || is_known (known ++ more) v) e
    by later false e h' = in_later (known ++ more) w v (later h')

in_last : (known : List ℕ) (v : ℕ) → IsIn (known ++ v ∷ []) v
in_last [] v = in_first [] v
in_last (w ∷ known) v = in_later (known ++ v ∷ []) w v (in_last known v)

with_keeps : (known : List ℕ) (w v : ℕ) → IsIn known v → IsIn (with_var known w) v
with_keeps known w v h = by (is_known known w)
  where
    by : (held : Bool) → IsIn (if held then known else known ++ w ∷ []) v
    by true = h
    by false = in_front known (w ∷ []) v h

with_has : (known : List ℕ) (v : ℕ) → IsIn (with_var known v) v
with_has known v = by (is_known known v) refl
  where
    by : (held : Bool) → is_known known v ≡ held → IsIn (if held then known else known ++ v ∷ []) v
    by true e = e
    by false e = in_last known v

pub learnt_keeps : (known vars : List ℕ) (v : ℕ) → IsIn known v → IsIn (learnt known vars) v
learnt_keeps known [] v h = h
learnt_keeps known (w ∷ vars) v h = learnt_keeps (with_var known w) vars v (with_keeps known w v h)

pub learnt_has : (known vars : List ℕ) → AreIn (learnt known vars) vars
learnt_has known [] = tt
learnt_has known (v ∷ vars) = (learnt_keeps (with_var known v) vars v (with_has known v), learnt_has (with_var known v) vars)

-- what is known with one more variable was known, or is that one
pub from_with : (known : List ℕ) (w v : ℕ) → IsIn (with_var known w) v → IsIn known v ⊎ (w ≡ v)
from_with known w v h = by (is_known known w) h
  where
    either_of : (a : Bool) → is_known known v ≡ a → (b : Bool) → nat_eq w v ≡ b → (a || (b || false)) ≡ true → IsIn known v ⊎ (w ≡ v)
    either_of true e b f h = inl e
    either_of false e true f h = inr (eqb-true w v f)
    either_of false e false f h = absurd (cc)

    by : (held : Bool) → IsIn (if held then known else known ++ w ∷ []) v → IsIn known v ⊎ (w ≡ v)
    by true h = inl h
    by false h = either_of (is_known known v) refl (nat_eq w v) refl (sym (list_any-append (λ each. nat_eq each v) known (w ∷ [])) ∙ h)

-- none of the known variables is unknown
pub none_unknown : (names : List (List ℕ)) (known vars : List ℕ) → AreIn known vars → unknown_among names known vars ≡ None
none_unknown names known [] h = refl
none_unknown names known (v ∷ vars) h = ap (λ is. if is then unknown_among names known vars else Some (written names v)) h.0 ∙ none_unknown names known vars h.1

-- and none is where none is said to be
pub all_known : (names : List (List ℕ)) (known vars : List ℕ) → unknown_among names known vars ≡ None → AreIn known vars
all_known names known [] none = tt
all_known names known (v ∷ vars) none = by (is_known known v) refl (all_known names known vars) none
  where
    by : (is : Bool) → is_known known v ≡ is → (unknown_among names known vars ≡ None → AreIn known vars) → (if is then unknown_among names known vars else Some (written names v)) ≡ None → AreIn known (v ∷ vars)
    by true is later none = (is, later none)
    by false is later none = absurd (cc)

-- variables that are all known are found known
pub known_in : (seen vars : List ℕ) → AreIn seen vars → are_known seen vars ≡ true
known_in seen [] h = refl
known_in seen (v ∷ vars) h = ap (λ b. b && are_known seen vars) h.0 ∙ known_in seen vars h.1

-- and conversely
pub in_known : (seen vars : List ℕ) → are_known seen vars ≡ true → AreIn seen vars
in_known seen [] e = tt
in_known seen (v ∷ vars) e = by (is_known seen v) refl (in_known seen vars) e
  where
    by : (is : Bool) → is_known seen v ≡ is → (are_known seen vars ≡ true → AreIn seen vars) → (is && are_known seen vars) ≡ true → AreIn seen (v ∷ vars)
    by true is later e = (is, later e)
    by false is later e = absurd (cc)
