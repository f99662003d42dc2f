-- The least number of a denial that is violated, found place by place in any order.
use Rattle.std.proofs.Common.{ℕ, zero, suc, ◌≡◌, ◌≤◌, ◌<◌, ◌+◌, List, [], ◌∷◌, sym, subst, take, length, get_or, arith, inl, inr}
use Rattle.std.specs.Prelude.{◌⊎◌, Contains, Option, Some, None}
use Rattle.std.proofs.lemmas.List.Elements.{Contains-push_cases}
use Rattle.lps_terms.specs.declared.atom.Atom.{Atom}
use Rattle.lps_model.specs.Clauses.{Clause}
use Rattle.lps_model.proofs.Elements.{nothing_contained}
use Rattle.lps_solve.proofs.Gaining.{take_more}
use Rattle.lps_precond.specs.Cut.{Cut}
use Rattle.lps_precond.specs.Judged.{IsLeast, IsLessened, IsUpTo, IsViolatedNumber}

module _ (program : List Clause) (events before after : List Atom) (level : List ℕ → ℕ) (denials : List Cut) where
  -- what was found is at most the number of each that is violated
  pub lessened_same : (P : ℕ → Type 0) (found : Option ℕ) → ((place : ℕ) → P place → IsUpTo found (suc place)) →
      IsLessened program events before after level denials P found found
  lessened_same P found each = record { truthful = λ h. h; kept = λ k h. h; each = each }

  -- fewer places
  pub lessened_for : (P Q : ℕ → Type 0) (old found : Option ℕ) → ((place : ℕ) → Q place → P place) → IsLessened program events before after level denials P old found → IsLessened program events before after level denials Q old found
  lessened_for P Q old found among lessened = record { truthful = lessened.truthful; kept = lessened.kept; each = λ place at. lessened.each place (among place at) }

  -- the places of either kind one after the other
  pub lessened_then : (P Q R : ℕ → Type 0) (one two three : Option ℕ) → ((place : ℕ) → R place → P place ⊎ Q place) → IsLessened program events before after level denials P one two →
      IsLessened program events before after level denials Q two three → IsLessened program events before after level denials R one three
  lessened_then P Q R one two three either first second = record {
    truthful = λ h. second.truthful (first.truthful h);
    kept = λ k h. second.kept k (first.kept k h);
    each = λ place at. elim (either place at) [ inl old ↦ second.kept (suc place) (first.each place old) | inr new ↦ second.each place new ];
  }

  -- what is found is the least number where each violated denial was asked
  pub least_is : (P : ℕ → Type 0) (found : Option ℕ) → ((place : ℕ) → IsViolatedNumber program events before after level denials (suc place) → P place) →
      IsLessened program events before after level denials P None found → IsLeast program events before after level denials found
  least_is P None all lessened = none
    where
      none : (k : ℕ) → IsViolatedNumber program events before after level denials k → ⊥
      none zero h = absurd (let no = h.1 in cc)
      none (suc place) h = lessened.each place (all place h)
  least_is P (Some number) all lessened = (lessened.truthful tt, none)
    where
      none : (k : ℕ) → k < number → IsViolatedNumber program events before after level denials k → ⊥
      none zero lt h = absurd (let no = h.1 in cc)
      none (suc place) lt h = let most : number ≤ suc place = lessened.each place (all place h) in omega arith

-- ---- one after the other

-- there is nothing among the first none
pub none_yet : {X : Type 0} (xs : List X) (x : X) → Contains (take 0 xs) x → ⊥
none_yet [] x at = nothing_contained x at
none_yet (y ∷ ys) x at = nothing_contained x at

-- what is among the first of one more is among those before, or is that one
pub before_or_this : {X : Type 0} (xs : List X) (i : ℕ) (this : X) → i < length xs → this ≡ get_or xs i this → (x : X) → Contains (take (i + 1) xs) x → Contains (take i xs) x ⊎ (x ≡ this)
before_or_this xs i this lt is x at =
    elim (Contains-push_cases (take i xs) this x (subst (λ ys. Contains ys x) (take_more i xs this lt is) at)) [ inl old ↦ inl old | inr same ↦ inr (sym same) ]
