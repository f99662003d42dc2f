-- Sums over the variables and the symbols of a term.
use Rattle.std.specs.Prelude.{ℕ, ℤ, ◌+◌, ◌≡◌, List, sum, sum_by, cond, nat_eq, nat_lt}
use Rattle.std.proofs.Common.{◌∙◌, ap}
use Rattle.std.proofs.lemmas.List.Sums.{sum-map}
use Rattle.lps_terms.specs.declared.term.Term.{Term}
use Rattle.lps_terms.specs.declared.term.Term.TheVariants as t
use Rattle.lps_terms.specs.declared.term.Term.TheOpen.{Term-F}
use Rattle.lps_terms.specs.declared.term.Term.TheFolds.{fold-Term}
use Rattle.lps_terms.specs.Forms.{fold-Int, fold-Sym, fold-App, fold-Var}

-- the sum of one form, with that of each argument in its place
abbrev pub weigh_step : (ℕ → ℕ) → Term-F ℕ → ℕ
weigh_step f (Term-F.App name sums) = sum sums
weigh_step f (Term-F.Var v) = f v
weigh_step f _ = 0

-- the sum of f over the variables of a term, each as often as it stands there
abbrev pub weigh : (ℕ → ℕ) → Term → ℕ
weigh f = fold-Term ℕ (weigh_step f)

-- the size of one form, with that of each argument in its place
abbrev pub size_step : (ℕ → ℕ) → Term-F ℕ → ℕ
size_step f (Term-F.App name sizes) = 1 + sum sizes
size_step f (Term-F.Var v) = f v
size_step f _ = 1

-- the symbols of a term, where a variable v counts f v
abbrev pub size : (ℕ → ℕ) → Term → ℕ
size f = fold-Term ℕ (size_step f)

-- how often the variable v stands in a term
abbrev pub occurrences : ℕ → Term → ℕ
occurrences v = weigh (λ w. cond (nat_eq v w) 1 0)

-- 1 for a variable that is not one of the first so many
abbrev pub outside : ℕ → ℕ → ℕ
outside count w = cond (nat_lt w count) 0 1

-- each variable of a term is one of the first so many
abbrev pub IsWithin : ℕ → Term → Type 0
IsWithin count x = weigh (outside count) x ≡ 0

module _ (f : ℕ → ℕ) where
  pub weigh-Int : (z : ℤ) → weigh f (t.Int z) ≡ 0
  weigh-Int = fold-Int ℕ (weigh_step f)

  pub weigh-Sym : (n : List ℕ) → weigh f (t.Sym n) ≡ 0
  weigh-Sym = fold-Sym ℕ (weigh_step f)

  pub weigh-App : (n : List ℕ) (ts : List Term) → weigh f (t.App n ts) ≡ sum_by (weigh f) ts
  weigh-App n ts = fold-App ℕ (weigh_step f) n ts ∙ sum-map (weigh f) ts

  pub weigh-Var : (v : ℕ) → weigh f (t.Var v) ≡ f v
  weigh-Var = fold-Var ℕ (weigh_step f)

  pub size-Int : (z : ℤ) → size f (t.Int z) ≡ 1
  size-Int = fold-Int ℕ (size_step f)

  pub size-Sym : (n : List ℕ) → size f (t.Sym n) ≡ 1
  size-Sym = fold-Sym ℕ (size_step f)

  pub size-App : (n : List ℕ) (ts : List Term) → size f (t.App n ts) ≡ 1 + sum_by (size f) ts
  size-App n ts = fold-App ℕ (size_step f) n ts ∙ ap (λ k. 1 + k) (sum-map (size f) ts)

  pub size-Var : (v : ℕ) → size f (t.Var v) ≡ f v
  size-Var = fold-Var ℕ (size_step f)
