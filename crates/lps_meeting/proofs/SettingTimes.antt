-- Lists of unknown times, and times that are set in them.
use Rattle.std.proofs.Common.{ℕ, Bool, true, false, ◌≡◌, ◌<◌, ◌+◌, List, [], ◌∷◌, ◌++◌, get_or, length, refl, sym, ap, subst, ◌∙◌, arith, inl, inr}
use Rattle.std.specs.Prelude.{◌⊎◌, zero, suc}
use Rattle.lps_terms.specs.declared.atom.Atom.{Atom}
use Rattle.lps_terms.specs.declared.lit.Lit.{Lit}
use Rattle.lps_meaning.specs.declared.node.LeftItem.{LeftItem}
use Rattle.lps_meaning.specs.declared.node.LeftItem.TheVariants as l
use Rattle.lps_meaning.specs.declared.when.When.{When}
use Rattle.lps_meaning.specs.declared.when.When.TheVariants.{Known, Unknown}
use Rattle.lps_nodes.specs.Shapes.{put_when}
use Rattle.lps_residual.specs.Putting.{when_at}
use Rattle.lps_meeting.specs.Steps.{AreBy, AreOfCycle, AreOwn, AreTimesWhenMet, AreUnknown, IsAtTime, IsOf, IsSetTo, IsTimesOf}

module _ {X : Type 0} where
  -- an element of a list with one more is one of the list, or the one more
  push_at : (xs : List X) (y : X) (k : ℕ) (d : X) → (get_or (xs ++ y ∷ []) k d ≡ get_or xs k d) ⊎ ((k ≡ length xs) × (get_or (xs ++ y ∷ []) k d ≡ y))
  push_at [] y zero d = inr (refl, refl)
  push_at [] y (suc k) d = inl refl
  push_at (x ∷ xs) y zero d = inl refl
  push_at (x ∷ xs) y (suc k) d = elim (push_at xs y k d) [
    | inl e ↦ inl e
    | inr h ↦ inr (ap suc h.0, h.1)
  ]

  pub push_end : (xs : List X) (y : X) (k : ℕ) (d : X) → k ≡ length xs → get_or (xs ++ y ∷ []) k d ≡ y
  push_end [] y k d e = subst (λ n. get_or (y ∷ []) n d ≡ y) (sym e) refl
  push_end (x ∷ xs) y zero d e = absurd (omega (arith, e))
  push_end (x ∷ xs) y (suc k) d e = push_end xs y k d (omega (arith, e))

  -- the elements before it stay
  pub push_before : (xs : List X) (y : X) (k : ℕ) (d : X) → k < length xs → get_or (xs ++ y ∷ []) k d ≡ get_or xs k d
  push_before [] y k d below = absurd (omega (arith, below))
  push_before (x ∷ xs) y zero d below = refl
  push_before (x ∷ xs) y (suc k) d below = push_before xs y k d (omega (arith, below))

  pub longer_by_one : (xs : List X) (y : X) → length (xs ++ y ∷ []) ≡ length xs + 1
  longer_by_one [] y = refl
  longer_by_one (x ∷ xs) y = let more = longer_by_one xs y in omega (arith, more)

-- one more unknown time by itself
pub more_unknown : (n : ℕ) (whens : List When) → AreUnknown n whens → AreUnknown (n + 1) (whens ++ Unknown n ∷ [])
more_unknown n whens is = (longer_by_one whens (Unknown n) ∙ ap (λ k. k + 1) is.0, λ k. each k (push_at whens (Unknown n) k (Unknown k))) where
  each : (k : ℕ) → (get_or (whens ++ Unknown n ∷ []) k (Unknown k) ≡ get_or whens k (Unknown k)) ⊎ ((k ≡ length whens) × (get_or (whens ++ Unknown n ∷ []) k (Unknown k) ≡ Unknown n)) →
      when_at (whens ++ Unknown n ∷ []) k ≡ Unknown k
  each k (inl e) = e ∙ is.1 k
  each k (inr h) = h.1 ∙ ap (λ j. Unknown j) (sym (h.0 ∙ is.0))

-- ---- setting

-- nothing is set
pub none_set : (whens : List When) (P : (ℕ → When) → Type 0) → ((w : ℕ → When) → P w) → IsSetTo true whens whens P
none_set whens P all = (refl, λ own. own, λ w. (λ of. (of, all w), λ h. h.0))

-- two times are set one after the other
pub both_set : (result : Bool) (old mid new : List When) (P Q : (ℕ → When) → Type 0) → IsSetTo true old mid P → IsSetTo result mid new Q → IsSetTo result old new (λ w. P w × Q w)
both_set true old mid new P Q one two = (
  two.0 ∙ one.0,
  λ own. two.1 (one.1 own),
  λ w. (
    λ of. let there = (two.2 w).0 of in let here = (one.2 w).0 there.0 in (here.0, (here.1, there.1)),
    λ h. (two.2 w).1 ((one.2 w).1 (h.0, h.1.0), h.1.1),
  ),
)
both_set false old mid new P Q one two = λ w of h. two w ((one.2 w).1 (of, h.0)) h.1

-- the two times of a cycle are set
pub span_set : (time before : ℕ) → time ≡ suc before → (result : Bool) (old mid new : List When) (from to : When) → IsSetTo true old mid (λ w. put_when w from ≡ Known before) →
    IsSetTo result mid new (λ w. put_when w to ≡ Known time) → IsSetTo result old new (λ w. AreOfCycle time (put_when w from) (put_when w to))
span_set time before is result old mid new from to one two =
    subst (λ n. IsSetTo result old new (λ w. AreOfCycle n (put_when w from) (put_when w to))) (sym is)
    (both_set result old mid new (λ w. put_when w from ≡ Known before) (λ w. put_when w to ≡ Known (suc before)) one (subst (λ n. IsSetTo result mid new (λ w. put_when w to ≡ Known n)) is two))

-- the times of an item are set
module _ (result : Bool) (old new : List When) (time : ℕ) where
  abbrev IsSet : LeftItem → Type 0
  IsSet item = IsSetTo result old new (λ w. IsAtTime w time item)

  pub at_set : (item : LeftItem) (lit : Lit) (at : When) → item ≡ l.At lit at → IsSetTo result old new (λ w. put_when w at ≡ Known time) → IsSet item
  at_set item lit at is set = subst IsSet (sym is) set

  pub span_is_set : (item : LeftItem) (a : Atom) (from to : When) → item ≡ l.Span a from to → IsSetTo result old new (λ w. AreOfCycle time (put_when w from) (put_when w to)) → IsSet item
  span_is_set item a from to is set = subst IsSet (sym is) set

-- ---- the times of an item

unknown_own : (n : ℕ) (whens : List When) → AreUnknown n whens → AreOwn whens
unknown_own n whens is k j e = number (sym e ∙ is.1 k)
  where
    number : {j k : ℕ} → Unknown j ≡ Unknown k → j ≡ k
    number e = ap number_of e
      where
        number_of : When → ℕ
        number_of (Unknown k) = k
        number_of (Known n) = n

pub not_both : true ≡ false → ⊥
not_both e = cc

not_known : (k n : ℕ) → ◌≡◌ {A = When} (Unknown k) (Known n) → ⊥
not_known k n e = cc

pub unknown_early : (n time : ℕ) (whens : List When) → AreUnknown n whens → AreBy time whens
unknown_early n time whens is k m e = absurd (not_known k m (sym (is.1 k) ∙ e))

any_times : (n : ℕ) (whens : List When) → AreUnknown n whens → (w : ℕ → When) → IsTimesOf whens w
any_times n whens is w k below = subst (λ time. IsOf time (w k)) (sym (is.1 k)) tt

pub are_times : (unknowns time : ℕ) (item : LeftItem) (old new : List When) → AreUnknown unknowns old → IsSetTo true old new (λ w. IsAtTime w time item) → (AreBy time old → AreBy time new) →
    AreTimesWhenMet unknowns time item new
are_times unknowns time item old new is set early = record {
  count = set.0 ∙ is.0;
  own = set.1 (unknown_own unknowns old is);
  early = early (unknown_early unknowns time old is);
  exact = λ w. (λ at. (set.2 w).1 (any_times unknowns old is w, at), λ of. ((set.2 w).0 of).1);
}

pub no_times : (unknowns time : ℕ) (item : LeftItem) (old new : List When) → AreUnknown unknowns old → IsSetTo false old new (λ w. IsAtTime w time item) → (w : ℕ → When) → IsAtTime w time item → ⊥
no_times unknowns time item old new is set w = set w (any_times unknowns old is w)
