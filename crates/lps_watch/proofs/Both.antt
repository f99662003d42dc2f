-- The same wakes stay in both orders.
use Rattle.std.proofs.Common.{Option, ◌≡◌, ◌⊎◌, ◌↔◌, List, Contains, sym, ap, subst, inl, inr}
use Rattle.lps_residual.specs.declared.waking.Awaited.{Awaited}
use Rattle.lps_residual.specs.declared.waking.Wake.{Wake}
use Rattle.lps_watch.specs.declared.due.Due.{Due}
use Rattle.lps_watch.specs.Watches.{Adds, Agree, due_of}

-- a time and what is awaited make the wake
same_times : (x y : Wake) → due_of x ≡ due_of y → x ≡ y
same_times x y e = λ i. record { awaited = (e i).awaited; due = (e i).time }

pub by_copy : (old new : List Wake) (copy wake : Wake) → copy ≡ wake → Adds old new (λ w. w ≡ copy) → Adds old new (λ w. w ≡ wake)
by_copy old new copy wake = subst (λ k. Adds old new (λ w. w ≡ k))

pub same_time : (awaited : Option Awaited) (wake : Wake) → awaited ≡ wake.awaited → record { time = wake.due; awaited = awaited } ≡ due_of wake
same_time awaited wake is = λ i. record { time = wake.due; awaited = is i }

module _ (wakes : List Wake) (wake : Wake) where
  -- those besides this one
  abbrev pub Without : List Wake → List Wake → Type 0
  Without old new = (w : Wake) → Contains new w ↔ (Contains old w × (w ≡ wake → ⊥))

  pub one_more : (more : List Wake) (dues later : List Due) → Agree wakes dues → Adds wakes more (λ w. w ≡ wake) → ((d : Due) → Contains later d ↔ (Contains dues d ⊎ (d ≡ due_of wake))) → Agree more later
  one_more more dues later agree added put w = (
    λ h. elim ((added w).0 h) [
      | inl old ↦ (put (due_of w)).1 (inl ((agree w).0 old))
      | inr same ↦ (put (due_of w)).1 (inr (ap due_of same))
    ],
    λ h. elim ((put (due_of w)).0 h) [
      | inl old ↦ (added w).1 (inl ((agree w).1 old))
      | inr same ↦ (added w).1 (inr (same_times w wake same))
    ],
  )

  pub one_less : (less : List Wake) (dues fewer : List Due) → Agree wakes dues → Without wakes less → ((d : Due) → Contains fewer d ↔ (Contains dues d × (d ≡ due_of wake → ⊥))) → Agree less fewer
  one_less less dues fewer agree out gone w = (
    λ h. let both = (out w).0 h in (gone (due_of w)).1 ((agree w).0 both.0, λ same. both.1 (same_times w wake same)),
    λ h. let both = (gone (due_of w)).0 h in (out w).1 ((agree w).1 both.0, λ same. both.1 (ap due_of same)),
  )

  -- one that is new, and taken out again
  pub back_again : (more less : List Wake) → (Contains wakes wake → ⊥) → Adds wakes more (λ w. w ≡ wake) → Without more less → (w : Wake) → Contains less w ↔ Contains wakes w
  back_again more less new added out w = (
    λ h.
        let both = (out w).0 h in
        elim ((added w).0 both.0) [
          | inl old ↦ old
          | inr same ↦ absurd (both.1 same)
        ],
    λ h. (out w).1 ((added w).1 (inl h), λ same. new (subst (Contains wakes) same h)),
  )

pub still_agree : (wakes same : List Wake) (dues later : List Due) → later ≡ dues → ((w : Wake) → Contains same w ↔ Contains wakes w) → Agree wakes dues → Agree same later
still_agree wakes same dues later unchanged back agree w = (
  λ h. subst (λ ds. Contains ds (due_of w)) (sym unchanged) ((agree w).0 ((back w).0 h)),
  λ h. (back w).1 ((agree w).1 (subst (λ ds. Contains ds (due_of w)) unchanged h)),
)
