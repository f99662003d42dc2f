-- The goals that are listed for each wake, after one more or one less.
use Rattle.std.proofs.Common.{ℕ, ◌≡◌, ◌⊎◌, ◌∙◌, Bool, true, false, cond, List, ◌∷◌, sym, ap, subst, inl, inr, refl}
use Rattle.std.specs.Prelude.{◌↔◌, Contains, Option, Some, None, is_some}
use Rattle.std.specs.Bool.{Decides}
use Rattle.std.specs.BTreeMap.{BTreeMap, get, is_at}
use Rattle.std.specs.BTreeSet.{BTreeSet, contains}
use Rattle.std.specs.Cmp.{nat_cmp_total}
use Rattle.std.specs.FinMap.{nat_cmp-IsAntisymmetric}
use Rattle.std.specs.Ordering.{nat_cmp}
use Rattle.lps_terms.specs.OrderLaws.{eq_by_cmp-decides}
use Rattle.lps_model.proofs.Elements.{first_is_contained, first_or_later, later_is_contained}
use Rattle.lps_residual.specs.declared.waking.Wake.{Wake}
use Rattle.lps_watch.proofs.Members.{with_one, without_one}
use Rattle.lps_watch.proofs.Orders.{wake_cmp_total, wake_exact}
use Rattle.lps_goaltrees.specs.Slots.{IsListed, wake_cmp}
use Rattle.lps_goaltrees.proofs.Lists.{some_none, true_false}

module _ (k : Wake) (value : Option (BTreeSet ℕ)) (old new : BTreeMap Wake (BTreeSet ℕ)) (after : (q : Wake) → get wake_cmp new q ≡ cond (is_at (wake_cmp k) q) value (get wake_cmp old q)) where
  tied : (q : Wake) → Decides (is_at (wake_cmp k) q) (k ≡ q)
  tied q = eq_by_cmp-decides wake_cmp_total wake_exact k q

  -- what is listed stays so where it does for this wake
  pub listed_after : (w : Wake) (n : ℕ) → IsListed old w n → (k ≡ w → (numbers : BTreeSet ℕ) × (value ≡ Some numbers) × Contains numbers.keys n) → IsListed new w n
  listed_after w n was here = by (is_at (wake_cmp k) w) refl
    where
      by : (b : Bool) → is_at (wake_cmp k) w ≡ b → IsListed new w n
      by true e = let m = here ((tied w).0 e) in
          record { numbers = m.0; found = after w ∙ ap (λ b. cond b value (get wake_cmp old w)) e ∙ m.1; among = m.2 }
      by false e = record { numbers = was.numbers; found = after w ∙ ap (λ b. cond b value (get wake_cmp old w)) e ∙ was.found; among = was.among }

  pub listed_here : (numbers : BTreeSet ℕ) (n : ℕ) → value ≡ Some numbers → Contains numbers.keys n → IsListed new k n
  listed_here numbers n is among = record { numbers = numbers; found = after k ∙ ap (λ b. cond b value (get wake_cmp old k)) ((tied k).1 refl) ∙ is; among = among }

  pub none_here : value ≡ None → (n : ℕ) → IsListed new k n → ⊥
  none_here none n listed = some_none (sym listed.found ∙ after k ∙ ap (λ b. cond b value (get wake_cmp old k)) ((tied k).1 refl) ∙ none)

-- ---- numbers

pub with_number : (k : ℕ) (old new : BTreeSet ℕ) → ((q : ℕ) → contains nat_cmp new q ≡ cond (is_at (nat_cmp k) q) true (contains nat_cmp old q)) → (q : ℕ) → Contains new.keys q ↔ (Contains old.keys q ⊎ (q ≡ k))
with_number = with_one nat_cmp_total nat_cmp-IsAntisymmetric

pub without_number : (k : ℕ) (old new : BTreeSet ℕ) → ((q : ℕ) → contains nat_cmp new q ≡ cond (is_at (nat_cmp k) q) false (contains nat_cmp old q)) → (q : ℕ) → Contains new.keys q ↔ (Contains old.keys q × (q ≡ k → ⊥))
without_number = without_one nat_cmp_total nat_cmp-IsAntisymmetric

-- those found with those that are left are the same once one that was left is found
pub all_next : (k : ℕ) (old new : BTreeSet ℕ) (left rest : List ℕ) → left ≡ k ∷ rest → ((q : ℕ) → contains nat_cmp new q ≡ cond (is_at (nat_cmp k) q) true (contains nat_cmp old q)) →
    (n : ℕ) → (Contains old.keys n ⊎ Contains left n) ↔ (Contains new.keys n ⊎ Contains rest n)
all_next k old new left rest is after n =
    let one = with_number k old new after n in (
      λ h. elim h [
        | inl before ↦ inl (one.1 (inl before))
        | inr among ↦ elim (first_or_later k rest n (subst (λ ks. Contains ks n) is among)) [
          | inl e ↦ inl (one.1 (inr (sym e)))
          | inr later ↦ inr later
        ]
      ],
      λ h. elim h [
        | inl now ↦ elim (one.0 now) [
          | inl before ↦ inl before
          | inr e ↦ inr (subst (λ ks. Contains ks n) (sym is) (subst (λ m. Contains (k ∷ rest) m) (sym e) (first_is_contained k rest)))
        ]
        | inr later ↦ inr (subst (λ ks. Contains ks n) (sym is) (later_is_contained k rest n later))
      ],
    )

-- nothing is found
pub found_none : (found : Option (BTreeSet ℕ)) (numbers : BTreeSet ℕ) → is_some found ≡ false → found ≡ Some numbers → ⊥
found_none None numbers none is = some_none (sym is)
found_none (Some one) numbers none is = true_false none
