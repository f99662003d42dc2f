-- The orders of wakes are total, and only equal ones tie.
use Rattle.std.proofs.Common.{◌≡◌, Bool, true, false, ap, refl}
use Rattle.std.specs.Prelude.{◌&&◌, Option, Some, None}
use Rattle.std.specs.Bool.{Decides}
use Rattle.std.specs.Cmp.{IsTotalOrder, nat_cmp_total, on_total, then_total}
use Rattle.std.specs.Cmp.Lexicographic.{options_total}
use Rattle.std.specs.FinMap.{IsAntisymmetric, nat_cmp-IsAntisymmetric}
use Rattle.std.specs.Option.{option_cmp, option_eq}
use Rattle.std.specs.Ordering.{nat_cmp, ordering_then}
use Rattle.std.specs.declared.cmp.Ordering.{Ordering}
use Rattle.std.specs.declared.cmp.Ordering.TheVariants.{Less, Equal, Greater}
use Rattle.lps_terms.specs.Order.{name_cmp, name_eq, term_cmp, term_eq}
use Rattle.lps_terms.specs.OrderLaws.{name_cmp-IsAntisymmetric, name_cmp_total, name_eq-decides, term_cmp-IsAntisymmetric, term_cmp_total, term_eq-decides}
use Rattle.lps_residual.specs.declared.waking.Awaited.{Awaited}
use Rattle.lps_watch.specs.Orders.{awaited_cmp, due_cmp, wake_cmp}

awaited_cmp_total : IsTotalOrder awaited_cmp
awaited_cmp_total = then_total (on_total (λ a. a.name) name_cmp_total) (on_total (λ a. a.first) (options_total term_cmp_total))

pub wake_cmp_total : IsTotalOrder wake_cmp
wake_cmp_total = then_total (on_total (λ w. w.awaited) (options_total awaited_cmp_total)) (on_total (λ w. w.due) nat_cmp_total)

pub due_cmp_total : IsTotalOrder due_cmp
due_cmp_total = then_total (on_total (λ d. d.time) nat_cmp_total) (on_total (λ d. d.awaited) (options_total awaited_cmp_total))

-- ---- only equal ones tie

both_equal : (one other : Ordering) → ordering_then one other ≡ Equal → (one ≡ Equal) × (other ≡ Equal)
both_equal Less other e = absurd cc
both_equal Equal other e = (refl, e)
both_equal Greater other e = absurd cc

option_exact : {K : Type 0} {R : K → K → Ordering} → IsAntisymmetric R → IsAntisymmetric (option_cmp R)
option_exact same None None e = refl
option_exact same None (Some y) e = absurd cc
option_exact same (Some x) None e = absurd cc
option_exact same (Some x) (Some y) e = ap (λ z. Some z) (same x y e)

awaited_exact : IsAntisymmetric awaited_cmp
awaited_exact x y e =
    let both = both_equal (name_cmp x.name y.name) (option_cmp term_cmp x.first y.first) e in
    let names = name_cmp-IsAntisymmetric x.name y.name both.0 in
    let firsts = option_exact term_cmp-IsAntisymmetric x.first y.first both.1 in
    λ i. record { name = names i; first = firsts i }

pub option_awaited_total : IsTotalOrder (option_cmp awaited_cmp)
option_awaited_total = options_total awaited_cmp_total

pub option_awaited_exact : IsAntisymmetric (option_cmp awaited_cmp)
option_awaited_exact = option_exact awaited_exact

pub wake_exact : IsAntisymmetric wake_cmp
wake_exact x y e =
    let both = both_equal (option_cmp awaited_cmp x.awaited y.awaited) (nat_cmp x.due y.due) e in
    let awaited = option_exact awaited_exact x.awaited y.awaited both.0 in
    let due = nat_cmp-IsAntisymmetric x.due y.due both.1 in
    λ i. record { awaited = awaited i; due = due i }

pub due_exact : IsAntisymmetric due_cmp
due_exact x y e =
    let both = both_equal (nat_cmp x.time y.time) (option_cmp awaited_cmp x.awaited y.awaited) e in
    let time = nat_cmp-IsAntisymmetric x.time y.time both.0 in
    let awaited = option_exact awaited_exact x.awaited y.awaited both.1 in
    λ i. record { time = time i; awaited = awaited i }

-- ---- tests

option_decides : {K : Type 0} {E : K → K → Bool} → ((x y : K) → Decides (E x y) (x ≡ y)) → (x y : Option K) → Decides (option_eq E x y) (x ≡ y)
option_decides same None None = (λ e. refl, λ e. refl)
option_decides same None (Some y) = (λ e. absurd cc, λ e. absurd cc)
option_decides same (Some x) None = (λ e. absurd cc, λ e. absurd cc)
option_decides {K} {E} same (Some x) (Some y) = (λ e. ap (λ z. Some z) ((same x y).0 e), λ e. (same x y).1 cc)

abbrev pub awaited_eq : Awaited → Awaited → Bool
awaited_eq x y = name_eq x.name y.name && option_eq term_eq x.first y.first

both_true : (one other : Bool) → (one && other) ≡ true → (one ≡ true) × (other ≡ true)
both_true true other e = (refl, e)
both_true false other e = absurd cc

true_both : (one other : Bool) → one ≡ true → other ≡ true → (one && other) ≡ true
true_both true other e f = f
true_both false other e f = e

awaited_decides : (x y : Awaited) → Decides (awaited_eq x y) (x ≡ y)
awaited_decides x y = (
  λ e.
      let both = both_true (name_eq x.name y.name) (option_eq term_eq x.first y.first) e in
      let names = (name_eq-decides x.name y.name).0 both.0 in
      let firsts = (option_decides term_eq-decides x.first y.first).0 both.1 in
      λ i. record { name = names i; first = firsts i },
  λ e. true_both (name_eq x.name y.name) (option_eq term_eq x.first y.first) ((name_eq-decides x.name y.name).1 (ap (λ (a : Awaited). a.name) e)) ((option_decides term_eq-decides x.first y.first).1 (ap (λ (a : Awaited). a.first) e)),
)

-- a test of what is awaited tells whether it is the same
pub same_awaited : (x y : Option Awaited) → Decides (option_eq awaited_eq x y) (x ≡ y)
same_awaited = option_decides awaited_decides
