use Rattle.std.proofs.Common.{◌≡◌, ◌∙◌, sym, ap, refl}
use Rattle.std.specs.Cmp.{tied_itself}
use Rattle.std.specs.declared.cmp.Ordering.TheVariants.{Less, Equal, Greater}
use Rattle.lps_watch.specs.Orders.{wake_cmp}
use Rattle.lps_watch.proofs.Orders.{wake_cmp_total, wake_exact}
use Rattle.lps_goaltrees.proofs.slots.is_same.Goals as goal

less_equal : Less ≡ Equal → ⊥
less_equal e = cc

greater_equal : Greater ≡ Equal → ⊥
greater_equal e = cc

pub returns-in-Equal : goal.returns-in-Equal
returns-in-Equal c = (λ yes. wake_exact c.args.wake.now c.args.other.now (sym c.cmp.ensures ∙ c.in-Equal.is), λ same. refl)

pub returns-in-Less : goal.returns-in-Less
returns-in-Less c = (λ no. absurd cc, λ same. absurd (less_equal (sym c.in-Less.is ∙ c.cmp.ensures ∙ sym (ap (wake_cmp c.args.wake.now) same) ∙ tied_itself wake_cmp_total c.args.wake.now)))

pub returns-in-Greater : goal.returns-in-Greater
returns-in-Greater c = (λ no. absurd cc, λ same. absurd (greater_equal (sym c.in-Greater.is ∙ c.cmp.ensures ∙ sym (ap (wake_cmp c.args.wake.now) same) ∙ tied_itself wake_cmp_total c.args.wake.now)))
