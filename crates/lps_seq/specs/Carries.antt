-- The order of what instances carry: by values, and then by times.
use Rattle.std.specs.Prelude.{ℕ}
use Rattle.std.specs.declared.cmp.Ordering.{Ordering}
use Rattle.std.specs.Ordering.{nat_cmp, on, then_cmp}
use Rattle.std.specs.Cmp.{IsTotalOrder, nat_cmp_total, on_total, then_total}
use Rattle.std.specs.Cmp.Lexicographic.{lists_total, slice_cmp}
use Rattle.lps_terms.specs.Order.{term_cmp}
use Rattle.lps_terms.specs.OrderLaws.{term_cmp_total}
use Rattle.lps_meaning.specs.declared.node.Carry.{Carry}
use Rattle.lps_meaning.specs.declared.when.When.{When}
use Rattle.lps_meaning.specs.declared.when.When.TheVariants.{Known, Unknown}

abbrev pub when_rank : When → ℕ
when_rank (Known n) = 0
when_rank (Unknown k) = 1

abbrev pub when_number : When → ℕ
when_number (Known n) = n
when_number (Unknown k) = k

-- known times come before unknown ones
abbrev pub when_cmp : When → When → Ordering
when_cmp = then_cmp (on when_rank nat_cmp) (on when_number nat_cmp)

abbrev pub carry_cmp : Carry → Carry → Ordering
carry_cmp = then_cmp (on (λ c. c.values) (slice_cmp term_cmp)) (on (λ c. c.times) (slice_cmp when_cmp))

pub when_cmp_total : IsTotalOrder when_cmp
when_cmp_total = then_total (on_total when_rank nat_cmp_total) (on_total when_number nat_cmp_total)

pub carry_cmp_total : IsTotalOrder carry_cmp
carry_cmp_total = then_total (on_total (λ c. c.values) (lists_total term_cmp_total)) (on_total (λ c. c.times) (lists_total when_cmp_total))
