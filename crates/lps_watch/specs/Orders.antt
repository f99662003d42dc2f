-- The orders of wakes.
use Rattle.std.specs.Option.{option_cmp}
use Rattle.std.specs.Ordering.{nat_cmp, ordering_then}
use Rattle.std.specs.declared.cmp.Ordering.{Ordering}
use Rattle.lps_terms.specs.Order.{name_cmp, term_cmp}
use Rattle.lps_residual.specs.declared.waking.Awaited.{Awaited}
use Rattle.lps_residual.specs.declared.waking.Wake.{Wake}
use Rattle.lps_watch.specs.declared.due.Due.{Due}

abbrev pub awaited_cmp : Awaited → Awaited → Ordering
awaited_cmp x y = ordering_then (name_cmp x.name y.name) (option_cmp term_cmp x.first y.first)

-- by what is awaited, and then by the time
abbrev pub wake_cmp : Wake → Wake → Ordering
wake_cmp x y = ordering_then (option_cmp awaited_cmp x.awaited y.awaited) (nat_cmp x.due y.due)

-- by the time, and then by what is awaited
abbrev pub due_cmp : Due → Due → Ordering
due_cmp x y = ordering_then (nat_cmp x.time y.time) (option_cmp awaited_cmp x.awaited y.awaited)
