-- The order of proposals is total.
use Rattle.std.specs.Cmp.{IsTotalOrder, nat_cmp_total, on_total, then_total}
use Rattle.std.specs.Cmp.Lexicographic.{lists_total}
use Rattle.lps_terms.specs.OrderLaws.{atom_cmp_total}
use Rattle.lps_meaning.specs.Plain.{ranked_cmp}

pub ranked_cmp_total : IsTotalOrder ranked_cmp
ranked_cmp_total =
    then_total (on_total (λ r. r.alternative) nat_cmp_total) (then_total (on_total (λ r. r.rank) (lists_total nat_cmp_total)) (on_total (λ r. r.group) (lists_total atom_cmp_total)))
