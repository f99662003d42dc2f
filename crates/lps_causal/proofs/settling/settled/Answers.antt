use Rattle.std.proofs.Common.{◌∙◌, List, not, ap, sym, subst}
use Rattle.std.specs.List.{filter}
use Rattle.std.specs.List.Sorted.{IsStrictlySortedBy}
use Rattle.lps_terms.specs.declared.atom.Atom.{Atom}
use Rattle.lps_terms.specs.Order.{atom_cmp}
use Rattle.lps_facts.specs.Facts.{is_among}
use Rattle.lps_causal.proofs.Settled.{is_settled}
use Rattle.lps_causal.proofs.settling.settled.Goals as goal

pub others-terminated-requires : goal.others-terminated-requires
others-terminated-requires c = subst (IsStrictlySortedBy atom_cmp) (sym c.as_slice.ensures.value) c.in_ok-initiated.ensures.sorted

pub returns : goal.returns
returns c =
    is_settled c.args.given c.in_ok-initiated.initiated.items c.in_ok-terminated.terminated.items c.others-terminated.result.items c.in_ok-initiated.ensures.sorted c.in_ok-terminated.ensures.sorted
    c.in_ok-initiated.ensures.same c.in_ok-terminated.ensures.same
    (c.others-terminated.ensures ∙ ap (λ (these : List Atom). filter (λ a. not (is_among these a)) c.in_ok-terminated.terminated.items) c.as_slice.ensures.value)
    _ c.from_vec.ensures c.from_vec-2.ensures
