use Rattle.std.proofs.Common.{rules, ◌≡◌, ◌∙◌, [], ◌∷◌, ◌++◌, append_assoc, sym, ap, subst}
use Rattle.std.specs.List.Sorted.{IsStrictlySortedBy}
use Rattle.lps_model.specs.declared.cycle.Group.{Group}
use Rattle.lps_meaning.specs.Plain.{Ranked, ranked_cmp}
use Rattle.lps_goaltrees.specs.Offers.{AddsGroup, AreFirsts}
use Rattle.lps_goaltrees.proofs.Offering.{before_less, firsts_next, firsts_none, group_of}
use Rattle.lps_goaltrees.proofs.proposing.firsts.Goals as goal

pub loop-offer-init : goal.loop-offer-init
loop-offer-init c =
    let parts : c.into_iter-offer-iterator.result ≡ c.args.offers.keys = search rules in
    record { some = []; parts = parts; are = subst (AreFirsts []) (sym c.new-groups.ensures.items) firsts_none }

pub loop-offer-preserved : goal.loop-offer-preserved
loop-offer-preserved c =
    let r : Ranked = c.in-Some.offer in
    let next : c.loop-offer.offer-iterator ≡ r ∷ c.next.new.self = search rules in
    let sorted : IsStrictlySortedBy ranked_cmp c.args.offers.keys = search rules in
    let parts : c.loop-offer.invariant.some ++ r ∷ c.next.new.self ≡ c.args.offers.keys = ap (λ rs. c.loop-offer.invariant.some ++ rs) (sym next) ∙ c.loop-offer.invariant.parts in
    let group : c.into_group.result ≡ group_of r = λ i. record { atoms = c.into_group.ensures i } in
    record {
      some = c.loop-offer.invariant.some ++ r ∷ [];
      parts = append_assoc c.loop-offer.invariant.some (r ∷ []) c.next.new.self ∙ parts;
      are = firsts_next c.loop-offer.invariant.some r (λ x there. before_less c.loop-offer.invariant.some c.next.new.self r x (subst (IsStrictlySortedBy ranked_cmp) (sym parts) sorted) there)
          c.loop-offer.groups.items c.add_group.new.groups.items (subst (λ (g : Group). AddsGroup g c.loop-offer.groups.items c.add_group.new.groups.items) group c.in_ok-add_group.ensures)
          c.loop-offer.invariant.are;
    }
