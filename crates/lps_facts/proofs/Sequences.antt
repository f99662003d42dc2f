-- Several changes one after another: what stands in the set after them, and that they can be taken back.
use Rattle.std.proofs.Common.{◌≡◌, Bool, true, false, cond, List, [], ◌∷◌, length, take, arith, refl, sym, ap, ◌∙◌}
use Rattle.std.specs.Prelude.{not, ◌&&◌, ◌||◌, if◌then◌else◌}
use Rattle.std.proofs.lemmas.List.{length-append, take-append-le, take_all, take-take}
use Rattle.lps_terms.specs.declared.atom.Atom.{Atom}
use Rattle.lps_terms.specs.declared.effects.Effects.{Effects}
use Rattle.lps_terms.specs.Order.{atom_eq}
use Rattle.lps_terms.specs.OrderLaws.{atom_eq-decides}
use Rattle.lps_facts.specs.declared.change.Change.{Change}
use Rattle.lps_facts.specs.Facts.{TrailedSet, is_among, changed, members, then_change, back_to, will_change, with_fact, with_facts, with_effects, IsLater}
use Rattle.lps_facts.proofs.Sets.{changed_among, atom_eq-sym}
use Rattle.lps_facts.proofs.Trails.{after-append}

-- ---- taken back

pub later_itself : (facts : TrailedSet) → IsLater facts facts
later_itself facts = (omega arith, λ i. record { base = facts.base; changes = take_all (length facts.changes) facts.changes (omega arith) i })

later_change : (facts : TrailedSet) (inserted : Bool) (fact : Atom) → IsLater facts (then_change facts inserted fact)
later_change facts inserted fact =
    let more : List Change = record { inserted = inserted; fact = fact } ∷ [] in (
      omega (arith, length-append facts.changes more),
      λ i. record { base = facts.base; changes = (take-append-le (length facts.changes) facts.changes more (omega arith) ∙ take_all (length facts.changes) facts.changes (omega arith)) i },
    )

pub later_with : (inserted : Bool) (fact : Atom) (facts : TrailedSet) → IsLater facts (with_fact inserted fact facts)
later_with inserted fact facts = by (will_change inserted (is_among (members facts) fact))
  where
    by : (will : Bool) → IsLater facts (if will then then_change facts inserted fact else facts)
    by true = later_change facts inserted fact
    by false = later_itself facts

pub later_still : (x y z : TrailedSet) → IsLater x y → IsLater y z → IsLater x z
later_still x y z first second = (
  omega (arith, first.0, second.0),
  (λ i. record { base = z.base; changes = short i }) ∙ ap (back_to (length x.changes)) second.1 ∙ first.1,
)
  where
    short : take (length x.changes) z.changes ≡ take (length x.changes) (take (length y.changes) z.changes)
    short = sym (take-take (length x.changes) (length y.changes) z.changes first.0)

pub later_with_all : (inserted : Bool) (atoms : List Atom) (facts : TrailedSet) → IsLater facts (with_facts inserted atoms facts)
later_with_all inserted [] facts = later_itself facts
later_with_all inserted (atom ∷ atoms) facts =
    later_still facts (with_fact inserted atom facts) (with_facts inserted atoms (with_fact inserted atom facts)) (later_with inserted atom facts)
    (later_with_all inserted atoms (with_fact inserted atom facts))

pub later_with_effects : (effects : Effects) (facts : TrailedSet) → IsLater facts (with_effects effects facts)
later_with_effects effects facts =
    let middle : TrailedSet = with_facts false effects.terminated facts in
    later_still facts middle (with_effects effects facts) (later_with_all false effects.terminated facts) (later_with_all true effects.initiated middle)

-- ---- what stands in the set

pub members_change : (facts : TrailedSet) (inserted : Bool) (fact : Atom) → members (then_change facts inserted fact) ≡ changed inserted fact (members facts)
members_change facts inserted fact = after-append facts.base facts.changes (record { inserted = inserted; fact = fact } ∷ [])

held_so : (inserted held : Bool) → will_change inserted held ≡ false → held ≡ inserted
held_so true true h = refl
held_so true false h = absurd cc
held_so false held h = h

stays : (tied inserted held : Bool) → (tied ≡ true → held ≡ inserted) → held ≡ cond tied inserted held
stays true inserted held h = h refl
stays false inserted held h = refl

pub members_with : (inserted : Bool) (fact : Atom) (facts : TrailedSet) (q : Atom) → is_among (members (with_fact inserted fact facts)) q ≡ cond (atom_eq fact q) inserted (is_among (members facts) q)
members_with inserted fact facts q = by (will_change inserted (is_among (members facts) fact)) refl
  where
    by : (will : Bool) → will_change inserted (is_among (members facts) fact) ≡ will →
        is_among (members (if will then then_change facts inserted fact else facts)) q ≡ cond (atom_eq fact q) inserted (is_among (members facts) q)
    by true e = ap (λ (atoms : List Atom). is_among atoms q) (members_change facts inserted fact) ∙ changed_among inserted fact (members facts) q
    by false e =
        stays (atom_eq fact q) inserted (is_among (members facts) q)
        (λ tied. ap (is_among (members facts)) (sym ((atom_eq-decides fact q).0 tied)) ∙ held_so inserted (is_among (members facts) fact) e)

one_more : (tied among inserted held : Bool) → cond among inserted (cond tied inserted held) ≡ cond (tied || among) inserted held
one_more true true inserted held = refl
one_more true false inserted held = refl
one_more false among inserted held = refl

pub members_with_all : (inserted : Bool) (atoms : List Atom) (facts : TrailedSet) (q : Atom) → is_among (members (with_facts inserted atoms facts)) q ≡ cond (is_among atoms q) inserted (is_among (members facts) q)
members_with_all inserted [] facts q = refl
members_with_all inserted (atom ∷ atoms) facts q =
    members_with_all inserted atoms (with_fact inserted atom facts) q ∙ ap (cond (is_among atoms q) inserted) (members_with inserted atom facts q)
    ∙ one_more (atom_eq atom q) (is_among atoms q) inserted (is_among (members facts) q)
    ∙ ap (λ tied. cond (tied || is_among atoms q) inserted (is_among (members facts) q)) (atom_eq-sym atom q)

out_and_in : (new gone held : Bool) → cond new true (cond gone false held) ≡ (new || (held && not gone))
out_and_in true gone held = refl
out_and_in false true true = refl
out_and_in false true false = refl
out_and_in false false true = refl
out_and_in false false false = refl

pub members_with_effects : (effects : Effects) (facts : TrailedSet) (q : Atom) →
    is_among (members (with_effects effects facts)) q ≡ (is_among effects.initiated q || (is_among (members facts) q && not (is_among effects.terminated q)))
members_with_effects effects facts q =
    members_with_all true effects.initiated (with_facts false effects.terminated facts) q
    ∙ ap (cond (is_among effects.initiated q) true) (members_with_all false effects.terminated facts q)
    ∙ out_and_in (is_among effects.initiated q) (is_among effects.terminated q) (is_among (members facts) q)
