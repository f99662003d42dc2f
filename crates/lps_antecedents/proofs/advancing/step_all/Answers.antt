use Rattle.std.proofs.Common.{◌≡◌, ◌∙◌, ◌<◌, ◌+◌, ◌⊎◌, ◌↔◌, List, [], arith, length, map, drop, take, set, ap, subst, sym, refl, inl, inr}
use Rattle.std.specs.Prelude.{Contains}
use Rattle.std.proofs.lemmas.List.{drop_all, length-set, take_all}
use Rattle.lps_facts.specs.Facts.{members}
use Rattle.lps_meaning.proofs.Lists.{of_element}
use Rattle.lps_residual.specs.Moments.{IsReady}
use Rattle.lps_antecedents.specs.declared.held.Held.{Held}
use Rattle.lps_antecedents.specs.declared.slot.Slot.{Slot}
use Rattle.lps_antecedents.specs.Gathered.{HeldEndsWith, HeldGoesOnTo, IsKeyOf}
use Rattle.lps_antecedents.specs.Lists.{ByOne}
use Rattle.lps_antecedents.specs.Slots.{held_of, waiting_in}
use Rattle.lps_antecedents.proofs.Gaining.{all_had, by_nothing}
use Rattle.lps_antecedents.proofs.Lists.{gains_as}
use Rattle.lps_antecedents.proofs.Middles.{mapped}
use Rattle.lps_antecedents.proofs.Stepping.{ends, goes_on}
use Rattle.lps_antecedents.proofs.Steps.{also_next, ends_one_more, goes_one_more, lies_same, same_item, turn, turned_before, turned_left}
use Rattle.lps_antecedents.proofs.advancing.step_all.Goals as goal

pub loop-place-init : goal.loop-place-init
loop-place-init c = record {
  same = refl;
  size = refl;
  before = refl;
  left = refl;
  ready = λ ready. ready;
  stepped = λ level levels trace now at state happen waits. (
    (λ o. (
      λ sides. elim sides [ inl had ↦ elim had [ inl among ↦ inl among | inr none ↦ absurd (by_nothing (λ (h x : Held). h ≡ x) o (o, none, refl)) ] | inr on ↦ inr on ],
      λ sides. elim sides [ inl among ↦ inl (inl among) | inr on ↦ inr on ],
    )),
    (λ key. (λ sides. sides, λ sides. sides)),
  );
}

pub progress-requires-clause-node : goal.progress-requires-clause-node
progress-requires-clause-node c =
    let slot : Slot = c.index.result.now in
    let lt : c.loop-place.place < length c.loop-place.slots.items = let size = c.loop-place.invariant.size in omega (arith, size) in
    c.requires.ready slot.held (mapped held_of c.args.slots.now.items slot (lies_same c.loop-place.slots.items c.args.slots.now.items c.loop-place.place slot c.loop-place.invariant.left lt c.index.ensures))

pub loop-place-preserved : goal.loop-place-preserved
loop-place-preserved c =
    let text = c.args.program.now in
    let old = c.args.slots.now.items in
    let slots = c.loop-place.slots.items in
    let place = c.loop-place.place in
    let item : Slot = c.index_mut.result.now in
    let stays = c.take_out-stays.result in
    let lt : place < length slots = let size = c.loop-place.invariant.size in omega (arith, size) in
    let slot : Slot = c.index.result.now in
    let same : slot ≡ item = same_item slots place slot item lt c.index.ensures c.index_mut.ensures.value in
    let nodes = c.in_ok-stepped.stepped.nodes.items in
    let others = c.take_out-stays.new.nodes.items in
    let ended = c.in_ok-stepped.stepped.ended.items in
    let left = c.loop-place.invariant.left in
    let added = c.in_ok-add.ensures in
    record {
      same = c.in_ok-stepped.ensures.same ∙ c.loop-place.invariant.same;
      size = length-set slots place (turn stays item) ∙ c.loop-place.invariant.size;
      before = turned_before slots place item stays lt c.index_mut.ensures.value ∙ c.loop-place.invariant.before;
      left = turned_left slots place item stays lt c.index_mut.ensures.value ∙ also_next slots old place item left lt c.index_mut.ensures.value;
      ready = λ ready h there. elim ((added.held h).0 there) [
        | inl lay ↦ c.loop-place.invariant.ready ready h lay
        | inr gone ↦ subst (IsReady text) (sym (ap (λ (x : Held). x.node) gone.2))
            (of_element (IsReady text) c.in_ok-stepped.stepped.nodes.items gone.0 c.in_ok-stepped.ensures.nodes ((c.take_out-stays.ensures gone.0).1 (inl gone.1)))
      ];
      stepped = λ level levels trace now at state happen waits.
          let so_far = c.loop-place.invariant.stepped level levels trace now at state happen waits in
          let goes = HeldGoesOnTo text level trace now in
          let end = HeldEndsWith text level trace now in
          let waiting = waits slot.held (mapped held_of old slot (lies_same slots old place slot left lt c.index.ensures)) in
          let go = goes_on text c.lawful.ensures.accepted c.progress_law.ensures.waiting_nodes level trace now levels c.args.time at (members c.args.facts.now) c.args.events.now state happen slot.held
          c.in_ok-stepped.stepped c.in_ok-stepped.ensures.next waiting in
          let ends_so = ends text c.lawful.ensures.accepted c.progress_law.ensures.waiting_nodes level trace now levels c.args.time at (members c.args.facts.now) c.args.events.now state happen slot.held
          c.in_ok-stepped.stepped c.in_ok-stepped.ensures.next waiting in (
            subst (λ (s : Slot). (o : Held) → ((Contains c.add.new.self.held.items o ⊎ Contains (waiting_in (take (place + 1) (set slots place (turn stays s)))) o) ⊎ ByOne (map held_of (drop (place + 1) old)) goes o)
                ↔ (Contains c.args.gathered.now.held.items o ⊎ ByOne (map held_of old) goes o)) same
                (goes_one_more old slots place slot stays lt c.index.ensures left nodes others c.take_out-stays.ensures c.loop-place.gathered.held.items c.add.new.self.held.items added.held goes go
                (λ o. Contains c.args.gathered.now.held.items o ⊎ ByOne (map held_of old) goes o) so_far.0),
            ends_one_more old slots place slot lt c.index.ensures left c.loop-place.gathered.keys.keys c.add.new.self.keys.keys end
                (gains_as c.loop-place.gathered.keys.keys c.add.new.self.keys.keys (IsKeyOf slot.held.rule c.args.time ended) (end slot.held) ends_so added.keys)
                (λ key. Contains c.args.gathered.now.keys.keys key ⊎ ByOne (map held_of old) end key) so_far.1,
          );
    }

pub returns-clause-gathered : goal.returns-clause-gathered
returns-clause-gathered c = λ level levels trace now at state happen waits.
    let all = c.loop-place.invariant.stepped level levels trace now at state happen waits in
    let old = c.args.slots.now.items in
    let slots = c.loop-place.slots.items in
    let place = c.loop-place.place in
    let size = c.loop-place.invariant.size in
    let none : drop place old ≡ [] = drop_all place old (omega arith) in
    let whole : take place slots ≡ slots = take_all place slots (omega (arith, size)) in (
      subst (λ (ss : List Slot). (o : Held) → (Contains c.loop-place.gathered.held.items o ⊎ Contains (waiting_in ss) o)
          ↔ (Contains c.args.gathered.now.held.items o ⊎ ByOne (map held_of old) (HeldGoesOnTo c.args.program.now level trace now) o)) whole
          (all_had (λ o. Contains c.loop-place.gathered.held.items o ⊎ Contains (waiting_in (take place slots)) o) (λ o. ByOne (map held_of (drop place old)) (HeldGoesOnTo c.args.program.now level trace now) o)
          (λ o. Contains c.args.gathered.now.held.items o ⊎ ByOne (map held_of old) (HeldGoesOnTo c.args.program.now level trace now) o)
          (λ o one. by_nothing (HeldGoesOnTo c.args.program.now level trace now) o (subst (λ (ss : List Slot). ByOne (map held_of ss) (HeldGoesOnTo c.args.program.now level trace now) o) none one)) all.0),
      all_had (λ key. Contains c.loop-place.gathered.keys.keys key) (λ key. ByOne (map held_of (drop place old)) (HeldEndsWith c.args.program.now level trace now) key)
          (λ key. Contains c.args.gathered.now.keys.keys key ⊎ ByOne (map held_of old) (HeldEndsWith c.args.program.now level trace now) key)
          (λ key one. by_nothing (HeldEndsWith c.args.program.now level trace now) key (subst (λ (ss : List Slot). ByOne (map held_of ss) (HeldEndsWith c.args.program.now level trace now) key) none one)) all.1,
    )
