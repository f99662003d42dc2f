use Rattle.std.proofs.Common.{◌≡◌, ◌<◌, ◌∙◌, get_or, length, ap, sym, subst, inl, inr}
use Rattle.std.specs.Prelude.{Contains, Option}
use Rattle.lps_goaltrees.specs.declared.goal.Goal.{Goal}
use Rattle.lps_goaltrees.specs.declared.slot.Slot.{Slot}
use Rattle.lps_goaltrees.specs.declared.slot.Which.{Which}
use Rattle.lps_goaltrees.specs.declared.slot.Which.TheVariants as w
use Rattle.lps_goaltrees.specs.declared.table.Table.{Table}
use Rattle.lps_goaltrees.specs.Slots.{IsWoken, version, version_at, wakes_of}
use Rattle.lps_goaltrees.proofs.Places.{version_there}
use Rattle.lps_goaltrees.proofs.slots.clean_at.Goals as goal
use Rattle.lps_goaltrees.proofs.slots.clean_at.Goals.{in-Some, in_default}

pub returns-clause-table : goal.returns-clause-table
returns-clause-table c = λ wake n was stays.
    let slots = c.args.slots.now.items in
    elim c.match-place_of.branch [
      | in-Some b ↦
          let place = b.in-Some.place in
          let slot : Slot = b.index.result.now in
          let found : (place < length slots) × ((d : Slot) → (get_or slots place d).number ≡ c.args.number) = rw (← c.as_slice.ensures.value) b.in-Some.ensures in
          let same = ap (λ (s : Slot). s.number) b.index.ensures ∙ found.1 slot in
          let there : (which : Which) → version_at which slots c.args.number ≡ version which slot.versions = λ which. version_there which slots c.requires.rising c.args.number place slot found.0 b.index.ensures same in
          subst (λ (t : Table). IsWoken t wake n) (sym b.table-is) (b.forget_dropped.ensures wake n was (λ is. elim (stays is) [
            | inl among ↦ inl (subst (λ (g : Option Goal). Contains (wakes_of g) wake) (there w.Before) among)
            | inr among ↦ inr (subst (λ (g : Option Goal). Contains (wakes_of g) wake) (there w.Now) among)
          ]))
      | in_default b ↦ subst (λ (t : Table). IsWoken t wake n) (sym b.table-is) was
    ]
