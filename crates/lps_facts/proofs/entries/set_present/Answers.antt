use Rattle.std.proofs.Common.{◌∙◌, sym, ap}
use Rattle.std.specs.Prelude.{is_some}
use Rattle.std.specs.Option.{option_copied_mut}
use Rattle.lps_facts.proofs.Sets.{true_not_false}
use Rattle.lps_facts.proofs.Present.{knows-entry, present_changed, known_after}
use Rattle.lps_facts.proofs.entries.set_present.Goals as goal

pub returns-in-Some-clause-changed : goal.returns-in-Some-clause-changed
returns-in-Some-clause-changed c =
    let old = c.args.entries.now.entries in
    let written = c.get_mut.follows.holds c.args.inserted in
    let there = sym (knows-entry old c.args.fact.now) ∙ c.requires.room in
    present_changed c.args.inserted c.args.fact.now old (c.get_mut.follows.lender c.args.inserted).entries c.get_mut.ensures.ordered written.4 (written.3 there).0

pub returns-in-Some-clause-known : goal.returns-in-Some-clause-known
returns-in-Some-clause-known c =
    let old = c.args.entries.now.entries in
    let written = c.get_mut.follows.holds c.args.inserted in
    let there = sym (knows-entry old c.args.fact.now) ∙ c.requires.room in
    known_after c.args.inserted c.args.fact.now old (c.get_mut.follows.lender c.args.inserted).entries (written.3 there).0

pub returns-in_default-clause-changed : goal.returns-in_default-clause-changed
returns-in_default-clause-changed c =
    let there = sym (knows-entry c.args.entries.now.entries c.args.fact.now) ∙ c.requires.room in
    absurd (true_not_false (sym there ∙ ap is_some (sym c.get_mut.ensures.value) ∙ ap (λ o. is_some (option_copied_mut o)) c.in_default.is))
