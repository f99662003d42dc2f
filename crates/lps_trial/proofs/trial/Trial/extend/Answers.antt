use Rattle.std.proofs.Common.{List, refl, sym, subst, ap, ◌∙◌, ◌++◌}
use Rattle.lps_facts.proofs.Sequences.{later_itself}
use Rattle.lps_facts.specs.Facts.{with_facts}
use Rattle.lps_terms.specs.declared.atom.Atom.{Atom}
use Rattle.std.specs.Prelude.{true}
use Rattle.lps_trial.specs.Trial.{IsTrial, TrialState}
use Rattle.lps_trial.proofs.Trials.{all_taken, is_longer_so, longer_from, longer_itself, news_are}
use Rattle.lps_trial.proofs.trial.Trial.extend.Goals as goal

pub effects-requires-clause-state : goal.effects-requires-clause-state
effects-requires-clause-state c = (subst (IsTrial c.args.theory.now) (sym c.self.view_is) c.requires.trial).grown.fluents

pub returns-in_err-effects-clause-longer : goal.returns-in_err-effects-clause-longer
returns-in_err-effects-clause-longer c = longer_itself c.args.self.now

pub returns-in_err-effects-2-clause-longer : goal.returns-in_err-effects-2-clause-longer
returns-in_err-effects-2-clause-longer c = longer_itself c.args.self.now

pub returns-in_err-insert_all-clause-longer : goal.returns-in_err-insert_all-clause-longer
returns-in_err-insert_all-clause-longer c =
    let inside = c.self.inside in
    let old : TrialState = record { state = inside.state; next = inside.next; begun = inside.begun; ended = inside.ended.items; events = inside.events.items; happened = inside.happened } in
    longer_from old c.args.self.now _ c.self.view_is refl (later_itself inside.next) c.insert_all.ensures.later (all_taken inside.ended.items) (all_taken inside.events.items) (later_itself inside.happened)

pub returns-in_err-touched-clause-longer : goal.returns-in_err-touched-clause-longer
returns-in_err-touched-clause-longer c =
    let inside = c.self.inside in
    let old : TrialState = record { state = inside.state; next = inside.next; begun = inside.begun; ended = inside.ended.items; events = inside.events.items; happened = inside.happened } in
    longer_from old c.args.self.now _ c.self.view_is refl (later_itself inside.next) c.insert_all.ensures.later (all_taken inside.ended.items) (all_taken inside.events.items) (later_itself inside.happened)

pub returns-in_err-push_all-clause-longer : goal.returns-in_err-push_all-clause-longer
returns-in_err-push_all-clause-longer c =
    let inside = c.self.inside in
    let old : TrialState = record { state = inside.state; next = inside.next; begun = inside.begun; ended = inside.ended.items; events = inside.events.items; happened = inside.happened } in
    longer_from old c.args.self.now _ c.self.view_is refl (later_itself inside.next) c.insert_all.ensures.later c.push_all.ensures.first (all_taken inside.events.items) (later_itself inside.happened)

pub returns-in_err-apply-clause-longer : goal.returns-in_err-apply-clause-longer
returns-in_err-apply-clause-longer c =
    let inside = c.self.inside in
    let old : TrialState = record { state = inside.state; next = inside.next; begun = inside.begun; ended = inside.ended.items; events = inside.events.items; happened = inside.happened } in
    longer_from old c.args.self.now _ c.self.view_is refl c.apply.ensures.later c.insert_all.ensures.later c.push_all.ensures.first (all_taken inside.events.items) (later_itself inside.happened)

pub returns-in_err-insert_all-2-clause-longer : goal.returns-in_err-insert_all-2-clause-longer
returns-in_err-insert_all-2-clause-longer c =
    let inside = c.self.inside in
    let old : TrialState = record { state = inside.state; next = inside.next; begun = inside.begun; ended = inside.ended.items; events = inside.events.items; happened = inside.happened } in
    longer_from old c.args.self.now _ c.self.view_is refl c.apply.ensures.later c.insert_all.ensures.later c.push_all.ensures.first (all_taken inside.events.items) c.insert_all-2.ensures.later

pub returns-in_err-push_all-2-clause-longer : goal.returns-in_err-push_all-2-clause-longer
returns-in_err-push_all-2-clause-longer c =
    let inside = c.self.inside in
    let old : TrialState = record { state = inside.state; next = inside.next; begun = inside.begun; ended = inside.ended.items; events = inside.events.items; happened = inside.happened } in
    longer_from old c.args.self.now _ c.self.view_is refl c.apply.ensures.later c.insert_all.ensures.later c.push_all.ensures.first c.push_all-2.ensures.first c.insert_all-2.ensures.later

pub returns-clause-longer : goal.returns-clause-longer
returns-clause-longer c =
    let inside = c.self.inside in
    let old : TrialState = record { state = inside.state; next = inside.next; begun = inside.begun; ended = inside.ended.items; events = inside.events.items; happened = inside.happened } in
    longer_from old c.args.self.now _ c.self.view_is refl c.apply.ensures.later c.insert_all.ensures.later c.push_all.ensures.first c.push_all-2.ensures.first c.insert_all-2.ensures.later

pub returns-clause-grown : goal.returns-clause-grown
returns-clause-grown c =
    let inside = c.self.inside in
    let old : TrialState = record { state = inside.state; next = inside.next; begun = inside.begun; ended = inside.ended.items; events = inside.events.items; happened = inside.happened } in
    let is : IsTrial c.args.theory.now old = subst (IsTrial c.args.theory.now) (sym c.self.view_is) c.requires.trial in
    let made = c.in_ok-effects-2.effects in
    let begun_is = c.in_ok-insert_all.ensures.all ∙ ap (λ (atoms : List Atom). with_facts true atoms inside.begun) c.as_slice.ensures in
    let ended_is = c.in_ok-push_all.ensures.all ∙ ap (λ (atoms : List Atom). inside.ended.items ++ atoms) c.as_slice-2.ensures in
    is_longer_so c.args.theory.now old is.grown c.args.events.now c.requires.events c.in_ok-effects.effects made c.in_ok-effects.ensures.effects c.in_ok-effects.ensures.fluents.0
    c.in_ok-effects-2.ensures.initiated c.in_ok-effects-2.ensures.terminated inside.state c.apply.new.self c.insert_all.new.self c.push_all.new.all.items c.push_all-2.new.all.items c.insert_all-2.new.self
    refl c.in_ok-apply.ensures.set begun_is ended_is c.in_ok-push_all-2.ensures.all c.in_ok-insert_all-2.ensures.all

pub returns-clause-news : goal.returns-clause-news
returns-clause-news c =
    let inside = c.self.inside in
    let old : TrialState = record { state = inside.state; next = inside.next; begun = inside.begun; ended = inside.ended.items; events = inside.events.items; happened = inside.happened } in
    let is : IsTrial c.args.theory.now old = subst (IsTrial c.args.theory.now) (sym c.self.view_is) c.requires.trial in
    let made = c.in_ok-effects-2.effects in
    let begun_is = c.in_ok-insert_all.ensures.all ∙ ap (λ (atoms : List Atom). with_facts true atoms inside.begun) c.as_slice.ensures in
    news_are c.args.theory.now old is.grown c.args.events.now c.requires.events c.in_ok-effects.effects made c.in_ok-effects.ensures.effects c.in_ok-effects.ensures.fluents.0
    c.in_ok-effects-2.ensures.initiated c.in_ok-effects-2.ensures.terminated (is.allowed c.lawful.ensures.accepted c.lawful.ensures.formed) c.in_ok-effects.ensures.fluents.1
    inside.state c.apply.new.self c.insert_all.new.self c.insert_all-2.new.self c.push_all-2.new.all.items c.in_ok-touched.touched.items
    refl c.in_ok-apply.ensures.set begun_is c.in_ok-insert_all-2.ensures.all c.in_ok-push_all-2.ensures.all c.in_ok-touched.ensures
