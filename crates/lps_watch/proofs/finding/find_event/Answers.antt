use Rattle.std.proofs.Common.{◌≡◌, ◌∙◌, List, ℕ, ap, subst, sym}
use Rattle.std.specs.Prelude.{Some, None, Contains, slice_get}
use Rattle.std.specs.Option.{option_copied}
use Rattle.lps_terms.specs.declared.term.Term.{Term}
use Rattle.lps_watch.specs.Watches.{Adds}
use Rattle.lps_watch.proofs.Events.{by_both, by_name, named}
use Rattle.lps_watch.proofs.finding.find_event.Goals as goal

pub returns-in_default : goal.returns-in_default
returns-in_default c =
    let whole = c.args.wakes.now.keys in
    let before = c.args.found.now.keys in
    let middle = c.find_awaiting.new.found.keys in
    by_name c.args.event.now whole before middle middle (sym (c.first.ensures.value ∙ ap (λ (xs : List Term). slice_get xs 0) c.as_slice.ensures) ∙ ap option_copied c.in_default.is)
    (subst (λ (n : List ℕ). Adds before middle (λ w. Contains whole w × (w.awaited ≡ Some (named n None)))) c.in_ok-name.ensures c.in_ok-find_awaiting.ensures)

pub returns : goal.returns
returns c =
    let whole = c.args.wakes.now.keys in
    let before = c.args.found.now.keys in
    let middle = c.find_awaiting.new.found.keys in
    let after = c.find_awaiting-2.new.found.keys in
    by_both c.args.event.now whole before middle after c.in-Some.first.now (sym (c.first.ensures.value ∙ ap (λ (xs : List Term). slice_get xs 0) c.as_slice.ensures) ∙ ap option_copied c.in-Some.is)
    (subst (λ (n : List ℕ). Adds before middle (λ w. Contains whole w × (w.awaited ≡ Some (named n None)))) c.in_ok-name.ensures c.in_ok-find_awaiting.ensures)
    (subst (λ (n : List ℕ). Adds middle after (λ w. Contains whole w × (w.awaited ≡ Some (named n (Some c.in-Some.first.now))))) c.in_ok-name-2.ensures
    (subst (λ (x : Term). Adds middle after (λ w. Contains whole w × (w.awaited ≡ Some (named c.in_ok-name-2.name (Some x))))) c.in_ok-copy_term.ensures c.in_ok-find_awaiting-2.ensures))
