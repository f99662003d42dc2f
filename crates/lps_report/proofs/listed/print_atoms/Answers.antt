use Rattle.std.proofs.Common.{◌∙◌, ◌≤◌, ◌++◌, List, [], ℕ, ap, sym, map, length, arith, append-nil}
use Rattle.std.proofs.lemmas.List.{at_drop_all}
use Rattle.lps_terms.specs.declared.atom.Atom.{Atom}
use Rattle.lps_terms.specs.Printed.{atom_text}
use Rattle.lps_report.specs.Listed.{led_from}
use Rattle.lps_report.proofs.Pieces.{are_separated}
use Rattle.lps_report.proofs.listed.print_atoms.Goals as goal

pub returns : goal.returns
returns c =
    let start : List ℕ = c.args.out.now.items in
    let done : List ℕ = c.loop-atom.out.items in
    let atoms : List Atom = c.args.atoms.now in
    let past : length atoms ≤ c.loop-atom.atom-index = omega arith in
    let none_left = at_drop_all (λ (left : List Atom). done ++ led_from [] c.loop-atom.later (map atom_text left)) atoms c.loop-atom.atom-index past in
    sym (append-nil done) ∙ sym none_left ∙ c.loop-atom.invariant ∙ ap (λ (bs : List ℕ). start ++ bs) (are_separated (map atom_text atoms))
