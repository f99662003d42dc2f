use Rattle.std.proofs.Common.{◌∷◌, [], ◌∙◌, sym, ap}
use Rattle.std.specs.Prelude.{option_copied}
use Rattle.lps_index.specs.Matching.{closed_first}
use Rattle.lps_index.specs.Table.{IsNotedIn, IsWithClosed, IsWithOther}
use Rattle.lps_index.proofs.Gaining.{closed_notes, other_notes}
use Rattle.lps_index.proofs.Results.{IfOk-map}
use Rattle.lps_index.proofs.table.Table.noted.Goals as goal

pub returns-in-Some : goal.returns-in-Some
returns-in-Some c =
    IfOk-map c.noted_closed.result (λ new. IsWithClosed c.args.atom.now.name c.in-Some.first.now c.args.place c.args.self new) (λ new. IsNotedIn c.args.self new c.args.place (c.args.atom.now ∷ []))
    (λ new with. closed_notes c.args.self new c.args.place c.args.atom.now c.in-Some.first.now (ap closed_first (sym c.as_slice.ensures) ∙ sym c.closed_first.ensures ∙ ap option_copied c.in-Some.is) with) c.noted_closed.ensures

pub returns-in-None : goal.returns-in-None
returns-in-None c =
    IfOk-map c.noted_other.result (λ new. IsWithOther c.args.atom.now.name c.args.place c.args.self new) (λ new. IsNotedIn c.args.self new c.args.place (c.args.atom.now ∷ []))
    (λ new with. other_notes c.args.self new c.args.place c.args.atom.now (ap closed_first (sym c.as_slice.ensures) ∙ sym c.closed_first.ensures ∙ ap option_copied c.in-None.is) with) c.noted_other.ensures
