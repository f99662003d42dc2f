use Rattle.std.proofs.Common.{◌≡◌, ◌∙◌, sym, ap, arith}
use Rattle.lps_terms.specs.declared.atom.Atom.{Atom}
use Rattle.lps_solve.specs.Found.{IsRowOf}
use Rattle.lps_solve.proofs.Gaining.{Gains-same}
use Rattle.lps_solve.proofs.found.add_fact.Goals as goal

pub returns : goal.returns
returns c =
    let same = c.new.ensures ∙ ap (λ (a : Atom). a.args) c.in_ok-copy.ensures in
    Gains-same c.args.found.now.keys c.insert.new.found.keys (λ x. x ≡ c.new.result) (IsRowOf c.args.fact.now) (λ x e. record { is = e ∙ same; small = omega (arith, c.atom_symbols.ensures) })
    (λ x h. h.is ∙ sym same) c.in_ok-insert.ensures
