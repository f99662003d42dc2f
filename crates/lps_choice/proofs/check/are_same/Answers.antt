use Rattle.std.proofs.Common.{◌≡◌, ◌∙◌, sym, ap, is_eq}
use Rattle.std.specs.Cmp.{Equal-is}
use Rattle.std.specs.Cmp.Lexicographic.{slice_cmp}
use Rattle.std.specs.FinMap.{slice_cmp-IsAntisymmetric}
use Rattle.std.specs.declared.cmp.Ordering.TheVariants.{Equal}
use Rattle.std.proofs.lemmas.Cmp.{lists_total, tied_itself}
use Rattle.lps_terms.specs.OrderLaws.{atom_cmp_total, atom_cmp-IsAntisymmetric}
use Rattle.lps_terms.specs.Order.{atom_cmp}
use Rattle.lps_choice.proofs.check.are_same.Goals as goal

pub returns : goal.returns
returns c =
    let compared : c.cmp.result ≡ slice_cmp atom_cmp c.args.atoms.now c.args.others.now = c.cmp.ensures in (
      λ same.
          let equal : c.cmp.result ≡ Equal = (Equal-is c.cmp.result).0 (sym c.is_eq.ensures ∙ same) in
          slice_cmp-IsAntisymmetric atom_cmp-IsAntisymmetric _ _ (sym compared ∙ equal),
      λ same.
          let equal : c.cmp.result ≡ Equal = compared ∙ ap (slice_cmp atom_cmp c.args.atoms.now) (sym same) ∙ tied_itself (lists_total atom_cmp_total) c.args.atoms.now in
          c.is_eq.ensures ∙ ap is_eq equal,
    )
