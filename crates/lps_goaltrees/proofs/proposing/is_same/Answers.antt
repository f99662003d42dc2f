use Rattle.std.proofs.Common.{◌≡◌, ◌∙◌, sym, refl}
use Rattle.std.specs.Cmp.Lexicographic.{slice_cmp}
use Rattle.std.specs.declared.cmp.Ordering.TheVariants.{Less, Equal, Greater}
use Rattle.lps_terms.specs.Order.{atom_cmp}
use Rattle.lps_goaltrees.proofs.Offering.{other_group, same_group}
use Rattle.lps_goaltrees.proofs.proposing.is_same.Goals as goal

less_equal : Less ≡ Equal → ⊥
less_equal e = cc

greater_equal : Greater ≡ Equal → ⊥
greater_equal e = cc

pub returns-in-Equal : goal.returns-in-Equal
returns-in-Equal c =
    let order : c.cmp.result ≡ slice_cmp atom_cmp c.args.group.now.atoms c.args.other.now.atoms = rw (sym c.as_slice.ensures, sym c.as_slice-2.ensures) c.cmp.ensures in
    (λ yes. same_group c.args.group.now c.args.other.now (sym order ∙ c.in-Equal.is), λ same. refl)

pub returns-in-Less : goal.returns-in-Less
returns-in-Less c =
    let order : c.cmp.result ≡ slice_cmp atom_cmp c.args.group.now.atoms c.args.other.now.atoms = rw (sym c.as_slice.ensures, sym c.as_slice-2.ensures) c.cmp.ensures in
    (λ no. absurd cc, λ same. absurd (other_group c.args.group.now c.args.other.now (λ e. less_equal (sym c.in-Less.is ∙ order ∙ e)) same))

pub returns-in-Greater : goal.returns-in-Greater
returns-in-Greater c =
    let order : c.cmp.result ≡ slice_cmp atom_cmp c.args.group.now.atoms c.args.other.now.atoms = rw (sym c.as_slice.ensures, sym c.as_slice-2.ensures) c.cmp.ensures in
    (λ no. absurd cc, λ same. absurd (other_group c.args.group.now c.args.other.now (λ e. greater_equal (sym c.in-Greater.is ∙ order ∙ e)) same))
