-- How many events happen by picks, one after the other.
use Rattle.std.proofs.Common.{◌≡◌, ◌∙◌, ◌<◌, ◌≤◌, ◌+◌, ℕ, zero, suc, List, [], ◌∷◌, length, get_or, drop, refl, sym, ap, arith, length-append}
use Rattle.std.specs.List.{flat_map}
use Rattle.lps_model.specs.declared.cycle.Pick.{Pick}
use Rattle.lps_choice.proofs.Lists.{drop_here}

abbrev pub count : List Pick → ℕ
count picks = length (flat_map (λ (pick : Pick). pick.group.atoms) picks)

pub one_less : (picks : List Pick) (i : ℕ) (pick : Pick) → i < length picks → pick ≡ get_or picks i pick → count (drop i picks) ≡ length pick.group.atoms + count (drop (i + 1) picks)
one_less picks i pick lt is =
    ap count (drop_here picks i pick lt ∙ ap (λ (p : Pick). p ∷ drop (i + 1) picks) (sym is)) ∙ length-append pick.group.atoms (flat_map (λ (p : Pick). p.group.atoms) (drop (i + 1) picks))

pub none_left : (picks : List Pick) (i : ℕ) → length picks ≤ i → count (drop i picks) ≡ 0
none_left [] zero past = refl
none_left [] (suc i) past = refl
none_left (pick ∷ picks) zero past = absurd (omega arith)
none_left (pick ∷ picks) (suc i) past = none_left picks i (omega arith)
