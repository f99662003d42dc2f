use Rattle.std.proofs.Common.{◌≡◌, ◌∙◌, ◌<◌, ℕ, Bool, true, false, not, sym, ap, subst, arith, refl}
use Rattle.std.specs.Prelude.{Contains}
use Rattle.std.specs.BTreeSet.{BTreeSet}
use Rattle.std.specs.Option.{option_copied}
use Rattle.lps_goaltrees.proofs.Lists.{some_none, some_same}
use Rattle.lps_goaltrees.proofs.table.has_goals.Goals as goal

yes : (b : Bool) → not b ≡ false → b ≡ true
yes true e = refl
yes false e = absurd cc

none_below : (k n : ℕ) → k < n → n ≡ 0 → ⊥
none_below k n lt none = omega (arith, none)

pub returns-in-Some : goal.returns-in-Some
returns-in-Some c = λ e n listed.
    let same : listed.numbers ≡ c.in-Some.numbers.now = some_same (sym listed.found ∙ sym c.get.ensures.value ∙ ap option_copied c.in-Some.is) in
    let among = subst (λ (s : BTreeSet ℕ). Contains s.keys n) same listed.among in
    none_below among.0 _ among.1 (c.is_empty.ensures.0 (yes c.is_empty.result e))

pub returns-in-None : goal.returns-in-None
returns-in-None c = λ e n listed. some_none (sym listed.found ∙ sym c.get.ensures.value ∙ ap option_copied c.in-None.is)
