use Rattle.std.proofs.Common.{◌≡◌, ◌∙◌, ℕ, sym, ap, subst, inl, inr}
use Rattle.std.specs.Prelude.{Contains}
use Rattle.std.specs.BTreeSet.{BTreeSet}
use Rattle.std.specs.Option.{option_copied}
use Rattle.std.proofs.lemmas.Result.{on_ok_weaker}
use Rattle.lps_goaltrees.proofs.Lists.{some_none, some_same}
use Rattle.lps_goaltrees.proofs.table.add_goals.Goals as goal

pub returns-in-None-clause-added : goal.returns-in-None-clause-added
returns-in-None-clause-added c = λ n listed. absurd (some_none (sym listed.found ∙ sym c.get.ensures.value ∙ ap option_copied c.in-None.is))

pub returns-in-Some-clause-more : goal.returns-in-Some-clause-more
returns-in-Some-clause-more c = on_ok_weaker c.add_all.result (λ all n there. (all n).1 (inl there)) c.add_all.ensures

pub returns-in-Some-clause-added : goal.returns-in-Some-clause-added
returns-in-Some-clause-added c = on_ok_weaker c.add_all.result
    (λ all n listed.
    let same : listed.numbers ≡ c.in-Some.numbers.now = some_same (sym listed.found ∙ sym c.get.ensures.value ∙ ap option_copied c.in-Some.is) in
    (all n).1 (inr (subst (λ (s : BTreeSet ℕ). Contains s.keys n) same listed.among)))
    c.add_all.ensures
