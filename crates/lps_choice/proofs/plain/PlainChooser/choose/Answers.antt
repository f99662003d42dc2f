use Rattle.std.proofs.Common.{◌∙◌, sym, subst}
use Rattle.std.specs.Prelude.{Contains}
use Rattle.std.proofs.lemmas.Result.{IfOk-weaker}
use Rattle.lps_choice.specs.Choices.{IsSettled}
use Rattle.lps_choice.specs.Passes.{AllPasses}
use Rattle.lps_choice.proofs.plain.PlainChooser.choose.Goals as goal
use Rattle.lps_choice.proofs.Rounds.{in_order_has, passes_settle}

pub returns-clause-settled : goal.returns-clause-settled
returns-clause-settled g c =
    let choice = g.W.World.choice (g.W.World.fixed c.args.world.now) in
    let now = g.W.World.picks c.passes.new.world in
    let order = c.as_slice.result.now in
    IfOk-weaker c.passes.result (λ _. AllPasses choice order (g.W.World.picks c.args.world.now) now) (λ _. IsSettled choice now)
    (λ _ passes goal among. passes_settle choice order passes goal
    (subst (λ goals. Contains goals goal) (sym (c.as_slice.ensures.value ∙ c.in_ok-goals.ensures)) (in_order_has c.args.self.now.prefer choice.goals goal among)))
    c.passes.ensures.passed
