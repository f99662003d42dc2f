use Rattle.std.proofs.Common.{◌≡◌, ◌∙◌, List, ap, subst}
use Rattle.std.specs.Prelude.{Contains, MatchOption}
use Rattle.lps_goaltrees.specs.declared.goal.Goal.{Goal}
use Rattle.lps_goaltrees.specs.Pursued.{Pursued}
use Rattle.lps_cycle.specs.Engine.{EngineState}
use Rattle.lps_cycle.proofs.engine.Engine.goal.Goals as goal

pub returns : goal.returns
returns c =
    let goals = ap (λ (p : Pursued). p.pursuit.goals) c.goals.ensures ∙ ap (λ (e : EngineState). e.goals.goals) c.self.view_is in
    subst (λ (gs : List Goal). MatchOption c.goal.result ((g : Goal) → Contains gs g → g.goal ≡ c.args.goal → ⊥) (λ g. Contains gs g.now × (g.now.goal ≡ c.args.goal))) goals c.goal.ensures
