use Rattle.std.proofs.Common.{ℕ, List}
use Rattle.lps_model.specs.Clauses.{clauses}
use Rattle.lps_derivation.specs.Levels.{AreLevels}
use Rattle.lps_facts.specs.Facts.{members}
use Rattle.lps_solve.proofs.Results.{IfOk-map}
use Rattle.lps_causal.specs.Effects.{AreEffects}
use Rattle.lps_causal.specs.Given.{IsSettled}
use Rattle.lps_causal.specs.Names.{AreFluents}
use Rattle.lps_causal.proofs.Settled.{are_effects, effects_are_fluents}
use Rattle.lps_causal.proofs.causal_laws.CausalLaws.effects.Goals as goal

pub returns-clause-effects : goal.returns-clause-effects
returns-clause-effects c =
    IfOk-map c.settled.result (IsSettled c.in_ok-given.given) (λ effects. (level : List ℕ → ℕ) → AreLevels (clauses c.args.program.now) level → AreEffects c.args.program.now level (members c.args.facts.now) c.args.events.now effects)
    (are_effects c.args.program.now c.lawful.ensures.formed (members c.args.facts.now) c.args.events.now c.in_ok-given.given c.in_ok-given.ensures) c.settled.ensures

pub returns-clause-fluents : goal.returns-clause-fluents
returns-clause-fluents c =
    IfOk-map c.settled.result (λ effects. (level : List ℕ → ℕ) → AreLevels (clauses c.args.program.now) level → AreEffects c.args.program.now level (members c.args.facts.now) c.args.events.now effects)
    (λ effects. AreFluents c.args.program.now effects.initiated × AreFluents c.args.program.now effects.terminated)
    (λ effects are. effects_are_fluents c.args.program.now c.lawful.ensures.accepted c.lawful.ensures.formed (members c.args.facts.now) c.args.events.now effects are)
    (returns-clause-effects c)
