use Rattle.std.proofs.Common.{ℕ, Bool, List, [], take}
use Rattle.lps_model.specs.Clauses.{clauses}
use Rattle.lps_model.specs.Program.{laws}
use Rattle.lps_derivation.specs.Levels.{AreLevels}
use Rattle.lps_facts.specs.Facts.{members}
use Rattle.lps_causal.specs.Given.{ByOne, Gains, GivesAs, fluents_of}
use Rattle.lps_causal.proofs.causal_laws.CausalLaws.given.Given as goal

-- what the laws give for the events so far is given
abbrev pub invariant-loop-event : goal.invariant-loop-event
invariant-loop-event l = (level : List ℕ → ℕ) → AreLevels (clauses l.program) level → (initiates : Bool) →
    Gains [] (fluents_of initiates l.given) (ByOne (take l.event-index l.events) (λ event. ByOne (laws l.program) (GivesAs (clauses l.program) (members l.facts) level event initiates)))
