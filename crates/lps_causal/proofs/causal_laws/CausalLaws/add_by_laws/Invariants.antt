use Rattle.std.proofs.Common.{take}
use Rattle.lps_model.specs.Clauses.{clauses}
use Rattle.lps_model.specs.Program.{laws}
use Rattle.lps_facts.specs.Facts.{members}
use Rattle.lps_causal.specs.Given.{AddsBy, ByOne, GivesAs}
use Rattle.lps_causal.specs.Laws.{law_at}
use Rattle.lps_causal.proofs.causal_laws.CausalLaws.add_by_laws.Given as goal

-- what the laws at the places so far give is added
abbrev pub invariant-loop-place : goal.invariant-loop-place
invariant-loop-place l =
    AddsBy (clauses l.program) l.fn.given l.given (λ level initiates. ByOne (take l.place-index l.places) (λ i. GivesAs (clauses l.program) (members l.facts) level l.event initiates (law_at (laws l.program) i)))
