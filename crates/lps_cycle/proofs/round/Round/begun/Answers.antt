use Rattle.std.proofs.Common.{◌⊎◌, subst}
use Rattle.std.specs.Prelude.{Contains, IfOk}
use Rattle.lps_terms.specs.declared.atom.Atom.{Atom}
use Rattle.lps_cycle.specs.Round.{RoundState}
use Rattle.lps_cycle.proofs.round.Round.begun.Goals as goal

pub returns : goal.returns
returns c = subst (λ (r : RoundState). IfOk c.begun.result (λ begun. (a : Atom) → Contains r.next a → Contains r.facts a ⊎ Contains begun.items a)) c.self.view_is c.begun.ensures.all
