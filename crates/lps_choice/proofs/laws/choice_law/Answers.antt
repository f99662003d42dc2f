use Rattle.std.proofs.Common.{◌∙◌, []}
use Rattle.std.proofs.lemmas.List.{append-nil}
use Rattle.lps_choice.proofs.laws.choice_law.Goals as goal
use Rattle.lps_choice.proofs.Carried.{none_taken, picks_in_choice, picks_in_text, settled_in_choice, settled_in_text}
use Rattle.lps_choice.proofs.PlainPasses.{plain_in_text}

pub returns-clause-picks : goal.returns-clause-picks
returns-clause-picks g c = λ text level depth trace keys events fixed stands picks.
    let choice = g.W.World.choice fixed in
    let none = append-nil choice.events ∙ stands.before in (
      picks_in_text text level depth trace keys events choice stands [] [] events none_taken none picks,
      picks_in_choice text level depth trace keys events choice stands [] [] events none_taken none picks,
    )

pub returns-clause-settled : goal.returns-clause-settled
returns-clause-settled g c = λ text level depth trace keys events fixed stands picks.
    let choice = g.W.World.choice fixed in
    (settled_in_text text level depth trace keys events choice stands picks, settled_in_choice text level depth trace keys events choice stands picks)

pub returns-clause-plain : goal.returns-clause-plain
returns-clause-plain g c = λ text level depth trace keys events fixed stands prefer picks.
    plain_in_text text level depth trace keys events (g.W.World.choice fixed) stands prefer picks
