use Rattle.std.proofs.Common.{◌∙◌, List, ap, sym}
use Rattle.std.specs.Option.{option_copied}
use Rattle.lps_meaning.specs.declared.node.Node.{Node}
use Rattle.lps_nodes.specs.Nodes.{goal_size}
use Rattle.lps_sizes.specs.Sizes.{limited}
use Rattle.lps_goaltrees.specs.Slots.{size_of}
use Rattle.lps_goaltrees.proofs.symbols.symbols_now.Goals as goal

pub returns-in-Some : goal.returns-in-Some
returns-in-Some c =
    c.goal_symbols.ensures ∙ ap (λ (ns : List Node). limited (goal_size c.in-Some.goal.now.key ns)) c.as_slice.ensures
    ∙ ap (λ g. limited (size_of g)) (sym (ap option_copied c.in-Some.is) ∙ c.get.ensures)

pub returns-in-None : goal.returns-in-None
returns-in-None c = ap (λ g. limited (size_of g)) (sym (ap option_copied c.in-None.is) ∙ c.get.ensures)
