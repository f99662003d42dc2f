use Rattle.std.proofs.lemmas.Result.{on_ok_weaker}
use Rattle.lps_goaltrees.proofs.Growing.{grows_by}
use Rattle.lps_goaltrees.proofs.found.Found.add.Goals as goal

pub returns : goal.returns
returns c = on_ok_weaker c.add_nodes.result
    (λ adds. grows_by c.args.self.now (record { nodes = c.add_nodes.new.found; solved = c.is_solved-self.result }) c.args.stepped.nodes.items c.args.stepped.ended.items c.as_slice.result.now
    c.as_slice.ensures.value adds c.is_solved-self.ensures.yes c.is_solved-self.ensures.no)
    c.add_nodes.ensures
