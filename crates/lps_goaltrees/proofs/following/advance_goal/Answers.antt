use Rattle.std.proofs.Common.{ℕ, ◌≡◌, ◌∙◌, List, take, refl, sym, subst}
use Rattle.std.specs.Prelude.{Contains}
use Rattle.lps_meaning.specs.declared.node.Node.{Node}
use Rattle.lps_goaltrees.specs.declared.goal.Goal.{Goal}
use Rattle.lps_goaltrees.specs.Followed.{IsFollowed}
use Rattle.lps_goaltrees.specs.Found.{EndsNext, Grows, IsNextNode}
use Rattle.lps_goaltrees.proofs.Growing.{among_next, grows_as, grows_then}
use Rattle.lps_goaltrees.proofs.Kept.{is_advanced}
use Rattle.lps_goaltrees.proofs.Lists.{all_taken, element_at}
use Rattle.lps_goaltrees.proofs.following.advance_goal.Goals as goal

pub loop-node-preserved : goal.loop-node-preserved
loop-node-preserved c =
    let nodes : List Node = c.as_slice-node-items.result.now in
    let i : ℕ = c.loop-node.node-index in
    let node : Node = c.node-item.result in
    let there : Contains c.args.goal.now.nodes node = subst (λ ns. Contains ns node) c.as_slice-node-items.ensures (element_at nodes i node c.loop-node-test.true c.node-item.is) in
    let done = c.in_ok-advance_node.ensures in
    record {
      same = done.same ∙ c.loop-node.invariant.same;
      ready = done.ready;
      grows = λ level levels trace state happened key now is after all.
          let goes = IsNextNode c.args.program.now level trace c.args.depth key now in
          let ends = EndsNext c.args.program.now level trace c.args.depth key now in
          grows_as (λ (o : Node). among_next (λ (n : Node). goes n o) nodes i node c.loop-node-test.true c.node-item.is) (among_next ends nodes i node c.loop-node-test.true c.node-item.is)
          (grows_then (c.loop-node.invariant.grows level levels trace state happened key now is after all) (done.grows level levels trace state happened key now is after (all node there)));
    }

pub returns-clause-advanced : goal.returns-clause-advanced
returns-clause-advanced c =
    let goal : Goal = c.args.goal.now in
    let next : Goal = record { goal = goal.goal; key = c.in_ok-copy_key.field-0; nodes = c.from_vec.result; wakes = c.in_ok-wakes.wakes; solved = c.loop-node.found.solved } in
    let whole : take c.loop-node.node-index c.as_slice-node-items.result.now ≡ goal.nodes = all_taken c.as_slice-node-items.result.now c.loop-node.node-index c.loop-node-test.false ∙ c.as_slice-node-items.ensures in
    record {
      number = refl;
      key = c.in_ok-copy_key.ensures;
      followed = λ level levels trace state happened now is after was.
          subst (λ time. IsFollowed c.args.program.now level trace c.args.depth time next) (sym is)
          (is_advanced c.args.program.now level trace c.args.depth c.lawful.ensures.accepted c.lawful.ensures.formed now goal next after was c.in_ok-copy_key.ensures c.new-found.result c.loop-node.found
          c.new-found.ensures.nodes c.new-found.ensures.solved c.from_vec.ensures refl
          (subst (λ (nodes : List Node). Grows c.new-found.result c.loop-node.found (λ other. (node : Node) × Contains nodes node × IsNextNode c.args.program.now level trace c.args.depth goal.key now node other)
          ((node : Node) × Contains nodes node × EndsNext c.args.program.now level trace c.args.depth goal.key now node)) whole
          (c.loop-node.invariant.grows level levels trace state happened goal.key now is after (λ node there. (was.nodes.exact node).0 there))));
    }
