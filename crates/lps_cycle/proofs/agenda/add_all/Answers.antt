use Rattle.std.proofs.Common.{◌≡◌, ◌≤◌, ◌∙◌, [], ◌∷◌, ◌++◌, List, take, ap, sym, subst}
use Rattle.lps_choice.proofs.Lists.{take_one_more}
use Rattle.lps_facts.specs.Facts.{members}
use Rattle.lps_meaning.specs.declared.goal.GoalKey.{GoalKey}
use Rattle.lps_meaning.specs.declared.goal.NewGoal.{NewGoal}
use Rattle.lps_goaltrees.specs.Followed.{IsAdded, IsKeyOfGoal}
use Rattle.lps_goaltrees.proofs.Lists.{element_at}
use Rattle.lps_cycle.specs.Agenda.{AreAdded}
use Rattle.lps_cycle.proofs.Agendas.{one_added}
use Rattle.lps_cycle.proofs.agenda.add_all.Goals as goal

pub add-requires-clause-key : goal.add-requires-clause-key
add-requires-clause-key c =
    let key : GoalKey = c.key-item.result in
    subst (IsKeyOfGoal c.args.program.now) (sym c.in_ok-copy_key.ensures) (c.requires.keys key (element_at c.args.keys.now c.loop-key.key-index key c.loop-key-test.true c.key-item.is)).1

pub add-requires-clause-time : goal.add-requires-clause-time
add-requires-clause-time c =
    let key : GoalKey = c.key-item.result in
    subst (λ (k : GoalKey). k.time ≤ 1000000) (sym c.in_ok-copy_key.ensures) (c.requires.keys key (element_at c.args.keys.now c.loop-key.key-index key c.loop-key-test.true c.key-item.is)).0

pub loop-key-preserved : goal.loop-key-preserved
loop-key-preserved c =
    let key : GoalKey = c.key-item.result in
    let was = c.loop-key.invariant in
    let added = c.in_ok-goal.ensures in
    let old = c.args.goals.now.pursuit in
    let new = c.add.new.self.pursuit in
    let facts = members c.args.facts.now in
    let one = one_added c.args.program.now 100 facts (take c.loop-key.key-index c.args.keys.now) old c.loop-key.goals.pursuit new c.loop-key.created.items c.in_ok-goal.goal key
    was.adds added.number added.next (subst (λ k. IsAdded c.args.program.now 100 k facts c.loop-key.goals.pursuit new) c.in_ok-copy_key.ensures added.pursues) in
    let keys = take_one_more c.args.keys.now c.loop-key.key-index key c.loop-key-test.true c.key-item.is in
    let pushed : GoalKey → List NewGoal = λ k. c.loop-key.created.items ++ record { goal = c.in_ok-goal.goal; key = k } ∷ [] in
    let created : c.push.new.self.items ≡ pushed key = ◌∙◌ {A = List NewGoal} c.in_ok-push.ensures.items (ap pushed c.in_ok-copy_key-2.ensures) in
    record {
      same = added.same ∙ was.same;
      before = added.before ∙ was.before;
      unsettled = λ un. added.unsettled (was.unsettled un);
      ready = added.ready;
      adds = subst (λ ks. AreAdded c.args.program.now 100 facts ks old new c.push.new.self.items) (sym keys)
          (subst (λ (gs : List NewGoal). AreAdded c.args.program.now 100 facts (take c.loop-key.key-index c.args.keys.now ++ key ∷ []) old new gs) (sym created) one);
    }
