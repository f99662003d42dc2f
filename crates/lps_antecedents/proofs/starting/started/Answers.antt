use Rattle.std.proofs.Common.{◌≡◌, ◌∙◌, ◌+◌, ◌<◌, ◌≤◌, length, refl, subst, sym, ap, arith, inl, inr}
use Rattle.std.specs.Prelude.{Contains}
use Rattle.lps_model.proofs.Elements.{nothing_contained}
use Rattle.lps_terms.specs.declared.text.Text.{Text}
use Rattle.lps_model.specs.Rules.{rules}
use Rattle.lps_facts.specs.Facts.{members}
use Rattle.lps_residual.specs.Moments.{IsReady}
use Rattle.lps_meaning.specs.Goals.{IsGoal}
use Rattle.lps_meaning.proofs.Lists.{of_element}
use Rattle.lps_nodes.specs.Plans.{IsWaiting}
use Rattle.lps_antecedents.specs.declared.held.Held.{Held}
use Rattle.lps_antecedents.specs.Gathered.{IsGatheredAtFirst, IsKeyOf, IsLeftFor}
use Rattle.lps_antecedents.proofs.Lists.{exactly_more, exactly_none}
use Rattle.lps_antecedents.proofs.Entering.{is_start, keys_more, none_first, waits_more}
use Rattle.lps_antecedents.proofs.starting.started.Goals as goal

pub loop-before-init : goal.loop-before-init
loop-before-init c = record {
  same = refl;
  ready = λ h there. absurd (nothing_contained h (subst (λ hs. Contains hs h) c.new-gathered.ensures.held there));
  gathered = λ level levels trace state. (
    exactly_none c.new-gathered.result.held.items (λ h. (h.rule ≤ 0) × IsWaiting c.args.program.now level trace 0 h.rule h.node) c.new-gathered.ensures.held
        (λ h waits. none_first c.args.program.now h.rule waits.1.rule waits.0 waits.1.of_text),
    exactly_none c.new-gathered.result.keys.keys (λ key. (key.rule ≤ 0) × (key.time ≡ 0) × IsGoal c.args.program.now level trace key) c.new-gathered.ensures.keys
        (λ key goes. none_first c.args.program.now key.rule goes.2.rule goes.0 goes.2.of_text),
  );
}

pub enter-requires-clause-start : goal.enter-requires-clause-start
enter-requires-clause-start c =
    let all : c.in_ok-count.count ≡ length (rules c.args.program.now) = c.in_ok-count.ensures ∙ ap (λ (t : Text). length (rules t)) (c.text-2.ensures.same ∙ c.text.ensures) in
    is_start c.args.program.now c.lawful.ensures.accepted c.loop-before.before (omega (arith, all))

pub loop-before-preserved : goal.loop-before-preserved
loop-before-preserved c =
    let all : c.in_ok-count.count ≡ length (rules c.args.program.now) = c.in_ok-count.ensures ∙ ap (λ (t : Text). length (rules t)) (c.text-2.ensures.same ∙ c.text.ensures) in
    let within : c.loop-before.before < length (rules c.args.program.now) = omega (arith, all) in
    let next = c.loop-before.before + 1 in
    let added = c.in_ok-add.ensures in
    record {
      same = c.in_ok-stepped.ensures.same ∙ c.loop-before.invariant.same;
      ready = λ h there. elim ((added.held h).0 there) [
        | inl lay ↦ c.loop-before.invariant.ready h lay
        | inr left ↦ subst (IsReady c.args.program.now) (sym (ap (λ (x : Held). x.node) left.2)) (of_element (IsReady c.args.program.now) c.in_ok-stepped.stepped.nodes.items left.0 c.in_ok-stepped.ensures.nodes left.1)
      ];
      gathered = λ level levels trace state.
          let so_far = c.loop-before.invariant.gathered level levels trace state in (
            exactly_more c.loop-before.gathered.held.items c.add.new.self.held.items (λ h. (h.rule ≤ c.loop-before.before) × IsWaiting c.args.program.now level trace 0 h.rule h.node) (IsLeftFor next c.in_ok-stepped.stepped.nodes.items)
                (λ h. (h.rule ≤ next) × IsWaiting c.args.program.now level trace 0 h.rule h.node) so_far.0 added.held
                (waits_more c.args.program.now c.lawful.ensures.accepted c.progress_law.ensures.waiting_nodes c.progress_law.ensures.key_ends level levels trace (members c.args.facts.now) state c.loop-before.before within c.in_ok-stepped.stepped c.in_ok-stepped.ensures.entry),
            exactly_more c.loop-before.gathered.keys.keys c.add.new.self.keys.keys (λ key. (key.rule ≤ c.loop-before.before) × (key.time ≡ 0) × IsGoal c.args.program.now level trace key) (IsKeyOf next 0 c.in_ok-stepped.stepped.ended.items)
                (λ key. (key.rule ≤ next) × (key.time ≡ 0) × IsGoal c.args.program.now level trace key) so_far.1 added.keys
                (keys_more c.args.program.now c.lawful.ensures.accepted c.progress_law.ensures.waiting_nodes c.progress_law.ensures.key_ends level levels trace (members c.args.facts.now) state c.loop-before.before within c.in_ok-stepped.stepped c.in_ok-stepped.ensures.entry),
          );
    }

pub returns-clause-gathered : goal.returns-clause-gathered
returns-clause-gathered c =
    let all : c.in_ok-count.count ≡ length (rules c.args.program.now) = c.in_ok-count.ensures ∙ ap (λ (t : Text). length (rules t)) (c.text-2.ensures.same ∙ c.text.ensures) in
    let done : c.loop-before.before ≡ length (rules c.args.program.now) = omega (arith, all) in
    subst (λ n. IsGatheredAtFirst c.args.program.now (members c.args.facts.now) n c.loop-before.gathered) done c.loop-before.invariant.gathered
