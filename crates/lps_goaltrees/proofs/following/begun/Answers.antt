use Rattle.std.proofs.Common.{ℕ, suc, ◌≡◌, ◌≤◌, ◌<◌, ◌+◌, ◌∙◌, length, refl, sym, subst, arith}
use Rattle.lps_facts.specs.Facts.{members}
use Rattle.std.specs.Prelude.{Some}
use Rattle.lps_model.specs.Rules.{numbered, rules}
use Rattle.lps_meaning.specs.declared.node.Node.{Node}
use Rattle.lps_goaltrees.specs.Found.{EndsAtOnce, Grows, GrowsByEntering, HasAlternative, IsEnteredNode}
use Rattle.lps_goaltrees.proofs.Growing.{below_next, grows_as, grows_then}
use Rattle.lps_goaltrees.proofs.Kept.{has_alternative, is_begun}
use Rattle.lps_goaltrees.proofs.following.begun.Goals as goal

next_number : (k : ℕ) → suc k ≡ k + 1
next_number k = omega arith

below : (k count all : ℕ) → k < count → count ≡ all → k < all
below k count all lt is = omega (arith, is)

pub enter_alternative-requires-clause-number : goal.enter_alternative-requires-clause-number
enter_alternative-requires-clause-number c =
    let key = c.requires.key in
    let k : ℕ = c.loop-before.before in
    let of_text = subst (λ t. numbered (rules t) c.args.key.rule ≡ Some key.rule) (sym (c.text-2.ensures.same ∙ c.text.ensures)) key.of_text in
    subst (HasAlternative c.args.program.now c.args.key) (next_number k)
    (has_alternative c.args.program.now c.args.key key.rule key.of_text k (below k c.in_ok-before-end.before-end (length key.rule.alternatives) c.loop-before-test.true (c.in_ok-before-end.ensures key.rule of_text)))

pub loop-before-preserved : goal.loop-before-preserved
loop-before-preserved c =
    let k : ℕ = c.loop-before.before in
    let done = c.in_ok-enter_alternative.ensures in
    record {
      same = done.same ∙ c.loop-before.invariant.same;
      ready = done.ready;
      grows = λ level levels trace state.
          let entered = IsEnteredNode c.args.program.now level trace c.args.depth c.args.key in
          let ends = EndsAtOnce c.args.program.now level trace c.args.depth c.args.key in
          let one = subst (λ n. GrowsByEntering c.args.program.now c.args.depth c.args.key n (members c.args.facts.now) c.loop-before.found c.enter_alternative.new.found) (sym (next_number k)) done.grows in
          grows_as (λ (node : Node). below_next (λ n. entered (suc n) node) k) (below_next (λ n. ends (suc n)) k)
          (grows_then (c.loop-before.invariant.grows level levels trace state) (one level levels trace state));
    }

same_count : (k count : ℕ) → k ≤ count → count ≤ k → k ≡ count
same_count k count low high = omega arith

pub returns-clause-begun : goal.returns-clause-begun
returns-clause-begun c = λ level levels trace state.
    let key = c.requires.key in
    let of_text = subst (λ t. numbered (rules t) c.args.key.rule ≡ Some key.rule) (sym (c.text-2.ensures.same ∙ c.text.ensures)) key.of_text in
    let count : ℕ = c.in_ok-before-end.before-end in
    let whole : c.loop-before.before ≡ count = same_count c.loop-before.before count c.loop-before.auto.before-end c.loop-before-test.false in
    is_begun c.args.program.now level trace c.args.depth (record { goal = c.args.goal; key = c.args.key; nodes = c.from_vec.result; wakes = c.in_ok-wakes.wakes; solved = c.loop-before.found.solved }) key.rule key.of_text count
    (c.in_ok-before-end.ensures key.rule of_text) c.new-found.result c.loop-before.found c.new-found.ensures.nodes c.new-found.ensures.solved c.from_vec.ensures refl
    (subst (λ n. Grows c.new-found.result c.loop-before.found (λ node. (k : ℕ) × (k < n) × IsEnteredNode c.args.program.now level trace c.args.depth c.args.key (suc k) node)
    ((k : ℕ) × (k < n) × EndsAtOnce c.args.program.now level trace c.args.depth c.args.key (suc k))) whole (c.loop-before.invariant.grows level levels trace state))
