use Rattle.std.proofs.Common.{◌↔◌, Contains, inl, inr, IsTrue, subst}
use Rattle.lps_seq.proofs.Adding.{among_old, among_pushed, is_not, is_so, once_more}
use Rattle.lps_seq.proofs.found.Found.add_node.Goals as goal

pub returns-in_ok-push : goal.returns-in_ok-push
returns-in_ok-push c = record {
  nodes = λ o. rw c.in_ok-push.ensures.items (among_pushed c.args.self.now.nodes.items c.args.node o);
  once = λ once. rw c.in_ok-push.ensures.items (once_more c.args.self.now.nodes.items c.args.node (is_not c.has.result c.if-not-has.true (subst (λ nodes. IsTrue c.has.result ↔ Contains nodes c.args.node) c.as_slice.ensures.value c.has.ensures)) once);
  ended = λ k. (
    λ h. inl h,
    λ h. elim h [
      | inl old ↦ old
      | inr e ↦ absurd e
    ],
  );
}

pub returns-else-not-has : goal.returns-else-not-has
returns-else-not-has c = record {
  nodes = λ o. among_old c.args.self.now.nodes.items c.args.node o (is_so c.has.result c.if-not-has.false (subst (λ nodes. IsTrue c.has.result ↔ Contains nodes c.args.node) c.as_slice.ensures.value c.has.ensures));
  once = λ once. once;
  ended = λ k. (
    λ h. inl h,
    λ h. elim h [
      | inl old ↦ old
      | inr e ↦ absurd e
    ],
  );
}
