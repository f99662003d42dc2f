use Rattle.std.proofs.Common.{refl, inl, inr}
use Rattle.lps_antecedents.proofs.buckets.put_at.Goals as goal

pub returns-in_err-insert-clause-others : goal.returns-in_err-insert-clause-others
returns-in_err-insert-clause-others c = λ other among. (c.in_err-insert.ensures.err other).1 among

pub returns-in_err-add_at-clause-others : goal.returns-in_err-add_at-clause-others
returns-in_err-add_at-clause-others c = λ other among. (c.in_ok-insert.ensures.added other).1 (inl among)

pub returns-in_err-open-clause-others : goal.returns-in_err-open-clause-others
returns-in_err-open-clause-others c = λ other among. (c.in_ok-insert.ensures.added other).1 (inl among)

pub returns-in_ok-add_at-clause-watched : goal.returns-in_ok-add_at-clause-watched
returns-in_ok-add_at-clause-watched c = (c.in_ok-insert.ensures.added c.args.wake).1 (inr refl)

pub returns-in_ok-add_at-clause-others : goal.returns-in_ok-add_at-clause-others
returns-in_ok-add_at-clause-others c = λ other among. (c.in_ok-insert.ensures.added other).1 (inl among)

pub returns-in_ok-open-clause-watched : goal.returns-in_ok-open-clause-watched
returns-in_ok-open-clause-watched c = (c.in_ok-insert.ensures.added c.args.wake).1 (inr refl)

pub returns-in_ok-open-clause-others : goal.returns-in_ok-open-clause-others
returns-in_ok-open-clause-others c = λ other among. (c.in_ok-insert.ensures.added other).1 (inl among)
