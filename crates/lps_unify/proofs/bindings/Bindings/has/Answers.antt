use Rattle.std.proofs.Common.{◌↔◌, IsTrue, ℕ, subst}
use Rattle.lps_unify.specs.Weights.{IsWithin}
use Rattle.lps_unify.proofs.bindings.Bindings.has.Goals as goal

pub returns : goal.returns
returns c = subst (λ (n : ℕ). IsTrue c.is_within.result ↔ IsWithin n c.args.term.now) c.count.ensures c.is_within.ensures
