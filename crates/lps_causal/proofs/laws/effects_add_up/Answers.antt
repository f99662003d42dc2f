use Rattle.std.specs.Prelude.{Contains}
use Rattle.std.proofs.Common.{inl, inr}
use Rattle.lps_causal.proofs.Merging.{after_more, begun_more, caused_before, caused_either, caused_more}
use Rattle.lps_causal.proofs.laws.effects_add_up.Goals as goal

pub returns-clause-causes : goal.returns-clause-causes
returns-clause-causes c = λ text level initiates facts events more fluent. (
  caused_either text level initiates (Contains facts) events more fluent,
  λ h. elim h [
    | inl old ↦ caused_before text level initiates (Contains facts) events more fluent old
    | inr new ↦ caused_more text level initiates (Contains facts) events more fluent new
  ],
)

pub returns-clause-begun : goal.returns-clause-begun
returns-clause-begun c = λ text level facts events more effects begun are begun_are. begun_more text level facts events more effects are begun begun_are

pub returns-clause-after : goal.returns-clause-after
returns-clause-after c = λ text level facts events more effects made begun after are begun_are same gone is.
    after_more text level facts events more effects are begun begun_are made same gone after is
