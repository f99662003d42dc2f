use Rattle.std.proofs.Common.{◌≡◌, ◌↔◌, ◌⊎◌, Contains, inl, inr, subst, sym}
use Rattle.std.specs.BTreeSet.{insert_key}
use Rattle.lps_seq.specs.Carries.{carry_cmp}
use Rattle.lps_seq.proofs.Adding.{among_more}
use Rattle.lps_seq.proofs.found.Found.add_ended.Goals as goal

pub returns : goal.returns
returns c = record {
  nodes = λ o. (
    λ h. inl h,
    λ h. elim h [
      | inl old ↦ old
      | inr e ↦ absurd e
    ],
  );
  once = λ h. h;
  ended = λ k.
      rw c.in_ok-insert.ensures.keys
      (subst (λ d. Contains (insert_key carry_cmp c.args.self.now.ended.keys d) k ↔ (Contains c.args.self.now.ended.keys k ⊎ (k ≡ c.args.carry))) (sym c.new.ensures) (among_more c.args.carry c.args.self.now.ended.keys k));
}
