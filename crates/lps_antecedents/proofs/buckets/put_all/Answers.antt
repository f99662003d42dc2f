use Rattle.std.proofs.Common.{rules, ◌≡◌, ◌∙◌, ◌∷◌, List, length, subst, sym, refl, arith, inl, inr}
use Rattle.std.specs.Prelude.{◌⊎◌, ◌↔◌, Contains}
use Rattle.lps_model.proofs.Elements.{first_is_contained, later_is_contained}
use Rattle.lps_antecedents.specs.declared.held.Held.{Held}
use Rattle.lps_antecedents.specs.Buckets.{slots_of, waiting}
use Rattle.lps_antecedents.proofs.Gaining.{all_had, more_had}
use Rattle.lps_antecedents.proofs.Middles.{cases_first, is_first}
use Rattle.lps_antecedents.proofs.buckets.put_all.Goals as goal

pub loop-held-init : goal.loop-held-init
loop-held-init c =
    let same : c.into_iter-held-iterator.result.rest.items ≡ c.args.all.items = search rules in
    record {
      waits = λ x. (
        λ sides. elim sides [ inl there ↦ inl there | inr left ↦ inr (subst (λ (hs : List Held). Contains hs x) same left) ],
        λ sides. elim sides [ inl there ↦ inl there | inr among ↦ inr (subst (λ (hs : List Held). Contains hs x) (sym same) among) ],
      );
      waited = refl;
      ready = λ h left. c.requires.ready h (subst (λ (hs : List Held). Contains hs h) same left);
      sound = c.requires.sound;
      kept = c.requires.kept;
    }

pub put-requires-clause-ready : goal.put-requires-clause-ready
put-requires-clause-ready c =
    c.loop-held.invariant.ready c.in-Some.held (subst (λ (hs : List Held). Contains hs c.in-Some.held) (sym c.in-Some.ensures.steps.0) (first_is_contained c.in-Some.held c.next.new.self.rest.items))

pub loop-held-preserved : goal.loop-held-preserved
loop-held-preserved c =
    let held : Held = c.in-Some.held in
    let rest : List Held = c.next.new.self.rest.items in
    let next : c.loop-held.held-iterator.rest.items ≡ held ∷ rest = c.in-Some.ensures.steps.0 in
    let old = slots_of c.args.buckets.now.by_wake in
    record {
      waits = more_had (Contains (waiting (slots_of c.loop-held.buckets.by_wake))) (Contains (waiting (slots_of c.put.new.self.by_wake))) (λ h. h ≡ held) (Contains c.loop-held.held-iterator.rest.items) (Contains rest)
          (λ x. Contains (waiting old) x ⊎ Contains c.args.all.items x) c.in_ok-put.ensures.waits
          (λ x. subst (λ (hs : List Held). Contains hs x ↔ ((x ≡ held) ⊎ Contains rest x)) (sym next)
          (λ there. cases_first held rest x there, λ sides. elim sides [ inl e ↦ is_first x held rest e | inr later ↦ later_is_contained held rest x later ])) c.loop-held.invariant.waits;
      waited = c.in_ok-put.ensures.waited ∙ c.loop-held.invariant.waited;
      ready = λ h left. c.loop-held.invariant.ready h (subst (λ (hs : List Held). Contains hs h) (sym next) (later_is_contained held rest h left));
      sound = c.in_ok-put.ensures.sound;
      kept = c.in_ok-put.ensures.kept;
    }

pub returns-clause-waits : goal.returns-clause-waits
returns-clause-waits c =
    let none : length c.loop-held.held-iterator.rest.items ≡ 0 = search rules in
    all_had (Contains (waiting (slots_of c.loop-held.buckets.by_wake))) (Contains c.loop-held.held-iterator.rest.items)
    (λ x. Contains (waiting (slots_of c.args.buckets.now.by_wake)) x ⊎ Contains c.args.all.items x) (λ x left. let lt = left.1 in omega (arith, none, lt)) c.loop-held.invariant.waits
