-- Of the offers of two alternatives that of the first alternative comes first.
use Rattle.std.proofs.Common.{ℕ, zero, suc, ◌≡◌, ◌≤◌, List, [], ◌∷◌, refl, sym, ap, subst, ◌∙◌, arith, inl, inr}
use Rattle.std.specs.Prelude.{Contains, codes}
use Rattle.std.specs.declared.cmp.Ordering.TheVariants.{Less, Equal, Greater}
use Rattle.lps_terms.specs.declared.atom.Atom.{Atom}
use Rattle.lps_terms.specs.declared.term.Term.{Term}
use Rattle.lps_terms.specs.Order.{atom_cmp}
use Rattle.lps_terms.specs.Put.{put_atom}
use Rattle.lps_model.specs.Trace.{events_at}
use Rattle.lps_model.specs.Rules.{denials}
use Rattle.lps_model.proofs.Elements.{nothing_contained}
use Rattle.lps_meaning.specs.Cycles.{joined}
use Rattle.lps_meaning.specs.Denials.{ViolatesNone}
use Rattle.lps_meaning.specs.Goals.{IsLive}
use Rattle.lps_meaning.specs.Plain.{Ranked, ranked_cmp, IsOffer}
use Rattle.lps_meaning.specs.Sequences.{Place, stop, start, done, rank}
use Rattle.lps_meaning.proofs.Lists.{number_contained}
use Rattle.lps_examples.specs.Examples.{event_e, action_a, action_c, other_text, other_key}
use Rattle.lps_examples.specs.Offers.{offered, offer_trace, OfferOrder, OfferExample}
use Rattle.lps_examples.proofs.Deadline.{in_time}
use Rattle.lps_examples.proofs.DueRules.{group_of_one}
use Rattle.lps_examples.proofs.ExampleWalks.{first_same, rest_same, other_letter, only_one, constants, constants_ground, small_atom, one_sorted}
use Rattle.lps_examples.proofs.OtherAlternative.{first_way, second_way, the_rule, entry_a, entry_limit, time_of, second_live, where_is}

no_a : (k : ℕ) (u : ℕ → Term) → Contains (events_at offer_trace k) (put_atom u action_a) → ⊥
no_a zero u h = nothing_contained _ h
no_a (suc zero) u h = other_letter event_e action_a 101 97 refl refl (λ e. omega (arith, e)) (only_one event_e action_a h)
no_a (suc (suc k)) u h = nothing_contained _ h

no_c : (k : ℕ) (u : ℕ → Term) → Contains (events_at offer_trace k) (put_atom u action_c) → ⊥
no_c zero u h = nothing_contained _ h
no_c (suc zero) u h = other_letter event_e action_c 101 99 refl refl (λ e. omega (arith, e)) (only_one event_e action_c h)
no_c (suc (suc k)) u h = nothing_contained _ h

pub offer_order : OfferOrder
offer_order = (refl, refl, refl)

module _ (level : List ℕ → ℕ) where
  first_live : IsLive other_text level offer_trace 100 other_key 1 (start other_text 1 first_way)
  first_live = record {
    plan = record {
      reaches = record {
        rule = the_rule;
        of_text = refl;
        alternative = 1;
        items = first_way;
        of_rule = refl;
        values = constants;
        times = λ env. time_of 1;
        ground = constants_ground;
        of_key = record { values = refl; times = refl };
        walk = stop;
      };
      within = tt;
      on = record {
        next = entry_a;
        rest = entry_limit ∷ [];
        is_next = refl;
        step = refl;
        ahead = omega arith;
        in_order = ((refl, omega arith), (tt, tt));
        limits = (tt, (in_time 1 (omega arith), tt));
        small = (
          record { other = constants; alike = record { start = refl; past = tt; links = tt }; small = small_atom (codes "a") },
          (record { other = constants; alike = record { start = refl; past = tt; links = tt }; small = tt }, tt),
        );
      };
    };
    no_call = refl;
  }

  -- no group is done
  none_done : (end : Place) → IsLive other_text level offer_trace 100 other_key 1 end → done end ≤ 0
  none_done end live = elim (where_is level offer_trace no_a no_c 1 end live.plan.reaches) [
    | inl first ↦ let none : done end ≡ 0 = ap done first.2 in omega (arith, none)
    | inr second ↦ let none : done end ≡ 0 = ap done second.1 in omega (arith, none)
  ]

  -- the text has no denials
  admitted : (events : List Atom) → ViolatesNone other_text level offer_trace events
  admitted events k h = nothing_contained h.0 (number_contained (denials other_text) k h.0 h.1)

  abbrev Offer : Ranked → Type 0
  Offer r = IsOffer other_text level 100 offer_trace (other_key ∷ []) other_key [] r

  offer_a : Offer (offered 1 [] action_a)
  unfolding first_live
  offer_a = record {
    proposal = record {
      end = start other_text 1 first_way;
      live = first_live;
      most = none_done;
      group_of = record { atom = action_a; from = record { 0 = 2 }; to = record { 0 = 3 }; item = refl; action = refl; begins = refl; sorted = one_sorted atom_cmp action_a; exact = λ a. ((λ h. h), (λ h. h)) };
    };
    alternative = refl;
    of_rank = refl;
    admissible = admitted (action_a ∷ []);
  }

  offer_c : Offer (offered 2 [] action_c)
  unfolding second_live
  offer_c = record {
    proposal = record {
      end = start other_text 1 second_way;
      live = second_live level offer_trace no_a no_c 1 (omega arith);
      most = none_done;
      group_of = record { atom = action_c; from = record { 0 = 2 }; to = record { 0 = 3 }; item = refl; action = refl; begins = refl; sorted = one_sorted atom_cmp action_c; exact = λ a. ((λ h. h), (λ h. h)) };
    };
    alternative = refl;
    of_rank = refl;
    admissible = admitted (action_c ∷ []);
  }

  -- an offer of the first alternative is the action a, and one of the second comes later
  not_before : (r : Ranked) → Offer r → ranked_cmp r (offered 1 [] action_a) ≡ Less → ⊥
  not_before r o less =
      let p = o.proposal in
      elim (where_is level offer_trace no_a no_c 1 p.end p.live.plan.reaches) [
        | inl first ↦
            let left = sym (ap (λ q. q.left) first.2) ∙ p.live.plan.on.is_next in
            let group = group_of_one p.group_of (codes "a") 2 3 (ap (λ e. e.item) (first_same left)) (ap (joined p.live.plan.reaches.values) (sym (rest_same left))) in
            let number : r.alternative ≡ 1 = sym o.alternative ∙ first.0 in
            let ranks : r.rank ≡ [] = sym o.of_rank ∙ ap rank first.2 in
            tie (subst (λ q. ranked_cmp q (offered 1 [] action_a) ≡ Less) (λ j. record { alternative = number j; rank = ranks j; group = group j }) less)
        | inr second ↦
            let number : r.alternative ≡ 2 = sym o.alternative ∙ second.0 in
            later (subst (λ q. ranked_cmp q (offered 1 [] action_a) ≡ Less) (λ j. record { alternative = number j; rank = r.rank; group = r.group }) less)
      ]
    where
      tie : Equal ≡ Less → ⊥
      tie e = cc

      later : Greater ≡ Less → ⊥
      later e = cc

pub offers : OfferExample
offers level = ((offer_a level, not_before level), offer_c level, (λ first. first.1 (offered 1 [] action_a) (offer_a level) refl))
