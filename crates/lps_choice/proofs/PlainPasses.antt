-- Passes over the pending goals of a choice that stands for a cycle are passes over all goals.
use Rattle.std.proofs.Common.{◌≡◌, ℕ, ◌<◌, Bool, true, false, List, [], ◌∷◌, ◌++◌, length, cond, refl, sym, ap, subst, ◌∙◌, arith, inl, inr, append_assoc}
use Rattle.std.specs.Prelude.{Contains}
use Rattle.std.specs.List.{filter, flat_map}
use Rattle.std.proofs.lemmas.Grind.{flat_map-append}
use Rattle.std.proofs.lemmas.List.{append-nil}
use Rattle.std.proofs.lemmas.List.Elements.{Contains-append_left, Contains-append_right, Contains-append_cases}
use Rattle.lps_terms.specs.declared.atom.Atom.{Atom}
use Rattle.lps_terms.specs.declared.prefer.Prefer.{Prefer}
use Rattle.lps_terms.specs.declared.text.Text.{Text}
use Rattle.lps_model.specs.declared.cycle.Group.{Group}
use Rattle.lps_model.specs.declared.cycle.Pick.{Pick}
use Rattle.lps_model.specs.declared.trace.Trace.{Trace}
use Rattle.lps_meaning.specs.declared.goal.GoalKey.{GoalKey}
use Rattle.lps_meaning.specs.Plain.{order_of, IsPassedOver as IsPassedOverIn, Pass as PassIn, AllPasses as AllPassesIn, last as last_in, more as more_in}
use Rattle.lps_choice.specs.Choices.{Choice, IsPassedOver, events_with, goals_of, pick_of}
use Rattle.lps_choice.specs.Passes.{IsGiven, Pass, AllPasses, last, more, ArePlain}
use Rattle.lps_choice.specs.Standing.{IsChoiceOf}
use Rattle.lps_choice.proofs.Carried.{AreTaken, events_more, group_of, none_taken, ranked_in_choice, refused_in_text, taken_with}
use Rattle.lps_choice.proofs.Ends.{is_among, is_among_of, among_is, goals_joined}
use Rattle.lps_choice.proofs.Firsts.{first_is_offer}
use Rattle.lps_choice.proofs.Lists.{moved, nothing_added}
use Rattle.lps_choice.proofs.Numbers.{has_number, order_filtered}

taken_joined : (made picks : List Pick) (taken : List ℕ) → AreTaken made taken → AreTaken (made ++ picks) (goals_of picks ++ taken)
taken_joined made picks taken same = record {
  within = λ n among. subst (λ ns. Contains ns n) (sym (goals_joined made picks))
      (elim (Contains-append_cases (goals_of picks) taken n among) [
        | inl now ↦ Contains-append_right (goals_of made) (goals_of picks) n now
        | inr before ↦ Contains-append_left (goals_of made) (goals_of picks) n (same.within n before)
      ]);
  all = λ n among. elim (Contains-append_cases (goals_of made) (goals_of picks) n (subst (λ ns. Contains ns n) (goals_joined made picks) among)) [
    | inl before ↦ Contains-append_right (goals_of picks) taken n (same.all n before)
    | inr now ↦ Contains-append_left (goals_of picks) taken n now
  ];
}

events_joined : (choice : Choice) (made picks : List Pick) (events : List Atom) → events_with choice made ≡ events →
    events_with choice (made ++ picks) ≡ events ++ flat_map (λ pick. pick.group.atoms) picks
events_joined choice made picks events so_far =
    ap (λ es. choice.events ++ es) (flat_map-append (λ (p : Pick). p.group.atoms) made picks)
    ∙ sym (append_assoc choice.events (flat_map (λ (p : Pick). p.group.atoms) made) (flat_map (λ (p : Pick). p.group.atoms) picks))
    ∙ ap (λ es. es ++ flat_map (λ (p : Pick). p.group.atoms) picks) so_far

module _ (text : Text) (level : List ℕ → ℕ) (depth : ℕ) (trace : Trace) (keys : List GoalKey) (before : List Atom) (choice : Choice)
    (stands : IsChoiceOf text level depth trace keys before choice) where
  -- what a pass over these numbers makes after some picks, in the words of the text
  record PassesTo (numbers : List ℕ) (made all : List Pick) (taken : List ℕ) (events : List Atom) : Type 0 where
    picks : List Pick
    whole : all ≡ made ++ picks
    pass : PassIn text level depth trace keys numbers taken events picks

  passed_over_in_text : (n : ℕ) (made : List Pick) (taken : List ℕ) (events : List Atom) → AreTaken made taken → events_with choice made ≡ events → IsPassedOver choice made n →
      IsPassedOverIn text level depth trace keys n taken events
  passed_over_in_text n made taken events same so_far (inl picked) = inl (same.all n picked)
  passed_over_in_text n made taken events same so_far (inr refused) = inr (λ key r pending offer.
      let proposed = ranked_in_choice text level depth trace keys before choice stands key (choice.proposals n) (stands.proposals n key pending) r
      (record { proposal = offer.proposal; alternative = offer.alternative; of_rank = offer.of_rank }) in
      let violated = refused_in_text text level depth trace keys before choice stands made events (group_of r) so_far (refused (group_of r) proposed) in
      offer.admissible violated.0 violated.1)

  abbrev PassesOn : List ℕ → List Pick → Type 0
  PassesOn numbers all = (made : List Pick) (taken : List ℕ) (events : List Atom) → AreTaken made taken → events_with choice made ≡ events →
      Pass choice (filter (is_among choice.goals) numbers) made all → PassesTo numbers made all taken events

  given_in_text : (n : ℕ) (numbers : List ℕ) (made all : List Pick) (taken : List ℕ) (events : List Atom) → AreTaken made taken → events_with choice made ≡ events → PassesOn numbers all →
      Contains choice.goals n → (group : Group) → IsGiven choice made n group → Pass choice (filter (is_among choice.goals) numbers) (made ++ pick_of n group ∷ []) all →
      PassesTo (n ∷ numbers) made all taken events
  given_in_text n numbers made all taken events same so_far on among group given pass =
      let pending = (stands.pending n).0 among in
      let first = first_is_offer text level depth trace keys before choice stands made events pending.0 (choice.proposals n) group so_far (stands.proposals n pending.0 pending.1) given.first in
      let pick = pick_of n (group_of first.0) in
      let rest = on (made ++ pick ∷ []) (n ∷ taken) (events ++ first.0.group) (taken_with made taken pick same) (events_more choice made pick events so_far)
      (subst (λ (h : Group). Pass choice (filter (is_among choice.goals) numbers) (made ++ pick_of n h ∷ []) all) first.1 pass) in
      record {
        picks = pick ∷ rest.picks;
        whole = rest.whole ∙ moved made pick rest.picks;
        pass = inr (first.0, rest.picks, record { free = λ is. given.free (same.within n is); key = pending.0; pending = pending.1; first = first.2 }, refl, rest.pass);
      }

  number_in_text : (n : ℕ) (numbers : List ℕ) (made all : List Pick) (taken : List ℕ) (events : List Atom) → AreTaken made taken → events_with choice made ≡ events → PassesOn numbers all →
      (is : Bool) → is_among choice.goals n ≡ is → Pass choice (cond is (n ∷ filter (is_among choice.goals) numbers) (filter (is_among choice.goals) numbers)) made all →
      PassesTo (n ∷ numbers) made all taken events
  number_in_text n numbers made all taken events same so_far on true e (inl h) =
      let rest = on made taken events same so_far h.1 in
      record { picks = rest.picks; whole = rest.whole; pass = inl (passed_over_in_text n made taken events same so_far h.0, rest.pass) }
  number_in_text n numbers made all taken events same so_far on true e (inr h) = given_in_text n numbers made all taken events same so_far on (among_is choice.goals n e) h.0 h.1 h.2
  number_in_text n numbers made all taken events same so_far on false e h =
      let rest = on made taken events same so_far h in
      record {
        picks = rest.picks;
        whole = rest.whole;
        pass = inl (inr (λ key r pending offer. let is = is_among_of choice.goals n ((stands.pending n).1 (key, pending)) in absurd cc), rest.pass);
      }

  -- a pass over those of some numbers that are pending is one over all of them
  pass_in_text : (numbers : List ℕ) (all : List Pick) → PassesOn numbers all
  pass_in_text [] all made taken events same so_far h = record { picks = []; whole = h ∙ sym (append-nil made); pass = refl }
  pass_in_text (n ∷ numbers) all made taken events same so_far h =
      number_in_text n numbers made all taken events same so_far (pass_in_text numbers all) (is_among choice.goals n) refl h

  -- what all passes make after some picks, in the words of the text
  record AllPassTo (numbers : List ℕ) (made all : List Pick) (taken : List ℕ) (events : List Atom) : Type 0 where
    picks : List Pick
    whole : all ≡ made ++ picks
    passes : AllPassesIn text level depth trace keys numbers taken events picks

  last_in_text : (numbers : List ℕ) (made all : List Pick) (taken : List ℕ) (events : List Atom) → PassesTo numbers made made taken events → all ≡ made → AllPassTo numbers made all taken events
  last_in_text numbers made all taken events to same = record {
    picks = [];
    whole = same ∙ sym (append-nil made);
    passes = last_in (subst (PassIn text level depth trace keys numbers taken events) (nothing_added made to.picks to.whole) to.pass) refl;
  }

  more_in_text : (numbers : List ℕ) (made next all : List Pick) (taken : List ℕ) (events : List Atom) → AreTaken made taken → events_with choice made ≡ events → (picks : List Pick) →
      next ≡ made ++ picks → PassIn text level depth trace keys numbers taken events picks → length made < length next →
      ((taken : List ℕ) (events : List Atom) → AreTaken next taken → events_with choice next ≡ events → AllPassTo numbers next all taken events) → AllPassTo numbers made all taken events
  more_in_text numbers made next all taken events same so_far [] whole pass longer on = absurd (omega (arith, longer, ap length (whole ∙ append-nil made)))
  more_in_text numbers made next all taken events same so_far (pick ∷ picks) whole pass longer on =
      let rest = on (goals_of (pick ∷ picks) ++ taken) (events ++ flat_map (λ (p : Pick). p.group.atoms) (pick ∷ picks))
      (subst (λ m. AreTaken m (goals_of (pick ∷ picks) ++ taken)) (sym whole) (taken_joined made (pick ∷ picks) taken same))
      (ap (events_with choice) whole ∙ events_joined choice made (pick ∷ picks) events so_far) in
      record {
        picks = (pick ∷ picks) ++ rest.picks;
        whole = rest.whole ∙ ap (λ m. m ++ rest.picks) whole ∙ append_assoc made (pick ∷ picks) rest.picks;
        passes = more_in pick picks rest.picks pass rest.passes refl;
      }

  all_in_text : (numbers : List ℕ) {made all : List Pick} (taken : List ℕ) (events : List Atom) → AreTaken made taken → events_with choice made ≡ events →
      AllPasses choice (filter (is_among choice.goals) numbers) made all → AllPassTo numbers made all taken events
  all_in_text numbers {made} {all} taken events same so_far (last pass is) = last_in_text numbers made all taken events (pass_in_text numbers made made taken events same so_far pass) is
  all_in_text numbers {made} {all} taken events same so_far (more next pass longer rest) =
      let to = pass_in_text numbers next made taken events same so_far pass in
      more_in_text numbers made next all taken events same so_far to.picks to.whole to.pass longer (λ taken' events' same' so_far'. all_in_text numbers taken' events' same' so_far' rest)

  -- picks of the plain chooser are plain
  pub plain_in_text : (prefer : Prefer) (picks : List Pick) → ArePlain choice prefer [] picks → AllPassesIn text level depth trace keys (order_of prefer (length keys)) [] before picks
  plain_in_text prefer picks plain =
      let filtered = order_filtered prefer choice.goals (length keys) stands.rising (λ n among. let pending = (stands.pending n).0 among in has_number keys n pending.0 pending.1.0) in
      let to = all_in_text (order_of prefer (length keys)) [] before none_taken (append-nil choice.events ∙ stands.before) (subst (λ order. AllPasses choice order [] picks) filtered plain) in
      subst (AllPassesIn text level depth trace keys (order_of prefer (length keys)) [] before) (sym to.whole) to.passes
