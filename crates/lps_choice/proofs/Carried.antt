-- What is chosen in a choice that stands for a cycle is what the cycle's definition says.
use Rattle.std.proofs.Common.{◌≡◌, ℕ, List, [], ◌∷◌, ◌++◌, map, refl, sym, ap, subst, ◌∙◌, inl, inr, append_assoc}
use Rattle.std.specs.Prelude.{Contains}
use Rattle.std.specs.List.{flat_map}
use Rattle.std.proofs.lemmas.Grind.{flat_map-append}
use Rattle.std.proofs.lemmas.List.{append-nil}
use Rattle.std.proofs.lemmas.List.Elements.{Contains-append_left, Contains-append_right, Contains-append_cases}
use Rattle.lps_terms.specs.declared.atom.Atom.{Atom}
use Rattle.lps_terms.specs.declared.text.Text.{Text}
use Rattle.lps_model.specs.declared.cycle.Group.{Group}
use Rattle.lps_model.specs.declared.cycle.Pick.{Pick}
use Rattle.lps_model.specs.declared.trace.Trace.{Trace}
use Rattle.lps_model.proofs.Elements.{first_or_later, first_is_contained, later_is_contained, nothing_contained}
use Rattle.lps_meaning.specs.declared.goal.GoalKey.{GoalKey}
use Rattle.lps_meaning.specs.Cycles.{IsProposal, ArePicks as ArePicksOf}
use Rattle.lps_meaning.specs.Denials.{ViolatesNone, ViolatesNumber}
use Rattle.lps_meaning.specs.Plain.{Ranked}
use Rattle.lps_meaning.specs.Sequences.{rank}
use Rattle.lps_choice.specs.Choices.{Choice, Admits, Refuses, ArePicks, IsSettled, events_with, goals_of}
use Rattle.lps_choice.specs.Standing.{IsRanked, AreProposals, NoMore, IsChoiceOf}
use Rattle.lps_choice.proofs.Ends.{among_or_not, goals_joined}
use Rattle.lps_choice.proofs.Lists.{of_image, image_of}

abbrev pub group_of : Ranked → Group
group_of r = record { atoms = r.group }

-- the goals of some picks are these, in any order
pub record AreTaken (made : List Pick) (taken : List ℕ) : Type 0 where
  pub within : (n : ℕ) → Contains taken n → Contains (goals_of made) n
  pub all : (n : ℕ) → Contains (goals_of made) n → Contains taken n

pub none_taken : AreTaken [] []
none_taken = record { within = λ n among. among; all = λ n among. among }

pub taken_with : (made : List Pick) (taken : List ℕ) (pick : Pick) → AreTaken made taken → AreTaken (made ++ pick ∷ []) (pick.goal ∷ taken)
taken_with made taken pick same = record {
  within = λ n among. subst (λ ns. Contains ns n) (sym (goals_joined made (pick ∷ [])))
      (elim (first_or_later pick.goal taken n among) [
        | inl is ↦ subst (Contains (goals_of made ++ pick.goal ∷ [])) is (Contains-append_right (goals_of made) (pick.goal ∷ []) pick.goal (first_is_contained pick.goal []))
        | inr later ↦ Contains-append_left (goals_of made) (pick.goal ∷ []) n (same.within n later)
      ]);
  all = λ n among. elim (Contains-append_cases (goals_of made) (pick.goal ∷ []) n (subst (λ ns. Contains ns n) (goals_joined made (pick ∷ [])) among)) [
    | inl before ↦ later_is_contained pick.goal taken n (same.all n before)
    | inr now ↦ elim (first_or_later pick.goal [] n now) [
      | inl is ↦ subst (Contains (pick.goal ∷ taken)) is (first_is_contained pick.goal taken)
      | inr later ↦ absurd (nothing_contained n later)
    ]
  ];
}

module _ (choice : Choice) where
  -- what happens with one pick more
  pub events_more : (made : List Pick) (pick : Pick) (events : List Atom) → events_with choice made ≡ events → events_with choice (made ++ pick ∷ []) ≡ events ++ pick.group.atoms
  events_more made pick events same =
      ap (λ es. choice.events ++ es) (flat_map-append (λ (p : Pick). p.group.atoms) made (pick ∷ []) ∙ ap (λ es. flat_map (λ (p : Pick). p.group.atoms) made ++ es) (append-nil pick.group.atoms))
      ∙ sym (append_assoc choice.events (flat_map (λ (p : Pick). p.group.atoms) made) pick.group.atoms)
      ∙ ap (λ es. es ++ pick.group.atoms) same

module _ (text : Text) (level : List ℕ → ℕ) (depth : ℕ) (trace : Trace) (keys : List GoalKey) (before : List Atom) (choice : Choice)
    (stands : IsChoiceOf text level depth trace keys before choice) where
  -- ---- one pick

  pub admitted_in_text : (made : List Pick) (events : List Atom) (group : Group) → events_with choice made ≡ events → Admits choice made group → ViolatesNone text level trace (events ++ group.atoms)
  admitted_in_text made events group same admitted k violated =
      admitted k ((stands.violates (events_with choice made ++ group.atoms) k).1 (subst (λ es. ViolatesNumber text level trace (es ++ group.atoms) k) (sym same) violated))

  admitted_in_choice : (made : List Pick) (events : List Atom) (group : Group) → events_with choice made ≡ events → ViolatesNone text level trace (events ++ group.atoms) → Admits choice made group
  admitted_in_choice made events group same admitted k violated =
      admitted k (subst (λ es. ViolatesNumber text level trace (es ++ group.atoms) k) same ((stands.violates (events_with choice made ++ group.atoms) k).0 violated))

  pub refused_in_text : (made : List Pick) (events : List Atom) (group : Group) → events_with choice made ≡ events → Refuses choice made group → (k : ℕ) × ViolatesNumber text level trace (events ++ group.atoms) k
  refused_in_text made events group same refused =
      (refused.0, subst (λ es. ViolatesNumber text level trace (es ++ group.atoms) refused.0) same ((stands.violates (events_with choice made ++ group.atoms) refused.0).0 refused.1))

  refused_in_choice : (made : List Pick) (events : List Atom) (group : Group) → events_with choice made ≡ events → ((k : ℕ) × ViolatesNumber text level trace (events ++ group.atoms) k) → Refuses choice made group
  refused_in_choice made events group same refused =
      (refused.0, (stands.violates (events_with choice made ++ group.atoms) refused.0).1 (subst (λ es. ViolatesNumber text level trace (es ++ group.atoms) refused.0) (sym same) refused.1))

  -- a group among those of a pending goal is one of its proposals
  proposal_in_text : (key : GoalKey) (groups : List Group) → AreProposals text level depth trace key groups → (group : Group) → Contains groups group → IsProposal text level depth trace key group.atoms
  proposal_in_text key groups are group among =
      let found = of_image group_of are.ranked group (subst (λ gs. Contains gs group) are.told among) in
      subst (IsProposal text level depth trace key) (ap (λ (g : Group). g.atoms) found.2) (are.each found.0 found.1).proposal

  pub ranked_in_choice : (key : GoalKey) (groups : List Group) → AreProposals text level depth trace key groups → (r : Ranked) → IsRanked text level depth trace key r → Contains groups (group_of r)
  ranked_in_choice key groups are r is =
      let found = are.first r is in
      subst (λ gs. Contains gs (group_of r)) (sym are.told)
      (subst (λ (atoms : List Atom). Contains (map group_of are.ranked) (record { atoms = atoms })) found.2 (image_of group_of are.ranked found.0 found.1))

  proposal_in_choice : (key : GoalKey) (groups : List Group) → AreProposals text level depth trace key groups → (group : Group) → IsProposal text level depth trace key group.atoms → Contains groups group
  proposal_in_choice key groups are group is =
      ranked_in_choice key groups are (record { alternative = is.live.plan.reaches.alternative; rank = rank is.end; group = group.atoms })
      (record { proposal = is; alternative = refl; of_rank = refl })

  -- ---- legal picks

  pub picks_in_text : (made : List Pick) (taken : List ℕ) (events : List Atom) → AreTaken made taken → events_with choice made ≡ events → (picks : List Pick) → ArePicks choice made picks →
      ArePicksOf text level depth trace keys taken events picks
  picks_in_text made taken events same so_far [] h = tt
  picks_in_text made taken events same so_far (pick ∷ picks) h =
      let pending = (stands.pending pick.goal).0 h.0.pending in (
        (pending.0, pending.1, proposal_in_text pending.0 (choice.proposals pick.goal) (stands.proposals pick.goal pending.0 pending.1) pick.group h.0.proposed),
        (λ among. h.0.free (same.within pick.goal among)),
        admitted_in_text made events pick.group so_far h.0.admitted,
        picks_in_text (made ++ pick ∷ []) (pick.goal ∷ taken) (events ++ pick.group.atoms) (taken_with made taken pick same) (events_more choice made pick events so_far) picks h.1,
      )

  pub picks_in_choice : (made : List Pick) (taken : List ℕ) (events : List Atom) → AreTaken made taken → events_with choice made ≡ events → (picks : List Pick) →
      ArePicksOf text level depth trace keys taken events picks → ArePicks choice made picks
  picks_in_choice made taken events same so_far [] h = tt
  picks_in_choice made taken events same so_far (pick ∷ picks) h = (
    record {
      pending = (stands.pending pick.goal).1 (h.0.0, h.0.1);
      free = λ among. h.1 (same.all pick.goal among);
      proposed = proposal_in_choice h.0.0 (choice.proposals pick.goal) (stands.proposals pick.goal h.0.0 h.0.1) pick.group h.0.2;
      admitted = admitted_in_choice made events pick.group so_far h.2;
    },
    picks_in_choice (made ++ pick ∷ []) (pick.goal ∷ taken) (events ++ pick.group.atoms) (taken_with made taken pick same) (events_more choice made pick events so_far) picks h.3,
  )

  happens : (picks : List Pick) → events_with choice picks ≡ before ++ flat_map (λ (pick : Pick). pick.group.atoms) picks
  happens picks = ap (λ es. es ++ flat_map (λ (pick : Pick). pick.group.atoms) picks) stands.before

  pub settled_in_text : (picks : List Pick) → IsSettled choice picks → NoMore text level depth trace keys before picks
  settled_in_text picks settled n key group pending free proposal =
      let among : Contains choice.goals n = (stands.pending n).1 (key, pending) in
      elim (settled n among) [
        | inl picked ↦ absurd (free picked)
        | inr refused ↦ refused_in_text picks _ (record { atoms = group }) (happens picks)
            (refused (record { atoms = group }) (proposal_in_choice key (choice.proposals n) (stands.proposals n key pending) (record { atoms = group }) proposal))
      ]

  pub settled_in_choice : (picks : List Pick) → NoMore text level depth trace keys before picks → IsSettled choice picks
  settled_in_choice picks no_more goal among =
      let pending = (stands.pending goal).0 among in
      elim (among_or_not (goals_of picks) goal) [
        | inl picked ↦ inl picked
        | inr free ↦ inr (λ group proposed. refused_in_choice picks _ group (happens picks)
            (no_more goal pending.0 group.atoms pending.1 free (proposal_in_text pending.0 (choice.proposals goal) (stands.proposals goal pending.0 pending.1) group proposed)))
      ]
