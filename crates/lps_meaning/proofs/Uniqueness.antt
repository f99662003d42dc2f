-- A batch has one list of verdicts after a trace, and plain picks are one list; so batches have one plain run.
use Rattle.std.proofs.Common.{◌≡◌, ℕ, List, [], ◌∷◌, ◌++◌, map, length, refl, sym, ap, subst, ◌∙◌, arith, inl, inr}
use Rattle.std.specs.List.{flat_map}
use Rattle.std.specs.declared.cmp.Ordering.{Ordering}
use Rattle.std.specs.declared.cmp.Ordering.TheVariants.{Less, Equal, Greater}
use Rattle.std.specs.Cmp.{IsTotalOrder}
use Rattle.std.specs.FinMap.{IsAntisymmetric, nat_cmp-IsAntisymmetric, slice_cmp-IsAntisymmetric}
use Rattle.std.specs.Ordering.{ordering_reverse}
use Rattle.std.proofs.lemmas.Cmp.{then_total, on_total, lists_total, nat_cmp_total}
use Rattle.lps_terms.specs.declared.atom.Atom.{Atom}
use Rattle.lps_terms.specs.declared.prefer.Prefer.{Prefer}
use Rattle.lps_terms.specs.declared.text.Text.{Text}
use Rattle.lps_terms.specs.OrderLaws.{atom_cmp_total, atom_cmp-IsAntisymmetric}
use Rattle.lps_model.specs.declared.cycle.Cycle.{Cycle}
use Rattle.lps_model.specs.declared.cycle.Pick.{Pick}
use Rattle.lps_model.specs.declared.trace.Trace.{Trace}
use Rattle.lps_model.specs.declared.verdict.Verdict.{Verdict}
use Rattle.lps_model.specs.declared.verdict.Verdict.TheVariants.{Admitted, Rejected}
use Rattle.lps_model.specs.Run.{AreInitial, first_trace}
use Rattle.lps_model.specs.Trace.{if_admitted, admitted, then_cycle}
use Rattle.lps_model.proofs.Elements.{sorted_same}
use Rattle.lps_meaning.specs.declared.goal.GoalKey.{GoalKey}
use Rattle.lps_meaning.specs.Denials.{IsLeastViolated}
use Rattle.lps_meaning.specs.Cycles.{IsVerdict, AreJudged, AreLegal, IsRun}
use Rattle.lps_meaning.specs.Plain.{Ranked, ranked_cmp, order_of, IsFirstOffer, IsPassedOver, IsGiven, pick_of, Pass, AllPasses, last, more, IsPlain, ArePlain, IsPlainRun}
use Rattle.lps_meaning.proofs.Numbers.{both_equal, goals_unique, some_same}
use Rattle.lps_meaning.proofs.Splits.{le_or_lt}

-- ---- verdicts

module _ (text : Text) (level : List ℕ → ℕ) (depth : ℕ) (trace : Trace) where
  least_unique : (events : List Atom) (j k : ℕ) → IsLeastViolated text level trace events j → IsLeastViolated text level trace events k → j ≡ k
  least_unique events j k one other =
      elim (le_or_lt j k) [
        | inl le ↦ elim (le_or_lt k j) [ inl back ↦ omega arith | inr lt ↦ absurd (other.1 j lt one.0) ]
        | inr lt ↦ absurd (one.1 k lt other.0)
      ]

  verdict_unique : (before : List Atom) (event : Atom) (one other : Verdict) → IsVerdict text level trace before event one → IsVerdict text level trace before event other → one ≡ other
  verdict_unique before event Admitted Admitted h k = refl
  verdict_unique before event Admitted (Rejected j) h k = absurd (h j k.0)
  verdict_unique before event (Rejected i) Admitted h k = absurd (k i h.0)
  verdict_unique before event (Rejected i) (Rejected j) h k = ap (λ n. Rejected n) (least_unique (before ++ event ∷ []) i j h k)

  pub verdicts_unique : (before events : List Atom) (one other : List Verdict) → AreJudged text level trace before events one → AreJudged text level trace before events other → one ≡ other
  verdicts_unique before [] [] [] h k = refl
  verdicts_unique before [] [] (v ∷ vs) h k = absurd k
  verdicts_unique before [] (u ∷ us) other h k = absurd h
  verdicts_unique before (event ∷ events) [] other h k = absurd h
  verdicts_unique before (event ∷ events) (u ∷ us) [] h k = absurd k
  verdicts_unique before (event ∷ events) (u ∷ us) (v ∷ vs) h k =
      let same = verdict_unique before event u v h.0 k.0 in
      let rest = verdicts_unique (before ++ if_admitted v event) events us vs (subst (λ w. AreJudged text level trace (before ++ if_admitted w event) events us) same h.1) k.1 in
      λ i. same i ∷ rest i

-- ---- picks

ranked_cmp_total : IsTotalOrder ranked_cmp
ranked_cmp_total = then_total (on_total (λ r. r.alternative) nat_cmp_total)
    (then_total (on_total (λ r. r.rank) (lists_total nat_cmp_total)) (on_total (λ r. r.group) (lists_total atom_cmp_total)))

ranked_cmp-IsAntisymmetric : IsAntisymmetric ranked_cmp
ranked_cmp-IsAntisymmetric a b e =
    let alternative = both_equal _ _ e in
    let rank = both_equal _ _ alternative.1 in
    let n : a.alternative ≡ b.alternative = nat_cmp-IsAntisymmetric _ _ alternative.0 in
    let r : a.rank ≡ b.rank = slice_cmp-IsAntisymmetric nat_cmp-IsAntisymmetric _ _ rank.0 in
    let g : a.group ≡ b.group = slice_cmp-IsAntisymmetric atom_cmp-IsAntisymmetric _ _ rank.1 in
    λ i. record { alternative = n i; rank = r i; group = g i }

-- of two values neither is first
neither_first : (a b : Ranked) → (ranked_cmp a b ≡ Less → ⊥) → (ranked_cmp b a ≡ Less → ⊥) → a ≡ b
neither_first a b one other = by (ranked_cmp a b) refl
  where
    by : (o : Ordering) → ranked_cmp a b ≡ o → a ≡ b
    by Less e = absurd (one e)
    by Equal e = ranked_cmp-IsAntisymmetric a b e
    by Greater e = absurd (other (ranked_cmp_total.antisymm b a ∙ ap ordering_reverse e))

module _ (text : Text) (level : List ℕ → ℕ) (depth : ℕ) (trace : Trace) (keys : List GoalKey) where
  given_unique : (n : ℕ) (taken : List ℕ) (events : List Atom) (r q : Ranked) → IsGiven text level depth trace keys n taken events r →
      IsGiven text level depth trace keys n taken events q → r ≡ q
  given_unique n taken events r q one other =
      let same : other.key ≡ one.key = some_same (sym other.pending.0 ∙ one.pending.0) in
      let first : IsFirstOffer text level depth trace keys one.key events q = subst (λ k. IsFirstOffer text level depth trace keys k events q) same other.first in
      neither_first r q (λ less. first.1 r one.first.0 less) (λ less. one.first.1 q first.0 less)

  not_both : (n : ℕ) (taken : List ℕ) (events : List Atom) (r : Ranked) → IsPassedOver text level depth trace keys n taken events →
      IsGiven text level depth trace keys n taken events r → ⊥
  not_both n taken events r (inl has) given = given.free has
  not_both n taken events r (inr none) given = none given.key r given.pending given.first.0

  abbrev PassesOn : List ℕ → List ℕ → List Atom → List Pick → Type 0
  PassesOn ns taken events picks = Pass text level depth trace keys ns taken events picks

  pass_unique : (ns taken : List ℕ) (events : List Atom) (one other : List Pick) → PassesOn ns taken events one → PassesOn ns taken events other → one ≡ other
  pass_unique [] taken events one other h k = h ∙ sym k
  pass_unique (n ∷ ns) taken events one other (inl h) (inl k) = pass_unique ns taken events one other h.1 k.1
  pass_unique (n ∷ ns) taken events one other (inl h) (inr k) = absurd (not_both n taken events k.0 h.0 k.2)
  pass_unique (n ∷ ns) taken events one other (inr h) (inl k) = absurd (not_both n taken events h.0 k.0 h.2)
  pass_unique (n ∷ ns) taken events one other (inr h) (inr k) =
      let same : h.0 ≡ k.0 = given_unique n taken events h.0 k.0 h.2 k.2 in
      let rest = pass_unique ns (n ∷ taken) (events ++ k.0.group) h.1 k.1 (subst (λ r. PassesOn ns (n ∷ taken) (events ++ r.group) h.1) same h.4) k.4 in
      h.3 ∙ (λ i. pick_of text level depth trace keys n (same i) ∷ rest i) ∙ sym k.3

  none_some : (pick : Pick) (picks : List Pick) → ◌≡◌ {A = List Pick} [] (pick ∷ picks) → ⊥
  none_some pick picks e = cc

  pub passes_unique : (order : List ℕ) {taken : List ℕ} {events : List Atom} {one other : List Pick} → AllPasses text level depth trace keys order taken events one →
      AllPasses text level depth trace keys order taken events other → one ≡ other
  passes_unique order (last pass none) (last pass' none') = none ∙ sym none'
  passes_unique order {taken} {events} (last pass none) (more pick picks rest pass' passes' all') = absurd (none_some pick picks (pass_unique order taken events [] (pick ∷ picks) pass pass'))
  passes_unique order {taken} {events} (more pick picks rest pass passes all) (last pass' none') = absurd (none_some pick picks (pass_unique order taken events [] (pick ∷ picks) pass' pass))
  passes_unique order {taken} {events} (more pick picks rest pass passes all) (more pick' picks' rest' pass' passes' all') =
      let same : pick ∷ picks ≡ pick' ∷ picks' = pass_unique order taken events (pick ∷ picks) (pick' ∷ picks') pass pass' in
      let more_same = passes_unique order
      (subst (λ ps. AllPasses text level depth trace keys order (map (λ p. p.goal) ps ++ taken) (events ++ flat_map (λ p. p.group.atoms) ps) rest) same passes) passes' in
      all ∙ (λ i. same i ++ more_same i) ∙ sym all'

-- ---- cycles and runs

module _ (text : Text) (level : List ℕ → ℕ) (depth : ℕ) (prefer : Prefer) where
  cycle_unique : (trace : Trace) (one other : Cycle) → IsPlain text level depth prefer trace one → IsPlain text level depth prefer trace other → one.events ≡ other.events → one ≡ other
  cycle_unique trace one other h k events =
      let verdicts : one.verdicts ≡ other.verdicts =
      verdicts_unique text level depth trace [] other.events one.verdicts other.verdicts
      (subst (λ es. AreJudged text level trace [] es one.verdicts) events h.legal.judged) k.legal.judged in
      let keys : h.legal.keys ≡ k.legal.keys = goals_unique text level trace (length trace.cycles) h.legal.keys k.legal.keys h.legal.goals k.legal.goals in
      let passes : AllPasses text level depth trace k.legal.keys (order_of prefer (length k.legal.keys)) [] (admitted other.events other.verdicts) one.picks =
      subst (λ es. AllPasses text level depth trace k.legal.keys (order_of prefer (length k.legal.keys)) [] (admitted es other.verdicts) one.picks) events
      (subst (λ vs. AllPasses text level depth trace k.legal.keys (order_of prefer (length k.legal.keys)) [] (admitted one.events vs) one.picks) verdicts
      (subst (λ ks. AllPasses text level depth trace ks (order_of prefer (length ks)) [] (admitted one.events one.verdicts) one.picks) keys h.passes)) in
      let picks : one.picks ≡ other.picks = passes_unique text level depth trace k.legal.keys (order_of prefer (length k.legal.keys)) passes k.passes in
      λ i. record { events = events i; verdicts = verdicts i; picks = picks i }

  cycles_unique : (before : Trace) (cycles others : List Cycle) → ArePlain text level depth prefer before cycles → ArePlain text level depth prefer before others →
      map (λ (c : Cycle). c.events) cycles ≡ map (λ (c : Cycle). c.events) others → cycles ≡ others
  cycles_unique before [] [] h k e = refl
  cycles_unique before [] (d ∷ ds) h k e = absurd cc
  cycles_unique before (c ∷ cs) [] h k e = absurd cc
  cycles_unique before (c ∷ cs) (d ∷ ds) h k e =
      let first : c.events ≡ d.events = cc in
      let rest : map (λ (x : Cycle). x.events) cs ≡ map (λ (x : Cycle). x.events) ds = cc in
      let same = cycle_unique before c d h.0 k.0 first in
      let more_same = cycles_unique (then_cycle before d) cs ds (subst (λ x. ArePlain text level depth prefer (then_cycle before x) cs) same h.1) k.1 rest in
      λ i. same i ∷ more_same i

  pub initial_unique : (facts others : List Atom) → AreInitial text facts → AreInitial text others → facts ≡ others
  initial_unique facts others s t =
      sorted_same atom_cmp_total atom_cmp-IsAntisymmetric facts others s.sorted t.sorted
      (λ q among. (t.exact q).1 ((s.exact q).0 among)) (λ q among. (s.exact q).1 ((t.exact q).0 among))

  -- batches have one plain run
  pub run_unique : (batches : List (List Atom)) (trace other : Trace) → IsPlainRun text level depth prefer batches trace → IsPlainRun text level depth prefer batches other → trace ≡ other
  run_unique batches trace other h k =
      let initial = initial_unique trace.initial other.initial h.initial k.initial in
      let plain : ArePlain text level depth prefer (first_trace other.initial) trace.cycles = subst (λ facts. ArePlain text level depth prefer (first_trace facts) trace.cycles) initial h.plain in
      let cycles = cycles_unique (first_trace other.initial) trace.cycles other.cycles plain k.plain (h.events ∙ sym k.events) in
      λ i. record { initial = initial i; cycles = cycles i }

  legal_of : (before : Trace) (cycles : List Cycle) → ArePlain text level depth prefer before cycles → AreLegal text level depth before cycles
  legal_of before [] h = tt
  legal_of before (cycle ∷ cycles) h = (h.0.legal, legal_of (then_cycle before cycle) cycles h.1)

  -- a plain run is a run
  pub run_of_plain : (batches : List (List Atom)) (trace : Trace) → IsPlainRun text level depth prefer batches trace → IsRun text level depth trace
  run_of_plain batches trace h = record { initial = h.initial; legal = legal_of (first_trace trace.initial) trace.cycles h.plain }
