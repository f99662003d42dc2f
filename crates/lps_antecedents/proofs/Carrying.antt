-- What waits is carried over a cycle: what the cycle does not touch stays as it is, and what it touches goes on to what is found for it.
use Rattle.std.proofs.Common.{ℕ, suc, ◌≡◌, ◌∙◌, ◌≤◌, false, List, [], refl, sym, subst, arith, inl, inr}
use Rattle.std.specs.Prelude.{◌⊎◌, ◌↔◌, Contains}
use Rattle.lps_terms.specs.declared.atom.Atom.{Atom}
use Rattle.lps_terms.specs.declared.text.Text.{Text}
use Rattle.lps_model.specs.declared.trace.Trace.{Trace}
use Rattle.lps_model.specs.Acceptance.{IsAccepted}
use Rattle.lps_model.specs.Clauses.{clauses}
use Rattle.lps_model.specs.Rules.{rules}
use Rattle.lps_derivation.specs.Levels.{AreLevels}
use Rattle.lps_meaning.specs.declared.goal.GoalKey.{GoalKey}
use Rattle.lps_meaning.specs.declared.node.Node.{Node}
use Rattle.lps_meaning.proofs.Numbers.{numbered_one}
use Rattle.lps_meeting.specs.Stages.{AreEventsOf, IsStateOf}
use Rattle.lps_model.proofs.Elements.{nothing_contained}
use Rattle.lps_nodes.specs.Laws.{WaitingNodesAreNodes}
use Rattle.lps_nodes.specs.Plans.{EndsWith, GoesOnTo, IsWaiting, antecedent_entrance, key_carry}
use Rattle.lps_residual.specs.Waking.{IsTouched, WakesAreOne}
use Rattle.lps_residual.specs.declared.waking.Wake.{Wake}
use Rattle.lps_seq.specs.Resting.{RestsUntilTouched}
use Rattle.lps_antecedents.specs.declared.gathered.Gathered.{Gathered}
use Rattle.lps_antecedents.specs.declared.held.Held.{Held}
use Rattle.lps_antecedents.specs.declared.slot.Slot.{Slot}
use Rattle.lps_antecedents.specs.Advancing.{AreOff, BySome, IsGatheredFrom, LiesInSome}
use Rattle.lps_antecedents.specs.Buckets.{AreReadyIn, AreSwitched, ChangesOnly, IsSound, LiesIn, kept, waited, waiting}
use Rattle.lps_antecedents.specs.Gathered.{HeldEndsWith, HeldGoesOnTo}
use Rattle.lps_antecedents.specs.Lists.{ByOne, Gains, HasExactly}
use Rattle.lps_antecedents.specs.Waiting.{StandsFor}
use Rattle.lps_antecedents.proofs.Lying.{IsOneWake, lies_slot, lies_waits, same_kept, same_waited, slot_lies, waits_lies}
use Rattle.lps_antecedents.proofs.Settling.{all_settled, settled_waiting, sound_changed, sound_more}
use Rattle.lps_antecedents.proofs.Stepping.{node_of, of_text}

-- those that are switched off do not wait
pub are_off : (wakes : List Wake) (old new : List (Wake × List Slot)) → AreSwitched false wakes old new → AreOff wakes new
are_off wakes old new switched wake slot among lies = switched.turned wake slot lies among

module _ (text : Text) (accepted : IsAccepted text) (rest : RestsUntilTouched) (waiting_nodes : WaitingNodesAreNodes) (time : ℕ) (le : time ≤ 1000000) (events : List Atom)
    (old off : List (Wake × List Slot)) (watched wakes : List Wake) (sound : IsSound old watched []) (ready : AreReadyIn text (kept old)) (switched : AreSwitched false wakes old off)
    (exact : (w : Wake) → Contains wakes w ↔ (Contains watched w × IsTouched w time events))
    (level : List ℕ → ℕ) (levels : AreLevels (clauses text) level) (trace : Trace) (now : ℕ) (at : time ≡ suc now) (happen : AreEventsOf trace time events) (stands : StandsFor text level trace now (waiting old)) where
  abbrev goes : Held → Held → Type 0
  goes = HeldGoesOnTo text level trace now

  abbrev ends : Held → GoalKey → Type 0
  ends = HeldEndsWith text level trace now

  -- what lies in the old buckets waits
  waits_old : (wake : Wake) (slot : Slot) → LiesIn old wake slot → Contains (waiting old) slot.held
  waits_old wake slot lies = lies_waits old wake slot lies (all_settled old watched sound wake slot lies).1

  is_waiting : (wake : Wake) (slot : Slot) → LiesIn old wake slot → IsWaiting text level trace now slot.held.rule slot.held.node
  is_waiting wake slot lies = (stands.exact slot.held).0 (waits_old wake slot lies)

  pub all_waiting : (h : Held) → LiesInSome wakes (kept off) h → IsWaiting text level trace now h.rule h.node
  all_waiting h lies =
      let slot = lies_slot old lies.0 h (subst (λ bs. LiesIn bs lies.0 h) (same_kept old off switched.only.before) lies.2) in
      subst (λ (x : Held). IsWaiting text level trace now x.rule x.node) slot.2 (is_waiting lies.0 slot.0 slot.1)

  -- ---- what is not touched

  module _ (wake : Wake) (slot : Slot) (lies : LiesIn old wake slot) (untouched : Contains wakes wake → ⊥) where
    w : IsWaiting text level trace now slot.held.rule slot.held.node
    w = is_waiting wake slot lies

    rests : ((o : Node) → GoesOnTo text level trace 1 (antecedent_entrance w.rule) now slot.held.node o ↔ (o ≡ slot.held.node))
        × ((key : GoalKey) → EndsWith text level trace 1 (antecedent_entrance w.rule) now slot.held.node (key_carry key) → ⊥)
    rests =
        let both = ready wake slot.held (slot_lies old wake slot lies) in
        let all = rest text accepted slot.held.node wake both.0 both.1 1 time events le (λ touched. untouched ((exact wake).1 (sound.watching wake slot lies, touched))) level levels trace
        (antecedent_entrance w.rule) (of_text text slot.held.rule w.rule w.of_text) now at (omega arith) (node_of text accepted waiting_nodes level trace now slot.held w) happen in
        (all.0, λ key. all.1 (key_carry key))

    goes_itself : goes slot.held slot.held
    goes_itself = (refl, w.rule, w.of_text, (rests.0 slot.held.node).1 refl)

    goes_nowhere : (o : Held) → goes slot.held o → o ≡ slot.held
    goes_nowhere o on =
        let there = subst (λ rule. GoesOnTo text level trace 1 (antecedent_entrance rule) now slot.held.node o.node) (numbered_one (rules text) slot.held.rule on.1 w.rule on.2 w.of_text) on.3 in
        let node : o.node ≡ slot.held.node = (rests.0 o.node).0 there in
        λ i. record { rule = on.0 i; node = node i }

    ends_never : (key : GoalKey) → ends slot.held key → ⊥
    ends_never key end = rests.1 key
        (subst (λ rule. EndsWith text level trace 1 (antecedent_entrance rule) now slot.held.node (key_carry key)) (numbered_one (rules text) slot.held.rule end.2 w.rule end.3 w.of_text) end.4)

  -- ---- all of it

  -- one that lies in the old buckets is touched, or waits on
  touched_or_not : (wake : Wake) (slot : Slot) → LiesIn old wake slot → Contains wakes wake ⊎ ((Contains wakes wake → ⊥) × Contains (waiting off) slot.held)
  touched_or_not wake slot lies = elim (switched.only.old_lie wake slot lies) [
    | inl among ↦ inl among
    | inr stays ↦
        let waits = (all_settled old watched sound wake slot lies).1 in
        inr (λ among. let gone = switched.turned wake slot stays among in cc (waits, gone), lies_waits off wake slot stays waits)
  ]

  touched_lies : (wake : Wake) (slot : Slot) → LiesIn old wake slot → Contains wakes wake → LiesInSome wakes (kept off) slot.held
  touched_lies wake slot lies among = (wake, among, subst (λ bs. LiesIn bs wake slot.held) (sym (same_kept old off switched.only.before)) (slot_lies old wake slot lies))

  lies_touched : (h : Held) → LiesInSome wakes (kept off) h → Contains (waiting old) h
  lies_touched h lies =
      let slot = lies_slot old lies.0 h (subst (λ bs. LiesIn bs lies.0 h) (same_kept old off switched.only.before) lies.2) in
      subst (Contains (waiting old)) slot.2 (waits_old lies.0 slot.0 slot.1)

  -- what waits on, and what those that are touched go on to, is what all go on to
  pub goes_on_all : (o : Held) → (Contains (waiting off) o ⊎ BySome (LiesInSome wakes (kept off)) goes o) ↔ ByOne (waiting old) goes o
  goes_on_all o = (
    λ sides. elim sides [
      | inl there ↦ let slot = waits_lies off o there in elim (switched.only.new_lie slot.0 slot.1 slot.2) [
        | inl among ↦ let gone = switched.turned slot.0 slot.1 slot.2 among in let is = slot.3 in absurd cc
        | inr lay ↦
            let untouched : Contains wakes slot.0 → ⊥ = λ among. let gone = switched.turned slot.0 slot.1 slot.2 among in let is = slot.3 in cc (gone, is) in
            subst (ByOne (waiting old) goes) slot.4 (slot.1.held, waits_old slot.0 slot.1 lay, goes_itself slot.0 slot.1 lay untouched)
      ]
      | inr some ↦ (some.0, lies_touched some.0 some.1, some.2)
    ],
    λ one. let slot = waits_lies old one.0 one.1 in
        let goes_there : goes slot.1.held o = subst (λ h. goes h o) (sym slot.4) one.2 in
        elim (touched_or_not slot.0 slot.1 slot.2) [
          | inl among ↦ inr (slot.1.held, touched_lies slot.0 slot.1 slot.2 among, goes_there)
          | inr stays ↦ inl (subst (Contains (waiting off)) (sym (goes_nowhere slot.0 slot.1 slot.2 stays.0 o goes_there)) stays.1)
        ],
  )

  pub ends_all : (key : GoalKey) → BySome (LiesInSome wakes (kept off)) ends key ↔ ByOne (waiting old) ends key
  ends_all key = (
    λ some. (some.0, lies_touched some.0 some.1, some.2),
    λ one. let slot = waits_lies old one.0 one.1 in
        let ends_there : ends slot.1.held key = subst (λ h. ends h key) (sym slot.4) one.2 in
        elim (touched_or_not slot.0 slot.1 slot.2) [
          | inl among ↦ (slot.1.held, touched_lies slot.0 slot.1 slot.2 among, ends_there)
          | inr stays ↦ absurd (ends_never slot.0 slot.1 slot.2 stays.0 key ends_there)
        ],
  )

  -- what is gathered of those that are touched, once it is put in, makes what all go on to
  module _ (facts : List Atom) (state : IsStateOf text level trace time facts) (stepped last : List (Wake × List Slot)) (g : Gathered) (gathered : IsGatheredFrom text time facts events wakes off stepped g)
      (gains : Gains (waiting stepped) (waiting last) (Contains g.held.items)) where
    pub carried : HasExactly (waiting last) (ByOne (waiting old) goes)
    carried o = let all = (gathered level levels trace now at state happen all_waiting).0 o in (
      λ there. elim ((gains o).0 there) [
        | inl stays ↦ (goes_on_all o).0 (all.0 (inr stays))
        | inr among ↦ (goes_on_all o).0 (all.0 (inl among))
      ],
      λ one. elim (all.1 ((goes_on_all o).1 one)) [
        | inl among ↦ (gains o).1 (inr among)
        | inr stays ↦ (gains o).1 (inl stays)
      ],
    )

    pub ended : HasExactly g.keys.keys (ByOne (waiting old) ends)
    ended key = let all = (gathered level levels trace now at state happen all_waiting).1 key in (
      λ there. (ends_all key).0 (all.0 there),
      λ one. all.1 ((ends_all key).1 one),
    )

-- ---- on the way

-- what holds once those that are touched are switched off, and after steps in their buckets
pub half_way : (text : Text) (wakes : List Wake) (old off new : List (Wake × List Slot)) (watched : List Wake) → IsSound old watched [] → AreReadyIn text (kept old) → AreSwitched false wakes old off →
    ChangesOnly wakes off new → (waited new ≡ waiting old) × IsSound new watched wakes × AreReadyIn text (kept new)
half_way text wakes old off new watched sound ready switched only = (
  same_waited off new only.before ∙ same_waited old off switched.only.before ∙ sym (settled_waiting old watched sound),
  sound_changed wakes off new watched only (sound_changed wakes old off watched switched.only (sound_more old watched watched [] wakes (λ w among. among) (λ w among. absurd (nothing_contained w among)) sound)),
  subst (AreReadyIn text) (sym (same_kept off new only.before ∙ same_kept old off switched.only.before)) ready,
)

-- ready nodes lie in one bucket alone
pub one_wake : WakesAreOne → (text : Text) (buckets : List (Wake × List Slot)) → AreReadyIn text (kept buckets) → IsOneWake (kept buckets)
one_wake one text buckets ready h wake other lies also =
    let first = ready wake h lies in let second = ready other h also in one text h.node wake other first.0 first.1 second.1
