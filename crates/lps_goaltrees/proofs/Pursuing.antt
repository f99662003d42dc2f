-- What is pursued is right once a goal is added, and once its goals are led on to the end of a cycle.
use Rattle.std.proofs.Common.{ℕ, suc, ◌≡◌, ◌≤◌, ◌<◌, ◌⊎◌, ◌∙◌, Bool, true, false, cond, List, [], ◌∷◌, ◌++◌, length, refl, sym, ap, subst, arith, inl, inr, length-append}
use Rattle.std.specs.Prelude.{Contains, Some}
use Rattle.std.specs.List.{AllZip}
use Rattle.std.specs.List.Sorted.{IsStrictlySortedBy}
use Rattle.std.specs.Ordering.{nat_cmp, on}
use Rattle.lps_terms.specs.declared.atom.Atom.{Atom}
use Rattle.lps_terms.specs.declared.text.Text.{Text}
use Rattle.lps_model.specs.declared.trace.Trace.{Trace}
use Rattle.lps_model.specs.Clauses.{clauses}
use Rattle.lps_model.specs.Rules.{numbered}
use Rattle.lps_model.proofs.Elements.{nothing_contained}
use Rattle.lps_derivation.specs.Levels.{AreLevels}
use Rattle.lps_meaning.specs.declared.goal.GoalKey.{GoalKey}
use Rattle.lps_meaning.proofs.Lists.{number_contained}
use Rattle.lps_meeting.specs.Stages.{AreEventsOf, IsStateOf}
use Rattle.lps_goaltrees.specs.declared.goal.Goal.{Goal}
use Rattle.lps_goaltrees.specs.Followed.{IsFollowed, IsLedOn, IsOpenUntil, Pursues, StandsAt}
use Rattle.lps_goaltrees.specs.Found.{IsAdvanced}
use Rattle.lps_goaltrees.specs.Pursued.{AreReadyGoals, IsReadyPursued, Pursued, Pursuit, first_pursuit, left_by_close}
use Rattle.lps_goaltrees.proofs.Lists.{among_pushed, numbered_last, numbered_more, numbered_place, numbered_pushed, of_zipped, rising_pushed, rising_zipped, to_zipped}

le_self : (n : ℕ) → n ≤ n
le_self n = omega arith

one_later : (k n : ℕ) → k ≤ n → k ≤ suc n
one_later k n le = omega arith

number_below : (k n m count : ℕ) → n ≡ suc k → k < count → m ≡ suc count → n < m
number_below k n m count is lt most = omega (arith, is, most)

module _ (text : Text) (level : List ℕ → ℕ) (trace : Trace) (depth : ℕ) where
  -- where there is no goal
  pub pursues_none : Pursues text level trace depth 0 [] first_pursuit
  unfolding IsStrictlySortedBy
  pursues_none = record {
    kept = record {
      next = refl;
      early = λ key h. absurd (nothing_contained key h);
      rising = tt;
      numbers = λ goal h. absurd (nothing_contained goal h);
      followed = λ goal h. absurd (nothing_contained goal h);
    };
    open_until = λ goal h. absurd (nothing_contained goal h);
    others = λ n key h. let at = numbered_place [] n key h in absurd (none at.0 at.2);
  }
    where
      none : (k : ℕ) → k < 0 → ⊥
      none k lt = omega arith

  pub is_added : (keys : List GoalKey) (old new : Pursuit) (goal : Goal) → new.goals ≡ old.goals ++ goal ∷ [] → new.next ≡ suc old.next → goal.goal.0 ≡ old.next →
      IsFollowed text level trace depth goal.key.time goal → Pursues text level trace depth goal.key.time keys old → Pursues text level trace depth goal.key.time (keys ++ goal.key ∷ []) new
  is_added keys old new goal goals next number begun was =
      let now : ℕ = goal.key.time in
      let more : List GoalKey = keys ++ goal.key ∷ [] in
      let last : goal.goal.0 ≡ suc (length keys) = number ∙ was.kept.next in
      let cases : (g : Goal) → Contains new.goals g → Contains old.goals g ⊎ (g ≡ goal) =
      λ g h. (among_pushed old.goals goal g).0 (subst (λ gs. Contains gs g) goals h) in
      let there : (g : Goal) → Contains old.goals g ⊎ (g ≡ goal) → Contains new.goals g =
      λ g h. subst (λ gs. Contains gs g) (sym goals) ((among_pushed old.goals goal g).1 h) in
      record {
        kept = record {
          next = next ∙ ap suc (was.kept.next ∙ sym (length_pushed keys goal.key));
          early = λ key h. elim ((among_pushed keys goal.key key).0 h) [
            | inl before ↦ was.kept.early key before
            | inr e ↦ subst (λ (k : GoalKey). k.time ≤ now) (sym e) (le_self now)
          ];
          rising = subst (IsStrictlySortedBy (on (λ (g : Goal). g.goal.0) nat_cmp)) (sym goals) (rising_pushed (λ (g : Goal). g.goal.0) old.goals goal was.kept.rising
              (λ g h. let at = numbered_place keys g.goal.0 g.key (was.kept.numbers g h) in number_below at.0 g.goal.0 goal.goal.0 (length keys) at.1 at.2 last));
          numbers = λ g h. elim (cases g h) [
            | inl before ↦ numbered_more keys (goal.key ∷ []) g.goal.0 g.key (was.kept.numbers g before)
            | inr e ↦ subst (λ (g : Goal). numbered more g.goal.0 ≡ Some g.key) (sym e) (subst (λ n. numbered more n ≡ Some goal.key) (sym last) (numbered_last keys goal.key))
          ];
          followed = λ g h. elim (cases g h) [
            | inl before ↦ was.kept.followed g before
            | inr e ↦ subst (λ (g : Goal). IsFollowed text level trace depth now g) (sym e) begun
          ];
        };
        open_until = λ g h. elim (cases g h) [
          | inl before ↦ was.open_until g before
          | inr e ↦ subst (λ (g : Goal). IsOpenUntil text level trace depth now g.key) (sym e) (inl refl)
        ];
        others = λ n key h. elim (numbered_pushed keys goal.key n key h) [
          | inl before ↦ elim (was.others n key before) [
            | inl m ↦ inl (m.0, there m.0 (inl m.1), m.2)
            | inr closed ↦ inr closed
          ]
          | inr at ↦ inl (goal, there goal (inr refl), last ∙ sym at.0)
        ];
      }
    where
      length_pushed : (xs : List GoalKey) (x : GoalKey) → length (xs ++ x ∷ []) ≡ suc (length xs)
      length_pushed xs x = grind (arith, length-append xs (x ∷ []))

  led_on : (now : ℕ) (facts events : List Atom) → AreLevels (clauses text) level → IsStateOf text level trace (suc now) facts → AreEventsOf trace (suc now) events →
      (old new : Pursuit) → new.next ≡ old.next → AllZip (IsAdvanced text depth (suc now) facts events) old.goals new.goals → (stands : StandsAt text level trace depth now old) →
      Pursues text level trace depth (suc now) stands.keys new
  led_on now facts events levels state happened old new next advanced stands =
      let kept = stands.kept in
      let from : (g : Goal) → Contains new.goals g → (h : Goal) × Contains old.goals h × IsAdvanced text depth (suc now) facts events h g =
      of_zipped (IsAdvanced text depth (suc now) facts events) old.goals new.goals advanced in
      let early : (h : Goal) → Contains old.goals h → h.key.time ≤ now =
      λ h there. kept.early h.key (number_contained stands.keys h.goal.0 h.key (kept.numbers h there)) in
      record {
        kept = record {
          next = next ∙ kept.next;
          early = λ key h. one_later key.time now (kept.early key h);
          rising = rising_zipped (IsAdvanced text depth (suc now) facts events) (λ (g : Goal). g.goal.0) (λ (g : Goal). g.goal.0) (λ h g a. ap (λ n. n.0) a.number) old.goals new.goals advanced kept.rising;
          numbers = λ g h. let m = from g h in
              subst (λ k. numbered stands.keys g.goal.0 ≡ Some k) (sym m.2.key) (subst (λ n. numbered stands.keys n ≡ Some m.0.key) (sym (ap (λ n. n.0) m.2.number)) (kept.numbers m.0 m.1));
          followed = λ g h. let m = from g h in m.2.followed level levels trace state happened now refl (early m.0 m.1) (kept.followed m.0 m.1);
        };
        open_until = λ g h. let m = from g h in
            subst (λ (k : GoalKey). IsOpenUntil text level trace depth (suc now) k) (sym m.2.key) (inr (now, refl, early m.0 m.1, stands.pending m.0 m.1));
        others = λ n key h. elim (stands.others n key h) [
          | inl m ↦ let g = to_zipped (IsAdvanced text depth (suc now) facts events) old.goals new.goals advanced m.0 m.1 in
              inl (g.0, g.1, ap (λ n. n.0) g.2.number ∙ m.2)
          | inr closed ↦ inr (now, refl, kept.early key (number_contained stands.keys n key h), closed.0, closed.1)
        ];
      }

pub is_led_on : (text : Text) (depth time : ℕ) (facts events : List Atom) (old new : Pursuit) → new.next ≡ old.next → AllZip (IsAdvanced text depth time facts events) old.goals new.goals →
    IsLedOn text depth time facts events old new
is_led_on text depth time facts events old new next advanced level levels trace state happened now is stands =
    subst (λ time. AllZip (IsAdvanced text depth time facts events) old.goals new.goals → IsStateOf text level trace time facts → AreEventsOf trace time events →
    Pursues text level trace depth time stands.keys new) (sym is)
    (λ advanced state happened. led_on text level trace depth now facts events levels state happened old new next advanced stands) advanced state happened

-- ---- what the last close left

pub left_settled : (p : Pursued) → p.is_settled ≡ true → left_by_close p ≡ p.pursuit
left_settled p settled = ap (λ (b : Bool). cond b p.pursuit p.before) settled

pub left_unsettled : (p : Pursued) → p.is_settled ≡ false → left_by_close p ≡ p.before
left_unsettled p unsettled = ap (λ (b : Bool). cond b p.pursuit p.before) unsettled

-- ---- whether steps can be made

pub ready_left : (text : Text) (p : Pursued) → IsReadyPursued text p → AreReadyGoals text (left_by_close p).goals
ready_left text p ready = by p.is_settled
  where
    by : (settled : Bool) → AreReadyGoals text (cond settled p.pursuit p.before).goals
    by true = ready.0
    by false = ready.1
