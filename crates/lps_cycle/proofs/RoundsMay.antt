-- What the pending goals of a trace propose are events and actions of the text.
use Rattle.std.proofs.Common.{◌≡◌, ◌≤◌, ℕ, Bool, true, false, List, [], ◌∷◌, ◌++◌, map, length, refl, sym, ap, subst, inl, inr}
use Rattle.std.specs.Prelude.{◌&&◌, Contains, IsTrue, Option, Some, None, if◌then◌else◌}
use Rattle.std.specs.List.{AllByRecursion, list_all}
use Rattle.std.specs.List.Sorted.{IsStrictlySortedBy}
use Rattle.std.specs.Ordering.{nat_cmp, on}
use Rattle.std.proofs.lemmas.List.Elements.{Contains-append_cases}
use Rattle.lps_terms.specs.declared.atom.Atom.{Atom}
use Rattle.lps_terms.specs.declared.kind.Kind.{Kind}
use Rattle.lps_terms.specs.declared.kind.Kind.TheVariants as k
use Rattle.lps_terms.specs.declared.text.Text.{Text}
use Rattle.lps_model.specs.declared.cycle.Group.{Group}
use Rattle.lps_model.specs.Acceptance.{IsAccepted}
use Rattle.lps_model.specs.Formed.{is_formed}
use Rattle.lps_model.specs.Order.{happens, is_action}
use Rattle.lps_model.specs.Rules.{kind_of, rules}
use Rattle.lps_model.proofs.Elements.{first_is_contained, first_or_later, later_is_contained, nothing_contained}
use Rattle.lps_derivation.specs.Ground.{is_ground}
use Rattle.lps_meaning.specs.declared.node.Left.{Left}
use Rattle.lps_meaning.specs.declared.node.LeftItem.{LeftItem}
use Rattle.lps_meaning.specs.declared.node.LeftItem.TheVariants as l
use Rattle.lps_meaning.specs.declared.node.Node.{Node}
use Rattle.lps_meaning.specs.Plain.{Ranked}
use Rattle.lps_meaning.proofs.Lists.{number_contained}
use Rattle.lps_nodes.specs.Conditions.{are_together, is_same_time}
use Rattle.lps_nodes.specs.LedLaws.{ActionsAreGround, IsNextGround}
use Rattle.lps_nodes.specs.NextSteps.{IsProposed, atoms_behind, atoms_of}
use Rattle.lps_nodes.specs.Plans.{Entrance, IsAlternativeEntered, IsNode}
use Rattle.lps_nodes.proofs.Entrances.{goal_nodes}
use Rattle.lps_causal.specs.Names.{AreEvents}
use Rattle.lps_goaltrees.specs.declared.goal.Goal.{Goal}
use Rattle.lps_goaltrees.specs.Offers.{IsOffered}
use Rattle.lps_goaltrees.proofs.Growing.{entered_since}
use Rattle.lps_cycle.specs.declared.candidates.Candidate.{Candidate}
use Rattle.lps_cycle.specs.Candidates.{AreAsked}
use Rattle.lps_cycle.specs.Round.{ArePursued, MayHappen}

-- ---- lists

pub every : {X : Type 0} (P : X → Type 0) (xs : List X) → AllByRecursion P xs → (x : X) → Contains xs x → P x
every P [] h x at = absurd (nothing_contained x at)
every P (y ∷ ys) h x at = elim (first_or_later y ys x at) [ inl same ↦ subst P same h.0 | inr later ↦ every P ys h.1 x later ]

-- ---- kinds

action_happens : (kind : Option Kind) → is_action kind ≡ true → happens kind ≡ true
action_happens None h = absurd (cc)
action_happens (Some k.Fluent) h = absurd (cc)
action_happens (Some k.Derived) h = absurd (cc)
action_happens (Some k.Timeless) h = absurd (cc)
action_happens (Some k.Event) h = refl
action_happens (Some k.Action) h = refl
action_happens (Some k.Macro) h = absurd (cc)

both_happen : (one two more : Bool) → (one && (two && more)) ≡ true → two ≡ true
both_happen true true more h = refl
both_happen true false more h = absurd (cc)
both_happen false two more h = absurd (cc)

module _ (text : Text) where
  together_happens : (before item : LeftItem) → are_together text before item ≡ true → (a : Atom) → Contains (atoms_of item) a → happens (kind_of text a.name) ≡ true
  together_happens (l.Span b from to) (l.Span a from' to') h x at =
      elim (first_or_later a [] x at) [
        | inl same ↦ subst (λ (a : Atom). happens (kind_of text a.name) ≡ true) same (both_happen (happens (kind_of text b.name)) (happens (kind_of text a.name)) (is_same_time from from' && is_same_time to to') h)
        | inr later ↦ absurd (nothing_contained x later)
      ]
  together_happens before (l.At lit time) h x at = absurd (nothing_contained x at)
  together_happens before (l.Bare lit) h x at = absurd (nothing_contained x at)
  together_happens before (l.Built built) h x at = absurd (nothing_contained x at)
  together_happens (l.At lit time) (l.Span a from to) h x at = absurd (cc)
  together_happens (l.Bare lit) (l.Span a from to) h x at = absurd (cc)
  together_happens (l.Built built) (l.Span a from to) h x at = absurd (cc)

  behind_by : (before : LeftItem) (left : Left) (rest : List Left) → ((a : Atom) → Contains (atoms_behind text left.item rest) a → happens (kind_of text a.name) ≡ true) → (together : Bool) →
      are_together text before left.item ≡ together → (a : Atom) → Contains (if together then atoms_of left.item ++ atoms_behind text left.item rest else []) a → happens (kind_of text a.name) ≡ true
  behind_by before left rest more false e a at = absurd (nothing_contained a at)
  behind_by before left rest more true e a at =
      elim (Contains-append_cases (atoms_of left.item) (atoms_behind text left.item rest) a at) [ inl here ↦ together_happens before left.item e a here | inr later ↦ more a later ]

  behind_happens : (before : LeftItem) (rest : List Left) (a : Atom) → Contains (atoms_behind text before rest) a → happens (kind_of text a.name) ≡ true
  behind_happens before [] a at = absurd (nothing_contained a at)
  behind_happens before (left ∷ rest) a at = behind_by before left rest (behind_happens left.item rest) (are_together text before left.item) refl a at

  -- a group whose actions are ground is of events
  proposed_events : (now : ℕ) (node : Node) (group : List Atom) → IsNextGround text node → IsProposed text now node group → AreEvents text group
  proposed_events now node group next p = record {
    each = λ a at.
        let there = (p.exact a).0 at in
        record {
          ground = every (λ b. IsTrue (list_all is_ground b.args)) (p.atom ∷ atoms_behind text p.first.item p.behind) (next p.first p.behind p.is_first p.atom p.from p.to p.item p.action) a there;
          kind = elim (first_or_later p.atom (atoms_behind text p.first.item p.behind) a there) [
            | inl same ↦ subst (λ (b : Atom). happens (kind_of text b.name) ≡ true) same (action_happens (kind_of text p.atom.name) p.action)
            | inr later ↦ behind_happens p.first.item p.behind a later
          ];
        };
  }

-- ---- the pending goals of a trace

module _ (ground : ActionsAreGround) (text : Text) (accepted : IsAccepted text) (formed : IsTrue (is_formed text)) (depth time : ℕ) (facts : List Atom) (goals : List Goal) (p : ArePursued text depth time facts goals) where
  abbrev now : ℕ
  now = length p.trace.cycles

  offered_events : (goal : Goal) → Contains goals goal → (r : Ranked) → IsOffered text time goal.nodes r → AreEvents text r.group
  offered_events goal among r o = by m.0 m.1 m.2 m.3
    where
      there : Contains p.pursuit.goals goal
      there = subst (λ (gs : List Goal). Contains gs goal) (sym p.goals_are) among

      after : goal.key.time ≤ now
      after = p.stands.kept.early goal.key (number_contained p.stands.keys goal.goal.0 goal.key (p.stands.kept.numbers goal there))

      m : (number : ℕ) × (e : Entrance) × IsAlternativeEntered text goal.key number e × IsNode text p.level p.trace depth e now o.node
      m = (goal_nodes text p.level p.trace depth goal.key now o.node).0 (((p.stands.kept.followed goal there).nodes.exact o.node).0 o.among)

      by : (number : ℕ) (e : Entrance) → IsAlternativeEntered text goal.key number e → IsNode text p.level p.trace depth e now o.node → AreEvents text r.group
      by number e entered left =
          let late : e.since ≤ now = subst (λ n. n ≤ now) (sym (entered_since text goal.key number e entered)) after in
          let next : IsNextGround text o.node = ground text accepted formed p.level p.trace depth e entered.rule (number_contained (rules text) goal.key.rule entered.rule entered.of_text) entered.items
          (number_contained entered.rule.alternatives number entered.items entered.of_rule) (ap (λ (e : Entrance). e.sequence) entered.entered) now late o.node left in
          proposed_events text time o.node r.group next o.proposed

  groups_may : (ranked : List Ranked) → ((r : Ranked) → Contains ranked r → AreEvents text r.group) → AllByRecursion (λ (group : Group). AreEvents text group.atoms) (map (λ (r : Ranked). record { atoms = r.group }) ranked)
  groups_may [] each = tt
  groups_may (r ∷ ranked) each = (each r (first_is_contained r ranked), groups_may ranked (λ s at. each s (later_is_contained r ranked s at)))

  asked_may : (some : List Goal) (cs : List Candidate) → ((goal : Goal) → Contains some goal → Contains goals goal) → AreAsked text time some cs → AllByRecursion (MayHappen text) cs
  asked_may [] [] within are = tt
  asked_may [] (c ∷ cs) within are = absurd are
  asked_may (goal ∷ some) [] within are = absurd are
  asked_may (goal ∷ some) (c ∷ cs) within are =
      let proposed = are.0.proposed in
      let here = within goal (first_is_contained goal some) in (
        subst (AllByRecursion (λ (group : Group). AreEvents text group.atoms)) (sym proposed.told) (groups_may proposed.ranked (λ r at. offered_events goal here r (proposed.each r at))),
        asked_may some cs (λ other at. within other (later_is_contained goal some other at)) are.1,
      )

  pub all_may : (cs : List Candidate) → AreAsked text time goals cs → AllByRecursion (MayHappen text) cs
  all_may cs are = asked_may goals cs (λ goal at. at) are

  pub goals_rise : IsStrictlySortedBy (on (λ (goal : Goal). goal.goal.0) nat_cmp) goals
  goals_rise = subst (IsStrictlySortedBy (on (λ (goal : Goal). goal.goal.0) nat_cmp)) p.goals_are p.stands.kept.rising
