-- In no cycle of a run of an accepted text does what happens violate a denial: each event and each pick is judged with all
-- that happens before it, and where nothing happens no denial is violated, since each has an event.
use Rattle.std.proofs.Common.{ℕ, true, false, ◌≡◌, List, [], ◌∷◌, ◌++◌, sym, subst, append-nil, append_assoc}
use Rattle.std.specs.Prelude.{Some, Contains, map}
use Rattle.std.specs.List.{AllByRecursion, flat_map}
use Rattle.lps_terms.specs.declared.atom.Atom.{Atom}
use Rattle.lps_terms.specs.declared.body.Body.{Body}
use Rattle.lps_terms.specs.declared.body.Body.TheVariants as b
use Rattle.lps_terms.specs.declared.item.Item.{Item}
use Rattle.lps_terms.specs.declared.item.Item.TheVariants as i
use Rattle.lps_terms.specs.declared.statement.Statement.{Statement}
use Rattle.lps_terms.specs.declared.term.Term.{Term}
use Rattle.lps_terms.specs.declared.text.Text.{Text}
use Rattle.lps_terms.specs.Put.{put_atom}
use Rattle.lps_model.specs.declared.cycle.Cycle.{Cycle}
use Rattle.lps_model.specs.declared.cycle.Pick.{Pick}
use Rattle.lps_model.specs.declared.trace.Trace.{Trace}
use Rattle.lps_model.specs.declared.verdict.Verdict.{Verdict}
use Rattle.lps_model.specs.declared.verdict.Verdict.TheVariants.{Admitted, Rejected}
use Rattle.lps_model.specs.Acceptance.{IsAccepted}
use Rattle.lps_model.specs.KindRefusals.{has_no_event, has_span}
use Rattle.lps_model.specs.Trace.{admitted, happens_in, then_cycle}
use Rattle.lps_model.proofs.Elements.{nothing_contained}
use Rattle.lps_model.proofs.Stated.{flat_within, not_not, only_one, statement_has_event}
use Rattle.lps_meaning.specs.declared.goal.GoalKey.{GoalKey}
use Rattle.lps_meaning.specs.Cycles.{AreJudged, ArePicks, AreLegal, IsLegal}
use Rattle.lps_meaning.specs.Denials.{IsMetBy, ViolatesNone}
use Rattle.lps_meaning.specs.Items.{put_item}
use Rattle.lps_meaning.specs.Laws.{NoneIsViolated}
use Rattle.lps_model.specs.Rules.{denial_in, denials, numbered}
use Rattle.lps_meaning.proofs.Lists.{number_contained}

-- ---- each denial of an accepted text has an event

in_body : (body : Body) (denial : List Item) → has_no_event body ≡ false → Contains (denial_in body) denial → has_span denial ≡ true
in_body (b.Denial items) denial e within = subst (λ is. has_span is ≡ true) (only_one items denial within) (not_not (has_span items) e)
in_body (b.Declare decls) denial e within = absurd (nothing_contained denial within)
in_body (b.Initially facts) denial e within = absurd (nothing_contained denial within)
in_body (b.Rule antecedent alternatives) denial e within = absurd (nothing_contained denial within)
in_body (b.Law initiates event fluent conds) denial e within = absurd (nothing_contained denial within)
in_body (b.Clause head conds) denial e within = absurd (nothing_contained denial within)
in_body (b.MacroClause head begin end items) denial e within = absurd (nothing_contained denial within)

has_event : (text : Text) → IsAccepted text → (k : ℕ) (denial : List Item) → numbered (denials text) k ≡ Some denial → has_span denial ≡ true
has_event text accepted k denial e =
    let found = flat_within (λ (s : Statement). denial_in s.body) text.statements denial (number_contained (denials text) k denial e) in
    in_body found.one.body denial (statement_has_event text accepted found.one found.among) found.within

-- ---- one cycle

module _ (text : Text) (level : List ℕ → ℕ) (trace : Trace) where
  -- the event of a denial is not met where nothing happens
  not_met : (values : ℕ → Term) (times : ℕ → ℕ) (items : List Item) → has_span items ≡ true →
      AllByRecursion (IsMetBy text level trace [] times) (map (put_item values) items) → ⊥
  not_met values times [] has met = cc
  not_met values times (i.Span a from to ∷ items) has met = nothing_contained (put_atom values a) met.0.2
  not_met values times (i.At l time ∷ items) has met = not_met values times items has met.1
  not_met values times (i.Bare l ∷ items) has met = not_met values times items has met.1
  not_met values times (i.Built built ∷ items) has met = not_met values times items has met.1
  not_met values times (i.Con con ∷ items) has met = met.0

  nothing_violates : IsAccepted text → ViolatesNone text level trace []
  nothing_violates accepted k violated =
      not_met violated.2.values violated.2.times violated.0 (has_event text accepted k violated.0 violated.1) violated.2.met

  module _ (depth : ℕ) where
    judged : (before events : List Atom) (verdicts : List Verdict) → ViolatesNone text level trace before →
        AreJudged text level trace before events verdicts → ViolatesNone text level trace (before ++ admitted events verdicts)
    judged before [] [] none are = subst (ViolatesNone text level trace) (sym (append-nil before)) none
    judged before [] (verdict ∷ verdicts) none are = absurd are
    judged before (event ∷ events) [] none are = absurd are
    judged before (event ∷ events) (Admitted ∷ verdicts) none are =
        subst (ViolatesNone text level trace) (append_assoc before (event ∷ []) (admitted events verdicts))
        (judged (before ++ event ∷ []) events verdicts are.0 are.1)
    judged before (event ∷ events) (Rejected k ∷ verdicts) none are =
        judged before events verdicts none (subst (λ so_far. AreJudged text level trace so_far events verdicts) (append-nil before) are.1)

    picked : (keys : List GoalKey) (taken : List ℕ) (before : List Atom) (picks : List Pick) → ViolatesNone text level trace before →
        ArePicks text level depth trace keys taken before picks → ViolatesNone text level trace (before ++ flat_map (λ pick. pick.group.atoms) picks)
    picked keys taken before [] none are = subst (ViolatesNone text level trace) (sym (append-nil before)) none
    picked keys taken before (pick ∷ picks) none are =
        subst (ViolatesNone text level trace) (append_assoc before pick.group.atoms (flat_map (λ pick. pick.group.atoms) picks))
        (picked keys (pick.goal ∷ taken) (before ++ pick.group.atoms) picks are.2 are.3)

    legal_violates_none : IsAccepted text → (cycle : Cycle) → IsLegal text level depth trace cycle → ViolatesNone text level trace (happens_in cycle)
    legal_violates_none accepted cycle legal =
        picked legal.keys [] (admitted cycle.events cycle.verdicts) cycle.picks
        (judged [] cycle.events cycle.verdicts (nothing_violates accepted) legal.judged) legal.picks

-- ---- each cycle of a run

module _ (text : Text) (level : List ℕ → ℕ) (depth : ℕ) where
  -- the cycle behind these is legal after them
  legal_behind : (trace : Trace) (before after : List Cycle) (cycle : Cycle) → AreLegal text level depth trace (before ++ cycle ∷ after) →
      IsLegal text level depth (record { initial = trace.initial; cycles = trace.cycles ++ before }) cycle
  legal_behind trace [] after cycle are =
      subst (λ cycles. IsLegal text level depth (record { initial = trace.initial; cycles = cycles }) cycle) (sym (append-nil trace.cycles)) are.0
  legal_behind trace (c ∷ before) after cycle are =
      subst (λ cycles. IsLegal text level depth (record { initial = trace.initial; cycles = cycles }) cycle) (append_assoc trace.cycles (c ∷ []) before)
      (legal_behind (then_cycle trace c) before after cycle are.1)

pub none_is_violated : NoneIsViolated
none_is_violated text level depth trace accepted run before after cycle cycles =
    legal_violates_none text level (record { initial = trace.initial; cycles = before }) depth accepted cycle
    (legal_behind text level depth (record { initial = trace.initial; cycles = [] }) before after cycle (subst (AreLegal text level depth _) cycles run.legal))
