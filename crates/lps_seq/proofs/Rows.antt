-- What is led to once the first item is met is what is led to by each of the ways to meet it.
use Rattle.std.proofs.Common.{ℕ, ◌≡◌, ◌⊎◌, ◌+◌, ◌<◌, ◌≤◌, Bool, true, false, nat_eq, List, [], ◌∷◌, get_or, length, map, refl, sym, ap, subst, ◌∙◌, inl, inr, arith}
use Rattle.std.specs.Prelude.{Contains, zero, suc}
use Rattle.std.specs.List.{AllByRecursion}
use Rattle.std.proofs.lemmas.Bool.Decides.{nat_tests}
use Rattle.lps_terms.specs.declared.term.Term.{Term}
use Rattle.lps_terms.specs.declared.values.Values.{Values}
use Rattle.lps_terms.specs.Put.{put}
use Rattle.lps_facts.specs.Facts.{members}
use Rattle.lps_model.specs.declared.trace.Trace.{Trace}
use Rattle.lps_model.specs.Acceptance.{IsAccepted}
use Rattle.lps_model.specs.Clauses.{clauses}
use Rattle.lps_meaning.specs.declared.node.Carry.{Carry}
use Rattle.lps_meaning.specs.declared.node.LeftItem.{LeftItem}
use Rattle.lps_meaning.specs.declared.node.Node.{Node}
use Rattle.lps_meaning.specs.declared.when.When.{When}
use Rattle.lps_nodes.specs.Alone.{Stage as WalkStage}
use Rattle.lps_nodes.specs.Led.{IsLedTo, IsLedToEnd}
use Rattle.lps_residual.specs.Limits.{HasFalse, IsOpenOrTrue}
use Rattle.lps_residual.specs.Putting.{value_at, when_at}
use Rattle.lps_meeting.specs.declared.moment.Moment.{Moment}
use Rattle.lps_meeting.specs.declared.stage.Stage.{Stage}
use Rattle.lps_meeting.specs.declared.ways.Ways.{Ways}
use Rattle.lps_meeting.specs.Stages.{IsFirst, IsReadyStage, IsStageOf, Meets}
use Rattle.lps_meeting.specs.Steps.{AreGroundAtoms, AreTimesWhenMet, AreValuesBy, AreWays, IsAtTime, IsDue, limits_with, stage_behind}
use Rattle.lps_meeting.proofs.Meeting.{meets_by, met_by}
use Rattle.lps_meeting.proofs.Timeless.{timeless_alike}
use Rattle.lps_meeting.proofs.Readiness.{events_behind}
use Rattle.lps_facts.proofs.Sets.{true_not_false}
use Rattle.lps_seq.specs.declared.found.Found.{Found}
use Rattle.lps_seq.specs.Found.{Adds, AreOnce}
use Rattle.lps_seq.specs.Leads.{IsIn, Leads, LeadsByMeeting, LeadsByRow}
use Rattle.lps_seq.proofs.Ending.{adds_none, contained_all}
use Rattle.lps_seq.proofs.Stepping.{open_ended, open_led}

-- no constraint is both false and not false
pub not_both : (limits : _) → HasFalse limits → AllByRecursion IsOpenOrTrue limits → ⊥
not_both limits has all = elim (contained_all IsOpenOrTrue limits all has.con has.among) [
  | inl opened ↦ true_not_false (sym opened ∙ has.known)
  | inr holds ↦ has.is_false holds
]

module _ (m : Moment) (stage : Stage) (item : LeftItem) (whens : List When) (terms : List Term) where
  -- the stage is one to which meeting the item leads by the row
  pub record IsByRow (row : List Term) (level : List ℕ → ℕ) (trace : Trace) (x y : WalkStage) : Type 0 where
    pub meets : Meets m.program.now level trace m.time x y
    pub some : (s : ℕ → Term) × (map (put s) terms ≡ row)
    pub behind : (values : List Term) → AreValuesBy m.variables terms row values → AllByRecursion IsOpenOrTrue y.shape.limits →
        AllByRecursion IsOpenOrTrue (limits_with stage (when_at whens)) × IsStageOf m.program.now m.time (stage_behind stage m.time (value_at values) (when_at whens) item) y

  -- what is added is led to once the item is met, and all that is led to by these rows is
  pub record AddsRows (old new : Found) (rows : List Term → Type 0) (level : List ℕ → ℕ) (trace : Trace) (x : WalkStage) (depth : ℕ) : Type 0 where
    pub kept : (o : Node) → Contains old.nodes.items o → Contains new.nodes.items o
    pub kept_carries : (c : Carry) → Contains old.ended.keys c → Contains new.ended.keys c
    pub once : AreOnce old.nodes.items → AreOnce new.nodes.items
    pub sound : (o : Node) → Contains new.nodes.items o →
        Contains old.nodes.items o ⊎ ((y : WalkStage) × Meets m.program.now level trace m.time x y × IsLedTo m.program.now level trace depth m.time y stage.node.alternative o)
    pub sound_carries : (c : Carry) → Contains new.ended.keys c →
        Contains old.ended.keys c ⊎ ((y : WalkStage) × Meets m.program.now level trace m.time x y × IsLedToEnd m.program.now level trace depth m.time y c)
    pub full : (row : List Term) → rows row → (y : WalkStage) → IsByRow row level trace x y → (o : Node) → IsLedTo m.program.now level trace depth m.time y stage.node.alternative o →
        Contains new.nodes.items o
    pub full_carries : (row : List Term) → rows row → (y : WalkStage) → IsByRow row level trace x y → (c : Carry) → IsLedToEnd m.program.now level trace depth m.time y c → Contains new.ended.keys c

-- these rows are among the first so many
abbrev pub IsEarlier : List Values → ℕ → List Term → Type 0
IsEarlier rows count row = (k : ℕ) × (k < count) × (k < length rows) × ((d : Values) → (get_or rows k d).0 ≡ row)

-- so far, all that the rows lead to is added
abbrev pub AddsByRows : Moment → Stage → LeftItem → List When → List Term → List Values → ℕ → Found → Found → Type 0
AddsByRows m stage item whens terms rows count old new = (level : List ℕ → ℕ) (trace : Trace) (x : WalkStage) → IsIn m stage level trace x → (depth : ℕ) →
    AddsRows m stage item whens terms old new (IsEarlier rows count) level trace x depth

pub no_rows : (m : Moment) (stage : Stage) (item : LeftItem) (whens : List When) (terms : List Term) (rows : List Values) (found : Found) → AddsByRows m stage item whens terms rows 0 found found
no_rows m stage item whens terms rows found level trace x is depth = record {
  kept = λ o h. h;
  kept_carries = λ c h. h;
  once = λ h. h;
  sound = λ o h. inl h;
  sound_carries = λ c h. inl h;
  full = λ row earlier y by o led. absurd (let below = earlier.1 in omega (arith, below));
  full_carries = λ row earlier y by c led. absurd (let below = earlier.1 in omega (arith, below));
}

-- a row among one more is among those before, or the last
earlier_or : (rows : List Values) (count : ℕ) (row : List Term) → IsEarlier rows (count + 1) row → IsEarlier rows count row ⊎ ((d : Values) → (get_or rows count d).0 ≡ row)
earlier_or rows count row h = by (nat_eq h.0 count) refl where
  by : (b : Bool) → nat_eq h.0 count ≡ b → IsEarlier rows count row ⊎ ((d : Values) → (get_or rows count d).0 ≡ row)
  by true e = let same : h.0 ≡ count = grind (arith, nat_tests) in inr (λ d. ap (λ k. (get_or rows k d).0) (sym same) ∙ h.3 d)
  by false e = inl (h.0, (let below = h.1 in grind (arith, nat_tests)), h.2, h.3)

pub get_mapped : (rows : List Values) (k : ℕ) (d : Values) (e : List Term) → k < length rows → (get_or rows k d).0 ≡ get_or (map (λ v. v.0) rows) k e
get_mapped [] k d e below = absurd (omega (arith, below))
get_mapped (row ∷ rows) zero d e below = refl
get_mapped (row ∷ rows) (suc k) d e below = get_mapped rows k d e (omega (arith, below))

pub as_many : (rows : List Values) → length (map (λ v. v.0) rows) ≡ length rows
as_many [] = refl
as_many (row ∷ rows) = ap suc (as_many rows)

-- each row is among all
earlier_all : (rows : List Values) (count : ℕ) (row : List Term) → length rows ≤ count → Contains (map (λ v. v.0) rows) row → IsEarlier rows count row
earlier_all rows count row all there =
    let below : there.0 < length rows = subst (λ n. there.0 < n) (as_many rows) there.1 in
    (there.0, omega (arith, below, all), below, λ d. get_mapped rows there.0 d row below ∙ there.2)

module _ (m : Moment) (accepted : IsAccepted m.program.now) (ground : AreGroundAtoms m.events.now) (stage : Stage) (ready : IsReadyStage m stage) (item : LeftItem) (first : IsFirst stage item) (due : IsDue stage m.time item)
    (whens : List When) (times : AreTimesWhenMet m.unknowns m.time item whens) (ways : Ways)
    (are_ways : AreWays (clauses m.program.now) (members m.facts.now) m.events.now m.variables item ways) where
  -- one more row
  pub more_rows : (count : ℕ) (old mid new : Found) (row : List Term) → count < length ways.rows.items → ((d : Values) → (get_or ways.rows.items count d).0 ≡ row) →
      Contains (map (λ v. v.0) ways.rows.items) row →
      AddsByRows m stage item whens ways.terms ways.rows.items count old mid → LeadsByRow m stage item ways.terms row (when_at whens) mid new →
      AddsByRows m stage item whens ways.terms ways.rows.items (count + 1) old new
  more_rows count old mid new row below at among adds led level trace x is depth = by led where
    a : AddsRows m stage item whens ways.terms old mid (IsEarlier ways.rows.items count) level trace x depth
    a = adds level trace x is depth

    this : (other : List Term) → ((d : Values) → (get_or ways.rows.items count d).0 ≡ other) → (y : WalkStage) → IsByRow m stage item whens ways.terms other level trace x y →
        IsByRow m stage item whens ways.terms row level trace x y
    this other at_other y h =
        let d : Values = record { 0 = [] } in
        subst (λ z. IsByRow m stage item whens ways.terms z level trace x y) (sym (at_other d) ∙ at d) h

    nothing : ((y : WalkStage) → IsByRow m stage item whens ways.terms row level trace x y → AllByRecursion IsOpenOrTrue y.shape.limits → ⊥) →
        AddsRows m stage item whens ways.terms old mid (IsEarlier ways.rows.items (count + 1)) level trace x depth
    nothing none = record {
      kept = a.kept;
      kept_carries = a.kept_carries;
      once = a.once;
      sound = a.sound;
      sound_carries = a.sound_carries;
      full = λ other earlier y h o leads. elim (earlier_or ways.rows.items count other earlier) [
        | inl before ↦ a.full other before y h o leads
        | inr last ↦ absurd (none y (this other last y h) (open_led m.program.now level trace depth m.time stage.node.alternative y o leads))
      ];
      full_carries = λ other earlier y h k leads. elim (earlier_or ways.rows.items count other earlier) [
        | inl before ↦ a.full_carries other before y h k leads
        | inr last ↦ absurd (none y (this other last y h) (open_ended m.program.now level trace depth m.time y k leads))
      ];
    }

    there : (values : List Term) → Leads m (stage_behind stage m.time (value_at values) (when_at whens) item) mid new → (y : WalkStage) → IsStageOf m.program.now m.time (stage_behind stage m.time (value_at values) (when_at whens) item) y →
        Adds mid new (IsLedTo m.program.now level trace depth m.time y stage.node.alternative) (IsLedToEnd m.program.now level trace depth m.time y)
    there values leads y is_y = leads level trace y (record { levels = is.levels; state = is.state; events = events_behind m stage trace (value_at values) (when_at whens) item due is.events; is = is_y }) depth

    something : (values : List Term) → AreValuesBy m.variables ways.terms row values → AllByRecursion IsOpenOrTrue (limits_with stage (when_at whens)) →
        Leads m (stage_behind stage m.time (value_at values) (when_at whens) item) mid new → AddsRows m stage item whens ways.terms old new (IsEarlier ways.rows.items (count + 1)) level trace x depth
    something values are_values right leads =
        let one = meets_by m stage ready item first x is.is whens times ways are_ways row among values are_values level is.levels trace is.state (timeless_alike m.program.now accepted level trace m.time) ground is.events due in
        let more = there values leads one.0 (one.2 right) in
        record {
          kept = λ o h. (more.nodes o).1 (inl (a.kept o h));
          kept_carries = λ k h. (more.ended k).1 (inl (a.kept_carries k h));
          once = λ h. more.once (a.once h);
          sound = λ o h. elim ((more.nodes o).0 h) [
            | inl was ↦ a.sound o was
            | inr new ↦ inr (one.0, one.1, new)
          ];
          sound_carries = λ k h. elim ((more.ended k).0 h) [
            | inl was ↦ a.sound_carries k was
            | inr new ↦ inr (one.0, one.1, new)
          ];
          full = λ other earlier y h o led. elim (earlier_or ways.rows.items count other earlier) [
            | inl before ↦ (more.nodes o).1 (inl (a.full other before y h o led))
            | inr last ↦
                let is_y = ((this other last y h).behind values are_values (open_led m.program.now level trace depth m.time stage.node.alternative y o led)).1 in
                ((there values leads y is_y).nodes o).1 (inr led)
          ];
          full_carries = λ other earlier y h k led. elim (earlier_or ways.rows.items count other earlier) [
            | inl before ↦ (more.ended k).1 (inl (a.full_carries other before y h k led))
            | inr last ↦
                let is_y = ((this other last y h).behind values are_values (open_ended m.program.now level trace depth m.time y k led)).1 in
                ((there values leads y is_y).ended k).1 (inr led)
          ];
        }

    by : LeadsByRow m stage item ways.terms row (when_at whens) mid new → AddsRows m stage item whens ways.terms old new (IsEarlier ways.rows.items (count + 1)) level trace x depth
    by (inl (none, same)) =
        subst (λ f. AddsRows m stage item whens ways.terms old f (IsEarlier ways.rows.items (count + 1)) level trace x depth) (sym same) (nothing (λ y h opened. none h.some.0 h.some.1))
    by (inr (values, are_values, inl (wrong, same))) =
        subst (λ f. AddsRows m stage item whens ways.terms old f (IsEarlier ways.rows.items (count + 1)) level trace x depth) (sym same)
        (nothing (λ y h opened. not_both (limits_with stage (when_at whens)) wrong (h.behind values are_values opened).0))
    by (inr (values, are_values, inr (right, leads))) = something values are_values right leads

  -- all rows
  pub all_rows : (count : ℕ) (old new : Found) → length ways.rows.items ≤ count → AddsByRows m stage item whens ways.terms ways.rows.items count old new → LeadsByMeeting m stage old new
  all_rows count old new all adds level trace x is depth = record {
    nodes = λ o. (
      a.sound o,
      λ h. elim h [
        | inl was ↦ a.kept o was
        | inr led ↦ let r = row_of led.0 led.1 in a.full r.0 r.1 led.0 r.2 o led.2
      ],
    );
    once = a.once;
    ended = λ k. (
      a.sound_carries k,
      λ h. elim h [
        | inl was ↦ a.kept_carries k was
        | inr led ↦ let r = row_of led.0 led.1 in a.full_carries r.0 r.1 led.0 r.2 k led.2
      ],
    );
  } where
    a : AddsRows m stage item whens ways.terms old new (IsEarlier ways.rows.items count) level trace x depth
    a = adds level trace x is depth

    row_of : (y : WalkStage) → Meets m.program.now level trace m.time x y → (row : List Term) × IsEarlier ways.rows.items count row × IsByRow m stage item whens ways.terms row level trace x y
    row_of y meets =
        let by = met_by m stage ready item first x is.is level is.levels trace is.state (timeless_alike m.program.now accepted level trace m.time) is.events y meets in
        let r = by.2 ways are_ways in
        (r.row, earlier_all ways.rows.items count r.row all r.among, record { meets = meets; some = (r.values, r.reached); behind = λ values are_values opened. r.next values are_values whens times opened })

-- no way to meet it at this time
pub none_by_time : (m : Moment) (accepted : IsAccepted m.program.now) (stage : Stage) (ready : IsReadyStage m stage) (item : LeftItem) (first : IsFirst stage item) (found : Found) →
    ((w : ℕ → When) → IsDue stage m.time item → IsAtTime w m.time item → ⊥) → LeadsByMeeting m stage found found
none_by_time m accepted stage ready item first found none level trace x is depth =
    adds_none found _ _
    (λ o led. let by = met_by m stage ready item first x is.is level is.levels trace is.state (timeless_alike m.program.now accepted level trace m.time) is.events led.0 led.1 in none by.1.0 by.0 by.1.1)
    (λ c led. let by = met_by m stage ready item first x is.is level is.levels trace is.state (timeless_alike m.program.now accepted level trace m.time) is.events led.0 led.1 in none by.1.0 by.0 by.1.1)
