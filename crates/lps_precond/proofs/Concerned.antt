-- The denials that are violated with an event are among those that the index finds by it.
use Rattle.std.proofs.Common.{ℕ, suc, ◌<◌, ◌+◌, length, get_or, take, Bool, true, false, ◌≡◌, List, [], ◌∷◌, ◌++◌, ◌∙◌, refl, sym, ap, subst, inl, inr}
use Rattle.std.specs.Prelude.{◌⊎◌, ◌↔◌, ◌||◌, Contains, IsTrue, Some, slice_get}
use Rattle.std.specs.List.{flat_map, list_any}
use Rattle.std.proofs.lemmas.List.{length-map}
use Rattle.std.proofs.lemmas.List.Elements.{Contains-append_cases, Contains-append_left, Contains-append_right}
use Rattle.std.proofs.lemmas.Option.{slice_get_within}
use Rattle.lps_terms.specs.declared.atom.Atom.{Atom}
use Rattle.lps_terms.specs.declared.cond.Cond.{Cond}
use Rattle.lps_terms.specs.declared.cond.Cond.TheVariants as c
use Rattle.lps_terms.specs.declared.item.Item.{Item}
use Rattle.lps_terms.specs.declared.item.Item.TheVariants as i
use Rattle.lps_terms.specs.declared.term.Term.{Term}
use Rattle.lps_terms.specs.declared.text.Text.{Text}
use Rattle.lps_terms.specs.Put.{put_atom}
use Rattle.lps_model.specs.Acceptance.{IsAccepted}
use Rattle.lps_model.specs.Clauses.{clauses}
use Rattle.lps_model.specs.Formed.{is_formed}
use Rattle.lps_model.specs.Rules.{denials}
use Rattle.lps_model.proofs.Elements.{first_is_contained, first_or_later, nothing_contained}
use Rattle.lps_index.specs.Matching.{may_match}
use Rattle.lps_index.specs.Spoken.{AreFound, IsFound, of_items}
use Rattle.lps_derivation.specs.Levels.{AreLevels}
use Rattle.lps_causal.specs.Names.{AreFluents}
use Rattle.lps_solve.specs.Met.{AreGround, AreMet}
use Rattle.lps_solve.proofs.Gaining.{take_more}
use Rattle.lps_solve.proofs.Grounds.{list_stays}
use Rattle.lps_solve.proofs.Matching.{instances_match}
use Rattle.lps_precond.specs.Cut.{Cut, asks_derived, cut, cuts, events_of, touch_of}
use Rattle.lps_precond.specs.Judged.{IsViolatedNumber}
use Rattle.lps_precond.specs.Stages.{AreNews, IsAt, IsLate, IsViolatedBy, IsViolatedByFluent, single}
use Rattle.lps_precond.proofs.Asked.{derived_is, event_conds, touches_are}
use Rattle.lps_precond.proofs.Judging.{got_is_among, image_of}
use Rattle.lps_precond.proofs.Lessening.{before_or_this}
use Rattle.lps_precond.proofs.Modes.{IsEventCond}
use Rattle.lps_precond.proofs.News.{all_met, by_new_alone, by_new_or_touched, event_met, one_event}

-- ---- the atoms of a denial

first_holds : (a b : Bool) → IsTrue a → IsTrue (a || b)
first_holds true b h = h
first_holds false b h = absurd (cc)

second_holds : (a b : Bool) → IsTrue b → IsTrue (a || b)
second_holds true b h = refl
second_holds false b h = h

-- the event may match what is to happen
abbrev may_be : Atom → Cond → Bool
may_be event (c.Lit l) = may_match event l.atom
may_be event (c.Built built) = false

-- an event that may match something that is to happen may match one of the atoms
one_may_match : (event : Atom) (items : List Item) (k : Cond) → Contains (events_of items) k → IsTrue (may_be event k) → IsTrue (list_any (may_match event) (of_items items))
one_may_match event [] k at h = absurd (nothing_contained k at)
one_may_match event (i.Span a from to ∷ items) k at h =
    elim (first_or_later _ (events_of items) k at) [
      | inl same ↦ first_holds (may_match event a) (list_any (may_match event) (of_items items)) (subst (λ (z : Cond). IsTrue (may_be event z)) (sym same) h)
      | inr later ↦ second_holds (may_match event a) (list_any (may_match event) (of_items items)) (one_may_match event items k later h)
    ]
one_may_match event (i.At l time ∷ items) k at h = second_holds (may_match event l.atom) (list_any (may_match event) (of_items items)) (one_may_match event items k at h)
one_may_match event (i.Bare l ∷ items) k at h = second_holds (may_match event l.atom) (list_any (may_match event) (of_items items)) (one_may_match event items k at h)
one_may_match event (i.Built built ∷ items) k at h = one_may_match event items k at h
one_may_match event (i.Con con ∷ items) k at h = one_may_match event items k at h

-- ---- what has to be asked

module _ (text : Text) (accepted : IsAccepted text) (formed : is_formed text ≡ true) (level : List ℕ → ℕ) (events before after : List Atom) where
  -- the denial at the place is violated with one of these events
  abbrev pub IsByEvent : List Atom → Cut → Type 0
  IsByEvent new denial = IsViolatedBy (clauses text) new events before after level denial denial.happen

  -- the same by one of these fluents
  abbrev pub IsByFluent : List Atom → Cut → Type 0
  IsByFluent new denial = IsViolatedByFluent (clauses text) new events before after level denial

  of_text : {P : Cut → Type 0} (place : ℕ) (h : IsAt (cuts text) P place) → Contains (cuts text) h.denial
  of_text place h = got_is_among (cuts text) place h.denial h.at

  is_event : (new : List Atom) (place : ℕ) (h : IsAt (cuts text) (IsByEvent new) place) → IsEventCond text h.holds.cond
  is_event new place h = event_conds text accepted formed h.denial (of_text place h) h.holds.cond h.holds.among

  -- the same conditions over a set that has exactly these facts
  same_by : (one two : List Atom) → ((a : Atom) → Contains one a ↔ Contains two a) → (denial : Cut) (conds : List Cond) → IsViolatedBy (clauses text) one events before after level denial conds →
      IsViolatedBy (clauses text) two events before after level denial conds
  same_by one two same denial conds h = record {
    cond = h.cond;
    among = h.among;
    violated = record {
      values = h.violated.values;
      start = all_met text accepted level one two same h.violated.values (single h.cond) h.violated.start;
      happen = h.violated.happen;
      front = h.violated.front;
      back = h.violated.back;
    };
  }

  moved : (one two : List Atom) → ((a : Atom) → Contains one a ↔ Contains two a) → (place : ℕ) → IsAt (cuts text) (IsByEvent one) place → IsAt (cuts text) (IsByEvent two) place
  moved one two same place h = record { denial = h.denial; at = h.at; holds = same_by one two same h.denial h.denial.happen h.holds }

  -- without events none is violated
  pub by_no_event : (ds : List Cut) → ds ≡ cuts text → (place : ℕ) → IsAt ds (IsByEvent []) place → ⊥
  by_no_event ds is place h = never (subst (λ (xs : List Cut). IsAt xs (IsByEvent []) place) is h)
    where
      none : (s : ℕ → Term) (k : Cond) → IsEventCond text k → AreMet (clauses text) [] level s (single k) → ⊥
      none s (c.Lit l) is' met = nothing_contained (put_atom s l.atom) (event_met text accepted level s l is' [] met.0)
      none s (c.Built built) is' met = is'

      never : IsAt (cuts text) (IsByEvent []) place → ⊥
      never at = none at.holds.violated.values at.holds.cond (is_event [] place at) at.holds.violated.start

  -- the index finds a denial by the event with which it is violated
  module _ (event : Atom) (ground : AreGround event.args) where
    found_so : (place : ℕ) (items : List Item) → slice_get (denials text) place ≡ Some items → (s : ℕ → Term) (k : Cond) → IsEventCond text k → Contains (events_of items) k →
        AreMet (clauses text) (event ∷ []) level s (single k) → IsFound of_items (denials text) event place
    found_so place items there s (c.Lit l) is at met =
        let same : event ≡ put_atom s l.atom = only (put_atom s l.atom) (event_met text accepted level s l is (event ∷ []) met.0) in
        record { statement = items; at = there; matching = one_may_match event items (c.Lit l) at (instances_match s s event l.atom (ap (λ (a : Atom). a.name) same) (list_stays s event.args ground ∙ ap (λ (a : Atom). a.args) same)) }
      where
        only : (other : Atom) → Contains (event ∷ []) other → event ≡ other
        only other among = elim (first_or_later event [] other among) [ inl same ↦ same | inr none ↦ absurd (nothing_contained other none) ]
    found_so place items there s (c.Built built) is at met = absurd is

    found_by : (place : ℕ) → IsAt (cuts text) (IsByEvent (event ∷ [])) place → IsFound of_items (denials text) event place
    found_by place h =
        let image = image_of (cut text) (denials text) place h.denial h.at in
        found_so place image.one image.at h.holds.violated.values h.holds.cond (is_event (event ∷ []) place h)
        (subst (λ (d : Cut). Contains d.happen h.holds.cond) (sym image.is) h.holds.among) h.holds.violated.start

    -- at a place that it finds of either kind
    pub either_found : (ds : List Cut) → ds ≡ cuts text → (one : List Atom) → ((a : Atom) → Contains (event ∷ []) a ↔ Contains one a) → (keyed others : List ℕ) → AreFound of_items (denials text) event (keyed ++ others) →
        (place : ℕ) → IsAt ds (IsByEvent (event ∷ [])) place → (Contains keyed place × IsAt ds (IsByEvent one) place) ⊎ (Contains others place × IsAt ds (IsByEvent one) place)
    either_found ds is one same keyed others are place =
        subst (λ (xs : List Cut). IsAt xs (IsByEvent (event ∷ [])) place → (Contains keyed place × IsAt xs (IsByEvent one) place) ⊎ (Contains others place × IsAt xs (IsByEvent one) place)) (sym is)
        (λ h. elim (Contains-append_cases keyed others place ((are place).1 (found_by place h))) [
          | inl key ↦ inl (key, moved (event ∷ []) one same place h)
          | inr other ↦ inr (other, moved (event ∷ []) one same place h)
        ])

    pub none_found : (ds : List Cut) → ds ≡ cuts text → (places : List ℕ) → places ≡ [] → AreFound of_items (denials text) event places → (place : ℕ) → IsAt ds (IsByEvent (event ∷ [])) place → ⊥
    none_found ds is places none are place =
        subst (λ (xs : List Cut). IsAt xs (IsByEvent (event ∷ [])) place → ⊥) (sym is)
        (λ h. nothing_contained place (subst (λ (ps : List ℕ). Contains ps place) none ((are place).1 (found_by place h))))

  -- a denial that is violated with one of the events so far and one more
  pub violated_more : (ds : List Cut) → ds ≡ cuts text → (new : List Atom) (i : ℕ) (event : Atom) → i < length new → event ≡ get_or new i event → (place : ℕ) → IsAt ds (IsByEvent (take (i + 1) new)) place →
      IsAt ds (IsByEvent (take i new)) place ⊎ IsAt ds (IsByEvent (event ∷ [])) place
  violated_more ds is new i event lt at place =
      subst (λ (xs : List Cut). IsAt xs (IsByEvent (take (i + 1) new)) place → IsAt xs (IsByEvent (take i new)) place ⊎ IsAt xs (IsByEvent (event ∷ [])) place) (sym is) more
    where
      again : (h : IsAt (cuts text) (IsByEvent (take (i + 1) new)) place) (some : List Atom) → AreMet (clauses text) some level h.holds.violated.values (single h.holds.cond) → IsAt (cuts text) (IsByEvent some) place
      again h some start = record {
        denial = h.denial;
        at = h.at;
        holds = record {
          cond = h.holds.cond;
          among = h.holds.among;
          violated = record { values = h.holds.violated.values; start = start; happen = h.holds.violated.happen; front = h.holds.violated.front; back = h.holds.violated.back };
        };
      }

      split : (a : Atom) → Contains (take (i + 1) new) a ↔ (Contains (take i new) a ⊎ Contains (event ∷ []) a)
      split a = (
        λ here. elim (before_or_this new i event lt at a here) [ inl old ↦ inl old | inr this ↦ inr (subst (Contains (event ∷ [])) (sym this) (first_is_contained event [])) ],
        λ here. subst (λ (atoms : List Atom). Contains atoms a) (sym (take_more i new event lt at)) (elim here [
          | inl old ↦ Contains-append_left (take i new) (event ∷ []) a old
          | inr one ↦ Contains-append_right (take i new) (event ∷ []) a one
        ]),
      )

      more : IsAt (cuts text) (IsByEvent (take (i + 1) new)) place → IsAt (cuts text) (IsByEvent (take i new)) place ⊎ IsAt (cuts text) (IsByEvent (event ∷ [])) place
      more h =
          elim (one_event text accepted level (event ∷ []) (take i new) (take (i + 1) new) split h.holds.violated.values h.holds.cond (is_event (take (i + 1) new) place h) h.holds.violated.start.0) [
            | inl old ↦ inl (again h (take i new) (old, tt))
            | inr one ↦ inr (again h (event ∷ []) (one, tt))
          ]

  -- a denial that is violated by one of these fluents has conditions on the state after
  has_back : (new : List Atom) (denial : Cut) → Contains (cuts text) denial → IsByFluent new denial → denial.back ≡ [] → ⊥
  has_back new denial of_text' h none =
      elim h [
        | inl derived ↦ (let no : true ≡ false = sym derived.0 ∙ derived_is text accepted formed denial of_text' ∙ ap (list_any (asks_derived text)) none in cc)
        | inr by ↦ nothing_contained by.cond (subst (λ (ks : List Cond). Contains ks by.cond) (touches_are text accepted formed denial of_text' ∙ ap (flat_map (touch_of text)) none) by.among)
      ]

  -- and is among those
  pub late_by_fluent : (ds : List Cut) → ds ≡ cuts text → (one two : List Atom) → ((a : Atom) → Contains one a ↔ Contains two a) → (place : ℕ) → IsAt ds (IsByFluent one) place → IsLate ds place × IsAt ds (IsByFluent two) place
  late_by_fluent ds is one two same place =
      subst (λ (xs : List Cut). IsAt xs (IsByFluent one) place → IsLate xs place × IsAt xs (IsByFluent two) place) (sym is)
      (λ h. (
        record { denial = h.denial; at = h.at; holds = has_back one h.denial (of_text place h) h.holds },
        record { denial = h.denial; at = h.at; holds = elim h.holds [ inl derived ↦ inl derived | inr by ↦ inr (same_by one two same h.denial h.denial.touches by) ] },
      ))

  -- a violated denial is violated with a new event, or by a touched fluent
  module _ (levels : AreLevels (clauses text) level) (all new touched : List Atom) (news : AreNews text all new events before after touched) (place : ℕ)
      (h : IsViolatedNumber (clauses text) events before after level (cuts text) (suc place)) where
    denial_of_text : Contains (cuts text) h.0
    denial_of_text = got_is_among (cuts text) place h.0 h.1

    pub at_new_or_touched : AreFluents text after → IsAt (cuts text) (IsByEvent new) place ⊎ IsAt (cuts text) (IsByFluent touched) place
    at_new_or_touched fluents =
        elim (by_new_or_touched text accepted formed level levels all new events before after touched news h.0 denial_of_text h.2 fluents) [
          | inl one ↦ inl (record { denial = h.0; at = h.1; holds = one })
          | inr one ↦ inr (record { denial = h.0; at = h.1; holds = one })
        ]

    pub at_new_alone : (length all ≡ length new) ⊎ (touched ≡ []) → IsAt (cuts text) (IsByEvent new) place
    at_new_alone none = record { denial = h.0; at = h.1; holds = by_new_alone text accepted formed level levels all new events before after touched news h.0 denial_of_text h.2 none }

-- ---- what the index finds

-- the denials that are found are there
pub found_within : (text : Text) (event : Atom) (places : List ℕ) → AreFound of_items (denials text) event places → (cut_so : List Cut) → cut_so ≡ cuts text → (place : ℕ) → Contains places place → place < length cut_so
found_within text event places are cut_so is place at =
    let found = (are place).0 at in
    let lt : place < length (denials text) = slice_get_within (denials text) place found.statement found.at in
    subst (λ (ds : List Cut). place < length ds) (sym is) (subst (λ n. place < n) (sym (length-map (denials text) (cut text))) lt)
