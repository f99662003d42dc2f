-- What is true at a time, and the status of a goal, depends on the cycles up to it alone.
use Rattle.std.proofs.Common.{ℕ, zero, suc, ◌≡◌, ◌≤◌, ◌<◌, List, [], ◌∷◌, ◌++◌, length, refl, sym, ap, subst, arith, inl, inr, ◌∙◌}
use Rattle.std.specs.Prelude.{◌↔◌, Bool, true, false, Contains, Option, Some, None, slice_get}
use Rattle.lps_terms.specs.declared.atom.Atom.{Atom}
use Rattle.lps_terms.specs.declared.item.Item.{Item}
use Rattle.lps_terms.specs.declared.item.Item.TheVariants as i
use Rattle.lps_terms.specs.declared.lit.Lit.{Lit}
use Rattle.lps_terms.specs.declared.text.Text.{Text}
use Rattle.lps_model.specs.declared.trace.Trace.{Trace}
use Rattle.lps_model.specs.Trace.{events_at, cycle_at, cycle_or_none, happens_in}
use Rattle.lps_model.proofs.Growth.{AreSame, same_back}
use Rattle.lps_meaning.specs.declared.goal.Closed.{Closed}
use Rattle.lps_meaning.specs.declared.goal.Closed.TheVariants as c
use Rattle.lps_meaning.specs.declared.goal.GoalKey.{GoalKey}
use Rattle.lps_meaning.specs.Holds.{Causes, Holds, CausedIn, IsTrueAt, IsTrueLit}
use Rattle.lps_meaning.specs.Items.{put_item}
use Rattle.lps_meaning.specs.Sequences.{Place, Values, Times, Walk, stop, pass, replace, IsTrueItem}
use Rattle.lps_meaning.specs.Goals.{Reaches, IsGoal, IsFulfilled, IsFulfilledWithin, IsPlan, HasLive, HasMetCut, HasStatus, shared_values}
use Rattle.lps_meaning.specs.Laws.{IsContinuation}
use Rattle.lps_meaning.proofs.Persistence.{true_same, agrees_same, causes_same, start_law, update_law, turn}

-- ---- continuations

-- what stands before more
slice_get-more : {X : Type 0} (xs ys : List X) (k : ℕ) → k < length xs → slice_get (xs ++ ys) k ≡ slice_get xs k
slice_get-more [] ys k lt = absurd (omega arith)
slice_get-more (x ∷ xs) ys zero lt = refl
slice_get-more (x ∷ xs) ys (suc k) lt = slice_get-more xs ys k (omega arith)

-- a trace and its continuation have the same cycles up to a time of the trace
pub same_now : (trace longer : Trace) → IsContinuation trace longer → (now : ℕ) → now ≤ length trace.cycles → AreSame now trace longer
same_now trace longer on now upto = record { initial = sym on.initial; cycles = at }
  where
    at : (k : ℕ) → k ≤ now → cycle_at trace k ≡ cycle_at longer k
    at zero le = refl
    at (suc k) le =
        ap cycle_or_none (sym (ap (λ cs. slice_get cs k) on.cycles ∙ slice_get-more trace.cycles on.more k (omega arith)))

-- ---- states

module _ (text : Text) (level : List ℕ → ℕ) where
  -- the same events over the same fluents cause the same
  caused_over : (initiates : Bool) (One Two : Atom → Type 0) → ((a : Atom) → One a ↔ Two a) → (k : ℕ) (trace other : Trace) → cycle_at trace k ≡ cycle_at other k →
      (fluent : Atom) → Causes text level initiates One (events_at trace k) fluent → Causes text level initiates Two (events_at other k) fluent
  caused_over initiates One Two same k trace other cycles fluent h =
      subst (λ (events : List Atom). Causes text level initiates Two events fluent) (ap happens_in cycles)
      (causes_same text level initiates One Two same (events_at trace k) fluent h)

  pub holds_same : (now : ℕ) (trace other : Trace) → AreSame now trace other → (j : ℕ) → j ≤ now → (a : Atom) → Holds text level trace j a ↔ Holds text level other j a
  holds_same now trace other same zero le a =
      let one = start_law text level trace a in let two = start_law text level other a in (
        (λ h. two.1 (subst (λ (facts : List Atom). Contains facts a) same.initial (one.0 h))),
        (λ h. one.1 (subst (λ (facts : List Atom). Contains facts a) (sym same.initial) (two.0 h))),
      )
  holds_same now trace other same (suc j) le a =
      let before = holds_same now trace other same j (omega arith) in
      let cycles = same.cycles (suc j) le in
      let there : (initiates : Bool) → CausedIn text level trace (Holds text level trace) initiates (suc j) a → CausedIn text level other (Holds text level other) initiates (suc j) a =
      λ initiates h. caused_over initiates (Holds text level trace j) (Holds text level other j) before (suc j) trace other cycles a h in
      let back : (initiates : Bool) → CausedIn text level other (Holds text level other) initiates (suc j) a → CausedIn text level trace (Holds text level trace) initiates (suc j) a =
      λ initiates h. caused_over initiates (Holds text level other j) (Holds text level trace j) (λ b. turn (before b)) (suc j) other trace (sym cycles) a h in
      let one = update_law text level trace a j in let two = update_law text level other a j in (
        (λ h. two.1 (elim (one.0 h) [
          | inl is ↦ inl (there true is)
          | inr held ↦ inr ((before a).0 held.0, λ e. held.1 (back false e.0, λ x. e.1 (there true x)))
        ])),
        (λ h. one.1 (elim (two.0 h) [
          | inl is ↦ inl (back true is)
          | inr held ↦ inr ((before a).1 held.0, λ e. held.1 (there false e.0, λ x. e.1 (back true x)))
        ])),
      )

  module _ (now : ℕ) (trace other : Trace) (same : AreSame now trace other) where
    pub lit_same : (j : ℕ) → j ≤ now → (l : Lit) → IsTrueLit text level trace j l → IsTrueLit text level other j l
    lit_same j le l h =
        agrees_same l.negated (IsTrueAt text level trace j l.atom) (IsTrueAt text level other j l.atom)
        (true_same text level (Holds text level trace j) (Holds text level other j) (holds_same now trace other same j le) l.atom) h

    item_same : (upto : ℕ) (t : ℕ → ℕ) (item : Item) → upto ≤ now → IsTrueItem text level trace upto t item → IsTrueItem text level other upto t item
    item_same upto t (i.At l time) le h = (h.0, lit_same (t time.0) (let x = h.0 in omega arith) l h.1)
    item_same upto t (i.Bare l) le h = lit_same 0 (omega arith) l h
    item_same upto t (i.Built b) le h = h
    item_same upto t (i.Span a from to) le h =
        (h.0, subst (λ (events : List Atom). Contains events a) (ap happens_in (same.cycles (t to.0) (let x = h.0 in omega arith))) h.1)
    item_same upto t (i.Con con) le h = h

    pub walk_same : (given : List ℕ) (s : Values) (t : Times) {upto : ℕ} {end place : Place} → upto ≤ now →
        Walk text level trace given s t upto end place → Walk text level other given s t upto end place
    walk_same given s t le stop = stop
    walk_same given s t {upto} le (pass env nest joins item rest left no_call is_true small placed walk) =
        pass env nest joins item rest left no_call (item_same upto (t env) (put_item (s env) item) le is_true) small placed (walk_same given s t le walk)
    walk_same given s t le (replace e rest a from to number clause left item macro named values times small walk) =
        replace e rest a from to number clause left item macro named values times small (walk_same given s t le walk)

    module _ (key : GoalKey) where
      abbrev reaches_same : (upto : ℕ) (end : Place) → upto ≤ now → Reaches text level trace key upto end → Reaches text level other key upto end
      reaches_same upto end le h = record {
        rule = h.rule;
        of_text = h.of_text;
        alternative = h.alternative;
        items = h.items;
        of_rule = h.of_rule;
        values = h.values;
        times = h.times;
        ground = h.ground;
        of_key = h.of_key;
        walk = walk_same (shared_values h.rule) h.values h.times le h.walk;
      }

      met_same : (upto : ℕ) → upto ≤ now → IsFulfilled text level trace key upto → IsFulfilled text level other key upto
      met_same upto le h = record { end = h.end; reaches = reaches_same upto h.end le h.reaches; whole = h.whole; limits = h.limits }

      abbrev plan_same : (depth upto : ℕ) (end : Place) → upto ≤ now → IsPlan text level trace depth key upto end → IsPlan text level other depth key upto end
      plan_same depth upto end le h = record { reaches = reaches_same upto end le h.reaches; within = h.within; on = h.on }

      pub met_within_same : (depth upto : ℕ) → upto ≤ now → IsFulfilledWithin text level trace depth key upto → IsFulfilledWithin text level other depth key upto
      met_within_same depth upto le h = record {
        met = record { end = h.met.end; reaches = reaches_same upto h.met.end le h.met.reaches; whole = h.met.whole; limits = h.met.limits };
        within = h.within;
      }

      pub live_same : (depth upto : ℕ) → upto ≤ now → HasLive text level trace depth key upto → HasLive text level other depth key upto
      live_same depth upto le h = (h.0, record { plan = plan_same depth upto h.0 le h.1.plan; no_call = h.1.no_call })

      pub cut_same : (depth upto : ℕ) → upto ≤ now → HasMetCut text level trace depth key upto → HasMetCut text level other depth key upto
      cut_same depth upto le h =
          (h.0, h.1, h.2, h.3, record { plan = plan_same depth h.1 h.0 (let x = h.3 in omega arith) h.4.plan; call = h.4.call; deep = h.4.deep })

      pub goal_same : key.time ≤ now → IsGoal text level trace key → IsGoal text level other key
      goal_same le h = record {
        rule = h.rule;
        of_text = h.of_text;
        instance = record {
          values = h.instance.values;
          times = h.instance.times;
          ground = h.instance.ground;
          of_key = h.instance.of_key;
          end = h.instance.end;
          whole = h.instance.whole;
          limits = h.instance.limits;
          last = h.instance.last;
          walk = walk_same [] h.instance.values h.instance.times le h.instance.walk;
        };
      }

  -- ---- statuses

  pub status_same : (now : ℕ) (trace other : Trace) → AreSame now trace other → (depth : ℕ) (key : GoalKey) (upto : ℕ) → upto ≤ now → (status : Option Closed) →
      HasStatus text level trace depth key upto status → HasStatus text level other depth key upto status
  status_same now trace other same depth key upto le (Some c.Solved) h = met_within_same now trace other same key depth upto le h
  status_same now trace other same depth key upto le None h = (
    (λ m. h.0 (met_within_same now other trace (same_back now trace other same) key depth upto le m)),
    live_same now trace other same key depth upto le h.1,
  )
  status_same now trace other same depth key upto le (Some c.Cut) h = (
    (λ m. h.0 (met_within_same now other trace (same_back now trace other same) key depth upto le m)),
    (λ m. h.1 (live_same now other trace (same_back now trace other same) key depth upto le m)),
    cut_same now trace other same key depth upto le h.2,
  )
  status_same now trace other same depth key upto le (Some c.Failed) h = (
    (λ m. h.0 (met_within_same now other trace (same_back now trace other same) key depth upto le m)),
    (λ m. h.1 (live_same now other trace (same_back now trace other same) key depth upto le m)),
    (λ m. h.2 (cut_same now other trace (same_back now trace other same) key depth upto le m)),
  )
