-- A goal is solved exactly where an alternative of it ended.
use Rattle.std.proofs.Common.{ℕ, suc, ◌≡◌, ◌≤◌, ◌<◌, List, [], refl, subst, arith, inl, inr}
use Rattle.lps_terms.specs.declared.text.Text.{Text}
use Rattle.lps_model.specs.declared.trace.Trace.{Trace}
use Rattle.lps_meaning.specs.declared.goal.GoalKey.{GoalKey}
use Rattle.lps_meaning.specs.Goals.{IsFulfilledWithin, shared_values}
use Rattle.lps_meaning.specs.Sequences.{Walk, start}
use Rattle.lps_meaning.proofs.Splits.{le_or_lt}
use Rattle.lps_meaning.proofs.Walks.{forward, tight, wider}
use Rattle.lps_nodes.specs.Plans.{Entrance, IsAlternativeEntered, IsEnded, alternative_entrance}
use Rattle.lps_nodes.proofs.ConditionLaws.{ended}
use Rattle.lps_goaltrees.specs.Laws.{EndsNow, SolvedAtOnce, SolvedNext}

module _ (text : Text) (level : List ℕ → ℕ) (trace : Trace) (depth : ℕ) (key : GoalKey) where
  -- the same by another time
  by_time : {now : ℕ} (later : ℕ) (h : IsFulfilledWithin text level trace depth key now) →
      Walk text level trace (shared_values h.met.reaches.rule) h.met.reaches.values h.met.reaches.times later h.met.end (start text key.time h.met.reaches.items) →
      IsFulfilledWithin text level trace depth key later
  by_time later h walk =
      let r = h.met.reaches in record {
        met = record {
          end = h.met.end;
          reaches = record {
            rule = r.rule;
            of_text = r.of_text;
            alternative = r.alternative;
            items = r.items;
            of_rule = r.of_rule;
            values = r.values;
            times = r.times;
            ground = r.ground;
            of_key = r.of_key;
            walk = walk;
          };
          whole = h.met.whole;
          limits = h.met.limits;
        };
        within = h.within;
      }

  pub solved_later : (now later : ℕ) → now ≤ later → IsFulfilledWithin text level trace depth key now → IsFulfilledWithin text level trace depth key later
  solved_later now later le h =
      let r = h.met.reaches in by_time later h (wider text level trace (shared_values r.rule) r.values r.times le r.walk)

  -- what was true by its own end was true by each time since
  solved_by : (now later : ℕ) (h : IsFulfilledWithin text level trace depth key later) → h.met.end.before ≤ now → IsFulfilledWithin text level trace depth key now
  solved_by now later h le =
      let r = h.met.reaches in
      let given : List ℕ = shared_values r.rule in
      by_time now h (wider text level trace given r.values r.times le (tight text level trace given r.values r.times r.walk))

  -- an alternative that is true and ends now
  ends : (now : ℕ) (h : IsFulfilledWithin text level trace depth key now) → h.met.end.before ≡ now → EndsNow text level trace depth key now
  ends now h last =
      let r = h.met.reaches in (
        r.alternative,
        alternative_entrance r.rule key r.alternative r.items,
        record { rule = r.rule; of_text = r.of_text; items = r.items; of_rule = r.of_rule; entered = refl },
        record { values = []; times = [] },
        record {
          values = r.values;
          times = r.times;
          place = h.met.end;
          over = record {
            reached = record { ground = r.ground; given_values = r.of_key.values; given_times = r.of_key.times; walk = r.walk; within = h.within };
            whole = h.met.whole;
            limits = h.met.limits;
            last = last;
          };
          carried = record { values = refl; times = refl };
        },
      )

  pub solved_of_end : (now : ℕ) → EndsNow text level trace depth key now → IsFulfilledWithin text level trace depth key now
  solved_of_end now m = by (subst (λ (e : Entrance). IsEnded text level trace depth e now m.3) entered.entered m.4)
    where
      entered : IsAlternativeEntered text key m.0 m.1
      entered = m.2

      by : IsEnded text level trace depth (alternative_entrance entered.rule key m.0 entered.items) now m.3 → IsFulfilledWithin text level trace depth key now
      by n =
          let h = n.over.reached in record {
            met = record {
              end = n.place;
              reaches = record {
                rule = entered.rule;
                of_text = entered.of_text;
                alternative = m.0;
                items = entered.items;
                of_rule = entered.of_rule;
                values = n.values;
                times = n.times;
                ground = h.ground;
                of_key = record { values = h.given_values; times = h.given_times };
                walk = h.walk;
              };
              whole = n.over.whole;
              limits = n.over.limits;
            };
            within = h.within;
          }

  -- its last step ended by then
  end_by : (now : ℕ) → key.time ≤ now → (h : IsFulfilledWithin text level trace depth key now) → h.met.end.before ≤ now
  end_by now after h =
      let r = h.met.reaches in ended text level trace (shared_values r.rule) r.values r.times r.walk after

  end_after : (now : ℕ) (h : IsFulfilledWithin text level trace depth key now) → key.time ≤ h.met.end.before
  end_after now h =
      let r = h.met.reaches in forward text level trace (shared_values r.rule) r.values r.times r.walk

le_self : (n : ℕ) → n ≤ n
le_self n = omega arith

between : (n m : ℕ) → n ≤ m → m ≤ n → m ≡ n
between n m low high = omega arith

past : (n m : ℕ) → n < m → m ≤ suc n → m ≡ suc n
past n m low high = omega arith

pub solved_at_once : SolvedAtOnce
solved_at_once text level trace depth key = (
  (λ h. ends text level trace depth key key.time h
      (between key.time h.met.end.before (end_after text level trace depth key key.time h) (end_by text level trace depth key key.time (le_self key.time) h))),
  solved_of_end text level trace depth key key.time,
)

pub solved_next : SolvedNext
solved_next text level trace depth key now after = (
  (λ h. let high = end_by text level trace depth key (suc now) (later key.time now after) h in
      elim (le_or_lt h.met.end.before now) [
        | inl le ↦ inl (solved_by text level trace depth key now (suc now) h le)
        | inr lt ↦ inr (ends text level trace depth key (suc now) h (past now h.met.end.before lt high))
      ]),
  (λ h. elim h [
    | inl met ↦ solved_later text level trace depth key now (suc now) (later now now (le_self now)) met
    | inr end ↦ solved_of_end text level trace depth key (suc now) end
  ]),
)
  where
    later : (n m : ℕ) → n ≤ m → n ≤ suc m
    later n m le = omega arith
