-- The parts of a cycle put together: what happens in a round, and the agenda that goes on by it.
use Rattle.std.proofs.Common.{ℕ, ◌≡◌, ◌+◌, List, ◌++◌, true, refl, sym, subst, ◌∙◌}
use Rattle.lps_terms.specs.declared.atom.Atom.{Atom}
use Rattle.lps_terms.specs.declared.prefer.Prefer.{Prefer}
use Rattle.lps_terms.specs.declared.text.Text.{Text}
use Rattle.lps_model.specs.declared.cycle.Pick.{Pick}
use Rattle.lps_model.specs.declared.verdict.Verdict.{Verdict}
use Rattle.lps_model.specs.Acceptance.{IsAccepted}
use Rattle.lps_model.specs.Trace.{admitted}
use Rattle.lps_causal.specs.Next.{IsUpdate}
use Rattle.lps_meaning.specs.declared.goal.Closed.{Closed}
use Rattle.lps_meaning.specs.declared.goal.GoalId.{GoalId}
use Rattle.lps_meaning.specs.declared.goal.NewGoal.{NewGoal}
use Rattle.lps_antecedents.specs.Laws.{StandsForPrefixes}
use Rattle.lps_antecedents.specs.Waiting.{IsReadyWaiting}
use Rattle.lps_goaltrees.specs.Laws.{StandsInContinuations}
use Rattle.lps_goaltrees.specs.Pursued.{IsReadyPursued}
use Rattle.lps_cycle.specs.Agenda.{AgendaState, GoesOn, IsReachedBySome, IsReadyAgenda}
use Rattle.lps_cycle.specs.Engine.{depth}
use Rattle.lps_cycle.specs.declared.engine.NotSettled.{NotSettled}
use Rattle.lps_cycle.specs.declared.engine.NotSettled.TheVariants as not_settled
use Rattle.lps_cycle.specs.Making.{HasSomeRun, IsMade, IsNotMade, IsNotSettled, not_made, sizes_with}
use Rattle.lps_cycle.specs.Round.{IsDecision, RoundState, by_picks}
use Rattle.lps_cycle.proofs.Standing.{reached_by_some}

-- a round of the text in these facts, in which these events are decided, and what is told of it to the agenda
module _ (text : Text) (facts events : List Atom) (verdicts : List Verdict) (round : RoundState) (of_text : round.text ≡ text) (of_facts : round.facts ≡ facts)
    (happen : round.events ≡ admitted events verdicts ++ by_picks round.picks) (update : IsUpdate round.text round.facts round.events round.next)
    (there : Text) (after happening : List Atom) (is_text : there ≡ round.text) (is_next : after ≡ round.next) (is_events : happening ≡ round.events) where
  abbrev all : List Atom
  all = admitted events verdicts ++ by_picks round.picks

  updated : IsUpdate text facts all round.next
  updated = subst (λ t. IsUpdate t facts all round.next) of_text (subst (λ fs. IsUpdate round.text fs all round.next) of_facts (subst (λ es. IsUpdate round.text round.facts es round.next) happen update))

  pub reached_there : StandsForPrefixes → StandsInContinuations → IsAccepted round.text → (time : ℕ) (agenda : AgendaState) → HasSomeRun text depth time facts agenda →
      IsReachedBySome there depth (time + 1) after happening agenda
  reached_there waits pursues accepted time agenda run =
      subst (λ t. IsReachedBySome t depth (time + 1) after happening agenda) (sym (is_text ∙ of_text))
      (subst (λ fs. IsReachedBySome text depth (time + 1) fs happening agenda) (sym is_next)
      (subst (λ es. IsReachedBySome text depth (time + 1) round.next es agenda) (sym (is_events ∙ happen))
      (reached_by_some waits pursues text (subst IsAccepted of_text accepted) time facts round.next agenda events verdicts round.picks run updated)))

  pub made_there : (prefer : Prefer) (time : ℕ) (old new : AgendaState) (created : List NewGoal) (closed : List (GoalId × Closed)) (picks : List Pick) (next : List Atom) → picks ≡ round.picks →
      next ≡ round.next → IsDecision text depth prefer time facts old.goals.pursuit events verdicts round.picks → GoesOn there depth (time + 1) after happening old new created closed →
      IsMade text depth prefer time facts next old new events verdicts picks created closed
  made_there prefer time old new created closed picks next of_picks of_next decided goes_on =
      subst (λ ps. IsMade text depth prefer time facts next old new events verdicts ps created closed) (sym of_picks)
      (subst (λ fs. IsMade text depth prefer time facts fs old new events verdicts round.picks created closed) (sym of_next) (record {
        decided = decided;
        update = updated;
        goes_on = subst (λ t. GoesOn t depth (time + 1) round.next all old new created closed) (is_text ∙ of_text)
            (subst (λ fs. GoesOn there depth (time + 1) fs all old new created closed) is_next
            (subst (λ es. GoesOn there depth (time + 1) after es old new created closed) (is_events ∙ happen) goes_on));
      }))

-- what was tried is told where it is not made
pub not_made_there : (text : Text) (prefer : Prefer) (keep time log : ℕ) (facts next : List Atom) (old new : AgendaState) (events : List Atom) (verdicts : List Verdict) (picks : List Pick)
    (created : List NewGoal) (closed : List (GoalId × Closed)) → IsMade text depth prefer time facts next old new events verdicts picks created closed → (why : NotSettled) →
    IsNotSettled keep (sizes_with next new log events picks) why →
    IsNotMade text depth prefer keep time log facts old events (not_made why (time + 1) (record { events = events; verdicts = verdicts; picks = picks }))
not_made_there text prefer keep time log facts next old new events verdicts picks created closed made not_settled.NoMemory over = tt
not_made_there text prefer keep time log facts next old new events verdicts picks created closed made (not_settled.Over limit symbols) over =
    record { next = next; new = new; created = created; closed = closed; made = made; cycle = refl; events_are = refl; excess = over }

-- what is taken back is ready again
pub ready_back : (text : Text) (later back : AgendaState) → IsReadyAgenda text later → (IsReadyWaiting text later.waiting → IsReadyWaiting text back.waiting) →
    (IsReadyPursued text later.goals → IsReadyPursued text back.goals) → back.goals.is_settled ≡ true → IsReadyAgenda text back
ready_back text later back is waiting goals settled = record {
  waiting = waiting is.waiting;
  goals = goals is.goals;
  settled = settled;
}
