-- The answers of the top call.
use Rattle.std.proofs.Common.{◌≡◌, ℕ, ◌<◌, ◌+◌, ◌^◌, List, length, Option, Some, Result, Ok, Err, refl, sym, subst, inl, inr, arith, IfErr, MatchResult}
use Rattle.std.specs.Prelude.{◌↔◌, ◌&&◌, Bool, true, false, if◌then◌else◌, nat_eq}
use Rattle.std.proofs.lemmas.Bool.{eqb-true}
use Rattle.lps_lex.proofs.Bytes.{both}
use Rattle.lps_meaning.specs.declared.goal.Counts.{Counts}
use Rattle.lps_terms.specs.declared.text.Text.{Text}
use Rattle.lps_terms.specs.declared.text_refused.TextRefused.TheVariants as reason
use Rattle.lps_outside.specs.Bytes.{Stream}
use Rattle.lps_run.specs.declared.stop.Stop.{Stop}
use Rattle.lps_run.specs.declared.stop.Stop.TheVariants.{NoMemory, Refused, CycleLimit, Full, StreamLimit, EventFault, PrintFault}
use Rattle.lps_run.specs.declared.answer.Answer.{Answer}
use Rattle.lps_run.specs.declared.answer.Answer.TheVariants as answers
use Rattle.lps_run.specs.Stopping.{Reported, Stopped, Counted, LimitIs, KeepsLimit}
use Rattle.lps_run.specs.Answers.{Answered, AnsweredCheck, Caused, EndsBeforeRun, IsNoUsage, IsRunText, IsSilent, RefusedAs, answer_to, answer_with, is_none_open, none_open}

-- ---- a whole report

by_counts : (P : Answer → Type 0) (counts : Counts) → (is_none_open counts ≡ true → P answers.Done) → (is_none_open counts ≡ false → P (answers.Unfinished counts)) → P (answer_with counts)
by_counts P counts done open_ones = by_test (is_none_open counts) refl where
  by_test : (test : Bool) → is_none_open counts ≡ test → P (if test then answers.Done else answers.Unfinished counts)
  by_test true is = done is
  by_test false is = open_ones is

-- what holds of both answers
by_either : (P : Answer → Type 0) (counts : Counts) → P answers.Done → P (answers.Unfinished counts) → P (answer_with counts)
by_either P counts done open_ones = by_counts P counts (λ is. done) (λ is. open_ones)

none_is_open : (counts : Counts) → is_none_open counts ≡ true → counts ≡ none_open
none_is_open counts is =
    let all = both (nat_eq counts.pending 0 && nat_eq counts.failed 0) (nat_eq counts.cut 0) is in
    let two = both (nat_eq counts.pending 0) (nat_eq counts.failed 0) all.0 in
    λ i. record { pending = eqb-true counts.pending 0 two.0 i; failed = eqb-true counts.failed 0 two.1 i; cut = eqb-true counts.cut 0 all.1 i }

whole_answered : (all : List ℕ) (text : Text) (stream start : List ℕ) (printed : Option (List ℕ)) (source : Option Stream) (counts : Counts) → IsRunText all text →
    Reported text stream start printed source counts → Answered all stream start printed source (answer_with counts)
whole_answered all text stream start printed source counts is h = by_counts (Answered all stream start printed source) counts
    (λ none. (text, is, subst (Reported text stream start printed source) (none_is_open counts none) h))
    (λ some. ((text, is, h), λ none. let apart : true ≡ false = subst (λ (n : Counts). is_none_open n ≡ false) none some in absurd cc))

-- ---- the end of a run

-- what a run says, as the answer for it
pub answered : (all : List ℕ) (text : Text) (stream start : List ℕ) (printed : Option (List ℕ)) (source : Option Stream) (result : Result Counts Stop) → IsRunText all text →
    MatchResult result (λ counts. Reported text stream start printed source counts) (λ stop. Stopped text stream start printed source stop) → Answered all stream start printed source (answer_to result)
answered all text stream start printed source (Ok counts) is h = whole_answered all text stream start printed source counts is h
answered all text stream start printed source (Err NoMemory) is h = inr (text, is, h)
answered all text stream start printed source (Err (Refused faulty)) is h = (text, is, h)
answered all text stream start printed source (Err CycleLimit) is h = (text, is, h)
answered all text stream start printed source (Err (Full full)) is h = (text, is, h)
answered all text stream start printed source (Err StreamLimit) is h = (text, is, h.0, h.1)
answered all text stream start printed source (Err EventFault) is h = (text, is, h)
answered all text stream start printed source (Err PrintFault) is h = (text, is, h)

pub run_caused : (faults reads reads' prints prints' : ℕ) (result : Result Counts Stop) → Counted result reads reads' prints prints' → Caused (answer_to result) faults faults reads reads' prints prints'
run_caused faults reads reads' prints prints' (Ok counts) c = by_either (λ answer. Caused answer faults faults reads reads' prints prints') counts (refl, c.0, c.1) (refl, c.0, c.1)
run_caused faults reads reads' prints prints' (Err NoMemory) c = (refl, c.0, c.1)
run_caused faults reads reads' prints prints' (Err (Refused line)) c = (refl, c.0, c.1)
run_caused faults reads reads' prints prints' (Err CycleLimit) c = (refl, c.0, c.1)
run_caused faults reads reads' prints prints' (Err (Full full)) c = (refl, c.0, c.1)
run_caused faults reads reads' prints prints' (Err StreamLimit) c = (refl, c.0, c.1)
run_caused faults reads reads' prints prints' (Err EventFault) c = (refl, c.0, c.1)
run_caused faults reads reads' prints prints' (Err PrintFault) c = (refl, c.0, c.1)

pub run_no_usage : (result : Result Counts Stop) → IsNoUsage (answer_to result)
run_no_usage (Ok counts) = by_either IsNoUsage counts tt tt
run_no_usage (Err NoMemory) = tt
run_no_usage (Err (Refused line)) = tt
run_no_usage (Err CycleLimit) = tt
run_no_usage (Err (Full full)) = tt
run_no_usage (Err StreamLimit) = tt
run_no_usage (Err EventFault) = tt
run_no_usage (Err PrintFault) = tt

pub run_speaks : (result : Result Counts Stop) → IsSilent (answer_to result) → ⊥
run_speaks (Ok counts) h = by_either (λ answer. IsSilent answer → ⊥) counts (λ s. s) (λ s. s) h
run_speaks (Err NoMemory) h = h
run_speaks (Err (Refused line)) h = h
run_speaks (Err CycleLimit) h = h
run_speaks (Err (Full full)) h = h
run_speaks (Err StreamLimit) h = h
run_speaks (Err EventFault) h = h
run_speaks (Err PrintFault) h = h

limit_of : (before after : ℕ) (result : Result Counts Stop) → LimitIs 0 before after result → (answer_to result ≡ answers.StreamLimit) ↔ (2 ^ 36 + after < before)
limit_of before after (Ok counts) h =
    by_either (λ answer. (answer ≡ answers.StreamLimit) ↔ (2 ^ 36 + after < before)) counts ((λ e. absurd cc), (λ over. absurd (omega arith))) ((λ e. absurd cc), (λ over. absurd (omega arith)))
limit_of before after (Err NoMemory) h = ((λ e. absurd cc), (λ over. absurd (omega arith)))
limit_of before after (Err (Refused line)) h = ((λ e. absurd cc), (λ over. absurd (omega arith)))
limit_of before after (Err CycleLimit) h = ((λ e. absurd cc), (λ over. absurd (omega arith)))
limit_of before after (Err (Full full)) h = ((λ e. absurd cc), (λ over. absurd (omega arith)))
limit_of before after (Err StreamLimit) h = ((λ e. omega arith), (λ over. refl))
limit_of before after (Err EventFault) h = ((λ e. absurd cc), (λ over. absurd (omega arith)))
limit_of before after (Err PrintFault) h = ((λ e. absurd cc), (λ over. absurd (omega arith)))

-- the limit is the answer of a run exactly where it was passed
pub run_limit : (before after : Stream) (source : Option Stream) (result : Result Counts Stop) → KeepsLimit before result source → source ≡ Some after →
    (answer_to result ≡ answers.StreamLimit) ↔ (2 ^ 36 + length after.left < length before.left)
run_limit before after source result kept known =
    let same : kept.after ≡ after = cc (kept.known, known) in
    subst (λ (s : Stream). (answer_to result ≡ answers.StreamLimit) ↔ (2 ^ 36 + length s.left < length before.left)) same (limit_of (length before.left) (length kept.after.left) result kept.limit)

-- and not that of a call that did not read the stream
pub unread_limit : (before after : Stream) (old new : Option Stream) (answer : Answer) → new ≡ old → old ≡ Some before → new ≡ Some after → EndsBeforeRun answer →
    (answer ≡ answers.StreamLimit) ↔ (2 ^ 36 + length after.left < length before.left)
unread_limit before after old new answer kept was is kind =
    let same : after ≡ before = cc (kept, was, is) in
    ((λ e. absurd (subst EndsBeforeRun e kind)), (λ over. let over' : 2 ^ 36 + length before.left < length before.left = subst (λ (s : Stream). 2 ^ 36 + length s.left < length before.left) same over in absurd (omega arith)))

pub early_no_usage : (answer : Answer) → EndsBeforeRun answer → IsNoUsage answer
early_no_usage (answers.TextRefused reason) h = tt
early_no_usage answers.TextFault h = tt
early_no_usage answers.NoMemory h = tt
early_no_usage answers.Done h = tt
early_no_usage (answers.Unfinished counts) h = tt
early_no_usage answers.Checked h = tt
early_no_usage answers.CycleLimit h = tt
early_no_usage (answers.Full full) h = tt
early_no_usage (answers.Usage kind) h = h
early_no_usage (answers.BatchRefused line kind) h = tt
early_no_usage answers.StreamLimit h = tt
early_no_usage answers.EventFault h = tt
early_no_usage answers.PrintFault h = tt

-- ---- a text that was not read, or not accepted

pub early_answered : (all stream start : List ℕ) (printed : Option (List ℕ)) (source : Option Stream) (answer : Answer) → RefusedAs all answer → printed ≡ Some start → Answered all stream start printed source answer
early_answered all stream start printed source (answers.TextRefused (reason.Read refusal)) h told = (h, told)
early_answered all stream start printed source (answers.TextRefused (reason.NotBuilt line)) h told = absurd h
early_answered all stream start printed source (answers.TextRefused (reason.NotAccepted refused)) h told = (h, told)
early_answered all stream start printed source answers.TextFault h told = told
early_answered all stream start printed source answers.NoMemory h told = inl told
early_answered all stream start printed source answers.Done h told = absurd h
early_answered all stream start printed source (answers.Unfinished counts) h told = absurd h
early_answered all stream start printed source answers.Checked h told = absurd h
early_answered all stream start printed source (answers.Usage u) h told = absurd h
early_answered all stream start printed source (answers.BatchRefused line k) h told = absurd h
early_answered all stream start printed source answers.CycleLimit h told = absurd h
early_answered all stream start printed source (answers.Full full) h told = absurd h
early_answered all stream start printed source answers.StreamLimit h told = absurd h
early_answered all stream start printed source answers.EventFault h told = absurd h
early_answered all stream start printed source answers.PrintFault h told = absurd h

pub early_checked : (all start : List ℕ) (printed : Option (List ℕ)) (answer : Answer) → RefusedAs all answer → printed ≡ Some start → AnsweredCheck all start printed answer
early_checked all start printed (answers.TextRefused (reason.Read refusal)) h told = (h, told)
early_checked all start printed (answers.TextRefused (reason.NotBuilt line)) h told = absurd h
early_checked all start printed (answers.TextRefused (reason.NotAccepted refused)) h told = (h, told)
early_checked all start printed answers.TextFault h told = told
early_checked all start printed answers.NoMemory h told = told
early_checked all start printed answers.Done h told = absurd h
early_checked all start printed (answers.Unfinished counts) h told = absurd h
early_checked all start printed answers.Checked h told = absurd h
early_checked all start printed (answers.Usage u) h told = absurd h
early_checked all start printed (answers.BatchRefused line k) h told = absurd h
early_checked all start printed answers.CycleLimit h told = absurd h
early_checked all start printed (answers.Full full) h told = absurd h
early_checked all start printed answers.StreamLimit h told = absurd h
early_checked all start printed answers.EventFault h told = absurd h
early_checked all start printed answers.PrintFault h told = absurd h

-- the counts of an answer before the run, with those of objects that were not called
pub early_caused : (answer : Answer) (texts texts' reads prints : ℕ) → EndsBeforeRun answer → Caused answer texts texts' 0 0 0 0 → Caused answer texts texts' reads reads prints prints
early_caused (answers.TextRefused reason) texts texts' reads prints kind c = (c.0, refl, refl)
early_caused answers.TextFault texts texts' reads prints kind c = (c.0, refl, refl)
early_caused answers.NoMemory texts texts' reads prints kind c = (c.0, refl, refl)
early_caused answers.Done texts texts' reads prints kind c = absurd kind
early_caused (answers.Unfinished counts) texts texts' reads prints kind c = absurd kind
early_caused answers.Checked texts texts' reads prints kind c = absurd kind
early_caused answers.CycleLimit texts texts' reads prints kind c = absurd kind
early_caused (answers.Full full) texts texts' reads prints kind c = absurd kind
early_caused (answers.Usage u) texts texts' reads prints kind c = absurd kind
early_caused (answers.BatchRefused line k) texts texts' reads prints kind c = absurd kind
early_caused answers.StreamLimit texts texts' reads prints kind c = absurd kind
early_caused answers.EventFault texts texts' reads prints kind c = absurd kind
early_caused answers.PrintFault texts texts' reads prints kind c = absurd kind

-- the counts of a text that was judged with no call of an object
pub judged_counted : (result : Result Text Answer) (before now : ℕ) → now ≡ before → ((faults : ℕ) → IfErr result (λ answer. Caused answer faults faults 0 0 0 0)) →
    MatchResult result (λ text. now ≡ before) (λ answer. Caused answer before now 0 0 0 0)
judged_counted (Ok text) before now same caused = same
judged_counted (Err answer) before now same caused = subst (λ (n : ℕ). Caused answer before n 0 0 0 0) (sym same) (caused before)
