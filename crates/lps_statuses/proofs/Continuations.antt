-- What is known of a goal of a framed text stays so in every continuation of the trace.
use Rattle.std.proofs.Common.{ℕ, ◌≤◌, arith}
use Rattle.std.specs.Prelude.{Some}
use Rattle.lps_meaning.specs.declared.goal.Closed.TheVariants as c
use Rattle.lps_statuses.specs.Laws.{StatusStays, FailedIsForever, CutIsForever}
use Rattle.lps_meaning.specs.Frames.{AreFramed}
use Rattle.lps_meaning.proofs.Prefixes.{same_now, status_same}
use Rattle.lps_statuses.proofs.Statuses.{stays, failed_forever, cut_forever}

le_self : (n : ℕ) → n ≤ n
le_self n = omega arith

pub status_stays : StatusStays AreFramed
status_stays text level depth framed how trace longer on key now later after upto le h =
    stays text level framed longer depth key now later after le how
    (status_same text level now trace longer (same_now trace longer on now upto) depth key now (le_self now) (Some how) h)

pub failed_is_forever : FailedIsForever AreFramed
failed_is_forever text level depth framed trace longer on key now later after upto le h =
    failed_forever text level framed longer depth key now later after le
    (status_same text level now trace longer (same_now trace longer on now upto) depth key now (le_self now) (Some c.Failed) h)

pub cut_is_forever : CutIsForever AreFramed
cut_is_forever text level depth framed trace longer on key now later after upto le h =
    cut_forever text level framed longer depth key now later after le
    (status_same text level now trace longer (same_now trace longer on now upto) depth key now (le_self now) (Some c.Cut) h)
