-- Judging the events of a batch one after the other in the last state of a trace.
use Rattle.std.specs.Prelude.{◌≡◌, IsTrue, List, []}
use Rattle.std.specs.List.{list_all}
use Rattle.lps_terms.specs.declared.atom.Atom.{Atom}
use Rattle.lps_terms.specs.declared.text.Text.{Text}
use Rattle.lps_model.specs.declared.verdict.Verdict.{Verdict}
use Rattle.lps_model.specs.Run.{IsExternal}
use Rattle.lps_model.specs.Trace.{admitted}
use Rattle.lps_derivation.specs.Ground.{is_ground}
use Rattle.lps_meaning.specs.Cycles.{AreJudged, IsVerdict}
use Rattle.lps_trial.specs.Trial.{InState}

-- a batch may bring the event: it is ground, and declared as an event with its number of arguments
abbrev pub MayCome : Text → Atom → Type 0
MayCome text event = IsExternal text event × IsTrue (list_all is_ground event.args)

-- the verdict on an event that comes with some admitted ones
abbrev pub IsVerdictIn : Text → List Atom → List Atom → Atom → Verdict → Type 0
IsVerdictIn text facts before event verdict = InState text facts (λ level trace. IsVerdict text level trace before event verdict)

-- the verdicts on the events of a batch, and the admitted ones of these
pub record AreAdmitted (text : Text) (facts events : List Atom) (verdicts : List Verdict) (kept : List Atom) : Type 0 where
  pub judged : InState text facts (λ level trace. AreJudged text level trace [] events verdicts)
  pub kept_are : kept ≡ admitted events verdicts
