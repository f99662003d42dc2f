use Rattle.std.specs.Prelude.{Contains}
use Rattle.lps_derivation.specs.Laws.{Passes}
use Rattle.lps_derivation.proofs.Reach.{same_reached}
use Rattle.lps_derivation.proofs.laws.reach_law.Goals as goal

pub returns : goal.returns
returns c = λ test program names closed facts others agree level a named. same_reached (Passes test) program names closed (Contains facts) (Contains others) agree level a named
