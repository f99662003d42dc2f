use Rattle.std.proofs.Common.{refl}
use Rattle.lps_windows.proofs.Opening.{no_last, still_open}
use Rattle.lps_windows.proofs.window.Window.is_open_from.Goals as goal

pub returns-in-None : goal.returns-in-None
returns-in-None c = (λ _. still_open c.args.self.first c.args.time c.args.self.last c.requires.1 (no_last c.args.time c.args.self.last c.in-None.is), λ _. refl)
