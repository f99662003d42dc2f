use Rattle.std.proofs.Common.{sym}
use Rattle.std.specs.Str.{bytes_eq}
use Rattle.lps_numbering.proofs.Written.{none_passes}
use Rattle.lps_numbering.proofs.names.place_of.Goals as goal

pub returns-in-None-clause-same : goal.returns-in-None-clause-same
returns-in-None-clause-same c = none_passes (λ name. bytes_eq name c.args.text.now) c.args.names.now (sym c.in-None.ensures)
