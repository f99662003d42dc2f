use Rattle.lps_batches.proofs.OneWay.{read_once}
use Rattle.lps_batches.proofs.laws.streams_are_read_one_way.Goals as goal

pub returns-clause-batches : goal.returns-clause-batches
returns-clause-batches c = λ before stream a b p q x y. (read_once b q x y).0

pub returns-clause-bad : goal.returns-clause-bad
returns-clause-bad c = λ before stream a b p q x y. (read_once b q x y).1
