use Rattle.std.proofs.Common.{ℕ, ◌≤◌, arith}
use Rattle.lps_model.proofs.Growth.{same_back}
use Rattle.lps_meaning.proofs.Prefixes.{same_now}
use Rattle.lps_meaning.proofs.ReportLaws.{block_same, block_unique, report_unique, trace_of_blocks}
use Rattle.lps_meaning.proofs.laws.report_law.Goals as goal

le_self : (n : ℕ) → n ≤ n
le_self n = omega arith

pub returns-clause-blocks_stay : goal.returns-clause-blocks_stay
returns-clause-blocks_stay c = λ text level depth trace longer on k upto bytes.
    let same = same_now trace longer on k upto in
    (block_same text level depth k trace longer same k bytes (le_self k), block_same text level depth k longer trace (same_back k trace longer same) k bytes (le_self k))

pub returns-clause-blocks : goal.returns-clause-blocks
returns-clause-blocks c = block_unique

pub returns-clause-reports : goal.returns-clause-reports
returns-clause-reports c = report_unique

pub returns-clause-tell : goal.returns-clause-tell
returns-clause-tell c = λ text level depth trace other s t. trace_of_blocks text level depth trace other s.initial t.initial
