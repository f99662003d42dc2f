use Rattle.std.proofs.Common.{◌≡◌, ◌++◌, length}
use Rattle.std.specs.Vec.Iter.{into_iter_items, into_iter_len}
use Rattle.lps_reader.specs.Made.{line_of, statements_made}
use Rattle.lps_reader.proofs.statements.statements.Given as goal

-- what is made, and the statements of what is left
abbrev pub invariant-loop-place : goal.invariant-loop-place
invariant-loop-place l = record {
  made : l.statements ++ statements_made (line_of l.lines) (into_iter_items l.place-iterator) (into_iter_items l.names) ≡ statements_made (line_of l.lines) (into_iter_items l.initial.place-iterator) (into_iter_items l.initial.names);
  bodies : into_iter_len l.place-iterator ≡ length (into_iter_items l.place-iterator);
  names : into_iter_len l.names ≡ length (into_iter_items l.names);
}
