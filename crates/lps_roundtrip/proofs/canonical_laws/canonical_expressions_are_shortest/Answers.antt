use Rattle.lps_roundtrip.proofs.Shortest as shortest
use Rattle.lps_roundtrip.proofs.canonical_laws.canonical_expressions_are_shortest.Goals as goal

pub returns : goal.returns
returns c = record { one_tree = shortest.one_tree; fewest_tokens = shortest.fewest_tokens }
