use Rattle.std.specs.Prelude.{[]}
use Rattle.lps_roundtrip.proofs.Growth.{text_lessens}
use Rattle.lps_roundtrip.proofs.Small.{small_stays}
use Rattle.lps_roundtrip.proofs.canonical_laws.no_count_grows.Goals as goal

pub returns : goal.returns
returns c = record { of_counts = λ x. text_lessens x [] [] (λ limit all. all); of_limit = small_stays }
