use Rattle.lps_roundtrip.proofs.Thins.{term_thins, expr_thins, statement_thins, text_thins, none_left_out}
use Rattle.lps_roundtrip.proofs.canonical_laws.only_light_tokens_go.Goals as goal

pub returns : goal.returns
returns c = record {
  of_terms = λ vars. term_thins {vars = vars};
  of_expressions = expr_thins;
  of_statements = statement_thins;
  of_texts = λ x rest. text_thins x rest rest (none_left_out rest);
}
