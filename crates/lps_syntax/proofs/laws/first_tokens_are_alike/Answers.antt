use Rattle.lps_syntax.proofs.Unique.{begins_before, few_before, line_before, small_before, small_line_before}
use Rattle.lps_syntax.proofs.laws.first_tokens_are_alike.Goals as goal

pub returns : goal.returns
returns c = record {
  of_texts = λ toks more b. (begins_before toks more b, small_before toks more b);
  of_lines = λ toks more b. (line_before toks more b, λ keeps. (few_before toks more b keeps.0, small_line_before toks more b keeps.1));
}
