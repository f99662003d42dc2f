use Rattle.std.specs.Prelude.{◌≡◌, List, [], ◌∷◌, Some}
use Rattle.lps_grammar.specs.declared.tok.Tok.{Tok}
use Rattle.lps_grammar.specs.Lines.{Line, spell_line}
use Rattle.lps_syntax.specs.declared.frame.Frame.TheVariants as f
use Rattle.lps_syntax.specs.Runs.{run}
use Rattle.lps_syntax.proofs.Complete.{through_line}
use Rattle.lps_syntax.proofs.Sound.{begins_line, is_line}
use Rattle.lps_syntax.proofs.Running.{spelled_runs, begun_runs}
use Rattle.lps_syntax.proofs.laws.lines_are_run_through.Goals as goal

abbrev toks_of : Line → List Tok
toks_of x = spell_line x []

through : (x : Line) → run (f.Line ∷ []) (toks_of x) ≡ Some ([])
through x = through_line x [] []

pub returns : goal.returns
returns c = record {
  whole = λ toks. (is_line toks, spelled_runs Line toks_of (f.Line ∷ []) ([]) through toks);
  begun = λ toks. (λ run. begins_line toks run.0 run.1, begun_runs Line toks_of (f.Line ∷ []) ([]) through toks);
}
