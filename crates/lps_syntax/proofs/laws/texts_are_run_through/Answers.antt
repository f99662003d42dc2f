use Rattle.std.specs.Prelude.{◌≡◌, List, [], ◌∷◌, Some}
use Rattle.lps_grammar.specs.declared.tok.Tok.{Tok}
use Rattle.lps_grammar.specs.Statements.{Text, spell_text}
use Rattle.lps_syntax.specs.declared.frame.Frame.TheVariants as f
use Rattle.lps_syntax.specs.Runs.{run}
use Rattle.lps_syntax.proofs.Complete.{through_text}
use Rattle.lps_syntax.proofs.Sound.{begins_text, is_text}
use Rattle.lps_syntax.proofs.Running.{spelled_runs, begun_runs}
use Rattle.lps_syntax.proofs.laws.texts_are_run_through.Goals as goal

abbrev toks_of : Text → List Tok
toks_of x = spell_text x []

through : (x : Text) → run (f.Text ∷ []) (toks_of x) ≡ Some (f.Text ∷ [])
through x = through_text x [] []

pub returns : goal.returns
returns c = record {
  whole = λ toks. (is_text toks, spelled_runs Text toks_of (f.Text ∷ []) (f.Text ∷ []) through toks);
  begun = λ toks. (λ run. begins_text toks run.0 run.1, begun_runs Text toks_of (f.Text ∷ []) (f.Text ∷ []) through toks);
}
