-- The variables of a function with its arguments.
use Rattle.std.specs.Prelude.{ℕ, ◌≡◌, List}
use Rattle.std.proofs.Common.{◌∙◌}
use Rattle.std.proofs.lemmas.List.Folds.{flat_map-map}
use Rattle.lps_terms.specs.declared.term.Term.{Term}
use Rattle.lps_terms.specs.declared.term.Term.TheVariants as t
use Rattle.lps_terms.specs.Forms.{fold-App}
use Rattle.lps_model.specs.VariableLists.{args_vars, term_vars, vars_step}

-- they are those of the arguments
pub app_vars : (n : List ℕ) (ts : List Term) → term_vars (t.App n ts) ≡ args_vars ts
app_vars n ts = fold-App (List ℕ) vars_step n ts ∙ flat_map-map (λ part. part) term_vars ts
