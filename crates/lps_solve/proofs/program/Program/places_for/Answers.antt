use Rattle.std.proofs.Common.{◌++◌, ◌↔◌, subst}
use Rattle.std.specs.Prelude.{Contains}
use Rattle.lps_terms.specs.declared.text.Text.{Text}
use Rattle.lps_model.specs.Clauses.{clauses}
use Rattle.lps_solve.specs.Table.{IsPlaceFor}
use Rattle.lps_solve.proofs.Matching.{places_found}
use Rattle.lps_solve.proofs.program.Program.places_for.Goals as goal

pub returns : goal.returns
returns c = λ i.
    subst (λ (text : Text). Contains (c.clauses_for.result.keyed.now ++ c.clauses_for.result.others.now) i ↔ IsPlaceFor (clauses text) c.args.goal.now i) c.self.view_is
    (places_found (clauses c.self.inside.index) c.args.goal.now (c.clauses_for.result.keyed.now ++ c.clauses_for.result.others.now) c.clauses_for.ensures i)
