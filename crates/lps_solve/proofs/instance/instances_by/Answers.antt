use Rattle.std.proofs.Common.{◌≡◌, ◌↔◌, List, map, sym, subst}
use Rattle.std.specs.Prelude.{ℕ, Contains}
use Rattle.lps_terms.specs.declared.term.Term.{Term}
use Rattle.lps_model.specs.Clauses.{clauses}
use Rattle.lps_derivation.specs.Levels.{AreLevels}
use Rattle.lps_facts.specs.Facts.{members}
use Rattle.lps_solve.specs.Answers.{IsInstanceFor}
use Rattle.lps_solve.specs.Found.{GainsBy, Reaches}
use Rattle.lps_solve.proofs.Answering.{reached}
use Rattle.lps_solve.proofs.Results.{IfOk-map}
use Rattle.lps_solve.proofs.instance.instances_by.Goals as goal

pub returns-clause-instances : goal.returns-clause-instances
returns-clause-instances c =
    IfOk-map c.values_of.result (λ values. map (λ v. v.0) values.items ≡ c.run.new.found.keys) (λ values. (level : List ℕ → ℕ) → AreLevels (clauses c.args.search.now.program.now) level → (x : List Term) → Contains (map (λ v. v.0) values.items) x ↔ IsInstanceFor (clauses c.args.search.now.program.now) (members c.args.search.now.facts.now) level 18446744073709551615 c.args.room c.args.bindings.now c.args.conds.now c.args.wanted.now x)
    (λ values all level levels x.
    subst (λ (rows : List (List Term)). Contains rows x ↔ IsInstanceFor (clauses c.args.search.now.program.now) (members c.args.search.now.facts.now) level 18446744073709551615 c.args.room c.args.bindings.now c.args.conds.now c.args.wanted.now x) (sym all)
    (reached (clauses c.args.search.now.program.now) (members c.args.search.now.facts.now) 18446744073709551615 c.args.room c.args.bindings.now c.args.conds.now c.args.wanted.now c.run.new.found.keys
    (subst (λ (rows : List (List Term)). GainsBy (clauses c.args.search.now.program.now) rows c.run.new.found.keys (λ other. Reaches (clauses c.args.search.now.program.now) (members c.args.search.now.facts.now) other 18446744073709551615 c.args.room c.args.bindings.now 0 c.args.conds.now c.args.wanted.now)) c.new-found.ensures.empty c.in_ok-run.ensures.found)
    level levels x))
    c.values_of.ensures.all
