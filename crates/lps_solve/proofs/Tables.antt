-- One clause more.
use Rattle.std.proofs.Common.{◌≡◌, ◌<◌, List, [], ◌∷◌, ◌++◌, sym, subst}
use Rattle.std.specs.List.{AllByRecursion}
use Rattle.lps_solve.specs.declared.clause.Clause.{Clause as Entry}
use Rattle.lps_solve.specs.Table.{AreCounted, clause_of, clause_vars}
use Rattle.lps_solve.proofs.Vars.{all_append}

pub counted_more : (entries : List Entry) (entry : Entry) → AreCounted entries → AllByRecursion (λ v. v < entry.variables) (clause_vars (clause_of entry)) → (all : List Entry) → all ≡ entries ++ entry ∷ [] → AreCounted all
counted_more entries entry counted inside all e =
    subst AreCounted (sym e) (all_append (λ (k : Entry). AllByRecursion (λ v. v < k.variables) (clause_vars (clause_of k))) entries (entry ∷ []) counted (inside, tt))
