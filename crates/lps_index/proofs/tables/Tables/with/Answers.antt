use Rattle.std.proofs.Common.{◌∷◌, [], ◌++◌, List, map}
use Rattle.std.specs.List.{flat_map}
use Rattle.lps_terms.specs.declared.atom.Atom.{Atom}
use Rattle.lps_model.specs.Clauses.{clause_in}
use Rattle.lps_model.specs.Program.{law_in}
use Rattle.lps_model.specs.Rules.{denial_in, macro_clause_in, rule_in}
use Rattle.lps_index.specs.Spoken.{of_clause, of_items, of_law, of_macro_clause, of_rule}
use Rattle.lps_index.specs.Table.{AreTables, AreTablesOf}
use Rattle.lps_index.proofs.Growing.{kind_by_kind}
use Rattle.lps_index.proofs.Results.{IfOk-map}
use Rattle.lps_index.proofs.tables.Tables.with.Goals as goal

pub returns : goal.returns
returns c = λ statements are.
    let clauses : List (List Atom) = map of_clause (flat_map (λ s. clause_in s.body) statements) in
    let laws : List (List Atom) = map of_law (flat_map (λ s. law_in s.body) statements) in
    let denials : List (List Atom) = map of_items (flat_map (λ s. denial_in s.body) statements) in
    let macro_clauses : List (List Atom) = map of_macro_clause (flat_map (λ s. macro_clause_in s.body) statements) in
    let rules : List (List Atom) = map of_rule (flat_map (λ s. rule_in s.body) statements) in
    let clauses_more = clauses ++ map of_clause (clause_in c.args.statement.now.body) in
    let laws_more = laws ++ map of_law (law_in c.args.statement.now.body) in
    let denials_more = denials ++ map of_items (denial_in c.args.statement.now.body) in
    let macro_clauses_more = macro_clauses ++ map of_macro_clause (macro_clause_in c.args.statement.now.body) in
    let rules_more = rules ++ map of_rule (rule_in c.args.statement.now.body) in
    let one = c.in_ok-with_clauses.ensures clauses laws denials macro_clauses rules are in
    let two = c.in_ok-with_laws.ensures clauses_more laws denials macro_clauses rules one in
    let three = c.in_ok-with_denials.ensures clauses_more laws_more denials macro_clauses rules two in
    let four = c.in_ok-with_macro_clauses.ensures clauses_more laws_more denials_more macro_clauses rules three in
    IfOk-map c.with_rules.result (λ new. AreTablesOf clauses_more laws_more denials_more macro_clauses_more rules_more new) (λ new. AreTables (statements ++ c.args.statement.now ∷ []) new)
    (λ new are_new. kind_by_kind statements c.args.statement.now new are_new) (c.with_rules.ensures clauses_more laws_more denials_more macro_clauses_more rules four)
