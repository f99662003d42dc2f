use Rattle.lps_index.proofs.tables.Tables.with_macro_clauses.Goals as goal

pub returns : goal.returns
returns c = λ clauses laws denials macro_clauses rules are. record {
  clauses = are.clauses;
  laws = are.laws;
  denials = are.denials;
  macro_clauses = c.in_ok-macro_clauses.ensures macro_clauses are.macro_clauses;
  rules = are.rules;
}
