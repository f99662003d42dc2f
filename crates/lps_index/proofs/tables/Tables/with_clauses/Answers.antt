use Rattle.lps_index.proofs.tables.Tables.with_clauses.Goals as goal

pub returns : goal.returns
returns c = λ clauses laws denials macro_clauses rules are. record {
  clauses = c.in_ok-clauses.ensures clauses are.clauses;
  laws = are.laws;
  denials = are.denials;
  macro_clauses = are.macro_clauses;
  rules = are.rules;
}
