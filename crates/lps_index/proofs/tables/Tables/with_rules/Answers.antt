use Rattle.lps_index.proofs.tables.Tables.with_rules.Goals as goal

pub returns : goal.returns
returns c = λ clauses laws denials macro_clauses rules are. record {
  clauses = are.clauses;
  laws = are.laws;
  denials = are.denials;
  macro_clauses = are.macro_clauses;
  rules = c.in_ok-rules.ensures rules are.rules;
}
