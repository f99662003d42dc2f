use Rattle.lps_index.proofs.tables.Tables.with_laws.Goals as goal

pub returns : goal.returns
returns c = λ clauses laws denials macro_clauses rules are. record {
  clauses = are.clauses;
  laws = c.in_ok-laws.ensures laws are.laws;
  denials = are.denials;
  macro_clauses = are.macro_clauses;
  rules = are.rules;
}
