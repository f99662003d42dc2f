use Rattle.lps_index.proofs.tables.Tables.with_denials.Goals as goal

pub returns : goal.returns
returns c = λ clauses laws denials macro_clauses rules are. record {
  clauses = are.clauses;
  laws = are.laws;
  denials = c.in_ok-denials.ensures denials are.denials;
  macro_clauses = are.macro_clauses;
  rules = are.rules;
}
