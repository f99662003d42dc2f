use Rattle.lps_index.proofs.tables.Tables.new.Goals as goal

pub returns : goal.returns
returns c = record {
  clauses = c.new-clauses.ensures;
  laws = c.new-laws.ensures;
  denials = c.new-denials.ensures;
  macro_clauses = c.new-macro_clauses.ensures;
  rules = c.new-rules.ensures;
}
