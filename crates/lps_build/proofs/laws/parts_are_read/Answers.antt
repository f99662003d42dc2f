use Rattle.lps_build.proofs.TermTrees.{read_term, read_atom}
use Rattle.lps_build.proofs.ExpressionTrees.{read_expr}
use Rattle.lps_build.proofs.ItemTrees.{read_cond, read_conds, read_item, read_seq}
use Rattle.lps_build.proofs.laws.parts_are_read.Goals as goal

pub returns : goal.returns
returns c = record {
  terms = read_term;
  atoms = read_atom;
  exprs = read_expr;
  conds = read_cond;
  cond_lists = read_conds;
  items = λ bounds. read_item {bounds = bounds};
  seqs = λ bounds. read_seq {bounds = bounds};
}
