use Rattle.lps_roundtrip.proofs.Meanings as means
use Rattle.lps_roundtrip.proofs.canonical_laws.canonical_trees_mean_the_same.Goals as goal

pub returns : goal.returns
returns c = record {
  of_leaves = λ vars. means.leaf_means {vars = vars};
  of_terms = λ vars. means.term_means {vars = vars};
  of_atoms = λ vars. means.atom_means {vars = vars};
  of_units = means.unit_means;
  of_products = means.prod_means;
  of_expressions = means.expr_means;
  of_conditions = means.cond_means;
  of_items = λ bounds. means.item_means {bounds = bounds};
  of_sequences = λ bounds. means.seq_means {bounds = bounds};
  of_statements = means.statement_means;
  of_texts = λ x total new. means.text_means x new total;
}
