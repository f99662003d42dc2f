-- Terms and times that are put into what is left of a sequence.
use Rattle.std.specs.Prelude.{ℕ, List, map, slice_index_or}
use Rattle.lps_terms.specs.declared.term.Term.{Term}
use Rattle.lps_terms.specs.declared.term.Term.TheVariants as t
use Rattle.lps_meaning.specs.declared.node.Node.{Node}
use Rattle.lps_meaning.specs.declared.when.When.{When}
use Rattle.lps_meaning.specs.declared.when.When.TheVariants.{Unknown}
use Rattle.lps_nodes.specs.Shapes.{put_left, put_left_con, put_when}
use Rattle.lps_terms.specs.Put.{put}
use Rattle.lps_unify.specs.Canonical.{place_of, renumbered}
use Rattle.lps_residual.specs.declared.put.Terms.{Terms}
use Rattle.lps_residual.specs.declared.put.Terms.TheVariants as terms
use Rattle.lps_residual.specs.declared.put.Times.{Times}
use Rattle.lps_residual.specs.declared.put.Times.TheVariants as times

-- the term for a variable in a list, or the variable itself where the list ends before it
abbrev pub value_at : List Term → ℕ → Term
value_at values v = slice_index_or values v (t.Var v)

-- the time for an unknown one in a list, or the unknown one itself where the list ends before it
abbrev pub when_at : List When → ℕ → When
when_at whens k = slice_index_or whens k (Unknown k)

-- an unknown time is its place among those seen
abbrev pub when_renumbered : List ℕ → ℕ → When
when_renumbered seen k = Unknown (place_of seen k)

-- the term that is put in for a variable
abbrev pub value_by : Terms → ℕ → Term
value_by (terms.Given values) = value_at values.now
value_by (terms.Numbered seen) = renumbered seen.now

-- the time that is put in for an unknown one
abbrev pub when_by : Times → ℕ → When
when_by (times.Given whens) = when_at whens.now
when_by (times.Numbered seen) = when_renumbered seen.now

-- a node with terms and times put in
abbrev pub put_node : (ℕ → Term) → (ℕ → When) → Node → Node
put_node s w node = record {
  alternative = node.alternative;
  rank = node.rank;
  done = node.done;
  carry = record { values = map (put s) node.carry.values; times = map (put_when w) node.carry.times };
  rest = map (put_left s w) node.rest;
  limits = map (put_left_con w) node.limits;
}
