-- The canonical text of literals, items of sequences, and conditions.
use Rattle.std.specs.Prelude.{◌≡◌, ℕ, ℤ, pos, negsuc, zero, suc, List, [], ◌∷◌, ◌++◌, map, codes, if◌then◌else◌}
use Rattle.std.specs.Fmt.{decimal}
use Rattle.lps_terms.specs.declared.lit.Lit.{Lit}
use Rattle.lps_terms.specs.declared.time_var.TimeVar.{TimeVar}
use Rattle.lps_terms.specs.declared.time_rel.TimeRel.{TimeRel}
use Rattle.lps_terms.specs.declared.time_rel.TimeRel.TheVariants as r
use Rattle.lps_terms.specs.declared.con.Con.{Con}
use Rattle.lps_terms.specs.declared.item.Item.{Item}
use Rattle.lps_terms.specs.declared.item.Item.TheVariants as i
use Rattle.lps_terms.specs.declared.cond.Cond.{Cond}
use Rattle.lps_terms.specs.declared.cond.Cond.TheVariants as c
use Rattle.lps_printer.specs.Terms.{atom_text, listed, written}
use Rattle.lps_printer.specs.Expressions.{built_text}

abbrev pub lit_text : List (List ℕ) → Lit → List ℕ
lit_text names lit = (if lit.negated then codes "not " else []) ++ atom_text names lit.atom

abbrev pub time_rel_text : TimeRel → List ℕ
time_rel_text r.Less = codes " < "
time_rel_text r.AtMost = codes " =< "
time_rel_text r.Equal = codes " = "
time_rel_text r.AtLeast = codes " >= "
time_rel_text r.Greater = codes " > "

-- what is added to the right side of a constraint; nothing for 0
abbrev pub plus_text : ℤ → List ℕ
plus_text (pos zero) = []
plus_text (pos (suc n)) = codes " + " ++ decimal (suc n)
plus_text (negsuc n) = codes " - " ++ decimal (suc n)

-- a constraint on two times
abbrev pub con_text : List (List ℕ) → Con → List ℕ
con_text times con = written times con.left.0 ++ (time_rel_text con.rel ++ (written times con.right.0 ++ plus_text con.plus))

-- a part of a sequence
abbrev pub item_text : List (List ℕ) → List (List ℕ) → Item → List ℕ
item_text names times (i.At lit time) = lit_text names lit ++ (codes " at " ++ written times time.0)
item_text names times (i.Bare lit) = lit_text names lit
item_text names times (i.Built built) = built_text names built
item_text names times (i.Span atom from to) = atom_text names atom ++ (codes " from " ++ (written times from.0 ++ (codes " to " ++ written times to.0)))
item_text names times (i.Con con) = con_text times con

-- a sequence
abbrev pub items_text : List (List ℕ) → List (List ℕ) → List Item → List ℕ
items_text names times items = listed (map (item_text names times) items)

abbrev pub cond_text : List (List ℕ) → Cond → List ℕ
cond_text names (c.Lit lit) = lit_text names lit
cond_text names (c.Built built) = built_text names built

-- the conditions of a law or a clause, where there are any
abbrev pub if_conds_text : List (List ℕ) → List Cond → List ℕ
if_conds_text names [] = []
if_conds_text names (cond ∷ conds) = codes " if " ++ listed (map (cond_text names) (cond ∷ conds))
