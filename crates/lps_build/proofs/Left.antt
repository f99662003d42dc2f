-- What holds of tokens and of all that are left when some of them are taken holds after each part.
use Rattle.std.specs.Prelude.{ℕ, Bool, List, ◌∷◌}
use Rattle.lps_grammar.specs.declared.tok.Tok.{Tok}
use Rattle.lps_grammar.specs.declared.tok.Tok.TheVariants as k
use Rattle.lps_grammar.specs.Terms as g
use Rattle.lps_grammar.specs.Expressions as ge
use Rattle.lps_grammar.specs.Items as gi
use Rattle.lps_grammar.specs.Statements as gs

module _ (P : List Tok → Type 0) (tail : (t : Tok) (ts : List Tok) → P (t ∷ ts) → P ts) where
  pub left_leaf : {vars : Bool} (x : g.Leaf vars) (rest : List Tok) → P (g.spell_leaf x rest) → P rest
  left_leaf (g.variable may n) rest p = tail _ _ p
  left_leaf (g.number n small) rest p = tail _ _ p
  left_leaf (g.negative n small) rest p = tail _ _ (tail _ _ p)

  mutual
    pub left_term : {vars : Bool} (x : g.Term vars) (rest : List Tok) → P (g.spell_term x rest) → P rest
    left_term (g.named n xs) rest p = left_args xs rest (tail _ _ p)
    left_term (g.leaf x) rest p = left_leaf x rest p

    pub left_args : {vars : Bool} (x : g.Args vars) (rest : List Tok) → P (g.spell_args x rest) → P rest
    left_args g.bare rest p = p
    left_args (g.args x xs) rest p = left_terms xs rest (left_term x (g.spell_terms xs rest) (tail _ _ p))

    pub left_terms : {vars : Bool} {n : ℕ} (xs : g.Terms vars n) (rest : List Tok) → P (g.spell_terms xs rest) → P rest
    left_terms g.end rest p = tail _ _ p
    left_terms (g.more x xs) rest p = left_terms xs rest (left_term x (g.spell_terms xs rest) (tail _ _ p))

  pub left_atom : {vars : Bool} (x : g.Atom vars) (rest : List Tok) → P (g.spell_atom x rest) → P rest
  left_atom (g.atom n xs) rest p = left_args xs rest (tail _ _ p)

  mutual
    pub left_unit : (x : ge.Unit) (rest : List Tok) → P (ge.spell_unit x rest) → P rest
    left_unit (ge.single x) rest p = left_leaf x rest p
    left_unit (ge.grouped x) rest p = tail _ _ (left_expr x (k.Close ∷ rest) (tail _ _ p))

    pub left_factors : (xs : ge.Factors) (rest : List Tok) → P (ge.spell_factors xs rest) → P rest
    left_factors ge.no_factor rest p = p
    left_factors (ge.times t is x xs) rest p = left_factors xs rest (left_unit x (ge.spell_factors xs rest) (tail _ _ p))

    pub left_prod : (x : ge.Prod) (rest : List Tok) → P (ge.spell_prod x rest) → P rest
    left_prod (ge.prod x xs) rest p = left_factors xs rest (left_unit x (ge.spell_factors xs rest) p)

    pub left_summands : (xs : ge.Summands) (rest : List Tok) → P (ge.spell_summands xs rest) → P rest
    left_summands ge.no_summand rest p = p
    left_summands (ge.plus t is x xs) rest p = left_summands xs rest (left_prod x (ge.spell_summands xs rest) (tail _ _ p))

    pub left_expr : (x : ge.Expr) (rest : List Tok) → P (ge.spell_expr x rest) → P rest
    left_expr (ge.expr x xs) rest p = left_summands xs rest (left_prod x (ge.spell_summands xs rest) p)

  pub left_built : (x : gi.Built) (rest : List Tok) → P (gi.spell_built x rest) → P rest
  left_built (gi.same x y) rest p = left_term y rest (tail _ _ (left_term x (k.Equal ∷ g.spell_term y rest) p))
  left_built (gi.differ x y) rest p = left_term y rest (tail _ _ (left_term x (k.Differ ∷ g.spell_term y rest) p))
  left_built (gi.evaluates x y) rest p = left_expr y rest (tail _ _ (left_leaf x (k.Is ∷ ge.spell_expr y rest) p))
  left_built (gi.compare x t is y) rest p = left_expr y rest (tail _ _ (left_expr x (t ∷ ge.spell_expr y rest) p))

  pub left_cond : (x : gi.Cond) (rest : List Tok) → P (gi.spell_cond x rest) → P rest
  left_cond (gi.holds a) rest p = left_atom a rest p
  left_cond (gi.fails a) rest p = left_atom a rest (tail _ _ p)
  left_cond (gi.built x) rest p = left_built x rest p

  pub left_conds : (xs : gi.MoreConds) (rest : List Tok) → P (gi.spell_conds xs rest) → P rest
  left_conds gi.no_cond rest p = p
  left_conds (gi.also x xs) rest p = left_conds xs rest (left_cond x (gi.spell_conds xs rest) (tail _ _ p))

  pub left_at : (w : gi.At) (rest : List Tok) → P (gi.spell_at w rest) → P rest
  left_at gi.untimed rest p = p
  left_at (gi.at n) rest p = tail _ _ (tail _ _ p)

  pub left_shift : (w : gi.Shift) (rest : List Tok) → P (gi.spell_shift w rest) → P rest
  left_shift gi.unshifted rest p = p
  left_shift (gi.shifted t is n small) rest p = tail _ _ (tail _ _ p)

  pub left_span : (x y : ℕ) (rest : List Tok) → P (gi.spell_span x y rest) → P rest
  left_span x y rest p = tail _ _ (tail _ _ (tail _ _ (tail _ _ p)))

  pub left_item : {bounds : Bool} (x : gi.Item bounds) (rest : List Tok) → P (gi.spell_item x rest) → P rest
  left_item (gi.true_at a w) rest p = left_at w rest (left_atom a (gi.spell_at w rest) p)
  left_item (gi.false_at a w) rest p = left_at w rest (left_atom a (gi.spell_at w rest) (tail _ _ p))
  left_item (gi.spans a x y) rest p = left_span x y rest (left_atom a (gi.spell_span x y rest) p)
  left_item (gi.tests x) rest p = left_built x rest p
  left_item (gi.bound may (gi.con x t is y plus)) rest p = left_shift plus rest (tail _ _ (tail _ _ (tail _ _ p)))

  pub left_items : {bounds : Bool} (xs : gi.MoreItems bounds) (rest : List Tok) → P (gi.spell_items xs rest) → P rest
  left_items gi.no_item rest p = p
  left_items (gi.then_item x xs) rest p = left_items xs rest (left_item x (gi.spell_items xs rest) (tail _ _ p))

  pub left_seq : {bounds : Bool} (x : gi.Seq bounds) (rest : List Tok) → P (gi.spell_seq x rest) → P rest
  left_seq (gi.seq x xs) rest p = left_items xs rest (left_item x (gi.spell_items xs rest) p)

  pub left_decl : (x : gs.Decl) (rest : List Tok) → P (gs.spell_decl x rest) → P rest
  left_decl (gs.decl n arity small) rest p = tail _ _ (tail _ _ (tail _ _ p))

  pub left_decls : (xs : gs.MoreDecls) (rest : List Tok) → P (gs.spell_decls xs rest) → P rest
  left_decls gs.no_decl rest p = p
  left_decls (gs.also_decl x xs) rest p = left_decls xs rest (left_decl x (gs.spell_decls xs rest) (tail _ _ p))

  mutual
    pub left_modes : {n : ℕ} {free : Bool} (x : gs.Modes n free) (rest : List Tok) → P (gs.spell_modes x rest) → P rest
    left_modes (gs.input xs) rest p = left_more_modes xs rest (tail _ _ p)
    left_modes (gs.output xs) rest p = left_more_modes xs rest (tail _ _ p)
    left_modes (gs.falling may xs) rest p = left_more_modes xs rest (tail _ _ p)

    pub left_more_modes : {n : ℕ} {free : Bool} (x : gs.MoreModes n free) (rest : List Tok) → P (gs.spell_more_modes x rest) → P rest
    left_more_modes gs.last_mode rest p = tail _ _ p
    left_more_modes (gs.also_mode xs) rest p = left_modes xs rest (tail _ _ p)

  pub left_moded : (x : gs.Moded) (rest : List Tok) → P (gs.spell_moded x rest) → P rest
  left_moded (gs.moded n gs.no_mode) rest p = tail _ _ p
  left_moded (gs.moded n (gs.modes xs)) rest p = left_modes xs rest (tail _ _ (tail _ _ p))

  pub left_modeds : (xs : gs.MoreModed) (rest : List Tok) → P (gs.spell_modeds xs rest) → P rest
  left_modeds gs.no_moded rest p = p
  left_modeds (gs.also_moded x xs) rest p = left_modeds xs rest (left_moded x (gs.spell_modeds xs rest) (tail _ _ p))

  pub left_atoms : (xs : gs.MoreAtoms) (rest : List Tok) → P (gs.spell_atoms xs rest) → P rest
  left_atoms gs.no_atom rest p = p
  left_atoms (gs.also_atom x xs) rest p = left_atoms xs rest (left_atom x (gs.spell_atoms xs rest) (tail _ _ p))

  pub left_conditions : (x : gs.Conditions) (rest : List Tok) → P (gs.spell_conditions x rest) → P rest
  left_conditions gs.always rest p = p
  left_conditions (gs.when x xs) rest p = left_conds xs rest (left_cond x (gi.spell_conds xs rest) (tail _ _ p))

  pub left_alternatives : (xs : gs.Alternatives) (rest : List Tok) → P (gs.spell_alternatives xs rest) → P rest
  left_alternatives gs.no_other rest p = p
  left_alternatives (gs.or_else x xs) rest p = left_alternatives xs rest (left_seq x (gs.spell_alternatives xs rest) (tail _ _ p))

  pub left_statement : (x : gs.Statement) (rest : List Tok) → P (gs.spell_statement x rest) → P rest
  left_statement (gs.declares t is x xs) rest p = left_decls xs rest (left_decl x (gs.spell_decls xs rest) (tail _ _ p))
  left_statement (gs.declares_modes t is x xs) rest p = left_modeds xs rest (left_moded x (gs.spell_modeds xs rest) (tail _ _ p))
  left_statement (gs.initially x xs) rest p = left_atoms xs rest (left_atom x (gs.spell_atoms xs rest) (tail _ _ p))
  left_statement (gs.denial x) rest p = left_seq x rest (tail _ _ p)
  left_statement (gs.rule x y ys) rest p =
      left_alternatives ys rest (left_seq y (gs.spell_alternatives ys rest) (tail _ _ (left_seq x (k.Then ∷ gi.spell_seq y (gs.spell_alternatives ys rest)) (tail _ _ p))))
  left_statement (gs.law event t is fluent cs) rest p =
      left_conditions cs rest (left_atom fluent (gs.spell_conditions cs rest) (tail _ _ (left_atom event (t ∷ g.spell_atom fluent (gs.spell_conditions cs rest)) p)))
  left_statement (gs.macro_clause a x y items) rest p =
      left_seq items rest (tail _ _ (left_span x y (k.If ∷ gi.spell_seq items rest) (left_atom a (gi.spell_span x y (k.If ∷ gi.spell_seq items rest)) p)))
  left_statement (gs.clause a cs) rest p = left_conditions cs rest (left_atom a (gs.spell_conditions cs rest) p)
