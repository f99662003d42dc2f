-- The conditions of clauses and laws, and the items of sequences and denials: their trees, and the tokens of each.
use Rattle.std.specs.Prelude.{ℕ, ◌≡◌, Bool, true, List, ◌∷◌, nat_le}
use Rattle.lps_grammar.specs.declared.tok.Tok.{Tok}
use Rattle.lps_grammar.specs.declared.tok.Tok.TheVariants as k
use Rattle.lps_grammar.specs.Signs.{is_add, is_rel, is_time_rel}
use Rattle.lps_grammar.specs.Terms.{Leaf, Term, Atom, spell_leaf, spell_term, spell_atom}
use Rattle.lps_grammar.specs.Expressions.{Expr, spell_expr}

-- built = term "=" term | term "\=" term | leaf "is" expr | expr ("<" | "=<" | ">" | ">=") expr
pub data Built : Type 0 where
  same : Term true → Term true → Built
  differ : Term true → Term true → Built
  evaluates : Leaf true → Expr → Built
  compare : Expr → (t : Tok) → is_rel t ≡ true → Expr → Built

-- cond = [ "not" ] atom | built
pub data Cond : Type 0 where
  holds : Atom true → Cond
  fails : Atom true → Cond
  built : Built → Cond

-- conds = cond { "," cond }
pub data MoreConds : Type 0 where
  no_cond : MoreConds
  also : Cond → MoreConds → MoreConds

-- [ "at" time ]
pub data At : Type 0 where
  untimed : At
  at : ℕ → At

-- [ ("+" | "-") number ], the number at most a million
pub data Shift : Type 0 where
  unshifted : Shift
  shifted : (t : Tok) → is_add t ≡ true → (n : ℕ) → nat_le n 1000000 ≡ true → Shift

-- con = time ("=<" | "<" | "=" | ">=" | ">") time [ ("+" | "-") number ]
pub data Con : Type 0 where
  con : ℕ → (t : Tok) → is_time_rel t ≡ true → ℕ → Shift → Con

-- item = [ "not" ] atom [ "at" time ] | atom "from" time "to" time | built | con; a con only where `bounds` is true
pub data Item : Bool → Type 0 where
  true_at : {bounds : Bool} → Atom true → At → Item bounds
  false_at : {bounds : Bool} → Atom true → At → Item bounds
  spans : {bounds : Bool} → Atom true → ℕ → ℕ → Item bounds
  tests : {bounds : Bool} → Built → Item bounds
  bound : {bounds : Bool} → bounds ≡ true → Con → Item bounds

-- { "," item }
pub data MoreItems : Bool → Type 0 where
  no_item : {bounds : Bool} → MoreItems bounds
  then_item : {bounds : Bool} → Item bounds → MoreItems bounds → MoreItems bounds

-- seq = item { "," item }
pub data Seq : Bool → Type 0 where
  seq : {bounds : Bool} → Item bounds → MoreItems bounds → Seq bounds

-- the tokens of a built-in, and then `rest`
abbrev pub spell_built : Built → List Tok → List Tok
spell_built (same x y) rest = spell_term x (k.Equal ∷ spell_term y rest)
spell_built (differ x y) rest = spell_term x (k.Differ ∷ spell_term y rest)
spell_built (evaluates x e) rest = spell_leaf x (k.Is ∷ spell_expr e rest)
spell_built (compare a t is b) rest = spell_expr a (t ∷ spell_expr b rest)

-- the tokens of a condition
abbrev pub spell_cond : Cond → List Tok → List Tok
spell_cond (holds a) rest = spell_atom a rest
spell_cond (fails a) rest = k.Not ∷ spell_atom a rest
spell_cond (built b) rest = spell_built b rest

-- the tokens of the conditions after a first one
abbrev pub spell_conds : MoreConds → List Tok → List Tok
spell_conds no_cond rest = rest
spell_conds (also c cs) rest = k.Comma ∷ spell_cond c (spell_conds cs rest)

-- the tokens of `at` and a time, if they stand there
abbrev pub spell_at : At → List Tok → List Tok
spell_at untimed rest = rest
spell_at (at t) rest = k.At ∷ k.Time t ∷ rest

-- the tokens of `from`, a time, `to` and a time
abbrev pub spell_span : ℕ → ℕ → List Tok → List Tok
spell_span begin until rest = k.From ∷ k.Time begin ∷ k.To ∷ k.Time until ∷ rest

-- the tokens of a sign and a number, if they stand there
abbrev pub spell_shift : Shift → List Tok → List Tok
spell_shift unshifted rest = rest
spell_shift (shifted t is n small) rest = t ∷ k.Number n ∷ rest

-- the tokens of a time constraint
abbrev pub spell_con : Con → List Tok → List Tok
spell_con (con a t is b plus) rest = k.Time a ∷ t ∷ k.Time b ∷ spell_shift plus rest

-- the tokens of an item
abbrev pub spell_item : {bounds : Bool} → Item bounds → List Tok → List Tok
spell_item (true_at a w) rest = spell_atom a (spell_at w rest)
spell_item (false_at a w) rest = k.Not ∷ spell_atom a (spell_at w rest)
spell_item (spans a begin until) rest = spell_atom a (spell_span begin until rest)
spell_item (tests b) rest = spell_built b rest
spell_item (bound may c) rest = spell_con c rest

-- the tokens of the items after a first one
abbrev pub spell_items : {bounds : Bool} → MoreItems bounds → List Tok → List Tok
spell_items no_item rest = rest
spell_items (then_item x xs) rest = k.Comma ∷ spell_item x (spell_items xs rest)

-- the tokens of a sequence
abbrev pub spell_seq : {bounds : Bool} → Seq bounds → List Tok → List Tok
spell_seq (seq x xs) rest = spell_item x (spell_items xs rest)
