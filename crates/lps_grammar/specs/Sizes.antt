-- The number of each symbol in its term, atom, side or expression. Each list has a number for each token: how many symbols
-- the part that it stands in has up to it. Where a token is no symbol of a part, it is 0. What comes after goes on from there.
use Rattle.std.specs.Prelude.{ℕ, ◌+◌, Bool, false, List, [], ◌∷◌}
use Rattle.lps_grammar.specs.Terms as te
use Rattle.lps_grammar.specs.Expressions as ex
use Rattle.lps_grammar.specs.Items as it
use Rattle.lps_grammar.specs.Statements as st
use Rattle.lps_grammar.specs.Lines as li

-- an integer is one symbol, and counts at its first token
abbrev pub symbols_leaf : {vars : Bool} → te.Leaf vars → ℕ → (ℕ → List ℕ) → List ℕ
symbols_leaf (te.variable may v) c go = (c + 1) ∷ go (c + 1)
symbols_leaf (te.number n small) c go = (c + 1) ∷ go (c + 1)
symbols_leaf (te.negative n small) c go = (c + 1) ∷ (c + 1) ∷ go (c + 1)

abbrev mutual
  -- a name is one symbol; parentheses and commas are none
  pub symbols_term : {vars : Bool} → te.Term vars → ℕ → (ℕ → List ℕ) → List ℕ
  symbols_term (te.named n xs) c go = (c + 1) ∷ symbols_args xs (c + 1) go
  symbols_term (te.leaf x) c go = symbols_leaf x c go

  -- the arguments of a term that has `c` symbols so far
  pub symbols_args : {vars : Bool} → te.Args vars → ℕ → (ℕ → List ℕ) → List ℕ
  symbols_args te.bare c go = go c
  symbols_args (te.args x xs) c go = c ∷ symbols_term x c (λ d. symbols_terms xs d go)

  -- the arguments after a first one
  pub symbols_terms : {vars : Bool} {n : ℕ} → te.Terms vars n → ℕ → (ℕ → List ℕ) → List ℕ
  symbols_terms te.end c go = c ∷ go c
  symbols_terms (te.more x xs) c go = c ∷ symbols_term x c (λ d. symbols_terms xs d go)

-- an atom begins anew, with its name as symbol 1
abbrev pub symbols_atom : {vars : Bool} → te.Atom vars → List ℕ → List ℕ
symbols_atom (te.atom n xs) go = 1 ∷ symbols_args xs 1 (λ d. go)

-- each operator, operand and opening parenthesis counts one
abbrev mutual
  -- a unit of an expression that has `c` symbols so far
  pub symbols_unit : ex.Unit → ℕ → (ℕ → List ℕ) → List ℕ
  symbols_unit (ex.single x) c go = symbols_leaf x c go
  symbols_unit (ex.grouped e) c go = (c + 1) ∷ symbols_expr e (c + 1) (λ d. d ∷ go d)

  -- the factors after a first unit
  pub symbols_factors : ex.Factors → ℕ → (ℕ → List ℕ) → List ℕ
  symbols_factors ex.no_factor c go = go c
  symbols_factors (ex.times t is x xs) c go = (c + 1) ∷ symbols_unit x (c + 1) (λ d. symbols_factors xs d go)

  -- a product
  pub symbols_prod : ex.Prod → ℕ → (ℕ → List ℕ) → List ℕ
  symbols_prod (ex.prod x xs) c go = symbols_unit x c (λ d. symbols_factors xs d go)

  -- the summands after a first product
  pub symbols_summands : ex.Summands → ℕ → (ℕ → List ℕ) → List ℕ
  symbols_summands ex.no_summand c go = go c
  symbols_summands (ex.plus t is p ps) c go = (c + 1) ∷ symbols_prod p (c + 1) (λ d. symbols_summands ps d go)

  -- an expression
  pub symbols_expr : ex.Expr → ℕ → (ℕ → List ℕ) → List ℕ
  symbols_expr (ex.expr p ps) c go = symbols_prod p c (λ d. symbols_summands ps d go)

-- each side begins anew
abbrev pub symbols_built : it.Built → List ℕ → List ℕ
symbols_built (it.same x y) go = symbols_term x 0 (λ d. 0 ∷ symbols_term y 0 (λ e. go))
symbols_built (it.differ x y) go = symbols_term x 0 (λ d. 0 ∷ symbols_term y 0 (λ e. go))
symbols_built (it.evaluates x e) go = symbols_leaf x 0 (λ d. 0 ∷ symbols_expr e 0 (λ e. go))
symbols_built (it.compare a t is b) go = symbols_expr a 0 (λ d. 0 ∷ symbols_expr b 0 (λ e. go))

-- `not` is no symbol
abbrev pub symbols_cond : it.Cond → List ℕ → List ℕ
symbols_cond (it.holds a) go = symbols_atom a go
symbols_cond (it.fails a) go = 0 ∷ symbols_atom a go
symbols_cond (it.built b) go = symbols_built b go

-- the conditions after a first one
abbrev pub symbols_conds : it.MoreConds → List ℕ → List ℕ
symbols_conds it.no_cond go = go
symbols_conds (it.also x xs) go = 0 ∷ symbols_cond x (symbols_conds xs go)

-- times are no symbols
abbrev pub symbols_at : it.At → List ℕ → List ℕ
symbols_at it.untimed go = go
symbols_at (it.at t) go = 0 ∷ 0 ∷ go

-- a sign and a number of times are no symbols
abbrev pub symbols_shift : it.Shift → List ℕ → List ℕ
symbols_shift it.unshifted go = go
symbols_shift (it.shifted t is n small) go = 0 ∷ 0 ∷ go

-- a time constraint has no symbols
abbrev pub symbols_con : it.Con → List ℕ → List ℕ
symbols_con (it.con a t is b plus) go = 0 ∷ 0 ∷ 0 ∷ symbols_shift plus go

-- an item has the symbols of its atom or its sides
abbrev pub symbols_item : {bounds : Bool} → it.Item bounds → List ℕ → List ℕ
symbols_item (it.true_at a w) go = symbols_atom a (symbols_at w go)
symbols_item (it.false_at a w) go = 0 ∷ symbols_atom a (symbols_at w go)
symbols_item (it.spans a begin until) go = symbols_atom a (0 ∷ 0 ∷ 0 ∷ 0 ∷ go)
symbols_item (it.tests b) go = symbols_built b go
symbols_item (it.bound may c) go = symbols_con c go

-- the items after a first one
abbrev pub symbols_items : {bounds : Bool} → it.MoreItems bounds → List ℕ → List ℕ
symbols_items it.no_item go = go
symbols_items (it.then_item x xs) go = 0 ∷ symbols_item x (symbols_items xs go)

-- a sequence
abbrev pub symbols_seq : {bounds : Bool} → it.Seq bounds → List ℕ → List ℕ
symbols_seq (it.seq x xs) go = symbols_item x (symbols_items xs go)

-- declarations have no symbols
abbrev pub symbols_decl : st.Decl → List ℕ → List ℕ
symbols_decl (st.decl n arity small) go = 0 ∷ 0 ∷ 0 ∷ go

-- the declarations after a first one
abbrev pub symbols_decls : st.MoreDecls → List ℕ → List ℕ
symbols_decls st.no_decl go = go
symbols_decls (st.also_decl x xs) go = 0 ∷ symbols_decl x (symbols_decls xs go)

abbrev mutual
  -- modes
  pub symbols_modes : {n : ℕ} {free : Bool} → st.Modes n free → List ℕ → List ℕ
  symbols_modes (st.input xs) go = 0 ∷ symbols_more_modes xs go
  symbols_modes (st.output xs) go = 0 ∷ symbols_more_modes xs go
  symbols_modes (st.falling may xs) go = 0 ∷ symbols_more_modes xs go

  -- the modes after a first one
  pub symbols_more_modes : {n : ℕ} {free : Bool} → st.MoreModes n free → List ℕ → List ℕ
  symbols_more_modes st.last_mode go = 0 ∷ go
  symbols_more_modes (st.also_mode xs) go = 0 ∷ symbols_modes xs go

-- modes in their parentheses
abbrev pub symbols_mode_list : st.ModeList → List ℕ → List ℕ
symbols_mode_list st.no_mode go = go
symbols_mode_list (st.modes xs) go = 0 ∷ symbols_modes xs go

-- a name with its modes
abbrev pub symbols_moded : st.Moded → List ℕ → List ℕ
symbols_moded (st.moded n xs) go = 0 ∷ symbols_mode_list xs go

-- the names with modes after a first one
abbrev pub symbols_modeds : st.MoreModed → List ℕ → List ℕ
symbols_modeds st.no_moded go = go
symbols_modeds (st.also_moded x xs) go = 0 ∷ symbols_moded x (symbols_modeds xs go)

-- the atoms after a first one
abbrev pub symbols_atoms : st.MoreAtoms → List ℕ → List ℕ
symbols_atoms st.no_atom go = go
symbols_atoms (st.also_atom x xs) go = 0 ∷ symbols_atom x (symbols_atoms xs go)

-- `if` and conditions
abbrev pub symbols_conditions : st.Conditions → List ℕ → List ℕ
symbols_conditions st.always go = go
symbols_conditions (st.when x xs) go = 0 ∷ symbols_cond x (symbols_conds xs go)

-- the alternatives after a first one
abbrev pub symbols_alternatives : st.Alternatives → List ℕ → List ℕ
symbols_alternatives st.no_other go = go
symbols_alternatives (st.or_else x xs) go = 0 ∷ symbols_seq x (symbols_alternatives xs go)

-- words and times are no symbols
abbrev pub symbols_statement : st.Statement → List ℕ → List ℕ
symbols_statement (st.declares t is d ds) go = 0 ∷ symbols_decl d (symbols_decls ds go)
symbols_statement (st.declares_modes t is d ds) go = 0 ∷ symbols_moded d (symbols_modeds ds go)
symbols_statement (st.initially a xs) go = 0 ∷ symbols_atom a (symbols_atoms xs go)
symbols_statement (st.denial x) go = 0 ∷ symbols_seq x go
symbols_statement (st.rule x y ys) go = 0 ∷ symbols_seq x (0 ∷ symbols_seq y (symbols_alternatives ys go))
symbols_statement (st.law event t is fluent cs) go = symbols_atom event (0 ∷ symbols_atom fluent (symbols_conditions cs go))
symbols_statement (st.macro_clause a begin until x) go = symbols_atom a (0 ∷ 0 ∷ 0 ∷ 0 ∷ 0 ∷ symbols_seq x go)
symbols_statement (st.clause a cs) go = symbols_atom a (symbols_conditions cs go)

-- all statements of a text
abbrev pub symbols_text : st.Text → List ℕ → List ℕ
symbols_text st.done go = go
symbols_text (st.next x xs) go = symbols_statement x (0 ∷ symbols_text xs go)

-- the events after a first one
abbrev pub symbols_more_events : li.MoreEvents → List ℕ → List ℕ
symbols_more_events li.no_event go = go
symbols_more_events (li.also_event x xs) go = 0 ∷ symbols_atom x (symbols_more_events xs go)

-- the events of a line
abbrev pub symbols_events : li.Events → List ℕ → List ℕ
symbols_events li.none go = go
symbols_events (li.events x xs) go = symbols_atom x (symbols_more_events xs go)

-- a line, whose number is no symbol
abbrev pub symbols_line : li.Line → List ℕ → List ℕ
symbols_line (li.line n xs) go = 0 ∷ 0 ∷ symbols_events xs (0 ∷ go)

-- ---- the number of each event

-- For each token of a line: how many events have begun up to it. What comes after goes on from there.
abbrev pub begun_leaf : {vars : Bool} → te.Leaf vars → ℕ → List ℕ → List ℕ
begun_leaf (te.variable may v) n go = n ∷ go
begun_leaf (te.number v small) n go = n ∷ go
begun_leaf (te.negative v small) n go = n ∷ n ∷ go

abbrev mutual
  -- within a term no event begins
  pub begun_term : {vars : Bool} → te.Term vars → ℕ → List ℕ → List ℕ
  begun_term (te.named v xs) n go = n ∷ begun_args xs n go
  begun_term (te.leaf x) n go = begun_leaf x n go

  -- nor within arguments
  pub begun_args : {vars : Bool} → te.Args vars → ℕ → List ℕ → List ℕ
  begun_args te.bare n go = go
  begun_args (te.args x xs) n go = n ∷ begun_term x n (begun_terms xs n go)

  -- nor within those after a first one
  pub begun_terms : {vars : Bool} {m : ℕ} → te.Terms vars m → ℕ → List ℕ → List ℕ
  begun_terms te.end n go = n ∷ go
  begun_terms (te.more x xs) n go = n ∷ begun_term x n (begun_terms xs n go)

-- an event begins with its first token
abbrev pub begun_event : te.Atom false → ℕ → List ℕ → List ℕ
begun_event (te.atom v xs) n go = (n + 1) ∷ begun_args xs (n + 1) go

-- the events after the first `n`
abbrev pub begun_more_events : li.MoreEvents → ℕ → (ℕ → List ℕ) → List ℕ
begun_more_events li.no_event n go = go n
begun_more_events (li.also_event x xs) n go = n ∷ begun_event x n (begun_more_events xs (n + 1) go)

-- the events of a line
abbrev pub begun_events : li.Events → (ℕ → List ℕ) → List ℕ
begun_events li.none go = go 0
begun_events (li.events x xs) go = begun_event x 0 (begun_more_events xs 1 go)

-- a line
abbrev pub begun_line : li.Line → List ℕ
begun_line (li.line v xs) = 0 ∷ 0 ∷ begun_events xs (λ n. n ∷ [])
