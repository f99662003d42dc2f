-- What the trees of the grammar mean is formed, where each token of their spelling is: one walk over the trees, that is
-- told what each token has, and gives what holds of the tokens after the tree.
use Rattle.std.specs.Prelude.{ℕ, zero, suc, ◌≡◌, ◌≤◌, ◌^◌, pos, Bool, true, false, not, List, [], ◌∷◌, length, nat_lt, nat_le, refl}
use Rattle.std.specs.Cmp.Derive.{both_true}
use Rattle.std.specs.List.{list_all}
use Rattle.std.proofs.Common.{◌∙◌, ap, arith}
use Rattle.std.proofs.lemmas.Bool.{eq-eqb, leb-true, le-leb, lt-ltb}
use Rattle.lps_terms.specs.Names.{is_proper_name}
use Rattle.lps_terms.specs.declared.term.Term.{Term}
use Rattle.lps_terms.specs.declared.expr.Expr.{Expr}
use Rattle.lps_terms.specs.declared.expr.Expr.TheVariants as e
use Rattle.lps_terms.specs.declared.lit.Lit.{Lit}
use Rattle.lps_grammar.specs.declared.tok.Tok.{Tok}
use Rattle.lps_grammar.specs.declared.tok.Tok.TheVariants as k
use Rattle.lps_grammar.specs.Signs.{is_add, is_effect, is_kind, is_moded_kind, is_mul, is_rel, is_time_rel}
use Rattle.lps_grammar.specs.Terms as g
use Rattle.lps_grammar.specs.Expressions as ge
use Rattle.lps_grammar.specs.Items as gi
use Rattle.lps_grammar.specs.Statements as gs
use Rattle.lps_build.specs.Meaning.{alternatives_of, args_of, atom_of, atoms_of, body_of, call_of, cond_of, conditions_of, conds_of, decl_of, decls_of, expr_of, factors_of, item_of, items_of, kind_of, leaf_of, lit_of, minus, mode_list_of, moded_of, modeds_of, modes_of, more_modes_of, op_of, placed, prod_of, seq_of, shift_of, signed, summands_of, term_of, terms_of, unit_of, built_of}
use Rattle.lps_model.specs.Formed.{fits_modes, has_modes, is_formed-App, is_formed-Apply, is_formed-Int, is_formed-Leaf, is_formed-Sym, is_formed-Var, is_formed_atom, is_formed_body, is_formed_built, is_formed_cond, is_formed_decl, is_formed_expr, is_formed_item, is_formed_term, is_no_constraint, is_shift, is_star, stars_once}
use Rattle.lps_terms.specs.Integers.{is_i64}
use Rattle.lps_formed.proofs.Along.{is_dot, IsFormedTok}

-- ---- numbers, constraints and modes, which the trees bound by themselves

minus_word : (n : ℕ) → nat_le n (2 ^ 63) ≡ true → is_i64 (minus n) ≡ true
minus_word zero small = refl
minus_word (suc n) small = lt-ltb n (2 ^ 63) (leb-true (suc n) (2 ^ 63) small)

signed_shift : (t : Tok) (n : ℕ) → is_add t ≡ true → nat_le n 1000000 ≡ true → is_shift (signed t n) ≡ true
signed_shift k.Plus n is small = small
signed_shift k.Minus zero is small = refl
signed_shift k.Minus (suc n) is small = lt-ltb n 1000000 (leb-true (suc n) 1000000 small)
signed_shift t n is small = absurd cc

shift_formed : (x : gi.Shift) → is_shift (shift_of x) ≡ true
shift_formed gi.unshifted = refl
shift_formed (gi.shifted t is n small) = signed_shift t n is small

placed_no_constraint : (lit : Lit) (w : gi.At) → is_no_constraint (placed lit w) ≡ true
placed_no_constraint lit gi.untimed = refl
placed_no_constraint lit (gi.at t) = refl

item_no_constraint : (x : gi.Item false) → is_no_constraint (item_of x) ≡ true
item_no_constraint (gi.true_at a w) = placed_no_constraint (lit_of false (atom_of a)) w
item_no_constraint (gi.false_at a w) = placed_no_constraint (lit_of true (atom_of a)) w
item_no_constraint (gi.spans a begin until) = refl
item_no_constraint (gi.tests x) = refl
item_no_constraint (gi.bound may x) = absurd cc

items_no_constraint : (xs : gi.MoreItems false) → list_all is_no_constraint (items_of xs) ≡ true
items_no_constraint gi.no_item = refl
items_no_constraint (gi.then_item x xs) = both_true (item_no_constraint x) (items_no_constraint xs)

seq_no_constraint : (x : gi.Seq false) → list_all is_no_constraint (seq_of x) ≡ true
seq_no_constraint (gi.seq x xs) = both_true (item_no_constraint x) (items_no_constraint xs)

kind_no_modes : (t : Tok) → is_kind t ≡ true → has_modes (kind_of t) ≡ false
kind_no_modes k.Fluent is = refl
kind_no_modes k.Event is = refl
kind_no_modes k.Action is = refl
kind_no_modes t is = absurd cc

kind_has_modes : (t : Tok) → is_moded_kind t ≡ true → has_modes (kind_of t) ≡ true
kind_has_modes k.Timeless is = refl
kind_has_modes k.Derived is = refl
kind_has_modes k.Macro is = refl
kind_has_modes t is = absurd cc

mutual
  modes_size : {n : ℕ} {free : Bool} (x : gs.Modes n free) → length (modes_of x) ≤ suc n
  modes_size (gs.input xs) = more_modes_size xs
  modes_size (gs.output xs) = more_modes_size xs
  modes_size (gs.falling may xs) = more_modes_size xs

  more_modes_size : {n : ℕ} {free : Bool} (x : gs.MoreModes n free) → suc (length (more_modes_of x)) ≤ suc n
  more_modes_size gs.last_mode = omega arith
  more_modes_size (gs.also_mode xs) = let few = modes_size xs in omega (arith, few)

mutual
  modes_no_star : {n : ℕ} (x : gs.Modes n false) → list_all (λ mode. not (is_star mode)) (modes_of x) ≡ true
  modes_no_star (gs.input xs) = more_modes_no_star xs
  modes_no_star (gs.output xs) = more_modes_no_star xs
  modes_no_star (gs.falling may xs) = absurd cc

  more_modes_no_star : {n : ℕ} (x : gs.MoreModes n false) → list_all (λ mode. not (is_star mode)) (more_modes_of x) ≡ true
  more_modes_no_star gs.last_mode = refl
  more_modes_no_star (gs.also_mode xs) = modes_no_star xs

mutual
  modes_once : {n : ℕ} (x : gs.Modes n true) → stars_once (modes_of x) ≡ true
  modes_once (gs.input xs) = more_modes_once xs
  modes_once (gs.output xs) = more_modes_once xs
  modes_once (gs.falling may xs) = more_modes_no_star xs

  more_modes_once : {n : ℕ} (x : gs.MoreModes n true) → stars_once (more_modes_of x) ≡ true
  more_modes_once gs.last_mode = refl
  more_modes_once (gs.also_mode xs) = modes_once xs

mode_list_size : (x : gs.ModeList) → length (mode_list_of x) ≤ 64
mode_list_size gs.no_mode = omega arith
mode_list_size (gs.modes xs) = modes_size xs

mode_list_once : (x : gs.ModeList) → stars_once (mode_list_of x) ≡ true
mode_list_once gs.no_mode = refl
mode_list_once (gs.modes xs) = modes_once xs

-- a token of a kind that has no full stop
no_dot_by : (test : Tok → Bool) → test k.Dot ≡ false → (tok : Tok) → test tok ≡ true → is_dot tok ≡ false
no_dot_by test none k.Dot is = absurd cc
no_dot_by test none tok is = refl

-- ---- the walk

-- Each token but the full stop is formed, where `P` holds of it and those after it, and then `P` holds of those after it.
module _ (variables times : ℕ) (P : List Tok → Type 0)
    (step : (tok : Tok) (toks : List Tok) → is_dot tok ≡ false → P (tok ∷ toks) → IsFormedTok variables times tok × P toks) where
  -- the test is passed, and `P` holds of the tokens after the tree
  abbrev Passes : Bool → List Tok → Type 0
  Passes test rest = (test ≡ true) × P rest

  -- these tokens are passed over
  skip : (tok : Tok) (toks : List Tok) → is_dot tok ≡ false → P (tok ∷ toks) → P toks
  skip tok toks no_dot p = (step tok toks no_dot p).1

  -- ---- terms

  leaf_formed : {vars : Bool} (x : g.Leaf vars) (rest : List Tok) → P (g.spell_leaf x rest) → Passes (is_formed_term variables (leaf_of x)) rest
  leaf_formed (g.variable may v) rest p = let here = step (k.Variable v) rest refl p in (is_formed-Var variables v ∙ here.0, here.1)
  leaf_formed (g.number n small) rest p = (is_formed-Int variables (pos n) ∙ small, skip (k.Number n) rest refl p)
  leaf_formed (g.negative n small) rest p =
      (is_formed-Int variables (minus n) ∙ minus_word n small, skip (k.Number n) rest refl (skip k.Minus (k.Number n ∷ rest) refl p))

  -- formed terms, at most so many
  record AreArgs (most : ℕ) (xs : List Term) (rest : List Tok) : Type 0 where
    few : length xs ≤ most
    formed : list_all (is_formed_term variables) xs ≡ true
    left : P rest

  call_formed : (n : List ℕ) (xs : List Term) → is_proper_name n ≡ true → length xs ≤ 64 → list_all (is_formed_term variables) xs ≡ true → is_formed_term variables (call_of n xs) ≡ true
  call_formed n [] proper few formed = is_formed-Sym variables n ∙ proper
  call_formed n (x ∷ xs) proper few formed = is_formed-App variables n (x ∷ xs) ∙ both_true (both_true (both_true proper (lt-ltb 0 (length (x ∷ xs)) (omega arith))) (le-leb _ _ few)) formed

  mutual
    term_formed : {vars : Bool} (x : g.Term vars) (rest : List Tok) → P (g.spell_term x rest) → Passes (is_formed_term variables (term_of x)) rest
    term_formed (g.named n xs) rest p =
        let name = step (k.Name n) (g.spell_args xs rest) refl p in
        let args = args_formed xs rest name.1 in
        (call_formed n (args_of xs) name.0 args.few args.formed, args.left)
    term_formed (g.leaf x) rest p = leaf_formed x rest p

    args_formed : {vars : Bool} (xs : g.Args vars) (rest : List Tok) → P (g.spell_args xs rest) → AreArgs 64 (args_of xs) rest
    args_formed g.bare rest p = record { few = omega arith; formed = refl; left = p }
    args_formed (g.args x xs) rest p =
        let first = term_formed x (g.spell_terms xs rest) (skip k.Open _ refl p) in
        let more = terms_formed xs rest first.1 in
        record { few = omega (arith, more.few); formed = both_true first.0 more.formed; left = more.left }

    terms_formed : {vars : Bool} {n : ℕ} (xs : g.Terms vars n) (rest : List Tok) → P (g.spell_terms xs rest) → AreArgs n (terms_of xs) rest
    terms_formed g.end rest p = record { few = omega arith; formed = refl; left = skip k.Close rest refl p }
    terms_formed (g.more x xs) rest p =
        let first = term_formed x (g.spell_terms xs rest) (skip k.Comma _ refl p) in
        let more = terms_formed xs rest first.1 in
        record { few = omega (arith, more.few); formed = both_true first.0 more.formed; left = more.left }

  atom_formed : {vars : Bool} (x : g.Atom vars) (rest : List Tok) → P (g.spell_atom x rest) → Passes (is_formed_atom variables (atom_of x)) rest
  atom_formed (g.atom n xs) rest p =
      let name = step (k.Name n) (g.spell_args xs rest) refl p in
      let args = args_formed xs rest name.1 in
      (both_true (both_true name.0 (le-leb _ _ args.few)) args.formed, args.left)

  -- ---- expressions

  apply_formed : (t : Tok) (x y : Expr) → is_formed_expr variables x ≡ true → is_formed_expr variables y ≡ true → is_formed_expr variables (e.Apply (op_of t) x y) ≡ true
  apply_formed t x y first second = is_formed-Apply variables (op_of t) x y ∙ both_true first second

  mutual
    unit_formed : (x : ge.Unit) (rest : List Tok) → P (ge.spell_unit x rest) → Passes (is_formed_expr variables (unit_of x)) rest
    unit_formed (ge.single x) rest p = let here = leaf_formed x rest p in (is_formed-Leaf variables (leaf_of x) ∙ here.0, here.1)
    unit_formed (ge.grouped x) rest p =
        let here = expr_formed x (k.Close ∷ rest) (skip k.Open _ refl p) in
        (here.0, skip k.Close rest refl here.1)

    factors_formed : (xs : ge.Factors) (before : Expr) (rest : List Tok) → is_formed_expr variables before ≡ true → P (ge.spell_factors xs rest) → Passes (is_formed_expr variables (factors_of xs before)) rest
    factors_formed ge.no_factor before rest formed p = (formed, p)
    factors_formed (ge.times t is x xs) before rest formed p =
        let first = unit_formed x (ge.spell_factors xs rest) (skip t _ (no_dot_by is_mul refl t is) p) in
        factors_formed xs (e.Apply (op_of t) before (unit_of x)) rest (apply_formed t before (unit_of x) formed first.0) first.1

    prod_formed : (x : ge.Prod) (rest : List Tok) → P (ge.spell_prod x rest) → Passes (is_formed_expr variables (prod_of x)) rest
    prod_formed (ge.prod x xs) rest p =
        let first = unit_formed x (ge.spell_factors xs rest) p in
        factors_formed xs (unit_of x) rest first.0 first.1

    summands_formed : (xs : ge.Summands) (before : Expr) (rest : List Tok) → is_formed_expr variables before ≡ true → P (ge.spell_summands xs rest) → Passes (is_formed_expr variables (summands_of xs before)) rest
    summands_formed ge.no_summand before rest formed p = (formed, p)
    summands_formed (ge.plus t is x xs) before rest formed p =
        let first = prod_formed x (ge.spell_summands xs rest) (skip t _ (no_dot_by is_add refl t is) p) in
        summands_formed xs (e.Apply (op_of t) before (prod_of x)) rest (apply_formed t before (prod_of x) formed first.0) first.1

    expr_formed : (x : ge.Expr) (rest : List Tok) → P (ge.spell_expr x rest) → Passes (is_formed_expr variables (expr_of x)) rest
    expr_formed (ge.expr x xs) rest p =
        let first = prod_formed x (ge.spell_summands xs rest) p in
        summands_formed xs (prod_of x) rest first.0 first.1

  -- ---- conditions and items

  built_formed : (x : gi.Built) (rest : List Tok) → P (gi.spell_built x rest) → Passes (is_formed_built variables (built_of x)) rest
  built_formed (gi.same x y) rest p =
      let first = term_formed x (k.Equal ∷ g.spell_term y rest) p in
      let second = term_formed y rest (skip k.Equal _ refl first.1) in
      (both_true first.0 second.0, second.1)
  built_formed (gi.differ x y) rest p =
      let first = term_formed x (k.Differ ∷ g.spell_term y rest) p in
      let second = term_formed y rest (skip k.Differ _ refl first.1) in
      (both_true first.0 second.0, second.1)
  built_formed (gi.evaluates x y) rest p =
      let first = leaf_formed x (k.Is ∷ ge.spell_expr y rest) p in
      let second = expr_formed y rest (skip k.Is _ refl first.1) in
      (both_true first.0 second.0, second.1)
  built_formed (gi.compare x t is y) rest p =
      let first = expr_formed x (t ∷ ge.spell_expr y rest) p in
      let second = expr_formed y rest (skip t _ (no_dot_by is_rel refl t is) first.1) in
      (both_true first.0 second.0, second.1)

  cond_formed : (x : gi.Cond) (rest : List Tok) → P (gi.spell_cond x rest) → Passes (is_formed_cond variables (cond_of x)) rest
  cond_formed (gi.holds a) rest p = atom_formed a rest p
  cond_formed (gi.fails a) rest p = atom_formed a rest (skip k.Not _ refl p)
  cond_formed (gi.built x) rest p = built_formed x rest p

  conds_formed : (xs : gi.MoreConds) (rest : List Tok) → P (gi.spell_conds xs rest) → Passes (list_all (is_formed_cond variables) (conds_of xs)) rest
  conds_formed gi.no_cond rest p = (refl, p)
  conds_formed (gi.also x xs) rest p =
      let first = cond_formed x (gi.spell_conds xs rest) (skip k.Comma _ refl p) in
      let more = conds_formed xs rest first.1 in
      (both_true first.0 more.0, more.1)

  placed_formed : (lit : Lit) (w : gi.At) (rest : List Tok) → is_formed_atom variables lit.atom ≡ true → P (gi.spell_at w rest) → Passes (is_formed_item variables times (placed lit w)) rest
  placed_formed lit gi.untimed rest formed p = (formed, p)
  placed_formed lit (gi.at t) rest formed p = let time = step (k.Time t) rest refl (skip k.At _ refl p) in (both_true formed time.0, time.1)

  -- two times are named
  record AreTimes (first second : ℕ) (rest : List Tok) : Type 0 where
    from : nat_lt first times ≡ true
    until : nat_lt second times ≡ true
    left : P rest

  span_formed : (begin until : ℕ) (rest : List Tok) → P (gi.spell_span begin until rest) → AreTimes begin until rest
  span_formed begin until rest p =
      let first = step (k.Time begin) (k.To ∷ k.Time until ∷ rest) refl (skip k.From _ refl p) in
      let second = step (k.Time until) rest refl (skip k.To _ refl first.1) in
      record { from = first.0; until = second.0; left = second.1 }

  shift_passed : (x : gi.Shift) (rest : List Tok) → P (gi.spell_shift x rest) → P rest
  shift_passed gi.unshifted rest p = p
  shift_passed (gi.shifted t is n small) rest p = skip (k.Number n) rest refl (skip t (k.Number n ∷ rest) (no_dot_by is_add refl t is) p)

  item_formed : {bounds : Bool} (x : gi.Item bounds) (rest : List Tok) → P (gi.spell_item x rest) → Passes (is_formed_item variables times (item_of x)) rest
  item_formed (gi.true_at a w) rest p =
      let atom = atom_formed a (gi.spell_at w rest) p in
      placed_formed (lit_of false (atom_of a)) w rest atom.0 atom.1
  item_formed (gi.false_at a w) rest p =
      let atom = atom_formed a (gi.spell_at w rest) (skip k.Not _ refl p) in
      placed_formed (lit_of true (atom_of a)) w rest atom.0 atom.1
  item_formed (gi.spans a begin until) rest p =
      let atom = atom_formed a (gi.spell_span begin until rest) p in
      let span = span_formed begin until rest atom.1 in
      (both_true (both_true atom.0 span.from) span.until, span.left)
  item_formed (gi.tests x) rest p = built_formed x rest p
  item_formed (gi.bound may (gi.con a t is b plus)) rest p =
      let first = step (k.Time a) (t ∷ k.Time b ∷ gi.spell_shift plus rest) refl p in
      let second = step (k.Time b) (gi.spell_shift plus rest) refl (skip t _ (no_dot_by is_time_rel refl t is) first.1) in
      (both_true (both_true first.0 second.0) (shift_formed plus), shift_passed plus rest second.1)

  items_formed : {bounds : Bool} (xs : gi.MoreItems bounds) (rest : List Tok) → P (gi.spell_items xs rest) → Passes (list_all (is_formed_item variables times) (items_of xs)) rest
  items_formed gi.no_item rest p = (refl, p)
  items_formed (gi.then_item x xs) rest p =
      let first = item_formed x (gi.spell_items xs rest) (skip k.Comma _ refl p) in
      let more = items_formed xs rest first.1 in
      (both_true first.0 more.0, more.1)

  seq_formed : {bounds : Bool} (x : gi.Seq bounds) (rest : List Tok) → P (gi.spell_seq x rest) → Passes (list_all (is_formed_item variables times) (seq_of x)) rest
  seq_formed (gi.seq x xs) rest p =
      let first = item_formed x (gi.spell_items xs rest) p in
      let more = items_formed xs rest first.1 in
      (both_true first.0 more.0, more.1)

  -- ---- declarations

  decl_formed : (t : Tok) → is_kind t ≡ true → (x : gs.Decl) (rest : List Tok) → P (gs.spell_decl x rest) → Passes (is_formed_decl (decl_of t x)) rest
  decl_formed t is (gs.decl n arity small) rest p =
      let name = step (k.Name n) (k.Slash ∷ k.Number arity ∷ rest) refl p in
      (both_true (both_true (both_true name.0 small) (ap (λ moded. fits_modes moded arity []) (kind_no_modes t is))) refl, skip (k.Number arity) rest refl (skip k.Slash _ refl name.1))

  decls_formed : (t : Tok) → is_kind t ≡ true → (xs : gs.MoreDecls) (rest : List Tok) → P (gs.spell_decls xs rest) → Passes (list_all is_formed_decl (decls_of t xs)) rest
  decls_formed t is gs.no_decl rest p = (refl, p)
  decls_formed t is (gs.also_decl x xs) rest p =
      let first = decl_formed t is x (gs.spell_decls xs rest) (skip k.Comma _ refl p) in
      let more = decls_formed t is xs rest first.1 in
      (both_true first.0 more.0, more.1)

  mutual
    modes_passed : {n : ℕ} {free : Bool} (x : gs.Modes n free) (rest : List Tok) → P (gs.spell_modes x rest) → P rest
    modes_passed (gs.input xs) rest p = more_modes_passed xs rest (skip k.Plus _ refl p)
    modes_passed (gs.output xs) rest p = more_modes_passed xs rest (skip k.Minus _ refl p)
    modes_passed (gs.falling may xs) rest p = more_modes_passed xs rest (skip k.Star _ refl p)

    more_modes_passed : {n : ℕ} {free : Bool} (x : gs.MoreModes n free) (rest : List Tok) → P (gs.spell_more_modes x rest) → P rest
    more_modes_passed gs.last_mode rest p = skip k.Close rest refl p
    more_modes_passed (gs.also_mode xs) rest p = modes_passed xs rest (skip k.Comma _ refl p)

  mode_list_passed : (x : gs.ModeList) (rest : List Tok) → P (gs.spell_mode_list x rest) → P rest
  mode_list_passed gs.no_mode rest p = p
  mode_list_passed (gs.modes xs) rest p = modes_passed xs rest (skip k.Open _ refl p)

  moded_formed : (t : Tok) → is_moded_kind t ≡ true → (x : gs.Moded) (rest : List Tok) → P (gs.spell_moded x rest) → Passes (is_formed_decl (moded_of t x)) rest
  moded_formed t is (gs.moded n xs) rest p =
      let name = step (k.Name n) (gs.spell_mode_list xs rest) refl p in
      let count = length (mode_list_of xs) in
      let fits : fits_modes (has_modes (kind_of t)) count (mode_list_of xs) ≡ true = ap (λ moded. fits_modes moded count (mode_list_of xs)) (kind_has_modes t is) ∙ eq-eqb count count refl in
      (both_true (both_true (both_true name.0 (le-leb count 64 (mode_list_size xs))) fits) (mode_list_once xs), mode_list_passed xs rest name.1)

  modeds_formed : (t : Tok) → is_moded_kind t ≡ true → (xs : gs.MoreModed) (rest : List Tok) → P (gs.spell_modeds xs rest) → Passes (list_all is_formed_decl (modeds_of t xs)) rest
  modeds_formed t is gs.no_moded rest p = (refl, p)
  modeds_formed t is (gs.also_moded x xs) rest p =
      let first = moded_formed t is x (gs.spell_modeds xs rest) (skip k.Comma _ refl p) in
      let more = modeds_formed t is xs rest first.1 in
      (both_true first.0 more.0, more.1)

  -- ---- statements

  atoms_formed : (xs : gs.MoreAtoms) (rest : List Tok) → P (gs.spell_atoms xs rest) → Passes (list_all (is_formed_atom variables) (atoms_of xs)) rest
  atoms_formed gs.no_atom rest p = (refl, p)
  atoms_formed (gs.also_atom x xs) rest p =
      let first = atom_formed x (gs.spell_atoms xs rest) (skip k.Comma _ refl p) in
      let more = atoms_formed xs rest first.1 in
      (both_true first.0 more.0, more.1)

  conditions_formed : (x : gs.Conditions) (rest : List Tok) → P (gs.spell_conditions x rest) → Passes (list_all (is_formed_cond variables) (conditions_of x)) rest
  conditions_formed gs.always rest p = (refl, p)
  conditions_formed (gs.when x xs) rest p =
      let first = cond_formed x (gi.spell_conds xs rest) (skip k.If _ refl p) in
      let more = conds_formed xs rest first.1 in
      (both_true first.0 more.0, more.1)

  alternatives_formed : (xs : gs.Alternatives) (rest : List Tok) → P (gs.spell_alternatives xs rest) → Passes (list_all (list_all (is_formed_item variables times)) (alternatives_of xs)) rest
  alternatives_formed gs.no_other rest p = (refl, p)
  alternatives_formed (gs.or_else x xs) rest p =
      let first = seq_formed x (gs.spell_alternatives xs rest) (skip k.Or _ refl p) in
      let more = alternatives_formed xs rest first.1 in
      (both_true first.0 more.0, more.1)

  pub statement_formed : (x : gs.Statement) (rest : List Tok) → P (gs.spell_statement x rest) → Passes (is_formed_body variables times (body_of x)) rest
  statement_formed (gs.declares t is x xs) rest p =
      let first = decl_formed t is x (gs.spell_decls xs rest) (skip t _ (no_dot_by is_kind refl t is) p) in
      let more = decls_formed t is xs rest first.1 in
      (both_true first.0 more.0, more.1)
  statement_formed (gs.declares_modes t is x xs) rest p =
      let first = moded_formed t is x (gs.spell_modeds xs rest) (skip t _ (no_dot_by is_moded_kind refl t is) p) in
      let more = modeds_formed t is xs rest first.1 in
      (both_true first.0 more.0, more.1)
  statement_formed (gs.initially x xs) rest p =
      let first = atom_formed x (gs.spell_atoms xs rest) (skip k.Initially _ refl p) in
      let more = atoms_formed xs rest first.1 in
      (both_true first.0 more.0, more.1)
  statement_formed (gs.denial x) rest p =
      let items = seq_formed x rest (skip k.False _ refl p) in
      (both_true items.0 (seq_no_constraint x), items.1)
  statement_formed (gs.rule x y ys) rest p =
      let before = seq_formed x (k.Then ∷ gi.spell_seq y (gs.spell_alternatives ys rest)) (skip k.If _ refl p) in
      let first = seq_formed y (gs.spell_alternatives ys rest) (skip k.Then _ refl before.1) in
      let more = alternatives_formed ys rest first.1 in
      (both_true before.0 (both_true first.0 more.0), more.1)
  statement_formed (gs.law event t is fluent cs) rest p =
      let first = atom_formed event (t ∷ g.spell_atom fluent (gs.spell_conditions cs rest)) p in
      let second = atom_formed fluent (gs.spell_conditions cs rest) (skip t _ (no_dot_by is_effect refl t is) first.1) in
      let conds = conditions_formed cs rest second.1 in
      (both_true (both_true first.0 second.0) conds.0, conds.1)
  statement_formed (gs.macro_clause a begin until x) rest p =
      let head = atom_formed a (gi.spell_span begin until (k.If ∷ gi.spell_seq x rest)) p in
      let span = span_formed begin until (k.If ∷ gi.spell_seq x rest) head.1 in
      let items = seq_formed x rest (skip k.If _ refl span.left) in
      (both_true (both_true (both_true head.0 span.from) span.until) items.0, items.1)
  statement_formed (gs.clause a cs) rest p =
      let head = atom_formed a (gs.spell_conditions cs rest) p in
      let conds = conditions_formed cs rest head.1 in
      (both_true head.0 conds.0, conds.1)
