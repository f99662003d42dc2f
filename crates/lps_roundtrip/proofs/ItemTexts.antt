-- The text of a condition, an item or a sequence shows the tokens of its canonical tree, where that of expressions does.
use Rattle.std.specs.Prelude.{ℕ, zero, suc, ◌≡◌, Bool, true, List, ◌∷◌, ◌++◌, map, codes, refl}
use Rattle.lps_grammar.specs.declared.tok.Tok.{Tok}
use Rattle.lps_grammar.specs.declared.tok.Tok.TheVariants as k
use Rattle.lps_grammar.specs.Signs.{is_rel, is_time_rel}
use Rattle.lps_grammar.specs.Expressions as ge
use Rattle.lps_grammar.specs.Items as gi
use Rattle.lps_build.specs.Meaning.{built_of, cond_of, conds_of, con_of, expr_of, item_of, items_of, rel_of, seq_of, shift_of, time_rel_of}
use Rattle.lps_roundtrip.specs.Canonical.{canonical_built, canonical_cond, canonical_conds, canonical_con, canonical_expr, canonical_item, canonical_items, canonical_seq, canonical_shift}
use Rattle.lps_numbering.specs.declared.names.Names.{Names}
use Rattle.lps_printer.specs.Terms.{joined, listed}
use Rattle.lps_printer.specs.Expressions.{built_text, expr_text, rel_text}
use Rattle.lps_printer.specs.Items.{con_text, cond_text, item_text, items_text, plus_text, time_rel_text}
use Rattle.lps_roundtrip.proofs.Writes.{between, both_write, comma_then, nothing_writes, spaced, Stops, token_then, token_writes, Writes}
use Rattle.lps_roundtrip.proofs.TermTexts.{atom_writes, leaf_writes, term_writes}

-- two texts with a relation between
pub rel_between : {names : Names} (t : Tok) → is_rel t ≡ true → {front back : List ℕ} {first second : List Tok → List Tok} → Writes names front first → Writes names back second →
    Writes names (front ++ (rel_text (rel_of t) ++ back)) (λ toks. first (t ∷ second toks))
rel_between k.Less is one other = between k.Less one other
rel_between k.AtMost is one other = between k.AtMost one other
rel_between k.Greater is one other = between k.Greater one other
rel_between k.AtLeast is one other = between k.AtLeast one other
rel_between t is one other = absurd cc

-- two texts with a relation of times between
pub time_rel_between : {names : Names} (t : Tok) → is_time_rel t ≡ true → {front back : List ℕ} {first second : List Tok → List Tok} → Writes names front first → Writes names back second →
    Writes names (front ++ (time_rel_text (time_rel_of t) ++ back)) (λ toks. first (t ∷ second toks))
time_rel_between k.Less is one other = between k.Less one other
time_rel_between k.AtMost is one other = between k.AtMost one other
time_rel_between k.Equal is one other = between k.Equal one other
time_rel_between k.Greater is one other = between k.Greater one other
time_rel_between k.AtLeast is one other = between k.AtLeast one other
time_rel_between t is one other = absurd cc

-- ---- constraints

shift_writes : (names : Names) (x : gi.Shift) → Writes names (plus_text (shift_of x)) (gi.spell_shift (canonical_shift x))
shift_writes names gi.unshifted = nothing_writes names
shift_writes names (gi.shifted k.Plus is zero small) = nothing_writes names
shift_writes names (gi.shifted k.Plus is (suc n) small) = spaced (token_then k.Plus (token_writes names (k.Number (suc n))))
shift_writes names (gi.shifted k.Minus is zero small) = nothing_writes names
shift_writes names (gi.shifted k.Minus is (suc n) small) = spaced (token_then k.Minus (token_writes names (k.Number (suc n))))
shift_writes names (gi.shifted t is n small) = absurd cc

shift_stops : (x : gi.Shift) → Stops (plus_text (shift_of x))
shift_stops gi.unshifted = λ rest ends. ends
shift_stops (gi.shifted k.Plus is zero small) = λ rest ends. ends
shift_stops (gi.shifted k.Plus is (suc n) small) = λ rest ends. refl
shift_stops (gi.shifted k.Minus is zero small) = λ rest ends. ends
shift_stops (gi.shifted k.Minus is (suc n) small) = λ rest ends. refl
shift_stops (gi.shifted t is n small) = absurd cc

pub con_writes : (names : Names) (x : gi.Con) → Writes names (con_text names.times (con_of x)) (gi.spell_con (canonical_con x))
con_writes names (gi.con x t is y plus) = time_rel_between t is (token_writes names (k.Time x)) (both_write (shift_stops plus) (token_writes names (k.Time y)) (shift_writes names plus))

module _ (names : Names) (expr_writes : (x : ge.Expr) → Writes names (expr_text names.names 0 (expr_of x)) (ge.spell_expr (canonical_expr x))) where
  pub built_writes : (x : gi.Built) → Writes names (built_text names.names (built_of x)) (gi.spell_built (canonical_built x))
  built_writes (gi.same x y) = between k.Equal (term_writes names x) (term_writes names y)
  built_writes (gi.differ x y) = between k.Differ (term_writes names x) (term_writes names y)
  built_writes (gi.evaluates x y) = between k.Is (leaf_writes names x) (expr_writes y)
  built_writes (gi.compare x t is y) = rel_between t is (expr_writes x) (expr_writes y)

  -- ---- conditions

  pub cond_writes : (x : gi.Cond) → Writes names (cond_text names.names (cond_of x)) (gi.spell_cond (canonical_cond x))
  cond_writes (gi.holds a) = atom_writes names a
  cond_writes (gi.fails a) = token_then k.Not (atom_writes names a)
  cond_writes (gi.built x) = built_writes x

  conds_stop : (xs : gi.MoreConds) → Stops (joined (codes ", ") true (map (cond_text names.names) (conds_of xs)))
  conds_stop gi.no_cond = λ rest ends. ends
  conds_stop (gi.also x xs) = λ rest ends. refl

  conds_write : (xs : gi.MoreConds) → Writes names (joined (codes ", ") true (map (cond_text names.names) (conds_of xs))) (gi.spell_conds (canonical_conds xs))
  conds_write gi.no_cond = nothing_writes names
  conds_write (gi.also x xs) = comma_then (conds_stop xs) (cond_writes x) (conds_write xs)

  pub cond_list_writes : (x : gi.Cond) (xs : gi.MoreConds) →
      Writes names (listed (map (cond_text names.names) (cond_of x ∷ conds_of xs))) (λ toks. gi.spell_cond (canonical_cond x) (gi.spell_conds (canonical_conds xs) toks))
  cond_list_writes x xs = both_write (conds_stop xs) (cond_writes x) (conds_write xs)

  -- ---- items

  pub item_writes : {bounds : Bool} (x : gi.Item bounds) → Writes names (item_text names.names names.times (item_of x)) (gi.spell_item (canonical_item x))
  item_writes (gi.true_at a gi.untimed) = atom_writes names a
  item_writes (gi.true_at a (gi.at n)) = between k.At (atom_writes names a) (token_writes names (k.Time n))
  item_writes (gi.false_at a gi.untimed) = token_then k.Not (atom_writes names a)
  item_writes (gi.false_at a (gi.at n)) = between k.At (token_then k.Not (atom_writes names a)) (token_writes names (k.Time n))
  item_writes (gi.spans a begin until) = between k.From (atom_writes names a) (between k.To (token_writes names (k.Time begin)) (token_writes names (k.Time until)))
  item_writes (gi.tests x) = built_writes x
  item_writes (gi.bound may x) = con_writes names x

  items_stop : {bounds : Bool} (xs : gi.MoreItems bounds) → Stops (joined (codes ", ") true (map (item_text names.names names.times) (items_of xs)))
  items_stop gi.no_item = λ rest ends. ends
  items_stop (gi.then_item x xs) = λ rest ends. refl

  items_write : {bounds : Bool} (xs : gi.MoreItems bounds) → Writes names (joined (codes ", ") true (map (item_text names.names names.times) (items_of xs))) (gi.spell_items (canonical_items xs))
  items_write gi.no_item = nothing_writes names
  items_write (gi.then_item x xs) = comma_then (items_stop xs) (item_writes x) (items_write xs)

  pub seq_writes : {bounds : Bool} (x : gi.Seq bounds) → Writes names (items_text names.names names.times (seq_of x)) (gi.spell_seq (canonical_seq x))
  seq_writes (gi.seq x xs) = both_write (items_stop xs) (item_writes x) (items_write xs)
