-- The text of a statement shows the tokens of its canonical tree, where that of expressions does.
use Rattle.std.specs.Prelude.{ℕ, suc, ◌≡◌, Bool, true, List, [], ◌∷◌, ◌++◌, map, codes, refl}
use Rattle.std.proofs.Common.{append_assoc, sym, subst}
use Rattle.lps_grammar.specs.declared.tok.Tok.{Tok}
use Rattle.lps_grammar.specs.declared.tok.Tok.TheVariants as k
use Rattle.lps_grammar.specs.Signs.{is_effect, is_kind, is_moded_kind}
use Rattle.lps_grammar.specs.Expressions as ge
use Rattle.lps_grammar.specs.Statements as gs
use Rattle.lps_build.specs.Meaning as m
use Rattle.lps_build.specs.Meaning.{alternatives_of, atom_of, atoms_of, body_of, conditions_of, decl_of, decls_of, expr_of, initiates, mode_list_of, moded_of, modeds_of, modes_of, more_modes_of, seq_of}
use Rattle.lps_roundtrip.specs.Canonical.{canonical_alternatives, canonical_atoms, canonical_conditions, canonical_expr, canonical_statement}
use Rattle.lps_numbering.specs.declared.names.Names.{Names}
use Rattle.lps_printer.specs.Terms.{atom_text, joined}
use Rattle.lps_printer.specs.Expressions.{expr_text}
use Rattle.lps_printer.specs.Items.{if_conds_text, items_text}
use Rattle.lps_printer.specs.Statements.{body_text, decl_text, kind_text, law_text, mode_text, modes_text}
use Rattle.lps_roundtrip.specs.Words.{Word, words_of}
use Rattle.lps_roundtrip.specs.Shown.{AreFine, Shown}
use Rattle.lps_roundtrip.specs.Shown as shown
use Rattle.lps_roundtrip.proofs.Pieces.{Says, says_sign}
use Rattle.lps_roundtrip.proofs.Writes.{between, both_write, comma_then, nothing_writes, sign_writes, spaced, Stops, token_then, token_writes, Writes}
use Rattle.lps_roundtrip.proofs.TermTexts.{atom_writes}
use Rattle.lps_roundtrip.proofs.ItemTexts.{cond_list_writes, seq_writes}

-- ---- declarations with an arity

decl_writes : (names : Names) (t : Tok) → is_kind t ≡ true → (x : gs.Decl) → Writes names (decl_text (decl_of t x)) (gs.spell_decl x)
decl_writes names k.Fluent is (gs.decl n arity small) = both_write (λ rest ends. refl) (token_writes names (k.Name n)) (sign_writes k.Slash refl (token_writes names (k.Number arity)))
decl_writes names k.Event is (gs.decl n arity small) = both_write (λ rest ends. refl) (token_writes names (k.Name n)) (sign_writes k.Slash refl (token_writes names (k.Number arity)))
decl_writes names k.Action is (gs.decl n arity small) = both_write (λ rest ends. refl) (token_writes names (k.Name n)) (sign_writes k.Slash refl (token_writes names (k.Number arity)))
decl_writes names t is x = absurd cc

decls_stop : (t : Tok) (xs : gs.MoreDecls) → Stops (joined (codes ", ") true (map decl_text (decls_of t xs)))
decls_stop t gs.no_decl = λ rest ends. ends
decls_stop t (gs.also_decl x xs) = λ rest ends. refl

decls_write : (names : Names) (t : Tok) → is_kind t ≡ true → (xs : gs.MoreDecls) → Writes names (joined (codes ", ") true (map decl_text (decls_of t xs))) (gs.spell_decls xs)
decls_write names t is gs.no_decl = nothing_writes names
decls_write names t is (gs.also_decl x xs) = comma_then (decls_stop t xs) (decl_writes names t is x) (decls_write names t is xs)

-- ---- declarations with modes

-- the modes after a first one, and the closing parenthesis
abbrev rest_text : {n : ℕ} {free : Bool} → gs.MoreModes n free → List ℕ
rest_text xs = joined (codes ", ") true (map mode_text (more_modes_of xs)) ++ codes ")"

more_modes_write : (names : Names) {n : ℕ} {free : Bool} (xs : gs.MoreModes n free) → Writes names (rest_text xs) (gs.spell_more_modes xs)
more_modes_write names gs.last_mode = token_writes names k.Close
more_modes_write names (gs.also_mode (gs.input xs)) = sign_writes k.Comma refl (spaced (sign_writes k.Plus refl (more_modes_write names xs)))
more_modes_write names (gs.also_mode (gs.output xs)) = sign_writes k.Comma refl (spaced (sign_writes k.Minus refl (more_modes_write names xs)))
more_modes_write names (gs.also_mode (gs.falling may xs)) = sign_writes k.Comma refl (spaced (sign_writes k.Star refl (more_modes_write names xs)))

mode_list_writes : (names : Names) (xs : gs.ModeList) → Writes names (modes_text (mode_list_of xs)) (gs.spell_mode_list xs)
mode_list_writes names gs.no_mode = nothing_writes names
mode_list_writes names (gs.modes (gs.input xs)) = sign_writes k.Open refl (sign_writes k.Plus refl (more_modes_write names xs))
mode_list_writes names (gs.modes (gs.output xs)) = sign_writes k.Open refl (sign_writes k.Minus refl (more_modes_write names xs))
mode_list_writes names (gs.modes (gs.falling may xs)) = sign_writes k.Open refl (sign_writes k.Star refl (more_modes_write names xs))

mode_list_stops : (xs : gs.ModeList) → Stops (modes_text (mode_list_of xs))
mode_list_stops gs.no_mode = λ rest ends. ends
mode_list_stops (gs.modes (gs.input xs)) = λ rest ends. refl
mode_list_stops (gs.modes (gs.output xs)) = λ rest ends. refl
mode_list_stops (gs.modes (gs.falling may xs)) = λ rest ends. refl

moded_writes : (names : Names) (t : Tok) → is_moded_kind t ≡ true → (x : gs.Moded) → Writes names (decl_text (moded_of t x)) (gs.spell_moded x)
moded_writes names k.Timeless is (gs.moded n xs) = both_write (mode_list_stops xs) (token_writes names (k.Name n)) (mode_list_writes names xs)
moded_writes names k.Derived is (gs.moded n xs) = both_write (mode_list_stops xs) (token_writes names (k.Name n)) (mode_list_writes names xs)
moded_writes names k.Macro is (gs.moded n xs) = both_write (mode_list_stops xs) (token_writes names (k.Name n)) (mode_list_writes names xs)
moded_writes names t is x = absurd cc

modeds_stop : (t : Tok) (xs : gs.MoreModed) → Stops (joined (codes ", ") true (map decl_text (modeds_of t xs)))
modeds_stop t gs.no_moded = λ rest ends. ends
modeds_stop t (gs.also_moded x xs) = λ rest ends. refl

modeds_write : (names : Names) (t : Tok) → is_moded_kind t ≡ true → (xs : gs.MoreModed) → Writes names (joined (codes ", ") true (map decl_text (modeds_of t xs))) (gs.spell_modeds xs)
modeds_write names t is gs.no_moded = nothing_writes names
modeds_write names t is (gs.also_moded x xs) = comma_then (modeds_stop t xs) (moded_writes names t is x) (modeds_write names t is xs)

-- ---- what stands in front

kind_then : {names : Names} (t : Tok) → is_kind t ≡ true → {text : List ℕ} {spell : List Tok → List Tok} → Writes names text spell →
    Writes names (kind_text (m.kind_of t) ++ text) (λ toks. t ∷ spell toks)
kind_then k.Fluent is writes = token_then k.Fluent writes
kind_then k.Event is writes = token_then k.Event writes
kind_then k.Action is writes = token_then k.Action writes
kind_then t is writes = absurd cc

moded_kind_then : {names : Names} (t : Tok) → is_moded_kind t ≡ true → {text : List ℕ} {spell : List Tok → List Tok} → Writes names text spell →
    Writes names (kind_text (m.kind_of t) ++ text) (λ toks. t ∷ spell toks)
moded_kind_then k.Timeless is writes = token_then k.Timeless writes
moded_kind_then k.Derived is writes = token_then k.Derived writes
moded_kind_then k.Macro is writes = token_then k.Macro writes
moded_kind_then t is writes = absurd cc

effect_between : {names : Names} (t : Tok) → is_effect t ≡ true → {front back : List ℕ} {first second : List Tok → List Tok} → Writes names front first → Writes names back second →
    Writes names (front ++ (law_text (initiates t) ++ back)) (λ toks. first (t ∷ second toks))
effect_between k.Initiates is one other = between k.Initiates one other
effect_between k.Terminates is one other = between k.Terminates one other
effect_between t is one other = absurd cc

-- ---- atoms

atoms_stop : (names : Names) (xs : gs.MoreAtoms) → Stops (joined (codes ", ") true (map (atom_text names.names) (atoms_of xs)))
atoms_stop names gs.no_atom = λ rest ends. ends
atoms_stop names (gs.also_atom x xs) = λ rest ends. refl

atoms_write : (names : Names) (xs : gs.MoreAtoms) → Writes names (joined (codes ", ") true (map (atom_text names.names) (atoms_of xs))) (gs.spell_atoms (canonical_atoms xs))
atoms_write names gs.no_atom = nothing_writes names
atoms_write names (gs.also_atom x xs) = comma_then (atoms_stop names xs) (atom_writes names x) (atoms_write names xs)

module _ (names : Names) (expr_writes : (x : ge.Expr) → Writes names (expr_text names.names 0 (expr_of x)) (ge.spell_expr (canonical_expr x))) where
  -- ---- conditions and alternatives

  conditions_write : (x : gs.Conditions) → Writes names (if_conds_text names.names (conditions_of x)) (gs.spell_conditions (canonical_conditions x))
  conditions_write gs.always = nothing_writes names
  conditions_write (gs.when x xs) = spaced (token_then k.If (cond_list_writes names expr_writes x xs))

  conditions_stop : (x : gs.Conditions) → Stops (if_conds_text names.names (conditions_of x))
  conditions_stop gs.always = λ rest ends. ends
  conditions_stop (gs.when x xs) = λ rest ends. refl

  -- the alternatives after a first one
  abbrev others_text : gs.Alternatives → List ℕ
  others_text xs = joined (codes " or ") true (map (items_text names.names names.times) (alternatives_of xs))

  others_stop : (xs : gs.Alternatives) → Stops (others_text xs)
  others_stop gs.no_other = λ rest ends. ends
  others_stop (gs.or_else x xs) = λ rest ends. refl

  others_write : (xs : gs.Alternatives) → Writes names (others_text xs) (gs.spell_alternatives (canonical_alternatives xs))
  others_write gs.no_other = nothing_writes names
  others_write (gs.or_else x xs) = spaced (token_then k.Or (both_write (others_stop xs) (seq_writes names expr_writes x) (others_write xs)))

  -- ---- statements

  pub body_writes : (x : gs.Statement) → Writes names (body_text names.names names.times (body_of x)) (gs.spell_statement (canonical_statement x))
  body_writes (gs.declares t is (gs.decl n arity small) xs) = kind_then t is (both_write (decls_stop t xs) (decl_writes names t is (gs.decl n arity small)) (decls_write names t is xs))
  body_writes (gs.declares_modes t is (gs.moded n ms) xs) = moded_kind_then t is (both_write (modeds_stop t xs) (moded_writes names t is (gs.moded n ms)) (modeds_write names t is xs))
  body_writes (gs.initially x xs) = token_then k.Initially (both_write (atoms_stop names xs) (atom_writes names x) (atoms_write names xs))
  body_writes (gs.denial x) = token_then k.False (seq_writes names expr_writes x)
  body_writes (gs.rule x y ys) =
      token_then k.If (between k.Then (seq_writes names expr_writes x) (both_write (others_stop ys) (seq_writes names expr_writes y) (others_write ys)))
  body_writes (gs.law event t is fluent cs) =
      effect_between t is (atom_writes names event) (both_write (conditions_stop cs) (atom_writes names fluent) (conditions_write cs))
  body_writes (gs.macro_clause a begin until x) =
      between k.From (atom_writes names a) (between k.To (token_writes names (k.Time begin)) (between k.If (token_writes names (k.Time until)) (seq_writes names expr_writes x)))
  body_writes (gs.clause a cs) = both_write (conditions_stop cs) (atom_writes names a) (conditions_write cs)

  -- a statement, its full stop and a line feed
  pub statement_shows : (x : gs.Statement) (line : ℕ) (rest : List ℕ) (words : List Word) → AreFine names (gs.spell_statement (canonical_statement x) (k.Dot ∷ [])) →
      Shown (suc line) rest words →
      Shown line ((body_text names.names names.times (body_of x) ++ codes ".\n") ++ rest) (words_of names line (gs.spell_statement (canonical_statement x) (k.Dot ∷ [])) ++ words)
  statement_shows x line rest words fine more =
      let end : Says names line words (46 ∷ 10 ∷ rest) (k.Dot ∷ []) = says_sign k.Dot refl (record { shows = shown.feed more }) in
      subst (λ bytes. Shown line bytes (words_of names line (gs.spell_statement (canonical_statement x) (k.Dot ∷ [])) ++ words))
      (sym (append_assoc (body_text names.names names.times (body_of x)) (codes ".\n") rest))
      ((body_writes x).says line words (46 ∷ 10 ∷ rest) (k.Dot ∷ []) fine refl end).shows
