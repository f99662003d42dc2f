-- Statements and texts: their trees, and the tokens of each.
use Rattle.std.specs.Prelude.{ℕ, suc, ◌≡◌, ◌++◌, Bool, true, false, List, [], ◌∷◌, nat_le}
use Rattle.lps_grammar.specs.declared.tok.Tok.{Tok}
use Rattle.lps_grammar.specs.declared.tok.Tok.TheVariants as k
use Rattle.lps_grammar.specs.Signs.{is_kind, is_moded_kind, is_effect}
use Rattle.lps_grammar.specs.Terms.{Atom, spell_atom}
use Rattle.lps_grammar.specs.Items.{Cond, MoreConds, Seq, spell_cond, spell_conds, spell_span, spell_seq}

-- name "/" number, the number at most 64
pub data Decl : Type 0 where
  decl : List ℕ → (arity : ℕ) → nat_le arity 64 ≡ true → Decl

-- { "," name "/" number }
pub data MoreDecls : Type 0 where
  no_decl : MoreDecls
  also_decl : Decl → MoreDecls → MoreDecls

mutual
  -- mode = "+" | "-" | "*"; at most `n` modes after this one; a `*` only where `free` is true, and then no second
  pub data Modes : ℕ → Bool → Type 0 where
    input : {n : ℕ} {free : Bool} → MoreModes n free → Modes n free
    output : {n : ℕ} {free : Bool} → MoreModes n free → Modes n free
    falling : {n : ℕ} {free : Bool} → free ≡ true → MoreModes n false → Modes n free

  -- { "," mode } ")"
  pub data MoreModes : ℕ → Bool → Type 0 where
    last_mode : {n : ℕ} {free : Bool} → MoreModes n free
    also_mode : {n : ℕ} {free : Bool} → Modes n free → MoreModes (suc n) free

-- [ "(" mode { "," mode } ")" ]
pub data ModeList : Type 0 where
  no_mode : ModeList
  modes : Modes 63 true → ModeList

-- moded = name [ "(" mode { "," mode } ")" ]
pub data Moded : Type 0 where
  moded : List ℕ → ModeList → Moded

-- { "," moded }
pub data MoreModed : Type 0 where
  no_moded : MoreModed
  also_moded : Moded → MoreModed → MoreModed

-- { "," atom }
pub data MoreAtoms : Type 0 where
  no_atom : MoreAtoms
  also_atom : Atom true → MoreAtoms → MoreAtoms

-- [ "if" conds ]
pub data Conditions : Type 0 where
  always : Conditions
  when : Cond → MoreConds → Conditions

-- { "or" seq }
pub data Alternatives : Type 0 where
  no_other : Alternatives
  or_else : Seq true → Alternatives → Alternatives

-- the eight forms of statements, without the full stop
pub data Statement : Type 0 where
  declares : (t : Tok) → is_kind t ≡ true → Decl → MoreDecls → Statement
  declares_modes : (t : Tok) → is_moded_kind t ≡ true → Moded → MoreModed → Statement
  initially : Atom true → MoreAtoms → Statement
  denial : Seq false → Statement
  rule : Seq true → Seq true → Alternatives → Statement
  law : Atom true → (t : Tok) → is_effect t ≡ true → Atom true → Conditions → Statement
  macro_clause : Atom true → ℕ → ℕ → Seq true → Statement
  clause : Atom true → Conditions → Statement

-- text = { statement "." }
pub data Text : Type 0 where
  done : Text
  next : Statement → Text → Text

-- the tokens of a declaration, and then `rest`
abbrev pub spell_decl : Decl → List Tok → List Tok
spell_decl (decl n arity small) rest = k.Name n ∷ k.Slash ∷ k.Number arity ∷ rest

-- the tokens of the declarations after a first one
abbrev pub spell_decls : MoreDecls → List Tok → List Tok
spell_decls no_decl rest = rest
spell_decls (also_decl d ds) rest = k.Comma ∷ spell_decl d (spell_decls ds rest)

abbrev mutual
  -- the tokens of a mode and those after it
  pub spell_modes : {n : ℕ} {free : Bool} → Modes n free → List Tok → List Tok
  spell_modes (input xs) rest = k.Plus ∷ spell_more_modes xs rest
  spell_modes (output xs) rest = k.Minus ∷ spell_more_modes xs rest
  spell_modes (falling may xs) rest = k.Star ∷ spell_more_modes xs rest

  -- the tokens of the modes after a first one, up to the closing parenthesis
  pub spell_more_modes : {n : ℕ} {free : Bool} → MoreModes n free → List Tok → List Tok
  spell_more_modes last_mode rest = k.Close ∷ rest
  spell_more_modes (also_mode xs) rest = k.Comma ∷ spell_modes xs rest

-- the tokens of modes in their parentheses, if there are any
abbrev pub spell_mode_list : ModeList → List Tok → List Tok
spell_mode_list no_mode rest = rest
spell_mode_list (modes xs) rest = k.Open ∷ spell_modes xs rest

-- the tokens of a name with its modes
abbrev pub spell_moded : Moded → List Tok → List Tok
spell_moded (moded n xs) rest = k.Name n ∷ spell_mode_list xs rest

-- the tokens of the names with modes after a first one
abbrev pub spell_modeds : MoreModed → List Tok → List Tok
spell_modeds no_moded rest = rest
spell_modeds (also_moded d ds) rest = k.Comma ∷ spell_moded d (spell_modeds ds rest)

-- the tokens of the atoms after a first one
abbrev pub spell_atoms : MoreAtoms → List Tok → List Tok
spell_atoms no_atom rest = rest
spell_atoms (also_atom a xs) rest = k.Comma ∷ spell_atom a (spell_atoms xs rest)

-- the tokens of `if` and conditions, if they stand there
abbrev pub spell_conditions : Conditions → List Tok → List Tok
spell_conditions always rest = rest
spell_conditions (when c cs) rest = k.If ∷ spell_cond c (spell_conds cs rest)

-- the tokens of the alternatives after a first one
abbrev pub spell_alternatives : Alternatives → List Tok → List Tok
spell_alternatives no_other rest = rest
spell_alternatives (or_else x xs) rest = k.Or ∷ spell_seq x (spell_alternatives xs rest)

-- the tokens of a statement, without its full stop
abbrev pub spell_statement : Statement → List Tok → List Tok
spell_statement (declares t is d ds) rest = t ∷ spell_decl d (spell_decls ds rest)
spell_statement (declares_modes t is d ds) rest = t ∷ spell_moded d (spell_modeds ds rest)
spell_statement (initially a xs) rest = k.Initially ∷ spell_atom a (spell_atoms xs rest)
spell_statement (denial x) rest = k.False ∷ spell_seq x rest
spell_statement (rule x y ys) rest = k.If ∷ spell_seq x (k.Then ∷ spell_seq y (spell_alternatives ys rest))
spell_statement (law event t is fluent cs) rest = spell_atom event (t ∷ spell_atom fluent (spell_conditions cs rest))
spell_statement (macro_clause a begin until x) rest = spell_atom a (spell_span begin until (k.If ∷ spell_seq x rest))
spell_statement (clause a cs) rest = spell_atom a (spell_conditions cs rest)

-- the tokens of a text
abbrev pub spell_text : Text → List Tok → List Tok
spell_text done rest = rest
spell_text (next x xs) rest = spell_statement x (k.Dot ∷ spell_text xs rest)

-- these tokens are a text
abbrev pub IsText : List Tok → Type 0
IsText ts = (x : Text) × (ts ≡ spell_text x [])

-- with some tokens after them these make a text
abbrev pub BeginsText : List Tok → Type 0
BeginsText ts = (more : List Tok) × IsText (ts ++ more)
