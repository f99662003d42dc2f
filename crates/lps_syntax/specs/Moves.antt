-- What each expected phrase does at each token: the predictive table of the grammar.
use Rattle.std.specs.Prelude.{ℕ, zero, suc, Bool, true, false, nat_le, nat_lt, if◌then◌else◌, ◌^◌}
use Rattle.lps_grammar.specs.declared.tok.Tok.{Tok}
use Rattle.lps_grammar.specs.declared.tok.Tok.TheVariants as k
use Rattle.lps_grammar.specs.Signs.{is_rel, is_op}
use Rattle.lps_syntax.specs.declared.frame.Frame.{Frame}
use Rattle.lps_syntax.specs.declared.frame.Frame.TheVariants as f
use Rattle.lps_syntax.specs.declared.moved.Move.{Move}
use Rattle.lps_syntax.specs.declared.moved.Move.TheVariants as m

-- ---- terms and atoms

-- the name of an atom
abbrev pub move_atom : Bool → Tok → Move
move_atom vars (k.Name n) = m.One (f.Args vars)
move_atom vars t = m.Refuse

-- arguments, if there are any
abbrev pub move_args : Bool → Tok → Move
move_args vars k.Open = m.Two (f.Term vars) (f.Terms vars 63)
move_args vars t = m.Pass

-- at most `n` terms more, or the closing parenthesis
abbrev pub move_terms : Bool → ℕ → Tok → Move
move_terms vars n k.Close = m.Take
move_terms vars zero t = m.Refuse
move_terms vars (suc n) k.Comma = m.Two (f.Term vars) (f.Terms vars n)
move_terms vars (suc n) t = m.Refuse

-- a variable or an integer
abbrev pub move_leaf : Bool → Tok → Move
move_leaf vars (k.Variable n) = if vars then m.Take else m.Refuse
move_leaf vars (k.Number n) = if nat_lt n (2 ^ 63) then m.Take else m.Refuse
move_leaf vars k.Minus = m.One f.Negative
move_leaf vars t = m.Refuse

-- a term
abbrev pub move_term : Bool → Tok → Move
move_term vars (k.Name n) = m.One (f.Args vars)
move_term vars t = move_leaf vars t

-- the number of a negative integer
abbrev pub move_negative : Tok → Move
move_negative (k.Number n) = if nat_le n (2 ^ 63) then m.Take else m.Refuse
move_negative t = m.Refuse

-- ---- expressions

-- a unit
abbrev pub move_unit : Tok → Move
move_unit k.Open = m.Two f.Unit f.RestThenClose
move_unit t = move_leaf true t

-- an operator, or the end of an expression
abbrev pub move_rest : Tok → Move
move_rest t = if is_op t then m.Two f.Unit f.Rest else m.Pass

-- an operator, or the relation of a comparison
abbrev pub move_rest_then_rel : Tok → Move
move_rest_then_rel t =
    if is_op t then m.Two f.Unit f.RestThenRel else (if is_rel t then m.Two f.Unit f.Rest else m.Refuse)

-- an operator, or the closing parenthesis
abbrev pub move_rest_then_close : Tok → Move
move_rest_then_close k.Close = m.Take
move_rest_then_close t = if is_op t then m.Two f.Unit f.RestThenClose else m.Refuse

-- ---- conditions

-- the sign or word of a built-in after its first leaf
abbrev pub move_after_leaf : Tok → Move
move_after_leaf k.Equal = m.One (f.Term true)
move_after_leaf k.Differ = m.One (f.Term true)
move_after_leaf k.Is = m.Two f.Unit f.Rest
move_after_leaf t = move_rest_then_rel t

-- a built-in that begins with no name
abbrev pub move_built : Tok → Move
move_built (k.Variable n) = m.One f.AfterLeaf
move_built (k.Number n) = if nat_lt n (2 ^ 63) then m.One f.AfterLeaf else m.Refuse
move_built k.Minus = m.Two f.Negative f.AfterLeaf
move_built k.Open = m.Three f.Unit f.RestThenClose f.RestThenRel
move_built t = m.Refuse

-- the sign of a built-in after a term, or the end of a condition
abbrev pub move_after_atom : Tok → Move
move_after_atom k.Equal = m.One (f.Term true)
move_after_atom k.Differ = m.One (f.Term true)
move_after_atom t = m.Pass

-- a condition
abbrev pub move_cond : Tok → Move
move_cond k.Not = m.One (f.Atom true)
move_cond (k.Name n) = m.Two (f.Args true) f.AfterAtom
move_cond t = move_built t

-- a comma and a condition, or the end of the conditions
abbrev pub move_more_conds : Tok → Move
move_more_conds k.Comma = m.Two f.Cond f.MoreConds
move_more_conds t = m.Pass

-- `if`, or the end of a statement
abbrev pub move_conditions : Tok → Move
move_conditions k.If = m.Two f.Cond f.MoreConds
move_conditions t = m.Pass

-- ---- items

-- an item
abbrev pub move_item : Bool → Tok → Move
move_item bounds k.Not = m.Two (f.Atom true) f.At
move_item bounds (k.Name n) = m.Two (f.Args true) f.AfterItemAtom
move_item bounds (k.Time n) = if bounds then m.Three f.TimeRel f.Time f.Shift else m.Refuse
move_item bounds t = move_built t

-- a comma and an item, or the end of a sequence
abbrev pub move_more_items : Bool → Tok → Move
move_more_items bounds k.Comma = m.Two (f.Item bounds) (f.MoreItems bounds)
move_more_items bounds t = m.Pass

-- what places an atom in time, the sign of a built-in, or the end of an item
abbrev pub move_after_item_atom : Tok → Move
move_after_item_atom k.Equal = m.One (f.Term true)
move_after_item_atom k.Differ = m.One (f.Term true)
move_after_item_atom k.At = m.One f.Time
move_after_item_atom k.From = m.One f.Span
move_after_item_atom t = m.Pass

-- `at`, or the end of an item
abbrev pub move_at : Tok → Move
move_at k.At = m.One f.Time
move_at t = m.Pass

-- the time of `from`
abbrev pub move_span : Tok → Move
move_span (k.Time n) = m.Two f.To f.Time
move_span t = m.Refuse

-- `to`
abbrev pub move_to : Tok → Move
move_to k.To = m.Take
move_to t = m.Refuse

-- a time
abbrev pub move_time : Tok → Move
move_time (k.Time n) = m.Take
move_time t = m.Refuse

-- the relation of a time constraint
abbrev pub move_time_rel : Tok → Move
move_time_rel k.Less = m.Take
move_time_rel k.AtMost = m.Take
move_time_rel k.Equal = m.Take
move_time_rel k.Greater = m.Take
move_time_rel k.AtLeast = m.Take
move_time_rel t = m.Refuse

-- the sign of a number, or the end of a time constraint
abbrev pub move_shift : Tok → Move
move_shift k.Plus = m.One f.Constant
move_shift k.Minus = m.One f.Constant
move_shift t = m.Pass

-- the number of a time constraint
abbrev pub move_constant : Tok → Move
move_constant (k.Number n) = if nat_le n 1000000 then m.Take else m.Refuse
move_constant t = m.Refuse

-- ---- statements

-- the first token of a statement
abbrev pub move_text : Tok → Move
move_text k.Fluent = m.Three f.Decl f.MoreDecls f.End
move_text k.Event = m.Three f.Decl f.MoreDecls f.End
move_text k.Action = m.Three f.Decl f.MoreDecls f.End
move_text k.Timeless = m.Three f.Moded f.MoreModed f.End
move_text k.Derived = m.Three f.Moded f.MoreModed f.End
move_text k.Macro = m.Three f.Moded f.MoreModed f.End
move_text k.Initially = m.Three (f.Atom true) f.MoreAtoms f.End
move_text k.False = m.Three (f.Item false) (f.MoreItems false) f.End
move_text k.If = m.Three (f.Item true) f.Antecedent f.End
move_text (k.Name n) = m.Three (f.Args true) f.Head f.End
move_text t = m.Refuse

-- the full stop of a statement
abbrev pub move_end : Tok → Move
move_end k.Dot = m.One f.Text
move_end t = m.Refuse

-- the name of a declaration
abbrev pub move_decl : Tok → Move
move_decl (k.Name n) = m.Two f.Slash f.Arity
move_decl t = m.Refuse

-- the slash of a declaration
abbrev pub move_slash : Tok → Move
move_slash k.Slash = m.Take
move_slash t = m.Refuse

-- the arity of a declaration
abbrev pub move_arity : Tok → Move
move_arity (k.Number n) = if nat_le n 64 then m.Take else m.Refuse
move_arity t = m.Refuse

-- a comma and a declaration, or the end of a statement
abbrev pub move_more_decls : Tok → Move
move_more_decls k.Comma = m.Two f.Decl f.MoreDecls
move_more_decls t = m.Pass

-- the name of a declaration with modes
abbrev pub move_moded : Tok → Move
move_moded (k.Name n) = m.One f.ModeList
move_moded t = m.Refuse

-- modes, if there are any
abbrev pub move_mode_list : Tok → Move
move_mode_list k.Open = m.One (f.Modes 63 true)
move_mode_list t = m.Pass

-- a mode, with at most `n` after it
abbrev pub move_modes : ℕ → Bool → Tok → Move
move_modes n free k.Plus = m.One (f.MoreModes n free)
move_modes n free k.Minus = m.One (f.MoreModes n free)
move_modes n free k.Star = if free then m.One (f.MoreModes n false) else m.Refuse
move_modes n free t = m.Refuse

-- a comma and a mode, or the closing parenthesis
abbrev pub move_more_modes : ℕ → Bool → Tok → Move
move_more_modes n free k.Close = m.Take
move_more_modes zero free t = m.Refuse
move_more_modes (suc n) free k.Comma = m.One (f.Modes n free)
move_more_modes (suc n) free t = m.Refuse

-- a comma and a declaration with modes, or the end of a statement
abbrev pub move_more_moded : Tok → Move
move_more_moded k.Comma = m.Two f.Moded f.MoreModed
move_more_moded t = m.Pass

-- a comma and an atom, or the end of a statement
abbrev pub move_more_atoms : Tok → Move
move_more_atoms k.Comma = m.Two (f.Atom true) f.MoreAtoms
move_more_atoms t = m.Pass

-- what follows the first atom of a law, a macro clause or a clause
abbrev pub move_head : Tok → Move
move_head k.Initiates = m.Two (f.Atom true) f.Conditions
move_head k.Terminates = m.Two (f.Atom true) f.Conditions
move_head k.From = m.Two f.Span f.MacroBody
move_head t = move_conditions t

-- a comma and an item, or `then`
abbrev pub move_antecedent : Tok → Move
move_antecedent k.Comma = m.Two (f.Item true) f.Antecedent
move_antecedent k.Then = m.Three (f.Item true) (f.MoreItems true) f.Alternatives
move_antecedent t = m.Refuse

-- `or`, or the end of a rule
abbrev pub move_alternatives : Tok → Move
move_alternatives k.Or = m.Three (f.Item true) (f.MoreItems true) f.Alternatives
move_alternatives t = m.Pass

-- the `if` of a macro clause
abbrev pub move_macro_body : Tok → Move
move_macro_body k.If = m.Two (f.Item true) (f.MoreItems true)
move_macro_body t = m.Refuse

-- ---- lines of events

-- the number of a line
abbrev pub move_line : Tok → Move
move_line (k.Number n) = m.Three f.Colon f.Events f.LineEnd
move_line t = m.Refuse

-- the colon after it
abbrev pub move_colon : Tok → Move
move_colon k.Colon = m.Take
move_colon t = m.Refuse

-- the first event, if there is one
abbrev pub move_events : Tok → Move
move_events (k.Name n) = m.Two (f.Args false) f.MoreEvents
move_events t = m.Pass

-- a later event
abbrev pub move_event : Tok → Move
move_event (k.Name n) = m.One (f.Args false)
move_event t = m.Refuse

-- a comma and an event, or the end of the events
abbrev pub move_more_events : Tok → Move
move_more_events k.Comma = m.Two f.Event f.MoreEvents
move_more_events t = m.Pass

-- the full stop of a line
abbrev pub move_line_end : Tok → Move
move_line_end k.Dot = m.Take
move_line_end t = m.Refuse

-- ---- all of them

-- what the phrase does at the token
abbrev pub move_of : Frame → Tok → Move
move_of f.Text t = move_text t
move_of f.End t = move_end t
move_of f.Decl t = move_decl t
move_of f.Slash t = move_slash t
move_of f.Arity t = move_arity t
move_of f.MoreDecls t = move_more_decls t
move_of f.Moded t = move_moded t
move_of f.ModeList t = move_mode_list t
move_of (f.Modes n free) t = move_modes n free t
move_of (f.MoreModes n free) t = move_more_modes n free t
move_of f.MoreModed t = move_more_moded t
move_of (f.Atom vars) t = move_atom vars t
move_of (f.Args vars) t = move_args vars t
move_of (f.Term vars) t = move_term vars t
move_of (f.Terms vars n) t = move_terms vars n t
move_of f.Negative t = move_negative t
move_of f.MoreAtoms t = move_more_atoms t
move_of f.Head t = move_head t
move_of f.Conditions t = move_conditions t
move_of f.Cond t = move_cond t
move_of f.MoreConds t = move_more_conds t
move_of f.AfterAtom t = move_after_atom t
move_of f.AfterLeaf t = move_after_leaf t
move_of f.Unit t = move_unit t
move_of f.Rest t = move_rest t
move_of f.RestThenRel t = move_rest_then_rel t
move_of f.RestThenClose t = move_rest_then_close t
move_of (f.Item bounds) t = move_item bounds t
move_of (f.MoreItems bounds) t = move_more_items bounds t
move_of f.AfterItemAtom t = move_after_item_atom t
move_of f.At t = move_at t
move_of f.Span t = move_span t
move_of f.To t = move_to t
move_of f.Time t = move_time t
move_of f.Antecedent t = move_antecedent t
move_of f.Alternatives t = move_alternatives t
move_of f.MacroBody t = move_macro_body t
move_of f.TimeRel t = move_time_rel t
move_of f.Shift t = move_shift t
move_of f.Constant t = move_constant t
move_of f.Line t = move_line t
move_of f.Colon t = move_colon t
move_of f.Events t = move_events t
move_of f.Event t = move_event t
move_of f.MoreEvents t = move_more_events t
move_of f.LineEnd t = move_line_end t
