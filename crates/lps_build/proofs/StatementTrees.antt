-- The tokens of a statement and of a text are read as what its tree means.
use Rattle.std.specs.Prelude.{ℕ, zero, suc, ◌≡◌, ◌≤◌, ◌-◌, ◌++◌, Bool, true, false, List, [], ◌∷◌, length, Option, Some, None, nat_le, refl, if◌then◌else◌}
use Rattle.std.proofs.Common.{◌∙◌, sym, ap, arith, subst, append-nil, append_assoc}
use Rattle.std.proofs.lemmas.Bool.Decides.{nat_tests}
use Rattle.lps_terms.specs.declared.atom.Atom.{Atom}
use Rattle.lps_terms.specs.declared.item.Item.{Item}
use Rattle.lps_terms.specs.declared.kind.Kind.{Kind}
use Rattle.lps_terms.specs.declared.kind.Kind.TheVariants as kd
use Rattle.lps_terms.specs.declared.mode.Mode.{Mode}
use Rattle.lps_terms.specs.declared.mode.Mode.TheVariants as md
use Rattle.lps_terms.specs.declared.decl.Decl.{Decl}
use Rattle.lps_terms.specs.declared.body.Body.{Body}
use Rattle.lps_terms.specs.declared.body.Body.TheVariants as bd
use Rattle.lps_grammar.specs.declared.tok.Tok.{Tok}
use Rattle.lps_grammar.specs.declared.tok.Tok.TheVariants as k
use Rattle.lps_grammar.specs.Terms as g
use Rattle.lps_grammar.specs.Items as gi
use Rattle.lps_grammar.specs.Statements as gs
use Rattle.lps_build.specs.Meaning.{atom_of, seq_of, time_of, kind_of, decl_of, decls_of, modes_of, more_modes_of, mode_list_of, moded_of, modeds_of, atoms_of, conditions_of, alternatives_of, body_of, bodies_of}
use Rattle.lps_build.specs.ReadTerms.{atom_in, then_in}
use Rattle.lps_build.specs.ReadItems.{more_parts_in, parts_in}
use Rattle.lps_build.specs.ReadStatements.{mode_in, modes_end, modes_in, plain_in, moded_in, has_modes, decl_in, declare_in, conditions_in, alternatives_in, then_seq, rule_in, law_in, headed_in, body_in, dot_in, end_case, text_in}
use Rattle.lps_build.specs.Fits.{AreNamed, Fits, EndsName}
use Rattle.lps_build.proofs.Left.{left_atom, left_seq, left_span, left_decl, left_moded, left_statement}
use Rattle.lps_build.proofs.TermTrees.{fits_tail, fits_next, no_room, read_atom}
use Rattle.lps_build.specs.Ends.{End, Stop}
use Rattle.lps_build.proofs.Stops.{ends_stop, stop_name, end_parts}
use Rattle.lps_build.proofs.ItemTrees.{read_conds, read_seq}

-- ---- declarations

read_plain : (kind : Kind) (t : Tok) (x : gs.Decl) (d : ℕ) (rest : List Tok) → kind_of t ≡ kind → Fits d (gs.spell_decl x rest) → plain_in kind (gs.spell_decl x rest) ≡ Some (decl_of t x, rest)
read_plain kind t (gs.decl n arity small) d rest e p = rw p.named.0 rw small (λ i. Some (record { kind = sym e i; name = n; arity = arity; modes = [] }, rest))

more_plain : (kind : Kind) (t : Tok) (xs : gs.MoreDecls) (d : ℕ) (before : List Decl) (rest : List Tok) → kind_of t ≡ kind → has_modes kind ≡ false → Fits d (gs.spell_decls xs rest) → End rest →
    more_parts_in (decl_in kind) d before (gs.spell_decls xs rest) ≡ Some (before ++ decls_of t xs, rest)
more_plain kind t gs.no_decl d before rest e none p end = end_parts (decl_in kind) d before rest end ∙ ap (λ z. Some (z, rest)) (sym (append-nil before))
more_plain kind t (gs.also_decl x xs) zero before rest e none p end = no_room _ _ p
more_plain kind t (gs.also_decl x xs) (suc d) before rest e none p end =
    let q = fits_next d _ _ p in
    let us = gs.spell_decls xs rest in
    ap (λ m. then_in (if m then moded_in kind d (gs.spell_decl x us) else plain_in kind (gs.spell_decl x us)) (λ y vs. more_parts_in (decl_in kind) d (before ++ y ∷ []) vs)) none
    ∙ ap (λ o. then_in o (λ y vs. more_parts_in (decl_in kind) d (before ++ y ∷ []) vs)) (read_plain kind t x d us e q)
    ∙ more_plain kind t xs d (before ++ decl_of t x ∷ []) rest e none (left_decl (Fits d) (fits_tail d) x us q) end
    ∙ ap (λ z. Some (z, rest)) (append_assoc before (decl_of t x ∷ []) (decls_of t xs))

declares_plain : (kind : Kind) (t : Tok) (x : gs.Decl) (xs : gs.MoreDecls) (d : ℕ) (rest : List Tok) → kind_of t ≡ kind → has_modes kind ≡ false → Fits d (gs.spell_decl x (gs.spell_decls xs rest)) → End rest →
    declare_in kind d (gs.spell_decl x (gs.spell_decls xs rest)) ≡ Some (bd.Declare (decl_of t x ∷ decls_of t xs), rest)
declares_plain kind t x xs d rest e none p end =
    let us = gs.spell_decls xs rest in
    ap (λ o. then_in o (λ ys vs. Some (bd.Declare ys, vs)))
    (ap (λ m. then_in (if m then moded_in kind d (gs.spell_decl x us) else plain_in kind (gs.spell_decl x us)) (λ y vs. more_parts_in (decl_in kind) d (y ∷ []) vs)) none
    ∙ ap (λ o. then_in o (λ y vs. more_parts_in (decl_in kind) d (y ∷ []) vs)) (read_plain kind t x d us e p)
    ∙ more_plain kind t xs d (decl_of t x ∷ []) rest e none (left_decl (Fits d) (fits_tail d) x us p) end)

mutual
  count_modes : {n : ℕ} {free : Bool} (xs : gs.Modes n free) → length (modes_of xs) ≤ suc n
  count_modes (gs.input xs) = omega (arith, count_more xs)
  count_modes (gs.output xs) = omega (arith, count_more xs)
  count_modes (gs.falling may xs) = omega (arith, count_more xs)

  count_more : {n : ℕ} {free : Bool} (xs : gs.MoreModes n free) → length (more_modes_of xs) ≤ n
  count_more gs.last_mode = omega arith
  count_more (gs.also_mode xs) = count_modes xs

more_modes : {n : ℕ} {free : Bool} (xs : gs.MoreModes n free) (d : ℕ) (before : List Mode) (rest : List Tok) → Fits d (gs.spell_more_modes xs rest) →
    more_parts_in mode_in d before (gs.spell_more_modes xs rest) ≡ Some (before ++ more_modes_of xs, k.Close ∷ rest)
more_modes gs.last_mode d before rest p = end_parts mode_in d before (k.Close ∷ rest) (End.end_close rest) ∙ ap (λ z. Some (z, k.Close ∷ rest)) (sym (append-nil before))
more_modes (gs.also_mode (gs.input xs)) zero before rest p = no_room _ _ p
more_modes (gs.also_mode (gs.output xs)) zero before rest p = no_room _ _ p
more_modes (gs.also_mode (gs.falling may xs)) zero before rest p = no_room _ _ p
more_modes (gs.also_mode (gs.input xs)) (suc d) before rest p =
    more_modes xs d (before ++ md.Plus ∷ []) rest (fits_tail d _ _ (fits_next d _ _ p)) ∙ ap (λ z. Some (z, k.Close ∷ rest)) (append_assoc before (md.Plus ∷ []) (more_modes_of xs))
more_modes (gs.also_mode (gs.output xs)) (suc d) before rest p =
    more_modes xs d (before ++ md.Minus ∷ []) rest (fits_tail d _ _ (fits_next d _ _ p)) ∙ ap (λ z. Some (z, k.Close ∷ rest)) (append_assoc before (md.Minus ∷ []) (more_modes_of xs))
more_modes (gs.also_mode (gs.falling may xs)) (suc d) before rest p =
    more_modes xs d (before ++ md.Star ∷ []) rest (fits_tail d _ _ (fits_next d _ _ p)) ∙ ap (λ z. Some (z, k.Close ∷ rest)) (append_assoc before (md.Star ∷ []) (more_modes_of xs))

first_modes : {n : ℕ} {free : Bool} (xs : gs.Modes n free) (d : ℕ) (rest : List Tok) → Fits d (gs.spell_modes xs rest) → parts_in mode_in d (gs.spell_modes xs rest) ≡ Some (modes_of xs, k.Close ∷ rest)
first_modes (gs.input xs) d rest p = more_modes xs d (md.Plus ∷ []) rest (fits_tail d _ _ p)
first_modes (gs.output xs) d rest p = more_modes xs d (md.Minus ∷ []) rest (fits_tail d _ _ p)
first_modes (gs.falling may xs) d rest p = more_modes xs d (md.Star ∷ []) rest (fits_tail d _ _ p)

few : (n : ℕ) → n ≤ 64 → nat_le n 64 ≡ true
few n h = grind (arith, nat_tests)

-- what follows a name with modes does not begin its modes
read_mode_list : (x : gs.ModeList) (d : ℕ) (rest : List Tok) → Fits d (gs.spell_mode_list x rest) → Stop rest → modes_in d (gs.spell_mode_list x rest) ≡ Some (mode_list_of x, rest)
read_mode_list gs.no_mode d _ p (Stop.comma ts) = refl
read_mode_list gs.no_mode d _ p (Stop.dot ts) = refl
read_mode_list gs.no_mode d _ p (Stop.before_then ts) = refl
read_mode_list gs.no_mode d _ p (Stop.before_or ts) = refl
read_mode_list gs.no_mode d _ p (Stop.before_close ts) = refl
read_mode_list (gs.modes xs) d rest p stop =
    ap (λ o. then_in o modes_end) (first_modes xs d rest (fits_tail d _ _ p)) ∙ ap (λ m. if m then Some (modes_of xs, rest) else None) (few _ (count_modes xs))

read_moded : (kind : Kind) (t : Tok) (x : gs.Moded) (d : ℕ) (rest : List Tok) → kind_of t ≡ kind → Fits d (gs.spell_moded x rest) → Stop rest → moded_in kind d (gs.spell_moded x rest) ≡ Some (moded_of t x, rest)
read_moded kind t (gs.moded n xs) d rest e p stop =
    rw p.named.0 (ap (λ o. then_in o (λ ms vs. Some (record { kind = kind; name = n; arity = length ms; modes = ms }, vs))) (read_mode_list xs d rest (fits_tail d _ _ p) stop)
    ∙ (λ i. Some (record { kind = sym e i; name = n; arity = length (mode_list_of xs); modes = mode_list_of xs }, rest)))

modeds_stop : (xs : gs.MoreModed) (rest : List Tok) → End rest → Stop (gs.spell_modeds xs rest)
modeds_stop gs.no_moded rest end = ends_stop rest end
modeds_stop (gs.also_moded x xs) rest end = Stop.comma _

more_moded : (kind : Kind) (t : Tok) (xs : gs.MoreModed) (d : ℕ) (before : List Decl) (rest : List Tok) → kind_of t ≡ kind → has_modes kind ≡ true → Fits d (gs.spell_modeds xs rest) → End rest →
    more_parts_in (decl_in kind) d before (gs.spell_modeds xs rest) ≡ Some (before ++ modeds_of t xs, rest)
more_moded kind t gs.no_moded d before rest e some p end = end_parts (decl_in kind) d before rest end ∙ ap (λ z. Some (z, rest)) (sym (append-nil before))
more_moded kind t (gs.also_moded x xs) zero before rest e some p end = no_room _ _ p
more_moded kind t (gs.also_moded x xs) (suc d) before rest e some p end =
    let q = fits_next d _ _ p in
    let us = gs.spell_modeds xs rest in
    ap (λ m. then_in (if m then moded_in kind d (gs.spell_moded x us) else plain_in kind (gs.spell_moded x us)) (λ y vs. more_parts_in (decl_in kind) d (before ++ y ∷ []) vs)) some
    ∙ ap (λ o. then_in o (λ y vs. more_parts_in (decl_in kind) d (before ++ y ∷ []) vs)) (read_moded kind t x d us e q (modeds_stop xs rest end))
    ∙ more_moded kind t xs d (before ++ moded_of t x ∷ []) rest e some (left_moded (Fits d) (fits_tail d) x us q) end
    ∙ ap (λ z. Some (z, rest)) (append_assoc before (moded_of t x ∷ []) (modeds_of t xs))

declares_moded : (kind : Kind) (t : Tok) (x : gs.Moded) (xs : gs.MoreModed) (d : ℕ) (rest : List Tok) → kind_of t ≡ kind → has_modes kind ≡ true → Fits d (gs.spell_moded x (gs.spell_modeds xs rest)) → End rest →
    declare_in kind d (gs.spell_moded x (gs.spell_modeds xs rest)) ≡ Some (bd.Declare (moded_of t x ∷ modeds_of t xs), rest)
declares_moded kind t x xs d rest e some p end =
    let us = gs.spell_modeds xs rest in
    ap (λ o. then_in o (λ ys vs. Some (bd.Declare ys, vs)))
    (ap (λ m. then_in (if m then moded_in kind d (gs.spell_moded x us) else plain_in kind (gs.spell_moded x us)) (λ y vs. more_parts_in (decl_in kind) d (y ∷ []) vs)) some
    ∙ ap (λ o. then_in o (λ y vs. more_parts_in (decl_in kind) d (y ∷ []) vs)) (read_moded kind t x d us e p (modeds_stop xs rest end))
    ∙ more_moded kind t xs d (moded_of t x ∷ []) rest e some (left_moded (Fits d) (fits_tail d) x us p) end)

-- ---- the other statements

ends_atoms : (xs : gs.MoreAtoms) (rest : List Tok) → End rest → EndsName (gs.spell_atoms xs rest)
ends_atoms gs.no_atom rest end = stop_name rest (ends_stop rest end)
ends_atoms (gs.also_atom x xs) rest end = λ some. refl

more_atoms : (xs : gs.MoreAtoms) (d : ℕ) (before : List Atom) (rest : List Tok) → Fits d (gs.spell_atoms xs rest) → End rest → more_parts_in atom_in d before (gs.spell_atoms xs rest) ≡ Some (before ++ atoms_of xs, rest)
more_atoms gs.no_atom d before rest p end = end_parts atom_in d before rest end ∙ ap (λ z. Some (z, rest)) (sym (append-nil before))
more_atoms (gs.also_atom x xs) zero before rest p end = no_room _ _ p
more_atoms (gs.also_atom x xs) (suc d) before rest p end =
    let q = fits_next d _ _ p in
    ap (λ o. then_in o (λ y vs. more_parts_in atom_in d (before ++ y ∷ []) vs)) (read_atom x d (gs.spell_atoms xs rest) q (ends_atoms xs rest end))
    ∙ more_atoms xs d (before ++ atom_of x ∷ []) rest (left_atom (Fits d) (fits_tail d) x (gs.spell_atoms xs rest) q) end
    ∙ ap (λ z. Some (z, rest)) (append_assoc before (atom_of x ∷ []) (atoms_of xs))

read_conditions : (x : gs.Conditions) (d : ℕ) (ts : List Tok) → Fits d (gs.spell_conditions x (k.Dot ∷ ts)) → conditions_in d (gs.spell_conditions x (k.Dot ∷ ts)) ≡ Some (conditions_of x, k.Dot ∷ ts)
read_conditions gs.always d ts p = refl
read_conditions (gs.when x xs) d ts p = read_conds x xs d (k.Dot ∷ ts) (fits_tail d _ _ p) (End.end_dot ts)

ends_conditions : (x : gs.Conditions) (ts : List Tok) → EndsName (gs.spell_conditions x (k.Dot ∷ ts))
ends_conditions gs.always ts = λ some. refl
ends_conditions (gs.when x xs) ts = λ some. refl

alternatives_end : (xs : gs.Alternatives) (ts : List Tok) → End (gs.spell_alternatives xs (k.Dot ∷ ts))
alternatives_end gs.no_other ts = End.end_dot ts
alternatives_end (gs.or_else x xs) ts = End.end_or _

no_alternative : (d : ℕ) (before : List (List Item)) (ts : List Tok) → alternatives_in d before (k.Dot ∷ ts) ≡ Some (before, k.Dot ∷ ts)
no_alternative zero before ts = refl
no_alternative (suc d) before ts = refl

read_alternatives : (xs : gs.Alternatives) (d : ℕ) (before : List (List Item)) (ts : List Tok) → Fits d (gs.spell_alternatives xs (k.Dot ∷ ts)) → alternatives_in d before (gs.spell_alternatives xs (k.Dot ∷ ts)) ≡ Some (before ++ alternatives_of xs, k.Dot ∷ ts)
read_alternatives gs.no_other d before ts p = no_alternative d before ts ∙ ap (λ z. Some (z, k.Dot ∷ ts)) (sym (append-nil before))
read_alternatives (gs.or_else x xs) zero before ts p = no_room _ _ p
read_alternatives (gs.or_else x xs) (suc d) before ts p =
    let q = fits_next d _ _ p in
    let us = gs.spell_alternatives xs (k.Dot ∷ ts) in
    ap (λ o. then_in o (λ y vs. alternatives_in d (before ++ y ∷ []) vs)) (read_seq x d us q (alternatives_end xs ts))
    ∙ read_alternatives xs d (before ++ seq_of x ∷ []) ts (left_seq (Fits d) (fits_tail d) x us q)
    ∙ ap (λ z. Some (z, k.Dot ∷ ts)) (append_assoc before (seq_of x ∷ []) (alternatives_of xs))

first_atom : (a : g.Atom true) (d : ℕ) (us : List Tok) → Fits d (g.spell_atom a us) → EndsName us → body_in d (g.spell_atom a us) ≡ headed_in d (atom_of a) us
first_atom (g.atom n xs) d us p ends = ap (λ o. then_in o (λ a vs. headed_in d a vs)) (read_atom (g.atom n xs) d us p ends)

read_law : (starts : Bool) (event : Atom) (fluent : g.Atom true) (cs : gs.Conditions) (d : ℕ) (ts : List Tok) → Fits d (g.spell_atom fluent (gs.spell_conditions cs (k.Dot ∷ ts))) →
    law_in d starts event (g.spell_atom fluent (gs.spell_conditions cs (k.Dot ∷ ts))) ≡ Some (bd.Law starts event (atom_of fluent) (conditions_of cs), k.Dot ∷ ts)
read_law starts event fluent cs d ts p =
    let us = gs.spell_conditions cs (k.Dot ∷ ts) in
    ap (λ o. then_in o (λ f vs. then_in (conditions_in d vs) (λ ys ws. Some (bd.Law starts event f ys, ws)))) (read_atom fluent d us p (ends_conditions cs ts))
    ∙ ap (λ o. then_in o (λ ys ws. Some (bd.Law starts event (atom_of fluent) ys, ws))) (read_conditions cs d ts (left_atom (Fits d) (fits_tail d) fluent us p))

read_clause : (a : Atom) (cs : gs.Conditions) (d : ℕ) (ts : List Tok) → Fits d (gs.spell_conditions cs (k.Dot ∷ ts)) → headed_in d a (gs.spell_conditions cs (k.Dot ∷ ts)) ≡ Some (bd.Clause a (conditions_of cs), k.Dot ∷ ts)
read_clause a gs.always d ts p = refl
read_clause a (gs.when x xs) d ts p = ap (λ o. then_in o (λ ys us. Some (bd.Clause a ys, us))) (read_conditions (gs.when x xs) d ts p)

read_rule : (x y : gi.Seq true) (ys : gs.Alternatives) (d : ℕ) (ts : List Tok) → Fits d (gi.spell_seq x (k.Then ∷ gi.spell_seq y (gs.spell_alternatives ys (k.Dot ∷ ts)))) →
    rule_in d (gi.spell_seq x (k.Then ∷ gi.spell_seq y (gs.spell_alternatives ys (k.Dot ∷ ts)))) ≡ Some (bd.Rule (seq_of x) (seq_of y ∷ alternatives_of ys), k.Dot ∷ ts)
read_rule x y ys d ts p =
    let vs = gs.spell_alternatives ys (k.Dot ∷ ts) in
    let us = gi.spell_seq y vs in
    let q = fits_tail d k.Then us (left_seq (Fits d) (fits_tail d) x (k.Then ∷ us) p) in
    ap (λ o. then_in o (λ z ws. then_in (then_seq d ws) (λ w more. then_in (alternatives_in d (w ∷ []) more) (λ zs rest. Some (bd.Rule z zs, rest))))) (read_seq x d (k.Then ∷ us) p (End.end_then us))
    ∙ ap (λ o. then_in o (λ w more. then_in (alternatives_in d (w ∷ []) more) (λ zs rest. Some (bd.Rule (seq_of x) zs, rest)))) (read_seq y d vs q (alternatives_end ys ts))
    ∙ ap (λ o. then_in o (λ zs rest. Some (bd.Rule (seq_of x) zs, rest))) (read_alternatives ys d (seq_of y ∷ []) ts (left_seq (Fits d) (fits_tail d) y vs q))

read_body : (x : gs.Statement) (d : ℕ) (ts : List Tok) → Fits d (gs.spell_statement x (k.Dot ∷ ts)) → body_in d (gs.spell_statement x (k.Dot ∷ ts)) ≡ Some (body_of x, k.Dot ∷ ts)
read_body (gs.declares k.Fluent is x xs) d ts p = declares_plain kd.Fluent k.Fluent x xs d _ refl refl (fits_tail d _ _ p) (End.end_dot ts)
read_body (gs.declares k.Event is x xs) d ts p = declares_plain kd.Event k.Event x xs d _ refl refl (fits_tail d _ _ p) (End.end_dot ts)
read_body (gs.declares k.Action is x xs) d ts p = declares_plain kd.Action k.Action x xs d _ refl refl (fits_tail d _ _ p) (End.end_dot ts)
read_body (gs.declares t is x xs) d ts p = absurd (cc)
read_body (gs.declares_modes k.Timeless is x xs) d ts p = declares_moded kd.Timeless k.Timeless x xs d _ refl refl (fits_tail d _ _ p) (End.end_dot ts)
read_body (gs.declares_modes k.Derived is x xs) d ts p = declares_moded kd.Derived k.Derived x xs d _ refl refl (fits_tail d _ _ p) (End.end_dot ts)
read_body (gs.declares_modes k.Macro is x xs) d ts p = declares_moded kd.Macro k.Macro x xs d _ refl refl (fits_tail d _ _ p) (End.end_dot ts)
read_body (gs.declares_modes t is x xs) d ts p = absurd (cc)
read_body (gs.initially x xs) d ts p =
    let us = gs.spell_atoms xs (k.Dot ∷ ts) in
    let q = fits_tail d _ _ p in
    ap (λ o. then_in o (λ ys vs. Some (bd.Initially ys, vs)))
    (ap (λ o. then_in o (λ y vs. more_parts_in atom_in d (y ∷ []) vs)) (read_atom x d us q (ends_atoms xs _ (End.end_dot ts)))
    ∙ more_atoms xs d (atom_of x ∷ []) _ (left_atom (Fits d) (fits_tail d) x us q) (End.end_dot ts))
read_body (gs.denial x) d ts p = ap (λ o. then_in o (λ xs us. Some (bd.Denial xs, us))) (read_seq x d _ (fits_tail d _ _ p) (End.end_dot ts))
read_body (gs.rule x y ys) d ts p = read_rule x y ys d ts (fits_tail d _ _ p)
read_body (gs.law event k.Initiates is fluent cs) d ts p =
    let us = g.spell_atom fluent (gs.spell_conditions cs (k.Dot ∷ ts)) in
    first_atom event d (k.Initiates ∷ us) p (λ some. refl)
    ∙ read_law true (atom_of event) fluent cs d ts (fits_tail d k.Initiates us (left_atom (Fits d) (fits_tail d) event (k.Initiates ∷ us) p))
read_body (gs.law event k.Terminates is fluent cs) d ts p =
    let us = g.spell_atom fluent (gs.spell_conditions cs (k.Dot ∷ ts)) in
    first_atom event d (k.Terminates ∷ us) p (λ some. refl)
    ∙ read_law false (atom_of event) fluent cs d ts (fits_tail d k.Terminates us (left_atom (Fits d) (fits_tail d) event (k.Terminates ∷ us) p))
read_body (gs.law event t is fluent cs) d ts p = absurd (cc)
read_body (gs.macro_clause a x y items) d ts p =
    let us = gi.spell_seq items (k.Dot ∷ ts) in
    let q = left_atom (Fits d) (fits_tail d) a (gi.spell_span x y (k.If ∷ us)) p in
    first_atom a d (gi.spell_span x y (k.If ∷ us)) p (λ some. refl)
    ∙ ap (λ o. then_in o (λ xs vs. Some (bd.MacroClause (atom_of a) (time_of x) (time_of y) xs, vs)))
    (read_seq items d (k.Dot ∷ ts) (fits_tail d k.If us (left_span (Fits d) (fits_tail d) x y (k.If ∷ us) q)) (End.end_dot ts))
read_body (gs.clause a cs) d ts p =
    let us = gs.spell_conditions cs (k.Dot ∷ ts) in
    first_atom a d us p (ends_conditions cs ts) ∙ read_clause (atom_of a) cs d ts (left_atom (Fits d) (fits_tail d) a us p)

-- ---- texts

goes_on : {B : Type 0} (x : gs.Statement) (rest : List Tok) (stop go : B) → end_case (gs.spell_statement x rest) stop go ≡ go
goes_on (gs.declares t is x xs) rest stop go = refl
goes_on (gs.declares_modes t is x xs) rest stop go = refl
goes_on (gs.initially x xs) rest stop go = refl
goes_on (gs.denial x) rest stop go = refl
goes_on (gs.rule x y ys) rest stop go = refl
goes_on (gs.law (g.atom n xs) t is fluent cs) rest stop go = refl
goes_on (gs.macro_clause (g.atom n xs) x y items) rest stop go = refl
goes_on (gs.clause (g.atom n xs) cs) rest stop go = refl

no_tokens : (total d : ℕ) (before : List (ℕ × Body)) → text_in total d before [] ≡ Some (before, [])
no_tokens total zero before = refl
no_tokens total (suc d) before = refl

pub read_text : (x : gs.Text) (total d : ℕ) (before : List (ℕ × Body)) → Fits d (gs.spell_text x []) → text_in total d before (gs.spell_text x []) ≡ Some (before ++ bodies_of total x, [])
read_text gs.done total d before p = no_tokens total d before ∙ ap (λ z. Some (z, [])) (sym (append-nil before))
read_text (gs.next x xs) total zero before p = no_room _ _ (left_statement (Fits 0) (fits_tail 0) x (k.Dot ∷ gs.spell_text xs []) p)
read_text (gs.next x xs) total (suc d) before p =
    let us = gs.spell_text xs [] in
    let place = total - length (gs.spell_statement x (k.Dot ∷ us)) in
    goes_on x (k.Dot ∷ us) _ _
    ∙ ap (λ o. then_in (then_in o dot_in) (λ y vs. text_in total d (before ++ (place, y) ∷ []) vs)) (read_body x (suc d) us p)
    ∙ read_text xs total d (before ++ (place, body_of x) ∷ []) (fits_next d k.Dot us (left_statement (Fits (suc d)) (fits_tail (suc d)) x (k.Dot ∷ us) p))
    ∙ ap (λ z. Some (z, [])) (append_assoc before ((place, body_of x) ∷ []) (bodies_of total xs))

text_is : (x : gs.Text) (toks : List Tok) → toks ≡ gs.spell_text x [] → AreNamed toks → text_in (length toks) (length toks) [] toks ≡ Some (bodies_of (length toks) x, [])
text_is x toks e named = subst Reads (sym e) (λ n. read_text x _ _ [] (record { named = n; few = omega arith })) named
  where
    Reads : List Tok → Type 0
    Reads ts = AreNamed ts → text_in (length ts) (length ts) [] ts ≡ Some (bodies_of (length ts) x, [])

pub text_missing : (x : gs.Text) (toks : List Tok) → text_in (length toks) (length toks) [] toks ≡ None → toks ≡ gs.spell_text x [] → AreNamed toks → ⊥
text_missing x toks none e named = let both = sym none ∙ text_is x toks e named in absurd cc

abbrev found_in : Option (List (ℕ × Body) × List Tok) → List (ℕ × Body)
found_in None = []
found_in (Some p) = p.0

pub text_found : (x : gs.Text) (toks : List Tok) (found : List (ℕ × Body)) (rest : List Tok) → text_in (length toks) (length toks) [] toks ≡ Some (found, rest) → toks ≡ gs.spell_text x [] → AreNamed toks →
    found ≡ bodies_of (length toks) x
text_found x toks found rest some e named = ap found_in (sym some ∙ text_is x toks e named)
