-- The statement at the front of tokens, and the tokens after it. A number bounds how many tokens are left.
use Rattle.std.specs.Prelude.{ℕ, zero, suc, ◌-◌, ◌++◌, Bool, true, false, List, [], ◌∷◌, length, Option, Some, None, nat_le, if◌then◌else◌}
use Rattle.lps_terms.specs.declared.atom.Atom.{Atom}
use Rattle.lps_terms.specs.declared.cond.Cond.{Cond}
use Rattle.lps_terms.specs.declared.item.Item.{Item}
use Rattle.lps_terms.specs.declared.kind.Kind.{Kind}
use Rattle.lps_terms.specs.declared.kind.Kind.TheVariants as kd
use Rattle.lps_terms.specs.declared.mode.Mode.{Mode}
use Rattle.lps_terms.specs.declared.mode.Mode.TheVariants as md
use Rattle.lps_terms.specs.declared.decl.Decl.{Decl}
use Rattle.lps_terms.specs.declared.body.Body.{Body}
use Rattle.lps_terms.specs.declared.body.Body.TheVariants as bd
use Rattle.lps_grammar.specs.declared.tok.Tok.{Tok}
use Rattle.lps_grammar.specs.declared.tok.Tok.TheVariants as k
use Rattle.lps_build.specs.ReadTerms.{atom_in, name_in, then_in}
use Rattle.lps_build.specs.ReadItems.{after_separator, cond_in, item_in, parts_in, times_in}

-- ---- declarations

-- a name
abbrev pub word_in : List Tok → Option (List ℕ × List Tok)
word_in (k.Name n ∷ ts) = name_in n (Some (n, ts))
word_in ts = None

-- a number of arguments
abbrev pub number_in : List Tok → Option (ℕ × List Tok)
number_in (k.Number n ∷ ts) = if nat_le n 64 then Some (n, ts) else None
number_in ts = None

-- a number of arguments after a slash
abbrev pub arity_in : List Tok → Option (ℕ × List Tok)
arity_in (k.Slash ∷ ts) = number_in ts
arity_in ts = None

-- a mode
abbrev pub mode_in : ℕ → List Tok → Option (Mode × List Tok)
mode_in d (k.Plus ∷ ts) = Some (md.Plus, ts)
mode_in d (k.Minus ∷ ts) = Some (md.Minus, ts)
mode_in d (k.Star ∷ ts) = Some (md.Star, ts)
mode_in d ts = None

-- the modes, at most 64, up to the closing parenthesis
abbrev pub modes_end : List Mode → List Tok → Option (List Mode × List Tok)
modes_end modes (k.Close ∷ ts) = if nat_le (length modes) 64 then Some (modes, ts) else None
modes_end modes ts = None

-- the modes in parentheses, if there are any
abbrev pub modes_in : ℕ → List Tok → Option (List Mode × List Tok)
modes_in d (k.Open ∷ ts) = then_in (parts_in mode_in d ts) modes_end
modes_in d ts = Some ([], ts)

-- a declaration with an arity
abbrev pub plain_in : Kind → List Tok → Option (Decl × List Tok)
plain_in kind ts = then_in (word_in ts) (λ n us. then_in (arity_in us) (λ a vs. Some (record { kind = kind; name = n; arity = a; modes = [] }, vs)))

-- a declaration with modes
abbrev pub moded_in : Kind → ℕ → List Tok → Option (Decl × List Tok)
moded_in kind d ts =
    then_in (word_in ts) (λ n us. then_in (modes_in d us) (λ ms vs. Some (record { kind = kind; name = n; arity = length ms; modes = ms }, vs)))

-- the predicates of a kind have modes
abbrev pub has_modes : Kind → Bool
has_modes kd.Timeless = true
has_modes kd.Derived = true
has_modes kd.Macro = true
has_modes kind = false

-- a declaration of this kind
abbrev pub decl_in : Kind → ℕ → List Tok → Option (Decl × List Tok)
decl_in kind d ts = if has_modes kind then moded_in kind d ts else plain_in kind ts

-- the declarations of a kind
abbrev pub declare_in : Kind → ℕ → List Tok → Option (Body × List Tok)
declare_in kind d ts = then_in (parts_in (decl_in kind) d ts) (λ xs us. Some (bd.Declare xs, us))

-- ---- the other statements

-- the conditions after `if`, if it stands there
abbrev pub conditions_in : ℕ → List Tok → Option (List Cond × List Tok)
conditions_in d (k.If ∷ ts) = parts_in cond_in d ts
conditions_in d ts = Some ([], ts)

-- the tokens after `or`, if it stands here
abbrev pub or_in : List Tok → Option (List Tok)
or_in (k.Or ∷ ts) = Some ts
or_in ts = None

-- the alternatives after those before, each after `or`
abbrev pub alternatives_in : ℕ → List (List Item) → List Tok → Option (List (List Item) × List Tok)
alternatives_in zero before ts = Some (before, ts)
alternatives_in (suc d) before ts =
    after_separator (or_in ts) (Some (before, ts)) (λ us. then_in (parts_in item_in d us) (λ x vs. alternatives_in d (before ++ x ∷ []) vs))

-- a sequence after `then`
abbrev pub then_seq : ℕ → List Tok → Option (List Item × List Tok)
then_seq d (k.Then ∷ ts) = parts_in item_in d ts
then_seq d ts = None

-- a rule after its `if`
abbrev pub rule_in : ℕ → List Tok → Option (Body × List Tok)
rule_in d ts =
    then_in (parts_in item_in d ts) (λ x us. then_in (then_seq d us) (λ y vs. then_in (alternatives_in d (y ∷ []) vs) (λ ys ws. Some (bd.Rule x ys, ws))))

-- a law after its verb
abbrev pub law_in : ℕ → Bool → Atom → List Tok → Option (Body × List Tok)
law_in d initiates event ts =
    then_in (atom_in d ts) (λ fluent us. then_in (conditions_in d us) (λ cs vs. Some (bd.Law initiates event fluent cs, vs)))

-- a sequence after `if`
abbrev pub if_seq : ℕ → List Tok → Option (List Item × List Tok)
if_seq d (k.If ∷ ts) = parts_in item_in d ts
if_seq d ts = None

-- a macro clause after `from`
abbrev pub macro_in : ℕ → Atom → List Tok → Option (Body × List Tok)
macro_in d head ts = then_in (times_in ts) (λ p us. then_in (if_seq d us) (λ xs vs. Some (bd.MacroClause head p.0 p.1 xs, vs)))

-- a clause after its head
abbrev pub clause_in : ℕ → Atom → List Tok → Option (Body × List Tok)
clause_in d head ts = then_in (conditions_in d ts) (λ cs us. Some (bd.Clause head cs, us))

-- a statement after its first atom
abbrev pub headed_in : ℕ → Atom → List Tok → Option (Body × List Tok)
headed_in d a (k.Initiates ∷ ts) = law_in d true a ts
headed_in d a (k.Terminates ∷ ts) = law_in d false a ts
headed_in d a (k.From ∷ ts) = macro_in d a ts
headed_in d a ts = clause_in d a ts

-- the facts after `initially`
abbrev pub initially_in : ℕ → List Tok → Option (Body × List Tok)
initially_in d ts = then_in (parts_in atom_in d ts) (λ xs us. Some (bd.Initially xs, us))

-- a denial after `false`
abbrev pub denial_in : ℕ → List Tok → Option (Body × List Tok)
denial_in d ts = then_in (parts_in item_in d ts) (λ xs us. Some (bd.Denial xs, us))

-- a statement without its full stop
abbrev pub body_in : ℕ → List Tok → Option (Body × List Tok)
body_in d (k.Fluent ∷ ts) = declare_in kd.Fluent d ts
body_in d (k.Event ∷ ts) = declare_in kd.Event d ts
body_in d (k.Action ∷ ts) = declare_in kd.Action d ts
body_in d (k.Timeless ∷ ts) = declare_in kd.Timeless d ts
body_in d (k.Derived ∷ ts) = declare_in kd.Derived d ts
body_in d (k.Macro ∷ ts) = declare_in kd.Macro d ts
body_in d (k.Initially ∷ ts) = initially_in d ts
body_in d (k.False ∷ ts) = denial_in d ts
body_in d (k.If ∷ ts) = rule_in d ts
body_in d ts = then_in (atom_in d ts) (λ a us. headed_in d a us)

-- ---- texts

-- the tokens after a full stop
abbrev pub dot_in : Body → List Tok → Option (Body × List Tok)
dot_in x (k.Dot ∷ ts) = Some (x, ts)
dot_in x ts = None

-- a statement with its full stop
abbrev pub statement_in : ℕ → List Tok → Option (Body × List Tok)
statement_in d ts = then_in (body_in d ts) dot_in

-- what comes of the rest, or of no token
abbrev pub end_case : {B : Type 0} → List Tok → B → B → B
end_case [] stop go = stop
end_case (t ∷ ts) stop go = go

-- the statements after those before, each with the place of its first token where there are `total` in all
abbrev pub text_in : ℕ → ℕ → List (ℕ × Body) → List Tok → Option (List (ℕ × Body) × List Tok)
text_in total zero before ts = Some (before, ts)
text_in total (suc d) before ts =
    end_case ts (Some (before, ts)) (then_in (statement_in (suc d) ts) (λ x us. text_in total d (before ++ (total - length ts, x) ∷ []) us))
