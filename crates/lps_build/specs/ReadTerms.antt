-- The part of the syntax at the front of tokens, and the tokens after it. A number bounds how many tokens are left.
use Rattle.std.specs.Prelude.{ℕ, zero, suc, ◌^◌, pos, ◌++◌, List, [], ◌∷◌, Option, Some, None, nat_lt, nat_le, if◌then◌else◌}
use Rattle.lps_terms.specs.declared.atom.Atom.{Atom}
use Rattle.lps_terms.specs.declared.term.Term.{Term}
use Rattle.lps_terms.specs.declared.term.Term.TheVariants as t
use Rattle.lps_terms.specs.Names.{is_name}
use Rattle.lps_grammar.specs.declared.tok.Tok.{Tok}
use Rattle.lps_grammar.specs.declared.tok.Tok.TheVariants as k
use Rattle.lps_build.specs.Meaning.{minus, call_of}

-- what is found from the part at the front and the tokens after it
abbrev pub then_in : {A B : Type 0} → Option (A × List Tok) → (A → List Tok → Option (B × List Tok)) → Option (B × List Tok)
then_in None go = None
then_in (Some p) go = go p.0 p.1

-- the name of these bytes, if they are one
abbrev pub name_in : {B : Type 0} → List ℕ → Option B → Option B
name_in n found = if is_name n then found else None

-- the integer after a minus sign
abbrev pub negative_in : List Tok → Option (Term × List Tok)
negative_in (k.Number n ∷ ts) = if nat_le n (2 ^ 63) then Some (t.Int (minus n), ts) else None
negative_in ts = None

-- a variable or an integer
abbrev pub leaf_in : List Tok → Option (Term × List Tok)
leaf_in (k.Variable v ∷ ts) = Some (t.Var v, ts)
leaf_in (k.Number n ∷ ts) = if nat_lt n (2 ^ 63) then Some (t.Int (pos n), ts) else None
leaf_in (k.Minus ∷ ts) = negative_in ts
leaf_in ts = None

-- a name and its arguments, or a leaf
abbrev pub term_case : List Tok → (List Tok → Option (List Term × List Tok)) → Option (Term × List Tok)
term_case (k.Name n ∷ ts) args = name_in n (then_in (args ts) (λ xs us. Some (call_of n xs, us)))
term_case ts args = leaf_in ts

-- arguments after the opening parenthesis, if it stands there
abbrev pub args_case : List Tok → (List Tok → Option (List Term × List Tok)) → Option (List Term × List Tok)
args_case (k.Open ∷ ts) some = some ts
args_case ts some = Some ([], ts)

-- what comes after an argument
abbrev pub more_case : List Term → List Tok → (List Tok → Option (List Term × List Tok)) → Option (List Term × List Tok)
more_case xs (k.Comma ∷ ts) some = some ts
more_case xs (k.Close ∷ ts) some = Some (xs, ts)
more_case xs ts some = None

abbrev mutual
  -- a term
  pub term_in : ℕ → List Tok → Option (Term × List Tok)
  term_in zero ts = None
  term_in (suc d) ts = term_case ts (λ us. args_in d us)

  -- the arguments of a name
  pub args_in : ℕ → List Tok → Option (List Term × List Tok)
  args_in zero ts = Some ([], ts)
  args_in (suc d) ts = args_case ts (λ us. then_in (term_in d us) (λ x vs. more_in d (x ∷ []) vs))

  -- the arguments after the first ones, up to the closing parenthesis
  pub more_in : ℕ → List Term → List Tok → Option (List Term × List Tok)
  more_in zero xs ts = None
  more_in (suc d) xs ts = more_case xs ts (λ us. then_in (term_in d us) (λ x vs. more_in d (xs ++ x ∷ []) vs))

-- an atom
abbrev pub atom_in : ℕ → List Tok → Option (Atom × List Tok)
atom_in d (k.Name n ∷ ts) = name_in n (then_in (args_in d ts) (λ xs us. Some (record { name = n; args = xs }, us)))
atom_in d ts = None
