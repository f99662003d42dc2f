-- Terms and atoms: their trees, and the tokens of each, followed by what comes after it.
use Rattle.std.specs.Prelude.{ℕ, suc, ◌≡◌, Bool, true, List, ◌∷◌, nat_le, nat_lt, ◌^◌}
use Rattle.lps_grammar.specs.declared.tok.Tok.{Tok}
use Rattle.lps_grammar.specs.declared.tok.Tok.TheVariants as k

-- leaf = variable | number | "-" number; an integer lies in 64 bits; a variable only where `vars` is true
pub data Leaf : Bool → Type 0 where
  variable : {vars : Bool} → vars ≡ true → ℕ → Leaf vars
  number : {vars : Bool} (n : ℕ) → nat_lt n (2 ^ 63) ≡ true → Leaf vars
  negative : {vars : Bool} (n : ℕ) → nat_le n (2 ^ 63) ≡ true → Leaf vars

mutual
  -- term = name [ "(" term { "," term } ")" ] | leaf
  pub data Term : Bool → Type 0 where
    named : {vars : Bool} → List ℕ → Args vars → Term vars
    leaf : {vars : Bool} → Leaf vars → Term vars

  -- at most 64 arguments
  pub data Args : Bool → Type 0 where
    bare : {vars : Bool} → Args vars
    args : {vars : Bool} → Term vars → Terms vars 63 → Args vars

  -- at most `n` terms more
  pub data Terms : Bool → ℕ → Type 0 where
    end : {vars : Bool} {n : ℕ} → Terms vars n
    more : {vars : Bool} {n : ℕ} → Term vars → Terms vars n → Terms vars (suc n)

-- atom = name [ "(" term { "," term } ")" ]
pub data Atom : Bool → Type 0 where
  atom : {vars : Bool} → List ℕ → Args vars → Atom vars

-- the tokens of a leaf, and then `rest`
abbrev pub spell_leaf : {vars : Bool} → Leaf vars → List Tok → List Tok
spell_leaf (variable may n) rest = k.Variable n ∷ rest
spell_leaf (number n small) rest = k.Number n ∷ rest
spell_leaf (negative n small) rest = k.Minus ∷ k.Number n ∷ rest

abbrev mutual
  -- the tokens of a term, and then `rest`
  pub spell_term : {vars : Bool} → Term vars → List Tok → List Tok
  spell_term (named n xs) rest = k.Name n ∷ spell_args xs rest
  spell_term (leaf x) rest = spell_leaf x rest

  -- the tokens of arguments in their parentheses, if there are any
  pub spell_args : {vars : Bool} → Args vars → List Tok → List Tok
  spell_args bare rest = rest
  spell_args (args x xs) rest = k.Open ∷ spell_term x (spell_terms xs rest)

  -- the tokens of the terms after a first one, up to the closing parenthesis
  pub spell_terms : {vars : Bool} {n : ℕ} → Terms vars n → List Tok → List Tok
  spell_terms end rest = k.Close ∷ rest
  spell_terms (more x xs) rest = k.Comma ∷ spell_term x (spell_terms xs rest)

-- the tokens of an atom
abbrev pub spell_atom : {vars : Bool} → Atom vars → List Tok → List Tok
spell_atom (atom n xs) rest = k.Name n ∷ spell_args xs rest
