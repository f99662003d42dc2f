-- The text of a term or an atom shows the tokens of its canonical tree.
use Rattle.std.specs.Prelude.{ℕ, zero, suc, pos, negsuc, Bool, true, List, ◌∷◌, ◌++◌, map, codes, refl}
use Rattle.std.proofs.Common.{ap, append_assoc}
use Rattle.lps_grammar.specs.declared.tok.Tok.TheVariants as k
use Rattle.lps_grammar.specs.Terms as g
use Rattle.lps_build.specs.Meaning.{leaf_of, term_of, terms_of, atom_of}
use Rattle.lps_roundtrip.specs.Canonical.{canonical_leaf, canonical_term, canonical_args, canonical_terms, canonical_atom}
use Rattle.lps_numbering.specs.declared.names.Names.{Names}
use Rattle.lps_printer.specs.Terms.{atom_text, call_text, joined, term_text, term_text-App, term_text-Int, term_text-Sym, term_text-Var}
use Rattle.lps_roundtrip.proofs.Writes.{as_text, both_write, comma_then, sign_writes, Stops, token_writes, Writes}

-- the arguments after a first one, and the closing parenthesis
abbrev rest_text : Names → {vars : Bool} {n : ℕ} → g.Terms vars n → List ℕ
rest_text names xs = joined (codes ", ") true (map (term_text names.names) (terms_of xs)) ++ codes ")"

rest_stops : (names : Names) {vars : Bool} {n : ℕ} (xs : g.Terms vars n) → Stops (rest_text names xs)
rest_stops names g.end = λ rest ends. refl
rest_stops names (g.more x xs) = λ rest ends. refl

pub leaf_writes : (names : Names) {vars : Bool} (x : g.Leaf vars) → Writes names (term_text names.names (leaf_of x)) (g.spell_leaf (canonical_leaf x))
leaf_writes names (g.variable may n) = as_text (term_text-Var names.names n) (token_writes names (k.Variable n))
leaf_writes names (g.number n small) = as_text (term_text-Int names.names (pos n)) (token_writes names (k.Number n))
leaf_writes names (g.negative zero small) = as_text (term_text-Int names.names (pos 0)) (token_writes names (k.Number 0))
leaf_writes names (g.negative (suc n) small) = as_text (term_text-Int names.names (negsuc n)) (sign_writes k.Minus refl (token_writes names (k.Number (suc n))))

-- a name and its arguments
call_writes : (names : Names) (n : List ℕ) {vars : Bool} (x : g.Term vars) (xs : g.Terms vars 63) →
    Writes names (term_text names.names (term_of x)) (g.spell_term (canonical_term x)) → Writes names (rest_text names xs) (g.spell_terms (canonical_terms xs)) →
    Writes names (call_text n (map (term_text names.names) (term_of x ∷ terms_of xs))) (λ toks. k.Name n ∷ g.spell_args (canonical_args (g.args x xs)) toks)
call_writes names n x xs one more =
    both_write (λ rest ends. refl) (token_writes names (k.Name n))
    (sign_writes k.Open refl
    (as_text (append_assoc (term_text names.names (term_of x)) (joined (codes ", ") true (map (term_text names.names) (terms_of xs))) (codes ")"))
    (both_write (rest_stops names xs) one more)))

mutual
  pub term_writes : (names : Names) {vars : Bool} (x : g.Term vars) → Writes names (term_text names.names (term_of x)) (g.spell_term (canonical_term x))
  term_writes names (g.leaf x) = leaf_writes names x
  term_writes names (g.named n g.bare) = as_text (term_text-Sym names.names n) (token_writes names (k.Name n))
  term_writes names (g.named n (g.args x xs)) =
      as_text (term_text-App names.names n (term_of x ∷ terms_of xs)) (call_writes names n x xs (term_writes names x) (terms_write names xs))

  terms_write : (names : Names) {vars : Bool} {n : ℕ} (xs : g.Terms vars n) → Writes names (rest_text names xs) (g.spell_terms (canonical_terms xs))
  terms_write names g.end = token_writes names k.Close
  terms_write names (g.more x xs) =
      let pieces = joined (codes ", ") true (map (term_text names.names) (terms_of xs)) in
      as_text (append_assoc (codes ", ") (term_text names.names (term_of x) ++ pieces) (codes ")"))
      (as_text (ap (λ bytes. codes ", " ++ bytes) (append_assoc (term_text names.names (term_of x)) pieces (codes ")")))
      (comma_then (rest_stops names xs) (term_writes names x) (terms_write names xs)))

pub atom_writes : (names : Names) {vars : Bool} (x : g.Atom vars) → Writes names (atom_text names.names (atom_of x)) (g.spell_atom (canonical_atom x))
atom_writes names (g.atom n g.bare) = token_writes names (k.Name n)
atom_writes names (g.atom n (g.args x xs)) = call_writes names n x xs (term_writes names x) (terms_write names xs)
