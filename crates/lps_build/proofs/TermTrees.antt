-- The tokens of a term or an atom are read as what its tree means.
use Rattle.std.specs.Prelude.{ℕ, zero, suc, ◌≡◌, Bool, List, [], ◌∷◌, ◌++◌, Some, refl}
use Rattle.std.proofs.Common.{◌∙◌, sym, ap, arith, append-nil, append_assoc}
use Rattle.lps_terms.specs.declared.term.Term.{Term}
use Rattle.lps_grammar.specs.declared.tok.Tok.{Tok}
use Rattle.lps_grammar.specs.declared.tok.Tok.TheVariants as k
use Rattle.lps_grammar.specs.Terms as g
use Rattle.lps_build.specs.Meaning.{leaf_of, term_of, args_of, terms_of, atom_of, call_of}
use Rattle.lps_build.specs.ReadTerms.{leaf_in, term_in, args_in, more_in, atom_in, then_in}
use Rattle.lps_build.specs.Fits.{AreNamed, Fits, EndsName}
use Rattle.lps_build.proofs.Left.{left_term}

named_tail : (t : Tok) (ts : List Tok) → AreNamed (t ∷ ts) → AreNamed ts
named_tail (k.Name n) ts p = p.1
named_tail t ts p = p

pub fits_tail : (d : ℕ) (t : Tok) (ts : List Tok) → Fits d (t ∷ ts) → Fits d ts
fits_tail d t ts p = record { named = named_tail t ts p.named; few = omega (arith, p.few) }

pub fits_next : (d : ℕ) (t : Tok) (ts : List Tok) → Fits (suc d) (t ∷ ts) → Fits d ts
fits_next d t ts p = record { named = named_tail t ts p.named; few = omega (arith, p.few) }

pub no_room : {A : Type 0} (t : Tok) (ts : List Tok) → Fits 0 (t ∷ ts) → A
no_room t ts p = absurd (omega (arith, p.few))

pub read_leaf : {vars : Bool} (x : g.Leaf vars) (rest : List Tok) → leaf_in (g.spell_leaf x rest) ≡ Some (leaf_of x, rest)
read_leaf (g.variable may n) rest = refl
read_leaf (g.number n small) rest = rw small refl
read_leaf (g.negative n small) rest = rw small refl

args_bare : (d : ℕ) (rest : List Tok) → EndsName rest → args_in d rest ≡ Some ([], rest)
args_bare zero rest ends = refl
args_bare (suc d) rest ends = ends _

ends_terms : {vars : Bool} {n : ℕ} (xs : g.Terms vars n) (rest : List Tok) → EndsName (g.spell_terms xs rest)
ends_terms g.end rest = λ some. refl
ends_terms (g.more x xs) rest = λ some. refl

mutual
  pub read_term : {vars : Bool} (x : g.Term vars) (d : ℕ) (rest : List Tok) → Fits d (g.spell_term x rest) → EndsName rest → term_in d (g.spell_term x rest) ≡ Some (term_of x, rest)
  read_term (g.named n xs) zero rest p ends = no_room _ _ p
  read_term (g.leaf (g.variable may n)) zero rest p ends = no_room _ _ p
  read_term (g.leaf (g.number n small)) zero rest p ends = no_room _ _ p
  read_term (g.leaf (g.negative n small)) zero rest p ends = no_room _ _ p
  read_term (g.named n xs) (suc d) rest p ends =
      rw p.named.0 (ap (λ o. then_in o (λ ys us. Some (call_of n ys, us))) (read_args xs d rest (fits_next d _ _ p) ends))
  read_term (g.leaf (g.variable may n)) (suc d) rest p ends = refl
  read_term (g.leaf (g.number n small)) (suc d) rest p ends = rw small refl
  read_term (g.leaf (g.negative n small)) (suc d) rest p ends = rw small refl

  pub read_args : {vars : Bool} (x : g.Args vars) (d : ℕ) (rest : List Tok) → Fits d (g.spell_args x rest) → EndsName rest → args_in d (g.spell_args x rest) ≡ Some (args_of x, rest)
  read_args g.bare d rest p ends = args_bare d rest ends
  read_args (g.args x xs) zero rest p ends = no_room _ _ p
  read_args (g.args x xs) (suc d) rest p ends =
      let q = fits_next d _ _ p in
      ap (λ o. then_in o (λ y vs. more_in d (y ∷ []) vs)) (read_term x d (g.spell_terms xs rest) q (ends_terms xs rest))
      ∙ read_more xs d (term_of x ∷ []) rest (left_term (Fits d) (fits_tail d) x (g.spell_terms xs rest) q)

  read_more : {vars : Bool} {n : ℕ} (xs : g.Terms vars n) (d : ℕ) (before : List Term) (rest : List Tok) → Fits d (g.spell_terms xs rest) → more_in d before (g.spell_terms xs rest) ≡ Some (before ++ terms_of xs, rest)
  read_more g.end zero before rest p = no_room _ _ p
  read_more (g.more x xs) zero before rest p = no_room _ _ p
  read_more g.end (suc d) before rest p = ap (λ z. Some (z, rest)) (sym (append-nil before))
  read_more (g.more x xs) (suc d) before rest p =
      let q = fits_next d _ _ p in
      ap (λ o. then_in o (λ y vs. more_in d (before ++ y ∷ []) vs)) (read_term x d (g.spell_terms xs rest) q (ends_terms xs rest))
      ∙ read_more xs d (before ++ term_of x ∷ []) rest (left_term (Fits d) (fits_tail d) x (g.spell_terms xs rest) q)
      ∙ ap (λ z. Some (z, rest)) (append_assoc before (term_of x ∷ []) (terms_of xs))

pub read_atom : {vars : Bool} (x : g.Atom vars) (d : ℕ) (rest : List Tok) → Fits d (g.spell_atom x rest) → EndsName rest → atom_in d (g.spell_atom x rest) ≡ Some (atom_of x, rest)
read_atom (g.atom n xs) d rest p ends =
    rw p.named.0 (ap (λ o. then_in o (λ ys us. Some (record { name = n; args = ys }, us))) (read_args xs d rest (fits_tail d _ _ p) ends))
