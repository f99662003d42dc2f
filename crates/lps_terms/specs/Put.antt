-- Substitution: a term or an atom with a term in the place of each variable.
use Rattle.std.specs.Prelude.{ℕ, ℤ, ◌≡◌, List, [], ◌∷◌, map, refl}
use Rattle.std.specs.List.{AllByRecursion}
use Rattle.std.proofs.Common.{◌∙◌, sym, ap}
use Rattle.lps_terms.specs.declared.atom.Atom.{Atom}
use Rattle.lps_terms.specs.declared.term.Term.{Term}
use Rattle.lps_terms.specs.declared.term.Term.TheVariants as t
use Rattle.lps_terms.specs.declared.term.Term.TheOpen.{Term-F}
use Rattle.lps_terms.specs.declared.term.Term.TheFolds.{fold-Term}
use Rattle.lps_terms.specs.Forms.{term_ind, fold-Int, fold-Sym, fold-App, fold-Var}

-- one form, with what was put into each argument in its place
abbrev pub put_step : (ℕ → Term) → Term-F Term → Term
put_step s (Term-F.Int z) = t.Int z
put_step s (Term-F.Sym n) = t.Sym n
put_step s (Term-F.App n ts) = t.App n ts
put_step s (Term-F.Var v) = s v

-- a term with s of each variable in its place
abbrev pub put : (ℕ → Term) → Term → Term
put s = fold-Term Term (put_step s)

-- an atom with s of each variable in its place
abbrev pub put_atom : (ℕ → Term) → Atom → Atom
put_atom s a = record { name = a.name; args = map (put s) a.args }

-- first r is put in, and then s
abbrev pub after : (ℕ → Term) → (ℕ → Term) → ℕ → Term
after s r v = put s (r v)

module _ (s : ℕ → Term) where
  pub put-Int : (z : ℤ) → put s (t.Int z) ≡ t.Int z
  put-Int = fold-Int Term (put_step s)

  pub put-Sym : (n : List ℕ) → put s (t.Sym n) ≡ t.Sym n
  put-Sym = fold-Sym Term (put_step s)

  pub put-App : (n : List ℕ) (ts : List Term) → put s (t.App n ts) ≡ t.App n (map (put s) ts)
  put-App = fold-App Term (put_step s)

  pub put-Var : (v : ℕ) → put s (t.Var v) ≡ s v
  put-Var = fold-Var Term (put_step s)

-- functions that agree on the items of a list
pub map_same : {X Y : Type 0} (f g : X → Y) (xs : List X) → AllByRecursion (λ x. f x ≡ g x) xs → map f xs ≡ map g xs
map_same f g [] h = refl
map_same f g (x ∷ xs) h = λ i. h.0 i ∷ map_same f g xs h.1 i

map_map : {X Y Z : Type 0} (f : Y → Z) (g : X → Y) (xs : List X) → map f (map g xs) ≡ map (λ x. f (g x)) xs
map_map f g [] = refl
map_map f g (x ∷ xs) = ap (λ ys. f (g x) ∷ ys) (map_map f g xs)

-- two substitutions one after the other are one
module _ (s r : ℕ → Term) where
  abbrev Composes : Term → Type 0
  Composes x = put s (put r x) ≡ put (after s r) x

  put_all : (ts : List Term) → AllByRecursion Composes ts → map (put s) (map (put r) ts) ≡ map (put (after s r)) ts
  put_all ts each = map_map (put s) (put r) ts ∙ map_same (λ x. put s (put r x)) (put (after s r)) ts each

  pub put-put : (x : Term) → put s (put r x) ≡ put (after s r) x
  put-put = term_ind Composes
      (λ z. ap (put s) (put-Int r z) ∙ put-Int s z ∙ sym (put-Int (after s r) z))
      (λ n. ap (put s) (put-Sym r n) ∙ put-Sym s n ∙ sym (put-Sym (after s r) n))
      (λ n ts each.
      ap (put s) (put-App r n ts) ∙ put-App s n (map (put r) ts) ∙ ap (t.App n) (put_all ts each) ∙ sym (put-App (after s r) n ts))
      (λ v. ap (put s) (put-Var r v) ∙ sym (put-Var (after s r) v))

  every : (ts : List Term) → AllByRecursion Composes ts
  every [] = tt
  every (x ∷ xs) = (put-put x, every xs)

  pub put_atom-put_atom : (a : Atom) → put_atom s (put_atom r a) ≡ put_atom (after s r) a
  put_atom-put_atom a = λ i. record { name = a.name; args = put_all a.args (every a.args) i }

-- each variable in its own place changes nothing
pub put-Var_each : (x : Term) → put (λ v. t.Var v) x ≡ x
put-Var_each = term_ind (λ x. put (λ v. t.Var v) x ≡ x) (put-Int (λ v. t.Var v)) (put-Sym (λ v. t.Var v))
    (λ n ts each. put-App (λ v. t.Var v) n ts ∙ ap (t.App n) (kept ts each)) (put-Var (λ v. t.Var v))
  where
    kept : (ts : List Term) → AllByRecursion (λ x. put (λ v. t.Var v) x ≡ x) ts → map (put (λ v. t.Var v)) ts ≡ ts
    kept [] each = refl
    kept (x ∷ xs) each = λ i. each.0 i ∷ kept xs each.1 i
