-- The orders of names, terms and atoms are total, and only equal ones tie. Terms go by their heads and then by their
-- arguments.
use Rattle.std.specs.Prelude.{ℕ, ℤ, true, ◌+◌, ◌≤◌, ◌<◌, zero, suc, ◌≡◌, List, [], ◌∷◌, length, refl}
use Rattle.std.specs.Bool.{Decides}
use Rattle.std.specs.declared.cmp.Ordering.{Ordering}
use Rattle.std.specs.declared.cmp.Ordering.TheVariants.{Less, Equal, Greater}
use Rattle.std.specs.Ordering.{nat_cmp, int_cmp, ordering_then, ordering_reverse, is_eq, eq_by_cmp}
use Rattle.std.specs.Cmp.{IsTotalOrder, tied_itself, nat_cmp_is}
use Rattle.std.specs.Cmp.Lexicographic.{slice_cmp, bytes_decides}
use Rattle.std.specs.FinMap.{IsAntisymmetric, nat_cmp-IsAntisymmetric, int_cmp-IsAntisymmetric, slice_cmp-IsAntisymmetric}
use Rattle.std.proofs.Common.{◌∙◌, sym, ap, arith}
use Rattle.std.proofs.lemmas.Cmp.{then_total, on_total, lists_total, nat_cmp_total, int_cmp_total, nat_list_cmp_total}
use Rattle.lps_terms.specs.declared.atom.Atom.{Atom}
use Rattle.lps_terms.specs.declared.term.Term.{Term}
use Rattle.lps_terms.specs.declared.term.Term.TheVariants as t
use Rattle.lps_terms.specs.Forms.{term_ind}
use Rattle.lps_terms.specs.Symbols.{symbols_of, symbols_of_all, symbols_of_all-cons, symbols_of-Int, symbols_of-Sym, symbols_of-App, symbols_of-Var}
use Rattle.lps_terms.specs.Order.{rank_of, variable_of, integer_of, name_of, args_of, args_of-App, is_function, head_cmp, cmp_within, term_cmp, term_eq, atom_cmp, atom_eq, name_cmp, name_eq}

pub name_cmp_total : IsTotalOrder name_cmp
name_cmp_total = nat_list_cmp_total

pub name_cmp-IsAntisymmetric : IsAntisymmetric name_cmp
name_cmp-IsAntisymmetric = slice_cmp-IsAntisymmetric nat_cmp-IsAntisymmetric

pub name_eq-decides : (n m : List ℕ) → Decides (name_eq n m) (n ≡ m)
name_eq-decides = bytes_decides

-- a term is one symbol and its arguments
pub symbols_of-args : (x : Term) → symbols_of x ≡ 1 + symbols_of_all (args_of x)
symbols_of-args = term_ind (λ x. symbols_of x ≡ 1 + symbols_of_all (args_of x)) symbols_of-Int symbols_of-Sym
    (λ n ts is. symbols_of-App n ts ∙ ap (λ us. 1 + symbols_of_all us) (sym (args_of-App n ts))) symbols_of-Var

head_total : IsTotalOrder head_cmp
head_total = then_total (on_total rank_of nat_cmp_total) (then_total (on_total variable_of nat_cmp_total) (then_total (on_total integer_of int_cmp_total)
    (then_total (on_total name_of name_cmp_total) (then_total (on_total (λ x. length (args_of x)) nat_cmp_total) (on_total is_function nat_cmp_total)))))

within_total : (depth : ℕ) → IsTotalOrder (cmp_within depth)
within_total zero = head_total
within_total (suc depth) = then_total head_total (on_total args_of (lists_total (within_total depth)))

-- depths that both suffice for x
module _ (n m : ℕ) (one : (x y : Term) → symbols_of x ≤ n → symbols_of x ≤ m → cmp_within n x y ≡ cmp_within m x y) where
  stable_all : (xs ys : List Term) → symbols_of_all xs ≤ n → symbols_of_all xs ≤ m → slice_cmp (cmp_within n) xs ys ≡ slice_cmp (cmp_within m) xs ys
  stable_all [] [] p q = refl
  stable_all [] (y ∷ ys) p q = refl
  stable_all (x ∷ xs) [] p q = refl
  stable_all (x ∷ xs) (y ∷ ys) p q =
      ap (λ r. ordering_then r (slice_cmp (cmp_within n) xs ys)) (one x y (omega (arith, symbols_of_all-cons x xs)) (omega (arith, symbols_of_all-cons x xs)))
      ∙ ap (ordering_then (cmp_within m x y)) (stable_all xs ys (omega (arith, symbols_of_all-cons x xs)) (omega (arith, symbols_of_all-cons x xs)))

stable : (n m : ℕ) (x y : Term) → symbols_of x ≤ n → symbols_of x ≤ m → cmp_within n x y ≡ cmp_within m x y
stable zero m x y p q = absurd (omega (arith, symbols_of-args x))
stable (suc n) zero x y p q = absurd (omega (arith, symbols_of-args x))
stable (suc n) (suc m) x y p q =
    ap (ordering_then (head_cmp x y))
    (stable_all n m (stable n m) (args_of x) (args_of y) (omega (arith, symbols_of-args x)) (omega (arith, symbols_of-args x)))

to_own : (n : ℕ) (xs ys : List Term) → symbols_of_all xs ≤ n → slice_cmp (cmp_within n) xs ys ≡ slice_cmp term_cmp xs ys
to_own n [] [] p = refl
to_own n [] (y ∷ ys) p = refl
to_own n (x ∷ xs) [] p = refl
to_own n (x ∷ xs) (y ∷ ys) p =
    ap (λ r. ordering_then r (slice_cmp (cmp_within n) xs ys)) (stable n (symbols_of x) x y (omega (arith, symbols_of_all-cons x xs)) (omega arith))
    ∙ ap (ordering_then (term_cmp x y)) (to_own n xs ys (omega (arith, symbols_of_all-cons x xs)))

-- heads first, and then the arguments
pub term_cmp-args : (x y : Term) → term_cmp x y ≡ ordering_then (head_cmp x y) (slice_cmp term_cmp (args_of x) (args_of y))
term_cmp-args x y =
    let more : symbols_of x ≡ suc (symbols_of_all (args_of x)) = omega (arith, symbols_of-args x) in
    ap (λ n. cmp_within n x y) more
    ∙ ap (ordering_then (head_cmp x y)) (to_own (symbols_of_all (args_of x)) (args_of x) (args_of y) (omega arith))

pub term_cmp_total : IsTotalOrder term_cmp
term_cmp_total = record {
  antisymm = λ x y.
      let n : ℕ = symbols_of x + symbols_of y in
      stable (symbols_of x) n x y (omega arith) (omega arith) ∙ (within_total n).antisymm x y
      ∙ ap ordering_reverse (stable n (symbols_of y) y x (omega arith) (omega arith));
  trans = λ x y z p q.
      let n : ℕ = symbols_of x + symbols_of y in
      stable (symbols_of x) n x z (omega arith) (omega arith)
      ∙ (within_total n).trans x y z (stable n (symbols_of x) x y (omega arith) (omega arith) ∙ p)
      (stable n (symbols_of y) y z (omega arith) (omega arith) ∙ q);
  congr = λ x y z p.
      let n : ℕ = symbols_of x + symbols_of y in
      stable (symbols_of x) n x z (omega arith) (omega arith)
      ∙ (within_total n).congr x y z (stable n (symbols_of x) x y (omega arith) (omega arith) ∙ p)
      ∙ stable n (symbols_of y) y z (omega arith) (omega arith);
}

-- a term from its parts
abbrev of_parts : ℕ → ℕ → ℤ → List ℕ → ℕ → List Term → Term
of_parts zero v z n call ts = t.Var v
of_parts (suc zero) v z n call ts = t.Int z
of_parts (suc (suc k)) v z n zero ts = t.Sym n
of_parts (suc (suc k)) v z n (suc call) ts = t.App n ts

abbrev again : Term → Term
again x = of_parts (rank_of x) (variable_of x) (integer_of x) (name_of x) (is_function x) (args_of x)

again_same : (x : Term) → again x ≡ x
again_same = term_ind (λ x. again x ≡ x) (λ z. refl) (λ n. refl) (λ n ts is. ap (t.App n) (args_of-App n ts)) (λ v. refl)

both_equal : (r s : Ordering) → ordering_then r s ≡ Equal → (r ≡ Equal) × (s ≡ Equal)
both_equal Less s e = absurd (cc)
both_equal Equal s e = (refl, e)
both_equal Greater s e = absurd (cc)

within_all : (n : ℕ) (one : (x y : Term) → cmp_within n x y ≡ Equal → symbols_of x ≤ n → x ≡ y) → (xs ys : List Term) →
    slice_cmp (cmp_within n) xs ys ≡ Equal → symbols_of_all xs ≤ n → xs ≡ ys
within_all n one [] [] e p = refl
within_all n one [] (y ∷ ys) e p = absurd (cc)
within_all n one (x ∷ xs) [] e p = absurd (cc)
within_all n one (x ∷ xs) (y ∷ ys) e p =
    let both = both_equal _ _ e in
    let first : x ≡ y = one x y both.0 (omega (arith, symbols_of_all-cons x xs)) in
    let rest : xs ≡ ys = within_all n one xs ys both.1 (omega (arith, symbols_of_all-cons x xs)) in
    cc

args_below : (n : ℕ) (x : Term) → symbols_of x ≤ suc n → symbols_of_all (args_of x) ≤ n
args_below n x p = omega (arith, symbols_of-args x)

within_antisymmetric : (n : ℕ) (x y : Term) → cmp_within n x y ≡ Equal → symbols_of x ≤ n → x ≡ y
within_antisymmetric zero x y e p = absurd (omega (arith, symbols_of-args x))
within_antisymmetric (suc n) x y e p =
    let split = both_equal _ _ e in
    let rank = both_equal _ _ split.0 in
    let variable = both_equal _ _ rank.1 in
    let integer = both_equal _ _ variable.1 in
    let name = both_equal _ _ integer.1 in
    let count = both_equal _ _ name.1 in
    let r : rank_of x ≡ rank_of y = nat_cmp-IsAntisymmetric _ _ rank.0 in
    let v : variable_of x ≡ variable_of y = nat_cmp-IsAntisymmetric _ _ variable.0 in
    let z : integer_of x ≡ integer_of y = int_cmp-IsAntisymmetric _ _ integer.0 in
    let s : name_of x ≡ name_of y = name_cmp-IsAntisymmetric _ _ name.0 in
    let call : is_function x ≡ is_function y = nat_cmp-IsAntisymmetric _ _ count.1 in
    let all : args_of x ≡ args_of y = within_all n (within_antisymmetric n) _ _ split.1 (args_below n x p) in
    sym (again_same x) ∙ (λ i. of_parts (r i) (v i) (z i) (s i) (call i) (all i)) ∙ again_same y

-- only equal terms tie
pub term_cmp-IsAntisymmetric : IsAntisymmetric term_cmp
term_cmp-IsAntisymmetric x y e = within_antisymmetric (symbols_of x) x y e (omega arith)

-- where the heads tie, the arguments decide
pub term_cmp-tied : (x y : Term) → head_cmp x y ≡ Equal → term_cmp x y ≡ slice_cmp term_cmp (args_of x) (args_of y)
term_cmp-tied x y e = term_cmp-args x y ∙ ap (λ r. ordering_then r (slice_cmp term_cmp (args_of x) (args_of y))) e

-- a test by an order in which only equal values tie decides equality
module _ {X : Type 0} {R : X → X → Ordering} (total : IsTotalOrder R) (same : IsAntisymmetric R) where
  tied : (r : Ordering) → is_eq r ≡ true → r ≡ Equal
  tied Less e = absurd (cc)
  tied Equal e = refl
  tied Greater e = absurd (cc)

  pub eq_by_cmp-decides : (x y : X) → Decides (eq_by_cmp R x y) (x ≡ y)
  eq_by_cmp-decides x y = (λ e. same x y (tied (R x y) e), λ e. ap is_eq (ap (R x) (sym e) ∙ tied_itself total x))

pub term_eq-decides : (x y : Term) → Decides (term_eq x y) (x ≡ y)
term_eq-decides = eq_by_cmp-decides term_cmp_total term_cmp-IsAntisymmetric

pub atom_cmp_total : IsTotalOrder atom_cmp
atom_cmp_total = then_total (on_total (λ a. a.name) name_cmp_total)
    (then_total (on_total (λ a. length a.args) nat_cmp_total) (on_total (λ a. a.args) (lists_total term_cmp_total)))

pub atom_cmp-IsAntisymmetric : IsAntisymmetric atom_cmp
atom_cmp-IsAntisymmetric a b e =
    let name = both_equal _ _ e in
    let count = both_equal _ _ name.1 in
    let n : a.name ≡ b.name = name_cmp-IsAntisymmetric _ _ name.0 in
    let ts : a.args ≡ b.args = slice_cmp-IsAntisymmetric term_cmp-IsAntisymmetric _ _ count.1 in
    λ i. record { name = n i; args = ts i }

pub atom_eq-decides : (a b : Atom) → Decides (atom_eq a b) (a ≡ b)
atom_eq-decides = eq_by_cmp-decides atom_cmp_total atom_cmp-IsAntisymmetric

-- ---- the order of terms by their forms

then_equal : (r : Ordering) → ordering_then r Equal ≡ r
then_equal Less = refl
then_equal Equal = refl
then_equal Greater = refl

less_first : (r s u : Ordering) → r ≡ Less → ordering_then (ordering_then r s) u ≡ Less
less_first r s u e = ap (λ o. ordering_then (ordering_then o s) u) e

then_less : (r s u : Ordering) → s ≡ Less → ordering_then (ordering_then r s) u ≡ ordering_then r Less
then_less Less s u e = refl
then_less Equal s u e = ap (λ o. ordering_then o u) e
then_less Greater s u e = refl

then_then : (r s u : Ordering) → ordering_then (ordering_then r (ordering_then s Equal)) u ≡ ordering_then r (ordering_then s u)
then_then Less s u = refl
then_then Equal s u = ap (λ o. ordering_then o u) (then_equal s)
then_then Greater s u = refl

pub term_cmp-ranks : (x y : Term) → rank_of x < rank_of y → term_cmp x y ≡ Less
term_cmp-ranks x y below =
    let less : nat_cmp (rank_of x) (rank_of y) ≡ Less = sym (nat_cmp_is (rank_of x) (rank_of y) Less below) in
    term_cmp-args x y ∙ less_first _ _ _ less

pub term_cmp-Var : (v w : ℕ) → term_cmp (t.Var v) (t.Var w) ≡ nat_cmp v w
term_cmp-Var v w = term_cmp-args (t.Var v) (t.Var w) ∙ then_equal _ ∙ then_equal (nat_cmp v w)

pub term_cmp-Int : (z w : ℤ) → term_cmp (t.Int z) (t.Int w) ≡ int_cmp z w
term_cmp-Int z w = term_cmp-args (t.Int z) (t.Int w) ∙ then_equal _ ∙ then_equal (int_cmp z w)

pub term_cmp-Sym : (n m : List ℕ) → term_cmp (t.Sym n) (t.Sym m) ≡ name_cmp n m
term_cmp-Sym n m = term_cmp-args (t.Sym n) (t.Sym m) ∙ then_equal _ ∙ then_equal (name_cmp n m)

none_first : (ys : List Term) → ordering_then (nat_cmp 0 (length ys)) Less ≡ Less
none_first [] = refl
none_first (y ∷ ys) = ap (λ r. ordering_then r Less) (sym (nat_cmp_is 0 (length (y ∷ ys)) Less (omega arith)))

-- a constant comes before the functions of its name
pub term_cmp-Sym-App : (n m : List ℕ) (ys : List Term) → term_cmp (t.Sym n) (t.App m ys) ≡ ordering_then (name_cmp n m) Less
term_cmp-Sym-App n m ys =
    term_cmp-args (t.Sym n) (t.App m ys) ∙ then_less (name_cmp n m) _ _ (none_first (args_of (t.App m ys)))

pub term_cmp-App : (n m : List ℕ) (xs ys : List Term) →
    term_cmp (t.App n xs) (t.App m ys) ≡ ordering_then (name_cmp n m) (ordering_then (nat_cmp (length xs) (length ys)) (slice_cmp term_cmp xs ys))
term_cmp-App n m xs ys =
    term_cmp-args (t.App n xs) (t.App m ys)
    ∙ (λ i.
    ordering_then (ordering_then (name_cmp n m) (ordering_then (nat_cmp (length (args_of-App n xs i)) (length (args_of-App m ys i))) Equal))
    (slice_cmp term_cmp (args_of-App n xs i) (args_of-App m ys i)))
    ∙ then_then (name_cmp n m) (nat_cmp (length xs) (length ys)) (slice_cmp term_cmp xs ys)
