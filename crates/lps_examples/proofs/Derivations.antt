-- The small program of the examples: its levels, and what is true in it.
use Rattle.std.proofs.Common.{◌≡◌, ◌↔◌, ◌≤◌, ◌<◌, ℕ, false, List, [], ◌∷◌, refl, sym, ap, subst, ◌∙◌, arith, inl, inr}
use Rattle.std.specs.Prelude.{◌⊎◌, ◌+◌, Contains, IsTrue, codes, slice_index_or}
use Rattle.std.specs.List.{AllByRecursion}
use Rattle.lps_terms.specs.declared.atom.Atom.{Atom}
use Rattle.lps_terms.specs.declared.cond.Cond.{Cond}
use Rattle.lps_terms.specs.declared.cond.Cond.TheVariants as c
use Rattle.lps_terms.specs.declared.lit.Lit.{Lit}
use Rattle.lps_terms.specs.declared.term.Term.{Term}
use Rattle.lps_terms.specs.declared.term.Term.TheVariants as t
use Rattle.lps_terms.specs.Names.{is_proper_name, reserved}
use Rattle.lps_terms.specs.Put.{put-Var}
use Rattle.lps_terms.specs.Symbols.{symbols_of, symbols_of_all, symbols_of_all-cons, symbols_of-Sym}
use Rattle.lps_model.proofs.Elements.{first_or_later, nothing_contained}
use Rattle.lps_model.specs.Clauses.{Clause}
use Rattle.lps_derivation.specs.Ground.{is_ground, is_ground-Sym}
use Rattle.lps_derivation.specs.Instances.{put_clause, IsInstance}
use Rattle.lps_derivation.specs.Levels.{IsUnder, AreLevels}
use Rattle.lps_derivation.specs.Derivation.{IsDerived, IsMet, Follows, of_fact}
use Rattle.lps_derivation.specs.Laws.{Passes}
use Rattle.lps_examples.specs.Derivations.{plain, negated, first_clause, second_clause, third_clause, example_program, constant_a, constant_b, example_facts, example_level}
use Rattle.lps_examples.specs.Examples.{unary}
use Rattle.lps_derivation.proofs.Truth.{equation, follows}

-- what holds of each item of a list holds of what it contains
each_of : {X : Type 0} (P : X → Type 0) (xs : List X) → AllByRecursion P xs → (q : X) → Contains xs q → P q
each_of P [] each q among = absurd (nothing_contained q among)
each_of P (x ∷ xs) each q among =
    elim (first_or_later x xs q among) [ inl here ↦ subst P here each.0 | inr later ↦ each_of P xs each.1 q later ]

-- ---- the levels

same_literal : (a b : Lit) → c.Lit a ≡ c.Lit b → a ≡ b
same_literal a b e = cc

-- where the condition is the literal, it is under n
module _ (n : ℕ) (l : Lit) where
  abbrev IsUnderHere : Cond → Type 0
  IsUnderHere d = d ≡ c.Lit l → IsUnder example_level n l

  plain_under : (a : Atom) (m : ℕ) → example_level a.name ≡ m → m ≤ n → IsUnderHere (plain a)
  plain_under a m e le here = subst (IsUnder example_level n) (same_literal _ l here) (record { no_higher = omega (arith, e, le); lower = λ is. absurd (cc) })

  negated_under : (a : Atom) (m : ℕ) → example_level a.name ≡ m → m < n → IsUnderHere (negated a)
  negated_under a m e lt here = subst (IsUnder example_level n) (same_literal _ l here) (record { no_higher = omega (arith, e, lt); lower = λ is. omega (arith, e, lt) })

  all_under : (conds : List Cond) → AllByRecursion IsUnderHere conds → Contains conds (c.Lit l) → IsUnder example_level n l
  all_under conds each among = each_of IsUnderHere conds each (c.Lit l) among refl

pub levels : AreLevels example_program example_level
levels = record {
  calls = λ k l among here call.
      each_of (λ k. Contains k.conds (c.Lit l) → IsUnder example_level (example_level k.head.name) l) example_program (
        all_under 1 l (first_clause (t.Var 0)).conds (
          plain_under 1 l (unary (codes "q") (t.Var 0)) 0 refl (omega arith),
          (negated_under 1 l (unary (codes "r") (t.Var 0)) 0 refl (omega arith), tt),
        ),
        (
          all_under 1 l (second_clause (t.Var 0)).conds (plain_under 1 l (unary (codes "s") (t.Var 0)) 0 refl (omega arith), tt),
          (all_under 0 l (third_clause (t.Var 0)).conds (plain_under 0 l (unary (codes "u") (t.Var 0)) 0 refl (omega arith), tt), tt),
        ),
      ) k among here;
}

-- ---- the instances

-- each instance is that of a clause for some term
abbrev IsOneOf : Clause → Term → Type 0
IsOneOf instance x = (instance ≡ first_clause x) ⊎ (instance ≡ second_clause x) ⊎ (instance ≡ third_clause x)

one_of : (instance : Clause) (of_clauses : IsInstance example_program instance) → IsOneOf instance (of_clauses.values 0)
one_of instance of_clauses =
    let s = of_clauses.values in
    each_of (λ k. instance ≡ put_clause s k → IsOneOf instance (s 0)) example_program (
      (λ e. inl (e ∙ ap first_clause (put-Var s 0))),
      ((λ e. inr (inl (e ∙ ap second_clause (put-Var s 0)))), ((λ e. inr (inr (e ∙ ap third_clause (put-Var s 0)))), tt)),
    ) of_clauses.clause of_clauses.among of_clauses.put_in

-- a constant is ground, and an atom of one constant is small
a_is_ground : IsTrue (is_ground constant_a)
unfolding is_proper_name reserved
a_is_ground = is_ground-Sym (codes "a")

b_is_ground : IsTrue (is_ground constant_b)
unfolding is_proper_name reserved
b_is_ground = is_ground-Sym (codes "b")

small : (x : Term) (n : List ℕ) → x ≡ t.Sym n → 1 + symbols_of_all (x ∷ []) ≤ 1024
small x n e =
    let one : symbols_of x ≡ 1 = ap symbols_of e ∙ symbols_of-Sym n in
    let none : symbols_of_all [] ≡ 0 = refl in
    omega (arith, one, none, symbols_of_all-cons x [])

second_instance : IsInstance example_program (second_clause constant_a)
second_instance = record {
  clause = second_clause (t.Var 0);
  among = (1, omega arith, refl);
  values = λ v. constant_a;
  all_ground = λ v. a_is_ground;
  put_in = sym (ap second_clause (put-Var (λ v. constant_a) 0));
  small_head = small constant_a (codes "a") refl;
  small_conds = (small constant_a (codes "a") refl, tt);
}

third_instance : IsInstance example_program (third_clause constant_b)
third_instance = record {
  clause = third_clause (t.Var 0);
  among = (2, omega arith, refl);
  values = λ v. constant_b;
  all_ground = λ v. b_is_ground;
  put_in = sym (ap third_clause (put-Var (λ v. constant_b) 0));
  small_head = small constant_b (codes "b") refl;
  small_conds = (small constant_b (codes "b") refl, tt);
}

-- ---- what is true

abbrev IsTrueHere : Atom → Type 0
IsTrueHere a = IsDerived (Passes (λ b. false)) example_program (Contains example_facts) example_level a

abbrev IsByClause : Atom → Type 0
IsByClause a = Follows (Passes (λ b. false)) IsTrueHere example_program a

splits : (a : Atom) → IsTrueHere a → Contains example_facts a ⊎ IsByClause a
splits a h = (equation (Passes (λ b. false)) example_program (Contains example_facts) example_level levels a).0 h

by_clause : (a : Atom) → IsByClause a → IsTrueHere a
by_clause a f = follows (Passes (λ b. false)) example_program (Contains example_facts) example_level levels a f

-- the first byte of a name, and the first argument
abbrev letter : Atom → ℕ
letter a = slice_index_or a.name 0 0

abbrev argument : Atom → Term
argument a = slice_index_or a.args 0 (t.Var 0)

-- atoms of other names differ
clash : (a b : Atom) (m n : ℕ) → letter a ≡ m → letter b ≡ n → (m ≡ n → ⊥) → a ≡ b → ⊥
clash a b m n am bn differ e = differ (sym am ∙ ap letter e ∙ bn)

a_is_true : IsTrueHere (unary (codes "p") constant_a)
a_is_true = by_clause (unary (codes "p") constant_a) record {
  instance = second_clause constant_a;
  of_clauses = second_instance;
  head = refl;
  met = (of_fact (1, omega arith, refl), tt);
}

r_of_b_is_true : IsTrueHere (unary (codes "r") constant_b)
r_of_b_is_true = by_clause (unary (codes "r") constant_b) record {
  instance = third_clause constant_b;
  of_clauses = third_instance;
  head = refl;
  met = (of_fact (3, omega arith, refl), tt);
}

-- an atom of a name in no head is true where it is a fact
is_fact : (a : Atom) (m : ℕ) → letter a ≡ m → (m ≡ 112 → ⊥) → (m ≡ 114 → ⊥) → IsTrueHere a → Contains example_facts a
is_fact a m named no_p no_r h = elim (splits a h) [ inl fact ↦ fact | inr f ↦ no_clause f (one_of f.instance f.of_clauses) ]
  where
    no_clause : (f : IsByClause a) → IsOneOf f.instance (f.of_clauses.values 0) → Contains example_facts a
    no_clause f (inl e) = absurd (clash a (first_clause (f.of_clauses.values 0)).head m 112 named refl no_p (f.head ∙ ap (λ k. k.head) e))
    no_clause f (inr (inl e)) = absurd (clash a (second_clause (f.of_clauses.values 0)).head m 112 named refl no_p (f.head ∙ ap (λ k. k.head) e))
    no_clause f (inr (inr e)) = absurd (clash a (third_clause (f.of_clauses.values 0)).head m 114 named refl no_r (f.head ∙ ap (λ k. k.head) e))

-- what a fact of one of these names says
p_facts : (x : Term) → Contains example_facts (unary (codes "p") x) → ⊥
p_facts x among = each_of (λ f. f ≡ unary (codes "p") x → ⊥) example_facts (
  clash _ _ 113 112 refl refl (λ e. omega (arith, e)),
  (clash _ _ 115 112 refl refl (λ e. omega (arith, e)), (clash _ _ 113 112 refl refl (λ e. omega (arith, e)), (clash _ _ 117 112 refl refl (λ e. omega (arith, e)), tt))),
) (unary (codes "p") x) among refl

q_facts : (x : Term) → Contains example_facts (unary (codes "q") x) → (x ≡ constant_a) ⊎ (x ≡ constant_b)
q_facts x among = each_of (λ f. f ≡ unary (codes "q") x → (x ≡ constant_a) ⊎ (x ≡ constant_b)) example_facts (
  (λ e. inl (sym (ap argument e))),
  (
    (λ e. absurd (clash _ _ 115 113 refl refl (λ e. omega (arith, e)) e)),
    ((λ e. inr (sym (ap argument e))), ((λ e. absurd (clash _ _ 117 113 refl refl (λ e. omega (arith, e)) e)), tt)),
  ),
) (unary (codes "q") x) among refl

s_facts : (x : Term) → Contains example_facts (unary (codes "s") x) → x ≡ constant_a
s_facts x among = each_of (λ f. f ≡ unary (codes "s") x → x ≡ constant_a) example_facts (
  (λ e. absurd (clash _ _ 113 115 refl refl (λ e. omega (arith, e)) e)),
  (
    (λ e. sym (ap argument e)),
    ((λ e. absurd (clash _ _ 113 115 refl refl (λ e. omega (arith, e)) e)), ((λ e. absurd (clash _ _ 117 115 refl refl (λ e. omega (arith, e)) e)), tt)),
  ),
) (unary (codes "s") x) among refl

-- by the first clause: q(y) is true and r(y) is not
by_first : (y : Term) → AllByRecursion (IsMet (Passes (λ b. false)) IsTrueHere) (first_clause y).conds → y ≡ constant_a
by_first y met =
    elim (q_facts y (is_fact (unary (codes "q") y) 113 refl (λ e. omega (arith, e)) (λ e. omega (arith, e)) met.0)) [
      | inl e ↦ e
      | inr e ↦ absurd (met.1.0 (subst (λ z. IsTrueHere (unary (codes "r") z)) (sym e) r_of_b_is_true))
    ]

-- by the second clause: s(y) is true
by_second : (y : Term) → AllByRecursion (IsMet (Passes (λ b. false)) IsTrueHere) (second_clause y).conds → y ≡ constant_a
by_second y met = s_facts y (is_fact (unary (codes "s") y) 115 refl (λ e. omega (arith, e)) (λ e. omega (arith, e)) met.0)

only_a : (x : Term) (f : IsByClause (unary (codes "p") x)) → IsOneOf f.instance (f.of_clauses.values 0) → x ≡ constant_a
only_a x f (inl e) =
    ap argument (f.head ∙ ap (λ k. k.head) e) ∙ by_first (f.of_clauses.values 0) (subst (λ k. AllByRecursion (IsMet (Passes (λ b. false)) IsTrueHere) k.conds) e f.met)
only_a x f (inr (inl e)) =
    ap argument (f.head ∙ ap (λ k. k.head) e) ∙ by_second (f.of_clauses.values 0) (subst (λ k. AllByRecursion (IsMet (Passes (λ b. false)) IsTrueHere) k.conds) e f.met)
only_a x f (inr (inr e)) =
    absurd (clash (unary (codes "p") x) (third_clause (f.of_clauses.values 0)).head 112 114 refl refl (λ e. omega (arith, e)) (f.head ∙ ap (λ k. k.head) e))

pub one_answer : (x : Term) → IsTrueHere (unary (codes "p") x) ↔ (x ≡ constant_a)
one_answer x = (
  (λ h. elim (splits (unary (codes "p") x) h) [ inl fact ↦ absurd (p_facts x fact) | inr f ↦ only_a x f (one_of f.instance f.of_clauses) ]),
  (λ e. subst (λ z. IsTrueHere (unary (codes "p") z)) (sym e) a_is_true),
)
