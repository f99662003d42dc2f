-- Trees go up the levels: what is true by more levels than an atom needs is what is true by its own.
use Rattle.std.proofs.Common.{ℕ, zero, suc, ◌≡◌, ◌+◌, ◌≤◌, ◌<◌, ◌↔◌, List, sym, ap, subst, arith}
use Rattle.std.specs.List.{AllByRecursion}
use Rattle.lps_terms.specs.declared.atom.Atom.{Atom}
use Rattle.lps_terms.specs.declared.built.Built.{Built}
use Rattle.lps_terms.specs.declared.cond.Cond.{Cond}
use Rattle.lps_terms.specs.declared.lit.Lit.{Lit}
use Rattle.lps_terms.specs.declared.term.Term.{Term}
use Rattle.lps_model.specs.Clauses.{Clause}
use Rattle.lps_derivation.specs.Instances.{IsInstance, put_lit}
use Rattle.lps_derivation.proofs.Instances.{head_name, head_is_defined, OnLiteral, instance_each}
use Rattle.lps_derivation.specs.Levels.{IsDefined, IsUnder, AreLevels}
use Rattle.lps_derivation.specs.Derivation.{Tree, Trees, of_fact, of_clause, done, positive, negative, built, IsTrueBelow, IsDerived}

module _ (clauses : List Clause) (level : List ℕ → ℕ) where
  -- where the literal is a call, it is under n
  abbrev pub CallIsUnder : ℕ → Lit → Type 0
  CallIsUnder n l = IsDefined clauses l.atom.name → IsUnder level n l

  -- putting terms in keeps the names
  pub stays_under : (n : ℕ) (s : ℕ → Term) (l : Lit) → CallIsUnder n l → CallIsUnder n (put_lit s l)
  stays_under n s l under = λ call. let was = under call in record { no_higher = was.no_higher; lower = was.lower }

  -- each condition that is a call is under n
  abbrev pub AreUnder : ℕ → List Cond → Type 0
  AreUnder n conds = AllByRecursion (OnLiteral (CallIsUnder n) (stays_under n)) conds

  -- where the atom is a call, it is at a level below n
  abbrev pub IsBelow : ℕ → Atom → Type 0
  IsBelow n a = IsDefined clauses a.name → level a.name < n

  module _ (levels : AreLevels clauses level) where
    -- the calls of an instance are under a level that is not below its head's
    pub instance_under : (n : ℕ) (instance : Clause) (a : Atom) → IsInstance clauses instance → a ≡ instance.head → level a.name ≤ n → AreUnder n instance.conds
    instance_under n instance a of_clauses head le =
        let k = of_clauses.clause in
        let own : level k.head.name ≡ level a.name = ap level (head_name clauses instance a of_clauses head) in
        instance_each (CallIsUnder n) (stays_under n) clauses instance of_clauses
        (λ l among call. let under = levels.calls k l of_clauses.among among call in record {
          no_higher = (let low = under.no_higher in omega (arith, low, own));
          lower = λ is. (let low = under.lower is in omega (arith, low, own));
        })

module _ (IsTrueBuilt : Built → Type 0) (clauses : List Clause) (IsFact : Atom → Type 0) where
  -- an atom that is no call is true where it is a fact
  pub only_fact : {Fails : Atom → Type 0} {a : Atom} → Tree IsTrueBuilt clauses IsFact Fails a → (IsDefined clauses a.name → ⊥) → IsFact a
  only_fact (of_fact h) no_call = h
  only_fact {a = a} (of_clause instance of_clauses head trees) no_call = absurd (no_call (head_is_defined clauses instance a of_clauses head))

  module _ (level : List ℕ → ℕ) (levels : AreLevels clauses level) where
    -- trees stay where all that fails below still fails
    module _ (Fails StillFails : Atom → Type 0) (n : ℕ) (same : (a : Atom) → IsBelow clauses level n a → Fails a → StillFails a) where
      mutual
        map_tree : {a : Atom} → Tree IsTrueBuilt clauses IsFact Fails a → (IsDefined clauses a.name → level a.name ≤ n) → Tree IsTrueBuilt clauses IsFact StillFails a
        map_tree (of_fact h) le = of_fact h
        map_tree {a} (of_clause instance of_clauses head trees) le =
            of_clause instance of_clauses head
            (map_trees trees (instance_under clauses level levels n instance a of_clauses head (le (head_is_defined clauses instance a of_clauses head))))

        map_trees : {conds : List Cond} → Trees IsTrueBuilt clauses IsFact Fails conds → AreUnder clauses level n conds → Trees IsTrueBuilt clauses IsFact StillFails conds
        map_trees done under = done
        map_trees (positive {l = l} is tree trees) under = positive is (map_tree tree (λ call. (under.0 call).no_higher)) (map_trees trees under.1)
        map_trees (negative {l = l} is fails trees) under = negative is (same l.atom (λ call. (under.0 call).lower is) fails) (map_trees trees under.1)
        map_trees (built is trees) under = built is (map_trees trees under.1)

    -- one level more than an atom needs changes nothing
    stable : (n : ℕ) (a : Atom) → IsBelow clauses level n a → IsTrueBelow IsTrueBuilt clauses IsFact n a ↔ IsTrueBelow IsTrueBuilt clauses IsFact (suc n) a
    stable zero a below = ((λ h. of_fact h), (λ tree. only_fact tree (λ call. let low = below call in absurd (omega (arith, low)))))
    stable (suc n) a below = (
      (λ tree. map_tree _ _ n (λ b less fails h. fails ((stable n b less).1 h)) tree (λ call. let low = below call in omega (arith, low))),
      (λ tree. map_tree _ _ n (λ b less fails h. fails ((stable n b less).0 h)) tree (λ call. let low = below call in omega (arith, low))),
    )

    -- any number of levels more changes nothing
    climb : (k n : ℕ) (a : Atom) → IsBelow clauses level n a → IsTrueBelow IsTrueBuilt clauses IsFact n a ↔ IsTrueBelow IsTrueBuilt clauses IsFact (k + n) a
    climb zero n a below =
        let same : n ≡ 0 + n = omega arith in
        ((λ h. subst (λ m. IsTrueBelow IsTrueBuilt clauses IsFact m a) same h), (λ h. subst (λ m. IsTrueBelow IsTrueBuilt clauses IsFact m a) (sym same) h))
    climb (suc k) n a below =
        let same : suc (k + n) ≡ suc k + n = omega arith in
        let rest = climb k n a below in
        let one = stable (k + n) a (λ call. let low = below call in omega (arith, low)) in (
          (λ h. subst (λ m. IsTrueBelow IsTrueBuilt clauses IsFact m a) same (one.0 (rest.0 h))),
          (λ h. rest.1 (one.1 (subst (λ m. IsTrueBelow IsTrueBuilt clauses IsFact m a) (sym same) h))),
        )

    -- truth at an atom's own level is truth below any number of levels that it needs
    pub at_level : (n : ℕ) (a : Atom) → IsBelow clauses level n a → IsDerived IsTrueBuilt clauses IsFact level a ↔ IsTrueBelow IsTrueBuilt clauses IsFact n a
    at_level n a below =
        let own : ℕ = suc (level a.name) in
        let same : n + own ≡ own + n = omega arith in
        let first = climb n own a (λ call. omega arith) in
        let second = climb own n a below in (
          (λ h. second.1 (subst (λ m. IsTrueBelow IsTrueBuilt clauses IsFact m a) same (first.0 h))),
          (λ h. first.1 (subst (λ m. IsTrueBelow IsTrueBuilt clauses IsFact m a) (sym same) (second.0 h))),
        )
