-- Truth meets one equation, and does not depend on which levels are taken.
use Rattle.std.proofs.Common.{ℕ, zero, suc, Bool, true, false, ◌≡◌, ◌≤◌, ◌↔◌, List, [], ◌∷◌, refl, sym, subst, arith, inl, inr}
use Rattle.std.specs.Prelude.{◌⊎◌}
use Rattle.std.specs.List.{AllByRecursion}
use Rattle.lps_terms.specs.declared.atom.Atom.{Atom}
use Rattle.lps_terms.specs.declared.built.Built.{Built}
use Rattle.lps_terms.specs.declared.cond.Cond.{Cond}
use Rattle.lps_terms.specs.declared.cond.Cond.TheVariants as c
use Rattle.lps_terms.specs.declared.lit.Lit.{Lit}
use Rattle.lps_model.specs.Clauses.{Clause}
use Rattle.lps_derivation.specs.Levels.{IsDefined, AreLevels}
use Rattle.lps_derivation.specs.Derivation.{Agrees, Tree, Trees, of_fact, of_clause, done, positive, negative, built, IsTrueBelow, IsDerived, IsMet, Follows}
use Rattle.lps_derivation.proofs.Instances.{head_is_defined}
use Rattle.lps_derivation.proofs.Trees.{CallIsUnder, AreUnder, IsBelow, instance_under, only_fact, at_level}

module _ (IsTrueBuilt : Built → Type 0) (clauses : List Clause) (IsFact : Atom → Type 0) where
  -- the conditions are met by what is derived
  abbrev AreMet : (List ℕ → ℕ) → List Cond → Type 0
  AreMet level conds = AllByRecursion (IsMet IsTrueBuilt (IsDerived IsTrueBuilt clauses IsFact level)) conds

  -- what fails at the levels below n
  abbrev FailsBelow : ℕ → Atom → Type 0
  FailsBelow n a = IsTrueBelow IsTrueBuilt clauses IsFact n a → ⊥

  met_literal : (level : List ℕ → ℕ) (l : Lit) (is : Bool) → l.negated ≡ is → Agrees is (IsDerived IsTrueBuilt clauses IsFact level l.atom) → Agrees l.negated (IsDerived IsTrueBuilt clauses IsFact level l.atom)
  met_literal level l is same agrees = subst (λ b. Agrees b (IsDerived IsTrueBuilt clauses IsFact level l.atom)) (sym same) agrees

  module _ (level : List ℕ → ℕ) (levels : AreLevels clauses level) where
    met_of : (n : ℕ) {conds : List Cond} → Trees IsTrueBuilt clauses IsFact (FailsBelow n) conds → AreUnder clauses level n conds → AreMet level conds
    met_of n done under = tt
    met_of n (positive {l = l} is tree trees) under = (
      met_literal level l false is ((at_level IsTrueBuilt clauses IsFact level levels (suc n) l.atom (λ call. let low = (under.0 call).no_higher in omega (arith, low))).1 tree),
      met_of n trees under.1,
    )
    met_of n (negative {l = l} is fails trees) under = (
      met_literal level l true is (λ h. fails ((at_level IsTrueBuilt clauses IsFact level levels n l.atom (λ call. (under.0 call).lower is)).0 h)),
      met_of n trees under.1,
    )
    met_of n (built is trees) under = (is, met_of n trees under.1)

    with_literal : (n : ℕ) (l : Lit) (conds : List Cond) (is : Bool) → l.negated ≡ is → CallIsUnder clauses level n l → Agrees is (IsDerived IsTrueBuilt clauses IsFact level l.atom) →
        Trees IsTrueBuilt clauses IsFact (FailsBelow n) conds → Trees IsTrueBuilt clauses IsFact (FailsBelow n) (c.Lit l ∷ conds)
    with_literal n l conds false is under h trees =
        positive is ((at_level IsTrueBuilt clauses IsFact level levels (suc n) l.atom (λ call. let low = (under call).no_higher in omega (arith, low))).0 h) trees
    with_literal n l conds true is under fails trees =
        negative is (λ h. fails ((at_level IsTrueBuilt clauses IsFact level levels n l.atom (λ call. (under call).lower is)).1 h)) trees

    trees_of : (n : ℕ) (conds : List Cond) → AreMet level conds → AreUnder clauses level n conds → Trees IsTrueBuilt clauses IsFact (FailsBelow n) conds
    trees_of n [] met under = done
    trees_of n (c.Lit l ∷ conds) met under = with_literal n l conds l.negated refl under.0 met.0 (trees_of n conds met.1 under.1)
    trees_of n (c.Built b ∷ conds) met under = built met.0 (trees_of n conds met.1 under.1)

    splits : {a : Atom} → Tree IsTrueBuilt clauses IsFact (FailsBelow (level a.name)) a → IsFact a ⊎ Follows IsTrueBuilt (IsDerived IsTrueBuilt clauses IsFact level) clauses a
    splits (of_fact h) = inl h
    splits {a} (of_clause instance of_clauses head trees) =
        let n : ℕ = level a.name in
        inr record {
          instance = instance;
          of_clauses = of_clauses;
          head = head;
          met = met_of n trees (instance_under clauses level levels n instance a of_clauses head (omega arith));
        }

    pub follows : (a : Atom) → Follows IsTrueBuilt (IsDerived IsTrueBuilt clauses IsFact level) clauses a → IsDerived IsTrueBuilt clauses IsFact level a
    follows a f =
        let n : ℕ = level a.name in
        of_clause f.instance f.of_clauses f.head (trees_of n f.instance.conds f.met (instance_under clauses level levels n f.instance a f.of_clauses f.head (omega arith)))

    joins : (a : Atom) → IsFact a ⊎ Follows IsTrueBuilt (IsDerived IsTrueBuilt clauses IsFact level) clauses a → IsDerived IsTrueBuilt clauses IsFact level a
    joins a (inl h) = of_fact h
    joins a (inr f) = follows a f

    -- truth is by facts and by clauses
    pub equation : (a : Atom) → IsDerived IsTrueBuilt clauses IsFact level a ↔ (IsFact a ⊎ Follows IsTrueBuilt (IsDerived IsTrueBuilt clauses IsFact level) clauses a)
    equation a = ((λ tree. splits tree), (λ h. joins a h))

  -- Trees by the levels `from` are trees by the levels `to`, where that is known the other way round for the atoms that a third
  -- assignment of levels, `key`, has below n.
  module _ (from to key : List ℕ → ℕ) (from_levels : AreLevels clauses from) (to_levels : AreLevels clauses to) (key_levels : AreLevels clauses key) (n m : ℕ)
      (back : (a : Atom) → IsBelow clauses key n a → IsDerived IsTrueBuilt clauses IsFact to a → IsDerived IsTrueBuilt clauses IsFact from a) where
    mutual
      carry : {a : Atom} → Tree IsTrueBuilt clauses IsFact (FailsBelow m) a → (IsDefined clauses a.name → from a.name ≤ m) → (IsDefined clauses a.name → key a.name ≤ n) → IsDerived IsTrueBuilt clauses IsFact to a
      carry (of_fact h) here low = of_fact h
      carry {a} (of_clause instance of_clauses head trees) here low =
          let call = head_is_defined clauses instance a of_clauses head in
          let met = carry_all trees (instance_under clauses from from_levels m instance a of_clauses head (here call)) (instance_under clauses key key_levels n instance a of_clauses head (low call)) in
          follows to to_levels a record { instance = instance; of_clauses = of_clauses; head = head; met = met }

      carry_all : {conds : List Cond} → Trees IsTrueBuilt clauses IsFact (FailsBelow m) conds → AreUnder clauses from m conds → AreUnder clauses key n conds → AreMet to conds
      carry_all done here low = tt
      carry_all (positive {l = l} is tree trees) here low =
          (met_literal to l false is (carry tree (λ call. (here.0 call).no_higher) (λ call. (low.0 call).no_higher)), carry_all trees here.1 low.1)
      carry_all (negative {l = l} is fails trees) here low = (
        met_literal to l true is (λ h. fails ((at_level IsTrueBuilt clauses IsFact from from_levels m l.atom (λ call. (here.0 call).lower is)).0 (back l.atom (λ call. (low.0 call).lower is) h))),
        carry_all trees here.1 low.1,
      )
      carry_all (built is trees) here low = (is, carry_all trees here.1 low.1)

  module _ (level other : List ℕ → ℕ) (levels : AreLevels clauses level) (others : AreLevels clauses other) where
    -- for the atoms below n
    same_below : (n : ℕ) (a : Atom) → IsBelow clauses level n a → IsDerived IsTrueBuilt clauses IsFact level a ↔ IsDerived IsTrueBuilt clauses IsFact other a
    same_below zero a below =
        let no_call : IsDefined clauses a.name → ⊥ = λ call. (let low = below call in omega (arith, low)) in
        ((λ tree. of_fact (only_fact IsTrueBuilt clauses IsFact tree no_call)), (λ tree. of_fact (only_fact IsTrueBuilt clauses IsFact tree no_call)))
    same_below (suc n) a below =
        let low : IsDefined clauses a.name → level a.name ≤ n = λ call. (let less = below call in omega (arith, less)) in (
          (λ tree. carry level other level levels others levels n (level a.name) (λ b less h. (same_below n b less).1 h) tree (λ call. omega arith) low),
          (λ tree. carry other level level others levels levels n (other a.name) (λ b less h. (same_below n b less).0 h) tree (λ call. omega arith) low),
        )

    -- truth by one assignment of levels is truth by the other
    pub same_truth : (a : Atom) → IsDerived IsTrueBuilt clauses IsFact level a ↔ IsDerived IsTrueBuilt clauses IsFact other a
    same_truth a = same_below (suc (level a.name)) a (λ call. omega arith)
