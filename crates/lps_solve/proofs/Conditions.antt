-- Conditions into which bindings were put, and how they are met.
use Rattle.std.proofs.Common.{ℕ, ◌≡◌, ◌+◌, List, [], map, refl, sym, ap, ◌∙◌, subst}
use Rattle.std.specs.Prelude.{Option, Some, None, MatchOption}
use Rattle.std.specs.List.{AllByRecursion}
use Rattle.lps_terms.specs.declared.atom.Atom.{Atom}
use Rattle.lps_terms.specs.declared.built.Built.{Built}
use Rattle.lps_terms.specs.declared.cond.Cond.{Cond}
use Rattle.lps_terms.specs.declared.cond.Cond.TheVariants as c
use Rattle.lps_terms.specs.declared.lit.Lit.{Lit}
use Rattle.lps_terms.specs.declared.term.Term.{Term}
use Rattle.lps_terms.specs.Put.{put}
use Rattle.lps_model.specs.VariableLists.{cond_vars}
use Rattle.lps_model.specs.Clauses.{Clause}
use Rattle.lps_derivation.specs.Instances.{IsSmallCond, put_cond}
use Rattle.lps_unify.specs.Bindings.{TrailedBindings, standing, count_of, IsLawful}
use Rattle.lps_unify.specs.Unified.{AreWithin}
use Rattle.lps_unify.proofs.Standings.{solves_itself}
use Rattle.lps_solve.specs.declared.ways.Ways.{Ways}
use Rattle.lps_solve.specs.Met.{MeetsBuilt, MeetsBy}
use Rattle.lps_solve.specs.Placed.{AreBelow, values_in}
use Rattle.lps_solve.proofs.Meeting.{built_on, never_on, same_on}
use Rattle.lps_solve.proofs.Placing.{never_small, placed_cond}
use Rattle.lps_solve.proofs.Vars.{IsBelow, are_within, put_cond_vars, values_below}

-- the arguments of a literal
abbrev args_in : Cond → List Term
args_in (c.Lit l) = l.atom.args
args_in (c.Built x) = []

module _ (b : TrailedBindings) (lawful : IsLawful b) (base : ℕ) (cond placed : Cond) (is : placed ≡ put_cond (values_in b base) cond) where
  -- the variables are those of the bindings
  placed_below : AreBelow (count_of b) base (cond_vars cond) → AllByRecursion (IsBelow (count_of b)) (cond_vars placed)
  placed_below h =
      subst (λ (k : Cond). AllByRecursion (IsBelow (count_of b)) (cond_vars k)) (sym is)
      (put_cond_vars (IsBelow (count_of b)) (values_in b base) cond (values_below b lawful base (cond_vars cond) h))

  -- the bindings put in again change nothing
  again : put_cond (standing b).value placed ≡ placed
  again = ap (put_cond (standing b).value) is ∙ placed_cond b lawful base (standing b).value (solves_itself b lawful) cond ∙ sym is

  module _ (lit : Lit) (e : placed ≡ c.Lit lit) where
    pub lit_within : AreBelow (count_of b) base (cond_vars cond) → AreWithin (count_of b) lit.atom.args
    lit_within h = are_within (count_of b) lit.atom.args (subst (λ (k : Cond). AllByRecursion (IsBelow (count_of b)) (cond_vars k)) e (placed_below h))

    pub lit_resolved : map (put (standing b).value) lit.atom.args ≡ lit.atom.args
    lit_resolved = ap args_in (sym (ap (put_cond (standing b).value) e) ∙ again ∙ e)

  module _ (program : List Clause) (facts : List Atom) (ways : Ways) where
    pub placed_meets : MeetsBy program facts b (λ s. put_cond s placed) ways → MeetsBy program facts b (λ s. put_cond (λ v. s (base + v)) cond) ways
    placed_meets h = record {
      within = h.within;
      meets = λ level levels. same_on program facts level b (λ s. put_cond s placed) (λ s. put_cond (λ v. s (base + v)) cond) ways
          (λ s solves. ap (put_cond s) is ∙ placed_cond b lawful base s solves cond) (h.meets level levels);
    }

    pub built_meets : (built : Built) → placed ≡ c.Built built → AreBelow (count_of b) base (cond_vars cond) → MeetsBuilt built ways → MeetsBy program facts b (λ s. put_cond (λ v. s (base + v)) cond) ways
    built_meets built e below h = placed_meets (subst (λ (k : Cond). MeetsBy program facts b (λ s. put_cond s k) ways) (sym e) record {
      within = are_within (count_of b) ways.terms (h.within (count_of b) (subst (λ (k : Cond). AllByRecursion (IsBelow (count_of b)) (cond_vars k)) e (placed_below below)));
      meets = λ level levels. built_on program facts level b built ways h;
    })

-- a condition that is too large is not met
pub never_meets : (program : List Clause) (facts : List Atom) (b : TrailedBindings) (lawful : IsLawful b) (base : ℕ) (cond : Cond) (ways : Ways) → (IsSmallCond (put_cond (values_in b base) cond) → ⊥) → ways.terms ≡ [] → ways.rows ≡ [] →
    MeetsBy program facts b (λ s. put_cond (λ v. s (base + v)) cond) ways
never_meets program facts b lawful base cond ways never et er = record {
  within = subst (AreWithin (count_of b)) (sym et) refl;
  meets = λ level levels. never_on program facts level b (λ s. put_cond (λ v. s (base + v)) cond) ways (λ s solves m. never_small b lawful base s solves cond never m.small) er;
}

-- what placing a condition gives
pub placed_some : (b : TrailedBindings) (base : ℕ) (cond : Cond) (o : Option Cond) (x : Cond) → o ≡ Some x →
    MatchOption o (IsSmallCond (put_cond (values_in b base) cond) → ⊥) (λ y. (y ≡ put_cond (values_in b base) cond) × IsSmallCond y) → (x ≡ put_cond (values_in b base) cond) × IsSmallCond x
placed_some b base cond o x e h = subst (λ z. MatchOption z (IsSmallCond (put_cond (values_in b base) cond) → ⊥) (λ y. (y ≡ put_cond (values_in b base) cond) × IsSmallCond y)) e h

pub placed_none : (b : TrailedBindings) (base : ℕ) (cond : Cond) (o : Option Cond) → o ≡ None →
    MatchOption o (IsSmallCond (put_cond (values_in b base) cond) → ⊥) (λ y. (y ≡ put_cond (values_in b base) cond) × IsSmallCond y) → IsSmallCond (put_cond (values_in b base) cond) → ⊥
placed_none b base cond o e h = subst (λ z. MatchOption z (IsSmallCond (put_cond (values_in b base) cond) → ⊥) (λ y. (y ≡ put_cond (values_in b base) cond) × IsSmallCond y)) e h
