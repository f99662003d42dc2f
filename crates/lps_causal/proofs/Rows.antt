-- The instances of the conditions of a law, once its event is bound to an event, tell exactly what the law gives for the event.
use Rattle.std.proofs.Common.{ℕ, Bool, ◌≡◌, ◌+◌, ◌≤◌, ◌<◌, arith, List, [], ◌∷◌, map, sym, ap, ◌∙◌, subst}
use Rattle.std.specs.Prelude.{◌↔◌, IsTrue, Contains, min}
use Rattle.lps_terms.specs.declared.atom.Atom.{Atom}
use Rattle.lps_terms.specs.declared.cond.Cond.{Cond}
use Rattle.lps_terms.specs.declared.term.Term.{Term}
use Rattle.lps_terms.specs.declared.values.Values.{Values}
use Rattle.lps_terms.specs.Put.{put}
use Rattle.lps_terms.specs.Symbols.{atom_symbols_of, symbols_of_all}
use Rattle.lps_model.specs.Clauses.{Clause}
use Rattle.lps_model.specs.Program.{Law}
use Rattle.lps_model.proofs.Elements.{nothing_contained}
use Rattle.lps_derivation.specs.Ground.{is_ground}
use Rattle.lps_unify.specs.Bindings.{TrailedBindings}
use Rattle.lps_solve.specs.Answers.{IsInstanceFor}
use Rattle.lps_solve.specs.Found.{atom_of}
use Rattle.lps_solve.specs.Met.{AreGround, AreMet, IsMetCond}
use Rattle.lps_solve.proofs.Grounds.{settled, settled_ground, settles_cond, settles_list}
use Rattle.lps_solve.proofs.Sizes.{each_small}
use Rattle.lps_causal.specs.Given.{Gives, GivesAs, IsOfRowAs}
use Rattle.lps_causal.proofs.Binding.{AreSolved}

-- arguments for which there is room are those of a small atom
in_room : (most : ℕ) (x : List Term) → 1023 < most → min (symbols_of_all x) most ≤ 1023 → 1 + symbols_of_all x ≤ 1024
in_room most x large h = omega (arith, large, h)

has_room : (most : ℕ) (x : List Term) → 1 + symbols_of_all x ≤ 1024 → min (symbols_of_all x) most ≤ 1023
has_room most x h = omega (arith, h)

module _ (program : List Clause) (facts : List Atom) (level : List ℕ → ℕ) (law : Law) (event : Atom) (ground : AreGround event.args) (named : law.event.name ≡ event.name) (small : atom_symbols_of event ≤ 1024)
    (b : TrailedBindings) (solved : AreSolved b law.event.args event.args) (most : ℕ) (large : 1023 < most) where
  abbrev GivesRow : List Term → Type 0
  GivesRow x = Gives program facts level law event (atom_of law.fluent.name x)

  settled_met : (s : ℕ → Term) (ks : List Cond) → AreMet program facts level s ks → AreMet program facts level (settled s) ks
  settled_met s [] met = tt
  settled_met s (k ∷ ks) met = (subst (IsMetCond program facts level) (sym (settles_cond s k met.0.ground)) met.0, settled_met s ks met.1)

  -- ground terms that make the wanted terms x make them so once what is not ground is settled
  same_row : (s : ℕ → Term) (wanted x : List Term) → x ≡ map (put s) wanted → AreGround x → map (put (settled s)) wanted ≡ x
  same_row s wanted x is h = settles_list s wanted (subst AreGround is h) ∙ sym is

  row_gives : (x : List Term) → IsInstanceFor program facts level most 1023 b law.conds law.fluent.args x → GivesRow x
  row_gives x h = record {
    values = settled h.values;
    all_ground = settled_ground h.values;
    same_event = λ i. record { name = named i; args = same_row h.values law.event.args event.args (sym ((solved h.values).0 h.solve)) ground i };
    met = settled_met h.values law.conds h.met;
    effect = λ i. record { name = law.fluent.name; args = same_row h.values law.fluent.args x h.is h.fits.ground i };
    small_event = small;
    small_fluent = in_room most x large h.fits.all;
  }

  module _ (written : (s : ℕ → Term) → ((v : ℕ) → IsTrue (is_ground (s v))) → AreGround (map (put s) law.fluent.args)) where
    gives_row : (x : List Term) → GivesRow x → IsInstanceFor program facts level most 1023 b law.conds law.fluent.args x
    gives_row x h =
        let args : map (put h.values) law.fluent.args ≡ x = ap (λ (a : Atom). a.args) h.effect in
        let few : 1 + symbols_of_all x ≤ 1024 = h.small_fluent in
        record {
          values = h.values;
          solve = (solved h.values).1 (ap (λ (a : Atom). a.args) h.same_event);
          met = h.met;
          is = sym args;
          fits = record {
            ground = subst AreGround args (written h.values h.all_ground);
            each = each_small 1024 x (omega (arith, few));
            all = has_room most x few;
          };
        }

    -- exactly the instances are given
    pub rows_give : (rows : List (List Term)) → ((x : List Term) → Contains rows x ↔ IsInstanceFor program facts level most 1023 b law.conds law.fluent.args x) → (x : List Term) → Contains rows x ↔ GivesRow x
    rows_give rows found x = ((λ h. row_gives x ((found x).0 h)), (λ h. (found x).1 (gives_row x h)))

-- a law gives nothing for an event that is no instance of its own
pub gives_none : (program : List Clause) (facts : List Atom) (level : List ℕ → ℕ) (law : Law) (event : Atom) → ((s : ℕ → Term) → map (put s) law.event.args ≡ event.args → ⊥) →
    (rows : List Values) → rows ≡ [] → (x : List Term) → Contains (map (λ (v : Values). v.0) rows) x ↔ Gives program facts level law event (atom_of law.fluent.name x)
gives_none program facts level law event never rows none x = (
  λ h. absurd (nothing_contained x (subst (λ (vs : List Values). Contains (map (λ (v : Values). v.0) vs) x) none h)),
  λ h. absurd (never h.values (ap (λ (a : Atom). a.args) h.same_event)),
)

-- the fluents of the rows are those that the law gives
pub fluents_given : (program : List Clause) (facts : List Atom) (level : List ℕ → ℕ) (law : Law) (event : Atom) (rows : List (List Term)) →
    ((x : List Term) → Contains rows x ↔ Gives program facts level law event (atom_of law.fluent.name x)) → (initiates : Bool) (a : Atom) →
    IsOfRowAs law.initiates law.fluent.name rows initiates a ↔ GivesAs program facts level event initiates law a
fluents_given program facts level law event rows found initiates a = (
  λ h. (h.0, subst (Gives program facts level law event) (λ i. record { name = sym h.1 i; args = a.args }) ((found a.args).0 h.2)),
  λ h.
      let named : law.fluent.name ≡ a.name = ap (λ (fluent : Atom). fluent.name) h.1.effect in
      (h.0, sym named, (found a.args).1 (subst (Gives program facts level law event) (λ i. record { name = sym named i; args = a.args }) h.1)),
)
