-- Small texts of laws alone: what is initiated and terminated at once holds, and conditions are read in the state before.
use Rattle.std.proofs.Common.{ℕ, Bool, true, false, ◌≡◌, List, [], ◌∷◌, refl, sym, ap, subst, ◌∙◌, arith, inl, inr}
use Rattle.std.specs.Prelude.{Contains, codes}
use Rattle.lps_terms.specs.declared.atom.Atom.{Atom}
use Rattle.lps_terms.specs.declared.cond.Cond.TheVariants as d
use Rattle.lps_terms.specs.declared.text.Text.{Text}
use Rattle.lps_terms.specs.Symbols.{atom_symbols_of, symbols_of_all}
use Rattle.lps_derivation.specs.Derivation.{of_fact, of_clause}
use Rattle.lps_model.specs.Clauses.{clauses}
use Rattle.lps_derivation.specs.Instances.{IsSmall}
use Rattle.lps_model.specs.declared.trace.Trace.{Trace}
use Rattle.lps_model.specs.Program.{Law, laws}
use Rattle.lps_model.proofs.Elements.{first_or_later, nothing_contained, first_is_contained}
use Rattle.lps_examples.specs.Examples.{nullary, event_e, event_f, fluent_p, fluent_q, wins_text, wins_trace, old_state_text, old_state_trace}
use Rattle.lps_meaning.specs.Holds.{IsLawInstance, IsTrueAt, Causes, Holds, Initiated, Terminated}
use Rattle.lps_examples.proofs.ExampleWalks.{other_letter, only_one, constants, constants_ground}
use Rattle.lps_meaning.proofs.Persistence.{start_law, update_law}

-- in a text without clauses what is true are the fluents that hold
pub true_is_held : (text : Text) (level : List ℕ → ℕ) (trace : Trace) (i : ℕ) (a : Atom) → clauses text ≡ [] → IsTrueAt text level trace i a → Holds text level trace i a
true_is_held text level trace i a none (of_fact held) = held
true_is_held text level trace i a none (of_clause instance is_instance head trees) =
    absurd (nothing_contained is_instance.clause (subst (λ ks. Contains ks is_instance.clause) none is_instance.among))

-- a constant is small
pub small_nullary : (name : List ℕ) → IsSmall (atom_symbols_of (nullary name))
small_nullary name = let none : symbols_of_all [] ≡ 0 = refl in omega (arith, none)

-- a law between constants, without conditions or with some that are small
abbrev pub law_of : Bool → List ℕ → List ℕ → Law
law_of initiates event fluent = record { initiates = initiates; event = nullary event; fluent = nullary fluent; conds = [] }

-- such a law without conditions is its own instance
pub own_instance : (text : Text) (initiates : Bool) (event fluent : List ℕ) → Contains (laws text) (law_of initiates event fluent) →
    IsLawInstance text (law_of initiates event fluent)
own_instance text initiates event fluent among = record {
  law = law_of initiates event fluent;
  in_text = among;
  values = constants 0;
  all_ground = constants_ground 0;
  put_in = refl;
  small_event = small_nullary event;
  small_fluent = small_nullary fluent;
  small_conds = tt;
}

-- what a law without conditions causes
pub caused : (text : Text) (level : List ℕ → ℕ) (initiates : Bool) (Held : Atom → Type 0) (events : List Atom) (event fluent : List ℕ) →
    Contains (laws text) (law_of initiates event fluent) → Contains events (nullary event) → Causes text level initiates Held events (nullary fluent)
caused text level initiates Held events event fluent among happens = record {
  instance = law_of initiates event fluent;
  of_text = own_instance text initiates event fluent among;
  kind = refl;
  event = happens;
  conds = tt;
  effect = refl;
}

pub true_false : {b : Bool} → b ≡ true → b ≡ false → ⊥
true_false p q = cc

module _ (level : List ℕ → ℕ) where
  pub initiation_wins : Terminated wins_text level wins_trace 1 fluent_p × Holds wins_text level wins_trace 1 fluent_p
  initiation_wins = (
    caused wins_text level false (Holds wins_text level wins_trace 0) (event_e ∷ []) (codes "e") (codes "p") (1, omega arith, refl) (0, omega arith, refl),
    (update_law wins_text level wins_trace fluent_p 0).1 (inl (caused wins_text level true (Holds wins_text level wins_trace 0) (event_e ∷ []) (codes "e") (codes "p")
        (0, omega arith, refl) (0, omega arith, refl))),
  )

  abbrev law_of_q : Law
  law_of_q = record { initiates = true; event = event_f; fluent = fluent_q; conds = d.Lit (record { negated = false; atom = fluent_p }) ∷ [] }

  p_at_start : Holds old_state_text level old_state_trace 0 fluent_p
  p_at_start = (start_law old_state_text level old_state_trace fluent_p).1 (first_is_contained fluent_p [])

  q_begins : Initiated old_state_text level old_state_trace 1 fluent_q
  q_begins = record {
    instance = law_of_q;
    of_text = record {
      law = law_of_q;
      in_text = (1, omega arith, refl);
      values = constants 0;
      all_ground = constants_ground 0;
      put_in = refl;
      small_event = small_nullary (codes "f");
      small_fluent = small_nullary (codes "q");
      small_conds = (small_nullary (codes "p"), tt);
    };
    kind = refl;
    event = (1, omega arith, refl);
    conds = (of_fact p_at_start, tt);
    effect = refl;
  }

  p_begins_not : Initiated old_state_text level old_state_trace 1 fluent_p → ⊥
  p_begins_not h =
      elim (first_or_later _ (law_of_q ∷ []) h.of_text.law h.of_text.in_text) [
        | inl e ↦ true_false h.kind (ap (λ l. l.initiates) h.of_text.put_in ∙ sym (ap (λ l. l.initiates) e))
        | inr later ↦
            let fluent : h.of_text.law.fluent.name ≡ codes "q" = sym (ap (λ l. l.fluent.name) (only_one law_of_q h.of_text.law later)) in
            let name : h.instance.fluent.name ≡ codes "q" = ap (λ l. l.fluent.name) h.of_text.put_in ∙ fluent in
            let other : h.instance.fluent.name ≡ codes "p" = ap (λ a. a.name) h.effect in
            other_letter fluent_q fluent_p 113 112 refl refl (λ e. omega (arith, e)) (ap nullary (sym name ∙ other))
      ]

  pub old_state : Holds old_state_text level old_state_trace 1 fluent_q × (Holds old_state_text level old_state_trace 1 fluent_p → ⊥)
  old_state = (
    (update_law old_state_text level old_state_trace fluent_q 0).1 (inl q_begins),
    λ h. elim ((update_law old_state_text level old_state_trace fluent_p 0).0 h) [
      | inl begins ↦ p_begins_not begins
      | inr held ↦ held.1 (
        caused old_state_text level false (Holds old_state_text level old_state_trace 0) (event_e ∷ event_f ∷ []) (codes "e") (codes "p") (0, omega arith, refl) (0, omega arith, refl),
        p_begins_not,
      )
    ],
  )
