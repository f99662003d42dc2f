-- The fluents that hold in a run of an accepted and well-formed text are ground: initial facts have no variables, and what is
use Rattle.std.proofs.Common.{ℕ, ◌≡◌, Bool, true, false, List, [], ◌∷◌, length, map, refl, sym, ap, subst, ◌∙◌, zero, suc, inl, inr}
use Rattle.std.specs.Prelude.{IsTrue, nat_lt, nat_le, ◌&&◌, Contains, ◌||◌}
use Rattle.std.specs.List.{AllByRecursion, list_all}
use Rattle.std.proofs.lemmas.List.{length-map}
use Rattle.lps_terms.specs.declared.atom.Atom.{Atom}
use Rattle.lps_terms.specs.declared.body.Body.{Body}
use Rattle.lps_terms.specs.declared.body.Body.TheVariants as b
use Rattle.lps_terms.specs.declared.item.Item.TheVariants as i
use Rattle.lps_terms.specs.declared.statement.Statement.{Statement}
use Rattle.lps_terms.specs.declared.term.Term.{Term}
use Rattle.lps_terms.specs.declared.term.Term.TheVariants as t
use Rattle.lps_terms.specs.declared.text.Text.{Text}
use Rattle.lps_terms.specs.Forms.{term_ind}
use Rattle.lps_terms.specs.Names.{is_proper_name}
use Rattle.lps_terms.specs.Put.{put, put_atom, put-Int, put-Sym, put-App, put-Var}
use Rattle.lps_model.specs.declared.trace.Trace.{Trace}
use Rattle.lps_model.specs.Formed.{is_formed, is_formed_atom, is_formed_body, is_formed_statement, is_formed_term, is_formed-App, is_formed-Int, is_formed-Sym, is_formed_cond}
use Rattle.lps_model.specs.Program.{Law, initial_atoms, initial_in, law_in, laws}
use Rattle.lps_derivation.specs.Ground.{is_ground, is_ground-App, is_ground-Int, is_ground-Sym}
use Rattle.lps_model.proofs.Elements.{first_or_later, nothing_contained}
use Rattle.lps_meaning.specs.Reports.{IsGroundAtom}
use Rattle.lps_model.specs.Rules.{MacroClause, Rule}
use Rattle.lps_meaning.proofs.Lists.{both, of_element, of_flat}
-- initiated stands in an instance of a law.
use Rattle.lps_terms.specs.declared.body.Body.TheVariants as b
use Rattle.lps_terms.specs.declared.term.Term.TheVariants as t
use Rattle.lps_model.specs.Acceptance.{IsAccepted}
use Rattle.lps_model.specs.KindRefusals.{is_not_ground}
use Rattle.lps_model.specs.Run.{AreInitial}
use Rattle.lps_model.specs.Variables.{has_variable, have_variables, hold_variables, variable_in_app, variable_in_var}
use Rattle.lps_model.proofs.Stated.{flat_within, statement_ground}
use Rattle.lps_meaning.specs.Holds.{CausedIn, Holds, HoldsUpTo, Persists}
use Rattle.lps_meaning.proofs.Formed.{body_formed, statements_formed}

-- ---- terms and atoms

module _ (variables : ℕ) (s : ℕ → Term) (ground : (v : ℕ) → IsTrue (is_ground (s v))) where
  abbrev Grounds : Term → Type 0
  Grounds x = is_formed_term variables x ≡ true → is_ground (put s x) ≡ true

  all_grounds : (ts : List Term) → AllByRecursion Grounds ts → list_all (is_formed_term variables) ts ≡ true → list_all is_ground (map (put s) ts) ≡ true
  all_grounds [] each h = refl
  all_grounds (x ∷ ts) each h =
      let parts = both (is_formed_term variables x) (list_all (is_formed_term variables) ts) h in
      let one = each.0 parts.0 in
      let more = all_grounds ts each.1 parts.1 in λ i. one i && more i

  app_grounds : (n : List ℕ) (ts : List Term) → AllByRecursion Grounds ts → Grounds (t.App n ts)
  app_grounds n ts each h =
      let parts = both (is_proper_name n && nat_lt 0 (length ts) && nat_le (length ts) 64) (list_all (is_formed_term variables) ts) (sym (is_formed-App variables n ts) ∙ h) in
      let args = all_grounds ts each parts.1 in
      ap is_ground (put-App s n ts) ∙ is_ground-App n (map (put s) ts)
      ∙ ap (λ k. is_proper_name n && nat_lt 0 k && nat_le k 64 && list_all is_ground (map (put s) ts)) (length-map ts (put s))
      ∙ (λ i. parts.0 i && args i)

  grounds : (x : Term) → Grounds x
  grounds = term_ind Grounds
      (λ z h. ap is_ground (put-Int s z) ∙ is_ground-Int z ∙ sym (is_formed-Int variables z) ∙ h)
      (λ n h. ap is_ground (put-Sym s n) ∙ is_ground-Sym n ∙ sym (is_formed-Sym variables n) ∙ h)
      app_grounds
      (λ v h. ap is_ground (put-Var s v) ∙ ground v)

  every_grounds : (ts : List Term) → AllByRecursion Grounds ts
  every_grounds [] = tt
  every_grounds (x ∷ ts) = (grounds x, every_grounds ts)

  pub ground_atom : (a : Atom) → is_formed_atom variables a ≡ true → IsGroundAtom (put_atom s a)
  ground_atom a h =
      let parts = both (is_proper_name a.name && nat_le (length a.args) 64) (list_all (is_formed_term variables) a.args) h in
      ((both (is_proper_name a.name) (nat_le (length a.args) 64) parts.0).0, all_grounds a.args (every_grounds a.args) parts.1)

-- ---- initial facts

-- a well-formed term without a variable is ground
module _ (n : ℕ) where
  abbrev IsGroundWithout : Term → Type 0
  IsGroundWithout x = is_formed_term n x ≡ true → has_variable x ≡ false → is_ground x ≡ true

  none_here : (one rest : Bool) → (one || rest) ≡ false → (one ≡ false) × (rest ≡ false)
  none_here true rest h = absurd cc
  none_here false rest h = (refl, h)

  all_ground : (ts : List Term) → AllByRecursion IsGroundWithout ts → list_all (is_formed_term n) ts ≡ true → have_variables ts ≡ false → list_all is_ground ts ≡ true
  all_ground [] each h none = refl
  all_ground (x ∷ ts) each h none =
      let formed = both (is_formed_term n x) (list_all (is_formed_term n) ts) h in
      let without = none_here (has_variable x) (have_variables ts) none in
      let one = each.0 formed.0 without.0 in
      let more = all_ground ts each.1 formed.1 without.1 in λ i. one i && more i

  app_ground : (name : List ℕ) (ts : List Term) → AllByRecursion IsGroundWithout ts → IsGroundWithout (t.App name ts)
  app_ground name ts each h none =
      let parts = both (is_proper_name name && nat_lt 0 (length ts) && nat_le (length ts) 64) (list_all (is_formed_term n) ts) (sym (is_formed-App n name ts) ∙ h) in
      let args = all_ground ts each parts.1 (sym (variable_in_app name ts) ∙ none) in
      is_ground-App name ts ∙ (λ i. parts.0 i && args i)

  term_ground : (x : Term) → IsGroundWithout x
  term_ground = term_ind IsGroundWithout
      (λ z h none. is_ground-Int z ∙ sym (is_formed-Int n z) ∙ h)
      (λ name h none. is_ground-Sym name ∙ sym (is_formed-Sym n name) ∙ h)
      app_ground
      (λ v h none. let has = variable_in_var v in absurd cc)

  terms_ground : (ts : List Term) → AllByRecursion IsGroundWithout ts
  terms_ground [] = tt
  terms_ground (x ∷ ts) = (term_ground x, terms_ground ts)

  atom_ground : (a : Atom) → is_formed_atom n a ≡ true → have_variables a.args ≡ false → IsGroundAtom a
  atom_ground a h none =
      let parts = both (is_proper_name a.name && nat_le (length a.args) 64) (list_all (is_formed_term n) a.args) h in
      ((both (is_proper_name a.name) (nat_le (length a.args) 64) parts.0).0, all_ground a.args (terms_ground a.args) parts.1 none)

  among_ground : (atoms : List Atom) → list_all (is_formed_atom n) atoms ≡ true → hold_variables atoms ≡ false → (a : Atom) → Contains atoms a → IsGroundAtom a
  among_ground [] h none a at = absurd (nothing_contained a at)
  among_ground (x ∷ atoms) h none a at =
      let formed = both (is_formed_atom n x) (list_all (is_formed_atom n) atoms) h in
      let without = none_here (have_variables x.args) (hold_variables atoms) none in
      elim (first_or_later x atoms a at) [
        | inl same ↦ subst IsGroundAtom same (atom_ground x formed.0 without.0)
        | inr later ↦ among_ground atoms formed.1 without.1 a later
      ]

body_ground : (variables times : ℕ) (body : Body) → is_formed_body variables times body ≡ true → is_not_ground body ≡ false → (a : Atom) → Contains (initial_in body) a → IsGroundAtom a
body_ground variables times (b.Initially atoms) h none a at = among_ground variables atoms h none a at
body_ground variables times (b.Declare decls) h none a at = absurd (nothing_contained a at)
body_ground variables times (b.Denial items) h none a at = absurd (nothing_contained a at)
body_ground variables times (b.Rule antecedent alternatives) h none a at = absurd (nothing_contained a at)
body_ground variables times (b.Law initiates event fluent conds) h none a at = absurd (nothing_contained a at)
body_ground variables times (b.Clause head conds) h none a at = absurd (nothing_contained a at)
body_ground variables times (b.MacroClause head begin end items) h none a at = absurd (nothing_contained a at)

pub initial_ground : (text : Text) → IsAccepted text → IsTrue (is_formed text) → (a : Atom) → Contains (initial_atoms text) a → IsGroundAtom a
initial_ground text accepted formed a at =
    let found = flat_within (λ (s : Statement). initial_in s.body) text.statements a at in
    let s = found.one in
    let whole = of_element (λ (s : Statement). is_formed_statement s ≡ true) text.statements s (statements_formed text formed) found.among in
    body_ground (length s.names) (length s.times) s.body (body_formed s whole) (statement_ground text accepted s found.among) a found.within

-- ---- laws

-- the fluent of the law is well-formed under some variables
pub record HasFormedFluent (law : Law) : Type 0 where
  pub variables : ℕ
  pub formed : is_formed_atom variables law.fluent ≡ true

law_formed : (variables times : ℕ) (body : Body) → is_formed_body variables times body ≡ true → AllByRecursion HasFormedFluent (law_in body)
law_formed variables times (b.Law initiates event fluent conds) h =
    let heads = (both (is_formed_atom variables event && is_formed_atom variables fluent) (list_all (is_formed_cond variables) conds) h).0 in
    (record { variables = variables; formed = (both (is_formed_atom variables event) (is_formed_atom variables fluent) heads).1 }, tt)
law_formed variables times (b.Declare decls) h = tt
law_formed variables times (b.Initially atoms) h = tt
law_formed variables times (b.Denial items) h = tt
law_formed variables times (b.Rule antecedent alternatives) h = tt
law_formed variables times (b.Clause head conds) h = tt
law_formed variables times (b.MacroClause head begin end items) h = tt

module _ (text : Text) (formed : IsTrue (is_formed text)) where
  laws_formed : AllByRecursion HasFormedFluent (laws text)
  laws_formed =
      of_flat (λ s. is_formed_statement s ≡ true) HasFormedFluent (λ s. law_in s.body) (λ s h. law_formed (length s.names) (length s.times) s.body (body_formed s h))
      text.statements (statements_formed text formed)

  module _ (level : List ℕ → ℕ) (trace : Trace) where
    caused_ground : (Held : ℕ → Atom → Type 0) (j : ℕ) (fluent : Atom) → CausedIn text level trace Held true j fluent → IsGroundAtom fluent
    caused_ground Held zero fluent h = absurd h
    caused_ground Held (suc i) fluent h =
        let instance = h.of_text in
        let law = of_element HasFormedFluent (laws text) instance.law laws_formed instance.in_text in
        subst IsGroundAtom (sym (ap (λ (l : Law). l.fluent) instance.put_in) ∙ h.effect)
        (ground_atom law.variables instance.values instance.all_ground instance.law.fluent law.formed)

    module _ (accepted : IsAccepted text) (initial : AreInitial text trace.initial) where
      persists_ground : (Held : ℕ → Atom → Type 0) (i : ℕ) (fluent : Atom) → Persists text level trace Held i fluent → IsGroundAtom fluent
      persists_ground Held i fluent h =
          elim h.begins [
            | inl first ↦ initial_ground text accepted formed fluent ((initial.exact fluent).0 first.1)
            | inr caused ↦ caused_ground Held h.since fluent caused
          ]

      held_ground : (n i : ℕ) (fluent : Atom) → HoldsUpTo text level trace n i fluent → IsGroundAtom fluent
      held_ground zero i fluent h = persists_ground (λ j fluent. ⊥) i fluent h
      held_ground (suc n) i fluent h = persists_ground (HoldsUpTo text level trace n) i fluent h

      pub holds_ground : (i : ℕ) (fluent : Atom) → Holds text level trace i fluent → IsGroundAtom fluent
      holds_ground i fluent h = held_ground i i fluent h
