-- The facts of state 0: those that the text has initially, ground and fluents.
use Rattle.std.proofs.Common.{◌≡◌, Bool, true, false, cond, List, [], ◌∷◌, ◌++◌, refl, sym, ◌∙◌}
use Rattle.std.specs.Prelude.{IsTrue, Contains}
use Rattle.std.specs.List.{flat_map}
use Rattle.std.proofs.lemmas.Cmp.{eq_by_cmp_equiv}
use Rattle.std.proofs.lemmas.Map.Views.{list_any-from_Contains, Contains-from_any}
use Rattle.lps_terms.specs.declared.atom.Atom.{Atom}
use Rattle.lps_terms.specs.declared.statement.Statement.{Statement}
use Rattle.lps_terms.specs.declared.text.Text.{Text}
use Rattle.lps_terms.specs.OrderLaws.{atom_cmp_total, atom_eq-decides}
use Rattle.lps_model.specs.Acceptance.{IsAccepted}
use Rattle.lps_model.specs.Formed.{is_formed}
use Rattle.lps_model.specs.Program.{initial_atoms, initial_in}
use Rattle.lps_model.specs.Run.{AreInitial}
use Rattle.lps_meaning.proofs.GroundFacts.{initial_ground}
use Rattle.lps_facts.specs.Facts.{TrailedSet, is_among, members, with_fact, with_facts}
use Rattle.lps_facts.proofs.Sequences.{members_with_all}
use Rattle.lps_facts.proofs.Sets.{sorted_none}
use Rattle.lps_causal.specs.Names.{AreFluents}
use Rattle.lps_causal.proofs.Happening.{starts_with_fluents}
use Rattle.lps_causal.proofs.States.{sorted_with_all}

-- ---- what is put in

-- no facts
abbrev pub nothing : TrailedSet
nothing = record { base = []; changes = [] }

pub with_more : (xs ys : List Atom) (facts : TrailedSet) → with_facts true (xs ++ ys) facts ≡ with_facts true ys (with_facts true xs facts)
with_more [] ys facts = refl
with_more (x ∷ xs) ys facts = with_more xs ys (with_fact true x facts)

abbrev pub initial : List Statement → List Atom
initial statements = flat_map (λ (s : Statement). initial_in s.body) statements

-- ---- exactly these

pub among_contained : (atoms : List Atom) (q : Atom) → is_among atoms q ≡ true → Contains atoms q
among_contained atoms q h = Contains-from_any (λ x y. (atom_eq-decides x y).0) q atoms h

pub contained_among : (atoms : List Atom) (q : Atom) → Contains atoms q → is_among atoms q ≡ true
contained_among atoms q c = list_any-from_Contains (eq_by_cmp_equiv atom_cmp_total) q atoms c

kept : (t : Bool) → cond t true false ≡ true → t ≡ true
kept true h = refl
kept false h = h

keeps : (t : Bool) → t ≡ true → cond t true false ≡ true
keeps true h = refl
keeps false h = h

pub initial_exact : (text : Text) (facts : List Atom) → facts ≡ members (with_facts true (initial text.statements) nothing) → AreInitial text facts
initial_exact text facts is =
    let atoms = initial_atoms text in
    let all = members (with_facts true (initial text.statements) nothing) in
    let same : (q : Atom) → is_among all q ≡ cond (is_among atoms q) true false = members_with_all true atoms nothing in
    let exact : AreInitial text all = record {
      sorted = sorted_with_all true atoms nothing sorted_none;
      exact = λ q. (
        (λ c. among_contained atoms q (kept (is_among atoms q) (sym (same q) ∙ contained_among all q c))),
        (λ c. among_contained all q (same q ∙ keeps (is_among atoms q) (contained_among atoms q c))),
      );
    } in
    rw is exact

-- ---- fluents

pub initial_are_fluents : (text : Text) → IsAccepted text → IsTrue (is_formed text) → (facts : List Atom) → AreInitial text facts → AreFluents text facts
initial_are_fluents text accepted formed facts initial = record {
  each = λ a among. record {
    ground = (initial_ground text accepted formed a ((initial.exact a).0 among)).1;
    kind = starts_with_fluents text accepted facts initial a among;
  };
}
