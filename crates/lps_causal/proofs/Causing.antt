-- What the laws give for some events is what the events cause, and the index finds each law that gives something.
use Rattle.std.proofs.Common.{ℕ, Bool, true, false, ◌≡◌, ◌<◌, arith, List, [], ◌∷◌, map, length, refl, sym, ap, ◌∙◌, subst, inl, inr}
use Rattle.std.specs.Prelude.{◌↔◌, ◌&&◌, ◌||◌, IsTrue, Contains, Some, nat_le, slice_get}
use Rattle.std.specs.List.{AllByRecursion, list_all}
use Rattle.std.proofs.lemmas.List.Elements.{Contains-get_or}
use Rattle.std.proofs.lemmas.Option.{slice_get-get_or, slice_get_cases, get_or_from_slice_get}
use Rattle.lps_terms.specs.declared.atom.Atom.{Atom}
use Rattle.lps_terms.specs.declared.cond.Cond.{Cond}
use Rattle.lps_terms.specs.declared.statement.Statement.{Statement}
use Rattle.lps_terms.specs.declared.term.Term.{Term}
use Rattle.lps_terms.specs.declared.text.Text.{Text}
use Rattle.lps_terms.specs.Put.{put, put_atom}
use Rattle.lps_terms.specs.Symbols.{atom_symbols_of}
use Rattle.lps_values.specs.Truth.{is_true}
use Rattle.lps_model.specs.Acceptance.{IsAccepted}
use Rattle.lps_model.specs.Formed.{is_formed, is_formed_atom, is_formed_body, is_formed_cond, is_formed_statement}
use Rattle.lps_model.specs.Program.{Law, laws}
use Rattle.lps_model.proofs.Elements.{first_or_later, nothing_contained}
use Rattle.lps_model.specs.Clauses.{Clause, clauses}
use Rattle.lps_derivation.specs.Derivation.{IsMet}
use Rattle.lps_derivation.specs.Ground.{is_ground}
use Rattle.lps_derivation.specs.Instances.{IsSmall, IsSmallCond, put_cond}
use Rattle.lps_derivation.specs.Laws.{Passes}
use Rattle.lps_meaning.specs.Holds.{Causes, IsTrueOver, put_law}
use Rattle.lps_index.specs.Matching.{may_match}
use Rattle.lps_index.specs.Spoken.{AreFound, IsFound, of_law}
use Rattle.lps_solve.specs.Answers.{IsWritten}
use Rattle.lps_solve.specs.Met.{AreGround, AreMet, IsGroundCond}
use Rattle.lps_solve.proofs.Formed.{clause_is_written}
use Rattle.lps_solve.proofs.Gaining.{default_free}
use Rattle.lps_solve.proofs.Grounds.{first_of_two, list_stays, second_of}
use Rattle.lps_solve.proofs.Matching.{instances_match, matching_named}
use Rattle.lps_causal.specs.Given.{ByOne, GivesAs}
use Rattle.lps_causal.specs.Laws.{law_at, no_law}
use Rattle.lps_causal.specs.Names.{IsFluent}
use Rattle.lps_causal.proofs.Happening.{caused_is_fluent}
use Rattle.lps_causal.proofs.Placed.{law_stated}

-- ---- laws of a well-formed text

-- with ground terms in the places of its variables the conditions and the fluent of a law are ground
pub record IsWrittenLaw (law : Law) : Type 0 where
  pub conds : (s : ℕ → Term) → ((v : ℕ) → IsTrue (is_ground (s v))) → AllByRecursion IsGroundCond (map (put_cond s) law.conds)
  pub fluent : (s : ℕ → Term) → ((v : ℕ) → IsTrue (is_ground (s v))) → AreGround (map (put s) law.fluent.args)

both_true : (p q : Bool) → p ≡ true → q ≡ true → (p && q) ≡ true
both_true true q h k = k
both_true false q h k = absurd (cc)

holds_at : {X : Type 0} (test : X → Bool) (xs : List X) (x : X) → list_all test xs ≡ true → Contains xs x → test x ≡ true
holds_at test [] x h at = absurd (nothing_contained x at)
holds_at test (y ∷ ys) x h at =
    elim (first_or_later y ys x at) [
      | inl same ↦ subst (λ z. test z ≡ true) same (first_of_two (test y) (list_all test ys) h)
      | inr later ↦ holds_at test ys x (second_of (test y) (list_all test ys) h) later
    ]

pub law_is_written : (text : Text) → is_formed text ≡ true → (law : Law) → Contains (laws text) law → IsWrittenLaw law
law_is_written text formed law at =
    let stated = law_stated text law at in
    let s : Statement = stated.statement in
    let n : ℕ = length s.names in
    let times : ℕ = length s.times in
    let body : is_formed_body n times s.body ≡ true =
    second_of (nat_le n 255 && nat_le times 255) (is_formed_body n times s.body) (holds_at is_formed_statement text.statements s formed stated.among) in
    let whole : ((is_formed_atom n law.event && is_formed_atom n law.fluent) && list_all (is_formed_cond n) law.conds) ≡ true =
    sym (ap (is_formed_body n times) stated.says) ∙ body in
    let conds = second_of (is_formed_atom n law.event && is_formed_atom n law.fluent) (list_all (is_formed_cond n) law.conds) whole in
    let fluent = second_of (is_formed_atom n law.event) (is_formed_atom n law.fluent)
    (first_of_two (is_formed_atom n law.event && is_formed_atom n law.fluent) (list_all (is_formed_cond n) law.conds) whole) in
    let written : IsWritten (record { head = law.fluent; conds = law.conds }) =
    clause_is_written n law.fluent law.conds (both_true (is_formed_atom n law.fluent) (list_all (is_formed_cond n) law.conds) fluent conds) in
    record { conds = written.conds; fluent = written.head }

-- ---- what laws give, and what events cause

module _ (text : Text) (level : List ℕ → ℕ) (facts events : List Atom) (initiates : Bool) (a : Atom) where
  -- what the laws give for the events
  abbrev pub IsGiven : Type 0
  IsGiven = ByOne events (λ event. ByOne (laws text) (GivesAs (clauses text) facts level event initiates)) a

  abbrev IsMetHere : Cond → Type 0
  IsMetHere k = IsMet (Passes is_true) (IsTrueOver text level (Contains facts)) k

  module _ (s : ℕ → Term) where
    met_here : (ks : List Cond) → AreMet (clauses text) facts level s ks → AllByRecursion IsMetHere (map (put_cond s) ks)
    met_here [] met = tt
    met_here (k ∷ ks) met = (met.0.met, met_here ks met.1)

    small_here : (ks : List Cond) → AreMet (clauses text) facts level s ks → AllByRecursion IsSmallCond (map (put_cond s) ks)
    small_here [] met = tt
    small_here (k ∷ ks) met = (met.0.small, small_here ks met.1)

    met_there : (ks : List Cond) → AllByRecursion IsGroundCond (map (put_cond s) ks) → AllByRecursion IsSmallCond (map (put_cond s) ks) → AllByRecursion IsMetHere (map (put_cond s) ks) →
        AreMet (clauses text) facts level s ks
    met_there [] ground small met = tt
    met_there (k ∷ ks) ground small met = (record { ground = ground.0; small = small.0; met = met.0 }, met_there ks ground.1 small.1 met.1)

  given_is_caused : IsGiven → Causes text level initiates (Contains facts) events a
  given_is_caused one =
      let law : Law = one.2.0 in
      let g = one.2.2.1 in
      record {
        instance = put_law g.values law;
        of_text = record {
          law = law;
          in_text = one.2.1;
          values = g.values;
          all_ground = g.all_ground;
          put_in = refl;
          small_event = subst (λ (b : Atom). IsSmall (atom_symbols_of b)) (sym g.same_event) g.small_event;
          small_fluent = subst (λ (b : Atom). IsSmall (atom_symbols_of b)) (sym g.effect) g.small_fluent;
          small_conds = small_here g.values law.conds g.met;
        };
        kind = one.2.2.0;
        event = subst (Contains events) (sym g.same_event) one.1;
        conds = met_here g.values law.conds g.met;
        effect = g.effect;
      }

  caused_is_given : is_formed text ≡ true → Causes text level initiates (Contains facts) events a → IsGiven
  caused_is_given formed h =
      let i = h.of_text in
      let law : Law = i.law in
      let written = law_is_written text formed law i.in_text in (
        put_atom i.values law.event,
        subst (λ (l : Law). Contains events l.event) i.put_in h.event,
        (
          law,
          i.in_text,
          (
            sym (ap (λ (l : Law). l.initiates) i.put_in) ∙ h.kind,
            record {
              values = i.values;
              all_ground = i.all_ground;
              same_event = refl;
              met = met_there i.values law.conds (written.conds i.values i.all_ground) (subst (λ (l : Law). AllByRecursion IsSmallCond l.conds) i.put_in i.small_conds)
                  (subst (λ (l : Law). AllByRecursion IsMetHere l.conds) i.put_in h.conds);
              effect = sym (ap (λ (l : Law). l.fluent) i.put_in) ∙ h.effect;
              small_event = subst (λ (l : Law). IsSmall (atom_symbols_of l.event)) i.put_in i.small_event;
              small_fluent = subst (λ (f : Atom). IsSmall (atom_symbols_of f)) h.effect i.small_fluent;
            },
          ),
        ),
      )

  -- exactly what is given is caused
  pub given_causes : is_formed text ≡ true → IsGiven ↔ Causes text level initiates (Contains facts) events a
  given_causes formed = (given_is_caused, caused_is_given formed)

-- ---- the laws that the index finds

within : {X : Type 0} (xs : List X) (i : ℕ) (x : X) → slice_get xs i ≡ Some x → i < length xs
within xs i x e = elim ((slice_get_cases xs i).1) [ inl there ↦ there.1 | inr past ↦ absurd (let none = past.1 in cc (e, none)) ]

alone : (p : Bool) → IsTrue (p || false) → IsTrue p
alone true h = h
alone false h = h

with_none : (p : Bool) → IsTrue p → IsTrue (p || false)
with_none true h = h
with_none false h = h

module _ (text : Text) (event : Atom) (ground : AreGround event.args) (places : List ℕ) (are : AreFound of_law (laws text) event places) where
  -- a law that is found is there, and has the name of the event
  pub found_named : (i : ℕ) → Contains places i → (i < length (laws text)) × ((law_at (laws text) i).event.name ≡ event.name)
  found_named i among =
      let f = (are i).0 among in
      let here : law_at (laws text) i ≡ f.statement = get_or_from_slice_get (laws text) i f.statement no_law f.at in (
        within (laws text) i f.statement f.at,
        ap (λ (law : Law). law.event.name) here ∙ sym (matching_named event f.statement.event (alone (may_match event f.statement.event) f.matching)),
      )

  module _ (level : List ℕ → ℕ) (facts : List Atom) (initiates : Bool) (a : Atom) where
    abbrev GivesHere : Law → Atom → Type 0
    GivesHere = GivesAs (clauses text) facts level event initiates

    by_place : ByOne places (λ i. GivesHere (law_at (laws text) i)) a → ByOne (laws text) GivesHere a
    by_place one = (law_at (laws text) one.0, Contains-get_or (laws text) one.0 no_law (found_named one.0 one.1).0, one.2)

    of_place : ByOne (laws text) GivesHere a → ByOne places (λ i. GivesHere (law_at (laws text) i)) a
    of_place one =
        let law : Law = one.0 in
        let i : ℕ = one.1.0 in
        let here : law_at (laws text) i ≡ law = default_free (laws text) i no_law law one.1.1 ∙ one.1.2 in
        let g = subst (λ (l : Law). GivesHere l a) (sym here) one.2 in
        let found : IsFound of_law (laws text) event i = record {
          statement = law_at (laws text) i;
          at = slice_get-get_or (laws text) i no_law one.1.1;
          matching = with_none (may_match event (law_at (laws text) i).event)
              (instances_match g.1.values g.1.values event (law_at (laws text) i).event (sym (ap (λ (b : Atom). b.name) g.1.same_event))
              (list_stays g.1.values event.args ground ∙ sym (ap (λ (b : Atom). b.args) g.1.same_event)));
        } in
        (i, (are i).1 found, g)

    -- what the laws give for the event is what those give that are found
    pub places_give : ByOne places (λ i. GivesHere (law_at (laws text) i)) a ↔ ByOne (laws text) GivesHere a
    places_give = (by_place, of_place)

-- laws give nothing for an event that is too large
pub large_gives_none : (program : List Clause) (facts : List Atom) (level : List ℕ → ℕ) (event : Atom) (all : List Law) → 1024 < atom_symbols_of event → (initiates : Bool) (a : Atom) →
    ByOne all (GivesAs program facts level event initiates) a → ⊥
large_gives_none program facts level event all large initiates a one = let small = one.2.1.small_event in omega (arith, large, small)

-- what is caused is a ground fluent
pub caused_fluent : (text : Text) → IsAccepted text → is_formed text ≡ true → (level : List ℕ → ℕ) (initiates : Bool) (Held : Atom → Type 0) (events : List Atom) (a : Atom) →
    Causes text level initiates Held events a → IsFluent text a
caused_fluent text accepted formed level initiates Held events a h =
    let i = h.of_text in
    let written = law_is_written text formed i.law i.in_text in
    record {
      ground = subst (λ (f : Atom). AreGround f.args) (sym (ap (λ (l : Law). l.fluent) i.put_in) ∙ h.effect) (written.fluent i.values i.all_ground);
      kind = caused_is_fluent text accepted level initiates Held events a h;
    }
