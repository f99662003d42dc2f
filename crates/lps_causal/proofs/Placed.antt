-- Where the clauses, laws and initial facts of an accepted text stand, and which kinds their names have there.
use Rattle.std.proofs.Common.{ℕ, ◌≡◌, List, [], ◌++◌, length, refl}
use Rattle.std.specs.Prelude.{Contains}
use Rattle.std.proofs.lemmas.List.Elements.{Contains-append_right}
use Rattle.lps_terms.specs.declared.atom.Atom.{Atom}
use Rattle.lps_terms.specs.declared.body.Body.{Body}
use Rattle.lps_terms.specs.declared.body.Body.TheVariants as b
use Rattle.lps_terms.specs.declared.cond.Cond.{Cond}
use Rattle.lps_terms.specs.declared.cond.Cond.TheVariants as c
use Rattle.lps_terms.specs.declared.lit.Lit.{Lit}
use Rattle.lps_terms.specs.declared.statement.Statement.{Statement}
use Rattle.lps_terms.specs.declared.text.Text.{Text}
use Rattle.lps_model.specs.declared.occurrence.Occurrence.{Occurrence}
use Rattle.lps_model.specs.declared.place.Place.{Place}
use Rattle.lps_model.specs.declared.place.Place.TheVariants.{Initial, Trigger, Effect, Condition, Head}
use Rattle.lps_model.specs.Acceptance.{IsAccepted}
use Rattle.lps_model.specs.Occurrences.{in_atom, in_cond, in_conds, place_under}
use Rattle.lps_model.specs.Program.{Law, initial_atoms, initial_in, law_in, laws}
use Rattle.lps_model.proofs.Elements.{first_is_contained, nothing_contained}
use Rattle.lps_model.proofs.Stated.{HasKindAt, IsStated, flat_contains, flat_within, kind_at, only_one}
use Rattle.lps_model.specs.Clauses.{Clause, clause_in, clauses}
use Rattle.lps_model.specs.Rules.{kind_of}

-- ---- statements

clause_of_body : (body : Body) (k : Clause) → Contains (clause_in body) k → body ≡ b.Clause k.head k.conds
clause_of_body (b.Clause head conds) k within = let is = only_one (record { head = head; conds = conds }) k within in λ i. b.Clause (is i).head (is i).conds
clause_of_body (b.Declare declared) k within = absurd (nothing_contained k within)
clause_of_body (b.Initially atoms) k within = absurd (nothing_contained k within)
clause_of_body (b.Denial items) k within = absurd (nothing_contained k within)
clause_of_body (b.Rule antecedent alternatives) k within = absurd (nothing_contained k within)
clause_of_body (b.Law initiates event fluent conds) k within = absurd (nothing_contained k within)
clause_of_body (b.MacroClause head begin end items) k within = absurd (nothing_contained k within)

law_of_body : (body : Body) (law : Law) → Contains (law_in body) law → body ≡ b.Law law.initiates law.event law.fluent law.conds
law_of_body (b.Law initiates event fluent conds) law within =
    let is = only_one (record { initiates = initiates; event = event; fluent = fluent; conds = conds }) law within in
    λ i. b.Law (is i).initiates (is i).event (is i).fluent (is i).conds
law_of_body (b.Declare declared) law within = absurd (nothing_contained law within)
law_of_body (b.Initially atoms) law within = absurd (nothing_contained law within)
law_of_body (b.Denial items) law within = absurd (nothing_contained law within)
law_of_body (b.Rule antecedent alternatives) law within = absurd (nothing_contained law within)
law_of_body (b.Clause head conds) law within = absurd (nothing_contained law within)
law_of_body (b.MacroClause head begin end items) law within = absurd (nothing_contained law within)

pub clause_stated : (text : Text) (k : Clause) → Contains (clauses text) k → IsStated text (b.Clause k.head k.conds)
clause_stated text k at =
    let found = flat_within (λ (s : Statement). clause_in s.body) text.statements k at in
    record { statement = found.one; among = found.among; says = clause_of_body found.one.body k found.within }

pub law_stated : (text : Text) (law : Law) → Contains (laws text) law → IsStated text (b.Law law.initiates law.event law.fluent law.conds)
law_stated text law at =
    let found = flat_within (λ (s : Statement). law_in s.body) text.statements law at in
    record { statement = found.one; among = found.among; says = law_of_body found.one.body law found.within }

-- ---- kinds

-- the occurrence of an atom in a statement of this line
abbrev occurrence : ℕ → Place → Atom → Occurrence
occurrence line place a = record { line = line; name = a.name; count = length a.args; place = place }

lit_occurs : (line : ℕ) (place : Place) (conds : List Cond) (l : Lit) → Contains conds (c.Lit l) → Contains (in_conds line place conds) (occurrence line place l.atom)
lit_occurs line place conds l among =
    flat_contains (in_cond line place) conds (c.Lit l) (occurrence line place l.atom) among (first_is_contained (occurrence line place l.atom) [])

module _ (text : Text) (accepted : IsAccepted text) where
  pub head_kind : (k : Clause) → Contains (clauses text) k → HasKindAt text Head k.head.name
  head_kind k at =
      let stated = clause_stated text k at in
      let line = stated.statement.line in
      kind_at text accepted (b.Clause k.head k.conds) stated (occurrence line Head k.head)
      (first_is_contained (occurrence line Head k.head) (in_conds line (place_under (kind_of text k.head.name)) k.conds))

  pub condition_kind : (k : Clause) (l : Lit) → Contains (clauses text) k → Contains k.conds (c.Lit l) → HasKindAt text (place_under (kind_of text k.head.name)) l.atom.name
  condition_kind k l at among =
      let stated = clause_stated text k at in
      let line = stated.statement.line in
      let place = place_under (kind_of text k.head.name) in
      kind_at text accepted (b.Clause k.head k.conds) stated (occurrence line place l.atom)
      (Contains-append_right (in_atom line Head k.head) (in_conds line place k.conds) (occurrence line place l.atom) (lit_occurs line place k.conds l among))

  module _ (law : Law) (at : Contains (laws text) law) where
    pub fluent_kind : HasKindAt text Effect law.fluent.name
    fluent_kind =
        let stated = law_stated text law at in
        let line = stated.statement.line in
        kind_at text accepted (b.Law law.initiates law.event law.fluent law.conds) stated (occurrence line Effect law.fluent)
        (Contains-append_right (in_atom line Trigger law.event) (in_atom line Effect law.fluent ++ in_conds line Condition law.conds) (occurrence line Effect law.fluent)
        (first_is_contained (occurrence line Effect law.fluent) (in_conds line Condition law.conds)))

  initial_of_body : (body : Body) (a : Atom) → Contains (initial_in body) a → (stated : IsStated text body) → HasKindAt text Initial a.name
  initial_of_body (b.Initially atoms) a within stated =
      let line = stated.statement.line in
      kind_at text accepted (b.Initially atoms) stated (occurrence line Initial a)
      (flat_contains (in_atom line Initial) atoms a (occurrence line Initial a) within (first_is_contained (occurrence line Initial a) []))
  initial_of_body (b.Declare declared) a within stated = absurd (nothing_contained a within)
  initial_of_body (b.Denial items) a within stated = absurd (nothing_contained a within)
  initial_of_body (b.Rule antecedent alternatives) a within stated = absurd (nothing_contained a within)
  initial_of_body (b.Law initiates event fluent conds) a within stated = absurd (nothing_contained a within)
  initial_of_body (b.Clause head conds) a within stated = absurd (nothing_contained a within)
  initial_of_body (b.MacroClause head begin end items) a within stated = absurd (nothing_contained a within)

  pub initial_kind : (a : Atom) → Contains (initial_atoms text) a → HasKindAt text Initial a.name
  initial_kind a at =
      let found = flat_within (λ (s : Statement). initial_in s.body) text.statements a at in
      initial_of_body found.one.body a found.within (record { statement = found.one; among = found.among; says = refl })
