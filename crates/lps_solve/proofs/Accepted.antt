-- The clauses of an accepted text are written, and its levels are levels of them.
use Rattle.std.proofs.Common.{ℕ, Bool, true, false, ◌≡◌, List, [], ◌∷◌, ◌++◌, refl, sym, ap, subst, ◌∙◌, inl, inr, cond, not}
use Rattle.std.specs.Prelude.{◌⊎◌, ◌&&◌, ◌||◌, Contains, Option, Some, None, length, nat_le}
use Rattle.std.specs.List.{flat_map, list_all}
use Rattle.std.specs.Option.{option_or}
use Rattle.std.proofs.lemmas.List.Elements.{All-contains, Contains-append_left, Contains-append_right}
use Rattle.lps_terms.specs.declared.atom.Atom.{Atom}
use Rattle.lps_terms.specs.declared.body.Body.{Body}
use Rattle.lps_terms.specs.declared.body.Body.TheVariants as b
use Rattle.lps_terms.specs.declared.cond.Cond.TheVariants as c
use Rattle.lps_terms.specs.declared.lit.Lit.{Lit}
use Rattle.lps_terms.specs.declared.refused.Refused.{Refused}
use Rattle.lps_terms.specs.declared.statement.Statement.{Statement}
use Rattle.lps_terms.specs.declared.text.Text.{Text}
use Rattle.lps_model.specs.Acceptance.{IsAccepted}
use Rattle.lps_model.specs.Calls.{Call, call_in_cond, calls, calls_in, descends, is_called}
use Rattle.lps_model.specs.Declarations.{kind_among}
use Rattle.lps_model.specs.Formed.{is_formed, is_formed_body, is_formed_statement}
use Rattle.lps_model.specs.KindRefusals.{kind_refusal}
use Rattle.lps_model.specs.Levels as model
use Rattle.lps_model.specs.Program.{declarations}
use Rattle.lps_model.proofs.Elements.{first_is_contained, first_or_later, nothing_contained}
use Rattle.lps_model.specs.Clauses.{Clause, clause_in, clauses}
use Rattle.lps_derivation.specs.Levels.{AreLevels}
use Rattle.lps_levels.specs.Graphs.{HasCalledHead}
use Rattle.lps_levels.proofs.Heads.{heads_are_called}
use Rattle.lps_solve.specs.Answers.{IsSearched, IsSound, IsWritten}
use Rattle.lps_solve.specs.Met.{AreGround}
use Rattle.lps_solve.proofs.Formed.{clause_is_written}
use Rattle.lps_solve.proofs.Grounds.{second_of, first_of_two}

-- ---- lists of lists

flat_holds : {X Y : Type 0} (f : X → List Y) (xs : List X) (x : X) (y : Y) → Contains xs x → Contains (f x) y → Contains (flat_map f xs) y
flat_holds f [] x y at within = absurd (nothing_contained x at)
flat_holds f (z ∷ zs) x y at within = by (flat_holds f zs x y) (first_or_later z zs x at)
  where
    by : (Contains zs x → Contains (f x) y → Contains (flat_map f zs) y) → (z ≡ x) ⊎ Contains zs x → Contains (f z ++ flat_map f zs) y
    by later (inl same) = Contains-append_left (f z) (flat_map f zs) y (subst (λ w. Contains (f w) y) (sym same) within)
    by later (inr rest) = Contains-append_right (f z) (flat_map f zs) y (later rest within)

-- ---- the statement of a clause

-- a statement of the text has this clause
pub record IsStated (text : Text) (k : Clause) : Type 0 where
  pub statement : Statement
  pub among : Contains text.statements statement
  pub says : statement.body ≡ b.Clause k.head k.conds

stated_by : (s : Statement) (body : Body) → s.body ≡ body → (text : Text) → Contains text.statements s → (k : Clause) → Contains (clause_in body) k → IsStated text k
stated_by s (b.Clause head conds) same text at k within = by (first_or_later (record { head = head; conds = conds }) [] k within)
  where
    by : (record { head = head; conds = conds } ≡ k) ⊎ Contains [] k → IsStated text k
    by (inl is) = record { statement = s; among = at; says = same ∙ (λ i. b.Clause (is i).head (is i).conds) }
    by (inr none) = absurd (nothing_contained k none)
stated_by s (b.Declare declared) same text at k within = absurd (nothing_contained k within)
stated_by s (b.Initially atoms) same text at k within = absurd (nothing_contained k within)
stated_by s (b.Denial items) same text at k within = absurd (nothing_contained k within)
stated_by s (b.Rule antecedent alternatives) same text at k within = absurd (nothing_contained k within)
stated_by s (b.Law initiates event fluent conds) same text at k within = absurd (nothing_contained k within)
stated_by s (b.MacroClause head begin end items) same text at k within = absurd (nothing_contained k within)

-- an element of lists one after the other is in one of them
record IsWithinOne {X Y : Type 0} (f : X → List Y) (xs : List X) (y : Y) : Type 0 where
  pub one : X
  pub among : Contains xs one
  pub within : Contains (f one) y

split_append : {Y : Type 0} (ys zs : List Y) (y : Y) → Contains (ys ++ zs) y → Contains ys y ⊎ Contains zs y
split_append [] zs y at = inr at
split_append (x ∷ ys) zs y at = by (split_append ys zs y) (first_or_later x (ys ++ zs) y at)
  where
    by : (Contains (ys ++ zs) y → Contains ys y ⊎ Contains zs y) → (x ≡ y) ⊎ Contains (ys ++ zs) y → Contains (x ∷ ys) y ⊎ Contains zs y
    by later (inl same) = inl (subst (λ w. Contains (x ∷ ys) w) same (first_is_contained x ys))
    by later (inr rest) = after (later rest)
      where
        after : Contains ys y ⊎ Contains zs y → Contains (x ∷ ys) y ⊎ Contains zs y
        after (inl left) = inl (Contains-append_right (x ∷ []) ys y left)
        after (inr right) = inr right

flat_within : {X Y : Type 0} (f : X → List Y) (xs : List X) (y : Y) → Contains (flat_map f xs) y → IsWithinOne f xs y
flat_within f [] y at = absurd (nothing_contained y at)
flat_within f (x ∷ xs) y at = by (split_append (f x) (flat_map f xs) y at) (flat_within f xs y)
  where
    by : Contains (f x) y ⊎ Contains (flat_map f xs) y → (Contains (flat_map f xs) y → IsWithinOne f xs y) → IsWithinOne f (x ∷ xs) y
    by (inl here) later = record { one = x; among = first_is_contained x xs; within = here }
    by (inr there) later = let found = later there in record { one = found.one; among = Contains-append_right (x ∷ []) xs found.one found.among; within = found.within }

pub is_stated : (text : Text) (k : Clause) → Contains (clauses text) k → IsStated text k
is_stated text k at =
    let found = flat_within (λ (s : Statement). clause_in s.body) text.statements k at in
    stated_by found.one found.one.body refl text found.among k found.within

-- ---- clauses are written

all_hold : {X : Type 0} (test : X → Bool) (xs : List X) (x : X) → list_all test xs ≡ true → Contains xs x → test x ≡ true
all_hold test [] x h at = absurd (nothing_contained x at)
all_hold test (y ∷ ys) x h at = by (all_hold test ys x (second_of (test y) (list_all test ys) h)) (first_or_later y ys x at)
  where
    by : (Contains ys x → test x ≡ true) → (y ≡ x) ⊎ Contains ys x → test x ≡ true
    by later (inl same) = subst (λ w. test w ≡ true) same (first_of_two (test y) (list_all test ys) h)
    by later (inr rest) = later rest

written : (text : Text) → is_formed text ≡ true → (k : Clause) → Contains (clauses text) k → IsWritten k
written text formed k at =
    let stated = is_stated text k at in
    let s : Statement = stated.statement in
    let whole : is_formed_statement s ≡ true = all_hold is_formed_statement text.statements s formed stated.among in
    let body : is_formed_body (length s.names) (length s.times) s.body ≡ true =
    second_of (nat_le (length s.names) 255 && nat_le (length s.times) 255) (is_formed_body (length s.names) (length s.times) s.body) whole in
    clause_is_written (length s.names) k.head k.conds (sym (ap (is_formed_body (length s.names) (length s.times)) stated.says) ∙ body)

-- ---- levels

first_none : (one other : Option Refused) → option_or one other ≡ None → one ≡ None
first_none None other e = refl
first_none (Some refused) other e = absurd (cc)

pub no_kind_refusal : (text : Text) → IsAccepted text → kind_refusal text ≡ None
no_kind_refusal text accepted = first_none (kind_refusal text) _ accepted.not_refused

-- the head of a clause of the text has a kind whose names are called
pub is_called_head : (text : Text) → kind_refusal text ≡ None → (k : Clause) → Contains (clauses text) k → is_called (kind_among (declarations text) k.head.name) ≡ true
is_called_head text e k at =
    let stated = is_stated text k at in
    let s : Statement = stated.statement in
    let headed : HasCalledHead (declarations text) s.body =
    All-contains (λ (s : Statement). HasCalledHead (declarations text) s.body) text.statements s (heads_are_called text e) stated.among in
    subst (HasCalledHead (declarations text)) stated.says headed

strict_where_negated : (negated other : Bool) → negated ≡ true → (negated || other) ≡ true
strict_where_negated true other h = refl
strict_where_negated false other h = absurd (cc)

-- the call of a literal of such a name
abbrev pub call_at : Text → Atom → Lit → Call
call_at text head l = record { caller = head.name; callee = l.atom.name; is_strict = l.negated || not (descends (declarations text) head l.atom || false) }

is_call : (text : Text) (head : Atom) (l : Lit) → is_called (kind_among (declarations text) l.atom.name) ≡ true → Contains (call_in_cond (declarations text) head (c.Lit l)) (call_at text head l)
is_call text head l called = subst (λ test. Contains (cond test (call_at text head l ∷ []) []) (call_at text head l)) (sym called) (first_is_contained (call_at text head l) [])

-- the levels of an accepted text are those of the calls of its clauses
pub call_is_level : (text : Text) (level : List ℕ → ℕ) → model.AreCallLevels (calls text) level → (k : Clause) → Contains (clauses text) k → (l : Lit) → Contains k.conds (c.Lit l) →
    is_called (kind_among (declarations text) l.atom.name) ≡ true → model.IsLevel level (call_at text k.head l)
call_is_level text level are k at l within called =
    let stated = is_stated text k at in
    let in_conds = flat_holds (call_in_cond (declarations text) k.head) k.conds (c.Lit l) (call_at text k.head l) within (is_call text k.head l called) in
    let in_body : Contains (calls_in (declarations text) stated.statement.body) (call_at text k.head l) =
    subst (λ body. Contains (calls_in (declarations text) body) (call_at text k.head l)) (sym stated.says) in_conds in
    are (call_at text k.head l) (flat_holds (λ (s : Statement). calls_in (declarations text) s.body) text.statements stated.statement (call_at text k.head l) stated.among in_body)

levels : (text : Text) → IsAccepted text → (level : List ℕ → ℕ) → model.AreCallLevels (calls text) level → AreLevels (clauses text) level
levels text accepted level are = record {
  calls = λ k l at within defined.
      let called : is_called (kind_among (declarations text) l.atom.name) ≡ true =
      subst (λ name. is_called (kind_among (declarations text) name) ≡ true) defined.named (is_called_head text (no_kind_refusal text accepted) defined.clause defined.among) in
      let is = call_is_level text level are k at l within called in
      record { no_higher = is.no_higher; lower = λ negated. is.lower (strict_where_negated l.negated _ negated) };
}

-- what is asked of a program and its facts holds of an accepted text and ground facts
pub accepted_is_sound : (text : Text) → IsAccepted text → is_formed text ≡ true → (facts : List Atom) → ((a : Atom) → Contains facts a → AreGround a.args) → IsSound (clauses text) facts
accepted_is_sound text accepted formed facts ground =
    record { ground = ground; written = written text formed; level = accepted.level; levels = levels text accepted accepted.level accepted.levelled }

pub searched_is_sound : (text : Text) (levels : List (List ℕ × ℕ)) (facts : List Atom) → IsSearched text levels facts → IsSound (clauses text) facts
searched_is_sound text levels facts is = accepted_is_sound text is.accepted is.formed facts is.ground
