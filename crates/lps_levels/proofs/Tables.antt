-- The table of levels of a text.
use Rattle.std.proofs.Common.{◌≡◌, ◌⊎◌, ℕ, ◌+◌, ◌<◌, ◌≤◌, Bool, true, false, cond, not, ◌||◌, List, [], length, take, Contains, Some, Result, Ok, Err, is_some, slice_index, refl, sym, ap, subst, ◌∙◌, arith, inl, inr}
use Rattle.std.specs.List.{list_any}
use Rattle.std.specs.Map.{lookup}
use Rattle.std.specs.Result.{MatchResult}
use Rattle.std.specs.Str.{bytes_eq}
use Rattle.std.proofs.lemmas.Bool.{cases_lt, leb-true, ltb-true}
use Rattle.std.proofs.lemmas.List.{take_all}
use Rattle.std.proofs.lemmas.List.Elements.{All-contains}
use Rattle.std.proofs.lemmas.List.Folds.{list_any_more}
use Rattle.std.proofs.lemmas.Slice.Eq.{bytes_eq-Decides}
use Rattle.lps_terms.specs.declared.text.Text.{Text}
use Rattle.lps_model.specs.Calls.{Call, calls}
use Rattle.lps_model.specs.Levels.{AreLevelsOf, IsLevel, level_among, level_or_none}
use Rattle.lps_model.specs.Program.{declarations}
use Rattle.lps_levels.specs.declared.edge.Edge.{Edge}
use Rattle.lps_model.specs.declared.judge_error.JudgeError.{JudgeError}
use Rattle.lps_levels.specs.Answers.{AreInTable, AreInTableTo, IsNoMemory, IsRightError}
use Rattle.lps_levels.specs.Distances.{AreRight}
use Rattle.lps_levels.specs.Graphs.{AreApart, IsGraph, IsWithin, call_by, calls_by, is_lower, is_no_higher, name_at}
use Rattle.lps_levels.specs.Names.{AreCalledNames}
use Rattle.lps_levels.proofs.Graphs.{among_map}
use Rattle.lps_levels.proofs.Numbers.{itself, turned}

or_true : (a : Bool) → (a || true) ≡ true
or_true true = refl
or_true false = refl

or_false : (a : Bool) → (a || false) ≡ a
or_false true = refl
or_false false = refl

pub table_none : (names : List (List ℕ)) (levels : List ℕ) → AreInTableTo 0 names levels []
table_none names levels = record { at_name = λ number lt. absurd (omega (arith, lt)); members = λ name. refl }

-- one name more
pub table_more : (names : List (List ℕ)) (levels : List ℕ) (old new : List (List ℕ × ℕ)) (number level : ℕ) → AreApart names → number < length names → level ≡ slice_index levels number
    → ((other : List ℕ) → lookup (bytes_eq other) new ≡ cond (bytes_eq (name_at names number) other) (Some level) (lookup (bytes_eq other) old))
    → AreInTableTo number names levels old → AreInTableTo (number + 1) names levels new
table_more names levels old new number level apart lt is law h = record {
  at_name = λ k low. at k low (cases_lt k number);
  members = λ name. ap is_some (law name) ∙ members name (bytes_eq (name_at names number) name) refl;
}
  where
    at : (k : ℕ) → k < number + 1 → (k < number) ⊎ (number ≤ k) → lookup (bytes_eq (name_at names k)) new ≡ Some (slice_index levels k)
    at k low before = law (name_at names k) ∙ by before (bytes_eq (name_at names number) (name_at names k)) refl
      where
        by : (k < number) ⊎ (number ≤ k) → (b : Bool) → bytes_eq (name_at names number) (name_at names k) ≡ b → cond b (Some level) (lookup (bytes_eq (name_at names k)) old) ≡ Some (slice_index levels k)
        by (inl early) false e = h.at_name k early
        by (inl early) true e = absurd (omega (arith, early, apart number k lt (omega (arith, early, lt)) ((bytes_eq-Decides (name_at names number) (name_at names k)).0 e)))
        by (inr late) b e =
            let same : number ≡ k = omega (arith, late, low) in
            ap (λ b'. cond b' (Some level) (lookup (bytes_eq (name_at names k)) old)) (sym e ∙ ap (λ n. bytes_eq (name_at names number) (name_at names n)) (sym same) ∙ itself (name_at names number))
            ∙ ap Some (is ∙ ap (slice_index levels) same)

    members : (name : List ℕ) (b : Bool) → bytes_eq (name_at names number) name ≡ b → is_some (cond b (Some level) (lookup (bytes_eq name) old)) ≡ list_any (bytes_eq name) (take (number + 1) names)
    members name true e =
        sym (list_any_more (bytes_eq name) names number [] lt ∙ ap (λ b. list_any (bytes_eq name) (take number names) || b) (turned name (name_at names number) ∙ e) ∙ or_true (list_any (bytes_eq name) (take number names)))
    members name false e =
        h.members name
        ∙ sym (list_any_more (bytes_eq name) names number [] lt ∙ ap (λ b. list_any (bytes_eq name) (take number names) || b) (turned name (name_at names number) ∙ e) ∙ or_false (list_any (bytes_eq name) (take number names)))

-- levels by number are levels of the text
pub levels_of_text : (text : Text) (names : List (List ℕ)) (edges : List Edge) (levels : List ℕ) (table : List (List ℕ × ℕ)) → AreCalledNames (declarations text) names → IsGraph names edges
    → calls_by names edges ≡ calls text → AreRight names edges levels → AreInTable names levels table → AreLevelsOf text table
levels_of_text text names edges levels table called graph named right h = record {
  names = λ name. h.members name ∙ ap (list_any (bytes_eq name)) (take_all (length names) names (omega arith)) ∙ called.members name;
  levelled = λ call c. at call (among_map (call_by names) edges call (subst (λ cs. Contains cs call) (sym named) c));
}
  where
    level_at : (number : ℕ) → number < length names → level_among table (name_at names number) ≡ slice_index levels number
    level_at number lt = ap level_or_none (h.at_name number lt)

    below : (strict : Bool) (low : Bool) → strict ≡ true → (not strict || low) ≡ true → low ≡ true
    below true low e f = f
    below false low e f = absurd (cc)

    of_edge : (edge : Edge) → Contains edges edge → IsLevel (level_among table) (call_by names edge)
    of_edge edge c =
        let within : IsWithin (length names) edge = All-contains (IsWithin (length names)) edges edge graph.within c in
        let to = level_at edge.callee within.callee in
        let from = level_at edge.caller within.caller in
        record {
          no_higher = omega (arith, to, from, leb-true _ _ (All-contains (λ e. is_no_higher levels e ≡ true) edges edge right.no_higher c));
          lower = λ strict. omega (arith, to, from, ltb-true _ _ (below edge.is_strict _ strict (All-contains (λ e. is_lower levels e ≡ true) edges edge right.lower c)));
        }

    at : (call : Call) → (edge : Edge) × Contains edges edge × (call_by names edge ≡ call) → IsLevel (level_among table) call
    at call found = subst (IsLevel (level_among table)) found.2 (of_edge found.0 found.1)

-- what the table is, the answer is
pub answer_of_table : (text : Text) (P : List (List ℕ × ℕ) → Type 0) (r : Result (List (List ℕ × ℕ)) JudgeError) → ((table : List (List ℕ × ℕ)) → P table → AreLevelsOf text table) → MatchResult r P IsNoMemory → MatchResult r (AreLevelsOf text) (IsRightError text)
answer_of_table text P (Ok table) f h = f table h
answer_of_table text P (Err error) f h = subst (IsRightError text) (sym h) tt
