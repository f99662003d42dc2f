-- Where no goal is pending, failed or cut, every rule is true.
use Rattle.std.proofs.Common.{ℕ, zero, suc, Bool, cond, ◌≡◌, ◌<◌, ◌+◌, List, [], ◌∷◌, length, ◌∙◌, subst, arith}
use Rattle.std.specs.Prelude.{slice_index_or, Option, Some, None}
use Rattle.std.specs.List.{AllZip, count_by}
use Rattle.std.proofs.lemmas.List.Sums.{sum_by-cons}
use Rattle.lps_terms.specs.declared.text.Text.{Text}
use Rattle.lps_model.specs.declared.trace.Trace.{Trace}
use Rattle.lps_meaning.specs.declared.goal.Closed.{Closed}
use Rattle.lps_meaning.specs.declared.goal.Closed.TheVariants as c
use Rattle.lps_meaning.specs.declared.goal.Counts.{Counts}
use Rattle.lps_meaning.specs.declared.goal.GoalKey.{GoalKey}
use Rattle.lps_meaning.specs.Goals.{IsFulfilled, IsRuleTrue, HasStatus}
use Rattle.lps_meaning.specs.Reports.{AreCounts, is_pending, is_failed, is_cut}

abbrev one_if : Bool → ℕ
one_if b = cond b 1 0

count_cons : (test : Option Closed → Bool) (y : Option Closed) (ys : List (Option Closed)) → count_by test (y ∷ ys) ≡ cond (test y) 1 0 + count_by test ys
count_cons test y ys = sum_by-cons (λ x. cond (test x) 1 0) y ys

zero_right : (test : Option Closed → Bool) (y : Option Closed) (ys : List (Option Closed)) → count_by test (y ∷ ys) ≡ 0 → count_by test ys ≡ 0
zero_right test y ys none = let e : count_by test (y ∷ ys) ≡ cond (test y) 1 0 + count_by test ys = count_cons test y ys in omega (arith, e, none)

zero_left : (test : Option Closed → Bool) (y : Option Closed) (ys : List (Option Closed)) → count_by test (y ∷ ys) ≡ 0 → one_if (test y) ≡ 0
zero_left test y ys none = let e : count_by test (y ∷ ys) ≡ cond (test y) 1 0 + count_by test ys = count_cons test y ys in omega (arith, e, none)

module _ (text : Text) (level : List ℕ → ℕ) (depth : ℕ) (trace : Trace) where
  abbrev Has : GoalKey → Option Closed → Type 0
  Has key status = HasStatus text level trace depth key (length trace.cycles) status

  met_of : (key : GoalKey) (status : Option Closed) → Has key status → one_if (is_pending status) ≡ 0 → one_if (is_failed status) ≡ 0 → one_if (is_cut status) ≡ 0 →
      IsFulfilled text level trace key (length trace.cycles)
  met_of key (Some c.Solved) h e f g = h.met
  met_of key None h e f g = absurd (omega (arith, e))
  met_of key (Some c.Failed) h e f g = absurd (omega (arith, f))
  met_of key (Some c.Cut) h e f g = absurd (omega (arith, g))

  each_met : (keys : List GoalKey) (statuses : List (Option Closed)) → AllZip Has keys statuses → count_by is_pending statuses ≡ 0 → count_by is_failed statuses ≡ 0 →
      count_by is_cut statuses ≡ 0 → (n : ℕ) (key : GoalKey) → n < length keys → slice_index_or keys n key ≡ key → IsFulfilled text level trace key (length trace.cycles)
  each_met [] statuses h e f g n key lt is = absurd (omega arith)
  each_met (x ∷ keys) [] h e f g n key lt is = absurd h
  each_met (x ∷ keys) (y ∷ statuses) h e f g zero key lt is =
      subst (λ z. IsFulfilled text level trace z (length trace.cycles)) is
      (met_of x y h.0 (zero_left is_pending y statuses e) (zero_left is_failed y statuses f) (zero_left is_cut y statuses g))
  each_met (x ∷ keys) (y ∷ statuses) h e f g (suc n) key lt is =
      each_met keys statuses h.1 (zero_right is_pending y statuses e) (zero_right is_failed y statuses f) (zero_right is_cut y statuses g) n key (omega arith) is

  pub rules_true : (counts : Counts) → AreCounts text level depth trace counts → counts.pending ≡ 0 → counts.failed ≡ 0 → counts.cut ≡ 0 →
      (n : ℕ) → IsRuleTrue text level trace (length trace.cycles) n
  rules_true counts c e f g n key is le goal =
      let here = (c.goals.exact key).1 (le, goal) in
      each_met c.keys c.statuses c.each (c.pending ∙ e) (c.failed ∙ f) (c.cut ∙ g) here.0 key here.1 here.2
