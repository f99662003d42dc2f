-- By its window a node can come true until it is due, and is met by nothing but what it awaits.
use Rattle.std.proofs.Common.{ℕ, suc, Bool, true, false, ◌≡◌, ◌+◌, ◌<◌, ◌≤◌, ◌⊎◌, List, [], ◌∷◌, ◌++◌, length, map, refl, sym, ap, subst, ◌∙◌, arith, inl, inr}
use Rattle.std.specs.Prelude.{pos, nat_lt, if◌then◌else◌, MatchOption, Option, Some, None, slice_get, ⊤}
use Rattle.std.specs.List.{AllByRecursion}
use Rattle.std.proofs.lemmas.Int.{ints}
use Rattle.lps_terms.specs.declared.atom.Atom.{Atom}
use Rattle.lps_terms.specs.declared.lit.Lit.{Lit}
use Rattle.lps_terms.specs.declared.term.Term.{Term}
use Rattle.lps_terms.specs.declared.term.Term.TheVariants as t
use Rattle.lps_terms.specs.declared.text.Text.{Text}
use Rattle.lps_terms.specs.declared.time_rel.TimeRel.TheVariants.{Equal}
use Rattle.lps_terms.specs.Put.{put, put_atom, put-Var_each}
use Rattle.lps_model.specs.VariableLists.{term_vars}
use Rattle.lps_meaning.specs.declared.node.Left.{Left}
use Rattle.lps_meaning.specs.declared.node.LeftCon.{LeftCon}
use Rattle.lps_meaning.specs.declared.node.LeftItem.TheVariants as l
use Rattle.lps_meaning.specs.declared.node.Node.{Node}
use Rattle.lps_meaning.specs.declared.when.When.{When}
use Rattle.lps_meaning.specs.declared.when.When.TheVariants.{Known}
use Rattle.lps_meaning.proofs.Occurrences.{all_front, all_behind, all_joined, same_put}
use Rattle.lps_meaning.proofs.Splits.{le_or_lt}
use Rattle.lps_nodes.specs.Conditions.{CanComeTrue, IsLeftLimit, time_in}
use Rattle.lps_nodes.specs.Nodes.{left_in}
use Rattle.lps_nodes.specs.Shapes.{Shape}
use Rattle.lps_unify.specs.Canonical.{first_seen, place_of, with_variable}
use Rattle.lps_windows.specs.declared.window.Window.{Window}
use Rattle.lps_windows.specs.Conditions.{BeginsAt, NoneComeTrue, WindowsDecide, conditions_of, order_conditions}
use Rattle.lps_windows.specs.Windows.{IsIn, IsOpenFrom, Solves}
use Rattle.lps_windows.proofs.Opening.{still_open}
use Rattle.lps_residual.specs.declared.waking.Awaited.{Awaited}
use Rattle.lps_residual.specs.declared.waking.Wake.{Wake}
use Rattle.lps_residual.specs.Moments.{IsWindowOf, MeetsNone}
use Rattle.lps_residual.proofs.Waits.{stands_first}
use Rattle.lps_residual.specs.Waking.{BeginWith, IsAsleep, IsAwaited, IsDue, IsFound, IsMetByAwaited, IsToldBy, IsWake, SleepsUntil, awaited_in, first_of, first_told, past, past_last, told_by}

-- ---- a term with no variables

some_seen : (seen vs : List ℕ) → 0 < length seen → 0 < length (first_seen seen vs)
some_seen seen [] h = h
some_seen seen (v ∷ vs) h = some_seen (with_variable seen v) vs (by (nat_lt (place_of seen v) (length seen)) seen h)
  where
    by : (old : Bool) (seen : List ℕ) → 0 < length seen → 0 < length (if old then seen else seen ++ v ∷ [])
    by true seen h = h
    by false [] h = absurd (omega (arith, h))
    by false (u ∷ us) h = omega arith

-- where none is seen there are none
none_seen : (vs : List ℕ) → length (first_seen [] vs) ≡ 0 → vs ≡ []
none_seen [] e = refl
none_seen (v ∷ vs) e = absurd (let some = some_seen (v ∷ []) vs (omega arith) in omega (arith, e, some))

-- a term with none is as it is, whatever is put in
unchanged : (x : Term) → term_vars x ≡ [] → (s : ℕ → Term) → put s x ≡ x
unchanged x none s = same_put s (λ v. t.Var v) x (subst (AllByRecursion (λ v. s v ≡ t.Var v)) (sym none) tt) ∙ put-Var_each x

-- the first of some terms begins each instance of them
told_begins : (x : Term) (vs : List ℕ) → term_vars x ≡ vs → (s : ℕ → Term) (others : List Term) → BeginWith (told_by vs x) (put s x ∷ others)
told_begins x [] none s others = (others, ap (λ y. y ∷ others) (unchanged x none s))
told_begins x (v ∷ vs) e s others = tt

begin_with_first : (args : List Term) (s : ℕ → Term) → BeginWith (first_told args) (map (put s) args)
begin_with_first [] s = tt
begin_with_first (x ∷ xs) s = told_begins x (term_vars x) refl s (map (put s) xs)

pub instances_awaited : (atom : Atom) (s : ℕ → Term) → IsAwaited (record { name = atom.name; first = first_told atom.args }) (put_atom s atom)
instances_awaited atom s = (refl, begin_with_first atom.args s)

-- a term of which no variable is seen is told
pub known_is_told : (x copy : Term) → length (first_seen [] (term_vars x)) ≡ 0 → copy ≡ x → Some copy ≡ told_by (term_vars x) x
known_is_told x copy none same = ap Some same ∙ sym (ap (λ vs. told_by vs x) (none_seen (term_vars x) none))

pub first_is_told : (args : List Term) (x : Term) → slice_get args 0 ≡ Some x → (found : Option Term) → found ≡ told_by (term_vars x) x → found ≡ first_told args
first_is_told args x e found is = let stands = stands_first args x e in is ∙ sym (ap first_told stands.1)

-- ---- until it is due

abbrev left_or : Left → List Left → Left
left_or d [] = d
left_or d (left ∷ rest) = left

module _ (decide : WindowsDecide) (none : NoneComeTrue) (text : Text) (node : Node) (first : Left) (behind : List Left) (is_first : node.rest ≡ first ∷ behind) where
  -- the first item of a node that can come true is its first
  same_first : (time : ℕ) (can : CanComeTrue text time (left_in node)) → can.first.item ≡ first.item
  same_first time can = ap (λ (left : Left). left.item) (ap (left_or can.first) (sym can.is_first ∙ is_first))

  asleep : (awaited : Option Awaited) (time : ℕ) → CanComeTrue text time (left_in node) → IsMetByAwaited text node awaited time first.item → IsAsleep text node awaited time
  asleep awaited time can met = record { can = can; met = subst (IsMetByAwaited text node awaited time) (sym (same_first time can)) met }

  module _ (begin : When) (window : Window) (of : IsWindowOf text node begin window) where
    -- a window that is open from the earliest time that it may begin at lets it come true
    opened : (time earliest : ℕ) → BeginsAt first.item begin time earliest → IsOpenFrom window earliest → CanComeTrue text time (left_in node)
    opened time earliest begins open_from = (decide text (left_in node) first behind is_first begin time earliest begins of.small window of.of_conditions).1 open_from

    -- what is left, with the constraint that the time is this
    abbrev at_value : ℕ → LeftCon
    at_value value = record { left = begin; rel = Equal; right = Known value; plus = pos 0 }

    abbrev with_value : ℕ → Shape
    with_value value = record { carry = node.carry; rest = node.rest; limits = node.limits ++ at_value value ∷ [] }

    abbrev order : List LeftCon
    order = order_conditions text None None node.rest

    -- in each way to come true the time lies in the window
    not_before : (since : ℕ) (can : CanComeTrue text since (left_in node)) → window.first ≤ time_in can.times begin
    not_before since can = by (le_or_lt window.first value)
      where
        value : ℕ
        value = time_in can.times begin

        at_once : (n : ℕ) → time_in can.times begin ≡ n → IsLeftLimit can.times (at_value n)
        at_once n e = omega (arith, ints, e)

        there : CanComeTrue text since (with_value (time_in can.times begin))
        there = record {
          times = can.times;
          first = can.first;
          behind = can.behind;
          is_first = can.is_first;
          ahead = can.ahead;
          in_order = can.in_order;
          limits = all_joined (IsLeftLimit can.times) node.limits (at_value (time_in can.times begin) ∷ []) can.limits (at_once (time_in can.times begin) refl, tt);
          small = can.small;
        }

        is_value : (x : ℕ → ℕ) (n : ℕ) → IsLeftLimit x (at_value n) → time_in x begin ≡ n
        is_value x n h = omega (arith, ints, h)

        unsolved : (n : ℕ) → n < window.first → (x : ℕ → ℕ) → Solves (conditions_of text (with_value n)) x → ⊥
        unsolved n lt x h =
            let limits = all_behind (IsLeftLimit x) order (node.limits ++ at_value n ∷ []) h in
            let own = all_joined (IsLeftLimit x) order node.limits (all_front (IsLeftLimit x) order (node.limits ++ at_value n ∷ []) h) (all_front (IsLeftLimit x) node.limits (at_value n ∷ []) limits) in
            let inside = (of.of_conditions.exact n).1 (x, own, is_value x n (all_behind (IsLeftLimit x) node.limits (at_value n ∷ []) limits).0) in
            let low = inside.0 in
            omega (arith, lt, low)

        by : (window.first ≤ time_in can.times begin) ⊎ (time_in can.times begin < window.first) → window.first ≤ time_in can.times begin
        by (inl le) = le
        by (inr lt) = absurd (none text since (with_value (time_in can.times begin)) (unsolved (time_in can.times begin) lt) there)

  at_open : (window : Window) → IsIn window window.first → (time : ℕ) → time < window.first → IsOpenFrom window (suc time)
  at_open window some time lt = (window.first, omega (arith, lt), some)

  less_through : (time first value : ℕ) → time < first → first ≤ value → time < value
  less_through time first value lt le = omega (arith, lt, le)

  -- a literal is due at the first time at which it can be true
  pub at_wakes : (lit : Lit) (at : When) → first.item ≡ l.At lit at → (found : Option Window) → MatchOption found (MeetsNone text node) (IsWindowOf text node at) → (due : ℕ) →
      MatchOption found (due ≡ 0) (λ window. due ≡ window.first) → SleepsUntil text node (record { awaited = None; due = due })
  at_wakes lit at is None of due low time lt = absurd (omega (arith, low, lt))
  at_wakes lit at is (Some window) of due low time lt =
      let early : time < window.first = omega (arith, lt, low) in
      let begins : BeginsAt first.item at time (suc time) = subst (λ item. BeginsAt item at time (suc time)) (sym is) (refl, refl) in
      asleep None time (opened at window of time (suc time) begins (at_open window of.of_conditions.some time early))
      (subst (IsMetByAwaited text node None time) (sym is) (λ since can. less_through time window.first (time_in can.times at) early (not_before at window of since can)))

  -- an event or an action is, past the last time at which it can begin
  pub span_wakes : (atom : Atom) (from to : When) → first.item ≡ l.Span atom from to → (found : Option Window) → MatchOption found (MeetsNone text node) (IsWindowOf text node from) → (due : ℕ) →
      MatchOption found (due ≡ 0) (λ window. (time : ℕ) → time < due → MatchOption window.last ⊤ (λ last. time ≤ last)) → (awaited : Awaited) → ((s : ℕ → Term) → IsAwaited awaited (put_atom s atom)) →
      SleepsUntil text node (record { awaited = Some awaited; due = due })
  span_wakes atom from to is None of due late awaited instances time lt = absurd (omega (arith, late, lt))
  span_wakes atom from to is (Some window) of due late awaited instances time lt =
      let begins : BeginsAt first.item from time time = subst (λ item. BeginsAt item from time time) (sym is) (refl, refl) in
      asleep (Some awaited) time (opened from window of time time begins (still_open window.first time window.last of.of_conditions.some.1 (late time lt)))
      (subst (IsMetByAwaited text node (Some awaited) time) (sym is) (awaited, refl, instances))

  told_first : (wake : Wake) → wake.awaited ≡ awaited_in first.item → IsDue text node wake.due first.item → IsToldBy text node wake node.rest
  told_first wake awaited due = subst (IsToldBy text node wake) (sym is_first) (awaited, due)

  first_due : (found : Option Window) (due : ℕ) → due ≡ first_of found → MatchOption found (due ≡ 0) (λ window. due ≡ window.first)
  first_due None due is = is
  first_due (Some window) due is = is

  within_last : (last : Option ℕ) (time : ℕ) → time < past_last last → MatchOption last ⊤ (λ n. time ≤ n)
  within_last None time lt = tt
  within_last (Some n) time lt = omega (arith, lt)

  past_due : (found : Option Window) (due : ℕ) → due ≡ past found → MatchOption found (due ≡ 0) (λ window. (time : ℕ) → time < due → MatchOption window.last ⊤ (λ last. time ≤ last))
  past_due None due is = is
  past_due (Some window) due is = λ time lt. within_last window.last time (subst (λ n. time < n) is lt)

  pub at_is_woken : (lit : Lit) (at : When) → first.item ≡ l.At lit at → (found : Option Window) → IsFound text node at found → (due : ℕ) → due ≡ first_of found →
      IsWake text node (record { awaited = None; due = due })
  at_is_woken lit at is found of due is_due = record {
    asleep = at_wakes lit at is found of due (first_due found due is_due);
    told = told_first (record { awaited = None; due = due }) (sym (ap awaited_in is)) (subst (IsDue text node due) (sym is) (found, of, is_due));
  }

  pub span_is_woken : (atom : Atom) (from to : When) → first.item ≡ l.Span atom from to → (found : Option Window) → IsFound text node from found → (due : ℕ) → due ≡ past found →
      (awaited : Awaited) → awaited ≡ record { name = atom.name; first = first_told atom.args } → IsWake text node (record { awaited = Some awaited; due = due })
  span_is_woken atom from to is found of due is_due awaited is_awaited = record {
    asleep = span_wakes atom from to is found of due (past_due found due is_due) awaited
        (λ s. subst (λ (a : Awaited). IsAwaited a (put_atom s atom)) (sym is_awaited) (instances_awaited atom s));
    told = told_first (record { awaited = Some awaited; due = due }) (ap Some is_awaited ∙ sym (ap awaited_in is)) (subst (IsDue text node due) (sym is) (found, of, is_due));
  }
