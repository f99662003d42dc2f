-- The slots of variables after an addition, and after one is taken back.
use Rattle.std.proofs.Common.{ℕ, Bool, true, false, nat_eq, nat_lt, ◌≡◌, ◌≢◌, ◌+◌, ◌-◌, ◌<◌, ◌≤◌, List, [], ◌∷◌, ◌++◌, Option, None, Some, length, take, get_or, refl, sym, ap, ◌∙◌, arith, subst, length-append}
use Rattle.std.specs.Prelude.{zero, suc, ◌||◌}
use Rattle.std.proofs.Math.ListN.{set, get_or-append}
use Rattle.std.proofs.lemmas.Bool.Decides.{nat_tests}
use Rattle.std.proofs.lemmas.List.{get_or-set_same, get_or-set_other, length-set, get_or_push, get_or-take, length-take, length_push, get_or-append_right}
use Rattle.lps_terms.specs.declared.term.Term.{Term}
use Rattle.lps_terms.specs.Put.{put}
use Rattle.lps_unify.specs.declared.added.Added.{Added}
use Rattle.lps_unify.specs.declared.added.Added.TheVariants.{Bind, More}
use Rattle.lps_unify.specs.Bindings.{TrailedBindings, Standing, start, next, standing, count_of, IsBindable}
use Rattle.lps_unify.specs.Slots.{free_slots, BindsAt, IsKept, IsBound, IsFree}
use Rattle.lps_unify.proofs.Standings.{over_append, are_next_append, are_next_split, each_at, IsPlaced, sound, or_false, both_false, goes_through}

abbrev pub trailed : ℕ → List Added → TrailedBindings
trailed first added = record { first = first; added = added }

pub length_free : (n : ℕ) → length (free_slots n) ≡ n
length_free zero = refl
length_free (suc n) = ap suc (length_free n)

pub free_at : (n i : ℕ) → get_or (free_slots n) i None ≡ None
free_at zero i = refl
free_at (suc n) zero = refl
free_at (suc n) (suc i) = free_at n i

pub free_push : (n : ℕ) → free_slots n ++ None ∷ [] ≡ free_slots (suc n)
free_push zero = refl
free_push (suc n) = ap (λ xs. None ∷ xs) (free_push n)

pub append_none : {X : Type 0} (xs : List X) → xs ++ [] ≡ xs
append_none [] = refl
append_none (x ∷ xs) = ap (λ ys. x ∷ ys) (append_none xs)

numbers_differ : (v w : ℕ) → nat_eq v w ≡ false → w ≢ v
numbers_differ v w e = λ same. absurd (let yes : nat_eq v w ≡ true = grind (arith, nat_tests) in cc)

same_place : (i j : ℕ) → Some i ≡ Some j → i ≡ j
same_place i j e = cc

no_place : (i : ℕ) → Some i ≡ None → ⊥
no_place i e = cc

-- how bindings stand after one addition more
then_standing : (first : ℕ) (added : List Added) (entry : Added) → standing (trailed first (added ++ entry ∷ [])) ≡ next (standing (trailed first added)) entry
then_standing first added entry = over_append (start first) added (entry ∷ [])

pub kept_start : (n : ℕ) → IsKept (free_slots n) (trailed n [])
kept_start n = record {
  lawful = tt;
  each = length_free n;
  bound = λ v i lt e. absurd (no_place i (sym e ∙ free_at n v));
  free = λ v lt e. refl;
}

binds_longer : (added : List Added) (entry : Added) (i v : ℕ) → BindsAt added i v → BindsAt (added ++ entry ∷ []) i v
binds_longer added entry i v h =
    (let lt = h.0 in omega (arith, length_push added entry), (h.1.0, get_or-append added (entry ∷ []) (More 0) i h.0 ∙ h.1.1))

module _ (first : ℕ) (added : List Added) (slots : List (Option ℕ)) (kept : IsKept slots (trailed first added)) where
  abbrev before : Standing
  before = standing (trailed first added)

  -- a variable is bound
  bind_each : (v : ℕ) (u : Term) → length (set slots v (Some (length added))) ≡ count_of (trailed first (added ++ Bind v u ∷ []))
  bind_each v u = length-set slots v (Some (length added)) ∙ kept.each ∙ sym (ap (λ (st : Standing). st.count) (then_standing first added (Bind v u)))

  pub kept_bind : (v : ℕ) (u : Term) → IsBindable before v u → IsKept (set slots v (Some (length added))) (trailed first (added ++ Bind v u ∷ []))
  kept_bind v u here = record {
    lawful = are_next_append (start first) added (Bind v u ∷ []) kept.lawful (here, tt);
    each = bind_each v u;
    bound = λ w i lt e. bound w i (subst (λ n. w < n) (length-set slots v (Some (length added))) lt) e (nat_eq v w) refl;
    free = λ w lt e.
        ap (λ (st : Standing). st.is_bound w) (then_standing first added (Bind v u))
        ∙ free w (subst (λ n. w < n) (length-set slots v (Some (length added))) lt) e (nat_eq v w) refl;
  }
    where
      in_slots : v < length slots
      in_slots = let range = here.in_range in let each = kept.each in omega arith

      bound : (w i : ℕ) → w < length slots → get_or (set slots v (Some (length added))) w None ≡ Some i → (b : Bool) → nat_eq v w ≡ b → BindsAt (added ++ Bind v u ∷ []) i w
      bound w i lt e true is =
          let same : v ≡ w = grind (arith, nat_tests) in
          let place : length added ≡ i = same_place (length added) i (sym (get_or-set_same slots v (Some (length added)) None in_slots) ∙ ap (λ k. get_or (set slots v (Some (length added))) k None) same ∙ e) in
          subst (λ k. BindsAt (added ++ Bind v u ∷ []) i k) same
          (subst (λ k. BindsAt (added ++ Bind v u ∷ []) k v) place (omega (arith, length_push added (Bind v u)), (u, get_or_push added (Bind v u) (More 0) (length added) refl)))
      bound w i lt e false is =
          binds_longer added (Bind v u) i w (kept.bound w i lt (sym (get_or-set_other slots v w (Some (length added)) None (numbers_differ v w is)) ∙ e))

      free : (w : ℕ) → w < length slots → get_or (set slots v (Some (length added))) w None ≡ None → (b : Bool) → nat_eq v w ≡ b → (nat_eq v w || before.is_bound w) ≡ false
      free w lt e true is =
          let same : v ≡ w = grind (arith, nat_tests) in
          absurd (no_place (length added) (sym (get_or-set_same slots v (Some (length added)) None in_slots) ∙ ap (λ k. get_or (set slots v (Some (length added))) k None) same ∙ e))
      free w lt e false is =
          both_false (nat_eq v w) (before.is_bound w) is (kept.free w lt (sym (get_or-set_other slots v w (Some (length added)) None (numbers_differ v w is)) ∙ e))

  -- there are more variables
  pub kept_more : (n : ℕ) → IsKept (slots ++ free_slots n) (trailed first (added ++ More n ∷ []))
  kept_more n = record {
    lawful = are_next_append (start first) added (More n ∷ []) kept.lawful (tt, tt);
    each =
        let each = kept.each in
        let longer : length (slots ++ free_slots n) ≡ before.count + n = omega (arith, length-append slots (free_slots n), length_free n) in
        longer ∙ sym (ap (λ (st : Standing). st.count) (then_standing first added (More n)));
    bound = λ w i lt e. bound w i e (nat_lt w (length slots)) refl;
    free = λ w lt e. ap (λ (st : Standing). st.is_bound w) (then_standing first added (More n)) ∙ free w e (nat_lt w (length slots)) refl;
  }
    where
      bound : (w i : ℕ) → get_or (slots ++ free_slots n) w None ≡ Some i → (b : Bool) → nat_lt w (length slots) ≡ b → BindsAt (added ++ More n ∷ []) i w
      bound w i e true is =
          let lt : w < length slots = grind (arith, nat_tests) in
          binds_longer added (More n) i w (kept.bound w i lt (sym (get_or-append slots (free_slots n) None w lt) ∙ e))
      bound w i e false is =
          let le : length slots ≤ w = grind (arith, nat_tests) in
          absurd (no_place i (sym e ∙ get_or-append_right slots (free_slots n) (length slots) w None refl le ∙ free_at n (w - length slots)))

      free : (w : ℕ) → get_or (slots ++ free_slots n) w None ≡ None → (b : Bool) → nat_lt w (length slots) ≡ b → before.is_bound w ≡ false
      free w e true is =
          let lt : w < length slots = grind (arith, nat_tests) in
          kept.free w lt (sym (get_or-append slots (free_slots n) None w lt) ∙ e)
      free w e false is =
          let le : length slots ≤ w = grind (arith, nat_tests) in
          let each = kept.each in
          (sound (trailed first added) kept.lawful).beyond w (omega arith)

-- ---- the last addition taken back

binds_shorter : (front : List Added) (entry : Added) (i v : ℕ) → BindsAt (front ++ entry ∷ []) i v → ((u : Term) → entry ≡ Bind v u → ⊥) → BindsAt front i v
binds_shorter front entry i v h other = by (nat_lt i (length front)) refl
  where
    by : (b : Bool) → nat_lt i (length front) ≡ b → BindsAt front i v
    by true is =
        let lt : i < length front = grind (arith, nat_tests) in
        (lt, (h.1.0, sym (get_or-append front (entry ∷ []) (More 0) i lt) ∙ h.1.1))
    by false is =
        let le : length front ≤ i = grind (arith, nat_tests) in
        let lt = h.0 in
        let at : length front ≡ i = omega (arith, length_push front entry) in
        absurd (other h.1.0 (sym (get_or_push front entry (More 0) i at) ∙ h.1.1))

no_bind : (n v : ℕ) (u : Term) → More n ≡ Bind v u → ⊥
no_bind n v u e = cc

other_bind : (v w : ℕ) (u x : Term) → nat_eq v w ≡ false → Bind v u ≡ Bind w x → ⊥
other_bind v w u x e same = let is : v ≡ w = cc in numbers_differ v w e (sym is)

module _ (first : ℕ) (front : List Added) (slots : List (Option ℕ)) where
  pub unbind : (v : ℕ) (u : Term) → IsKept slots (trailed first (front ++ Bind v u ∷ [])) → (v < length slots) × IsKept (set slots v None) (trailed first front)
  unbind v u kept =
      let split = are_next_split (start first) front (Bind v u ∷ []) kept.lawful in
      let here : IsBindable (standing (trailed first front)) v u = split.1.0 in
      let each = kept.each ∙ ap (λ (st : Standing). st.count) (then_standing first front (Bind v u)) in
      let range = here.in_range in
      let in_slots : v < length slots = omega arith in (
        in_slots,
        record {
          lawful = split.0;
          each = length-set slots v None ∙ each;
          bound = λ w i lt e. bound kept in_slots w i (subst (λ n. w < n) (length-set slots v None) lt) e (nat_eq v w) refl;
          free = λ w lt e. free kept here w (subst (λ n. w < n) (length-set slots v None) lt) e (nat_eq v w) refl;
        },
      )
    where
      bound : IsKept slots (trailed first (front ++ Bind v u ∷ [])) → v < length slots → (w i : ℕ) → w < length slots → get_or (set slots v None) w None ≡ Some i →
          (b : Bool) → nat_eq v w ≡ b → BindsAt front i w
      bound kept in_slots w i lt e true is =
          let same : v ≡ w = grind (arith, nat_tests) in
          absurd (no_place i (sym e ∙ ap (λ k. get_or (set slots v None) k None) (sym same) ∙ get_or-set_same slots v None None in_slots))
      bound kept in_slots w i lt e false is =
          binds_shorter front (Bind v u) i w (kept.bound w i lt (sym (get_or-set_other slots v w None None (numbers_differ v w is)) ∙ e)) (λ x same. other_bind v w u x is same)

      free : IsKept slots (trailed first (front ++ Bind v u ∷ [])) → IsBindable (standing (trailed first front)) v u → (w : ℕ) → w < length slots → get_or (set slots v None) w None ≡ None →
          (b : Bool) → nat_eq v w ≡ b → (standing (trailed first front)).is_bound w ≡ false
      free kept here w lt e true is =
          let same : v ≡ w = grind (arith, nat_tests) in
          subst (λ k. (standing (trailed first front)).is_bound k ≡ false) same here.free
      free kept here w lt e false is =
          (or_false (nat_eq v w) ((standing (trailed first front)).is_bound w)
          (sym (ap (λ (st : Standing). st.is_bound w) (then_standing first front (Bind v u)))
          ∙ kept.free w lt (sym (get_or-set_other slots v w None None (numbers_differ v w is)) ∙ e))).1

  pub fewer : (n : ℕ) → IsKept slots (trailed first (front ++ More n ∷ [])) → (n ≤ length slots) × IsKept (take (length slots - n) slots) (trailed first front)
  fewer n kept =
      let split = are_next_split (start first) front (More n ∷ []) kept.lawful in
      let each : length slots ≡ count_of (trailed first front) + n = kept.each ∙ ap (λ (st : Standing). st.count) (then_standing first front (More n)) in (
        omega arith,
        record {
          lawful = split.0;
          each = omega (arith, length-take (length slots - n) slots);
          bound = λ w i lt e.
              let below : w < length slots - n = omega (arith, length-take (length slots - n) slots) in
              binds_shorter front (More n) i w (kept.bound w i (omega arith) (sym (get_or-take (length slots - n) slots w None below) ∙ e)) (λ x same. no_bind n w x same);
          free = λ w lt e.
              let below : w < length slots - n = omega (arith, length-take (length slots - n) slots) in
              sym (ap (λ (st : Standing). st.is_bound w) (then_standing first front (More n)))
              ∙ kept.free w (omega arith) (sym (get_or-take (length slots - n) slots w None below) ∙ e);
        },
      )

-- ---- looking up

any_default : {X : Type 0} (xs : List X) (k : ℕ) (d e : X) → k < length xs → get_or xs k d ≡ get_or xs k e
any_default [] k d e lt = absurd (omega arith)
any_default (x ∷ xs) zero d e lt = refl
any_default (x ∷ xs) (suc k) d e lt = any_default xs k d e (omega arith)

-- what was read at v
pub slot_same : (slots : List (Option ℕ)) (v : ℕ) (x at : Option ℕ) → v < length slots → x ≡ get_or slots v x → x ≡ at → get_or slots v None ≡ at
slot_same slots v x at lt read is = any_default slots v None x lt ∙ sym read ∙ is

same_term : (v w : ℕ) (u x : Term) → Bind v u ≡ Bind w x → u ≡ x
same_term v w u x e = cc

pub looked_up : (b : TrailedBindings) (slots : List (Option ℕ)) (v i w : ℕ) (u : Term) (d : Added) → IsKept slots b → v < length slots → get_or slots v None ≡ Some i →
    get_or b.added i d ≡ Bind w u → IsBound b v u
looked_up b slots v i w u d kept lt at is =
    let binds = kept.bound v i lt at in
    let term : binds.1.0 ≡ u = same_term v w binds.1.0 u (sym binds.1.1 ∙ any_default b.added i (More 0) d binds.0 ∙ is) in
    let placed = each_at (IsPlaced (standing b)) b.added i (More 0) v binds.1.0 (sound b kept.lawful).placed binds.0 binds.1.1 in
    let found : IsBound b v binds.1.0 = record {
      solved = λ s solves. each_at (λ w x. s w ≡ put s x) b.added i (More 0) v binds.1.0 solves binds.0 binds.1.1;
      value = placed.value;
      smaller = placed.smaller;
      within = placed.within;
    } in
    subst (IsBound b v) term found

pub is_free : (b : TrailedBindings) (slots : List (Option ℕ)) (v : ℕ) → IsKept slots b → v < length slots → get_or slots v None ≡ None → IsFree b v
is_free b slots v kept lt at = record { unbound = kept.free v lt at; value = (sound b kept.lawful).free v (kept.free v lt at); through = goes_through b kept.lawful }
