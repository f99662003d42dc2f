-- Ways by calls: along them levels never rise, and there is one least way and one cycle.
use Rattle.std.proofs.Common.{◌≡◌, ◌⊎◌, ℕ, ◌<◌, ◌≤◌, suc, zero, List, [], ◌∷◌, ◌++◌, length, Contains, Ordering, refl, sym, ap, subst, ◌∙◌, arith, inl, inr}
use Rattle.std.specs.List.{slice_index_or}
use Rattle.std.specs.declared.cmp.Ordering.TheVariants.{Less, Equal, Greater}
use Rattle.std.specs.Ordering.{ordering_reverse}
use Rattle.std.specs.Cmp.Lexicographic.{slice_cmp}
use Rattle.std.specs.FinMap.{slice_cmp-IsAntisymmetric}
use Rattle.std.proofs.lemmas.Cmp.{lists_total}
use Rattle.std.proofs.lemmas.List.Elements.{Contains-append_right}
use Rattle.lps_terms.specs.Names.{name_cmp}
use Rattle.lps_terms.specs.OrderLaws.{name_cmp_total, name_cmp-IsAntisymmetric}
use Rattle.lps_model.specs.Calls.{Call}
use Rattle.lps_model.specs.Levels.{AreCallLevels, IsLeastWay, IsWay}
use Rattle.lps_levels.specs.Laws.{CyclesAreUnique, LevelsExcludeCycles}

-- ---- elements

pub first_is_among : {X : Type 0} (x : X) (xs : List X) → Contains (x ∷ xs) x
first_is_among x xs = (0, omega arith, refl)

pub later_is_among : {X : Type 0} (x : X) (xs : List X) (y : X) → Contains xs y → Contains (x ∷ xs) y
later_is_among x xs y c = (suc c.0, omega (arith, c.1), c.2)

at_place : {X : Type 0} (x : X) (xs : List X) (y : X) (k : ℕ) → k < length (x ∷ xs) → slice_index_or (x ∷ xs) k y ≡ y → (x ≡ y) ⊎ Contains xs y
at_place x xs y zero lt same = inl same
at_place x xs y (suc k) lt same = inr (k, omega (arith, lt), same)

pub first_or_later : {X : Type 0} (x : X) (xs : List X) (y : X) → Contains (x ∷ xs) y → (x ≡ y) ⊎ Contains xs y
first_or_later x xs y c = at_place x xs y c.0 c.1 c.2

-- ---- levels

way_never_rises : (calls : List Call) (level : List ℕ → ℕ) → AreCallLevels calls level → (way : List (List ℕ)) (start end : List ℕ) → IsWay calls start end way → level end ≤ level start
way_never_rises calls level are [] start end w = omega (arith, ap level w)
way_never_rises calls level are (name ∷ names) start end w =
    let called = w.1.1 in
    let rest = way_never_rises calls level are names w.1.0 end w.1.2 in
    omega (arith, rest, (are called.call called.among).no_higher, ap level called.starts, ap level called.goes)

pub levels_exclude_cycles : LevelsExcludeCycles
levels_exclude_cycles calls level cycle are c =
    let back = way_never_rises calls level are c.way c.call.callee c.call.caller c.back.is_way in
    let among : Contains calls c.call = subst (λ cs. Contains cs c.call) (sym c.split) (Contains-append_right c.before (c.call ∷ c.after) c.call (first_is_among c.call c.after)) in
    absurd (omega (arith, back, (are c.call among).lower c.strict))

-- ---- uniqueness

not_either : (r s : Ordering) → r ≡ ordering_reverse s → (r ≡ Greater → ⊥) → (s ≡ Greater → ⊥) → r ≡ Equal
not_either Less Less e f g = absurd (cc)
not_either Less Equal e f g = absurd (cc)
not_either Less Greater e f g = absurd (g refl)
not_either Equal s e f g = refl
not_either Greater s e f g = absurd (f refl)

least_ways_are_same : (calls : List Call) (start end : List ℕ) (one other : List (List ℕ)) → IsLeastWay calls start end one → IsLeastWay calls start end other → one ≡ other
least_ways_are_same calls start end one other a b =
    let le : length one ≤ length other = a.shortest other b.is_way in
    let ge : length other ≤ length one = b.shortest one a.is_way in
    let long : length other ≡ length one = omega (arith, le, ge) in
    slice_cmp-IsAntisymmetric name_cmp-IsAntisymmetric one other
    (not_either (slice_cmp name_cmp one other) (slice_cmp name_cmp other one) ((lists_total name_cmp_total).antisymm one other)
    (a.least other b.is_way long) (b.least one a.is_way (sym long)))

split_cases : {X : Type 0} (before : List X) (x : X) (after : List X) (before' : List X) (x' : X) (after' : List X) → before ++ x ∷ after ≡ before' ++ x' ∷ after'
    → Contains before' x ⊎ (Contains before x' ⊎ (x ≡ x'))
split_cases [] x after [] x' after' e = inr (inr cc)
split_cases [] x after (y ∷ ys) x' after' e = let same : x ≡ y = cc in inl (subst (λ z. Contains (y ∷ ys) z) (sym same) (first_is_among y ys))
split_cases (y ∷ ys) x after [] x' after' e = let same : y ≡ x' = cc in inr (inl (subst (λ z. Contains (y ∷ ys) z) same (first_is_among y ys)))
split_cases (y ∷ ys) x after (z ∷ zs) x' after' e = by (split_cases ys x after zs x' after' cc)
  where
    by : Contains zs x ⊎ (Contains ys x' ⊎ (x ≡ x')) → Contains (z ∷ zs) x ⊎ (Contains (y ∷ ys) x' ⊎ (x ≡ x'))
    by (inl c) = inl (later_is_among z zs x c)
    by (inr (inl c)) = inr (inl (later_is_among y ys x' c))
    by (inr (inr same)) = inr (inr same)

pub cycles_are_unique : CyclesAreUnique
cycles_are_unique calls one other a b = by (split_cases a.before a.call a.after b.before b.call b.after (sym a.split ∙ b.split))
  where
    by : Contains b.before a.call ⊎ (Contains a.before b.call ⊎ (a.call ≡ b.call)) → one ≡ other
    by (inl earlier) = absurd (b.first a.call earlier a.strict a.way a.back.is_way)
    by (inr (inl earlier)) = absurd (a.first b.call earlier b.strict b.way b.back.is_way)
    by (inr (inr same)) =
        let back : IsLeastWay calls a.call.callee a.call.caller b.way = subst (λ c. IsLeastWay calls c.callee c.caller b.way) (sym same) b.back in
        let ways : a.way ≡ b.way = least_ways_are_same calls a.call.callee a.call.caller a.way b.way a.back back in
        a.around ∙ (λ i. (same i).caller ∷ ways i) ∙ sym b.around
