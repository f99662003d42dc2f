-- Constraints whose times are all known do not matter to steps: what is left with some of them and without makes the same steps.
use Rattle.std.proofs.Common.{ℕ, Bool, true, false, cond, ◌≡◌, List, [], ◌∷◌, ◌++◌, ◌∙◌, map, refl, sym, ap, subst}
use Rattle.std.specs.Prelude.{◌||◌}
use Rattle.std.specs.List.{AllByRecursion, filter, flat_map}
use Rattle.lps_terms.specs.declared.term.Term.{Term}
use Rattle.lps_terms.specs.declared.text.Text.{Text}
use Rattle.lps_model.specs.declared.trace.Trace.{Trace}
use Rattle.lps_model.specs.Rules.{MacroClause}
use Rattle.lps_meaning.specs.declared.node.Left.{Left}
use Rattle.lps_meaning.specs.declared.node.LeftCon.{LeftCon}
use Rattle.lps_meaning.specs.declared.when.When.{When}
use Rattle.lps_meaning.specs.declared.when.When.TheVariants.{Known, Unknown}
use Rattle.lps_nodes.specs.Alone.{Alone, stay, meet, enter, Stage, with_shape}
use Rattle.lps_nodes.specs.Conditions.{IsLeftLimit}
use Rattle.lps_nodes.specs.Led.{AreMetNow}
use Rattle.lps_nodes.specs.Shapes.{Shape, con_of, is_unknown, put_left_con, put_shape, untested}
use Rattle.lps_nodes.specs.Steps.{PassesTo, Unfolds, UnfoldsTo, in_front}
use Rattle.lps_meaning.proofs.Lists.{of_filter}
use Rattle.lps_meaning.proofs.Occurrences.{all_behind, all_front, all_joined}
use Rattle.lps_nodes.proofs.NodeLaws.{map_two}
use Rattle.lps_nodes.proofs.ShapeLaws.{map_append}

-- ---- constraints

abbrev pub is_open : LeftCon → Bool
is_open con = is_unknown con.left || is_unknown con.right

abbrev pub open_limits : List LeftCon → List LeftCon
open_limits = filter is_open

true_false : true ≡ false → ⊥
true_false e = cc

-- a constraint whose times are all known stays as it is
pub known_stays : (x : ℕ → When) (con : LeftCon) → is_open con ≡ false → put_left_con x con ≡ con
known_stays x con none = by con.left con.right refl refl
  where
    by : (left right : When) → con.left ≡ left → con.right ≡ right → put_left_con x con ≡ con
    by (Known n) (Known m) one two =
        (λ j. put_left_con x (record { left = one j; rel = con.rel; right = two j; plus = con.plus })) ∙ (λ j. record { left = sym one j; rel = con.rel; right = sym two j; plus = con.plus })
    by (Unknown k) right one two = absurd (true_false (sym (ap (λ time. is_unknown time || is_unknown con.right) one) ∙ none))
    by (Known n) (Unknown k) one two = absurd (true_false (sym (λ j. is_unknown (one j) || is_unknown (two j)) ∙ none))

-- those that are open with something put in are among those that were open
open_after : (x : ℕ → When) (limits : List LeftCon) → open_limits (map (put_left_con x) limits) ≡ open_limits (map (put_left_con x) (open_limits limits))
open_after x [] = refl
open_after x (con ∷ limits) = by (open_after x limits) (is_open con) refl
  where
    by : open_limits (map (put_left_con x) limits) ≡ open_limits (map (put_left_con x) (open_limits limits)) → (b : Bool) → is_open con ≡ b →
        open_limits (put_left_con x con ∷ map (put_left_con x) limits) ≡ open_limits (map (put_left_con x) (cond b (con ∷ open_limits limits) (open_limits limits)))
    by more true is = λ j. cond (is_open (put_left_con x con)) (put_left_con x con ∷ more j) (more j)
    by more false is =
        ap (λ b. cond b (put_left_con x con ∷ open_limits (map (put_left_con x) limits)) (open_limits (map (put_left_con x) limits))) (ap is_open (known_stays x con is) ∙ is) ∙ more

open_same : (x : ℕ → When) (one other : List LeftCon) → open_limits one ≡ open_limits other → open_limits (map (put_left_con x) one) ≡ open_limits (map (put_left_con x) other)
open_same x one other same = open_after x one ∙ ap (λ limits. open_limits (map (put_left_con x) limits)) same ∙ sym (open_after x other)

-- what is so of each open constraint, and of each that is not, is so of all
of_open : (P : LeftCon → Type 0) → ((con : LeftCon) → is_open con ≡ false → P con) → (limits : List LeftCon) → AllByRecursion P (open_limits limits) → AllByRecursion P limits
of_open P known [] h = tt
of_open P known (con ∷ limits) h = by (of_open P known limits) (is_open con) refl h
  where
    by : (AllByRecursion P (open_limits limits) → AllByRecursion P limits) → (b : Bool) → is_open con ≡ b → AllByRecursion P (cond b (con ∷ open_limits limits) (open_limits limits)) →
        AllByRecursion P (con ∷ limits)
    by more true is h = (h.0, more h.1)
    by more false is h = (known con is, more h)

abbrev first_or : LeftCon → List LeftCon → LeftCon
first_or d [] = d
first_or d (con ∷ limits) = con

abbrev behind_first : List LeftCon → List LeftCon
behind_first [] = []
behind_first (con ∷ limits) = limits

-- two ways to change the same constraints, with more behind them
maps_agree : (f h : LeftCon → LeftCon) (limits more others : List LeftCon) → map f limits ++ more ≡ map h limits ++ others → AllByRecursion (λ con. f con ≡ h con) limits × (more ≡ others)
maps_agree f h [] more others e = (tt, e)
maps_agree f h (con ∷ limits) more others e =
    let rest = maps_agree f h limits more others (ap behind_first e) in ((ap (first_or (f con)) e, rest.0), rest.1)

agreeing_maps : (f h : LeftCon → LeftCon) (limits : List LeftCon) → AllByRecursion (λ con. f con ≡ h con) limits → map f limits ≡ map h limits
agreeing_maps f h [] e = refl
agreeing_maps f h (con ∷ limits) e = λ j. e.0 j ∷ agreeing_maps f h limits e.1 j

-- what is put in, as two steps, for some constraints is so for others that differ in known ones
two_steps : (z x c : ℕ → When) (one other : List LeftCon) → open_limits one ≡ open_limits other → AllByRecursion (λ con. put_left_con z con ≡ put_left_con c (put_left_con x con)) one →
    map (put_left_con z) other ≡ map (put_left_con c) (map (put_left_con x) other)
two_steps z x c one other same h =
    agreeing_maps (put_left_con z) (λ con. put_left_con c (put_left_con x con)) other
    (of_open (λ con. put_left_con z con ≡ put_left_con c (put_left_con x con))
    (λ con none. known_stays z con none ∙ sym (ap (put_left_con c) (known_stays x con none) ∙ known_stays c con none)) other
    (subst (AllByRecursion (λ con. put_left_con z con ≡ put_left_con c (put_left_con x con))) same (of_filter (λ con. put_left_con z con ≡ put_left_con c (put_left_con x con)) is_open one h)))
    ∙ sym (map_two (put_left_con c) (put_left_con x) other)

-- ---- known constraints that are true

-- the constraint is true, if its times are all known
abbrev pub IsKnownTrue : LeftCon → Type 0
IsKnownTrue con = is_open con ≡ false → IsLeftLimit (λ k. 0) con

abbrev pub AreKnownTrue : List LeftCon → Type 0
AreKnownTrue = AllByRecursion IsKnownTrue

known_back : (x : ℕ → When) (limits : List LeftCon) → AreKnownTrue (map (put_left_con x) limits) → AreKnownTrue limits
known_back x [] h = tt
known_back x (con ∷ limits) h =
    (λ none. subst (IsLeftLimit (λ k. 0)) (known_stays x con none) (h.0 (ap is_open (known_stays x con none) ∙ none)), known_back x limits h.1)

known_open : (x : ℕ → When) (limits : List LeftCon) → AreKnownTrue (map (put_left_con x) limits) → AreKnownTrue (map (put_left_con x) (open_limits limits))
known_open x [] h = tt
known_open x (con ∷ limits) h = by (known_open x limits h.1) (is_open con)
  where
    by : AreKnownTrue (map (put_left_con x) (open_limits limits)) → (b : Bool) → AreKnownTrue (map (put_left_con x) (cond b (con ∷ open_limits limits) (open_limits limits)))
    by more true = (h.0, more)
    by more false = more

known_whole : (x : ℕ → When) (limits : List LeftCon) → AreKnownTrue limits → AreKnownTrue (map (put_left_con x) (open_limits limits)) → AreKnownTrue (map (put_left_con x) limits)
known_whole x [] known h = tt
known_whole x (con ∷ limits) known h = by (known_whole x limits known.1) (is_open con) refl h
  where
    by : (AreKnownTrue (map (put_left_con x) (open_limits limits)) → AreKnownTrue (map (put_left_con x) limits)) → (b : Bool) → is_open con ≡ b →
        AreKnownTrue (map (put_left_con x) (cond b (con ∷ open_limits limits) (open_limits limits))) → AreKnownTrue (map (put_left_con x) (con ∷ limits))
    by more true is h = (h.0, more h.1)
    by more false is h = (λ none. subst (IsLeftLimit (λ k. 0)) (sym (known_stays x con is)) (known.0 is), more h)

-- where others that differ in known ones are true with these, they are so with something put in
fit_put : (x : ℕ → When) (one other : List LeftCon) → open_limits one ≡ open_limits other → (AreKnownTrue one → AreKnownTrue other) → AreKnownTrue (map (put_left_con x) one) →
    AreKnownTrue (map (put_left_con x) other)
fit_put x one other same fit h =
    known_whole x other (fit (known_back x one h)) (subst (λ limits. AreKnownTrue (map (put_left_con x) limits)) same (known_open x one h))

-- ---- single steps

module _ (g k : Shape) (same : untested g ≡ untested k) where
  limits_same : open_limits g.limits ≡ open_limits k.limits
  limits_same = ap (λ (z : Shape). z.limits) same

  abbrev carry_to : (v : ℕ → Term) (x : ℕ → When) → (put_shape v x g).carry ≡ (put_shape v x k).carry
  carry_to v x = ap (λ (z : Shape). (put_shape v x z).carry) same

  abbrev rest_to : (v : ℕ → Term) (x : ℕ → When) → (put_shape v x g).rest ≡ (put_shape v x k).rest
  rest_to v x = ap (λ (z : Shape). (put_shape v x z).rest) same

  -- known constraints of the one that are true with those of the other
  abbrev Fits : Shape → Shape → Type 0
  Fits h m = (AreKnownTrue g.limits → AreKnownTrue k.limits) → AreKnownTrue h.limits → AreKnownTrue m.limits

  pub pass_tested : (ls : List Left) (h : Shape) → PassesTo ls g h → (m : Shape) × PassesTo ls k m × (untested h ≡ untested m) × Fits h m
  pass_tested ls h step =
      let own_limits : h.limits ≡ map (put_left_con step.x) g.limits = sym (ap (λ (z : Shape). z.limits) step.own) in
      let m : Shape = record { carry = h.carry; rest = h.rest; limits = map (put_left_con step.x) k.limits } in (
        m,
        record {
          v = step.v;
          x = step.x;
          own = λ j. record {
            carry = (sym (carry_to step.v step.x) ∙ ap (λ (z : Shape). z.carry) step.own) j;
            rest = (sym (rest_to step.v step.x) ∙ ap (λ (z : Shape). z.rest) step.own) j;
            limits = map (put_left_con step.x) k.limits;
          };
          general = λ y z n e.
              let n' : Shape = record { carry = n.carry; rest = n.rest; limits = map (put_left_con z) g.limits } in
              let e' : put_shape y z g ≡ in_front ls n' = λ j. record {
                carry = (carry_to y z ∙ ap (λ (z : Shape). z.carry) e) j;
                rest = (rest_to y z ∙ ap (λ (z : Shape). z.rest) e) j;
                limits = map (put_left_con z) g.limits;
              } in
              let r = step.general y z n' e' in
              let whole : map (put_left_con z) g.limits ≡ map (put_left_con r.1) (map (put_left_con step.x) g.limits) = ap (λ (z : Shape). z.limits) r.2 ∙ ap (map (put_left_con r.1)) own_limits in
              let limits = sym (ap (λ (z : Shape). z.limits) e) ∙ two_steps z step.x r.1 g.limits k.limits limits_same (by_each z step.x r.1 whole) in
              (r.0, r.1, λ j. record { carry = (r.2 j).carry; rest = (r.2 j).rest; limits = limits j });
        },
        λ j. record { carry = h.carry; rest = h.rest; limits = (ap open_limits own_limits ∙ open_same step.x g.limits k.limits limits_same) j },
        λ fit known. fit_put step.x g.limits k.limits limits_same fit (subst AreKnownTrue own_limits known),
      )
    where
      append_none : (limits : List LeftCon) → limits ++ [] ≡ limits
      append_none [] = refl
      append_none (con ∷ limits) = ap (λ more. con ∷ more) (append_none limits)

      by_each : (z x c : ℕ → When) → map (put_left_con z) g.limits ≡ map (put_left_con c) (map (put_left_con x) g.limits) →
          AllByRecursion (λ con. put_left_con z con ≡ put_left_con c (put_left_con x con)) g.limits
      by_each z x c e =
          (maps_agree (put_left_con z) (λ con. put_left_con c (put_left_con x con)) g.limits [] [] (ap (λ limits. limits ++ []) (e ∙ map_two (put_left_con c) (put_left_con x) g.limits))).0

  pub unfold_tested : (text : Text) (clause : MacroClause) (h : Shape) → UnfoldsTo text clause g h → (m : Shape) × UnfoldsTo text clause k m × (untested h ≡ untested m) × Fits h m
  unfold_tested text clause h step =
      let body : List LeftCon = flat_map (con_of step.w) clause.items in
      let own_limits : h.limits ≡ map (put_left_con step.x) g.limits ++ body = ap (λ (z : Shape). z.limits) step.own.body in
      let m : Shape = record { carry = h.carry; rest = h.rest; limits = map (put_left_con step.x) k.limits ++ body } in (
        m,
        record {
          v = step.v;
          x = step.x;
          u = step.u;
          w = step.w;
          own = record {
            nest = step.own.nest;
            rest = step.own.rest;
            call = sym (rest_to step.v step.x) ∙ step.own.call;
            body = λ j. record {
              carry = (ap (λ (z : Shape). z.carry) step.own.body ∙ carry_to step.v step.x) j;
              rest = (step.own.body j).rest;
              limits = map (put_left_con step.x) k.limits ++ body;
            };
          };
          general = λ y z u w n unfolds.
              let added : List LeftCon = flat_map (con_of w) clause.items in
              let n' : Shape = record { carry = n.carry; rest = n.rest; limits = map (put_left_con z) g.limits ++ added } in
              let unfolds' : Unfolds text clause u w (put_shape y z g) n' = record {
                nest = unfolds.nest;
                rest = unfolds.rest;
                call = rest_to y z ∙ unfolds.call;
                body = λ j. record {
                  carry = (ap (λ (z : Shape). z.carry) unfolds.body ∙ sym (carry_to y z)) j;
                  rest = (unfolds.body j).rest;
                  limits = map (put_left_con z) g.limits ++ added;
                };
              } in
              let r = step.general y z u w n' unfolds' in
              let whole : map (put_left_con z) g.limits ++ added ≡ map (λ con. put_left_con r.1 (put_left_con step.x con)) g.limits ++ map (put_left_con r.1) body =
              ap (λ (z : Shape). z.limits) r.2 ∙ ap (map (put_left_con r.1)) own_limits ∙ map_append (put_left_con r.1) (map (put_left_con step.x) g.limits) body
              ∙ ap (λ limits. limits ++ map (put_left_con r.1) body) (map_two (put_left_con r.1) (put_left_con step.x) g.limits) in
              let agree = maps_agree (put_left_con z) (λ con. put_left_con r.1 (put_left_con step.x con)) g.limits added (map (put_left_con r.1) body) whole in
              let front = two_steps z step.x r.1 g.limits k.limits limits_same agree.0 in
              let limits = ap (λ (z : Shape). z.limits) unfolds.body ∙ (λ j. front j ++ agree.1 j) ∙ sym (map_append (put_left_con r.1) (map (put_left_con step.x) k.limits) body) in
              (r.0, r.1, λ j. record { carry = (r.2 j).carry; rest = (r.2 j).rest; limits = limits j });
        },
        λ j. record {
          carry = h.carry;
          rest = h.rest;
          limits = (ap open_limits own_limits ∙ open_joined (map (put_left_con step.x) g.limits) (map (put_left_con step.x) k.limits) body (open_same step.x g.limits k.limits limits_same)) j;
        },
        λ fit known.
            let whole = subst AreKnownTrue own_limits known in
            all_joined IsKnownTrue (map (put_left_con step.x) k.limits) body
            (fit_put step.x g.limits k.limits limits_same fit (all_front IsKnownTrue (map (put_left_con step.x) g.limits) body whole)) (all_behind IsKnownTrue (map (put_left_con step.x) g.limits) body whole),
      )
    where
      open_append : (one more : List LeftCon) → open_limits (one ++ more) ≡ open_limits one ++ open_limits more
      open_append [] more = refl
      open_append (con ∷ one) more = by (open_append one more) (is_open con)
        where
          by : open_limits (one ++ more) ≡ open_limits one ++ open_limits more → (b : Bool) →
              cond b (con ∷ open_limits (one ++ more)) (open_limits (one ++ more)) ≡ cond b (con ∷ open_limits one) (open_limits one) ++ open_limits more
          by same true = ap (λ limits. con ∷ limits) same
          by same false = same

      open_joined : (one other more : List LeftCon) → open_limits one ≡ open_limits other → open_limits (one ++ more) ≡ open_limits (other ++ more)
      open_joined one other more same = open_append one more ∙ ap (λ limits. limits ++ open_limits more) same ∙ sym (open_append other more)

-- ---- steps alone

-- the same items are met, and known constraints are true behind the steps where they are without the others
pub alone_tested : (text : Text) (level : List ℕ → ℕ) (trace : Trace) (depth now : ℕ) {end x : Stage} (steps : Alone text level trace depth now end x) → (k : Shape) → untested x.shape ≡ untested k →
    (h : Shape) × (on : Alone text level trace depth now (with_shape end h) (with_shape x k)) × (untested end.shape ≡ untested h) × (AreMetNow steps → AreMetNow on)
    × ((AreKnownTrue x.shape.limits → AreKnownTrue k.limits) → AreKnownTrue end.shape.limits → AreKnownTrue h.limits)
alone_tested text level trace depth now stay k same = (k, stay, same, λ met. tt, λ fit. fit)
alone_tested text level trace depth now {x = x} (meet first behind met h is_first told is_true small placed step more) k same =
    let s = pass_tested x.shape k same (met ∷ []) h step in
    let r = alone_tested text level trace depth now more s.0 s.2 in (
      r.0,
      meet first behind met s.0 (sym (ap (λ (z : Shape). z.rest) same) ∙ is_first) told is_true small placed s.1 r.1,
      r.2,
      λ mets. (mets.0, r.3 mets.1),
      λ fit. r.4 (s.3 fit),
    )
alone_tested text level trace depth now {x = x} (enter first behind a from to number clause h is_first item macro deep named small step more) k same =
    let s = unfold_tested x.shape k same text clause h step in
    let r = alone_tested text level trace depth now more s.0 s.2 in (
      r.0,
      enter first behind a from to number clause s.0 (sym (ap (λ (z : Shape). z.rest) same) ∙ is_first) item macro deep named small s.1 r.1,
      r.2,
      r.3,
      λ fit. r.4 (s.3 fit),
    )
