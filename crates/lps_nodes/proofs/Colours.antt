-- Along a walk over sequences in order the times can be coloured so that a call and the body in its place have the same colours,
-- and each step left ends at a time of a colour that is new there. So no two adjacent steps left need end at once.
use Rattle.std.proofs.Common.{ℕ, suc, Bool, true, false, cond, ◌≡◌, ◌<◌, List, [], ◌∷◌, ◌++◌, ◌∙◌, map, refl, sym, ap, subst, arith, append_assoc}
use Rattle.std.specs.Prelude.{◌&&◌, nat_eq, Option, Some, None}
use Rattle.std.specs.List.{AllByRecursion, flat_map}
use Rattle.std.proofs.lemmas.Bool.{and_parts}
use Rattle.std.proofs.lemmas.Bool.Decides.{nat_tests}
use Rattle.lps_terms.specs.declared.atom.Atom.{Atom}
use Rattle.lps_terms.specs.declared.item.Item.{Item}
use Rattle.lps_terms.specs.declared.item.Item.TheVariants as i
use Rattle.lps_terms.specs.declared.text.Text.{Text}
use Rattle.lps_terms.specs.declared.time_var.TimeVar.{TimeVar}
use Rattle.lps_model.specs.declared.trace.Trace.{Trace}
use Rattle.lps_model.specs.Order.{happens, are_grouped}
use Rattle.lps_meaning.specs.Goals.{AreAllGround}
use Rattle.lps_model.specs.Rules.{MacroClause, clauses_of, is_macro, kind_of, numbered}
use Rattle.lps_meaning.specs.Sequences.{Entry, Link, Place, Values, Times, Walk, stop, pass, replace, entries, joins_to, is_call, passed, replaced, link_at}
use Rattle.lps_nodes.specs.Shapes.{Sequence}
use Rattle.lps_nodes.proofs.ConditionLaws.{macro_is_no_happening}
use Rattle.lps_nodes.proofs.Freshness.{AreFresh, EndsFresh, IsNone, step_times}
use Rattle.lps_meaning.proofs.Occurrences.{all_front, all_behind, all_joined}
use Rattle.lps_nodes.proofs.ShapeLaws.{IsFresh, fresh_passed, fresh_unfolded}

false_true : false ≡ true → ⊥
false_true e = cc

-- ---- colours

abbrev pub Colour : Type 0
Colour = ℕ × ℕ

-- a colour for each time of each environment
abbrev pub Colours : Type 0
Colours = ℕ → ℕ → ℕ × ℕ

abbrev pub is_same : Colour → Colour → Bool
is_same c d = nat_eq c.0 d.0 && nat_eq c.1 d.1

equal : (n m : ℕ) → nat_eq n m ≡ true → n ≡ m
equal n m e = grind (arith, nat_tests)

equal_self : (n : ℕ) → nat_eq n n ≡ true
equal_self n = grind (arith, nat_tests)

unequal : (n m : ℕ) → (n ≡ m → ⊥) → nat_eq n m ≡ false
unequal n m h = by (nat_eq n m) refl
  where
    by : (b : Bool) → nat_eq n m ≡ b → nat_eq n m ≡ false
    by true e = absurd (h (equal n m e))
    by false e = e

pub same_is : (c d : Colour) → is_same c d ≡ true → c ≡ d
same_is c d e = let both = and_parts (nat_eq c.0 d.0) (nat_eq c.1 d.1) e in λ j. (equal c.0 d.0 both.0 j, equal c.1 d.1 both.1 j)

pub same_self : (c : Colour) → is_same c c ≡ true
same_self c = (λ j. equal_self c.0 j && nat_eq c.1 c.1) ∙ equal_self c.1

pub same_not : (c d : Colour) → (c ≡ d → ⊥) → is_same c d ≡ false
same_not c d h = by (is_same c d) refl
  where
    by : (b : Bool) → is_same c d ≡ b → is_same c d ≡ false
    by true e = absurd (h (same_is c d e))
    by false e = e

-- the colours of the times of an entry's step
abbrev pub hues : Colours → Entry → List Colour
hues colour e = map (colour e.env) (step_times e.item)

-- a span ends at a colour that is none of these, nor where it begins
abbrev pub EndsApart : Colours → List Colour → ℕ → Item → Type 0
EndsApart colour seen env (i.Span a from to) = IsNone (colour env to.0) (colour env from.0 ∷ seen)
EndsApart colour seen env _ = Unit {0}

-- each call, and each span that begins a step, ends at a colour that is none of these and of those before it
abbrev pub AreApart : Text → Colours → List Colour → List Entry → Type 0
AreApart text colour seen [] = Unit {0}
AreApart text colour seen (e ∷ es) = ((e.joins ≡ true → is_call text e.item ≡ true) → EndsApart colour seen e.env e.item) × AreApart text colour (hues colour e ++ seen) es

-- a call and the body in its place have the same colours
abbrev pub HasSameColours : Colours → Link → Type 0
HasSameColours colour link = (colour link.outer link.from ≡ colour link.inner link.clause.begin) × (colour link.outer link.to ≡ colour link.inner link.clause.end)

module _ (text : Text) (colour : Colours) where
  ends_weaker : (seen others : List Colour) → ((c : Colour) → IsNone c seen → IsNone c others) → (env : ℕ) (item : Item) → EndsApart colour seen env item → EndsApart colour others env item
  ends_weaker seen others sub env (i.Span a from to) h = (h.0, sub (colour env to.0) h.1)
  ends_weaker seen others sub env (i.At l time) h = tt
  ends_weaker seen others sub env (i.Bare l) h = tt
  ends_weaker seen others sub env (i.Built c) h = tt
  ends_weaker seen others sub env (i.Con con) h = tt

  apart_weaker : (es : List Entry) (seen others : List Colour) → ((c : Colour) → IsNone c seen → IsNone c others) → AreApart text colour seen es → AreApart text colour others es
  apart_weaker [] seen others sub h = tt
  apart_weaker (e ∷ es) seen others sub h = (
    (λ begins. ends_weaker seen others sub e.env e.item (h.0 begins)),
    apart_weaker es (hues colour e ++ seen) (hues colour e ++ others)
        (λ c none. all_joined (λ d. c ≡ d → ⊥) (hues colour e) others (all_front (λ d. c ≡ d → ⊥) (hues colour e) seen none) (sub c (all_behind (λ d. c ≡ d → ⊥) (hues colour e) seen none))) h.1,
  )

  -- these colours and those of some entries
  abbrev behind : List Colour → List Entry → List Colour
  behind seen [] = seen
  behind seen (e ∷ es) = behind (hues colour e ++ seen) es

  apart_joined : (xs ys : List Entry) (seen : List Colour) → AreApart text colour seen xs → AreApart text colour (behind seen xs) ys → AreApart text colour seen (xs ++ ys)
  apart_joined [] ys seen h k = k
  apart_joined (x ∷ xs) ys seen h k = (h.0, apart_joined xs ys (hues colour x ++ seen) h.1 k)

  none_behind : (c : Colour) (es : List Entry) (seen : List Colour) → IsNone c seen → AllByRecursion (λ e. IsNone c (hues colour e)) es → IsNone c (behind seen es)
  none_behind c [] seen h k = h
  none_behind c (e ∷ es) seen h k = none_behind c es (hues colour e ++ seen) (all_joined (λ d. c ≡ d → ⊥) (hues colour e) seen k.0 h) k.1

-- a call is in no group
grouped_happens : (text : Text) (x y : Item) → are_grouped (kind_of text) x y ≡ true → is_call text y ≡ true → ⊥
grouped_happens text (i.Span a from to) (i.Span b from' to') e call =
    let two = and_parts (happens (kind_of text b.name)) _ (and_parts (happens (kind_of text a.name)) _ e).1 in
    false_true (sym (macro_is_no_happening (kind_of text b.name) call) ∙ two.0)
grouped_happens text (i.Span a from to) (i.At l time) e call = false_true e
grouped_happens text (i.Span a from to) (i.Bare l) e call = false_true e
grouped_happens text (i.Span a from to) (i.Built c) e call = false_true e
grouped_happens text (i.Span a from to) (i.Con con) e call = false_true e
grouped_happens text (i.At l time) y e call = false_true e
grouped_happens text (i.Bare l) y e call = false_true e
grouped_happens text (i.Built c) y e call = false_true e
grouped_happens text (i.Con con) y e call = false_true e

call_alone : (text : Text) (before : Option Item) (item : Item) → joins_to text before item ≡ true → is_call text item ≡ true → ⊥
call_alone text None item e call = false_true e
call_alone text (Some before) item e call = grouped_happens text before item e call

-- what an entry begins, which joins only where it is a call, it begins as an item
pub begins_alone : (text : Text) (before : Option Item) (item : Item) → (joins_to text before item ≡ true → is_call text item ≡ true) → joins_to text before item ≡ false
begins_alone text before item h = by (joins_to text before item) refl
  where
    by : (b : Bool) → joins_to text before item ≡ b → joins_to text before item ≡ false
    by true e = absurd (call_alone text before item e (h e))
    by false e = e

cond_either : {X : Type 0} (P : X → Type 0) (b : Bool) (x y : X) → P x → P y → P (cond b x y)
cond_either P true x y p q = p
cond_either P false x y p q = q

cond_no : {X : Type 0} (a b : Bool) (x y : X) → b ≡ false → cond (a && b) x y ≡ y
cond_no true b x y e = ap (λ c. cond c x y) e
cond_no false b x y e = refl

pub map_front : {X Y : Type 0} (f : X → Y) (xs ys : List X) (zs : List Y) → map f (xs ++ ys) ++ zs ≡ map f xs ++ (map f ys ++ zs)
map_front f [] ys zs = refl
map_front f (x ∷ xs) ys zs = ap (λ rest. f x ∷ rest) (map_front f xs ys zs)

-- ---- a body in the place of a call

module _ (text : Text) (old : Colours) (next : ℕ) (low : (env v : ℕ) → env < next → (old env v).0 < next) (cf ct : Colour) (cf_low : cf.0 < next) (ct_low : ct.0 < next) (begin end : ℕ) where
  -- the colour of the call's end becomes that of its begin where the body begins when it ends
  abbrev turned : Colour → Colour
  turned c = cond (nat_eq begin end && is_same c ct) cf c

  abbrev inside : ℕ → Colour
  inside v = cond (nat_eq v begin) (turned cf) (cond (nat_eq v end) (turned ct) (next, v))

  -- the body begins and ends at the call's colours, and has new ones within
  abbrev new : Colours
  new env v = cond (nat_eq env next) (inside v) (turned (old env v))

  new_old : (env v : ℕ) → env < next → new env v ≡ turned (old env v)
  new_old env v lt = ap (λ b. cond b (inside v) (turned (old env v))) (unequal env next (λ e. omega (arith, e)))

  new_inside : (v : ℕ) → new next v ≡ inside v
  new_inside v = ap (λ b. cond b (inside v) (turned (old next v))) (equal_self next)

  turned_either : (P : Colour → Type 0) (c : Colour) → P cf → P c → P (turned c)
  turned_either P c p q = cond_either P (nat_eq begin end && is_same c ct) cf c p q

  unturned : (c : Colour) → (c ≡ ct → ⊥) → turned c ≡ c
  unturned c h = cond_no (nat_eq begin end) (is_same c ct) cf c (same_not c ct h)

  turned_low : (c : Colour) → c.0 < next → (turned c).0 < next
  turned_low c lt = turned_either (λ d. d.0 < next) c cf_low lt

  inside_low : (v : ℕ) → (inside v).0 < suc next
  inside_low v =
      let f = turned_low cf cf_low in let t = turned_low ct ct_low in
      cond_either (λ (d : Colour). d.0 < suc next) (nat_eq v begin) (turned cf) (cond (nat_eq v end) (turned ct) (next, v)) (omega (arith, f))
      (cond_either (λ (d : Colour). d.0 < suc next) (nat_eq v end) (turned ct) (next, v) (omega (arith, t)) (omega arith))

  new_low : (env v : ℕ) → env < suc next → (new env v).0 < suc next
  new_low env v lt = by (nat_eq env next) refl
    where
      by : (b : Bool) → nat_eq env next ≡ b → (cond b (inside v) (turned (old env v))).0 < suc next
      by true e = inside_low v
      by false e =
          let other : env ≡ next → ⊥ = λ same. false_true (sym e ∙ ap (λ n. nat_eq n next) same ∙ equal_self next) in
          let below : env < next = omega (arith, other) in
          let here = turned_low (old env v) (low env v below) in omega (arith, here)

  inside_begin : inside begin ≡ turned cf
  inside_begin = ap (λ b. cond b (turned cf) (cond (nat_eq begin end) (turned ct) (next, begin))) (equal_self begin)

  inside_at_end : inside end ≡ turned ct
  inside_at_end = by (nat_eq end begin) refl
    where
      by : (b : Bool) → nat_eq end begin ≡ b → cond b (turned cf) (cond (nat_eq end end) (turned ct) (next, end)) ≡ turned ct
      by true e =
          let at : nat_eq begin end ≡ true = ap (λ n. nat_eq n end) (sym (equal end begin e)) ∙ equal_self end in
          turned_either (λ c. c ≡ turned ct) cf (merged at) (merged at)
        where
          merged : nat_eq begin end ≡ true → cf ≡ turned ct
          merged at = sym (ap (λ b. cond (b && is_same ct ct) cf ct) at ∙ ap (λ b. cond b cf ct) (same_self ct))
      by false e = ap (λ b. cond b (turned ct) (next, end)) (equal_self end)

  old_links : (links : List Link) → AllByRecursion (λ l. (l.outer < next) × (l.inner < next)) links → AllByRecursion (HasSameColours old) links → AllByRecursion (HasSameColours new) links
  old_links [] under h = tt
  old_links (link ∷ links) under h = (
    (
      new_old link.outer link.from under.0.0 ∙ ap turned h.0.0 ∙ sym (new_old link.inner link.clause.begin under.0.1),
      new_old link.outer link.to under.0.0 ∙ ap turned h.0.1 ∙ sym (new_old link.inner link.clause.end under.0.1),
    ),
    old_links links under.1 h.1,
  )

  -- a colour that was there, other than the two of the call, is none within
  apart_inside : (c : Colour) → c.0 < next → (c ≡ cf → ⊥) → (c ≡ ct → ⊥) → (v : ℕ) → c ≡ inside v → ⊥
  apart_inside c lt no_from no_to v =
      cond_either (λ (d : Colour). c ≡ d → ⊥) (nat_eq v begin) (turned cf) (cond (nat_eq v end) (turned ct) (next, v)) (turned_either (λ d. c ≡ d → ⊥) cf no_from no_from)
      (cond_either (λ (d : Colour). c ≡ d → ⊥) (nat_eq v end) (turned ct) (next, v) (turned_either (λ d. c ≡ d → ⊥) ct no_from no_to)
      (λ e. let same : c.0 ≡ next = ap (λ (d : Colour). d.0) e in omega (arith, same)))

  -- what holds of each colour as it is turned holds of the new ones of what was there
  each_times : (P Q : Colour → Type 0) → ((c : Colour) → c.0 < next → P c → Q (turned c)) → (env : ℕ) → env < next → (vs : List ℕ) → AllByRecursion P (map (old env) vs) → AllByRecursion Q (map (new env) vs)
  each_times P Q f env lt [] h = tt
  each_times P Q f env lt (v ∷ vs) h = (subst Q (sym (new_old env v lt)) (f (old env v) (low env v lt) h.0), each_times P Q f env lt vs h.1)

  each_past : (P Q : Colour → Type 0) → ((c : Colour) → c.0 < next → P c → Q (turned c)) → (past : List Entry) → AllByRecursion (λ e. e.env < next) past →
      AllByRecursion P (flat_map (hues old) past) → AllByRecursion Q (flat_map (hues new) past)
  each_past P Q f [] lts h = tt
  each_past P Q f (e ∷ past) lts h =
      all_joined Q (hues new e) (flat_map (hues new) past) (each_times P Q f e.env lts.0 (step_times e.item) (all_front P (hues old e) (flat_map (hues old) past) h))
      (each_past P Q f past lts.1 (all_behind P (hues old e) (flat_map (hues old) past) h))

  module _ (past : List Entry) (lts : AllByRecursion (λ e. e.env < next) past) (first : 0 < next) (given : List ℕ) where
    abbrev seen_old : List Colour
    seen_old = flat_map (hues old) past ++ map (old 0) given

    abbrev seen_new : List Colour
    seen_new = flat_map (hues new) past ++ map (new 0) given

    each_seen : (P Q : Colour → Type 0) → ((c : Colour) → c.0 < next → P c → Q (turned c)) → AllByRecursion P seen_old → AllByRecursion Q seen_new
    each_seen P Q f h =
        all_joined Q (flat_map (hues new) past) (map (new 0) given) (each_past P Q f past lts (all_front P (flat_map (hues old) past) (map (old 0) given) h))
        (each_times P Q f 0 first given (all_behind P (flat_map (hues old) past) (map (old 0) given) h))

    none_seen : (c : Colour) → (c ≡ cf → ⊥) → IsNone c seen_old → IsNone c seen_new
    none_seen c no_from h = each_seen (λ d. c ≡ d → ⊥) (λ d. c ≡ d → ⊥) (λ d lt no. turned_either (λ z. c ≡ z → ⊥) d no_from no) h

    each_any : (xs : List Colour) → AllByRecursion (λ c. Unit {0}) xs
    each_any [] = tt
    each_any (x ∷ xs) = (tt, each_any xs)

    high_seen : (v : ℕ) → IsNone {X = Colour} (next, v) seen_new
    high_seen v = each_seen (λ c. Unit {0}) (λ d. ◌≡◌ {A = Colour} (next, v) d → ⊥)
        (λ d lt any same. let under = turned_low d lt in let at : next ≡ (turned d).0 = ap (λ (z : Colour). z.0) same in omega (arith, under, at)) (each_any seen_old)

    module _ (ends : ct ≡ cf → ⊥) (none : IsNone ct seen_old) where
      -- a time of the body that is not its begin
      module _ (to : ℕ) (later : to ≡ begin → ⊥) where
        inside_end : nat_eq to end ≡ true → inside to ≡ ct
        inside_end e =
            let apart : nat_eq begin end ≡ false = unequal begin end (λ same. later (equal to end e ∙ sym same)) in
            ap (λ b. cond b (turned cf) (cond (nat_eq to end) (turned ct) (next, to))) (unequal to begin later)
            ∙ ap (λ b. cond b (turned ct) (next, to)) e ∙ ap (λ b. cond (b && is_same ct ct) cf ct) apart

        inside_else : nat_eq to end ≡ false → inside to ≡ (next, to)
        inside_else e =
            ap (λ b. cond b (turned cf) (cond (nat_eq to end) (turned ct) (next, to))) (unequal to begin later)
            ∙ ap (λ b. cond b (turned ct) (next, to)) e

        inner_seen : IsNone (inside to) seen_new
        inner_seen = by (nat_eq to end) refl
          where
            by : (b : Bool) → nat_eq to end ≡ b → IsNone (inside to) seen_new
            by true e = subst (λ (c : Colour). IsNone c seen_new) (sym (inside_end e)) (none_seen ct ends none)
            by false e = subst (λ (c : Colour). IsNone c seen_new) (sym (inside_else e)) (high_seen to)

        inner_apart : (v : ℕ) → (to ≡ v → ⊥) → inside to ≡ inside v → ⊥
        inner_apart v differ = by (nat_eq to end) refl
          where
            high : (c : Colour) → c.0 < next → ◌≡◌ {A = Colour} (next, to) c → ⊥
            high c lt e = let at : next ≡ c.0 = ap (λ (z : Colour). z.0) e in omega (arith, lt, at)

            at_end : nat_eq to end ≡ true → (b : Bool) → nat_eq v end ≡ b → ct ≡ cond b (turned ct) (next, v) → ⊥
            at_end e true same is = differ (equal to end e ∙ sym (equal v end same))
            at_end e false same is = let at : ct.0 ≡ next = ap (λ (z : Colour). z.0) is in omega (arith, at)

            by : (b : Bool) → nat_eq to end ≡ b → inside to ≡ inside v → ⊥
            by true e is =
                cond_either (λ (d : Colour). ct ≡ d → ⊥) (nat_eq v begin) (turned cf) (cond (nat_eq v end) (turned ct) (next, v))
                (turned_either (λ d. ct ≡ d → ⊥) cf ends ends) (at_end e (nat_eq v end) refl) (sym (inside_end e) ∙ is)
            by false e is =
                cond_either (λ (d : Colour). ◌≡◌ {A = Colour} (next, to) d → ⊥) (nat_eq v begin) (turned cf) (cond (nat_eq v end) (turned ct) (next, v))
                (high (turned cf) (turned_low cf cf_low))
                (cond_either (λ (d : Colour). ◌≡◌ {A = Colour} (next, to) d → ⊥) (nat_eq v end) (turned ct) (next, v) (high (turned ct) (turned_low ct ct_low))
                (λ same. differ (ap (λ (z : Colour). z.1) same))) (sym (inside_else e) ∙ is)

      inner_none : (to : ℕ) → (to ≡ begin → ⊥) → (vs : List ℕ) → IsNone to vs → IsNone (new next to) (map (new next) vs)
      inner_none to later [] h = tt
      inner_none to later (v ∷ vs) h =
          ((λ same. inner_apart to later v h.0 (sym (new_inside to) ∙ same ∙ new_inside v)), inner_none to later vs h.1)

      ends_apart : (vs : List ℕ) → ((v : ℕ) → IsNone v vs → v ≡ begin → ⊥) → (item : Item) → EndsFresh vs item → EndsApart new (map (new next) vs ++ seen_new) next item
      ends_apart vs begun (i.Span a from to) h =
          let later = begun to.0 h.1 in
          let all = inner_none to.0 later (from.0 ∷ vs) h in
          (all.0, all_joined (λ d. new next to.0 ≡ d → ⊥) (map (new next) vs) seen_new all.1 (subst (λ (c : Colour). IsNone c seen_new) (sym (new_inside to.0)) (inner_seen to.0 later)))
      ends_apart vs begun (i.At l time) h = tt
      ends_apart vs begun (i.Bare l) h = tt
      ends_apart vs begun (i.Built c) h = tt
      ends_apart vs begun (i.Con con) h = tt

      body_apart : (nest : ℕ) (before : Option Item) (items : List Item) (vs : List ℕ) → ((v : ℕ) → IsNone v vs → v ≡ begin → ⊥) → AreFresh text vs before items →
          AreApart text new (map (new next) vs ++ seen_new) (entries text next nest before items)
      body_apart nest before [] vs begun h = tt
      body_apart nest before (item ∷ items) vs begun h = (
        (λ begins. ends_apart vs begun item (h.0 (begins_alone text before item begins))),
        subst (λ (seen : List Colour). AreApart text new seen (entries text next nest (Some item) items)) (map_front (new next) (step_times item) vs seen_new)
            (body_apart nest (Some item) items (step_times item ++ vs) (λ v no. begun v (all_behind (λ y. v ≡ y → ⊥) (step_times item) vs no)) h.1),
      )

      -- a colour that was there, other than the two of the call, is none of the body's
      body_none : (c : Colour) → c.0 < next → (c ≡ cf → ⊥) → (c ≡ ct → ⊥) → (nest : ℕ) (before : Option Item) (items : List Item) →
          AllByRecursion (λ e. IsNone c (hues new e)) (entries text next nest before items)
      body_none c lt no_from no_to nest before [] = tt
      body_none c lt no_from no_to nest before (item ∷ items) = (of_times (step_times item), body_none c lt no_from no_to nest (Some item) items)
        where
          of_times : (vs : List ℕ) → IsNone c (map (new next) vs)
          of_times [] = tt
          of_times (v ∷ vs) = ((λ same. apart_inside c lt no_from no_to v (same ∙ new_inside v)), of_times vs)

      -- what stood behind the call stays apart
      abbrev Keeps : List Colour → List Colour → Type 0
      Keeps seen others = (c : Colour) → c.0 < next → IsNone c seen → (c ≡ cf → ⊥) × (c ≡ ct → ⊥) × IsNone c others

      rest_ends : (seen others : List Colour) → Keeps seen others → (env : ℕ) → env < next → (item : Item) → EndsApart old seen env item → EndsApart new others env item
      rest_ends seen others keeps env lt (i.Span a from to) h =
          let c : Colour = old env to.0 in
          let k = keeps c (low env to.0 lt) h.1 in
          let same : new env to.0 ≡ c = new_old env to.0 lt ∙ unturned c k.1 in
          subst (λ (d : Colour). IsNone d (new env from.0 ∷ others)) (sym same)
          ((λ is. turned_either (λ d. c ≡ d → ⊥) (old env from.0) k.0 h.0 (is ∙ new_old env from.0 lt)), k.2)
      rest_ends seen others keeps env lt (i.At l time) h = tt
      rest_ends seen others keeps env lt (i.Bare l) h = tt
      rest_ends seen others keeps env lt (i.Built c) h = tt
      rest_ends seen others keeps env lt (i.Con con) h = tt

      rest_apart : (es : List Entry) → AllByRecursion (λ e. e.env < next) es → (seen others : List Colour) → Keeps seen others → AreApart text old seen es → AreApart text new others es
      rest_apart [] under seen others keeps h = tt
      rest_apart (e ∷ es) under seen others keeps h = (
        (λ begins. rest_ends seen others keeps e.env under.0 e.item (h.0 begins)),
        rest_apart es under.1 (hues old e ++ seen) (hues new e ++ others)
            (λ c lt no.
            let k = keeps c lt (all_behind (λ d. c ≡ d → ⊥) (hues old e) seen no) in
            let here = each_times (λ d. c ≡ d → ⊥) (λ d. c ≡ d → ⊥) (λ d lt no. turned_either (λ z. c ≡ z → ⊥) d k.0 no) e.env under.0 (step_times e.item) (all_front (λ d. c ≡ d → ⊥) (hues old e) seen no) in
            (k.0, k.1, all_joined (λ d. c ≡ d → ⊥) (hues new e) others here k.2)) h.1,
      )

      -- the body in the call's place, and what stood behind it
      pub replaced_apart : (nest : ℕ) (items : List Item) (rest : List Entry) → AllByRecursion (λ e. e.env < next) rest → AreFresh text (begin ∷ []) None items →
          AreApart text old (cf ∷ ct ∷ seen_old) rest → AreApart text new seen_new (entries text next nest None items ++ rest)
      replaced_apart nest items rest under fresh h =
          let body = entries text next nest None items in
          let opened : AreApart text new seen_new body =
          apart_weaker text new body (new next begin ∷ seen_new) seen_new (λ c no. no.1) (body_apart nest None items (begin ∷ []) (λ v no same. no.0 same) fresh) in
          apart_joined text new body rest seen_new opened
          (rest_apart rest under (cf ∷ ct ∷ seen_old) (behind text new seen_new body)
          (λ c lt no. (no.0, no.1.0, none_behind text new c body seen_new (none_seen c no.0 no.1.1) (body_none c lt no.0 no.1.0 nest None items))) h)

-- ---- along a walk

-- the times are coloured so that calls agree with bodies, and each step left ends at a new colour
pub record IsColoured (text : Text) (given : List ℕ) (place : Place) : Type 0 where
  pub colour : Colours
  pub low : (env v : ℕ) → env < place.next → (colour env v).0 < place.next
  pub links : AllByRecursion (HasSameColours colour) place.links
  pub apart : AreApart text colour (flat_map (hues colour) place.past ++ map (colour 0) given) place.left

-- the body of each macro clause ends its steps at new times
pub record AreOrderly (text : Text) : Type 0 where
  pub each : (name : List ℕ) (number : ℕ) (clause : MacroClause) → numbered (clauses_of text name) number ≡ Some clause → AreFresh text (clause.begin ∷ []) None clause.items

module _ (text : Text) (level : List ℕ → ℕ) (trace : Trace) (q : Sequence) (s : Values) (t : Times) (ground : AreAllGround s) (orderly : AreOrderly text) where
  coloured_passed : (place : Place) (o : Entry) (rest : List Entry) → place.left ≡ o ∷ rest → IsColoured text q.given_times place → IsColoured text q.given_times (passed t place o rest)
  coloured_passed place o rest left h = record {
    colour = h.colour;
    low = h.low;
    links = h.links;
    apart = subst (λ (seen : List Colour). AreApart text h.colour seen rest) (sym (append_assoc (hues h.colour o) (flat_map (hues h.colour) place.past) (map (h.colour 0) q.given_times)))
        (subst (AreApart text h.colour (flat_map (hues h.colour) place.past ++ map (h.colour 0) q.given_times)) left h.apart).1;
  }

  coloured_unfolded : (place : Place) (o : Entry) (rest : List Entry) (a : Atom) (from to : TimeVar) (number : ℕ) (clause : MacroClause) → place.left ≡ o ∷ rest → o.item ≡ i.Span a from to →
      is_macro (kind_of text a.name) ≡ true → numbered (clauses_of text a.name) number ≡ Some clause → IsFresh text q s t ground place → IsColoured text q.given_times place →
      IsColoured text q.given_times (replaced text place (link_at place o a from.0 to.0 number clause) rest)
  coloured_unfolded place o rest a from to number clause left is macro named fresh h =
      let n : ℕ = place.next in
      let under : AllByRecursion (λ e. e.env < n) (o ∷ rest) = subst (AllByRecursion (λ (e : Entry). e.env < n)) left fresh.left in
      let cf : Colour = h.colour o.env from.0 in
      let ct : Colour = h.colour o.env to.0 in
      let seen : List Colour = flat_map (hues h.colour) place.past ++ map (h.colour 0) q.given_times in
      let apart = subst (AreApart text h.colour seen) left h.apart in
      let ends : IsNone ct (cf ∷ seen) = subst (EndsApart h.colour seen o.env) is (apart.0 (λ joined. ap (is_call text) is ∙ macro)) in
      let behind : AreApart text h.colour (cf ∷ ct ∷ seen) rest = subst (λ (it : Item). AreApart text h.colour (map (h.colour o.env) (step_times it) ++ seen) rest) is apart.1 in
      let cf_low = h.low o.env from.0 under.0 in
      let ct_low = h.low o.env to.0 under.0 in
      let colour : Colours = new text h.colour n h.low cf ct cf_low ct_low clause.begin clause.end in
      record {
        colour = colour;
        low = new_low text h.colour n h.low cf ct cf_low ct_low clause.begin clause.end;
        links = (
          (
            new_old text h.colour n h.low cf ct cf_low ct_low clause.begin clause.end o.env from.0 under.0
                ∙ sym (inside_begin text h.colour n h.low cf ct cf_low ct_low clause.begin clause.end) ∙ sym (new_inside text h.colour n h.low cf ct cf_low ct_low clause.begin clause.end clause.begin),
            new_old text h.colour n h.low cf ct cf_low ct_low clause.begin clause.end o.env to.0 under.0
                ∙ sym (inside_at_end text h.colour n h.low cf ct cf_low ct_low clause.begin clause.end) ∙ sym (new_inside text h.colour n h.low cf ct cf_low ct_low clause.begin clause.end clause.end),
          ),
          old_links text h.colour n h.low cf ct cf_low ct_low clause.begin clause.end place.links fresh.links h.links,
        );
        apart = replaced_apart text h.colour n h.low cf ct cf_low ct_low clause.begin clause.end place.past fresh.past fresh.first q.given_times ends.0 ends.1 (suc o.nest) clause.items rest under.1
            (orderly.each a.name number clause named) behind;
      }

  pub coloured : {now : ℕ} {end place : Place} → Walk text level trace q.given_values s t now end place → IsFresh text q s t ground place → IsColoured text q.given_times place → IsColoured text q.given_times end
  coloured stop fresh h = h
  coloured {place = place} (pass env nest joins item rest left no_call is_true small placed walk) fresh h =
      let o : Entry = record { env = env; nest = nest; joins = joins; item = item } in
      coloured walk (fresh_passed text q s t ground level trace place o rest left fresh) (coloured_passed place o rest left h)
  coloured {place = place} (replace o rest a from to number clause left item macro named values times small walk) fresh h =
      coloured walk (fresh_unfolded text q s t ground level trace place o rest a from.0 to.0 number clause left fresh)
      (coloured_unfolded place o rest a from to number clause left item macro named fresh h)
