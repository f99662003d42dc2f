-- Steps made on a shape alone at one time, one after the other, are those of a walk.
use Rattle.std.proofs.Common.{ℕ, suc, Bool, true, false, cond, ◌≡◌, ◌≤◌, List, [], ◌∷◌, ◌++◌, ◌∙◌, map, refl, sym, ap, subst, arith}
use Rattle.std.specs.Prelude.{IsTrue, Option, Some, None, not, reverse, if◌then◌else◌}
use Rattle.std.specs.List.{AllByRecursion, flat_map, list_all}
use Rattle.lps_terms.specs.declared.atom.Atom.{Atom}
use Rattle.lps_terms.specs.declared.built.Built.{Built}
use Rattle.lps_terms.specs.declared.built.Built.TheVariants as b
use Rattle.lps_terms.specs.declared.expr.Expr.{Expr}
use Rattle.lps_terms.specs.declared.expr.Expr.TheVariants as e
use Rattle.lps_terms.specs.declared.item.Item.{Item}
use Rattle.lps_terms.specs.declared.item.Item.TheVariants as i
use Rattle.lps_terms.specs.declared.lit.Lit.{Lit}
use Rattle.lps_terms.specs.declared.term.Term.{Term}
use Rattle.lps_terms.specs.declared.text.Text.{Text}
use Rattle.lps_terms.specs.declared.time_var.TimeVar.{TimeVar}
use Rattle.lps_terms.specs.Put.{after, put_atom}
use Rattle.lps_model.specs.declared.trace.Trace.{Trace}
use Rattle.lps_model.specs.Acceptance.{IsAccepted}
use Rattle.lps_model.specs.Formed.{is_formed, is_formed_built, is_formed_expr, is_formed-Leaf, is_formed-Apply}
use Rattle.lps_derivation.specs.Expressions.{expr_ind}
use Rattle.lps_derivation.specs.Ground.{is_ground}
use Rattle.lps_meaning.specs.declared.node.Left.{Left}
use Rattle.lps_meaning.specs.declared.node.LeftItem.{LeftItem}
use Rattle.lps_meaning.specs.declared.node.LeftItem.TheVariants as l
use Rattle.lps_meaning.specs.declared.when.When.{When}
use Rattle.lps_meaning.specs.declared.when.When.TheVariants.{Known, Unknown}
use Rattle.lps_nodes.specs.Alone.{Alone, stay, meet, enter, IsLeftTrue, IsToldItem, Stage, done_then}
use Rattle.lps_nodes.specs.Conditions.{IsLeftPlaced, IsLeftSmall, goes_on, left_end, time_in}
use Rattle.lps_meaning.specs.Items.{put_item, IsSmallItem}
use Rattle.lps_nodes.specs.Laws.{IsOfText, IsStageAt, IsWalked}
use Rattle.lps_model.specs.Rules.{MacroClause, clauses_of, is_macro, kind_of, numbered}
use Rattle.lps_meaning.specs.Sequences.{Entry, Place, Values, Times, Walk, stop, pass, replace, start, entries, passed, replaced, link_at, end_of, is_call, done, rank, starts_group, HasSameTimes, HasSameValues, Link, IsPlaced, IsSpanPlaced, IsTrueItem, IsWithin}
use Rattle.lps_nodes.specs.Shapes.{Sequence, Shape, Whens, all_known, put_left, left_of, left_at, IsGeneral}
use Rattle.lps_nodes.specs.Steps.{PassesTo, UnfoldsTo}
use Rattle.lps_nodes.proofs.Cleaning.{all_stay, clean, clean_atom, clean_built, clean_expr, clean_expr-Apply, clean_expr-Leaf, clean_ground, clean_item, clean_lit, clean_put_item, clean_stays}
use Rattle.lps_nodes.proofs.Colours.{AreApart, EndsApart, IsColoured, hues}
use Rattle.lps_nodes.proofs.ConditionLaws.{AreMarked, false_true, item_or, linked, marked_behind_call, marked_joined, marked_none, none_some, over_passed, some_entry}
use Rattle.lps_nodes.proofs.Existence.{pass_none}
use Rattle.lps_nodes.proofs.Freshness.{IsNone}
use Rattle.lps_meaning.proofs.Formed.{IsFormedItem}
use Rattle.lps_nodes.proofs.LeadingOn.{done_begun, done_plain, rank_more}
use Rattle.lps_nodes.proofs.Lifting.{IsFormedPlace, formed_along, lift_pass_as, lift_unfold_as, sequence_formed, start_formed, walk_clean, walk_then}
use Rattle.lps_nodes.proofs.Moves.{SameEntry, end_moved, links_of, moved, past_of}
use Rattle.lps_nodes.proofs.NodeLaws.{all_two, left_from, left_is}
use Rattle.lps_nodes.proofs.ShapeLaws.{after_when, closed, left_after, pass_general}
use Rattle.lps_nodes.proofs.ShownGroups.{AreInstances, becomes_span, goes_with, grouped_spans, instances, never_known, paint}
use Rattle.lps_meaning.proofs.Lists.{both}

-- ---- ground items stay as they are when they are cleaned

terms_stay : (ts : List Term) → list_all is_ground ts ≡ true → map clean ts ≡ ts
terms_stay ts h = all_stay ts (every ts) h
  where
    every : (ts : List Term) → AllByRecursion (λ x. is_ground x ≡ true → clean x ≡ x) ts
    every [] = tt
    every (x ∷ ts) = (clean_stays x, every ts)

atom_stays : (a : Atom) → list_all is_ground a.args ≡ true → clean_atom a ≡ a
atom_stays a h = λ j. record { name = a.name; args = terms_stay a.args h j }

lit_stays : (lit : Lit) → list_all is_ground lit.atom.args ≡ true → clean_lit lit ≡ lit
lit_stays lit h = λ j. record { negated = lit.negated; atom = atom_stays lit.atom h j }

expr_stays : (x : Expr) → is_formed_expr 0 x ≡ true → clean_expr x ≡ x
expr_stays = expr_ind (λ x. is_formed_expr 0 x ≡ true → clean_expr x ≡ x)
    (λ x h. clean_expr-Leaf x ∙ ap (λ y. e.Leaf y) (clean_stays x (sym (is_formed-Leaf 0 x) ∙ h)))
    (λ op x y one two h.
    let parts = both (is_formed_expr 0 x) (is_formed_expr 0 y) (sym (is_formed-Apply 0 op x y) ∙ h) in
    clean_expr-Apply op x y ∙ (λ j. e.Apply op (one parts.0 j) (two parts.1 j)))

built_stays : (x : Built) → is_formed_built 0 x ≡ true → clean_built x ≡ x
built_stays (b.Same x y) h = let parts = both (is_ground x) (is_ground y) h in λ j. b.Same (clean_stays x parts.0 j) (clean_stays y parts.1 j)
built_stays (b.Differ x y) h = let parts = both (is_ground x) (is_ground y) h in λ j. b.Differ (clean_stays x parts.0 j) (clean_stays y parts.1 j)
built_stays (b.Is x sum) h = let parts = both (is_ground x) (is_formed_expr 0 sum) h in λ j. b.Is (clean_stays x parts.0 j) (expr_stays sum parts.1 j)
built_stays (b.Compare rel x y) h = let parts = both (is_formed_expr 0 x) (is_formed_expr 0 y) h in λ j. b.Compare rel (expr_stays x parts.0 j) (expr_stays y parts.1 j)

-- times as numbers, where all are known
abbrev numbers : (ℕ → When) → ℕ → ℕ
numbers w v = time_in (λ k. 0) (w v)

told_at : (nest : ℕ) (lit : Lit) (time : When) → IsToldItem (l.At lit time) → ◌≡◌ {A = List Left} (record { item = l.At (clean_lit lit) (Known (time_in (λ k. 0) time)); nest = nest } ∷ []) (record { item = l.At lit time; nest = nest } ∷ [])
told_at nest lit (Known n) h = λ j. record { item = l.At (lit_stays lit h j) (Known n); nest = nest } ∷ []
told_at nest lit (Unknown k) h = absurd h

told_span : (nest : ℕ) (a : Atom) (from to : When) → IsToldItem (l.Span a from to) →
    ◌≡◌ {A = List Left} (record { item = l.Span (clean_atom a) (Known (time_in (λ k. 0) from)) (Known (time_in (λ k. 0) to)); nest = nest } ∷ []) (record { item = l.Span a from to; nest = nest } ∷ [])
told_span nest a (Known m) (Known n) h = λ j. record { item = l.Span (atom_stays a h j) (Known m) (Known n); nest = nest } ∷ []
told_span nest a (Known m) (Unknown k) h = absurd h
told_span nest a (Unknown k) to h = absurd h

abbrev AreTold : List Left → Type 0
AreTold = AllByRecursion (λ left. IsToldItem left.item)

told_from : (w : ℕ → When) (nest : ℕ) (item : Item) → AreTold (left_from w nest item) → left_from (λ v. Known (numbers w v)) nest (clean_item item) ≡ left_from w nest item
told_from w nest (i.At lit time) h = told_at nest lit (w time.0) h.0
told_from w nest (i.Bare lit) h = λ j. record { item = l.Bare (lit_stays lit h.0 j); nest = nest } ∷ []
told_from w nest (i.Built built) h = λ j. record { item = l.Built (built_stays built h.0 j); nest = nest } ∷ []
told_from w nest (i.Span a from to) h = told_span nest a (w from.0) (w to.0) h.0
told_from w nest (i.Con con) h = refl

-- what makes an item ground and its times known does so once it is cleaned
told_cleaned : (u : ℕ → Term) (w : ℕ → When) (nest : ℕ) (item : Item) → IsFormedItem item → AreTold (left_of u w nest item) →
    left_of (λ v. clean (u v)) (λ v. Known (numbers w v)) nest item ≡ left_of u w nest item
told_cleaned u w nest item formed h =
    left_is (λ v. clean (u v)) (λ v. Known (numbers w v)) nest item
    ∙ ap (left_from (λ v. Known (numbers w v)) nest) (sym (clean_put_item formed.variables u formed.times item formed.formed))
    ∙ told_from w nest (put_item u item) (subst AreTold (left_is u w nest item) h) ∙ sym (left_is u w nest item)

-- ---- what was passed last

module _ (text : Text) (level : List ℕ → ℕ) (trace : Trace) (given : List ℕ) (s : Values) (t : Times) where
  -- an event or action that was passed last ended when the last step did, one after it began
  abbrev EndedLast : ℕ → Option Entry → Type 0
  EndedLast before last = (p : Entry) (a : Atom) (from to : TimeVar) → last ≡ Some p → p.item ≡ i.Span a from to → (before ≡ t p.env to.0) × (t p.env to.0 ≡ suc (t p.env from.0))

  ended_passed : (now before : ℕ) (e : Entry) → is_call text e.item ≡ false → IsTrueItem text level trace now (t e.env) (put_item (s e.env) e.item) → IsPlaced text (t e.env) before e.joins e.item →
      EndedLast (end_of (t e.env) before e.item) (Some e)
  ended_passed now before e no_call is_true placed p a from to same is =
      let here : e ≡ p = some_entry same in
      let item : e.item ≡ i.Span a from to = ap (λ x. x.item) here ∙ is in (
        ap (end_of (t e.env) before) item ∙ ap (λ (x : Entry). t x.env to.0) here,
        (over_passed text level trace given s t now before e no_call is_true placed p a from to same is).1,
      )

  ended_last : {now : ℕ} {end place : Place} → Walk text level trace given s t now end place → (last : Option Entry) → AreMarked text last place.left → EndedLast place.before last →
      (q : Option Entry) × AreMarked text q end.left × EndedLast end.before q
  ended_last stop last h over = (last, h, over)
  ended_last {now} {place = place} (pass env nest joins item rest left no_call is_true small placed walk) last h over =
      let e : Entry = record { env = env; nest = nest; joins = joins; item = item } in
      ended_last walk (Some e) (subst (AreMarked text last) left h).1 (ended_passed now place.before e no_call is_true placed)
  ended_last {place = place} (replace e rest a from to number clause left item macro named values times small walk) last h over =
      let behind = marked_behind_call text e rest a from to item macro (subst (AreMarked text last) left h).1 in
      ended_last walk last (marked_joined text last (entries text place.next (suc e.nest) None clause.items) rest (marked_none text place.next (suc e.nest) clause.items last) behind) over

-- ---- the first item left

abbrev pub is_con : Item → Bool
is_con (i.Con con) = true
is_con _ = false

abbrev is_span : Item → Bool
is_span (i.Span a from to) = true
is_span _ = false

-- an entry that is no constraint is one item left
pub single : (u : ℕ → Term) (w : ℕ → When) (nest : ℕ) (item : Item) → is_con item ≡ false → (left : Left) × (left_of u w nest item ≡ left ∷ [])
single u w nest (i.At lit time) h = (_, refl)
single u w nest (i.Bare lit) h = (_, refl)
single u w nest (i.Built built) h = (_, refl)
single u w nest (i.Span a from to) h = (_, refl)
single u w nest (i.Con con) h = absurd (false_true (sym h))

abbrev pub head_left : Left → List Left → Left
head_left d [] = d
head_left d (left ∷ rest) = left

-- ---- one step

-- what an item met says of the entry
abbrev AreMet : Text → (List ℕ → ℕ) → Trace → ℕ → List Left → Type 0
AreMet text level trace now = AllByRecursion (λ left. IsLeftTrue text level trace now left.item)

met_no_call : (text : Text) (level : List ℕ → ℕ) (trace : Trace) (now : ℕ) (f : ℕ → Term) (c : ℕ → ℕ) (nest : ℕ) (item : Item) → AreMet text level trace now (left_of f (λ v. Known (c v)) nest item) → is_call text item ≡ false
met_no_call text level trace now f c nest (i.At lit time) h = refl
met_no_call text level trace now f c nest (i.Bare lit) h = refl
met_no_call text level trace now f c nest (i.Built built) h = refl
met_no_call text level trace now f c nest (i.Span a from to) h = h.0.0
met_no_call text level trace now f c nest (i.Con con) h = refl

met_true : (text : Text) (level : List ℕ → ℕ) (trace : Trace) (now : ℕ) (f : ℕ → Term) (c : ℕ → ℕ) (nest : ℕ) (item : Item) → AreMet text level trace now (left_of f (λ v. Known (c v)) nest item) →
    IsTrueItem text level trace now c (put_item f item)
met_true text level trace now f c nest (i.At lit time) h = h.0
met_true text level trace now f c nest (i.Bare lit) h = h.0
met_true text level trace now f c nest (i.Built built) h = h.0
met_true text level trace now f c nest (i.Span a from to) h = (h.0.1, h.0.2)
met_true text level trace now f c nest (i.Con con) h = tt

met_small : (f : ℕ → Term) (c : ℕ → ℕ) (nest : ℕ) (item : Item) → AllByRecursion (λ left. IsLeftSmall left.item) (left_of f (λ v. Known (c v)) nest item) → IsSmallItem (put_item f item)
met_small f c nest (i.At lit time) h = h.0
met_small f c nest (i.Bare lit) h = h.0
met_small f c nest (i.Built built) h = h.0
met_small f c nest (i.Span a from to) h = h.0
met_small f c nest (i.Con con) h = tt

-- an entry is placed as the item is that it becomes, after a step that ended earlier
met_placed : (text : Text) (f : ℕ → Term) (c : ℕ → ℕ) (nest before since : ℕ) (joins goes : Bool) (item : Item) → before ≤ since → is_call text item ≡ false →
    (joins ≡ true → (a : Atom) (from to : TimeVar) → item ≡ i.Span a from to → (before ≡ c to.0) × (c to.0 ≡ suc (c from.0))) → (joins ≡ false → is_span item ≡ true → goes ≡ false) →
    AllByRecursion (λ left. IsLeftPlaced text (λ k. 0) since goes left.item) (left_of f (λ v. Known (c v)) nest item) → IsPlaced text c before joins item
met_placed text f c nest before since joins goes (i.At lit time) le no_call group new h = let later = h.0 in omega (arith, later)
met_placed text f c nest before since joins goes (i.Bare lit) le no_call group new h = tt
met_placed text f c nest before since joins goes (i.Built built) le no_call group new h = tt
met_placed text f c nest before since joins goes (i.Con con) le no_call group new h = tt
met_placed text f c nest before since joins goes (i.Span a from to) le no_call group new h = by (is_macro (kind_of text a.name)) no_call joins (λ j. group j a from to refl) (λ j. new j refl) h.0
  where
    alone : (goes : Bool) → goes ≡ false → IsSpanPlaced false goes since (c from.0) (c to.0) → IsSpanPlaced false false before (c from.0) (c to.0)
    alone true e h = absurd (false_true (sym e))
    alone false e h = let later = h.1 in (h.0, omega (arith, later))

    by : (macro : Bool) → macro ≡ false → (joins : Bool) → (joins ≡ true → (before ≡ c to.0) × (c to.0 ≡ suc (c from.0))) → (joins ≡ false → goes ≡ false) → IsSpanPlaced macro goes since (c from.0) (c to.0) →
        IsSpanPlaced macro joins before (c from.0) (c to.0)
    by true e joins group new h = absurd (false_true (sym e))
    by false e true group new h = let g = group refl in (g.1, sym g.0)
    by false e false group new h = alone goes (new refl) h

-- the entry ends no later than the item does that it becomes
met_end : (f : ℕ → Term) (c : ℕ → ℕ) (nest before since : ℕ) (item : Item) (met : Left) → before ≤ since → left_of f (λ v. Known (c v)) nest item ≡ met ∷ [] → end_of c before item ≤ left_end (λ k. 0) since met.item
met_end f c nest before since (i.At lit time) met le e = let same : c time.0 ≡ left_end (λ k. 0) since met.item = ap (λ ls. left_end (λ k. 0) since (item_or met.item ls)) e in omega (arith, same)
met_end f c nest before since (i.Span a from to) met le e = let same : c to.0 ≡ left_end (λ k. 0) since met.item = ap (λ ls. left_end (λ k. 0) since (item_or met.item ls)) e in omega (arith, same)
met_end f c nest before since (i.Bare lit) met le e = let same : since ≡ left_end (λ k. 0) since met.item = ap (λ ls. left_end (λ k. 0) since (item_or met.item ls)) e in omega (arith, same)
met_end f c nest before since (i.Built built) met le e = let same : since ≡ left_end (λ k. 0) since met.item = ap (λ ls. left_end (λ k. 0) since (item_or met.item ls)) e in omega (arith, same)
met_end f c nest before since (i.Con con) met le e = absurd (nothing e)
  where
    nothing : [] ≡ met ∷ [] → ⊥
    nothing e = cc

-- a group that an entry begins is one that the item begins
met_done : (f : ℕ → Term) (c : ℕ → ℕ) (nest n : ℕ) (joins goes : Bool) (item : Item) (met : Left) → left_of f (λ v. Known (c v)) nest item ≡ met ∷ [] → (is_span item ≡ true → joins ≡ goes) →
    cond (starts_group joins item) (suc n) n ≡ done_then n goes met.item
met_done f c nest n joins goes (i.At lit time) met e same = ap (λ ls. done_then n goes (item_or met.item ls)) e
met_done f c nest n joins goes (i.Bare lit) met e same = ap (λ ls. done_then n goes (item_or met.item ls)) e
met_done f c nest n joins goes (i.Built built) met e same = ap (λ ls. done_then n goes (item_or met.item ls)) e
met_done f c nest n joins goes (i.Span a from to) met e same =
    ap (λ b. cond (not b) (suc n) n) (same refl) ∙ by goes ∙ ap (λ ls. done_then n goes (item_or met.item ls)) e
  where
    by : (b : Bool) → cond (not b) (suc n) n ≡ (if b then n else suc n)
    by true = refl
    by false = refl
met_done f c nest n joins goes (i.Con con) met e same = absurd (nothing e)
  where
    nothing : [] ≡ met ∷ [] → ⊥
    nothing e = cc

done_next : (t : Times) (place : Place) (e : Entry) (rest : List Entry) (b : Bool) → starts_group e.joins e.item ≡ b → done (passed t place e rest) ≡ cond b (suc (done place)) (done place)
done_next t place e rest true begun = done_begun t place e rest begun
done_next t place e rest false begun = done_plain t place e rest begun

-- where the step before ended with it, an item goes on with the one met last
goes_true : (macro goes : Bool) (had before from to : ℕ) → macro ≡ false → had ≤ before → had ≡ to → to ≡ suc from → IsSpanPlaced macro goes before from to → goes ≡ true
goes_true true goes had before from to plain le ends one placed = absurd (false_true (sym plain))
goes_true false true had before from to plain le ends one placed = refl
goes_true false false had before from to plain le ends one placed = let begins = placed.1 in absurd (omega (arith, le, ends, one, begins))

-- ---- what the entry is from the item left

abbrev nest_or : ℕ → List Left → ℕ
nest_or d [] = d
nest_or d (left ∷ rest) = left.nest

nest_is : (u : ℕ → Term) (w : ℕ → When) (nest : ℕ) (item : Item) (left : Left) → left_of u w nest item ≡ left ∷ [] → nest ≡ left.nest
nest_is u w nest (i.At lit time) left e = ap (nest_or nest) e
nest_is u w nest (i.Bare lit) left e = ap (nest_or nest) e
nest_is u w nest (i.Built built) left e = ap (nest_or nest) e
nest_is u w nest (i.Span a from to) left e = ap (nest_or nest) e
nest_is u w nest (i.Con con) left e = absurd (nothing e)
  where
    nothing : [] ≡ left ∷ [] → ⊥
    nothing e = cc

abbrev span_left : LeftItem → Bool
span_left (l.Span a from to) = true
span_left _ = false

abbrev name_left : LeftItem → List ℕ
name_left (l.Span a from to) = a.name
name_left _ = []

pub span_of : (u : ℕ → Term) (w : ℕ → When) (nest : ℕ) (item : Item) (left : Left) → left_of u w nest item ≡ left ∷ [] → (a : Atom) (from to : When) → left.item ≡ l.Span a from to →
    (b : Atom) × (begin : TimeVar) × (finish : TimeVar) × (item ≡ i.Span b begin finish) × (a.name ≡ b.name)
span_of u w nest (i.Span b begin finish) left e a from to is =
    (b, begin, finish, refl, ap name_left (sym is) ∙ ap (λ ls. name_left (item_or left.item ls)) (sym e))
span_of u w nest (i.At lit time) left e a from to is = absurd (false_true (ap (λ ls. span_left (item_or left.item ls)) e ∙ ap span_left is))
span_of u w nest (i.Bare lit) left e a from to is = absurd (false_true (ap (λ ls. span_left (item_or left.item ls)) e ∙ ap span_left is))
span_of u w nest (i.Built built) left e a from to is = absurd (false_true (ap (λ ls. span_left (item_or left.item ls)) e ∙ ap span_left is))
span_of u w nest (i.Con con) left e a from to is = absurd (nothing e)
  where
    nothing : [] ≡ left ∷ [] → ⊥
    nothing e = cc

as_span : (item : Item) → is_span item ≡ true → (b : Atom) × (begin : TimeVar) × (finish : TimeVar) × (item ≡ i.Span b begin finish)
as_span (i.Span b begin finish) h = (b, begin, finish, refl)
as_span (i.At lit time) h = absurd (false_true h)
as_span (i.Bare lit) h = absurd (false_true h)
as_span (i.Built built) h = absurd (false_true h)
as_span (i.Con con) h = absurd (false_true h)

known_end : (b : Atom) (begin finish : When) → IsToldItem (l.Span b begin finish) → (n : ℕ) × (finish ≡ Known n)
known_end b (Known m) (Known n) h = (n, refl)
known_end b (Known m) (Unknown k) h = absurd h
known_end b (Unknown k) finish h = absurd h

-- the item met last is told
abbrev pub IsLastTold : Option LeftItem → Type 0
IsLastTold None = Unit {0}
IsLastTold (Some item) = IsToldItem item

abbrev from_in : Item → ℕ
from_in (i.Span a from to) = from.0
from_in _ = 0

abbrev to_in : Item → ℕ
to_in (i.Span a from to) = to.0
to_in _ = 0

pub rank_same : (links others : List Link) → links ≡ others → map (λ (link : Link). link.number) (reverse links) ≡ map (λ (link : Link). link.number) (reverse others)
rank_same links others same = ap (λ ls. map (λ (link : Link). link.number) (reverse ls)) same

-- ---- along steps

module _ (text : Text) (accepted : IsAccepted text) (formed : IsTrue (is_formed text)) (level : List ℕ → ℕ) (trace : Trace) (depth : ℕ) (q : Sequence) (of_text : IsOfText text q) (since later : ℕ)
    (low : since ≤ later) where
  -- a walk by now to the place, where this is the most general shape
  abbrev pub IsAt : Values → Times → Place → Shape → Type 0
  IsAt s t place g = IsWalked text level trace q s t since later (λ times. place) g

  abbrev through : (s : Values) (t : Times) (place beyond : Place) (g h : Shape) (at : IsAt s t place g) → IsAt at.values at.times beyond h → IsAt s t beyond h
  through s t place beyond g h at k = record {
    values = k.values;
    times = k.times;
    ground = k.ground;
    same_values = k.same_values ∙ at.same_values;
    same_times = k.same_times ∙ at.same_times;
    walk = k.walk;
    general = k.general;
  }

  -- the walk comes to the place through another, up to which all that was passed is the same
  pub record ComesFrom (s : Values) (t : Times) (middle place : Place) (g : Shape) : Type 0 where
    pub at : IsAt s t place g
    pub second : Walk text level trace q.given_values at.values at.times later place middle
    pub past : AllByRecursion (SameEntry s at.values t at.times) middle.past

  -- one step more, under other values and times
  abbrev comes_on : (s : Values) (t : Times) (middle place beyond : Place) (g h : Shape) (comes : ComesFrom s t middle place g) (k : IsAt comes.at.values comes.at.times beyond h) →
      AllByRecursion (SameEntry comes.at.values k.values comes.at.times k.times) place.past → Walk text level trace q.given_values k.values k.times later beyond place → ComesFrom s t middle beyond h
  comes_on s t middle place beyond g h comes k same step =
      let u = comes.at.values in
      let w = comes.at.times in
      let links = linked text level trace q.given_values k.values k.times k.walk tt tt in
      record {
        at = through s t place beyond g h comes.at k;
        second = walk_then beyond
            (moved u k.values w k.times text level trace q.given_values (sym k.same_values) comes.second same
            (links_of k.values k.values k.times k.times text level trace q.given_values (HasSameValues k.values) step links.0)
            (links_of k.values k.values k.times k.times text level trace q.given_values (HasSameTimes k.times) step links.1)) step;
        past = all_two (SameEntry s u t w) (SameEntry u k.values w k.times) (SameEntry s k.values t k.times) (λ e here there. here ∙ there) middle.past comes.past
            (past_of u u w w text level trace q.given_values (SameEntry u k.values w k.times) comes.second same);
      }

  -- behind constraints: the first entry left is the first item left
  pub record IsOpened (s : Values) (t : Times) (middle here : Place) (g : Shape) : Type 0 where
    pub place : Place
    pub comes : ComesFrom s t middle place g
    pub same : place.before ≡ here.before
    pub links : place.links ≡ here.links
    pub groups : done place ≡ done here
    pub next : Entry
    pub rest : List Entry
    pub left : place.left ≡ next ∷ rest
    pub no_con : is_con next.item ≡ false

  rest_is : (s : Values) (t : Times) (place : Place) (g : Shape) (at : IsAt s t place g) → g.rest ≡ flat_map (left_at at.general.values at.general.whens) place.left
  rest_is s t place g at = ap (λ h. h.rest) at.general.own

  skip_con : (s : Values) (t : Times) (middle place : Place) (g : Shape) (comes : ComesFrom s t middle place g) (e : Entry) (es : List Entry) → place.left ≡ e ∷ es → is_con e.item ≡ true → (con_item : Item) → e.item ≡ con_item →
      (beyond : Place) × ComesFrom s t middle beyond g × (beyond.before ≡ place.before) × (beyond.left ≡ es) × (beyond.links ≡ place.links) × (done beyond ≡ done place)
  skip_con s t middle place g comes e es left con (i.Con con_of) is =
      let at = comes.at in
      let beyond : Place = passed at.times place e es in
      let past_it : Walk text level trace q.given_values at.values at.times later beyond place =
      pass e.env e.nest e.joins e.item es left (ap (is_call text) is)
      (subst (λ (it : Item). IsTrueItem text level trace later (at.times e.env) (put_item (at.values e.env) it)) (sym is) tt)
      (subst (λ (it : Item). IsSmallItem (put_item (at.values e.env) it)) (sym is) tt)
      (subst (λ (it : Item). IsPlaced text (at.times e.env) place.before e.joins it) (sym is) tt) stop in (
        beyond,
        record {
          at = record {
            values = at.values;
            times = at.times;
            ground = at.ground;
            same_values = at.same_values;
            same_times = at.same_times;
            walk = walk_then beyond at.walk past_it;
            general = pass_general text q at.values at.times at.ground trace place e es left g g at.general
                (subst (λ (it : Item). PassesTo (left_of (at.values e.env) (λ v. Known (at.times e.env v)) e.nest it) g g) (sym is) (pass_none g));
          };
          second = walk_then beyond comes.second past_it;
          past = comes.past;
        },
        ap (end_of (at.times e.env) place.before) is,
        refl,
        refl,
        done_plain at.times place e es (ap (starts_group e.joins) is),
      )
  skip_con s t middle place g comes e es left con (i.At lit time) is = absurd (false_true (sym (ap is_con is) ∙ con))
  skip_con s t middle place g comes e es left con (i.Bare lit) is = absurd (false_true (sym (ap is_con is) ∙ con))
  skip_con s t middle place g comes e es left con (i.Built built) is = absurd (false_true (sym (ap is_con is) ∙ con))
  skip_con s t middle place g comes e es left con (i.Span a from to) is = absurd (false_true (sym (ap is_con is) ∙ con))

  pub skip : (es : List Entry) (s : Values) (t : Times) (middle place : Place) (g : Shape) → place.left ≡ es → ComesFrom s t middle place g → (first : Left) (behind : List Left) → g.rest ≡ first ∷ behind →
      IsOpened s t middle place g
  skip [] s t middle place g left comes first behind e =
      absurd (nothing (sym (ap (flat_map (left_at comes.at.general.values comes.at.general.whens)) left) ∙ sym (rest_is s t place g comes.at) ∙ e))
    where
      nothing : [] ≡ first ∷ behind → ⊥
      nothing e = cc
  skip (o ∷ es) s t middle place g left comes first behind e = by (skip es s t middle) (is_con o.item) refl
    where
      by : ((place : Place) (g : Shape) → place.left ≡ es → ComesFrom s t middle place g → (first : Left) (behind : List Left) → g.rest ≡ first ∷ behind → IsOpened s t middle place g) →
          (con : Bool) → is_con o.item ≡ con → IsOpened s t middle place g
      by more true is =
          let k = skip_con s t middle place g comes o es left is o.item refl in
          let r = more k.0 g k.3 k.1 first behind e in
          record {
            place = r.place;
            comes = r.comes;
            same = r.same ∙ k.2;
            links = r.links ∙ k.4;
            groups = r.groups ∙ k.5;
            next = r.next;
            rest = r.rest;
            left = r.left;
            no_con = r.no_con;
          }
      by more false is = record { place = place; comes = comes; same = refl; links = refl; groups = refl; next = o; rest = es; left = left; no_con = is }

  -- where no item is left all constraints can be passed
  pub skip_all : (es : List Entry) (s : Values) (t : Times) (middle place : Place) (g : Shape) → place.left ≡ es → ComesFrom s t middle place g → g.rest ≡ [] →
      (beyond : Place) × ComesFrom s t middle beyond g × (beyond.left ≡ []) × (beyond.before ≡ place.before) × (beyond.links ≡ place.links)
  skip_all [] s t middle place g left comes e = (place, comes, left, refl, refl)
  skip_all (o ∷ es) s t middle place g left comes e = by (skip_all es s t middle) (is_con o.item) refl
    where
      nothing : {x : Left} {xs : List Left} → x ∷ xs ≡ [] → ⊥
      nothing e = cc

      by : ((place : Place) (g : Shape) → place.left ≡ es → ComesFrom s t middle place g → g.rest ≡ [] →
          (beyond : Place) × ComesFrom s t middle beyond g × (beyond.left ≡ []) × (beyond.before ≡ place.before) × (beyond.links ≡ place.links)) →
          (con : Bool) → is_con o.item ≡ con → (beyond : Place) × ComesFrom s t middle beyond g × (beyond.left ≡ []) × (beyond.before ≡ place.before) × (beyond.links ≡ place.links)
      by more true is =
          let k = skip_con s t middle place g comes o es left is o.item refl in
          let r = more k.0 g k.3 k.1 e in
          (r.0, r.1, r.2, r.3 ∙ k.2, r.4 ∙ k.4)
      by more false is =
          let u = comes.at.general.values in
          let w = comes.at.general.whens in
          let one = single (u o.env) (w o.env) o.nest o.item is in
          absurd (nothing (sym (ap (λ ls. ls ++ flat_map (left_at u w) es) one.1) ∙ sym (ap (flat_map (left_at u w)) left) ∙ sym (rest_is s t place g comes.at) ∙ e))

  module _ (s : Values) (t : Times) (middle : Place) (before : ℕ) (last : Option LeftItem) (told_last : IsLastTold last) (g : Shape) (here : Place) (earlier : here.before ≤ before) (o : IsOpened s t middle here g)
      (first : Left) (behind : List Left)
      (is_first : g.rest ≡ first ∷ behind) where
    abbrev place : Place
    place = o.place

    abbrev at : IsAt s t place g
    at = o.comes.at

    abbrev is : IsGeneral q at.values at.times place g
    is = at.general

    abbrev next : Entry
    next = o.next

    shown : (left : Left) × (left_of (is.values next.env) (is.whens next.env) next.nest next.item ≡ left ∷ [])
    shown = single (is.values next.env) (is.whens next.env) next.nest next.item o.no_con

    spelled : g.rest ≡ shown.0 ∷ flat_map (left_at is.values is.whens) o.rest
    spelled = rest_is s t place g at ∙ ap (flat_map (left_at is.values is.whens)) o.left ∙ ap (λ ls. ls ++ flat_map (left_at is.values is.whens) o.rest) shown.1

    first_is : first ≡ shown.0
    first_is = ap (head_left first) (sym is_first ∙ spelled)

    spells_first : left_of (is.values next.env) (is.whens next.env) next.nest next.item ≡ first ∷ []
    spells_first = shown.1 ∙ ap (λ left. left ∷ []) (sym first_is)

    place_formed : IsFormedPlace place
    place_formed = formed_along text formed at.walk (start_formed text formed since q.items (sequence_formed text formed q of_text))

    next_formed : IsFormedItem next.item
    next_formed = (subst (AllByRecursion (λ (e : Entry). IsFormedItem e.item)) o.left place_formed.left).0

    -- ---- an item is met

    module _ (met : Left) (h : Shape) (told : IsToldItem met.item) (met_by : IsLeftTrue text level trace later met.item) (small : IsLeftSmall met.item)
        (placed : IsLeftPlaced text (λ k. 0) before (goes_on text last first.item) met.item) (step : PassesTo (met ∷ []) g h) where
      abbrev u1 : Values
      u1 env = after step.v (is.values env)

      abbrev w1 : Whens
      w1 env = after_when step.x (is.whens env)

      abbrev f : ℕ → Term
      f v = clean (u1 next.env v)

      abbrev c : ℕ → ℕ
      c = numbers (w1 next.env)

      becomes : left_of (u1 next.env) (w1 next.env) next.nest next.item ≡ met ∷ []
      becomes =
          let whole : map (put_left step.v step.x) (shown.0 ∷ flat_map (left_at is.values is.whens) o.rest) ≡ met ∷ h.rest = sym (ap (map (put_left step.v step.x)) spelled) ∙ ap (λ z. z.rest) step.own in
          sym (left_after step.v (is.values next.env) step.x (is.whens next.env) next.nest next.item) ∙ ap (map (put_left step.v step.x)) shown.1 ∙ ap (λ ls. head_left met ls ∷ []) whole

      told_is : left_of f (λ v. Known (c v)) next.nest next.item ≡ met ∷ []
      told_is = told_cleaned (u1 next.env) (w1 next.env) next.nest next.item next_formed (subst AreTold (sym becomes) (told, tt)) ∙ becomes

      mets : AreMet text level trace later (left_of f (λ v. Known (c v)) next.nest next.item)
      mets = subst (AreMet text level trace later) (sym told_is) (met_by, tt)

      no_call : is_call text next.item ≡ false
      no_call = met_no_call text level trace later f c next.nest next.item mets

      -- what was passed last before the entry, under the values and times that the step leaves
      passed_last : (p : Option Entry) × AreMarked text p place.left × EndedLast text level trace q.given_values (λ env v. clean (u1 env v)) (λ env. numbers (w1 env)) place.before p
      passed_last =
          ended_last text level trace q.given_values (λ env v. clean (u1 env v)) (λ env. numbers (w1 env))
          (walk_clean q at.values at.times at.ground place u1 w1 (closed text q at.values at.times at.ground place is.values is.whens step.v step.x is.possible) place_formed text level trace later
          (start text since q.items) at.walk) None (marked_none text 0 0 q.items None) (λ p a from to same. absurd (none_some same))

      -- an entry that joins a group ends with it
      of_group : next.joins ≡ true → (a : Atom) (from to : TimeVar) → next.item ≡ i.Span a from to → (place.before ≡ c to.0) × (c to.0 ≡ suc (c from.0))
      of_group joins a from to item =
          let m = (subst (AreMarked text passed_last.0) o.left passed_last.1).0 joins in
          let spans = grouped_spans text m.0.item next.item m.3 in
          let over = passed_last.2 m.0 spans.0 spans.1 spans.2 m.1 spans.6 in
          let same : i.Span spans.3 spans.4 spans.5 ≡ i.Span a from to = sym spans.7 ∙ item in
          let ends : numbers (w1 m.0.env) spans.2.0 ≡ c to.0 = (λ j. numbers (w1 (m.2 j)) (spans.9 j)) ∙ ap (λ it. c (to_in it)) same in
          let begins : numbers (w1 m.0.env) spans.1.0 ≡ c from.0 = (λ j. numbers (w1 (m.2 j)) (spans.8 j)) ∙ ap (λ it. c (from_in it)) same in
          (over.0 ∙ ends, sym ends ∙ over.1 ∙ ap suc begins)

      abbrev colouring : IsColoured text q.given_times place
      colouring = paint text accepted level trace q of_text at.values at.times at.ground since later low place at.walk

      -- an entry that begins a step is not shown to go on with the item met last
      no_end : next.joins ≡ false → is_span next.item ≡ true → goes_on text last first.item ≡ true → ⊥
      no_end plain span on =
          let a = as_span next.item span in
          let item : left_of (is.values next.env) (is.whens next.env) next.nest (i.Span a.0 a.1 a.2) ≡ first ∷ [] =
          subst (λ (it : Item). left_of (is.values next.env) (is.whens next.env) next.nest it ≡ first ∷ []) a.3 spells_first in
          let first_item : l.Span (put_atom (is.values next.env) a.0) (is.whens next.env a.1.0) (is.whens next.env a.2.0) ≡ first.item = ap (item_or first.item) item in
          let with_last = goes_with text last (put_atom (is.values next.env) a.0) (is.whens next.env a.1.0) (is.whens next.env a.2.0) (ap (goes_on text last) first_item ∙ on) in
          let finish = known_end with_last.0 with_last.1 with_last.2 (subst IsLastTold with_last.3 told_last) in
          let apart = subst (AreApart text colouring.colour (flat_map (hues colouring.colour) place.past ++ map (colouring.colour 0) q.given_times)) o.left colouring.apart in
          let ends : IsNone (colouring.colour next.env a.2.0) (colouring.colour next.env a.1.0 ∷ (flat_map (hues colouring.colour) place.past ++ map (colouring.colour 0) q.given_times)) =
          subst (EndsApart colouring.colour (flat_map (hues colouring.colour) place.past ++ map (colouring.colour 0) q.given_times) next.env) a.3 (apart.0 (λ joined. absurd (false_true (sym plain ∙ joined)))) in
          never_known text q at.values at.times at.ground place g is colouring next.env a.2.0
          (becomes_span text q at.values at.times at.ground place g is colouring next a.0 a.1 a.2 a.3
          (λ k d none. ((subst (AreInstances text q at.values at.times at.ground place g is colouring) o.left (instances text q at.values at.times at.ground place g is colouring) k d none).0, tt)))
          ends.1 finish.0 (sym with_last.4 ∙ finish.1)

      not_on : next.joins ≡ false → is_span next.item ≡ true → goes_on text last first.item ≡ false
      not_on plain span = by (goes_on text last first.item) refl
        where
          by : (b : Bool) → goes_on text last first.item ≡ b → goes_on text last first.item ≡ false
          by true e = absurd (no_end plain span e)
          by false e = e

      le : place.before ≤ before
      le = let same = o.same in omega (arith, same, earlier)

      placed_as : AllByRecursion (λ (left : Left). IsLeftPlaced text (λ k. 0) before (goes_on text last first.item) left.item) (left_of f (λ v. Known (c v)) next.nest next.item)
      placed_as = subst (AllByRecursion (λ (left : Left). IsLeftPlaced text (λ k. 0) before (goes_on text last first.item) left.item)) (sym told_is) (placed, tt)

      -- an entry is marked exactly where it is shown to go on with the item met last
      same_flags : is_span next.item ≡ true → next.joins ≡ goes_on text last first.item
      same_flags span = by next.joins refl
        where
          by : (b : Bool) → next.joins ≡ b → b ≡ goes_on text last first.item
          by true joins =
              let a = as_span next.item span in
              let group = of_group joins a.0 a.1 a.2 a.3 in
              let as_placed = (subst (λ (it : Item). AllByRecursion (λ (left : Left). IsLeftPlaced text (λ k. 0) before (goes_on text last first.item) left.item) (left_of f (λ v. Known (c v)) next.nest it)) a.3 placed_as).0 in
              sym (goes_true (is_macro (kind_of text a.0.name)) (goes_on text last first.item) place.before before (c a.1.0) (c a.2.0) (sym (ap (is_call text) a.3) ∙ no_call) le group.0 group.1 as_placed)
          by false plain = sym (not_on plain span)

      -- the walk goes on past the entry, which is the item met
      pub past_it : (beyond : Place) × (comes : ComesFrom s t middle beyond h) × (beyond.before ≤ left_end (λ k. 0) before met.item) × (beyond.links ≡ place.links)
          × (done beyond ≡ done_then (done place) (goes_on text last first.item) met.item) × (left_at comes.at.values (all_known comes.at.times) next ≡ met ∷ [])
          × (beyond ≡ passed comes.at.times place next o.rest)
      past_it =
          let walked = lift_pass_as text formed level trace q of_text at.values at.times at.ground since later later (omega arith) place at.walk g is next o.rest o.left no_call f c
          (λ v. clean_ground (u1 next.env v)) (met_true text level trace later f c next.nest next.item mets)
          (met_small f c next.nest next.item (subst (AllByRecursion (λ (left : Left). IsLeftSmall left.item)) (sym told_is) (small, tt)))
          (met_placed text f c next.nest place.before before next.joins (goes_on text last first.item) next.item le no_call of_group not_on placed_as)
          h (subst (λ ls. PassesTo ls g h) (sym told_is) step) in
          let beyond : Place = passed walked.0.times place next o.rest in
          let reached : IsAt at.values at.times beyond h = record {
            values = walked.0.values;
            times = walked.0.times;
            ground = walked.0.ground;
            same_values = walked.0.same_values;
            same_times = walked.0.same_times;
            walk = walked.0.walk;
            general = walked.0.general;
          } in
          let ends = met_end f c next.nest place.before before next.item met le told_is in
          let same = end_moved (λ env. f) walked.0.values (λ env. c) walked.0.times next.env next.nest place.before next.item (sym walked.1) in (
            beyond,
            comes_on s t middle place beyond g h o.comes reached walked.2 walked.3,
            subst (λ n. n ≤ left_end (λ k. 0) before met.item) same ends,
            refl,
            done_next walked.0.times place next o.rest (starts_group next.joins next.item) refl
                ∙ met_done f c next.nest (done place) next.joins (goes_on text last first.item) next.item met told_is same_flags,
            walked.1 ∙ told_is,
            refl,
          )

    -- ---- a call is entered

    pub into_it : (a : Atom) (from to : When) (number : ℕ) (clause : MacroClause) (h : Shape) → first.item ≡ l.Span a from to → is_macro (kind_of text a.name) ≡ true → suc first.nest ≤ depth →
        numbered (clauses_of text a.name) number ≡ Some clause → IsLeftSmall first.item → UnfoldsTo text clause g h →
        (beyond : Place) × ComesFrom s t middle beyond h × (beyond.before ≤ before) × (IsWithin depth place → IsWithin depth beyond) × (rank beyond ≡ rank place ++ number ∷ []) × (done beyond ≡ done place)
    into_it a from to number clause h item macro deep named small step =
        let call = span_of (is.values next.env) (is.whens next.env) next.nest next.item first spells_first a from to item in
        let walked = lift_unfold_as text formed level trace q of_text at.values at.times at.ground since later later (omega arith) place at.walk g is next o.rest o.left call.0 call.1 call.2 call.3
        (subst (λ n. is_macro (kind_of text n) ≡ true) call.4 macro) number clause (subst (λ n. numbered (clauses_of text n) number ≡ Some clause) call.4 named) first behind is_first small h step in
        let beyond : Place = replaced text place (link_at place next call.0 call.1.0 call.2.0 number clause) o.rest in
        let reached : IsAt at.values at.times beyond h = record {
          values = walked.0.values;
          times = walked.0.times;
          ground = walked.0.ground;
          same_values = walked.0.same_values;
          same_times = walked.0.same_times;
          walk = walked.0.walk;
          general = walked.0.general;
        } in
        let nest = nest_is (is.values next.env) (is.whens next.env) next.nest next.item first spells_first in (
          beyond,
          comes_on s t middle place beyond g h o.comes reached walked.1 walked.2,
          let same = o.same in omega (arith, same, earlier),
          λ within. (omega (arith, nest, deep), within),
          rank_more text place (link_at place next call.0 call.1.0 call.2.0 number clause) o.rest,
          refl,
        )

  pub alone_walked : (s : Values) (t : Times) (middle : Place) {end x : Stage} → Alone text level trace depth later end x → (here : Place) → ComesFrom s t middle here x.shape → IsStageAt depth here x →
      here.before ≤ x.before → IsLastTold x.last → (beyond : Place) × IsStageAt depth beyond end × ComesFrom s t middle beyond end.shape × (beyond.before ≤ end.before)
  alone_walked s t middle stay here walked at earlier told_last = (here, at, walked, earlier)
  alone_walked s t middle {x = x} (meet first behind met h is_first told met_by small placed step more) here walked at earlier told_last =
      let o = skip here.left s t middle here x.shape refl walked first behind is_first in
      let r = past_it s t middle x.before x.last told_last x.shape here earlier o first behind is_first met h told met_by small placed step in
      let links = r.3 ∙ o.links in
      alone_walked s t middle more r.0 r.1 (record {
        within = subst (AllByRecursion (λ (link : Link). link.nest ≤ depth)) (sym links) at.within;
        of_rank = at.of_rank ∙ rank_same here.links r.0.links (sym links);
        of_done = ap (λ n. done_then n (goes_on text x.last first.item) met.item) (at.of_done ∙ sym o.groups) ∙ sym r.4;
      }) r.2 told
  alone_walked s t middle {x = x} (enter first behind a from to number clause h is_first item macro deep named small step more) here walked at earlier told_last =
      let o = skip here.left s t middle here x.shape refl walked first behind is_first in
      let r = into_it s t middle x.before x.last told_last x.shape here earlier o first behind is_first a from to number clause h item macro deep named small step in
      alone_walked s t middle more r.0 r.1 (record {
        within = r.3 (subst (AllByRecursion (λ (link : Link). link.nest ≤ depth)) (sym o.links) at.within);
        of_rank = ap (λ ns. ns ++ number ∷ []) (at.of_rank ∙ rank_same here.links o.place.links (sym o.links)) ∙ sym r.4;
        of_done = at.of_done ∙ sym o.groups ∙ sym r.5;
      }) r.2 tt
