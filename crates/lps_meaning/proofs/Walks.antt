-- Walks go forward in time, and what can stand in order at the end of one could at its start.
use Rattle.std.proofs.Common.{ℕ, Bool, true, false, ◌≡◌, ◌≤◌, List, [], ◌∷◌, ◌++◌, ◌∙◌, refl, sym, ap, subst, arith}
use Rattle.std.specs.Prelude.{suc, Option, Some, None}
use Rattle.lps_terms.specs.declared.item.Item.{Item}
use Rattle.lps_terms.specs.declared.item.Item.TheVariants as i
use Rattle.lps_terms.specs.declared.built.Built.{Built}
use Rattle.lps_terms.specs.declared.con.Con.{Con}
use Rattle.lps_terms.specs.declared.lit.Lit.{Lit}
use Rattle.lps_terms.specs.declared.text.Text.{Text}
use Rattle.lps_model.specs.declared.trace.Trace.{Trace}
use Rattle.lps_meaning.specs.Items.{put_item}
use Rattle.lps_model.specs.Rules.{is_macro, kind_of}
use Rattle.lps_meaning.specs.Frames.{IsFramed, AreFramed, first_begin, last_end_or}
use Rattle.lps_meaning.specs.Sequences.{Entry, Place, Values, Times, Walk, stop, pass, replace, IsTrueItem, IsSpanPlaced, IsPlaced, AreInOrder, end_of, entries, joins_to}

placed_new : (b : Bool) (before from to : ℕ) → IsSpanPlaced b false before from to → (before ≤ from) × (from ≤ to)
placed_new true before from to h = h
placed_new false before from to h = (h.1, let e = h.0 in omega (arith, e))

placed_span_le : (b joins : Bool) (before from to : ℕ) → IsSpanPlaced b joins before from to → before ≤ to
placed_span_le true joins before from to h = let x = h.0 in let y = h.1 in omega arith
placed_span_le false true before from to h = let y = h.1 in omega (arith, y)
placed_span_le false false before from to h = let x = h.0 in let y = h.1 in omega (arith, x)

or_zero : Option ℕ → ℕ
or_zero (Some x) = x
or_zero None = 0

some_same : {x y : ℕ} → Some x ≡ Some y → x ≡ y
unfolding or_zero
some_same e = ap or_zero e

none_some : {x : ℕ} → None ≡ Some x → ⊥
none_some e = cc

-- where a list of items ends
abbrev end_list : Times → ℕ → List Entry → ℕ
end_list t before [] = before
end_list t before (o ∷ opens) = end_list t (end_of (t o.env) before o.item) opens

module _ (text : Text) (t : Times) where
  placed_le : (env before : ℕ) (joins : Bool) (item : Item) → IsPlaced text (t env) before joins item → before ≤ end_of (t env) before item
  placed_le env before joins (i.At l time) h = h
  placed_le env before joins (i.Bare l) h = omega arith
  placed_le env before joins (i.Built b) h = omega arith
  placed_le env before joins (i.Span a from to) h = placed_span_le (is_macro (kind_of text a.name)) joins before (t env from.0) (t env to.0) h
  placed_le env before joins (i.Con con) h = omega arith

  order_le : (before : ℕ) (opens : List Entry) → AreInOrder text t before opens → before ≤ end_list t before opens
  order_le before [] h = omega arith
  order_le before (o ∷ opens) h =
      let x = placed_le o.env before o.joins o.item h.0 in
      let y = order_le (end_of (t o.env) before o.item) opens h.1 in omega arith

  order_split : (before : ℕ) (xs ys : List Entry) → AreInOrder text t before (xs ++ ys) → AreInOrder text t before xs × AreInOrder text t (end_list t before xs) ys
  order_split before [] ys h = (tt, h)
  order_split before (o ∷ xs) ys h = let r = order_split (end_of (t o.env) before o.item) xs ys h.1 in ((h.0, r.0), r.1)

  alone_bare : (l : Lit) (item : Item) → joins_to text (Some (i.Bare l)) item ≡ false
  alone_bare l item = refl

  alone_built : (c : Built) (item : Item) → joins_to text (Some (i.Built c)) item ≡ false
  alone_built c item = refl

  alone_con : (con : Con) (item : Item) → joins_to text (Some (i.Con con)) item ≡ false
  alone_con con item = refl

  module _ (inner nest : ℕ) where
    framed_begin : (items : List Item) (last : Option Item) → ((item : Item) → joins_to text last item ≡ false) → (before b : ℕ) →
        AreInOrder text t before (entries text inner nest last items) → first_begin items ≡ Some b →
        (before ≤ t inner b) × (t inner b ≤ end_list t before (entries text inner nest last items))
    framed_begin [] last none before b h is = absurd (none_some is)
    framed_begin (i.At l time ∷ items) last none before b h is =
        let es : List Entry = entries text inner nest (Some (i.At l time)) items in
        subst (λ v. (before ≤ t inner v) × (t inner v ≤ end_list t (t inner time.0) es)) (some_same is) (h.0, order_le (t inner time.0) es h.1)
    framed_begin (i.Span a from to ∷ items) last none before b h is =
        let es : List Entry = entries text inner nest (Some (i.Span a from to)) items in
        let first = subst (λ joins. IsSpanPlaced (is_macro (kind_of text a.name)) joins before (t inner from.0) (t inner to.0)) (none (i.Span a from to)) h.0 in
        let q = placed_new (is_macro (kind_of text a.name)) before (t inner from.0) (t inner to.0) first in
        let r = order_le (t inner to.0) es h.1 in
        subst (λ v. (before ≤ t inner v) × (t inner v ≤ end_list t (t inner to.0) es)) (some_same is) (q.0, let q1 = q.1 in omega arith)
    framed_begin (i.Bare l ∷ items) last none before b h is = framed_begin items (Some (i.Bare l)) (λ item. alone_bare l item) before b h.1 is
    framed_begin (i.Built c ∷ items) last none before b h is = framed_begin items (Some (i.Built c)) (λ item. alone_built c item) before b h.1 is
    framed_begin (i.Con con ∷ items) last none before b h is = framed_begin items (Some (i.Con con)) (λ item. alone_con con item) before b h.1 is

    framed_end : (items : List Item) (last : Option Item) (so_far : Option ℕ) (before e : ℕ) → ((v : ℕ) → so_far ≡ Some v → before ≡ t inner v) →
        last_end_or so_far items ≡ Some e → end_list t before (entries text inner nest last items) ≡ t inner e
    framed_end [] last so_far before e known is = known e is
    framed_end (i.At l time ∷ items) last so_far before e known is =
        framed_end items (Some (i.At l time)) (Some time.0) (t inner time.0) e (λ v same. ap (t inner) (some_same same)) is
    framed_end (i.Span a from to ∷ items) last so_far before e known is =
        framed_end items (Some (i.Span a from to)) (Some to.0) (t inner to.0) e (λ v same. ap (t inner) (some_same same)) is
    framed_end (i.Bare l ∷ items) last so_far before e known is = framed_end items (Some (i.Bare l)) so_far before e known is
    framed_end (i.Built c ∷ items) last so_far before e known is = framed_end items (Some (i.Built c)) so_far before e known is
    framed_end (i.Con con ∷ items) last so_far before e known is = framed_end items (Some (i.Con con)) so_far before e known is

module _ (text : Text) (level : List ℕ → ℕ) (trace : Trace) (given : List ℕ) (s : Values) (t : Times) where
  true_later : (now later env : ℕ) (item : Item) → now ≤ later → IsTrueItem text level trace now (t env) (put_item (s env) item) → IsTrueItem text level trace later (t env) (put_item (s env) item)
  true_later now later env (i.At l time) le h = (let a = h.0 in omega arith, h.1)
  true_later now later env (i.Bare l) le h = h
  true_later now later env (i.Built b) le h = h
  true_later now later env (i.Span a from to) le h = (let b = h.0 in omega arith, h.1)
  true_later now later env (i.Con con) le h = h

  -- what is done by now is done later
  pub wider : {now later : ℕ} {end place : Place} → now ≤ later → Walk text level trace given s t now end place → Walk text level trace given s t later end place
  wider le stop = stop
  wider {now} {later} le (pass env nest joins item rest left no_call is_true small placed walk) =
      pass env nest joins item rest left no_call (true_later now later env item le is_true) small placed (wider le walk)
  wider le (replace o rest a from to number clause left item macro named values times small walk) =
      replace o rest a from to number clause left item macro named values times small (wider le walk)

  -- a walk goes forward in time
  pub forward : {now : ℕ} {end place : Place} → Walk text level trace given s t now end place → place.before ≤ end.before
  forward stop = omega arith
  forward {place = place} (pass env nest joins item rest left no_call is_true small placed walk) =
      let x = placed_le text t env place.before joins item placed in let y = forward walk in omega arith
  forward (replace o rest a from to number clause left item macro named values times small walk) = forward walk

  true_tight : (now later env before : ℕ) (item : Item) → end_of (t env) before item ≤ later →
      IsTrueItem text level trace now (t env) (put_item (s env) item) → IsTrueItem text level trace later (t env) (put_item (s env) item)
  true_tight now later env before (i.At l time) le h = (le, h.1)
  true_tight now later env before (i.Bare l) le h = h
  true_tight now later env before (i.Built b) le h = h
  true_tight now later env before (i.Span a from to) le h = (le, h.1)
  true_tight now later env before (i.Con con) le h = h

  -- and is done by its own end
  pub tight : {now : ℕ} {end place : Place} → Walk text level trace given s t now end place → Walk text level trace given s t end.before end place
  tight stop = stop
  tight {now} {end} {place} (pass env nest joins item rest left no_call is_true small placed walk) =
      pass env nest joins item rest left no_call (true_tight now end.before env place.before item (forward walk) is_true) small placed (tight walk)
  tight (replace o rest a from to number clause left item macro named values times small walk) =
      replace o rest a from to number clause left item macro named values times small (tight walk)

  -- what can stand in time at the end of a walk could at its start
  pub in_order : {now : ℕ} {end place : Place} → AreFramed text → Walk text level trace given s t now end place →
      AreInOrder text t end.before end.left → AreInOrder text t place.before place.left
  in_order framed stop h = h
  in_order {place = place} framed (pass env nest joins item rest left no_call is_true small placed walk) h =
      subst (λ l. AreInOrder text t place.before l) (sym left) (placed, in_order framed walk h)
  in_order {place = place} framed (replace o rest a from to number clause left item macro named values times small walk) h =
      let body : List Entry = entries text place.next (suc o.nest) None clause.items in
      let parts = order_split text t place.before body rest (in_order framed walk h) in
      let frame : IsFramed clause = framed.each a.name number clause named in
      let b = framed_begin text t place.next (suc o.nest) clause.items None (λ item. refl) place.before clause.begin parts.0 frame.begin in
      let e = framed_end text t place.next (suc o.nest) clause.items None None place.before clause.end (λ v same. absurd (none_some same)) frame.end in
      let b0 = b.0 in let b1 = b.1 in let t0 = times.0 in let t1 = times.1 in
      subst (λ l. AreInOrder text t place.before l) (sym left)
      (subst (λ it. IsPlaced text (t o.env) place.before o.joins it × AreInOrder text t (end_of (t o.env) place.before it) rest) (sym item) (
        subst (λ m. IsSpanPlaced m o.joins place.before (t o.env from.0) (t o.env to.0)) (sym macro) (omega (arith, t0), omega (arith, t0, t1, e)),
        subst (λ n. AreInOrder text t n rest) (e ∙ sym t1) parts.1,
      ))
