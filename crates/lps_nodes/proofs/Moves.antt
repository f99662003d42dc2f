-- A walk is one under all values and times under which the entries passed are the same and the calls replaced fit their bodies.
use Rattle.std.proofs.Common.{ℕ, Bool, false, ◌≡◌, ◌≤◌, List, [], ◌∷◌, ◌∙◌, map, refl, sym, ap, subst}
use Rattle.std.specs.Prelude.{Contains}
use Rattle.std.specs.List.{AllByRecursion}
use Rattle.lps_terms.specs.declared.atom.Atom.{Atom}
use Rattle.lps_terms.specs.declared.built.Built.{Built}
use Rattle.lps_terms.specs.declared.item.Item.{Item}
use Rattle.lps_terms.specs.declared.item.Item.TheVariants as i
use Rattle.lps_terms.specs.declared.lit.Lit.{Lit}
use Rattle.lps_terms.specs.declared.text.Text.{Text}
use Rattle.lps_model.specs.declared.trace.Trace.{Trace}
use Rattle.lps_model.specs.Trace.{events_at}
use Rattle.lps_terms.specs.Put.{put_atom}
use Rattle.lps_derivation.specs.Instances.{put_lit, put_built}
use Rattle.lps_meaning.specs.declared.node.Left.{Left}
use Rattle.lps_meaning.specs.declared.node.LeftItem.{LeftItem}
use Rattle.lps_meaning.specs.declared.node.LeftItem.TheVariants as l
use Rattle.lps_meaning.specs.declared.when.When.{When}
use Rattle.lps_meaning.specs.declared.when.When.TheVariants.{Known, Unknown}
use Rattle.lps_meaning.specs.Holds.{IsTrueLit}
use Rattle.lps_meaning.specs.Items.{put_item, IsSmallItem}
use Rattle.lps_model.specs.Rules.{is_macro, kind_of}
use Rattle.lps_meaning.specs.Sequences.{Entry, Link, Place, Values, Times, Walk, stop, pass, replace, end_of, IsSpanPlaced, IsPlaced, IsTrueItem, IsSmallSoFar, HasSameValues, HasSameTimes}
use Rattle.lps_nodes.specs.Shapes.{left_of, left_at, all_known}

-- ---- what an item left tells of the item

abbrev pub item_in : LeftItem → List Left → LeftItem
item_in d [] = d
item_in d (left ∷ rest) = left.item

abbrev pub lit_in : Lit → LeftItem → Lit
lit_in d (l.At lit time) = lit
lit_in d (l.Bare lit) = lit
lit_in d _ = d

abbrev pub atom_in : Atom → LeftItem → Atom
atom_in d (l.Span a from to) = a
atom_in d _ = d

abbrev pub built_in : Built → LeftItem → Built
built_in d (l.Built built) = built
built_in d _ = d

abbrev number_in : When → ℕ
number_in (Known n) = n
number_in (Unknown k) = k

abbrev first_in : LeftItem → ℕ
first_in (l.At lit time) = number_in time
first_in (l.Span a from to) = number_in from
first_in _ = 0

abbrev second_in : LeftItem → ℕ
second_in (l.Span a from to) = number_in to
second_in _ = 0

abbrev nothing : LeftItem
nothing = l.Bare (record { negated = false; atom = record { name = []; args = [] } })

module _ (s u : Values) (t w : Times) where
  -- the entry is the same under both
  abbrev pub SameEntry : Entry → Type 0
  SameEntry e = ◌≡◌ {A = List Left} (left_at s (all_known t) e) (left_at u (all_known w) e)

  abbrev Same : ℕ → ℕ → Item → Type 0
  Same env nest item = ◌≡◌ {A = List Left} (left_of (s env) (all_known t env) nest item) (left_of (u env) (all_known w env) nest item)

  pub item_moved : (env nest : ℕ) (item : Item) → Same env nest item → put_item (s env) item ≡ put_item (u env) item
  item_moved env nest (i.At lit time) e = ap (λ ls. i.At (lit_in (put_lit (s env) lit) (item_in (l.At (put_lit (s env) lit) (Known (t env time.0))) ls)) time) e
  item_moved env nest (i.Bare lit) e = ap (λ ls. i.Bare (lit_in (put_lit (s env) lit) (item_in (l.Bare (put_lit (s env) lit)) ls))) e
  item_moved env nest (i.Built c) e = ap (λ ls. i.Built (built_in (put_built (s env) c) (item_in (l.Built (put_built (s env) c)) ls))) e
  item_moved env nest (i.Span a from to) e =
      ap (λ ls. i.Span (atom_in (put_atom (s env) a) (item_in (l.Span (put_atom (s env) a) (Known (t env from.0)) (Known (t env to.0))) ls)) from to) e
  item_moved env nest (i.Con con) e = refl

  first_moved : (env nest : ℕ) (item : Item) → Same env nest item → first_in (item_in nothing (left_of (s env) (all_known t env) nest item)) ≡ first_in (item_in nothing (left_of (u env) (all_known w env) nest item))
  first_moved env nest item e = ap (λ ls. first_in (item_in nothing ls)) e

  second_moved : (env nest : ℕ) (item : Item) → Same env nest item → second_in (item_in nothing (left_of (s env) (all_known t env) nest item)) ≡ second_in (item_in nothing (left_of (u env) (all_known w env) nest item))
  second_moved env nest item e = ap (λ ls. second_in (item_in nothing ls)) e

  pub placed_moved : (text : Text) (env nest before : ℕ) (joins : Bool) (item : Item) → Same env nest item → IsPlaced text (t env) before joins item → IsPlaced text (w env) before joins item
  placed_moved text env nest before joins (i.At lit time) e h = subst (λ n. before ≤ n) (first_moved env nest (i.At lit time) e) h
  placed_moved text env nest before joins (i.Span a from to) e h =
      subst (λ n. IsSpanPlaced (is_macro (kind_of text a.name)) joins before n (w env to.0)) (first_moved env nest (i.Span a from to) e)
      (subst (λ n. IsSpanPlaced (is_macro (kind_of text a.name)) joins before (t env from.0) n) (second_moved env nest (i.Span a from to) e) h)
  placed_moved text env nest before joins (i.Bare lit) e h = h
  placed_moved text env nest before joins (i.Built c) e h = h
  placed_moved text env nest before joins (i.Con con) e h = h

  pub end_moved : (env nest before : ℕ) (item : Item) → Same env nest item → end_of (t env) before item ≡ end_of (w env) before item
  end_moved env nest before (i.At lit time) e = first_moved env nest (i.At lit time) e
  end_moved env nest before (i.Span a from to) e = second_moved env nest (i.Span a from to) e
  end_moved env nest before (i.Bare lit) e = refl
  end_moved env nest before (i.Built c) e = refl
  end_moved env nest before (i.Con con) e = refl

  module _ (text : Text) (level : List ℕ → ℕ) (trace : Trace) where
    -- an item of an instance, with its times by the one and by the other
    pub times_moved : (now env nest : ℕ) (item : Item) → Same env nest item → IsTrueItem text level trace now (t env) (put_item (u env) item) →
        IsTrueItem text level trace now (w env) (put_item (u env) item)
    times_moved now env nest (i.At lit time) e h =
        subst (λ n. (n ≤ now) × IsTrueLit text level trace n (put_lit (u env) lit)) (first_moved env nest (i.At lit time) e) h
    times_moved now env nest (i.Bare lit) e h = h
    times_moved now env nest (i.Built c) e h = h
    times_moved now env nest (i.Span a from to) e h =
        subst (λ n. (n ≤ now) × Contains (events_at trace n) (put_atom (u env) a)) (second_moved env nest (i.Span a from to) e) h
    times_moved now env nest (i.Con con) e h = h

    module _ (given : List ℕ) where
      pub past_of : (P : Entry → Type 0) {now : ℕ} {end place : Place} → Walk text level trace given s t now end place → AllByRecursion P end.past → AllByRecursion P place.past
      past_of P stop h = h
      past_of P (pass env nest joins item rest left no_call is_true small placed walk) h = (past_of P walk h).1
      past_of P (replace o rest a from to number clause left item macro named vals whens small walk) h = past_of P walk h

      pub links_of : (P : Link → Type 0) {now : ℕ} {end place : Place} → Walk text level trace given s t now end place → AllByRecursion P end.links → AllByRecursion P place.links
      links_of P stop h = h
      links_of P (pass env nest joins item rest left no_call is_true small placed walk) h = links_of P walk h
      links_of P (replace o rest a from to number clause left item macro named vals whens small walk) h = (links_of P walk h).1

      all_two : {X : Type 0} (P Q R : X → Type 0) → ((x : X) → P x → Q x → R x) → (xs : List X) → AllByRecursion P xs → AllByRecursion Q xs → AllByRecursion R xs
      all_two P Q R f [] h k = tt
      all_two P Q R f (x ∷ xs) h k = (f x h.0 k.0, all_two P Q R f xs h.1 k.1)

      module _ (same_given : map (s 0) given ≡ map (u 0) given) where
        so_far_moved : (place : Place) (o : Entry) → AllByRecursion SameEntry place.past → IsSmallSoFar given s place o → IsSmallSoFar given u place o
        so_far_moved place o same k = record {
          other = k.other;
          alike = record {
            start = sym same_given ∙ k.alike.start;
            past = all_two SameEntry (λ e. put_item (s e.env) e.item ≡ put_item (k.other e.env) e.item) (λ e. put_item (u e.env) e.item ≡ put_item (k.other e.env) e.item)
                (λ e here there. sym (item_moved e.env e.nest e.item here) ∙ there) place.past same k.alike.past;
            links = k.alike.links;
          };
          small = k.small;
        }

        pub moved : {now : ℕ} {end place : Place} → Walk text level trace given s t now end place → AllByRecursion SameEntry end.past →
            AllByRecursion (HasSameValues u) end.links → AllByRecursion (HasSameTimes w) end.links → Walk text level trace given u w now end place
        moved stop same vals whens = stop
        moved {now} {end} {place} (pass env nest joins item rest left no_call is_true small placed walk) same vals whens =
            let e : Same env nest item = (past_of SameEntry walk same).0 in
            pass env nest joins item rest left no_call
            (times_moved now env nest item e (subst (λ x. IsTrueItem text level trace now (t env) x) (item_moved env nest item e) is_true))
            (subst IsSmallItem (item_moved env nest item e) small)
            (placed_moved text env nest place.before joins item e placed)
            (subst (λ b. Walk text level trace given u w now end (record {
              past = record { env = env; nest = nest; joins = joins; item = item } ∷ place.past;
              links = place.links;
              next = place.next;
              before = b;
              left = rest;
            })) (end_moved env nest place.before item e) (moved walk same vals whens))
        moved {place = place} (replace o rest a from to number clause left item macro named old_values old_times small walk) same vals whens =
            replace o rest a from to number clause left item macro named (links_of (HasSameValues u) walk vals).0 (links_of (HasSameTimes w) walk whens).0
            (so_far_moved place o (past_of SameEntry walk same) small) (moved walk same vals whens)
