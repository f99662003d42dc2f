-- What a walk meets from a place on is met by steps alone on the most general of what is left there.
use Rattle.std.proofs.Common.{ℕ, suc, Bool, true, false, cond, ◌≡◌, ◌≤◌, ◌<◌, ◌+◌, List, [], ◌∷◌, ◌++◌, ◌∙◌, map, refl, sym, ap, subst, arith}
use Rattle.std.specs.Prelude.{IsTrue, Option, Some, None, reverse, if◌then◌else◌}
use Rattle.std.specs.List.{AllByRecursion, count_by, flat_map}
use Rattle.std.proofs.lemmas.List.{map-append, reverse-append}
use Rattle.std.proofs.lemmas.List.Sums.{sum_by-cons}
use Rattle.lps_terms.specs.declared.atom.Atom.{Atom}
use Rattle.lps_terms.specs.declared.built.Built.{Built}
use Rattle.lps_terms.specs.declared.con.Con.{Con}
use Rattle.lps_terms.specs.declared.item.Item.{Item}
use Rattle.lps_terms.specs.declared.item.Item.TheVariants as i
use Rattle.lps_terms.specs.declared.lit.Lit.{Lit}
use Rattle.lps_terms.specs.declared.text.Text.{Text}
use Rattle.lps_terms.specs.declared.time_var.TimeVar.{TimeVar}
use Rattle.lps_terms.specs.Put.{put_atom}
use Rattle.lps_model.specs.declared.trace.Trace.{Trace}
use Rattle.lps_model.specs.Formed.{is_formed}
use Rattle.lps_meaning.specs.declared.node.Left.{Left}
use Rattle.lps_meaning.specs.declared.node.LeftItem.{LeftItem}
use Rattle.lps_meaning.specs.declared.node.LeftItem.TheVariants as l
use Rattle.lps_meaning.specs.declared.when.When.{When}
use Rattle.lps_meaning.specs.declared.when.When.TheVariants.{Known}
use Rattle.lps_nodes.specs.Alone.{Alone, stay, meet, enter, IsLeftTrue, IsToldItem, Stage, done_then, met_to, unfolded_to}
use Rattle.lps_nodes.specs.Conditions.{IsLeftPlaced, IsLeftSmall, goes_on, left_end}
use Rattle.lps_meaning.specs.Goals.{AreAllGround}
use Rattle.lps_meaning.specs.Items.{put_item, IsSmallItem}
use Rattle.lps_nodes.specs.Laws.{IsOfText, LeadsTo, stage_at}
use Rattle.lps_nodes.specs.Led.{AreMetNow}
use Rattle.lps_model.specs.Rules.{MacroClause, clauses_of, is_macro, kind_of, numbered}
use Rattle.lps_meaning.specs.Sequences.{Entry, Link, Place, Values, Times, Walk, stop, pass, replace, start, entries, passed, replaced, link_at, is_call, is_step, rank, done, starts_group, HasSameTimes, HasSameValues, IsAhead, IsPlaced, IsSmallSoFar, IsSpanPlaced, IsTrueItem, IsWithin}
use Rattle.lps_nodes.specs.Shapes.{Sequence, Shape, left_of, left_at, all_known, IsGeneral}
use Rattle.lps_nodes.specs.Steps.{PassesTo}
use Rattle.lps_nodes.proofs.Cleaning.{clean_item, clean_put_item, clean_stays, cleaned_built, cleaned_terms}
use Rattle.lps_nodes.proofs.ConditionLaws.{AreMarked, EndedAt, ShowsLast, TimesAre, equal_flags, false_true, first_placed, first_unmarked, item_or, linked, marked, marked_behind_call, marked_joined, marked_none, marked_shows, none_some, shows_nothing, shows_span, some_entry, span_marked, together_ends}
use Rattle.lps_nodes.proofs.Existence.{pass_none}
use Rattle.lps_meaning.proofs.Formed.{IsFormedItem}
use Rattle.lps_nodes.proofs.MetNow.{is_met_now, met_all}
use Rattle.lps_nodes.proofs.Lifting.{formed_along, fresh_along, sequence_formed, start_formed, walk_then}
use Rattle.lps_nodes.proofs.NodeLaws.{left_from, left_is, small_first, times_are, y}
use Rattle.lps_nodes.proofs.Reaching.{step_pass, step_unfold}
use Rattle.lps_nodes.proofs.ShapeLaws.{fresh_start, pass_general, unfold_general}
use Rattle.lps_meaning.proofs.Splits.{within_back}

-- ---- what a place says

count_cons : (test : Entry → Bool) (e : Entry) (es : List Entry) → count_by test (e ∷ es) ≡ cond (test e) 1 0 + count_by test es
count_cons test e es = sum_by-cons (λ x. cond (test x) 1 0) e es

abbrev begins_group : Entry → Bool
begins_group e = starts_group e.joins e.item

pub done_plain : (t : Times) (place : Place) (e : Entry) (rest : List Entry) → starts_group e.joins e.item ≡ false → done (passed t place e rest) ≡ done place
done_plain t place e rest none =
    let whole = count_cons begins_group e place.past in
    let zero : ◌≡◌ {A = ℕ} (cond (begins_group e) 1 0) 0 = ap (λ b. cond b 1 0) none in
    omega (arith, whole, zero)

pub done_begun : (t : Times) (place : Place) (e : Entry) (rest : List Entry) → starts_group e.joins e.item ≡ true → done (passed t place e rest) ≡ suc (done place)
done_begun t place e rest begun =
    let whole = count_cons begins_group e place.past in
    let one : ◌≡◌ {A = ℕ} (cond (begins_group e) 1 0) 1 = ap (λ b. cond b 1 0) begun in
    omega (arith, whole, one)

pub rank_more : (text : Text) (place : Place) (link : Link) (rest : List Entry) → rank (replaced text place link rest) ≡ rank place ++ link.number ∷ []
rank_more text place link rest =
    ap (map (λ (x : Link). x.number)) (reverse-append (link ∷ []) place.links) ∙ map-append (λ (x : Link). x.number) (reverse place.links) (link ∷ [])

-- an event or action ends one after it begins
span_one : (b joins : Bool) (before from to : ℕ) → b ≡ false → IsSpanPlaced b joins before from to → to ≡ suc from
span_one true joins before from to e h = absurd (false_true (sym e))
span_one false true before from to e h = h.0
span_one false false before from to e h = h.0

-- ---- what is told

abbrev pub AreTold : List Left → Type 0
AreTold = AllByRecursion (λ left. IsToldItem left.item)

told_clean : (c : ℕ → ℕ) (nest : ℕ) (item : Item) → AreTold (left_from (λ v. Known (c v)) nest (clean_item item))
told_clean c nest (i.At lit time) = (cleaned_terms lit.atom.args, tt)
told_clean c nest (i.Bare lit) = (cleaned_terms lit.atom.args, tt)
told_clean c nest (i.Built built) = (cleaned_built built, tt)
told_clean c nest (i.Span a from to) = (cleaned_terms a.args, tt)
told_clean c nest (i.Con con) = tt

abbrev entry : ℕ → ℕ → Bool → Item → Entry
entry env nest joins item = record { env = env; nest = nest; joins = joins; item = item }

module _ (text : Text) (formed : IsTrue (is_formed text)) (level : List ℕ → ℕ) (trace : Trace) (depth : ℕ) (q : Sequence) (of_text : IsOfText text q) (s : Values) (t : Times) (ground : AreAllGround s)
    (since later : ℕ) (low : since ≤ later) where
  -- an item of a well-formed text is told by values that are ground and times that are known
  pub told_item : (env nest : ℕ) (item : Item) → IsFormedItem item → AreTold (left_of (s env) (all_known t env) nest item)
  told_item env nest item h =
      let stays : clean_item (put_item (s env) item) ≡ put_item (s env) item =
      clean_put_item h.variables (s env) h.times item h.formed ∙ (λ j. put_item (λ v. clean_stays (s env v) (ground env v) j) item) in
      subst AreTold (ap (left_from (all_known t env) nest) stays ∙ sym (left_is (s env) (all_known t env) nest item)) (told_clean (t env) nest (put_item (s env) item))

  -- a stage at a place that a walk reaches
  pub record Reached (place : Place) (x : Stage) : Type 0 where
    pub so_far : Walk text level trace q.given_values s t later place (start text since q.items)
    pub general : IsGeneral q s t place x.shape
    pub of_rank : x.rank ≡ rank place
    pub of_done : x.done ≡ done place

  -- and the entry passed last since the steps began, if there is one, is shown by the item met last
  pub record Standing (place : Place) (x : Stage) : Type 0 where
    pub reached : Reached place x
    pub before : x.before ≡ place.before
    pub last : Option Entry
    pub marks : AreMarked text last place.left
    pub passed_last : (p : Entry) → last ≡ Some p → (older : List Entry) × (place.past ≡ p ∷ older)
    pub shows : ShowsLast text s (all_known t) t (λ k. k) last x.last
    pub ended : (u : Values) (w : ℕ → ℕ → When) (z : ℕ → ℕ) → EndedAt text u w t z x.before x.last

  -- steps from the next stage on are steps from this one on, each of which ends at this time where the first of them does
  abbrev GoesTo : Stage → Place → Type 0
  GoesTo x place = (next : Stage) × Standing place next
      × ((z : Stage) → Alone text level trace depth later z next → (more : Alone text level trace depth later z x) × (later ≤ next.before → AreMetNow more))

  module _ (place : Place) (x : Stage) (here : Reached place x) where
    abbrev is : IsGeneral q s t place x.shape
    is = here.general

    links : AllByRecursion (HasSameValues s) place.links × AllByRecursion (HasSameTimes t) place.links
    links = linked text level trace q.given_values s t here.so_far tt tt

    -- ---- an item is met

    module _ (o : Entry) (rest : List Entry) (left : place.left ≡ o ∷ rest) where
      abbrev beyond : Place
      beyond = passed t place o rest

      formed_item : IsFormedItem o.item
      formed_item = (subst (AllByRecursion (λ (e : Entry). IsFormedItem e.item)) left
          (formed_along text formed here.so_far (start_formed text formed since q.items (sequence_formed text formed q of_text))).left).0

      told : AreTold (left_at s (all_known t) o)
      told = told_item o.env o.nest o.item formed_item

      module _ (no_call : is_call text o.item ≡ false) (is_true : IsTrueItem text level trace later (t o.env) (put_item (s o.env) o.item)) (small : IsSmallItem (put_item (s o.env) o.item))
          (placed : IsPlaced text (t o.env) place.before o.joins o.item) (marks : AreMarked text (Some o) rest) where
        walked : Walk text level trace q.given_values s t later beyond (start text since q.items)
        walked = walk_then beyond here.so_far (pass o.env o.nest o.joins o.item rest left no_call is_true small placed stop)

        -- a constraint is passed without a step
        past_con : (con : Con) → o.item ≡ i.Con con → (stands : Standing place x) → GoesTo x beyond
        past_con con item stands = (
          x,
          record {
            reached = record {
              so_far = walked;
              general = pass_general text q s t ground trace place o rest left x.shape x.shape is
                  (subst (λ (it : Item). PassesTo (left_of (s o.env) (all_known t o.env) o.nest it) x.shape x.shape) (sym item) (pass_none x.shape));
              of_rank = here.of_rank;
              of_done = here.of_done ∙ sym (done_plain t place o rest (ap (starts_group o.joins) item));
            };
            before = stands.before ∙ sym (end_same item);
            last = Some o;
            marks = marks;
            passed_last = λ p same. (place.past, ap (λ e. e ∷ place.past) (some_entry same));
            shows = shows_nothing text s (all_known t) t (λ k. k) o (i.Con con) x.last item refl;
            ended = stands.ended;
          },
          λ z steps. (steps, λ le. met_all text level trace later depth steps le),
        )
          where
            end_same : o.item ≡ i.Con con → beyond.before ≡ place.before
            end_same item = subst (λ (it : Item). (passed t place (entry o.env o.nest o.joins it) rest).before ≡ place.before) (sym item) refl

        -- an item is met in one step
        met_by : (met first : Left) → left_at s (all_known t) o ≡ met ∷ [] → left_at is.values is.whens o ≡ first ∷ [] → IsLeftTrue text level trace later met.item → IsLeftSmall met.item →
            IsLeftPlaced text (λ k. 0) x.before (goes_on text x.last first.item) met.item → left_end (λ k. 0) x.before met.item ≡ beyond.before →
            done_then x.done (goes_on text x.last first.item) met.item ≡ done beyond → ShowsLast text s (all_known t) t (λ k. k) (Some o) (Some met.item) →
            ((u : Values) (w : ℕ → ℕ → When) (z : ℕ → ℕ) → EndedAt text u w t z (left_end (λ k. 0) x.before met.item) (Some met.item)) → GoesTo x beyond
        met_by met first is_met is_first left_true left_small left_placed before of_done shows ended =
            let step = step_pass text q s t ground level trace place o rest left links.0 links.1 x.shape is in
            let spelled : x.shape.rest ≡ first ∷ flat_map (left_at is.values is.whens) rest =
            ap (λ h. h.rest) is.own ∙ ap (flat_map (left_at is.values is.whens)) left ∙ ap (λ ls. ls ++ flat_map (left_at is.values is.whens) rest) is_first in
            let told_met : AreTold (met ∷ []) = subst AreTold is_met told in (
              met_to text x first met step.0,
              record {
                reached = record { so_far = walked; general = pass_general text q s t ground trace place o rest left x.shape step.0 is step.1; of_rank = here.of_rank; of_done = of_done };
                before = before;
                last = Some o;
                marks = marks;
                passed_last = λ p same. (place.past, ap (λ e. e ∷ place.past) (some_entry same));
                shows = shows;
                ended = ended;
              },
              λ z steps. (
                meet first (flat_map (left_at is.values is.whens) rest) met step.0 spelled told_met.0 left_true left_small left_placed
                    (subst (λ ls. PassesTo ls x.shape step.0) is_met step.1) steps,
                λ le. (is_met_now text level trace later x.before met.item told_met.0 left_true le, met_all text level trace later depth steps le),
              ),
            )

    -- ---- by items

    module _ (env nest : ℕ) (joins : Bool) (rest : List Entry) where
      met_at : (lit : Lit) (time : TimeVar) (left : place.left ≡ entry env nest joins (i.At lit time) ∷ rest) → IsTrueItem text level trace later (t env) (put_item (s env) (i.At lit time)) →
          IsSmallItem (put_item (s env) (i.At lit time)) → IsPlaced text (t env) place.before joins (i.At lit time) → AreMarked text (Some (entry env nest joins (i.At lit time))) rest → x.before ≤ t env time.0 →
          GoesTo x (passed t place (entry env nest joins (i.At lit time)) rest)
      met_at lit time left is_true small placed marks le =
          met_by (entry env nest joins (i.At lit time)) rest left refl is_true small placed marks _ _ refl refl is_true small le refl
          (here.of_done ∙ sym (done_plain t place (entry env nest joins (i.At lit time)) rest refl))
          (shows_nothing text s (all_known t) t (λ k. k) (entry env nest joins (i.At lit time)) (i.At lit time) _ refl refl) (λ u w z. tt)

      met_bare : (lit : Lit) (left : place.left ≡ entry env nest joins (i.Bare lit) ∷ rest) → IsTrueItem text level trace later (t env) (put_item (s env) (i.Bare lit)) →
          IsSmallItem (put_item (s env) (i.Bare lit)) → AreMarked text (Some (entry env nest joins (i.Bare lit))) rest → x.before ≡ place.before →
          GoesTo x (passed t place (entry env nest joins (i.Bare lit)) rest)
      met_bare lit left is_true small marks before =
          met_by (entry env nest joins (i.Bare lit)) rest left refl is_true small tt marks _ _ refl refl is_true small tt before
          (here.of_done ∙ sym (done_plain t place (entry env nest joins (i.Bare lit)) rest refl))
          (shows_nothing text s (all_known t) t (λ k. k) (entry env nest joins (i.Bare lit)) (i.Bare lit) _ refl refl) (λ u w z. tt)

      met_built : (built : Built) (left : place.left ≡ entry env nest joins (i.Built built) ∷ rest) → IsTrueItem text level trace later (t env) (put_item (s env) (i.Built built)) →
          IsSmallItem (put_item (s env) (i.Built built)) → AreMarked text (Some (entry env nest joins (i.Built built))) rest → x.before ≡ place.before →
          GoesTo x (passed t place (entry env nest joins (i.Built built)) rest)
      met_built built left is_true small marks before =
          met_by (entry env nest joins (i.Built built)) rest left refl is_true small tt marks _ _ refl refl is_true small tt before
          (here.of_done ∙ sym (done_plain t place (entry env nest joins (i.Built built)) rest refl))
          (shows_nothing text s (all_known t) t (λ k. k) (entry env nest joins (i.Built built)) (i.Built built) _ refl refl) (λ u w z. tt)

      module _ (a : Atom) (from to : TimeVar) (left : place.left ≡ entry env nest joins (i.Span a from to) ∷ rest) where
        abbrev here_entry : Entry
        here_entry = entry env nest joins (i.Span a from to)

        abbrev first_item : LeftItem
        first_item = l.Span (put_atom (is.values env) a) (is.whens env from.0) (is.whens env to.0)

        done_span : (b : Bool) → joins ≡ b → (if b then x.done else suc x.done) ≡ done (passed t place here_entry rest)
        done_span true e = here.of_done ∙ sym (done_plain t place here_entry rest (ap (λ b. starts_group b (i.Span a from to)) e))
        done_span false e = ap suc here.of_done ∙ sym (done_begun t place here_entry rest (ap (λ b. starts_group b (i.Span a from to)) e))

        met_span : is_call text (i.Span a from to) ≡ false → IsTrueItem text level trace later (t env) (put_item (s env) (i.Span a from to)) →
            IsSmallItem (put_item (s env) (i.Span a from to)) → IsPlaced text (t env) place.before joins (i.Span a from to) → AreMarked text (Some here_entry) rest →
            joins ≡ goes_on text x.last first_item → IsSpanPlaced (is_macro (kind_of text a.name)) joins x.before (t env from.0) (t env to.0) → GoesTo x (passed t place here_entry rest)
        met_span no_call is_true small placed marks goes left_placed =
            met_by here_entry rest left no_call is_true small placed marks _ _ refl refl (no_call, is_true.0, is_true.1) small
            (subst (λ b. IsSpanPlaced (is_macro (kind_of text a.name)) b x.before (t env from.0) (t env to.0)) goes left_placed) refl
            (done_span (goes_on text x.last first_item) goes)
            (shows_span text s (all_known t) t (λ k. k) here_entry a from to refl) (λ u w z. refl)

    -- ---- a call is entered

    entered : (o : Entry) (rest : List Entry) (left : place.left ≡ o ∷ rest) (a : Atom) (from to : TimeVar) (item : o.item ≡ i.Span a from to) (macro : is_macro (kind_of text a.name) ≡ true) (number : ℕ)
        (clause : MacroClause) → numbered (clauses_of text a.name) number ≡ Some clause → HasSameValues s (link_at place o a from.0 to.0 number clause) →
        HasSameTimes t (link_at place o a from.0 to.0 number clause) → IsSmallSoFar q.given_values s place o → suc o.nest ≤ depth → x.before ≡ place.before → AreMarked text (Some o) rest →
        ((u : Values) (w : ℕ → ℕ → When) (z : ℕ → ℕ) → EndedAt text u w t z x.before None) → GoesTo x (replaced text place (link_at place o a from.0 to.0 number clause) rest)
    entered o rest left a from to item macro number clause named values times small nest before marks ended =
        let beyond : Place = replaced text place (link_at place o a from.0 to.0 number clause) rest in
        let step = step_unfold text q s t ground level trace place o rest left a from to item number clause links.0 links.1 values times x.shape is in
        let first : Left = record { item = l.Span (put_atom (is.values o.env) a) (is.whens o.env from.0) (is.whens o.env to.0); nest = o.nest } in
        let spelled : x.shape.rest ≡ first ∷ flat_map (left_at is.values is.whens) rest =
        ap (λ h. h.rest) is.own ∙ ap (flat_map (left_at is.values is.whens)) left
        ∙ ap (λ it. left_of (is.values o.env) (is.whens o.env) o.nest it ++ flat_map (left_at is.values is.whens) rest) item in
        let left_small : AllByRecursion (λ left. IsLeftSmall left.item) (first ∷ []) =
        subst (λ (it : Item). AllByRecursion (λ left. IsLeftSmall left.item) (left_of (is.values o.env) (is.whens o.env) o.nest it)) item
        (small_first text level trace q s t ground since later low place here.so_far x.shape is o rest left small) in (
          unfolded_to x number step.0,
          record {
            reached = record {
              so_far = walk_then beyond here.so_far (replace o rest a from to number clause left item macro named values times small stop);
              general = unfold_general text q s t ground trace place o rest left a from to item number clause
                  (fresh_along text q s t ground level trace here.so_far (fresh_start text q s t ground level trace since q.items)) x.shape step.0 is step.1;
              of_rank = ap (λ ns. ns ++ number ∷ []) here.of_rank ∙ sym (rank_more text place (link_at place o a from.0 to.0 number clause) rest);
              of_done = here.of_done;
            };
            before = before;
            last = None;
            marks = marked_joined text None (entries text place.next (suc o.nest) None clause.items) rest (marked_none text place.next (suc o.nest) clause.items None)
                (marked_behind_call text o rest a from to item macro marks);
            passed_last = λ p same. absurd (none_some same);
            shows = λ p b begin finish same span. absurd (none_some same);
            ended = ended;
          },
          λ z steps. (
            enter first (flat_map (left_at is.values is.whens) rest) (put_atom (is.values o.env) a) (is.whens o.env from.0) (is.whens o.env to.0) number clause step.0 spelled refl macro nest
                named left_small.0 step.1 steps,
            λ le. met_all text level trace later depth steps le,
          ),
        )

  -- ---- along a walk

  module _ (place : Place) (x : Stage) (stands : Standing place x) where
    abbrev u : Values
    u = stands.reached.general.values

    abbrev w : ℕ → ℕ → When
    w = stands.reached.general.whens

    -- the item met last is what the entry passed last is in the most general shape too
    shows_here : ShowsLast text u w t (λ k. k) stands.last x.last
    shows_here p a from to same span =
        let older = stands.passed_last p same in
        let as_passed = (subst (AllByRecursion (λ (e : Entry). left_at u w e ≡ left_at s (all_known t) e)) older.1 stands.reached.general.possible.past).0 in
        let as_span : left_of (u p.env) (w p.env) p.nest (i.Span a from to) ≡ left_of (s p.env) (all_known t p.env) p.nest (i.Span a from to) =
        subst (λ (it : Item). left_of (u p.env) (w p.env) p.nest it ≡ left_of (s p.env) (all_known t p.env) p.nest it) span as_passed in
        stands.shows p a from to same span ∙ ap (λ ls. Some (item_or (l.Span a (Known 0) (Known 0)) ls)) (sym as_span)

    -- an event or action is marked exactly where it is shown to go on with the item met last
    goes : (env nest : ℕ) (joins : Bool) (a : Atom) (from to : TimeVar) (rest : List Entry) → place.left ≡ entry env nest joins (i.Span a from to) ∷ rest → is_macro (kind_of text a.name) ≡ false →
        IsSpanPlaced (is_macro (kind_of text a.name)) joins place.before (t env from.0) (t env to.0) → joins ≡ goes_on text x.last (l.Span (put_atom (u env) a) (w env from.0) (w env to.0))
    goes env nest joins a from to rest left no_call placed =
        let is = stands.reached.general in
        let z : ℕ → ℕ = y text level trace q s t ground since later low place stands.reached.so_far x.shape is in
        let o : Entry = entry env nest joins (i.Span a from to) in
        let marks = (subst (AreMarked text stands.last) left stands.marks).0 in
        let times = (subst (AllByRecursion (λ (e : Entry). TimesAre z (w e.env) (t e.env) e.item)) left (times_are text level trace q s t ground since later low place stands.reached.so_far x.shape is)).0 in
        equal_flags text u w t z joins (goes_on text x.last (l.Span (put_atom (u env) a) (w env from.0) (w env to.0)))
        (λ joined. marked_shows text u w t z stands.last x.last o a from to refl shows_here marks joined)
        (λ on. span_marked text u w t z (is_macro (kind_of text a.name)) joins place.before (t env from.0) (t env to.0) no_call
        (sym stands.before ∙ together_ends text u w t z x.before x.last (put_atom (u env) a) (w env from.0) (w env to.0) (stands.ended u w z) on ∙ times.1) placed)

    onward : (env nest : ℕ) (joins : Bool) (item : Item) (rest : List Entry) (left : place.left ≡ entry env nest joins item ∷ rest) → is_call text item ≡ false →
        IsTrueItem text level trace later (t env) (put_item (s env) item) → IsSmallItem (put_item (s env) item) → IsPlaced text (t env) place.before joins item →
        GoesTo x (passed t place (entry env nest joins item) rest)
    onward env nest joins (i.At lit time) rest left no_call is_true small placed =
        met_at place x stands.reached env nest joins rest lit time left is_true small placed (subst (AreMarked text stands.last) left stands.marks).1
        (subst (λ n. n ≤ t env time.0) (sym stands.before) placed)
    onward env nest joins (i.Bare lit) rest left no_call is_true small placed =
        met_bare place x stands.reached env nest joins rest lit left is_true small (subst (AreMarked text stands.last) left stands.marks).1 stands.before
    onward env nest joins (i.Built built) rest left no_call is_true small placed =
        met_built place x stands.reached env nest joins rest built left is_true small (subst (AreMarked text stands.last) left stands.marks).1 stands.before
    onward env nest joins (i.Con con) rest left no_call is_true small placed =
        past_con place x stands.reached (entry env nest joins (i.Con con)) rest left no_call is_true small placed (subst (AreMarked text stands.last) left stands.marks).1 con refl stands
    onward env nest joins (i.Span a from to) rest left no_call is_true small placed =
        met_span place x stands.reached env nest joins rest a from to left no_call is_true small placed (subst (AreMarked text stands.last) left stands.marks).1
        (goes env nest joins a from to rest left no_call placed)
        (subst (λ n. IsSpanPlaced (is_macro (kind_of text a.name)) joins n (t env from.0) (t env to.0)) (sym stands.before) placed)

  -- steps lead to the place, the last of which ended when the last one of the walk did
  abbrev Leads : Stage → Place → Type 0
  Leads x end = (r : LeadsTo text level trace depth later q s t x end) × (r.end.before ≡ end.before)

  then_leads : (x : Stage) {place end : Place} (g : GoesTo x place) → Leads g.0 end → Leads x end
  then_leads x g more = (record { end = more.0.end; steps = (g.2 more.0.end more.0.steps).0; at = more.0.at; general = more.0.general }, more.1)

  along : {end place : Place} → Walk text level trace q.given_values s t later end place → IsWithin depth end → (x : Stage) → Standing place x → Leads x end
  along stop within x stands =
      (record { end = x; steps = stay; at = record { within = within; of_rank = stands.reached.of_rank; of_done = stands.reached.of_done }; general = stands.reached.general }, stands.before)
  along {place = place} (pass env nest joins item rest left no_call is_true small placed walk) within x stands =
      let g = onward place x stands env nest joins item rest left no_call is_true small placed in then_leads x g (along walk within g.0 g.1)
  along {place = place} (replace o rest a from to number clause left item macro named values times small walk) within x stands =
      let nest = (within_back text level trace q.given_values s t depth walk within).0 in
      let g = entered place x stands.reached o rest left a from to item macro number clause named values times small nest stands.before (subst (AreMarked text stands.last) left stands.marks).1 (λ u w z. tt) in
      then_leads x g (along walk within g.0 g.1)

  -- ---- from the start, and from a place where the next step is ahead

  pub from_start : {end : Place} → Walk text level trace q.given_values s t later end (start text since q.items) → IsWithin depth end → (g : Shape) → IsGeneral q s t (start text since q.items) g →
      Leads (stage_at since (start text since q.items) g) end
  from_start walk within g is =
      along walk within (stage_at since (start text since q.items) g) (record {
        reached = record { so_far = stop; general = is; of_rank = refl; of_done = refl };
        before = refl;
        last = None;
        marks = marked_none text 0 0 q.items None;
        passed_last = λ p same. absurd (none_some same);
        shows = λ p a from to same span. absurd (none_some same);
        ended = λ u w z. tt;
      })

  module _ (now : ℕ) (middle : Place) (so_far : Walk text level trace q.given_values s t later middle (start text since q.items)) (by_now : middle.before ≤ now)
      (ready : (o : Entry) (rest : List Entry) → middle.left ≡ o ∷ rest → (is_step o.item ≡ true) × (is_call text o.item ≡ false) × IsAhead now (t o.env) o.item) (g : Shape) (is : IsGeneral q s t middle g) where
    abbrev first_stage : Stage
    first_stage = stage_at now middle g

    first_reached : Reached middle first_stage
    first_reached = record { so_far = so_far; general = is; of_rank = refl; of_done = refl }

    marks : (last : Option Entry) × AreMarked text last middle.left
    marks = marked text level trace q.given_values s t so_far None (marked_none text 0 0 q.items None)

    -- those steps end at the next time, where they are made by then
    abbrev LeadsOn : Place → Type 0
    LeadsOn end = (r : LeadsTo text level trace depth later q s t first_stage end) × (later ≤ suc now → AreMetNow r.steps) × (now < end.before → r.end.before ≡ end.before)

    first_step : {place end : Place} (g : GoesTo first_stage place) → Leads g.0 end → suc now ≤ place.before → LeadsOn end
    first_step {place = place} g more le = (
      record { end = more.0.end; steps = (g.2 more.0.end more.0.steps).0; at = more.0.at; general = more.0.general },
      λ soon. (g.2 more.0.end more.0.steps).1 (let same : g.0.before ≡ place.before = g.1.before in omega (arith, same)),
      λ lt. more.1,
    )

    pub from_middle : {end : Place} → Walk text level trace q.given_values s t later end middle → IsWithin depth end → LeadsOn end
    from_middle stop within = (
      record { end = first_stage; steps = stay; at = record { within = within; of_rank = refl; of_done = refl }; general = is },
      λ soon. tt,
      λ lt. absurd (omega arith),
    )
    from_middle (pass env nest joins (i.At lit time) rest left no_call is_true small placed walk) within =
        let ahead = (ready (entry env nest joins (i.At lit time)) rest left).2 in
        let g = met_at middle first_stage first_reached env nest joins rest lit time left is_true small placed (subst (AreMarked text marks.0) left marks.1).1 (omega (arith, ahead)) in
        first_step g (along walk within g.0 g.1) ahead
    from_middle (pass env nest joins (i.Span a from to) rest left no_call is_true small placed walk) within =
        let o : Entry = entry env nest joins (i.Span a from to) in
        let ahead = (ready o rest left).2 in
        let marked_left = subst (AreMarked text marks.0) left marks.1 in
        let unmarked : joins ≡ false = is_false joins (first_unmarked text s (all_known t) t (λ k. k) middle.before now marks.0 o (i.Span a from to) refl by_now ahead marked_left.0 placed) in
        let placed_now = first_placed text s (all_known t) t (λ k. k) middle.before now o (i.Span a from to) refl ahead placed in
        let g = met_span middle first_stage first_reached env nest joins rest a from to left no_call is_true small placed marked_left.1 unmarked
        (subst (λ b. IsSpanPlaced (is_macro (kind_of text a.name)) b now (t env from.0) (t env to.0)) (sym unmarked) placed_now) in
        let one = span_one (is_macro (kind_of text a.name)) joins middle.before (t env from.0) (t env to.0) no_call placed in
        first_step g (along walk within g.0 g.1) (omega (arith, ahead, one))
      where
        is_false : (b : Bool) → (b ≡ true → ⊥) → b ≡ false
        is_false true h = absurd (h refl)
        is_false false h = refl
    from_middle (pass env nest joins (i.Bare lit) rest left no_call is_true small placed walk) within = absurd (false_true (ready (entry env nest joins (i.Bare lit)) rest left).0)
    from_middle (pass env nest joins (i.Built built) rest left no_call is_true small placed walk) within = absurd (false_true (ready (entry env nest joins (i.Built built)) rest left).0)
    from_middle (pass env nest joins (i.Con con) rest left no_call is_true small placed walk) within = absurd (false_true (ready (entry env nest joins (i.Con con)) rest left).0)
    from_middle (replace o rest a from to number clause left item macro named values times small walk) within =
        absurd (false_true (sym (subst (λ (it : Item). is_call text it ≡ false) item (ready o rest left).1) ∙ macro))
