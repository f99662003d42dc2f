-- The sequences that are entered: what acceptance says of them, that a start enters one, and what it gives at its own time.
use Rattle.std.proofs.Common.{ℕ, ◌≡◌, ◌⊎◌, ◌↔◌, Bool, true, false, List, [], ◌∷◌, ◌++◌, length, map, refl, sym, ap, subst, ◌∙◌, inl, inr, Contains, arith}
use Rattle.std.specs.Prelude.{◌||◌, ◌==◌, Err, IfOk, Ok, Option, Result, Some, suc}
use Rattle.std.specs.List.{AllByRecursion, filter, flat_map}
use Rattle.std.proofs.lemmas.Bool.Decides.{nat_tests}
use Rattle.std.specs.List.Sorted.{IsStrictlySortedBy}
use Rattle.std.specs.declared.alloc.AllocError.{AllocError}
use Rattle.lps_terms.specs.declared.atom.Atom.{Atom}
use Rattle.lps_terms.specs.declared.item.Item.{Item}
use Rattle.lps_terms.specs.declared.item.Item.TheVariants as i
use Rattle.lps_terms.specs.declared.text.Text.{Text}
use Rattle.lps_terms.specs.declared.term.Term.TheVariants as t
use Rattle.lps_facts.proofs.Sets.{true_not_false}
use Rattle.lps_model.specs.declared.trace.Trace.{Trace}
use Rattle.lps_model.specs.Acceptance.{IsAccepted}
use Rattle.lps_model.specs.Clauses.{clauses}
use Rattle.lps_model.specs.Known.{known_after}
use Rattle.lps_derivation.specs.Levels.{AreLevels}
use Rattle.lps_model.specs.Formed.{is_formed}
use Rattle.lps_model.specs.Order.{occurs, times_of}
use Rattle.lps_model.specs.Rules.{Rule, numbered, rules}
use Rattle.lps_model.specs.VariableLists.{item_vars}
use Rattle.lps_model.proofs.Elements.{first_or_later, nothing_contained}
use Rattle.lps_meaning.specs.declared.goal.GoalKey.{GoalKey}
use Rattle.lps_meaning.specs.declared.node.Carry.{Carry}
use Rattle.lps_meaning.specs.declared.node.Node.{Node}
use Rattle.lps_meaning.specs.declared.when.When.TheVariants.{Known, Unknown}
use Rattle.lps_meaning.specs.Goals.{shared_times, shared_values}
use Rattle.lps_meaning.proofs.Lists.{number_contained, of_element}
use Rattle.lps_meaning.proofs.Occurrences.{all_to}
use Rattle.lps_meaning.proofs.Stepped.{HaveStepsAfter, IsConOf, IsStepped, IsSteppedRule, IsTimeOf, con_to, rules_stepped}
use Rattle.lps_nodes.specs.Laws.{IsOfText}
use Rattle.lps_nodes.specs.Led.{AreGivenBy, AreVariants, IsEnteredShape, IsLedTo, IsLedToEnd, start_stage}
use Rattle.lps_nodes.specs.LedLaws.{EnteredAreGiven, IsWithoutCalls, NoneIsCutWithoutCalls, StartsAreLedOn, StartsAreLedToEnds}
use Rattle.lps_nodes.specs.Nodes.{left_in}
use Rattle.lps_nodes.specs.Alone.{Stage as WalkStage}
use Rattle.lps_nodes.specs.Plans.{Entrance, IsCutNow, IsEnded, IsNode, alternative_entrance, antecedent_entrance}
use Rattle.lps_nodes.specs.Shapes.{untested}
use Rattle.lps_nodes.proofs.OwnShapes.{own, own_shape, own_time}
use Rattle.lps_windows.specs.Bounds.{IsShort}
use Rattle.lps_windows.specs.Windows.{IsWithin}
use Rattle.lps_windows.proofs.Bounding.{short_within}
use Rattle.lps_residual.specs.Limits.{HasFalse, IsOpenOrTrue, is_open, with_limits}
use Rattle.lps_seq.specs.declared.start.Start.{Start}
use Rattle.lps_seq.specs.declared.start.Start.TheVariants as s
use Rattle.lps_seq.specs.declared.stepped.Stepped.{Stepped}
use Rattle.lps_meeting.specs.Stages.{IsStateOf}
use Rattle.lps_seq.specs.Found.{AreGiven, AreOnce}
use Rattle.lps_seq.specs.Calls.{IsEntry}
use Rattle.lps_seq.specs.Carries.{carry_cmp}
use Rattle.lps_seq.specs.Leads.{CanBeStepped, IsAllLedFrom}
use Rattle.lps_seq.specs.Starts.{IsEntered, IsGiven, IsStart, entered_node, given_value, given_when}
use Rattle.lps_seq.proofs.Distinct.{AreDistinct, all_given, all_occur, is_shared, occurs_behind, occurs_front, others_same, others_same_times, shared_distinct, shared_occurs}
use Rattle.lps_seq.proofs.Rows.{not_both}
use Rattle.lps_seq.proofs.Starting.{IsWellEntered, limits_within, start_can_be_stepped}
use Rattle.lps_seq.proofs.Stepping.{open_ended, open_led}
use Rattle.lps_seq.proofs.Written.{alternative_happens, alternative_moded, alternative_times, antecedent_happens, antecedent_moded, antecedent_times, few_times, known_occurs, time_count}

-- ---- lists

either_part : (xs ys : List ℕ) (v : ℕ) → occurs v (xs ++ ys) ≡ true → (occurs v xs ≡ true) ⊎ (occurs v ys ≡ true)
either_part [] ys v e = inr e
either_part (x ∷ xs) ys v e = by (x == v) e (either_part xs ys v) where
  by : (b : Bool) → (b || occurs v (xs ++ ys)) ≡ true → (occurs v (xs ++ ys) ≡ true → (occurs v xs ≡ true) ⊎ (occurs v ys ≡ true)) → ((b || occurs v xs) ≡ true) ⊎ (occurs v ys ≡ true)
  by true h later = inl refl
  by false h later = later h

one : (k v : ℕ) → occurs v (k ∷ []) ≡ true → k ≡ v
one k v e = by (k == v) refl e where
  by : (b : Bool) → (k == v) ≡ b → (b || false) ≡ true → k ≡ v
  by true same h = grind (arith, nat_tests)
  by false other h = absurd (true_not_false (sym h))

occurs_within : (parts : List Item → List ℕ) (xss : List (List Item)) (xs : List Item) (v : ℕ) → Contains xss xs → occurs v (parts xs) ≡ true → occurs v (flat_map parts xss) ≡ true
occurs_within parts [] xs v there e = absurd (nothing_contained xs there)
occurs_within parts (ys ∷ xss) xs v there e = by (occurs_within parts xss xs v) (first_or_later ys xss xs there) where
  by : (Contains xss xs → occurs v (parts xs) ≡ true → occurs v (flat_map parts xss) ≡ true) → (ys ≡ xs) ⊎ Contains xss xs → occurs v (parts ys ++ flat_map parts xss) ≡ true
  by later (inl same) = occurs_front v (parts ys) (flat_map parts xss) (subst (λ zs. occurs v (parts zs) ≡ true) (sym same) e)
  by later (inr behind) = occurs_behind v (parts ys) (flat_map parts xss) (later behind e)

known_count : (ns : List ℕ) → length (map (λ n. Known n) ns) ≡ length ns
known_count [] = refl
known_count (n ∷ ns) = ap suc (known_count ns)

-- the times of constraints occur among the times of items
times_within : (whole : List ℕ) (its : List Item) → ((k : ℕ) → occurs k (flat_map times_of its) ≡ true → occurs k whole ≡ true) → AllByRecursion (IsConOf (λ k. occurs k whole ≡ true)) its
times_within whole [] sub = tt
times_within whole (item ∷ its) sub =
    (by item (λ k e. sub k (occurs_front k (times_of item) (flat_map times_of its) e)), times_within whole its (λ k e. sub k (occurs_behind k (times_of item) (flat_map times_of its) e)))
  where
    by : (it : Item) → ((k : ℕ) → occurs k (times_of it) ≡ true → occurs k whole ≡ true) → IsConOf (λ k. occurs k whole ≡ true) it
    by (i.Con con) h =
        let all = all_occur (con.left.0 ∷ con.right.0 ∷ []) in
        (h con.left.0 all.0, h con.right.0 all.1.0)
    by (i.At lit time) h = tt
    by (i.Bare lit) h = tt
    by (i.Built built) h = tt
    by (i.Span a from to) h = tt

con_both : (P Q R : ℕ → Type 0) → ((k : ℕ) → P k → Q k → R k) → (its : List Item) → AllByRecursion (IsConOf P) its → AllByRecursion (IsConOf Q) its → AllByRecursion (IsConOf R) its
con_both P Q R f [] h q = tt
con_both P Q R f (item ∷ its) h q = (by item h.0 q.0, con_both P Q R f its h.1 q.1) where
  by : (it : Item) → IsConOf P it → IsConOf Q it → IsConOf R it
  by (i.Con con) h q = (f con.left.0 h.0 q.0, f con.right.0 h.1 q.1)
  by (i.At lit time) h q = tt
  by (i.Bare lit) h q = tt
  by (i.Built built) h q = tt
  by (i.Span a from to) h q = tt

-- ---- times of steps

-- a time that occurs in items whose constraints have times of their steps is one of a step
stepped_of : (P : ℕ → Type 0) (its : List Item) (k : ℕ) → AllByRecursion (IsConOf P) its → occurs k (flat_map times_of its) ≡ true → IsStepped k its ⊎ P k
stepped_of P [] k all e = absurd (true_not_false (sym e))
stepped_of P (item ∷ its) k all e = elim (either_part (times_of item) (flat_map times_of its) k e) [
  | inl here ↦ by item all.0 here
  | inr later ↦ elim (stepped_of P its k all.1 later) [ inl st ↦ inl (inr st) | inr p ↦ inr p ]
] where
  by : (it : Item) → IsConOf P it → occurs k (times_of it) ≡ true → IsStepped k (it ∷ its) ⊎ P k
  by (i.At lit time) of here = inl (inl (one time.0 k here))
  by (i.Bare lit) of here = absurd (true_not_false (sym here))
  by (i.Built built) of here = absurd (true_not_false (sym here))
  by (i.Span a from to) of here = elim (either_part (from.0 ∷ []) (to.0 ∷ []) k here) [ inl first ↦ inl (inl (inl (one from.0 k first))) | inr second ↦ inl (inl (inr (one to.0 k second))) ]
  by (i.Con con) of here = elim (either_part (con.left.0 ∷ []) (con.right.0 ∷ []) k here) [ inl first ↦ inr (subst P (one con.left.0 k first) of.0) | inr second ↦ inr (subst P (one con.right.0 k second) of.1) ]

time_occurs : (item : Item) (k : ℕ) → IsTimeOf k item → occurs k (times_of item) ≡ true
time_occurs (i.At lit time) k same = subst (λ n. occurs n (time.0 ∷ []) ≡ true) same (all_occur (time.0 ∷ [])).0
time_occurs (i.Span a from to) k (inl same) = subst (λ n. occurs n (from.0 ∷ to.0 ∷ []) ≡ true) same (all_occur (from.0 ∷ to.0 ∷ [])).0
time_occurs (i.Span a from to) k (inr same) = subst (λ n. occurs n (from.0 ∷ to.0 ∷ []) ≡ true) same (all_occur (from.0 ∷ to.0 ∷ [])).1.0
time_occurs (i.Bare lit) k none = absurd none
time_occurs (i.Built built) k none = absurd none
time_occurs (i.Con con) k none = absurd none

stepped_occurs : (its : List Item) (k : ℕ) → IsStepped k its → occurs k (flat_map times_of its) ≡ true
stepped_occurs [] k none = absurd none
stepped_occurs (item ∷ its) k (inl here) = occurs_front k (times_of item) (flat_map times_of its) (time_occurs item k here)
stepped_occurs (item ∷ its) k (inr later) = occurs_behind k (times_of item) (flat_map times_of its) (stepped_occurs its k later)

-- ---- what acceptance says

module _ (text : Text) (accepted : IsAccepted text) (formed : is_formed text ≡ true) (rule : Rule) (among : Contains (rules text) rule) where
  of_rule : IsSteppedRule rule
  of_rule = of_element IsSteppedRule (rules text) rule (rules_stepped text accepted) among

  antecedent_stepped : (k : ℕ) → occurs k (flat_map times_of rule.antecedent) ≡ true → IsStepped k rule.antecedent
  antecedent_stepped k e = elim (stepped_of (λ v. IsStepped v rule.antecedent) rule.antecedent k of_rule.0 e) [ inl st ↦ st | inr st ↦ st ]

  antecedent_well : IsWellEntered text (antecedent_entrance rule)
  antecedent_well = record {
    happens = λ no_calls u w. antecedent_happens text accepted formed rule among u w no_calls;
    known = [];
    moded = antecedent_moded text accepted formed rule among;
    known_given = λ v there e. absurd (true_not_false (sym there));
    count = time_count text accepted formed rule among;
    few = few_times text accepted formed rule among;
    times = antecedent_times text accepted formed rule among;
    cons = all_to (IsConOf (λ v. IsStepped v rule.antecedent)) (IsConOf (λ k. (occurs k [] ≡ true) ⊎ IsStepped k rule.antecedent))
        (con_to (λ v. IsStepped v rule.antecedent) (λ k. (occurs k [] ≡ true) ⊎ IsStepped k rule.antecedent) (λ k st. inr st)) rule.antecedent of_rule.0;
    carried_values = all_to (λ v. occurs v (shared_values rule) ≡ true) (λ v. occurs v (flat_map item_vars rule.antecedent) ≡ true) (λ v e. shared_occurs item_vars rule v e) (shared_values rule) (all_occur (shared_values rule));
    carried_times = all_to (λ k. occurs k (shared_times rule) ≡ true) (λ k. IsStepped k rule.antecedent) (λ k e. antecedent_stepped k (shared_occurs times_of rule k e)) (shared_times rule) (all_occur (shared_times rule));
  }

  module _ (key : GoalKey) (number : ℕ) (items : List Item) (within : Contains rule.alternatives items) where
    alternative_well : IsWellEntered text (alternative_entrance rule key number items)
    alternative_well = record {
      happens = λ no_calls u w. alternative_happens text accepted formed rule among items within u w no_calls;
      known = known_after [] rule.antecedent;
      moded = alternative_moded text accepted formed rule among items within;
      known_given = λ v there e. is_shared item_vars rule v (known_occurs rule.antecedent v there) (occurs_within (flat_map item_vars) rule.alternatives items v within e);
      count = time_count text accepted formed rule among;
      few = few_times text accepted formed rule among;
      times = alternative_times text accepted formed rule among items within;
      cons = con_both (λ v. IsStepped v rule.antecedent ⊎ IsStepped v items) (λ k. occurs k (flat_map times_of items) ≡ true) (λ k. (occurs k (shared_times rule) ≡ true) ⊎ IsStepped k items)
          (λ k st e. elim st [
            | inl before ↦ inl (is_shared times_of rule k (stepped_occurs rule.antecedent k before) (occurs_within (flat_map times_of) rule.alternatives items k within e))
            | inr here ↦ inr here
          ]) items (of_element (HaveStepsAfter rule.antecedent) rule.alternatives items of_rule.1 within) (times_within (flat_map times_of items) items (λ k e. e));
      carried_values = tt;
      carried_times = tt;
    }

-- ---- starts

-- what is given is given for each of the numbers, and others stand for themselves
given_by : (e : Entrance) → AreDistinct e.sequence.given_values → AreDistinct e.sequence.given_times → IsGiven e →
    AreGivenBy e (given_value e.sequence.given_values e.values) (given_when e.sequence.given_times e.times)
given_by e values times given = record {
  values = all_given (λ v. t.Var v) e.sequence.given_values e.values values given.values;
  times = all_given (λ k. Unknown k) e.sequence.given_times (map (λ n. Known n) e.times) times (known_count e.times ∙ given.times);
  other_values = others_same e.sequence.given_values e.values given.values given.ground;
  other_times = others_same_times e.sequence.given_times e.times given.times;
}

-- what is so of each sequence that is entered
record IsSound (text : Text) (e : Entrance) : Type 0 where
  pub of_text : IsOfText text e.sequence
  pub well : IsWellEntered text e
  pub distinct_values : AreDistinct e.sequence.given_values
  pub distinct_times : AreDistinct e.sequence.given_times

some_same : {X : Type 0} (x y : X) → Some x ≡ Some y → x ≡ y
some_same x y e = cc

entered_sound : (text : Text) → IsAccepted text → is_formed text ≡ true → (start : Start) (e : Entrance) → IsEntered text start e → IsSound text e
entered_sound text accepted formed (s.Antecedent n) e entered =
    let among = number_contained (rules text) n entered.rule entered.of_text in
    subst (IsSound text) (sym entered.entered) (record {
      of_text = (entered.rule, among, inl refl);
      well = antecedent_well text accepted formed entered.rule among;
      distinct_values = tt;
      distinct_times = tt;
    })
entered_sound text accepted formed (s.Alternative key number) e entered =
    let among = number_contained (rules text) key.rule entered.rule entered.of_text in
    let one = number_contained entered.rule.alternatives number entered.items entered.of_rule in
    subst (IsSound text) (sym entered.entered) (record {
      of_text = (entered.rule, among, inr (entered.items, one, refl));
      well = alternative_well text accepted formed entered.rule among key number entered.items one;
      distinct_values = shared_distinct item_vars entered.rule;
      distinct_times = shared_distinct times_of entered.rule;
    })

-- a start enters one sequence
entered_once : (text : Text) (start : Start) (e other : Entrance) → IsEntered text start e → IsEntered text start other → e ≡ other
entered_once text (s.Antecedent n) e other one two =
    let same = some_same one.rule two.rule (sym one.of_text ∙ two.of_text) in one.entered ∙ ap antecedent_entrance same ∙ sym two.entered
entered_once text (s.Alternative key number) e other one two =
    let same = some_same one.rule two.rule (sym one.of_text ∙ two.of_text) in
    let items = some_same one.items two.items (sym one.of_rule ∙ ap (λ (r : Rule). numbered r.alternatives number) same ∙ two.of_rule) in
    one.entered ∙ (λ j. alternative_entrance (same j) key number (items j)) ∙ sym two.entered

module _ (text : Text) (accepted : IsAccepted text) (formed : is_formed text ≡ true) (start : Start) where
  -- each constraint of what is entered is in range
  pub short_limits : (e : Entrance) → IsEntered text start e → IsGiven e → AllByRecursion IsShort (entered_node e).limits
  short_limits e entered given =
      let well = (entered_sound text accepted formed start e entered).well in
      all_to (IsWithin well.count) IsShort (short_within well.count) (entered_node e).limits (limits_within text e well given)

  -- and so are those of the node that is found
  pub found_short : (other : Text) → other ≡ text → (found : Option Node) (node : Node) → found ≡ Some node → ((e : Entrance) → IsEntered other start e → found ≡ Some (entered_node e)) →
      ((e : Entrance) × IsEntered text start e × IsGiven e) → AllByRecursion IsShort node.limits
  found_short other same found node is by given =
      let here = by given.0 (subst (λ z. IsEntered z start given.0) (sym same) given.1) in
      subst (λ (n : Node). AllByRecursion IsShort n.limits) (some_same (entered_node given.0) node (sym here ∙ is)) (short_limits given.0 given.1 given.2)

  pub can_be_stepped : (e : Entrance) → IsEntered text start e → IsWithoutCalls text e.sequence → IsGiven e → CanBeStepped text (with_limits (entered_node e) (filter is_open (entered_node e).limits))
  can_be_stepped e entered no_calls given = start_can_be_stepped text e (entered_sound text accepted formed start e entered).well given no_calls

  -- ---- what is given at the time of the start

  module _ (on : StartsAreLedOn) (ends : StartsAreLedToEnds) (uncut : NoneIsCutWithoutCalls) (enters : EnteredAreGiven) (time : ℕ) (at : IsStart text start time) (depth : ℕ) (facts : List Atom) where
    abbrev first : WalkStage
    first = start_stage at.entrance (left_in (entered_node at.entrance))

    sound : IsSound text at.entrance
    sound = entered_sound text accepted formed start at.entrance at.entered

    entered : IsEnteredShape text at.entrance (left_in (entered_node at.entrance))
    entered =
        enters text at.entrance (given_value at.entrance.sequence.given_values at.entrance.values) (given_when at.entrance.sequence.given_times at.entrance.times)
        (given_by at.entrance sound.distinct_values sound.distinct_times at.given)

    -- what is led to from where the sequence is entered is what the start gives
    entry : (stepped : Stepped) → ((level : List ℕ → ℕ) → AreLevels (clauses text) level → (trace : Trace) → IsStateOf text level trace time facts →
        AreGiven (IsLedTo text level trace depth time first at.entrance.alternative) (IsLedToEnd text level trace depth time first) ⊥ stepped) → IsEntry text depth start time facts stepped
    entry stepped led level levels trace e is state =
        subst (λ z. AreGiven (IsNode text level trace depth z time) (IsEnded text level trace depth z time) (IsCutNow text level trace depth z time) stepped)
        (entered_once text start at.entrance e at.entered is)
        (subst (λ n. AreGiven (IsNode text level trace depth at.entrance n) (IsEnded text level trace depth at.entrance n) (IsCutNow text level trace depth at.entrance n) stepped) at.since
        (record {
          nodes = record {
            once = given.nodes.once;
            exact = λ o. (λ h. (nodes o).1 ((given.nodes.exact o).0 h), λ h. (given.nodes.exact o).1 ((nodes o).0 h));
          };
          sorted = given.sorted;
          exact = λ c. (λ h. (carries c).1 ((given.exact c).0 h), λ h. (given.exact c).1 ((carries c).0 h));
          cut = λ is_cut. absurd (given.cut is_cut);
          uncut = λ is_cut cut. uncut text level trace depth at.entrance at.no_calls at.entrance.since cut;
        }))
      where
        given : AreGiven (IsLedTo text level trace depth at.entrance.since first at.entrance.alternative) (IsLedToEnd text level trace depth at.entrance.since first) ⊥ stepped
        given =
            subst (λ n. AreGiven (IsLedTo text level trace depth n first at.entrance.alternative) (IsLedToEnd text level trace depth n first) ⊥ stepped) (sym at.since) (led level levels trace state)

        nodes : (o : Node) → IsNode text level trace depth at.entrance at.entrance.since o ↔ IsLedTo text level trace depth at.entrance.since first at.entrance.alternative o
        nodes o = on text accepted formed level trace depth at.entrance sound.of_text at.given.ground (left_in (entered_node at.entrance)) entered o

        carries : (c : Carry) → IsEnded text level trace depth at.entrance at.entrance.since c ↔ IsLedToEnd text level trace depth at.entrance.since first c
        carries c = ends text accepted formed level trace depth at.entrance sound.of_text at.given.ground (left_in (entered_node at.entrance)) entered c

    -- with the node that is left, without its constraints that are true
    node_given : (node : Node) → node ≡ with_limits (entered_node at.entrance) (filter is_open (entered_node at.entrance).limits) → AllByRecursion IsOpenOrTrue (entered_node at.entrance).limits →
        (events : List Atom) (stepped : Stepped) → IsAllLedFrom text node time time facts events stepped → IsEntry text depth start time facts stepped
    node_given node is opened events stepped led =
        entry stepped (λ level levels trace state.
        subst (λ (n : Node). AreGiven (IsLedTo text level trace depth time first n.alternative) (IsLedToEnd text level trace depth time first) ⊥ stepped) is
        (led level levels trace state (inr refl) first (record {
          same_before = at.since;
          last = refl;
          rank = ap (λ (n : Node). n.rank) (sym is);
          done = ap (λ (n : Node). n.done) (sym is);
          shape = subst (λ n. AreVariants (untested (left_in (entered_node at.entrance))) (left_in n)) (sym is) (record {
            v = own;
            x = own_time;
            to = sym (own_shape (untested (left_in (entered_node at.entrance))));
            u = own;
            y = own_time;
            back = sym (own_shape (untested (left_in (entered_node at.entrance))));
          });
          tested = opened;
        }) depth))

    pub is_entry : (node : Node) → node ≡ with_limits (entered_node at.entrance) (filter is_open (entered_node at.entrance).limits) → AllByRecursion IsOpenOrTrue (entered_node at.entrance).limits →
        (events : List Atom) (r : Result Stepped AllocError) → IfOk r (IsAllLedFrom text node time time facts events) → IfOk r (IsEntry text depth start time facts)
    is_entry node is opened events (Ok stepped) led = node_given node is opened events stepped led
    is_entry node is opened events (Err e) led = tt

    -- where a constraint is false nothing is given
    none_given : HasFalse (entered_node at.entrance).limits → (stepped : Stepped) → stepped.nodes.items ≡ [] → stepped.ended.items ≡ [] → IsStrictlySortedBy carry_cmp stepped.ended.items → stepped.cut ≡ false →
        IsEntry text depth start time facts stepped
    none_given wrong stepped nodes ended sorted cut =
        entry stepped (λ level levels trace state. record {
          nodes = record {
            once = subst AreOnce (sym nodes) (λ i j y at_i at_j. cc);
            exact = λ o. (
              λ h. absurd (nothing_contained o (subst (λ ns. Contains ns o) nodes h)),
              λ led. absurd (not_both (entered_node at.entrance).limits wrong (open_led text level trace depth time at.entrance.alternative first o led)),
            );
          };
          sorted = sorted;
          exact = λ c. (
            λ h. absurd (nothing_contained c (subst (λ cs. Contains cs c) ended h)),
            λ led. absurd (not_both (entered_node at.entrance).limits wrong (open_ended text level trace depth time first c led)),
          );
          cut = λ is_cut. true_not_false (sym is_cut ∙ cut);
          uncut = λ is_cut f. f;
        })

    pub is_empty_entry : HasFalse (entered_node at.entrance).limits → (r : Result Stepped AllocError) → IfOk r (λ s. s.nodes.items ≡ []) → IfOk r (λ s. s.ended.items ≡ []) →
        IfOk r (λ s. IsStrictlySortedBy carry_cmp s.ended.items) → IfOk r (λ s. s.cut ≡ false) → IfOk r (IsEntry text depth start time facts)
    is_empty_entry wrong (Ok stepped) nodes ended sorted cut = none_given wrong stepped nodes ended sorted cut
    is_empty_entry wrong (Err e) nodes ended sorted cut = tt
