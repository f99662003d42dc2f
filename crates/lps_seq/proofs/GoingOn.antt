-- From what steps lead to from a node to what becomes of it in the next cycle.
use Rattle.std.proofs.Common.{ℕ, ◌≡◌, Bool, true, false, cond, IsTrue, List, [], ◌∷◌, refl, sym, ap, subst, ◌∙◌, inl, arith}
use Rattle.std.specs.Prelude.{Err, IfOk, Ok, Result, suc}
use Rattle.std.specs.List.{AllByRecursion, filter, flat_map}
use Rattle.std.specs.declared.alloc.AllocError.{AllocError}
use Rattle.lps_terms.specs.declared.atom.Atom.{Atom}
use Rattle.lps_terms.specs.declared.item.Item.{Item}
use Rattle.lps_terms.specs.declared.item.Item.TheVariants as i
use Rattle.lps_terms.specs.declared.term.Term.{Term}
use Rattle.lps_terms.specs.declared.text.Text.{Text}
use Rattle.lps_terms.specs.Put.{put_atom}
use Rattle.lps_model.specs.declared.trace.Trace.{Trace}
use Rattle.lps_model.specs.Acceptance.{IsAccepted}
use Rattle.lps_model.specs.Formed.{is_formed}
use Rattle.lps_meaning.specs.declared.node.LeftCon.{LeftCon}
use Rattle.lps_meaning.specs.declared.node.LeftItem.TheVariants as l
use Rattle.lps_meaning.specs.declared.node.Node.{Node}
use Rattle.lps_meaning.specs.declared.when.When.{When}
use Rattle.lps_meaning.specs.Sequences.{Entry, Place, Times, Values, Walk, is_call, pass, replace, stop}
use Rattle.lps_meaning.proofs.Occurrences.{all_behind, all_front}
use Rattle.lps_nodes.specs.LedLaws.{NodesAreLedOn, NodesAreLedToEnds, NodesAreResiduals}
use Rattle.lps_nodes.specs.Led.{IsLedTo, IsLedToEnd, node_stage}
use Rattle.lps_nodes.specs.Nodes.{left_in}
use Rattle.lps_nodes.specs.Plans.{Entrance, IsCutNext}
use Rattle.lps_nodes.specs.Shapes.{Shape, Whens, left_at, left_of, untested}
use Rattle.lps_nodes.proofs.OwnShapes.{own, own_shape, own_time}
use Rattle.lps_facts.proofs.Sets.{true_not_false}
use Rattle.lps_residual.specs.Limits.{IsOpenOrTrue, is_open}
use Rattle.lps_residual.specs.Moments.{HappensOrHolds, IsReady}
use Rattle.lps_seq.specs.declared.stepped.Stepped.{Stepped}
use Rattle.lps_seq.specs.Calls.{IsNext}
use Rattle.lps_seq.specs.Leads.{CanBeStepped, IsAllLedFrom, StandsAt}
use Rattle.lps_seq.proofs.Waiting.{uncalled_item}

pub can_be_stepped : (text : Text) (node : Node) → IsReady text node → CanBeStepped text node
can_be_stepped text node ready = record { moded = ready.moded; decided = ready.decided; unknowns = ready.unknowns; timed = ready.timed; no_calls = ready.no_calls }

-- ---- nothing is cut

-- no macro call is left
abbrev AreUncalled : Text → List Entry → Type 0
AreUncalled text = AllByRecursion (λ e. is_call text e.item ≡ false)

entry_uncalled : (text : Text) (u : ℕ → Term) (w : ℕ → When) (nest : ℕ) (item : Item) → AllByRecursion (λ left. HappensOrHolds text left.item) (left_of u w nest item) → is_call text item ≡ false
entry_uncalled text u w nest (i.At lit time) h = refl
entry_uncalled text u w nest (i.Bare lit) h = refl
entry_uncalled text u w nest (i.Built built) h = refl
entry_uncalled text u w nest (i.Con con) h = refl
entry_uncalled text u w nest (i.Span a from to) h = uncalled_item text (l.Span (put_atom u a) (w from.0) (w to.0)) h.0

entries_uncalled : (text : Text) (u : Values) (w : Whens) (es : List Entry) → AllByRecursion (λ left. HappensOrHolds text left.item) (flat_map (left_at u w) es) → AreUncalled text es
entries_uncalled text u w [] h = tt
entries_uncalled text u w (e ∷ es) h = (
  entry_uncalled text (u e.env) (w e.env) e.nest e.item (all_front (λ left. HappensOrHolds text left.item) (left_at u w e) (flat_map (left_at u w) es) h),
  entries_uncalled text u w es (all_behind (λ left. HappensOrHolds text left.item) (left_at u w e) (flat_map (left_at u w) es) h),
)

-- a walk from where none is left comes to no macro call
pub walk_uncalled : {text : Text} {level : List ℕ → ℕ} {trace : Trace} {given : List ℕ} {s : Values} {t : Times} {now : ℕ} {end place : Place} → Walk text level trace given s t now end place →
    AreUncalled text place.left → AreUncalled text end.left
walk_uncalled stop all = all
walk_uncalled {text = text} (pass env nest joins item rest left no_call is_true small placed walk) all = walk_uncalled walk (subst (AreUncalled text) left all).1
walk_uncalled {text = text} (replace e rest a from to number clause left item macro named values times small walk) all =
    absurd (true_not_false (sym macro ∙ sym (ap (is_call text) item) ∙ (subst (AreUncalled text) left all).0))

first_uncalled : (text : Text) (es : List Entry) (next : Entry) (rest : List Entry) → es ≡ next ∷ rest → AreUncalled text es → is_call text next.item ≡ false
first_uncalled text es next rest e all = (subst (AreUncalled text) e all).0

module _ (text : Text) (level : List ℕ → ℕ) (trace : Trace) (depth : ℕ) (e : Entrance) (now : ℕ) (node : Node) (ready : IsReady text node) where
  none_cut : IsCutNext text level trace depth e now node → ⊥
  none_cut cut =
      let residual = cut.through.left.residual in
      let general = residual.general in
      let rest = ap (λ (g : Shape). g.rest) residual.tested ∙ ap (λ (g : Shape). g.rest) general.own in
      let all = entries_uncalled text general.values general.whens cut.through.middle.left (subst (AllByRecursion (λ left. HappensOrHolds text left.item)) rest ready.no_calls) in
      let there = walk_uncalled cut.through.walk all in
      true_not_false (sym cut.cut.call ∙ first_uncalled text cut.place.left cut.cut.on.next cut.cut.on.rest cut.cut.on.is_next there)

-- ---- the node's own stage

-- constraints that are left open are not false
kept : (cons : List LeftCon) → AllByRecursion IsOpenOrTrue (filter is_open cons)
kept [] = tt
kept (con ∷ cons) = by (is_open con) refl (kept cons) where
  by : (b : Bool) → is_open con ≡ b → AllByRecursion IsOpenOrTrue (filter is_open cons) → AllByRecursion IsOpenOrTrue (cond b (con ∷ filter is_open cons) (filter is_open cons))
  by true e rest = (inl e, rest)
  by false e rest = rest

all_open : (limits : List LeftCon) → filter is_open limits ≡ limits → AllByRecursion IsOpenOrTrue limits
all_open limits e = subst (AllByRecursion IsOpenOrTrue) e (kept limits)

stands : (now : ℕ) (node : Node) → untested (left_in node) ≡ left_in node → StandsAt node now (node_stage now node)
stands now node same = record {
  same_before = refl;
  last = refl;
  rank = refl;
  done = refl;
  shape = record { v = own; x = own_time; to = sym same ∙ sym (own_shape (untested (left_in node))); u = own; y = own_time; back = same ∙ sym (own_shape (left_in node)) };
  tested = all_open node.limits (ap (λ (g : Shape). g.limits) same);
}

module _ (on : NodesAreLedOn) (ends : NodesAreLedToEnds) (residuals : NodesAreResiduals) (text : Text) (accepted : IsAccepted text) (formed : IsTrue (is_formed text)) where
  next_given : (depth : ℕ) (node : Node) → IsReady text node → (before time : ℕ) → suc before ≡ time → (facts events : List Atom) (stepped : Stepped) →
      IsAllLedFrom text node before time facts events stepped → IsNext text depth node time facts events stepped
  next_given depth node ready before time is facts events stepped led level levels trace e of_text now is_time since is_node state are_events =
      let same : before ≡ now = omega (arith, is, is_time) in
      let of = residuals text level trace depth e now node is_node in
      let given = led level levels trace state (inl are_events) (node_stage now node) (subst (λ n. StandsAt node n (node_stage now node)) (sym same) (stands now node of.1)) depth in
      record {
        nodes = record {
          once = given.nodes.once;
          exact = λ o. (
            λ h. (on text accepted formed level trace depth e of_text now since node is_node o).1
                (subst (λ n. IsLedTo text level trace depth n (node_stage now node) e.alternative o) is_time
                (subst (λ k. IsLedTo text level trace depth time (node_stage now node) k o) of.2 ((given.nodes.exact o).0 h))),
            λ h. (given.nodes.exact o).1
                (subst (λ k. IsLedTo text level trace depth time (node_stage now node) k o) (sym of.2)
                (subst (λ n. IsLedTo text level trace depth n (node_stage now node) e.alternative o) (sym is_time)
                ((on text accepted formed level trace depth e of_text now since node is_node o).0 h))),
          );
        };
        sorted = given.sorted;
        exact = λ c. (
          λ h. (ends text accepted formed level trace depth e of_text now since node is_node c).1
              (subst (λ n. IsLedToEnd text level trace depth n (node_stage now node) c) is_time ((given.exact c).0 h)),
          λ h. (given.exact c).1
              (subst (λ n. IsLedToEnd text level trace depth n (node_stage now node) c) (sym is_time) ((ends text accepted formed level trace depth e of_text now since node is_node c).0 h)),
        );
        cut = λ is_cut. absurd (given.cut is_cut);
        uncut = λ is_cut cut. none_cut text level trace depth e now node ready cut;
      }

  pub is_next : (depth : ℕ) (node : Node) → IsReady text node → (before time : ℕ) → suc before ≡ time → (facts events : List Atom) (r : Result Stepped AllocError) →
      IfOk r (IsAllLedFrom text node before time facts events) → IfOk r (IsNext text depth node time facts events)
  is_next depth node ready before time is facts events (Ok stepped) led = next_given depth node ready before time is facts events stepped led
  is_next depth node ready before time is facts events (Err e) led = tt
