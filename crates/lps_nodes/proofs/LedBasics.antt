-- What is so of every node, of sequences with no macro call, and of traces that agree up to a time.
use Rattle.std.proofs.Common.{ℕ, Bool, true, false, cond, ◌≡◌, List, [], ◌∷◌, ◌∙◌, refl, sym, ap, subst, arith}
use Rattle.std.specs.Prelude.{Option, Some, None}
use Rattle.std.specs.List.{AllByRecursion}
use Rattle.lps_terms.specs.declared.item.Item.{Item}
use Rattle.lps_terms.specs.declared.text.Text.{Text}
use Rattle.lps_model.specs.declared.trace.Trace.{Trace}
use Rattle.lps_model.proofs.Growth.{AreSame}
use Rattle.lps_meaning.specs.declared.node.LeftCon.{LeftCon}
use Rattle.lps_meaning.specs.declared.node.Node.{Node}
use Rattle.lps_meaning.specs.Sequences.{Entry, Place, Times, Values, Walk, entries, is_call, pass, replace, stop}
use Rattle.lps_meaning.proofs.Prefixes.{walk_same}
use Rattle.lps_nodes.specs.LedLaws.{AgreeUpTo, IsWithoutCalls}
use Rattle.lps_nodes.specs.Nodes.{left_in}
use Rattle.lps_nodes.specs.Plans.{Entrance, IsCutNow, IsNode}
use Rattle.lps_nodes.specs.Shapes.{IsCanonical, Shape, untested}
use Rattle.lps_nodes.proofs.TestedLimits.{is_open, open_limits}

true_false : true ≡ false → ⊥
true_false e = cc

-- ---- constraints whose times are all known are left out once

pub open_twice : (limits : List LeftCon) → open_limits (open_limits limits) ≡ open_limits limits
open_twice [] = refl
open_twice (con ∷ limits) = by (open_twice limits) (is_open con) refl
  where
    by : open_limits (open_limits limits) ≡ open_limits limits → (b : Bool) → is_open con ≡ b →
        open_limits (cond b (con ∷ open_limits limits) (open_limits limits)) ≡ cond b (con ∷ open_limits limits) (open_limits limits)
    by more true is = λ j. cond (is j) (con ∷ more j) (more j)
    by more false is = more

pub untested_twice : (g : Shape) → untested (untested g) ≡ untested g
untested_twice g = λ j. record { carry = g.carry; rest = g.rest; limits = open_twice g.limits j }

pub node_residual : (text : Text) (level : List ℕ → ℕ) (trace : Trace) (depth : ℕ) (e : Entrance) (now : ℕ) (node : Node) → IsNode text level trace depth e now node →
    IsCanonical (left_in node) × (untested (left_in node) ≡ left_in node) × (node.alternative ≡ e.alternative)
node_residual text level trace depth e now node n =
    let r = n.left.residual in
    (subst IsCanonical (sym r.tested) r.canonical, ap untested r.tested ∙ untested_twice r.whole ∙ sym r.tested, n.left.alternative)

-- ---- without macro calls

abbrev pub HaveNoCalls : Text → List Entry → Type 0
HaveNoCalls text = AllByRecursion (λ (e : Entry). is_call text e.item ≡ false)

pub entries_no_call : (text : Text) (before : Option Item) (items : List Item) → AllByRecursion (λ item. is_call text item ≡ false) items → HaveNoCalls text (entries text 0 0 before items)
entries_no_call text before [] h = tt
entries_no_call text before (item ∷ items) h = (h.0, entries_no_call text (Some item) items h.1)

no_calls_along : {text : Text} {level : List ℕ → ℕ} {trace : Trace} {given : List ℕ} {s : Values} {t : Times} {now : ℕ} {end place : Place} → Walk text level trace given s t now end place →
    HaveNoCalls text place.left → HaveNoCalls text end.left
no_calls_along stop none = none
no_calls_along {text = text} (pass env nest joins item rest left no_call is_true small placed walk) none = no_calls_along walk (subst (HaveNoCalls text) left none).1
no_calls_along {text = text} (replace e rest a from to number clause left item macro named values times small walk) none =
    absurd (true_false (sym macro ∙ sym (ap (is_call text) item) ∙ (subst (HaveNoCalls text) left none).0))

pub never_cut : (text : Text) (level : List ℕ → ℕ) (trace : Trace) (depth : ℕ) (e : Entrance) → IsWithoutCalls text e.sequence → (now : ℕ) → IsCutNow text level trace depth e now → ⊥
never_cut text level trace depth e none now n =
    let on = n.cut.on in
    let calls = no_calls_along n.cut.reached.walk (entries_no_call text None e.sequence.items none) in
    true_false (sym n.cut.call ∙ (subst (HaveNoCalls text) on.is_next calls).0)

-- ---- traces that agree

pub node_of_prefix : (text : Text) (level : List ℕ → ℕ) (now : ℕ) (trace other : Trace) → AgreeUpTo now trace other → (depth : ℕ) (e : Entrance) (node : Node) →
    IsNode text level trace depth e now node → IsNode text level other depth e now node
node_of_prefix text level now trace other agree depth e node n =
    let h = n.live.reached in
    let same : AreSame now trace other = record { initial = agree.initial; cycles = agree.cycles } in
    record {
      values = n.values;
      times = n.times;
      place = n.place;
      live = record {
        reached = record {
          ground = h.ground;
          given_values = h.given_values;
          given_times = h.given_times;
          walk = walk_same text level now trace other same e.sequence.given_values n.values n.times (omega arith) h.walk;
          within = h.within;
        };
        on = n.live.on;
        no_call = n.live.no_call;
      };
      left = record { residual = n.left.residual; alternative = n.left.alternative };
    }
