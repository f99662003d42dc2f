-- A node waits for exactly as long as its own time conditions have a solution.
use Rattle.std.proofs.Common.{ℕ, false, ◌≡◌, ◌≤◌, List, ◌∙◌, map, refl, sym, ap, subst, arith}
use Rattle.std.specs.Prelude.{None}
use Rattle.std.specs.List.{AllByRecursion}
use Rattle.lps_terms.specs.declared.text.Text.{Text}
use Rattle.lps_model.specs.declared.trace.Trace.{Trace}
use Rattle.lps_meaning.specs.declared.node.Left.{Left}
use Rattle.lps_meaning.specs.declared.node.Node.{Node}
use Rattle.lps_meaning.specs.declared.when.When.TheVariants.{Known}
use Rattle.lps_meaning.specs.Goals.{CanGoOn}
use Rattle.lps_meaning.specs.Sequences.{Entry, Place, Times, Values, Walk, is_call, start}
use Rattle.lps_nodes.specs.Conditions.{AreLeftInOrder, CanComeTrue, IsLeftLimit, IsLeftSmall}
use Rattle.lps_nodes.specs.Nodes.{left_in}
use Rattle.lps_nodes.specs.Plans.{Entrance, IsLeft, IsLivePlan, IsNode}
use Rattle.lps_nodes.specs.Shapes.{IsGeneral, IsPossible, Sequence, Shape, Whens, all_known, left_at, untested}
use Rattle.lps_meaning.proofs.Lists.{of_filter}
use Rattle.lps_meaning.proofs.Walks.{wider}
use Rattle.lps_nodes.proofs.ComingThrough.{entry_or}
use Rattle.lps_nodes.proofs.LedLimits.{known_of_limits, limits_of_known}
use Rattle.lps_nodes.proofs.Moves.{SameEntry}
use Rattle.lps_nodes.proofs.NodeLaws.{all_two, can_come_true, given_same, map_two, other, past_moved, plan_moved, show_groups, walk_moved}
use Rattle.lps_nodes.proofs.TestedLimits.{is_open}

-- ---- what is left with other values and times

module _ (q : Sequence) (s v : Values) (t z : Times) (place : Place) (same : map (v 0) q.given_values ≡ map (s 0) q.given_values) (given : map (z 0) q.given_times ≡ map (t 0) q.given_times)
    (past : AllByRecursion (SameEntry s v t z) place.past) where
  given_known : map (all_known z 0) q.given_times ≡ map (all_known t 0) q.given_times
  given_known = sym (map_two (λ n. Known n) (z 0) q.given_times) ∙ ap (map (λ n. Known n)) given ∙ map_two (λ n. Known n) (t 0) q.given_times

  possible_to : (u : Values) (w : Whens) → IsPossible q s t place u w → IsPossible q v z place u w
  possible_to u w h = record {
    values = h.values ∙ sym same;
    times = h.times ∙ sym given_known;
    past = all_two (λ (e : Entry). left_at u w e ≡ left_at s (all_known t) e) (SameEntry s v t z) (λ (e : Entry). left_at u w e ≡ left_at v (all_known z) e)
        (λ e here there. here ∙ there) place.past h.past past;
    links = h.links;
    when_links = h.when_links;
  }

  possible_from : (u : Values) (w : Whens) → IsPossible q v z place u w → IsPossible q s t place u w
  possible_from u w h = record {
    values = h.values ∙ same;
    times = h.times ∙ given_known;
    past = all_two (λ (e : Entry). left_at u w e ≡ left_at v (all_known z) e) (SameEntry s v t z) (λ (e : Entry). left_at u w e ≡ left_at s (all_known t) e)
        (λ e here there. here ∙ sym there) place.past h.past past;
    links = h.links;
    when_links = h.when_links;
  }

  pub general_moved : (g : Shape) → IsGeneral q s t place g → IsGeneral q v z place g
  general_moved g is = record {
    values = is.values;
    whens = is.whens;
    possible = possible_to is.values is.whens is.possible;
    own = is.own;
    general = λ u w h. is.general u w (possible_from u w h);
  }

-- ---- nodes

module _ (text : Text) (level : List ℕ → ℕ) (trace : Trace) (depth : ℕ) (entrance : Entrance) where
  pub whole_can : (now : ℕ) → entrance.since ≤ now → (node : Node) (n : IsNode text level trace depth entrance now node) → CanComeTrue text now n.left.residual.whole
  whole_can now after node n =
      can_come_true text level trace entrance.sequence n.values n.times n.live.reached.ground entrance.since now after n.place n.live.reached.walk n.left.residual.whole n.left.residual.general n.live.on

  pub node_can : (now : ℕ) → entrance.since ≤ now → (node : Node) → IsNode text level trace depth entrance now node → CanComeTrue text now (left_in node)
  node_can now after node n =
      let can = whole_can now after node n in
      subst (CanComeTrue text now) (sym n.left.residual.tested) (record {
        times = can.times;
        first = can.first;
        behind = can.behind;
        is_first = can.is_first;
        ahead = can.ahead;
        in_order = can.in_order;
        limits = of_filter (IsLeftLimit can.times) is_open n.left.residual.whole.limits can.limits;
        small = can.small;
      })

  module _ (now later : ℕ) (after : entrance.since ≤ now) (le : now ≤ later) (node : Node) (n : IsNode text level trace depth entrance now node) (can : CanComeTrue text later (left_in node)) where
    abbrev q : Sequence
    q = entrance.sequence

    abbrev whole : Shape
    whole = n.left.residual.whole

    abbrev general : IsGeneral q n.values n.times n.place whole
    general = n.left.residual.general

    abbrev walk_now : Walk text level trace q.given_values n.values n.times now n.place (start text entrance.since q.items)
    walk_now = n.live.reached.walk

    pub same : left_in node ≡ untested whole
    same = n.left.residual.tested

    pub low : entrance.since ≤ later
    low = omega arith

    abbrev whole_later : CanComeTrue text later whole
    whole_later = record {
      times = can.times;
      first = can.first;
      behind = can.behind;
      is_first = sym (ap (λ (z : Shape). z.rest) same) ∙ can.is_first;
      ahead = can.ahead;
      in_order = subst (λ (z : Shape). AreLeftInOrder text can.times later None z.rest) same can.in_order;
      limits = limits_of_known can.times whole.limits (known_of_limits (whole_can now after node n).times whole.limits (whole_can now after node n).limits) (subst (λ (z : Shape). AllByRecursion (IsLeftLimit can.times) z.limits) same can.limits);
      small = subst (λ (z : Shape). AllByRecursion (λ (left : Left). IsLeftSmall left.item) z.rest) same can.small;
    }

    pub walk : Walk text level trace q.given_values n.values n.times later n.place (start text entrance.since q.items)
    walk = wider text level trace q.given_values n.values n.times le walk_now

    -- the times of a plan that waits
    abbrev pub later_times : Times
    later_times = other text level trace q n.values n.times n.live.reached.ground entrance.since later low n.place walk whole general n.live.on.next n.live.on.rest n.live.on.is_next n.live.on.step whole_later

    pub given : map (later_times 0) q.given_times ≡ map (n.times 0) q.given_times
    given = given_same text level trace q n.values n.times n.live.reached.ground entrance.since later low n.place walk whole general n.live.on.next n.live.on.rest n.live.on.is_next n.live.on.step whole_later

    abbrev pub on_later : CanGoOn text q.given_values n.values later_times later q.items n.place
    on_later = plan_moved text level trace q n.values n.times n.live.reached.ground entrance.since later low n.place walk whole general n.live.on.next n.live.on.rest n.live.on.is_next n.live.on.step whole_later
        (show_groups text level trace q n.values n.times n.live.reached.ground entrance.since now after n.place walk_now whole general n.live.on)

    abbrev pub live_later : IsLivePlan text level trace depth entrance later n.values later_times n.place
    live_later = record {
      reached = record {
        ground = n.live.reached.ground;
        given_values = n.live.reached.given_values;
        given_times = given ∙ n.live.reached.given_times;
        walk = walk_moved text level trace q n.values n.times n.live.reached.ground entrance.since later low n.place walk whole general n.live.on.next n.live.on.rest n.live.on.is_next n.live.on.step whole_later;
        within = n.live.reached.within;
      };
      on = on_later;
      no_call = subst (λ (e : Entry). is_call text e.item ≡ false) (ap (entry_or n.live.on.next) (sym n.live.on.is_next ∙ on_later.is_next)) n.live.no_call;
    }

    pub left_later : IsLeft text level trace depth entrance n.values later_times n.place node
    left_later = record {
      residual = record {
        whole = whole;
        general = general_moved q n.values n.values n.times later_times n.place refl given
            (past_moved text level trace q n.values n.times n.live.reached.ground entrance.since later low n.place walk whole general n.live.on.next n.live.on.rest n.live.on.is_next n.live.on.step whole_later) whole general;
        tested = n.left.residual.tested;
        canonical = n.left.residual.canonical;
        of_rank = n.left.residual.of_rank;
        of_done = n.left.residual.of_done;
      };
      alternative = n.left.alternative;
    }

    pub node_waits : IsNode text level trace depth entrance later node
    node_waits = record { values = n.values; times = later_times; place = n.place; live = live_later; left = left_later }
