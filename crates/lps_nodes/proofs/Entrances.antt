-- What the entrances of rules and goals give are the nodes of goals, the partly matched antecedents, and the keys of goals.
use Rattle.std.proofs.Common.{ℕ, true, false, ◌≡◌, List, [], ◌∷◌, ◌∙◌, length, map, refl, sym, ap, subst}
use Rattle.std.specs.Prelude.{◌↔◌, Contains, Some, None}
use Rattle.std.specs.List.{flat_map}
use Rattle.std.proofs.lemmas.List.Elements.{Contains-append_left}
use Rattle.lps_terms.specs.declared.body.Body.{Body}
use Rattle.lps_terms.specs.declared.body.Body.TheVariants as b
use Rattle.lps_terms.specs.declared.item.Item.{Item}
use Rattle.lps_terms.specs.declared.item.Item.TheVariants as i
use Rattle.lps_terms.specs.declared.kind.Kind.{Kind}
use Rattle.lps_terms.specs.declared.kind.Kind.TheVariants as k
use Rattle.lps_terms.specs.declared.statement.Statement.{Statement}
use Rattle.lps_terms.specs.declared.text.Text.{Text}
use Rattle.lps_model.specs.declared.occurrence.Occurrence.{Occurrence}
use Rattle.lps_model.specs.declared.place.Place.TheVariants.{Done, Seen}
use Rattle.lps_model.specs.declared.trace.Trace.{Trace}
use Rattle.lps_model.specs.Acceptance.{IsAccepted}
use Rattle.lps_model.specs.KindRefusals.{may_stand}
use Rattle.lps_model.specs.Occurrences.{in_item, in_items}
use Rattle.lps_model.specs.Rules.{Rule, is_macro, rule_in, rules}
use Rattle.lps_model.proofs.Elements.{first_is_contained, nothing_contained}
use Rattle.lps_model.proofs.Stated.{HasKindAt, IsStated, flat_contains, flat_within, kind_at, only_one}
use Rattle.lps_meaning.specs.declared.goal.GoalKey.{GoalKey}
use Rattle.lps_meaning.specs.declared.node.Node.{Node}
use Rattle.lps_meaning.specs.declared.when.When.{When}
use Rattle.lps_meaning.specs.declared.when.When.TheVariants.{Known, Unknown}
use Rattle.lps_meaning.specs.Goals.{HasInstance}
use Rattle.lps_meaning.specs.Sequences.{Place, Times, Values, Walk, stop, pass, replace, is_call, start, IsWithin}
use Rattle.lps_meaning.proofs.Lists.{of_each}
use Rattle.lps_nodes.specs.Nodes.{IsGoalNode, IsWaitingNode}
use Rattle.lps_nodes.specs.Plans.{IsAlternativeEntered, IsEnded, IsNode, Entrance, antecedent_entrance, alternative_entrance, key_carry}
use Rattle.lps_nodes.specs.Shapes.{all_known}
use Rattle.lps_nodes.proofs.LedBasics.{HaveNoCalls, entries_no_call}
use Rattle.lps_nodes.proofs.NodeLaws.{map_two}

true_false : true ≡ false → ⊥
true_false e = cc

abbrev known : ℕ → When
known n = Known n

abbrev number_of : When → ℕ
number_of (Known n) = n
number_of (Unknown n) = n

numbers_back : (ns : List ℕ) → ns ≡ map number_of (map known ns)
numbers_back [] = refl
numbers_back (n ∷ ns) = ap (λ more. n ∷ more) (numbers_back ns)

-- ---- antecedents have no calls

module _ (text : Text) (accepted : IsAccepted text) (rule : Rule) (of_text : Contains (rules text) rule) where
  of_body : (s : Statement) → Contains text.statements s → (body : Body) → s.body ≡ body → Contains (rule_in body) rule → IsStated text (b.Rule rule.antecedent rule.alternatives)
  of_body s among (b.Rule antecedent alternatives) says at =
      let same : record { antecedent = antecedent; alternatives = alternatives } ≡ rule = only_one (record { antecedent = antecedent; alternatives = alternatives }) rule at in
      record { statement = s; among = among; says = says ∙ (λ j. b.Rule (same j).antecedent (same j).alternatives) }
  of_body s among (b.Declare decls) says at = absurd (nothing_contained rule at)
  of_body s among (b.Initially atoms) says at = absurd (nothing_contained rule at)
  of_body s among (b.Denial items) says at = absurd (nothing_contained rule at)
  of_body s among (b.Law initiates event fluent conds) says at = absurd (nothing_contained rule at)
  of_body s among (b.Clause head conds) says at = absurd (nothing_contained rule at)
  of_body s among (b.MacroClause head begin end items) says at = absurd (nothing_contained rule at)

  stated : IsStated text (b.Rule rule.antecedent rule.alternatives)
  stated = let found = flat_within (λ s. rule_in s.body) text.statements rule of_text in of_body found.one found.among found.one.body refl found.within

  seen_no_macro : (kind : Kind) → may_stand Seen kind ≡ true → is_macro (Some kind) ≡ false
  seen_no_macro k.Fluent e = refl
  seen_no_macro k.Event e = refl
  seen_no_macro k.Action e = refl
  seen_no_macro k.Timeless e = refl
  seen_no_macro k.Derived e = refl
  seen_no_macro k.Macro e = absurd (true_false (sym e))

  pub item_no_call : (item : Item) → Contains rule.antecedent item → is_call text item ≡ false
  item_no_call (i.Span a from to) at =
      let line : ℕ = stated.statement.line in
      let o : Occurrence = record { line = line; name = a.name; count = length a.args; place = Seen } in
      let h : HasKindAt text Seen a.name =
      kind_at text accepted (b.Rule rule.antecedent rule.alternatives) stated o
      (Contains-append_left (in_items line Seen rule.antecedent) (flat_map (in_items line Done) rule.alternatives) o
      (flat_contains (in_item line Seen) rule.antecedent (i.Span a from to) o at (first_is_contained o []))) in
      ap is_macro h.is ∙ seen_no_macro h.kind h.may
  item_no_call (i.At lit time) at = refl
  item_no_call (i.Bare lit) at = refl
  item_no_call (i.Built built) at = refl
  item_no_call (i.Con con) at = refl

  module _ (level : List ℕ → ℕ) (trace : Trace) (given : List ℕ) (s : Values) (t : Times) (depth : ℕ) where
    within_along : {now : ℕ} {end place : Place} → Walk text level trace given s t now end place → HaveNoCalls text place.left → IsWithin depth place → IsWithin depth end
    within_along stop none within = within
    within_along (pass env nest joins item rest left no_call is_true small placed walk) none within = within_along walk (subst (HaveNoCalls text) left none).1 within
    within_along (replace e rest a from to number clause left item macro named values times small walk) none within =
        absurd (true_false (sym macro ∙ sym (ap (is_call text) item) ∙ (subst (HaveNoCalls text) left none).0))

    -- so a walk over an antecedent keeps within every depth
    within_all : (now : ℕ) (end : Place) → Walk text level trace given s t now end (start text 0 rule.antecedent) → IsWithin depth end
    within_all now end walk = within_along walk (entries_no_call text None rule.antecedent (of_each (λ item. is_call text item ≡ false) rule.antecedent item_no_call)) tt

  -- ---- what is entered

  module _ (level : List ℕ → ℕ) (trace : Trace) (depth : ℕ) where
    pub waiting_nodes : (now : ℕ) (node : Node) → IsWaitingNode text level trace rule now node ↔ IsNode text level trace depth (antecedent_entrance rule) now node
    waiting_nodes now node = (
      (λ n. record {
        values = n.values;
        times = n.times;
        place = n.end;
        live = record {
          reached = record { ground = n.ground; given_values = refl; given_times = refl; walk = n.walk; within = within_all level trace [] n.values n.times depth now n.end n.walk };
          on = n.on;
          no_call = n.no_call;
        };
        left = record { residual = n.residual; alternative = n.alternative };
      }),
      (λ n. record {
        values = n.values;
        times = n.times;
        ground = n.live.reached.ground;
        end = n.place;
        walk = n.live.reached.walk;
        on = n.live.on;
        no_call = n.live.no_call;
        alternative = n.left.alternative;
        residual = n.left.residual;
      }),
    )

    pub keys_end : (key : GoalKey) → HasInstance text level trace rule key ↔ IsEnded text level trace depth (antecedent_entrance rule) key.time (key_carry key)
    keys_end key = (
      (λ n. record {
        values = n.values;
        times = n.times;
        place = n.end;
        over = record {
          reached = record { ground = n.ground; given_values = refl; given_times = refl; walk = n.walk; within = within_all level trace [] n.values n.times depth key.time n.end n.walk };
          whole = n.whole;
          limits = n.limits;
          last = n.last;
        };
        carried = record { values = sym n.of_key.values; times = ap (map known) (sym n.of_key.times) ∙ map_two known (n.times 0) _ };
      }),
      (λ n. record {
        values = n.values;
        times = n.times;
        ground = n.over.reached.ground;
        of_key = record {
          values = sym n.carried.values;
          times = sym (numbers_back key.times ∙ ap (map number_of) n.carried.times ∙ map_two number_of (all_known n.times 0) _);
        };
        end = n.place;
        walk = n.over.reached.walk;
        whole = n.over.whole;
        limits = n.over.limits;
        last = n.over.last;
      }),
    )

pub goal_nodes : (text : Text) (level : List ℕ → ℕ) (trace : Trace) (depth : ℕ) (key : GoalKey) (now : ℕ) (node : Node) →
    IsGoalNode text level trace depth key now node
    ↔ ((number : ℕ) × (entrance : Entrance) × IsAlternativeEntered text key number entrance × IsNode text level trace depth entrance now node)
goal_nodes text level trace depth key now node = (
  (λ n. let r = n.live.plan.reaches in (
    r.alternative,
    alternative_entrance r.rule key r.alternative r.items,
    record { rule = r.rule; of_text = r.of_text; items = r.items; of_rule = r.of_rule; entered = refl },
    record {
      values = r.values;
      times = r.times;
      place = n.end;
      live = record {
        reached = record { ground = r.ground; given_values = r.of_key.values; given_times = r.of_key.times; walk = r.walk; within = n.live.plan.within };
        on = n.live.plan.on;
        no_call = n.live.no_call;
      };
      left = record { residual = n.residual; alternative = n.alternative };
    },
  )),
  (λ m. of_entered m.0 m.1 m.2 m.3),
)
  where
    of_entered : (number : ℕ) (entrance : Entrance) → IsAlternativeEntered text key number entrance → IsNode text level trace depth entrance now node → IsGoalNode text level trace depth key now node
    of_entered number entrance entered n = by (subst (λ (e : Entrance). IsNode text level trace depth e now node) entered.entered n)
      where
        by : IsNode text level trace depth (alternative_entrance entered.rule key number entered.items) now node → IsGoalNode text level trace depth key now node
        by n = record {
          end = n.place;
          live = record {
            plan = record {
              reaches = record {
                rule = entered.rule;
                of_text = entered.of_text;
                alternative = number;
                items = entered.items;
                of_rule = entered.of_rule;
                values = n.values;
                times = n.times;
                ground = n.live.reached.ground;
                of_key = record { values = n.live.reached.given_values; times = n.live.reached.given_times };
                walk = n.live.reached.walk;
              };
              within = n.live.reached.within;
              on = n.live.on;
            };
            no_call = n.live.no_call;
          };
          alternative = n.left.alternative;
          residual = n.left.residual;
        }
