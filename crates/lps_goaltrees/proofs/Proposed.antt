-- What the nodes of a goal offer is what it proposes in the trace.
use Rattle.std.proofs.Common.{ℕ, ◌≡◌, ◌≤◌, ◌∙◌, List, refl, sym, ap, subst}
use Rattle.std.specs.Prelude.{◌↔◌, IsTrue, Contains, length}
use Rattle.lps_terms.specs.declared.atom.Atom.{Atom}
use Rattle.lps_terms.specs.declared.text.Text.{Text}
use Rattle.lps_model.specs.declared.trace.Trace.{Trace}
use Rattle.lps_model.specs.Acceptance.{IsAccepted}
use Rattle.lps_model.specs.Formed.{is_formed}
use Rattle.lps_model.specs.Rules.{rules}
use Rattle.lps_meaning.specs.declared.goal.GoalKey.{GoalKey}
use Rattle.lps_meaning.specs.declared.node.Node.{Node}
use Rattle.lps_meaning.specs.Cycles.{IsProposal}
use Rattle.lps_meaning.specs.Goals.{IsLive}
use Rattle.lps_meaning.specs.Plain.{Ranked}
use Rattle.lps_meaning.specs.Sequences.{Place, done, rank}
use Rattle.lps_meaning.proofs.Lists.{number_contained}
use Rattle.lps_nodes.specs.LedLaws.{ActionsAreGround, IsNextGround, NodesPropose}
use Rattle.lps_nodes.specs.NextSteps.{IsProposed}
use Rattle.lps_nodes.specs.Plans.{Entrance, IsAlternativeEntered, IsNode, Proposes, alternative_entrance}
use Rattle.lps_nodes.proofs.Entrances.{goal_nodes}
use Rattle.lps_goaltrees.specs.declared.goal.Goal.{Goal}
use Rattle.lps_goaltrees.specs.Followed.{IsFollowed}
use Rattle.lps_goaltrees.specs.Laws.{OffersAreProposals}
use Rattle.lps_goaltrees.specs.Offers.{IsOffered}
use Rattle.lps_goaltrees.proofs.GoalNodes.{left_live}
use Rattle.lps_goaltrees.proofs.Growing.{entered_since}

module _ (propose : NodesPropose) (ground : ActionsAreGround) (text : Text) (accepted : IsAccepted text) (formed : IsTrue (is_formed text)) (level : List ℕ → ℕ) (trace : Trace) (depth : ℕ)
    (goal : Goal) (after : goal.key.time ≤ length trace.cycles) (kept : IsFollowed text level trace depth (length trace.cycles) goal) where
  abbrev now : ℕ
  now = length trace.cycles

  abbrev key : GoalKey
  key = goal.key

  -- a node proposes what the plans propose that leave it
  node_plans : (node : Node) (number : ℕ) (e : Entrance) → IsAlternativeEntered text key number e → IsNode text level trace depth e now node → (group : List Atom) →
      IsProposed text now node group ↔ Proposes text level trace depth e now node group
  node_plans node number e entered left =
      let late : e.since ≤ now = subst (λ n. n ≤ now) (sym (entered_since text key number e entered)) after in
      let next : IsNextGround text node = ground text accepted formed level trace depth e entered.rule (number_contained (rules text) key.rule entered.rule entered.of_text) entered.items
      (number_contained entered.rule.alternatives number entered.items entered.of_rule) (ap (λ (e : Entrance). e.sequence) entered.entered) now late node left in
      propose text level trace depth e now late node left next

  -- a live plan has as many groups done as the node that it leaves
  live_done : (other : Place) → IsLive text level trace depth key now other → (node : Node) × Contains goal.nodes node × (node.done ≡ done other)
  live_done other live =
      let n = left_live text level trace depth key now other live in
      (n.0, (kept.nodes.exact n.0).1 (record { end = other; live = live; alternative = n.1; residual = n.2 }), n.2.of_done)

  pub proposal_of_offer : (r : Ranked) → IsOffered text now goal.nodes r → (p : IsProposal text level depth trace key r.group) × (p.live.plan.reaches.alternative ≡ r.alternative) × (rank p.end ≡ r.rank)
  proposal_of_offer r o =
      let m = (goal_nodes text level trace depth key now o.node).0 ((kept.nodes.exact o.node).0 o.among) in
      by m.0 m.1 m.2 ((node_plans o.node m.0 m.1 m.2 m.3 r.group).0 o.proposed)
    where
      by : (number : ℕ) (e : Entrance) → IsAlternativeEntered text key number e → Proposes text level trace depth e now o.node r.group →
          (p : IsProposal text level depth trace key r.group) × (p.live.plan.reaches.alternative ≡ r.alternative) × (rank p.end ≡ r.rank)
      by number e entered proposes = from (subst (λ (e : Entrance). Proposes text level trace depth e now o.node r.group) entered.entered proposes)
        where
          from : Proposes text level trace depth (alternative_entrance entered.rule key number entered.items) now o.node r.group →
              (p : IsProposal text level depth trace key r.group) × (p.live.plan.reaches.alternative ≡ r.alternative) × (rank p.end ≡ r.rank)
          from n = (
            record {
              end = n.place;
              live = record {
                plan = record {
                  reaches = record {
                    rule = entered.rule;
                    of_text = entered.of_text;
                    alternative = number;
                    items = entered.items;
                    of_rule = entered.of_rule;
                    values = n.values;
                    times = n.times;
                    ground = n.live.reached.ground;
                    of_key = record { values = n.live.reached.given_values; times = n.live.reached.given_times };
                    walk = n.live.reached.walk;
                  };
                  within = n.live.reached.within;
                  on = n.live.on;
                };
                no_call = n.live.no_call;
              };
              most = λ other live.
                  let d = live_done other live in
                  subst (λ k. k ≤ done n.place) d.2 (subst (λ k. d.0.done ≤ k) n.left.residual.of_done (o.most d.0 d.1));
              group_of = n.next;
            },
            sym n.left.alternative ∙ o.alternative,
            sym n.left.residual.of_rank ∙ o.of_rank,
          )

  pub offer_of_proposal : (r : Ranked) (p : IsProposal text level depth trace key r.group) → p.live.plan.reaches.alternative ≡ r.alternative → rank p.end ≡ r.rank → IsOffered text now goal.nodes r
  offer_of_proposal r p alternative of_rank =
      let reaches = p.live.plan.reaches in
      let n = left_live text level trace depth key now p.end p.live in
      let e : Entrance = alternative_entrance reaches.rule key reaches.alternative reaches.items in
      let entered : IsAlternativeEntered text key reaches.alternative e = record { rule = reaches.rule; of_text = reaches.of_text; items = reaches.items; of_rule = reaches.of_rule; entered = refl } in
      let left : IsNode text level trace depth e now n.0 = record {
        values = reaches.values;
        times = reaches.times;
        place = p.end;
        live = record {
          reached = record { ground = reaches.ground; given_values = reaches.of_key.values; given_times = reaches.of_key.times; walk = reaches.walk; within = p.live.plan.within };
          on = p.live.plan.on;
          no_call = p.live.no_call;
        };
        left = record { residual = n.2; alternative = n.1 };
      } in
      record {
        node = n.0;
        among = (kept.nodes.exact n.0).1 (record { end = p.end; live = p.live; alternative = n.1; residual = n.2 });
        most = λ other there.
            let g = (kept.nodes.exact other).0 there in
            subst (λ k. k ≤ n.0.done) (sym g.residual.of_done) (subst (λ k. done g.end ≤ k) (sym n.2.of_done) (p.most g.end g.live));
        alternative = n.1 ∙ alternative;
        of_rank = n.2.of_rank ∙ of_rank;
        proposed = (node_plans n.0 reaches.alternative e entered left r.group).1 (record {
          values = reaches.values;
          times = reaches.times;
          place = p.end;
          live = record {
            reached = record { ground = reaches.ground; given_values = reaches.of_key.values; given_times = reaches.of_key.times; walk = reaches.walk; within = p.live.plan.within };
            on = p.live.plan.on;
            no_call = p.live.no_call;
          };
          left = record { residual = n.2; alternative = n.1 };
          next = p.group_of;
        });
      }

pub offers_are_proposals : NodesPropose → ActionsAreGround → OffersAreProposals
offers_are_proposals propose ground text accepted formed level trace depth goal after kept r = (
  proposal_of_offer propose ground text accepted formed level trace depth goal after kept r,
  λ m. offer_of_proposal propose ground text accepted formed level trace depth goal after kept r m.0 m.1 m.2,
)
