use Rattle.std.proofs.Common.{ℕ, ◌≤◌, [], arith, refl}
use Rattle.lps_nodes.proofs.Canonical.{residual_unique}
use Rattle.lps_nodes.proofs.ComingThrough.{instance_on, live_leads, live_on, plan_on}
use Rattle.lps_nodes.proofs.IntegerTimes.{can_in_integers, can_in_naturals, may_in_integers, may_in_naturals}
use Rattle.lps_nodes.proofs.ConditionLaws.{ended}
use Rattle.lps_nodes.proofs.LeadingOn.{from_start}
use Rattle.lps_nodes.proofs.Lifting.{lift_pass, lift_unfold}
use Rattle.lps_nodes.proofs.LiftingAlone.{alone_walked}
use Rattle.lps_nodes.proofs.NodeLaws.{all_self, can_come_true, has_plan, show_groups}
use Rattle.lps_nodes.proofs.Numbering.{residual_there}
use Rattle.lps_nodes.proofs.Reaching.{reach, start_general}
use Rattle.lps_nodes.proofs.ShapeLaws.{chain_general, variants, fresh_start}
use Rattle.lps_nodes.proofs.ShownGroups.{accepted_plan}
use Rattle.lps_nodes.proofs.TimesLeft.{times_left}
use Rattle.lps_meaning.specs.Sequences.{stop}
use Rattle.lps_meaning.proofs.Walks.{wider}
use Rattle.lps_nodes.specs.Shapes.{all_known, left_at}
use Rattle.lps_nodes.proofs.laws.node_law.Goals as goal

pub returns-clause-steps : goal.returns-clause-steps
returns-clause-steps c = λ text level trace q s t ground since now end walk g k is chain.
    chain_general text q s t ground level trace walk (fresh_start text q s t ground level trace since q.items) g k is chain

pub returns-clause-starts : goal.returns-clause-starts
returns-clause-starts c = start_general

pub returns-clause-reached : goal.returns-clause-reached
returns-clause-reached c = λ text level trace q s t ground since now end walk g is.
    reach text q s t ground level trace walk (fresh_start text q s t ground level trace since q.items) tt tt g is

pub returns-clause-variants : goal.returns-clause-variants
returns-clause-variants c = variants

pub returns-clause-unique : goal.returns-clause-unique
returns-clause-unique c = residual_unique

pub returns-clause-plans : goal.returns-clause-plans
returns-clause-plans c = λ text level trace q s t ground since now low end walk g is on. can_come_true text level trace q s t ground since now low end walk g is on

pub returns-clause-has_plans : goal.returns-clause-has_plans
returns-clause-has_plans c = λ text accepted level trace q of_text s t ground since now low end walk g is next rest is_next step can.
    accepted_plan text accepted level trace q of_text s t ground since now low end walk g is next rest is_next step can

pub returns-clause-show : goal.returns-clause-show
returns-clause-show c = λ text level trace q s t ground since now low end walk g is on. show_groups text level trace q s t ground since now low end walk g is on

le_through : (a b c : ℕ) → a ≤ b → b ≤ c → a ≤ c
le_through a b c one two = omega arith

pub returns-clause-waiting : goal.returns-clause-waiting
returns-clause-waiting c = λ text level trace q s t ground since now later low le end walk g is on can.
    has_plan text level trace q s t ground since later (le_through since now later low le) end (wider text level trace q.given_values s t le walk) g is on.next on.rest on.is_next on.step can
    (show_groups text level trace q s t ground since now low end walk g is on)

pub returns-clause-integers : goal.returns-clause-integers
returns-clause-integers c = λ text now g left. (can_in_integers text now g, can_in_naturals text now g left)

pub returns-clause-begins : goal.returns-clause-begins
returns-clause-begins c = λ text now g left. (may_in_integers text now g, may_in_naturals text now g left)

pub returns-clause-passes : goal.returns-clause-passes
returns-clause-passes c = λ text formed level trace q of_text s t ground since now later le end walk g is next rest left no_call f times values_ground is_true small placed h step.
    lift_pass text formed level trace q of_text s t ground since now later le end walk g is next rest left no_call f times values_ground is_true small placed h step

pub returns-clause-unfoldings : goal.returns-clause-unfoldings
returns-clause-unfoldings c = λ text formed level trace q of_text s t ground since now later le end walk g is next rest left a from to item macro number clause named first behind is_first small h step.
    lift_unfold text formed level trace q of_text s t ground since now later le end walk g is next rest left a from to item macro number clause named first behind is_first small h step

pub returns-clause-alone : goal.returns-clause-alone
returns-clause-alone c = λ text accepted formed level trace depth q of_text s t ground since now later low le place walk within g is end steps.
    let r = alone_walked text accepted formed level trace depth q of_text since later (le_through since now later low le) s t place steps place
    (record {
      at = record {
        values = s;
        times = t;
        ground = ground;
        same_values = refl;
        same_times = refl;
        walk = wider text level trace q.given_values s t le walk;
        general = is;
      };
      second = stop;
      past = all_self (left_at s (all_known t)) place.past;
    })
    (record { within = within; of_rank = refl; of_done = refl }) (ended text level trace q.given_values s t walk low) tt in
    (r.0, r.1, r.2.at)

pub returns-clause-starts_lead : goal.returns-clause-starts_lead
returns-clause-starts_lead c = λ text formed level trace depth q of_text s t ground since later low end walk within g is.
    (from_start text formed level trace depth q of_text s t ground since later low walk within g is).0

pub returns-clause-lead : goal.returns-clause-lead
returns-clause-lead c = λ text formed level trace depth q of_text s t ground since now later after le middle end first on no_call second within g is.
    live_leads text formed level trace depth q of_text s t ground since now later after le middle first on no_call end second within g is

pub returns-clause-live : goal.returns-clause-live
returns-clause-live c = λ text accepted formed level trace depth q of_text s t ground since now later after le end walk within on no_call.
    live_on text accepted formed level trace depth q of_text s t ground since now later after le end walk within on no_call

pub returns-clause-cut : goal.returns-clause-cut
returns-clause-cut c = λ text accepted formed level trace depth q of_text s t ground since now later after le end walk within on.
    plan_on text accepted formed level trace depth q of_text s t ground since now later after le end walk within on

pub returns-clause-instances : goal.returns-clause-instances
returns-clause-instances c = λ text accepted formed level trace depth q of_text s t ground since now later after le end walk within whole limits ends.
    instance_on text accepted formed level trace depth q of_text s t ground since now later after le end walk within whole limits ends

pub returns-clause-exist : goal.returns-clause-exist
returns-clause-exist c = residual_there (record { statements = [] })

pub returns-clause-times_left : goal.returns-clause-times_left
returns-clause-times_left c = times_left
