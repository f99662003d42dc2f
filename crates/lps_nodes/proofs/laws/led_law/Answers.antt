use Rattle.lps_nodes.proofs.ActionsGround.{actions_ground}
use Rattle.lps_nodes.proofs.Entering.{entered_given}
use Rattle.lps_nodes.proofs.LedBack.{cut_back, node_back, start_back, start_cut_back}
use Rattle.lps_nodes.proofs.LedBasics.{never_cut, node_of_prefix, node_residual}
use Rattle.lps_nodes.proofs.LedEnds.{ends_back, ends_led, start_ends_back, start_ends_led}
use Rattle.lps_nodes.proofs.LedOn.{cut_led, goes_led, node_led, start_cut_led}
use Rattle.lps_nodes.proofs.Proposing.{node_proposes, plans_propose}
use Rattle.lps_nodes.proofs.laws.led_law.Goals as goal

pub returns-clause-on : goal.returns-clause-on
returns-clause-on c = λ text accepted formed level trace depth e of_text now after node n other. (
  (λ g. goes_led text formed level trace depth e of_text now after node other g),
  (λ led. node_back text accepted formed level trace depth e of_text now after node n other led),
)

pub returns-clause-ends : goal.returns-clause-ends
returns-clause-ends c = λ text accepted formed level trace depth e of_text now after node n carry. (
  (λ h. ends_led text accepted formed level trace depth e of_text now after node carry h),
  (λ led. ends_back text accepted formed level trace depth e of_text now after node n carry led),
)

pub returns-clause-starts : goal.returns-clause-starts
returns-clause-starts c = λ text accepted formed level trace depth e of_text ground g entered node. (
  (λ n. node_led text formed level trace depth e of_text g entered node n),
  (λ led. start_back text accepted formed level trace depth e of_text ground g entered node led),
)

pub returns-clause-starts_end : goal.returns-clause-starts_end
returns-clause-starts_end c = λ text accepted formed level trace depth e of_text ground g entered carry. (
  (λ n. start_ends_led text accepted formed level trace depth e of_text g entered carry n),
  (λ led. start_ends_back text accepted formed level trace depth e of_text ground g entered carry led),
)

pub returns-clause-cuts : goal.returns-clause-cuts
returns-clause-cuts c = λ text accepted formed level trace depth e of_text now after node n. (
  (λ cut. cut_led text formed level trace depth e of_text now after node cut),
  (λ led. cut_back text accepted formed level trace depth e of_text now after node n led),
)

pub returns-clause-starts_cut : goal.returns-clause-starts_cut
returns-clause-starts_cut c = λ text accepted formed level trace depth e of_text ground g entered. (
  (λ cut. start_cut_led text formed level trace depth e of_text g entered cut),
  (λ led. start_cut_back text accepted formed level trace depth e of_text ground g entered led),
)

pub returns-clause-given : goal.returns-clause-given
returns-clause-given c = entered_given

pub returns-clause-residuals : goal.returns-clause-residuals
returns-clause-residuals c = node_residual

pub returns-clause-propose : goal.returns-clause-propose
returns-clause-propose c = λ text level trace depth e now after node n ground group. (
  (λ p. node_proposes text level trace depth e now after node ground n group p),
  (λ p. plans_propose text level trace depth e now after node ground group p),
)

pub returns-clause-ground : goal.returns-clause-ground
returns-clause-ground c = actions_ground

pub returns-clause-uncut : goal.returns-clause-uncut
returns-clause-uncut c = never_cut

pub returns-clause-prefix : goal.returns-clause-prefix
returns-clause-prefix c = node_of_prefix
