use Rattle.std.proofs.Common.{◌≡◌, drop}
use Rattle.std.specs.List.{list_all}
use Rattle.lps_model.specs.Declarations.{kind_among}
use Rattle.lps_order.specs.Walking.{follows}
use Rattle.lps_order.proofs.body.all_follow.Given as goal

-- what is left decides
abbrev pub invariant-loop-alternative : goal.invariant-loop-alternative
invariant-loop-alternative l = list_all (follows (kind_among l.kinds) l.occurred l.before) (drop l.alternative-index l.alternatives) ≡ list_all (follows (kind_among l.kinds) l.occurred l.before) l.alternatives
