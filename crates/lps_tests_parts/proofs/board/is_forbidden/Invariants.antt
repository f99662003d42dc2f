use Rattle.std.proofs.Common.{◌≡◌, ◌+◌, length, drop}
use Rattle.std.specs.List.{flat_map}
use Rattle.lps_tests_parts.proofs.board.is_forbidden.Given as goal

-- how many events are left to make up the forbidden number
abbrev pub invariant-loop-pick : goal.invariant-loop-pick
invariant-loop-pick l =
    length (flat_map (λ pick. pick.group.atoms) l.picks) + l.left ≡ length (flat_map (λ pick. pick.group.atoms) (drop l.pick-index l.picks)) + l.forbidden
