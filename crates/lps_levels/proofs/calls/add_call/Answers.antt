use Rattle.std.proofs.Common.{sym}
use Rattle.lps_levels.proofs.Adding.{a_call, no_call, no_head}
use Rattle.lps_levels.proofs.Numbers.{has_no_number}
use Rattle.lps_levels.proofs.calls.add_call.Goals as goal

pub returns-in_default : goal.returns-in_default
returns-in_default c = absurd (no_head c.args.kinds.now c.args.head.now c.args.negated c.args.guarded c.args.atom.now c.args.names.now c.args.edges.now.items c.args.edges.now.items c.requires.named c.requires.headed (sym c.in_default.ensures))

pub returns-in_default-number : goal.returns-in_default-number
returns-in_default-number c =
    no_call c.args.kinds.now c.args.head.now c.args.negated c.args.guarded c.args.atom.now c.args.names.now c.args.edges.now.items c.args.edges.now.items
    (has_no_number c.args.kinds.now c.args.names.now c.args.atom.now.name c.requires.named (sym c.in_default-number.ensures))

pub returns : goal.returns
returns c =
    a_call c.args.kinds.now c.args.head.now c.args.negated c.args.guarded c.args.atom.now c.args.names.now c.args.edges.now.items c.push.new.self.items
    c.in-Some.caller c.in-Some-number.callee c.is_strict-is_strict.result c.requires.named (sym c.in-Some.ensures) (sym c.in-Some-number.ensures) c.is_strict-is_strict.ensures c.in_ok-push.ensures.items
