use Rattle.std.proofs.Common.{ap}
use Rattle.lps_terms.specs.declared.atom.Atom.{Atom}
use Rattle.lps_meeting.proofs.Rows.{row_added}
use Rattle.lps_meeting.proofs.ways.add_row.Goals as goal

pub returns : goal.returns
returns c =
    let may = c.may_be.ensures.0 c.if-not-may_be.false in
    row_added c.args.atom.now c.args.event.now c.args.rows.now.items c.push.new.self.items _ c.in_ok-push.ensures.items
    (record { named = may.0; count = may.1; small = may.2; is = ap (λ (a : Atom). a.args) c.in_ok-copy.ensures })
