use Rattle.std.proofs.Common.{◌≡◌, ◌∙◌, sym}
use Rattle.std.specs.Option.{option_eq}
use Rattle.lps_watch.proofs.Orders.{awaited_eq, same_awaited}
use Rattle.lps_watch.proofs.sets.are_same.Goals as goal

pub returns : goal.returns
returns c =
    let is : c.eq.result ≡ option_eq awaited_eq c.args.awaited.now c.args.other.now = c.eq.ensures in
    let same = same_awaited c.args.awaited.now c.args.other.now in (λ e. same.0 (sym is ∙ e), λ e. is ∙ same.1 e)
