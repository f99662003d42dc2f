use Rattle.std.proofs.Common.{◌≡◌, sym, subst}
use Rattle.lps_solve.specs.Found.{Gains}
use Rattle.lps_solve.proofs.Gaining.{insert_gains}
use Rattle.lps_solve.proofs.found.insert.Goals as goal

pub returns : goal.returns
returns c = subst (λ ks. Gains c.args.found.now.keys ks (λ x. x ≡ c.args.row)) (sym c.in_ok-insert.ensures.keys) (insert_gains c.args.found.now.keys c.args.row)
