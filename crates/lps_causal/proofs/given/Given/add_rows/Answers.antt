use Rattle.std.proofs.Common.{ℕ, ◌≡◌, List, subst, arith}
use Rattle.std.proofs.lemmas.List.{nil_from_length}
use Rattle.lps_causal.specs.Given.{Adds}
use Rattle.lps_causal.proofs.Gaining.{row_added, rows_all}
use Rattle.lps_causal.proofs.given.Given.add_rows.Goals as goal

pub loop-row-preserved : goal.loop-row-preserved
loop-row-preserved c = λ initiates a.
    let added = row_added c.loop-row.self c.add.new.self c.args.initiates c.args.name.now c.loop-row.rows.items c.pop.new.self.items c.in-Some.row c.in-Some.ensures.items
    (subst (λ (n : List ℕ). Adds c.loop-row.self c.add.new.self (λ kind b. (c.args.initiates ≡ kind) × (b ≡ record { name = n; args = c.in-Some.row.0 }))) c.in_ok-name.ensures c.in_ok-add.ensures) initiates a in
    let before = c.loop-row.invariant initiates a in
    ((λ h. before.0 (added.0 h)), (λ h. added.1 (before.1 h)))

pub returns : goal.returns
returns c =
    rows_all c.args.self.now c.loop-row.self c.args.initiates c.args.name.now c.args.rows.items c.loop-row.rows.items
    (nil_from_length c.loop-row.rows.items (let empty = c.in_default.ensures.cases.0 in omega (arith, empty, c.loop-row.rows.ok))) c.loop-row.invariant
