use Rattle.std.proofs.Common.{sym, subst}
use Rattle.lps_terms.specs.declared.item.Item.{Item}
use Rattle.lps_index.specs.Spoken.{atom_in}
use Rattle.lps_index.specs.Table.{IsNotedIn}
use Rattle.lps_index.proofs.Growing.{nothing_noted}
use Rattle.lps_index.proofs.table.Table.with_item.Goals as goal

pub returns-in-Built : goal.returns-in-Built
returns-in-Built c = subst (λ (item : Item). IsNotedIn c.args.self c.args.self c.args.place (atom_in item)) (sym c.in-Built.is) (nothing_noted c.args.self c.args.place)

pub returns-in-Con : goal.returns-in-Con
returns-in-Con c = subst (λ (item : Item). IsNotedIn c.args.self c.args.self c.args.place (atom_in item)) (sym c.in-Con.is) (nothing_noted c.args.self c.args.place)
