-- Items with each variable and each time put in for itself are the items.
use Rattle.std.proofs.Common.{◌≡◌, [], map, sym, ap}
use Rattle.lps_terms.specs.declared.atom.Atom.{Atom}
use Rattle.lps_terms.specs.declared.built.Built.{Built}
use Rattle.lps_terms.specs.declared.item.Item.TheVariants as i
use Rattle.lps_terms.specs.declared.lit.Lit.{Lit}
use Rattle.lps_terms.specs.declared.time_var.TimeVar.{TimeVar}
use Rattle.lps_meaning.specs.declared.node.LeftItem.{LeftItem}
use Rattle.lps_meaning.specs.declared.node.LeftItem.TheVariants as l
use Rattle.lps_meaning.specs.declared.when.When.TheVariants.{Unknown}
use Rattle.lps_nodes.specs.Shapes.{put_left}
use Rattle.lps_nodes.proofs.OwnShapes.{own, own_shape, own_time}
use Rattle.lps_seq.specs.Starts.{left_whole_of, lefts_of}
use Rattle.std.specs.Prelude.{Some}

whole : (item : LeftItem) → map (put_left own own_time) (lefts_of (Some item)) ≡ lefts_of (Some item)
whole item = ap (λ g. g.rest) (own_shape (record { carry = record { values = []; times = [] }; rest = lefts_of (Some item); limits = [] }))

pub whole_at : (lit : Lit) (time : TimeVar) → lefts_of (Some (l.At lit (Unknown time.0))) ≡ left_whole_of (i.At lit time)
whole_at lit time = sym (whole (l.At lit (Unknown time.0)))

pub whole_bare : (lit : Lit) → lefts_of (Some (l.Bare lit)) ≡ left_whole_of (i.Bare lit)
whole_bare lit = sym (whole (l.Bare lit))

pub whole_built : (built : Built) → lefts_of (Some (l.Built built)) ≡ left_whole_of (i.Built built)
whole_built built = sym (whole (l.Built built))

pub whole_span : (a : Atom) (from to : TimeVar) → lefts_of (Some (l.Span a (Unknown from.0) (Unknown to.0))) ≡ left_whole_of (i.Span a from to)
whole_span a from to = sym (whole (l.Span a (Unknown from.0) (Unknown to.0)))
