use Rattle.std.proofs.Common.{◌∙◌, ap, sym, [], ◌∷◌}
use Rattle.lps_meaning.specs.declared.node.LeftItem.TheVariants as l
use Rattle.lps_seq.specs.Starts.{left_whole_of}
use Rattle.lps_seq.proofs.Whole.{whole_at, whole_bare, whole_span}
use Rattle.lps_seq.proofs.entrance.left_item.Goals as goal

pub returns-in_ok-copy_lit-in-At : goal.returns-in_ok-copy_lit-in-At
returns-in_ok-copy_lit-in-At c =
    (λ i. record { item = l.At (c.in_ok-copy_lit-in-At.ensures i) (c.unknown.ensures i); nest = 0 } ∷ []) ∙ whole_at c.in-At.lit c.in-At.time ∙ ap left_whole_of (sym c.in-At.is)

pub returns-in_ok-copy_lit-in-Bare : goal.returns-in_ok-copy_lit-in-Bare
returns-in_ok-copy_lit-in-Bare c =
    (λ i. record { item = l.Bare (c.in_ok-copy_lit-in-Bare.ensures i); nest = 0 } ∷ []) ∙ whole_bare c.in-Bare.lit ∙ ap left_whole_of (sym c.in-Bare.is)

pub returns-in_ok-copy_atom-in-Span : goal.returns-in_ok-copy_atom-in-Span
returns-in_ok-copy_atom-in-Span c =
    (λ i. record { item = l.Span (c.in_ok-copy_atom-in-Span.ensures i) (c.unknown-in-Span.ensures i) (c.unknown-in-Span-2.ensures i); nest = 0 } ∷ [])
    ∙ whole_span c.in-Span.atom c.in-Span.from c.in-Span.to ∙ ap left_whole_of (sym c.in-Span.is)
