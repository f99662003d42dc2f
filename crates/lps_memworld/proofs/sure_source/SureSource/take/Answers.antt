use Rattle.std.proofs.Common.{◌≡◌, ◌∙◌, ℕ, List, drop, ap, take, subst, min, length}
use Rattle.lps_memworld.specs.Streams.{PiecewiseStream}
use Rattle.lps_memworld.proofs.Takings.{takes_piece}
use Rattle.lps_memworld.proofs.sure_source.SureSource.take.Goals as goal

pub returns-clause-bytes : goal.returns-clause-bytes
returns-clause-bytes c =
    let all = c.self.inside.bytes.items in
    let at = c.self.inside.at in
    let count = c.copy_front-count.result in
    let rest : c.split_at.result.1.now ≡ drop at all = c.split_at.ensures.back ∙ ap (λ (bs : List ℕ). drop at bs) c.as_slice.ensures.value in
    let same : drop at all ≡ c.args.self.now.stream.left = ap (λ (it : PiecewiseStream). it.stream.left) c.self.view_is in
    takes_piece all _ c.args.self.now.stream at count _ c.self.inside.piece same
    (c.copy_front-count.ensures.copied ∙ ap (λ (bs : List ℕ). take count bs) rest)
    (subst (λ (bs : List ℕ). count ≡ min c.self.inside.piece (min (length c.args.into.now) (length bs))) rest c.copy_front-count.ensures.count)
    c.self.invariant.1
