-- A stream that is read in pieces.
use Rattle.std.proofs.Common.{◌≡◌, ℕ, ◌+◌, ◌<◌, List, ◌++◌, length, take, drop, Some, refl, sym, ◌∙◌, arith, min}
use Rattle.std.proofs.lemmas.List.{take-append-drop, drop-drop, nil_from_length, length-drop}
use Rattle.lps_outside.specs.Bytes.{Stream, Takes}

-- a copy of the front of what is left, as long as room and piece let it be, takes these bytes
pub takes_piece : (all into : List ℕ) (before : Stream) (at count room most : ℕ) → drop at all ≡ before.left →
    take count into ≡ take count (drop at all) → count ≡ min most (min room (length (drop at all))) → 0 < most →
    Takes before count room into (Some (record { left = drop (at + count) all; took = count }))
takes_piece all into before at count room most same piece size some = record {
  rest = drop (at + count) all;
  told = refl;
  whole = sym same ∙ sym (take-append-drop count (drop at all)) ∙ (λ i. (sym piece) i ++ (drop-drop count at all) i);
  ended = λ space none. nil_from_length (drop (at + count) all) (omega (arith, length-drop at all, length-drop (at + count) all, size));
}
