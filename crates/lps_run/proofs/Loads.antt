-- The bytes of a text, piece by piece.
use Rattle.std.proofs.Common.{◌≡◌, ℕ, ◌-◌, ◌<◌, ◌≤◌, List, [], ◌++◌, length, take, drop, refl, sym, ap, ◌∙◌, arith, append_assoc, length-append}
use Rattle.std.proofs.lemmas.List.{drop_at, take-append-drop}
use Rattle.lps_outside.specs.Bytes.{CopiesAt}
use Rattle.lps_run.specs.Loading.{IsMore}

-- what is copied from the place after the bytes is copied from the front of the rest
copied : (all bytes rest into : List ℕ) (at count room : ℕ) → at ≡ length bytes → all ≡ bytes ++ rest → CopiesAt all at count room into → CopiesAt rest 0 count room into
copied all bytes rest into at count room a e c =
    let here : drop at all ≡ rest = ap (drop at) e ∙ drop_at bytes rest at (sym a) in
    record {
      copied = rw here at c.copied;
      within = rw here at c.within;
      ended = rw here at c.ended;
    }

pub is_long : (all bytes rest into : List ℕ) (at count room most : ℕ) → at ≡ length bytes → all ≡ bytes ++ rest → CopiesAt all at count room into → length bytes ≤ most → most - length bytes < count → most < length all
is_long all bytes rest into at count room most a e c few many =
    let d = copied all bytes rest into at count room a e c in
    let within : count ≤ length rest = d.within in
    omega (arith, ap length e ∙ length-append bytes rest, within)

pub is_more : (all bytes rest into after : List ℕ) (at count room : ℕ) → at ≡ length bytes → all ≡ bytes ++ rest → CopiesAt all at count room into → 0 < room → after ≡ bytes ++ take count into → IsMore all after count
is_more all bytes rest into after at count room a e c some grown =
    let d = copied all bytes rest into at count room a e c in
    let piece : take count into ≡ take count rest = d.copied in
    record {
      rest = drop count rest;
      whole = e ∙ ap (λ (bs : List ℕ). bytes ++ bs) (sym (take-append-drop count rest)) ∙ sym (append_assoc bytes (take count rest) (drop count rest)) ∙ ap (λ (bs : List ℕ). bs ++ drop count rest) (sym (grown ∙ ap (λ (bs : List ℕ). bytes ++ bs) piece));
      ended = λ none. let over : rest ≡ [] = d.ended some none in rw (none, over) refl;
    }
