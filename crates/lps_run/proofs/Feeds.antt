-- Where line feeds stand in a stream.
use Rattle.std.proofs.Common.{◌≡◌, ℕ, ◌<◌, Bool, true, false, List, [], ◌∷◌, ◌++◌, length, refl, sym, ap, ◌∙◌, inl, inr, arith, append_assoc, length-append}
use Rattle.std.specs.Prelude.{◌⊎◌, ◌&&◌}
use Rattle.std.specs.List.{list_all}
use Rattle.std.proofs.lemmas.Bool.{eqb-true, not-false}
use Rattle.std.proofs.lemmas.List.Folds.{list_all-append}
use Rattle.lps_terms.specs.declared.batch_kind.BatchKind.TheVariants.{LineTooLong}
use Rattle.lps_lex.proofs.Bytes.{both}
use Rattle.lps_batches.specs.LookAhead.{is_no_feed}
use Rattle.lps_batches.specs.LinesAhead.{IsLine}
use Rattle.lps_batches.specs.Lines.{IsBadLine}

abbrev tail_of : List ℕ → List ℕ
tail_of [] = []
tail_of (byte ∷ bytes) = bytes

grow_all : (front rest : List ℕ) → list_all is_no_feed front ≡ true → list_all is_no_feed rest ≡ true → list_all is_no_feed (front ++ rest) ≡ true
grow_all front rest a b = list_all-append is_no_feed front rest ∙ (λ i. a i && b i)

-- a line with a line feed behind it has one
pub no_whole : (front line rest : List ℕ) → IsLine (front ++ (line ++ 10 ∷ rest)) → ⊥
no_whole front line rest is =
    let all = both (list_all is_no_feed front) _ (sym (list_all-append is_no_feed front (line ++ 10 ∷ rest)) ∙ is.no_feed) in
    let more = both (list_all is_no_feed line) _ (sym (list_all-append is_no_feed line (10 ∷ rest)) ∙ all.1) in
    let apart : false ≡ true = more.1 in absurd cc

-- bytes that end in a line feed do not end in a line without one
no_end : (stream front line : List ℕ) → stream ++ 10 ∷ [] ≡ front ++ line → 0 < length line → list_all is_no_feed line ≡ true → ⊥
no_end [] [] line e some all = let apart : false ≡ true = ap (list_all is_no_feed) e ∙ all in absurd cc
no_end [] (c ∷ front) line e some all =
    let none : length (front ++ line) ≡ 0 = sym (ap (λ bytes. length (tail_of bytes)) e) in
    absurd (omega (arith, none, length-append front line))
no_end (b ∷ stream) [] line e some all =
    let parts = both (is_no_feed b) (list_all is_no_feed (stream ++ 10 ∷ [])) (ap (list_all is_no_feed) e ∙ all) in
    no_end stream [] (stream ++ 10 ∷ []) refl (omega (arith, length-append stream (10 ∷ []))) parts.1
no_end (b ∷ stream) (c ∷ front) line e some all = no_end stream front line (ap tail_of e) some all

-- the bytes up to the first line feed, and those after it
abbrev Splits : List ℕ → Type 0
Splits bytes = (line : List ℕ) × (rest : List ℕ) × (bytes ≡ line ++ 10 ∷ rest) × (list_all is_no_feed line ≡ true)

first_feed : (bytes : List ℕ) → Splits bytes ⊎ (list_all is_no_feed bytes ≡ true)
first_feed [] = inr refl
first_feed (byte ∷ bytes) = by_byte (is_no_feed byte) refl (first_feed bytes) where
  by_byte : (test : Bool) → is_no_feed byte ≡ test → Splits bytes ⊎ (list_all is_no_feed bytes ≡ true) → Splits (byte ∷ bytes) ⊎ (list_all is_no_feed (byte ∷ bytes) ≡ true)
  by_byte false is more = let feed : byte ≡ 10 = eqb-true byte 10 (not-false _ is) in inl ([], bytes, ap (λ b. b ∷ bytes) feed, refl)
  by_byte true is (inl (line, rest, split, all)) = inl (byte ∷ line, rest, ap (λ bs. byte ∷ bs) split, ap (λ x. x && list_all is_no_feed line) is ∙ all)
  by_byte true is (inr all) = inr (ap (λ x. x && list_all is_no_feed bytes) is ∙ all)

-- a line that is too long already ends somewhere in a stream that ends in a line feed
pub long_ends : (stream front line more : List ℕ) → stream ++ 10 ∷ [] ≡ front ++ (line ++ more) → list_all is_no_feed line ≡ true → 65536 < length line →
    (whole : List ℕ) × (after : List ℕ) × (stream ++ 10 ∷ [] ≡ front ++ (whole ++ 10 ∷ after)) × IsBadLine whole LineTooLong
long_ends stream front line more split all long = by_feed (first_feed more) where
  by_feed : Splits more ⊎ (list_all is_no_feed more ≡ true) → (whole : List ℕ) × (after : List ℕ) × (stream ++ 10 ∷ [] ≡ front ++ (whole ++ 10 ∷ after)) × IsBadLine whole LineTooLong
  by_feed (inl (rest, after, is, none)) = (
    line ++ rest,
    after,
    split ∙ ap (λ (bs : List ℕ). front ++ (line ++ bs)) is ∙ ap (λ (bs : List ℕ). front ++ bs) (sym (append_assoc line rest (10 ∷ after))),
    record {
      no_feed = grow_all line rest all none;
      kept = λ short. absurd (omega (arith, length-append line rest));
      read = omega (arith, length-append line rest);
    },
  )
  by_feed (inr none) = absurd (no_end stream front (line ++ more) split (omega (arith, length-append line more)) (grow_all line more all none))
