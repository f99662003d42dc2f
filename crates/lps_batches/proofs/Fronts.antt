-- What stands at the front of the bytes of a stream, behind the lines that are passed over.
use Rattle.std.specs.Prelude.{ℕ, suc, ◌≡◌, ◌+◌, ◌<◌, ◌≤◌, true, false, List, [], ◌∷◌, ◌++◌, length, refl}
use Rattle.std.specs.List.{list_all}
use Rattle.std.proofs.Common.{◌∙◌, ap, sym, subst, arith, append_assoc, length-append}
use Rattle.lps_batches.specs.declared.ahead.Ahead as look
use Rattle.lps_batches.specs.declared.front.Front.{Front}
use Rattle.lps_batches.specs.declared.front.Front.TheVariants as front
use Rattle.lps_batches.specs.LookAhead.{ahead, is_no_feed, is_skipped}
use Rattle.lps_batches.specs.LinesAhead.{IsLine, StandsAhead}
use Rattle.lps_batches.specs.LinesAhead as stands
use Rattle.lps_batches.proofs.Standing.{ahead_stands}
use Rattle.lps_batches.specs.Stream.{Skipped}
use Rattle.lps_batches.specs.Stream as stream

-- this front stands at these bytes
abbrev pub Stands : List ℕ → Front → Type 0
Stands bytes (front.Line count) = (line : List ℕ) × (rest : List ℕ) × (bytes ≡ line ++ 10 ∷ rest) × IsLine line × (is_skipped line ≡ false) × (count ≡ length line)
Stands bytes front.TooLong = (line : List ℕ) × (rest : List ℕ) × (bytes ≡ line ++ rest) × (list_all is_no_feed line ≡ true) × (65536 < length line)
Stands bytes front.Part = IsLine bytes

-- behind so many lines of so many bytes a front stands
pub record Found (bytes : List ℕ) (lines count : ℕ) (at : Front) : Type 0 where
  pub passed : List ℕ
  pub rest : List ℕ
  pub skipped : Skipped passed lines
  pub split : bytes ≡ passed ++ rest
  pub size : count ≡ length passed
  pub stands : Stands rest at

one_more : (line rest : List ℕ) (lines size : ℕ) (at : Front) → IsLine line → is_skipped line ≡ true → Found rest lines size at → Found (line ++ 10 ∷ rest) (1 + lines) ((length line + 1) + size) at
one_more line rest lines size at is skipped found = record {
  passed = line ++ 10 ∷ found.passed;
  rest = found.rest;
  skipped = subst (Skipped (line ++ 10 ∷ found.passed)) (let e : suc lines ≡ 1 + lines = omega arith in e) (stream.line line (record { is = is; skipped = skipped }) found.skipped);
  split = ap (λ bytes. line ++ 10 ∷ bytes) found.split ∙ sym (append_assoc line (10 ∷ found.passed) found.rest);
  size = omega (arith, found.size, length-append line (10 ∷ found.passed));
  stands = found.stands;
}

here : (bytes : List ℕ) (at : Front) → Stands bytes at → Found bytes 0 0 at
here bytes at stands = record { passed = []; rest = bytes; skipped = stream.none; split = refl; size = refl; stands = stands }

stands_found : {bytes : List ℕ} {found : look.Ahead} → StandsAhead bytes found → Found bytes found.lines found.bytes found.front
stands_found (stands.passed {rest = rest} {found = found} line is skipped more) = one_more line rest found.lines found.bytes found.front is skipped (stands_found more)
stands_found (stands.whole line rest is kept) = here _ _ (line, rest, refl, is, kept, refl)
stands_found (stands.too_long line rest all long) = here _ _ (line, rest, refl, all, long)
stands_found (stands.part line is) = here _ _ is

pub found_ahead : (bytes : List ℕ) (found : look.Ahead) → found ≡ ahead bytes → Found bytes found.lines found.bytes found.front
found_ahead bytes found e = stands_found ((ahead_stands bytes found).1 (sym e))

-- each line that is passed over has its line feed
pub skipped_size : {bytes : List ℕ} {lines : ℕ} → Skipped bytes lines → lines ≤ length bytes
skipped_size stream.none = omega arith
skipped_size (stream.line {rest = rest} line is more) = omega (arith, length-append line (10 ∷ rest), skipped_size more)
