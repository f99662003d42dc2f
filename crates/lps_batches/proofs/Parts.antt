-- Bytes that are seen to have no line feed.
use Rattle.std.specs.Prelude.{ℕ, zero, suc, ◌≡◌, ◌≤◌, Bool, true, List, [], ◌∷◌, length, take, drop, ◌&&◌, None, refl}
use Rattle.std.specs.List.{list_all}
use Rattle.std.proofs.Common.{◌∙◌, ap, sym, subst, arith}
use Rattle.lps_lex.proofs.Bytes.{both}
use Rattle.lps_batches.specs.LookAhead.{is_no_feed}
use Rattle.lps_batches.specs.LinesAhead.{IsLine}
use Rattle.lps_batches.specs.Stream.{NothingWhole, Reader}
use Rattle.lps_batches.specs.Stream as stream

-- what is so in front and behind is so in all
all_of : (test : ℕ → Bool) (count : ℕ) (bytes : List ℕ) → list_all test (take count bytes) ≡ true → list_all test (drop count bytes) ≡ true → list_all test bytes ≡ true
all_of test zero bytes front rest = rest
all_of test (suc count) [] front rest = refl
all_of test (suc count) (byte ∷ bytes) front rest =
    let parts = both (test byte) (list_all test (take count bytes)) front in
    ap (λ x. x && list_all test bytes) parts.0 ∙ all_of test count bytes parts.1 rest

-- nothing new has a line feed
pub still_part : (seen : ℕ) (bytes rest : List ℕ) (none : Bool) → length bytes ≤ 65536 → list_all is_no_feed (take seen bytes) ≡ true → rest ≡ drop seen bytes → none ≡ list_all is_no_feed rest →
    none ≡ true → IsLine bytes
still_part seen bytes rest none short front same e holds = record {
  no_feed = all_of is_no_feed seen bytes front (ap (list_all is_no_feed) (sym same) ∙ sym e ∙ holds);
  short = short;
}

-- a reader that holds the beginning of a line stays as it is
pub nothing_new : (old new : Reader) → new ≡ old → old.bad ≡ None → IsLine old.left → NothingWhole old new
nothing_new old new same fine part = subst (NothingWhole old) (sym same) (record {
  passed = 0;
  ahead = record { fine = fine; front = []; skipped = stream.none; split = refl };
  part = part;
  lines = omega arith;
  fine = fine;
})
