-- Bytes are refused at most once, and never where they are accepted.
use Rattle.std.specs.Prelude.{ℕ, ◌+◌, ◌≡◌, ◌<◌, ◌≤◌, ◌⊎◌, List, length, take, drop, Option, Some, None, refl}
use Rattle.std.proofs.Common.{◌∙◌, sym, ap, subst, arith, inl, inr}
use Rattle.std.proofs.lemmas.Bool.{cases_lt}
use Rattle.std.proofs.lemmas.List.{take-append-drop}
use Rattle.lps_terms.specs.declared.lex_refused.LexRefused.{LexRefused}
use Rattle.lps_terms.specs.declared.read_refused.ReadRefused.{ReadRefused}
use Rattle.lps_terms.specs.declared.read_refused.ReadRefused.TheVariants as refused
use Rattle.lps_lex.specs.declared.token.Token.{Token}
use Rattle.lps_lex.specs.Lexing.{lexed}
use Rattle.lps_grammar.specs.declared.tok.Tok.{Tok}
use Rattle.lps_grammar.specs.Statements.{BeginsText}
use Rattle.lps_numbering.specs.Numbers.{crowded_of, toks_of}
use Rattle.lps_syntax.specs.Judging.{IsSmallText}
use Rattle.lps_syntax.proofs.Unique.{begins_before, small_before}
use Rattle.lps_reader.specs.Refusing.{EndsEarlyAt, IsBadAt, IsCrowdedAt, IsFirstRefusal, IsTooLargeAt, line_at}
use Rattle.lps_reader.specs.Refusals.{IsRefusal, IsRefusedAs, IsShort, tokens_in}
use Rattle.lps_reader.proofs.First.{begins_first, begins_whole, small_first, some_is}
use Rattle.lps_reader.proofs.Numbering.{crowded_inside}

-- ---- places

module _ (crowded : Option ℕ) (toks : List Tok) where
  -- what all tokens begin and keep, the first of them do
  begins_all : (n : ℕ) → BeginsText toks → BeginsText (take n toks)
  begins_all n b = begins_before (take n toks) (drop n toks) (subst BeginsText (sym (take-append-drop n toks)) b)

  small_all : (n : ℕ) → BeginsText toks → IsSmallText toks → IsSmallText (take n toks)
  small_all n b small =
      let whole = sym (take-append-drop n toks) in
      small_before (take n toks) (drop n toks) (subst BeginsText whole b) (subst IsSmallText whole small)

  -- no text begins with the tokens up to i, and one does with those up to j
  not_begun : (i j : ℕ) → (BeginsText (take (i + 1) toks) → ⊥) → BeginsText (take j toks) → j ≤ i
  not_begun i j bad b = by_order (cases_lt i j)
    where
      by_order : (i < j) ⊎ (j ≤ i) → j ≤ i
      by_order (inl low) = absurd (bad (begins_first (i + 1) j toks (omega (arith, low)) b))
      by_order (inr low) = low

  -- the tokens up to i are not small, and those up to j are
  not_small : (i j : ℕ) → (IsSmallText (take (i + 1) toks) → ⊥) → BeginsText (take j toks) → IsSmallText (take j toks) → j ≤ i
  not_small i j large b small = by_order (cases_lt i j)
    where
      by_order : (i < j) ⊎ (j ≤ i) → j ≤ i
      by_order (inl low) = absurd (large (small_first (i + 1) j toks (omega (arith, low)) b small))
      by_order (inr low) = low

  bad_bad : (i j : ℕ) → IsBadAt i crowded toks → IsBadAt j crowded toks → i ≡ j
  bad_bad i j (in_i, (b, s, f), bad) (in_j, (c, t, g), worse) =
      let le = not_begun i j bad c in let ge = not_begun j i worse b in omega (arith, le, ge)

  bad_early : (i j : ℕ) → IsBadAt i crowded toks → EndsEarlyAt j crowded toks → ⊥
  bad_early i j (in_i, (b, s, f), bad) (last, (c, t, g), none) = let le = not_begun i (length toks) bad c in absurd (omega (arith, le, in_i))

  bad_crowded : (i j : ℕ) → IsBadAt i crowded toks → IsCrowdedAt j crowded toks → ⊥
  bad_crowded i j (in_i, (b, s, f), bad) (is, (c, t, g), begins) =
      let le = not_begun i (j + 1) bad begins in let ge = f j is in absurd (omega (arith, le, ge))

  bad_large : (i j : ℕ) → IsBadAt i crowded toks → IsTooLargeAt j crowded toks → ⊥
  bad_large i j (in_i, (b, s, f), bad) (in_j, (c, t, g), begins, other, large) =
      let le = not_begun i (j + 1) bad begins in let ge = not_small j i large b s in absurd (omega (arith, le, ge))

  early_early : (i j : ℕ) → EndsEarlyAt i crowded toks → EndsEarlyAt j crowded toks → i ≡ j
  early_early i j (last, fine, none) (end, alike, unfinished) = omega (arith, last, end)

  early_crowded : (i j : ℕ) → j < length toks → EndsEarlyAt i crowded toks → IsCrowdedAt j crowded toks → ⊥
  early_crowded i j inside (last, (b, s, f), none) (is, fine, begins) = let ge = f j is in absurd (omega (arith, ge, inside))

  early_large : (i j : ℕ) → EndsEarlyAt i crowded toks → IsTooLargeAt j crowded toks → ⊥
  early_large i j (last, (b, s, f), none) (in_j, fine, begins, other, large) = let le = not_small j (length toks) large b s in absurd (omega (arith, le, in_j))

  crowded_crowded : (i j : ℕ) → IsCrowdedAt i crowded toks → IsCrowdedAt j crowded toks → i ≡ j
  crowded_crowded i j (is, fine, begins) (too, alike, begun) = some_is i j (sym is ∙ too)

  crowded_large : (i j : ℕ) → IsCrowdedAt i crowded toks → IsTooLargeAt j crowded toks → ⊥
  crowded_large i j (is, (b, s, f), begins) (in_j, (c, t, g), begun, other, large) =
      let low = g i is in
      let high = not_small j i large b s in
      let same : i ≡ j = omega (arith, low, high) in other (is ∙ ap (λ (k : ℕ). Some k) same)

  large_large : (i j : ℕ) → IsTooLargeAt i crowded toks → IsTooLargeAt j crowded toks → i ≡ j
  large_large i j (in_i, (b, s, f), begins, other, large) (in_j, (c, t, g), begun, too, larger) =
      let le = not_small i j large c t in let ge = not_small j i larger b s in omega (arith, le, ge)

  -- ---- the first refusal

  -- bad syntax is at a token, or at the end
  abbrev Bad : ℕ → Type 0
  Bad at = IsBadAt at crowded toks ⊎ EndsEarlyAt at crowded toks

  same_bad : (i j : ℕ) → Bad i → Bad j → i ≡ j
  same_bad i j (inl a) (inl b) = bad_bad i j a b
  same_bad i j (inl a) (inr b) = absurd (bad_early i j a b)
  same_bad i j (inr a) (inl b) = absurd (bad_early j i b a)
  same_bad i j (inr a) (inr b) = early_early i j a b

  bad_not_large : (i j : ℕ) → Bad i → IsTooLargeAt j crowded toks → ⊥
  bad_not_large i j (inl a) b = bad_large i j a b
  bad_not_large i j (inr a) b = early_large i j a b

  module _ (tokens : List Token) (inside : (k : ℕ) → crowded ≡ Some k → k < length toks) where
    bad_not_crowded : (i j : ℕ) → Bad i → IsCrowdedAt j crowded toks → ⊥
    bad_not_crowded i j (inl a) b = bad_crowded i j a b
    bad_not_crowded i j (inr a) b = early_crowded i j (inside j b.0) a b

    -- the lines of one place are equal
    same_line : (m n i j : ℕ) → m ≡ line_at tokens i → n ≡ line_at tokens j → i ≡ j → m ≡ n
    same_line m n i j first second same = first ∙ ap (line_at tokens) same ∙ sym second

    abbrev First : ReadRefused → Type 0
    First refusal = IsFirstRefusal (Some refusal) crowded tokens toks

    first_one : (a b : ReadRefused) → First a → First b → a ≡ b
    first_one refused.TextTooLong b x y = absurd x
    first_one (refused.Lex fault) b x y = absurd x
    first_one (refused.BadSyntax m) refused.TextTooLong x y = absurd y
    first_one (refused.BadSyntax m) (refused.Lex fault) x y = absurd y
    first_one (refused.BadSyntax m) (refused.BadSyntax n) (i, d, x) (j, e, y) = ap refused.BadSyntax (same_line m n i j d e (same_bad i j x y))
    first_one (refused.BadSyntax m) (refused.TooManyVars n) (i, d, x) (j, e, y) = absurd (bad_not_crowded i j x y)
    first_one (refused.BadSyntax m) (refused.TermTooLarge n) (i, d, x) (j, e, y) = absurd (bad_not_large i j x y)
    first_one (refused.TooManyVars m) refused.TextTooLong x y = absurd y
    first_one (refused.TooManyVars m) (refused.Lex fault) x y = absurd y
    first_one (refused.TooManyVars m) (refused.BadSyntax n) (i, d, x) (j, e, y) = absurd (bad_not_crowded j i y x)
    first_one (refused.TooManyVars m) (refused.TooManyVars n) (i, d, x) (j, e, y) = ap refused.TooManyVars (same_line m n i j d e (crowded_crowded i j x y))
    first_one (refused.TooManyVars m) (refused.TermTooLarge n) (i, d, x) (j, e, y) = absurd (crowded_large i j x y)
    first_one (refused.TermTooLarge m) refused.TextTooLong x y = absurd y
    first_one (refused.TermTooLarge m) (refused.Lex fault) x y = absurd y
    first_one (refused.TermTooLarge m) (refused.BadSyntax n) (i, d, x) (j, e, y) = absurd (bad_not_large j i y x)
    first_one (refused.TermTooLarge m) (refused.TooManyVars n) (i, d, x) (j, e, y) = absurd (crowded_large j i y x)
    first_one (refused.TermTooLarge m) (refused.TermTooLarge n) (i, d, x) (j, e, y) = ap refused.TermTooLarge (same_line m n i j d e (large_large i j x y))

    first_none : (a : ReadRefused) → IsFirstRefusal None crowded tokens toks → First a → ⊥
    first_none refused.TextTooLong (whole, small, none) x = x
    first_none (refused.Lex fault) (whole, small, none) x = x
    first_none (refused.BadSyntax n) (whole, small, none) (i, d, inl (within, fine, bad)) = bad (begins_all (i + 1) (begins_whole toks whole))
    first_none (refused.BadSyntax n) (whole, small, none) (i, d, inr (last, fine, early)) = early whole
    first_none (refused.TooManyVars n) (whole, small, none) (i, d, (is, fine, begins)) = absurd cc
    first_none (refused.TermTooLarge n) (whole, small, none) (i, d, (within, fine, begins, other, large)) = large (small_all (i + 1) (begins_whole toks whole) small)

-- ---- bytes

-- why bytes are refused: for their number, for a fault, or for a token
abbrev Reason : List ℕ → ReadRefused → Type 0
Reason bytes a =
    ((a ≡ refused.TextTooLong) × (1048576 < length bytes))
    ⊎ (((fault : LexRefused) × (a ≡ refused.Lex fault) × IsShort bytes × ((lexed bytes).fault ≡ Some fault)) ⊎ IsRefusedAs bytes (Some a))

reason : (bytes : List ℕ) (a : ReadRefused) → IsRefusal bytes a → Reason bytes a
reason bytes refused.TextTooLong is = inl (refl, is)
reason bytes (refused.Lex fault) is = inr (inl (fault, refl, is.0, is.1))
reason bytes (refused.BadSyntax line) is = inr (inr is)
reason bytes (refused.TooManyVars line) is = inr (inr is)
reason bytes (refused.TermTooLarge line) is = inr (inr is)

one_fault : (found : Option LexRefused) (f g : LexRefused) → found ≡ Some f → found ≡ Some g → f ≡ g
one_fault found f g first second = cc

no_fault : (found : Option LexRefused) (f : LexRefused) → found ≡ None → found ≡ Some f → ⊥
no_fault found f none some = absurd cc

module _ (bytes : List ℕ) where
  one_reason : (a b : ReadRefused) → Reason bytes a → Reason bytes b → a ≡ b
  one_reason a b (inl (is, long)) (inl (also, too)) = is ∙ sym also
  one_reason a b (inl (is, long)) (inr (inl (fault, also, short, found))) = absurd (omega (arith, long, short))
  one_reason a b (inl (is, long)) (inr (inr (short, none, first))) = absurd (omega (arith, long, short))
  one_reason a b (inr (inl (fault, is, short, found))) (inl (also, long)) = absurd (omega (arith, long, short))
  one_reason a b (inr (inl (fault, is, short, found))) (inr (inl (other, also, too, seen))) =
      is ∙ ap refused.Lex (one_fault (lexed bytes).fault fault other found seen) ∙ sym also
  one_reason a b (inr (inl (fault, is, short, found))) (inr (inr (too, none, first))) = absurd (no_fault (lexed bytes).fault fault none found)
  one_reason a b (inr (inr (short, none, first))) (inl (also, long)) = absurd (omega (arith, long, short))
  one_reason a b (inr (inr (short, none, first))) (inr (inl (fault, also, too, found))) = absurd (no_fault (lexed bytes).fault fault none found)
  one_reason a b (inr (inr (short, none, first))) (inr (inr (too, nothing, second))) =
      first_one (crowded_of bytes (tokens_in bytes)) (toks_of bytes (tokens_in bytes)) (tokens_in bytes) (crowded_inside bytes (tokens_in bytes)) a b first second

  no_reason : (a : ReadRefused) → IsRefusedAs bytes None → Reason bytes a → ⊥
  no_reason a (short, none, accepted) (inl (is, long)) = absurd (omega (arith, long, short))
  no_reason a (short, none, accepted) (inr (inl (fault, is, too, found))) = no_fault (lexed bytes).fault fault none found
  no_reason a (short, none, accepted) (inr (inr (too, nothing, first))) =
      first_none (crowded_of bytes (tokens_in bytes)) (toks_of bytes (tokens_in bytes)) (tokens_in bytes) (crowded_inside bytes (tokens_in bytes)) a accepted first

  pub one : (a b : ReadRefused) → IsRefusal bytes a → IsRefusal bytes b → a ≡ b
  one a b x y = one_reason a b (reason bytes a x) (reason bytes b y)

  pub none : (refusal : ReadRefused) → IsRefusedAs bytes None → IsRefusal bytes refusal → ⊥
  none refusal accepted is = no_reason refusal accepted (reason bytes refusal is)
