-- Of any tokens at most one verdict stands.
use Rattle.std.specs.Prelude.{ℕ, zero, suc, ◌≡◌, ◌+◌, ◌<◌, ◌≤◌, List, [], ◌∷◌, ◌++◌, refl, take, drop, ◌⊎◌}
use Rattle.std.proofs.Common.{◌∙◌, sym, ap, subst, arith, append_assoc, append-nil, inl, inr}
use Rattle.std.proofs.lemmas.List.{take-append-drop}
use Rattle.lps_grammar.specs.declared.tok.Tok.{Tok}
use Rattle.lps_grammar.specs.Statements.{Text, IsText, BeginsText}
use Rattle.lps_grammar.specs.Lines.{Line, IsLine, BeginsLine}
use Rattle.lps_grammar.specs.Sizes.{begun_line}
use Rattle.lps_syntax.proofs.Running.{begun_runs}
use Rattle.lps_syntax.specs.Counts.{symbols_after, events_after}
use Rattle.lps_syntax.specs.Judging.{IsSmallText, IsSmallLine, HasFewEvents, IsTextVerdict, IsLineVerdict}
use Rattle.lps_syntax.specs.declared.text_verdict.TextVerdict.{TextVerdict}
use Rattle.lps_syntax.specs.declared.text_verdict.TextVerdict.TheVariants as tv
use Rattle.lps_syntax.specs.declared.line_verdict.LineVerdict.{LineVerdict}
use Rattle.lps_syntax.specs.declared.line_verdict.LineVerdict.TheVariants as lv
use Rattle.lps_syntax.proofs.Symbols.{text_symbols, line_symbols}
use Rattle.lps_syntax.proofs.Begun.{line_begun}
use Rattle.lps_syntax.proofs.Tallies.{fits_before}
use Rattle.lps_syntax.proofs.Verdicts.{text_start, text_of, symbols_of, text_through, line_start, line_of, symbols_in, line_through}

-- ---- places

take_take : (m n : ℕ) (ts : List Tok) → m ≤ n → take m (take n ts) ≡ take m ts
take_take zero n ts h = refl
take_take (suc m) zero ts h = absurd (omega arith)
take_take (suc m) (suc n) [] h = refl
take_take (suc m) (suc n) (t ∷ ts) h = ap (λ us. t ∷ us) (take_take m n ts (omega arith))

take_split : (m n : ℕ) (ts : List Tok) → m ≤ n → take m ts ++ drop m (take n ts) ≡ take n ts
take_split m n ts h = ap (λ us. us ++ drop m (take n ts)) (sym (take_take m n ts h)) ∙ take-append-drop m (take n ts)

below : (m n : ℕ) → (m < n) ⊎ (n ≤ m)
below zero zero = inr (omega arith)
below zero (suc n) = inl (omega arith)
below (suc m) zero = inr (omega arith)
below (suc m) (suc n) = more (below m n)
  where
    more : (m < n) ⊎ (n ≤ m) → (suc m < suc n) ⊎ (suc n ≤ suc m)
    more (inl h) = inl (omega arith)
    more (inr h) = inr (omega arith)

-- what stands at a place, given that something begins there, stands at each place before
module _ (B P : ℕ → Type 0) (down : (m n : ℕ) → m ≤ n → B n → P n → P m) where
  at_most_if : (i j : ℕ) → (i < j) ⊎ (j ≤ i) → B j → P j → (P (i + 1) → ⊥) → j ≤ i
  at_most_if i j (inl h) b p no_more = absurd (no_more (down (i + 1) j (omega arith) b p))
  at_most_if i j (inr h) b p no_more = h

  -- it stands at j, and no more after i
  at_most : (i j : ℕ) → B j → P j → (P (i + 1) → ⊥) → j ≤ i
  at_most i j b p no_more = at_most_if i j (below i j) b p no_more

  first : (i j : ℕ) → B i → P i → (P (i + 1) → ⊥) → B j → P j → (P (j + 1) → ⊥) → i ≡ j
  first i j b p no_more c q none_more =
      let le : j ≤ i = at_most i j c q no_more in let ge : i ≤ j = at_most j i b p none_more in omega arith

-- ---- texts

pub begins_before : (ts more : List Tok) → BeginsText (ts ++ more) → BeginsText ts
begins_before ts more b = (more ++ b.0, (b.1.0, sym (append_assoc ts more b.0) ∙ b.1.1))

pub small_before : (ts more : List Tok) → BeginsText (ts ++ more) → IsSmallText (ts ++ more) → IsSmallText ts
small_before ts more b small =
    let u = begun_runs Text text_of text_start text_start text_through ts (begins_before ts more b) in
    let v = begun_runs Text text_of text_start text_start text_through (ts ++ more) b in
    fits_before symbols_after Text text_of symbols_of text_start 1024 text_symbols ts more u.0 v.0 u.1 v.1 b small

text_begun : (ts : List Tok) → IsText ts → BeginsText ts
text_begun ts x = ([], subst IsText (sym (append-nil ts)) x)

module _ (ts : List Tok) where
  abbrev B : ℕ → Type 0
  B n = BeginsText (take n ts)

  abbrev S : ℕ → Type 0
  S n = IsSmallText (take n ts)

  b_down : (m n : ℕ) → m ≤ n → B n → B n → B m
  b_down m n h b c = begins_before (take m ts) (drop m (take n ts)) (subst BeginsText (sym (take_split m n ts h)) b)

  s_down : (m n : ℕ) → m ≤ n → B n → S n → S m
  s_down m n h b s = small_before (take m ts) (drop m (take n ts)) (subst BeginsText (sym (take_split m n ts h)) b) (subst IsSmallText (sym (take_split m n ts h)) s)

  b_all : (n : ℕ) → BeginsText ts → B n
  b_all n b = begins_before (take n ts) (drop n ts) (subst BeginsText (sym (take-append-drop n ts)) b)

  s_all : (n : ℕ) → BeginsText ts → IsSmallText ts → S n
  s_all n b s = small_before (take n ts) (drop n ts) (subst BeginsText (sym (take-append-drop n ts)) b) (subst IsSmallText (sym (take-append-drop n ts)) s)

  bad_large : (i j : ℕ) → IsTextVerdict (tv.Bad i) ts → IsTextVerdict (tv.TooLarge j) ts → ⊥
  bad_large i j a b =
      let before : j + 1 ≤ i = at_most B B b_down i (j + 1) b.1 b.1 a.3 in
      let after : i ≤ j = at_most B S s_down j i a.1 a.2 b.3 in absurd (omega arith)

  pub text_unique : (a b : TextVerdict) → IsTextVerdict a ts → IsTextVerdict b ts → a ≡ b
  text_unique tv.Accepted tv.Accepted a b = refl
  text_unique tv.Accepted tv.Incomplete a b = absurd (b.1 a.0)
  text_unique tv.Accepted (tv.Bad j) a b = absurd (b.3 (b_all (j + 1) (text_begun ts a.0)))
  text_unique tv.Accepted (tv.TooLarge j) a b = absurd (b.3 (s_all (j + 1) (text_begun ts a.0) a.1))
  text_unique tv.Incomplete tv.Accepted a b = absurd (a.1 b.0)
  text_unique tv.Incomplete tv.Incomplete a b = refl
  text_unique tv.Incomplete (tv.Bad j) a b = absurd (b.3 (b_all (j + 1) a.0))
  text_unique tv.Incomplete (tv.TooLarge j) a b = absurd (b.3 (s_all (j + 1) a.0 a.2))
  text_unique (tv.Bad i) tv.Accepted a b = absurd (a.3 (b_all (i + 1) (text_begun ts b.0)))
  text_unique (tv.Bad i) tv.Incomplete a b = absurd (a.3 (b_all (i + 1) b.0))
  text_unique (tv.Bad i) (tv.Bad j) a b = ap tv.Bad (first B B b_down i j a.1 a.1 a.3 b.1 b.1 b.3)
  text_unique (tv.Bad i) (tv.TooLarge j) a b = absurd (bad_large i j a b)
  text_unique (tv.TooLarge i) tv.Accepted a b = absurd (a.3 (s_all (i + 1) (text_begun ts b.0) b.1))
  text_unique (tv.TooLarge i) tv.Incomplete a b = absurd (a.3 (s_all (i + 1) b.0 b.2))
  text_unique (tv.TooLarge i) (tv.Bad j) a b = absurd (bad_large j i b a)
  text_unique (tv.TooLarge i) (tv.TooLarge j) a b =
      ap tv.TooLarge (first B S s_down i j (b_down i (i + 1) (omega arith) a.1 a.1) a.2 a.3 (b_down j (j + 1) (omega arith) b.1 b.1) b.2 b.3)

-- ---- lines

pub line_before : (ts more : List Tok) → BeginsLine (ts ++ more) → BeginsLine ts
line_before ts more b = (more ++ b.0, (b.1.0, sym (append_assoc ts more b.0) ∙ b.1.1))

pub small_line_before : (ts more : List Tok) → BeginsLine (ts ++ more) → IsSmallLine (ts ++ more) → IsSmallLine ts
small_line_before ts more b small =
    let u = begun_runs Line line_of line_start [] line_through ts (line_before ts more b) in
    let v = begun_runs Line line_of line_start [] line_through (ts ++ more) b in
    fits_before symbols_after Line line_of symbols_in line_start 1024 line_symbols ts more u.0 v.0 u.1 v.1 b small

pub few_before : (ts more : List Tok) → BeginsLine (ts ++ more) → HasFewEvents (ts ++ more) → HasFewEvents ts
few_before ts more b few =
    let u = begun_runs Line line_of line_start [] line_through ts (line_before ts more b) in
    let v = begun_runs Line line_of line_start [] line_through (ts ++ more) b in
    fits_before events_after Line line_of begun_line line_start 1000 line_begun ts more u.0 v.0 u.1 v.1 b few

line_starts : (ts : List Tok) → IsLine ts → BeginsLine ts
line_starts ts x = ([], subst IsLine (sym (append-nil ts)) x)

module _ (ts : List Tok) where
  abbrev L : ℕ → Type 0
  L n = BeginsLine (take n ts)

  abbrev F : ℕ → Type 0
  F n = HasFewEvents (take n ts)

  abbrev Z : ℕ → Type 0
  Z n = IsSmallLine (take n ts)

  l_down : (m n : ℕ) → m ≤ n → L n → L n → L m
  l_down m n h b c = line_before (take m ts) (drop m (take n ts)) (subst BeginsLine (sym (take_split m n ts h)) b)

  f_down : (m n : ℕ) → m ≤ n → L n → F n → F m
  f_down m n h b s = few_before (take m ts) (drop m (take n ts)) (subst BeginsLine (sym (take_split m n ts h)) b) (subst HasFewEvents (sym (take_split m n ts h)) s)

  z_down : (m n : ℕ) → m ≤ n → L n → Z n → Z m
  z_down m n h b s = small_line_before (take m ts) (drop m (take n ts)) (subst BeginsLine (sym (take_split m n ts h)) b) (subst IsSmallLine (sym (take_split m n ts h)) s)

  l_all : (n : ℕ) → BeginsLine ts → L n
  l_all n b = line_before (take n ts) (drop n ts) (subst BeginsLine (sym (take-append-drop n ts)) b)

  f_all : (n : ℕ) → BeginsLine ts → HasFewEvents ts → F n
  f_all n b s = few_before (take n ts) (drop n ts) (subst BeginsLine (sym (take-append-drop n ts)) b) (subst HasFewEvents (sym (take-append-drop n ts)) s)

  z_all : (n : ℕ) → BeginsLine ts → IsSmallLine ts → Z n
  z_all n b s = small_line_before (take n ts) (drop n ts) (subst BeginsLine (sym (take-append-drop n ts)) b) (subst IsSmallLine (sym (take-append-drop n ts)) s)

  -- a line that is begun and keeps its limits is no place of a refusal
  no_bad : (j : ℕ) → BeginsLine ts → IsLineVerdict (lv.Bad j) ts → ⊥
  no_bad j b v = v.3 (l_all (j + 1) b)

  no_many : (j : ℕ) → BeginsLine ts → HasFewEvents ts → IsLineVerdict (lv.TooManyEvents j) ts → ⊥
  no_many j b few v = v.3 (f_all (j + 1) b few)

  no_large : (j : ℕ) → BeginsLine ts → IsSmallLine ts → IsLineVerdict (lv.TooLarge j) ts → ⊥
  no_large j b small v = v.4 (z_all (j + 1) b small)

  bad_many : (i j : ℕ) → IsLineVerdict (lv.Bad i) ts → IsLineVerdict (lv.TooManyEvents j) ts → ⊥
  bad_many i j a b =
      let before : j + 1 ≤ i = at_most L L l_down i (j + 1) b.1 b.1 a.3 in
      let after : i ≤ j = at_most L F f_down j i a.1 a.2.0 b.3 in absurd (omega arith)

  bad_too_large : (i j : ℕ) → IsLineVerdict (lv.Bad i) ts → IsLineVerdict (lv.TooLarge j) ts → ⊥
  bad_too_large i j a b =
      let before : j + 1 ≤ i = at_most L L l_down i (j + 1) b.1 b.1 a.3 in
      let after : i ≤ j = at_most L Z z_down j i a.1 a.2.1 b.4 in absurd (omega arith)

  many_large : (i j : ℕ) → IsLineVerdict (lv.TooManyEvents i) ts → IsLineVerdict (lv.TooLarge j) ts → ⊥
  many_large i j a b =
      let before : j + 1 ≤ i = at_most L F f_down i (j + 1) b.1 b.3 a.3 in
      let after : i ≤ j = at_most L Z z_down j i (l_down i (i + 1) (omega arith) a.1 a.1) a.2.1 b.4 in absurd (omega arith)

  pub line_unique : (a b : LineVerdict) → IsLineVerdict a ts → IsLineVerdict b ts → a ≡ b
  line_unique lv.Accepted lv.Accepted a b = refl
  line_unique lv.Accepted lv.Incomplete a b = absurd (b.1 a.0)
  line_unique lv.Accepted (lv.Bad j) a b = absurd (no_bad j (line_starts ts a.0) b)
  line_unique lv.Accepted (lv.TooManyEvents j) a b = absurd (no_many j (line_starts ts a.0) a.1.0 b)
  line_unique lv.Accepted (lv.TooLarge j) a b = absurd (no_large j (line_starts ts a.0) a.1.1 b)
  line_unique lv.Incomplete lv.Accepted a b = absurd (a.1 b.0)
  line_unique lv.Incomplete lv.Incomplete a b = refl
  line_unique lv.Incomplete (lv.Bad j) a b = absurd (no_bad j a.0 b)
  line_unique lv.Incomplete (lv.TooManyEvents j) a b = absurd (no_many j a.0 a.2.0 b)
  line_unique lv.Incomplete (lv.TooLarge j) a b = absurd (no_large j a.0 a.2.1 b)
  line_unique (lv.Bad i) lv.Accepted a b = absurd (no_bad i (line_starts ts b.0) a)
  line_unique (lv.Bad i) lv.Incomplete a b = absurd (no_bad i b.0 a)
  line_unique (lv.Bad i) (lv.Bad j) a b = ap lv.Bad (first L L l_down i j a.1 a.1 a.3 b.1 b.1 b.3)
  line_unique (lv.Bad i) (lv.TooManyEvents j) a b = absurd (bad_many i j a b)
  line_unique (lv.Bad i) (lv.TooLarge j) a b = absurd (bad_too_large i j a b)
  line_unique (lv.TooManyEvents i) lv.Accepted a b = absurd (no_many i (line_starts ts b.0) b.1.0 a)
  line_unique (lv.TooManyEvents i) lv.Incomplete a b = absurd (no_many i b.0 b.2.0 a)
  line_unique (lv.TooManyEvents i) (lv.Bad j) a b = absurd (bad_many j i b a)
  line_unique (lv.TooManyEvents i) (lv.TooManyEvents j) a b =
      ap lv.TooManyEvents (first L F f_down i j (l_down i (i + 1) (omega arith) a.1 a.1) a.2.0 a.3 (l_down j (j + 1) (omega arith) b.1 b.1) b.2.0 b.3)
  line_unique (lv.TooManyEvents i) (lv.TooLarge j) a b = absurd (many_large i j a b)
  line_unique (lv.TooLarge i) lv.Accepted a b = absurd (no_large i (line_starts ts b.0) b.1.1 a)
  line_unique (lv.TooLarge i) lv.Incomplete a b = absurd (no_large i b.0 b.2.1 a)
  line_unique (lv.TooLarge i) (lv.Bad j) a b = absurd (bad_too_large j i b a)
  line_unique (lv.TooLarge i) (lv.TooManyEvents j) a b = absurd (many_large j i b a)
  line_unique (lv.TooLarge i) (lv.TooLarge j) a b =
      ap lv.TooLarge (first L Z z_down i j (l_down i (i + 1) (omega arith) a.1 a.1) a.2.1 a.4 (l_down j (j + 1) (omega arith) b.1 b.1) b.2.1 b.4)
