-- Counting, one token more; and what the counts say of what is spelled.
use Rattle.std.specs.Prelude.{ℕ, ◌≡◌, ◌+◌, ◌<◌, ◌≤◌, List, [], ◌∷◌, ◌++◌, Option, Some, None, All, refl, length, take}
use Rattle.std.proofs.Common.{◌∙◌, sym, ap, subst, get_or, arith}
use Rattle.std.proofs.lemmas.List.{take_more}
use Rattle.std.proofs.lemmas.List.Elements.{All-append, All-cons, All-nil, All-head, All-tail, All-take}
use Rattle.lps_grammar.specs.declared.tok.Tok.{Tok}
use Rattle.lps_syntax.specs.declared.frame.Frame.{Frame}
use Rattle.lps_syntax.specs.Runs.{run, step, taker, then_on}
use Rattle.lps_syntax.specs.Counts.{counts, count_step, counts_if, count_if}

-- ---- counting

module _ (after : Frame → ℕ → Tok → ℕ) where
  -- the phrase that takes the token counts it
  pub count_taken : (u : List Frame) (c : ℕ) (t : Tok) (a : Frame) (n : ℕ) → Some a ≡ taker u t → n ≡ after a c t → n ≡ count_step after u c t
  count_taken u c t a n is e = e ∙ ap (λ o. count_if o (λ b. after b c t)) is

  abbrev tally_if : Option (List Frame) → (List Frame → ℕ) → ℕ
  tally_if None go = 0
  tally_if (Some u) go = go u

  -- the count after all tokens
  abbrev pub tally : List Frame → ℕ → List Tok → ℕ
  tally s c [] = c
  tally s c (t ∷ ts) = tally_if (step s t) (λ u. tally u (count_step after s c t) ts)

  go_nil : (o : Option (List Frame)) → counts_if o (λ v. []) ≡ []
  go_nil None = refl
  go_nil (Some v) = refl

  counts_on : (o : Option (List Frame)) (d : ℕ) (ts : List Tok) (u : List Frame) (t : Tok) → then_on o (λ v. run v ts) ≡ Some u →
      ((v : List Frame) → run v ts ≡ Some u → counts after v d (ts ++ t ∷ []) ≡ counts after v d ts ++ count_step after u (tally v d ts) t ∷ []) →
      counts_if o (λ v. counts after v d (ts ++ t ∷ [])) ≡ counts_if o (λ v. counts after v d ts) ++ count_step after u (tally_if o (λ v. tally v d ts)) t ∷ []
  counts_on None d ts u t e ih = absurd cc
  counts_on (Some v) d ts u t e ih = ih v e

  counts_more : (ts : List Tok) (s : List Frame) (c : ℕ) (u : List Frame) (t : Tok) → run s ts ≡ Some u →
      counts after s c (ts ++ t ∷ []) ≡ counts after s c ts ++ count_step after u (tally s c ts) t ∷ []
  counts_more [] s c u t e = let same : s ≡ u = cc in
      ap (λ us. count_step after s c t ∷ us) (go_nil (step s t)) ∙ ap (λ v. count_step after v c t ∷ []) same
  counts_more (r ∷ ts) s c u t e = ap (λ us. count_step after s c r ∷ us)
      (counts_on (step s r) (count_step after s c r) ts u t e (λ v h. counts_more ts v (count_step after s c r) u t h))

  tally_on : (o : Option (List Frame)) (d : ℕ) (ts : List Tok) (u : List Frame) (t : Tok) → then_on o (λ v. run v ts) ≡ Some u →
      ((v : List Frame) → run v ts ≡ Some u → tally v d (ts ++ t ∷ []) ≡ count_step after u (tally v d ts) t) →
      tally_if o (λ v. tally v d (ts ++ t ∷ [])) ≡ count_step after u (tally_if o (λ v. tally v d ts)) t
  tally_on None d ts u t e ih = absurd cc
  tally_on (Some v) d ts u t e ih = ih v e

  tally_one : (o : Option (List Frame)) (w : List Frame) (n : ℕ) → o ≡ Some w → tally_if o (λ v. n) ≡ n
  tally_one None w n e = absurd cc
  tally_one (Some v) w n e = refl

  tally_more : (ts : List Tok) (s : List Frame) (c : ℕ) (u : List Frame) (t : Tok) (w : List Frame) → run s ts ≡ Some u → step u t ≡ Some w →
      tally s c (ts ++ t ∷ []) ≡ count_step after u (tally s c ts) t
  tally_more [] s c u t w e h = let same : s ≡ u = cc in
      tally_one (step s t) w (count_step after s c t) (ap (λ v. step v t) same ∙ h) ∙ ap (λ v. count_step after v c t) same
  tally_more (r ∷ ts) s c u t w e h = tally_on (step s r) (count_step after s c r) ts u t e (λ v j. tally_more ts v (count_step after s c r) u t w j h)

  front_on : (o : Option (List Frame)) (d : ℕ) (ts more : List Tok) (u : List Frame) → then_on o (λ v. run v ts) ≡ Some u →
      ((v : List Frame) → run v ts ≡ Some u → take (length ts) (counts after v d (ts ++ more)) ≡ counts after v d ts) →
      take (length ts) (counts_if o (λ v. counts after v d (ts ++ more))) ≡ counts_if o (λ v. counts after v d ts)
  front_on None d ts more u e ih = absurd cc
  front_on (Some v) d ts more u e ih = ih v e

  front : (ts : List Tok) (s : List Frame) (c : ℕ) (more : List Tok) (u : List Frame) → run s ts ≡ Some u →
      take (length ts) (counts after s c (ts ++ more)) ≡ counts after s c ts
  front [] s c more u e = refl
  front (t ∷ ts) s c more u e = ap (λ us. count_step after s c t ∷ us)
      (front_on (step s t) (count_step after s c t) ts more u e (λ v h. front ts v (count_step after s c t) more u h))

  -- the count so far, and that no count was past the limit
  pub record Within (limit : ℕ) (start : List Frame) (ts : List Tok) (c : ℕ) : Type 0 where
    pub is : c ≡ tally start 0 ts
    pub low : All (λ n. n ≤ limit) (counts after start 0 ts)

  pub within_none : (limit : ℕ) (start : List Frame) → Within limit start [] 0
  within_none limit start = record { is = refl; low = All-nil (λ n. n ≤ limit) }

  all_more : (limit : ℕ) (ns : List ℕ) (n : ℕ) → All (λ n. n ≤ limit) ns → n ≤ limit → All (λ n. n ≤ limit) (ns ++ n ∷ [])
  all_more limit ns n a h = All-append (λ n. n ≤ limit) ns (n ∷ []) a (All-cons (λ n. n ≤ limit) n [] h (All-nil (λ n. n ≤ limit)))

  not_more : (limit : ℕ) (ns : List ℕ) (n : ℕ) → limit < n → All (λ n. n ≤ limit) (ns ++ n ∷ []) → ⊥
  not_more limit [] n h a = let le : n ≤ limit = All-head (λ n. n ≤ limit) n [] a in absurd (omega arith)
  not_more limit (m ∷ ns) n h a = not_more limit ns n h (All-tail (λ n. n ≤ limit) m (ns ++ n ∷ []) a)

  module _ (limit : ℕ) (start : List Frame) (ts : List Tok) (i : ℕ) (t : Tok) (u v : List Frame) (c n : ℕ) (h : i < length ts) (is : t ≡ get_or ts i t)
      (there : run start (take i ts) ≡ Some u) (on : step u t ≡ Some v) (so_far : Within limit start (take i ts) c) (e : n ≡ count_step after u c t) where
    one : take (i + 1) ts ≡ take i ts ++ t ∷ []
    one = take_more ts i t h ∙ ap (λ x. take i ts ++ x ∷ []) (sym is)

    same : n ≡ count_step after u (tally start 0 (take i ts)) t
    same = e ∙ ap (λ m. count_step after u m t) so_far.is

    pub within_more : n ≤ limit → Within limit start (take (i + 1) ts) n
    within_more le = record {
      is = same ∙ sym (ap (tally start 0) one ∙ tally_more (take i ts) start 0 u t v there on);
      low = subst (All (λ n. n ≤ limit)) (sym (ap (counts after start 0) one ∙ counts_more (take i ts) start 0 u t there))
          (all_more limit (counts after start 0 (take i ts)) (count_step after u (tally start 0 (take i ts)) t) so_far.low (subst (λ m. m ≤ limit) same le));
    }

    pub past_limit : limit < n → All (λ n. n ≤ limit) (counts after start 0 (take (i + 1) ts)) → ⊥
    past_limit big all = not_more limit (counts after start 0 (take i ts)) (count_step after u (tally start 0 (take i ts)) t) (subst (λ m. limit < m) same big)
        (subst (All (λ n. n ≤ limit)) (ap (counts after start 0) one ∙ counts_more (take i ts) start 0 u t there) all)

  -- the counts while running are the numbers on the tree
  module _ (X : Type 0) (spell : X → List Tok) (numbers : X → List ℕ) (start : List Frame) (limit : ℕ) (agree : (x : X) → counts after start 0 (spell x) ≡ numbers x) where
    abbrev Spells : List Tok → Type 0
    Spells ts = (x : X) × (ts ≡ spell x)

    abbrev Fits : List Tok → Type 0
    Fits ts = (x : X) (more : List Tok) → ts ++ more ≡ spell x → All (λ n. n ≤ limit) (take (length ts) (numbers x))

    numbers_front : (ts : List Tok) (u : List Frame) → run start ts ≡ Some u → (x : X) (more : List Tok) → ts ++ more ≡ spell x → take (length ts) (numbers x) ≡ counts after start 0 ts
    numbers_front ts u e x more h = ap (take (length ts)) (sym (agree x) ∙ ap (counts after start 0) (sym h)) ∙ front ts start 0 more u e

    pub fits : (ts : List Tok) (u : List Frame) → run start ts ≡ Some u → All (λ n. n ≤ limit) (counts after start 0 ts) → Fits ts
    fits ts u e all x more h = subst (All (λ n. n ≤ limit)) (sym (numbers_front ts u e x more h)) all

    pub fits_not : (ts : List Tok) (u : List Frame) → run start ts ≡ Some u → (more : List Tok) × Spells (ts ++ more) →
        (All (λ n. n ≤ limit) (counts after start 0 ts) → ⊥) → Fits ts → ⊥
    fits_not ts u e b never fit = never (subst (All (λ n. n ≤ limit)) (numbers_front ts u e b.1.0 b.0 b.1.1) (fit b.1.0 b.0 b.1.1))

    -- what keeps the limit kept it before
    pub fits_before : (ts more : List Tok) (u v : List Frame) → run start ts ≡ Some u → run start (ts ++ more) ≡ Some v → (rest : List Tok) × Spells ((ts ++ more) ++ rest) →
        Fits (ts ++ more) → Fits ts
    fits_before ts more u v e d b fit =
        let all : All (λ n. n ≤ limit) (counts after start 0 (ts ++ more)) =
        subst (All (λ n. n ≤ limit)) (numbers_front (ts ++ more) v d b.1.0 b.0 b.1.1) (fit b.1.0 b.0 b.1.1) in
        fits ts u e (subst (All (λ n. n ≤ limit)) (front ts start 0 more u e) (All-take (λ n. n ≤ limit) (length ts) (counts after start 0 (ts ++ more)) all))
