-- A stream is read in one way: its first line is one, a line gives one thing, and so line by line.
use Rattle.std.specs.Prelude.{ℕ, suc, ◌≡◌, true, List, [], ◌∷◌, ◌++◌, Option, Some, None, Result, Ok, Err, refl}
use Rattle.std.specs.List.{list_all, take_while}
use Rattle.std.proofs.Common.{◌∙◌, ap, sym, subst, append-nil}
use Rattle.std.proofs.lemmas.List.{append_cancel_left}
use Rattle.lps_terms.specs.declared.batch_kind.BatchKind.{BatchKind}
use Rattle.lps_model.specs.declared.batch.Batch.{Batch}
use Rattle.lps_lex.specs.Forms.{Stops}
use Rattle.lps_lex.proofs.Runs.{run_is}
use Rattle.lps_batches.specs.LookAhead.{is_no_feed}
use Rattle.lps_batches.specs.declared.batch_bad.BatchBad.{BatchBad}
use Rattle.lps_batches.specs.Lines.{IsBadLine, IsBatchLine, IsLineRead, IsPassed}
use Rattle.lps_batches.specs.Readings.{AreRead}
use Rattle.lps_batches.specs.Readings as reads
use Rattle.lps_batches.proofs.Read.{one_reading}

-- ---- the first line

-- what stands behind a line: nothing, or its line feed and what follows that
abbrev tail_of : Option (List ℕ) → List ℕ
tail_of None = []
tail_of (Some rest) = 10 ∷ rest

stops : (rest : Option (List ℕ)) → Stops is_no_feed (tail_of rest)
stops None = tt
stops (Some rest) = refl

-- the first line of a stream, and what follows its line feed
record Begins (stream line : List ℕ) (rest : Option (List ℕ)) : Type 0 where
  pub no_feed : list_all is_no_feed line ≡ true
  pub split : stream ≡ line ++ tail_of rest

one_line : (stream a b : List ℕ) (more rest : Option (List ℕ)) → Begins stream a more → Begins stream b rest → a ≡ b
one_line stream a b more rest p q =
    sym (run_is is_no_feed a (tail_of more) p.no_feed (stops more)) ∙ ap (take_while is_no_feed) (sym p.split ∙ q.split) ∙ run_is is_no_feed b (tail_of rest) q.no_feed (stops rest)

one_tail : (more rest : Option (List ℕ)) → tail_of more ≡ tail_of rest → more ≡ rest
one_tail None None e = refl
one_tail None (Some rest) e = absurd cc
one_tail (Some more) None e = absurd cc
one_tail (Some more) (Some rest) e = cc

one_rest : (stream line : List ℕ) (more rest : Option (List ℕ)) → Begins stream line more → Begins stream line rest → more ≡ rest
one_rest stream line more rest p q = one_tail more rest (append_cancel_left line (tail_of more) (tail_of rest) (sym p.split ∙ q.split))

-- ---- what a line gives

-- nothing where it is passed over, or a batch, or why it is bad
abbrev Gives : List ℕ → Option (Result Batch BatchKind) → Type 0
Gives line None = IsPassed line
Gives line (Some (Ok batch)) = IsBatchLine line batch
Gives line (Some (Err kind)) = IsBadLine line kind

read_of : (line : List ℕ) (found : Result Batch BatchKind) → Gives line (Some found) → IsLineRead line found
read_of line (Ok batch) gives = gives.read
read_of line (Err kind) gives = gives.read

passed_apart : (line : List ℕ) (found : Result Batch BatchKind) → IsPassed line → Gives line (Some found) → ⊥
passed_apart line (Ok batch) passed gives = let both = sym passed.skipped ∙ gives.kept in absurd cc
passed_apart line (Err kind) passed gives = let both = sym passed.skipped ∙ gives.kept passed.is.short in absurd cc

one_gift : (line : List ℕ) (a b : Option (Result Batch BatchKind)) → Gives line a → Gives line b → a ≡ b
one_gift line None None p q = refl
one_gift line None (Some b) p q = absurd (passed_apart line b p q)
one_gift line (Some a) None p q = absurd (passed_apart line a q p)
one_gift line (Some a) (Some b) p q = ap Some (one_reading line a b (read_of line a p) (read_of line b q))

-- ---- the whole stream

-- what follows from the first line's gift
abbrev Goes : ℕ → Option (List ℕ) → Option (Result Batch BatchKind) → List Batch → Option BatchBad → Type 0
Goes before (Some rest) None batches bad = AreRead (suc before) rest batches bad
Goes before None None batches bad = (batches ≡ []) × (bad ≡ None)
Goes before (Some rest) (Some (Ok batch)) batches bad = (later : List Batch) × (batches ≡ batch ∷ later) × AreRead (suc before) rest later bad
Goes before None (Some (Ok batch)) batches bad = (batches ≡ batch ∷ []) × (bad ≡ None)
Goes before rest (Some (Err kind)) batches bad = (batches ≡ []) × (bad ≡ Some (record { line = suc before; kind = kind }))

record First (before : ℕ) (stream : List ℕ) (batches : List Batch) (bad : Option BatchBad) : Type 0 where
  pub line : List ℕ
  pub rest : Option (List ℕ)
  pub gift : Option (Result Batch BatchKind)
  pub begins : Begins stream line rest
  pub gives : Gives line gift
  pub goes : Goes before rest gift batches bad

whole : (stream line rest : List ℕ) → list_all is_no_feed line ≡ true → stream ≡ line ++ 10 ∷ rest → Begins stream line (Some rest)
whole stream line rest no_feed split = record { no_feed = no_feed; split = split }

last : (line : List ℕ) → list_all is_no_feed line ≡ true → Begins line line None
last line no_feed = record { no_feed = no_feed; split = sym (append-nil line) }

first : {before : ℕ} {stream : List ℕ} {batches : List Batch} {bad : Option BatchBad} → AreRead before stream batches bad → First before stream batches bad
first (reads.passed line rest split is more) = record { line = line; rest = Some rest; gift = None; begins = whole _ line rest is.is.no_feed split; gives = is; goes = more }
first (reads.batch {batches = batches} line rest batch split is more) =
    record { line = line; rest = Some rest; gift = Some (Ok batch); begins = whole _ line rest is.is.no_feed split; gives = is; goes = (batches, refl, more) }
first (reads.bad line rest kind split is) = record { line = line; rest = Some rest; gift = Some (Err kind); begins = whole _ line rest is.no_feed split; gives = is; goes = (refl, refl) }
first (reads.last_passed {line = line} is) = record { line = line; rest = None; gift = None; begins = last line is.is.no_feed; gives = is; goes = (refl, refl) }
first (reads.last_batch {line = line} batch is) = record { line = line; rest = None; gift = Some (Ok batch); begins = last line is.is.no_feed; gives = is; goes = (refl, refl) }
first (reads.last_bad {line = line} kind is) = record { line = line; rest = None; gift = Some (Err kind); begins = last line is.no_feed; gives = is; goes = (refl, refl) }

-- the first line is this one, so what follows is what follows from it
goes_on : (before : ℕ) (stream line : List ℕ) (rest : Option (List ℕ)) (gift : Option (Result Batch BatchKind)) (batches : List Batch) (bad : Option BatchBad) →
    Begins stream line rest → Gives line gift → AreRead before stream batches bad → Goes before rest gift batches bad
goes_on before stream line rest gift batches bad begins gives read = by_first (first read) where
  by_first : First before stream batches bad → Goes before rest gift batches bad
  by_first f =
      let same_line : f.line ≡ line = one_line stream f.line line f.rest rest f.begins begins in
      let same_rest : f.rest ≡ rest = one_rest stream line f.rest rest (subst (λ l. Begins stream l f.rest) same_line f.begins) begins in
      let same_gift : f.gift ≡ gift = one_gift line f.gift gift (subst (λ l. Gives l f.gift) same_line f.gives) gives in
      subst (λ r. Goes before r gift batches bad) same_rest (subst (λ g. Goes before f.rest g batches bad) same_gift f.goes)

-- both are the same
abbrev Same : List Batch → List Batch → Option BatchBad → Option BatchBad → Type 0
Same a b c d = (a ≡ b) × (c ≡ d)

pub read_once : {before : ℕ} {stream : List ℕ} {a : List Batch} {c : Option BatchBad} (b : List Batch) (d : Option BatchBad) → AreRead before stream a c → AreRead before stream b d → Same a b c d
read_once {before} {stream} b d (reads.passed line rest split is more) other =
    read_once b d more (goes_on before stream line (Some rest) None b d (whole stream line rest is.is.no_feed split) is other)
read_once {before} {stream} b d (reads.batch line rest batch split is more) other =
    let on = goes_on before stream line (Some rest) (Some (Ok batch)) b d (whole stream line rest is.is.no_feed split) is other in
    let same = read_once on.0 d more on.2 in
    (ap (λ later. batch ∷ later) same.0 ∙ sym on.1, same.1)
read_once {before} {stream} b d (reads.bad line rest kind split is) other =
    let on = goes_on before stream line (Some rest) (Some (Err kind)) b d (whole stream line rest is.no_feed split) is other in (sym on.0, sym on.1)
read_once {before} {stream} b d (reads.last_passed is) other =
    let on = goes_on before stream stream None None b d (last stream is.is.no_feed) is other in (sym on.0, sym on.1)
read_once {before} {stream} b d (reads.last_batch batch is) other =
    let on = goes_on before stream stream None (Some (Ok batch)) b d (last stream is.is.no_feed) is other in (sym on.0, sym on.1)
read_once {before} {stream} b d (reads.last_bad kind is) other =
    let on = goes_on before stream stream None (Some (Err kind)) b d (last stream is.no_feed) is other in (sym on.0, sym on.1)
