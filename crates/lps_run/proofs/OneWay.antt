-- A stream is judged in one way.
use Rattle.std.proofs.Common.{◌≡◌, ℕ, suc, ◌+◌, true, false, List, [], ◌∷◌, ◌++◌, length, Option, Some, None, Result, Ok, Err, refl, sym, ap, subst, ◌∙◌, inl, inr, arith, append_assoc, append-nil, length-append}
use Rattle.std.specs.Prelude.{◌⊎◌}
use Rattle.std.specs.List.{list_all}
use Rattle.lps_terms.specs.declared.atom.Atom.{Atom}
use Rattle.lps_terms.specs.declared.batch_kind.BatchKind.{BatchKind}
use Rattle.lps_terms.specs.declared.text.Text.{Text}
use Rattle.lps_model.specs.declared.batch.Batch.{Batch}
use Rattle.lps_lex.proofs.Bytes.{both}
use Rattle.lps_batches.specs.LookAhead.{is_no_feed}
use Rattle.lps_batches.specs.declared.batch_bad.BatchBad.{BatchBad}
use Rattle.lps_batches.specs.Lines.{IsBatchLine, IsPassed}
use Rattle.lps_batches.proofs.Read.{one_reading}
use Rattle.lps_run.specs.Judged.{ArePassed, IsBatchOf, IsFaulty, IsFirstFaulty, IsSound, batch_fault, ended}
use Rattle.lps_run.specs.Judged as judged

-- ---- lines of the same bytes

abbrev head_of : List ℕ → ℕ
head_of [] = 0
head_of (byte ∷ bytes) = byte

abbrev tail_of : List ℕ → List ℕ
tail_of [] = []
tail_of (byte ∷ bytes) = bytes

-- a line ends at the first line feed
same_line : (line other rest left : List ℕ) → line ++ 10 ∷ rest ≡ other ++ 10 ∷ left → list_all is_no_feed line ≡ true → list_all is_no_feed other ≡ true → (line ≡ other) × (rest ≡ left)
same_line [] [] rest left e a b = (refl, ap tail_of e)
same_line [] (byte ∷ other) rest left e a b =
    let first = (both (is_no_feed byte) (list_all is_no_feed other) b).0 in
    let apart : false ≡ true = ap (λ bytes. is_no_feed (head_of bytes)) e ∙ first in absurd cc
same_line (byte ∷ line) [] rest left e a b =
    let first = (both (is_no_feed byte) (list_all is_no_feed line) a).0 in
    let apart : false ≡ true = ap (λ bytes. is_no_feed (head_of bytes)) (sym e) ∙ first in absurd cc
same_line (byte ∷ line) (next ∷ other) rest left e a b =
    let more = same_line line other rest left (ap tail_of e) (both (is_no_feed byte) (list_all is_no_feed line) a).1 (both (is_no_feed next) (list_all is_no_feed other) b).1 in
    ((λ i. ap head_of e i ∷ more.0 i), more.1)

-- ---- one line

-- a batch is passed over by nobody
passed_or_batch : (line : List ℕ) (batch : Batch) → IsPassed line → IsBatchLine line batch → ⊥
passed_or_batch line batch p b = let apart : true ≡ false = sym p.skipped ∙ b.kept in absurd cc

abbrev ok_batch : Result Batch BatchKind → Batch → Batch
ok_batch (Ok batch) other = batch
ok_batch (Err kind) other = other

one_batch : (line : List ℕ) (a b : Batch) → IsBatchLine line a → IsBatchLine line b → a ≡ b
one_batch line a b p q = ap (λ (r : Result Batch BatchKind). ok_batch r a) (one_reading line (Ok a) (Ok b) p.read q.read)

not_passed : (text : Text) (cycle : ℕ) (line : List ℕ) (kind : BatchKind) → IsFaulty text cycle line kind → IsPassed line → ⊥
not_passed text cycle line kind (inl bad) p = let apart : true ≡ false = sym p.skipped ∙ bad.kept p.is.short in absurd cc
not_passed text cycle line kind (inr m) p = passed_or_batch line m.batch p m.is

not_batch : (text : Text) (cycle : ℕ) (line : List ℕ) (kind : BatchKind) (batch : Batch) → IsFaulty text cycle line kind → IsBatchOf text cycle line batch → ⊥
not_batch text cycle line kind batch (inl bad) b = let apart = one_reading line (Err kind) (Ok batch) bad.read b.is.read in absurd cc
not_batch text cycle line kind batch (inr m) b =
    let same = one_batch line m.batch batch m.is b.is in
    let apart : Some kind ≡ None = sym m.fault ∙ ap (batch_fault text cycle) same ∙ b.fits in absurd cc

abbrev some_kind : Option BatchKind → BatchKind → BatchKind
some_kind None other = other
some_kind (Some kind) other = kind

abbrev err_kind : Result Batch BatchKind → BatchKind → BatchKind
err_kind (Ok batch) other = other
err_kind (Err kind) other = kind

one_fault : (text : Text) (cycle : ℕ) (line : List ℕ) (a b : BatchKind) → IsFaulty text cycle line a → IsFaulty text cycle line b → a ≡ b
one_fault text cycle line a b (inl p) (inl q) = ap (λ (r : Result Batch BatchKind). err_kind r a) (one_reading line (Err a) (Err b) p.read q.read)
one_fault text cycle line a b (inl p) (inr q) = let apart = one_reading line (Err a) (Ok q.batch) p.read q.is.read in absurd cc
one_fault text cycle line a b (inr p) (inl q) = let apart = one_reading line (Ok p.batch) (Err b) p.is.read q.read in absurd cc
one_fault text cycle line a b (inr p) (inr q) =
    let same = one_batch line p.batch q.batch p.is q.is in
    ap (λ (o : Option BatchKind). some_kind o a) (sym p.fault ∙ ap (batch_fault text cycle) same ∙ q.fault)

feedless : (text : Text) (cycle : ℕ) (line : List ℕ) (kind : BatchKind) → IsFaulty text cycle line kind → list_all is_no_feed line ≡ true
feedless text cycle line kind (inl bad) = bad.no_feed
feedless text cycle line kind (inr m) = m.is.is.no_feed

-- ---- whole lines

-- behind these batches and lines, what is left goes on with these lines, and then the other is left
pub record Longer (text : Text) (cycles : ℕ) (rest left : List ℕ) (batches more : List (List Atom)) (lines after : ℕ) : Type 0 where
  pub extra : List ℕ
  pub others : List (List Atom)
  pub are : ArePassed text lines (cycles + length batches) extra others after
  pub split : rest ≡ extra ++ left
  pub same : more ≡ batches ++ others

-- one more line on both sides
behind_batch : {text : Text} {cycles : ℕ} {rest left : List ℕ} {batches more : List (List Atom)} {lines after : ℕ} (a b : List Atom) → a ≡ b →
    Longer text (suc cycles) rest left batches more lines after → Longer text cycles rest left (a ∷ batches) (b ∷ more) lines after
behind_batch {text} {cycles} {rest} {left} {batches} {more} {lines} {after} a b e g = record {
  extra = g.extra;
  others = g.others;
  are = subst (λ n. ArePassed text lines n g.extra g.others after) (let same : suc cycles + length batches ≡ cycles + suc (length batches) = omega arith in same) g.are;
  split = g.split;
  same = λ i. sym e i ∷ g.same i;
}

-- of two fronts of the same bytes one goes on from the other
pub ahead : (text : Text) {lines cycles n m : ℕ} {front other : List ℕ} {bs cs : List (List Atom)} → ArePassed text lines cycles front bs n → ArePassed text lines cycles other cs m →
    (rest left : List ℕ) → front ++ rest ≡ other ++ left → Longer text cycles rest left bs cs n m ⊎ Longer text cycles left rest cs bs m n
ahead text {cycles = cycles} {m = m} {other = other} {cs = cs} (judged.none {lines = lines}) second rest left e =
    inl (record { extra = other; others = cs; are = subst (λ k. ArePassed text lines k other cs m) (let same : cycles ≡ cycles + 0 = omega arith in same) second; split = e; same = refl })
ahead text {cycles = cycles} {n = n} {front = front} {bs = bs} first (judged.none {lines = lines}) rest left e =
    inr (record { extra = front; others = bs; are = subst (λ k. ArePassed text lines k front bs n) (let same : cycles ≡ cycles + 0 = omega arith in same) first; split = sym e; same = refl })
ahead text (judged.passed {rest = r} line is more) (judged.passed {rest = t} next was others) rest left e =
    let same = same_line line next (r ++ rest) (t ++ left) (sym (append_assoc line (10 ∷ r) rest) ∙ e ∙ append_assoc next (10 ∷ t) left) is.is.no_feed was.is.no_feed in
    ahead text more others rest left same.1
ahead text (judged.passed {rest = r} line is more) (judged.batch {rest = t} next batch fits others) rest left e =
    let same = same_line line next (r ++ rest) (t ++ left) (sym (append_assoc line (10 ∷ r) rest) ∙ e ∙ append_assoc next (10 ∷ t) left) is.is.no_feed fits.is.is.no_feed in
    absurd (passed_or_batch next batch (subst IsPassed same.0 is) fits.is)
ahead text (judged.batch {rest = r} line batch fits more) (judged.passed {rest = t} next was others) rest left e =
    let same = same_line line next (r ++ rest) (t ++ left) (sym (append_assoc line (10 ∷ r) rest) ∙ e ∙ append_assoc next (10 ∷ t) left) fits.is.is.no_feed was.is.no_feed in
    absurd (passed_or_batch line batch (subst IsPassed (sym same.0) was) fits.is)
ahead text (judged.batch {rest = r} {batches = bs} line batch fits more) (judged.batch {rest = t} {batches = cs} next one also others) rest left e =
    let same = same_line line next (r ++ rest) (t ++ left) (sym (append_assoc line (10 ∷ r) rest) ∙ e ∙ append_assoc next (10 ∷ t) left) fits.is.is.no_feed also.is.is.no_feed in
    let batches : batch ≡ one = one_batch next batch one (subst (λ bytes. IsBatchLine bytes batch) same.0 fits.is) also.is in
    let events : batch.events ≡ one.events = ap (λ (b : Batch). b.events) batches in
    one_more (ahead text more others rest left same.1) events
  where
    one_more : {text : Text} {cycles : ℕ} {rest left : List ℕ} {bs cs : List (List Atom)} {n m : ℕ} {a b : List Atom} → Longer text (suc cycles) rest left bs cs n m ⊎ Longer text (suc cycles) left rest cs bs m n → a ≡ b →
        Longer text cycles rest left (a ∷ bs) (b ∷ cs) n m ⊎ Longer text cycles left rest (b ∷ cs) (a ∷ bs) m n
    one_more {a = a} {b = b} (inl g) e = inl (behind_batch a b e g)
    one_more {a = a} {b = b} (inr g) e = inr (behind_batch b a (sym e) g)

no_bytes : (line rest : List ℕ) → line ++ 10 ∷ rest ≡ [] → ⊥
no_bytes line rest e = let size : length (line ++ 10 ∷ rest) ≡ 0 = ap length e in absurd (omega (arith, size, length-append line (10 ∷ rest)))

none_passed : (text : Text) {lines cycles after : ℕ} {bytes : List ℕ} {batches : List (List Atom)} → ArePassed text lines cycles bytes batches after → bytes ≡ [] → (batches ≡ []) × (after ≡ lines)
none_passed text judged.none e = (refl, refl)
none_passed text (judged.passed {rest = rest} line is more) e = absurd (no_bytes line rest e)
none_passed text (judged.batch {rest = rest} line batch is more) e = absurd (no_bytes line rest e)

-- no line goes past a faulty one
stuck : (text : Text) {lines cycles after : ℕ} {extra : List ℕ} {others : List (List Atom)} → ArePassed text lines cycles extra others after → (line rest left : List ℕ) (kind : BatchKind) →
    line ++ 10 ∷ rest ≡ extra ++ left → IsFaulty text (suc cycles) line kind → extra ≡ []
stuck text judged.none line rest left kind e faulty = refl
stuck text {cycles = cycles} (judged.passed {rest = r} next is more) line rest left kind e faulty =
    let same = same_line line next rest (r ++ left) (e ∙ append_assoc next (10 ∷ r) left) (feedless text (suc cycles) line kind faulty) is.is.no_feed in
    absurd (not_passed text (suc cycles) line kind faulty (subst IsPassed (sym same.0) is))
stuck text {cycles = cycles} (judged.batch {rest = r} next batch fits more) line rest left kind e faulty =
    let same = same_line line next rest (r ++ left) (e ∙ append_assoc next (10 ∷ r) left) (feedless text (suc cycles) line kind faulty) fits.is.is.no_feed in
    absurd (not_batch text (suc cycles) line kind batch faulty (subst (λ bytes. IsBatchOf text (suc cycles) bytes batch) (sym same.0) fits))

-- ---- streams

pub whole_longer : (text : Text) (left : List ℕ) (a b : List (List Atom)) (n m : ℕ) → Longer text 0 [] left a b n m → (left ≡ []) × (b ≡ a)
whole_longer text left a b n m g =
    let sizes : length g.extra + length left ≡ 0 = sym (ap length g.split ∙ length-append g.extra left) in
    let none : g.extra ≡ [] = empty g.extra (omega (arith, sizes)) in
    (empty left (omega (arith, sizes)), g.same ∙ ap (λ bs. a ++ bs) (none_passed text g.are none).0 ∙ append-nil a)
  where
    empty : (bytes : List ℕ) → length bytes ≡ 0 → bytes ≡ []
    empty [] e = refl
    empty (byte ∷ bytes) e = absurd (omega (arith, e))

pub sound_one : (text : Text) (stream : List ℕ) (a b : List (List Atom)) → IsSound text stream a → IsSound text stream b → a ≡ b
sound_one text stream a b (n, p) (m, q) = by_order (ahead text p q [] [] refl) where
  by_order : Longer text 0 [] [] a b n m ⊎ Longer text 0 [] [] b a m n → a ≡ b
  by_order (inl g) = sym (whole_longer text [] a b n m g).1
  by_order (inr g) = (whole_longer text [] b a m n g).1

-- at the number of the next cycle
at_next : (text : Text) (batches : List (List Atom)) (line : List ℕ) (kind : BatchKind) → IsFaulty text (suc (length batches)) line kind → IsFaulty text (suc (0 + length batches)) line kind
at_next text batches line kind faulty = subst (λ n. IsFaulty text (suc n) line kind) (let same : length batches ≡ 0 + length batches = omega arith in same) faulty

pub sound_or_faulty : (text : Text) (stream : List ℕ) (a b : List (List Atom)) (faulty : BatchBad) → IsSound text stream a → IsFirstFaulty text stream b faulty → ⊥
sound_or_faulty text stream a b faulty (n, p) f = by_order (ahead text p f.next.are [] (f.line ++ 10 ∷ f.next.rest) (append-nil (ended stream) ∙ f.next.split)) where
  by_order : Longer text 0 [] (f.line ++ 10 ∷ f.next.rest) a b n f.lines ⊎ Longer text 0 (f.line ++ 10 ∷ f.next.rest) [] b a f.lines n → ⊥
  by_order (inl g) = no_bytes f.line f.next.rest (whole_longer text (f.line ++ 10 ∷ f.next.rest) a b n f.lines g).0
  by_order (inr g) =
      let none = stuck text g.are f.line f.next.rest [] faulty.kind g.split (at_next text b f.line faulty.kind f.is) in
      no_bytes f.line f.next.rest (g.split ∙ ap (λ bytes. bytes ++ []) none)

longer_one : (text : Text) (stream : List ℕ) (a b : List (List Atom)) (x y : BatchBad) (f : IsFirstFaulty text stream a x) (g : IsFirstFaulty text stream b y) →
    Longer text 0 (f.line ++ 10 ∷ f.next.rest) (g.line ++ 10 ∷ g.next.rest) a b f.lines g.lines → (a ≡ b) × (x ≡ y)
longer_one text stream a b x y f g more =
    let none = stuck text more.are f.line f.next.rest (g.line ++ 10 ∷ g.next.rest) x.kind more.split (at_next text a f.line x.kind f.is) in
    let same = none_passed text more.are none in
    let batches : a ≡ b = sym (more.same ∙ ap (λ bs. a ++ bs) same.0 ∙ append-nil a) in
    let line = same_line f.line g.line f.next.rest g.next.rest (more.split ∙ ap (λ bytes. bytes ++ (g.line ++ 10 ∷ g.next.rest)) none) (feedless text _ f.line x.kind f.is) (feedless text _ g.line y.kind g.is) in
    let moved : IsFaulty text (suc (length b)) g.line x.kind = subst (λ bytes. IsFaulty text (suc (length b)) bytes x.kind) line.0 (subst (λ (bs : List (List Atom)). IsFaulty text (suc (length bs)) f.line x.kind) batches f.is) in
    let kind : x.kind ≡ y.kind = one_fault text (suc (length b)) g.line x.kind y.kind moved g.is in
    let place : x.line ≡ y.line = f.place ∙ ap suc (sym same.1) ∙ sym g.place in
    (batches, λ i. record { line = place i; kind = kind i })

pub faulty_one : (text : Text) (stream : List ℕ) (a b : List (List Atom)) (x y : BatchBad) → IsFirstFaulty text stream a x → IsFirstFaulty text stream b y → (a ≡ b) × (x ≡ y)
faulty_one text stream a b x y f g = by_order (ahead text f.next.are g.next.are (f.line ++ 10 ∷ f.next.rest) (g.line ++ 10 ∷ g.next.rest) (sym f.next.split ∙ g.next.split)) where
  by_order : Longer text 0 (f.line ++ 10 ∷ f.next.rest) (g.line ++ 10 ∷ g.next.rest) a b f.lines g.lines ⊎ Longer text 0 (g.line ++ 10 ∷ g.next.rest) (f.line ++ 10 ∷ f.next.rest) b a g.lines f.lines →
      (a ≡ b) × (x ≡ y)
  by_order (inl more) = longer_one text stream a b x y f g more
  by_order (inr more) = let same = longer_one text stream b a y x g f more in (sym same.0, sym same.1)
