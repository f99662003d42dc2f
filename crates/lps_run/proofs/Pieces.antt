-- Reads of the stream.
use Rattle.std.proofs.Common.{◌≡◌, ℕ, ◌+◌, ◌-◌, ◌<◌, ◌≤◌, ◌^◌, List, [], ◌∷◌, ◌++◌, length, take, Option, Some, Result, Ok, Err, refl, sym, ap, subst, ◌∙◌, arith, append_assoc, length-append, OnOk}
use Rattle.std.proofs.lemmas.List.{append_cancel_right, length-take}
use Rattle.lps_outside.specs.Bytes.{Stream, Takes}
use Rattle.lps_run.specs.declared.stream.Running.{Running}
use Rattle.lps_run.specs.declared.stop.Stop.{Stop}
use Rattle.lps_run.specs.declared.stop.Stop.TheVariants.{NoMemory, Refused, CycleLimit, Full, StreamLimit, EventFault, PrintFault}
use Rattle.lps_run.specs.Judged.{ended}
use Rattle.lps_run.specs.Stopping.{EndsAtRead, Stopped, StopsAtLine, LimitIs, TakesWithin, KeepsLimit}
use Rattle.lps_run.specs.Running.{Standing, Reading}
use Rattle.lps_run.proofs.Steps.{made_prints}

-- a read ended the run
read_ends : (running : Running) (stream start last rest : List ℕ) (printed : Option (List ℕ)) (before after : Option Stream) (r : Reading running stream start printed before) → r.last.left ≡ last ++ rest →
    after ≡ Some (record { left = rest; took = length last }) → EndsAtRead running.engine.text stream start printed after last
read_ends running stream start last rest printed before after r left known =
    let made = r.standing.made in
    let part = running.reader.left in
    let split : stream ++ 10 ∷ [] ≡ ((made.taken ++ part) ++ (last ++ rest)) ++ 10 ∷ [] =
    made.split ∙ ap (λ (bs : List ℕ). made.taken ++ (part ++ (bs ++ 10 ∷ []))) left
    ∙ sym (append_assoc made.taken part ((last ++ rest) ++ 10 ∷ [])) ∙ sym (append_assoc (made.taken ++ part) (last ++ rest) (10 ∷ [])) in
    record {
      whole = made.taken;
      part = part;
      rest = rest;
      split = append_cancel_right stream ((made.taken ++ part) ++ (last ++ rest)) (10 ∷ []) split;
      known = known;
      batches = made.batches;
      lines = running.reader.lines;
      are = made.are;
      unended = r.part;
      prints = made_prints made start printed r.standing.told;
    }

-- a read that failed ends the run
pub read_failed : (running : Running) (stream start : List ℕ) (printed : Option (List ℕ)) (before after : Option Stream) → Reading running stream start printed before →
    ((last : Stream) → before ≡ Some last → after ≡ Some (record { left = last.left; took = 0 })) → Stopped running.engine.text stream start printed after EventFault
read_failed running stream start printed before after r none = read_ends running stream start [] r.last.left printed before after r refl (none r.last r.known)

-- a read that passed the limit
pub limit_passed : (running : Running) (count room : ℕ) (stream start into : List ℕ) (printed : Option (List ℕ)) (before after : Option Stream) → Reading running stream start printed before →
    count ≤ length into → ((last : Stream) → before ≡ Some last → Takes last count room into after) → Stopped running.engine.text stream start printed after StreamLimit
limit_passed running count room stream start into printed before after r within takes =
    let t = takes r.last r.known in
    let size : count ≡ length (take count into) = omega (arith, length-take count into) in
    (take count into, read_ends running stream start (take count into) t.rest printed before after r t.whole (t.told ∙ ap (λ n. Some (record { left = t.rest; took = n })) size))

-- the piece that was read stands before what is left
pub piece_read : (running : Running) (count room : ℕ) (stream start into piece : List ℕ) (printed : Option (List ℕ)) (before after : Option Stream) → Reading running stream start printed before →
    ((last : Stream) → before ≡ Some last → Takes last count room into after) → piece ≡ take count into →
    (rest : List ℕ) × (after ≡ Some (record { left = rest; took = count })) × Standing running stream (piece ++ ended rest) start printed
piece_read running count room stream start into piece printed before after r takes piece_is =
    let t = takes r.last r.known in (
      t.rest,
      t.told,
      subst (λ (bs : List ℕ). Standing running stream bs start printed)
          (ap ended (t.whole ∙ ap (λ (bs : List ℕ). bs ++ t.rest) (sym piece_is)) ∙ append_assoc piece t.rest (10 ∷ [])) r.standing,
    )

-- ---- the limit

line_keeps : (taken before after : ℕ) (stop : Stop) → StopsAtLine stop → taken + before ≤ 2 ^ 36 + after → LimitIs {T = ℕ} taken before after (Err stop)
line_keeps taken before after NoMemory kind h = h
line_keeps taken before after (Refused line) kind h = h
line_keeps taken before after CycleLimit kind h = h
line_keeps taken before after (Full full) kind h = h
line_keeps taken before after PrintFault kind h = h
line_keeps taken before after StreamLimit kind h = absurd kind
line_keeps taken before after EventFault kind h = absurd kind

size_taken : (before : Stream) (count room : ℕ) (into : List ℕ) (after : Option Stream) → count ≤ length into → (t : Takes before count room into after) → length before.left ≡ count + length t.rest
size_taken before count room into after within t = omega (arith, ap length t.whole ∙ length-append (take count into) t.rest, length-take count into)

pub within_failed : (taken : ℕ) (before : Stream) (source : Option Stream) → taken ≤ 2 ^ 36 → source ≡ Some (record { left = before.left; took = 0 }) → TakesWithin taken before (Err EventFault) source
within_failed taken before source small known = record { after = record { left = before.left; took = 0 }; known = known; limit = omega arith; count = tt }

pub within_passed : (taken count room : ℕ) (before : Stream) (into : List ℕ) (source : Option Stream) → count ≤ length into → Takes before count room into source → 2 ^ 36 - taken < count →
    TakesWithin taken before (Err StreamLimit) source
within_passed taken count room before into source within t many =
    let size = size_taken before count room into source within t in
    record { after = record { left = t.rest; took = count }; known = t.told; limit = omega arith; count = tt }

pub within_line : (taken count room : ℕ) (before : Stream) (into : List ℕ) (source : Option Stream) (stop : Stop) → count ≤ length into → Takes before count room into source → taken ≤ 2 ^ 36 → count ≤ 2 ^ 36 - taken →
    StopsAtLine stop → TakesWithin taken before (Err stop) source
within_line taken count room before into source stop within t small few kind =
    let size = size_taken before count room into source within t in
    record { after = record { left = t.rest; took = count }; known = t.told; limit = line_keeps taken (length before.left) (length t.rest) stop kind (omega arith); count = tt }

pub within_read : (taken count room : ℕ) (before : Stream) (into : List ℕ) (source : Option Stream) → count ≤ length into → Takes before count room into source → taken ≤ 2 ^ 36 → count ≤ 2 ^ 36 - taken → 0 < room →
    TakesWithin taken before (Ok count) source
within_read taken count room before into source within t small few some =
    let size = size_taken before count room into source within t in
    record { after = record { left = t.rest; took = count }; known = t.told; limit = omega arith; count = (size, λ none. ap length (t.ended some none)) }

-- what the whole run says of the limit, from what its last read says
shifted : (taken before now after : ℕ) (stop : Stop) → before ≡ taken + now → LimitIs {T = ℕ} taken now after (Err stop) → LimitIs {T = Unit {0}} 0 before after (Err stop)
shifted taken before now after NoMemory e h = omega arith
shifted taken before now after (Refused line) e h = omega arith
shifted taken before now after CycleLimit e h = omega arith
shifted taken before now after (Full full) e h = omega arith
shifted taken before now after PrintFault e h = omega arith
shifted taken before now after StreamLimit e h = omega arith
shifted taken before now after EventFault e h = omega arith

pub keeps_stopped : (taken : ℕ) (before now : Stream) (stop : Stop) (source : Option Stream) → length before.left ≡ taken + length now.left → TakesWithin taken now (Err stop) source → KeepsLimit {T = Unit {0}} before (Err stop) source
keeps_stopped taken before now stop source size t = record { after = t.after; known = t.known; limit = shifted taken (length before.left) (length now.left) (length t.after.left) stop size t.limit }

line_result : {T : Type 0} (before after : ℕ) (result : Result T Stop) → ((stop : Stop) → result ≡ Err stop → StopsAtLine stop) → before ≤ 2 ^ 36 + after → LimitIs 0 before after result
line_result before after (Ok x) kind h = omega arith
line_result before after (Err NoMemory) kind h = omega arith
line_result before after (Err (Refused line)) kind h = omega arith
line_result before after (Err CycleLimit) kind h = omega arith
line_result before after (Err (Full full)) kind h = omega arith
line_result before after (Err PrintFault) kind h = omega arith
line_result before after (Err StreamLimit) kind h = absurd (kind StreamLimit refl)
line_result before after (Err EventFault) kind h = absurd (kind EventFault refl)

pub keeps_line : {T : Type 0} (before after : Stream) (result : Result T Stop) (source : Option Stream) → source ≡ Some after → ((stop : Stop) → result ≡ Err stop → StopsAtLine stop) →
    length before.left ≤ 2 ^ 36 + length after.left → KeepsLimit before result source
keeps_line before after result source known kind h = record { after = after; known = known; limit = line_result (length before.left) (length after.left) result kind h }

pub in_any : {T E P : Type 0} (result : Result T E) → P → OnOk result P
in_any (Ok x) p = p
in_any (Err e) p = tt
