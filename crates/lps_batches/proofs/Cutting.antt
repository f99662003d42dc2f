-- Whatever calls led to a reader, the batches that it gave and what it has left make up the stream.
use Rattle.std.specs.Prelude.{ℕ, ◌≡◌, ◌+◌, ◌⊎◌, List, [], ◌∷◌, ◌++◌, Option, Some, None, Ok, Err, refl}
use Rattle.std.proofs.Common.{◌∙◌, ap, sym, subst, arith, append_assoc, append-nil, inl, inr}
use Rattle.lps_model.specs.declared.batch.Batch.{Batch}
use Rattle.lps_batches.specs.declared.batch_bad.BatchBad.{BatchBad}
use Rattle.lps_batches.specs.Readings.{AreRead, Ended, History}
use Rattle.lps_batches.specs.Readings as reads
use Rattle.lps_batches.specs.Stream.{Finish, MeetsBad, MetBefore, Next, NothingWhole, Reader, TakesBatch}
use Rattle.lps_batches.proofs.OneWay.{read_once}
use Rattle.lps_batches.proofs.Steps.{read_bad, read_bad_last, read_batch, read_last, read_none_left, read_nothing}

-- ---- while the stream may go on

-- whatever follows, the stream holds these batches and then what is left and follows holds, or the bad line that was met
abbrev pub MakesUp : Option BatchBad → ℕ → List ℕ → List ℕ → List Batch → Type 0
MakesUp None lines left stream batches =
    (more : List ℕ) (later : List Batch) (bad : Option BatchBad) → AreRead lines (left ++ more) later bad → AreRead 0 (stream ++ more) (batches ++ later) bad
MakesUp (Some bad) lines left stream batches = (more : List ℕ) → AreRead 0 (stream ++ more) batches (Some bad)

abbrev pub Makes : List ℕ → List Batch → Reader → Type 0
Makes stream batches reader = MakesUp reader.bad reader.lines reader.left stream batches

makes_fed : (bad : Option BatchBad) (lines : ℕ) (left stream piece : List ℕ) (batches : List Batch) → MakesUp bad lines left stream batches → MakesUp bad lines (left ++ piece) (stream ++ piece) batches
makes_fed None lines left stream piece batches makes =
    λ more later bad read. subst (λ bytes. AreRead 0 bytes (batches ++ later) bad) (sym (append_assoc stream piece more))
    (makes (piece ++ more) later bad (subst (λ bytes. AreRead lines bytes later bad) (append_assoc left piece more) read))
makes_fed (Some bad) lines left stream piece batches makes =
    λ more. subst (λ bytes. AreRead 0 bytes batches (Some bad)) (sym (append_assoc stream piece more)) (makes (piece ++ more))

module _ (stream : List ℕ) (batches : List Batch) (old new : Reader) (makes : Makes stream batches old) where
  -- as a reader that met no bad line
  fine : old.bad ≡ None → MakesUp None old.lines old.left stream batches
  fine e = subst (λ bad. MakesUp bad old.lines old.left stream batches) e makes

  makes_nothing : NothingWhole old new → Makes stream batches new
  makes_nothing is =
      subst (λ bad. MakesUp bad new.lines new.left stream batches) (sym is.fine)
      (λ more later bad read. fine is.ahead.fine more later bad (read_nothing old new more later bad is read))

  pub makes_batch : (batch : Batch) → TakesBatch old batch new → Makes stream (batches ++ batch ∷ []) new
  makes_batch batch is =
      subst (λ bad. MakesUp bad new.lines new.left stream (batches ++ batch ∷ [])) (sym is.fine)
      (λ more later bad read. subst (λ all. AreRead 0 (stream ++ more) all bad) (sym (append_assoc batches (batch ∷ []) later))
      (fine is.ahead.fine more (batch ∷ later) bad (read_batch old new more batch later bad is read)))

  -- the bad line is what the stream holds next
  makes_bad : (bad : BatchBad) → MetBefore old bad new ⊎ MeetsBad old bad new → (more : List ℕ) → AreRead 0 (stream ++ more) batches (Some bad)
  makes_bad bad (inl (before, same)) = subst (λ met. MakesUp met old.lines old.left stream batches) before makes
  makes_bad bad (inr is) =
      λ more. subst (λ all. AreRead 0 (stream ++ more) all (Some bad)) (append-nil batches) (fine is.ahead.fine more [] (Some bad) (read_bad old new more bad is))

  bad_is : (bad : BatchBad) → MetBefore old bad new ⊎ MeetsBad old bad new → new.bad ≡ Some bad
  bad_is bad (inl (before, same)) = ap (λ (reader : Reader). reader.bad) same ∙ before
  bad_is bad (inr is) = ap (λ (reader : Reader). reader.bad) is.same

  makes_refused : (bad : BatchBad) → MetBefore old bad new ⊎ MeetsBad old bad new → Makes stream batches new
  makes_refused bad is = subst (λ met. MakesUp met new.lines new.left stream batches) (sym (bad_is bad is)) (makes_bad bad is)

makes_up : {stream : List ℕ} {batches : List Batch} {reader : Reader} → History stream batches reader → Makes stream batches reader
makes_up reads.begins = λ more later bad read. read
makes_up (reads.fed {stream = stream} {batches = batches} {reader = reader} piece before) = makes_fed reader.bad reader.lines reader.left stream piece batches (makes_up before)
makes_up (reads.taken {stream = stream} {batches = batches} {old = old} {new = new} batch before next) = makes_batch stream batches old new (makes_up before) batch next
makes_up (reads.nothing {stream = stream} {batches = batches} {old = old} {new = new} before next) = makes_nothing stream batches old new (makes_up before) next
makes_up (reads.refused {stream = stream} {batches = batches} {old = old} {new = new} bad before next) = makes_refused stream batches old new (makes_up before) bad next

pub early_bad : (stream more : List ℕ) (batches : List Batch) (old new : Reader) (bad : BatchBad) → History stream batches old → Next old (Some (Err bad)) new → AreRead 0 (stream ++ more) batches (Some bad)
early_bad stream more batches old new bad before next = makes_bad stream batches old new (makes_up before) bad next more

-- ---- where the stream has ended

abbrev EndsUp : Option BatchBad → ℕ → List ℕ → List ℕ → List Batch → Type 0
EndsUp None lines left stream batches = (later : List Batch) (bad : Option BatchBad) → AreRead lines left later bad → AreRead 0 stream (batches ++ later) bad
EndsUp (Some bad) lines left stream batches = AreRead 0 stream batches (Some bad)

abbrev Ends : List ℕ → List Batch → Reader → Type 0
Ends stream batches reader = EndsUp reader.bad reader.lines reader.left stream batches

ends_of : (bad : Option BatchBad) (lines : ℕ) (left stream : List ℕ) (batches : List Batch) → MakesUp bad lines left stream batches → EndsUp bad lines left stream batches
ends_of None lines left stream batches makes =
    λ later bad read. subst (λ bytes. AreRead 0 bytes (batches ++ later) bad) (append-nil stream) (makes [] later bad (subst (λ bytes. AreRead lines bytes later bad) (sym (append-nil left)) read))
ends_of (Some bad) lines left stream batches makes = subst (λ bytes. AreRead 0 bytes batches (Some bad)) (append-nil stream) (makes [])

-- nothing more is read of nothing
nothing_more : (lines : ℕ) (later : List Batch) (bad : Option BatchBad) → AreRead lines [] later bad → (later ≡ []) × (bad ≡ None)
nothing_more lines later bad read = read_once [] None read (reads.last_passed (record { is = record { no_feed = refl; short = omega arith }; skipped = refl }))

module _ (stream : List ℕ) (batches : List Batch) (old new : Reader) (ends : Ends stream batches old) where
  all_of : old.bad ≡ None → EndsUp None old.lines old.left stream batches
  all_of e = subst (λ bad. EndsUp bad old.lines old.left stream batches) e ends

  -- a reader that has nothing left has given all
  emptied : (lines : ℕ) (given : List Batch) → AreRead 0 stream given None → new ≡ record { left = []; lines = lines; bad = None } → Ends stream given new
  emptied lines given read same =
      subst (Ends stream given) (sym same) (λ later bad none.
      let parts = nothing_more lines later bad none in
      subst (λ b. AreRead 0 stream (given ++ later) b) (sym parts.1) (subst (λ all. AreRead 0 stream all None) (sym (ap (λ more. given ++ more) parts.0 ∙ append-nil given)) read))

  pub ends_none : Finish old None new → AreRead 0 stream batches None
  ends_none is = subst (λ all. AreRead 0 stream all None) (append-nil batches) (all_of is.ahead.fine [] None (read_none_left old new is))

  ends_nothing : Finish old None new → Ends stream batches new
  ends_nothing is = emptied (old.lines + is.passed) batches (ends_none is) is.same

  ends_taken : (batch : Batch) → Finish old (Some (Ok batch)) new → Ends stream (batches ++ batch ∷ []) new
  ends_taken batch (inl is) =
      subst (λ bad. EndsUp bad new.lines new.left stream (batches ++ batch ∷ [])) (sym is.fine)
      (λ later bad read. subst (λ all. AreRead 0 stream all bad) (sym (append_assoc batches (batch ∷ []) later))
      (all_of is.ahead.fine (batch ∷ later) bad (subst (λ bytes. AreRead old.lines bytes (batch ∷ later) bad) (append-nil old.left)
      (read_batch old new [] batch later bad is (subst (λ bytes. AreRead new.lines bytes later bad) (sym (append-nil new.left)) read)))))
  ends_taken batch (inr is) = emptied (old.lines + is.passed + 1) (batches ++ batch ∷ []) (all_of is.ahead.fine (batch ∷ []) None (read_last old new batch is)) is.same

  pub ends_bad : (bad : BatchBad) → Finish old (Some (Err bad)) new → AreRead 0 stream batches (Some bad)
  ends_bad bad (inl (inl (before, same))) = subst (λ met. EndsUp met old.lines old.left stream batches) before ends
  ends_bad bad (inl (inr is)) =
      subst (λ all. AreRead 0 stream all (Some bad)) (append-nil batches)
      (all_of is.ahead.fine [] (Some bad) (subst (λ bytes. AreRead old.lines bytes [] (Some bad)) (append-nil old.left) (read_bad old new [] bad is)))
  ends_bad bad (inr is) = subst (λ all. AreRead 0 stream all (Some bad)) (append-nil batches) (all_of is.ahead.fine [] (Some bad) (read_bad_last old new bad is))

  end_bad_is : (bad : BatchBad) → Finish old (Some (Err bad)) new → new.bad ≡ Some bad
  end_bad_is bad (inl (inl (before, same))) = ap (λ (reader : Reader). reader.bad) same ∙ before
  end_bad_is bad (inl (inr is)) = ap (λ (reader : Reader). reader.bad) is.same
  end_bad_is bad (inr is) = ap (λ (reader : Reader). reader.bad) is.same

  ends_refused : (bad : BatchBad) → Finish old (Some (Err bad)) new → Ends stream batches new
  ends_refused bad is = subst (λ met. EndsUp met new.lines new.left stream batches) (sym (end_bad_is bad is)) (ends_bad bad is)

ends_up : {stream : List ℕ} {batches : List Batch} {reader : Reader} → Ended stream batches reader → Ends stream batches reader
ends_up (reads.ends {stream = stream} {batches = batches} {reader = reader} before) = ends_of reader.bad reader.lines reader.left stream batches (makes_up before)
ends_up (reads.Ended.taken {stream = stream} {batches = batches} {old = old} {new = new} batch before finish) = ends_taken stream batches old new (ends_up before) batch finish
ends_up (reads.Ended.nothing {stream = stream} {batches = batches} {old = old} {new = new} before finish) = ends_nothing stream batches old new (ends_up before) finish
ends_up (reads.Ended.refused {stream = stream} {batches = batches} {old = old} {new = new} bad before finish) = ends_refused stream batches old new (ends_up before) bad finish

pub end_bad : (stream : List ℕ) (batches : List Batch) (old new : Reader) (bad : BatchBad) → Ended stream batches old → Finish old (Some (Err bad)) new → AreRead 0 stream batches (Some bad)
end_bad stream batches old new bad before finish = ends_bad stream batches old new (ends_up before) bad finish

pub end_none : (stream : List ℕ) (batches : List Batch) (old new : Reader) → Ended stream batches old → Finish old None new → AreRead 0 stream batches None
end_none stream batches old new before finish = ends_none stream batches old new (ends_up before) finish
