-- From one line of a stream to the next, and to its end.
use Rattle.std.proofs.Common.{◌≡◌, ℕ, suc, ◌+◌, List, [], ◌∷◌, ◌++◌, length, Option, Some, None, Result, Ok, Err, refl, sym, ap, subst, ◌∙◌, inl, inr, arith, append_assoc, append-nil, IfErr, OnOk, OnErr, MatchResult}
use Rattle.std.specs.Prelude.{◌⊎◌}
use Rattle.std.proofs.lemmas.List.{length-map}
use Rattle.lps_terms.specs.declared.atom.Atom.{Atom}
use Rattle.lps_terms.specs.declared.batch_kind.BatchKind.{BatchKind}
use Rattle.lps_terms.specs.declared.prefer.Prefer.{Prefer}
use Rattle.lps_terms.specs.declared.prefer.Prefer.TheVariants.{Oldest}
use Rattle.lps_terms.specs.declared.batch_kind.BatchKind.TheVariants.{LineTooLong}
use Rattle.lps_terms.specs.declared.text.Text.{Text}
use Rattle.lps_model.specs.declared.batch.Batch.{Batch}
use Rattle.lps_model.specs.declared.cycle.Cycle.{Cycle}
use Rattle.lps_model.specs.declared.trace.Trace.{Trace}
use Rattle.lps_model.specs.Trace.{no_cycle, then_cycle}
use Rattle.lps_model.specs.Run.{first_trace}
use Rattle.lps_meaning.specs.Laws.{BlocksStay}
use Rattle.lps_meaning.specs.Reports.{block_text, last_line}
use Rattle.lps_batches.specs.LinesAhead.{IsLine}
use Rattle.lps_batches.specs.declared.batch_bad.BatchBad.{BatchBad}
use Rattle.lps_batches.specs.Lines.{IsBadLine}
use Rattle.lps_batches.specs.Stream.{Ahead, BeginsBad, MeetsBad, MeetsBadLast, MetBefore, NothingLeft, NothingWhole, Reader, TakesBatch, TakesLast}
use Rattle.lps_batches.specs.Stream as reads
use Rattle.lps_outside.specs.Bytes.{IsFront, Appends, AppendsFront, Stream}
use Rattle.lps_run.specs.declared.stream.Running.{Running}
use Rattle.lps_run.specs.declared.stop.Stop.{Stop}
use Rattle.lps_run.specs.declared.stop.Stop.TheVariants.{NoMemory, Refused, CycleLimit, Full, StreamLimit, EventFault, PrintFault}
use Rattle.lps_limits.specs.declared.full.Full.{Full as Fullness}
use Rattle.lps_cycle.specs.declared.error.EngineError.{EngineError}
use Rattle.lps_cycle.specs.declared.error.EngineError.TheVariants as error
use Rattle.lps_cycle.specs.Engine.{EngineState, IsFullNext, IsNotAdded, IsOfRun, IsRunOver, IsWithinAll, Stands, block_with, counts_of}
use Rattle.lps_run.specs.Judged.{AreWhole, HasFirst, IsBatchOf, batch_fault, ended}
use Rattle.lps_run.specs.Judged as judged
use Rattle.lps_outside.specs.Causes.{Rose}
use Rattle.lps_run.specs.Stopping.{Counted, CountedAt, LimitAt, EndsFullNext, IsRun, MayEnd, PrintsBlocks, PrintsRunFront, PrintsFront, Reported, EndsAtLimit, EndsAtLine, Stopped, StopsAtLine, StopsFirst, kept_by_default, stop_by}
use Rattle.lps_run.specs.Running.{Due, Made, Standing, Finished}
use Rattle.lps_run.proofs.Feeds.{long_ends, no_whole}
use Rattle.lps_run.proofs.Judging.{batch_more, pass_more, skip_more}
use Rattle.lps_run.proofs.Reports.{block_more, block_first, last_of, report_of}

-- a run has a cycle for each batch
batch_count : {engine : EngineState} {batches : List (List Atom)} {trace : Trace} → Stands engine batches trace → length batches ≡ engine.cycles
batch_count {trace = trace} stands = sym (ap length stands.carries.events) ∙ length-map trace.cycles (λ (cycle : Cycle). cycle.events) ∙ stands.carries.count

-- the run of an engine as a call makes it
pub called_run : {engine : EngineState} {batches : List (List Atom)} {trace : Trace} → engine.prefer ≡ Oldest → engine.keep ≡ kept_by_default → Stands engine batches trace → IsRun engine.text batches trace
called_run {engine = engine} {batches = batches} {trace = trace} oldest keeps stands = record {
  plain = subst (λ (p : Prefer). IsRunOver engine.text p batches trace) oldest stands.carries.run;
  within = subst (λ n. IsWithinAll engine.text n trace) keeps stands.within;
}

-- the run of one cycle more
pub run_more : (before after : EngineState) (events : List Atom) (cycle : Cycle) →
    ((batches : List (List Atom)) (trace : Trace) → Stands before batches trace → Stands after (batches ++ events ∷ []) (then_cycle trace cycle)) → IsOfRun before → IsOfRun after
run_more before after events cycle goes_on run = (run.0 ++ events ∷ [], then_cycle run.1 cycle, goes_on run.0 run.1 run.2)

-- ---- what is printed

module _ {running : Running} {stream rest blocks : List ℕ} (made : Made running stream rest blocks) where
  made_first : HasFirst running.engine.text stream made.batches
  made_first = record { front = made.taken; rest = running.reader.left ++ rest; split = made.split; lines = running.reader.lines; are = made.are }

  -- a front of the blocks is a front of the report
  pub made_front : (start front : List ℕ) (printed : Option (List ℕ)) → IsFront front blocks → printed ≡ Some (start ++ front) → PrintsRunFront running.engine.text stream start printed
  made_front start front printed is_front told = record {
    batches = made.batches;
    first = made_first;
    trace = made.trace;
    run = called_run made.oldest made.keeps made.stands;
    blocks = blocks;
    reported = made.reported;
    ending = [];
    may_end = inl refl;
    front = front;
    is_front = (is_front.0, append-nil blocks ∙ is_front.1);
    told = told;
  }

  -- what is printed are the blocks of the run over the batches
  abbrev pub made_prints : (start : List ℕ) (printed : Option (List ℕ)) → printed ≡ Some (start ++ blocks) → PrintsBlocks running.engine.text made.batches start printed
  made_prints start printed told = record { trace = made.trace; run = called_run made.oldest made.keeps made.stands; blocks = blocks; reported = made.reported; told = told }

-- what was printed so far is a front of the report
pub standing_front : {running : Running} {stream rest start : List ℕ} {printed : Option (List ℕ)} → Standing running stream rest start printed → PrintsFront running.engine.text stream start printed
standing_front {start = start} {printed = printed} s = inr (made_front s.made start s.blocks printed ([], sym (append-nil s.blocks)) s.told)

module _ {running : Running} {stream rest start : List ℕ} {printed : Option (List ℕ)} {batch : Batch} (due : Due running stream rest start printed batch) where
  abbrev due_prints : PrintsBlocks running.engine.text due.batches start printed
  due_prints = record { trace = due.trace; run = called_run due.oldest due.keeps due.stands; blocks = due.blocks; reported = due.reported; told = due.told }

  -- the same where the batch has no cycle yet
  pub due_front : PrintsFront running.engine.text stream start printed
  due_front = inr (record {
    batches = due.batches;
    first = record { front = due.taken; rest = due.line ++ 10 ∷ (running.reader.left ++ rest); split = due.split; lines = due.lines; are = due.are };
    trace = due.trace;
    run = called_run due.oldest due.keeps due.stands;
    blocks = due.blocks;
    reported = due.reported;
    ending = [];
    may_end = inl refl;
    front = due.blocks;
    is_front = ([], refl);
    told = due.told;
  })

  next_line : judged.HasNext running.engine.text stream due.batches due.lines due.line
  next_line = record { front = due.taken; rest = running.reader.left ++ rest; split = due.split; are = due.are }

  number_is : (number : ℕ) → number ≡ running.engine.cycles + 1 → number ≡ suc (length due.batches)
  number_is number is = let count = batch_count due.stands in omega (arith, is, count)

  -- the batch is none of the next cycle
  pub due_refused : (number place : ℕ) (kind : BatchKind) → number ≡ running.engine.cycles + 1 → place ≡ running.reader.lines → batch_fault running.engine.text number batch ≡ Some kind →
      EndsAtLine running.engine.text stream start printed (record { line = place; kind = kind })
  due_refused number place kind is at fault = record {
    batches = due.batches;
    is = record {
      line = due.line;
      lines = due.lines;
      next = next_line;
      place = at ∙ due.place;
      is = inr (record { batch = batch; is = due.is; fault = subst (λ n. batch_fault running.engine.text n batch ≡ Some kind) (number_is number is) fault });
    };
    prints = due_prints;
  }

  fits : (number : ℕ) → number ≡ running.engine.cycles + 1 → batch_fault running.engine.text number batch ≡ None → IsBatchOf running.engine.text (suc (length due.batches)) due.line batch
  fits number is fine = record { is = due.is; fits = subst (λ n. batch_fault running.engine.text n batch ≡ None) (number_is number is) fine }

  -- the run has as many cycles as a run may have
  pub due_limit : (number : ℕ) → number ≡ running.engine.cycles + 1 → batch_fault running.engine.text number batch ≡ None → running.engine.cycles ≡ 1000000 → EndsAtLimit running.engine.text stream start printed
  due_limit number is fine full = record {
    batches = due.batches;
    full = batch_count due.stands ∙ full;
    goes_on = record { line = due.line; lines = due.lines; next = next_line; batch = batch; is = fits number is fine };
    prints = due_prints;
  }

  -- the cycle of the batch exceeds a limit
  due_full : (number : ℕ) (full : Fullness) → number ≡ running.engine.cycles + 1 → batch_fault running.engine.text number batch ≡ None → IsNotAdded running.engine batch.events (error.Full full) →
      EndsFullNext running.engine.text stream start printed full
  due_full number full is fine why = record {
    batches = due.batches;
    goes_on = record { line = due.line; lines = due.lines; next = next_line; batch = batch; is = fits number is fine };
    cycle = why.0 ∙ sym is ∙ number_is number is;
    events = why.1;
    prints = due_prints;
    next = subst (λ (p : Prefer). IsFullNext running.engine.text p kept_by_default due.batches due.trace full) due.oldest
        (subst (λ n. IsFullNext running.engine.text running.engine.prefer n due.batches due.trace full) due.keeps (why.2 due.batches due.trace due.stands));
  }

  -- the cycle of the batch is not made
  pub due_stopped : (number : ℕ) (why : EngineError) (source : Option Stream) → number ≡ running.engine.cycles + 1 → batch_fault running.engine.text number batch ≡ None → IsNotAdded running.engine batch.events why →
      Stopped running.engine.text stream start printed source (stop_by why)
  due_stopped number error.NoMemory source is fine why = due_front
  due_stopped number (error.Full full) source is fine why = inr (due_full number full is fine why)

  -- the cycle of the batch is made
  pub due_made : BlocksStay → (new : Running) (number : ℕ) (cycle : Cycle) (block : List ℕ) → number ≡ running.engine.cycles + 1 → batch_fault running.engine.text number batch ≡ None →
      new.engine.text ≡ running.engine.text → new.engine.prefer ≡ running.engine.prefer → new.engine.keep ≡ running.engine.keep → new.reader ≡ running.reader → new.engine.cycles ≡ running.engine.cycles + 1 →
      ((batches : List (List Atom)) (trace : Trace) → Stands running.engine batches trace → Stands new.engine (batches ++ batch.events ∷ []) (then_cycle trace cycle)) →
      block ≡ block_text number (block_with new.engine cycle) → Made new stream rest (due.blocks ++ block)
  due_made stay new number cycle block is fine text_is prefer_is keep_is reader_is count goes_on spelled =
      let text = running.engine.text in
      let batches = due.batches ++ batch.events ∷ [] in
      let trace = then_cycle due.trace cycle in
      let stands = goes_on due.batches due.trace due.stands in
      let same : number ≡ new.engine.cycles = is ∙ sym count in
      let reported = block_more stay running.engine new.engine due.batches batches due.trace cycle due.blocks block stands text_is due.reported
      (spelled ∙ ap (λ n. block_text n (block_with new.engine cycle)) same) in
      let are : AreWhole text (due.taken ++ (due.line ++ 10 ∷ [])) batches (suc due.lines) = batch_more text due.line batch (length due.batches) due.are (let e : length due.batches ≡ 0 + length due.batches = omega arith in e) (fits number is fine) in
      record {
        fine = ap (λ (r : Reader). r.bad) reader_is ∙ due.fine;
        taken = due.taken ++ (due.line ++ 10 ∷ []);
        split =
            due.split ∙ ap (λ (bs : List ℕ). due.taken ++ bs) (sym (append_assoc due.line (10 ∷ []) (running.reader.left ++ rest))) ∙ sym (append_assoc due.taken (due.line ++ 10 ∷ []) (running.reader.left ++ rest))
            ∙ ap (λ (r : Reader). (due.taken ++ (due.line ++ 10 ∷ [])) ++ (r.left ++ rest)) (sym reader_is);
        batches = batches;
        are = subst (λ (t : Text). AreWhole t (due.taken ++ (due.line ++ 10 ∷ [])) batches new.reader.lines) (sym text_is)
            (subst (λ n. AreWhole text (due.taken ++ (due.line ++ 10 ∷ [])) batches n) (sym (ap (λ (r : Reader). r.lines) reader_is ∙ due.place)) are);
        oldest = prefer_is ∙ due.oldest;
        keeps = keep_is ∙ due.keeps;
        trace = trace;
        stands = stands;
        reported = reported;
      }

-- ---- a block is printed, or a front of it

front_more : (blocks front block : List ℕ) → IsFront front block → IsFront (blocks ++ front) (blocks ++ block)
front_more blocks front block f = (f.0, ap (λ (bs : List ℕ). blocks ++ bs) f.1 ∙ sym (append_assoc blocks front f.0))

pub block_printed : (text : Text) (running : Running) (stream rest blocks block bytes start : List ℕ) (before after : Option (List ℕ)) (source : Option Stream) (X Y : Type 0) (result : Result (Unit {0}) Stop) →
    Made running stream rest (blocks ++ block) → running.engine.text ≡ text → bytes ≡ block → before ≡ Some (start ++ blocks) →
    OnOk result (Appends before after bytes) → OnErr result (AppendsFront before after bytes) → MatchResult result (λ _. X) (λ stop. (stop ≡ PrintFault) × Y) →
    MatchResult result (λ _. Standing running stream rest start after) (λ stop. Stopped text stream start after source stop)
block_printed text running stream rest blocks block bytes start before after source X Y (Ok x) made laws_are bytes_are told all part cause = record {
  blocks = blocks ++ block;
  made = made;
  told = all (start ++ blocks) told ∙ ap Some (append_assoc start blocks bytes ∙ ap (λ (bs : List ℕ). start ++ (blocks ++ bs)) bytes_are);
}
block_printed text running stream rest blocks block bytes start before after source X Y (Err stop) made laws_are bytes_are told all part cause =
    let p = part (start ++ blocks) told in
    let front = front_more blocks p.0 block (subst (λ (bs : List ℕ). IsFront p.0 bs) bytes_are p.1) in
    let run : PrintsFront running.engine.text stream start after = inr (made_front made start (blocks ++ p.0) after front (p.2 ∙ ap Some (append_assoc start blocks p.0))) in
    rw cause.0 (subst (λ (t : Text). PrintsFront t stream start after) laws_are run)

-- ---- the start

-- how a run ends that is not begun
pub not_begun : (text : Text) (stream start : List ℕ) (printed : Option (List ℕ)) (source : Option Stream) (stop : Stop) → StopsFirst text stop → printed ≡ Some start → Stopped text stream start printed source stop
not_begun text stream start printed source NoMemory why told = inl told
not_begun text stream start printed source (Full full) why told = inl (why, told)
not_begun text stream start printed source (Refused faulty) why told = absurd why
not_begun text stream start printed source CycleLimit why told = absurd why
not_begun text stream start printed source StreamLimit why told = absurd why
not_begun text stream start printed source EventFault why told = absurd why
not_begun text stream start printed source PrintFault why told = absurd why

-- it reads nothing and prints nothing
pub not_begun_counted : (text : Text) (stop : Stop) (reads prints : ℕ) → StopsFirst text stop → CountedAt stop reads reads prints prints
not_begun_counted text NoMemory reads prints why = (refl, refl)
not_begun_counted text (Full full) reads prints why = (refl, refl)
not_begun_counted text (Refused faulty) reads prints why = absurd why
not_begun_counted text CycleLimit reads prints why = absurd why
not_begun_counted text StreamLimit reads prints why = absurd why
not_begun_counted text EventFault reads prints why = absurd why
not_begun_counted text PrintFault reads prints why = absurd why

-- it is not for the limit of the stream
pub not_begun_limit : (text : Text) (stop : Stop) (before : ℕ) → StopsFirst text stop → LimitAt 0 before before stop
not_begun_limit text NoMemory before why = omega arith
not_begun_limit text (Full full) before why = omega arith
not_begun_limit text (Refused faulty) before why = absurd why
not_begun_limit text CycleLimit before why = absurd why
not_begun_limit text StreamLimit before why = absurd why
not_begun_limit text EventFault before why = absurd why
not_begun_limit text PrintFault before why = absurd why

pub begun : (running : Running) (stream block : List ℕ) (cycle : Cycle) → running.reader ≡ record { left = []; lines = 0; bad = None } →
    running.engine.prefer ≡ Oldest → running.engine.keep ≡ kept_by_default → Stands running.engine [] (first_trace running.engine.facts) → cycle ≡ no_cycle → block ≡ block_text 0 (block_with running.engine cycle) → Made running stream (ended stream) block
begun running stream block cycle reader_is oldest keeps stands none spelled =
    let engine = running.engine in
    record {
      fine = ap (λ (r : Reader). r.bad) reader_is;
      taken = [];
      split = ap (λ (r : Reader). r.left ++ ended stream) (sym reader_is);
      batches = [];
      are = subst (λ n. AreWhole engine.text [] [] n) (sym (ap (λ (r : Reader). r.lines) reader_is)) judged.none;
      oldest = oldest;
      keeps = keeps;
      trace = first_trace engine.facts;
      stands = stands;
      reported = block_first engine block stands (spelled ∙ ap (λ (c : Cycle). block_text 0 (block_with engine c)) none);
    }

-- ---- what the reader answers

-- behind the lines that are passed over
passed_split : (taken front bytes left rest all : List ℕ) → all ≡ taken ++ (left ++ rest) → left ≡ front ++ bytes → all ≡ (taken ++ front) ++ (bytes ++ rest)
passed_split taken front bytes left rest all split is =
    split ∙ ap (λ (bs : List ℕ). taken ++ (bs ++ rest)) is ∙ ap (λ (bs : List ℕ). taken ++ bs) (append_assoc front bytes rest) ∙ sym (append_assoc taken front (bytes ++ rest))

module _ (engine : EngineState) (old new : Reader) {stream rest start : List ℕ} {printed : Option (List ℕ)} (s : Standing (record { engine = engine; reader = old }) stream rest start printed) where
  -- what is known behind the lines that are passed over
  past : {count : ℕ} {bytes : List ℕ} (ahead : Ahead old count bytes) → AreWhole engine.text (s.made.taken ++ ahead.front) s.made.batches (count + old.lines)
  past ahead = skip_more engine.text s.made.are ahead.skipped

  past_split : {count : ℕ} {bytes : List ℕ} (ahead : Ahead old count bytes) → ended stream ≡ (s.made.taken ++ ahead.front) ++ (bytes ++ rest)
  past_split {bytes = bytes} ahead = passed_split s.made.taken ahead.front bytes old.left rest (ended stream) s.made.split ahead.split

  pub nothing_more : NothingWhole old new → Standing (record { engine = engine; reader = new }) stream rest start printed
  nothing_more n = record {
    blocks = s.blocks;
    made = record {
      fine = n.fine;
      taken = s.made.taken ++ n.ahead.front;
      split = past_split n.ahead;
      batches = s.made.batches;
      are = subst (λ k. AreWhole engine.text (s.made.taken ++ n.ahead.front) s.made.batches k) (let e : n.passed + old.lines ≡ new.lines = omega (arith, n.lines) in e) (past n.ahead);
      oldest = s.made.oldest;
      keeps = s.made.keeps;
      trace = s.made.trace;
      stands = s.made.stands;
      reported = s.made.reported;
    };
    told = s.told;
  }

  pub batch_due : (batch : Batch) → TakesBatch old batch new → Due (record { engine = engine; reader = new }) stream rest start printed batch
  batch_due batch t = record {
    fine = t.fine;
    taken = s.made.taken ++ t.ahead.front;
    line = t.line;
    split = past_split t.ahead ∙ ap (λ (bs : List ℕ). (s.made.taken ++ t.ahead.front) ++ bs) (append_assoc t.line (10 ∷ new.left) rest);
    batches = s.made.batches;
    lines = t.passed + old.lines;
    are = past t.ahead;
    place = omega (arith, t.lines);
    is = t.is;
    oldest = s.made.oldest;
    keeps = s.made.keeps;
    trace = s.made.trace;
    stands = s.made.stands;
    blocks = s.blocks;
    reported = s.made.reported;
    told = s.told;
  }

  -- a bad line behind the lines that are passed over
  bad_line : (count : ℕ) (front line after : List ℕ) (kind : BatchKind) (bad : BatchBad) → AreWhole engine.text (s.made.taken ++ front) s.made.batches (count + old.lines) → ended stream ≡ (s.made.taken ++ front) ++ (line ++ 10 ∷ after) →
      bad.line ≡ old.lines + count + 1 → kind ≡ bad.kind → IsBadLine line kind → EndsAtLine engine.text stream start printed bad
  bad_line count front line after kind bad are split place kind_is is = record {
    batches = s.made.batches;
    is = record {
      line = line;
      lines = count + old.lines;
      next = record { front = s.made.taken ++ front; rest = after; split = split; are = are };
      place = omega (arith, place);
      is = inl (subst (IsBadLine line) kind_is is);
    };
    prints = made_prints s.made start printed s.told;
  }

  begins_bad : (bad : BatchBad) (count : ℕ) (bytes : List ℕ) (kind : BatchKind) → Ahead old count bytes → BeginsBad bytes kind → bad.line ≡ old.lines + count + 1 → kind ≡ bad.kind → EndsAtLine engine.text stream start printed bad
  begins_bad bad count bytes kind ahead (reads.whole line after same is) place kind_is =
      bad_line count ahead.front line (after ++ rest) same bad (past ahead) (past_split ahead ∙ ap (λ (bs : List ℕ). (s.made.taken ++ ahead.front) ++ bs) (append_assoc line (10 ∷ after) rest)) place kind_is is
  begins_bad bad count bytes kind ahead (reads.long line after all long) place kind_is =
      let e = long_ends stream (s.made.taken ++ ahead.front) line (after ++ rest) (past_split ahead ∙ ap (λ (bs : List ℕ). (s.made.taken ++ ahead.front) ++ bs) (append_assoc line after rest)) all long in
      bad_line count ahead.front e.0 e.1 LineTooLong bad (past ahead) e.2 place kind_is e.3

  -- the reader met a bad line
  pub bad_met : (bad : BatchBad) → MetBefore old bad new ⊎ MeetsBad old bad new → EndsAtLine engine.text stream start printed bad
  bad_met bad (inl (before, same)) = let apart = sym s.made.fine ∙ before in absurd cc
  bad_met bad (inr m) = begins_bad bad m.passed m.bytes bad.kind m.ahead m.begins m.place refl

-- a piece of the stream is fed
pub piece_fed : (running new : Running) (stream piece rest start : List ℕ) (printed : Option (List ℕ)) → Standing running stream (piece ++ rest) start printed → new.engine ≡ running.engine →
    new.reader ≡ record { left = running.reader.left ++ piece; lines = running.reader.lines; bad = running.reader.bad } → Standing new stream rest start printed
piece_fed running new stream piece rest start printed s engine_is reader_is =
    subst (λ (r : Running). Standing r stream rest start printed) (λ i. record { engine = sym engine_is i; reader = sym reader_is i }) (record {
      blocks = s.blocks;
      made = record {
        fine = s.made.fine;
        taken = s.made.taken;
        split = s.made.split ∙ ap (λ (bs : List ℕ). s.made.taken ++ bs) (sym (append_assoc running.reader.left piece rest));
        batches = s.made.batches;
        are = s.made.are;
        oldest = s.made.oldest;
        keeps = s.made.keeps;
        trace = s.made.trace;
        stands = s.made.stands;
        reported = s.made.reported;
      };
      told = s.told;
    })

-- ---- the end

-- the last line is thought to have a line feed
last_split : (taken front line left all : List ℕ) → all ≡ taken ++ (left ++ 10 ∷ []) → left ≡ front ++ line → all ≡ (taken ++ front) ++ (line ++ 10 ∷ [])
last_split taken front line left all split is = passed_split taken front line left (10 ∷ []) all split is

module _ (engine : EngineState) (old new : Reader) {stream start : List ℕ} {printed : Option (List ℕ)} (s : Standing (record { engine = engine; reader = old }) stream (10 ∷ []) start printed) where
  pub none_left : NothingLeft old new → Finished (record { engine = engine; reader = new }) stream start printed
  none_left n =
      let are = pass_more engine.text n.line (past engine old new s n.ahead) n.is in
      let split = last_split s.made.taken n.ahead.front n.line old.left (ended stream) s.made.split n.ahead.split in
      record {
        batches = s.made.batches;
        sound = (suc (n.passed + old.lines), subst (λ (bs : List ℕ). AreWhole engine.text bs s.made.batches (suc (n.passed + old.lines))) (sym split) are);
        prints = made_prints s.made start printed s.told;
        counts = s.made.stands.carries.counts;
      }

  pub last_due : (batch : Batch) → TakesLast old batch new → Due (record { engine = engine; reader = new }) stream [] start printed batch
  last_due batch t = record {
    fine = ap (λ (r : Reader). r.bad) t.same;
    taken = s.made.taken ++ t.ahead.front;
    line = t.line;
    split = last_split s.made.taken t.ahead.front t.line old.left (ended stream) s.made.split t.ahead.split ∙ ap (λ (r : Reader). (s.made.taken ++ t.ahead.front) ++ (t.line ++ 10 ∷ (r.left ++ []))) (sym t.same);
    batches = s.made.batches;
    lines = t.passed + old.lines;
    are = past engine old new s t.ahead;
    place = ap (λ (r : Reader). r.lines) t.same ∙ (let e : old.lines + t.passed + 1 ≡ suc (t.passed + old.lines) = omega arith in e);
    is = t.is;
    oldest = s.made.oldest;
    keeps = s.made.keeps;
    trace = s.made.trace;
    stands = s.made.stands;
    blocks = s.blocks;
    reported = s.made.reported;
    told = s.told;
  }

  pub bad_last : (bad : BatchBad) → MeetsBadLast old bad new → EndsAtLine engine.text stream start printed bad
  bad_last bad m =
      bad_line engine old new s m.passed m.ahead.front m.line [] bad.kind bad (past engine old new s m.ahead)
      (last_split s.made.taken m.ahead.front m.line old.left (ended stream) s.made.split m.ahead.split) m.place refl m.is

-- nothing is left
pub all_taken : (running : Running) (stream start : List ℕ) (printed : Option (List ℕ)) → Standing running stream [] start printed → running.reader.left ≡ [] → Finished running stream start printed
all_taken running stream start printed s none =
    let split : s.made.taken ≡ ended stream = sym (s.made.split ∙ ap (λ (bs : List ℕ). s.made.taken ++ (bs ++ [])) none ∙ append-nil s.made.taken) in
    record {
      batches = s.made.batches;
      sound = (running.reader.lines, subst (λ (bs : List ℕ). AreWhole running.engine.text bs s.made.batches running.reader.lines) split s.made.are);
      prints = made_prints s.made start printed s.told;
      counts = s.made.stands.carries.counts;
    }

-- the counts after a print
pub last_counted : (reads reads' before mid after : ℕ) (result : Result (Unit {0}) Stop) → reads' ≡ reads → mid ≡ before →
    MatchResult result (λ _. after ≡ mid) (λ stop. (stop ≡ PrintFault) × Rose mid after) → Counted result reads reads' before after
last_counted reads reads' before mid after (Ok x) same kept cause = (same, cause ∙ kept)
last_counted reads reads' before mid after (Err stop) same kept cause = rw cause.0 (same, subst (λ n. Rose n after) kept cause.1)

-- the counts after the last part of a run, which reads nothing
pub counted_behind : {T : Type 0} (result : Result T Stop) (reads reads' before mid after : ℕ) → reads' ≡ reads → mid ≡ before → IfErr result StopsAtLine → Counted result 0 0 mid after → Counted result reads reads' before after
counted_behind (Ok x) reads reads' before mid after same kept kind h = (same, h.1 ∙ kept)
counted_behind (Err NoMemory) reads reads' before mid after same kept kind h = (same, h.1 ∙ kept)
counted_behind (Err (Refused line)) reads reads' before mid after same kept kind h = (same, h.1 ∙ kept)
counted_behind (Err CycleLimit) reads reads' before mid after same kept kind h = (same, h.1 ∙ kept)
counted_behind (Err (Full full)) reads reads' before mid after same kept kind h = (same, h.1 ∙ kept)
counted_behind (Err PrintFault) reads reads' before mid after same kept kind h = (same, subst (λ n. Rose n after) kept h.1)
counted_behind (Err StreamLimit) reads reads' before mid after same kept kind h = absurd kind
counted_behind (Err EventFault) reads reads' before mid after same kept kind h = absurd kind

module _ {running : Running} {stream start : List ℕ} {before : Option (List ℕ)} (done : Finished running stream start before) where
  -- the front of the report that ends with some bytes behind its blocks
  last_front : (ending front : List ℕ) (after : Option (List ℕ)) → MayEnd running.engine.text stream done.batches done.prints.trace ending → IsFront front (done.prints.blocks ++ ending) →
      after ≡ Some (start ++ front) → PrintsFront running.engine.text stream start after
  last_front ending front after may_end is_front told = inr (record {
    batches = done.batches;
    first = record { front = ended stream; rest = []; split = sym (append-nil (ended stream)); lines = done.sound.0; are = done.sound.1 };
    trace = done.prints.trace;
    run = done.prints.run;
    blocks = done.prints.blocks;
    reported = done.prints.reported;
    ending = ending;
    may_end = may_end;
    front = front;
    is_front = is_front;
    told = told;
  })

  -- before the last line, what is printed is a front of the report
  pub unended_front : PrintsFront running.engine.text stream start before
  unended_front = last_front [] done.prints.blocks before (inl refl) ([], refl) done.prints.told

  -- a front of the last line is printed
  pub last_part : (bytes : List ℕ) (after : Option (List ℕ)) → bytes ≡ last_line (counts_of running.engine) → AppendsFront before after bytes → PrintsFront running.engine.text stream start after
  last_part bytes after is part =
      let p = done.prints in
      let f = part (start ++ p.blocks) p.told in
      last_front bytes (p.blocks ++ f.0) after (inr (last_of running.engine.text p.trace (counts_of running.engine) bytes done.counts is, done.sound)) (front_more p.blocks f.0 bytes f.1)
      (f.2 ∙ ap Some (append_assoc start p.blocks f.0))

  -- the last line is printed
  pub last_whole : (bytes : List ℕ) (after : Option (List ℕ)) (source : Option Stream) (last : Stream) → source ≡ Some last → last.left ≡ [] → bytes ≡ last_line (counts_of running.engine) → Appends before after bytes →
      Reported running.engine.text stream start after source (counts_of running.engine)
  last_whole bytes after source last known none is all =
      let p = done.prints in
      record {
        after = last;
        known = known;
        ended = none;
        batches = done.batches;
        sound = done.sound;
        trace = p.trace;
        run = p.run;
        report = p.blocks ++ bytes;
        reported = report_of running.engine.text p.trace (counts_of running.engine) p.blocks bytes p.reported done.counts is;
        told = all (start ++ p.blocks) p.told ∙ ap Some (append_assoc start p.blocks bytes);
      }

module _ (engine : EngineState) (old new : Reader) {stream start : List ℕ} {printed : Option (List ℕ)} (s : Standing (record { engine = engine; reader = old }) stream (10 ∷ []) start printed) (part : IsLine old.left) where
  -- no whole line is left where the beginning of one is
  no_batch : (batch : Batch) → TakesBatch old batch new → ⊥
  no_batch batch t = no_whole t.ahead.front t.line new.left (subst IsLine t.ahead.split part)

  -- the last line is a batch, whose cycle is made or not
  pub finish_due : (batch : Batch) → TakesBatch old batch new ⊎ TakesLast old batch new → Due (record { engine = engine; reader = new }) stream [] start printed batch × (new.left ≡ [])
  finish_due batch (inl t) = absurd (no_batch batch t)
  finish_due batch (inr t) = (last_due engine old new s batch t, ap (λ (r : Reader). r.left) t.same)

  pub finish_bad : (bad : BatchBad) → (MetBefore old bad new ⊎ MeetsBad old bad new) ⊎ MeetsBadLast old bad new → EndsAtLine engine.text stream start printed bad
  finish_bad bad (inl m) = bad_met engine old new s bad m
  finish_bad bad (inr m) = bad_last engine old new s bad m

-- the batch of the last line was taken
pub finish_taken : (text : Text) (due new : Running) (stream start : List ℕ) (after : Option (List ℕ)) (source : Option Stream) (result : Result (Unit {0}) Stop) → due.reader.left ≡ [] → new.reader ≡ due.reader →
    MatchResult result (λ _. Standing new stream [] start after) (λ stop. Stopped text stream start after source stop) →
    MatchResult result (λ _. Finished new stream start after) (λ stop. Stopped text stream start after source stop)
finish_taken text due new stream start after source (Ok x) none same h = all_taken new stream start after h (ap (λ (r : Reader). r.left) same ∙ none)
finish_taken text due new stream start after source (Err stop) none same h = h
