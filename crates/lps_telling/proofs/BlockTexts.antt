-- What is printed of the events and picks of a ground cycle tells them.
use Rattle.std.proofs.Common.{ℕ, zero, suc, ◌≡◌, ◌<◌, ◌≤◌, Bool, false, List, [], ◌∷◌, ◌++◌, length, refl, sym, ap, subst, ◌∙◌, arith, append_assoc}
use Rattle.std.specs.Prelude.{◌==◌, ◌||◌, codes, slice_get}
use Rattle.std.specs.Fmt.{decimal}
use Rattle.std.specs.List.{AllByRecursion, flat_map}
use Rattle.lps_terms.specs.declared.atom.Atom.{Atom}
use Rattle.lps_terms.specs.declared.text.Text.{Text}
use Rattle.lps_terms.specs.Printed.{atom_text, listed_from}
use Rattle.lps_model.specs.declared.cycle.Cycle.{Cycle}
use Rattle.lps_model.specs.declared.cycle.Pick.{Pick}
use Rattle.lps_model.specs.declared.trace.Trace.{Trace}
use Rattle.lps_model.specs.declared.verdict.Verdict.{Verdict}
use Rattle.lps_model.specs.declared.verdict.Verdict.TheVariants.{Admitted, Rejected}
use Rattle.lps_model.specs.Report.{verdict_line, verdict_lines}
use Rattle.lps_model.specs.Trace.{cycle_at, cycle_or_none, then_cycle, if_admitted}
use Rattle.lps_meaning.specs.Cycles.{AreJudged, AreLegal, IsRun}
use Rattle.lps_meaning.specs.Reports.{Block, block_text, closed_line, goal_line, IsBlock, IsGroundAtom, listed, pick_line}
use Rattle.lps_telling.specs.Grounded.{IsGroundCycle, IsGroundPick, IsSmallVerdict}
use Rattle.lps_telling.proofs.AtomTexts.{atom_told, same_atoms}
use Rattle.lps_meaning.proofs.ReportLaws.{trace_of_cycles}
use Rattle.lps_telling.proofs.TextPieces.{Begins, cancel_front, head_or, not_both, same_number, Stops, tail}

-- ---- verdicts

-- the first byte of a line of a verdict
abbrev is_verdict_byte : ℕ → Bool
is_verdict_byte byte = (byte == 97) || (byte == 114)

admit_apart : (event : Atom) (lines rest : List ℕ) → ((codes "admit " ++ atom_text event ++ codes "\n") ++ lines) ++ rest ≡ codes "admit " ++ (atom_text event ++ (10 ∷ (lines ++ rest)))
admit_apart event lines rest =
    append_assoc (codes "admit " ++ atom_text event ++ codes "\n") lines rest ∙ append_assoc (codes "admit " ++ atom_text event) (codes "\n") (lines ++ rest)
    ∙ append_assoc (codes "admit ") (atom_text event) (10 ∷ (lines ++ rest))

reject_apart : (event : Atom) (denial : ℕ) (lines rest : List ℕ) →
    ((codes "reject " ++ atom_text event ++ codes " by " ++ decimal denial ++ codes "\n") ++ lines) ++ rest
    ≡ codes "reject " ++ (atom_text event ++ (codes " by " ++ (decimal denial ++ (10 ∷ (lines ++ rest)))))
reject_apart event denial lines rest =
    append_assoc (codes "reject " ++ atom_text event ++ codes " by " ++ decimal denial ++ codes "\n") lines rest
    ∙ append_assoc (codes "reject " ++ atom_text event ++ codes " by " ++ decimal denial) (codes "\n") (lines ++ rest)
    ∙ append_assoc (codes "reject " ++ atom_text event ++ codes " by ") (decimal denial) (10 ∷ (lines ++ rest))
    ∙ append_assoc (codes "reject " ++ atom_text event) (codes " by ") (decimal denial ++ (10 ∷ (lines ++ rest)))
    ∙ append_assoc (codes "reject ") (atom_text event) (codes " by " ++ (decimal denial ++ (10 ∷ (lines ++ rest))))

same_line : (x y : Atom) (v w : Verdict) (lines others : List ℕ) (rest after : List ℕ) → IsGroundAtom x → IsGroundAtom y → IsSmallVerdict v → IsSmallVerdict w →
    (verdict_line x v ++ lines) ++ rest ≡ (verdict_line y w ++ others) ++ after → (x ≡ y) × (v ≡ w) × (lines ++ rest ≡ others ++ after)
same_line x y Admitted Admitted lines others rest after g h s l e =
    let apart = cancel_front (codes "admit ") (atom_text x ++ (10 ∷ (lines ++ rest))) (atom_text y ++ (10 ∷ (others ++ after))) (sym (admit_apart x lines rest) ∙ e ∙ admit_apart y others after) in
    let same = atom_told x y g h (10 ∷ (lines ++ rest)) (10 ∷ (others ++ after)) refl refl apart in
    (same.0, refl, ap tail same.1)
same_line x y (Rejected j) (Rejected k) lines others rest after g h s l e =
    let one = codes " by " ++ (decimal j ++ (10 ∷ (lines ++ rest))) in
    let other = codes " by " ++ (decimal k ++ (10 ∷ (others ++ after))) in
    let apart = cancel_front (codes "reject ") (atom_text x ++ one) (atom_text y ++ other) (sym (reject_apart x j lines rest) ∙ e ∙ reject_apart y k others after) in
    let same = atom_told x y g h one other refl refl apart in
    let number = same_number j k (10 ∷ (lines ++ rest)) (10 ∷ (others ++ after)) s l refl refl
    (cancel_front (codes " by ") (decimal j ++ (10 ∷ (lines ++ rest))) (decimal k ++ (10 ∷ (others ++ after))) same.1) in
    (same.0, ap (λ n. Rejected n) number.0, ap tail number.1)
same_line x y Admitted (Rejected k) lines others rest after g h s l e = let first : 97 ≡ 114 = ap (head_or 0) e in absurd (omega (arith, first))
same_line x y (Rejected j) Admitted lines others rest after g h s l e = let first : 114 ≡ 97 = ap (head_or 0) e in absurd (omega (arith, first))

line_first : (x : Atom) (v : Verdict) (lines rest : List ℕ) → Begins is_verdict_byte ((verdict_line x v ++ lines) ++ rest)
line_first x Admitted lines rest = refl
line_first x (Rejected k) lines rest = refl

no_more_lines : {X : Type 0} (x : X) (xs : List X) → 0 ≡ length (x ∷ xs) → ⊥
no_more_lines x xs e = omega (arith, e)

-- events and verdicts of which there are as many
same_verdicts : (xs ys : List Atom) (vs ws : List Verdict) → length xs ≡ length vs → length ys ≡ length ws → AllByRecursion IsGroundAtom xs → AllByRecursion IsGroundAtom ys →
    AllByRecursion IsSmallVerdict vs → AllByRecursion IsSmallVerdict ws → (rest after : List ℕ) → Stops is_verdict_byte rest → Stops is_verdict_byte after →
    verdict_lines xs vs ++ rest ≡ verdict_lines ys ws ++ after → (xs ≡ ys) × (vs ≡ ws) × (rest ≡ after)
same_verdicts [] [] [] [] m n g h s l rest after stops ends e = (refl, refl, e)
same_verdicts [] ys (v ∷ vs) ws m n g h s l rest after stops ends e = absurd (no_more_lines v vs m)
same_verdicts (x ∷ xs) ys [] ws m n g h s l rest after stops ends e = absurd (no_more_lines x xs (sym m))
same_verdicts [] [] [] (w ∷ ws) m n g h s l rest after stops ends e = absurd (no_more_lines w ws n)
same_verdicts [] (y ∷ ys) [] [] m n g h s l rest after stops ends e = absurd (no_more_lines y ys (sym n))
same_verdicts (x ∷ xs) [] (v ∷ vs) (w ∷ ws) m n g h s l rest after stops ends e = absurd (no_more_lines w ws n)
same_verdicts (x ∷ xs) (y ∷ ys) (v ∷ vs) [] m n g h s l rest after stops ends e = absurd (no_more_lines y ys (sym n))
same_verdicts [] (y ∷ ys) [] (w ∷ ws) m n g h s l rest after stops ends e =
    absurd (not_both is_verdict_byte (verdict_lines (y ∷ ys) (w ∷ ws) ++ after) rest (line_first y w (verdict_lines ys ws) after) stops (sym e))
same_verdicts (x ∷ xs) [] (v ∷ vs) [] m n g h s l rest after stops ends e =
    absurd (not_both is_verdict_byte (verdict_lines (x ∷ xs) (v ∷ vs) ++ rest) after (line_first x v (verdict_lines xs vs) rest) ends e)
same_verdicts (x ∷ xs) (y ∷ ys) (v ∷ vs) (w ∷ ws) m n g h s l rest after stops ends e =
    let first = same_line x y v w (verdict_lines xs vs) (verdict_lines ys ws) rest after g.0 h.0 s.0 l.0 e in
    let later = same_verdicts xs ys vs ws (omega (arith, m)) (omega (arith, n)) g.1 h.1 s.1 l.1 rest after stops ends first.2 in
    ((λ i. first.0 i ∷ later.0 i), (λ i. first.1 i ∷ later.1 i), later.2)

-- ---- picks

-- the first byte of a line of a pick
abbrev is_pick_byte : ℕ → Bool
is_pick_byte byte = byte == 100

pick_apart : (pick : Pick) (lines rest : List ℕ) → (pick_line pick ++ lines) ++ rest
    ≡ codes "do " ++ (listed atom_text pick.group.atoms ++ (codes " for " ++ (decimal pick.goal ++ (10 ∷ (lines ++ rest)))))
pick_apart pick lines rest =
    append_assoc (pick_line pick) lines rest
    ∙ append_assoc (codes "do " ++ listed atom_text pick.group.atoms ++ codes " for " ++ decimal pick.goal) (codes "\n") (lines ++ rest)
    ∙ append_assoc (codes "do " ++ listed atom_text pick.group.atoms ++ codes " for ") (decimal pick.goal) (10 ∷ (lines ++ rest))
    ∙ append_assoc (codes "do " ++ listed atom_text pick.group.atoms) (codes " for ") (decimal pick.goal ++ (10 ∷ (lines ++ rest)))
    ∙ append_assoc (codes "do ") (listed atom_text pick.group.atoms) (codes " for " ++ (decimal pick.goal ++ (10 ∷ (lines ++ rest))))

same_pick : (p q : Pick) (lines others rest after : List ℕ) → IsGroundPick p → IsGroundPick q →
    (pick_line p ++ lines) ++ rest ≡ (pick_line q ++ others) ++ after → (p ≡ q) × (lines ++ rest ≡ others ++ after)
same_pick p q lines others rest after g h e =
    let one = codes " for " ++ (decimal p.goal ++ (10 ∷ (lines ++ rest))) in
    let other = codes " for " ++ (decimal q.goal ++ (10 ∷ (others ++ after))) in
    let apart = cancel_front (codes "do ") (listed atom_text p.group.atoms ++ one) (listed atom_text q.group.atoms ++ other) (sym (pick_apart p lines rest) ∙ e ∙ pick_apart q others after) in
    let same = same_atoms p.group.atoms q.group.atoms g.0 h.0 one other refl refl apart in
    let number = same_number p.goal q.goal (10 ∷ (lines ++ rest)) (10 ∷ (others ++ after)) g.1 h.1 refl refl
    (cancel_front (codes " for ") (decimal p.goal ++ (10 ∷ (lines ++ rest))) (decimal q.goal ++ (10 ∷ (others ++ after))) same.1) in
    ((λ i. record { goal = number.0 i; group = record { atoms = same.0 i } }), ap tail number.1)

same_picks : (ps qs : List Pick) → AllByRecursion IsGroundPick ps → AllByRecursion IsGroundPick qs → (rest after : List ℕ) → Stops is_pick_byte rest → Stops is_pick_byte after →
    flat_map pick_line ps ++ rest ≡ flat_map pick_line qs ++ after → (ps ≡ qs) × (rest ≡ after)
same_picks [] [] g h rest after stops ends e = (refl, e)
same_picks [] (q ∷ qs) g h rest after stops ends e = absurd (not_both is_pick_byte (flat_map pick_line (q ∷ qs) ++ after) rest refl stops (sym e))
same_picks (p ∷ ps) [] g h rest after stops ends e = absurd (not_both is_pick_byte (flat_map pick_line (p ∷ ps) ++ rest) after refl ends e)
same_picks (p ∷ ps) (q ∷ qs) g h rest after stops ends e =
    let first = same_pick p q (flat_map pick_line ps) (flat_map pick_line qs) rest after g.0 h.0 e in
    let later = same_picks ps qs g.1 h.1 rest after stops ends first.1 in
    ((λ i. first.0 i ∷ later.0 i), later.1)

-- ---- blocks

-- what stands in a block behind its picks
abbrev pub block_end : Block → List ℕ
block_end block = codes "state" ++ (listed_from false block.facts ++ (10 ∷ (flat_map goal_line block.created ++ flat_map closed_line block.closed)))

block_apart : (k : ℕ) (block : Block) → block_text k block
    ≡ codes "cycle " ++ (decimal k ++ (10 ∷ (verdict_lines block.cycle.events block.cycle.verdicts ++ (flat_map pick_line block.cycle.picks ++ block_end block))))
unfolding block_text
block_apart k block =
    let verdicts = verdict_lines block.cycle.events block.cycle.verdicts in
    let picks = flat_map pick_line block.cycle.picks in
    let facts = listed_from false block.facts in
    let created = flat_map goal_line block.created in
    let closed = flat_map closed_line block.closed in
    let front = codes "cycle " ++ decimal k ++ codes "\n" ++ verdicts ++ picks in
    append_assoc (front ++ codes "state" ++ facts ++ codes "\n") created closed
    ∙ append_assoc (front ++ codes "state" ++ facts) (codes "\n") (created ++ closed)
    ∙ append_assoc (front ++ codes "state") facts (10 ∷ (created ++ closed))
    ∙ append_assoc front (codes "state") (facts ++ (10 ∷ (created ++ closed)))
    ∙ append_assoc (codes "cycle " ++ decimal k ++ codes "\n" ++ verdicts) picks (block_end block)
    ∙ append_assoc (codes "cycle " ++ decimal k ++ codes "\n") verdicts (picks ++ block_end block)
    ∙ append_assoc (codes "cycle " ++ decimal k) (codes "\n") (verdicts ++ (picks ++ block_end block))
    ∙ append_assoc (codes "cycle ") (decimal k) (10 ∷ (verdicts ++ (picks ++ block_end block)))

-- the same before other bytes
pub block_before : (k : ℕ) (block : Block) (rest : List ℕ) → block_text k block ++ rest
    ≡ codes "cycle " ++ (decimal k ++ (10 ∷ (verdict_lines block.cycle.events block.cycle.verdicts ++ (flat_map pick_line block.cycle.picks ++ (block_end block ++ rest)))))
block_before k block rest =
    let verdicts = verdict_lines block.cycle.events block.cycle.verdicts in
    let picks = flat_map pick_line block.cycle.picks in
    ap (λ bytes. bytes ++ rest) (block_apart k block)
    ∙ append_assoc (codes "cycle ") (decimal k ++ (10 ∷ (verdicts ++ (picks ++ block_end block)))) rest
    ∙ ap (λ bytes. codes "cycle " ++ bytes) (append_assoc (decimal k) (10 ∷ (verdicts ++ (picks ++ block_end block))) rest)
    ∙ ap (λ bytes. codes "cycle " ++ (decimal k ++ (10 ∷ bytes))) (append_assoc verdicts (picks ++ block_end block) rest)
    ∙ ap (λ bytes. codes "cycle " ++ (decimal k ++ (10 ∷ (verdicts ++ bytes)))) (append_assoc picks (block_end block) rest)

-- as many verdicts as events
abbrev pub IsPaired : Cycle → Type 0
IsPaired cycle = length cycle.events ≡ length cycle.verdicts

stops_picks : (ps : List Pick) (block : Block) (rest : List ℕ) → Stops is_verdict_byte (flat_map pick_line ps ++ (block_end block ++ rest))
stops_picks [] block rest = refl
stops_picks (p ∷ ps) block rest = refl

-- blocks of one number with the same bytes, and others behind them, have one cycle, and the same bytes behind it
pub same_cycle : (k : ℕ) (one other : Block) → IsPaired one.cycle → IsPaired other.cycle → IsGroundCycle one.cycle → IsGroundCycle other.cycle → (rest after : List ℕ) →
    block_text k one ++ rest ≡ block_text k other ++ after → (one.cycle ≡ other.cycle) × (block_end one ++ rest ≡ block_end other ++ after)
same_cycle k one other paired matched g h rest after e =
    let left = flat_map pick_line one.cycle.picks ++ (block_end one ++ rest) in
    let right = flat_map pick_line other.cycle.picks ++ (block_end other ++ after) in
    let lines = 10 ∷ (verdict_lines one.cycle.events one.cycle.verdicts ++ left) in
    let others = 10 ∷ (verdict_lines other.cycle.events other.cycle.verdicts ++ right) in
    let numbered = cancel_front (codes "cycle ") (decimal k ++ lines) (decimal k ++ others) (sym (block_before k one rest) ∙ e ∙ block_before k other after) in
    let judged = same_verdicts one.cycle.events other.cycle.events one.cycle.verdicts other.cycle.verdicts paired matched g.events h.events g.verdicts h.verdicts
    left right (stops_picks one.cycle.picks one rest) (stops_picks other.cycle.picks other after) (ap tail (cancel_front (decimal k) lines others numbered)) in
    let picked = same_picks one.cycle.picks other.cycle.picks g.picks h.picks (block_end one ++ rest) (block_end other ++ after) refl refl judged.2 in
    ((λ i. record { events = judged.0 i; verdicts = judged.1 i; picks = picked.0 i }), picked.1)

-- ---- runs

judged_paired : (text : Text) (level : List ℕ → ℕ) (depth : ℕ) (trace : Trace) (before events : List Atom) (verdicts : List Verdict) →
    AreJudged text level trace before events verdicts → length events ≡ length verdicts
judged_paired text level depth trace before [] [] h = refl
judged_paired text level depth trace before [] (v ∷ vs) h = absurd h
judged_paired text level depth trace before (x ∷ xs) [] h = absurd h
judged_paired text level depth trace before (x ∷ xs) (v ∷ vs) h = ap suc (judged_paired text level depth trace (before ++ if_admitted v x) xs vs h.1)

pub legal_paired : (text : Text) (level : List ℕ → ℕ) (depth : ℕ) (before : Trace) (cycles : List Cycle) → AreLegal text level depth before cycles → AllByRecursion IsPaired cycles
legal_paired text level depth before [] h = tt
legal_paired text level depth before (cycle ∷ cycles) h =
    (judged_paired text level depth before [] cycle.events cycle.verdicts h.0.judged, legal_paired text level depth (then_cycle before cycle) cycles h.1)

-- what holds of each cycle of a trace holds of one of them
of_number : (P : Cycle → Type 0) (cycles : List Cycle) → AllByRecursion P cycles → (k : ℕ) → k < length cycles → P (cycle_or_none (slice_get cycles k))
of_number P [] h k inside = absurd (omega (arith, inside))
of_number P (cycle ∷ cycles) h zero inside = h.0
of_number P (cycle ∷ cycles) h (suc k) inside = of_number P cycles h.1 k (omega (arith, inside))

pub trace_of_bytes : (text : Text) (level : List ℕ → ℕ) (depth : ℕ) (trace other : Trace) → IsRun text level depth trace → IsRun text level depth other →
    AllByRecursion IsGroundCycle trace.cycles → AllByRecursion IsGroundCycle other.cycles → length trace.cycles ≡ length other.cycles →
    ((k : ℕ) → k ≤ length trace.cycles → (bytes : List ℕ) × IsBlock text level depth trace k bytes × IsBlock text level depth other k bytes) → trace ≡ other
trace_of_bytes text level depth trace other s t g h len each = trace_of_cycles text trace other s.initial t.initial len one_cycle where
  one_cycle : (k : ℕ) → k < length trace.cycles → cycle_at trace (suc k) ≡ cycle_at other (suc k)
  one_cycle k inside =
      let b = each (suc k) (omega arith) in
      let behind : k < length other.cycles = omega (arith, len) in
      let one = b.1.1.cycle in
      let two = b.2.1.cycle in
      sym one ∙ (same_cycle (suc k) b.1.0 b.2.0
      (subst IsPaired (sym one) (of_number IsPaired trace.cycles (legal_paired text level depth _ trace.cycles s.legal) k inside))
      (subst IsPaired (sym two) (of_number IsPaired other.cycles (legal_paired text level depth _ other.cycles t.legal) k behind))
      (subst IsGroundCycle (sym one) (of_number IsGroundCycle trace.cycles g k inside))
      (subst IsGroundCycle (sym two) (of_number IsGroundCycle other.cycles h k behind))
      [] [] (ap (λ bytes. bytes ++ []) (sym b.1.2 ∙ b.2.2))).0 ∙ two
