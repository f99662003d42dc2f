-- What is printed of ground facts, new goals and closed goals tells them, and so a whole block is told.
use Rattle.std.proofs.Common.{ℕ, ◌≡◌, ◌<◌, Bool, true, List, [], ◌∷◌, ◌++◌, length, map, refl, sym, ap, subst, ◌∙◌, arith, append_assoc}
use Rattle.std.specs.Prelude.{false, ◌==◌, ◌||◌, ◌&&◌, ◌^◌, codes, Contains, Some}
use Rattle.std.specs.Char.{is_ascii_digit}
use Rattle.std.specs.Fmt.{decimal}
use Rattle.std.specs.List.{AllByRecursion, flat_map}
use Rattle.std.proofs.lemmas.List.{length-map}
use Rattle.lps_terms.specs.declared.atom.Atom.{Atom}
use Rattle.lps_terms.specs.declared.term.Term.{Term}
use Rattle.lps_terms.specs.declared.text.Text.{Text}
use Rattle.lps_terms.specs.Printed.{atom_text, led, listed_from, printed}
use Rattle.lps_model.specs.declared.trace.Trace.{Trace}
use Rattle.lps_model.proofs.Elements.{first_is_contained, later_is_contained}
use Rattle.lps_meaning.specs.declared.goal.Closed.{Closed}
use Rattle.lps_meaning.specs.declared.goal.Closed.TheVariants as c
use Rattle.lps_meaning.specs.declared.goal.GoalId.{GoalId}
use Rattle.lps_meaning.specs.declared.goal.GoalKey.{GoalKey}
use Rattle.lps_meaning.specs.declared.goal.NewGoal.{NewGoal}
use Rattle.lps_meaning.specs.Goals.{shared_values}
use Rattle.lps_meaning.specs.Reports.{Block, block_text, closed_line, closed_word, goal_line, IsBlockOf, IsGroundAtom, with_values}
use Rattle.lps_telling.specs.Grounded.{IsGroundBlock, IsGroundGoal}
use Rattle.lps_model.specs.Rules.{numbered, Rule, rules}
use Rattle.lps_telling.proofs.AtomTexts.{all_told, atom_told, is_inner, IsGroundTerm, IsTold, same_counted, same_led, stops_digit, term_told}
use Rattle.lps_telling.proofs.BlockTexts.{block_end, same_cycle}
use Rattle.lps_meaning.proofs.Numbers.{numbered_one}
use Rattle.lps_telling.proofs.TextPieces.{cancel_front, head_or, same_number, Stops, tail}
use Rattle.lps_meaning.proofs.Lists.{number_contained}

-- ---- lines of one kind

module _ {X : Type 0} (P : X → Type 0) (line : X → List ℕ) (starts : List ℕ → Bool) (begins : (x : X) (rest : List ℕ) → starts (line x ++ rest) ≡ true)
    (told : (x y : X) → P x → P y → (rest after : List ℕ) → line x ++ rest ≡ line y ++ after → (x ≡ y) × (rest ≡ after)) where
  not_here : (x : X) (lines rest after : List ℕ) → starts after ≡ false → (line x ++ lines) ++ rest ≡ after → ⊥
  not_here x lines rest after stops e = let starting = begins x (lines ++ rest) in let same = ap starts (sym (append_assoc (line x) lines rest) ∙ e) in absurd cc

  same_lines : (xs ys : List X) → AllByRecursion P xs → AllByRecursion P ys → (rest after : List ℕ) → starts rest ≡ false → starts after ≡ false →
      flat_map line xs ++ rest ≡ flat_map line ys ++ after → (xs ≡ ys) × (rest ≡ after)
  same_lines [] [] g h rest after stops ends e = (refl, e)
  same_lines [] (y ∷ ys) g h rest after stops ends e = absurd (not_here y (flat_map line ys) after rest stops (sym e))
  same_lines (x ∷ xs) [] g h rest after stops ends e = absurd (not_here x (flat_map line xs) rest after ends e)
  same_lines (x ∷ xs) (y ∷ ys) g h rest after stops ends e =
      let one = told x y g.0 h.0 (flat_map line xs ++ rest) (flat_map line ys ++ after)
      (sym (append_assoc (line x) (flat_map line xs) rest) ∙ e ∙ append_assoc (line y) (flat_map line ys) after) in
      let later = same_lines xs ys g.1 h.1 rest after stops ends one.1 in
      ((λ i. one.0 i ∷ later.0 i), later.1)

-- ---- facts

listed_led : (xs : List Atom) → listed_from true xs ≡ led (map atom_text xs)
listed_led [] = refl
listed_led (x ∷ xs) = ap (λ bytes. 44 ∷ 32 ∷ (atom_text x ++ bytes)) (listed_led xs)

facts_led : (xs ys : List Atom) (rest after : List ℕ) → listed_from false xs ++ (10 ∷ rest) ≡ listed_from false ys ++ (10 ∷ after) →
    led (map atom_text xs) ++ (10 ∷ rest) ≡ led (map atom_text ys) ++ (10 ∷ after)
facts_led [] [] rest after e = e
facts_led [] (y ∷ ys) rest after e = let first : 10 ≡ 32 = ap (head_or 0) e in absurd (omega (arith, first))
facts_led (x ∷ xs) [] rest after e = let first : 32 ≡ 10 = ap (head_or 0) e in absurd (omega (arith, first))
facts_led (x ∷ xs) (y ∷ ys) rest after e =
    let one = ap (λ bytes. (atom_text x ++ bytes) ++ (10 ∷ rest)) (listed_led xs) in
    let other = ap (λ bytes. (atom_text y ++ bytes) ++ (10 ∷ after)) (listed_led ys) in
    ap (λ bytes. 44 ∷ 32 ∷ bytes) (sym one ∙ ap tail e ∙ other)

same_facts : (xs ys : List Atom) → AllByRecursion IsGroundAtom xs → AllByRecursion IsGroundAtom ys → (rest after : List ℕ) →
    listed_from false xs ++ (10 ∷ rest) ≡ listed_from false ys ++ (10 ∷ after) → (xs ≡ ys) × (rest ≡ after)
same_facts xs ys g h rest after e =
    let same = same_led IsGroundAtom atom_text xs ys (all_told IsGroundAtom atom_text atom_told xs) g h (10 ∷ rest) (10 ∷ after) refl refl (facts_led xs ys rest after e) in
    (same.0, ap tail same.1)

-- ---- new goals

abbrev IsSmall : ℕ → Type 0
IsSmall n = n < 2 ^ 64

number_told : (n : ℕ) → IsTold IsSmall decimal n
number_told n m small low rest after stops ends e = same_number n m rest after small low (stops_digit rest stops) (stops_digit after ends) e

led_joined : (xs ys : List (List ℕ)) (rest : List ℕ) → led (xs ++ ys) ++ rest ≡ led xs ++ (led ys ++ rest)
led_joined [] ys rest = refl
led_joined (x ∷ xs) ys rest =
    ap (λ bytes. 44 ∷ 32 ∷ bytes) (append_assoc x (led (xs ++ ys)) rest ∙ ap (λ bytes. x ++ bytes) (led_joined xs ys rest) ∙ sym (append_assoc x (led xs) (led ys ++ rest)))

with_led : (xs ys : List (List ℕ)) (rest after : List ℕ) → with_values xs ++ (10 ∷ rest) ≡ with_values ys ++ (10 ∷ after) → led xs ++ (10 ∷ rest) ≡ led ys ++ (10 ∷ after)
with_led [] [] rest after e = e
with_led [] (y ∷ ys) rest after e = let first : 10 ≡ 32 = ap (head_or 0) e in absurd (omega (arith, first))
with_led (x ∷ xs) [] rest after e = let first : 32 ≡ 10 = ap (head_or 0) e in absurd (omega (arith, first))
with_led (x ∷ xs) (y ∷ ys) rest after e =
    ap (λ bytes. 44 ∷ 32 ∷ bytes) (cancel_front (codes " with ") ((x ++ led xs) ++ (10 ∷ rest)) ((y ++ led ys) ++ (10 ∷ after)) e)

led_inner : (ts : List ℕ) (rest : List ℕ) → Stops is_inner (led (map decimal ts) ++ (10 ∷ rest))
led_inner [] rest = refl
led_inner (x ∷ ts) rest = refl

-- values and times, where there are as many values
same_key : (vs us : List Term) (ts ss : List ℕ) → length vs ≡ length us → AllByRecursion IsGroundTerm vs → AllByRecursion IsGroundTerm us → AllByRecursion IsSmall ts → AllByRecursion IsSmall ss →
    (rest after : List ℕ) → with_values (map printed vs ++ map decimal ts) ++ (10 ∷ rest) ≡ with_values (map printed us ++ map decimal ss) ++ (10 ∷ after) →
    (vs ≡ us) × (ts ≡ ss) × (rest ≡ after)
same_key vs us ts ss count g h small low rest after e =
    let apart = sym (led_joined (map printed vs) (map decimal ts) (10 ∷ rest)) ∙ with_led (map printed vs ++ map decimal ts) (map printed us ++ map decimal ss) rest after e
    ∙ led_joined (map printed us) (map decimal ss) (10 ∷ after) in
    let values = same_counted IsGroundTerm printed vs us count (all_told IsGroundTerm printed term_told vs) g h (led (map decimal ts) ++ (10 ∷ rest)) (led (map decimal ss) ++ (10 ∷ after))
    (led_inner ts rest) (led_inner ss after) apart in
    let times = same_led IsSmall decimal ts ss (all_told IsSmall decimal number_told ts) small low (10 ∷ rest) (10 ∷ after) refl refl values.1 in
    (values.0, times.0, ap tail times.1)

goal_apart : (new : NewGoal) (rest : List ℕ) → goal_line new ++ rest
    ≡ codes "goal " ++ (decimal new.goal.0 ++ (codes " rule " ++ (decimal new.key.rule ++ (with_values (map printed new.key.values ++ map decimal new.key.times) ++ (10 ∷ rest)))))
goal_apart new rest =
    let g = decimal new.goal.0 in
    let r = decimal new.key.rule in
    let w = with_values (map printed new.key.values ++ map decimal new.key.times) in
    append_assoc (codes "goal " ++ g ++ codes " rule " ++ r ++ w) (codes "\n") rest
    ∙ append_assoc (codes "goal " ++ g ++ codes " rule " ++ r) w (10 ∷ rest)
    ∙ append_assoc (codes "goal " ++ g ++ codes " rule ") r (w ++ (10 ∷ rest))
    ∙ append_assoc (codes "goal " ++ g) (codes " rule ") (r ++ (w ++ (10 ∷ rest)))
    ∙ append_assoc (codes "goal ") g (codes " rule " ++ (r ++ (w ++ (10 ∷ rest))))

with_stops : (pieces : List (List ℕ)) (rest : List ℕ) → Stops is_ascii_digit (with_values pieces ++ (10 ∷ rest))
with_stops [] rest = refl
with_stops (x ∷ pieces) rest = refl

-- the key has time k, and as many values as its rule shares
record IsOfRule (text : Text) (k : ℕ) (key : GoalKey) : Type 0 where
  time : key.time ≡ k
  rule : Rule
  of_text : numbered (rules text) key.rule ≡ Some rule
  count : length key.values ≡ length (shared_values rule)

module _ (text : Text) (k : ℕ) where
  abbrev IsLineGoal : NewGoal → Type 0
  IsLineGoal new = IsGroundGoal new × IsOfRule text k new.key

  as_many : (one other : GoalKey) → IsOfRule text k one → IsOfRule text k other → one.rule ≡ other.rule → length one.values ≡ length other.values
  as_many one other g h e =
      let same : g.rule ≡ h.rule = numbered_one (rules text) other.rule g.rule h.rule (subst (λ n. numbered (rules text) n ≡ Some g.rule) e g.of_text) h.of_text in
      g.count ∙ ap (λ rule. length (shared_values rule)) same ∙ sym h.count

  same_goal : (p q : NewGoal) → IsLineGoal p → IsLineGoal q → (rest after : List ℕ) → goal_line p ++ rest ≡ goal_line q ++ after → (p ≡ q) × (rest ≡ after)
  same_goal p q g h rest after e =
      let keys = with_values (map printed p.key.values ++ map decimal p.key.times) ++ (10 ∷ rest) in
      let others = with_values (map printed q.key.values ++ map decimal q.key.times) ++ (10 ∷ after) in
      let one = codes " rule " ++ (decimal p.key.rule ++ keys) in
      let other = codes " rule " ++ (decimal q.key.rule ++ others) in
      let apart = cancel_front (codes "goal ") (decimal p.goal.0 ++ one) (decimal q.goal.0 ++ other) (sym (goal_apart p rest) ∙ e ∙ goal_apart q after) in
      let goal = same_number p.goal.0 q.goal.0 one other g.0.goal h.0.goal refl refl apart in
      let rule = same_number p.key.rule q.key.rule keys others g.0.rule h.0.rule
      (with_stops (map printed p.key.values ++ map decimal p.key.times) rest) (with_stops (map printed q.key.values ++ map decimal q.key.times) after)
      (cancel_front (codes " rule ") (decimal p.key.rule ++ keys) (decimal q.key.rule ++ others) goal.1) in
      let key = same_key p.key.values q.key.values p.key.times q.key.times (as_many p.key q.key g.1 h.1 rule.0) g.0.values h.0.values g.0.times h.0.times rest after rule.1 in
      let time : p.key.time ≡ q.key.time = g.1.time ∙ sym h.1.time in
      ((λ i. record { goal = record { 0 = goal.0 i }; key = record { rule = rule.0 i; values = key.0 i; times = key.1 i; time = time i } }), key.2)

-- ---- closed goals

-- whether a line of a closed goal comes next
abbrev pub starts_closed : List ℕ → Bool
starts_closed [] = false
starts_closed (byte ∷ bytes) = (byte == 115) || (byte == 102) || ((byte == 99) && (head_or 0 bytes == 117))

closed_begins : (n : ℕ) (how : Closed) (rest : List ℕ) → starts_closed (closed_line (record { 0 = n }, how) ++ rest) ≡ true
closed_begins n c.Solved rest = refl
closed_begins n c.Failed rest = refl
closed_begins n c.Cut rest = refl

closed_apart : (goal : GoalId × Closed) (rest : List ℕ) → closed_line goal ++ rest ≡ closed_word goal.1 ++ (decimal goal.0.0 ++ (10 ∷ rest))
closed_apart goal rest = append_assoc (closed_word goal.1 ++ decimal goal.0.0) (codes "\n") rest ∙ append_assoc (closed_word goal.1) (decimal goal.0.0) (10 ∷ rest)

same_word : (how other : Closed) (rest after : List ℕ) → closed_word how ++ rest ≡ closed_word other ++ after → (how ≡ other) × (rest ≡ after)
same_word c.Solved c.Solved rest after e = (refl, cancel_front (codes "solved ") rest after e)
same_word c.Failed c.Failed rest after e = (refl, cancel_front (codes "failed ") rest after e)
same_word c.Cut c.Cut rest after e = (refl, cancel_front (codes "cut ") rest after e)
same_word c.Solved c.Failed rest after e = let first : 115 ≡ 102 = ap (head_or 0) e in absurd (omega (arith, first))
same_word c.Solved c.Cut rest after e = let first : 115 ≡ 99 = ap (head_or 0) e in absurd (omega (arith, first))
same_word c.Failed c.Solved rest after e = let first : 102 ≡ 115 = ap (head_or 0) e in absurd (omega (arith, first))
same_word c.Failed c.Cut rest after e = let first : 102 ≡ 99 = ap (head_or 0) e in absurd (omega (arith, first))
same_word c.Cut c.Solved rest after e = let first : 99 ≡ 115 = ap (head_or 0) e in absurd (omega (arith, first))
same_word c.Cut c.Failed rest after e = let first : 99 ≡ 102 = ap (head_or 0) e in absurd (omega (arith, first))

abbrev IsSmallGoal : GoalId × Closed → Type 0
IsSmallGoal goal = goal.0.0 < 2 ^ 64

same_closed : (p q : GoalId × Closed) → IsSmallGoal p → IsSmallGoal q → (rest after : List ℕ) → closed_line p ++ rest ≡ closed_line q ++ after → (p ≡ q) × (rest ≡ after)
same_closed p q small low rest after e =
    let word = same_word p.1 q.1 (decimal p.0.0 ++ (10 ∷ rest)) (decimal q.0.0 ++ (10 ∷ after)) (sym (closed_apart p rest) ∙ e ∙ closed_apart q after) in
    let number = same_number p.0.0 q.0.0 (10 ∷ rest) (10 ∷ after) small low refl refl word.1 in
    ((λ i. (record { 0 = number.0 i }, word.0 i)), ap tail number.1)

-- ---- blocks

-- whether a line of a new goal comes next
abbrev pub starts_goal : List ℕ → Bool
starts_goal [] = false
starts_goal (byte ∷ bytes) = byte == 103

-- no line of a new or closed goal comes next, so a block may end before these bytes
abbrev pub MayFollow : List ℕ → Type 0
MayFollow rest = (starts_goal rest ≡ false) × (starts_closed rest ≡ false)

closed_stops : (closed : List (GoalId × Closed)) (rest : List ℕ) → starts_goal rest ≡ false → starts_goal (flat_map closed_line closed ++ rest) ≡ false
closed_stops [] rest stops = stops
closed_stops (goal ∷ closed) rest stops = word_stops goal.1 where
  word_stops : (how : Closed) → starts_goal (((closed_word how ++ decimal goal.0.0 ++ codes "\n") ++ flat_map closed_line closed) ++ rest) ≡ false
  word_stops c.Solved = refl
  word_stops c.Failed = refl
  word_stops c.Cut = refl

same_goals : (text : Text) (k : ℕ) (created others : List NewGoal) (closed gone : List (GoalId × Closed)) → AllByRecursion (IsLineGoal text k) created → AllByRecursion (IsLineGoal text k) others →
    AllByRecursion IsSmallGoal closed → AllByRecursion IsSmallGoal gone → (rest after : List ℕ) → MayFollow rest → MayFollow after →
    flat_map goal_line created ++ (flat_map closed_line closed ++ rest) ≡ flat_map goal_line others ++ (flat_map closed_line gone ++ after) → (created ≡ others) × (closed ≡ gone) × (rest ≡ after)
same_goals text k created others closed gone g h small low rest after stops ends e =
    let new = same_lines (IsLineGoal text k) goal_line starts_goal (λ x bytes. refl) (same_goal text k) created others g h
    (flat_map closed_line closed ++ rest) (flat_map closed_line gone ++ after) (closed_stops closed rest stops.0) (closed_stops gone after ends.0) e in
    let old = same_lines IsSmallGoal closed_line starts_closed (λ goal bytes. closed_begins goal.0.0 goal.1 bytes) same_closed closed gone small low rest after stops.1 ends.1 new.1 in
    (new.0, old.0, old.1)

module _ (text : Text) (level : List ℕ → ℕ) (depth : ℕ) (trace : Trace) (k : ℕ) (block : Block) (h : IsBlockOf text level depth trace k block) where
  of_rule : (new : NewGoal) → Contains block.created new → IsOfRule text k new.key
  of_rule new among =
      let is = (h.created.exact new.goal.0 new.key).0 among in
      let goal = ((h.goals.exact new.key).0 (number_contained h.keys new.goal.0 new.key is.0)).1 in
      record {
        time = is.1;
        rule = goal.rule;
        of_text = goal.of_text;
        count = sym (ap length goal.instance.of_key.values) ∙ length-map (shared_values goal.rule) (goal.instance.values 0);
      }

  line_goals : (created : List NewGoal) → ((new : NewGoal) → Contains created new → Contains block.created new) → AllByRecursion IsGroundGoal created → AllByRecursion (IsLineGoal text k) created
  line_goals [] within g = tt
  line_goals (new ∷ created) within g =
      ((g.0, of_rule new (within new (first_is_contained new created))), line_goals created (λ x among. within x (later_is_contained new created x among)) g.1)

end_before : (block : Block) (rest : List ℕ) → block_end block ++ rest
    ≡ codes "state" ++ (listed_from false block.facts ++ (10 ∷ (flat_map goal_line block.created ++ (flat_map closed_line block.closed ++ rest))))
end_before block rest =
    let goals = flat_map goal_line block.created in
    let closed = flat_map closed_line block.closed in
    ap (λ bytes. codes "state" ++ bytes) (append_assoc (listed_from false block.facts) (10 ∷ (goals ++ closed)) rest)
    ∙ ap (λ bytes. codes "state" ++ (listed_from false block.facts ++ (10 ∷ bytes))) (append_assoc goals closed rest)

-- blocks of one number, before bytes with which neither goes on
pub block_told_before : (text : Text) (level : List ℕ → ℕ) (depth : ℕ) (trace other : Trace) (k : ℕ) (block another : Block) →
    IsBlockOf text level depth trace k block → IsBlockOf text level depth other k another → IsGroundBlock block → IsGroundBlock another →
    (rest after : List ℕ) → MayFollow rest → MayFollow after → block_text k block ++ rest ≡ block_text k another ++ after → (block ≡ another) × (rest ≡ after)
block_told_before text level depth trace other k block another is same_is g h rest after stops ends e =
    let cycle = same_cycle k block another g.paired h.paired g.cycle h.cycle rest after e in
    let goals = flat_map goal_line block.created ++ (flat_map closed_line block.closed ++ rest) in
    let others = flat_map goal_line another.created ++ (flat_map closed_line another.closed ++ after) in
    let facts = same_facts block.facts another.facts g.facts h.facts goals others
    (cancel_front (codes "state") (listed_from false block.facts ++ (10 ∷ goals)) (listed_from false another.facts ++ (10 ∷ others)) (sym (end_before block rest) ∙ cycle.1 ∙ end_before another after)) in
    let lines = same_goals text k block.created another.created block.closed another.closed
    (line_goals text level depth trace k block is block.created (λ x among. among) g.created)
    (line_goals text level depth other k another same_is another.created (λ x among. among) h.created) g.closed h.closed rest after stops ends facts.1 in
    ((λ i. record { cycle = cycle.0 i; facts = facts.0 i; created = lines.0 i; closed = lines.1 i }), lines.2)

pub block_told : (text : Text) (level : List ℕ → ℕ) (depth : ℕ) (trace other : Trace) (k : ℕ) (block another : Block) →
    IsBlockOf text level depth trace k block → IsBlockOf text level depth other k another → IsGroundBlock block → IsGroundBlock another →
    block_text k block ≡ block_text k another → block ≡ another
block_told text level depth trace other k block another is same_is g h e =
    (block_told_before text level depth trace other k block another is same_is g h [] [] (refl, refl) (refl, refl) (ap (λ bytes. bytes ++ []) e)).0
