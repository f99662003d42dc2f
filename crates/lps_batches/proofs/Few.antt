-- A line that is a batch has no more events than a line may have.
use Rattle.std.specs.Prelude.{ℕ, suc, ◌+◌, ◌≡◌, ◌≤◌, Bool, false, List, [], ◌∷◌, length, All, refl}
use Rattle.std.proofs.Common.{◌∙◌, sym, ap, subst, arith, append-nil}
use Rattle.std.proofs.lemmas.List.{take_all}
use Rattle.std.proofs.lemmas.List.Elements.{All-head, All-tail}
use Rattle.lps_terms.specs.declared.atom.Atom.{Atom}
use Rattle.lps_model.specs.declared.batch.Batch.{Batch}
use Rattle.lps_grammar.specs.declared.tok.Tok.{Tok}
use Rattle.lps_grammar.specs.Terms as te
use Rattle.lps_grammar.specs.Lines as li
use Rattle.lps_grammar.specs.Sizes as sz
use Rattle.lps_build.specs.Meaning.{events_of, line_of, more_events_of}
use Rattle.lps_batches.specs.Lines.{SpellsBatch}

-- ---- there is a count for each token

leaf_size : {vars : Bool} (x : te.Leaf vars) (n : ℕ) (counts : List ℕ) (toks : List Tok) → length counts ≡ length toks → length (sz.begun_leaf x n counts) ≡ length (te.spell_leaf x toks)
leaf_size (te.variable may v) n counts toks e = ap suc e
leaf_size (te.number v small) n counts toks e = ap suc e
leaf_size (te.negative v small) n counts toks e = ap (λ k. suc (suc k)) e

mutual
  term_size : {vars : Bool} (x : te.Term vars) (n : ℕ) (counts : List ℕ) (toks : List Tok) → length counts ≡ length toks → length (sz.begun_term x n counts) ≡ length (te.spell_term x toks)
  term_size (te.named v xs) n counts toks e = ap suc (args_size xs n counts toks e)
  term_size (te.leaf x) n counts toks e = leaf_size x n counts toks e

  args_size : {vars : Bool} (x : te.Args vars) (n : ℕ) (counts : List ℕ) (toks : List Tok) → length counts ≡ length toks → length (sz.begun_args x n counts) ≡ length (te.spell_args x toks)
  args_size te.bare n counts toks e = e
  args_size (te.args x xs) n counts toks e = ap suc (term_size x n (sz.begun_terms xs n counts) (te.spell_terms xs toks) (terms_size xs n counts toks e))

  terms_size : {vars : Bool} {m : ℕ} (x : te.Terms vars m) (n : ℕ) (counts : List ℕ) (toks : List Tok) → length counts ≡ length toks → length (sz.begun_terms x n counts) ≡ length (te.spell_terms x toks)
  terms_size te.end n counts toks e = ap suc e
  terms_size (te.more x xs) n counts toks e = ap (λ k. suc k) (term_size x n (sz.begun_terms xs n counts) (te.spell_terms xs toks) (terms_size xs n counts toks e))

event_size : (x : te.Atom false) (n : ℕ) (counts : List ℕ) (toks : List Tok) → length counts ≡ length toks → length (sz.begun_event x n counts) ≡ length (te.spell_atom x toks)
event_size (te.atom v xs) n counts toks e = ap suc (args_size xs (n + 1) counts toks e)

more_size : (x : li.MoreEvents) (n : ℕ) (counts : ℕ → List ℕ) (toks : List Tok) → ((m : ℕ) → length (counts m) ≡ length toks) → length (sz.begun_more_events x n counts) ≡ length (li.spell_more_events x toks)
more_size li.no_event n counts toks e = e n
more_size (li.also_event x xs) n counts toks e = ap suc (event_size x n _ _ (more_size xs (n + 1) counts toks e))

events_size : (x : li.Events) (counts : ℕ → List ℕ) (toks : List Tok) → ((m : ℕ) → length (counts m) ≡ length toks) → length (sz.begun_events x counts) ≡ length (li.spell_events x toks)
events_size li.none counts toks e = e 0
events_size (li.events x xs) counts toks e = event_size x 0 _ _ (more_size xs 1 counts toks e)

line_size : (x : li.Line) → length (sz.begun_line x) ≡ length (li.spell_line x [])
line_size (li.line v xs) = ap (λ k. suc (suc k)) (events_size xs (λ n. n ∷ []) _ (λ m. refl))

-- ---- the last count is that of all events

abbrev Few : List ℕ → Type 0
Few counts = All (λ n. n ≤ 1000) counts

past : (n : ℕ) (counts : List ℕ) → Few (n ∷ counts) → Few counts
past n counts all = All-tail (λ n. n ≤ 1000) n counts all

past_leaf : {vars : Bool} (x : te.Leaf vars) (n : ℕ) (counts : List ℕ) → Few (sz.begun_leaf x n counts) → Few counts
past_leaf (te.variable may v) n counts all = past n counts all
past_leaf (te.number v small) n counts all = past n counts all
past_leaf (te.negative v small) n counts all = past n counts (past n (n ∷ counts) all)

mutual
  past_term : {vars : Bool} (x : te.Term vars) (n : ℕ) (counts : List ℕ) → Few (sz.begun_term x n counts) → Few counts
  past_term (te.named v xs) n counts all = past_args xs n counts (past n _ all)
  past_term (te.leaf x) n counts all = past_leaf x n counts all

  past_args : {vars : Bool} (x : te.Args vars) (n : ℕ) (counts : List ℕ) → Few (sz.begun_args x n counts) → Few counts
  past_args te.bare n counts all = all
  past_args (te.args x xs) n counts all = past_terms xs n counts (past_term x n _ (past n _ all))

  past_terms : {vars : Bool} {m : ℕ} (x : te.Terms vars m) (n : ℕ) (counts : List ℕ) → Few (sz.begun_terms x n counts) → Few counts
  past_terms te.end n counts all = past n counts all
  past_terms (te.more x xs) n counts all = past_terms xs n counts (past_term x n _ (past n _ all))

past_event : (x : te.Atom false) (n : ℕ) (counts : List ℕ) → Few (sz.begun_event x n counts) → Few counts
past_event (te.atom v xs) n counts all = past_args xs (n + 1) counts (past (n + 1) _ all)

past_more : (x : li.MoreEvents) (n : ℕ) (counts : ℕ → List ℕ) → Few (sz.begun_more_events x n counts) → Few (counts (n + length (more_events_of x)))
past_more li.no_event n counts all = subst (λ m. Few (counts m)) (let e : n ≡ n + 0 = omega arith in e) all
past_more (li.also_event x xs) n counts all =
    subst (λ m. Few (counts m)) (let e : n + 1 + length (more_events_of xs) ≡ n + suc (length (more_events_of xs)) = omega arith in e)
    (past_more xs (n + 1) counts (past_event x n _ (past n _ all)))

past_events : (x : li.Events) (counts : ℕ → List ℕ) → Few (sz.begun_events x counts) → Few (counts (length (events_of x)))
past_events li.none counts all = all
past_events (li.events x xs) counts all = subst (λ m. Few (counts m)) (let e : 1 + length (more_events_of xs) ≡ suc (length (more_events_of xs)) = omega arith in e) (past_more xs 1 counts (past_event x 0 _ all))

few_events : (x : li.Line) → Few (sz.begun_line x) → length ((line_of x).1) ≤ 1000
few_events (li.line v xs) all = All-head (λ n. n ≤ 1000) (length (events_of xs)) [] (past_events xs (λ n. n ∷ []) (past 0 (sz.begun_events xs (λ n. n ∷ [])) (past 0 (0 ∷ sz.begun_events xs (λ n. n ∷ [])) all)))

pub batch_few : (line : List ℕ) (batch : Batch) → SpellsBatch line batch → length batch.events ≤ 1000
batch_few line batch is =
    let toks = li.spell_line is.tree [] in
    let few = is.accepted.1.0 is.tree [] (append-nil _ ∙ is.spells) in
    let all : Few (sz.begun_line is.tree) = subst Few (take_all _ (sz.begun_line is.tree) (let size = line_size is.tree in let same = ap length is.spells in omega (arith, size, same))) few in
    subst (λ (events : List Atom). length events ≤ 1000) (sym (ap (λ (p : ℕ × List Atom). p.1) is.means)) (few_events is.tree all)
