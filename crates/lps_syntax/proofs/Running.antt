-- Running, one token more; and what running says of what is spelled.
use Rattle.std.specs.Prelude.{ℕ, ◌≡◌, ◌+◌, ◌<◌, List, [], ◌∷◌, ◌++◌, Option, Some, None, refl, length, take}
use Rattle.std.proofs.Common.{◌∙◌, sym, ap, get_or}
use Rattle.std.proofs.lemmas.List.{take_more}
use Rattle.lps_grammar.specs.declared.tok.Tok.{Tok}
use Rattle.lps_syntax.specs.declared.frame.Frame.{Frame}
use Rattle.lps_syntax.specs.Runs.{run, step, then_on}

-- ---- running

then_same : (o : Option (List Frame)) (go to : List Frame → Option (List Frame)) → ((u : List Frame) → go u ≡ to u) → then_on o go ≡ then_on o to
then_same None go to e = refl
then_same (Some u) go to e = e u

then_go : (o : Option (List Frame)) (go : List Frame → Option (List Frame)) (more : List Tok) →
    then_on (then_on o go) (λ v. run v more) ≡ then_on o (λ u. then_on (go u) (λ v. run v more))
then_go None go more = refl
then_go (Some u) go more = refl

run_append : (ts : List Tok) (s : List Frame) (more : List Tok) → run s (ts ++ more) ≡ then_on (run s ts) (λ v. run v more)
run_append [] s more = refl
run_append (t ∷ ts) s more = then_same (step s t) (λ u. run u (ts ++ more)) (λ u. then_on (run u ts) (λ v. run v more)) (λ u. run_append ts u more)
    ∙ sym (then_go (step s t) (λ u. run u ts) more)

one_step : (o : Option (List Frame)) → then_on o (λ u. run u []) ≡ o
one_step None = refl
one_step (Some u) = refl

-- one token more
pub run_more : (s : List Frame) (ts : List Tok) (i : ℕ) (t : Tok) (u : List Frame) → i < length ts → t ≡ get_or ts i t → run s (take i ts) ≡ Some u →
    run s (take (i + 1) ts) ≡ step u t
run_more s ts i t u h is e =
    ap (run s) (take_more ts i t h ∙ ap (λ x. take i ts ++ x ∷ []) (sym is)) ∙ run_append (take i ts) s (t ∷ [])
    ∙ ap (λ o. then_on o (λ v. run v (t ∷ []))) e ∙ one_step (step u t)

-- ---- what is spelled

module _ (X : Type 0) (spell : X → List Tok) (start done : List Frame) (through : (x : X) → run start (spell x) ≡ Some done) where
  abbrev Spelled : List Tok → Type 0
  Spelled ts = (x : X) × (ts ≡ spell x)

  pub spelled_runs : (ts : List Tok) → Spelled ts → run start ts ≡ Some done
  spelled_runs ts x = ap (run start) x.1 ∙ through x.0

  pub none_begins : (ts : List Tok) → run start ts ≡ None → (more : List Tok) × Spelled (ts ++ more) → ⊥
  none_begins ts e b =
      let there : Some done ≡ run start (ts ++ b.0) = sym (spelled_runs (ts ++ b.0) b.1) in
      let gone : run start (ts ++ b.0) ≡ None = run_append ts start b.0 ∙ ap (λ o. then_on o (λ v. run v b.0)) e in
      absurd cc

  pub none_spelled : (ts : List Tok) (u : List Frame) → run start ts ≡ Some u → (u ≡ done → ⊥) → Spelled ts → ⊥
  none_spelled ts u e other x = let same : Some u ≡ Some done = sym e ∙ spelled_runs ts x in other cc

  abbrev Runs : Option (List Frame) → Type 0
  Runs o = (u : List Frame) × (o ≡ Some u)

  runs_if : (o : Option (List Frame)) → (o ≡ None → ⊥) → Runs o
  runs_if None h = absurd (h refl)
  runs_if (Some u) h = (u, refl)

  pub begun_runs : (ts : List Tok) → (more : List Tok) × Spelled (ts ++ more) → (u : List Frame) × (run start ts ≡ Some u)
  begun_runs ts b = runs_if (run start ts) (λ e. none_begins ts e b)
