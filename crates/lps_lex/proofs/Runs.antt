-- Runs at the front of bytes.
use Rattle.std.specs.Prelude.{ℕ, suc, ◌≡◌, ◌<◌, ◌≤◌, Bool, true, false, ◌&&◌, List, [], ◌∷◌, ◌++◌, length, take, drop, cond, refl}
use Rattle.std.specs.List.{list_all, take_while}
use Rattle.std.proofs.Common.{◌∙◌, sym, ap, subst, arith}
use Rattle.std.proofs.lemmas.List.Sums.{take_while-cons}
use Rattle.lps_lex.specs.Forms.{Stops}
use Rattle.lps_lex.proofs.Bytes.{both}

take_run_if : (test : ℕ → Bool) (byte : ℕ) (bytes : List ℕ) (passes : Bool) → take (length (take_while test bytes)) bytes ≡ take_while test bytes →
    take (length (cond passes (byte ∷ take_while test bytes) [])) (byte ∷ bytes) ≡ cond passes (byte ∷ take_while test bytes) []
take_run_if test byte bytes true e = ap (λ run. byte ∷ run) e
take_run_if test byte bytes false e = refl

-- a run is what its length takes
pub take_run : (test : ℕ → Bool) (bytes : List ℕ) → take (length (take_while test bytes)) bytes ≡ take_while test bytes
take_run test [] = refl
take_run test (byte ∷ bytes) =
    subst (λ run. take (length run) (byte ∷ bytes) ≡ run) (sym (take_while-cons test byte bytes)) (take_run_if test byte bytes (test byte) (take_run test bytes))

run_within_if : (test : ℕ → Bool) (byte : ℕ) (bytes : List ℕ) (passes : Bool) → length (take_while test bytes) ≤ length bytes →
    length (cond passes (byte ∷ take_while test bytes) []) ≤ suc (length bytes)
run_within_if test byte bytes true e = omega arith
run_within_if test byte bytes false e = omega arith

-- a run is no longer than the bytes
pub run_within : (test : ℕ → Bool) (bytes : List ℕ) → length (take_while test bytes) ≤ length bytes
run_within test [] = omega arith
run_within test (byte ∷ bytes) =
    subst (λ run. length run ≤ suc (length bytes)) (sym (take_while-cons test byte bytes)) (run_within_if test byte bytes (test byte) (run_within test bytes))

cond_some : (passes : Bool) (byte : ℕ) (bytes : List ℕ) → passes ≡ true → 0 < length (cond passes (byte ∷ bytes) [])
cond_some true byte bytes e = omega arith
cond_some false byte bytes e = absurd cc

-- a run that has begun is not empty
pub run_some : (test : ℕ → Bool) (byte : ℕ) (bytes : List ℕ) → test byte ≡ true → 0 < length (take_while test (byte ∷ bytes))
run_some test byte bytes e = subst (λ run. 0 < length run) (sym (take_while-cons test byte bytes)) (cond_some (test byte) byte (take_while test bytes) e)

-- a run that has begun has its first byte in front
pub run-cons : (test : ℕ → Bool) (byte : ℕ) (bytes : List ℕ) → test byte ≡ true → take_while test (byte ∷ bytes) ≡ byte ∷ take_while test bytes
run-cons test byte bytes begins = take_while-cons test byte bytes ∙ ap (λ passes. cond passes (byte ∷ take_while test bytes) []) begins

run-nil : (test : ℕ → Bool) (byte : ℕ) (bytes : List ℕ) → test byte ≡ false → take_while test (byte ∷ bytes) ≡ []
run-nil test byte bytes fails = take_while-cons test byte bytes ∙ ap (λ passes. cond passes (byte ∷ take_while test bytes) []) fails

-- each byte of a run passes
pub run_all : (test : ℕ → Bool) (bytes : List ℕ) → list_all test (take_while test bytes) ≡ true
run_all test [] = refl
run_all test (byte ∷ bytes) = run_all_if (test byte) refl (run_all test bytes) where
  run_all_if : (passes : Bool) → test byte ≡ passes → list_all test (take_while test bytes) ≡ true → list_all test (take_while test (byte ∷ bytes)) ≡ true
  run_all_if true e all = subst (λ run. list_all test run ≡ true) (sym (run-cons test byte bytes e)) (ap (λ passes. passes && list_all test (take_while test bytes)) e ∙ all)
  run_all_if false e all = subst (λ run. list_all test run ≡ true) (sym (run-nil test byte bytes e)) refl

-- what a run leaves
abbrev pub behind : (ℕ → Bool) → List ℕ → List ℕ
behind test bytes = drop (length (take_while test bytes)) bytes

-- a run stops
pub run_stops : (test : ℕ → Bool) (bytes : List ℕ) → Stops test (behind test bytes)
run_stops test [] = tt
run_stops test (byte ∷ bytes) = run_stops_if (test byte) refl (run_stops test bytes) where
  run_stops_if : (passes : Bool) → test byte ≡ passes → Stops test (behind test bytes) → Stops test (behind test (byte ∷ bytes))
  run_stops_if true e stops = subst (λ run. Stops test (drop (length run) (byte ∷ bytes))) (sym (run-cons test byte bytes e)) stops
  run_stops_if false e stops = subst (λ run. Stops test (drop (length run) (byte ∷ bytes))) (sym (run-nil test byte bytes e)) e

-- the bytes are the run and what it leaves
pub run_split : (test : ℕ → Bool) (bytes : List ℕ) → bytes ≡ take_while test bytes ++ behind test bytes
run_split test [] = refl
run_split test (byte ∷ bytes) = run_split_if (test byte) refl (run_split test bytes) where
  run_split_if : (passes : Bool) → test byte ≡ passes → bytes ≡ take_while test bytes ++ behind test bytes → byte ∷ bytes ≡ take_while test (byte ∷ bytes) ++ behind test (byte ∷ bytes)
  run_split_if true e split = subst (λ run. byte ∷ bytes ≡ run ++ drop (length run) (byte ∷ bytes)) (sym (run-cons test byte bytes e)) (ap (λ rest. byte ∷ rest) split)
  run_split_if false e split = subst (λ run. byte ∷ bytes ≡ run ++ drop (length run) (byte ∷ bytes)) (sym (run-nil test byte bytes e)) refl

-- bytes that pass, before what stops, are the run
pub run_is : (test : ℕ → Bool) (run rest : List ℕ) → list_all test run ≡ true → Stops test rest → take_while test (run ++ rest) ≡ run
run_is test [] [] all stops = refl
run_is test [] (next ∷ rest) all stops = run-nil test next rest stops
run_is test (byte ∷ run) rest all stops =
    let parts = both (test byte) (list_all test run) all in
    run-cons test byte (run ++ rest) parts.0 ∙ ap (λ more. byte ∷ more) (run_is test run rest parts.1 stops)
