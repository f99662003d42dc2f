-- The text of a list of arguments as it grows, and what stands in front of it.
use Rattle.std.specs.Prelude.{ℕ, OnErr, Result, Ok, Err, zero, suc, ◌+◌, ◌≡◌, List, [], ◌∷◌, ◌++◌, map, refl, ◌<◌, length, codes}
use Rattle.std.proofs.Common.{◌∙◌, ap, sym, append_assoc, append-nil, take, drop, get_or, arith}
use Rattle.std.proofs.lemmas.List.{take_more, map-append, take-append-drop}
use Rattle.std.proofs.Math.Seq.{take-append_seam}
use Rattle.std.proofs.lemmas.Bool.Decides.{nat_tests}
use Rattle.lps_terms.specs.declared.term.Term.{Term}
use Rattle.lps_terms.specs.Printed.{led, separated, separator, printed}

led-append : (xs ys : List (List ℕ)) → led (xs ++ ys) ≡ led xs ++ led ys
led-append [] ys = refl
led-append (x ∷ xs) ys = ap (λ r. codes ", " ++ (x ++ r)) (led-append xs ys) ∙ ap (λ r. codes ", " ++ r) (sym (append_assoc x (led xs) (led ys)))

separated-push : (x : List ℕ) (xs : List (List ℕ)) (y : List ℕ) → separated ((x ∷ xs) ++ y ∷ []) ≡ separated (x ∷ xs) ++ (codes ", " ++ y)
separated-push x xs y =
    ap (λ r. x ++ r) (led-append xs (y ∷ []) ∙ ap (λ r. led xs ++ (codes ", " ++ r)) (append-nil y)) ∙ sym (append_assoc x (led xs) (codes ", " ++ y))

separator-suc : (i : ℕ) → separator (suc i) ≡ codes ", "
separator-suc i = grind (arith, nat_tests)

-- one piece more after the first
pub led_more : (pieces : List (List ℕ)) (i : ℕ) (d : List ℕ) → i < length pieces → led (take (i + 1) pieces) ≡ led (take i pieces) ++ (codes ", " ++ get_or pieces i d)
led_more pieces i d h =
    ap led (take_more pieces i d h) ∙ led-append (take i pieces) (get_or pieces i d ∷ [])
    ∙ ap (λ r. led (take i pieces) ++ (codes ", " ++ r)) (append-nil (get_or pieces i d))

-- one argument more
pub printed_more : (ts : List Term) (i : ℕ) (d : Term) → i < length ts →
    separated (map printed (take (i + 1) ts)) ≡ separated (map printed (take i ts)) ++ (separator i ++ printed (get_or ts i d))
printed_more [] i d h = absurd (omega arith)
printed_more (x ∷ xs) zero d h = append-nil (printed x)
printed_more (x ∷ xs) (suc i) d h =
    ap (λ us. separated (map printed us)) (take_more (x ∷ xs) (suc i) d h)
    ∙ ap (λ ps. separated (printed x ∷ ps)) (map-append printed (take i xs) (get_or xs i d ∷ []))
    ∙ separated-push (printed x) (map printed (take i xs)) (printed (get_or xs i d))
    ∙ ap (λ s. separated (map printed (x ∷ take i xs)) ++ (s ++ printed (get_or xs i d))) (sym (separator-suc i))

-- what stands in front of a list stands in front of all that begins with the list
pub front_more : (xs ys whole zs : List ℕ) → whole ≡ xs ++ ys → take (length whole) zs ≡ whole → take (length xs) zs ≡ xs
front_more xs ys whole zs e h =
    let rest = drop (length whole) zs in
    let split : zs ≡ xs ++ (ys ++ rest) = sym (take-append-drop (length whole) zs) ∙ ap (λ w. w ++ rest) (h ∙ e) ∙ append_assoc xs ys rest in
    ap (take (length xs)) split ∙ take-append_seam xs (ys ++ rest)

-- five lists, one after the other
pub five : (a b c d e : List ℕ) → a ++ b ++ c ++ d ++ e ≡ a ++ (b ++ (c ++ (d ++ e)))
five a b c d e = append_assoc (a ++ b ++ c) d e ∙ append_assoc (a ++ b) c (d ++ e) ∙ append_assoc a b (c ++ (d ++ e))

pub on_err : {T E P : Type 0} (r : Result T E) → P → OnErr r P
on_err (Ok value) p = tt
on_err (Err error) p = p
