-- Texts that are printed one after the other, and pieces of a block.
use Rattle.std.proofs.Common.{ℕ, ◌≡◌, Bool, true, false, List, [], ◌∷◌, ◌++◌, refl, sym, ap, ◌∙◌, append_assoc, map}
use Rattle.std.specs.Prelude.{codes, IsTrue, not, ◌↔◌}
use Rattle.std.specs.Fmt.{decimal}
use Rattle.lps_terms.specs.declared.term.Term.{Term}
use Rattle.lps_terms.specs.Printed.{led, printed, separated}
use Rattle.lps_meaning.specs.Reports.{with_values}
use Rattle.lps_report.specs.Listed.{led_from}

-- ---- texts behind their leads

later_are_led : (first : List ℕ) (pieces : List (List ℕ)) → led_from first true pieces ≡ led pieces
later_are_led first [] = refl
later_are_led first (piece ∷ pieces) = ap (λ (bs : List ℕ). codes ", " ++ (piece ++ bs)) (later_are_led first pieces)

-- with nothing before the first, texts have a comma and a space between each two
pub are_separated : (pieces : List (List ℕ)) → led_from [] false pieces ≡ separated pieces
are_separated [] = refl
are_separated (piece ∷ pieces) = ap (λ (bs : List ℕ). piece ++ bs) (later_are_led [] pieces)

are_values : (pieces : List (List ℕ)) → led_from (codes " with ") false pieces ≡ with_values pieces
are_values [] = refl
are_values (piece ∷ pieces) = ap (λ (bs : List ℕ). codes " with " ++ (piece ++ bs)) (later_are_led (codes " with ") pieces)

later_of_both : (first : List ℕ) (xs ys : List (List ℕ)) → led_from first true (xs ++ ys) ≡ led_from first true xs ++ led_from first true ys
later_of_both first [] ys = refl
later_of_both first (x ∷ xs) ys =
    ap (λ (bs : List ℕ). codes ", " ++ (x ++ bs)) (later_of_both first xs ys) ∙ ap (λ (bs : List ℕ). codes ", " ++ bs) (sym (append_assoc x (led_from first true xs) (led_from first true ys)))
    ∙ sym (append_assoc (codes ", ") (x ++ led_from first true xs) (led_from first true ys))

-- the values of a key, and behind them its times
pub key_values : (values : List Term) (times : List ℕ) (empty : Bool) → IsTrue empty ↔ (values ≡ []) →
    led_from (codes " with ") false (map printed values) ++ led_from (codes " with ") (not empty) (map decimal times) ≡ with_values (map printed values ++ map decimal times)
key_values [] times true none = are_values (map decimal times)
key_values [] times false none = absurd (let holds = none.1 refl in cc)
key_values (value ∷ values) times true none = absurd (let holds = none.0 refl in cc)
key_values (value ∷ values) times false none =
    let first : List ℕ = codes " with " in
    let rest : List ℕ = led_from first true (map printed values) in
    let more : List ℕ = led_from first true (map decimal times) in
    append_assoc first (printed value ++ rest) more
    ∙ ap (λ (bs : List ℕ). first ++ bs) (append_assoc (printed value) rest more ∙ ap (λ (bs : List ℕ). printed value ++ bs) (sym (later_of_both first (map printed values) (map decimal times))))
    ∙ are_values (map printed (value ∷ values) ++ map decimal times)

-- ---- one piece behind the other

pub block_pieces : (out cycle number feed verdicts picks word state end created closed : List ℕ) →
    out ++ (cycle ++ number ++ feed) ++ verdicts ++ picks ++ (word ++ state ++ end) ++ created ++ closed
    ≡ out ++ (cycle ++ number ++ feed ++ verdicts ++ picks ++ word ++ state ++ end ++ created ++ closed)
block_pieces out cycle number feed verdicts picks word state end created closed = simp append_assoc
