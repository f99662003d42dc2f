-- What a verdict on the first tokens of a text says of all of them.
use Rattle.std.specs.Prelude.{ℕ, zero, suc, ◌+◌, ◌≡◌, ◌<◌, ◌≤◌, List, [], ◌∷◌, ◌++◌, length, take, drop, Option, Some, None, refl}
use Rattle.std.proofs.Common.{◌∙◌, sym, ap, subst, arith}
use Rattle.std.proofs.lemmas.List.{append-nil, length-take-le, take-append-drop}
use Rattle.lps_terms.specs.declared.read_refused.ReadRefused.TheVariants as refused
use Rattle.lps_lex.specs.declared.token.Token.{Token}
use Rattle.lps_grammar.specs.declared.tok.Tok.{Tok}
use Rattle.lps_grammar.specs.Statements.{BeginsText, IsText}
use Rattle.lps_syntax.specs.declared.text_verdict.TextVerdict.{TextVerdict}
use Rattle.lps_syntax.specs.declared.text_verdict.TextVerdict.TheVariants as t
use Rattle.lps_syntax.specs.Judging.{IsSmallText, IsTextVerdict}
use Rattle.lps_syntax.proofs.Unique.{begins_before, small_before}
use Rattle.lps_reader.specs.Refusing.{IsFirstRefusal, line_at}

-- ---- the first tokens

take_take : (m n : ℕ) (ts : List Tok) → m ≤ n → take m (take n ts) ≡ take m ts
take_take zero n ts low = refl
take_take (suc m) zero ts low = absurd (omega (arith, low))
take_take (suc m) (suc n) [] low = refl
take_take (suc m) (suc n) (x ∷ ts) low = ap (λ (xs : List Tok). x ∷ xs) (take_take m n ts (omega (arith, low)))

split : (m n : ℕ) (ts : List Tok) → m ≤ n → take m ts ++ drop m (take n ts) ≡ take n ts
split m n ts low = ap (λ xs. xs ++ drop m (take n ts)) (sym (take_take m n ts low)) ∙ take-append-drop m (take n ts)

pub begins_first : (m n : ℕ) (ts : List Tok) → m ≤ n → BeginsText (take n ts) → BeginsText (take m ts)
begins_first m n ts low b = begins_before (take m ts) (drop m (take n ts)) (subst BeginsText (sym (split m n ts low)) b)

pub small_first : (m n : ℕ) (ts : List Tok) → m ≤ n → BeginsText (take n ts) → IsSmallText (take n ts) → IsSmallText (take m ts)
small_first m n ts low b small =
    let whole = sym (split m n ts low) in
    small_before (take m ts) (drop m (take n ts)) (subst BeginsText whole b) (subst IsSmallText whole small)

pub begins_whole : (ts : List Tok) → IsText ts → BeginsText ts
begins_whole ts is = ([], subst IsText (sym (append-nil ts)) is)

-- ---- where no variable is too many

nowhere : (at k : ℕ) → None ≡ Some k → at ≤ k
nowhere at k e = absurd cc

pub large_alone : (tokens : List Token) (toks : List Tok) (at line : ℕ) → line ≡ line_at tokens at → IsTextVerdict (t.TooLarge at) toks → IsFirstRefusal (Some (refused.TermTooLarge line)) None tokens toks
large_alone tokens toks at line is (inside, begins, small, large) =
    (at, is, (inside, (begins_first at (at + 1) toks (omega arith) begins, small, nowhere at), begins, (λ e. absurd cc), large))

-- ---- where a variable too many stands at a place

abbrev value : Option ℕ → ℕ
value None = 0
value (Some n) = n

pub some_is : (a b : ℕ) → Some a ≡ Some b → a ≡ b
some_is a b e = ap value e

before_it : (at place : ℕ) → at ≤ place → (k : ℕ) → Some place ≡ Some k → at ≤ k
before_it at place low k e = omega (arith, low, some_is place k e)

pub large_beside : (tokens : List Token) (toks : List Tok) (count place at line : ℕ) → line ≡ line_at tokens at → at < place → place < count → count ≤ length toks → IsTextVerdict (t.TooLarge at) (take count toks) →
    IsFirstRefusal (Some (refused.TermTooLarge line)) (Some place) tokens toks
large_beside tokens toks count place at line is low judged within (inside, begins, small, large) =
    let here = take_take at count toks (omega (arith, low, judged)) in
    let next = take_take (at + 1) count toks (omega (arith, low, judged)) in
    let begun = subst BeginsText next begins in (
      at,
      is,
      (
        omega (arith, low, judged, within),
        (begins_first at (at + 1) toks (omega arith) begun, subst IsSmallText here small, before_it at place (omega (arith, low))),
        begun,
        (λ e. let same = some_is place at e in absurd (omega (arith, low, same))),
        λ s. large (subst IsSmallText (sym next) s),
      ),
    )

-- so many tokens begin a text, and no part of those before the place is too large
crowded_by : (tokens : List Token) (toks : List Tok) (count place line : ℕ) → line ≡ line_at tokens place → place < count → BeginsText (take count toks) → IsSmallText (take place toks) →
    IsFirstRefusal (Some (refused.TooManyVars line)) (Some place) tokens toks
crowded_by tokens toks count place line is low begins small =
    (place, is, (refl, (begins_first place count toks (omega (arith, low)) begins, small, before_it place place (omega arith)), begins_first (place + 1) count toks (omega (arith, low)) begins))

-- the verdict leaves the place as the first
abbrev pub LeavesFirst : TextVerdict → ℕ → Type 0
LeavesFirst (t.Bad at) place = place < at
LeavesFirst (t.TooLarge at) place = place ≤ at
LeavesFirst other place = Unit {0}

pub crowded_beside : (tokens : List Token) (toks : List Tok) (verdict : TextVerdict) (count place line : ℕ) → line ≡ line_at tokens place → LeavesFirst verdict place → place < count → count ≤ length toks →
    IsTextVerdict verdict (take count toks) → IsFirstRefusal (Some (refused.TooManyVars line)) (Some place) tokens toks
crowded_beside tokens toks t.Accepted count place line is first low within (whole, small) =
    let begins = begins_whole (take count toks) whole in
    crowded_by tokens toks count place line is low begins (small_first place count toks (omega (arith, low)) begins small)
crowded_beside tokens toks t.Incomplete count place line is first low within (begins, none, small) =
    crowded_by tokens toks count place line is low begins (small_first place count toks (omega (arith, low)) begins small)
crowded_beside tokens toks (t.Bad at) count place line is first low within (inside, begins, small, bad) =
    let size = length-take-le count toks within in
    let here = take_take at count toks (omega (arith, inside, size)) in
    let begun = subst BeginsText here begins in
    crowded_by tokens toks at place line is first begun (small_first place at toks (omega (arith, first)) begun (subst IsSmallText here small))
crowded_beside tokens toks (t.TooLarge at) count place line is first low within (inside, begins, small, large) =
    let size = length-take-le count toks within in
    let here = take_take at count toks (omega (arith, inside, size)) in
    let next = take_take (at + 1) count toks (omega (arith, inside, size)) in
    let begun = subst BeginsText next begins in
    crowded_by tokens toks (at + 1) place line is (omega (arith, first)) begun
    (small_first place at toks first (begins_first at (at + 1) toks (omega arith) begun) (subst IsSmallText here small))
