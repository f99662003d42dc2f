-- Numbers and names: where a name stands it stays, however many are entered after it.
use Rattle.std.specs.Prelude.{ℕ, suc, ◌≡◌, ◌≤◌, ◌<◌, Bool, true, false, List, [], ◌∷◌, ◌++◌, length, nat_lt, not, codes, slice_get, All, if◌then◌else◌, Some, refl}
use Rattle.std.specs.Str.{bytes_eq}
use Rattle.std.proofs.Common.{◌∙◌, sym, ap, subst, arith, get_or, length-append}
use Rattle.std.proofs.Math.Seq.{get_or-append_seam}
use Rattle.std.proofs.lemmas.Bool.{not-true, not-false, ltb-true, ltb-false}
use Rattle.std.proofs.lemmas.Option.{slice_get-get_or}
use Rattle.std.proofs.lemmas.List.{append-nil, append_assoc, get_or_append_left}
use Rattle.std.proofs.lemmas.List.Sums.{position_or_len_is, prefix_len-le-length, prefix_len_passes, prefix_len_stops}
use Rattle.std.proofs.lemmas.Slice.Eq.{bytes_eq-Decides}
use Rattle.lps_grammar.specs.declared.tok.Tok.{Tok}
use Rattle.lps_grammar.specs.declared.tok.Tok.TheVariants as k
use Rattle.lps_lex.specs.declared.token.Token.{Token}
use Rattle.lps_lex.specs.declared.token_kind.TokenKind.{TokenKind}
use Rattle.lps_lex.specs.declared.token_kind.TokenKind.TheVariants as kind
use Rattle.lps_numbering.specs.declared.names.Names.{Names}
use Rattle.lps_numbering.specs.Laws.{AreEqualWhereAlike, AreNamed, IsNamed, IsNoStop}
use Rattle.lps_numbering.specs.Numbers.{entered, is_full_stop, names_after, names_from, no_names, number_of, place_of, statements_from, text_of, tok_of, toks_from, with_name}

-- ---- places

abbrev is : List ℕ → List ℕ → Bool
is text name = bytes_eq name text

is_itself : (text : List ℕ) → bytes_eq text text ≡ true
is_itself text = (bytes_eq-Decides text text).1 refl

place_within : (names : List (List ℕ)) (text : List ℕ) → place_of names text ≤ length names
place_within names text = prefix_len-le-length (λ name. not (is text name)) names

-- the name at its place is the one that was looked for
at_place : (names : List (List ℕ)) (text : List ℕ) → place_of names text < length names → get_or names (place_of names text) [] ≡ text
at_place names text inside = (bytes_eq-Decides _ text).0 (not-false _ (prefix_len_stops (λ name. not (is text name)) names [] inside))

before_place : (names : List (List ℕ)) (text : List ℕ) (j : ℕ) → j < place_of names text → is text (get_or names j []) ≡ false
before_place names text j before = not-true _ (prefix_len_passes (λ name. not (is text name)) names j [] before)

-- the place of a name that stands there stays
place_stays : (names more : List (List ℕ)) (text : List ℕ) → place_of names text < length names → place_of (names ++ more) text ≡ place_of names text
place_stays names more text inside =
    let n = place_of names text in
    let size = length-append names more in
    position_or_len_is (is text) (names ++ more) n [] (omega (arith, size, inside))
    (λ j before. ap (is text) (get_or_append_left names more [] j (omega (arith, before, inside))) ∙ before_place names text j before)
    (λ _. ap (is text) (get_or_append_left names more [] n inside) ∙ (bytes_eq-Decides _ text).1 (at_place names text inside))

-- the place of a name that is entered last
place_of_last : (names : List (List ℕ)) (text : List ℕ) → place_of names text ≡ length names → place_of (names ++ text ∷ []) text ≡ length names
place_of_last names text new =
    let n = length names in
    let size = length-append names (text ∷ []) in
    position_or_len_is (is text) (names ++ text ∷ []) n [] (omega (arith, size))
    (λ j before. ap (is text) (get_or_append_left names (text ∷ []) [] j before) ∙ before_place names text j (omega (arith, new, before)))
    (λ _. ap (is text) (get_or-append_seam names text [] []) ∙ is_itself text)

-- ---- numbers

number_if : (names : List (List ℕ)) (text : List ℕ) (test : Bool) → bytes_eq text (codes "_") ≡ test → number_of names text ≡ (if test then length names else place_of names text)
number_if names text test e = ap (λ x. if x then length names else place_of names text) e

number_within : (names : List (List ℕ)) (text : List ℕ) → number_of names text ≤ length names
number_within names text = by_test (bytes_eq text (codes "_")) where
  by_test : (test : Bool) → (if test then length names else place_of names text) ≤ length names
  by_test true = omega arith
  by_test false = place_within names text

-- a name after which others were entered
pub record IsEntered (names : List (List ℕ)) (text : List ℕ) (now : List (List ℕ)) : Type 0 where
  pub more : List (List ℕ)
  pub longer : names ++ more ≡ now
  pub inside : number_of names text < length now
  pub there : get_or now (number_of names text) [] ≡ text
  pub place : (text ≡ codes "_" → ⊥) → place_of now text ≡ number_of names text

no_blank : (text : List ℕ) → (text ≡ codes "_" → ⊥) → bytes_eq text (codes "_") ≡ false
no_blank text none = by_test (bytes_eq text (codes "_")) refl where
  by_test : (test : Bool) → bytes_eq text (codes "_") ≡ test → test ≡ false
  by_test true e = absurd (none ((bytes_eq-Decides text (codes "_")).0 e))
  by_test false e = refl

number_named : (names : List (List ℕ)) (text : List ℕ) → (text ≡ codes "_" → ⊥) → number_of names text ≡ place_of names text
number_named names text none = number_if names text false (no_blank text none)

-- a number below the count is a place
number_old : (names : List (List ℕ)) (text : List ℕ) → number_of names text < length names → number_of names text ≡ place_of names text
number_old names text old = by_test (bytes_eq text (codes "_")) refl where
  by_test : (test : Bool) → bytes_eq text (codes "_") ≡ test → number_of names text ≡ place_of names text
  by_test true e = let new = number_if names text true e in absurd (omega (arith, new, old))
  by_test false e = number_if names text false e

entering : (names : List (List ℕ)) (text : List ℕ) → IsEntered names text (with_name names text)
entering names text = by_test (nat_lt (number_of names text) (length names)) refl where
  by_test : (test : Bool) → nat_lt (number_of names text) (length names) ≡ test → IsEntered names text (if test then names else names ++ text ∷ [])
  by_test true e =
      let old = ltb-true _ _ e in
      let at = number_old names text old in
      record {
        more = [];
        longer = append-nil names;
        inside = old;
        there = ap (λ n. get_or names n []) at ∙ at_place names text (omega (arith, at, old));
        place = λ none. sym at;
      }
  by_test false e =
      let within = number_within names text in
      let past = ltb-false _ _ e in
      let new : number_of names text ≡ length names = omega (arith, within, past) in
      let size = length-append names (text ∷ []) in
      record {
        more = text ∷ [];
        longer = refl;
        inside = omega (arith, new, size);
        there = ap (λ n. get_or (names ++ text ∷ []) n []) new ∙ get_or-append_seam names text [] [];
        place = λ none. place_of_last names text (sym (number_named names text none) ∙ new) ∙ sym new;
      }

-- ---- two names

-- names that go on with others
abbrev pub GoOn : List (List ℕ) → List (List ℕ) → Type 0
GoOn names now = (more : List (List ℕ)) × (names ++ more ≡ now)

-- a name has its number under which it was entered, later on, where it is not `_`
number_stays : (names now : List (List ℕ)) (text : List ℕ) → GoOn (with_name names text) now → (text ≡ codes "_" → ⊥) → number_of now text ≡ number_of names text
number_stays names now text (more, longer) none =
    let is = entering names text in
    let place = is.place none in
    number_named now text none ∙ ap (λ xs. place_of xs text) (sym longer)
    ∙ place_stays (with_name names text) more text (omega (arith, place, is.inside)) ∙ place

pub stays_there : (names now : List (List ℕ)) (text : List ℕ) → GoOn (with_name names text) now → (number_of names text < length now) × (get_or now (number_of names text) [] ≡ text)
stays_there names now text (more, longer) =
    let is = entering names text in
    let size = length-append (with_name names text) more in
    let same = ap (λ (xs : List (List ℕ)). length xs) longer in
    (omega (arith, is.inside, size, same), ap (λ xs. get_or xs (number_of names text) []) (sym longer) ∙ get_or_append_left (with_name names text) more [] _ is.inside ∙ is.there)

-- one number is of one name
one_name : (names now : List (List ℕ)) (text later : List ℕ) → GoOn (with_name names text) now → number_of names text ≡ number_of now later → (text ≡ later) × (text ≡ codes "_" → ⊥)
one_name names now text later on same =
    let there = stays_there names now text on in
    let old : number_of now later < length now = omega (arith, same, there.0) in
    let at = number_old now later old in
    let alike : text ≡ later = sym there.1 ∙ ap (λ n. get_or now n []) (same ∙ at) ∙ at_place now later (omega (arith, at, old)) in
    (alike, λ blank. let new = number_if now later true (ap (λ x. bytes_eq x (codes "_")) (sym alike ∙ blank)) in absurd (omega (arith, new, old)))

-- ---- statements

abbrev pub GoesOn : Names → Names → Type 0
GoesOn names now = GoOn names.names now.names × GoOn names.times now.times

pub on_refl : (names : List (List ℕ)) → GoOn names names
on_refl names = ([], append-nil names)

on_trans : (a b c : List (List ℕ)) → GoOn a b → GoOn b c → GoOn a c
on_trans a b c (more, longer) (rest, last) = (more ++ rest, sym (append_assoc a more rest) ∙ ap (λ xs. xs ++ rest) longer ∙ last)

on_entering : (names : List (List ℕ)) (text : List ℕ) → GoOn names (with_name names text)
on_entering names text = let is = entering names text in (is.more, is.longer)

pub entered_goes_on : (so_far : Names) (kind : TokenKind) (text : List ℕ) → GoesOn so_far (entered so_far kind text)
entered_goes_on so_far kind.Time text = (on_refl so_far.names, on_entering so_far.times text)
entered_goes_on so_far kind.Variable text = (on_entering so_far.names text, on_refl so_far.times)
entered_goes_on so_far kind.Name text = (on_refl so_far.names, on_refl so_far.times)
entered_goes_on so_far kind.Reserved text = (on_refl so_far.names, on_refl so_far.times)
entered_goes_on so_far kind.Number text = (on_refl so_far.names, on_refl so_far.times)
entered_goes_on so_far kind.Sign text = (on_refl so_far.names, on_refl so_far.times)

pub goes_trans : (a b c : Names) → GoesOn a b → GoesOn b c → GoesOn a c
goes_trans a b c first last = (on_trans a.names b.names c.names first.0 last.0, on_trans a.times b.times c.times first.1 last.1)

after_goes_on : (bytes : List ℕ) (so_far : Names) (token : Token) → IsNoStop bytes token → GoesOn so_far (names_after bytes so_far token)
after_goes_on bytes so_far token no_stop =
    subst (λ x. GoesOn so_far (if x then no_names else entered so_far token.kind (text_of bytes token))) (sym no_stop) (entered_goes_on so_far token.kind (text_of bytes token))

from_goes_on : (bytes : List ℕ) (so_far : Names) (tokens : List Token) → All (IsNoStop bytes) tokens → GoesOn so_far (names_from bytes so_far tokens)
from_goes_on bytes so_far [] all = (on_refl so_far.names, on_refl so_far.times)
from_goes_on bytes so_far (token ∷ tokens) all =
    goes_trans so_far (names_after bytes so_far token) _ (after_goes_on bytes so_far token (all 0 token (omega arith)))
    (from_goes_on bytes (names_after bytes so_far token) tokens (λ j d inside. all (suc j) d (omega (arith, inside))))

abbrev number_in : Tok → ℕ
number_in (k.Variable n) = n
number_in (k.Time n) = n
number_in other = 0

pub variables_alike : (bytes : List ℕ) (so_far : Names) (first : Token) (between : List Token) (last : Token) → first.kind ≡ kind.Variable → last.kind ≡ kind.Variable →
    All (IsNoStop bytes) between → AreEqualWhereAlike bytes so_far first between last
variables_alike bytes so_far first between last first_is last_is all =
    let text = text_of bytes first in
    let later = text_of bytes last in
    let next : Names = record { names = with_name so_far.names text; times = so_far.times } in
    let now = names_from bytes so_far (first ∷ between) in
    let after : names_after bytes so_far first ≡ next = ap (λ k. if is_full_stop k text then no_names else entered so_far k text) first_is in
    let on : GoOn next.names now.names = subst (λ s. GoOn next.names (names_from bytes s between).names) (sym after) (from_goes_on bytes next between all).0 in
    let first_tok : tok_of so_far first.kind text ≡ k.Variable (number_of so_far.names text) = ap (λ k. tok_of so_far k text) first_is in
    let last_tok : tok_of now last.kind later ≡ k.Variable (number_of now.names later) = ap (λ k. tok_of now k later) last_is in (
      (λ same. one_name so_far.names now.names text later on (ap number_in (sym first_tok ∙ same ∙ last_tok))),
      (λ (alike, none). first_tok ∙ ap k.Variable (sym (number_stays so_far.names now.names text on none) ∙ ap (number_of now.names) alike) ∙ sym last_tok),
    )

pub times_alike : (bytes : List ℕ) (so_far : Names) (first : Token) (between : List Token) (last : Token) → first.kind ≡ kind.Time → last.kind ≡ kind.Time →
    All (IsNoStop bytes) between → AreEqualWhereAlike bytes so_far first between last
times_alike bytes so_far first between last first_is last_is all =
    let text = text_of bytes first in
    let later = text_of bytes last in
    let next : Names = record { names = so_far.names; times = with_name so_far.times text } in
    let now = names_from bytes so_far (first ∷ between) in
    let after : names_after bytes so_far first ≡ next = ap (λ k. if is_full_stop k text then no_names else entered so_far k text) first_is in
    let on : GoOn next.times now.times = subst (λ s. GoOn next.times (names_from bytes s between).times) (sym after) (from_goes_on bytes next between all).1 in
    let first_tok : tok_of so_far first.kind text ≡ k.Time (number_of so_far.times text) = ap (λ k. tok_of so_far k text) first_is in
    let last_tok : tok_of now last.kind later ≡ k.Time (number_of now.times later) = ap (λ k. tok_of now k later) last_is in (
      (λ same. one_name so_far.times now.times text later on (ap number_in (sym first_tok ∙ same ∙ last_tok))),
      (λ (alike, none). first_tok ∙ ap k.Time (sym (number_stays so_far.times now.times text on none) ∙ ap (number_of now.times) alike) ∙ sym last_tok),
    )

-- ---- names of statements

-- the first of these names go on from some
pub record BeginsWith (so_far : Names) (statements : List Names) : Type 0 where
  pub names : Names
  pub rest : List Names
  pub are : statements ≡ names ∷ rest
  pub on : GoesOn so_far names

begins : (bytes : List ℕ) (so_far : Names) (tokens : List Token) → BeginsWith so_far (statements_from bytes so_far tokens)
begins bytes so_far [] = record { names = so_far; rest = []; are = refl; on = (on_refl so_far.names, on_refl so_far.times) }
begins bytes so_far (token ∷ tokens) = by_test (is_full_stop token.kind (text_of bytes token)) (λ s. begins bytes s tokens) where
  later : Names
  later = entered so_far token.kind (text_of bytes token)

  by_test : (test : Bool) → ((s : Names) → BeginsWith s (statements_from bytes s tokens)) → BeginsWith so_far ((if test then so_far ∷ [] else []) ++ statements_from bytes (if test then no_names else later) tokens)
  by_test true go = record { names = so_far; rest = statements_from bytes no_names tokens; are = refl; on = (on_refl so_far.names, on_refl so_far.times) }
  by_test false go =
      let found = go later in
      record { names = found.names; rest = found.rest; are = found.are; on = goes_trans so_far later found.names (entered_goes_on so_far token.kind (text_of bytes token)) found.on }

named_in : (names now : List (List ℕ)) (text : List ℕ) → GoOn (with_name names text) now → slice_get now (number_of names text) ≡ Some text
named_in names now text on = let there = stays_there names now text on in slice_get-get_or now _ [] there.0 ∙ ap (λ x. Some x) there.1

is_named : (so_far now : Names) (kind : TokenKind) (text : List ℕ) → GoesOn (entered so_far kind text) now → IsNamed now kind (tok_of so_far kind text) text
is_named so_far now kind.Time text on = (number_of so_far.times text, refl, named_in so_far.times now.times text on.1)
is_named so_far now kind.Variable text on = (number_of so_far.names text, refl, named_in so_far.names now.names text on.0)
is_named so_far now kind.Name text on = tt
is_named so_far now kind.Reserved text on = tt
is_named so_far now kind.Number text on = tt
is_named so_far now kind.Sign text on = tt

stop_is_sign : (names : Names) (kind : TokenKind) (tok : Tok) (text : List ℕ) → is_full_stop kind text ≡ true → IsNamed names kind tok text
stop_is_sign names kind.Sign tok text e = tt
stop_is_sign names kind.Time tok text e = absurd cc
stop_is_sign names kind.Variable tok text e = absurd cc
stop_is_sign names kind.Name tok text e = tt
stop_is_sign names kind.Reserved tok text e = tt
stop_is_sign names kind.Number tok text e = tt

pub named : (bytes : List ℕ) (so_far : Names) (tokens : List Token) → AreNamed bytes (statements_from bytes so_far tokens) tokens (toks_from bytes so_far tokens)
named bytes so_far [] = tt
named bytes so_far (token ∷ tokens) = by_test (is_full_stop token.kind (text_of bytes token)) refl (λ s. named bytes s tokens) where
  text : List ℕ
  text = text_of bytes token

  later : Names
  later = entered so_far token.kind text

  by_test : (test : Bool) → is_full_stop token.kind text ≡ test → ((s : Names) → AreNamed bytes (statements_from bytes s tokens) tokens (toks_from bytes s tokens)) →
      AreNamed bytes ((if test then so_far ∷ [] else []) ++ statements_from bytes (if test then no_names else later) tokens) (token ∷ tokens)
      (tok_of so_far token.kind text ∷ toks_from bytes (if test then no_names else later) tokens)
  by_test true e go =
      let rest = statements_from bytes no_names tokens in (
        stop_is_sign so_far token.kind (tok_of so_far token.kind text) text e,
        subst (λ x. AreNamed bytes (if x then rest else (so_far ∷ rest)) tokens (toks_from bytes no_names tokens)) (sym e) (go no_names),
      )
  by_test false e go =
      let found = begins bytes later tokens in
      let toks = toks_from bytes later tokens in
      let all : AreNamed bytes (found.names ∷ found.rest) tokens toks = subst (λ s. AreNamed bytes s tokens toks) found.are (go later) in
      subst (λ s. AreNamed bytes s (token ∷ tokens) (tok_of so_far token.kind text ∷ toks)) (sym found.are) (
        is_named so_far found.names token.kind text found.on,
        subst (λ x. AreNamed bytes (if x then found.rest else (found.names ∷ found.rest)) tokens toks) (sym e) all,
      )
