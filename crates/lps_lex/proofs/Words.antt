-- Words: the form that the kind of a word has, and the kind that a form has.
use Rattle.std.specs.Prelude.{ℕ, zero, suc, ◌≡◌, ◌≤◌, Bool, true, false, List, [], ◌∷◌, length, nat_le, not, ◌==◌, ◌&&◌, ◌||◌, if◌then◌else◌, Contains, refl}
use Rattle.std.specs.List.{list_all, list_any}
use Rattle.std.specs.Str.{bytes_eq}
use Rattle.std.specs.Char.{is_ascii_digit}
use Rattle.std.proofs.Common.{◌∙◌, sym, ap, subst, arith}
use Rattle.std.proofs.lemmas.Bool.{both_ways, leb-true, le-leb, not-true, not-false, eqb-true}
use Rattle.std.proofs.lemmas.Map.Views.{Contains-from_any}
use Rattle.std.proofs.lemmas.Slice.Eq.{bytes_eq-Decides}
use Rattle.lps_terms.specs.Names.{begins_low, is_lower_byte, is_proper_name, is_word_byte, reserved}
use Rattle.lps_lex.specs.declared.token_kind.TokenKind.{TokenKind}
use Rattle.lps_lex.specs.declared.token_kind.TokenKind.TheVariants as kind
use Rattle.lps_lex.specs.Piece.{is_time, word_kind}
use Rattle.lps_lex.specs.Forms.{begins_variable, begins_word, HasForm, IsName, IsSpelled, IsTime, IsVariable}
use Rattle.lps_lex.proofs.Bytes.{both, digit-word, lower-no_digit, lower-word, variable-no_digit, variable-no_lower, variable-rest, variable-word}

-- ---- lists of texts

-- what all of a list pass, each that it contains passes
pub passes_in : (test : List ℕ → Bool) (texts : List (List ℕ)) (text : List ℕ) → list_all test texts ≡ true → Contains texts text → test text ≡ true
passes_in test [] text all (k, inside, at) = absurd (omega (arith, inside))
passes_in test (first ∷ texts) text all (zero, inside, at) = subst (λ x. test x ≡ true) at (both (test first) (list_all test texts) all).0
passes_in test (first ∷ texts) text all (suc k, inside, at) = passes_in test texts text (both (test first) (list_all test texts) all).1 (k, omega (arith, inside), at)

bytes_eq-refl : (text : List ℕ) → bytes_eq text text ≡ true
bytes_eq-refl text = (bytes_eq-Decides text text).1 refl

-- a text that the list contains is found there
pub found_in : (texts : List (List ℕ)) (text : List ℕ) → Contains texts text → list_any (bytes_eq text) texts ≡ true
found_in [] text (k, inside, at) = absurd (omega (arith, inside))
found_in (first ∷ texts) text (zero, inside, at) = ap (λ x. x || list_any (bytes_eq text) texts) (ap (bytes_eq text) at ∙ bytes_eq-refl text)
found_in (first ∷ texts) text (suc k, inside, at) = later (bytes_eq text first) (found_in texts text (k, omega (arith, inside), at)) where
  later : (here : Bool) → list_any (bytes_eq text) texts ≡ true → (here || list_any (bytes_eq text) texts) ≡ true
  later true e = refl
  later false e = e

-- a text that is found is contained
pub contained : (texts : List (List ℕ)) (text : List ℕ) → list_any (bytes_eq text) texts ≡ true → Contains texts text
contained texts text found = Contains-from_any (λ x y same. (bytes_eq-Decides x y).0 same) text texts found

-- ---- reserved words

is_reserved_form : List ℕ → Bool
is_reserved_form text = begins_low text && (nat_le (length text) 64 && (list_all is_word_byte text && nat_le 2 (length text)))

pub reserved_form : (text : List ℕ) → Contains reserved text → (begins_low text ≡ true) × (length text ≤ 64) × (list_all is_word_byte text ≡ true) × (2 ≤ length text)
unfolding reserved is_reserved_form
reserved_form text is =
    let all = both _ _ (passes_in is_reserved_form reserved text refl is) in
    let sizes = both _ _ all.1 in
    let bytes = both _ _ sizes.1 in
    (all.0, leb-true _ _ sizes.0, bytes.0, leb-true _ _ bytes.1)

-- ---- proper names

proper_is : (text : List ℕ) → is_proper_name text ≡ (begins_low text && nat_le (length text) 64 && list_all is_word_byte text && not (list_any (bytes_eq text) reserved))
unfolding is_proper_name
proper_is text = refl

-- a proper name has the form of a name
pub proper_form : (text : List ℕ) → is_proper_name text ≡ true → IsName text
proper_form [] proper = let apart : false ≡ true = sym (proper_is []) ∙ proper in absurd cc
proper_form (first ∷ rest) proper =
    let all = both _ _ (sym (proper_is (first ∷ rest)) ∙ proper) in
    let more = both _ _ all.0 in
    let begins = both _ _ more.0 in
    let word = both (is_word_byte first) (list_all is_word_byte rest) more.1 in
    ((begins.0, word.1), λ is. both_ways _ (not-true _ all.1) (found_in reserved (first ∷ rest) is))

-- a name that is not too long is a proper name
pub form_proper : (text : List ℕ) → length text ≤ 64 → IsName text → is_proper_name text ≡ true
form_proper [] short form = absurd form.0
form_proper (first ∷ rest) short form =
    let lower : is_lower_byte first ≡ true = form.0.0 in
    let small : nat_le (length (first ∷ rest)) 64 ≡ true = le-leb _ _ short in
    let word : list_all is_word_byte (first ∷ rest) ≡ true = ap (λ x. x && list_all is_word_byte rest) (lower-word first lower) ∙ form.0.1 in
    let free : list_any (bytes_eq (first ∷ rest)) reserved ≡ false = free_by _ refl in
    proper_is (first ∷ rest) ∙ ap (λ x. x && nat_le (length (first ∷ rest)) 64 && list_all is_word_byte (first ∷ rest) && not (list_any (bytes_eq (first ∷ rest)) reserved)) lower
    ∙ ap (λ x. x && list_all is_word_byte (first ∷ rest) && not (list_any (bytes_eq (first ∷ rest)) reserved)) small
    ∙ ap (λ x. x && not (list_any (bytes_eq (first ∷ rest)) reserved)) word ∙ ap not free
  where
    free_by : (found : Bool) → list_any (bytes_eq (first ∷ rest)) reserved ≡ found → found ≡ false
    free_by true e = absurd (form.1 (contained reserved (first ∷ rest) e))
    free_by false e = refl

-- a word of the language is no proper name
pub reserved_not_proper : (text : List ℕ) → Contains reserved text → is_proper_name text ≡ false
reserved_not_proper text is =
    proper_is text ∙ ap (λ x. begins_low text && nat_le (length text) 64 && list_all is_word_byte text && not x) (found_in reserved text is) ∙ and_false _
  where
    and_false : (x : Bool) → (x && false) ≡ false
    and_false true = refl
    and_false false = refl

-- a word with a lower-case letter in front that is no proper name and not too long is one of the language
pub low_reserved : (text : List ℕ) → is_proper_name text ≡ false → begins_low text ≡ true → length text ≤ 64 → list_all is_word_byte text ≡ true → Contains reserved text
low_reserved text improper low short word = contained reserved text (not-false _ (sym all ∙ (sym (proper_is text) ∙ improper)))
  where
    all : (begins_low text && nat_le (length text) 64 && list_all is_word_byte text && not (list_any (bytes_eq text) reserved)) ≡ not (list_any (bytes_eq text) reserved)
    all = ap (λ x. x && nat_le (length text) 64 && list_all is_word_byte text && not (list_any (bytes_eq text) reserved)) low
        ∙ ap (λ x. x && list_all is_word_byte text && not (list_any (bytes_eq text) reserved)) (le-leb _ _ short)
        ∙ ap (λ x. x && not (list_any (bytes_eq text) reserved)) word

-- ---- kinds

is_time_spelled : (text : List ℕ) → is_time text ≡ true → IsTime text
is_time_spelled [] time = absurd cc
is_time_spelled (first ∷ rest) time = both (first == 84) (list_all is_ascii_digit rest) time

spelled_is_time : (text : List ℕ) → IsTime text → is_time text ≡ true
spelled_is_time [] form = absurd form
spelled_is_time (first ∷ rest) form = ap (λ x. x && list_all is_ascii_digit rest) form.0 ∙ form.1

spelled_is_no_time : (text : List ℕ) → (IsTime text → ⊥) → is_time text ≡ false
spelled_is_no_time text none = no_time_by (is_time text) refl where
  no_time_by : (time : Bool) → is_time text ≡ time → time ≡ false
  no_time_by true e = absurd (none (is_time_spelled text e))
  no_time_by false e = refl

-- a choice of kinds has a form where each side does, under its case
form_if : (test : Bool) (first otherwise : TokenKind) (text : List ℕ) → (test ≡ true → HasForm first text) → (test ≡ false → HasForm otherwise text) → HasForm (if test then first else otherwise) text
form_if true first otherwise text f g = f refl
form_if false first otherwise text f g = g refl

-- a word that is not too long has the form of its kind
pub word_form : (first : ℕ) (rest : List ℕ) → length (first ∷ rest) ≤ 64 → begins_word first ≡ true → list_all is_word_byte rest ≡ true → HasForm (word_kind (first ∷ rest)) (first ∷ rest)
word_form first rest short begins follows =
    let front = both (is_word_byte first) (not (is_ascii_digit first)) begins in
    let word : list_all is_word_byte (first ∷ rest) ≡ true = ap (λ x. x && list_all is_word_byte rest) front.0 ∙ follows in
    form_if (is_proper_name (first ∷ rest)) _ _ _ (proper_form (first ∷ rest)) (λ improper.
    form_if (begins_low (first ∷ rest)) _ _ _ (λ low. low_reserved (first ∷ rest) improper low short word) (λ high.
    form_if (is_time (first ∷ rest)) _ _ _ (is_time_spelled (first ∷ rest)) (λ none.
    ((variable-rest first front.0 (not-true _ front.1) high, follows), λ time. both_ways _ none (spelled_is_time (first ∷ rest) time)))))

-- a letter or `_`, and then letters, digits and `_`
abbrev pub IsWord : List ℕ → Type 0
IsWord text = IsSpelled begins_word is_word_byte text

begins_by : (byte : ℕ) → is_word_byte byte ≡ true → is_ascii_digit byte ≡ false → begins_word byte ≡ true
begins_by byte word no_digit = ap (λ x. x && not (is_ascii_digit byte)) word ∙ ap not no_digit

-- digits are bytes of words
digits_word : (bytes : List ℕ) → list_all is_ascii_digit bytes ≡ true → list_all is_word_byte bytes ≡ true
digits_word [] all = refl
digits_word (byte ∷ bytes) all =
    let parts = both (is_ascii_digit byte) (list_all is_ascii_digit bytes) all in
    ap (λ x. x && list_all is_word_byte bytes) (digit-word byte parts.0) ∙ digits_word bytes parts.1

pub name_word : (text : List ℕ) → IsName text → IsWord text
name_word [] form = absurd form.0
name_word (first ∷ rest) form = (begins_by first (lower-word first form.0.0) (lower-no_digit first form.0.0), form.0.1)

pub reserved_word : (text : List ℕ) → Contains reserved text → IsWord text
reserved_word [] is = absurd (omega (arith, (reserved_form [] is).3))
reserved_word (first ∷ rest) is =
    let form = reserved_form (first ∷ rest) is in
    (begins_by first (lower-word first form.0) (lower-no_digit first form.0), (both (is_word_byte first) (list_all is_word_byte rest) form.2).1)

pub variable_word : (text : List ℕ) → IsVariable text → IsWord text
variable_word [] form = absurd form.0
variable_word (first ∷ rest) form = (begins_by first (variable-word first form.0.0) (variable-no_digit first form.0.0), form.0.1)

time_begins : (first : ℕ) → (first == 84) ≡ true → begins_variable first ≡ true
time_begins first e = subst (λ byte. begins_variable byte ≡ true) (sym (eqb-true first 84 e)) refl

pub time_word : (text : List ℕ) → IsTime text → IsWord text
time_word [] form = absurd form
time_word (first ∷ rest) form =
    let begins = time_begins first form.0 in
    (begins_by first (variable-word first begins) (variable-no_digit first begins), digits_word rest form.1)

-- a word that does not begin low is no proper name
high_not_proper : (text : List ℕ) → begins_low text ≡ false → is_proper_name text ≡ false
high_not_proper text high =
    proper_is text ∙ ap (λ x. x && nat_le (length text) 64 && list_all is_word_byte text && not (list_any (bytes_eq text) reserved)) high

kind_by : (text : List ℕ) (proper low time : Bool) → is_proper_name text ≡ proper → begins_low text ≡ low → is_time text ≡ time →
    word_kind text ≡ (if proper then kind.Name else (if low then kind.Reserved else (if time then kind.Time else kind.Variable)))
kind_by text proper low time is_proper is_low is_timed =
    ap (λ x. if x then kind.Name else (if begins_low text then kind.Reserved else (if is_time text then kind.Time else kind.Variable))) is_proper
    ∙ ap (λ x. if proper then kind.Name else (if x then kind.Reserved else (if is_time text then kind.Time else kind.Variable))) is_low
    ∙ ap (λ x. if proper then kind.Name else (if low then kind.Reserved else (if x then kind.Time else kind.Variable))) is_timed

pub name_kind : (text : List ℕ) → length text ≤ 64 → IsName text → word_kind text ≡ kind.Name
name_kind text short form = kind_by text true (begins_low text) (is_time text) (form_proper text short form) refl refl

pub reserved_kind : (text : List ℕ) → Contains reserved text → word_kind text ≡ kind.Reserved
reserved_kind text is = kind_by text false true (is_time text) (reserved_not_proper text is) (reserved_form text is).0 refl

pub time_kind : (text : List ℕ) → IsTime text → word_kind text ≡ kind.Time
time_kind [] form = absurd form
time_kind (first ∷ rest) form =
    let high : is_lower_byte first ≡ false = variable-no_lower first (time_begins first form.0) in
    kind_by (first ∷ rest) false false true (high_not_proper (first ∷ rest) high) high (spelled_is_time (first ∷ rest) form)

pub variable_kind : (text : List ℕ) → IsVariable text → word_kind text ≡ kind.Variable
variable_kind [] form = absurd form.0
variable_kind (first ∷ rest) form =
    let high : is_lower_byte first ≡ false = variable-no_lower first form.0.0 in
    kind_by (first ∷ rest) false false false (high_not_proper (first ∷ rest) high) high (spelled_is_no_time (first ∷ rest) form.1)
