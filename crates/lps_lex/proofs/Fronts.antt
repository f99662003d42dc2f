-- What stands at the front, by the table of tokens: the piece of the code is that piece, and no other is.
use Rattle.std.specs.Prelude.{ℕ, ◌≡◌, ◌≤◌, ◌^◌, ◌⊎◌, Bool, true, false, List, [], ◌∷◌, ◌++◌, length, nat_le, not, ◌==◌, ◌&&◌, if◌then◌else◌, Result, Ok, Err, Contains, refl}
use Rattle.std.specs.List.{list_all, take_while}
use Rattle.std.specs.Char.{is_ascii_digit}
use Rattle.std.proofs.Common.{◌∙◌, sym, ap, subst, arith, inl, inr}
use Rattle.std.proofs.lemmas.Bool.{both_ways, eqb-true, leb-true, leb-false, le-leb, lt-leb, not-true}
use Rattle.lps_terms.specs.Names.{begins_low, is_proper_name, is_word_byte}
use Rattle.lps_terms.specs.declared.lex_refused.LexRefused.{LexRefused}
use Rattle.lps_terms.specs.declared.lex_refused.LexRefused.TheVariants as refused
use Rattle.lps_lex.specs.declared.token_kind.TokenKind.{TokenKind}
use Rattle.lps_lex.specs.declared.token_kind.TokenKind.TheVariants as kind
use Rattle.lps_lex.specs.declared.piece.Piece.{Piece}
use Rattle.lps_lex.specs.declared.piece.Piece.TheVariants as piece
use Rattle.lps_lex.specs.Piece.{begins_long_sign, begins_short_sign, comment_length, is_blank, is_no_feed, is_time, number_piece, piece_of, sign_piece, value_of, word_kind, word_piece}
use Rattle.lps_lex.specs.Forms.{BeginsNothing, begins_word, HasForm, IsComment, IsFault, IsNumber, IsSpelled, IsToken, Stops, signs}
use Rattle.lps_lex.proofs.Bytes.{both, differs, no_blank}
use Rattle.lps_lex.proofs.Runs.{behind, run_all, run_is, run_split, run_stops, run-cons}
use Rattle.lps_lex.proofs.Signs.{IsApart, IsSign, long, long_sign, no_sign, short, short_longest, short_sign, sign_is, sign_size}
use Rattle.lps_lex.proofs.Words.{IsWord, name_kind, name_word, reserved_kind, reserved_word, time_kind, time_word, variable_kind, variable_word, word_form}

-- what is found at the front of the bytes stands there
abbrev pub IsPiece : ℕ → List ℕ → Result Piece LexRefused → Type 0
IsPiece line bytes (Ok piece.LineFeed) = (rest : List ℕ) × (bytes ≡ 10 ∷ rest)
IsPiece line bytes (Ok (piece.Blanks count)) =
    (text rest : List ℕ) × (bytes ≡ text ++ rest) × (count ≡ length text) × (((blank : ℕ) × (text ≡ blank ∷ []) × (is_blank blank ≡ true)) ⊎ IsComment text rest)
IsPiece line bytes (Ok (piece.Token kind count)) = (text rest : List ℕ) × (bytes ≡ text ++ rest) × (count ≡ length text) × IsToken kind text rest
IsPiece line bytes (Err refused) = IsFault refused line bytes

-- ---- the piece of the code stands there

piece_if : (line : ℕ) (bytes : List ℕ) (test : Bool) (first otherwise : Result Piece LexRefused) →
    (test ≡ true → IsPiece line bytes first) → (test ≡ false → IsPiece line bytes otherwise) → IsPiece line bytes (if test then first else otherwise)
piece_if line bytes true first otherwise f g = f refl
piece_if line bytes false first otherwise f g = g refl

-- a run that has begun is spelled so
spelled_run : (begins follows : ℕ → Bool) (first : ℕ) (rest : List ℕ) → begins first ≡ true → follows first ≡ true →
    IsSpelled begins follows (take_while follows (first ∷ rest))
spelled_run begins follows first rest begun passes =
    subst (IsSpelled begins follows) (sym (run-cons follows first rest passes)) (begun, run_all follows rest)

number_is : (line first : ℕ) (rest : List ℕ) → is_ascii_digit first ≡ true → IsPiece line (first ∷ rest) (number_piece line (take_while is_ascii_digit (first ∷ rest)))
number_is line first rest digit =
    let bytes = first ∷ rest in
    let digits = take_while is_ascii_digit bytes in
    let form : IsNumber digits = spelled_run is_ascii_digit is_ascii_digit first rest digit digit in
    piece_if line bytes (nat_le (value_of digits) (2 ^ 63)) _ _
    (λ small. (digits, behind is_ascii_digit bytes, run_split is_ascii_digit bytes, refl, record { form = form; limit = leb-true _ _ small; longest = run_stops is_ascii_digit bytes }))
    (λ large. (refl, record { digits = digits; rest = behind is_ascii_digit bytes; split = run_split is_ascii_digit bytes; form = form; longest = run_stops is_ascii_digit bytes; large = leb-false _ _ large }))

-- a kind of words
abbrev IsWordKind : TokenKind → Type 0
IsWordKind kind.Number = ⊥
IsWordKind kind.Sign = ⊥
IsWordKind word = Unit {0}

kind_if : (test : Bool) (left right : TokenKind) → IsWordKind left → IsWordKind right → IsWordKind (if test then left else right)
kind_if true left right f g = f
kind_if false left right f g = g

word_kind_is : (text : List ℕ) → IsWordKind (word_kind text)
word_kind_is text = kind_if (is_proper_name text) _ _ tt (kind_if (begins_low text) _ _ tt (kind_if (is_time text) kind.Time kind.Variable tt tt))

word_token : (text rest : List ℕ) → IsWord text → Stops is_word_byte rest → length text ≤ 64 → IsToken (word_kind text) text rest
word_token [] rest word stops small = absurd word
word_token (first ∷ more) rest word stops small = token_of (word_kind (first ∷ more)) (word_form first more small word.0 word.1) (word_kind_is (first ∷ more)) where
  token_of : (kind : TokenKind) → HasForm kind (first ∷ more) → IsWordKind kind → IsToken kind (first ∷ more) rest
  token_of kind.Name form is = record { form = form; limit = small; longest = stops }
  token_of kind.Reserved form is = record { form = form; limit = small; longest = stops }
  token_of kind.Time form is = record { form = form; limit = small; longest = stops }
  token_of kind.Variable form is = record { form = form; limit = small; longest = stops }
  token_of kind.Number form is = absurd is
  token_of kind.Sign form is = absurd is

word_is : (line first : ℕ) (rest : List ℕ) → begins_word first ≡ true → is_word_byte first ≡ true → IsPiece line (first ∷ rest) (word_piece line (take_while is_word_byte (first ∷ rest)))
word_is line first rest begins passes =
    let bytes = first ∷ rest in
    let word = take_while is_word_byte bytes in
    let form : IsWord word = spelled_run begins_word is_word_byte first rest begins passes in
    piece_if line bytes (nat_le (length word) 64) _ _
    (λ small. (word, behind is_word_byte bytes, run_split is_word_byte bytes, refl, word_token word (behind is_word_byte bytes) form (run_stops is_word_byte bytes) (leb-true _ _ small)))
    (λ large. (refl, record { word = word; rest = behind is_word_byte bytes; split = run_split is_word_byte bytes; form = form; longest = run_stops is_word_byte bytes; long = leb-false _ _ large }))

long_is : (line : ℕ) (bytes : List ℕ) → begins_long_sign bytes ≡ true → IsPiece line bytes (Ok (piece.Token kind.Sign 2))
long_is line [] begins = absurd cc
long_is line (first ∷ []) begins = absurd cc
long_is line (first ∷ second ∷ rest) begins =
    (first ∷ second ∷ [], rest, refl, refl, record { form = long_sign first second rest begins; limit = tt; longest = λ sign after is split. sign_size sign is })

short_is : (line first : ℕ) (rest : List ℕ) → begins_long_sign (first ∷ rest) ≡ false → begins_short_sign (first ∷ rest) ≡ true → IsPiece line (first ∷ rest) (Ok (piece.Token kind.Sign 1))
short_is line first rest none begins =
    (first ∷ [], rest, refl, refl, record { form = short_sign first rest begins; limit = tt; longest = short_longest (first ∷ rest) none })

-- a word at the front has a byte of a word there
word_front : (first : ℕ) (rest text after : List ℕ) → is_word_byte first ≡ false → first ∷ rest ≡ text ++ after → IsWord text → ⊥
word_front first rest [] after no_word split word = word
word_front first rest (begin ∷ text) after no_word split word =
    let same : first ≡ begin = cc in both_ways (is_word_byte first) no_word (subst (λ x. is_word_byte x ≡ true) (sym same) (both _ _ word.0).0)

number_front : (first : ℕ) (rest text after : List ℕ) → is_ascii_digit first ≡ false → first ∷ rest ≡ text ++ after → IsNumber text → ⊥
number_front first rest [] after no_digit split form = form
number_front first rest (begin ∷ text) after no_digit split form =
    let same : first ≡ begin = cc in both_ways (is_ascii_digit first) no_digit (subst (λ x. is_ascii_digit x ≡ true) (sym same) form.0)

nothing_is : (first : ℕ) (rest : List ℕ) → IsApart first → begins_long_sign (first ∷ rest) ≡ false → begins_short_sign (first ∷ rest) ≡ false → BeginsNothing (first ∷ rest)
nothing_is first rest apart no_long no_short =
    record { first = first; rest = rest; split = refl; no_blank = apart.no_blank; no_feed = apart.no_feed; no_comment = apart.no_comment; no_token = no_token }
  where
    no_token : (kind : TokenKind) (text after : List ℕ) → first ∷ rest ≡ text ++ after → HasForm kind text → ⊥
    no_token kind.Name text after split form = word_front first rest text after apart.no_word split (name_word text form)
    no_token kind.Reserved text after split form = word_front first rest text after apart.no_word split (reserved_word text form)
    no_token kind.Time text after split form = word_front first rest text after apart.no_word split (time_word text form)
    no_token kind.Variable text after split form = word_front first rest text after apart.no_word split (variable_word text form)
    no_token kind.Number text after split form = number_front first rest text after apart.no_digit split form
    no_token kind.Sign text after split form = no_sign (first ∷ rest) no_long no_short text after form split

comment_is : (first : ℕ) (rest : List ℕ) → (first == 10) ≡ false → (first == 37) ≡ true → IsComment (take_while is_no_feed (first ∷ rest)) (behind is_no_feed (first ∷ rest))
comment_is first rest no_feed percent =
    record { form = spelled_run (λ byte. byte == 37) is_no_feed first rest percent (ap not no_feed); longest = run_stops is_no_feed (first ∷ rest) }

-- the piece of the code stands at the front
pub piece_is : (line first : ℕ) (rest : List ℕ) → IsPiece line (first ∷ rest) (piece_of line (first ∷ rest))
piece_is line first rest =
    let bytes = first ∷ rest in
    piece_if line bytes (first == 10) _ _ (λ feed. (rest, ap (λ x. x ∷ rest) (eqb-true first 10 feed))) (λ no_feed.
    piece_if line bytes (is_blank first) _ _ (λ blank. (first ∷ [], rest, refl, refl, inl (first, refl, blank))) (λ unblank.
    piece_if line bytes (first == 37) _ _ (λ percent. (take_while is_no_feed bytes, behind is_no_feed bytes, run_split is_no_feed bytes, refl, inr (comment_is first rest no_feed percent))) (λ no_comment.
    piece_if line bytes (is_ascii_digit first) _ _ (λ digit. number_is line first rest digit) (λ no_digit.
    piece_if line bytes (is_word_byte first) _ _ (λ word. word_is line first rest (ap (λ x. x && not (is_ascii_digit first)) word ∙ ap not no_digit) word) (λ no_word.
    piece_if line bytes (begins_long_sign bytes) _ _ (long_is line bytes) (λ no_long.
    piece_if line bytes (begins_short_sign bytes) _ _ (short_is line first rest no_long) (λ no_short.
    (refl, nothing_is first rest (record { no_feed = no_feed; no_blank = unblank; no_comment = no_comment; no_digit = no_digit; no_word = no_word }) no_long no_short))))))))

-- ---- no other piece stands there

-- the piece, with these answers of the tests of the first byte
abbrev chosen : ℕ → ℕ → List ℕ → Bool → Bool → Bool → Bool → Bool → Result Piece LexRefused
chosen line first rest feed blank comment digit word =
    if feed then Ok piece.LineFeed else (
    if blank then Ok (piece.Blanks 1) else (
    if comment then Ok (piece.Blanks (comment_length (first ∷ rest))) else (
    if digit then number_piece line (take_while is_ascii_digit (first ∷ rest)) else (
    if word then word_piece line (take_while is_word_byte (first ∷ rest)) else sign_piece line (first ∷ rest)))))

piece_by : (line first : ℕ) (rest : List ℕ) (feed blank comment digit word : Bool) →
    (first == 10) ≡ feed → is_blank first ≡ blank → (first == 37) ≡ comment → is_ascii_digit first ≡ digit → is_word_byte first ≡ word →
    piece_of line (first ∷ rest) ≡ chosen line first rest feed blank comment digit word
piece_by line first rest feed blank comment digit word e1 e2 e3 e4 e5 =
    ap (λ x. chosen line first rest x (is_blank first) (first == 37) (is_ascii_digit first) (is_word_byte first)) e1
    ∙ ap (λ x. chosen line first rest feed x (first == 37) (is_ascii_digit first) (is_word_byte first)) e2
    ∙ ap (λ x. chosen line first rest feed blank x (is_ascii_digit first) (is_word_byte first)) e3
    ∙ ap (λ x. chosen line first rest feed blank comment x (is_word_byte first)) e4
    ∙ ap (chosen line first rest feed blank comment digit) e5

piece-number : (line : ℕ) (digits rest : List ℕ) → IsNumber digits → Stops is_ascii_digit rest → piece_of line (digits ++ rest) ≡ number_piece line digits
piece-number line [] rest form stops = absurd form
piece-number line (first ∷ digits) rest form stops =
    let class = is_ascii_digit in
    piece_by line first (digits ++ rest) false false false true (is_word_byte first)
    (differs class first 10 form.0 refl) (no_blank class first form.0 refl refl refl) (differs class first 37 form.0 refl) form.0 refl
    ∙ ap (number_piece line) (run_is class (first ∷ digits) rest (ap (λ x. x && list_all class digits) form.0 ∙ form.1) stops)

piece-word : (line : ℕ) (word rest : List ℕ) → IsWord word → Stops is_word_byte rest → piece_of line (word ++ rest) ≡ word_piece line word
piece-word line [] rest form stops = absurd form
piece-word line (first ∷ word) rest form stops =
    let class = is_word_byte in
    let begins = both (class first) (not (is_ascii_digit first)) form.0 in
    piece_by line first (word ++ rest) false false false false true
    (differs class first 10 begins.0 refl) (no_blank class first begins.0 refl refl refl) (differs class first 37 begins.0 refl) (not-true _ begins.1) begins.0
    ∙ ap (word_piece line) (run_is class (first ∷ word) rest (ap (λ x. x && list_all class word) begins.0 ∙ form.1) stops)

piece-apart : (line first : ℕ) (rest : List ℕ) → IsApart first → piece_of line (first ∷ rest) ≡ sign_piece line (first ∷ rest)
piece-apart line first rest apart = piece_by line first rest false false false false false apart.no_feed apart.no_blank apart.no_comment apart.no_digit apart.no_word

word_piece-small : (line : ℕ) (word : List ℕ) (found : TokenKind) → length word ≤ 64 → word_kind word ≡ found → word_piece line word ≡ Ok (piece.Token found (length word))
word_piece-small line word found small is =
    ap (λ x. if x then Ok (piece.Token (word_kind word) (length word)) else Err (refused.NameTooLong line)) (le-leb _ _ small) ∙ ap (λ x. Ok (piece.Token x (length word))) is

sign_piece-long : (line : ℕ) (bytes : List ℕ) → begins_long_sign bytes ≡ true → sign_piece line bytes ≡ Ok (piece.Token kind.Sign 2)
sign_piece-long line bytes begins = ap (λ x. if x then Ok (piece.Token kind.Sign 2) else (if begins_short_sign bytes then Ok (piece.Token kind.Sign 1) else Err (refused.BadByte line))) begins

sign_piece-short : (line : ℕ) (bytes : List ℕ) (begins : Bool) → begins_long_sign bytes ≡ false → begins_short_sign bytes ≡ begins →
    sign_piece line bytes ≡ (if begins then Ok (piece.Token kind.Sign 1) else Err (refused.BadByte line))
sign_piece-short line bytes begins none is =
    ap (λ x. if x then Ok (piece.Token kind.Sign 2) else (if begins_short_sign bytes then Ok (piece.Token kind.Sign 1) else Err (refused.BadByte line))) none
    ∙ ap (λ x. if x then Ok (piece.Token kind.Sign 1) else Err (refused.BadByte line)) is

-- a test that cannot pass fails
fails : (test : Bool) → (test ≡ true → ⊥) → test ≡ false
fails true none = absurd (none refl)
fails false none = refl

-- a sign of two bytes would be longer than one of one
none_longer : (first : ℕ) (rest : List ℕ) → ((sign after : List ℕ) → Contains signs sign → first ∷ rest ≡ sign ++ after → length sign ≤ 1) → begins_long_sign (first ∷ rest) ≡ true → ⊥
none_longer first [] longest begins = absurd cc
none_longer first (second ∷ rest) longest begins = omega (arith, longest (first ∷ second ∷ []) rest (long_sign first second rest begins) refl)

sign_unique : (line : ℕ) (text rest : List ℕ) → IsSign text → ((sign after : List ℕ) → Contains signs sign → text ++ rest ≡ sign ++ after → length sign ≤ length text) →
    piece_of line (text ++ rest) ≡ Ok (piece.Token kind.Sign (length text))
sign_unique line text rest (short first begins apart) longest =
    piece-apart line first rest apart ∙ sign_piece-short line (first ∷ rest) true (fails _ (none_longer first rest longest)) begins
sign_unique line text rest (long first second begins apart) longest =
    piece-apart line first (second ∷ rest) apart ∙ sign_piece-long line (first ∷ second ∷ rest) begins

pub token_unique : (line : ℕ) (kind : TokenKind) (text rest : List ℕ) → IsToken kind text rest → piece_of line (text ++ rest) ≡ Ok (piece.Token kind (length text))
token_unique line kind.Name text rest token =
    piece-word line text rest (name_word text token.form) token.longest ∙ word_piece-small line text kind.Name token.limit (name_kind text token.limit token.form)
token_unique line kind.Reserved text rest token =
    piece-word line text rest (reserved_word text token.form) token.longest ∙ word_piece-small line text kind.Reserved token.limit (reserved_kind text token.form)
token_unique line kind.Time text rest token =
    piece-word line text rest (time_word text token.form) token.longest ∙ word_piece-small line text kind.Time token.limit (time_kind text token.form)
token_unique line kind.Variable text rest token =
    piece-word line text rest (variable_word text token.form) token.longest ∙ word_piece-small line text kind.Variable token.limit (variable_kind text token.form)
token_unique line kind.Number text rest token =
    piece-number line text rest token.form token.longest
    ∙ ap (λ x. if x then Ok (piece.Token kind.Number (length text)) else Err (refused.NumberTooLarge line)) (le-leb _ _ token.limit)
token_unique line kind.Sign text rest token = sign_unique line text rest (sign_is text token.form) token.longest

pub comment_unique : (line : ℕ) (text rest : List ℕ) → IsComment text rest → piece_of line (text ++ rest) ≡ Ok (piece.Blanks (length text))
comment_unique line [] rest comment = absurd comment.form
comment_unique line (first ∷ text) rest comment =
    let class = λ (byte : ℕ). byte == 37 in
    let percent = comment.form.0 in
    let no_feed = differs class first 10 percent refl in
    piece_by line first (text ++ rest) false false true (is_ascii_digit first) (is_word_byte first) no_feed (no_blank class first percent refl refl refl) percent refl refl
    ∙ ap (λ run. Ok (piece.Blanks (length run))) (run_is is_no_feed (first ∷ text) rest (ap (λ x. x && list_all is_no_feed text) (ap not no_feed) ∙ comment.form.1) comment.longest)

-- a byte with which no token begins is no digit, no byte of a word, and no sign
nothing_unique : (line first : ℕ) (rest : List ℕ) → is_blank first ≡ false → (first == 10) ≡ false → (first == 37) ≡ false →
    ((kind : TokenKind) (text after : List ℕ) → first ∷ rest ≡ text ++ after → HasForm kind text → ⊥) → piece_of line (first ∷ rest) ≡ Err (refused.BadByte line)
nothing_unique line first rest unblank no_feed no_comment no_token =
    let no_digit : is_ascii_digit first ≡ false = fails _ (λ digit. no_token kind.Number (first ∷ []) rest refl (digit, refl)) in
    let no_word : is_word_byte first ≡ false = fails _ (λ word. no_token (word_kind (first ∷ [])) (first ∷ []) rest refl
    (word_form first [] (omega arith) (ap (λ x. x && not (is_ascii_digit first)) word ∙ ap not no_digit) refl)) in
    piece-apart line first rest (record { no_feed = no_feed; no_blank = unblank; no_comment = no_comment; no_digit = no_digit; no_word = no_word })
    ∙ sign_piece-short line (first ∷ rest) false (fails _ (no_long rest no_token)) (fails _ (λ begins. no_token kind.Sign (first ∷ []) rest refl (short_sign first rest begins)))
  where
    no_long : (rest : List ℕ) → ((kind : TokenKind) (text after : List ℕ) → first ∷ rest ≡ text ++ after → HasForm kind text → ⊥) → begins_long_sign (first ∷ rest) ≡ true → ⊥
    no_long [] no_token begins = absurd cc
    no_long (second ∷ rest) no_token begins = no_token kind.Sign (first ∷ second ∷ []) rest refl (long_sign first second rest begins)

pub fault_unique : (line : ℕ) (bytes : List ℕ) (fault : LexRefused) → IsFault fault line bytes → piece_of line bytes ≡ Err fault
fault_unique line bytes (refused.BadByte place) (same, nothing) =
    ap (piece_of line) nothing.split ∙ nothing_unique line nothing.first nothing.rest nothing.no_blank nothing.no_feed nothing.no_comment
    (λ kind text after split. nothing.no_token kind text after (nothing.split ∙ split))
    ∙ ap (λ x. Err (refused.BadByte x)) (sym same)
fault_unique line bytes (refused.NameTooLong place) (same, word) =
    ap (piece_of line) word.split ∙ piece-word line word.word word.rest word.form word.longest
    ∙ ap (λ x. if x then Ok (piece.Token (word_kind word.word) (length word.word)) else Err (refused.NameTooLong line)) (lt-leb _ _ word.long)
    ∙ ap (λ x. Err (refused.NameTooLong x)) (sym same)
fault_unique line bytes (refused.NumberTooLarge place) (same, number) =
    ap (piece_of line) number.split ∙ piece-number line number.digits number.rest number.form number.longest
    ∙ ap (λ x. if x then Ok (piece.Token kind.Number (length number.digits)) else Err (refused.NumberTooLarge line)) (lt-leb _ _ number.large)
    ∙ ap (λ x. Err (refused.NumberTooLarge x)) (sym same)

-- one blank byte
pub blank_unique : (line blank : ℕ) (rest : List ℕ) → is_blank blank ≡ true → piece_of line (blank ∷ rest) ≡ Ok (piece.Blanks 1)
blank_unique line blank rest is =
    piece_by line blank rest false true (blank == 37) (is_ascii_digit blank) (is_word_byte blank) (differs is_blank blank 10 is refl) is refl refl refl
