-- Texts that show tokens wherever they stand before bytes with which no token goes on, and how they are put together.
use Rattle.std.specs.Prelude.{ℕ, ◌≡◌, true, List, [], ◌∷◌, ◌++◌, codes, refl}
use Rattle.std.proofs.Common.{sym, subst, append_assoc}
use Rattle.lps_grammar.specs.declared.tok.Tok.{Tok}
use Rattle.lps_grammar.specs.declared.tok.Tok.TheVariants as k
use Rattle.lps_numbering.specs.declared.names.Names.{Names}
use Rattle.lps_roundtrip.specs.Words.{Word, written_as}
use Rattle.lps_roundtrip.specs.Shown.{AreFine}
use Rattle.lps_roundtrip.proofs.Pieces.{Ends, is_lone, Says, says_sign, says_space, says_token}

-- before what says tokens, the text says these tokens and then those
pub record Writes (names : Names) (text : List ℕ) (spell : List Tok → List Tok) : Type 0 where
  pub says : (line : ℕ) (words : List Word) (rest : List ℕ) (toks : List Tok) → AreFine names (spell toks) → Ends rest → Says names line words rest toks → Says names line words (text ++ rest) (spell toks)
  pub left : (toks : List Tok) → AreFine names (spell toks) → AreFine names toks

-- no token before this text goes on with it and what follows
abbrev pub Stops : List ℕ → Type 0
Stops text = (rest : List ℕ) → Ends rest → Ends (text ++ rest)

-- an equal text
pub as_text : {names : Names} {text other : List ℕ} {spell : List Tok → List Tok} → text ≡ other → Writes names other spell → Writes names text spell
as_text {names} {spell = spell} same writes = subst (λ x. Writes names x spell) (sym same) writes

-- no text
pub nothing_writes : (names : Names) → Writes names [] (λ toks. toks)
nothing_writes names = record { says = λ line words rest toks fine ends more. more; left = λ toks fine. fine }

-- one token
pub token_writes : (names : Names) (t : Tok) → Writes names (written_as names t) (λ toks. t ∷ toks)
token_writes names t = record { says = λ line words rest toks fine ends more. says_token t fine.0 ends more; left = λ toks fine. fine.1 }

-- a sign that never goes on, before a text
pub sign_writes : {names : Names} (t : Tok) {text : List ℕ} {spell : List Tok → List Tok} → is_lone t ≡ true → Writes names text spell →
    Writes names (written_as names t ++ text) (λ toks. t ∷ spell toks)
sign_writes {names} t {text} {spell} lone writes =
    record {
      says = λ line words rest toks fine ends more.
          subst (λ bytes. Says names line words bytes (t ∷ spell toks)) (sym (append_assoc (written_as names t) text rest))
          (says_sign t lone (writes.says line words rest toks fine.1 ends more));
      left = λ toks fine. writes.left toks fine.1;
    }

-- a blank before a text
pub spaced : {names : Names} {text : List ℕ} {spell : List Tok → List Tok} → Writes names text spell → Writes names (32 ∷ text) spell
spaced writes = record { says = λ line words rest toks fine ends more. says_space (writes.says line words rest toks fine ends more); left = writes.left }

-- one text before another
pub both_write : {names : Names} {front back : List ℕ} {first second : List Tok → List Tok} → Stops back → Writes names front first → Writes names back second →
    Writes names (front ++ back) (λ toks. first (second toks))
both_write {names} {front} {back} {first} {second} stops one other =
    record {
      says = λ line words rest toks fine ends more.
          subst (λ bytes. Says names line words bytes (first (second toks))) (sym (append_assoc front back rest))
          (one.says line words (back ++ rest) (second toks) fine (stops rest ends) (other.says line words rest toks (one.left (second toks) fine) ends more));
      left = λ toks fine. other.left toks (one.left (second toks) fine);
    }

-- a token and a blank before a text
pub token_then : {names : Names} (t : Tok) {text : List ℕ} {spell : List Tok → List Tok} → Writes names text spell →
    Writes names (written_as names t ++ (32 ∷ text)) (λ toks. t ∷ spell toks)
token_then {names} t writes = both_write (λ rest ends. refl) (token_writes names t) (spaced writes)

-- a token between blanks and two texts
pub between : {names : Names} (t : Tok) {front back : List ℕ} {first second : List Tok → List Tok} → Writes names front first → Writes names back second →
    Writes names (front ++ (32 ∷ (written_as names t ++ (32 ∷ back)))) (λ toks. first (t ∷ second toks))
between t one other = both_write (λ rest ends. refl) one (spaced (token_then t other))

-- a comma, a text and more
pub comma_then : {names : Names} {front back : List ℕ} {first second : List Tok → List Tok} → Stops back → Writes names front first → Writes names back second →
    Writes names (codes ", " ++ (front ++ back)) (λ toks. k.Comma ∷ first (second toks))
comma_then stops one other = sign_writes k.Comma refl (spaced (both_write stops one other))
