-- Ground terms and atoms, and lists of them, before bytes with which they do not go on: where the bytes are the same, so are the two parts.
use Rattle.std.proofs.Common.{ℕ, ℤ, ◌≡◌, ◌<◌, Bool, true, false, List, [], ◌∷◌, ◌++◌, length, map, refl, sym, ap, ◌∙◌, arith, append_assoc}
use Rattle.std.specs.Prelude.{nat_lt, nat_le, ◌==◌, ◌&&◌, ◌||◌, codes}
use Rattle.std.specs.Char.{is_ascii_digit}
use Rattle.std.specs.Fmt.{signed_decimal}
use Rattle.std.specs.List.{list_all, AllByRecursion}
use Rattle.std.proofs.lemmas.Bool.{ltb-true}
use Rattle.std.proofs.lemmas.Bool.Decides.{nat_tests}
use Rattle.lps_terms.specs.declared.atom.Atom.{Atom}
use Rattle.lps_terms.specs.declared.term.Term.{Term}
use Rattle.lps_terms.specs.declared.term.Term.TheVariants as t
use Rattle.lps_terms.specs.Forms.{term_ind}
use Rattle.lps_terms.specs.Names.{is_lower_byte, is_proper_name, is_word_byte}
use Rattle.lps_terms.specs.Printed.{applied_text, atom_text, call_text, led, printed, separated, printed-Int, printed-Sym, printed-App}
use Rattle.lps_derivation.specs.Ground.{is_ground, is_ground-Int, is_ground-Sym, is_ground-App, is_ground-Var}
use Rattle.lps_meaning.specs.Reports.{IsGroundAtom, listed}
use Rattle.lps_telling.proofs.TextPieces.{Begins, begins_front, integer_is_no_name, name_first, not_both, same_integer, same_name, Stops, tail}
use Rattle.lps_meaning.proofs.Lists.{all_listed, both, neither}

-- ---- what follows

-- a byte with which a term goes on
abbrev pub is_inner : ℕ → Bool
is_inner byte = is_word_byte byte || (byte == 40)

-- a byte with which a list of terms goes on
abbrev pub is_within : ℕ → Bool
is_within byte = is_inner byte || (byte == 44)

pub stops_inner : (rest : List ℕ) → Stops is_within rest → Stops is_inner rest
stops_inner [] stops = tt
stops_inner (x ∷ rest) stops = (neither (is_inner x) (x == 44) stops).0

stops_word : (rest : List ℕ) → Stops is_inner rest → Stops is_word_byte rest
stops_word [] stops = tt
stops_word (x ∷ rest) stops = (neither (is_word_byte x) (x == 40) stops).0

digit_word : (byte : ℕ) → is_word_byte byte ≡ false → is_ascii_digit byte ≡ false
digit_word byte e = grind (arith, nat_tests, e)

pub stops_digit : (rest : List ℕ) → Stops is_inner rest → Stops is_ascii_digit rest
stops_digit [] stops = tt
stops_digit (x ∷ rest) stops = digit_word x (neither (is_word_byte x) (x == 40) stops).0

-- ---- lists

module _ {X : Type 0} (P : X → Type 0) (spell : X → List ℕ) where
  -- no other has its text, before bytes with which neither goes on
  abbrev pub IsTold : X → Type 0
  IsTold x = (y : X) → P x → P y → (rest after : List ℕ) → Stops is_inner rest → Stops is_inner after →
      spell x ++ rest ≡ spell y ++ after → (x ≡ y) × (rest ≡ after)

  led_stops : (xs : List X) (rest : List ℕ) → Stops is_within rest → Stops is_inner (led (map spell xs) ++ rest)
  led_stops [] rest stops = stops_inner rest stops
  led_stops (x ∷ xs) rest stops = refl

  led_goes : (xs : List X) (rest : List ℕ) → Stops is_inner rest → Stops is_inner (led (map spell xs) ++ rest)
  led_goes [] rest stops = stops
  led_goes (x ∷ xs) rest stops = refl

  pub same_led : (xs ys : List X) → AllByRecursion IsTold xs → AllByRecursion P xs → AllByRecursion P ys → (rest after : List ℕ) → Stops is_within rest → Stops is_within after →
      led (map spell xs) ++ rest ≡ led (map spell ys) ++ after → (xs ≡ ys) × (rest ≡ after)
  same_led [] [] told p q rest after stops ends e = (refl, e)
  same_led [] (y ∷ ys) told p q rest after stops ends e = absurd (not_both is_within (led (map spell (y ∷ ys)) ++ after) rest refl stops (sym e))
  same_led (x ∷ xs) [] told p q rest after stops ends e = absurd (not_both is_within (led (map spell (x ∷ xs)) ++ rest) after refl ends e)
  same_led (x ∷ xs) (y ∷ ys) told p q rest after stops ends e =
      let apart : spell x ++ (led (map spell xs) ++ rest) ≡ spell y ++ (led (map spell ys) ++ after) =
      sym (append_assoc (spell x) (led (map spell xs)) rest) ∙ ap (λ bytes. tail (tail bytes)) e ∙ append_assoc (spell y) (led (map spell ys)) after in
      let first = told.0 y p.0 q.0 (led (map spell xs) ++ rest) (led (map spell ys) ++ after) (led_stops xs rest stops) (led_stops ys after ends) apart in
      let later = same_led xs ys told.1 p.1 q.1 rest after stops ends first.1 in
      ((λ i. first.0 i ∷ later.0 i), later.1)

  -- lists of as many, whatever follows
  pub same_counted : (xs ys : List X) → length xs ≡ length ys → AllByRecursion IsTold xs → AllByRecursion P xs → AllByRecursion P ys →
      (rest after : List ℕ) → Stops is_inner rest → Stops is_inner after →
      led (map spell xs) ++ rest ≡ led (map spell ys) ++ after → (xs ≡ ys) × (rest ≡ after)
  same_counted [] [] count told p q rest after stops ends e = (refl, e)
  same_counted [] (y ∷ ys) count told p q rest after stops ends e = absurd (omega (arith, count))
  same_counted (x ∷ xs) [] count told p q rest after stops ends e = absurd (omega (arith, count))
  same_counted (x ∷ xs) (y ∷ ys) count told p q rest after stops ends e =
      let apart : spell x ++ (led (map spell xs) ++ rest) ≡ spell y ++ (led (map spell ys) ++ after) =
      sym (append_assoc (spell x) (led (map spell xs)) rest) ∙ ap (λ bytes. tail (tail bytes)) e ∙ append_assoc (spell y) (led (map spell ys)) after in
      let first = told.0 y p.0 q.0 (led (map spell xs) ++ rest) (led (map spell ys) ++ after) (led_goes xs rest stops) (led_goes ys after ends) apart in
      let later = same_counted xs ys (omega (arith, count)) told.1 p.1 q.1 rest after stops ends first.1 in
      ((λ i. first.0 i ∷ later.0 i), later.1)

  -- lists of which neither is empty
  pub same_separated : (xs ys : List X) → 0 < length xs → 0 < length ys → AllByRecursion IsTold xs → AllByRecursion P xs → AllByRecursion P ys →
      (rest after : List ℕ) → Stops is_within rest → Stops is_within after →
      separated (map spell xs) ++ rest ≡ separated (map spell ys) ++ after → (xs ≡ ys) × (rest ≡ after)
  same_separated [] ys some any told p q rest after stops ends e = absurd (omega arith)
  same_separated (x ∷ xs) [] some any told p q rest after stops ends e = absurd (omega arith)
  same_separated (x ∷ xs) (y ∷ ys) some any told p q rest after stops ends e =
      let apart : spell x ++ (led (map spell xs) ++ rest) ≡ spell y ++ (led (map spell ys) ++ after) =
      sym (append_assoc (spell x) (led (map spell xs)) rest) ∙ e ∙ append_assoc (spell y) (led (map spell ys)) after in
      let first = told.0 y p.0 q.0 (led (map spell xs) ++ rest) (led (map spell ys) ++ after) (led_stops xs rest stops) (led_stops ys after ends) apart in
      let later = same_led xs ys told.1 p.1 q.1 rest after stops ends first.1 in
      ((λ i. first.0 i ∷ later.0 i), later.1)

-- ---- calls

abbrev pub IsGroundTerm : Term → Type 0
IsGroundTerm x = is_ground x ≡ true

call_apart : (name pieces rest : List ℕ) → (name ++ codes "(" ++ pieces ++ codes ")") ++ rest ≡ name ++ (40 ∷ (pieces ++ (41 ∷ rest)))
call_apart name pieces rest =
    append_assoc (name ++ codes "(" ++ pieces) (codes ")") rest ∙ append_assoc (name ++ codes "(") pieces (41 ∷ rest) ∙ append_assoc name (codes "(") (pieces ++ (41 ∷ rest))

-- a name with arguments
same_call : (n m : List ℕ) (ts us : List Term) → is_proper_name n ≡ true → is_proper_name m ≡ true → 0 < length ts → 0 < length us →
    AllByRecursion (IsTold IsGroundTerm printed) ts → AllByRecursion IsGroundTerm ts → AllByRecursion IsGroundTerm us → (rest after : List ℕ) →
    call_text n (map printed ts) ++ rest ≡ call_text m (map printed us) ++ after → (n ≡ m) × (ts ≡ us) × (rest ≡ after)
same_call n m ts us proper good some any told ground all rest after e =
    let apart = sym (call_apart n (separated (map printed ts)) rest) ∙ e ∙ call_apart m (separated (map printed us)) after in
    let name = same_name n m (40 ∷ (separated (map printed ts) ++ (41 ∷ rest))) (40 ∷ (separated (map printed us) ++ (41 ∷ after))) proper good refl refl apart in
    let args = same_separated IsGroundTerm printed ts us some any told ground all (41 ∷ rest) (41 ∷ after) refl refl (ap tail name.1) in
    (name.0, args.0, ap tail args.1)

-- a name alone is no name with arguments
name_is_no_call : (n m pieces rest after : List ℕ) → is_proper_name n ≡ true → is_proper_name m ≡ true → Stops is_inner rest →
    n ++ rest ≡ (m ++ codes "(" ++ pieces ++ codes ")") ++ after → ⊥
name_is_no_call n m pieces rest after proper good stops e =
    let name = same_name n m rest (40 ∷ (pieces ++ (41 ∷ after))) proper good (stops_word rest stops) refl (e ∙ call_apart m pieces after) in
    not_both is_inner (40 ∷ (pieces ++ (41 ∷ after))) rest refl stops (sym name.1)

-- ---- terms

-- what a function's groundness says
pub ground_call : (n : List ℕ) (ts : List Term) → IsGroundTerm (t.App n ts) → (is_proper_name n ≡ true) × (0 < length ts) × AllByRecursion IsGroundTerm ts
ground_call n ts h =
    let all = both (is_proper_name n && nat_lt 0 (length ts) && nat_le (length ts) 64) (list_all is_ground ts) (sym (is_ground-App n ts) ∙ h) in
    let sized = both (is_proper_name n && nat_lt 0 (length ts)) (nat_le (length ts) 64) all.0 in
    let named = both (is_proper_name n) (nat_lt 0 (length ts)) sized.0 in
    (named.0, ltb-true 0 (length ts) named.1, all_listed is_ground ts all.1)

cases : (P : Term → Type 0) → ((z : ℤ) → P (t.Int z)) → ((n : List ℕ) → P (t.Sym n)) → ((n : List ℕ) (ts : List Term) → P (t.App n ts)) → ((v : ℕ) → P (t.Var v)) → (x : Term) → P x
cases P of_int of_sym of_app of_var = term_ind P of_int of_sym (λ n ts each. of_app n ts) of_var

no_var : (v : ℕ) → IsGroundTerm (t.Var v) → ⊥
no_var v h = let e = sym (is_ground-Var v) ∙ h in absurd cc

spelled : (x y : Term) (rest after one other : List ℕ) → printed x ≡ one → printed y ≡ other → printed x ++ rest ≡ printed y ++ after → one ++ rest ≡ other ++ after
spelled x y rest after one other e f same = ap (λ bytes. bytes ++ rest) (sym e) ∙ same ∙ ap (λ bytes. bytes ++ after) f

abbrev pub Told : Term → Type 0
Told = IsTold IsGroundTerm printed

int_told : (z : ℤ) → Told (t.Int z)
int_told z = cases (λ y. IsGroundTerm (t.Int z) → IsGroundTerm y → (rest after : List ℕ) → Stops is_inner rest → Stops is_inner after → printed (t.Int z) ++ rest ≡ printed y ++ after → (t.Int z ≡ y) × (rest ≡ after))
    (λ k g h rest after stops ends e.
    let same = same_integer z k rest after (sym (is_ground-Int z) ∙ g) (sym (is_ground-Int k) ∙ h) (stops_digit rest stops) (stops_digit after ends)
    (spelled (t.Int z) (t.Int k) rest after (signed_decimal z) (signed_decimal k) (printed-Int z) (printed-Int k) e) in (ap t.Int same.0, same.1))
    (λ n g h rest after stops ends e. absurd (integer_is_no_name z n rest after (sym (is_ground-Int z) ∙ g) (sym (is_ground-Sym n) ∙ h)
    (spelled (t.Int z) (t.Sym n) rest after (signed_decimal z) n (printed-Int z) (printed-Sym n) e)))
    (λ n ts g h rest after stops ends e. absurd (integer_is_no_name z n rest _ (sym (is_ground-Int z) ∙ g) (ground_call n ts h).0
    (spelled (t.Int z) (t.App n ts) rest after (signed_decimal z) (call_text n (map printed ts)) (printed-Int z) (printed-App n ts) e ∙ call_apart n (separated (map printed ts)) after)))
    (λ v g h rest after stops ends e. absurd (no_var v h))

sym_told : (n : List ℕ) → Told (t.Sym n)
sym_told n = cases (λ y. IsGroundTerm (t.Sym n) → IsGroundTerm y → (rest after : List ℕ) → Stops is_inner rest → Stops is_inner after → printed (t.Sym n) ++ rest ≡ printed y ++ after → (t.Sym n ≡ y) × (rest ≡ after))
    (λ k g h rest after stops ends e. absurd (integer_is_no_name k n after rest (sym (is_ground-Int k) ∙ h) (sym (is_ground-Sym n) ∙ g)
    (sym (spelled (t.Sym n) (t.Int k) rest after n (signed_decimal k) (printed-Sym n) (printed-Int k) e))))
    (λ m g h rest after stops ends e.
    let same = same_name n m rest after (sym (is_ground-Sym n) ∙ g) (sym (is_ground-Sym m) ∙ h) (stops_word rest stops) (stops_word after ends)
    (spelled (t.Sym n) (t.Sym m) rest after n m (printed-Sym n) (printed-Sym m) e) in (ap t.Sym same.0, same.1))
    (λ m us g h rest after stops ends e. absurd (name_is_no_call n m (separated (map printed us)) rest after (sym (is_ground-Sym n) ∙ g) (ground_call m us h).0 stops
    (spelled (t.Sym n) (t.App m us) rest after n (call_text m (map printed us)) (printed-Sym n) (printed-App m us) e)))
    (λ v g h rest after stops ends e. absurd (no_var v h))

app_told : (n : List ℕ) (ts : List Term) → AllByRecursion Told ts → Told (t.App n ts)
app_told n ts each = cases (λ y. IsGroundTerm (t.App n ts) → IsGroundTerm y → (rest after : List ℕ) → Stops is_inner rest → Stops is_inner after → printed (t.App n ts) ++ rest ≡ printed y ++ after → (t.App n ts ≡ y) × (rest ≡ after))
    (λ k g h rest after stops ends e. absurd (integer_is_no_name k n after _ (sym (is_ground-Int k) ∙ h) (ground_call n ts g).0
    (sym (spelled (t.App n ts) (t.Int k) rest after (call_text n (map printed ts)) (signed_decimal k) (printed-App n ts) (printed-Int k) e) ∙ call_apart n (separated (map printed ts)) rest)))
    (λ m g h rest after stops ends e. absurd (name_is_no_call m n (separated (map printed ts)) after rest (sym (is_ground-Sym m) ∙ h) (ground_call n ts g).0 ends
    (sym (spelled (t.App n ts) (t.Sym m) rest after (call_text n (map printed ts)) m (printed-App n ts) (printed-Sym m) e))))
    (λ m us g h rest after stops ends e.
    let one = ground_call n ts g in
    let other = ground_call m us h in
    let same = same_call n m ts us one.0 other.0 one.1 other.1 each one.2 other.2 rest after
    (spelled (t.App n ts) (t.App m us) rest after (call_text n (map printed ts)) (call_text m (map printed us)) (printed-App n ts) (printed-App m us) e) in
    ((λ i. t.App (same.0 i) (same.1 i)), same.2))
    (λ v g h rest after stops ends e. absurd (no_var v h))

-- a ground term is told by its text
pub term_told : (x : Term) → Told x
term_told = term_ind Told int_told sym_told app_told (λ v y g h rest after stops ends e. absurd (no_var v g))

pub all_told : {X : Type 0} (P : X → Type 0) (spell : X → List ℕ) → ((x : X) → IsTold P spell x) → (xs : List X) → AllByRecursion (IsTold P spell) xs
all_told P spell each [] = tt
all_told P spell each (x ∷ xs) = (each x, all_told P spell each xs)

-- ---- atoms

same_applied : (n m : List ℕ) (ts us : List Term) → is_proper_name n ≡ true → is_proper_name m ≡ true → AllByRecursion IsGroundTerm ts → AllByRecursion IsGroundTerm us →
    (rest after : List ℕ) → Stops is_inner rest → Stops is_inner after → applied_text n ts ++ rest ≡ applied_text m us ++ after → (n ≡ m) × (ts ≡ us) × (rest ≡ after)
same_applied n m [] [] proper good ground all rest after stops ends e =
    let same = same_name n m rest after proper good (stops_word rest stops) (stops_word after ends) e in (same.0, refl, same.1)
same_applied n m [] (u ∷ us) proper good ground all rest after stops ends e =
    absurd (name_is_no_call n m (separated (map printed (u ∷ us))) rest after proper good stops e)
same_applied n m (x ∷ ts) [] proper good ground all rest after stops ends e =
    absurd (name_is_no_call m n (separated (map printed (x ∷ ts))) after rest good proper ends (sym e))
same_applied n m (x ∷ ts) (u ∷ us) proper good ground all rest after stops ends e =
    same_call n m (x ∷ ts) (u ∷ us) proper good (omega arith) (omega arith) (all_told IsGroundTerm printed term_told (x ∷ ts)) ground all rest after e

-- a ground atom is told by its text
pub atom_told : (a : Atom) → IsTold IsGroundAtom atom_text a
atom_told a b g h rest after stops ends e =
    let same = same_applied a.name b.name a.args b.args g.0 h.0 (all_listed is_ground a.args g.1) (all_listed is_ground b.args h.1) rest after stops ends e in
    ((λ i. record { name = same.0 i; args = same.1 i }), same.2)

pub same_atom_text : (a b : Atom) → IsGroundAtom a → IsGroundAtom b → atom_text a ≡ atom_text b → a ≡ b
same_atom_text a b g h e = (atom_told a b g h [] [] tt tt (ap (λ bytes. bytes ++ []) e)).0

low_within : (byte : ℕ) → is_lower_byte byte ≡ true → is_within byte ≡ true
low_within byte low = grind (arith, nat_tests, low)

begins_within : (bytes : List ℕ) → Begins is_lower_byte bytes → Begins is_within bytes
begins_within [] begins = absurd begins
begins_within (x ∷ bytes) begins = low_within x begins

applied_first : (n : List ℕ) (ts : List Term) → Begins is_lower_byte n → Begins is_lower_byte (applied_text n ts)
applied_first n [] begins = begins
applied_first n (x ∷ ts) begins =
    begins_front is_lower_byte (n ++ codes "(" ++ separated (map printed (x ∷ ts))) (codes ")")
    (begins_front is_lower_byte (n ++ codes "(") (separated (map printed (x ∷ ts))) (begins_front is_lower_byte n (codes "(") begins))

listed_first : (a : Atom) (atoms : List Atom) (rest : List ℕ) → IsGroundAtom a → Begins is_within (listed atom_text (a ∷ atoms) ++ rest)
listed_first a atoms rest g =
    begins_within (listed atom_text (a ∷ atoms) ++ rest) (begins_front is_lower_byte (listed atom_text (a ∷ atoms)) rest
    (begins_front is_lower_byte (atom_text a) (led (map atom_text atoms)) (applied_first a.name a.args (name_first a.name g.0))))

-- lists of ground atoms are told by their texts
pub same_atoms : (xs ys : List Atom) → AllByRecursion IsGroundAtom xs → AllByRecursion IsGroundAtom ys → (rest after : List ℕ) → Stops is_within rest → Stops is_within after →
    listed atom_text xs ++ rest ≡ listed atom_text ys ++ after → (xs ≡ ys) × (rest ≡ after)
same_atoms [] [] g h rest after stops ends e = (refl, e)
same_atoms [] (y ∷ ys) g h rest after stops ends e = absurd (not_both is_within (listed atom_text (y ∷ ys) ++ after) rest (listed_first y ys after h.0) stops (sym e))
same_atoms (x ∷ xs) [] g h rest after stops ends e = absurd (not_both is_within (listed atom_text (x ∷ xs) ++ rest) after (listed_first x xs rest g.0) ends e)
same_atoms (x ∷ xs) (y ∷ ys) g h rest after stops ends e =
    same_separated IsGroundAtom atom_text (x ∷ xs) (y ∷ ys) (omega arith) (omega arith) (all_told IsGroundAtom atom_text atom_told (x ∷ xs)) g h rest after stops ends e
