-- A term cleaned is ground: no variable, no improper name and no integer of more bits is left in it. Ground terms stay as they are, and
-- cleaning what was put into a well-formed term is putting in what was cleaned.
use Rattle.std.proofs.Common.{ℕ, ℤ, pos, ◌≡◌, Bool, true, false, cond, List, [], ◌∷◌, length, map, refl, sym, ap, ◌∙◌}
use Rattle.std.specs.Prelude.{◌&&◌, nat_lt, nat_le}
use Rattle.std.specs.List.{AllByRecursion, list_all}
use Rattle.std.proofs.lemmas.List.{length-map}
use Rattle.lps_terms.specs.declared.atom.Atom.{Atom}
use Rattle.lps_terms.specs.declared.built.Built.{Built}
use Rattle.lps_terms.specs.declared.built.Built.TheVariants as b
use Rattle.lps_terms.specs.declared.expr.Expr.{Expr}
use Rattle.lps_terms.specs.declared.expr.Expr.TheVariants as e
use Rattle.lps_terms.specs.declared.expr.Expr.TheOpen.{Expr-F}
use Rattle.lps_terms.specs.declared.expr.Expr.TheFolds.{fold-Expr, fold-roll-Expr}
use Rattle.lps_terms.specs.declared.item.Item.{Item}
use Rattle.lps_terms.specs.declared.item.Item.TheVariants as i
use Rattle.lps_terms.specs.declared.lit.Lit.{Lit}
use Rattle.lps_terms.specs.declared.op.Op.{Op}
use Rattle.lps_terms.specs.declared.term.Term.{Term}
use Rattle.lps_terms.specs.declared.term.Term.TheVariants as t
use Rattle.lps_terms.specs.declared.term.Term.TheOpen.{Term-F}
use Rattle.lps_terms.specs.declared.term.Term.TheFolds.{fold-Term}
use Rattle.lps_terms.specs.Forms.{term_ind, fold-Int, fold-Sym, fold-App, fold-Var}
use Rattle.lps_terms.specs.Names.{is_proper_name}
use Rattle.lps_terms.specs.Put.{put, put_atom, put-Int, put-Sym, put-App, put-Var}
use Rattle.lps_model.specs.Formed.{is_formed_atom, is_formed_built, is_formed_expr, is_formed_item, is_formed_term, is_formed-App, is_formed-Apply, is_formed-Int, is_formed-Leaf, is_formed-Sym}
use Rattle.lps_terms.specs.Integers.{is_i64}
use Rattle.lps_derivation.specs.Expressions.{put_expr, put_expr-Leaf, put_expr-Apply, expr_ind}
use Rattle.lps_derivation.specs.Ground.{is_ground, is_ground-App, is_ground-Int, is_ground-Sym, is_ground-Var}
use Rattle.lps_derivation.specs.Instances.{put_built}
use Rattle.lps_meaning.specs.Items.{put_item}
use Rattle.lps_meaning.proofs.Lists.{both}

false_true : false ≡ true → ⊥
false_true e = cc

-- a ground term that stands for what is not ground
abbrev nought : Term
nought = t.Int (pos 0)

nought_ground : is_ground nought ≡ true
nought_ground = is_ground-Int (pos 0)

-- ---- terms

-- how a function with so many arguments may stand in a ground term
abbrev is_call : List ℕ → ℕ → Bool
is_call name count = is_proper_name name && nat_lt 0 count && nat_le count 64

-- one form cleaned, with each argument cleaned in its place
abbrev clean_step : Term-F Term → Term
clean_step (Term-F.Int z) = cond (is_i64 z) (t.Int z) nought
clean_step (Term-F.Sym name) = cond (is_proper_name name) (t.Sym name) nought
clean_step (Term-F.App name args) = cond (is_call name (length args)) (t.App name args) nought
clean_step (Term-F.Var v) = nought

-- a term with a ground one in the place of each variable, and of all that may not stand in a ground term
abbrev pub clean : Term → Term
clean = fold-Term Term clean_step

clean-Int : (z : ℤ) → clean (t.Int z) ≡ cond (is_i64 z) (t.Int z) nought
clean-Int = fold-Int Term clean_step

clean-Sym : (n : List ℕ) → clean (t.Sym n) ≡ cond (is_proper_name n) (t.Sym n) nought
clean-Sym = fold-Sym Term clean_step

clean-App : (n : List ℕ) (ts : List Term) → clean (t.App n ts) ≡ cond (is_call n (length ts)) (t.App n (map clean ts)) nought
clean-App n ts = fold-App Term clean_step n ts ∙ ap (λ k. cond (is_call n k) (t.App n (map clean ts)) nought) (length-map ts clean)

clean-Var : (v : ℕ) → clean (t.Var v) ≡ nought
clean-Var = fold-Var Term clean_step

-- what is chosen by a test is ground where it is wherever the test passes
chosen_ground : (test : Bool) (x : Term) → (test ≡ true → is_ground x ≡ true) → is_ground (cond test x nought) ≡ true
chosen_ground true x h = h refl
chosen_ground false x h = nought_ground

all_ground : (ts : List Term) → AllByRecursion (λ x. is_ground (clean x) ≡ true) ts → list_all is_ground (map clean ts) ≡ true
all_ground [] h = refl
all_ground (x ∷ ts) h = let more = all_ground ts h.1 in λ j. h.0 j && more j

pub clean_ground : (x : Term) → is_ground (clean x) ≡ true
clean_ground = term_ind (λ x. is_ground (clean x) ≡ true)
    (λ z. ap is_ground (clean-Int z) ∙ chosen_ground (is_i64 z) (t.Int z) (λ h. is_ground-Int z ∙ h))
    (λ n. ap is_ground (clean-Sym n) ∙ chosen_ground (is_proper_name n) (t.Sym n) (λ h. is_ground-Sym n ∙ h))
    (λ n ts each. ap is_ground (clean-App n ts) ∙ chosen_ground (is_call n (length ts)) (t.App n (map clean ts))
    (λ h.
    let args = all_ground ts each in
    is_ground-App n (map clean ts) ∙ ap (λ k. is_call n k && list_all is_ground (map clean ts)) (length-map ts clean) ∙ (λ j. h j && args j)))
    (λ v. ap is_ground (clean-Var v) ∙ nought_ground)

pub all_stay : (ts : List Term) → AllByRecursion (λ x. is_ground x ≡ true → clean x ≡ x) ts → list_all is_ground ts ≡ true → map clean ts ≡ ts
all_stay [] each h = refl
all_stay (x ∷ ts) each h =
    let parts = both (is_ground x) (list_all is_ground ts) h in let more = all_stay ts each.1 parts.1 in λ j. each.0 parts.0 j ∷ more j

-- a ground term stays as it is
pub clean_stays : (x : Term) → is_ground x ≡ true → clean x ≡ x
clean_stays = term_ind (λ x. is_ground x ≡ true → clean x ≡ x)
    (λ z h. clean-Int z ∙ ap (λ test. cond test (t.Int z) nought) (sym (is_ground-Int z) ∙ h))
    (λ n h. clean-Sym n ∙ ap (λ test. cond test (t.Sym n) nought) (sym (is_ground-Sym n) ∙ h))
    (λ n ts each h.
    let parts = both (is_call n (length ts)) (list_all is_ground ts) (sym (is_ground-App n ts) ∙ h) in
    clean-App n ts ∙ ap (λ test. cond test (t.App n (map clean ts)) nought) parts.0 ∙ ap (t.App n) (all_stay ts each parts.1))
    (λ v h. absurd (false_true (sym (is_ground-Var v) ∙ h)))

module _ (variables : ℕ) (f : ℕ → Term) where
  -- what is put in, cleaned
  abbrev pub cleaned : ℕ → Term
  cleaned v = clean (f v)

  abbrev Cleans : Term → Type 0
  Cleans x = is_formed_term variables x ≡ true → clean (put f x) ≡ put cleaned x

  all_clean : (ts : List Term) → AllByRecursion Cleans ts → list_all (is_formed_term variables) ts ≡ true → map clean (map (put f) ts) ≡ map (put cleaned) ts
  all_clean [] each h = refl
  all_clean (x ∷ ts) each h =
      let parts = both (is_formed_term variables x) (list_all (is_formed_term variables) ts) h in let more = all_clean ts each.1 parts.1 in λ j. each.0 parts.0 j ∷ more j

  app_clean : (n : List ℕ) (ts : List Term) → AllByRecursion Cleans ts → Cleans (t.App n ts)
  app_clean n ts each h =
      let parts = both (is_call n (length ts)) (list_all (is_formed_term variables) ts) (sym (is_formed-App variables n ts) ∙ h) in
      ap clean (put-App f n ts) ∙ clean-App n (map (put f) ts)
      ∙ ap (λ k. cond (is_call n k) (t.App n (map clean (map (put f) ts))) nought) (length-map ts (put f))
      ∙ ap (λ test. cond test (t.App n (map clean (map (put f) ts))) nought) parts.0 ∙ ap (t.App n) (all_clean ts each parts.1) ∙ sym (put-App cleaned n ts)

  clean_put : (x : Term) → Cleans x
  clean_put = term_ind Cleans
      (λ z h.
      ap clean (put-Int f z) ∙ clean-Int z ∙ ap (λ test. cond test (t.Int z) nought) (sym (is_formed-Int variables z) ∙ h) ∙ sym (put-Int cleaned z))
      (λ n h. ap clean (put-Sym f n) ∙ clean-Sym n ∙ ap (λ test. cond test (t.Sym n) nought) (sym (is_formed-Sym variables n) ∙ h) ∙ sym (put-Sym cleaned n))
      app_clean
      (λ v h. ap clean (put-Var f v) ∙ sym (put-Var cleaned v))

  every : (ts : List Term) → AllByRecursion Cleans ts
  every [] = tt
  every (x ∷ ts) = (clean_put x, every ts)

-- ---- expressions, built-ins, atoms and items

abbrev clean_expr_step : Expr-F Expr → Expr
clean_expr_step (Expr-F.Leaf x) = e.Leaf (clean x)
clean_expr_step (Expr-F.Apply op x y) = e.Apply op x y

abbrev pub clean_expr : Expr → Expr
clean_expr = fold-Expr Expr clean_expr_step

pub clean_expr-Leaf : (x : Term) → clean_expr (e.Leaf x) ≡ e.Leaf (clean x)
clean_expr-Leaf x = ap clean_expr (sym (e.rolls-Leaf x)) ∙ fold-roll-Expr Expr clean_expr_step _

pub clean_expr-Apply : (op : Op) (x y : Expr) → clean_expr (e.Apply op x y) ≡ e.Apply op (clean_expr x) (clean_expr y)
clean_expr-Apply op x y = ap clean_expr (sym (e.rolls-Apply op x y)) ∙ fold-roll-Expr Expr clean_expr_step _

abbrev pub clean_built : Built → Built
clean_built (b.Same x y) = b.Same (clean x) (clean y)
clean_built (b.Differ x y) = b.Differ (clean x) (clean y)
clean_built (b.Is x sum) = b.Is (clean x) (clean_expr sum)
clean_built (b.Compare rel x y) = b.Compare rel (clean_expr x) (clean_expr y)

abbrev pub clean_atom : Atom → Atom
clean_atom a = record { name = a.name; args = map clean a.args }

abbrev pub clean_lit : Lit → Lit
clean_lit l = record { negated = l.negated; atom = clean_atom l.atom }

abbrev pub clean_item : Item → Item
clean_item (i.At l time) = i.At (clean_lit l) time
clean_item (i.Bare l) = i.Bare (clean_lit l)
clean_item (i.Built built) = i.Built (clean_built built)
clean_item (i.Span a from to) = i.Span (clean_atom a) from to
clean_item (i.Con con) = i.Con con

module _ (variables : ℕ) (f : ℕ → Term) where
  clean_put_expr : (x : Expr) → is_formed_expr variables x ≡ true → clean_expr (put_expr f x) ≡ put_expr (cleaned variables f) x
  clean_put_expr = expr_ind (λ x. is_formed_expr variables x ≡ true → clean_expr (put_expr f x) ≡ put_expr (cleaned variables f) x)
      (λ x h.
      ap clean_expr (put_expr-Leaf f x) ∙ clean_expr-Leaf (put f x) ∙ ap (λ y. e.Leaf y) (clean_put variables f x (sym (is_formed-Leaf variables x) ∙ h))
      ∙ sym (put_expr-Leaf (cleaned variables f) x))
      (λ op x y one two h.
      let parts = both (is_formed_expr variables x) (is_formed_expr variables y) (sym (is_formed-Apply variables op x y) ∙ h) in
      ap clean_expr (put_expr-Apply f op x y) ∙ clean_expr-Apply op (put_expr f x) (put_expr f y) ∙ (λ j. e.Apply op (one parts.0 j) (two parts.1 j))
      ∙ sym (put_expr-Apply (cleaned variables f) op x y))

  clean_put_built : (x : Built) → is_formed_built variables x ≡ true → clean_built (put_built f x) ≡ put_built (cleaned variables f) x
  clean_put_built (b.Same x y) h =
      let parts = both (is_formed_term variables x) (is_formed_term variables y) h in λ j. b.Same (clean_put variables f x parts.0 j) (clean_put variables f y parts.1 j)
  clean_put_built (b.Differ x y) h =
      let parts = both (is_formed_term variables x) (is_formed_term variables y) h in λ j. b.Differ (clean_put variables f x parts.0 j) (clean_put variables f y parts.1 j)
  clean_put_built (b.Is x sum) h =
      let parts = both (is_formed_term variables x) (is_formed_expr variables sum) h in λ j. b.Is (clean_put variables f x parts.0 j) (clean_put_expr sum parts.1 j)
  clean_put_built (b.Compare rel x y) h =
      let parts = both (is_formed_expr variables x) (is_formed_expr variables y) h in λ j. b.Compare rel (clean_put_expr x parts.0 j) (clean_put_expr y parts.1 j)

  pub clean_put_atom : (a : Atom) → is_formed_atom variables a ≡ true → clean_atom (put_atom f a) ≡ put_atom (cleaned variables f) a
  clean_put_atom a h =
      let args = all_clean variables f a.args (every variables f a.args) (both (is_proper_name a.name && nat_le (length a.args) 64) (list_all (is_formed_term variables) a.args) h).1 in
      λ j. record { name = a.name; args = args j }

  pub clean_put_item : (times : ℕ) (item : Item) → is_formed_item variables times item ≡ true → clean_item (put_item f item) ≡ put_item (cleaned variables f) item
  clean_put_item times (i.At l time) h =
      let atom = clean_put_atom l.atom (both (is_formed_atom variables l.atom) (nat_lt time.0 times) h).0 in λ j. i.At (record { negated = l.negated; atom = atom j }) time
  clean_put_item times (i.Bare l) h = let atom = clean_put_atom l.atom h in λ j. i.Bare (record { negated = l.negated; atom = atom j })
  clean_put_item times (i.Built built) h = ap (λ x. i.Built x) (clean_put_built built h)
  clean_put_item times (i.Span a from to) h =
      let atom = clean_put_atom a (both (is_formed_atom variables a) (nat_lt from.0 times) (both (is_formed_atom variables a && nat_lt from.0 times) (nat_lt to.0 times) h).0).0 in
      λ j. i.Span (atom j) from to
  clean_put_item times (i.Con con) h = refl

-- ---- what was cleaned is ground

pub cleaned_terms : (ts : List Term) → list_all is_ground (map clean ts) ≡ true
cleaned_terms ts = all_ground ts (each ts)
  where
    each : (ts : List Term) → AllByRecursion (λ x. is_ground (clean x) ≡ true) ts
    each [] = tt
    each (x ∷ ts) = (clean_ground x, each ts)

cleaned_expr : (x : Expr) → is_formed_expr 0 (clean_expr x) ≡ true
cleaned_expr = expr_ind (λ x. is_formed_expr 0 (clean_expr x) ≡ true)
    (λ x. ap (is_formed_expr 0) (clean_expr-Leaf x) ∙ is_formed-Leaf 0 (clean x) ∙ clean_ground x)
    (λ op x y one two. ap (is_formed_expr 0) (clean_expr-Apply op x y) ∙ is_formed-Apply 0 op (clean_expr x) (clean_expr y) ∙ (λ j. one j && two j))

pub cleaned_built : (x : Built) → is_formed_built 0 (clean_built x) ≡ true
cleaned_built (b.Same x y) = λ j. clean_ground x j && clean_ground y j
cleaned_built (b.Differ x y) = λ j. clean_ground x j && clean_ground y j
cleaned_built (b.Is x sum) = λ j. clean_ground x j && cleaned_expr sum j
cleaned_built (b.Compare rel x y) = λ j. cleaned_expr x j && cleaned_expr y j
