-- One event may meet two items of a denial, and a built-in parts them.
use Rattle.std.proofs.Common.{ℕ, zero, suc, true, false, not, ◌≡◌, ◌<◌, List, [], ◌∷◌, refl, sym, ap, subst, ◌∙◌, arith}
use Rattle.std.specs.Prelude.{codes}
use Rattle.std.specs.Ordering.{is_eq}
use Rattle.lps_terms.specs.declared.atom.Atom.{Atom}
use Rattle.lps_terms.specs.declared.built.Built.TheVariants as u
use Rattle.lps_terms.specs.declared.item.Item.{Item}
use Rattle.lps_terms.specs.declared.item.Item.TheVariants as i
use Rattle.lps_terms.specs.declared.term.Term.{Term}
use Rattle.lps_terms.specs.declared.term.Term.TheVariants as t
use Rattle.lps_terms.specs.Order.{term_cmp, term_eq}
use Rattle.lps_terms.specs.OrderLaws.{term_cmp-Sym, term_cmp_total}
use Rattle.lps_terms.specs.Put.{put, put_atom, put-Var}
use Rattle.lps_terms.specs.Names.{is_proper_name, reserved}
use Rattle.std.proofs.lemmas.Cmp.{tied_itself}
use Rattle.lps_terms.specs.Symbols.{symbols_of, symbols_of_all, symbols_of_all-cons, symbols_of-Sym}
use Rattle.lps_derivation.specs.Ground.{is_ground, is_ground-Sym}
use Rattle.lps_derivation.specs.Instances.{IsSmall}
use Rattle.lps_meaning.specs.Denials.{Violates, ViolatesNumber, ViolatesNone, IsLeastViolated}
use Rattle.lps_examples.specs.Examples.{from_to, order_of, order_text, reject_trace}
use Rattle.lps_meaning.specs.Items.{IsSmallItem, put_item}
use Rattle.lps_examples.proofs.ExampleWalks.{head_or, only_one, only_numbered}

abbrev p : Term
p = t.Sym (codes "p")

abbrev q : Term
q = t.Sym (codes "q")

abbrev denial : List Item
denial = from_to (order_of (t.Var 0)) 0 1 ∷ from_to (order_of (t.Var 1)) 0 1 ∷ i.Built (u.Differ (t.Var 0) (t.Var 1)) ∷ []

abbrev values : ℕ → Term
values zero = p
values (suc v) = q

abbrev times : ℕ → ℕ
times zero = 0
times (suc n) = 1

values_ground : (v : ℕ) → is_ground (values v) ≡ true
unfolding is_proper_name reserved
values_ground zero = is_ground-Sym (codes "p")
values_ground (suc v) = is_ground-Sym (codes "q")

abbrev arg_of : Atom → Term
arg_of a = head_or p a.args

small_order : (s : ℕ → Term) (v : ℕ) (name : List ℕ) → put s (t.Var v) ≡ t.Sym name → IsSmallItem (put_item s (from_to (order_of (t.Var v)) 0 1))
small_order s v name e =
    let one : symbols_of (put s (t.Var v)) ≡ 1 = ap symbols_of e ∙ symbols_of-Sym name in
    let none : symbols_of_all [] ≡ 0 = refl in
    omega (arith, one, none, symbols_of_all-cons (put s (t.Var v)) [])

small_side : (s : ℕ → Term) (v : ℕ) (name : List ℕ) → put s (t.Var v) ≡ t.Sym name → IsSmall (symbols_of (put s (t.Var v)))
small_side s v name e = let one : symbols_of (put s (t.Var v)) ≡ 1 = ap symbols_of e ∙ symbols_of-Sym name in omega (arith, one)

put_p : put values (t.Var 0) ≡ p
put_p = put-Var values 0

put_q : put values (t.Var 1) ≡ q
put_q = put-Var values 1

-- a term does not differ from itself
same_differ : (x y : Term) → x ≡ y → not (term_eq x y) ≡ true → ⊥
same_differ x y same differ =
    let equal : term_eq x y ≡ true = ap (λ z. term_eq x z) (sym same) ∙ ap is_eq (tied_itself term_cmp_total x) in
    let no : not (term_eq x y) ≡ false = ap not equal in cc

p_q_differ : not (term_eq (put values (t.Var 0)) (put values (t.Var 1))) ≡ true
p_q_differ = (λ i. not (is_eq (term_cmp (put_p i) (put_q i)))) ∙ ap (λ r. not (is_eq r)) (term_cmp-Sym (codes "p") (codes "q"))

module _ (level : List ℕ → ℕ) where
  module _ (events : List Atom) (k : ℕ) (h : ViolatesNumber order_text level reject_trace events k) where
    denial_is : (k ≡ 1) × (denial ≡ h.0)
    denial_is = only_numbered denial h.0 k h.1

    violates : Violates order_text level reject_trace events denial
    violates = subst (λ items. Violates order_text level reject_trace events items) (sym denial_is.1) h.2

  alone : ViolatesNone order_text level reject_trace (order_of p ∷ [])
  alone k h =
      let v = violates (order_of p ∷ []) k h in
      let first : p ≡ put v.values (t.Var 0) = ap arg_of (only_one (order_of p) (put_atom v.values (order_of (t.Var 0))) v.met.0.2) in
      let second : p ≡ put v.values (t.Var 1) = ap arg_of (only_one (order_of p) (put_atom v.values (order_of (t.Var 1))) v.met.1.0.2) in
      same_differ (put v.values (t.Var 0)) (put v.values (t.Var 1)) (sym first ∙ second) v.met.1.1.0

  both : Violates order_text level reject_trace (order_of p ∷ order_of q ∷ []) denial
  both = record {
    values = values;
    times = times;
    all_ground = values_ground;
    small = (small_order values 0 (codes "p") put_p, (small_order values 1 (codes "q") put_q, ((small_side values 0 (codes "p") put_p, small_side values 1 (codes "q") put_q), tt)));
    met = ((refl, refl, (0, omega arith, ap order_of (sym put_p))), ((refl, refl, (1, omega arith, ap order_of (sym put_q))), (p_q_differ, tt)));
  }

  pub one_order : ViolatesNone order_text level reject_trace (order_of p ∷ [])
      × IsLeastViolated order_text level reject_trace (order_of p ∷ order_of q ∷ []) 1
  one_order = (
    alone,
    (
      (denial, refl, both),
      λ j lt h. let one = (denial_is (order_of p ∷ order_of q ∷ []) j h).0 in
          let none : (j : ℕ) → j ≡ 1 → j < 1 → ⊥ = λ j e lt. omega (arith, e, lt) in none j one lt,
    ),
  )
