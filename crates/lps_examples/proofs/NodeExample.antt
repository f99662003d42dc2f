-- What is left of an antecedent of which the first event happened.
use Rattle.std.proofs.Common.{ℕ, zero, suc, false, ◌≡◌, List, [], ◌∷◌, ◌++◌, map, refl, sym, ap, ◌∙◌, arith}
use Rattle.std.specs.Prelude.{◌+◌, sum_by, codes}
use Rattle.std.specs.List.{filter}
use Rattle.std.proofs.lemmas.List.Sums.{sum_by-cons}
use Rattle.lps_terms.specs.declared.term.Term.{Term}
use Rattle.lps_terms.specs.declared.term.Term.TheVariants as term
use Rattle.lps_terms.specs.Forms.{fold-Var}
use Rattle.lps_terms.specs.Put.{put, put-Var, put-Sym}
use Rattle.lps_terms.specs.Symbols.{symbols_of, symbols_of_all, symbols_of_all-cons, symbols_of-Sym}
use Rattle.lps_model.specs.Order.{occurs}
use Rattle.lps_model.specs.VariableLists.{vars_step}
use Rattle.lps_meaning.specs.declared.node.Left.{Left}
use Rattle.lps_meaning.specs.declared.node.LeftItem.{LeftItem}
use Rattle.lps_meaning.specs.declared.node.LeftItem.TheVariants as l
use Rattle.lps_meaning.specs.declared.when.When.{When}
use Rattle.lps_meaning.specs.declared.when.When.TheVariants.{Known, Unknown}
use Rattle.lps_examples.specs.Examples.{from_to, unary, antecedent_rule, antecedent_text, antecedent_trace, antecedent_node}
use Rattle.lps_meaning.specs.Goals.{distinct, shared_values}
use Rattle.lps_meaning.specs.Items.{IsSmallItem, put_item}
use Rattle.lps_nodes.specs.Nodes.{IsWaitingNode, IsResidual, node_size, left_size}
use Rattle.lps_meaning.specs.Sequences.{Entry, Place, Times, stop, pass, passed, start, IsSmallSoFar}
use Rattle.lps_nodes.specs.Shapes.{antecedent_of, Shape, Whens, IsGeneral, is_numbered}
use Rattle.lps_examples.proofs.ExampleWalks.{constants, constants_ground}
use Rattle.lps_meaning.proofs.Occurrences.{vars-Sym}

abbrev k : Term
k = term.Sym (codes "k")

abbrev x : Term
x = term.Var 0

abbrev entry_e : Entry
entry_e = record { env = 0; nest = 0; joins = false; item = from_to (unary (codes "e") x) 0 1 }

abbrev entry_f : Entry
entry_f = record { env = 0; nest = 0; joins = false; item = from_to (unary (codes "f") x) 2 3 }

abbrev begin : Place
begin = start antecedent_text 0 antecedent_rule.antecedent

-- e from 0 to 1, f from 1 to 2
abbrev times : Times
times env zero = 0
times env (suc zero) = 1
times env (suc (suc zero)) = 1
times env (suc (suc (suc n))) = 2

abbrev behind_e : Place
behind_e = passed times begin entry_e (entry_f ∷ [])

-- X alone is shared
x_is_shared : shared_values antecedent_rule ≡ 0 ∷ []
x_is_shared =
    ap (λ vs. filter (λ v. occurs v (((vs ++ []) ++ []) ++ [])) (distinct [] ((vs ++ []) ++ ((vs ++ []) ++ [])))) (fold-Var (List ℕ) vars_step 0)

small_unary : (s : ℕ → Term) (name : List ℕ) → put s x ≡ k → IsSmallItem (put_item s (from_to (unary name x) 0 0))
small_unary s name e =
    let one : symbols_of (put s x) ≡ 1 = ap symbols_of e ∙ symbols_of-Sym (codes "k") in
    let none : symbols_of_all [] ≡ 0 = refl in
    omega (arith, one, none, symbols_of_all-cons (put s x) [])

put_k : put (constants 0) x ≡ k
put_k = put-Var (constants 0) 0

small_f : IsSmallSoFar [] constants behind_e entry_f
small_f = record { other = constants; alike = record { start = refl; past = (refl, tt); links = tt }; small = small_unary (constants 0) (codes "f") put_k }

-- the times of f are not known
abbrev whens : Whens
whens env zero = Known 0
whens env (suc zero) = Known 1
whens env (suc (suc zero)) = Unknown 0
whens env (suc (suc (suc n))) = Unknown 1

abbrev whole : Shape
whole = record { carry = antecedent_node.carry; rest = antecedent_node.rest; limits = antecedent_node.limits }

abbrev first_arg : List Left → Term
first_arg [] = x
first_arg (left ∷ rest) = of_item left.item
  where
    head : List Term → Term
    head [] = x
    head (y ∷ ys) = y

    of_item : LeftItem → Term
    of_item (l.Span a from to) = head a.args
    of_item _ = x

abbrev two : When → When → ℕ → When
two a b zero = a
two a b (suc n) = b

general : IsGeneral (antecedent_of antecedent_rule) constants times behind_e whole
general = record {
  values = constants;
  whens = whens;
  possible = record { values = refl; times = refl; past = (refl, tt); links = tt; when_links = tt };
  own = λ i. record {
    carry = record { values = ap (map (constants 0)) (sym x_is_shared) i; times = [] };
    rest = record { item = l.Span (unary (codes "f") (sym put_k i)) (Unknown 0) (Unknown 1); nest = 0 } ∷ [];
    limits = [];
  };
  general = λ u w possible.
      let known : put (u 0) x ≡ k = ap first_arg possible.past.0 ∙ put_k in
      let value : u 0 0 ≡ k = sym (put-Var (u 0) 0) ∙ known in
      let kept : put (λ n. k) k ≡ k = put-Sym (λ n. k) (codes "k") in (
        (λ n. k),
        two (w 0 2) (w 0 3),
        λ i. record {
          carry = record { values = (ap (map (u 0)) x_is_shared ∙ (λ j. (value ∙ sym kept) j ∷ [])) i; times = [] };
          rest = record { item = l.Span (unary (codes "f") ((known ∙ sym kept) i)) (w 0 2) (w 0 3); nest = 0 } ∷ [];
          limits = [];
        },
      );
}

residual : IsResidual (antecedent_of antecedent_rule) constants times behind_e antecedent_node
residual = record {
  whole = whole;
  general = general;
  tested = refl;
  canonical = (ap (λ vs. is_numbered 0 ((vs ++ []) ++ ((vs ++ []) ++ []))) (vars-Sym (codes "k")), refl);
  of_rank = refl;
  of_done = refl;
}

size : node_size antecedent_node ≡ 6
size =
    let one : symbols_of k ≡ 1 = symbols_of-Sym (codes "k") in
    let none : symbols_of_all [] ≡ 0 = refl in
    let all : symbols_of_all (k ∷ []) ≡ symbols_of k + symbols_of_all [] = symbols_of_all-cons k [] in
    let item : Left = record { item = l.Span (unary (codes "f") k) (Unknown 0) (Unknown 1); nest = 0 } in
    let rest : sum_by (λ (left : Left). left_size left.item) (item ∷ []) ≡ left_size item.item + sum_by (λ (left : Left). left_size left.item) [] =
    sum_by-cons (λ (left : Left). left_size left.item) item [] in
    let last : sum_by (λ (left : Left). left_size left.item) [] ≡ 0 = refl in
    omega (arith, one, none, all, rest, last)

module _ (level : List ℕ → ℕ) where
  pub node_example : IsWaitingNode antecedent_text level antecedent_trace antecedent_rule 1 antecedent_node × (node_size antecedent_node ≡ 6)
  node_example = (
    record {
      values = constants;
      times = times;
      ground = constants_ground;
      end = behind_e;
      walk = pass 0 0 false (from_to (unary (codes "e") x) 0 1) (entry_f ∷ []) refl refl (omega arith, (0, omega arith, ap (unary (codes "e")) (sym put_k)))
          (small_unary (constants 0) (codes "e") put_k) (refl, omega arith) stop;
      on = record {
        next = entry_f;
        rest = [];
        is_next = refl;
        step = refl;
        ahead = omega arith;
        in_order = ((refl, omega arith), tt);
        limits = (tt, (tt, tt));
        small = (small_f, tt);
      };
      no_call = refl;
      alternative = refl;
      residual = residual;
    },
    size,
  )
