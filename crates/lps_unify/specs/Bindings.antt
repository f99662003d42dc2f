-- Bindings: what was added to them, the substitutions that solve them, and the one that they give.
use Rattle.std.specs.Prelude.{ℕ, suc, ◌≡◌, ◌<◌, ◌+◌, ◌*◌, Bool, false, ◌||◌, cond, nat_eq, List, [], ◌∷◌, take}
use Rattle.lps_terms.specs.declared.term.Term.{Term}
use Rattle.lps_terms.specs.declared.term.Term.TheVariants as t
use Rattle.lps_terms.specs.Put.{put, after}
use Rattle.lps_unify.specs.declared.added.Added.{Added}
use Rattle.lps_unify.specs.declared.added.Added.TheVariants.{Bind, More}
use Rattle.lps_unify.specs.Weights.{occurrences, size, IsWithin}

-- how many variables there were first, and what was added since, the first addition first
pub record TrailedBindings : Type 0 where
  pub first : ℕ
  pub added : List Added

-- how bindings stand
pub record Standing : Type 0 where
  -- how many variables there are
  pub count : ℕ
  -- which of them are bound
  pub is_bound : ℕ → Bool
  -- what each variable stands for
  pub value : ℕ → Term
  -- a number for each variable that is more than the size of the term that it is bound to
  pub rank : ℕ → ℕ

-- u for the variable v alone
abbrev pub one : ℕ → Term → ℕ → Term
one v u w = cond (nat_eq v w) u (t.Var w)

-- so many variables, none of them bound
abbrev pub start : ℕ → Standing
start first = record { count = first; is_bound = λ w. false; value = λ w. t.Var w; rank = λ w. 1 }

-- after one addition
abbrev pub next : Standing → Added → Standing
next st (Bind v u) = record {
  count = st.count;
  is_bound = λ w. nat_eq v w || st.is_bound w;
  value = after (one v (put st.value u)) st.value;
  rank = λ w. st.rank w + suc (size st.rank u) * occurrences v (st.value w);
}
next st (More n) = record { count = st.count + n; is_bound = st.is_bound; value = st.value; rank = st.rank }

-- after some additions
abbrev pub over : Standing → List Added → Standing
over st [] = st
over st (entry ∷ added) = over (next st entry) added

-- how bindings stand after all additions
abbrev pub standing : TrailedBindings → Standing
standing b = over (start b.first) b.added

-- how many variables there are
abbrev pub count_of : TrailedBindings → ℕ
count_of b = (standing b).count

-- a term with the bindings put in for its variables
abbrev pub resolved : TrailedBindings → Term → Term
resolved b x = put (standing b).value x

-- the bindings after the first so many additions
abbrev pub back_to : ℕ → TrailedBindings → TrailedBindings
back_to count b = record { first = b.first; added = take count b.added }

-- each binding of v to u meets a condition
abbrev pub EachBind : (ℕ → Term → Type 0) → List Added → Type 0
EachBind P [] = Unit {0}
EachBind P (Bind v u ∷ added) = P v u × EachBind P added
EachBind P (More n ∷ added) = EachBind P added

-- a substitution makes the variable and the term of each binding equal
abbrev pub SolvesAll : (ℕ → Term) → List Added → Type 0
SolvesAll s added = EachBind (λ v u. s v ≡ put s u) added

-- a substitution solves the bindings
abbrev pub Solves : (ℕ → Term) → TrailedBindings → Type 0
Solves s b = SolvesAll s b.added

-- v may be bound to u: it is one of the variables, it is free, and it does not stand in what u is then
pub record IsBindable (st : Standing) (v : ℕ) (u : Term) : Type 0 where
  pub in_range : v < st.count
  pub free : st.is_bound v ≡ false
  pub within : IsWithin st.count u
  pub absent : occurrences v (put st.value u) ≡ 0

-- the addition may be made
abbrev pub IsNext : Standing → Added → Type 0
IsNext st (Bind v u) = IsBindable st v u
IsNext st (More n) = Unit {0}

-- the additions may be made one after another
abbrev pub AreNext : Standing → List Added → Type 0
AreNext st [] = Unit {0}
AreNext st (entry ∷ added) = IsNext st entry × AreNext (next st entry) added

-- each addition could be made when it was
abbrev pub IsLawful : TrailedBindings → Type 0
IsLawful b = AreNext (start b.first) b.added
