-- Steps made at one time on what is left of a sequence alone, with no walk at hand.
use Rattle.std.specs.Prelude.{◌≡◌, ◌≤◌, ◌++◌, ℕ, suc, Bool, true, false, IsTrue, List, [], ◌∷◌, Option, Some, None, Contains, if◌then◌else◌}
use Rattle.std.specs.List.{list_all}
use Rattle.lps_terms.specs.declared.atom.Atom.{Atom}
use Rattle.lps_terms.specs.declared.text.Text.{Text}
use Rattle.lps_values.specs.Truth.{is_true}
use Rattle.lps_model.specs.declared.trace.Trace.{Trace}
use Rattle.lps_model.specs.Trace.{events_at}
use Rattle.lps_model.specs.Formed.{is_formed_built}
use Rattle.lps_derivation.specs.Ground.{is_ground}
use Rattle.lps_meaning.specs.declared.node.Left.{Left}
use Rattle.lps_meaning.specs.declared.node.LeftItem.{LeftItem}
use Rattle.lps_meaning.specs.declared.node.LeftItem.TheVariants as l
use Rattle.lps_meaning.specs.declared.when.When.{When}
use Rattle.lps_meaning.specs.declared.when.When.TheVariants.{Known, Unknown}
use Rattle.lps_nodes.specs.Conditions.{IsLeftPlaced, IsLeftSmall, goes_on, left_end, time_in}
use Rattle.lps_meaning.specs.Holds.{IsTrueLit}
use Rattle.lps_model.specs.Rules.{MacroClause, clauses_of, is_macro, kind_of, numbered}
use Rattle.lps_nodes.specs.Shapes.{Shape}
use Rattle.lps_nodes.specs.Steps.{PassesTo, UnfoldsTo}

-- the terms of the item are ground, and its times are known
abbrev pub IsToldItem : LeftItem → Type 0
IsToldItem (l.At lit (Known n)) = IsTrue (list_all is_ground lit.atom.args)
IsToldItem (l.At lit (Unknown k)) = ⊥
IsToldItem (l.Bare lit) = IsTrue (list_all is_ground lit.atom.args)
IsToldItem (l.Built built) = IsTrue (is_formed_built 0 built)
IsToldItem (l.Span a (Known m) (Known n)) = IsTrue (list_all is_ground a.args)
IsToldItem (l.Span a (Known m) (Unknown k)) = ⊥
IsToldItem (l.Span a (Unknown k) to) = ⊥

-- ---- stages

-- where steps on a shape alone stand: no step ended after `before`, and this item, if there is one, was met last at this time; the clauses
-- chosen so far and the number of groups done
pub record Stage : Type 0 where
  pub before : ℕ
  pub last : Option LeftItem
  pub rank : List ℕ
  pub done : ℕ
  pub shape : Shape

-- one more group is done where an event or action is met that goes on with none
abbrev pub done_then : ℕ → Bool → LeftItem → ℕ
done_then n goes (l.Span a from to) = if goes then n else suc n
done_then n goes _ = n

-- this item is met, as `met`, and the shape is left
abbrev pub met_to : Text → Stage → Left → Left → Shape → Stage
met_to text x first met h = record {
  before = left_end (λ k. 0) x.before met.item;
  last = Some met.item;
  rank = x.rank;
  done = done_then x.done (goes_on text x.last first.item) met.item;
  shape = h;
}

-- a call is unfolded by the clause of this number, and the shape is left
abbrev pub unfolded_to : Stage → ℕ → Shape → Stage
unfolded_to x number h = record { before = x.before; last = None; rank = x.rank ++ number ∷ []; done = x.done; shape = h }

-- the stage with another shape
abbrev pub with_shape : Stage → Shape → Stage
with_shape x h = record { before = x.before; last = x.last; rank = x.rank; done = x.done; shape = h }

-- ---- steps

module _ (text : Text) (level : List ℕ → ℕ) (trace : Trace) where
  -- an item, which is no macro call, is true by now
  abbrev pub IsLeftTrue : ℕ → LeftItem → Type 0
  IsLeftTrue now (l.At lit time) = (time_in (λ k. 0) time ≤ now) × IsTrueLit text level trace (time_in (λ k. 0) time) lit
  IsLeftTrue now (l.Bare lit) = IsTrueLit text level trace 0 lit
  IsLeftTrue now (l.Built built) = IsTrue (is_true built)
  IsLeftTrue now (l.Span a from to) =
      (is_macro (kind_of text a.name) ≡ false) × (time_in (λ k. 0) to ≤ now) × Contains (events_at trace (time_in (λ k. 0) to)) a

  -- Steps from a shape on, by now: an item is met, which joins the group of the one met last where the item left, before it is met, has the
  -- same two times; or a body stands in the place of a call that nests at most the depth.
  pub data Alone (depth now : ℕ) (end : Stage) : Stage → Type 0 where
    stay : Alone depth now end end
    meet : {x : Stage} (first : Left) (behind : List Left) (met : Left) (h : Shape) → x.shape.rest ≡ first ∷ behind → IsToldItem met.item → IsLeftTrue now met.item →
        IsLeftSmall met.item → IsLeftPlaced text (λ k. 0) x.before (goes_on text x.last first.item) met.item → PassesTo (met ∷ []) x.shape h →
        Alone depth now end (met_to text x first met h) → Alone depth now end x
    enter : {x : Stage} (first : Left) (behind : List Left) (a : Atom) (from to : When) (number : ℕ) (clause : MacroClause) (h : Shape) → x.shape.rest ≡ first ∷ behind →
        first.item ≡ l.Span a from to → is_macro (kind_of text a.name) ≡ true → suc first.nest ≤ depth → numbered (clauses_of text a.name) number ≡ Some clause →
        IsLeftSmall first.item → UnfoldsTo text clause x.shape h → Alone depth now end (unfolded_to x number h) → Alone depth now end x
