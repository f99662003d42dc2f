-- Where sequences are entered, and what is left of them there.
use Rattle.std.specs.Prelude.{◌≡◌, ◌≤◌, ℕ, List, [], ◌∷◌, length, map, slice_index_or, Option, Some, None}
use Rattle.std.specs.List.{AllByRecursion, flat_map}
use Rattle.lps_terms.specs.declared.item.Item.{Item}
use Rattle.lps_terms.specs.declared.term.Term.{Term}
use Rattle.lps_terms.specs.declared.term.Term.TheVariants as t
use Rattle.lps_terms.specs.declared.text.Text.{Text}
use Rattle.lps_meaning.specs.declared.node.Left.{Left}
use Rattle.lps_meaning.specs.declared.node.LeftCon.{LeftCon}
use Rattle.lps_meaning.specs.declared.node.LeftItem.{LeftItem}
use Rattle.lps_meaning.specs.declared.node.Node.{Node}
use Rattle.lps_meaning.specs.declared.when.When.{When}
use Rattle.lps_meaning.specs.declared.when.When.TheVariants.{Known, Unknown}
use Rattle.lps_model.specs.Rules.{Rule as TextRule}
use Rattle.lps_nodes.specs.Plans.{Entrance, IsAlternativeEntered, IsAntecedentEntered}
use Rattle.lps_nodes.specs.Led.{AreGivenGround, entered_shape}
use Rattle.lps_nodes.specs.LedLaws.{IsWithoutCalls}
use Rattle.lps_nodes.specs.Shapes.{con_of, left_of}
use Rattle.lps_unify.specs.Canonical.{place_of}
use Rattle.lps_seq.specs.declared.rule.Rule.{Rule}
use Rattle.lps_seq.specs.declared.start.Start.{Start}
use Rattle.lps_seq.specs.declared.start.Start.TheVariants as s

-- the rule as the text has it
abbrev pub rule_of : Rule → TextRule
rule_of rule = record { antecedent = rule.antecedent.now; alternatives = rule.alternatives.now }

abbrev pub found_rule : Option Rule → Option TextRule
found_rule None = None
found_rule (Some rule) = Some (rule_of rule)

-- the rule found, as a list
abbrev pub rules_found : Option TextRule → List TextRule
rules_found None = []
rules_found (Some rule) = rule ∷ []

-- the sequence is entered so
abbrev pub IsEntered : Text → Start → Entrance → Type 0
IsEntered text (s.Antecedent n) entrance = IsAntecedentEntered text n entrance
IsEntered text (s.Alternative key number) entrance = IsAlternativeEntered text key number entrance

-- an item as it is left with nothing put in, and a constraint
abbrev pub left_whole_of : Item → List Left
left_whole_of item = left_of (λ v. t.Var v) (λ k. Unknown k) 0 item

abbrev pub con_whole_of : Item → List LeftCon
con_whole_of item = con_of (λ k. Unknown k) item

-- the item left, if there is one
abbrev pub lefts_of : Option LeftItem → List Left
lefts_of None = []
lefts_of (Some item) = record { item = item; nest = 0 } ∷ []

-- items with nothing put in
abbrev pub left_whole : List Item → Node
left_whole items = record {
  alternative = 0;
  rank = [];
  done = 0;
  carry = record { values = []; times = [] };
  rest = flat_map left_whole_of items;
  limits = flat_map con_whole_of items;
}

-- the value that is given to a variable, or the variable itself; and the same of times
abbrev pub given_value : List ℕ → List Term → ℕ → Term
given_value variables values v = slice_index_or values (place_of variables v) (t.Var v)

abbrev pub given_when : List ℕ → List ℕ → ℕ → When
given_when numbers times k = slice_index_or (map (λ n. Known n) times) (place_of numbers k) (Unknown k)

-- what is left where the sequence is entered, constraints and all
abbrev pub entered_node : Entrance → Node
entered_node e =
    let shape = entered_shape e (given_value e.sequence.given_values e.values) (given_when e.sequence.given_times e.times) in
    record { alternative = e.alternative; rank = []; done = 0; carry = shape.carry; rest = shape.rest; limits = shape.limits }

-- What is given is all that has to be given: ground values and times that are not too late.
pub record IsGiven (e : Entrance) : Type 0 where
  pub values : length e.values ≡ length e.sequence.given_values
  pub times : length e.times ≡ length e.sequence.given_times
  pub ground : AreGivenGround e
  pub early : AllByRecursion (λ time. time ≤ 1000000) e.times

-- a sequence with no macro call is entered so at this time
pub record IsStart (text : Text) (start : Start) (time : ℕ) : Type 0 where
  pub entrance : Entrance
  pub entered : IsEntered text start entrance
  pub since : entrance.since ≡ time
  pub no_calls : IsWithoutCalls text entrance.sequence
  pub given : IsGiven entrance
