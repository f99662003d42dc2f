-- What the steps of one time lead to, told by steps alone on what is left: which nodes are left behind them, what an instance that ends with
-- them carries, and where a plan is cut.
use Rattle.std.specs.Prelude.{◌≡◌, ℕ, Bool, true, false, IsTrue, List, [], None, map}
use Rattle.std.specs.List.{AllByRecursion, flat_map}
use Rattle.lps_terms.specs.declared.term.Term.{Term}
use Rattle.lps_terms.specs.declared.text.Text.{Text}
use Rattle.lps_terms.specs.Put.{put}
use Rattle.lps_model.specs.declared.trace.Trace.{Trace}
use Rattle.lps_model.specs.Rules.{is_macro, kind_of}
use Rattle.lps_derivation.specs.Ground.{is_ground}
use Rattle.lps_meaning.specs.declared.node.Carry.{Carry}
use Rattle.lps_meaning.specs.declared.node.LeftItem.{LeftItem}
use Rattle.lps_meaning.specs.declared.node.LeftItem.TheVariants as l
use Rattle.lps_meaning.specs.declared.node.Node.{Node}
use Rattle.lps_meaning.specs.declared.when.When.{When}
use Rattle.lps_meaning.specs.declared.when.When.TheVariants.{Known}
use Rattle.lps_meaning.specs.Sequences.{Values, start}
use Rattle.lps_nodes.specs.Alone.{Alone, Stage, enter, meet, stay}
use Rattle.lps_nodes.specs.Conditions.{CanComeTrue, IsLeftLimit}
use Rattle.lps_nodes.specs.Nodes.{left_in}
use Rattle.lps_nodes.specs.Plans.{Entrance}
use Rattle.lps_nodes.specs.Shapes.{IsCanonical, Shape, Whens, con_of, left_of, put_shape, put_when, shape_of, untested}

-- ---- steps of one time

-- an item that is met ends now, if it has times
abbrev pub IsMetNow : ℕ → LeftItem → Type 0
IsMetNow now (l.At lit time) = time ≡ Known now
IsMetNow now (l.Span a from to) = to ≡ Known now
IsMetNow now _ = Unit {0}

-- each of the steps that are made ends now
abbrev pub AreMetNow : {text : Text} {level : List ℕ → ℕ} {trace : Trace} {depth now : ℕ} {end x : Stage} → Alone text level trace depth now end x → Type 0
AreMetNow stay = Unit {0}
AreMetNow {now = now} (meet first behind met h is_first told is_true small placed passes steps) = IsMetNow now met.item × AreMetNow steps
AreMetNow (enter first behind a from to number clause h is_first call macro within named small unfolds steps) = AreMetNow steps

-- ---- where steps begin

-- the stage of a node that is left now
abbrev pub node_stage : ℕ → Node → Stage
node_stage now node = record { before = now; last = None; rank = node.rank; done = node.done; shape = left_in node }

-- what is left where a sequence is entered: the most general that agrees with what is given
pub record IsEnteredShape (text : Text) (e : Entrance) (g : Shape) : Type 0 where
  pub values : Values
  pub whens : Whens
  pub given_values : map (values 0) e.sequence.given_values ≡ e.values
  pub given_times : map (whens 0) e.sequence.given_times ≡ map (λ n. Known n) e.times
  pub own : g ≡ shape_of e.sequence (start text e.since e.sequence.items) values whens
  pub general : (u : Values) (w : Whens) → map (u 0) e.sequence.given_values ≡ e.values → map (w 0) e.sequence.given_times ≡ map (λ n. Known n) e.times →
      (v : ℕ → Term) × (x : ℕ → When) × (shape_of e.sequence (start text e.since e.sequence.items) u w ≡ put_shape v x g)

-- the values given are ground
abbrev pub AreGivenGround : Entrance → Type 0
AreGivenGround e = AllByRecursion (λ v. IsTrue (is_ground v)) e.values

-- these terms and times are given to the variables and times that have them, and leave the others as they are
pub record AreGivenBy (e : Entrance) (f : ℕ → Term) (h : ℕ → When) : Type 0 where
  pub values : map f e.sequence.given_values ≡ e.values
  pub times : map h e.sequence.given_times ≡ map (λ n. Known n) e.times
  pub other_values : (u : ℕ → Term) → map u e.sequence.given_values ≡ e.values → (v : ℕ) → put u (f v) ≡ u v
  pub other_times : (w : ℕ → When) → map w e.sequence.given_times ≡ map (λ n. Known n) e.times → (k : ℕ) → put_when w (h k) ≡ w k

-- the items and constraints of the sequence with them put in
abbrev pub entered_shape : Entrance → (ℕ → Term) → (ℕ → When) → Shape
entered_shape e f h = record {
  carry = record { values = map f e.sequence.carried_values; times = map h e.sequence.carried_times };
  rest = flat_map (left_of f h 0) e.sequence.items;
  limits = flat_map (con_of h) e.sequence.items;
}

-- the stage of a sequence that is entered
abbrev pub start_stage : Entrance → Shape → Stage
start_stage e g = record { before = e.since; last = None; rank = []; done = 0; shape = g }

-- ---- where steps lead

-- a macro call is left
abbrev pub is_left_call : Text → LeftItem → Bool
is_left_call text (l.Span a from to) = is_macro (kind_of text a.name)
is_left_call text _ = false

-- the two are instances of each other
pub record AreVariants (g h : Shape) : Type 0 where
  pub v : ℕ → Term
  pub x : ℕ → When
  pub to : h ≡ put_shape v x g
  pub u : ℕ → Term
  pub y : ℕ → When
  pub back : g ≡ put_shape u y h

-- the node is what is left at the stage; it can come true after now, and its first item is no macro call
pub record IsLeftAt (text : Text) (now : ℕ) (x : Stage) (alternative : ℕ) (node : Node) : Type 0 where
  pub can : CanComeTrue text now x.shape
  pub no_call : is_left_call text can.first.item ≡ false
  pub variants : AreVariants (untested x.shape) (left_in node)
  pub canonical : IsCanonical (left_in node)
  pub of_alternative : node.alternative ≡ alternative
  pub of_rank : node.rank ≡ x.rank
  pub of_done : node.done ≡ x.done

-- nothing is left at the stage, the last step ended now, and this is carried
pub record IsCarriedAt (now : ℕ) (x : Stage) (carry : Carry) : Type 0 where
  pub whole : x.shape.rest ≡ []
  pub limits : AllByRecursion (IsLeftLimit (λ k. 0)) x.shape.limits
  pub last : x.before ≡ now
  pub carried : carry ≡ x.shape.carry

-- what is left at the stage can come true after now, but its first item is a macro call that nests one deeper than the depth
pub record IsCutAt (text : Text) (depth now : ℕ) (x : Stage) : Type 0 where
  pub can : CanComeTrue text now x.shape
  pub call : is_left_call text can.first.item ≡ true
  pub deep : can.first.nest ≡ depth

module _ (text : Text) (level : List ℕ → ℕ) (trace : Trace) (depth now : ℕ) (x : Stage) where
  -- steps that end now lead to a stage at which the node is left
  pub record IsLedTo (alternative : ℕ) (node : Node) : Type 0 where
    pub end : Stage
    pub steps : Alone text level trace depth now end x
    pub met : AreMetNow steps
    pub left : IsLeftAt text now end alternative node

  -- they lead to one at which this is carried
  pub record IsLedToEnd (carry : Carry) : Type 0 where
    pub end : Stage
    pub steps : Alone text level trace depth now end x
    pub met : AreMetNow steps
    pub carried : IsCarriedAt now end carry

  -- they lead to one at which a plan is cut
  pub record IsLedToCut : Type 0 where
    pub end : Stage
    pub steps : Alone text level trace depth now end x
    pub met : AreMetNow steps
    pub cut : IsCutAt text depth now end
