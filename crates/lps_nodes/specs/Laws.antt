-- The laws of nodes, each a statement over texts, walks and shapes.
use Rattle.std.specs.Prelude.{◌≡◌, ◌⊎◌, ◌↔◌, ◌≤◌, ◌<◌, ℕ, suc, IsTrue, List, [], Some, Contains, true, false, None, ◌∷◌, map}
use Rattle.lps_terms.specs.declared.atom.Atom.{Atom}
use Rattle.lps_terms.specs.declared.item.Item.{Item}
use Rattle.lps_terms.specs.declared.item.Item.TheVariants as i
use Rattle.lps_terms.specs.declared.term.Term.{Term}
use Rattle.lps_terms.specs.declared.text.Text.{Text}
use Rattle.lps_terms.specs.declared.time_var.TimeVar.{TimeVar}
use Rattle.lps_model.specs.declared.trace.Trace.{Trace}
use Rattle.lps_model.specs.Formed.{is_formed}
use Rattle.lps_model.specs.Acceptance.{IsAccepted}
use Rattle.lps_derivation.specs.Ground.{is_ground}
use Rattle.lps_meaning.specs.declared.goal.GoalKey.{GoalKey}
use Rattle.lps_meaning.specs.declared.node.Carry.{Carry}
use Rattle.lps_meaning.specs.declared.node.Left.{Left}
use Rattle.lps_meaning.specs.declared.node.Node.{Node}
use Rattle.lps_meaning.specs.declared.when.When.{When}
use Rattle.lps_meaning.specs.declared.when.When.TheVariants.{Known}
use Rattle.lps_nodes.specs.Alone.{Alone, Stage, with_shape}
use Rattle.lps_nodes.specs.Conditions.{CanComeTrue, IsLeftSmall, ShowGroups}
use Rattle.lps_meaning.specs.Goals.{AreAllGround, CanGoOn, HasInstance}
use Rattle.lps_meaning.specs.Items.{IsSmallItem, put_item}
use Rattle.lps_nodes.specs.Integers.{AreTimesLeft, CanComeTrueIn}
use Rattle.lps_nodes.specs.Nodes.{IsGoalNode, IsResidual, IsWaitingNode, left_in}
use Rattle.lps_nodes.specs.NextSteps.{IsProposed, MayBegin, MayBeginIn}
use Rattle.lps_nodes.specs.Plans.{AreKeysOf, EndsWith, Entrance, GoesOnTo, IsAlternativeEntered, IsCutNext, IsCutNow, IsEnded, IsHeld, IsNode, antecedent_entrance, key_carry}
use Rattle.lps_model.specs.Rules.{MacroClause, Rule, clauses_of, is_macro, kind_of, numbered, rules}
use Rattle.lps_meaning.specs.Sequences.{Entry, is_call, is_step, AreLimits, IsPlaced, IsTrueItem, IsWithin, done, link_at, passed, Place, rank, replaced, Values, Times, Walk, start}
use Rattle.lps_nodes.specs.Shapes.{Sequence, Shape, IsGeneral, alternative_of, antecedent_of, left_of, put_shape, untested}
use Rattle.lps_nodes.specs.Steps.{Chain, PassesTo, UnfoldsTo}

-- single steps along a walk lead from the most general shape of its start to that of its end
abbrev pub StepsAreGeneral : Type 0
StepsAreGeneral = (text : Text) (level : List ℕ → ℕ) (trace : Trace) (q : Sequence) (s : Values) (t : Times) → AreAllGround s → (since now : ℕ) (end : Place) →
    (walk : Walk text level trace q.given_values s t now end (start text since q.items)) (g k : Shape) → IsGeneral q s t (start text since q.items) g → Chain walk g k →
    IsGeneral q s t end k

-- a walk's start has a most general shape, and from it single steps along the walk reach the one of its end
abbrev pub StartIsGeneral : Type 0
StartIsGeneral = (text : Text) (q : Sequence) (s : Values) (t : Times) → AreAllGround s → (since : ℕ) → (g : Shape) × IsGeneral q s t (start text since q.items) g

abbrev pub GeneralIsReached : Type 0
GeneralIsReached = (text : Text) (level : List ℕ → ℕ) (trace : Trace) (q : Sequence) (s : Values) (t : Times) → AreAllGround s → (since now : ℕ) (end : Place) →
    (walk : Walk text level trace q.given_values s t now end (start text since q.items)) (g : Shape) → IsGeneral q s t (start text since q.items) g →
    (k : Shape) × Chain walk g k × IsGeneral q s t end k

-- two most general shapes of a place are instances of each other
abbrev pub GeneralAreVariants : Type 0
GeneralAreVariants = (q : Sequence) (s : Values) (t : Times) → AreAllGround s → (place : Place) (g h : Shape) → IsGeneral q s t place g → IsGeneral q s t place h →
    (v : ℕ → Term) × (x : ℕ → When) × (h ≡ put_shape v x g)

-- a place has one residual
abbrev pub ResidualsAreUnique : Type 0
ResidualsAreUnique = (q : Sequence) (s : Values) (t : Times) → AreAllGround s → (place : Place) (node other : Node) → IsResidual q s t place node → IsResidual q s t place other →
    node.alternative ≡ other.alternative → node ≡ other

-- and it has a residual, with any number of an alternative
abbrev pub ResidualsExist : Type 0
ResidualsExist = (q : Sequence) (s : Values) (t : Times) → AreAllGround s → (place : Place) (g : Shape) → IsGeneral q s t place g → (number : ℕ) →
    (node : Node) × (node.alternative ≡ number) × IsResidual q s t place node

-- where a plan can go on at a place, the most general of what is left there can come true by itself
abbrev pub PlansCanComeTrue : Type 0
PlansCanComeTrue = (text : Text) (level : List ℕ → ℕ) (trace : Trace) (q : Sequence) (s : Values) (t : Times) → AreAllGround s → (since now : ℕ) → since ≤ now → (end : Place) →
    Walk text level trace q.given_values s t now end (start text since q.items) → (g : Shape) → IsGeneral q s t end g →
    CanGoOn text q.given_values s t now q.items end → CanComeTrue text now g

-- the sequence is the antecedent or an alternative of a rule of the text
abbrev pub IsOfText : Text → Sequence → Type 0
IsOfText text q = (rule : Rule) × Contains (rules text) rule × ((q ≡ antecedent_of rule) ⊎ ((items : List Item) × Contains rule.alternatives items × (q ≡ alternative_of rule items)))

-- Where it can come true by itself, in a sequence of an accepted text, a plan can go on at the place: one that passed the same, with
-- other times for what is to come.
abbrev pub WhatCanComeTrueHasPlans : Type 0
WhatCanComeTrueHasPlans = (text : Text) → IsAccepted text → (level : List ℕ → ℕ) (trace : Trace) (q : Sequence) → IsOfText text q → (s : Values) (t : Times) → AreAllGround s →
    (since now : ℕ) → since ≤ now → (end : Place) → Walk text level trace q.given_values s t now end (start text since q.items) → (g : Shape) → IsGeneral q s t end g →
    (next : Entry) (rest : List Entry) → end.left ≡ next ∷ rest → is_step next.item ≡ true → CanComeTrue text now g →
    (other : Times) × (map (other 0) q.given_times ≡ map (t 0) q.given_times) × Walk text level trace q.given_values s other now end (start text since q.items)
    × CanGoOn text q.given_values s other now q.items end

-- where a plan can go on at a place, its groups can be told from the items left
abbrev pub PlansShowGroups : Type 0
PlansShowGroups = (text : Text) (level : List ℕ → ℕ) (trace : Trace) (q : Sequence) (s : Values) (t : Times) → AreAllGround s → (since now : ℕ) → since ≤ now → (end : Place) →
    Walk text level trace q.given_values s t now end (start text since q.items) → (g : Shape) (is : IsGeneral q s t end g) →
    CanGoOn text q.given_values s t now q.items end → ShowGroups text is.values is.whens None end.left

-- A walk of the sequence by now to a place that may depend on its times, under values and times that are those of another where they are
-- given; and this is the most general of what is left there.
pub record IsWalked (text : Text) (level : List ℕ → ℕ) (trace : Trace) (q : Sequence) (s : Values) (t : Times) (since now : ℕ) (place : Times → Place) (h : Shape) : Type 0 where
  pub values : Values
  pub times : Times
  pub ground : AreAllGround values
  pub same_values : map (values 0) q.given_values ≡ map (s 0) q.given_values
  pub same_times : map (times 0) q.given_times ≡ map (t 0) q.given_times
  pub walk : Walk text level trace q.given_values values times now (place times) (start text since q.items)
  pub general : IsGeneral q values times (place times) h

-- A step that is made on a shape alone is one of a walk: where some ground values and some times make the first entry left true, and the
-- most general shape passes to another by that, a walk passes the entry, and the other shape is the most general behind it.
abbrev pub PassesAreWalked : Type 0
PassesAreWalked = (text : Text) → IsTrue (is_formed text) → (level : List ℕ → ℕ) (trace : Trace) (q : Sequence) → IsOfText text q → (s : Values) (t : Times) → AreAllGround s →
    (since now later : ℕ) → now ≤ later → (end : Place) → Walk text level trace q.given_values s t now end (start text since q.items) → (g : Shape) → IsGeneral q s t end g →
    (next : Entry) (rest : List Entry) → end.left ≡ next ∷ rest → is_call text next.item ≡ false → (f : ℕ → Term) (c : ℕ → ℕ) → ((v : ℕ) → IsTrue (is_ground (f v))) →
    IsTrueItem text level trace later c (put_item f next.item) → IsSmallItem (put_item f next.item) → IsPlaced text c end.before next.joins next.item →
    (h : Shape) → PassesTo (left_of f (λ v. Known (c v)) next.nest next.item) g h → IsWalked text level trace q s t since later (λ times. passed times end next rest) h

-- And so is a call that is unfolded on a shape alone: where the call is small, a walk puts the body in its place.
abbrev pub UnfoldingsAreWalked : Type 0
UnfoldingsAreWalked = (text : Text) → IsTrue (is_formed text) → (level : List ℕ → ℕ) (trace : Trace) (q : Sequence) → IsOfText text q → (s : Values) (t : Times) → AreAllGround s →
    (since now later : ℕ) → now ≤ later → (end : Place) → Walk text level trace q.given_values s t now end (start text since q.items) → (g : Shape) → IsGeneral q s t end g →
    (next : Entry) (rest : List Entry) → end.left ≡ next ∷ rest → (a : Atom) (from to : TimeVar) → next.item ≡ i.Span a from to → is_macro (kind_of text a.name) ≡ true →
    (number : ℕ) (clause : MacroClause) → numbered (clauses_of text a.name) number ≡ Some clause →
    (first : Left) (behind : List Left) → g.rest ≡ first ∷ behind → IsLeftSmall first.item → (h : Shape) → UnfoldsTo text clause g h →
    IsWalked text level trace q s t since later (λ times. replaced text end (link_at end next a from.0 to.0 number clause) rest) h

-- a place of a walk before a step is made after it by this time, with this shape
abbrev pub stage_at : ℕ → Place → Shape → Stage
stage_at now place g = record { before = now; last = None; rank = rank place; done = done place; shape = g }

-- a stage that stands at the place: its clauses are chosen and its groups done
pub record IsStageAt (depth : ℕ) (place : Place) (x : Stage) : Type 0 where
  pub within : IsWithin depth place
  pub of_rank : x.rank ≡ rank place
  pub of_done : x.done ≡ done place

-- So steps that are made at one time on a shape alone, from the most general one of a place in an accepted text, are those of a walk.
abbrev pub StepsAloneAreWalked : Type 0
StepsAloneAreWalked = (text : Text) → IsAccepted text → IsTrue (is_formed text) → (level : List ℕ → ℕ) (trace : Trace) (depth : ℕ) (q : Sequence) → IsOfText text q → (s : Values) (t : Times) → AreAllGround s →
    (since now later : ℕ) → since ≤ now → now ≤ later → (place : Place) → Walk text level trace q.given_values s t now place (start text since q.items) → IsWithin depth place →
    (g : Shape) → IsGeneral q s t place g → (end : Stage) → Alone text level trace depth later end (stage_at now place g) →
    (beyond : Place) × IsStageAt depth beyond end × IsWalked text level trace q s t since later (λ times. beyond) end.shape

-- Steps alone can be made with or without constraints whose times are all known: so they can be made on a node, which has none of them.
abbrev pub TestedDoNotMatter : Type 0
TestedDoNotMatter = (text : Text) (level : List ℕ → ℕ) (trace : Trace) (depth now : ℕ) (end x : Stage) → Alone text level trace depth now end x → (k : Shape) → untested x.shape ≡ untested k →
    (h : Shape) × Alone text level trace depth now (with_shape end h) (with_shape x k) × (untested end.shape ≡ untested h)

-- Steps alone lead from the stage to one of a place that a walk reaches by now.
pub record LeadsTo (text : Text) (level : List ℕ → ℕ) (trace : Trace) (depth now : ℕ) (q : Sequence) (s : Values) (t : Times) (x : Stage) (place : Place) : Type 0 where
  pub end : Stage
  pub steps : Alone text level trace depth now end x
  pub at : IsStageAt depth place end
  pub general : IsGeneral q s t place end.shape

-- A walk by a later time comes through a place where a live plan could go on now, and from the most general of what is left there steps
-- alone lead to its end.
pub record ComesThrough (text : Text) (level : List ℕ → ℕ) (trace : Trace) (depth : ℕ) (q : Sequence) (s : Values) (t : Times) (since now later : ℕ) (end : Place) : Type 0 where
  pub middle : Place
  pub first : Walk text level trace q.given_values s t now middle (start text since q.items)
  pub second : Walk text level trace q.given_values s t later end middle
  pub within : IsWithin depth middle
  pub on : CanGoOn text q.given_values s t now q.items middle
  pub no_call : is_call text on.next.item ≡ false
  pub alone : (g : Shape) → IsGeneral q s t middle g → LeadsTo text level trace depth later q s t (stage_at now middle g) end

-- What a walk meets from its start on is met by steps alone on what is left there: so a plan that starts at a time is reached at that time.
abbrev pub StartsLead : Type 0
StartsLead = (text : Text) → IsTrue (is_formed text) → (level : List ℕ → ℕ) (trace : Trace) (depth : ℕ) (q : Sequence) → IsOfText text q → (s : Values) (t : Times) → AreAllGround s →
    (since later : ℕ) → since ≤ later → (end : Place) → Walk text level trace q.given_values s t later end (start text since q.items) → IsWithin depth end →
    (g : Shape) → IsGeneral q s t (start text since q.items) g → LeadsTo text level trace depth later q s t (stage_at since (start text since q.items) g) end

-- Nor is anything that a walk meets from a live plan on met but by steps alone on what is left of that.
abbrev pub LivePlansLead : Type 0
LivePlansLead = (text : Text) → IsTrue (is_formed text) → (level : List ℕ → ℕ) (trace : Trace) (depth : ℕ) (q : Sequence) → IsOfText text q → (s : Values) (t : Times) → AreAllGround s →
    (since now later : ℕ) → since ≤ now → now ≤ later → (middle end : Place) → Walk text level trace q.given_values s t now middle (start text since q.items) →
    (on : CanGoOn text q.given_values s t now q.items middle) → is_call text on.next.item ≡ false → Walk text level trace q.given_values s t later end middle → IsWithin depth end →
    (g : Shape) → IsGeneral q s t middle g → LeadsTo text level trace depth later q s t (stage_at now middle g) end

-- A live plan that started earlier comes through a live plan of each time since, and steps alone lead from what is left of that to what is
-- left of it: no plan is found but through one of the time before.
abbrev pub LivePlansGoOn : Type 0
LivePlansGoOn = (text : Text) → IsAccepted text → IsTrue (is_formed text) → (level : List ℕ → ℕ) (trace : Trace) (depth : ℕ) (q : Sequence) → IsOfText text q → (s : Values) (t : Times) → AreAllGround s →
    (since now later : ℕ) → since ≤ now → now ≤ later → (end : Place) → Walk text level trace q.given_values s t later end (start text since q.items) → IsWithin depth end →
    (on : CanGoOn text q.given_values s t later q.items end) → is_call text on.next.item ≡ false → ComesThrough text level trace depth q s t since now later end

-- A plan that is cut now was cut before, or it comes through a live plan.
abbrev pub CutPlansGoOn : Type 0
CutPlansGoOn = (text : Text) → IsAccepted text → IsTrue (is_formed text) → (level : List ℕ → ℕ) (trace : Trace) (depth : ℕ) (q : Sequence) → IsOfText text q → (s : Values) (t : Times) → AreAllGround s →
    (since now later : ℕ) → since ≤ now → now ≤ later → (end : Place) → Walk text level trace q.given_values s t later end (start text since q.items) → IsWithin depth end →
    CanGoOn text q.given_values s t later q.items end →
    (Walk text level trace q.given_values s t now end (start text since q.items) × CanGoOn text q.given_values s t now q.items end)
    ⊎ ComesThrough text level trace depth q s t since now later end

-- And an instance that ends after now comes through a live plan.
abbrev pub InstancesGoOn : Type 0
InstancesGoOn = (text : Text) → IsAccepted text → IsTrue (is_formed text) → (level : List ℕ → ℕ) (trace : Trace) (depth : ℕ) (q : Sequence) → IsOfText text q → (s : Values) (t : Times) → AreAllGround s →
    (since now later : ℕ) → since ≤ now → now ≤ later → (end : Place) → Walk text level trace q.given_values s t later end (start text since q.items) → IsWithin depth end →
    end.left ≡ [] → AreLimits t q.items end.links → now < end.before → ComesThrough text level trace depth q s t since now later end

-- ---- nodes from cycle to cycle

-- The nodes of a time are those that the nodes of the time before go on to: none is lost, and none comes from elsewhere.
abbrev pub NodesComeFromNodes : Type 0
NodesComeFromNodes = (text : Text) → IsAccepted text → IsTrue (is_formed text) → (level : List ℕ → ℕ) (trace : Trace) (depth : ℕ) (entrance : Entrance) → IsOfText text entrance.sequence →
    (now : ℕ) → entrance.since ≤ now → (other : Node) →
    IsNode text level trace depth entrance (suc now) other
    ↔ ((node : Node) × IsNode text level trace depth entrance now node × GoesOnTo text level trace depth entrance now node other)

-- What ends in a cycle after the start's comes from nodes of the time before.
abbrev pub EndsComeFromNodes : Type 0
EndsComeFromNodes = (text : Text) → IsAccepted text → IsTrue (is_formed text) → (level : List ℕ → ℕ) (trace : Trace) (depth : ℕ) (entrance : Entrance) → IsOfText text entrance.sequence →
    (now : ℕ) → entrance.since ≤ now → (carry : Carry) →
    IsEnded text level trace depth entrance (suc now) carry
    ↔ ((node : Node) × IsNode text level trace depth entrance now node × EndsWith text level trace depth entrance now node carry)

-- A plan that is cut was cut before, or comes from a node of the time before.
abbrev pub CutsComeFromNodes : Type 0
CutsComeFromNodes = (text : Text) → IsAccepted text → IsTrue (is_formed text) → (level : List ℕ → ℕ) (trace : Trace) (depth : ℕ) (entrance : Entrance) → IsOfText text entrance.sequence →
    (now : ℕ) → entrance.since ≤ now → IsCutNow text level trace depth entrance (suc now) →
    IsCutNow text level trace depth entrance now
    ⊎ ((node : Node) × IsNode text level trace depth entrance now node × IsCutNext text level trace depth entrance now node)

-- A node that is held goes on to itself.
abbrev pub HeldNodesGoOn : Type 0
HeldNodesGoOn = (text : Text) (level : List ℕ → ℕ) (trace : Trace) (depth : ℕ) (entrance : Entrance) (now : ℕ) (node : Node) →
    IsHeld text level trace depth entrance now node → GoesOnTo text level trace depth entrance now node node

-- The time conditions of a node alone have a solution; and a node waits, with no step made, for as long as they have one.
abbrev pub NodesCanComeTrue : Type 0
NodesCanComeTrue = (text : Text) (level : List ℕ → ℕ) (trace : Trace) (depth : ℕ) (entrance : Entrance) (now : ℕ) → entrance.since ≤ now → (node : Node) →
    IsNode text level trace depth entrance now node → CanComeTrue text now (left_in node)

abbrev pub NodesWait : Type 0
NodesWait = (text : Text) (level : List ℕ → ℕ) (trace : Trace) (depth : ℕ) (entrance : Entrance) (now later : ℕ) → entrance.since ≤ now → now ≤ later → (node : Node) →
    IsNode text level trace depth entrance now node → CanComeTrue text later (left_in node) → IsNode text level trace depth entrance later node

-- The nodes of a goal are those that the entrances of its alternatives give.
abbrev pub GoalNodesAreNodes : Type 0
GoalNodesAreNodes = (text : Text) (level : List ℕ → ℕ) (trace : Trace) (depth : ℕ) (key : GoalKey) (now : ℕ) (node : Node) →
    IsGoalNode text level trace depth key now node
    ↔ ((number : ℕ) × (entrance : Entrance) × IsAlternativeEntered text key number entrance × IsNode text level trace depth entrance now node)

-- In an accepted text an antecedent has no macro calls, so what waits for it is what its entrance gives at any depth.
abbrev pub WaitingNodesAreNodes : Type 0
WaitingNodesAreNodes = (text : Text) → IsAccepted text → (rule : Rule) → Contains (rules text) rule → (level : List ℕ → ℕ) (trace : Trace) (depth now : ℕ) (node : Node) →
    IsWaitingNode text level trace rule now node ↔ IsNode text level trace depth (antecedent_entrance rule) now node

-- And the keys of its goals are what its instances carry that end at their times.
abbrev pub KeysAreEnds : Type 0
KeysAreEnds = (text : Text) → IsAccepted text → (rule : Rule) → Contains (rules text) rule → (level : List ℕ → ℕ) (trace : Trace) (depth : ℕ) (key : GoalKey) →
    HasInstance text level trace rule key ↔ IsEnded text level trace depth (antecedent_entrance rule) key.time (key_carry key)

-- a cycle has one list of keys
abbrev pub KeysAreUnique : Type 0
KeysAreUnique = (text : Text) (level : List ℕ → ℕ) (trace : Trace) (cycle : ℕ) (keys others : List GoalKey) → AreKeysOf text level trace cycle keys → AreKeysOf text level trace cycle others → keys ≡ others

-- a node proposes one group at most
abbrev pub ProposalsAreUnique : Type 0
ProposalsAreUnique = (text : Text) (now : ℕ) (node : Node) (group other : List Atom) → IsProposed text now node group → IsProposed text now node other → group ≡ other

-- ---- times

-- Where each unknown time of its constraints stands in an item left, a shape can come true with some integers for the unknown times
-- exactly where it can with natural numbers.
abbrev pub IntegersServe : Type 0
IntegersServe = (text : Text) (now : ℕ) (g : Shape) → AreTimesLeft g → CanComeTrue text now g ↔ CanComeTrueIn text now g

-- And its next step may begin now with integers exactly where it may with natural numbers.
abbrev pub IntegersServeBegins : Type 0
IntegersServeBegins = (text : Text) (now : ℕ) (g : Shape) → AreTimesLeft g → MayBegin text now g ↔ MayBeginIn text now g

-- The times of the most general shapes of accepted texts are left.
abbrev pub TimesAreLeft : Type 0
TimesAreLeft = (text : Text) → IsAccepted text → (level : List ℕ → ℕ) (trace : Trace) (q : Sequence) → IsOfText text q → (s : Values) (t : Times) → AreAllGround s → (since now : ℕ) (end : Place) →
    Walk text level trace q.given_values s t now end (start text since q.items) → (g : Shape) → IsGeneral q s t end g → AreTimesLeft g

-- So a plan that waits goes on for as long as what is left can come true by itself.
abbrev pub WaitingPlansGoOn : Type 0
WaitingPlansGoOn = (text : Text) (level : List ℕ → ℕ) (trace : Trace) (q : Sequence) (s : Values) (t : Times) → AreAllGround s → (since now later : ℕ) → since ≤ now → now ≤ later → (end : Place) →
    Walk text level trace q.given_values s t now end (start text since q.items) → (g : Shape) → IsGeneral q s t end g →
    CanGoOn text q.given_values s t now q.items end → CanComeTrue text later g →
    (other : Times) × (map (other 0) q.given_times ≡ map (t 0) q.given_times) × Walk text level trace q.given_values s other later end (start text since q.items)
    × CanGoOn text q.given_values s other later q.items end
