-- Small texts with traces, on which the definitions of goals are tried. Each is in canonical form in its comment.
use Rattle.std.specs.Prelude.{◌≡◌, ℕ, pos, Bool, true, false, List, [], ◌∷◌, map, codes}
use Rattle.lps_terms.specs.declared.atom.Atom.{Atom}
use Rattle.lps_terms.specs.declared.body.Body.{Body}
use Rattle.lps_terms.specs.declared.body.Body.TheVariants as b
use Rattle.lps_terms.specs.declared.built.Built.TheVariants as u
use Rattle.lps_terms.specs.declared.cond.Cond.TheVariants as d
use Rattle.lps_terms.specs.declared.decl.Decl.{Decl}
use Rattle.lps_terms.specs.declared.item.Item.{Item}
use Rattle.lps_terms.specs.declared.item.Item.TheVariants as i
use Rattle.lps_terms.specs.declared.kind.Kind.{Kind}
use Rattle.lps_terms.specs.declared.kind.Kind.TheVariants as k
use Rattle.lps_terms.specs.declared.lit.Lit.{Lit}
use Rattle.lps_terms.specs.declared.mode.Mode.{Mode}
use Rattle.lps_terms.specs.declared.mode.Mode.TheVariants as m
use Rattle.lps_terms.specs.declared.statement.Statement.{Statement}
use Rattle.lps_terms.specs.declared.term.Term.{Term}
use Rattle.lps_terms.specs.declared.term.Term.TheVariants as t
use Rattle.lps_terms.specs.declared.text.Text.{Text}
use Rattle.lps_terms.specs.declared.time_rel.TimeRel.TheVariants as r
use Rattle.lps_model.specs.declared.cycle.Cycle.{Cycle}
use Rattle.lps_model.specs.declared.trace.Trace.{Trace}
use Rattle.lps_model.specs.declared.verdict.Verdict.TheVariants.{Admitted}
use Rattle.lps_meaning.specs.declared.goal.Closed.TheVariants as c
use Rattle.lps_meaning.specs.declared.goal.GoalKey.{GoalKey}
use Rattle.lps_meaning.specs.declared.node.LeftItem.TheVariants as l
use Rattle.lps_meaning.specs.declared.node.Node.{Node}
use Rattle.lps_meaning.specs.declared.when.When.TheVariants.{Unknown}
use Rattle.lps_meaning.specs.Cycles.{AreGoals, IsProposal}
use Rattle.lps_meaning.specs.Denials.{ViolatesNone, IsLeastViolated}
use Rattle.lps_meaning.specs.Goals.{IsGoal, HasLive, IsPending, IsClosed}
use Rattle.lps_meaning.specs.Holds.{Holds, Terminated}
use Rattle.lps_nodes.specs.Nodes.{IsWaitingNode, node_size}
use Rattle.lps_model.specs.Rules.{Rule}

-- ---- parts of texts and traces

abbrev pub said : Body → Statement
said body = record { line = 1; names = []; times = []; body = body }

abbrev pub declared_as : Kind → List ℕ → ℕ → Decl
declared_as kind name arity = record { kind = kind; name = name; arity = arity; modes = [] }

-- a predicate without arguments, and one with an argument
abbrev pub nullary : List ℕ → Atom
nullary name = record { name = name; args = [] }

abbrev pub unary : List ℕ → Term → Atom
unary name x = record { name = name; args = x ∷ [] }

abbrev pub from_to : Atom → ℕ → ℕ → Item
from_to a from to = i.Span a (record { 0 = from }) (record { 0 = to })

abbrev pub at_time : Atom → ℕ → Item
at_time a time = i.At (record { negated = false; atom = a }) (record { 0 = time })

-- `left =< right + plus`
abbrev pub at_most : ℕ → ℕ → ℕ → Item
at_most left right plus = i.Con (record { left = record { 0 = left }; rel = r.AtMost; right = record { 0 = right }; plus = pos plus })

-- a cycle in which these events are admitted, and one in which one action is done for goal 1
abbrev pub happening : List Atom → Cycle
happening events = record { events = events; verdicts = map (λ event. Admitted) events; picks = [] }

abbrev pub doing : Atom → Cycle
doing action = record { events = []; verdicts = []; picks = record { goal = 1; group = record { atoms = action ∷ [] } } ∷ [] }

abbrev pub trace_of : List Atom → List Cycle → Trace
trace_of initial cycles = record { initial = initial; cycles = cycles }

abbrev pub event_e : Atom
event_e = nullary (codes "e")

abbrev pub action_a : Atom
action_a = nullary (codes "a")

-- ---- a deadline
--   event e/0. action a/0.
--   if e from T to T1 then a from T2 to T3, T3 =< T1 + 2.
-- Event e happens in cycle 1, and a is not done: by cycle 3 it is too late.

abbrev pub deadline_text : Text
deadline_text = record {
  statements = said (b.Declare (declared_as k.Event (codes "e") 0 ∷ declared_as k.Action (codes "a") 0 ∷ []))
      ∷ said (b.Rule (from_to event_e 0 1 ∷ []) ((from_to action_a 2 3 ∷ at_most 3 1 2 ∷ []) ∷ [])) ∷ [];
}

abbrev pub deadline_trace : Trace
deadline_trace = trace_of [] (happening (event_e ∷ []) ∷ happening [] ∷ happening [] ∷ [])

abbrev pub deadline_key : GoalKey
deadline_key = record { rule = 1; values = []; times = 1 ∷ []; time = 1 }

-- the goal is pending in cycles 1 and 2, and failed in cycle 3
abbrev pub DeadlineExample : Type 0
DeadlineExample = (level : List ℕ → ℕ) → IsGoal deadline_text level deadline_trace deadline_key
    × IsPending deadline_text level deadline_trace 100 deadline_key 1 × IsPending deadline_text level deadline_trace 100 deadline_key 2
    × IsClosed deadline_text level deadline_trace 100 deadline_key 3 c.Failed

-- ---- one goal for several instances
--   event e/1. action a/0.
--   if e(X) from T to T1 then a from T2 to T3.
-- Events e(p) and e(q) happen in cycle 1. No value is shared, so the two instances have one key.

abbrev pub one_goal_text : Text
one_goal_text = record {
  statements = said (b.Declare (declared_as k.Event (codes "e") 1 ∷ declared_as k.Action (codes "a") 0 ∷ []))
      ∷ said (b.Rule (from_to (unary (codes "e") (t.Var 0)) 0 1 ∷ []) ((from_to action_a 2 3 ∷ []) ∷ [])) ∷ [];
}

abbrev pub one_goal_trace : Trace
one_goal_trace = trace_of [] (happening (unary (codes "e") (t.Sym (codes "p")) ∷ unary (codes "e") (t.Sym (codes "q")) ∷ []) ∷ [])

abbrev pub one_goal_key : GoalKey
one_goal_key = record { rule = 1; values = []; times = []; time = 1 }

-- the trace has exactly this goal
abbrev pub OneGoalExample : Type 0
OneGoalExample = (level : List ℕ → ℕ) → AreGoals one_goal_text level one_goal_trace 1 (one_goal_key ∷ [])

-- ---- waiting for an event
--   event e/0, f/0. action a/0, c/0.
--   if e from T to T1 then a from T2 to T3, f from T4 to T5, c from T6 to T7.
-- Event e happens in cycle 1, and a is done in cycle 2: now the goal waits for f.

abbrev pub event_f : Atom
event_f = nullary (codes "f")

abbrev pub action_c : Atom
action_c = nullary (codes "c")

abbrev pub waiting_text : Text
waiting_text = record {
  statements = said (b.Declare (declared_as k.Event (codes "e") 0 ∷ declared_as k.Event (codes "f") 0 ∷ []))
      ∷ said (b.Declare (declared_as k.Action (codes "a") 0 ∷ declared_as k.Action (codes "c") 0 ∷ []))
      ∷ said (b.Rule (from_to event_e 0 1 ∷ []) ((from_to action_a 2 3 ∷ from_to event_f 4 5 ∷ from_to action_c 6 7 ∷ []) ∷ [])) ∷ [];
}

abbrev pub waiting_trace : Trace
waiting_trace = trace_of [] (happening (event_e ∷ []) ∷ doing action_a ∷ [])

abbrev pub waiting_key : GoalKey
waiting_key = record { rule = 1; values = []; times = []; time = 1 }

-- the goal is pending in cycle 2, and has no proposal: a is not done again
abbrev pub WaitingExample : Type 0
WaitingExample = (level : List ℕ → ℕ) → IsPending waiting_text level waiting_trace 100 waiting_key 2
    × ((group : List Atom) → IsProposal waiting_text level 100 waiting_trace waiting_key group → ⊥)

-- ---- begun anew
--   fluent p/0. event e/0. action a/0. initially p.
--   if e from T to T1 then p at T2, a from T2 to T3.
-- Event e happens in cycle 1, and nothing in cycle 2. So what began with p at 1 is over, and what begins with p at 2 is not.

abbrev pub fluent_p : Atom
fluent_p = nullary (codes "p")

abbrev pub anew_text : Text
anew_text = record {
  statements = said (b.Declare (declared_as k.Fluent (codes "p") 0 ∷ declared_as k.Event (codes "e") 0 ∷ declared_as k.Action (codes "a") 0 ∷ []))
      ∷ said (b.Initially (fluent_p ∷ []))
      ∷ said (b.Rule (from_to event_e 0 1 ∷ []) ((at_time fluent_p 2 ∷ from_to action_a 2 3 ∷ []) ∷ [])) ∷ [];
}

abbrev pub anew_trace : Trace
anew_trace = trace_of (fluent_p ∷ []) (happening (event_e ∷ []) ∷ happening [] ∷ [])

abbrev pub anew_key : GoalKey
anew_key = record { rule = 1; values = []; times = []; time = 1 }

-- the goal may still do a
abbrev pub BegunAnewExample : Type 0
BegunAnewExample = (level : List ℕ → ℕ) → IsPending anew_text level anew_trace 100 anew_key 2
    × IsProposal anew_text level 100 anew_trace anew_key (action_a ∷ [])

-- ---- depth
--   event e/0. action a/0. macro m.
--   m from T to T2 if a from T to T1, m from T1 to T2.
--   if e from T to T1 then m from T1 to T2.
-- Event e happens in cycle 1, and a is done in cycle 2. The call in the body nests at 2.

abbrev pub call_m : Atom
call_m = nullary (codes "m")

abbrev pub depth_text : Text
depth_text = record {
  statements = said (b.Declare (declared_as k.Event (codes "e") 0 ∷ declared_as k.Action (codes "a") 0 ∷ declared_as k.Macro (codes "m") 0 ∷ []))
      ∷ said (b.MacroClause call_m (record { 0 = 0 }) (record { 0 = 2 }) (from_to action_a 0 1 ∷ from_to call_m 1 2 ∷ []))
      ∷ said (b.Rule (from_to event_e 0 1 ∷ []) ((from_to call_m 1 2 ∷ []) ∷ [])) ∷ [];
}

abbrev pub depth_trace : Trace
depth_trace = trace_of [] (happening (event_e ∷ []) ∷ doing action_a ∷ [])

abbrev pub depth_key : GoalKey
depth_key = record { rule = 1; values = []; times = 1 ∷ []; time = 1 }

-- in cycle 2 the goal is cut at depth 1, and pending at depth 2
abbrev pub DepthExample : Type 0
DepthExample = (level : List ℕ → ℕ) → IsClosed depth_text level depth_trace 1 depth_key 2 c.Cut × IsPending depth_text level depth_trace 2 depth_key 2

-- ---- what is left of an antecedent
--   event e/1, f/1. action a/1.
--   if e(X) from T to T1, f(X) from T2 to T3 then a(X) from T4 to T5.
-- Event e(k) happens in cycle 1: f(k) is left, at times that are not known.

abbrev pub antecedent_rule : Rule
antecedent_rule = record {
  antecedent = from_to (unary (codes "e") (t.Var 0)) 0 1 ∷ from_to (unary (codes "f") (t.Var 0)) 2 3 ∷ [];
  alternatives = (from_to (unary (codes "a") (t.Var 0)) 4 5 ∷ []) ∷ [];
}

abbrev pub antecedent_text : Text
antecedent_text = record {
  statements = said (b.Declare (declared_as k.Event (codes "e") 1 ∷ declared_as k.Event (codes "f") 1 ∷ declared_as k.Action (codes "a") 1 ∷ []))
      ∷ said (b.Rule antecedent_rule.antecedent antecedent_rule.alternatives) ∷ [];
}

abbrev pub antecedent_trace : Trace
antecedent_trace = trace_of [] (happening (unary (codes "e") (t.Sym (codes "k")) ∷ []) ∷ [])

abbrev pub antecedent_node : Node
antecedent_node = record {
  alternative = 0;
  rank = [];
  done = 1;
  carry = record { values = t.Sym (codes "k") ∷ []; times = [] };
  rest = record { item = l.Span (unary (codes "f") (t.Sym (codes "k"))) (Unknown 0) (Unknown 1); nest = 0 } ∷ [];
  limits = [];
}

-- this node is kept in cycle 1, and has 6 symbols
abbrev pub NodeExample : Type 0
NodeExample = (level : List ℕ → ℕ) → IsWaitingNode antecedent_text level antecedent_trace antecedent_rule 1 antecedent_node × (node_size antecedent_node ≡ 6)

-- ---- initiation wins
--   fluent p/0. event e/0.
--   e initiates p. e terminates p.
-- Event e happens in cycle 1.

abbrev pub wins_text : Text
wins_text = record {
  statements = said (b.Declare (declared_as k.Fluent (codes "p") 0 ∷ declared_as k.Event (codes "e") 0 ∷ []))
      ∷ said (b.Law true event_e fluent_p []) ∷ said (b.Law false event_e fluent_p []) ∷ [];
}

abbrev pub wins_trace : Trace
wins_trace = trace_of [] (happening (event_e ∷ []) ∷ [])

-- p is terminated in cycle 1, and holds after it
abbrev pub InitiationWinsExample : Type 0
InitiationWinsExample = (level : List ℕ → ℕ) → Terminated wins_text level wins_trace 1 fluent_p × Holds wins_text level wins_trace 1 fluent_p

-- ---- conditions are read in the state before
--   fluent p/0, q/0. event e/0, f/0. initially p.
--   e terminates p. f initiates q if p.
-- Events e and f happen in cycle 1.

abbrev pub fluent_q : Atom
fluent_q = nullary (codes "q")

abbrev pub old_state_text : Text
old_state_text = record {
  statements = said (b.Declare (declared_as k.Fluent (codes "p") 0 ∷ declared_as k.Fluent (codes "q") 0 ∷ []))
      ∷ said (b.Declare (declared_as k.Event (codes "e") 0 ∷ declared_as k.Event (codes "f") 0 ∷ []))
      ∷ said (b.Initially (fluent_p ∷ []))
      ∷ said (b.Law false event_e fluent_p [])
      ∷ said (b.Law true event_f fluent_q (d.Lit (record { negated = false; atom = fluent_p }) ∷ [])) ∷ [];
}

abbrev pub old_state_trace : Trace
old_state_trace = trace_of (fluent_p ∷ []) (happening (event_e ∷ event_f ∷ []) ∷ [])

-- after it q holds, and p does not
abbrev pub OldStateExample : Type 0
OldStateExample = (level : List ℕ → ℕ) → Holds old_state_text level old_state_trace 1 fluent_q × (Holds old_state_text level old_state_trace 1 fluent_p → ⊥)

-- ---- an event that is rejected
--   fluent p/0. event e/0, f/0.
--   e initiates p. false f from T to T1, p at T1.
-- Nothing happened yet, and p does not hold.

abbrev pub reject_text : Text
reject_text = record {
  statements = said (b.Declare (declared_as k.Fluent (codes "p") 0 ∷ declared_as k.Event (codes "e") 0 ∷ declared_as k.Event (codes "f") 0 ∷ []))
      ∷ said (b.Law true event_e fluent_p [])
      ∷ said (b.Denial (from_to event_f 0 1 ∷ at_time fluent_p 1 ∷ [])) ∷ [];
}

abbrev pub reject_trace : Trace
reject_trace = trace_of [] []

-- e alone violates no denial, f alone violates none, and f with e before it violates denial 1
abbrev pub RejectExample : Type 0
RejectExample = (level : List ℕ → ℕ) → ViolatesNone reject_text level reject_trace (event_e ∷ []) × ViolatesNone reject_text level reject_trace (event_f ∷ [])
    × IsLeastViolated reject_text level reject_trace (event_e ∷ event_f ∷ []) 1

-- ---- a goal that is solved
--   fluent fire/0. event spark/0. action eliminate/0.
--   spark initiates fire. eliminate terminates fire.
--   if fire at T then eliminate from T1 to T2.
-- Event spark happens in cycle 1, and eliminate is done in cycle 2.

abbrev pub fluent_fire : Atom
fluent_fire = nullary (codes "fire")

abbrev pub event_spark : Atom
event_spark = nullary (codes "spark")

abbrev pub action_eliminate : Atom
action_eliminate = nullary (codes "eliminate")

abbrev pub fire_text : Text
fire_text = record {
  statements = said (b.Declare (declared_as k.Fluent (codes "fire") 0 ∷ declared_as k.Event (codes "spark") 0 ∷ declared_as k.Action (codes "eliminate") 0 ∷ []))
      ∷ said (b.Law true event_spark fluent_fire []) ∷ said (b.Law false action_eliminate fluent_fire [])
      ∷ said (b.Rule (at_time fluent_fire 0 ∷ []) ((from_to action_eliminate 1 2 ∷ []) ∷ [])) ∷ [];
}

abbrev pub fire_trace : Trace
fire_trace = trace_of [] (happening (event_spark ∷ []) ∷ doing action_eliminate ∷ [])

abbrev pub fire_key : GoalKey
fire_key = record { rule = 1; values = []; times = []; time = 1 }

-- the trace has exactly this goal, which is pending in cycle 1 and solved in cycle 2
abbrev pub FireExample : Type 0
FireExample = (level : List ℕ → ℕ) → AreGoals fire_text level fire_trace 2 (fire_key ∷ [])
    × IsPending fire_text level fire_trace 100 fire_key 1 × IsClosed fire_text level fire_trace 100 fire_key 2 c.Solved

-- ---- another alternative
--   event e/0. action a/0, c/0.
--   if e from T to T1 then a from T2 to T3, T3 =< T1 + 2 or c from T2 to T3.
-- Event e happens in cycle 1, and nothing is done: by cycle 3 it is too late for a.

abbrev pub other_text : Text
other_text = record {
  statements = said (b.Declare (declared_as k.Event (codes "e") 0 ∷ declared_as k.Action (codes "a") 0 ∷ declared_as k.Action (codes "c") 0 ∷ []))
      ∷ said (b.Rule (from_to event_e 0 1 ∷ []) ((from_to action_a 2 3 ∷ at_most 3 1 2 ∷ []) ∷ (from_to action_c 2 3 ∷ []) ∷ [])) ∷ [];
}

abbrev pub other_trace : Trace
other_trace = trace_of [] (happening (event_e ∷ []) ∷ happening [] ∷ happening [] ∷ [])

abbrev pub other_key : GoalKey
other_key = record { rule = 1; values = []; times = 1 ∷ []; time = 1 }

-- the goal is pending in cycle 3, and each of its live plans is one of the second alternative
abbrev pub OtherAlternativeExample : Type 0
OtherAlternativeExample = (level : List ℕ → ℕ) → IsPending other_text level other_trace 100 other_key 3
    × ((live : HasLive other_text level other_trace 100 other_key 3) → live.1.plan.reaches.alternative ≡ 2)

-- ---- an event that is rejected for another of its kind
--   event order/1.
--   false order(X) from T to T1, order(Y) from T to T1, X \= Y.
-- Nothing happened yet.

abbrev pub order_of : Term → Atom
order_of x = unary (codes "order") x

abbrev pub order_text : Text
order_text = record {
  statements = said (b.Declare (declared_as k.Event (codes "order") 1 ∷ []))
      ∷ said (b.Denial (from_to (order_of (t.Var 0)) 0 1 ∷ from_to (order_of (t.Var 1)) 0 1 ∷ i.Built (u.Differ (t.Var 0) (t.Var 1)) ∷ [])) ∷ [];
}

-- order(p) alone violates no denial, and order(q) with order(p) before it violates denial 1
abbrev pub OneOrderExample : Type 0
OneOrderExample = (level : List ℕ → ℕ) → ViolatesNone order_text level reject_trace (order_of (t.Sym (codes "p")) ∷ [])
    × IsLeastViolated order_text level reject_trace (order_of (t.Sym (codes "p")) ∷ order_of (t.Sym (codes "q")) ∷ []) 1

-- ---- a parcel office
--   fluent shelf/2. event arrive/1, collect/1. action store/2, notify/1, refuse/1.
--   timeless room(-). derived full(+). macro place(+).
--   room(a). room(b). full(S) if shelf(P, S).
--   place(P) from T1 to T2 if room(S), not full(S) at T1, store(P, S) from T1 to T2.
--   store(P, S) initiates shelf(P, S). collect(P) terminates shelf(P, S) if shelf(P, S).
--   false store(P, S) from T1 to T2, store(Q, S) from T1 to T2, P \= Q. false store(P, S) from T1 to T2, shelf(Q, S) at T1.
--   if arrive(P) from T1 to T2 then place(P) from T3 to T4, notify(P) from T4 to T5, T5 =< T2 + 4 or refuse(P) from T3 to T4, T3 >= T2 + 3.
-- Events arrive(p1) and arrive(p2) happen in cycle 1.

abbrev binary : List ℕ → Term → Term → Atom
binary name x y = record { name = name; args = x ∷ y ∷ [] }

abbrev with_mode : Kind → List ℕ → Mode → Decl
with_mode kind name mode = record { kind = kind; name = name; arity = 1; modes = mode ∷ [] }

abbrev lit : Bool → Atom → Lit
lit negated atom = record { negated = negated; atom = atom }

abbrev store_of : ℕ → ℕ → Atom
store_of p s = binary (codes "store") (t.Var p) (t.Var s)

abbrev shelf_of : ℕ → ℕ → Atom
shelf_of p s = binary (codes "shelf") (t.Var p) (t.Var s)

abbrev pub arrive_of : Term → Atom
arrive_of x = unary (codes "arrive") x

abbrev office_declarations : List Decl
office_declarations = declared_as k.Fluent (codes "shelf") 2 ∷ declared_as k.Event (codes "arrive") 1 ∷ declared_as k.Event (codes "collect") 1
    ∷ declared_as k.Action (codes "store") 2 ∷ declared_as k.Action (codes "notify") 1 ∷ declared_as k.Action (codes "refuse") 1
    ∷ with_mode k.Timeless (codes "room") m.Minus ∷ with_mode k.Derived (codes "full") m.Plus ∷ with_mode k.Macro (codes "place") m.Plus ∷ []

abbrev pub office_rule : Rule
office_rule = record {
  antecedent = from_to (arrive_of (t.Var 0)) 0 1 ∷ [];
  alternatives = (from_to (unary (codes "place") (t.Var 0)) 2 3 ∷ from_to (unary (codes "notify") (t.Var 0)) 3 4 ∷ at_most 4 1 4 ∷ [])
      ∷ (from_to (unary (codes "refuse") (t.Var 0)) 2 3
      ∷ i.Con (record { left = record { 0 = 2 }; rel = r.AtLeast; right = record { 0 = 1 }; plus = pos 3 }) ∷ []) ∷ [];
}

abbrev pub office_text : Text
office_text = record {
  statements = said (b.Declare office_declarations)
      ∷ said (b.Clause (unary (codes "room") (t.Sym (codes "a"))) []) ∷ said (b.Clause (unary (codes "room") (t.Sym (codes "b"))) [])
      ∷ said (b.Clause (unary (codes "full") (t.Var 0)) (d.Lit (lit false (shelf_of 1 0)) ∷ []))
      ∷ said (b.MacroClause (unary (codes "place") (t.Var 0)) (record { 0 = 0 }) (record { 0 = 1 })
      (i.Bare (lit false (unary (codes "room") (t.Var 1))) ∷ i.At (lit true (unary (codes "full") (t.Var 1))) (record { 0 = 0 }) ∷ from_to (store_of 0 1) 0 1 ∷ []))
      ∷ said (b.Law true (store_of 0 1) (shelf_of 0 1) [])
      ∷ said (b.Law false (unary (codes "collect") (t.Var 0)) (shelf_of 0 1) (d.Lit (lit false (shelf_of 0 1)) ∷ []))
      ∷ said (b.Denial (from_to (store_of 0 1) 0 1 ∷ from_to (store_of 2 1) 0 1 ∷ i.Built (u.Differ (t.Var 0) (t.Var 2)) ∷ []))
      ∷ said (b.Denial (from_to (store_of 0 1) 0 1 ∷ at_time (shelf_of 2 1) 0 ∷ []))
      ∷ said (b.Rule office_rule.antecedent office_rule.alternatives) ∷ [];
}

abbrev pub office_trace : Trace
office_trace = trace_of [] (happening (arrive_of (t.Sym (codes "p1")) ∷ arrive_of (t.Sym (codes "p2")) ∷ []) ∷ [])

abbrev pub office_key : Term → GoalKey
office_key x = record { rule = 1; values = x ∷ []; times = 1 ∷ []; time = 1 }

-- the trace has exactly these goals: one for each parcel
abbrev pub ParcelOfficeExample : Type 0
ParcelOfficeExample = (level : List ℕ → ℕ) → AreGoals office_text level office_trace 1 (office_key (t.Sym (codes "p1")) ∷ office_key (t.Sym (codes "p2")) ∷ [])

-- ---- calls within calls
--   event e/0. action a/0. macro m1, m2, m3, m4, m5.
--   m1 from T to T1 if m2 from T to T1. m2 from T to T1 if m3 from T to T1. m3 from T to T1 if m4 from T to T1.
--   m4 from T to T1 if m5 from T to T1. m5 from T to T1 if a from T to T1.
--   if e from T to T1 then m1 from T2 to T3.
-- Event e happens in cycle 1. The call of m5 nests at 5.

abbrev within : List ℕ → List ℕ → Statement
within outer inner = said (b.MacroClause (nullary outer) (record { 0 = 0 }) (record { 0 = 1 }) (from_to (nullary inner) 0 1 ∷ []))

abbrev macro : List ℕ → Decl
macro name = declared_as k.Macro name 0

abbrev pub nesting_text : Text
nesting_text = record {
  statements = said (b.Declare (declared_as k.Event (codes "e") 0 ∷ declared_as k.Action (codes "a") 0 ∷ []))
      ∷ said (b.Declare (macro (codes "m1") ∷ macro (codes "m2") ∷ macro (codes "m3") ∷ macro (codes "m4") ∷ macro (codes "m5") ∷ []))
      ∷ within (codes "m1") (codes "m2") ∷ within (codes "m2") (codes "m3") ∷ within (codes "m3") (codes "m4")
      ∷ within (codes "m4") (codes "m5") ∷ within (codes "m5") (codes "a")
      ∷ said (b.Rule (from_to event_e 0 1 ∷ []) ((from_to (nullary (codes "m1")) 2 3 ∷ []) ∷ [])) ∷ [];
}

abbrev pub nesting_trace : Trace
nesting_trace = trace_of [] (happening (event_e ∷ []) ∷ [])

abbrev pub nesting_key : GoalKey
nesting_key = record { rule = 1; values = []; times = []; time = 1 }

-- in cycle 1 the goal is cut at depths 3 and 4, and pending at depth 5
abbrev pub NestingExample : Type 0
NestingExample = (level : List ℕ → ℕ) → IsClosed nesting_text level nesting_trace 3 nesting_key 1 c.Cut
    × IsClosed nesting_text level nesting_trace 4 nesting_key 1 c.Cut × IsPending nesting_text level nesting_trace 5 nesting_key 1

-- ---- calls one after the other
--   event e/0. action a/0, c/0. macro m, n.
--   m from T to T1 if a from T to T1. n from T to T1 if c from T to T1.
--   if e from T to T1 then m from T2 to T3, n from T4 to T5.
-- Event e happens in cycle 1, and a is done in cycle 2. Each call nests at 1.

abbrev pub one_after_other_text : Text
one_after_other_text = record {
  statements = said (b.Declare (declared_as k.Event (codes "e") 0 ∷ declared_as k.Action (codes "a") 0 ∷ declared_as k.Action (codes "c") 0 ∷ []))
      ∷ said (b.Declare (macro (codes "m") ∷ macro (codes "n") ∷ []))
      ∷ within (codes "m") (codes "a") ∷ within (codes "n") (codes "c")
      ∷ said (b.Rule (from_to event_e 0 1 ∷ []) ((from_to (nullary (codes "m")) 2 3 ∷ from_to (nullary (codes "n")) 4 5 ∷ []) ∷ [])) ∷ [];
}

abbrev pub one_after_other_trace : Trace
one_after_other_trace = trace_of [] (happening (event_e ∷ []) ∷ doing action_a ∷ [])

abbrev pub one_after_other_key : GoalKey
one_after_other_key = record { rule = 1; values = []; times = []; time = 1 }

-- at depth 1 the goal is pending in cycle 2
abbrev pub OneAfterOtherExample : Type 0
OneAfterOtherExample = (level : List ℕ → ℕ) → IsPending one_after_other_text level one_after_other_trace 1 one_after_other_key 2
