-- A stage at which no step is made leaves one node: what is left of it, in canonical numbers, where that can come true.
use Rattle.std.proofs.Common.{ℕ, ◌≡◌, ◌↔◌, ◌+◌, ◌<◌, Bool, true, false, not, cond, nat_eq, IsTrue, List, [], ◌∷◌, get_or, length, refl, sym, ap, subst, ◌∙◌, arith}
use Rattle.std.specs.Prelude.{suc}
use Rattle.std.specs.List.{AllByRecursion}
use Rattle.std.proofs.lemmas.Bool.Decides.{nat_tests}
use Rattle.lps_terms.specs.declared.term.Term.{Term}
use Rattle.lps_terms.specs.declared.term.Term.TheVariants as t
use Rattle.lps_terms.specs.declared.text.Text.{Text}
use Rattle.lps_terms.specs.Put.{after, put-Var}
use Rattle.lps_facts.proofs.Sets.{true_not_false}
use Rattle.lps_model.specs.Rules.{is_macro, kind_of}
use Rattle.lps_meaning.specs.declared.node.Left.{Left}
use Rattle.lps_meaning.specs.declared.node.LeftItem.{LeftItem}
use Rattle.lps_meaning.specs.declared.node.LeftItem.TheVariants as l
use Rattle.lps_meaning.specs.declared.node.Node.{Node}
use Rattle.lps_meaning.specs.declared.when.When.{When}
use Rattle.lps_meaning.specs.declared.when.When.TheVariants.{Unknown}
use Rattle.lps_meaning.proofs.Occurrences.{all_to}
use Rattle.lps_nodes.specs.Alone.{Stage as WalkStage}
use Rattle.lps_nodes.specs.Conditions.{CanComeTrue}
use Rattle.lps_nodes.specs.Led.{AreVariants, IsLeftAt, is_left_call}
use Rattle.lps_nodes.specs.Nodes.{left_in}
use Rattle.lps_nodes.specs.Shapes.{Shape, put_shape, shape_unknowns, shape_vars, untested}
use Rattle.lps_nodes.proofs.LedVariants.{canonical_same}
use Rattle.lps_nodes.proofs.OwnShapes.{own, own_shape, own_time}
use Rattle.lps_nodes.proofs.ShapeLaws.{after_when, shape_put}
use Rattle.lps_nodes.proofs.ShapeTerms.{same_shape}
use Rattle.lps_residual.specs.Moments.{HappensOrHolds, IsReady}
use Rattle.lps_unify.specs.Canonical.{place_of, renumbered}
use Rattle.lps_residual.specs.Numbered.{canonical_node, seen_unknowns, seen_variables}
use Rattle.lps_residual.specs.Putting.{when_renumbered}
use Rattle.lps_residual.proofs.Places.{all_placed}
use Rattle.lps_residual.proofs.Renumbering.{canonical}
use Rattle.lps_residual.proofs.Readying.{ready_numbered}
use Rattle.lps_meeting.specs.declared.moment.Moment.{Moment}
use Rattle.lps_meeting.specs.declared.stage.Stage.{Stage}
use Rattle.lps_meeting.specs.Stages.{IsReadyStage, IsStageOf}
use Rattle.lps_seq.specs.declared.found.Found.{Found}
use Rattle.lps_seq.specs.Found.{Adds}
use Rattle.lps_seq.specs.Leads.{LeadsWithout, StaysReady}
use Rattle.lps_seq.proofs.Ending.{adds_all, adds_none, adds_same, no_calls}
use Rattle.lps_seq.proofs.Stepping.{no_event_called}
use Rattle.lps_seq.proofs.Variants.{can_untested, can_variant, can_whole, turned}

-- what stands at the place of a number is the number
pub at_place : (seen : List ℕ) (v : ℕ) → place_of seen v < length seen → get_or seen (place_of seen v) 0 ≡ v
at_place [] v lt = absurd (omega (arith, lt))
at_place (w ∷ seen) v lt = by (nat_eq w v) refl (at_place seen v) lt where
  by : (same : Bool) → nat_eq w v ≡ same → (place_of seen v < length seen → get_or seen (place_of seen v) 0 ≡ v) → cond (not same) (1 + place_of seen v) 0 < length (w ∷ seen) →
      get_or (w ∷ seen) (cond (not same) (1 + place_of seen v) 0) 0 ≡ v
  by true e later lt = grind (arith, nat_tests)
  by false e later lt = let next : 1 + place_of seen v ≡ suc (place_of seen v) = omega arith in ap (λ p. get_or (w ∷ seen) p 0) next ∙ later (omega (arith, lt))

-- a node and the node in canonical numbers are instances of each other
module _ (node : Node) where
  abbrev variables : List ℕ
  variables = seen_variables node

  abbrev times : List ℕ
  times = seen_unknowns node

  abbrev value_back : ℕ → Term
  value_back n = t.Var (get_or variables n 0)

  abbrev when_back : ℕ → When
  when_back n = Unknown (get_or times n 0)

  comes_back : put_shape value_back when_back (left_in (canonical_node node)) ≡ left_in node
  comes_back =
      shape_put value_back (renumbered variables) when_back (when_renumbered times) (left_in node)
      ∙ same_shape (after value_back (renumbered variables)) own (after_when when_back (when_renumbered times)) own_time (left_in node)
      (all_to (λ v. place_of variables v < length variables) (λ v. after value_back (renumbered variables) v ≡ own v)
      (λ v there. put-Var value_back (place_of variables v) ∙ ap (λ n. t.Var n) (at_place variables v there)) (shape_vars (left_in node)) (all_placed (shape_vars (left_in node))))
      (all_to (λ k. place_of times k < length times) (λ k. after_when when_back (when_renumbered times) k ≡ own_time k) (λ k there. ap (λ n. Unknown n) (at_place times k there))
      (shape_unknowns (left_in node)) (all_placed (shape_unknowns (left_in node))))
      ∙ own_shape (left_in node)

  pub numbered_variants : AreVariants (left_in node) (left_in (canonical_node node))
  numbered_variants = record { v = renumbered variables; x = when_renumbered times; to = refl; u = value_back; y = when_back; back = sym comes_back }

-- one and then another
pub then : (g h k : Shape) → AreVariants g h → AreVariants h k → AreVariants g k
then g h k one two = record {
  v = after two.v one.v;
  x = after_when two.x one.x;
  to = two.to ∙ ap (put_shape two.v two.x) one.to ∙ shape_put two.v one.v two.x one.x g;
  u = after one.u two.u;
  y = after_when one.y two.y;
  back = one.back ∙ ap (put_shape one.u one.y) two.back ∙ shape_put one.u two.u one.y two.y k;
}

pub uncalled_item : (text : Text) (item : LeftItem) → HappensOrHolds text item → is_left_call text item ≡ false
uncalled_item text (l.At lit time) h = refl
uncalled_item text (l.Bare lit) h = refl
uncalled_item text (l.Built built) h = refl
uncalled_item text (l.Span a from to) h = by (is_macro (kind_of text a.name)) refl where
  by : (b : Bool) → is_macro (kind_of text a.name) ≡ b → b ≡ false
  by true e = absurd (no_event_called (kind_of text a.name) h e)
  by false e = refl

module _ (m : Moment) (stage : Stage) (ready : IsReadyStage m stage) where
  module _ (x : WalkStage) (is : IsStageOf m.program.now m.time stage x) where
    of_stage : AreVariants (untested x.shape) (left_in (canonical_node stage.node))
    of_stage = then (untested x.shape) (left_in stage.node) (left_in (canonical_node stage.node)) is.shape (numbered_variants stage.node)

    can_here : CanComeTrue m.program.now m.time (left_in (canonical_node stage.node)) → CanComeTrue m.program.now m.time x.shape
    can_here can = can_whole m.program.now m.time x.shape is.tested (can_variant m.program.now m.time (untested x.shape) (left_in (canonical_node stage.node)) of_stage can)

    can_there : CanComeTrue m.program.now m.time x.shape → CanComeTrue m.program.now m.time (left_in (canonical_node stage.node))
    can_there can =
        can_variant m.program.now m.time (left_in (canonical_node stage.node)) (untested x.shape) (turned (untested x.shape) (left_in (canonical_node stage.node)) of_stage)
        (can_untested m.program.now m.time x.shape can)

    first_uncalled : (rest : List Left) (first : Left) (behind : List Left) → AllByRecursion (λ left. HappensOrHolds m.program.now left.item) rest → rest ≡ first ∷ behind → is_left_call m.program.now first.item ≡ false
    first_uncalled rest first behind all e = uncalled_item m.program.now first.item (subst (AllByRecursion (λ left. HappensOrHolds m.program.now left.item)) e all).0

    is_left : CanComeTrue m.program.now m.time (left_in (canonical_node stage.node)) → IsLeftAt m.program.now m.time x stage.node.alternative (canonical_node stage.node)
    is_left can =
        let here = can_here can in
        record {
          can = here;
          no_call = first_uncalled x.shape.rest here.first here.behind (no_calls m stage ready x is) here.is_first;
          variants = of_stage;
          canonical = canonical stage.node;
          of_alternative = refl;
          of_rank = sym is.rank;
          of_done = sym is.done;
        }

    only_left : (o : Node) → IsLeftAt m.program.now m.time x stage.node.alternative o → o ≡ canonical_node stage.node
    only_left o left =
        let same : left_in o ≡ left_in (canonical_node stage.node) =
        canonical_same (untested x.shape) (left_in o) (left_in (canonical_node stage.node)) left.variants of_stage left.canonical (canonical stage.node) in
        let rank : o.rank ≡ stage.node.rank = left.of_rank ∙ is.rank in
        let done : o.done ≡ stage.node.done = left.of_done ∙ is.done in
        λ j. record {
          alternative = left.of_alternative j;
          rank = rank j;
          done = done j;
          carry = (same j).carry;
          rest = (same j).rest;
          limits = (same j).limits;
        }

  pub waits : (old new : Found) (node : Node) → node ≡ canonical_node stage.node → (text : Text) → text ≡ m.program.now → (can : Bool) → IsTrue can ↔ CanComeTrue text m.time (left_in node) → can ≡ true →
      Adds old new (λ o. o ≡ node) (λ c. ⊥) → LeadsWithout m stage old new
  waits old new node e text same_text can test is_true adds level trace x is depth =
      adds_same old new (λ o. o ≡ node) (IsLeftAt m.program.now m.time x stage.node.alternative) (λ c. ⊥) (λ c. ⊥)
      (λ o. (
        λ same. subst (IsLeftAt m.program.now m.time x stage.node.alternative) (sym (same ∙ e)) (is_left x is.is (subst (λ n. CanComeTrue m.program.now m.time (left_in n)) e (subst (λ z. CanComeTrue z m.time (left_in node)) same_text (test.0 is_true)))),
        λ left. only_left x is.is o left ∙ sym e,
      ))
      (λ c. (λ f. f, λ f. f))
      adds

  pub waits_not : (found : Found) (node : Node) → node ≡ canonical_node stage.node → (text : Text) → text ≡ m.program.now → (can : Bool) → IsTrue can ↔ CanComeTrue text m.time (left_in node) → can ≡ false →
      LeadsWithout m stage found found
  waits_not found node e text same_text can test is_false level trace x is depth =
      adds_none found (IsLeftAt m.program.now m.time x stage.node.alternative) (λ c. ⊥)
      (λ o left. true_not_false (sym (test.1 (subst (λ z. CanComeTrue z m.time (left_in node)) (sym same_text) (subst (λ n. CanComeTrue m.program.now m.time (left_in n)) (sym e) (can_there x is.is left.can)))) ∙ is_false))
      (λ c f. f)

  pub stays_ready : (old new : Found) (node : Node) → node ≡ canonical_node stage.node → Adds old new (λ o. o ≡ node) (λ c. ⊥) → StaysReady m old new
  stays_ready old new node e adds =
      adds_all old new (λ o. o ≡ node) (λ c. ⊥) (IsReady m.program.now) adds
      (λ o same. subst (IsReady m.program.now) (sym (same ∙ e)) (ready_numbered m.program.now stage.node m.unknowns ready.moded ready.decided ready.timed ready.no_calls))
