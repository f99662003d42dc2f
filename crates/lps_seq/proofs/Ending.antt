-- Stages as stages of steps alone: what is left in both, and what is carried where nothing is left.
use Rattle.std.proofs.Common.{ℕ, ℤ, ◌≡◌, ◌⊎◌, ◌↔◌, Bool, true, false, cond, List, [], ◌∷◌, length, map, refl, sym, ap, subst, ◌∙◌, inl, inr, arith, Contains}
use Rattle.std.specs.List.{AllByRecursion, filter}
use Rattle.lps_terms.specs.declared.term.Term.{Term}
use Rattle.lps_terms.specs.declared.text.Text.{Text}
use Rattle.lps_terms.specs.declared.time_rel.TimeRel.{TimeRel}
use Rattle.lps_facts.proofs.Sets.{true_not_false}
use Rattle.lps_model.specs.declared.trace.Trace.{Trace}
use Rattle.lps_model.proofs.Elements.{first_is_contained, first_or_later, later_is_contained, nothing_contained}
use Rattle.lps_meaning.specs.declared.node.Carry.{Carry}
use Rattle.lps_meaning.specs.declared.node.Left.{Left}
use Rattle.lps_meaning.specs.declared.node.LeftCon.{LeftCon}
use Rattle.lps_meaning.specs.declared.node.LeftItem.{LeftItem}
use Rattle.lps_meaning.specs.declared.node.LeftItem.TheVariants as l
use Rattle.lps_meaning.specs.declared.node.Node.{Node}
use Rattle.lps_meaning.specs.declared.when.When.{When}
use Rattle.lps_meaning.specs.declared.when.When.TheVariants.{Known, Unknown}
use Rattle.lps_nodes.specs.Alone.{Stage as WalkStage}
use Rattle.lps_nodes.specs.Conditions.{IsLeftLimit}
use Rattle.lps_nodes.specs.Led.{AreVariants, IsLedTo, IsLedToEnd}
use Rattle.lps_nodes.specs.Nodes.{left_in}
use Rattle.lps_nodes.specs.Shapes.{Shape, put_left, put_left_con, put_left_item, untested}
use Rattle.lps_nodes.proofs.OwnShapes.{own, own_shape, own_time}
use Rattle.lps_residual.specs.Limits.{IsOpenOrTrue, is_open}
use Rattle.lps_residual.specs.Moments.{HappensOrHolds, IsDecided}
use Rattle.lps_meeting.specs.declared.moment.Moment.{Moment}
use Rattle.lps_meeting.specs.declared.stage.Stage.{Stage}
use Rattle.lps_meeting.specs.Stages.{IsReadyStage, IsStageOf, Meets}
use Rattle.lps_seq.specs.declared.found.Found.{Found}
use Rattle.lps_seq.specs.Found.{Adds}
use Rattle.lps_seq.specs.Leads.{Leads}
use Rattle.lps_seq.proofs.Stepping.{HasNoCalls, ended_first, led_first}

-- ---- lists

pub all_contained : {X : Type 0} (P : X → Type 0) (xs : List X) → ((x : X) → Contains xs x → P x) → AllByRecursion P xs
all_contained P [] h = tt
all_contained P (x ∷ xs) h = (h x (first_is_contained x xs), all_contained P xs (λ y there. h y (later_is_contained x xs y there)))

pub contained_all : {X : Type 0} (P : X → Type 0) (xs : List X) → AllByRecursion P xs → (x : X) → Contains xs x → P x
contained_all P [] all x there = absurd (nothing_contained x there)
contained_all P (y ∷ xs) all x there = by (contained_all P xs all.1 x) (first_or_later y xs x there) where
  by : (Contains xs x → P x) → (y ≡ x) ⊎ Contains xs x → P x
  by later (inl e) = subst P e all.0
  by later (inr more) = later more

-- ---- what is added

pub adds_same : (old new : Found) (N M : Node → Type 0) (C D : Carry → Type 0) → ((o : Node) → N o ↔ M o) → ((c : Carry) → C c ↔ D c) → Adds old new N C → Adds old new M D
adds_same old new N M C D nodes carries adds = record {
  nodes = λ o. (
    λ h. elim ((adds.nodes o).0 h) [
      | inl was ↦ inl was
      | inr is ↦ inr ((nodes o).0 is)
    ],
    λ h. elim h [
      | inl was ↦ (adds.nodes o).1 (inl was)
      | inr is ↦ (adds.nodes o).1 (inr ((nodes o).1 is))
    ],
  );
  once = adds.once;
  ended = λ c. (
    λ h. elim ((adds.ended c).0 h) [
      | inl was ↦ inl was
      | inr is ↦ inr ((carries c).0 is)
    ],
    λ h. elim h [
      | inl was ↦ (adds.ended c).1 (inl was)
      | inr is ↦ (adds.ended c).1 (inr ((carries c).1 is))
    ],
  );
}

-- nothing is added
pub adds_none : (found : Found) (N : Node → Type 0) (C : Carry → Type 0) → ((o : Node) → N o → ⊥) → ((c : Carry) → C c → ⊥) → Adds found found N C
adds_none found N C no_node no_carry = record {
  nodes = λ o. (
    λ h. inl h,
    λ h. elim h [
      | inl was ↦ was
      | inr is ↦ absurd (no_node o is)
    ],
  );
  once = λ h. h;
  ended = λ c. (
    λ h. inl h,
    λ h. elim h [
      | inl was ↦ was
      | inr is ↦ absurd (no_carry c is)
    ],
  );
}

-- what holds of the nodes that were there and of those that are added holds of all
pub adds_all : (old new : Found) (N : Node → Type 0) (C : Carry → Type 0) (P : Node → Type 0) → Adds old new N C → ((o : Node) → N o → P o) → AllByRecursion P old.nodes.items → AllByRecursion P new.nodes.items
adds_all old new N C P adds is all = all_contained P new.nodes.items (λ o there. elim ((adds.nodes o).0 there) [
  | inl was ↦ contained_all P old.nodes.items all o was
  | inr more ↦ is o more
])

-- ---- what is left

happens_back : (text : Text) (s : ℕ → Term) (w : ℕ → When) (item : LeftItem) → HappensOrHolds text (put_left_item s w item) → HappensOrHolds text item
happens_back text s w (l.At lit time) h = tt
happens_back text s w (l.Bare lit) h = h
happens_back text s w (l.Built built) h = tt
happens_back text s w (l.Span a from to) h = h

all_happen : (text : Text) (s : ℕ → Term) (w : ℕ → When) (rest : List Left) → AllByRecursion (λ left. HappensOrHolds text left.item) (map (put_left s w) rest) →
    AllByRecursion (λ left. HappensOrHolds text left.item) rest
all_happen text s w [] h = tt
all_happen text s w (left ∷ rest) h = (happens_back text s w left.item h.0, all_happen text s w rest h.1)

module _ (m : Moment) (stage : Stage) (ready : IsReadyStage m stage) (x : WalkStage) (is : IsStageOf m.program.now m.time stage x) where
  rest_to : stage.node.rest ≡ map (put_left is.shape.v is.shape.x) x.shape.rest
  rest_to = ap (λ (g : Shape). g.rest) is.shape.to

  rest_back : x.shape.rest ≡ map (put_left is.shape.u is.shape.y) stage.node.rest
  rest_back = ap (λ (g : Shape). g.rest) is.shape.back

  pub no_calls : HasNoCalls m.program.now x
  no_calls = all_happen m.program.now is.shape.v is.shape.x x.shape.rest (subst (AllByRecursion (λ left. HappensOrHolds m.program.now left.item)) rest_to ready.no_calls)

-- ---- nothing is left

never_open : (left right : When) (rel : TimeRel) (plus : ℤ) → is_open (record { left = left; rel = rel; right = right; plus = plus }) ≡ true →
    put_left_con (λ k. Known 0) (record { left = left; rel = rel; right = right; plus = plus }) ≡ put_left_con (λ k. Known 1) (record { left = left; rel = rel; right = right; plus = plus }) → ⊥
never_open (Known n) (Known k) rel plus opened same = cc
never_open (Known n) (Unknown k) rel plus opened same = let e = ap (λ (con : LeftCon). con.right) same in cc
never_open (Unknown k) right rel plus opened same = let e = ap (λ (con : LeftCon). con.left) same in cc

head_same : {X : Type 0} (x y : X) (xs ys : List X) → x ∷ xs ≡ y ∷ ys → x ≡ y
head_same x y xs ys e = cc

tail_same : {X : Type 0} (x y : X) (xs ys : List X) → x ∷ xs ≡ y ∷ ys → xs ≡ ys
tail_same x y xs ys e = cc

-- where no time is unknown, what is not false is true
all_true : (limits : List LeftCon) → map (put_left_con (λ k. Known 0)) (filter is_open limits) ≡ map (put_left_con (λ k. Known 1)) (filter is_open limits) → AllByRecursion IsOpenOrTrue limits →
    AllByRecursion (IsLeftLimit (λ k. 0)) limits
all_true [] same all = tt
all_true (con ∷ limits) same all = by (is_open con) refl same (all_true limits) all.0 where
  by : (b : Bool) → is_open con ≡ b → map (put_left_con (λ k. Known 0)) (cond b (con ∷ filter is_open limits) (filter is_open limits)) ≡ map (put_left_con (λ k. Known 1)) (cond b (con ∷ filter is_open limits) (filter is_open limits)) →
      (map (put_left_con (λ k. Known 0)) (filter is_open limits) ≡ map (put_left_con (λ k. Known 1)) (filter is_open limits) → AllByRecursion IsOpenOrTrue limits → AllByRecursion (IsLeftLimit (λ k. 0)) limits) →
      (is_open con ≡ true) ⊎ IsLeftLimit (λ k. 0) con → AllByRecursion (IsLeftLimit (λ k. 0)) (con ∷ limits)
  by true e same later here = absurd (never_open con.left con.right con.rel con.plus e (head_same _ _ _ _ same))
  by false e same later (inl opened) = absurd (true_not_false (sym opened ∙ e))
  by false e same later (inr holds) = (holds, later same all.1)

nothing_decided : (g h : Shape) → IsDecided g → g.rest ≡ [] → AreVariants h g → h ≡ g
nothing_decided g h decided none variants =
    variants.back ∙ decided variants.u own variants.y own_time (subst (λ rest. map (put_left variants.u variants.y) rest ≡ map (put_left own own_time) rest) (sym none) refl) ∙ own_shape g

no_items : (rest : List Left) → length rest ≡ 0 → rest ≡ []
no_items [] e = refl
no_items (left ∷ rest) e = absurd (omega (arith, e))

not_first : {X : Type 0} (x : X) (xs rest : List X) → rest ≡ [] → rest ≡ x ∷ xs → ⊥
not_first x xs rest none first = cc

module _ (m : Moment) (stage : Stage) (ready : IsReadyStage m stage) (whole : length stage.node.rest ≡ 0) where
  module _ (level : List ℕ → ℕ) (trace : Trace) (x : WalkStage) (is : IsStageOf m.program.now m.time stage x) (depth : ℕ) where
    same : untested x.shape ≡ left_in stage.node
    same = nothing_decided (left_in stage.node) (untested x.shape) ready.decided (no_items stage.node.rest whole) is.shape

    none_left : x.shape.rest ≡ []
    none_left = ap (λ (g : Shape). g.rest) same ∙ no_items stage.node.rest whole

    none_met : (y : WalkStage) → Meets m.program.now level trace m.time x y → ⊥
    none_met y meets = not_first meets.first meets.behind x.shape.rest none_left meets.is_first

    no_node : (o : Node) → IsLedTo m.program.now level trace depth m.time x stage.node.alternative o → ⊥
    no_node o led = elim ((led_first m.program.now level trace depth m.time stage.node.alternative x (no_calls m stage ready x is) o).0 led) [
      | inl here ↦ not_first here.can.first here.can.behind x.shape.rest none_left here.can.is_first
      | inr later ↦ none_met later.0 later.1
    ]

    carried : (c : Carry) → IsLedToEnd m.program.now level trace depth m.time x c → (x.before ≡ m.time) × (c ≡ stage.node.carry)
    carried c led = elim ((ended_first m.program.now level trace depth m.time x (no_calls m stage ready x is) c).0 led) [
      | inl here ↦ (here.last, here.carried ∙ ap (λ (g : Shape). g.carry) same)
      | inr later ↦ absurd (none_met later.0 later.1)
    ]

    limits_true : AllByRecursion (IsLeftLimit (λ k. 0)) x.shape.limits
    limits_true =
        all_true x.shape.limits
        (ap (λ (g : Shape). map (put_left_con (λ k. Known 0)) g.limits) same
        ∙ ap (λ (g : Shape). g.limits) (ready.decided own own (λ k. Known 0) (λ k. Known 1) (subst (λ rest. map (put_left own (λ k. Known 0)) rest ≡ map (put_left own (λ k. Known 1)) rest) (sym (no_items stage.node.rest whole)) refl))
        ∙ ap (λ (g : Shape). map (put_left_con (λ k. Known 1)) g.limits) (sym same))
        is.tested

    carries : x.before ≡ m.time → (c : Carry) → c ≡ stage.node.carry → IsLedToEnd m.program.now level trace depth m.time x c
    carries last c e = (ended_first m.program.now level trace depth m.time x (no_calls m stage ready x is) c).1 (inl (record {
      whole = none_left;
      limits = limits_true;
      last = last;
      carried = e ∙ ap (λ (g : Shape). g.carry) (sym same);
    }))

  pub ends_now : (old new : Found) → stage.before ≡ m.time → Adds old new (λ o. ⊥) (λ c. c ≡ stage.node.carry) → Leads m stage old new
  ends_now old new now adds level trace x is depth =
      adds_same old new (λ o. ⊥) (IsLedTo m.program.now level trace depth m.time x stage.node.alternative) (λ c. c ≡ stage.node.carry) (IsLedToEnd m.program.now level trace depth m.time x)
      (λ o. (λ f. absurd f, λ led. no_node level trace x is.is depth o led))
      (λ c. (λ e. carries level trace x is.is depth (is.is.before ∙ now) c e, λ led. (carried level trace x is.is depth c led).1))
      adds

  pub ends_before : (found : Found) → (stage.before ≡ m.time → ⊥) → Leads m stage found found
  ends_before found past level trace x is depth =
      adds_none found (IsLedTo m.program.now level trace depth m.time x stage.node.alternative) (IsLedToEnd m.program.now level trace depth m.time x)
      (λ o led. no_node level trace x is.is depth o led) (λ c led. past (sym is.is.before ∙ (carried level trace x is.is depth c led).0))
