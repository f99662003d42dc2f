-- The terms and times of shapes: what is put in for those that occur decides the shape.
use Rattle.std.proofs.Common.{ℕ, ◌≡◌, List, [], ◌∷◌, ◌++◌, map, refl, sym, ap, subst, ◌∙◌, append_assoc}
use Rattle.std.specs.List.{AllByRecursion, flat_map}
use Rattle.std.proofs.lemmas.Grind.{flat_map-append}
use Rattle.std.proofs.lemmas.List.{map-append}
use Rattle.lps_terms.specs.declared.term.Term.{Term}
use Rattle.lps_terms.specs.Put.{put}
use Rattle.lps_model.specs.VariableLists.{term_vars, args_vars}
use Rattle.lps_meaning.specs.declared.node.Left.{Left}
use Rattle.lps_meaning.specs.declared.node.LeftCon.{LeftCon}
use Rattle.lps_meaning.specs.declared.node.LeftItem.{LeftItem}
use Rattle.lps_meaning.specs.declared.node.LeftItem.TheVariants as l
use Rattle.lps_meaning.specs.declared.when.When.{When}
use Rattle.lps_meaning.specs.declared.when.When.TheVariants.{Known, Unknown}
use Rattle.lps_nodes.specs.Shapes.{Shape, put_when, put_left_item, put_left, put_left_con, put_shape, unknowns, left_vars, left_unknowns, shape_vars, shape_unknowns}
use Rattle.lps_meaning.proofs.Occurrences.{all_front, all_behind, all_joined, same_puts, same_lit, same_atom, same_built, same_args, args_put_vars, built_terms, built_terms_put, built_terms_vars}

-- ---- times

module _ (w x : ℕ → When) where
  same_when : (time : When) → AllByRecursion (λ k. w k ≡ x k) (unknowns time) → put_when w time ≡ put_when x time
  same_when (Known n) h = refl
  same_when (Unknown k) h = h.0

  same_whens : (times : List When) → AllByRecursion (λ k. w k ≡ x k) (flat_map unknowns times) → map (put_when w) times ≡ map (put_when x) times
  same_whens [] h = refl
  same_whens (time ∷ times) h =
      λ i. same_when time (all_front (λ k. w k ≡ x k) (unknowns time) (flat_map unknowns times) h) i
      ∷ same_whens times (all_behind (λ k. w k ≡ x k) (unknowns time) (flat_map unknowns times) h) i

  abbrev head_when : List When → When
  head_when [] = Known 0
  head_when (y ∷ ys) = y

  abbrev tail_whens : List When → List When
  tail_whens [] = []
  tail_whens (y ∷ ys) = ys

  same_unknown : (time : When) → put_when w time ≡ put_when x time → AllByRecursion (λ k. w k ≡ x k) (unknowns time)
  same_unknown (Known n) e = tt
  same_unknown (Unknown k) e = (e, tt)

  same_unknowns : (times : List When) → map (put_when w) times ≡ map (put_when x) times → AllByRecursion (λ k. w k ≡ x k) (flat_map unknowns times)
  same_unknowns [] e = tt
  same_unknowns (time ∷ times) e =
      all_joined (λ k. w k ≡ x k) (unknowns time) (flat_map unknowns times) (same_unknown time (ap head_when e)) (same_unknowns times (ap tail_whens e))

append_nil : (vs : List ℕ) → vs ++ [] ≡ vs
append_nil [] = refl
append_nil (v ∷ vs) = ap (λ ws. v ∷ ws) (append_nil vs)

put_unknowns : (w : ℕ → When) (times : List When) → flat_map unknowns (map (put_when w) times) ≡ flat_map (λ k. unknowns (w k)) (flat_map unknowns times)
put_unknowns w [] = refl
put_unknowns w (Known n ∷ times) = put_unknowns w times
put_unknowns w (Unknown k ∷ times) = ap (λ ks. unknowns (w k) ++ ks) (put_unknowns w times)

own_when : (time : When) → put_when (λ k. Unknown k) time ≡ time
own_when (Known n) = refl
own_when (Unknown k) = refl

-- ---- terms and times of what is left

abbrev pub left_terms : LeftItem → List Term
left_terms (l.At lit time) = lit.atom.args
left_terms (l.Bare lit) = lit.atom.args
left_terms (l.Built built) = built_terms built
left_terms (l.Span a from to) = a.args

abbrev pub left_whens : LeftItem → List When
left_whens (l.At lit time) = time ∷ []
left_whens (l.Span a from to) = from ∷ to ∷ []
left_whens _ = []

abbrev pub con_whens : LeftCon → List When
con_whens con = con.left ∷ con.right ∷ []

abbrev pub rest_terms : List Left → List Term
rest_terms rest = flat_map (λ left. left_terms left.item) rest

abbrev pub rest_whens : List Left → List When
rest_whens rest = flat_map (λ left. left_whens left.item) rest

abbrev pub limit_whens : List LeftCon → List When
limit_whens limits = flat_map con_whens limits

abbrev pub shape_terms : Shape → List Term
shape_terms g = g.carry.values ++ rest_terms g.rest

abbrev pub shape_whens : Shape → List When
shape_whens g = g.carry.times ++ rest_whens g.rest ++ limit_whens g.limits

-- ---- what is put in

module _ (s : ℕ → Term) (w : ℕ → When) where
  item_terms_put : (item : LeftItem) → left_terms (put_left_item s w item) ≡ map (put s) (left_terms item)
  item_terms_put (l.At lit time) = refl
  item_terms_put (l.Bare lit) = refl
  item_terms_put (l.Built built) = built_terms_put s built
  item_terms_put (l.Span a from to) = refl

  item_whens_put : (item : LeftItem) → left_whens (put_left_item s w item) ≡ map (put_when w) (left_whens item)
  item_whens_put (l.At lit time) = refl
  item_whens_put (l.Bare lit) = refl
  item_whens_put (l.Built built) = refl
  item_whens_put (l.Span a from to) = refl

  rest_terms_put : (rest : List Left) → rest_terms (map (put_left s w) rest) ≡ map (put s) (rest_terms rest)
  rest_terms_put [] = refl
  rest_terms_put (left ∷ rest) = (λ i. item_terms_put left.item i ++ rest_terms_put rest i) ∙ sym (map-append (put s) (left_terms left.item) (rest_terms rest))

  rest_whens_put : (rest : List Left) → rest_whens (map (put_left s w) rest) ≡ map (put_when w) (rest_whens rest)
  rest_whens_put [] = refl
  rest_whens_put (left ∷ rest) = (λ i. item_whens_put left.item i ++ rest_whens_put rest i) ∙ sym (map-append (put_when w) (left_whens left.item) (rest_whens rest))

  limit_whens_put : (limits : List LeftCon) → limit_whens (map (put_left_con w) limits) ≡ map (put_when w) (limit_whens limits)
  limit_whens_put [] = refl
  limit_whens_put (con ∷ limits) = ap (λ ks. put_when w con.left ∷ put_when w con.right ∷ ks) (limit_whens_put limits)

  pub shape_terms_put : (g : Shape) → shape_terms (put_shape s w g) ≡ map (put s) (shape_terms g)
  shape_terms_put g = ap (λ ts. map (put s) g.carry.values ++ ts) (rest_terms_put g.rest) ∙ sym (map-append (put s) g.carry.values (rest_terms g.rest))

  pub shape_whens_put : (g : Shape) → shape_whens (put_shape s w g) ≡ map (put_when w) (shape_whens g)
  shape_whens_put g =
      (λ i. (map (put_when w) g.carry.times ++ rest_whens_put g.rest i) ++ limit_whens_put g.limits i)
      ∙ ap (λ ks. ks ++ map (put_when w) (limit_whens g.limits)) (sym (map-append (put_when w) g.carry.times (rest_whens g.rest)))
      ∙ sym (map-append (put_when w) (g.carry.times ++ rest_whens g.rest) (limit_whens g.limits))

-- ---- variables and unknown times are those of terms and times

item_vars_are : (item : LeftItem) → left_vars item ≡ args_vars (left_terms item)
item_vars_are (l.At lit time) = refl
item_vars_are (l.Bare lit) = refl
item_vars_are (l.Built built) = built_terms_vars built
item_vars_are (l.Span a from to) = refl

item_unknowns_are : (item : LeftItem) → left_unknowns item ≡ flat_map unknowns (left_whens item)
item_unknowns_are (l.At lit time) = sym (append_nil (unknowns time))
item_unknowns_are (l.Bare lit) = refl
item_unknowns_are (l.Built built) = refl
item_unknowns_are (l.Span a from to) = ap (λ ks. unknowns from ++ ks) (sym (append_nil (unknowns to)))

rest_vars_are : (rest : List Left) → flat_map (λ left. left_vars left.item) rest ≡ args_vars (rest_terms rest)
rest_vars_are [] = refl
rest_vars_are (left ∷ rest) = (λ i. item_vars_are left.item i ++ rest_vars_are rest i) ∙ sym (flat_map-append term_vars (left_terms left.item) (rest_terms rest))

rest_unknowns_are : (rest : List Left) → flat_map (λ left. left_unknowns left.item) rest ≡ flat_map unknowns (rest_whens rest)
rest_unknowns_are [] = refl
rest_unknowns_are (left ∷ rest) =
    (λ i. item_unknowns_are left.item i ++ rest_unknowns_are rest i) ∙ sym (flat_map-append unknowns (left_whens left.item) (rest_whens rest))

limit_unknowns_are : (limits : List LeftCon) → flat_map (λ con. unknowns con.left ++ unknowns con.right) limits ≡ flat_map unknowns (limit_whens limits)
limit_unknowns_are [] = refl
limit_unknowns_are (con ∷ limits) =
    append_assoc (unknowns con.left) (unknowns con.right) (flat_map (λ c. unknowns c.left ++ unknowns c.right) limits)
    ∙ ap (λ ks. unknowns con.left ++ (unknowns con.right ++ ks)) (limit_unknowns_are limits)

pub shape_vars_are : (g : Shape) → shape_vars g ≡ args_vars (shape_terms g)
shape_vars_are g = ap (λ vs. args_vars g.carry.values ++ vs) (rest_vars_are g.rest) ∙ sym (flat_map-append term_vars g.carry.values (rest_terms g.rest))

pub shape_unknowns_are : (g : Shape) → shape_unknowns g ≡ flat_map unknowns (shape_whens g)
shape_unknowns_are g =
    (λ i. (flat_map unknowns g.carry.times ++ rest_unknowns_are g.rest i) ++ limit_unknowns_are g.limits i)
    ∙ ap (λ ks. ks ++ flat_map unknowns (limit_whens g.limits)) (sym (flat_map-append unknowns g.carry.times (rest_whens g.rest)))
    ∙ sym (flat_map-append unknowns (g.carry.times ++ rest_whens g.rest) (limit_whens g.limits))

-- ---- what is put in for what occurs decides the shape

module _ (s r : ℕ → Term) (w x : ℕ → When) where
  pub same_item : (item : LeftItem) → AllByRecursion (λ v. s v ≡ r v) (left_vars item) → AllByRecursion (λ k. w k ≡ x k) (left_unknowns item) →
      put_left_item s w item ≡ put_left_item r x item
  same_item (l.At lit time) h k = let a = same_lit s r lit h in let b = same_when w x time k in λ i. l.At (a i) (b i)
  same_item (l.Bare lit) h k = ap (λ y. l.Bare y) (same_lit s r lit h)
  same_item (l.Built built) h k = ap (λ y. l.Built y) (same_built s r built h)
  same_item (l.Span a from to) h k =
      let y = same_atom s r a h in
      let b = same_when w x from (all_front (λ j. w j ≡ x j) (unknowns from) (unknowns to) k) in
      let e = same_when w x to (all_behind (λ j. w j ≡ x j) (unknowns from) (unknowns to) k) in
      λ i. l.Span (y i) (b i) (e i)

  same_rest : (rest : List Left) → AllByRecursion (λ v. s v ≡ r v) (flat_map (λ left. left_vars left.item) rest) →
      AllByRecursion (λ k. w k ≡ x k) (flat_map (λ left. left_unknowns left.item) rest) → map (put_left s w) rest ≡ map (put_left r x) rest
  same_rest [] h k = refl
  same_rest (left ∷ rest) h k =
      let here = same_item left.item (all_front (λ v. s v ≡ r v) (left_vars left.item) _ h) (all_front (λ j. w j ≡ x j) (left_unknowns left.item) _ k) in
      let more = same_rest rest (all_behind (λ v. s v ≡ r v) (left_vars left.item) _ h) (all_behind (λ j. w j ≡ x j) (left_unknowns left.item) _ k) in
      λ i. record { item = here i; nest = left.nest } ∷ more i

  same_limits : (limits : List LeftCon) → AllByRecursion (λ k. w k ≡ x k) (flat_map (λ con. unknowns con.left ++ unknowns con.right) limits) →
      map (put_left_con w) limits ≡ map (put_left_con x) limits
  same_limits [] k = refl
  same_limits (con ∷ limits) k =
      let here = all_front (λ j. w j ≡ x j) (unknowns con.left ++ unknowns con.right) _ k in
      let left = same_when w x con.left (all_front (λ j. w j ≡ x j) (unknowns con.left) (unknowns con.right) here) in
      let right = same_when w x con.right (all_behind (λ j. w j ≡ x j) (unknowns con.left) (unknowns con.right) here) in
      let more = same_limits limits (all_behind (λ j. w j ≡ x j) (unknowns con.left ++ unknowns con.right) _ k) in
      λ i. record { left = left i; rel = con.rel; right = right i; plus = con.plus } ∷ more i

  pub same_shape : (g : Shape) → AllByRecursion (λ v. s v ≡ r v) (shape_vars g) → AllByRecursion (λ k. w k ≡ x k) (shape_unknowns g) → put_shape s w g ≡ put_shape r x g
  same_shape g h k =
      let values = same_puts s r g.carry.values (all_front (λ v. s v ≡ r v) (args_vars g.carry.values) _ h) in
      let of_times : List ℕ = flat_map unknowns g.carry.times in
      let of_rest : List ℕ = flat_map (λ left. left_unknowns left.item) g.rest in
      let of_limits : List ℕ = flat_map (λ con. unknowns con.left ++ unknowns con.right) g.limits in
      let front = all_front (λ j. w j ≡ x j) (of_times ++ of_rest) of_limits k in
      let times = same_whens w x g.carry.times (all_front (λ j. w j ≡ x j) of_times of_rest front) in
      let rest = same_rest g.rest (all_behind (λ v. s v ≡ r v) (args_vars g.carry.values) _ h) (all_behind (λ j. w j ≡ x j) of_times of_rest front) in
      let limits = same_limits g.limits (all_behind (λ j. w j ≡ x j) (of_times ++ of_rest) of_limits k) in
      λ i. record { carry = record { values = values i; times = times i }; rest = rest i; limits = limits i }

  -- and the other way round
  pub item_same_vars : (item : LeftItem) → put_left_item s w item ≡ put_left_item r x item → AllByRecursion (λ v. s v ≡ r v) (left_vars item)
  item_same_vars item e = subst (AllByRecursion (λ v. s v ≡ r v)) (sym (item_vars_are item))
      (same_args s r (left_terms item) (sym (item_terms_put s w item) ∙ ap left_terms e ∙ item_terms_put r x item))

  pub item_same_unknowns : (item : LeftItem) → put_left_item s w item ≡ put_left_item r x item → AllByRecursion (λ k. w k ≡ x k) (left_unknowns item)
  item_same_unknowns item e = subst (AllByRecursion (λ k. w k ≡ x k)) (sym (item_unknowns_are item))
      (same_unknowns w x (left_whens item) (sym (item_whens_put s w item) ∙ ap left_whens e ∙ item_whens_put r x item))

  pub shape_same_vars : (g : Shape) → put_shape s w g ≡ put_shape r x g → AllByRecursion (λ v. s v ≡ r v) (shape_vars g)
  shape_same_vars g e = subst (AllByRecursion (λ v. s v ≡ r v)) (sym (shape_vars_are g))
      (same_args s r (shape_terms g) (sym (shape_terms_put s w g) ∙ ap shape_terms e ∙ shape_terms_put r x g))

  pub shape_same_unknowns : (g : Shape) → put_shape s w g ≡ put_shape r x g → AllByRecursion (λ k. w k ≡ x k) (shape_unknowns g)
  shape_same_unknowns g e = subst (AllByRecursion (λ k. w k ≡ x k)) (sym (shape_unknowns_are g))
      (same_unknowns w x (shape_whens g) (sym (shape_whens_put s w g) ∙ ap shape_whens e ∙ shape_whens_put r x g))

-- the variables and unknown times of what comes out
pub vars_of_put : (s : ℕ → Term) (w : ℕ → When) (g : Shape) → shape_vars (put_shape s w g) ≡ flat_map (λ v. term_vars (s v)) (shape_vars g)
vars_of_put s w g =
    shape_vars_are (put_shape s w g) ∙ ap args_vars (shape_terms_put s w g) ∙ args_put_vars s (shape_terms g) ∙ sym (ap (flat_map (λ v. term_vars (s v))) (shape_vars_are g))

pub unknowns_of_put : (s : ℕ → Term) (w : ℕ → When) (g : Shape) → shape_unknowns (put_shape s w g) ≡ flat_map (λ k. unknowns (w k)) (shape_unknowns g)
unknowns_of_put s w g =
    shape_unknowns_are (put_shape s w g) ∙ ap (flat_map unknowns) (shape_whens_put s w g) ∙ put_unknowns w (shape_whens g)
    ∙ sym (ap (flat_map (λ k. unknowns (w k))) (shape_unknowns_are g))
