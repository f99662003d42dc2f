-- What is found grows by what is added.
use Rattle.std.proofs.Common.{ℕ, ◌≡◌, ◌≤◌, ◌<◌, ◌+◌, ◌⊎◌, Bool, true, false, not, List, [], ◌∷◌, ◌++◌, ◌∙◌, length, take, refl, sym, ap, subst, arith, inl, inr}
use Rattle.std.specs.Prelude.{◌↔◌, ◌==◌, Contains, get_or}
use Rattle.lps_terms.specs.declared.atom.Atom.{Atom}
use Rattle.lps_terms.specs.declared.text.Text.{Text}
use Rattle.lps_model.specs.Rules.{rules}
use Rattle.lps_model.proofs.Elements.{first_is_contained, first_or_later, later_is_contained, nothing_contained}
use Rattle.lps_meaning.specs.declared.goal.GoalKey.{GoalKey}
use Rattle.lps_meaning.specs.declared.node.Carry.{Carry}
use Rattle.lps_meaning.specs.declared.node.Node.{Node}
use Rattle.lps_meaning.proofs.Splits.{le_or_lt}
use Rattle.std.proofs.lemmas.List.{take_more}
use Rattle.lps_goaltrees.proofs.Lists.{among_pushed, once_pushed}
use Rattle.lps_meaning.proofs.Lists.{number_contained, of_each, of_element}
use Rattle.lps_nodes.specs.Laws.{IsOfText}
use Rattle.lps_nodes.specs.Plans.{EndsWith, Entrance, GoesOnTo, IsAlternativeEntered, IsCutNext, IsCutNow, IsEnded, IsNode}
use Rattle.lps_nodes.proofs.Entrances.{goal_nodes}
use Rattle.lps_residual.specs.Moments.{IsReady}
use Rattle.lps_seq.specs.declared.start.Start.TheVariants as s
use Rattle.lps_seq.specs.declared.stepped.Stepped.{Stepped}
use Rattle.lps_seq.specs.Calls.{IsEntry, IsNext}
use Rattle.lps_seq.specs.Found.{AreGiven, AreOnce}
use Rattle.lps_goaltrees.specs.declared.found.Found.{Found}
use Rattle.lps_goaltrees.specs.Found.{AddsNodes, Grows, GrowsByEntering, GrowsByStepping, HasAlternative}
use Rattle.lps_goaltrees.specs.Pursued.{AreReadyNodes}

-- ---- what grows

-- with the same said in other words
pub grows_as : {old new : Found} {N M : Node → Type 0} {E F : Type 0} → ((o : Node) → N o ↔ M o) → E ↔ F → Grows old new N E → Grows old new M F
grows_as nodes ends h = record {
  nodes = λ o. (
    λ there. elim ((h.nodes o).0 there) [
      | inl old ↦ inl old
      | inr n ↦ inr ((nodes o).0 n)
    ],
    λ m. (h.nodes o).1 (elim m [
      | inl old ↦ inl old
      | inr n ↦ inr ((nodes o).1 n)
    ]),
  );
  once = h.once;
  solved = λ is. elim (h.solved is) [
    | inl old ↦ inl old
    | inr e ↦ inr (ends.0 e)
  ];
  unsolved = λ is. let u = h.unsolved is in (u.0, λ f. u.1 (ends.1 f));
}

-- a node that is there adds nothing
pub adds_old : (old : List Node) (node : Node) → Contains old node → AddsNodes old old (node ∷ [])
adds_old old node there = record {
  among = λ o. (
    λ h. inl h,
    λ h. elim h [
      | inl before ↦ before
      | inr one ↦ elim (first_or_later node [] o one) [
        | inl e ↦ subst (Contains old) e there
        | inr none ↦ absurd (nothing_contained o none)
      ]
    ],
  );
  once = λ once. once;
}

-- a new one is added
pub adds_pushed : (old : List Node) (node : Node) → (Contains old node → ⊥) → AddsNodes old (old ++ node ∷ []) (node ∷ [])
adds_pushed old node new = record {
  among = λ o. (
    λ h. elim ((among_pushed old node o).0 h) [
      | inl before ↦ inl before
      | inr e ↦ inr (subst (λ x. Contains (x ∷ []) o) e (first_is_contained o []))
    ],
    λ h. (among_pushed old node o).1 (elim h [
      | inl before ↦ inl before
      | inr one ↦ elim (first_or_later node [] o one) [
        | inl e ↦ inr (sym e)
        | inr none ↦ absurd (nothing_contained o none)
      ]
    ]),
  );
  once = once_pushed old node new;
}

-- one that is taken from those that are left is found
pub adds_next : (found more left rest : List Node) (node : Node) (All : Node → Type 0) → left ≡ node ∷ rest → AddsNodes found more (node ∷ []) →
    ((o : Node) → (Contains found o ⊎ Contains left o) ↔ All o) → (o : Node) → (Contains more o ⊎ Contains rest o) ↔ All o
adds_next found more left rest node All next adds all o = (
  λ h. (all o).0 (elim h [
    | inl there ↦ elim ((adds.among o).0 there) [
      | inl before ↦ inl before
      | inr one ↦ elim (first_or_later node [] o one) [
        | inl e ↦ inr (subst (λ xs. Contains xs o) (sym next) (subst (λ x. Contains (x ∷ rest) o) (sym e) (first_is_contained o rest)))
        | inr none ↦ absurd (nothing_contained o none)
      ]
    ]
    | inr later ↦ inr (subst (λ xs. Contains xs o) (sym next) (later_is_contained node rest o later))
  ]),
  λ a. elim ((all o).1 a) [
    | inl before ↦ inl ((adds.among o).1 (inl before))
    | inr one ↦ elim (first_or_later node rest o (subst (λ xs. Contains xs o) next one)) [
      | inl e ↦ inl ((adds.among o).1 (inr (subst (λ x. Contains (x ∷ []) o) (sym e) (first_is_contained o []))))
      | inr later ↦ inr later
    ]
  ],
)

pub adds_all : (found left old more : List Node) → length left ≡ 0 → ((o : Node) → (Contains found o ⊎ Contains left o) ↔ (Contains old o ⊎ Contains more o)) →
    (AreOnce old → AreOnce found) → AddsNodes old found more
adds_all found [] old more none all once = record {
  among = λ o. (
    λ h. (all o).0 (inl h),
    λ h. elim ((all o).1 h) [
      | inl there ↦ there
      | inr none ↦ absurd (nothing_contained o none)
    ],
  );
  once = once;
}
adds_all found (x ∷ left) old more none all once = absurd (omega (arith, none))

-- there is an element where a list is not empty
pub some_there : {X : Type 0} (xs : List X) (r : Bool) → r ≡ (length xs == 0) → not r ≡ true → (x : X) × Contains xs x
some_there [] r is so = absurd (not_so (ap not is ∙ refl) so)
  where
    not_so : not r ≡ false → not r ≡ true → ⊥
    not_so one two = cc
some_there (x ∷ xs) r is so = (x, first_is_contained x xs)

-- nodes are added, and whether something ended
pub grows_by : {X : Type 0} (old new : Found) (more : List Node) (ended seen : List X) → seen ≡ ended → AddsNodes old.nodes.items new.nodes.items more →
    (new.solved ≡ true → (old.solved ≡ true) ⊎ ((x : X) × Contains seen x)) → (new.solved ≡ false → (old.solved ≡ false) × (((x : X) × Contains seen x) → ⊥)) →
    Grows old new (Contains more) ((x : X) × Contains ended x)
grows_by {X} old new more ended seen same adds so not_so = record {
  nodes = adds.among;
  once = adds.once;
  solved = subst (λ xs. new.solved ≡ true → (old.solved ≡ true) ⊎ ((x : X) × Contains xs x)) same so;
  unsolved = subst (λ xs. new.solved ≡ false → (old.solved ≡ false) × (((x : X) × Contains xs x) → ⊥)) same not_so;
}

-- nothing is added
pub grows_not : (found : Found) → Grows found found (λ o. ⊥) ⊥
grows_not found = record {
  nodes = λ o. (
    λ h. inl h,
    λ h. elim h [
      | inl old ↦ old
      | inr none ↦ absurd none
    ],
  );
  once = λ once. once;
  solved = λ is. inl is;
  unsolved = λ is. (is, λ none. none);
}

-- one after the other
pub grows_then : {a b c : Found} {N M : Node → Type 0} {E F : Type 0} → Grows a b N E → Grows b c M F → Grows a c (λ o. N o ⊎ M o) (E ⊎ F)
grows_then one two = record {
  nodes = λ o. (
    λ there. elim ((two.nodes o).0 there) [
      | inl old ↦ elim ((one.nodes o).0 old) [
        | inl older ↦ inl older
        | inr n ↦ inr (inl n)
      ]
      | inr m ↦ inr (inr m)
    ],
    λ h. elim h [
      | inl older ↦ (two.nodes o).1 (inl ((one.nodes o).1 (inl older)))
      | inr (inl n) ↦ (two.nodes o).1 (inl ((one.nodes o).1 (inr n)))
      | inr (inr m) ↦ (two.nodes o).1 (inr m)
    ],
  );
  once = λ once. two.once (one.once once);
  solved = λ is. elim (two.solved is) [
    | inl old ↦ elim (one.solved old) [
      | inl older ↦ inl older
      | inr e ↦ inr (inl e)
    ]
    | inr f ↦ inr (inr f)
  ];
  unsolved = λ is. let u = two.unsolved is in let v = one.unsolved u.0 in (
    v.0,
    λ h. elim h [
      | inl e ↦ v.1 e
      | inr f ↦ u.1 f
    ],
  );
}

-- ---- steps of loops

-- what holds of a number below the next one holds of one below this, or of this
pub below_next : (P : ℕ → Type 0) (n : ℕ) → (((k : ℕ) × (k < n) × P k) ⊎ P n) ↔ ((k : ℕ) × (k < n + 1) × P k)
below_next P n = (
  λ h. elim h [
    | inl m ↦ (m.0, less_more m.0 n m.1, m.2)
    | inr here ↦ (n, less_next n, here)
  ],
  λ m. elim (le_or_lt n m.0) [
    | inl le ↦ inr (subst P (last m.0 n m.1 le) m.2)
    | inr lt ↦ inl (m.0, lt, m.2)
  ],
)
  where
    less_more : (k n : ℕ) → k < n → k < n + 1
    less_more k n lt = omega arith

    less_next : (n : ℕ) → n < n + 1
    less_next n = omega arith

    last : (k n : ℕ) → k < n + 1 → n ≤ k → k ≡ n
    last k n lt le = omega arith

among_pushed_or : {X : Type 0} (P : X → Type 0) (xs : List X) (x : X) → (((y : X) × Contains xs y × P y) ⊎ P x) ↔ ((y : X) × Contains (xs ++ x ∷ []) y × P y)
among_pushed_or P xs x = (
  λ h. elim h [
    | inl m ↦ (m.0, (among_pushed xs x m.0).1 (inl m.1), m.2)
    | inr here ↦ (x, (among_pushed xs x x).1 (inr refl), here)
  ],
  λ m. elim ((among_pushed xs x m.0).0 m.1) [
    | inl old ↦ inl (m.0, old, m.2)
    | inr e ↦ inr (subst P e m.2)
  ],
)

-- the same of the first elements of a list
pub among_next : {X : Type 0} (P : X → Type 0) (xs : List X) (i : ℕ) (x : X) → i < length xs → x ≡ get_or xs i x →
    (((y : X) × Contains (take i xs) y × P y) ⊎ P x) ↔ ((y : X) × Contains (take (i + 1) xs) y × P y)
among_next {X} P xs i x lt is =
    subst (λ ys. (((y : X) × Contains (take i xs) y × P y) ⊎ P x) ↔ ((y : X) × Contains ys y × P y))
    (sym (take_more xs i x lt ∙ ap (λ z. take i xs ++ z ∷ []) (sym is))) (among_pushed_or P (take i xs) x)

-- ---- what is added

pub entered_since : (text : Text) (key : GoalKey) (number : ℕ) (e : Entrance) → IsAlternativeEntered text key number e → e.since ≡ key.time
entered_since text key number e entered = ap (λ (e : Entrance). e.since) entered.entered

pub entered_of_text : (text : Text) (key : GoalKey) (number : ℕ) (e : Entrance) → IsAlternativeEntered text key number e → IsOfText text e.sequence
entered_of_text text key number e entered =
    subst (λ (e : Entrance). IsOfText text e.sequence) (sym entered.entered) (
      entered.rule,
      number_contained (rules text) key.rule entered.rule entered.of_text,
      inr (entered.items, number_contained entered.rule.alternatives number entered.items entered.of_rule, refl),
    )

-- what an alternative is entered with
pub entered_grows : (text : Text) (depth : ℕ) (key : GoalKey) (number : ℕ) (facts : List Atom) (stepped : Stepped) (old new : Found) → HasAlternative text key number →
    IsEntry text depth (s.Alternative key number) key.time facts stepped → Grows old new (Contains stepped.nodes.items) ((c : Carry) × Contains stepped.ended.items c) →
    GrowsByEntering text depth key number facts old new
entered_grows text depth key number facts stepped old new there entry grows level levels trace state =
    grows_as
    (λ o. (
      λ h. (there.0, there.1, ((given there.0 there.1).nodes.exact o).0 h),
      λ m. ((given m.0 m.1).nodes.exact o).1 m.2,
    )) (
      λ c. (there.0, there.1, c.0, ((given there.0 there.1).exact c.0).0 c.1),
      λ m. (m.2, ((given m.0 m.1).exact m.2).1 m.3),
    )
    grows
  where
    given : (e : Entrance) → IsAlternativeEntered text key number e →
        AreGiven (IsNode text level trace depth e key.time) (IsEnded text level trace depth e key.time) (IsCutNow text level trace depth e key.time) stepped
    given e entered = entry level levels trace e entered state

-- what a node leads to
pub stepped_grows : (text : Text) (depth : ℕ) (node : Node) (time : ℕ) (facts events : List Atom) (stepped : Stepped) (old new : Found) →
    IsNext text depth node time facts events stepped → Grows old new (Contains stepped.nodes.items) ((c : Carry) × Contains stepped.ended.items c) →
    GrowsByStepping text depth node time facts events old new
stepped_grows text depth node time facts events stepped old new next grows level levels trace state happened key now is after goal_node =
    let m = (goal_nodes text level trace depth key now node).0 goal_node in
    grows_as
    (λ o. (
      λ h. (m.0, m.1, m.2, m.3, ((given m.0 m.1 m.2 m.3).nodes.exact o).0 h),
      λ n. ((given n.0 n.1 n.2 n.3).nodes.exact o).1 n.4,
    )) (
      λ c. (m.0, m.1, m.2, m.3, c.0, ((given m.0 m.1 m.2 m.3).exact c.0).0 c.1),
      λ n. (n.4, ((given n.0 n.1 n.2 n.3).exact n.4).1 n.5),
    )
    grows
  where
    given : (number : ℕ) (e : Entrance) → IsAlternativeEntered text key number e → IsNode text level trace depth e now node →
        AreGiven (GoesOnTo text level trace depth e now node) (EndsWith text level trace depth e now node) (IsCutNext text level trace depth e now node) stepped
    given number e entered left =
        next level levels trace e (entered_of_text text key number e entered) now is (subst (λ n. n ≤ now) (sym (entered_since text key number e entered)) after) left state happened

-- the nodes added are ready
pub grown_ready : (text : Text) (old new more : List Node) → ((o : Node) → Contains new o ↔ (Contains old o ⊎ Contains more o)) → AreReadyNodes text old → AreReadyNodes text more →
    AreReadyNodes text new
grown_ready text old new more among was ready = of_each (IsReady text) new (λ o h. elim ((among o).0 h) [
  | inl old_one ↦ of_element (IsReady text) old o was old_one
  | inr one ↦ of_element (IsReady text) more o ready one
])
