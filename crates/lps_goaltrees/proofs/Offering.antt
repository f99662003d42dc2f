-- What a goal proposes, in order and each once.
use Rattle.std.proofs.Common.{ℕ, ◌≡◌, ◌≤◌, ◌<◌, ◌⊎◌, ◌∙◌, List, [], ◌∷◌, ◌++◌, ◌+◌, length, take, drop, get_or, max, map, refl, sym, ap, subst, arith, inl, inr}
use Rattle.std.specs.Prelude.{◌↔◌, Contains}
use Rattle.std.specs.BTreeSet.{insert_key}
use Rattle.std.specs.Cmp.{tied_itself}
use Rattle.std.specs.Cmp.Lexicographic.{lists_total, slice_cmp}
use Rattle.std.specs.FinMap.{IsAntisymmetric, nat_cmp-IsAntisymmetric, slice_cmp-IsAntisymmetric}
use Rattle.std.specs.List.{AllByRecursion}
use Rattle.std.specs.List.Sorted.{IsStrictlySortedBy}
use Rattle.std.specs.Ordering.{match_ordering, nat_cmp, ordering_reverse, ordering_then}
use Rattle.std.specs.declared.cmp.Ordering.{Ordering}
use Rattle.std.specs.declared.cmp.Ordering.TheVariants.{Less, Equal, Greater}
use Rattle.std.proofs.lemmas.List.Elements.{Contains-append_left, Contains-append_right}
use Rattle.lps_terms.specs.declared.atom.Atom.{Atom}
use Rattle.lps_terms.specs.Order.{atom_cmp}
use Rattle.lps_terms.specs.OrderLaws.{atom_cmp-IsAntisymmetric, atom_cmp_total}
use Rattle.lps_terms.specs.declared.text.Text.{Text}
use Rattle.lps_model.specs.declared.cycle.Group.{Group}
use Rattle.lps_model.proofs.Elements.{first_is_contained, first_or_later, later_is_contained, nothing_contained}
use Rattle.lps_meaning.specs.declared.node.Node.{Node}
use Rattle.lps_meaning.specs.Plain.{Ranked, ranked_cmp}
use Rattle.lps_meaning.proofs.Lists.{of_element, of_each}
use Rattle.lps_meaning.proofs.Numbers.{both_equal}
use Rattle.lps_nodes.specs.NextSteps.{IsProposed}
use Rattle.lps_nodes.proofs.Uniqueness.{proposals_unique}
use Rattle.lps_goaltrees.specs.Offers.{AddsGroup, AddsOffer, AreFirsts, AreOffers, AreProposed, IsOfferOf}
use Rattle.lps_goaltrees.specs.OfferOrder.{ranked_cmp_total}
use Rattle.lps_goaltrees.proofs.Growing.{among_next}
use Rattle.lps_goaltrees.proofs.Lists.{among_pushed, drop_next}

-- ---- the order

-- the order tells proposals apart
pub ranked_exact : IsAntisymmetric ranked_cmp
ranked_exact r other e =
    let one = both_equal (nat_cmp r.alternative other.alternative) (ordering_then (slice_cmp nat_cmp r.rank other.rank) (slice_cmp atom_cmp r.group other.group)) e in
    let two = both_equal (slice_cmp nat_cmp r.rank other.rank) (slice_cmp atom_cmp r.group other.group) one.1 in
    let alternative = nat_cmp-IsAntisymmetric r.alternative other.alternative one.0 in
    let of_rank = slice_cmp-IsAntisymmetric nat_cmp-IsAntisymmetric r.rank other.rank two.0 in
    let group = slice_cmp-IsAntisymmetric atom_cmp-IsAntisymmetric r.group other.group two.1 in
    λ i. record { alternative = alternative i; rank = of_rank i; group = group i }

-- ---- sets of proposals

-- one more is among them
pub among_more : (k : Ranked) (xs : List Ranked) (r : Ranked) → Contains (insert_key ranked_cmp xs k) r ↔ (Contains xs r ⊎ (r ≡ k))
among_more k [] r = (
  λ h. elim (first_or_later k [] r h) [
    | inl e ↦ inr (sym e)
    | inr none ↦ absurd (nothing_contained r none)
  ],
  λ h. elim h [
    | inl none ↦ absurd (nothing_contained r none)
    | inr e ↦ subst (λ d. Contains (d ∷ []) r) e (first_is_contained r [])
  ],
)
among_more k (x ∷ xs) r = by (among_more k xs r) (ranked_cmp k x) refl
  where
    by : Contains (insert_key ranked_cmp xs k) r ↔ (Contains xs r ⊎ (r ≡ k)) → (o : Ordering) → ranked_cmp k x ≡ o →
        Contains (match_ordering o (k ∷ x ∷ xs) (x ∷ xs) (x ∷ insert_key ranked_cmp xs k)) r ↔ (Contains (x ∷ xs) r ⊎ (r ≡ k))
    by more Less o = (
      λ h. elim (first_or_later k (x ∷ xs) r h) [
        | inl e ↦ inr (sym e)
        | inr old ↦ inl old
      ],
      λ h. elim h [
        | inl old ↦ later_is_contained k (x ∷ xs) r old
        | inr e ↦ subst (λ d. Contains (d ∷ x ∷ xs) r) e (first_is_contained r (x ∷ xs))
      ],
    )
    by more Equal o = (
      λ h. inl h,
      λ h. elim h [
        | inl old ↦ old
        | inr e ↦ subst (λ d. Contains (d ∷ xs) r) (e ∙ ranked_exact k x o) (first_is_contained r xs)
      ],
    )
    by more Greater o = (
      λ h. elim (first_or_later x (insert_key ranked_cmp xs k) r h) [
        | inl e ↦ inl (subst (λ d. Contains (d ∷ xs) r) (sym e) (first_is_contained r xs))
        | inr old ↦ elim (more.0 old) [
          | inl old ↦ inl (later_is_contained x xs r old)
          | inr e ↦ inr e
        ]
      ],
      λ h. elim h [
        | inl old ↦ elim (first_or_later x xs r old) [
          | inl e ↦ subst (λ d. Contains (d ∷ insert_key ranked_cmp xs k) r) (sym e) (first_is_contained r (insert_key ranked_cmp xs k))
          | inr old ↦ later_is_contained x (insert_key ranked_cmp xs k) r (more.1 (inl old))
        ]
        | inr e ↦ later_is_contained x (insert_key ranked_cmp xs k) r (more.1 (inr e))
      ],
    )

-- ---- what one node proposes

-- what it proposes is added
pub adds_one : (text : Text) (now most : ℕ) (node : Node) (k : Ranked) (old new : List Ranked) → node.done ≡ most → k.alternative ≡ node.alternative → k.rank ≡ node.rank →
    IsProposed text now node k.group → new ≡ insert_key ranked_cmp old k → AddsOffer text now most node old new
adds_one text now most node k old new done alternative of_rank proposed is r = (
  λ h. elim ((among_more k old r).0 (subst (λ rs. Contains rs r) is h)) [
    | inl there ↦ inl there
    | inr e ↦ inr (subst (IsOfferOf text now most node) (sym e) (record { done = done; alternative = sym alternative; of_rank = sym of_rank; proposed = proposed }))
  ],
  λ h. subst (λ rs. Contains rs r) (sym is) ((among_more k old r).1 (elim h [
    | inl there ↦ inl there
    | inr o ↦ inr (same r k (sym o.alternative ∙ sym alternative) (sym o.of_rank ∙ sym of_rank) (proposals_unique text now node r.group k.group o.proposed proposed))
  ])),
)
  where
    same : (r k : Ranked) → r.alternative ≡ k.alternative → r.rank ≡ k.rank → r.group ≡ k.group → r ≡ k
    same r k one two three = λ i. record { alternative = one i; rank = two i; group = three i }

-- where it proposes nothing, nothing is
pub adds_none : (text : Text) (now most : ℕ) (node : Node) (old : List Ranked) → ((r : Ranked) → IsOfferOf text now most node r → ⊥) → AddsOffer text now most node old old
adds_none text now most node old none r = (
  λ h. inl h,
  λ h. elim h [
    | inl there ↦ there
    | inr o ↦ absurd (none r o)
  ],
)

-- ---- what all nodes propose

pub offers_next : (text : Text) (now most : ℕ) (nodes : List Node) (i : ℕ) (node : Node) (old new : List Ranked) → i < length nodes → node ≡ get_or nodes i node →
    AddsOffer text now most node old new → ((r : Ranked) → Contains old r ↔ ((x : Node) × Contains (take i nodes) x × IsOfferOf text now most x r)) →
    (r : Ranked) → Contains new r ↔ ((x : Node) × Contains (take (i + 1) nodes) x × IsOfferOf text now most x r)
offers_next text now most nodes i node old new lt is adds before r =
    let next = among_next (λ x. IsOfferOf text now most x r) nodes i node lt is in (
      λ h. next.0 (elim ((adds r).0 h) [
        | inl there ↦ inl ((before r).0 there)
        | inr o ↦ inr o
      ]),
      λ m. (adds r).1 (elim (next.1 m) [
        | inl there ↦ inl ((before r).1 there)
        | inr o ↦ inr o
      ]),
    )

pub are_offers : (text : Text) (now most : ℕ) (nodes : List Node) (offers : List Ranked) → AllByRecursion (λ node. node.done ≤ most) nodes →
    ((bound : ℕ) → AllByRecursion (λ node. node.done ≤ bound) nodes → most ≤ bound) →
    ((r : Ranked) → Contains offers r ↔ ((node : Node) × Contains nodes node × IsOfferOf text now most node r)) → AreOffers text now nodes offers
are_offers text now most nodes offers above least exact r = (
  λ h. let m = (exact r).0 h in record {
    node = m.0;
    among = m.1;
    most = λ other there. subst (λ n. other.done ≤ n) (sym m.2.done) (of_element (λ (node : Node). node.done ≤ most) nodes other above there);
    alternative = m.2.alternative;
    of_rank = m.2.of_rank;
    proposed = m.2.proposed;
  },
  λ o. (exact r).1 (
    o.node,
    o.among,
    record {
      done = between o.node.done most (of_element (λ (node : Node). node.done ≤ most) nodes o.node above o.among) (least o.node.done (of_each (λ (node : Node). node.done ≤ o.node.done) nodes o.most));
      alternative = o.alternative;
      of_rank = o.of_rank;
      proposed = o.proposed;
    },
  ),
)
  where
    between : (n m : ℕ) → n ≤ m → m ≤ n → n ≡ m
    between n m low high = omega arith

-- what is at least the greatest number of groups done so far
pub most_next : (nodes : List Node) (i : ℕ) (node : Node) (most more bound : ℕ) → i < length nodes → node ≡ get_or nodes i node → more ≡ max most node.done →
    (AllByRecursion (λ (node : Node). node.done ≤ bound) nodes ↔ ((most ≤ bound) × AllByRecursion (λ (node : Node). node.done ≤ bound) (drop i nodes))) →
    AllByRecursion (λ (node : Node). node.done ≤ bound) nodes ↔ ((more ≤ bound) × AllByRecursion (λ (node : Node). node.done ≤ bound) (drop (i + 1) nodes))
most_next nodes i node most more bound lt is greatest all =
    let next = drop_next nodes i node lt is in (
      λ h. let m = all.0 h in
          let left = subst (AllByRecursion (λ (node : Node). node.done ≤ bound)) next m.1 in
          (upto most node.done more bound greatest m.0 left.0, left.1),
      λ m. let parts = from most node.done more bound greatest m.0 in
          all.1 (parts.0, subst (AllByRecursion (λ (node : Node). node.done ≤ bound)) (sym next) (parts.1, m.1)),
    )
  where
    upto : (n m k bound : ℕ) → k ≡ max n m → n ≤ bound → m ≤ bound → k ≤ bound
    upto n m k bound is one two = omega (arith, is)

    from : (n m k bound : ℕ) → k ≡ max n m → k ≤ bound → (n ≤ bound) × (m ≤ bound)
    from n m k bound is le = (omega (arith, is), omega (arith, is))

-- ---- the first places of groups

-- groups are told apart by the order of their atoms
pub same_group : (g h : Group) → slice_cmp atom_cmp g.atoms h.atoms ≡ Equal → g ≡ h
same_group g h e = let atoms = slice_cmp-IsAntisymmetric atom_cmp-IsAntisymmetric g.atoms h.atoms e in λ i. record { atoms = atoms i }

pub other_group : (g h : Group) → (slice_cmp atom_cmp g.atoms h.atoms ≡ Equal → ⊥) → g ≡ h → ⊥
other_group g h differ same = differ (subst (λ (k : Group). slice_cmp atom_cmp g.atoms k.atoms ≡ Equal) same (tied_itself (lists_total atom_cmp_total) g.atoms))

abbrev pub group_of : Ranked → Group
group_of r = record { atoms = r.group }

groups_are : (rs : List Ranked) (r : Ranked) → Contains (map group_of rs) (group_of r) → (s : Ranked) × Contains rs s × (s.group ≡ r.group)
groups_are [] r h = absurd (nothing_contained (group_of r) h)
groups_are (x ∷ rs) r h = elim (first_or_later (group_of x) (map group_of rs) (group_of r) h) [
  | inl e ↦ (x, first_is_contained x rs, ap (λ (g : Group). g.atoms) e)
  | inr more ↦ let m = groups_are rs r more in (m.0, later_is_contained x rs m.0 m.1, m.2)
]

group_there : (rs : List Ranked) (r : Ranked) → Contains rs r → Contains (map group_of rs) (group_of r)
group_there [] r h = absurd (nothing_contained r h)
group_there (x ∷ rs) r h = elim (first_or_later x rs r h) [
  | inl e ↦ subst (λ (y : Ranked). Contains (group_of y ∷ map group_of rs) (group_of r)) (sym e) (first_is_contained (group_of r) (map group_of rs))
  | inr more ↦ later_is_contained (group_of x) (map group_of rs) (group_of r) (group_there rs r more)
]

map_pushed : (rs : List Ranked) (r : Ranked) → map group_of (rs ++ r ∷ []) ≡ map group_of rs ++ group_of r ∷ []
map_pushed [] r = refl
map_pushed (x ∷ rs) r = ap (λ gs. group_of x ∷ gs) (map_pushed rs r)

pub firsts_none : AreFirsts [] []
unfolding IsStrictlySortedBy
firsts_none = record {
  ranked = [];
  told = refl;
  sorted = tt;
  each = λ r h. h;
  once = λ r other h there same. absurd (nothing_contained r h);
  first = λ r h. absurd (nothing_contained r h);
}

-- in a sorted list what stands before an element is less
pub before_less : (xs ys : List Ranked) (r x : Ranked) → IsStrictlySortedBy ranked_cmp (xs ++ r ∷ ys) → Contains xs x → ranked_cmp x r ≡ Less
unfolding IsStrictlySortedBy
before_less [] ys r x sorted h = absurd (nothing_contained x h)
before_less (y ∷ xs) ys r x sorted h = elim (first_or_later y xs x h) [
  | inl e ↦ subst (λ z. ranked_cmp z r ≡ Less) e (of_element (λ z. ranked_cmp y z ≡ Less) (xs ++ r ∷ ys) r sorted.0 (Contains-append_right xs (r ∷ ys) r (first_is_contained r ys)))
  | inr more ↦ before_less xs ys r x sorted.1 more
]

sorted_pushed : (xs : List Ranked) (r : Ranked) → IsStrictlySortedBy ranked_cmp xs → ((x : Ranked) → Contains xs x → ranked_cmp x r ≡ Less) → IsStrictlySortedBy ranked_cmp (xs ++ r ∷ [])
unfolding IsStrictlySortedBy
sorted_pushed [] r sorted below = (tt, tt)
sorted_pushed (x ∷ xs) r sorted below =
    (all_pushed xs sorted.0 (below x (first_is_contained x xs)), sorted_pushed xs r sorted.1 (λ z h. below z (later_is_contained x xs z h)))
  where
    all_pushed : (zs : List Ranked) → AllByRecursion (λ z. ranked_cmp x z ≡ Less) zs → ranked_cmp x r ≡ Less → AllByRecursion (λ z. ranked_cmp x z ≡ Less) (zs ++ r ∷ [])
    all_pushed [] all last = (last, tt)
    all_pushed (z ∷ zs) all last = (all.0, all_pushed zs all.1 last)

not_both : (r s : Ranked) → ranked_cmp s r ≡ Less → ranked_cmp r s ≡ Less → ⊥
not_both r s one two = less_greater (sym two ∙ ranked_cmp_total.antisymm r s ∙ ap ordering_reverse one)
  where
    less_greater : Less ≡ Greater → ⊥
    less_greater e = cc

not_itself : (r : Ranked) → ranked_cmp r r ≡ Less → ⊥
not_itself r one = not_both r r one one

-- the groups of one more, which is greater
pub firsts_next : (xs : List Ranked) (r : Ranked) → ((x : Ranked) → Contains xs x → ranked_cmp x r ≡ Less) → (groups new : List Group) → AddsGroup (group_of r) groups new →
    AreFirsts xs groups → AreFirsts (xs ++ r ∷ []) new
firsts_next xs r less groups new (inl known) was = record {
  ranked = was.ranked;
  told = known.1 ∙ was.told;
  sorted = was.sorted;
  each = λ s h. Contains-append_left xs (r ∷ []) s (was.each s h);
  once = was.once;
  first = λ s h. elim ((among_pushed xs r s).0 h) [
    | inl old ↦ was.first s old
    | inr e ↦
        let m = groups_are was.ranked r (subst (λ gs. Contains gs (group_of r)) was.told known.0) in
        (m.0, m.1, m.2 ∙ ap (λ (q : Ranked). q.group) (sym e), λ sooner. not_both r m.0 (less m.0 (was.each m.0 m.1)) (subst (λ q. ranked_cmp q m.0 ≡ Less) e sooner))
  ];
}
firsts_next xs r less groups new (inr unknown) was = record {
  ranked = was.ranked ++ r ∷ [];
  told = unknown.1 ∙ ap (λ gs. gs ++ group_of r ∷ []) was.told ∙ sym (map_pushed was.ranked r);
  sorted = sorted_pushed was.ranked r was.sorted (λ s h. less s (was.each s h));
  each = λ s h. elim ((among_pushed was.ranked r s).0 h) [
    | inl old ↦ Contains-append_left xs (r ∷ []) s (was.each s old)
    | inr e ↦ (among_pushed xs r s).1 (inr e)
  ];
  once = λ s other h there same. elim ((among_pushed was.ranked r s).0 h) [
    | inl old ↦ elim ((among_pushed was.ranked r other).0 there) [
      | inl older ↦ was.once s other old older same
      | inr e ↦ absurd (new_group s old (same ∙ ap (λ (q : Ranked). q.group) e))
    ]
    | inr e ↦ elim ((among_pushed was.ranked r other).0 there) [
      | inl older ↦ absurd (new_group other older (sym same ∙ ap (λ (q : Ranked). q.group) e))
      | inr f ↦ e ∙ sym f
    ]
  ];
  first = λ s h. elim ((among_pushed xs r s).0 h) [
    | inl old ↦ let m = was.first s old in (m.0, (among_pushed was.ranked r m.0).1 (inl m.1), m.2, m.3)
    | inr e ↦ (r, (among_pushed was.ranked r r).1 (inr refl), ap (λ (q : Ranked). q.group) (sym e), λ sooner. not_itself r (subst (λ q. ranked_cmp q r ≡ Less) e sooner))
  ];
}
  where
    new_group : (s : Ranked) → Contains was.ranked s → s.group ≡ r.group → ⊥
    new_group s h same = unknown.0 (subst (λ gs. Contains gs (group_of r)) (sym was.told)
        (subst (λ (g : List Atom). Contains (map group_of was.ranked) (record { atoms = g })) same (group_there was.ranked s h)))

-- the groups of what nodes propose
pub are_proposed : (text : Text) (now : ℕ) (nodes : List Node) (offers : List Ranked) (groups : List Group) → AreOffers text now nodes offers → AreFirsts offers groups → AreProposed text now nodes groups
are_proposed text now nodes offers groups all firsts = record {
  ranked = firsts.ranked;
  told = firsts.told;
  sorted = firsts.sorted;
  each = λ r h. (all r).0 (firsts.each r h);
  once = firsts.once;
  first = λ r o. firsts.first r ((all r).1 o);
}
