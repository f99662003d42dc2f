-- Calls that are added to edges.
use Rattle.std.proofs.Common.{◌≡◌, ℕ, ◌+◌, ◌<◌, ◌≤◌, Bool, true, false, cond, ◌||◌, List, [], ◌∷◌, ◌++◌, flat_map, length, get_or, drop, take, Some, None, not, position, refl, sym, ap, subst, ◌∙◌}
use Rattle.std.proofs.lemmas.List.{append-nil, append_assoc, drop_all, drop_more, map-append, take_more}
use Rattle.std.proofs.lemmas.List.Concat.{flat_map-append}
use Rattle.std.proofs.lemmas.List.Elements.{All-append, All-cons, All-nil}
use Rattle.lps_terms.specs.declared.atom.Atom.{Atom}
use Rattle.lps_terms.specs.declared.decl.Decl.{Decl}
use Rattle.lps_terms.specs.declared.item.Item.{Item}
use Rattle.std.specs.Str.{bytes_eq}
use Rattle.lps_model.specs.Declarations.{kind_among}
use Rattle.lps_levels.specs.Names.{AreCalledNames}
use Rattle.lps_levels.proofs.Numbers.{has_no_number, has_number, number_is_called}
use Rattle.lps_model.specs.Calls.{Call, call_in_item, call_of, descends, is_called, calls_in_items, is_in_group}
use Rattle.lps_levels.specs.declared.edge.Edge.{Edge}
use Rattle.lps_levels.specs.Graphs.{AreAdded, AreWithin, IsWithin, call_by, calls_by}

pub added_none : (names : List (List ℕ)) (edges : List Edge) → AreAdded names edges edges []
added_none names edges = record { named = sym (append-nil (calls_by names edges)); within = λ h. h }

pub added_then : (names : List (List ℕ)) (one two three : List Edge) (xs ys : List Call) → AreAdded names one two xs → AreAdded names two three ys → AreAdded names one three (xs ++ ys)
added_then names one two three xs ys a b = record {
  named = b.named ∙ ap (λ zs. zs ++ ys) a.named ∙ append_assoc (calls_by names one) xs ys;
  within = λ h. b.within (a.within h);
}

pub added_one : (names : List (List ℕ)) (old new : List Edge) (edge : Edge) (call : Call) → new ≡ old ++ edge ∷ [] → call_by names edge ≡ call → IsWithin (length names) edge → AreAdded names old new (call ∷ [])
added_one names old new edge call is same within = record {
  named = ap (calls_by names) is ∙ map-append (call_by names) old (edge ∷ []) ∙ ap (λ c. calls_by names old ++ c ∷ []) same;
  within = λ h. subst (AreWithin names) (sym is) (All-append (IsWithin (length names)) old (edge ∷ []) h (All-cons (IsWithin (length names)) edge [] within (All-nil (IsWithin (length names)))));
}

flat_map_more : {X Y : Type 0} (f : X → List Y) (xs : List X) (count : ℕ) (default : X) → count < length xs → flat_map f (take (count + 1) xs) ≡ flat_map f (take count xs) ++ f (get_or xs count default)
flat_map_more f xs count default lt =
    ap (flat_map f) (take_more xs count default lt) ∙ flat_map-append f (take count xs) (get_or xs count default ∷ []) ∙ ap (λ ys. flat_map f (take count xs) ++ ys) (append-nil (f (get_or xs count default)))

-- one element more of a list whose calls are added in order
pub added_more : {X : Type 0} (f : X → List Call) (names : List (List ℕ)) (start now next : List Edge) (xs : List X) (count : ℕ) (x : X) → count < length xs → x ≡ get_or xs count x
    → AreAdded names start now (flat_map f (take count xs)) → AreAdded names now next (f x) → AreAdded names start next (flat_map f (take (count + 1) xs))
added_more f names start now next xs count x lt is a b =
    subst (AreAdded names start next) (sym (flat_map_more f xs count x lt ∙ ap (λ y. flat_map f (take count xs) ++ f y) (sym is))) (added_then names start now next _ _ a b)

-- the items so far have added calls that those of the items left make the calls of all
pub record AreAddedBefore (names : List (List ℕ)) (start now : List Edge) (decls : List Decl) (head : Atom) (guarded : Bool) (left : List Item) (all : List Call) : Type 0 where
  pub seen : List Call
  pub added : AreAdded names start now seen
  pub rest : seen ++ calls_in_items decls head guarded left ≡ all

pub items_none : (names : List (List ℕ)) (edges : List Edge) (decls : List Decl) (head : Atom) (items : List Item) → AreAddedBefore names edges edges decls head false items (calls_in_items decls head false items)
items_none names edges decls head items = record { seen = []; added = added_none names edges; rest = refl }

pub items_more : (names : List (List ℕ)) (start now next : List Edge) (decls : List Decl) (head : Atom) (guarded after : Bool) (items : List Item) (count : ℕ) (item : Item) (all : List Call) → count < length items → item ≡ get_or items count item
    → after ≡ (guarded || is_in_group decls item) → AreAdded names now next (call_in_item decls head guarded item) → AreAddedBefore names start now decls head guarded (drop count items) all
    → AreAddedBefore names start next decls head after (drop (count + 1) items) all
items_more names start now next decls head guarded after items count item all lt at is b a = record {
  seen = a.seen ++ call_in_item decls head guarded item;
  added = added_then names start now next a.seen _ a.added b;
  rest = append_assoc a.seen (call_in_item decls head guarded item) (calls_in_items decls head after (drop (count + 1) items))
      ∙ ap (λ g. a.seen ++ (call_in_item decls head guarded item ++ calls_in_items decls head g (drop (count + 1) items))) is
      ∙ ap (λ left. a.seen ++ calls_in_items decls head guarded left) (sym (drop_more items count item lt ∙ ap (λ i. i ∷ drop (count + 1) items) (sym at)))
      ∙ a.rest;
}

pub items_all : (names : List (List ℕ)) (start now : List Edge) (decls : List Decl) (head : Atom) (guarded : Bool) (items : List Item) (count : ℕ) (all : List Call) → length items ≤ count
    → AreAddedBefore names start now decls head guarded (drop count items) all → AreAdded names start now all
items_all names start now decls head guarded items count all past a =
    subst (AreAdded names start now) (sym (append-nil a.seen) ∙ ap (λ left. a.seen ++ calls_in_items decls head guarded left) (sym (drop_all count items past)) ∙ a.rest) a.added

-- ---- the call of a literal

module _ (decls : List Decl) (head : Atom) (negated guarded : Bool) (atom : Atom) (names : List (List ℕ)) (old new : List Edge) where
  abbrev the_call : Call
  the_call = record { caller = head.name; callee = atom.name; is_strict = negated || not (descends decls head atom || guarded) }

  pub no_call : is_called (kind_among decls atom.name) ≡ false → AreAdded names old old (call_of decls head negated guarded atom)
  no_call e = subst (AreAdded names old old) (sym (ap (λ b. cond b (the_call ∷ []) []) e)) (added_none names old)

  pub a_call : (caller callee : ℕ) (strict : Bool) → AreCalledNames decls names → position (bytes_eq head.name) names ≡ Some caller → position (bytes_eq atom.name) names ≡ Some callee
      → strict ≡ (negated || not (descends decls head atom || guarded)) → new ≡ old ++ record { caller = caller; callee = callee; is_strict = strict } ∷ [] → AreAdded names old new (call_of decls head negated guarded atom)
  a_call caller callee strict h at to is pushed =
      let one = has_number names head.name caller at in
      let other = has_number names atom.name callee to in
      subst (AreAdded names old new) (sym (ap (λ b. cond b (the_call ∷ []) []) (number_is_called decls names atom.name callee h to)))
      (added_one names old new (record { caller = caller; callee = callee; is_strict = strict }) the_call pushed (λ i. record { caller = one.at i; callee = other.at i; is_strict = is i }) (record { caller = one.within; callee = other.within }))

  pub no_head : AreCalledNames decls names → is_called (kind_among decls head.name) ≡ true → position (bytes_eq head.name) names ≡ None → ⊥
  no_head h called none = not_both (sym called ∙ has_no_number decls names head.name h none)
    where
      not_both : true ≡ false → ⊥
      not_both e = absurd (cc)
