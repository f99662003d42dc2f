-- From the denials that are violated over events and the facts before and after to what is answered of the trace.
use Rattle.std.proofs.Common.{ℕ, zero, suc, true, ◌≡◌, ◌<◌, List, [], ◌∷◌, map, length, get_or, refl, sym, ap, subst, arith}
use Rattle.std.specs.Prelude.{Contains, Option, Some, None, slice_get}
use Rattle.lps_terms.specs.declared.atom.Atom.{Atom}
use Rattle.lps_terms.specs.declared.item.Item.{Item}
use Rattle.lps_terms.specs.declared.text.Text.{Text}
use Rattle.lps_model.specs.declared.trace.Trace.{Trace}
use Rattle.lps_model.specs.Acceptance.{IsAccepted}
use Rattle.lps_model.specs.Formed.{is_formed}
use Rattle.lps_model.proofs.Elements.{first_is_contained, later_is_contained}
use Rattle.lps_model.specs.Clauses.{Clause, clauses}
use Rattle.lps_meaning.specs.Denials.{ViolatesNumber}
use Rattle.lps_model.specs.Rules.{denials}
use Rattle.lps_precond.specs.Cut.{Cut, cut, cuts}
use Rattle.lps_precond.specs.Judged.{IsJudged, IsLeast, IsViolatedNumber}
use Rattle.lps_precond.specs.Stages.{IsViolated}
use Rattle.lps_precond.proofs.Bridge.{AreAlike, violated_from, violated_to}
use Rattle.lps_precond.proofs.Stated.{denial_is}

-- ---- numbered elements

numbered_map : {X Y : Type 0} (f : X → Y) (xs : List X) (n : ℕ) (x : X) → slice_get xs n ≡ Some x → slice_get (map f xs) n ≡ Some (f x)
numbered_map f [] n x e = absurd (cc)
numbered_map f (y ∷ ys) zero x e = let same : y ≡ x = cc in ap (λ z. Some (f z)) same
numbered_map f (y ∷ ys) (suc n) x e = numbered_map f ys n x e

-- an element of a list of images
pub record IsImage {X Y : Type 0} (f : X → Y) (xs : List X) (n : ℕ) (y : Y) : Type 0 where
  pub one : X
  pub at : slice_get xs n ≡ Some one
  pub is : f one ≡ y

pub image_of : {X Y : Type 0} (f : X → Y) (xs : List X) (n : ℕ) (y : Y) → slice_get (map f xs) n ≡ Some y → IsImage f xs n y
image_of f [] n y e = absurd (cc)
image_of f (x ∷ xs) zero y e = record { one = x; at = refl; is = cc }
image_of f (x ∷ xs) (suc n) y e = let rest = image_of f xs n y e in record { one = rest.one; at = rest.at; is = rest.is }

pub got_is_among : {X : Type 0} (xs : List X) (n : ℕ) (x : X) → slice_get xs n ≡ Some x → Contains xs x
got_is_among [] n x e = absurd (cc)
got_is_among (y ∷ ys) zero x e = let same : y ≡ x = cc in subst (Contains (y ∷ ys)) same (first_is_contained y ys)
got_is_among (y ∷ ys) (suc n) x e = later_is_contained y ys x (got_is_among ys n x e)

-- ---- numbers of denials

module _ (text : Text) (accepted : IsAccepted text) (formed : is_formed text ≡ true) (level : List ℕ → ℕ) (trace : Trace) (events happened before after : List Atom) (alike : AreAlike text level trace events happened before after) where
  number_to : (k : ℕ) → ViolatesNumber text level trace events k → IsViolatedNumber (clauses text) happened before after level (cuts text) k
  number_to zero h = absurd (let no = h.1 in cc)
  number_to (suc n) h =
      let items : List Item = h.0 in
      (cut text items, numbered_map (cut text) (denials text) n items h.1, violated_to text level trace events happened before after alike items (denial_is text accepted formed items (got_is_among (denials text) n items h.1)) h.2)

  number_from : (k : ℕ) → IsViolatedNumber (clauses text) happened before after level (cuts text) k → ViolatesNumber text level trace events k
  number_from zero h = absurd (let no = h.1 in cc)
  number_from (suc n) h =
      let image = image_of (cut text) (denials text) n h.0 h.1 in
      let items : List Item = image.one in (
        items,
        image.at,
        violated_from text level trace events happened before after alike items (denial_is text accepted formed items (got_is_among (denials text) n items image.at))
            (subst (IsViolated (clauses text) happened before after level) (sym image.is) h.2),
      )

  pub judged : (found : Option ℕ) → IsLeast (clauses text) happened before after level (cuts text) found → IsJudged text level trace events found
  judged None h = λ k violated. h k (number_to k violated)
  judged (Some k) h = (number_from k h.0, λ j lt violated. h.1 j lt (number_to j violated))

-- ---- place by place

pub got_item : {X : Type 0} (xs : List X) (i : ℕ) (x d : X) → i < length xs → x ≡ get_or xs i d → slice_get xs i ≡ Some x
got_item [] i x d lt is = absurd (omega arith)
got_item (y ∷ ys) zero x d lt is = ap (λ z. Some z) (sym is)
got_item (y ∷ ys) (suc i) x d lt is = got_item ys i x d (omega arith) is

-- where there is no least number none of the denials is violated
pub none_violated : (program : List Clause) (happened before after : List Atom) (level : List ℕ → ℕ) (denials : List Cut) → IsLeast program happened before after level denials None → (denial : Cut) → Contains denials denial →
    IsViolated program happened before after level denial → ⊥
none_violated program happened before after level denials none denial at h = none (suc at.0) (denial, got_item denials at.0 denial denial at.1 (sym at.2), h)
