-- What one place more for a term is, taken out of a table and put back.
use Rattle.std.proofs.Common.{ℕ, Bool, true, false, ◌≡◌, cond, Some, None, refl, ap, ◌∙◌}
use Rattle.std.specs.Prelude.{if◌then◌else◌}
use Rattle.std.specs.BTreeMap.{BTreeMap, get}
use Rattle.std.specs.declared.alloc.Global.{Global}
use Rattle.std.specs.declared.vec.Vec.{Vec}
use Rattle.lps_terms.specs.declared.term.Term.{Term}
use Rattle.lps_terms.specs.Order.{term_cmp, term_eq}
use Rattle.lps_terms.specs.OrderLaws.{term_eq-decides}
use Rattle.lps_index.specs.Table.{IsWithTerm, places_or_none, with_place}

module _ (term : Term) (place : ℕ) (old mid new : BTreeMap Term (Vec ℕ Global)) (more : Vec ℕ Global) where
  abbrev IsTaken : Type 0
  IsTaken = (other : Term) → get term_cmp mid other ≡ cond (term_eq term other) None (get term_cmp old other)

  abbrev IsPut : Type 0
  IsPut = (other : Term) → get term_cmp new other ≡ cond (term_eq term other) (Some more) (get term_cmp mid other)

  pub put_back : IsTaken → more.items ≡ with_place (places_or_none (get term_cmp old term)) place → IsPut → IsWithTerm term place old new
  put_back taken is puts = λ other. by other (term_eq term other) refl
    where
      by : (other : Term) (same : Bool) → term_eq term other ≡ same →
          places_or_none (get term_cmp new other) ≡ (if same then with_place (places_or_none (get term_cmp old other)) place else places_or_none (get term_cmp old other))
      by other true e =
          ap places_or_none (puts other ∙ ap (λ b. cond b (Some more) (get term_cmp mid other)) e) ∙ is
          ∙ ap (λ x. with_place (places_or_none (get term_cmp old x)) place) ((term_eq-decides term other).0 e)
      by other false e =
          ap places_or_none (puts other ∙ ap (λ b. cond b (Some more) (get term_cmp mid other)) e ∙ taken other ∙ ap (λ b. cond b None (get term_cmp old other)) e)
