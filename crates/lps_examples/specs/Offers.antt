-- Which offer of a goal comes first.
use Rattle.std.specs.Prelude.{◌≡◌, ℕ, List, [], ◌∷◌}
use Rattle.std.specs.declared.cmp.Ordering.TheVariants.{Less}
use Rattle.lps_terms.specs.declared.atom.Atom.{Atom}
use Rattle.lps_meaning.specs.Plain.{Ranked, ranked_cmp, IsOffer, IsFirstOffer}
use Rattle.lps_model.specs.declared.trace.Trace.{Trace}
use Rattle.lps_examples.specs.Examples.{event_e, action_a, action_c, happening, trace_of, other_text, other_key}

abbrev pub offered : ℕ → List ℕ → Atom → Ranked
offered alternative rank action = record { alternative = alternative; rank = rank; group = action ∷ [] }

-- by alternative first, then by the numbers of the clauses, the first of them first, and then by group
abbrev pub OfferOrder : Type 0
OfferOrder = (ranked_cmp (offered 1 (2 ∷ []) action_c) (offered 2 (1 ∷ []) action_a) ≡ Less)
    × (ranked_cmp (offered 1 (1 ∷ 2 ∷ []) action_c) (offered 1 (2 ∷ 1 ∷ []) action_a) ≡ Less)
    × (ranked_cmp (offered 1 (1 ∷ []) action_a) (offered 1 (1 ∷ []) action_c) ≡ Less)

-- In the text of another alternative, which wants a or else c, event e happened, and both alternatives have an offer.
abbrev pub offer_trace : Trace
offer_trace = trace_of [] (happening (event_e ∷ []) ∷ [])

-- that of the first alternative is the first, and that of the second is not
abbrev pub OfferExample : Type 0
OfferExample = (level : List ℕ → ℕ) → IsFirstOffer other_text level 100 offer_trace (other_key ∷ []) other_key [] (offered 1 [] action_a)
    × IsOffer other_text level 100 offer_trace (other_key ∷ []) other_key [] (offered 2 [] action_c)
    × (IsFirstOffer other_text level 100 offer_trace (other_key ∷ []) other_key [] (offered 2 [] action_c) → ⊥)
