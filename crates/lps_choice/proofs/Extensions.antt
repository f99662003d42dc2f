-- Picks after picks.
use Rattle.std.proofs.Common.{◌≡◌, ℕ, zero, suc, ◌<◌, List, [], ◌∷◌, ◌++◌, length, get_or, take, sym, ap, subst, ◌∙◌, arith, append_assoc}
use Rattle.std.proofs.lemmas.List.{append-nil}
use Rattle.lps_model.specs.declared.cycle.Pick.{Pick}
use Rattle.lps_choice.specs.Choices.{Choice, IsPick, ArePicks, Extends}
use Rattle.lps_choice.proofs.Lists.{moved}

module _ (choice : Choice) where
  picks_joined : (made some others : List Pick) → ArePicks choice made some → ArePicks choice (made ++ some) others → ArePicks choice made (some ++ others)
  picks_joined made [] others h k = subst (λ m. ArePicks choice m others) (append-nil made) k
  picks_joined made (pick ∷ some) others h k = (h.0, picks_joined (made ++ pick ∷ []) some others h.1 (subst (λ m. ArePicks choice m others) (sym (moved made pick some)) k))

  pub extends_none : (made all : List Pick) → all ≡ made → Extends choice made all
  extends_none made all same = record { more = []; whole = same ∙ sym (append-nil made); picks = tt }

  pub extends_one : (made all : List Pick) (pick : Pick) → IsPick choice made pick → all ≡ made ++ pick ∷ [] → Extends choice made all
  extends_one made all pick is whole = record { more = pick ∷ []; whole = whole; picks = (is, tt) }

  pub extends_further : (made middle all : List Pick) → Extends choice made middle → Extends choice middle all → Extends choice made all
  extends_further made middle all one other = record {
    more = one.more ++ other.more;
    whole = other.whole ∙ ap (λ ms. ms ++ other.more) one.whole ∙ append_assoc made one.more other.more;
    picks = picks_joined made one.more other.more one.picks (subst (λ m. ArePicks choice m other.more) one.whole other.picks);
  }

  -- each of some picks may be made after those before it
  pub pick_at : (made picks : List Pick) (i : ℕ) (pick : Pick) → ArePicks choice made picks → i < length picks → pick ≡ get_or picks i pick → IsPick choice (made ++ take i picks) pick
  pick_at made [] i pick h lt is = absurd (omega arith)
  pick_at made (first ∷ picks) zero pick h lt is = subst (λ m. IsPick choice m pick) (sym (append-nil made)) (subst (IsPick choice made) (sym is) h.0)
  pick_at made (first ∷ picks) (suc i) pick h lt is =
      subst (λ m. IsPick choice m pick) (moved made first (take i picks)) (pick_at (made ++ first ∷ []) picks i pick h.1 (omega arith) is)

  -- one more pick after some
  pub picks_with : (made some : List Pick) (pick : Pick) → ArePicks choice made some → IsPick choice (made ++ some) pick → ArePicks choice made (some ++ pick ∷ [])
  picks_with made some pick h is = picks_joined made some (pick ∷ []) h (is, tt)
