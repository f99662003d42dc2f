-- The wanted terms with the bindings put in.
use Rattle.std.proofs.Common.{ℕ, ◌≡◌, ◌+◌, ◌≤◌, ◌<◌, List, [], ◌∷◌, ◌++◌, map, take, length, get_or, min, refl, sym, ap, ◌∙◌, subst, arith}
use Rattle.std.specs.Prelude.{zero, suc, false}
use Rattle.std.specs.List.{AllByRecursion, list_all}
use Rattle.lps_terms.specs.declared.term.Term.{Term}
use Rattle.lps_terms.specs.Put.{put}
use Rattle.lps_terms.specs.Symbols.{symbols_of, symbols_of_all}
use Rattle.lps_model.specs.VariableLists.{args_vars}
use Rattle.lps_derivation.specs.Ground.{is_ground}
use Rattle.lps_unify.specs.Bindings.{TrailedBindings, standing, resolved, Solves, IsLawful}
use Rattle.lps_unify.proofs.Standings.{goes_through, solves_itself}
use Rattle.lps_solve.specs.Found.{Gains, IsResolvedRow, IsRow}
use Rattle.lps_solve.specs.Met.{AreGround}
use Rattle.lps_solve.proofs.Gaining.{Gains-same, take_whole}
use Rattle.lps_solve.proofs.Grounds.{list_stays}
use Rattle.lps_solve.proofs.Placing.{map_more}
use Rattle.lps_solve.proofs.Readiness.{never_ground_list}
use Rattle.lps_solve.proofs.Sizes.{grows}
use Rattle.lps_solve.proofs.Vars.{all_append}

item_small : (s : ℕ → Term) (xs : List Term) (i : ℕ) (x : Term) → i < length xs → x ≡ get_or xs i x → AllByRecursion (λ t. symbols_of t ≤ 1024) (map (put s) xs) → symbols_of (put s x) ≤ 1024
item_small s [] i x lt is h = absurd (omega arith)
item_small s (y ∷ ys) zero x lt is h = subst (λ z. symbols_of (put s z) ≤ 1024) (sym is) h.0
item_small s (y ∷ ys) (suc i) x lt is h = item_small s ys i x (omega arith) is h.1

-- where a wanted term is too large, there is no row
pub too_large_item : (most room : ℕ) (b : TrailedBindings) (lawful : IsLawful b) (wanted : List Term) (i : ℕ) (x : Term) → i < length wanted → x ≡ get_or wanted i x →
    (symbols_of (resolved b x) ≤ 1024 → ⊥) → (row : List Term) → IsResolvedRow most room b wanted row → ⊥
too_large_item most room b lawful wanted i x lt is large row h =
    let small = item_small h.values wanted i x lt is (subst (AllByRecursion (λ t. symbols_of t ≤ 1024)) h.is h.fits.each) in
    let less = grows h.values (resolved b x) in
    let same = ap symbols_of (goes_through b lawful h.values h.solve x) in
    large (omega (arith, small, less, same))

pub more_terms : (b : TrailedBindings) (wanted : List Term) (i : ℕ) (x y : Term) (terms new : List Term) → i < length wanted → x ≡ get_or wanted i x → terms ≡ map (resolved b) (take i wanted) → y ≡ resolved b x →
    new ≡ terms ++ y ∷ [] → AllByRecursion (λ t. symbols_of t ≤ 1024) terms → symbols_of (resolved b x) ≤ 1024 →
    (new ≡ map (resolved b) (take (i + 1) wanted)) × AllByRecursion (λ t. symbols_of t ≤ 1024) new
more_terms b wanted i x y terms new lt is so one e small little = (
  map_more (resolved b) wanted i x y terms new lt is so one e,
  subst (AllByRecursion (λ t. symbols_of t ≤ 1024)) (sym e)
      (all_append (λ t. symbols_of t ≤ 1024) terms (y ∷ []) small (subst (λ (z : Term). symbols_of z ≤ 1024) (sym one) little, tt)),
)

through_all : (b : TrailedBindings) → IsLawful b → (s : ℕ → Term) → Solves s b → (xs : List Term) → map (put s) (map (resolved b) xs) ≡ map (put s) xs
through_all b lawful s solves [] = refl
through_all b lawful s solves (x ∷ xs) = λ i. goes_through b lawful s solves x i ∷ through_all b lawful s solves xs i

module _ (most room : ℕ) (b : TrailedBindings) (lawful : IsLawful b) (wanted terms : List Term) (i : ℕ) (whole : length wanted ≤ i) (all : terms ≡ map (resolved b) (take i wanted)) (ground : AreGround terms) where
  are : terms ≡ map (resolved b) wanted
  are = all ∙ ap (map (resolved b)) (take_whole i wanted whole)

  -- each row is these terms
  only : (x : List Term) → IsResolvedRow most room b wanted x → x ≡ terms
  only x h = h.is ∙ sym (through_all b lawful h.values h.solve wanted) ∙ ap (map (put h.values)) (sym are) ∙ list_stays h.values terms ground

  pub too_many : (min (symbols_of_all terms) most ≤ room → ⊥) → (x : List Term) → IsResolvedRow most room b wanted x → ⊥
  too_many large x h = large (subst (λ (xs : List Term). min (symbols_of_all xs) most ≤ room) (only x h) h.fits.all)

  pub row_found : min (symbols_of_all terms) most ≤ room → AllByRecursion (λ t. symbols_of t ≤ 1024) terms → (old new : List (List Term)) → Gains old new (λ x. x ≡ terms) → Gains old new (IsResolvedRow most room b wanted)
  row_found fits small old new g = Gains-same old new (λ x. x ≡ terms) (IsResolvedRow most room b wanted)
      (λ x e. record {
        values = (standing b).value;
        solve = solves_itself b lawful;
        is = e ∙ are;
        fits = subst (IsRow most room) (sym e) record { ground = ground; each = small; all = fits };
      })
      only g

-- terms that are closed and not ground are no row
pub no_ground_row : (most room : ℕ) (b : TrailedBindings) (lawful : IsLawful b) (wanted terms : List Term) (i : ℕ) → length wanted ≤ i → terms ≡ map (resolved b) (take i wanted) → args_vars (map (put (standing b).value) wanted) ≡ [] →
    list_all is_ground terms ≡ false → (row : List Term) → IsResolvedRow most room b wanted row → ⊥
no_ground_row most room b lawful wanted terms i whole all closed fails row h =
    let are : terms ≡ map (resolved b) wanted = all ∙ ap (map (resolved b)) (take_whole i wanted whole) in
    let is : map (put h.values) terms ≡ row = ap (map (put h.values)) are ∙ through_all b lawful h.values h.solve wanted ∙ sym h.is in
    never_ground_list terms (ap args_vars are ∙ closed) fails h.values (ap (list_all is_ground) is ∙ h.fits.ground)
