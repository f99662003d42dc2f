-- In a text of which every statement is run no alternative of a rule has a macro call.
use Rattle.std.proofs.Common.{◌≡◌, ℕ, Bool, true, false, List, [], ◌∷◌, Option, Some, None, refl}
use Rattle.std.specs.Prelude.{◌||◌, if◌then◌else◌, not}
use Rattle.std.specs.List.{AllByRecursion, flat_map, list_any}
use Rattle.lps_terms.specs.declared.body.Body.{Body}
use Rattle.lps_terms.specs.declared.body.Body.TheVariants as b
use Rattle.lps_terms.specs.declared.item.Item.{Item}
use Rattle.lps_terms.specs.declared.statement.Statement.{Statement}
use Rattle.lps_terms.specs.declared.text.Text.{Text}
use Rattle.lps_meaning.specs.Sequences.{is_call}
use Rattle.lps_meaning.proofs.Occurrences.{all_joined}
use Rattle.lps_model.specs.Rules.{rule_in}
use Rattle.lps_goaltrees.specs.Followed.{AreCallFree, IsCallFree}
use Rattle.lps_run.specs.Built.{first_not_built, has_call, is_built, not_built}

neither_of : (a b : Bool) → (a || b) ≡ false → (a ≡ false) × (b ≡ false)
neither_of false b h = (refl, h)
neither_of true b h = absurd cc

-- what none of them is, each is not
each_not : {X : Type 0} (p : X → Bool) (xs : List X) → list_any p xs ≡ false → AllByRecursion (λ x. p x ≡ false) xs
each_not p [] h = tt
each_not p (x ∷ xs) h = let parts = neither_of (p x) (list_any p xs) h in (parts.0, each_not p xs parts.1)

module _ (text : Text) where
  free : (alternatives : List (List Item)) → AllByRecursion (λ items. has_call text items ≡ false) alternatives → AllByRecursion (λ items. AllByRecursion (λ item. is_call text item ≡ false) items) alternatives
  free [] h = tt
  free (items ∷ alternatives) h = (each_not (is_call text) items h.0, free alternatives h.1)

  not_true : (test : Bool) → not test ≡ true → test ≡ false
  not_true false h = refl
  not_true true h = absurd cc

  free_in : (body : Body) → is_built text body ≡ true → AllByRecursion (IsCallFree text) (rule_in body)
  free_in (b.Rule antecedent alternatives) h = (free alternatives (each_not (has_call text) alternatives (not_true _ h)), tt)
  free_in other h = tt

  both_built : (s : Statement) (rest : Option ℕ) (built : Bool) → (if built then rest else Some s.line) ≡ None → (built ≡ true) × (rest ≡ None)
  both_built s rest true h = (refl, h)
  both_built s rest false h = absurd cc

  all_free : (statements : List Statement) → first_not_built text statements ≡ None → AllByRecursion (IsCallFree text) (flat_map (λ (s : Statement). rule_in s.body) statements)
  all_free [] h = tt
  all_free (s ∷ statements) h =
      let parts = both_built s (first_not_built text statements) (is_built text s.body) h in
      all_joined (IsCallFree text) (rule_in s.body) (flat_map (λ (s : Statement). rule_in s.body) statements) (free_in s.body parts.0) (all_free statements parts.1)

pub built_is_call_free : (text : Text) → not_built text ≡ None → AreCallFree text
built_is_call_free text h = all_free text text.statements h
