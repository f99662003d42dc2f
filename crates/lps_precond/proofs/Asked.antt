-- The stages of a denial of an accepted text can be asked.
use Rattle.std.proofs.Common.{Bool, true, ◌≡◌, List, [], ◌∷◌, map, refl, sym, subst, ◌∙◌, inl, inr}
use Rattle.std.specs.Prelude.{Contains}
use Rattle.std.specs.List.{flat_map, list_any}
use Rattle.lps_terms.specs.declared.cond.Cond.{Cond}
use Rattle.lps_terms.specs.declared.item.Item.{Item}
use Rattle.lps_terms.specs.declared.text.Text.{Text}
use Rattle.lps_model.specs.Acceptance.{IsAccepted}
use Rattle.lps_model.specs.Formed.{is_formed}
use Rattle.lps_model.specs.Rules.{denials}
use Rattle.lps_model.proofs.Elements.{first_is_contained, first_or_later, later_is_contained, nothing_contained}
use Rattle.lps_precond.specs.declared.stage.Stage.{Stage}
use Rattle.lps_precond.specs.declared.start.Start.{Start}
use Rattle.lps_precond.specs.Cut.{Cut, asks_derived, cut, cuts, touch_of}
use Rattle.lps_precond.specs.Stages.{AreAsked, AreStages, IsReady, IsReadyStart, IsStart, vars_before, vars_of, vars_with}
use Rattle.lps_precond.proofs.Known.{with_own, with_some}
use Rattle.lps_precond.proofs.Modes.{AreEventConds, AreFreeConds, AreStateConds, back_are, back_asked, event_is_free, free_moded, front_asked, happen_are, happen_asked, scope_of, touches_are_free}
use Rattle.lps_precond.proofs.Stated.{IsDenial, denial_is}

pub cut_of : (text : Text) (xs : List (List Item)) (denial : Cut) → Contains (map (cut text) xs) denial → (items : List Item) × Contains xs items × (cut text items ≡ denial)
cut_of text [] denial at = absurd (nothing_contained denial at)
cut_of text (items ∷ xs) denial at =
    elim (first_or_later (cut text items) (map (cut text) xs) denial at) [
      | inl same ↦ (items, first_is_contained items xs, same)
      | inr later ↦ let rest = cut_of text xs denial later in (rest.0, later_is_contained items xs rest.0 rest.1, rest.2)
    ]

module _ (text : Text) (accepted : IsAccepted text) (formed : is_formed text ≡ true) (denial : Cut) (of_text : Contains (cuts text) denial) where
  abbrev pub items : List Item
  items = (cut_of text (denials text) denial of_text).0

  pub is_cut : cut text items ≡ denial
  is_cut = (cut_of text (denials text) denial of_text).2

  pub stated : IsDenial text items
  stated = denial_is text accepted formed items (cut_of text (denials text) denial of_text).1

  -- what the starts from fluents ask for first, and whether there are starts at all
  pub touches_are : denial.touches ≡ flat_map (touch_of text) denial.back
  touches_are = subst (λ (d : Cut). d.touches ≡ flat_map (touch_of text) d.back) is_cut refl

  pub derived_is : denial.is_derived ≡ list_any (asks_derived text) denial.back
  derived_is = subst (λ (d : Cut). d.is_derived ≡ list_any (asks_derived text) d.back) is_cut refl

  module _ (happen front back : Stage) (are : AreStages happen front back) (touches : List Cond) (is_derived : Bool)
      (view : record { happen = happen.conds; front = front.conds; back = back.conds; touches = touches; is_derived = is_derived } ≡ denial) where
    seen_as : cut text items ≡ record { happen = happen.conds; front = front.conds; back = back.conds; touches = touches; is_derived = is_derived }
    seen_as = is_cut ∙ sym view

    pub happen_ready : IsReady text happen
    happen_ready = record {
      known = [];
      wanted = vars_of happen.conds;
      is = are.happen_is;
      asked = subst (λ (d : Cut). AreAsked text [] (vars_of d.happen) d.happen) seen_as (happen_asked text items stated);
    }

    pub front_ready : IsReady text front
    front_ready = record {
      known = vars_of happen.conds;
      wanted = vars_with (vars_of happen.conds) front.conds;
      is = are.front_is;
      asked = subst (λ (d : Cut). AreAsked text (vars_of d.happen) (vars_before d) d.front) seen_as (front_asked text items stated);
    }

    pub back_ready : IsReady text back
    back_ready = record {
      known = vars_with (vars_of happen.conds) front.conds;
      wanted = [];
      is = are.back_is;
      asked = subst (λ (d : Cut). AreAsked text (vars_before d) [] d.back) seen_as (back_asked text items stated);
    }

  pub event_conds : AreEventConds text denial.happen
  event_conds = subst (λ (d : Cut). AreEventConds text d.happen) is_cut (happen_are text items stated)

  pub free_events : AreFreeConds text denial.happen
  free_events k at = event_is_free text k (event_conds k at)

  pub free_touches : AreFreeConds text denial.touches
  free_touches k at = touches_are_free text denial.back k (subst (λ (ks : List Cond). Contains ks k) touches_are at)

  pub state_conds : AreStateConds text denial.back
  state_conds = subst (λ (d : Cut). AreStateConds text d.back) is_cut (back_are text items stated)

  pub start_ready : (start : Start) → IsStart denial.happen start → AreFreeConds text start.first.conds → IsReadyStart text denial start
  start_ready start is free = record {
    is = is;
    first = record {
      known = [];
      wanted = is.shared;
      is = is.first_is;
      asked = record {
        scope = scope_of text items stated;
        declared = refl;
        seen = refl;
        moded = with_some (scope_of text items stated) [] start.first.conds (free_moded text (scope_of text items stated) refl refl [] start.first.conds free) is.shared is.within;
      };
    };
    rest = record {
      known = is.shared;
      wanted = vars_of denial.happen;
      is = is.rest_is;
      asked = subst (λ (ks : List Cond). AreAsked text is.shared (vars_of denial.happen) ks) (sym is.conds_are) (record {
        scope = scope_of text items stated;
        declared = refl;
        seen = refl;
        moded = with_own (scope_of text items stated) is.shared denial.happen (free_moded text (scope_of text items stated) refl refl is.shared denial.happen free_events);
      });
    };
  }
