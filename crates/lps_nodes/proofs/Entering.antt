-- What is left where a sequence is entered: its items and constraints with what is given put in.
use Rattle.std.proofs.Common.{ℕ, ◌≡◌, List, [], ◌∷◌, ◌++◌, ◌∙◌, map, refl, sym, ap}
use Rattle.std.specs.Prelude.{Option, Some, None}
use Rattle.std.specs.List.{flat_map}
use Rattle.lps_terms.specs.declared.item.Item.{Item}
use Rattle.lps_terms.specs.declared.term.Term.{Term}
use Rattle.lps_terms.specs.declared.term.Term.TheVariants as t
use Rattle.lps_terms.specs.declared.text.Text.{Text}
use Rattle.lps_terms.specs.Put.{after}
use Rattle.lps_meaning.specs.declared.node.LeftCon.{LeftCon}
use Rattle.lps_meaning.specs.declared.when.When.{When}
use Rattle.lps_meaning.specs.Sequences.{Place, Values, entries, start}
use Rattle.lps_nodes.specs.Led.{AreGivenBy, IsEnteredShape, entered_shape}
use Rattle.lps_nodes.specs.Plans.{Entrance}
use Rattle.lps_nodes.specs.Shapes.{Whens, con_of, left_at, left_of, put_shape, shape_of}
use Rattle.lps_nodes.proofs.Cleaning.{clean, clean_ground}
use Rattle.lps_nodes.proofs.ShapeLaws.{after_when, shape_after}

entries_left : (text : Text) (u : Values) (w : Whens) (before : Option Item) (items : List Item) → flat_map (left_at u w) (entries text 0 0 before items) ≡ flat_map (left_of (u 0) (w 0) 0) items
entries_left text u w before [] = refl
entries_left text u w before (item ∷ items) = ap (λ ls. left_of (u 0) (w 0) 0 item ++ ls) (entries_left text u w (Some item) items)

append_none : (limits : List LeftCon) → limits ++ [] ≡ limits
append_none [] = refl
append_none (con ∷ limits) = ap (λ more. con ∷ more) (append_none limits)

module _ (text : Text) (e : Entrance) where
  abbrev first : Place
  first = start text e.since e.sequence.items

  start_shape : (u : Values) (w : Whens) → shape_of e.sequence first u w ≡ entered_shape e (u 0) (w 0)
  start_shape u w = λ j. record {
    carry = record { values = map (u 0) e.sequence.carried_values; times = map (w 0) e.sequence.carried_times };
    rest = entries_left text u w None e.sequence.items j;
    limits = append_none (flat_map (con_of (w 0)) e.sequence.items) j;
  }

  put_entered : (v f : ℕ → Term) (x h : ℕ → When) → put_shape v x (entered_shape e f h) ≡ entered_shape e (after v f) (after_when x h)
  put_entered v f x h =
      ap (put_shape v x) (sym (start_shape (λ env. f) (λ env. h)))
      ∙ shape_after text e.sequence (λ env n. clean (t.Var n)) (λ env n. 0) (λ env n. clean_ground (t.Var n)) first (λ env. f) (λ env. h) v x
      ∙ start_shape (λ env. after v f) (λ env. after_when x h)

  pub entered_given : (f : ℕ → Term) (h : ℕ → When) → AreGivenBy e f h → IsEnteredShape text e (entered_shape e f h)
  entered_given f h given = record {
    values = λ env. f;
    whens = λ env. h;
    given_values = given.values;
    given_times = given.times;
    own = sym (start_shape (λ env. f) (λ env. h));
    general = λ u w values times. (
      u 0,
      w 0,
      start_shape u w ∙ sym (put_entered (u 0) f (w 0) h ∙ (λ j. entered_shape e (λ v. given.other_values (u 0) values v j) (λ k. given.other_times (w 0) times k j))),
    );
  }
