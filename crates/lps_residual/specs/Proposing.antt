-- The action that is next in a node, and the atoms of its group.
use Rattle.std.specs.Prelude.{◌++◌, Bool, true, List, [], ◌∷◌, Option, Some, None, if◌then◌else◌}
use Rattle.lps_terms.specs.declared.atom.Atom.{Atom}
use Rattle.lps_terms.specs.declared.text.Text.{Text}
use Rattle.lps_model.specs.Order.{is_action}
use Rattle.lps_model.specs.Rules.{kind_of}
use Rattle.lps_meaning.specs.declared.node.Left.{Left}
use Rattle.lps_meaning.specs.declared.node.LeftItem.{LeftItem}
use Rattle.lps_meaning.specs.declared.node.LeftItem.TheVariants as l
use Rattle.lps_meaning.specs.declared.when.When.{When}
use Rattle.lps_nodes.specs.Conditions.{are_together}
use Rattle.lps_nodes.specs.NextSteps.{atoms_of}

-- when an item begins, where it is an action
abbrev pub action_begin : Text → LeftItem → Option When
action_begin text (l.Span a from to) = if is_action (kind_of text a.name) then Some from else None
action_begin text _ = None

-- when the first of these items begins, where it is an action
abbrev pub next_action : Text → List Left → Option When
next_action text [] = None
next_action text (left ∷ rest) = action_begin text left.item

-- an item is of the group whose last item so far is this, or begins one
abbrev pub is_of_group : Text → Option LeftItem → LeftItem → Bool
is_of_group text None item = true
is_of_group text (Some before) item = are_together text before item

-- the atoms of these items, as far as each is of the group of the one before it
abbrev pub group_after : Text → Option LeftItem → List Left → List Atom
group_after text before [] = []
group_after text before (left ∷ rest) = if is_of_group text before left.item then atoms_of left.item ++ group_after text (Some left.item) rest else []
