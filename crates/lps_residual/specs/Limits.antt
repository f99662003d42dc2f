-- The constraints of a node: which name an unknown time, and which of the others is false.
use Rattle.std.specs.Prelude.{◌≡◌, ◌⊎◌, ◌||◌, Bool, true, false, List, Contains}
use Rattle.lps_meaning.specs.declared.node.LeftCon.{LeftCon}
use Rattle.lps_meaning.specs.declared.node.Node.{Node}
use Rattle.lps_nodes.specs.Conditions.{IsLeftLimit}
use Rattle.lps_nodes.specs.Shapes.{is_unknown}

-- the constraint names an unknown time
abbrev pub is_open : LeftCon → Bool
is_open con = is_unknown con.left || is_unknown con.right

-- it names one, or it is true
abbrev pub IsOpenOrTrue : LeftCon → Type 0
IsOpenOrTrue con = (is_open con ≡ true) ⊎ IsLeftLimit (λ k. 0) con

-- one of the constraints names none, and is false
pub record HasFalse (limits : List LeftCon) : Type 0 where
  pub con : LeftCon
  pub among : Contains limits con
  pub known : is_open con ≡ false
  pub is_false : IsLeftLimit (λ k. 0) con → ⊥

-- a node with other constraints
abbrev pub with_limits : Node → List LeftCon → Node
with_limits node limits =
    record { alternative = node.alternative; rank = node.rank; done = node.done; carry = node.carry; rest = node.rest; limits = limits }
