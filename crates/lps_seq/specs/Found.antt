-- What is found at a time, and what is added to it.
use Rattle.std.specs.Prelude.{◌≡◌, ◌⊎◌, ◌↔◌, ℕ, true, false, List, Some, slice_get, Contains}
use Rattle.std.specs.List.Sorted.{IsStrictlySortedBy}
use Rattle.lps_meaning.specs.declared.node.Carry.{Carry}
use Rattle.lps_meaning.specs.declared.node.Node.{Node}
use Rattle.lps_nodes.specs.Nodes.{IsListOf}
use Rattle.lps_seq.specs.declared.stepped.Stepped.{Stepped}
use Rattle.lps_seq.specs.Carries.{carry_cmp}
use Rattle.lps_seq.specs.declared.found.Found.{Found}

-- each node is there once
abbrev pub AreOnce : List Node → Type 0
AreOnce nodes = (i j : ℕ) (x : Node) → slice_get nodes i ≡ Some x → slice_get nodes j ≡ Some x → i ≡ j

-- the new one has what the old one has, and these nodes and carries, and each node once
pub record Adds (old new : Found) (IsNew : Node → Type 0) (IsNewCarry : Carry → Type 0) : Type 0 where
  pub nodes : (o : Node) → Contains new.nodes.items o ↔ (Contains old.nodes.items o ⊎ IsNew o)
  pub once : AreOnce old.nodes.items → AreOnce new.nodes.items
  pub ended : (c : Carry) → Contains new.ended.keys c ↔ (Contains old.ended.keys c ⊎ IsNewCarry c)

-- exactly these nodes and carries are given, each once, the carries in order; and that a plan is cut exactly where one is
pub record AreGiven (IsGivenNode : Node → Type 0) (IsGivenCarry : Carry → Type 0) (AnyIsCut : Type 0) (s : Stepped) : Type 0 where
  pub nodes : IsListOf IsGivenNode s.nodes.items
  pub sorted : IsStrictlySortedBy carry_cmp s.ended.items
  pub exact : (c : Carry) → Contains s.ended.items c ↔ IsGivenCarry c
  pub cut : s.cut ≡ true → AnyIsCut
  pub uncut : s.cut ≡ false → AnyIsCut → ⊥
