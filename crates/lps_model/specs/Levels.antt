-- Levels of names, which bound recursion, and the cycle of calls that a text without levels has.
use Rattle.std.specs.Prelude.{◌≡◌, ℕ, ◌≤◌, ◌<◌, true, List, [], ◌∷◌, ◌++◌, length, Option, Some, None, is_some, Contains}
use Rattle.std.specs.Cmp.Lexicographic.{slice_cmp}
use Rattle.std.specs.Map.{lookup}
use Rattle.std.specs.Str.{bytes_eq}
use Rattle.std.specs.declared.cmp.Ordering.TheVariants.{Greater}
use Rattle.lps_terms.specs.declared.text.Text.{Text}
use Rattle.lps_terms.specs.Names.{name_cmp}
use Rattle.lps_model.specs.Calls.{Call, calls, is_called}
use Rattle.lps_model.specs.Declarations.{kind_among}
use Rattle.lps_model.specs.Program.{declarations}

-- ---- levels

-- a call goes to no higher level, and a strict one to a lower level
pub record IsLevel (level : List ℕ → ℕ) (call : Call) : Type 0 where
  pub no_higher : level call.callee ≤ level call.caller
  pub lower : call.is_strict ≡ true → level call.callee < level call.caller

-- these are levels for the calls
abbrev pub AreCallLevels : List Call → (List ℕ → ℕ) → Type 0
AreCallLevels calls level = (call : Call) → Contains calls call → IsLevel level call

-- the level that a list has for a name, and 0 for another name
abbrev pub level_or_none : Option ℕ → ℕ
level_or_none None = 0
level_or_none (Some level) = level

abbrev pub level_among : List (List ℕ × ℕ) → List ℕ → ℕ
level_among levels name = level_or_none (lookup (bytes_eq name) levels)

-- the list has levels for the calls of the text, and one for each timeless, derived and macro name and for no other
pub record AreLevelsOf (text : Text) (levels : List (List ℕ × ℕ)) : Type 0 where
  pub names : (name : List ℕ) → is_some (lookup (bytes_eq name) levels) ≡ is_called (kind_among (declarations text) name)
  pub levelled : AreCallLevels (calls text) (level_among levels)

-- ---- cycles

-- one of the calls goes from a name to a name
pub record IsCalled (calls : List Call) (caller callee : List ℕ) : Type 0 where
  pub call : Call
  pub among : Contains calls call
  pub starts : call.caller ≡ caller
  pub goes : call.callee ≡ callee

-- a way by calls from a name to a name, as the names that it comes by: the first one with them, and the last one without
abbrev pub IsWay : List Call → List ℕ → List ℕ → List (List ℕ) → Type 0
IsWay calls start end [] = start ≡ end
IsWay calls start end (name ∷ names) = (name ≡ start) × ((next : List ℕ) × IsCalled calls start next × IsWay calls next end names)

-- there is no way from a name to a name
abbrev pub HasNoWay : List Call → List ℕ → List ℕ → Type 0
HasNoWay calls start end = (way : List (List ℕ)) → IsWay calls start end way → ⊥

-- a shortest way from a name to a name, and the least in byte order, name by name, among the shortest
pub record IsLeastWay (calls : List Call) (start end : List ℕ) (way : List (List ℕ)) : Type 0 where
  pub is_way : IsWay calls start end way
  pub shortest : (other : List (List ℕ)) → IsWay calls start end other → length way ≤ length other
  pub least : (other : List (List ℕ)) → IsWay calls start end other → length other ≡ length way → slice_cmp name_cmp way other ≡ Greater → ⊥

-- The cycle shows that there are no levels: it is the first strict call that lies on a cycle, from its caller, and the least
-- way back from its callee.
pub record IsStrictCycle (calls : List Call) (cycle : List (List ℕ)) : Type 0 where
  pub before : List Call
  pub call : Call
  pub after : List Call
  pub split : calls ≡ before ++ call ∷ after
  pub strict : call.is_strict ≡ true
  pub first : (other : Call) → Contains before other → other.is_strict ≡ true → HasNoWay calls other.callee other.caller
  pub way : List (List ℕ)
  pub back : IsLeastWay calls call.callee call.caller way
  pub around : cycle ≡ call.caller ∷ way

-- the text is refused for this cycle
abbrev pub IsUnlevelled : Text → List (List ℕ) → Type 0
IsUnlevelled text cycle = IsStrictCycle (calls text) cycle
