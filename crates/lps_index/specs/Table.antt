-- Places of statements in tables, by the names of atoms and by their first arguments.
use Rattle.std.specs.Prelude.{◌≡◌, ◌↔◌, ◌⊎◌, ◌++◌, ◌∷◌, ◌+◌, ◌-◌, ◌==◌, ◌&&◌, [], ℕ, nat_lt, Bool, IsTrue, List, map, Option, Some, None, if◌then◌else◌, length, slice_index_or, Contains}
use Rattle.std.specs.BTreeMap.{BTreeMap, get}
use Rattle.std.specs.List.{flat_map, list_any}
use Rattle.std.specs.Map.{lookup}
use Rattle.std.specs.Str.{bytes_eq}
use Rattle.std.specs.declared.alloc.Global.{Global}
use Rattle.std.specs.declared.vec.Vec.{Vec}
use Rattle.lps_terms.specs.declared.atom.Atom.{Atom}
use Rattle.lps_terms.specs.declared.statement.Statement.{Statement}
use Rattle.lps_terms.specs.declared.term.Term.{Term}
use Rattle.lps_terms.specs.Order.{term_cmp, term_eq}
use Rattle.lps_model.specs.Clauses.{clause_in}
use Rattle.lps_model.specs.Program.{law_in}
use Rattle.lps_model.specs.Rules.{denial_in, macro_clause_in, rule_in}
use Rattle.lps_index.specs.Matching.{closed_first, may_match}
use Rattle.lps_index.specs.Spoken.{AreFound, of_clause, of_items, of_law, of_macro_clause, of_rule}
use Rattle.lps_index.specs.declared.table.Table.{Table}
use Rattle.lps_index.specs.declared.tables.Tables.{Tables}

-- the places that a list has, or none
abbrev pub places_or_none : Option (Vec ℕ Global) → List ℕ
places_or_none None = []
places_or_none (Some places) = places.items

-- the places that a table has for a name
abbrev pub places_of : List (List ℕ × Vec ℕ Global) → List ℕ → List ℕ
places_of table name = places_or_none (lookup (bytes_eq name) table)

-- the places that a table has for a term
abbrev pub places_in : Option (BTreeMap Term (Vec ℕ Global)) → Term → List ℕ
places_in None term = []
places_in (Some table) term = places_or_none (get term_cmp table term)

-- the places that a table has for a name and a term
abbrev pub places_at : List (List ℕ × BTreeMap Term (Vec ℕ Global)) → List ℕ → Term → List ℕ
places_at table name term = places_in (lookup (bytes_eq name) table) term

-- ---- one place more

-- the last of the places is this one
abbrev pub is_last : List ℕ → ℕ → Bool
is_last places place = nat_lt 0 (length places) && slice_index_or places (length places - 1) 0 == place

-- the places with one more, which is not noted twice in a row
abbrev pub with_place : List ℕ → ℕ → List ℕ
with_place places place = if is_last places place then places else places ++ place ∷ []

-- the new table has this place more for the name
abbrev pub IsWithName : List ℕ → ℕ → List (List ℕ × Vec ℕ Global) → List (List ℕ × Vec ℕ Global) → Type 0
IsWithName name place old new = (other : List ℕ) → places_of new other ≡ (if bytes_eq other name then with_place (places_of old other) place else places_of old other)

-- the new table has this place more for the term
abbrev pub IsWithTerm : Term → ℕ → BTreeMap Term (Vec ℕ Global) → BTreeMap Term (Vec ℕ Global) → Type 0
IsWithTerm term place old new = (other : Term) → places_or_none (get term_cmp new other) ≡ (if term_eq term other then with_place (places_or_none (get term_cmp old other)) place else places_or_none (get term_cmp old other))

-- the new table has this place more for the name and the term
abbrev pub IsWithBoth : List ℕ → Term → ℕ → List (List ℕ × BTreeMap Term (Vec ℕ Global)) → List (List ℕ × BTreeMap Term (Vec ℕ Global)) → Type 0
IsWithBoth name term place old new = (other : List ℕ) (x : Term) → places_at new other x ≡ (if bytes_eq other name then (if term_eq term x then with_place (places_at old other x) place else places_at old other x) else places_at old other x)

-- ---- what is found

-- the places that tables have for a name, and for a first argument where one is given
abbrev pub found_by : Table → List ℕ → Option Term → List ℕ
found_by table name None = places_of table.all.entries name
found_by table name (Some x) = places_at table.closed.entries name x ++ places_of table.others.entries name

-- the places that are found by an atom
abbrev pub found_in : Table → Atom → List ℕ
found_in table asked = found_by table asked.name (closed_first asked.args)

-- The table counts the statements, and each is found by the atoms that it is to be found by.
pub record IsTableOf (spoken : List (List Atom)) (table : Table) : Type 0 where
  pub count : table.count ≡ length spoken
  pub found : (asked : Atom) → AreFound (λ atoms. atoms) spoken asked (found_in table asked)

-- this place is found besides, by these atoms
abbrev pub IsNoted : Table → Table → ℕ → List Atom → Type 0
IsNoted old new place atoms = (asked : Atom) (i : ℕ) → Contains (found_in new asked) i ↔ (Contains (found_in old asked) i ⊎ ((i ≡ place) × IsTrue (list_any (may_match asked) atoms)))

-- the same, and as many statements are counted
pub record IsNotedIn (old new : Table) (place : ℕ) (atoms : List Atom) : Type 0 where
  pub noted : IsNoted old new place atoms
  pub count : new.count ≡ old.count

-- a place more for an atom of the name whose first argument is this one and has no variables
pub record IsWithClosed (name : List ℕ) (first : Term) (place : ℕ) (old new : Table) : Type 0 where
  pub all : IsWithName name place old.all.entries new.all.entries
  pub closed : IsWithBoth name first place old.closed.entries new.closed.entries
  pub others : new.others.entries ≡ old.others.entries
  pub count : new.count ≡ old.count

-- a place more for another atom of the name
pub record IsWithOther (name : List ℕ) (place : ℕ) (old new : Table) : Type 0 where
  pub all : IsWithName name place old.all.entries new.all.entries
  pub others : IsWithName name place old.others.entries new.others.entries
  pub closed : new.closed.entries ≡ old.closed.entries
  pub count : new.count ≡ old.count

-- one statement more is counted
pub record IsCounted (old new : Table) : Type 0 where
  pub count : new.count ≡ old.count + 1
  pub same : (asked : Atom) → found_in new asked ≡ found_in old asked

-- the tables are those of statements that are found by these atoms, kind by kind
pub record AreTablesOf (by_clauses by_laws by_denials by_macro_clauses by_rules : List (List Atom)) (tables : Tables) : Type 0 where
  pub clauses : IsTableOf by_clauses tables.clauses
  pub laws : IsTableOf by_laws tables.laws
  pub denials : IsTableOf by_denials tables.denials
  pub macro_clauses : IsTableOf by_macro_clauses tables.macro_clauses
  pub rules : IsTableOf by_rules tables.rules

-- the tables are those of the statements
abbrev pub AreTables : List Statement → Tables → Type 0
AreTables statements tables = AreTablesOf
    (map of_clause (flat_map (λ s. clause_in s.body) statements))
    (map of_law (flat_map (λ s. law_in s.body) statements))
    (map of_items (flat_map (λ s. denial_in s.body) statements))
    (map of_macro_clause (flat_map (λ s. macro_clause_in s.body) statements))
    (map of_rule (flat_map (λ s. rule_in s.body) statements))
    tables
