-- Symbols of lists, counted as far as a count goes.
use Rattle.std.proofs.Common.{ℕ, ◌≡◌, ◌∙◌, ◌+◌, List, [], ◌∷◌, ◌++◌, sym, ap, arith}
use Rattle.std.proofs.lemmas.List.Sums.{sum_by-cons}
use Rattle.lps_nodes.specs.Nodes.{node_size}
use Rattle.lps_sizes.specs.Sizes.{limited}
use Rattle.lps_antecedents.specs.declared.held.Held.{Held}
use Rattle.lps_antecedents.specs.declared.slot.Slot.{Slot}
use Rattle.lps_antecedents.specs.Slots.{held_size, waiting_in}
use Rattle.lps_antecedents.proofs.Slots.{where_appended}

pub size_appended : (hs others : List Held) → held_size (hs ++ others) ≡ held_size hs + held_size others
size_appended [] others = let nothing : 0 + held_size others ≡ held_size others = omega arith in sym nothing
size_appended (h ∷ hs) others =
    let more = sum_by-cons (λ (x : Held). node_size x.node) h (hs ++ others) in
    let first = sum_by-cons (λ (x : Held). node_size x.node) h hs in
    let rest = size_appended hs others in
    omega (arith, more, first, rest)

-- what is counted next, as far as a count goes, is counted
pub counted : (count next rest : ℕ) → limited (limited (count + limited next) + rest) ≡ limited (count + (next + rest))
counted count next rest = omega arith

pub one_counted : (count : ℕ) (slot : Slot) (slots : List Slot) →
    limited (limited (count + limited (held_size (waiting_in (slot ∷ [])))) + held_size (waiting_in slots)) ≡ limited (count + held_size (waiting_in (slot ∷ slots)))
one_counted count slot slots =
    counted count (held_size (waiting_in (slot ∷ []))) (held_size (waiting_in slots))
    ∙ ap (λ n. limited (count + n)) (sym (size_appended (waiting_in (slot ∷ [])) (waiting_in slots)) ∙ ap held_size (sym (where_appended (λ s. s.waits) (slot ∷ []) slots)))
