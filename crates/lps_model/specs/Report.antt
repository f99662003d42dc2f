-- The lines of a report that tell of events.
use Rattle.std.specs.Prelude.{ℕ, List, [], ◌∷◌, ◌++◌, codes}
use Rattle.std.specs.Fmt.{decimal}
use Rattle.lps_terms.specs.declared.atom.Atom.{Atom}
use Rattle.lps_terms.specs.Printed.{atom_text}
use Rattle.lps_model.specs.declared.verdict.Verdict.{Verdict}
use Rattle.lps_model.specs.declared.verdict.Verdict.TheVariants.{Admitted, Rejected}

-- `admit A`, or `reject A by K`
abbrev pub verdict_line : Atom → Verdict → List ℕ
verdict_line event Admitted = codes "admit " ++ atom_text event ++ codes "\n"
verdict_line event (Rejected denial) = codes "reject " ++ atom_text event ++ codes " by " ++ decimal denial ++ codes "\n"

-- a line for each event, in order
abbrev pub verdict_lines : List Atom → List Verdict → List ℕ
verdict_lines (event ∷ events) (verdict ∷ verdicts) = verdict_line event verdict ++ verdict_lines events verdicts
verdict_lines _ _ = []
