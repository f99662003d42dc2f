use Rattle.std.proofs.Common.{rules, ◌≡◌, sym, subst, ◌∙◌, None}
use Rattle.lps_lex.specs.Lexing.{lexed}
use Rattle.lps_batches.specs.Lines.{IsLineRead}
use Rattle.lps_batches.proofs.Read.{built_batch, built_some}
use Rattle.lps_batches.proofs.line.accepted.Goals as goal
use Rattle.lps_batches.proofs.line.accepted.Goals.{in-Some, in-None}

pub returns : goal.returns
returns c =
    let line = c.args.line.now in
    let toks = c.args.toks.now in
    let faultless : (lexed line).fault ≡ None = sym c.requires.fault ∙ search rules in
    elim c.match-branch-2.branch [
      | in-Some w ↦ subst (IsLineRead line) (sym w.result-is)
          (built_batch line toks _ _ c.requires.short faultless c.requires.toks c.requires.accepted (rw w.in-Some.is at c.in_ok-number.ensures))
      | in-None w ↦ absurd (built_some line toks c.requires.toks c.requires.accepted (rw w.in-None.is at c.in_ok-number.ensures))
    ]
