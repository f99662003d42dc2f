use Rattle.std.proofs.Common.{◌++◌, ◌∙◌, List, ℕ, sym, ap, map, take, append_assoc, arith}
use Rattle.std.specs.Prelude.{codes}
use Rattle.lps_terms.specs.Printed.{printed, separated, separator}
use Rattle.lps_terms.proofs.Printing.{printed_more, front_more, five, on_err}
use Rattle.lps_terms.proofs.print.+print.Goals as goal

pub append_call-returns-in_err-append_term-clause-front : goal.append_call-returns-in_err-append_term-clause-front
append_call-returns-in_err-append_term-clause-front t c =
    let out : List ℕ = c.args.out.now.items in
    let name : List ℕ = c.args.name.now in
    let so_far : List ℕ = separated (map printed (take c.loop-i.i c.args.args.now)) in
    let comma : List ℕ = separator c.loop-i.i in
    let before = ◌∙◌ {A = List ℕ} c.in_ok-append_separator.ensures.ok (ap (λ s. s ++ comma) c.loop-i.invariant) in
    on_err _
    (front_more out (name ++ (codes "(" ++ (so_far ++ comma))) _ _ (before ∙ five out name (codes "(") so_far comma) c.in_err-append_term.ensures.front)

pub append_call-loop-i-preserved : goal.append_call-loop-i-preserved
append_call-loop-i-preserved t c =
    let front : List ℕ = c.args.out.now.items ++ c.args.name.now ++ codes "(" in
    let so_far : List ℕ = separated (map printed (take c.loop-i.i c.args.args.now)) in
    let comma : List ℕ = separator c.loop-i.i in
    let last : List ℕ = printed c.index-args-i.result in
    let more = printed_more c.args.args.now c.loop-i.i c.index-args-i.result (omega arith) in
    let same = ap printed c.index-args-i.is in
    let before = ◌∙◌ {A = List ℕ} c.in_ok-append_separator.ensures.ok (ap (λ s. s ++ comma) c.loop-i.invariant) in
    rw (more, sym same)
    (c.in_ok-append_term.ensures.ok ∙ ap (λ s. s ++ last) before ∙ append_assoc (front ++ so_far) comma last ∙ append_assoc front so_far (comma ++ last))
