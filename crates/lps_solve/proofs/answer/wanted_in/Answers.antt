use Rattle.std.proofs.Common.{◌∙◌, [], ap, arith, map, List}
use Rattle.std.specs.List.{flat_map}
use Rattle.lps_terms.specs.declared.cond.Cond.{Cond}
use Rattle.lps_terms.specs.declared.term.Term.TheVariants.{Var}
use Rattle.lps_model.specs.VariableLists.{cond_vars}
use Rattle.lps_derivation.specs.Instances.{put_cond}
use Rattle.lps_unify.specs.Bindings.{count_of, standing}
use Rattle.lps_solve.specs.Answers.{with_vars}
use Rattle.lps_solve.proofs.Answering.{cond_below, large_at, more_noted}
use Rattle.lps_solve.proofs.Conditions.{placed_none, placed_some}
use Rattle.lps_solve.proofs.Gaining.{take_whole}
use Rattle.lps_solve.proofs.answer.wanted_in.Goals as goal

pub place_cond-requires : goal.place_cond-requires
place_cond-requires c = cond_below (count_of c.args.bindings.now) c.args.conds.now c.loop-cond.cond-index c.cond-item.result c.loop-cond-test.true c.cond-item.is c.requires.below

pub returns-in-None : goal.returns-in-None
returns-in-None c = large_at c.args.bindings.now c.args.conds.now c.loop-cond.cond-index c.cond-item.result c.loop-cond-test.true c.cond-item.is
    (placed_none c.args.bindings.now 0 c.cond-item.result c.in_ok-cond.field-0 c.in-None.is c.in_ok-cond.ensures)

pub loop-cond-preserved : goal.loop-cond-preserved
loop-cond-preserved c =
    let placed = placed_some c.args.bindings.now 0 c.cond-item.result c.in_ok-cond.field-0 c.in-Some.cond c.in-Some.is c.in_ok-cond.ensures in
    more_noted c.args.bindings.now c.args.conds.now c.loop-cond.cond-index c.cond-item.result c.in-Some.cond c.loop-cond.variables.keys c.note_cond.new.variables.keys c.loop-cond-test.true c.cond-item.is placed.0
    c.loop-cond.invariant c.in_ok-note_cond-in-Some.ensures

pub returns : goal.returns
returns c =
    c.in_ok-as_terms.ensures
    ∙ ap (λ vs. map (λ v. Var v) vs) (c.loop-cond.invariant
    ∙ ap (λ (ks : List Cond). with_vars [] (flat_map cond_vars (map (put_cond (standing c.args.bindings.now).value) ks))) (take_whole c.loop-cond.cond-index c.args.conds.now (omega arith)))
