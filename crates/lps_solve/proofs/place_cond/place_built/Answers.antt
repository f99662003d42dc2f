use Rattle.std.proofs.Common.{◌<◌, ◌+◌, subst}
use Rattle.lps_terms.specs.declared.built.Built.{Built}
use Rattle.lps_model.specs.VariableLists.{built_vars, expr_vars, term_vars}
use Rattle.lps_unify.specs.Bindings.{count_of}
use Rattle.lps_solve.specs.Placed.{AreBelow}
use Rattle.lps_solve.proofs.Vars.{all_first, all_second}
use Rattle.lps_solve.proofs.place_cond.place_built.Goals as goal

pub place_term-requires-in-Some : goal.place_term-requires-in-Some
place_term-requires-in-Some c =
    all_second (λ v. c.args.base + v < count_of c.args.bindings.now) (term_vars c.in-Same.left) (term_vars c.in-Same.right) (subst (λ (x : Built). AreBelow (count_of c.args.bindings.now) c.args.base (built_vars x)) c.in-Same.is c.requires)

pub place_term-requires-in-Differ : goal.place_term-requires-in-Differ
place_term-requires-in-Differ c =
    all_first (λ v. c.args.base + v < count_of c.args.bindings.now) (term_vars c.in-Differ.left) (term_vars c.in-Differ.right) (subst (λ (x : Built). AreBelow (count_of c.args.bindings.now) c.args.base (built_vars x)) c.in-Differ.is c.requires)

pub place_term-requires-in-Some-3 : goal.place_term-requires-in-Some-3
place_term-requires-in-Some-3 c =
    all_second (λ v. c.args.base + v < count_of c.args.bindings.now) (term_vars c.in-Differ.left) (term_vars c.in-Differ.right) (subst (λ (x : Built). AreBelow (count_of c.args.bindings.now) c.args.base (built_vars x)) c.in-Differ.is c.requires)

pub place_term-requires-in-Is : goal.place_term-requires-in-Is
place_term-requires-in-Is c =
    all_first (λ v. c.args.base + v < count_of c.args.bindings.now) (term_vars c.in-Is.left) (expr_vars c.in-Is.right) (subst (λ (x : Built). AreBelow (count_of c.args.bindings.now) c.args.base (built_vars x)) c.in-Is.is c.requires)

pub place_expr-requires : goal.place_expr-requires
place_expr-requires c =
    all_second (λ v. c.args.base + v < count_of c.args.bindings.now) (term_vars c.in-Is.left) (expr_vars c.in-Is.right) (subst (λ (x : Built). AreBelow (count_of c.args.bindings.now) c.args.base (built_vars x)) c.in-Is.is c.requires)

pub place_expr-requires-in-Compare : goal.place_expr-requires-in-Compare
place_expr-requires-in-Compare c =
    all_first (λ v. c.args.base + v < count_of c.args.bindings.now) (expr_vars c.in-Compare.left) (expr_vars c.in-Compare.right) (subst (λ (x : Built). AreBelow (count_of c.args.bindings.now) c.args.base (built_vars x)) c.in-Compare.is c.requires)

pub place_expr-requires-in-Some-7 : goal.place_expr-requires-in-Some-7
place_expr-requires-in-Some-7 c =
    all_second (λ v. c.args.base + v < count_of c.args.bindings.now) (expr_vars c.in-Compare.left) (expr_vars c.in-Compare.right) (subst (λ (x : Built). AreBelow (count_of c.args.bindings.now) c.args.base (built_vars x)) c.in-Compare.is c.requires)
