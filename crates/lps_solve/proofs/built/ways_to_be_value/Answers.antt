use Rattle.std.proofs.Common.{◌∙◌, ◌∷◌, [], sym, ap}
use Rattle.std.proofs.lemmas.Int.{to_z-of_z}
use Rattle.std.specs.Int.{w64}
use Rattle.lps_terms.specs.declared.built.Built.TheVariants as b
use Rattle.lps_terms.specs.declared.term.Term.TheVariants.{Int}
use Rattle.lps_values.proofs.Fits.{values_fit}
use Rattle.lps_solve.proofs.Meeting.{never_ways, value_ways, no_value_ways, fits_range}
use Rattle.lps_solve.proofs.Readiness.{never_ground_expr}
use Rattle.lps_solve.proofs.built.ways_to_be_value.Goals as goal

pub returns-in_ok-one-in-Some : goal.returns-in_ok-one-in-Some
returns-in_ok-one-in-Some c =
    let e = sym c.value.ensures ∙ c.in-Some.is in
    value_ways c.args.left c.args.right (sym c.is_ground_expr.ensures ∙ c.if-not-is_ground_expr.false) c.requires.small c.in_ok-one-in-Some.field-0 c.in-Some.value
    (fits_range c.in-Some.value (values_fit c.args.right c.in-Some.value e)) e c.in_ok-one-in-Some.ensures.terms (c.in_ok-one-in-Some.ensures.rows ∙ ap (λ v. (v ∷ []) ∷ []) (c.integer.ensures ∙ ap (λ k. Int k) (to_z-of_z w64 c.in-Some.value (values_fit c.args.right c.in-Some.value e))))

pub returns-in-None : goal.returns-in-None
returns-in-None c =
    no_value_ways c.args.left c.args.right (sym c.is_ground_expr.ensures ∙ c.if-not-is_ground_expr.false) c.requires.small c.never-in-None.result (sym c.value.ensures ∙ c.in-None.is) c.never-in-None.ensures.terms c.never-in-None.ensures.rows

pub returns-then-not-is_ground_expr : goal.returns-then-not-is_ground_expr
returns-then-not-is_ground_expr c =
    never_ways (b.Is c.args.left c.args.right) c.never.result (λ s ground. never_ground_expr c.args.right c.requires.ready (sym c.is_ground_expr.ensures ∙ c.if-not-is_ground_expr.true) s ground.1) c.never.ensures.terms c.never.ensures.rows
