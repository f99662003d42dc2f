use Rattle.std.proofs.Common.{◌≡◌, ◌∙◌, ◌||◌, ap, sym, arith}
use Rattle.std.specs.List.{list_any}
use Rattle.lps_terms.specs.Order.{args_of, args_of-App, term_eq}
use Rattle.lps_terms.specs.OrderLaws.{symbols_of-args}
use Rattle.lps_terms.specs.Symbols.{symbols_of_all}
use Rattle.lps_model.specs.Calls.{is_inside}
use Rattle.lps_levels.proofs.Subterms.{is_inside-args}
use Rattle.lps_levels.proofs.inside.+inside.Goals as goal

pub is_inside-is_or_is_inside-requires : goal.is_inside-is_or_is_inside-requires
is_inside-is_or_is_inside-requires t c =
    let args : args_of c.args.outer.now ≡ c.in-App.args = ap args_of c.in-App.is ∙ args_of-App c.in-App.field-0 _ in
    (omega (arith, c.decreases, symbols_of-args c.args.outer.now, ap symbols_of_all (c.as_slice.ensures ∙ sym args)), tt)

pub is_inside-returns-in-App : goal.is_inside-returns-in-App
is_inside-returns-in-App t c =
    let args : args_of c.args.outer.now ≡ c.in-App.args = ap args_of c.in-App.is ∙ args_of-App c.in-App.field-0 _ in
    c.is_or_is_inside.ensures ∙ ap (list_any (λ term. term_eq c.args.inner.now term || is_inside c.args.inner.now term)) (c.as_slice.ensures ∙ sym args) ∙ sym (is_inside-args c.args.inner.now c.args.outer.now)
