use Rattle.std.proofs.Common.{◌≡◌, List, None, subst}
use Rattle.std.proofs.lemmas.Result.{err_from_is_err_and}
use Rattle.lps_terms.specs.declared.decl.Decl.{Decl}
use Rattle.lps_model.specs.Declarations.{kind_among}
use Rattle.lps_model.specs.Levels.{level_among}
use Rattle.lps_model.specs.Order.{order_refusal}
use Rattle.lps_order.specs.Answers.{IsRightError}
use Rattle.lps_accept.proofs.Judged.{kinds_refuse, levels_refuse, modes_refuse, none_early, order_refuses}
use Rattle.lps_accept.proofs.judge.accept.Goals as goal

pub returns-in_err-kinds : goal.returns-in_err-kinds
returns-in_err-kinds c =
    let p = err_from_is_err_and c.from_residual.result c.from_residual.ensures.1 in
    rw (p.1, p.2) (kinds_refuse c.args.text c.in_err-kinds.field-0.0 c.in_err-kinds.ensures.refusal)

pub returns-in_err-ordered : goal.returns-in_err-ordered
returns-in_err-ordered c =
    let p = err_from_is_err_and c.from_residual-in_err-ordered.result c.from_residual-in_err-ordered.ensures.1 in
    let right = subst (λ (decls : List Decl). IsRightError (kind_among decls) c.args.text.statements c.in_err-ordered.field-0.0) c.in_ok-kinds.ensures.declarations c.in_err-ordered.ensures in
    rw (p.1, p.2) (order_refuses c.args.text c.in_err-ordered.field-0.0 c.in_ok-kinds.ensures.refusal right)

pub returns-in_err-modes : goal.returns-in_err-modes
returns-in_err-modes c =
    let p = err_from_is_err_and c.from_residual-in_err-modes.result c.from_residual-in_err-modes.ensures.1 in
    let ordered = subst (λ (decls : List Decl). order_refusal (kind_among decls) c.args.text.statements ≡ None) c.in_ok-kinds.ensures.declarations c.in_ok-ordered.ensures in
    rw (p.1, p.2) (modes_refuse c.args.text c.in_err-modes.field-0.0 c.in_ok-kinds.ensures.refusal ordered c.in_err-modes.ensures)

pub returns-in_err-levels : goal.returns-in_err-levels
returns-in_err-levels c =
    let p = err_from_is_err_and c.from_residual-in_err-levels.result c.from_residual-in_err-levels.ensures.1 in
    let ordered = subst (λ (decls : List Decl). order_refusal (kind_among decls) c.args.text.statements ≡ None) c.in_ok-kinds.ensures.declarations c.in_ok-ordered.ensures in
    let none = none_early c.args.text c.in_ok-kinds.ensures.refusal ordered c.in_ok-modes.ensures in
    rw (p.1, p.2) (levels_refuse c.args.text c.in_err-levels.field-0.0 none c.in_err-levels.ensures)

pub adopt-requires-clause-not_refused : goal.adopt-requires-clause-not_refused
adopt-requires-clause-not_refused c =
    let ordered = subst (λ (decls : List Decl). order_refusal (kind_among decls) c.args.text.statements ≡ None) c.in_ok-kinds.ensures.declarations c.in_ok-ordered.ensures in
    none_early c.args.text c.in_ok-kinds.ensures.refusal ordered c.in_ok-modes.ensures

pub returns : goal.returns
returns c =
    let ordered = subst (λ (decls : List Decl). order_refusal (kind_among decls) c.args.text.statements ≡ None) c.in_ok-kinds.ensures.declarations c.in_ok-ordered.ensures in (
      c.adopt.ensures,
      record {
        not_refused = none_early c.args.text c.in_ok-kinds.ensures.refusal ordered c.in_ok-modes.ensures;
        level = level_among c.in_ok-levels.levels;
        levelled = c.in_ok-levels.ensures.levelled;
      },
    )
