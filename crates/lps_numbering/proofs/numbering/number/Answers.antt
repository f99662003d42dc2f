use Rattle.std.proofs.Common.{◌≡◌, ◌+◌, ◌∙◌, ap, sym, arith, take}
use Rattle.std.proofs.lemmas.Bool.{ltb-false}
use Rattle.std.proofs.lemmas.List.{take_all}
use Rattle.lps_numbering.specs.Numbers.{statements_of, toks_of, up_to}
use Rattle.lps_numbering.specs.declared.numbered.Numbered.{Numbered}
use Rattle.lps_numbering.proofs.Folds.{AreNumbered, both_ok, next_not_crowded, next_numbered, statements_are}
use Rattle.lps_numbering.proofs.numbering.number.Goals as goal

pub returns-then-is_crowded-clause-toks : goal.returns-then-is_crowded-clause-toks
returns-then-is_crowded-clause-toks c =
    let tokens = c.args.tokens.now in
    let i = c.loop-i.i in
    let now : AreNumbered c.args.bytes.now (take (i + 1) tokens) c.take_token.new.self.toks.items c.take_token.new.self.statements.items c.take_token.new.self.names =
    next_numbered c.args.bytes.now tokens i _ c.text.result.now _ _ _ _ _ _ (omega arith) c.text.ensures c.loop-i.invariant.so_far
    c.in_ok-take_token.ensures.toks c.in_ok-take_token.ensures.statements c.in_ok-take_token.ensures.names in
    both_ok c.ended.result
    (λ (found : Numbered) crowded toks. toks ∙ now.toks_are ∙ ap (λ k. toks_of c.args.bytes.now (up_to k tokens)) (sym crowded))
    c.ended.ensures.crowded c.ended.ensures.toks

pub returns-then-is_crowded-clause-statements : goal.returns-then-is_crowded-clause-statements
returns-then-is_crowded-clause-statements c =
    let tokens = c.args.tokens.now in
    let i = c.loop-i.i in
    let now : AreNumbered c.args.bytes.now (take (i + 1) tokens) c.take_token.new.self.toks.items c.take_token.new.self.statements.items c.take_token.new.self.names =
    next_numbered c.args.bytes.now tokens i _ c.text.result.now _ _ _ _ _ _ (omega arith) c.text.ensures c.loop-i.invariant.so_far
    c.in_ok-take_token.ensures.toks c.in_ok-take_token.ensures.statements c.in_ok-take_token.ensures.names in
    both_ok c.ended.result
    (λ (found : Numbered) crowded statements. statements ∙ statements_are _ _ _ _ _ now ∙ ap (λ k. statements_of c.args.bytes.now (up_to k tokens)) (sym crowded))
    c.ended.ensures.crowded c.ended.ensures.statements

pub loop-i-preserved : goal.loop-i-preserved
loop-i-preserved c =
    let bytes = c.args.bytes.now in
    let tokens = c.args.tokens.now in
    let i = c.loop-i.i in
    record {
      so_far = next_numbered bytes tokens i _ c.text.result.now _ _ _ _ _ _ (omega arith) c.text.ensures c.loop-i.invariant.so_far
          c.in_ok-take_token.ensures.toks c.in_ok-take_token.ensures.statements c.in_ok-take_token.ensures.names;
      none_crowded = c.loop-i.invariant.none_crowded
          ∙ next_not_crowded bytes tokens i _ c.text.result.now _ _ (omega arith) c.text.ensures c.in_ok-take_token.ensures.names c.if-is_crowded.ensures;
      low = ltb-false _ _ (sym c.if-is_crowded.ensures);
    }

pub returns-clause-statements : goal.returns-clause-statements
returns-clause-statements c =
    let tokens = c.args.tokens.now in
    let all : take c.loop-i.i tokens ≡ tokens = take_all c.loop-i.i tokens (omega arith) in
    both_ok c.ended-2.result
    (λ (found : Numbered) crowded statements. statements ∙ statements_are _ _ _ _ _ c.loop-i.invariant.so_far ∙ ap (statements_of c.args.bytes.now) all
    ∙ ap (λ k. statements_of c.args.bytes.now (up_to k tokens)) (sym crowded))
    c.ended-2.ensures.crowded c.ended-2.ensures.statements
