use Rattle.std.proofs.Common.{◌≡◌, ◌∙◌, ◌+◌, ◌-◌, ◌<◌, ap, sym, subst, arith, Ok, drop, length, length-drop, [], ◌∷◌, ◌++◌}
use Rattle.std.proofs.lemmas.List.{drop-drop}
use Rattle.lps_lex.specs.Piece.{FitsIn, piece_of}
use Rattle.lps_lex.specs.declared.piece.Piece.TheVariants as piece
use Rattle.lps_lex.specs.Lexing.{after, lexed, lexed_from, Lexing}
use Rattle.lps_lex.specs.declared.token.Token.{Token}
use Rattle.lps_lex.proofs.Steps.{after-led_by, lexed_from-blanks, lexed_from-fault, lexed_from-feed, lexed_from-token, end_tokens, tokens_so_far}
use Rattle.lps_lex.proofs.Places.{lexed_apart, lexed_spans}
use Rattle.lps_lex.proofs.scan.lex.Goals as goal

pub loop-at-preserved-in-Ok-LineFeed : goal.loop-at-preserved-in-Ok-LineFeed
loop-at-preserved-in-Ok-LineFeed c =
    let at = c.loop-at.at in
    let line = c.loop-at.line in
    let bytes = c.args.bytes.now in
    let tokens = c.loop-at.tokens.items in
    let here : piece_of line (drop at bytes) ≡ Ok piece.LineFeed = sym c.in-Ok-LineFeed.ensures.same ∙ ap Ok c.in-Ok-LineFeed.field-0-is in
    let some : 0 < length (drop at bytes) = omega (arith, length-drop at bytes) in
    record {
      so_far = c.loop-at.invariant.so_far ∙ ap (after tokens) (lexed_from-feed (drop at bytes) line at some here
          ∙ ap (λ left. lexed_from left 0 (line + 1) (at + 1)) (drop-drop 1 at bytes));
      within = omega arith;
      lines = omega arith;
    }

pub loop-at-preserved-in-Ok-Blanks : goal.loop-at-preserved-in-Ok-Blanks
loop-at-preserved-in-Ok-Blanks c =
    let at = c.loop-at.at in
    let line = c.loop-at.line in
    let count = c.in-Ok-Blanks.length in
    let bytes = c.args.bytes.now in
    let tokens = c.loop-at.tokens.items in
    let here : piece_of line (drop at bytes) ≡ Ok (piece.Blanks count) = sym c.in-Ok-Blanks.ensures.same ∙ ap Ok c.in-Ok-Blanks.field-0-is in
    let fits = subst (FitsIn (length bytes - at)) c.in-Ok-Blanks.field-0-is c.in-Ok-Blanks.ensures.fits in
    let some : 0 < length (drop at bytes) = omega (arith, length-drop at bytes) in
    record {
      so_far = c.loop-at.invariant.so_far ∙ ap (after tokens) (lexed_from-blanks (drop at bytes) count line at some fits.0 here
          ∙ ap (λ left. lexed_from left 0 line (at + count)) (drop-drop count at bytes));
      within = omega (arith, fits.1);
      lines = omega arith;
    }

pub loop-at-preserved : goal.loop-at-preserved
loop-at-preserved c =
    let at = c.loop-at.at in
    let line = c.loop-at.line in
    let count = c.in-Ok-Token.length in
    let bytes = c.args.bytes.now in
    let tokens = c.loop-at.tokens.items in
    let here : piece_of line (drop at bytes) ≡ Ok (piece.Token c.in-Ok-Token.kind count) = sym c.in-Ok-Token.ensures.same ∙ ap Ok c.in-Ok-Token.field-0-is in
    let fits = subst (FitsIn (length bytes - at)) c.in-Ok-Token.field-0-is c.in-Ok-Token.ensures.fits in
    let some : 0 < length (drop at bytes) = omega (arith, length-drop at bytes) in
    let token : Token = record { kind = c.in-Ok-Token.kind; start = at; end = at + count; line = line } in
    record {
      so_far = c.loop-at.invariant.so_far ∙ ap (after tokens) (lexed_from-token (drop at bytes) c.in-Ok-Token.kind count line at some fits.0 here)
          ∙ after-led_by tokens token (lexed_from (drop count (drop at bytes)) 0 line (at + count))
          ∙ ap (λ left. after (tokens ++ token ∷ []) (lexed_from left 0 line (at + count))) (drop-drop count at bytes)
          ∙ ap (λ found. after found (lexed_from (drop (at + count) bytes) 0 line (at + count))) (sym c.in_ok-push-in-Ok-Token.ensures.items);
      within = omega (arith, fits.1);
      lines = omega arith;
    }

pub returns-in-Err-clause-fault : goal.returns-in-Err-clause-fault
returns-in-Err-clause-fault c =
    let at = c.loop-at.at in
    let bytes = c.args.bytes.now in
    let some : 0 < length (drop at bytes) = omega (arith, length-drop at bytes) in
    sym (ap (λ (lexing : Lexing). lexing.fault) (c.loop-at.invariant.so_far
    ∙ ap (after c.loop-at.tokens.items) (lexed_from-fault (drop at bytes) c.in-Err.refused c.loop-at.line at some (sym c.in-Err.ensures.same))))

pub returns-in-Err-clause-spans : goal.returns-in-Err-clause-spans
returns-in-Err-clause-spans c =
    let at = c.loop-at.at in
    let bytes = c.args.bytes.now in
    let some : 0 < length (drop at bytes) = omega (arith, length-drop at bytes) in
    let fault = lexed_from-fault (drop at bytes) c.in-Err.refused c.loop-at.line at some (sym c.in-Err.ensures.same) in
    lexed_spans bytes c.loop-at.tokens.items (tokens_so_far (lexed bytes) _ c.loop-at.tokens.items c.loop-at.invariant.so_far (ap (λ (lexing : Lexing). lexing.tokens) fault))

pub returns-in-Err-clause-apart : goal.returns-in-Err-clause-apart
returns-in-Err-clause-apart c =
    let at = c.loop-at.at in
    let bytes = c.args.bytes.now in
    let some : 0 < length (drop at bytes) = omega (arith, length-drop at bytes) in
    let fault = lexed_from-fault (drop at bytes) c.in-Err.refused c.loop-at.line at some (sym c.in-Err.ensures.same) in
    lexed_apart bytes c.loop-at.tokens.items (tokens_so_far (lexed bytes) _ c.loop-at.tokens.items c.loop-at.invariant.so_far (ap (λ (lexing : Lexing). lexing.tokens) fault))

pub returns-clause-spans : goal.returns-clause-spans
returns-clause-spans c =
    let bytes = c.args.bytes.now in
    lexed_spans bytes c.loop-at.tokens.items
    (tokens_so_far (lexed bytes) _ c.loop-at.tokens.items c.loop-at.invariant.so_far (end_tokens c.loop-at.at c.loop-at.line bytes (omega arith)))

pub returns-clause-apart : goal.returns-clause-apart
returns-clause-apart c =
    let bytes = c.args.bytes.now in
    lexed_apart bytes c.loop-at.tokens.items
    (tokens_so_far (lexed bytes) _ c.loop-at.tokens.items c.loop-at.invariant.so_far (end_tokens c.loop-at.at c.loop-at.line bytes (omega arith)))
