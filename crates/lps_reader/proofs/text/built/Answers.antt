use Rattle.std.proofs.Common.{◌≡◌, ◌∙◌, ℕ, List, ap, map, sym, subst, length}
use Rattle.lps_lex.specs.declared.token.Token.{Token}
use Rattle.lps_grammar.specs.declared.tok.Tok.{Tok}
use Rattle.lps_build.specs.Fits.{AreNamed}
use Rattle.lps_build.specs.Meaning.{bodies_of}
use Rattle.lps_reader.specs.Refusals.{tokens_in}
use Rattle.lps_reader.specs.Made.{line_of, statements_made}
use Rattle.lps_reader.specs.Refusing.{line_at}
use Rattle.lps_reader.proofs.Texts.{made_same, named, tree_of}
use Rattle.lps_reader.proofs.text.built.Goals as goal

pub unreachable-requires : goal.unreachable-requires
unreachable-requires c =
    let bytes = c.args.bytes.now in
    let tree = tree_of bytes c.requires.accepted in
    let toks = c.as_slice-2.ensures.value ∙ c.requires.toks in
    rw c.in_default.is at (c.in_ok-bodies.ensures tree.0 (toks ∙ tree.1) (subst AreNamed (sym toks) (named bytes)))

pub returns : goal.returns
returns c =
    let bytes = c.args.bytes.now in
    let tree = tree_of bytes c.requires.accepted in
    let toks = c.as_slice-2.ensures.value ∙ c.requires.toks in
    let bodies : c.in-Some.bodies.items ≡ _ = rw c.in-Some.is at (c.in_ok-bodies.ensures tree.0 (toks ∙ tree.1) (subst AreNamed (sym toks) (named bytes))) in
    record {
      accepted = c.requires.accepted;
      tree = tree.0;
      spelled = tree.1;
      statements =
          c.in_ok-statements.ensures
          ∙ ap (λ (lines : List ℕ). statements_made (line_of lines) c.in-Some.bodies.items c.args.found.numbered.statements.items)
          (c.as_slice-3.ensures.value ∙ c.in_ok-lines.ensures ∙ ap (map (λ (token : Token). token.line)) (c.as_slice.ensures.value ∙ c.requires.tokens))
          ∙ made_same (tokens_in bytes) c.in-Some.bodies.items c.args.found.numbered.statements.items
          ∙ (λ i. statements_made (line_at (tokens_in bytes)) ((bodies ∙ ap (λ (ts : List Tok). bodies_of (length ts) tree.0) toks) i) (c.requires.statements i));
    }
