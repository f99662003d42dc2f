-- The tokens of a line of events are read as what its tree means.
use Rattle.std.specs.Prelude.{ℕ, zero, suc, ◌≡◌, ◌++◌, false, List, [], ◌∷◌, length, Option, Some, None, refl}
use Rattle.std.proofs.Common.{◌∙◌, sym, ap, arith, subst, append-nil, append_assoc}
use Rattle.lps_terms.specs.declared.atom.Atom.{Atom}
use Rattle.lps_grammar.specs.declared.tok.Tok.{Tok}
use Rattle.lps_grammar.specs.declared.tok.Tok.TheVariants as k
use Rattle.lps_grammar.specs.Terms as g
use Rattle.lps_grammar.specs.Lines as gl
use Rattle.lps_build.specs.Meaning.{atom_of, more_events_of, events_of, line_of}
use Rattle.lps_build.specs.ReadTerms.{atom_in, then_in}
use Rattle.lps_build.specs.ReadItems.{more_parts_in, parts_in}
use Rattle.lps_build.specs.ReadLines.{events_in, line_end, line_in}
use Rattle.lps_build.specs.Fits.{AreNamed, Fits, EndsName}
use Rattle.lps_build.proofs.Left.{left_atom}
use Rattle.lps_build.proofs.TermTrees.{fits_tail, fits_next, no_room, read_atom}
use Rattle.lps_build.specs.Ends.{End}
use Rattle.lps_build.proofs.Stops.{end_parts}

ends_events : (xs : gl.MoreEvents) (ts : List Tok) → EndsName (gl.spell_more_events xs (k.Dot ∷ ts))
ends_events gl.no_event ts = λ some. refl
ends_events (gl.also_event x xs) ts = λ some. refl

more_events : (xs : gl.MoreEvents) (d : ℕ) (before : List Atom) (ts : List Tok) → Fits d (gl.spell_more_events xs (k.Dot ∷ ts)) → more_parts_in atom_in d before (gl.spell_more_events xs (k.Dot ∷ ts)) ≡ Some (before ++ more_events_of xs, k.Dot ∷ ts)
more_events gl.no_event d before ts p = end_parts atom_in d before (k.Dot ∷ ts) (End.end_dot ts) ∙ ap (λ z. Some (z, k.Dot ∷ ts)) (sym (append-nil before))
more_events (gl.also_event x xs) zero before ts p = no_room _ _ p
more_events (gl.also_event x xs) (suc d) before ts p =
    let q = fits_next d _ _ p in
    let us = gl.spell_more_events xs (k.Dot ∷ ts) in
    ap (λ o. then_in o (λ y vs. more_parts_in atom_in d (before ++ y ∷ []) vs)) (read_atom x d us q (ends_events xs ts))
    ∙ more_events xs d (before ++ atom_of x ∷ []) ts (left_atom (Fits d) (fits_tail d) x us q)
    ∙ ap (λ z. Some (z, k.Dot ∷ ts)) (append_assoc before (atom_of x ∷ []) (more_events_of xs))

first_event : (a : g.Atom false) (d : ℕ) (us : List Tok) → events_in d (g.spell_atom a us) ≡ parts_in atom_in d (g.spell_atom a us)
first_event (g.atom n xs) d us = refl

read_events : (x : gl.Events) (d : ℕ) (ts : List Tok) → Fits d (gl.spell_events x (k.Dot ∷ ts)) → events_in d (gl.spell_events x (k.Dot ∷ ts)) ≡ Some (events_of x, k.Dot ∷ ts)
read_events gl.none d ts p = refl
read_events (gl.events x xs) d ts p =
    let us = gl.spell_more_events xs (k.Dot ∷ ts) in
    first_event x d us
    ∙ ap (λ o. then_in o (λ y vs. more_parts_in atom_in d (y ∷ []) vs)) (read_atom x d us p (ends_events xs ts))
    ∙ more_events xs d (atom_of x ∷ []) ts (left_atom (Fits d) (fits_tail d) x us p)

pub read_line : (x : gl.Line) (d : ℕ) (ts : List Tok) → Fits d (gl.spell_line x ts) → line_in d (gl.spell_line x ts) ≡ Some (line_of x, ts)
read_line (gl.line n xs) d ts p = ap (λ o. then_in o (λ ys vs. line_end n ys vs)) (read_events xs d ts (fits_tail d _ _ (fits_tail d _ _ p)))

line_is : (x : gl.Line) (toks : List Tok) → toks ≡ gl.spell_line x [] → AreNamed toks → line_in (length toks) toks ≡ Some (line_of x, [])
line_is x toks e named = subst Reads (sym e) (λ n. read_line x _ [] (record { named = n; few = omega arith })) named
  where
    Reads : List Tok → Type 0
    Reads ts = AreNamed ts → line_in (length ts) ts ≡ Some (line_of x, [])

pub line_missing : (x : gl.Line) (toks : List Tok) → line_in (length toks) toks ≡ None → toks ≡ gl.spell_line x [] → AreNamed toks → ⊥
line_missing x toks none e named = let both = sym none ∙ line_is x toks e named in absurd cc

abbrev found_in : Option ((ℕ × List Atom) × List Tok) → ℕ × List Atom
found_in None = (0, [])
found_in (Some p) = p.0

pub line_found : (x : gl.Line) (toks : List Tok) (found : ℕ × List Atom) (rest : List Tok) → line_in (length toks) toks ≡ Some (found, rest) → toks ≡ gl.spell_line x [] → AreNamed toks → found ≡ line_of x
line_found x toks found rest some e named = ap found_in (sym some ∙ line_is x toks e named)
