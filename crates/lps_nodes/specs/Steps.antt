-- Single steps between shapes: the first items left are met, or the first item left is a call and a clause's body stands in its
-- place. Each step leads to the most general of what it may leave.
use Rattle.std.specs.Prelude.{◌≡◌, ◌++◌, ℕ, suc, None, List, ◌∷◌}
use Rattle.std.specs.List.{flat_map}
use Rattle.lps_terms.specs.declared.term.Term.{Term}
use Rattle.lps_terms.specs.declared.text.Text.{Text}
use Rattle.lps_terms.specs.Put.{put_atom}
use Rattle.lps_model.specs.declared.trace.Trace.{Trace}
use Rattle.lps_meaning.specs.declared.node.Left.{Left}
use Rattle.lps_meaning.specs.declared.node.LeftItem.TheVariants as l
use Rattle.lps_meaning.specs.declared.when.When.{When}
use Rattle.lps_meaning.specs.declared.when.When.TheVariants.{Known}
use Rattle.lps_model.specs.Rules.{MacroClause}
use Rattle.lps_meaning.specs.Sequences.{Place, Values, Times, Walk, stop, pass, replace, entries}
use Rattle.lps_nodes.specs.Shapes.{Shape, put_shape, left_of, con_of}

-- with these items before those left
abbrev pub in_front : List Left → Shape → Shape
in_front ls g = record { carry = g.carry; rest = ls ++ g.rest; limits = g.limits }

-- The first items left are met as these: h is then left, and nothing more general can be.
pub record PassesTo (ls : List Left) (g h : Shape) : Type 0 where
  pub v : ℕ → Term
  pub x : ℕ → When
  pub own : put_shape v x g ≡ in_front ls h
  pub general : (y : ℕ → Term) (z : ℕ → When) (k : Shape) → put_shape y z g ≡ in_front ls k → (a : ℕ → Term) × (c : ℕ → When) × (k ≡ put_shape a c h)

-- the first item left is a call of the clause's head with u and w put in, and the body with u and w put in stands in its place
pub record Unfolds (text : Text) (clause : MacroClause) (u : ℕ → Term) (w : ℕ → When) (g h : Shape) : Type 0 where
  pub nest : ℕ
  pub rest : List Left
  pub call : g.rest ≡ record { item = l.Span (put_atom u clause.head) (w clause.begin) (w clause.end); nest = nest } ∷ rest
  pub body : h ≡ record {
    carry = g.carry;
    rest = flat_map (λ e. left_of u w e.nest e.item) (entries text 0 (suc nest) None clause.items) ++ rest;
    limits = g.limits ++ flat_map (con_of w) clause.items;
  }

-- The call is unfolded by the clause: h is then left, and nothing more general can be.
pub record UnfoldsTo (text : Text) (clause : MacroClause) (g h : Shape) : Type 0 where
  pub v : ℕ → Term
  pub x : ℕ → When
  pub u : ℕ → Term
  pub w : ℕ → When
  pub own : Unfolds text clause u w (put_shape v x g) h
  pub general : (y : ℕ → Term) (z : ℕ → When) (u : ℕ → Term) (w : ℕ → When) (k : Shape) → Unfolds text clause u w (put_shape y z g) k →
      (a : ℕ → Term) × (c : ℕ → When) × (k ≡ put_shape a c h)

-- shapes along a walk, each a single step from the one before
abbrev pub Chain : {text : Text} {level : List ℕ → ℕ} {trace : Trace} {given : List ℕ} {s : Values} {t : Times} {now : ℕ} {end place : Place} →
    Walk text level trace given s t now end place → Shape → Shape → Type 0
Chain stop g k = g ≡ k
Chain {s = s} {t = t} (pass env nest joins item rest left no_call is_true small placed walk) g k =
    (h : Shape) × PassesTo (left_of (s env) (λ v. Known (t env v)) nest item) g h × Chain walk h k
Chain {text = text} (replace e rest a from to number clause left item macro named values times small walk) g k =
    (h : Shape) × UnfoldsTo text clause g h × Chain walk h k
