-- The tokens that may follow a part, and what does not go on before them.
use Rattle.std.specs.Prelude.{ℕ, zero, suc, pos, ◌≡◌, false, List, Option, Some, refl}
use Rattle.lps_terms.specs.declared.atom.Atom.{Atom}
use Rattle.lps_terms.specs.declared.lit.Lit.{Lit}
use Rattle.lps_terms.specs.declared.cond.Cond.TheVariants as c
use Rattle.lps_terms.specs.declared.item.Item.TheVariants as i
use Rattle.lps_grammar.specs.declared.tok.Tok.{Tok}
use Rattle.lps_build.specs.Meaning.{lit_of}
use Rattle.lps_build.specs.ReadItems.{named_cond, named_item, placed_in, shift_in, more_parts_in}
use Rattle.lps_build.specs.Fits.{EndsName, EndsProd, EndsSum}
use Rattle.lps_build.specs.Ends.{End, Stop}

pub ends_stop : (ts : List Tok) → End ts → Stop ts
ends_stop _ (End.end_dot ts) = Stop.dot ts
ends_stop _ (End.end_then ts) = Stop.before_then ts
ends_stop _ (End.end_or ts) = Stop.before_or ts
ends_stop _ (End.end_close ts) = Stop.before_close ts

pub stop_name : (ts : List Tok) → Stop ts → EndsName ts
stop_name _ (Stop.comma ts) = λ some. refl
stop_name _ (Stop.dot ts) = λ some. refl
stop_name _ (Stop.before_then ts) = λ some. refl
stop_name _ (Stop.before_or ts) = λ some. refl
stop_name _ (Stop.before_close ts) = λ some. refl

pub stop_prod : (ts : List Tok) → Stop ts → EndsProd ts
stop_prod _ (Stop.comma ts) = λ before go. refl
stop_prod _ (Stop.dot ts) = λ before go. refl
stop_prod _ (Stop.before_then ts) = λ before go. refl
stop_prod _ (Stop.before_or ts) = λ before go. refl
stop_prod _ (Stop.before_close ts) = λ before go. refl

pub stop_sum : (ts : List Tok) → Stop ts → EndsSum ts
stop_sum _ (Stop.comma ts) = λ before go. refl
stop_sum _ (Stop.dot ts) = λ before go. refl
stop_sum _ (Stop.before_then ts) = λ before go. refl
stop_sum _ (Stop.before_or ts) = λ before go. refl
stop_sum _ (Stop.before_close ts) = λ before go. refl

pub stop_cond : (d : ℕ) (a : Atom) (ts : List Tok) → Stop ts → named_cond d a ts ≡ Some (c.Lit (lit_of false a), ts)
stop_cond d a _ (Stop.comma ts) = refl
stop_cond d a _ (Stop.dot ts) = refl
stop_cond d a _ (Stop.before_then ts) = refl
stop_cond d a _ (Stop.before_or ts) = refl
stop_cond d a _ (Stop.before_close ts) = refl

pub stop_item : (d : ℕ) (a : Atom) (ts : List Tok) → Stop ts → named_item d a ts ≡ Some (i.Bare (lit_of false a), ts)
stop_item d a _ (Stop.comma ts) = refl
stop_item d a _ (Stop.dot ts) = refl
stop_item d a _ (Stop.before_then ts) = refl
stop_item d a _ (Stop.before_or ts) = refl
stop_item d a _ (Stop.before_close ts) = refl

pub stop_placed : (l : Lit) (ts : List Tok) → Stop ts → placed_in l ts ≡ Some (i.Bare l, ts)
stop_placed l _ (Stop.comma ts) = refl
stop_placed l _ (Stop.dot ts) = refl
stop_placed l _ (Stop.before_then ts) = refl
stop_placed l _ (Stop.before_or ts) = refl
stop_placed l _ (Stop.before_close ts) = refl

pub stop_shift : (ts : List Tok) → Stop ts → shift_in ts ≡ Some (pos 0, ts)
stop_shift _ (Stop.comma ts) = refl
stop_shift _ (Stop.dot ts) = refl
stop_shift _ (Stop.before_then ts) = refl
stop_shift _ (Stop.before_or ts) = refl
stop_shift _ (Stop.before_close ts) = refl

pub end_parts : {A : Type 0} (part : ℕ → List Tok → Option (A × List Tok)) (d : ℕ) (before : List A) (ts : List Tok) → End ts → more_parts_in part d before ts ≡ Some (before, ts)
end_parts part zero before ts end = refl
end_parts part (suc d) before _ (End.end_dot ts) = refl
end_parts part (suc d) before _ (End.end_then ts) = refl
end_parts part (suc d) before _ (End.end_or ts) = refl
end_parts part (suc d) before _ (End.end_close ts) = refl
