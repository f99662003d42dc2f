-- From one fact of a result to another.
use Rattle.std.specs.Prelude.{Result, Ok, Err, IfOk}

pub IfOk-map : {T E : Type 0} (r : Result T E) (P Q : T → Type 0) → ((x : T) → P x → Q x) → IfOk r P → IfOk r Q
IfOk-map (Ok x) P Q f h = f x h
IfOk-map (Err e) P Q f h = tt
