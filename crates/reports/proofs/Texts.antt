-- A text that was made is another that equals it.
use Rattle.std.proofs.Common.{◌≡◌, ℕ, List, IfOk, Ok, Err, string_bytes, Result, String, ◌∙◌}
use Rattle.std.specs.declared.alloc.Global.{Global}

pub made_as : {E : Type 0} (r : Result (String Global) E) (xs ys : List ℕ) → xs ≡ ys → IfOk r (λ s. string_bytes s ≡ xs) → IfOk r (λ s. string_bytes s ≡ ys)
made_as (Ok s) xs ys e h = h ∙ e
made_as (Err a) xs ys e h = tt
