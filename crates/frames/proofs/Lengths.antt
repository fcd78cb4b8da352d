-- How long a frame is that was due.
use Rattle.std.proofs.Common.{◌≡◌, ℕ, List, [], ◌∷◌, length, IfSome, IfOk, Some, None, Ok, Err, Option, Result, arith}
use Rattle.std.proofs.lemmas.Bool.Decides.{nat_tests}
use Rattle.frames.specs.declared.faults.FrameFault.{FrameFault}
use Rattle.frames.specs.declared.frame.Frame.{Frame}
use Rattle.frames.specs.Outcome.{Outcome, frame, end, fault, body, outcome, awaited}

pub due-long : (k n line : ℕ) (f : List ℕ) (o : Outcome) → frame f ≡ awaited (record { kind = k; len = n } ∷ []) line o → length f ≡ n
due-long k n line f (frame bs) e = grind (arith, nat_tests)
due-long k n line f end e = absurd cc
due-long k n line f (fault w v) e = absurd cc

-- and of an answer
pub read-long : (k n line : ℕ) (o : Outcome) (r : Result (Option Frame) FrameFault) → outcome r ≡ awaited (record { kind = k; len = n } ∷ []) line o → IfOk r (λ o. IfSome o (λ f. length (body f) ≡ n))
read-long k n line o (Ok (Some f)) e = due-long k n line (body f) o e
read-long k n line o (Ok None) e = tt
read-long k n line o (Err v) e = tt
