-- What it tells of a text that a record was read from it.
use Rattle.std.proofs.Common.{◌≡◌, ℕ, Bool, true, false, cond, List, [], refl}
use Rattle.frames.specs.declared.faults.FaultNumbers.{FaultNumbers}
use Rattle.frames.specs.declared.faults.RecordFault.{RecordFault}
use Rattle.frames.specs.Outcome.{Outcome, frame, end, fault, reading}
use Rattle.frames.specs.Records.{Got, got, gone, bad, recorded}
use Rattle.frames.proofs.RoundTrip.{end_read}

-- the value that passed a test
pub pass_true : {X : Type 0} (t : Bool) (x y : X) (w : FaultNumbers) (v : RecordFault) → cond t (got x) (bad w v) ≡ got y → (t ≡ true) × (x ≡ y)
pass_true true x y w v e = (refl, cc)
pass_true false x y w v e = absurd cc

pub pass_false : {X : Type 0} (t : Bool) (x y : X) (w : FaultNumbers) (v : RecordFault) → cond t (bad w v) (got x) ≡ got y → (t ≡ false) × (x ≡ y)
pass_false true x y w v e = absurd cc
pass_false false x y w v e = (refl, cc)

-- the frame of a record that was read
pub recorded-told : {X : Type 0} (o : Outcome) (give : List ℕ → Got X) (x : X) → recorded o give ≡ got x → (f : List ℕ) × (o ≡ frame f) × (give f ≡ got x)
recorded-told (frame f) give x e = (f, refl, e)
recorded-told end give x e = absurd cc
recorded-told (fault w v) give x e = absurd cc

-- a text with no record is at its end
pub anything-gone : (xs : List ℕ) (line : ℕ) (o : Outcome) → reading xs line ≡ o → recorded o got ≡ gone → xs ≡ []
anything-gone xs line (frame f) is e = absurd cc
anything-gone xs line end is e = end_read xs line is
anything-gone xs line (fault w v) is e = absurd cc
