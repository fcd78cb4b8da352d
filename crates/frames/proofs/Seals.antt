-- The byte that makes a frame's sum right.
use Rattle.std.proofs.Common.{◌≡◌, ℕ, ◌+◌, ◌-◌, ◌%◌, ◌<◌, ◌≤◌, List, [], ◌∷◌, ◌++◌, length, get_or, take, sum, ap, ◌∙◌, inl, inr, arith}
use Rattle.std.proofs.lemmas.List.Sums.{sum_by-cons, sum_by_push, sum_by_more}
use Rattle.std.proofs.lemmas.Bool.{cases_lt}
use Rattle.std.proofs.lemmas.List.{take_all, length_push, length-take, get_or_append_left, get_or_push, get_or_past, get_or-take}
use Rattle.std.specs.List.{fold}
use Rattle.frames.specs.Text.{Good, Bytes, sealing, sealed}

-- a sum that wraps at each byte
pub fold-wraps : (n : ℕ) (bs : List ℕ) → n < 256 → fold (λ t b. (t + b) % 256) n bs ≡ (n + sum bs) % 256
fold-wraps n [] h = omega arith
fold-wraps n (b ∷ bs) h = let s = sum_by-cons (λ x. x) b bs in fold-wraps ((n + b) % 256) bs (omega arith) ∙ omega arith

pub sealed-good : (cs : List ℕ) → 1 ≤ length cs → length cs ≤ 23 → Good (sealed cs)
sealed-good cs low high =
    let n = length_push cs (sealing cs) in
    let s = sum_by_push (λ x. x) cs (sealing cs) in
    ((omega arith, omega arith), omega arith)

pub sealed-bytes : (cs : List ℕ) → Bytes cs → Bytes (sealed cs)
sealed-bytes cs h k =
    let a = sealing cs in
    elim (cases_lt k (length cs)) [
      | inl below ↦ rw (get_or_append_left cs (a ∷ []) 0 k below) (h k)
      | inr above ↦ elim (cases_lt (length cs) k) [
        | inl past ↦ rw (get_or_past (cs ++ (a ∷ [])) k 0 (let n = length_push cs a in omega arith)) (omega arith)
        | inr not ↦ rw (get_or_push cs a 0 k (omega arith)) (omega arith)
      ]
    ]

-- what a last byte and a wrong sum say of the right last byte
pub right_byte : (bs : List ℕ) (last total : ℕ) → 1 ≤ length bs → last < 256 → last ≡ get_or bs (length bs - 1) 0 → total ≡ sum bs % 256 → (last + (256 - total)) % 256 ≡ sealing (take (length bs - 1) bs)
right_byte bs last total some small is total-is =
    let k : length bs - 1 + 1 ≡ length bs = omega arith in
    let m = sum_by_more (λ x. x) bs (length bs - 1) 0 (omega arith) in
    let a : sum (take (length bs - 1 + 1) bs) ≡ sum bs = ap sum (take_all (length bs - 1 + 1) bs (omega arith)) in
    omega arith

pub front_bytes : (bs : List ℕ) (n : ℕ) → Bytes bs → Bytes (take n bs)
front_bytes bs n h k =
    elim (cases_lt k n) [
      | inl below ↦ rw (get_or-take n bs k 0 below) (h k)
      | inr above ↦ rw (get_or_past (take n bs) k 0 (let l = length-take n bs in omega arith)) (omega arith)
    ]
