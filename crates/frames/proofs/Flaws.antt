-- What the flaw of a line shows.
use Rattle.std.proofs.Common.{◌≡◌, ℕ, suc, ◌+◌, ◌-◌, ◌*◌, ◌/◌, ◌%◌, ◌<◌, false, cond, eqb, ltb, List, [], ◌∷◌, length, get_or, take, is_some, Some, None, Option, sym, refl, ap, ◌∙◌, arith}
use Rattle.std.proofs.lemmas.List.{length-take-le, get_or-take}
use Rattle.std.proofs.lemmas.List.Sums.{prefix_len-le-length, prefix_len_stops}
use Rattle.std.proofs.lemmas.Bool.{cond_both, eqb-true, eqb-false, ltb-true, ltb-false}
use Rattle.frames.specs.declared.faults.Flaw.TheVariants.{Character, OddDigits, Length}
use Rattle.frames.specs.Text.{digit_value, digit_run, bytes_of, bounded, width}
use Rattle.frames.specs.Outcome.{flaw_of}
use Rattle.frames.specs.Laws.{Shows}
use Rattle.frames.proofs.Digits.{bytes_of-length, bounded-some}

-- a character is a digit or not, and the run of digits goes on or stops there
module _ (c : ℕ) (cs : List ℕ) where
  first_digit : (o : Option ℕ) → digit_value c ≡ o → cond (is_some o) (1 + digit_run cs) 0 ≡ length (c ∷ cs) → ((d : ℕ) × (digit_value c ≡ Some d)) × (digit_run cs ≡ length cs)
  first_digit None e r = absurd (let z : ◌≡◌ {A = ℕ} 0 (suc (length cs)) = r in omega arith)
  first_digit (Some d) e r = ((d, e), omega arith)

-- two digits before digits that write bytes
two_write : (h l : ℕ) (ds bs : List ℕ) (a b : ℕ) → digit_value h ≡ Some a → digit_value l ≡ Some b → bytes_of ds ≡ Some bs → bytes_of (h ∷ l ∷ ds) ≡ Some ((16 * a + b) ∷ bs)
two_write h l ds bs a b x y z = rw (x, y, z)

-- an even number of digits writes bytes
digits_write : (ds : List ℕ) → digit_run ds ≡ length ds → length ds % 2 ≡ 0 → (bs : List ℕ) × (bytes_of ds ≡ Some bs)
digits_write [] run even = ([], refl)
digits_write (h ∷ []) run even = absurd (let z : ◌≡◌ {A = ℕ} 1 0 = even in omega arith)
digits_write (h ∷ l ∷ ds) run even =
    let p = first_digit h (l ∷ ds) (digit_value h) refl run in
    let q = first_digit l ds (digit_value l) refl p.1 in
    let r = digits_write ds q.1 (omega arith) in
    ((16 * p.0.0 + q.0.0) ∷ r.0, two_write h l ds r.0 p.0.0 q.0.0 p.0.1 q.0.1 r.1)

-- the character after the run is no digit
no_value : (o : Option ℕ) → is_some o ≡ false → o ≡ None
no_value None e = refl
no_value (Some d) e = absurd cc

run_stop : (ds : List ℕ) → digit_run ds < length ds → digit_value (get_or ds (digit_run ds) 0) ≡ None
run_stop ds h = no_value (digit_value (get_or ds (digit_run ds) 0)) (prefix_len_stops (λ c. is_some (digit_value c)) ds 0 h)

-- the flaw of a line whose characters write no 2 to 24 bytes
pub flaw_shows : (xs : List ℕ) → width xs < length xs → bounded (bytes_of (take (width xs) xs)) ≡ None → Shows xs (flaw_of (take (width xs) xs))
flaw_shows xs h none =
    let ds = take (width xs) xs in
    let n : length (take (width xs) xs) ≡ width xs = length-take-le (width xs) xs (omega arith) in
    cond_both (ltb (digit_run ds) (length ds)) (Character (digit_run ds + 1)) (cond (eqb (length ds % 2) 1) OddDigits (Length (length ds / 2))) (Shows xs)
    (λ t.
    let k : digit_run ds < length ds = ltb-true (digit_run ds) (length ds) t in
    let back : digit_run ds + 1 - 1 ≡ digit_run ds = omega arith in
    let at = get_or-take (width xs) xs (digit_run ds) 0 (omega arith) in
    (omega arith, omega arith, ap (λ (i : ℕ). digit_value (get_or xs i 0)) back ∙ ap digit_value (sym at) ∙ run_stop ds k))
    (λ t.
    let all : digit_run ds ≡ length ds = let le = prefix_len-le-length (λ c. is_some (digit_value c)) ds in let ge = ltb-false (digit_run ds) (length ds) t in omega arith in
    cond_both (eqb (length ds % 2) 1) OddDigits (Length (length ds / 2)) (Shows xs)
    (λ u. let odd = eqb-true (length ds % 2) 1 u in omega arith)
    (λ u.
    let not-odd = eqb-false (length ds % 2) 1 u in
    let even : length ds % 2 ≡ 0 = omega arith in
    let w = digits_write ds all even in
    let m = bytes_of-length ds w.0 w.1 in
    (omega arith, λ low high. let b = bounded-some w.0 (omega arith) (omega arith) in let e : bounded (bytes_of ds) ≡ Some w.0 = ap bounded w.1 ∙ b in absurd cc)))
