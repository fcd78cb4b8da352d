-- Reading what was written, and that nothing else reads so.
use Rattle.std.proofs.Common.{◌≡◌, ℕ, zero, suc, ◌+◌, ◌-◌, ◌*◌, ◌/◌, ◌%◌, ◌<◌, Bool, true, false, not, ◌&&◌, eqb, ltb, leb, List, [], ◌∷◌, ◌++◌, map, length, get_or, take, drop, Some, None, sum, Option, sym, refl, ap, ◌∙◌, append_assoc, arith}
use Rattle.std.specs.List.{AllByRecursion as All}
use Rattle.std.proofs.lemmas.Bool.Decides.{nat_tests}
use Rattle.std.proofs.lemmas.List.{take_at, drop_at, take-append-drop, drop_more, length-append, length-take-le}
use Rattle.std.proofs.lemmas.List.Sums.{prefix_len-le-length, prefix_len_stops}
use Rattle.std.proofs.lemmas.Bool.{cond-true, cond_both, eqb-true, eq-eqb, ltb-true, ltb-false, lt-ltb, and_parts, leb-true, ne_eqb, not_from_false, not-false}
use Rattle.frames.specs.declared.frame.Frame.{Frame}
use Rattle.frames.specs.declared.faults.Flaw.TheVariants.{NoEnd}
use Rattle.frames.specs.declared.faults.FrameFault.TheVariants.{Malformed, WrongSum}
use Rattle.frames.specs.Numbers.{numbers}
use Rattle.frames.specs.Text.{Sized, Bytes, hex_digit, digit_value, hex, line_text, text, sealing, paired, bytes_of, bounded, width}
use Rattle.frames.specs.Outcome.{body, Outcome, frame, end, fault, flaw_of, summed, judged, line_outcome, reading, past, line_after}
use Rattle.frames.specs.Laws.{Sound, Begins, Tells, none, good, summed as wrong-sum, malformed, ReadingTells, LineReads, done, more, WrittenReads, ReadIsWritten}
use Rattle.frames.proofs.Digits.{bounded-some}
use Rattle.frames.proofs.Lines.{reading-more}
use Rattle.frames.proofs.Flaws.{flaw_shows}
use Rattle.frames.proofs.Seals.{sealed-good, sealed-bytes, front_bytes}

digit_hex_digit : (d : ℕ) → d < 16 → digit_value (hex_digit d) ≡ Some d
digit_hex_digit d h = grind (arith, nat_tests)

hex_digit_digit : (c d : ℕ) → digit_value c ≡ Some d → (c ≡ hex_digit d) × (d < 16)
hex_digit_digit c d e = grind (arith, nat_tests)

hex_digit_ne : (d : ℕ) → hex_digit d ≡ 10 → ⊥
hex_digit_ne d e = grind (arith, nat_tests)

all_from_bytes : (bs : List ℕ) → Bytes bs → All (λ b. b < 256) bs
all_from_bytes [] h = tt
all_from_bytes (b ∷ bs) h = (h 0, all_from_bytes bs (λ k. h (suc k)))

bytes_from_all : (bs : List ℕ) → All (λ b. b < 256) bs → Bytes bs
bytes_from_all [] h k = omega arith
bytes_from_all (b ∷ bs) (small, h) zero = small
bytes_from_all (b ∷ bs) (small, h) (suc k) = bytes_from_all bs h k

-- the bytes of digits, there and back
bytes-hex : (bs : List ℕ) → All (λ b. b < 256) bs → bytes_of (hex bs) ≡ Some bs
bytes-hex [] h = refl
bytes-hex (b ∷ bs) (small, h) =
    let e : b ≡ 16 * (b / 16) + b % 16 = omega arith in
    let x : digit_value (hex_digit (b / 16)) ≡ Some (b / 16) = digit_hex_digit (b / 16) (omega arith) in
    let y : digit_value (hex_digit (b % 16)) ≡ Some (b % 16) = digit_hex_digit (b % 16) (omega arith) in
    let r : bytes_of (hex bs) ≡ Some bs = bytes-hex bs h in
    let p : paired (Some (b / 16)) (Some (b % 16)) (Some bs) ≡ Some (b ∷ bs) = ap (λ (k : ℕ). Some (k ∷ bs)) (sym e) in
    let q : paired (digit_value (hex_digit (b / 16))) (digit_value (hex_digit (b % 16))) (bytes_of (hex bs)) ≡ paired (Some (b / 16)) (Some (b % 16)) (Some bs) = cc in
    q ∙ p

hex-paired : (h l : ℕ) (x y : Option ℕ) (r : Option (List ℕ)) (ds bs : List ℕ) → digit_value h ≡ x → digit_value l ≡ y
    → ((cs : List ℕ) → r ≡ Some cs → (ds ≡ hex cs) × All (λ b. b < 256) cs)
    → paired x y r ≡ Some bs → (h ∷ l ∷ ds ≡ hex bs) × All (λ b. b < 256) bs
hex-paired h l None y r ds bs p q f e = absurd cc
hex-paired h l (Some a) None r ds bs p q f e = absurd cc
hex-paired h l (Some a) (Some b) None ds bs p q f e = absurd cc
hex-paired h l (Some a) (Some b) (Some cs) ds bs p q f e =
    let u = hex_digit_digit h a p in
    let v = hex_digit_digit l b q in
    let t = f cs refl in
    let w : bs ≡ (16 * a + b) ∷ cs = cc in
    let ha : a < 16 = u.1 in
    let hb : b < 16 = v.1 in
    let dh : a ≡ (16 * a + b) / 16 = omega arith in
    let dl : b ≡ (16 * a + b) % 16 = omega arith in
    let eh : h ≡ hex_digit ((16 * a + b) / 16) = u.0 ∙ ap hex_digit dh in
    let el : l ≡ hex_digit ((16 * a + b) % 16) = v.0 ∙ ap hex_digit dl in
    let et : ds ≡ hex cs = t.0 in
    let big : 16 * a + b < 256 = omega arith in
    rw w ((let g : h ∷ l ∷ ds ≡ hex_digit ((16 * a + b) / 16) ∷ hex_digit ((16 * a + b) % 16) ∷ hex cs = cc in g), (big, t.1))

hex-bytes : (ds bs : List ℕ) → bytes_of ds ≡ Some bs → (ds ≡ hex bs) × All (λ b. b < 256) bs
hex-bytes [] bs e = let w : bs ≡ [] = cc in rw w (refl, tt)
hex-bytes (h ∷ []) bs e = absurd cc
hex-bytes (h ∷ l ∷ ds) bs e = hex-paired h l (digit_value h) (digit_value l) (bytes_of ds) ds bs refl refl (hex-bytes ds) e

-- where a line ends
abbrev goes_on : ℕ → Bool
goes_on c = not (eqb c 10)

hex_digit-goes_on : (d : ℕ) → goes_on (hex_digit d) ≡ true
hex_digit-goes_on d = not_from_false (eqb (hex_digit d) 10) (ne_eqb (hex_digit d) 10 (hex_digit_ne d))

width-hex : (bs rest : List ℕ) → width (hex bs ++ (10 ∷ rest)) ≡ length (hex bs)
width-hex [] rest = refl
width-hex (b ∷ bs) rest =
    let r = width-hex bs rest in
    let x = cond-true (goes_on (hex_digit (b / 16))) (1 + width (hex_digit (b % 16) ∷ (hex bs ++ (10 ∷ rest)))) 0 (hex_digit-goes_on (b / 16)) in
    let y = cond-true (goes_on (hex_digit (b % 16))) (1 + width (hex bs ++ (10 ∷ rest))) 0 (hex_digit-goes_on (b % 16)) in
    omega arith

-- the byte at which a line ends
stop_at : (xs : List ℕ) → width xs < length xs → get_or xs (width xs) 0 ≡ 10
stop_at xs h = eqb-true (get_or xs (width xs) 0) 10 (not-false (eqb (get_or xs (width xs) 0) 10) (prefix_len_stops goes_on xs 0 h))

at_width : (xs : List ℕ) → width xs < length xs → xs ≡ take (width xs) xs ++ (10 ∷ past xs)
at_width xs h =
    let a : take (width xs) xs ++ drop (width xs) xs ≡ xs = take-append-drop (width xs) xs in
    let b : drop (width xs) xs ≡ get_or xs (width xs) 0 ∷ drop (width xs + 1) xs = drop_more xs (width xs) 0 h in
    let d : get_or xs (width xs) 0 ≡ 10 = stop_at xs h in
    cc

-- the line of bytes, and what follows it
module _ (bs rest : List ℕ) where
  line-split : line_text bs ++ rest ≡ hex bs ++ (10 ∷ rest)
  line-split = append_assoc (hex bs) (10 ∷ []) rest

  pub past-line : past (line_text bs ++ rest) ≡ rest
  past-line =
      let w : width (hex bs ++ (10 ∷ rest)) + 1 ≡ length (hex bs ++ (10 ∷ [])) = let a = width-hex bs rest in simp length-append (omega arith) in
      ap past line-split ∙ ap (λ (k : ℕ). drop k (hex bs ++ (10 ∷ rest))) w ∙ ap (drop (length (hex bs ++ (10 ∷ [])))) (sym line-split) ∙ drop_at (line_text bs) rest (length (line_text bs)) refl

  -- such a text reads as its bytes and their sum say
  pub read-line : (line : ℕ) → Sized bs → Bytes bs → reading (line_text bs ++ rest) line ≡ summed line bs
  read-line line sized small =
      let xs = hex bs ++ (10 ∷ rest) in
      let n : length (hex bs ++ (10 ∷ rest)) ≡ length (hex bs) + length (10 ∷ rest) = length-append (hex bs) (10 ∷ rest) in
      let w : width (hex bs ++ (10 ∷ rest)) ≡ length (hex bs) = width-hex bs rest in
      let a : reading xs line ≡ line_outcome line (take (width xs) xs) = reading-more xs line (omega arith) ∙ cond-true _ _ _ (lt-ltb (width xs) (length xs) (omega arith)) in
      let t : take (width xs) xs ≡ hex bs = ap (λ (k : ℕ). take k xs) w ∙ take_at (hex bs) (10 ∷ rest) (length (hex bs)) refl in
      let b : bounded (bytes_of (hex bs)) ≡ Some bs = ap bounded (bytes-hex bs (all_from_bytes bs small)) ∙ bounded-some bs sized.0 sized.1 in
      ap (λ (x : List ℕ). reading x line) line-split ∙ a ∙ ap (line_outcome line) t ∙ ap (judged line (hex bs)) b

pub line_reads : LineReads
line_reads bs rest line sized small = (read-line bs rest line sized small, past-line bs rest)

pub read-good : (f rest : List ℕ) (line : ℕ) → Sound f → reading (line_text f ++ rest) line ≡ frame f
read-good f rest line ((sized, sum-ok), small) = read-line f rest line sized small ∙ cond-true _ _ _ (eq-eqb (sum f % 256) 0 sum-ok)

-- what outcomes tell of the text
module _ (xs : List ℕ) (line : ℕ) where
  tells_sum : (bs : List ℕ) → Begins xs bs (past xs) → Tells xs line (summed line bs)
  tells_sum bs begins =
      cond_both (eqb (sum bs % 256) 0) (frame bs) (fault (numbers 1 2 line 0) (WrongSum line (sealing (take (length bs - 1) bs)))) (Tells xs line)
      (λ t. good bs begins (eqb-true (sum bs % 256) 0 t))
      (λ t.
      let n : length (take (length bs - 1) bs) ≡ length bs - 1 = length-take-le (length bs - 1) bs (omega arith) in
      wrong-sum bs (sealing (take (length bs - 1) bs)) begins (λ e. let q = eq-eqb (sum bs % 256) 0 e in let z : ◌≡◌ {A = Bool} true false = sym q ∙ t in absurd cc)
      (sealed-good (take (length bs - 1) bs) (let s = begins.sized in omega arith) (let s = begins.sized in omega arith), sealed-bytes (take (length bs - 1) bs) (front_bytes bs (length bs - 1) begins.bytes)))

-- bytes within bounds, from the characters of a line
bounded_is : (o : Option (List ℕ)) (f : List ℕ) → Some f ≡ bounded o → (o ≡ Some f) × Sized f
bounded_is None f e = absurd cc
bounded_is (Some bs) f eq =
    cond_both (leb 2 (length bs) && leb (length bs) 24) (Some bs) None (λ o. Some f ≡ o → (Some bs ≡ Some f) × Sized f)
    (λ t e.
    let p = and_parts (leb 2 (length bs)) (leb (length bs) 24) t in
    let q : bs ≡ f = cc in
    (sym e, rw (sym q) (leb-true 2 (length bs) p.0, leb-true (length bs) 24 p.1)))
    (λ t e. absurd cc) eq

-- digits that pass the bounds write bytes
pub bounded-bytes : (ds f : List ℕ) → Some f ≡ bounded (bytes_of ds) → Bytes f
bounded-bytes ds f e = bytes_from_all f (hex-bytes ds f (bounded_is (bytes_of ds) f e).0).1

-- the line at which a text begins
begins_line : (xs f : List ℕ) → width xs < length xs → Some f ≡ bounded (bytes_of (take (width xs) xs)) → Begins xs f (past xs)
begins_line xs f h e =
    let b = bounded_is (bytes_of (take (width xs) xs)) f e in
    let w = hex-bytes (take (width xs) xs) f b.0 in
    let a = at_width xs h in
    record {
      sized = b.1;
      bytes = bytes_from_all f w.1;
      starts = a ∙ ap (λ (ds : List ℕ). ds ++ (10 ∷ past xs)) w.0 ∙ sym (append_assoc (hex f) (10 ∷ []) (past xs));
    }

-- bytes whose line begins a text are what its characters write
begun_line : (xs bs rest : List ℕ) → Begins xs bs rest → (width xs < length xs) × (bounded (bytes_of (take (width xs) xs)) ≡ Some bs)
begun_line xs bs rest begins =
    let e : xs ≡ hex bs ++ (10 ∷ rest) = begins.starts ∙ append_assoc (hex bs) (10 ∷ []) rest in
    let n : length (hex bs ++ (10 ∷ rest)) ≡ length (hex bs) + length (10 ∷ rest) = length-append (hex bs) (10 ∷ rest) in
    let w : width xs ≡ length (hex bs) = ap width e ∙ width-hex bs rest in
    let l : length xs ≡ length (hex bs ++ (10 ∷ rest)) = ap length e in
    let t : take (width xs) xs ≡ hex bs = ap (λ (k : ℕ). take k xs) w ∙ ap (take (length (hex bs))) e ∙ take_at (hex bs) (10 ∷ rest) (length (hex bs)) refl in
    let s = begins.sized in
    (omega arith, ap (λ (ds : List ℕ). bounded (bytes_of ds)) t ∙ ap bounded (bytes-hex bs (all_from_bytes bs begins.bytes)) ∙ bounded-some bs s.0 s.1)

tells_line : (xs : List ℕ) (line : ℕ) → 0 < length xs → width xs < length xs → (o : Option (List ℕ)) → o ≡ bounded (bytes_of (take (width xs) xs)) → Tells xs line (judged line (take (width xs) xs) o)
tells_line xs line some h None e =
    malformed (flaw_of (take (width xs) xs)) some (λ bs rest begins. let q = (begun_line xs bs rest begins).1 in absurd cc) (flaw_shows xs h (sym e))
tells_line xs line some h (Some bs) e = tells_sum xs line bs (begins_line xs bs h e)

pub reading_tells : ReadingTells
reading_tells [] line = none refl
reading_tells (c ∷ cs) line =
    let xs = c ∷ cs in
    let some : 0 < length xs = omega arith in
    cond_both (ltb (width xs) (length xs)) (line_outcome line (take (width xs) xs)) (fault (numbers 1 1 line 0) (Malformed line NoEnd)) (Tells xs line)
    (λ t. tells_line xs line some (ltb-true (width xs) (length xs) t) (bounded (bytes_of (take (width xs) xs))) refl)
    (λ t.
    malformed NoEnd some (λ bs rest begins. let q = lt-ltb (width xs) (length xs) (begun_line xs bs rest begins).0 in absurd cc)
    (let w = prefix_len-le-length goes_on xs in let v = ltb-false (width xs) (length xs) t in omega arith))

-- the two that the round trip needs of it
frame-told : (xs : List ℕ) (line : ℕ) (o : Outcome) (f : List ℕ) → Tells xs line o → o ≡ frame f → (xs ≡ line_text f ++ past xs) × Sound f
frame-told xs line end f (none e) q = absurd cc
frame-told xs line (frame g) f (good h begins ok) q =
    let e : h ≡ f = cc in
    rw (sym e) (begins.starts, ((begins.sized, ok), begins.bytes))
frame-told xs line (fault n e) f t q = absurd cc

end-told : (xs : List ℕ) (line : ℕ) (o : Outcome) → Tells xs line o → o ≡ end → xs ≡ []
end-told xs line end (none e) q = e
end-told xs line (frame g) t q = absurd cc
end-told xs line (fault n e) t q = absurd cc

pub frame-read : (xs : List ℕ) (line : ℕ) (f : List ℕ) → reading xs line ≡ frame f → (xs ≡ line_text f ++ past xs) × Sound f
frame-read xs line f e = frame-told xs line (reading xs line) f (reading_tells xs line) e

pub end_read : (xs : List ℕ) (line : ℕ) → reading xs line ≡ end → xs ≡ []
end_read xs line e = end-told xs line (reading xs line) (reading_tells xs line) e

pub written_reads : WrittenReads
written_reads [] line h = done refl
written_reads (f ∷ fs) line (sound, h) =
    more (read-good f (text fs) line sound)
    (rw past-line (written_reads fs (line_after (line_text f ++ text fs) line) h))

pub read_is_written : ReadIsWritten
read_is_written [] line xs (done e) = (end_read xs line e, tt)
read_is_written (f ∷ fs) line xs (more e r) =
    let h = frame-read xs line f e in
    let t = read_is_written fs (line_after xs line) (past xs) r in
    (h.0 ∙ ap (λ (ys : List ℕ). line_text f ++ ys) t.0, (h.1, t.1))

-- frames that are held are sound
pub sound_all : (fs : List Frame) → All Sound (map body fs)
sound_all [] = tt
sound_all (f ∷ fs) = ((f.good, f.fits), sound_all fs)
