-- A frame that is due, at the start of a text.
use Rattle.std.proofs.Common.{◌≡◌, ℕ, zero, suc, ◌+◌, ◌-◌, ◌%◌, ◌<◌, ◌≤◌, false, eqb, List, [], ◌∷◌, ◌++◌, length, get_or, take, drop, sym, refl, ap, ◌∙◌, arith}
use Rattle.std.proofs.lemmas.List.{take_all, take_more, length-append, length_push}
use Rattle.std.proofs.lemmas.Bool.{cond-true, eq-eqb, and_from, or_left}
use Rattle.std.proofs.lemmas.Bool.Decides.{nat_tests}
use Rattle.frames.specs.declared.kinds.Kind.{Kind}
use Rattle.frames.specs.Kinds.{kind_byte}
use Rattle.frames.specs.Laws.{Sound}
use Rattle.frames.specs.Outcome.{Outcome, frame, end, fault, awaited, reading, past, line_after}
use Rattle.frames.specs.Text.{Bytes, line_text, sealing, sealed}
use Rattle.frames.proofs.Buffers.{length-line}
use Rattle.frames.proofs.Lines.{line-more}
use Rattle.frames.proofs.RoundTrip.{read-good, frame-read}
use Rattle.frames.proofs.Seals.{sealed-good, sealed-bytes, right_byte}
use Rattle.frames.specs.Records.{form, due}

-- a line is counted
pub line-past : (f rest : List ℕ) (line : ℕ) → line_after (line_text f ++ rest) line ≡ line + 1
line-past f rest line = line-more (line_text f ++ rest) line (omega (arith, length-append (line_text f) rest, length-line f))

-- a good frame is its content, closed by the byte that makes the sum right
pub sealed-front : (f : List ℕ) → Sound f → f ≡ sealed (take (length f - 1) f)
sealed-front f ((sized, ok), bytes) =
    let small : get_or f (length f - 1) 0 < 256 = bytes (length f - 1) in
    let r : (get_or f (length f - 1) 0 + (256 - 0)) % 256 ≡ sealing (take (length f - 1) f) = right_byte f (get_or f (length f - 1) 0) 0 (omega arith) small refl (sym ok) in
    let e : get_or f (length f - 1) 0 ≡ sealing (take (length f - 1) f) = omega arith in
    sym (take_all (length f - 1 + 1) f (omega arith)) ∙ take_more f (length f - 1) 0 (omega arith) ∙ ap (λ (b : ℕ). take (length f - 1) f ++ (b ∷ [])) e

-- of which the first byte is its kind
content : (f : List ℕ) (s : ℕ) → length f ≡ s + 2 → take (length f - 1) f ≡ get_or f 0 0 ∷ take s (drop 1 f)
content [] s e = absurd (omega arith)
content (b ∷ bs) s e = let k : suc (length bs) - 1 ≡ suc s = omega arith in ap (λ (k : ℕ). take k (b ∷ bs)) k

pub bytes_cons : (b : ℕ) (bs : List ℕ) → b < 256 → Bytes bs → Bytes (b ∷ bs)
bytes_cons b bs h r zero = h
bytes_cons b bs h r (suc k) = r k

pub bytes-append : (xs ys : List ℕ) → Bytes xs → Bytes ys → Bytes (xs ++ ys)
bytes-append [] ys h r k = r k
bytes-append (x ∷ xs) ys h r zero = h 0
bytes-append (x ∷ xs) ys h r (suc k) = bytes-append xs ys (λ j. h (suc j)) r k

module _ (k : Kind) where
  -- a sealed frame of this kind is read where it is due
  pub due-front : (cs rest : List ℕ) (s line : ℕ) → length cs ≡ s → s ≤ 22 → Bytes cs → kind_byte k < 256 → due k (s + 2) (line_text (sealed (kind_byte k ∷ cs)) ++ rest) line ≡ frame (sealed (kind_byte k ∷ cs))
  due-front cs rest s line long high bytes small =
      let f = sealed (kind_byte k ∷ cs) in
      let m : s + 2 ≡ length (sealed (kind_byte k ∷ cs)) = omega (arith, length_push (kind_byte k ∷ cs) (sealing (kind_byte k ∷ cs))) in
      let sound : Sound (sealed (kind_byte k ∷ cs)) = (sealed-good (kind_byte k ∷ cs) (omega arith) (omega arith), sealed-bytes (kind_byte k ∷ cs) (bytes_cons (kind_byte k) cs small bytes)) in
      ap (awaited (form k (s + 2) ∷ []) line) (read-good f rest line sound)
      ∙ cond-true _ _ _ (or_left _ false (and_from (eqb (kind_byte k) (kind_byte k)) (eqb (s + 2) (length f)) (eq-eqb (kind_byte k) (kind_byte k) refl) (eq-eqb (s + 2) (length f) m)))

  -- and a frame that is read where it is due is such a frame
  awaited-told : (s line : ℕ) (f : List ℕ) (o : Outcome) → awaited (form k (s + 2) ∷ []) line o ≡ frame f → (o ≡ frame f) × (get_or f 0 0 ≡ kind_byte k) × (length f ≡ s + 2)
  awaited-told s line f (frame bs) e = grind (arith, nat_tests)
  awaited-told s line f end e = absurd cc
  awaited-told s line f (fault w v) e = absurd cc

  pub due-told : (xs : List ℕ) (s line : ℕ) (f : List ℕ) → due k (s + 2) xs line ≡ frame f → (xs ≡ line_text (sealed (kind_byte k ∷ take s (drop 1 f))) ++ past xs) × Bytes f × (length f ≡ s + 2)
  due-told xs s line f e =
      let a = awaited-told s line f (reading xs line) e in
      let w = frame-read xs line f a.0 in
      let g : f ≡ sealed (kind_byte k ∷ take s (drop 1 f)) = sealed-front f w.1 ∙ ap sealed (content f s a.2 ∙ ap (λ (b : ℕ). b ∷ take s (drop 1 f)) a.1) in
      (w.0 ∙ ap (λ (g : List ℕ). line_text g ++ past xs) g, w.1.1, a.2)
