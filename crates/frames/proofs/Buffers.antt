-- Texts written over a buffer.
use Rattle.std.proofs.Common.{◌≡◌, ℕ, suc, ◌+◌, ◌-◌, ◌*◌, ◌/◌, ◌%◌, ◌<◌, ◌≤◌, false, leb, List, [], ◌∷◌, ◌++◌, map, length, get_or, take, drop, set, sym, refl, ap, ◌∙◌, append_assoc, arith}
use Rattle.std.proofs.lemmas.List.{take-append-drop, drop_more, take_more, length-append, length_push, length-take-le, set_at, take_at, drop_at, append-nil, at_drop_more, drop-drop, flat_map_more, map-append}
use Rattle.std.proofs.lemmas.Grind.{flat_map-append}
use Rattle.std.proofs.lemmas.Bool.{lt-leb}
use Rattle.std.proofs.lemmas.Bool.Decides.{nat_tests}
use Rattle.frames.specs.declared.frame.Frame.{Frame}
use Rattle.frames.specs.Text.{hex_digit, hex, line_text, text, placed, over}
use Rattle.frames.specs.Outcome.{body}
use Rattle.frames.specs.Writing.{text_of}

pub length-hex : (bs : List ℕ) → length (hex bs) ≡ 2 * length bs
length-hex [] = refl
length-hex (b ∷ bs) = let r = length-hex bs in let e : suc (suc (length (hex bs))) ≡ 2 * suc (length bs) = omega arith in e

pub length-line : (bs : List ℕ) → length (line_text bs) ≡ 2 * length bs + 1
length-line bs = length_push (hex bs) 10 ∙ ap (λ (k : ℕ). k + 1) (length-hex bs)

-- one element more
module _ {X : Type 0} where
  pub placed_push : (d : X) (o : List X) (at : ℕ) (xs : List X) (a : X) (k : ℕ) → k ≡ at + length xs → k < length o → set (placed o at xs) k a ≡ placed o at (xs ++ (a ∷ []))
  placed_push d o at xs a k e h =
      let q : drop (at + length xs) o ≡ get_or o (at + length xs) d ∷ drop (at + length xs + 1) o = drop_more o (at + length xs) d (omega arith) in
      let n : length (take at o ++ xs) ≡ k = length-append (take at o) xs ∙ (let t = length-take-le at o (omega arith) in omega arith) in
      let s : set ((take at o ++ xs) ++ (get_or o (at + length xs) d ∷ drop (at + length xs + 1) o)) k a ≡ (take at o ++ xs) ++ (a ∷ drop (at + length xs + 1) o) = set_at (take at o ++ xs) (get_or o (at + length xs) d) (drop (at + length xs + 1) o) a k n in
      let b : take at o ++ (xs ++ drop (at + length xs) o) ≡ (take at o ++ xs) ++ (get_or o (at + length xs) d ∷ drop (at + length xs + 1) o) = ap (λ (t : List X). take at o ++ (xs ++ t)) q ∙ sym (append_assoc (take at o) xs _) in
      let m : at + length xs + 1 ≡ at + length (xs ++ (a ∷ [])) = (let p = length_push xs a in omega arith) in
      let f : (take at o ++ xs) ++ (a ∷ drop (at + length xs + 1) o) ≡ take at o ++ ((xs ++ (a ∷ [])) ++ drop (at + length xs + 1) o) = append_assoc (take at o) xs _ ∙ ap (λ (t : List X). take at o ++ t) (sym (append_assoc xs (a ∷ []) _)) in
      ap (λ (t : List X). set t k a) b ∙ s ∙ f ∙ ap (λ (j : ℕ). take at o ++ ((xs ++ (a ∷ [])) ++ drop j o)) m

  pub placed-none : (o : List X) (at : ℕ) → o ≡ placed o at []
  placed-none o at = sym (ap (λ (j : ℕ). take at o ++ drop j o) (let e : at + 0 ≡ at = omega arith in e) ∙ take-append-drop at o)

  -- a text after a text
  pub over-placed : (o xs ys : List X) → length xs ≤ length o → placed (over o xs) (length xs) ys ≡ over o (xs ++ ys)
  over-placed o xs ys h =
      let a : take (length xs) (xs ++ drop (length xs) o) ≡ xs = take_at xs (drop (length xs) o) (length xs) refl in
      let b : drop (length xs + length ys) (xs ++ drop (length xs) o) ≡ drop (length (xs ++ ys)) o =
      sym (drop-drop (length ys) (length xs) (xs ++ drop (length xs) o)) ∙ ap (drop (length ys)) (drop_at xs (drop (length xs) o) (length xs) refl) ∙ drop-drop (length ys) (length xs) o ∙ ap (λ (k : ℕ). drop k o) (sym (length-append xs ys)) in
      ap (λ (t : List X). t ++ (ys ++ drop (length xs + length ys) (over o xs))) a ∙ ap (λ (t : List X). xs ++ (ys ++ t)) b ∙ sym (append_assoc xs ys (drop (length (xs ++ ys)) o))

pub hex-more : (bs : List ℕ) (i : ℕ) → i < length bs → hex (take (i + 1) bs) ≡ (hex (take i bs) ++ (hex_digit (get_or bs i 0 / 16) ∷ [])) ++ (hex_digit (get_or bs i 0 % 16) ∷ [])
hex-more bs i h =
    ap hex (take_more bs i 0 h)
    ∙ sym (flat_map_more (λ (b : ℕ). hex_digit (b / 16) ∷ hex_digit (b % 16) ∷ []) [] (take i bs) (get_or bs i 0))
    ∙ sym (append_assoc (hex (take i bs)) (hex_digit (get_or bs i 0 / 16) ∷ []) (hex_digit (get_or bs i 0 % 16) ∷ []))

-- a byte's two digits more
pub two_placed : (o bs : List ℕ) (at i : ℕ) → i < length bs → at + 2 * i + 1 < length o
    → set (set (placed o at (hex (take i bs))) (at + 2 * i) (hex_digit (get_or bs i 0 / 16))) (at + 2 * i + 1) (hex_digit (get_or bs i 0 % 16)) ≡ placed o at (hex (take (i + 1) bs))
two_placed o bs at i h room =
    let x = hex_digit (get_or bs i 0 / 16) in
    let y = hex_digit (get_or bs i 0 % 16) in
    let n : length (hex (take i bs)) ≡ 2 * i = length-hex (take i bs) ∙ ap (λ (j : ℕ). 2 * j) (length-take-le i bs (omega arith)) in
    let p = placed_push 0 o at (hex (take i bs)) x (at + 2 * i) (omega arith) (omega arith) in
    let m = length_push (hex (take i bs)) x in
    let q = placed_push 0 o at (hex (take i bs) ++ (x ∷ [])) y (at + 2 * i + 1) (omega arith) room in
    ap (λ (t : List ℕ). set t (at + 2 * i + 1) y) p ∙ q ∙ ap (placed o at) (sym (hex-more bs i h))

-- the lines of frames, one by one
text-append : (xs ys : List Frame) → text_of (xs ++ ys) ≡ text_of xs ++ text_of ys
text-append xs ys = ap text (map-append body xs ys) ∙ flat_map-append line_text (map body xs) (map body ys)

module _ (fs : List Frame) (i : ℕ) (f : Frame) (h : i < length fs) (is : f ≡ get_or fs i f) where
  pub text-more : text_of (take (i + 1) fs) ≡ text_of (take i fs) ++ line_text (body f)
  text-more =
      ap text_of (take_more fs i f h) ∙ ap (λ (g : Frame). text_of (take i fs ++ (g ∷ []))) (sym is) ∙ text-append (take i fs) (f ∷ []) ∙ ap (λ (t : List ℕ). text_of (take i fs) ++ t) (append-nil (line_text (body f)))

  pub text-left : length (text_of (drop i fs)) ≡ 2 * length (body f) + 1 + length (text_of (drop (i + 1) fs))
  text-left =
      at_drop_more (λ (t : List Frame). length (text_of t)) fs i f h
      ∙ ap (λ (g : Frame). length (line_text (body g) ++ text_of (drop (i + 1) fs))) (sym is)
      ∙ length-append (line_text (body f)) (text_of (drop (i + 1) fs))
      ∙ ap (λ (k : ℕ). k + length (text_of (drop (i + 1) fs))) (length-line (body f))

  pub text-room : length (text_of (take i fs)) + (2 * length (body f) + 1) ≤ length (text_of fs)
  text-room =
      let a : length (text_of fs) ≡ length (text_of (take i fs)) + length (text_of (drop i fs)) = ap (λ (t : List Frame). length (text_of t)) (sym (take-append-drop i fs)) ∙ ap length (text-append (take i fs) (drop i fs)) ∙ length-append (text_of (take i fs)) (text_of (drop i fs)) in
      let b = text-left in
      omega arith

  -- what is left fits what is spare
  pub left_no : (spare n : ℕ) → n ≡ 2 * length (body f) + 1 → spare < n → leb (length (text_of (drop i fs))) spare ≡ false
  left_no spare n e k = lt-leb (length (text_of (drop i fs))) spare (let b = text-left in omega arith)

  pub left_yes : (spare n : ℕ) → n ≡ 2 * length (body f) + 1 → n ≤ spare → leb (length (text_of (drop (i + 1) fs))) (spare - n) ≡ leb (length (text_of (drop i fs))) spare
  left_yes spare n e k = let b = text-left in grind (arith, nat_tests)
