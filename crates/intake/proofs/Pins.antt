-- The pins of cells: signals, and then pins that are not used.
use Rattle.std.proofs.Common.{◌≡◌, ℕ, zero, suc, ◌+◌, ◌-◌, ◌<◌, ◌≤◌, Bool, true, false, cond, ◌&&◌, eqb, ltb, leb, ◌⊎◌, List, [], ◌∷◌, ◌++◌, length, get_or, drop, replicate, sym, refl, ap, ◌∙◌, inl, inr, arith}
use Rattle.std.specs.List.{AllByRecursion as All}
use Rattle.std.proofs.lemmas.List.{at_drop_more, length-append, length-replicate}
use Rattle.std.proofs.lemmas.Bool.{cond-true, cond-false, and_from, and_left, and_right, and_parts, or_left, or_right, or_cases, eq-eqb, eqb-true, ne_eqb, le-leb, leb-true, lt-ltb, ltb-true, false≢true}
use Rattle.frames.specs.Text.{Bytes}
use Rattle.frames.proofs.Forms.{bytes-append}
use Rattle.intake.specs.Networks.{Signal, Pinned}
use Rattle.intake.specs.Page.{signal, pinned}

-- pins that are not used are right after any others
pub unused_pinned : (n k m : ℕ) (used : Bool) → pinned n k used (replicate m 255) ≡ true
unused_pinned n k zero used = refl
unused_pinned n k (suc m) used = unused_pinned n k m false

bytes_unused : (m : ℕ) → Bytes (replicate m 255)
bytes_unused zero j = omega arith
bytes_unused (suc m) zero = omega arith
bytes_unused (suc m) (suc j) = bytes_unused m j

-- of networks of n inputs, and cells after k others
module _ (n k : ℕ) (narrow : n ≤ 16) (few : k ≤ 48) where
  signal_true : (p : ℕ) → Signal n k p → signal n k p ≡ true
  signal_true p (inl h) = or_left _ _ (lt-ltb p n h)
  signal_true p (inr h) = or_right (ltb p n) _ (and_from (leb 16 p) (ltb p (16 + k)) (le-leb 16 p h.0) (lt-ltb p (16 + k) h.1))

  signal-below : (p : ℕ) → Signal n k p → p < 64
  signal-below p (inl h) = omega arith
  signal-below p (inr h) = omega arith

  signals-pinned : (us ps : List ℕ) → All (Signal n k) us → pinned n k true ps ≡ true → pinned n k true (us ++ ps) ≡ true
  signals-pinned [] ps h r = r
  signals-pinned (u ∷ us) ps (s, h) r =
      cond-false (eqb u 255) _ _ (ne_eqb u 255 (λ e. omega (arith, signal-below u s)))
      ∙ and_from (signal n k u) (pinned n k true (us ++ ps)) (signal_true u s) (signals-pinned us ps h r)

  signals-bytes : (us : List ℕ) → All (Signal n k) us → Bytes us
  signals-bytes [] h j = omega arith
  signals-bytes (u ∷ us) (s, h) zero = omega (arith, signal-below u s)
  signals-bytes (u ∷ us) (s, h) (suc j) = signals-bytes us h j

  -- what is right of the pins of a cell
  module _ (K : ℕ) (ps : List ℕ) (p : Pinned n K k ps) where
    pub pinned_pass : pinned n k true ps ≡ true
    pinned_pass = ap (pinned n k true) p.padded ∙ signals-pinned p.used _ p.signals (unused_pinned n k (K - length p.used) true)

    pub pinned-long : length ps ≡ K
    pinned-long = ap length p.padded ∙ length-append p.used _ ∙ omega (arith, length-replicate {A = ℕ} (K - length p.used) 255, p.few)

    pub pinned-bytes : Bytes ps
    pinned-bytes = rw p.padded (bytes-append p.used _ (signals-bytes p.used p.signals) (bytes_unused (K - length p.used)))

-- the pin at a place, and those after it
module _ (n k : ℕ) (used : Bool) (ps : List ℕ) (i p : ℕ) (h : i < length ps) (is : p ≡ get_or ps i 0) where
  pin-there : pinned n k used (drop i ps) ≡ cond (eqb p 255) (pinned n k false (drop (i + 1) ps)) (used && (signal n k p && pinned n k true (drop (i + 1) ps)))
  pin-there = rw is (at_drop_more (pinned n k used) ps i 0 h)

  pub pin_unused : p ≡ 255 → pinned n k false (drop (i + 1) ps) ≡ pinned n k used (drop i ps)
  pin_unused e = sym (pin-there ∙ cond-true (eqb p 255) _ _ (eq-eqb p 255 e))

  pub pin-signal : (p ≡ 255 → ⊥) → used ≡ true → signal n k p ≡ true → pinned n k true (drop (i + 1) ps) ≡ pinned n k used (drop i ps)
  pin-signal e u s = sym (pin-there ∙ cond-false (eqb p 255) _ _ (ne_eqb p 255 e) ∙ ap (λ (v : Bool). v && (signal n k p && pinned n k true (drop (i + 1) ps))) u ∙ ap (λ (v : Bool). v && pinned n k true (drop (i + 1) ps)) s)

  pub pin_late : (p ≡ 255 → ⊥) → used ≡ false → pinned n k used (drop i ps) ≡ false
  pin_late e u = pin-there ∙ cond-false (eqb p 255) _ _ (ne_eqb p 255 e) ∙ and_left used _ u

  pub pin_strange : (p ≡ 255 → ⊥) → signal n k p ≡ false → pinned n k used (drop i ps) ≡ false
  pin_strange e s = pin-there ∙ cond-false (eqb p 255) _ _ (ne_eqb p 255 e) ∙ and_right used _ (and_left (signal n k p) _ s)

-- pins that passed
signal-told : (n k p : ℕ) → signal n k p ≡ true → Signal n k p
signal-told n k p e = elim (or_cases (ltb p n) (leb 16 p && ltb p (16 + k)) e) [
  | inl h ↦ inl (ltb-true p n h)
  | inr h ↦ let q = and_parts (leb 16 p) (ltb p (16 + k)) h in inr (leb-true 16 p q.0, ltb-true p (16 + k) q.1)
]

-- a pin after those that are used, and one before, by whether it is used
late_pin : (t : Bool) (x : Bool) → cond t x false ≡ true → (t ≡ true) × (x ≡ true)
late_pin true x e = (refl, e)
late_pin false x e = absurd (false≢true e)

early_pin : (t : Bool) (x y z : Bool) → cond t x (y && z) ≡ true → ((t ≡ true) × (x ≡ true)) ⊎ ((y ≡ true) × (z ≡ true))
early_pin true x y z e = inl (refl, e)
early_pin false x y z e = inr (and_parts y z e)

unused_told : (n k : ℕ) (ps : List ℕ) → pinned n k false ps ≡ true → ps ≡ replicate (length ps) 255
unused_told n k [] e = refl
unused_told n k (p ∷ ps) e =
    let h = late_pin (eqb p 255) (pinned n k false ps) e in
    ap (λ (q : ℕ). q ∷ ps) (eqb-true p 255 h.0) ∙ ap (λ (t : List ℕ). 255 ∷ t) (unused_told n k ps h.1)

pub pinned-told : (n k : ℕ) (ps : List ℕ) → pinned n k true ps ≡ true → Pinned n (length ps) k ps
pinned-told n k [] e = record { used = []; few = omega arith; signals = tt; padded = refl }
pinned-told n k (p ∷ ps) e = elim (early_pin (eqb p 255) (pinned n k false ps) (signal n k p) (pinned n k true ps) e) [
  | inl h ↦
      let m : suc (length ps) - 0 ≡ suc (length ps) = omega arith in
      record {
        used = [];
        few = omega arith;
        signals = tt;
        padded = ap (λ (q : ℕ). q ∷ ps) (eqb-true p 255 h.0) ∙ ap (λ (t : List ℕ). 255 ∷ t) (unused_told n k ps h.1) ∙ ap (λ (j : ℕ). replicate j 255) (sym m);
      }
  | inr h ↦
      let r = pinned-told n k ps h.1 in
      let m : suc (length ps) - suc (length r.used) ≡ length ps - length r.used = omega arith in
      record {
        used = p ∷ r.used;
        few = omega (arith, r.few);
        signals = (signal-told n k p h.0, r.signals);
        padded = ap (λ (t : List ℕ). p ∷ t) r.padded ∙ ap (λ (j : ℕ). p ∷ (r.used ++ replicate j 255)) (sym m);
      }
]
