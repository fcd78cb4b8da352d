-- The network of a design: each configured cell yields the bit of the design's cell.
use Rattle.std.proofs.Common.{◌≡◌, ℕ, zero, suc, ◌+◌, ◌-◌, ◌^◌, ◌<◌, ◌≤◌, Bool, true, false, cond, ◌&&◌, List, [], ◌∷◌, ◌++◌, map, length, get_or, take, replicate, sym, refl, ap, ◌∙◌, subst, ⊎_elim, arith, lit<}
use Rattle.std.specs.List.{AllByRecursion as All}
use Rattle.std.proofs.lemmas.List.{append_assoc, get_or_past, length-append, length-map, length-replicate, map-append, replicate-append-replicate, take_at}
use Rattle.std.proofs.lemmas.Bool.{cases_lt, lt-ltb, ne_eqb}
use Rattle.functions.specs.Words.{number}
use Rattle.families.specs.Tables.{entry_of, assignment}
use Rattle.families.specs.Widening.{widened_table}
use Rattle.families.specs.Laws.{Laws, meant}
use Rattle.families.proofs.Assignments.{assignment-below, widened_assignments}
use Rattle.families.proofs.ReadBack.{read_back}
use Rattle.frames.specs.Text.{Bytes}
use Rattle.intake.specs.Networks.{NetCell, yielded, pin_value, cell_bit, Signal, Wired}
use Rattle.mapping.specs.States.{Cell, values, yield}
use Rattle.mapping.specs.Kept.{configured}
use Rattle.mapping.proofs.Building.{Seated}
use Rattle.mapping.proofs.Pages.{widened_is_table, configured_shape}

-- the numbers of assignments to pins and to arguments are the same
pub assignment-number : (xs : List Bool) → assignment xs ≡ number xs
assignment-number [] = refl
assignment-number (false ∷ xs) = assignment-number xs
assignment-number (true ∷ xs) = ap (λ k. 2 ^ length xs + k) (assignment-number xs)

-- the pins of a configured cell are its own, and then unused ones
pub padded : (K : ℕ) (ps : List ℕ) → length ps ≤ K → take K (ps ++ replicate K 255) ≡ ps ++ replicate (K - length ps) 255
padded K ps h =
    let b = length ps in
    let unused : List ℕ = replicate (K - b) 255 in
    let all : K - b + b ≡ K = omega arith in
    let long : length (ps ++ unused) ≡ K = omega (arith, length-append ps unused, length-replicate {A = ℕ} (K - b) 255) in
    ap (λ us. take K (ps ++ us)) (sym (replicate-append-replicate {A = ℕ} (K - b) b 255 ∙ ap (λ k. replicate k 255) all))
    ∙ ap (take K) (sym (append_assoc ps unused (replicate b 255)))
    ∙ take_at (ps ++ unused) (replicate b 255) K long

-- ---- the values at pins

used-values : (n k : ℕ) (vs : List Bool) (ps : List ℕ) → n ≤ 16 → k ≤ 48 → All (Signal n k) ps → map (pin_value vs) ps ≡ values vs ps
used-values n k vs [] few h a = refl
used-values n k vs (p ∷ ps) few h a =
    let apart : p ≡ 255 → ⊥ = λ e. ⊎_elim (λ l. omega arith) (λ l. let x = l.1 in omega arith) a.0 in
    ap (λ t. cond t false (get_or vs p false) ∷ map (pin_value vs) ps) (ne_eqb p 255 apart) ∙ ap (λ xs. get_or vs p false ∷ xs) (used-values n k vs ps few h a.1)

unused_values : (vs : List Bool) (m : ℕ) → map (pin_value vs) (replicate m 255) ≡ replicate m false
unused_values vs zero = refl
unused_values vs (suc m) = ap (λ xs. false ∷ xs) (unused_values vs m)

module _ {F : Type 0} {number' pins size : F → ℕ} {packed : F → ℕ → List ℕ} {reads : F → List ℕ → ℕ → Bool} (laws : Laws number' pins size packed reads) (a : F) (n : ℕ) (few : n ≤ 16) where
  abbrev net : Cell → NetCell
  net = configured (pins a) (packed a)

  -- the configured cell means the table's entry at the pins that are used
  entry_meant : (b t : ℕ) (xs : List Bool) → length xs ≡ b → b ≤ pins a →
      meant (size a) (pins a) (reads a) (packed a (widened_table (pins a) b t)) (assignment (xs ++ replicate (pins a - b) false)) ≡ entry_of t (number xs)
  entry_meant b t xs e h =
      let K = pins a in
      let pad : List Bool = replicate (K - b) false in
      let w = widened_table K b t in
      let long : length xs + length pad ≡ K = omega (arith, length-replicate (K - b) false) in
      let within : assignment (xs ++ pad) < 2 ^ K = subst (λ k. assignment (xs ++ pad) < 2 ^ k) (length-append xs pad ∙ long) (assignment-below (xs ++ pad)) in
      read_back laws a w (assignment (xs ++ pad)) (widened_is_table K b t)
      ∙ ap (λ y. y && entry_of w (assignment (xs ++ pad))) (lt-ltb (assignment (xs ++ pad)) (2 ^ K) within)
      ∙ ap (λ k. entry_of (widened_table K k t) (assignment (xs ++ pad))) (sym e)
      ∙ widened_assignments K t xs pad (laws.few_pins a) long
      ∙ ap (entry_of t) (assignment-number xs)

  cell_same : (k : ℕ) (vs : List Bool) (c : Cell) → k ≤ 48 → length c.pins ≤ pins a → All (Signal n k) c.pins →
      cell_bit (λ bs e. meant (size a) (pins a) (reads a) bs e) vs (net c) ≡ yield vs c
  cell_same k vs c h fit wired =
      let ps = c.pins in
      let b = length ps in
      let seen : map (pin_value vs) (take (pins a) (ps ++ replicate (pins a) 255)) ≡ values vs ps ++ replicate (pins a - b) false =
      ap (map (pin_value vs)) (padded (pins a) ps fit)
      ∙ map-append (pin_value vs) ps (replicate (pins a - b) 255)
      ∙ ap (λ us. us ++ map (pin_value vs) (replicate (pins a - b) 255)) (used-values n k vs ps few h wired)
      ∙ ap (λ us. values vs ps ++ us) (unused_values vs (pins a - b)) in
      ap (λ us. meant (size a) (pins a) (reads a) (packed a (widened_table (pins a) b c.table)) (assignment us)) seen
      ∙ entry_meant b c.table (values vs ps) (length-map ps (λ p. get_or vs p false)) fit

  pub cells_same : (k : ℕ) (vs : List Bool) (cs : List Cell) → k + length cs ≤ 48 → Seated n (pins a) k cs →
      yielded (cell_bit (λ bs e. meant (size a) (pins a) (reads a) bs e)) vs (map net cs) ≡ yielded yield vs cs
  cells_same k vs [] h s = refl
  cells_same k vs (c ∷ cs) h s =
      ap (λ y. y ∷ yielded (cell_bit (λ bs e. meant (size a) (pins a) (reads a) bs e)) (vs ++ (y ∷ [])) (map net cs)) (cell_same k vs c (omega arith) s.0 s.1)
      ∙ ap (λ ys. yield vs c ∷ ys) (cells_same (suc k) (vs ++ (yield vs c ∷ [])) cs (omega arith) s.2)

  configured-bytes : (c : Cell) → Bytes (net c).config
  configured-bytes c i =
      let t = widened_table (pins a) (length c.pins) c.table in
      let whole = widened_is_table (pins a) (length c.pins) c.table in
      let long = laws.sized a t whole in
      ⊎_elim (λ l. laws.bytes a t i whole l) (λ l. subst (λ k. k < 256) (sym (get_or_past (packed a t) i 0 (omega arith))) (lit< tt)) (cases_lt i (size a))

  pub cells-wired : (k : ℕ) (cs : List Cell) → Seated n (pins a) k cs → Wired n (pins a) (size a) k (map net cs)
  cells-wired k [] s = tt
  cells-wired k (c ∷ cs) s = (
    record { used = c.pins; few = s.0; signals = s.1; padded = padded (pins a) c.pins s.0 },
    (configured_shape laws a c).1,
    configured-bytes c,
    cells-wired (suc k) cs s.2,
  )
