-- The fields of a cell's frame, and the cell that holds them.
use Rattle.std.proofs.Common.{◌≡◌, ℕ, ◌+◌, true, false, List, length, take, drop, sym, ap, ◌∙◌, arith}
use Rattle.std.proofs.lemmas.List.{drop-take, length-drop, length-take-le, take-take}
use Rattle.std.proofs.lemmas.Bool.{cond-true, cond-false}
use Rattle.frames.specs.declared.faults.RecordFault.TheVariants.{BadPin}
use Rattle.frames.specs.Numbers.{numbers}
use Rattle.frames.specs.Outcome.{Outcome, frame}
use Rattle.frames.specs.Records.{got, bad, recorded}
use Rattle.intake.specs.declared.cell.Cell.{Cell}
use Rattle.intake.specs.Page.{pinned, wired}
use Rattle.intake.specs.Views.{Holds, cell_of}

-- of the frame f, of which the bytes between its kind and its last are m fields: K pins, and so many configuration bytes
module _ (n K size k line m : ℕ) (f : List ℕ) (o : Outcome) (is : frame f ≡ o) (many : m ≡ K + size) (long : length f ≡ K + size + 2) where
  abbrev pins_part : List ℕ
  pins_part = take K (take m (drop 1 f))

  abbrev config_part : List ℕ
  config_part = drop K (take m (drop 1 f))

  pins-there : pins_part ≡ take K (drop 1 f)
  pins-there = take-take K m (drop 1 f) (omega arith)

  config-there : config_part ≡ take size (drop K (drop 1 f))
  config-there = ap (λ (j : ℕ). drop K (take j (drop 1 f))) many ∙ drop-take K size (drop 1 f)

  pub pins-long : length pins_part ≡ K
  pins-long = ap length pins-there ∙ length-take-le K (drop 1 f) (omega (arith, length-drop 1 f))

  pub config-long : length config_part ≡ size
  config-long = ap length config-there ∙ length-take-le size (drop K (drop 1 f)) (omega (arith, length-drop 1 f, length-drop K (drop 1 f)))

  pub bad-pins : pinned n k true pins_part ≡ false → bad (numbers 2 9 line 0) (BadPin line) ≡ recorded o (wired n K size k line)
  bad-pins e = sym (cond-false _ _ _ (ap (pinned n k true) (sym pins-there) ∙ e)) ∙ ap (λ (o : Outcome). recorded o (wired n K size k line)) is

  pub good-pins : (c : Cell) → pinned n k true pins_part ≡ true → Holds pins_part config_part c → got (cell_of K size c) ≡ recorded o (wired n K size k line)
  good-pins c e h =
      let ps : take K c.pins ≡ take K (drop 1 f) = ap (λ (j : ℕ). take j c.pins) (sym pins-long) ∙ h.0 ∙ pins-there in
      let cs : take size c.config ≡ take size (drop K (drop 1 f)) = ap (λ (j : ℕ). take j c.config) (sym config-long) ∙ h.1 ∙ config-there in
      ap (λ (t : List ℕ). got (record { pins = t; config = take size c.config })) ps
      ∙ ap (λ (t : List ℕ). got (record { pins = take K (drop 1 f); config = t })) cs
      ∙ sym (cond-true _ _ _ (ap (pinned n k true) (sym pins-there) ∙ e))
      ∙ ap (λ (o : Outcome). recorded o (wired n K size k line)) is
