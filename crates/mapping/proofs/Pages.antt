-- How many bytes the page of a network takes.
use Rattle.std.proofs.Common.{◌≡◌, ℕ, ◌+◌, ◌-◌, ◌*◌, ◌/◌, ◌^◌, min, Bool, List, [], ◌∷◌, ◌++◌, map, length, take, replicate, sym, ap, ◌∙◌, suc-mul, add_comm, arith}
use native.Mathlib.Nat.{min-le_right}
use Rattle.std.specs.List.{AllByRecursion as All}
use Rattle.std.proofs.lemmas.List.{length-append, length-map, length_push, length-replicate, length-take-le}
use Rattle.std.proofs.ByRecursion.{All-map}
use Rattle.frames.specs.declared.kinds.Kind.TheVariants as kind
use Rattle.frames.specs.Kinds.{kind_byte}
use Rattle.frames.specs.Text.{sealing, line_text, text}
use Rattle.frames.proofs.Buffers.{length-line}
use Rattle.families.specs.Tables.{Table, entry_of}
use Rattle.families.specs.Widening.{widened_table}
use Rattle.families.specs.Laws.{Laws}
use Rattle.families.proofs.TableEntries.{tabled-table}
use Rattle.intake.specs.Networks.{NetCell, Network}
use Rattle.intake.specs.Written.{heading_frame, cell_frame, network_text}
use Rattle.mapping.specs.States.{Cell, State}
use Rattle.mapping.specs.Answers.{page_bytes}
use Rattle.mapping.specs.Kept.{configured, network_of}

-- K pins and so many configuration bytes
abbrev pub Shaped : ℕ → ℕ → NetCell → Type 0
Shaped K config c = (length c.pins ≡ K) × (length c.config ≡ config)

pub heading-line : (number : ℕ) (w : Network) → length (line_text (heading_frame number w)) ≡ 11
heading-line number w = length-line (heading_frame number w)

pub cell-line : (K config : ℕ) (c : NetCell) → Shaped K config c → length (line_text (cell_frame c)) ≡ 2 * (K + config + 2) + 1
cell-line K config c s =
    let content = kind_byte kind.Cell ∷ (c.pins ++ c.config) in
    let pins = s.0 in
    let bytes = s.1 in
    length-line (cell_frame c) ∙ (let long = length_push content (sealing content) in omega (arith, length-append c.pins c.config))

pub cell_lines : (K config : ℕ) (cs : List NetCell) → All (Shaped K config) cs → length (text (map cell_frame cs)) ≡ length cs * (2 * (K + config + 2) + 1)
cell_lines K config [] a = omega arith
cell_lines K config (c ∷ cs) a =
    let each = 2 * (K + config + 2) + 1 in
    length-append (line_text (cell_frame c)) (text (map cell_frame cs))
    ∙ ap (λ k. k + length (text (map cell_frame cs))) (cell-line K config c a.0)
    ∙ ap (λ k. each + k) (cell_lines K config cs a.1)
    ∙ add_comm each (length cs * each)
    ∙ sym (suc-mul (length cs) each)

-- the page of a network of such cells
pub page-length : (number K config : ℕ) (w : Network) → All (Shaped K config) w.cells → length (network_text number w) ≡ page_bytes K config (length w.cells)
page-length number K config w a =
    length-append (line_text (heading_frame number w)) (text (map cell_frame w.cells))
    ∙ ap (λ k. k + length (text (map cell_frame w.cells))) (heading-line number w)
    ∙ ap (λ k. 11 + k) (cell_lines K config w.cells a)

-- a cell has K pins once it is configured, however many it has
length-padded : (K : ℕ) (ps : List ℕ) → length (take K (ps ++ replicate K 255)) ≡ K
length-padded K ps = length-take-le K (ps ++ replicate K 255) (omega (arith, length-append ps (replicate K 255), length-replicate {A = ℕ} K 255))

-- and a table
pub widened_is_table : (K b t : ℕ) → Table (widened_table K b t)
widened_is_table K b t = tabled-table (min K 5) (λ e. entry_of t (e / 2 ^ (min K 5 - b))) (min-le_right K 5)

module _ {F : Type 0} {number pins size : F → ℕ} {packed : F → ℕ → List ℕ} {reads : F → List ℕ → ℕ → Bool} (laws : Laws number pins size packed reads) (a : F) where
  pub configured_shape : (c : Cell) → Shaped (pins a) (size a) (configured (pins a) (packed a) c)
  configured_shape c = (length-padded (pins a) c.pins, laws.sized a (widened_table (pins a) (length c.pins) c.table) (widened_is_table (pins a) (length c.pins) c.table))

  -- the page of any state's network
  pub network_length : (n : ℕ) (s : State) → length (network_text (number a) (network_of (pins a) (packed a) n s)) ≡ page_bytes (pins a) (size a) (length s.cells)
  network_length n s =
      page-length (number a) (pins a) (size a) (network_of (pins a) (packed a) n s)
      (All-map (Shaped (pins a) (size a)) (configured (pins a) (packed a)) s.cells (all_any s.cells))
      ∙ ap (page_bytes (pins a) (size a)) (length-map s.cells (configured (pins a) (packed a)))
    where
      all_any : (cs : List Cell) → All (λ c. Shaped (pins a) (size a) (configured (pins a) (packed a) c)) cs
      all_any [] = tt
      all_any (c ∷ cs) = (configured_shape c, all_any cs)
