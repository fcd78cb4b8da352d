-- Networks of cells of a family, and the bit at a network's pin.
use Rattle.std.specs.Prelude.{◌≡◌, ℕ, suc, ◌+◌, ◌-◌, ◌/◌, ◌%◌, ◌^◌, ◌<◌, ◌≤◌, Bool, false, cond, not, ◌⊎◌, List, [], ◌∷◌, ◌++◌, map, length, replicate, ◌==◌, nat_eq, slice_index_or}
use Rattle.std.specs.List.{range_with_len, AllByRecursion}
use Rattle.families.specs.Tables.{assignment}
use Rattle.frames.specs.Text.{Bytes}

-- a cell of a network: the signals at its pins, 255 for a pin that is not used, and its configuration bytes
pub record NetCell : Type 0 where
  pub pins : List ℕ
  pub config : List ℕ

-- a network: how many inputs it has, and its cells, of which the last closes
pub record Network : Type 0 where
  pub inputs : ℕ
  pub cells : List NetCell

-- the 16 input bits of a number: input i has the weight 2 ^ i
abbrev pub input_bits : ℕ → List Bool
input_bits x = map (λ i. nat_eq (x / 2 ^ i % 2) 1) (range_with_len 0 16)

-- the last bit of a list
abbrev pub last : List Bool → Bool
last [] = false
last (x ∷ []) = x
last (x ∷ y ∷ ys) = last (y ∷ ys)

-- what cells yield, each in turn, where vs are the values of the signals before them
abbrev pub yielded : {A : Type 0} → (List Bool → A → Bool) → List Bool → List A → List Bool
yielded yield vs [] = []
yielded yield vs (c ∷ cs) = yield vs c ∷ yielded yield (vs ++ (yield vs c ∷ [])) cs

-- the value at a pin, where vs are the values of all signals: a pin that is not used reads as 0
abbrev pub pin_value : List Bool → ℕ → Bool
pin_value vs p = cond (p == 255) false (slice_index_or vs p false)

-- of a family in which configuration bytes bs yield the bit `bit_at bs e` at the pin assignment e
module _ (bit_at : List ℕ → ℕ → Bool) where
  -- the bit that a cell yields
  abbrev pub cell_bit : List Bool → NetCell → Bool
  cell_bit vs c = bit_at c.config (assignment (map (pin_value vs) c.pins))

  -- the bit at a network's pin, where the inputs have the values vs, 16 of them: the negation of the last cell
  abbrev pub network_pin : Network → List Bool → Bool
  network_pin w vs = not (last (yielded cell_bit vs w.cells))

-- p is an input below n, or one of k cells
abbrev pub Signal : ℕ → ℕ → ℕ → Type 0
Signal n k p = (p < n) ⊎ ((16 ≤ p) × (p < 16 + k))

-- the pins of a cell that comes after k others: signals, and then pins that are not used, K in all
pub record Pinned (n K k : ℕ) (ps : List ℕ) : Type 0 where
  pub used : List ℕ
  pub few : length used ≤ K
  pub signals : AllByRecursion (Signal n k) used
  pub padded : ps ≡ used ++ replicate (K - length used) 255

-- cells of K pins and so many configuration bytes, the first after k others
abbrev pub Wired : ℕ → ℕ → ℕ → ℕ → List NetCell → Type 0
Wired n K size k [] = Unit {0}
Wired n K size k (c ∷ cs) = Pinned n K k c.pins × (length c.config ≡ size) × Bytes c.config × Wired n K size (suc k) cs

-- a network that a page can carry
pub record WellFormed (K size : ℕ) (w : Network) : Type 0 where
  pub narrow : w.inputs ≤ 16
  pub some : 1 ≤ length w.cells
  pub most : length w.cells ≤ 48
  pub wired : Wired w.inputs K size 0 w.cells
