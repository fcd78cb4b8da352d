-- Class counts by width, and the text that tells them.
use Rattle.std.specs.Prelude.{◌≡◌, ℕ, zero, suc, ◌≤◌, min, List, [], ◌∷◌, ◌++◌, length, Some, None, codes, decimal, Option}
use Rattle.functions.specs.Functions.{Fn}
use Rattle.functions.specs.Classes.{columns, classes}

-- how many classes f has at its first b arguments
abbrev pub class_count : ℕ → Fn → ℕ
class_count b f = length (classes (columns b f))

-- the answer for a width: the class count, or none where f has fewer arguments or the width is above 5
abbrev pub Counted : ℕ → Fn → ℕ → Option ℕ → Type 0
Counted m f b (Some n) = (b ≤ m) × (b ≤ 5) × (n ≡ class_count b f)
Counted m f b None = b ≤ m → b ≤ 5 → ⊥

-- the line that tells the number of inputs
abbrev pub inputs_text : ℕ → List ℕ
inputs_text m = codes "inputs " ++ (decimal m ++ (10 ∷ []))

-- the line that tells a width's class count
abbrev pub width_text : ℕ → ℕ → List ℕ
width_text b n = codes "width " ++ (decimal b ++ (codes " classes " ++ (decimal n ++ (10 ∷ []))))

-- the lines for the widths 1 to k
abbrev pub widths_text : ℕ → Fn → List ℕ
widths_text zero f = []
widths_text (suc k) f = widths_text k f ++ width_text (suc k) (class_count (suc k) f)

-- the number of inputs, and the class count at each width from 1 to the smaller of 5 and that number
abbrev pub counts_text : ℕ → Fn → List ℕ
counts_text m f = inputs_text m ++ widths_text (min 5 m) f
