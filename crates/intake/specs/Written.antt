-- The text of a network page.
use Rattle.std.specs.Prelude.{ℕ, List, [], ◌∷◌, ◌++◌, map, length}
use Rattle.frames.specs.declared.kinds.Kind.TheVariants as kind
use Rattle.frames.specs.Kinds.{kind_byte}
use Rattle.frames.specs.Text.{sealed, text}
use Rattle.intake.specs.Networks.{NetCell, Network}

-- the heading: the family's number, the number of inputs and that of cells
abbrev pub heading_frame : ℕ → Network → List ℕ
heading_frame number w = sealed (kind_byte kind.Network ∷ number ∷ w.inputs ∷ length w.cells ∷ [])

-- the frame of a cell: its pins, and its configuration
abbrev pub cell_frame : NetCell → List ℕ
cell_frame c = sealed (kind_byte kind.Cell ∷ (c.pins ++ c.config))

-- the frames of a network of the family with this number
abbrev pub network_frames : ℕ → Network → List (List ℕ)
network_frames number w = heading_frame number w ∷ map cell_frame w.cells

-- the text of its page
abbrev pub network_text : ℕ → Network → List ℕ
network_text number w = text (network_frames number w)
