-- Network pages are written and read in one way.
use Rattle.std.specs.Prelude.{◌≡◌, ℕ, List}
use Rattle.frames.specs.Pages.{page}
use Rattle.intake.specs.Networks.{Network, WellFormed}
use Rattle.intake.specs.Page.{taken, intake}
use Rattle.intake.specs.Written.{network_text}

-- of the intake of a family, by its number, its pins and its configuration bytes
pub record IntakeLaws (number K size : ℕ) : Type 0 where
  -- the text of a well-formed network is taken as that network
  pub written_taken : (w : Network) → WellFormed K size w → intake number K size (network_text number w) ≡ taken w
  -- what is taken is a well-formed network, and its text is the only one that is
  pub taken_written : (w : Network) (xs rest : List ℕ) (line : ℕ) → intake number K size xs ≡ page w rest line → WellFormed K size w × (xs ≡ network_text number w)
