-- What a program is asked to do.
use Rattle.std.specs.Prelude.{◌≡◌, ℕ, ◌⊎◌, List, Some, None, codes, Option, ◌≢◌}
use Rattle.std.specs.Borrow.{Bor}
use Rattle.programs.specs.declared.Request.{Request}
use Rattle.programs.specs.declared.Request.TheVariants.{Work, Help, Unknown}

-- its work where there is no argument, its help at `--help`, and nothing that it knows at any other
abbrev pub AskedBy : Option (Bor (List ℕ)) → Request → Type 0
AskedBy None a = a ≡ Work
AskedBy (Some word) a = ((word.now ≡ codes "--help") × (a ≡ Help)) ⊎ ((word.now ≢ codes "--help") × (a ≡ Unknown))
