use Rattle.std.proofs.Common.{◌≡◌, ℕ, List, ◌++◌, length, take, ap, ◌∙◌}
use Rattle.std.proofs.lemmas.List.{take_at}
use Rattle.intake.proofs.cell.Cell.new.Goals as goal

-- the front of a buffer into which a list was copied
copied : (xs ys post : List ℕ) → ys ≡ xs → take (length xs) (ys ++ post) ≡ xs
copied xs ys post e = take_at ys post (length xs) (ap length e) ∙ e

pub returns : goal.returns
returns c = (copied c.args.pins.now c.copy_from_slice.new.self _ c.copy_from_slice.ensures.after, copied c.args.config.now c.copy_from_slice-2.new.self _ c.copy_from_slice-2.ensures.after)
