use Rattle.std.proofs.Common.{◌≡◌, List, ℕ, ◌++◌, codes, append_assoc}
use Rattle.frames.specs.Numbers.{page_numbers}
use Rattle.frames.specs.Words.{node_text}
use Rattle.reports.proofs.Texts.{made_as}
use Rattle.reports.proofs.words.fault_text.Goals as goal

joined : (a b c d e : List ℕ) → (codes "line " ++ (a ++ (codes ": layer " ++ (b ++ (codes ", cause " ++ (c ++ d)))))) ++ e ≡ codes "line " ++ (a ++ (codes ": layer " ++ (b ++ (codes ", cause " ++ (c ++ (d ++ e))))))
joined a b c d e = simp append_assoc

pub returns : goal.returns
returns c =
    let made = rw c.numbers-numbers.ensures at c.format.ensures.ok in
    made_as c.format.result _ _ (joined _ _ _ (node_text (page_numbers c.args.fault.now).node) _) made
