-- A packed table means its entries.
use Rattle.std.proofs.Common.{ℕ, Bool, List, arith}
use Rattle.std.proofs.lemmas.Bool.Decides.{nat_tests}
use Rattle.families.specs.Laws.{Laws, ReadBack}

pub read_back : {F : Type 0} {number pins size : F → ℕ} {packed : F → ℕ → List ℕ} {reads : F → List ℕ → ℕ → Bool} →
    Laws number pins size packed reads → ReadBack pins size packed reads
read_back laws f t e h = grind (arith, nat_tests, laws.sized f t h, laws.yields f t e h)
