-- The family of one word keeps the laws of families.
use Rattle.std.specs.Prelude.{[], refl}
use Rattle.std.proofs.Common.{arith, lit<, lit≤}
use Rattle.families.specs.Laws.{Laws}
use Rattle.families.specs.Entries.{word_entry, word_bytes_below}
use Rattle.families.specs.Single.{single_packed, single_reads}

pub single_laws : {F : Type 0} → Laws {F = F} (λ f. 4) (λ f. 4) (λ f. 2) (λ f. single_packed) (λ f. single_reads)
single_laws = record {
  numbered = λ f. lit< tt;
  some_pins = λ f. lit≤ tt;
  few_pins = λ f. lit≤ tt;
  some_bytes = λ f. lit≤ tt;
  few_bytes = λ f. lit≤ tt;
  sized = λ f t h. refl;
  bytes = λ f t i h. word_bytes_below t [] (λ k l. omega arith) i;
  yields = λ f t e h l. word_entry t e l;
}
