-- The rules keep the laws of codes.
use Rattle.std.specs.Prelude.{◌≡◌, true, slice_index, refl}
use Rattle.std.proofs.Common.{lit≤}
use Rattle.rules.specs.Codes.{Laws}
use Rattle.rules.specs.Counting.{counting}
use Rattle.rules.specs.Reflected.{reflected_codes, reflected}
use Rattle.rules.specs.Tables.{coding}
use Rattle.rules.specs.Limits.{limited_laws}
use Rattle.rules.specs.TableLaws.{coding_below, coding_apart}

pub counting_laws : {R : Type 0} → Laws {R = R} (λ r. counting)
counting_laws = limited_laws (λ c. c) (λ j c h l. l) (λ j c d h l k e. e)

-- the rule of the whole table, computed
reflected_coding : coding 4 reflected_codes ≡ true
reflected_coding = refl

pub reflected_laws : {R : Type 0} → Laws {R = R} (λ r. reflected)
reflected_laws =
    limited_laws (λ c. slice_index reflected_codes c) (coding_below 4 reflected_codes reflected_coding (lit≤ tt)) (coding_apart 4 reflected_codes reflected_coding (lit≤ tt))
