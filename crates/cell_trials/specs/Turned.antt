-- A family of one byte, its bits turned round.
use Rattle.std.specs.Prelude.{◌≡◌, ℕ, zero, suc, ◌-◌, ◌<◌, Bool, List, [], ◌∷◌, slice_index, refl}
use Rattle.std.proofs.Common.{ap, ◌∙◌, arith, lit<, lit≤}
use Rattle.families.specs.Tables.{entry_of, tabled}
use Rattle.families.specs.Laws.{Laws}
use Rattle.families.proofs.TableEntries.{tabled-below, tabled_entry}

-- the first eight entries, the first at the greatest weight
abbrev pub turned_byte : ℕ → ℕ
turned_byte t = tabled 8 (λ i. entry_of t (7 - i))

-- the configuration is that byte
abbrev pub turned_packed : ℕ → List ℕ
turned_packed t = turned_byte t ∷ []

-- and yields the bit of the assignment's weight
abbrev pub turned_reads : List ℕ → ℕ → Bool
turned_reads bs e = entry_of (slice_index bs 0) (7 - e)

byte_below : (t i : ℕ) → i < 1 → slice_index (turned_packed t) i < 256
byte_below t zero l = tabled-below 8 (λ i. entry_of t (7 - i))
byte_below t (suc i) l = omega arith

turned_yields : (t e : ℕ) → e < 8 → turned_reads (turned_packed t) e ≡ entry_of t e
turned_yields t e l =
    let back : 7 - (7 - e) ≡ e = omega arith in
    tabled_entry 8 (λ i. entry_of t (7 - i)) (7 - e) (omega arith) ∙ ap (entry_of t) back

pub turned_laws : {F : Type 0} → Laws {F = F} (λ f. 9) (λ f. 3) (λ f. 1) (λ f. turned_packed) (λ f. turned_reads)
turned_laws = record {
  numbered = λ f. lit< tt;
  some_pins = λ f. lit≤ tt;
  few_pins = λ f. lit≤ tt;
  some_bytes = λ f. lit≤ tt;
  few_bytes = λ f. lit≤ tt;
  sized = λ f t h. refl;
  bytes = λ f t i h. byte_below t i;
  yields = λ f t e h. turned_yields t e;
}
