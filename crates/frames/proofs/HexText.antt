-- What `{:02X}` writes of a byte.
use Rattle.std.proofs.Common.{◌≡◌, ℕ, ◌^◌, ◌-◌, ◌<◌, true, false, Some, ap, ◌∙◌, option_map}
use Rattle.std.specs.Fmt.{shown_prefix, radix_prefix, padded_integral, styled_digits_output, digits_output, digits, format_spec}
use Rattle.std.proofs.lemmas.Fmt.{hex_byte}
use Rattle.frames.specs.Text.{byte_digits}

pub styled_byte : (b : ℕ) (d : _) (s : _) → b < 256 → digits_output d ≡ Some (digits 16 true b) → s ≡ format_spec 32 0 4 2 (2 ^ 64 - 1) → styled_digits_output d s ≡ Some (byte_digits b)
styled_byte b d s small is spec =
    (λ i. option_map (padded_integral (spec i) false (shown_prefix (spec i) (radix_prefix d.base))) (is i)) ∙ ap Some (hex_byte true b small)
