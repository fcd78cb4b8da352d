-- Frames as lists of bytes, and the lines that write them.
use Rattle.std.specs.Prelude.{◌≡◌, ℕ, ◌+◌, ◌-◌, ◌*◌, ◌/◌, ◌%◌, ◌<◌, ◌≤◌, cond, not, ◌&&◌, List, [], ◌∷◌, ◌++◌, length, take, drop, is_some, Some, None, sum, Option, ◌==◌, nat_le, nat_lt, slice_index}
use Rattle.std.specs.List.{prefix_len, flat_map}

-- the digit, 0 to 9 or A to F, that writes a number below 16
abbrev pub hex_digit : ℕ → ℕ
hex_digit d = cond (nat_lt d 10) (48 + d) (55 + d)

-- the number that a digit writes; none for any other character
abbrev pub digit_value : ℕ → Option ℕ
digit_value c = cond (nat_le 48 c && nat_le c 57) (Some (c - 48)) (cond (nat_le 65 c && nat_le c 70) (Some (c - 55)) None)

-- the two digits of a byte
abbrev pub byte_digits : ℕ → List ℕ
byte_digits b = hex_digit (b / 16) ∷ hex_digit (b % 16) ∷ []

-- every element is a byte
abbrev pub Bytes : List ℕ → Type 0
Bytes bs = (k : ℕ) → slice_index bs k < 256

-- a frame has 2 to 24 bytes
abbrev pub Sized : List ℕ → Type 0
Sized bs = (2 ≤ length bs) × (length bs ≤ 24)

-- a frame is good when the sum of its bytes is a multiple of 256
abbrev pub Good : List ℕ → Type 0
Good bs = Sized bs × (sum bs % 256 ≡ 0)

-- the digits of bytes
abbrev pub hex : List ℕ → List ℕ
hex bs = flat_map byte_digits bs

-- the line of a frame: its digits, ended by byte 0A
abbrev pub line_text : List ℕ → List ℕ
line_text bs = hex bs ++ (10 ∷ [])

-- the text of a list of frames: their lines, one after another
abbrev pub text : List (List ℕ) → List ℕ
text fs = flat_map line_text fs

-- the byte that makes the sum of bytes and itself a multiple of 256
abbrev pub sealing : List ℕ → ℕ
sealing cs = (256 - sum cs % 256) % 256

-- a frame's content, closed by that byte
abbrev pub sealed : List ℕ → List ℕ
sealed cs = cs ++ (sealing cs ∷ [])

-- two digits' byte in front of the bytes of the others
abbrev pub paired : Option ℕ → Option ℕ → Option (List ℕ) → Option (List ℕ)
paired None l rest = None
paired (Some h) None rest = None
paired (Some h) (Some l) None = None
paired (Some h) (Some l) (Some bs) = Some ((16 * h + l) ∷ bs)

-- the bytes that digits write, two digits a byte; none for a wrong character or an odd digit
abbrev pub bytes_of : List ℕ → Option (List ℕ)
bytes_of [] = Some []
bytes_of (h ∷ []) = None
bytes_of (h ∷ l ∷ ds) = paired (digit_value h) (digit_value l) (bytes_of ds)

-- bytes, where there are 2 to 24 of them
abbrev pub bounded : Option (List ℕ) → Option (List ℕ)
bounded None = None
bounded (Some bs) = cond (nat_le 2 (length bs) && nat_le (length bs) 24) (Some bs) None

-- how many bytes come before the first line end
abbrev pub width : List ℕ → ℕ
width xs = prefix_len (λ c. not (c == 10)) xs

-- how many digits come before the first other character
abbrev pub digit_run : List ℕ → ℕ
digit_run ds = prefix_len (λ c. is_some (digit_value c)) ds

-- a buffer with a text written over it from a place on
abbrev pub placed : {X : Type 0} → List X → ℕ → List X → List X
placed out at xs = take at out ++ (xs ++ drop (at + length xs) out)

-- a buffer with a text written over its front
abbrev pub over : {X : Type 0} → List X → List X → List X
over out xs = xs ++ drop (length xs) out
