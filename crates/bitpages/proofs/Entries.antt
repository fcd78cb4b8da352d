-- The entries of bytes, and the bytes of entries.
use Rattle.std.proofs.Common.{◌≡◌, ℕ, zero, suc, ◌+◌, ◌-◌, ◌*◌, ◌/◌, ◌%◌, ◌^◌, ◌<◌, ◌≤◌, Bool, false, eqb, List, [], map, reverse, length, get_or, take, drop, sym, refl, ap, ◌∙◌, inl, inr, arith, pow_pos, pow_mono}
use native.Mathlib.Nat.{div-eq_of_lt}
use Rattle.std.proofs.lemmas.List.FromFn.{length-map-range_with_len, get_or-map-range_with_len}
use Rattle.std.proofs.lemmas.List.{ext_get_or, get_or_past, get_or-map, get_or-reverse, get_or-take, get_or-drop, length-map, length-reverse, length-take}
use Rattle.std.proofs.lemmas.Bool.{cases_lt}
use Rattle.std.proofs.lemmas.Bool.Decides.{nat_tests}
use Rattle.frames.specs.Text.{Bytes}
use Rattle.functions.specs.Words.{number, bits}
use Rattle.functions.proofs.Words.{bits_number, get_or_bits, number_bits, number_below}
use Rattle.bitpages.specs.Table.{Table, size, bit_at, entry_at, entries, spare, parts, byte_of, table_bytes}
use Rattle.bitpages.proofs.Sizes.{size_low, size_room, size_full, size_small}
use Rattle.bitpages.proofs.Parts.{length-parts, get_or-parts}

-- a number below 2 ^ k has no bit k
pub bit_at-low : (b k : ℕ) → b < 2 ^ k → bit_at b k ≡ false
bit_at-low b k h = ap (λ (q : ℕ). eqb (q % 2) 1) (div-eq_of_lt h)

-- bytes have no entry past the last
pub entry_at-past : (ds : List ℕ) (i : ℕ) → length ds ≤ i / 8 → entry_at ds i ≡ false
entry_at-past ds i h = ap (λ (b : ℕ). bit_at b (i % 8)) (get_or_past ds (i / 8) 0 h) ∙ bit_at-low 0 (i % 8) (pow_pos (i % 8))

-- a byte of k entries is below 2 ^ k
pub byte_of-below : (es : List Bool) (k : ℕ) → length es ≤ k → byte_of es < 2 ^ k
byte_of-below es k h = let w : length (reverse es) ≤ k = omega (arith, length-reverse es) in omega (arith, number_below (reverse es), pow_mono w)

-- and its bits are the entries
bit_at-byte_of : (es : List Bool) (r : ℕ) → bit_at (byte_of es) r ≡ get_or es r false
bit_at-byte_of es r = elim (cases_lt r (length es)) [
  | inl inside ↦
      let t : ℕ = length es - 1 - r in
      let e : length es - 1 - t ≡ r = omega arith in
      let b : bits (length es) (byte_of es) ≡ reverse es = ap (λ (k : ℕ). bits k (byte_of es)) (sym (length-reverse es)) ∙ bits_number (reverse es) in
      ap (bit_at (byte_of es)) (sym e)
      ∙ sym (get_or_bits (length es) (byte_of es) t (omega arith))
      ∙ ap (λ (l : List Bool). get_or l t false) b
      ∙ get_or-reverse es t false (omega arith)
      ∙ ap (λ (j : ℕ). get_or es j false) e
  | inr past ↦ bit_at-low (byte_of es) r (byte_of-below es r past) ∙ sym (get_or_past es r false past)
]

-- the bytes of entries hold those entries
module _ (m : ℕ) (es : List Bool) where
  length-bytes : length (map byte_of (parts 8 m es)) ≡ m
  length-bytes = length-map (parts 8 m es) byte_of ∙ length-parts 8 m es

  get_or-bytes : (k : ℕ) → k < m → get_or (map byte_of (parts 8 m es)) k 0 ≡ byte_of (take 8 (drop (k * 8) es))
  get_or-bytes k h = get_or-map byte_of (parts 8 m es) k [] 0 (omega (arith, length-parts 8 m es)) ∙ ap byte_of (get_or-parts 8 m es k [] h)

  bytes-bytes : Bytes (map byte_of (parts 8 m es))
  bytes-bytes k = elim (cases_lt k m) [
    | inl inside ↦ rw (get_or-bytes k inside) (byte_of-below (take 8 (drop (k * 8) es)) 8 (omega (arith, length-take 8 (drop (k * 8) es))))
    | inr past ↦ rw (get_or_past (map byte_of (parts 8 m es)) k 0 (omega (arith, length-bytes))) (omega arith)
  ]

  entry_at-bytes : length es ≤ 8 * m → (i : ℕ) → entry_at (map byte_of (parts 8 m es)) i ≡ get_or es i false
  entry_at-bytes room i = elim (cases_lt (i / 8) m) [
    | inl inside ↦
        let e : i / 8 * 8 + i % 8 ≡ i = omega arith in
        ap (λ (b : ℕ). bit_at b (i % 8)) (get_or-bytes (i / 8) inside)
        ∙ bit_at-byte_of (take 8 (drop (i / 8 * 8) es)) (i % 8)
        ∙ get_or-take 8 (drop (i / 8 * 8) es) (i % 8) false (omega arith)
        ∙ get_or-drop (i / 8 * 8) es (i % 8) false
        ∙ ap (λ (j : ℕ). get_or es j false) e
    | inr past ↦ entry_at-past (map byte_of (parts 8 m es)) i (omega (arith, length-bytes)) ∙ sym (get_or_past es i false (omega arith))
  ]

-- bytes are known by their bits
same_byte : (b c : ℕ) → b < 256 → c < 256 → ((r : ℕ) → r < 8 → bit_at b r ≡ bit_at c r) → b ≡ c
same_byte b c hb hc f =
    sym (number_bits 8 b hb)
    ∙ ap number (ext_get_or false (bits 8 b) (bits 8 c) refl (λ t h. get_or_bits 8 b t h ∙ f (8 - 1 - t) (omega arith) ∙ sym (get_or_bits 8 c t h)))
    ∙ number_bits 8 c hc

same_bytes : (ds es : List ℕ) → length ds ≡ length es → Bytes ds → Bytes es → ((i : ℕ) → entry_at ds i ≡ entry_at es i) → ds ≡ es
same_bytes ds es long hd he f =
    ext_get_or 0 ds es long (λ k h. same_byte (get_or ds k 0) (get_or es k 0) (hd k) (he k) (λ r l.
    let q : (k * 8 + r) / 8 ≡ k = omega arith in
    let m : (k * 8 + r) % 8 ≡ r = omega arith in
    rw (q, m) at (f (k * 8 + r))))

-- the bytes of a table of n arguments
pub record TableBytes (n : ℕ) (ds : List ℕ) : Type 0 where
  pub low : 1 ≤ n
  pub high : n ≤ 12
  pub long : length ds ≡ size n
  pub bytes : Bytes ds
  pub clear : spare n (get_or ds 0 0) ≡ false

-- what the test for spare bits tells
pub spare-none : (n b : ℕ) → 3 ≤ n → spare n b ≡ false
spare-none n b h = grind (arith, nat_tests)

spare_clear : (n b : ℕ) → b < 2 ^ (2 ^ n) → spare n b ≡ false
spare_clear zero b h = refl
spare_clear (suc zero) b h = grind (arith, nat_tests)
spare_clear (suc (suc zero)) b h = grind (arith, nat_tests)
spare_clear (suc (suc (suc n))) b h = spare-none (suc (suc (suc n))) b (omega arith)

spare-below : (n b : ℕ) → 1 ≤ n → n < 3 → spare n b ≡ false → b < 2 ^ (2 ^ n)
spare-below zero b low small e = absurd (omega arith)
spare-below (suc zero) b low small e = grind (arith, nat_tests)
spare-below (suc (suc zero)) b low small e = grind (arith, nat_tests)
spare-below (suc (suc (suc n))) b low small e = absurd (omega arith)

-- they hold no entry past the 2 ^ n
pub entry_at_clear : (n : ℕ) (ds : List ℕ) → TableBytes n ds → (i : ℕ) → 2 ^ n ≤ i → entry_at ds i ≡ false
entry_at_clear n ds t i h = elim (cases_lt (i / 8) (size n)) [
  | inr past ↦ entry_at-past ds i (omega (arith, t.long))
  | inl inside ↦ elim (cases_lt n 3) [
    | inr large ↦ absurd (omega (arith, size_full n large))
    | inl small ↦
        let q : i / 8 ≡ 0 = omega (arith, size_small n small) in
        let r : 2 ^ n ≤ i % 8 = omega arith in
        ap (λ (k : ℕ). bit_at (get_or ds k 0) (i % 8)) q ∙ bit_at-low (get_or ds 0 0) (i % 8) (omega (arith, spare-below n (get_or ds 0 0) t.low small t.clear, pow_mono r))
  ]
]

-- the entries as a list
pub length-entries : (n : ℕ) (ds : List ℕ) → length (entries n ds) ≡ 2 ^ n
length-entries n ds = length-map-range_with_len (entry_at ds) 0 (2 ^ n)

pub get_or-entries : (n : ℕ) (ds : List ℕ) (i : ℕ) → i < 2 ^ n → get_or (entries n ds) i false ≡ entry_at ds i
get_or-entries n ds i h = get_or-map-range_with_len (entry_at ds) 0 (2 ^ n) i i false h (omega arith)

-- a table and its bytes
module _ (n : ℕ) (es : List Bool) (t : Table n es) where
  pub entry_at-table : (i : ℕ) → entry_at (table_bytes n es) i ≡ get_or es i false
  entry_at-table = entry_at-bytes (size n) es (omega (arith, size_room n))

  pub table-bytes : TableBytes n (table_bytes n es)
  table-bytes = record {
    low = t.0;
    high = t.1;
    long = length-bytes (size n) es;
    bytes = bytes-bytes (size n) es;
    clear = spare_clear n (get_or (table_bytes n es) 0 0) (rw (get_or-bytes (size n) es 0 (size_low n)) (byte_of-below (take 8 es) (2 ^ n) (omega (arith, length-take 8 es))));
  }

  pub written_entries : entries n (table_bytes n es) ≡ es
  written_entries =
      let long : length (entries n (table_bytes n es)) ≡ length es = length-entries n (table_bytes n es) ∙ sym t.2 in
      ext_get_or false (entries n (table_bytes n es)) es long (λ i h. get_or-entries n (table_bytes n es) i (omega arith) ∙ entry_at-table i)

-- bytes and their table
module _ (n : ℕ) (ds : List ℕ) (t : TableBytes n ds) where
  pub table-entries : Table n (entries n ds)
  table-entries = (t.low, t.high, length-entries n ds)

  pub bytes-entries : table_bytes n (entries n ds) ≡ ds
  bytes-entries =
      let b = table-bytes n (entries n ds) table-entries in
      same_bytes (table_bytes n (entries n ds)) ds (b.long ∙ sym t.long) b.bytes t.bytes (λ i. entry_at-table n (entries n ds) table-entries i ∙ elim (cases_lt i (2 ^ n)) [
        | inl inside ↦ get_or-entries n ds i inside
        | inr past ↦ get_or_past (entries n ds) i false (omega (arith, length-entries n ds)) ∙ sym (entry_at_clear n ds t i past)
      ])
