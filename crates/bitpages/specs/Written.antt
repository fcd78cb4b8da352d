-- The text of a bit page, and what it has to do with reading.
use Rattle.std.specs.Prelude.{◌≡◌, ℕ, ◌+◌, Bool, List, [], ◌∷◌, ◌++◌, map}
use Rattle.frames.specs.declared.kinds.Kind.TheVariants.{BitPage, Bits}
use Rattle.frames.specs.Kinds.{kind_byte}
use Rattle.frames.specs.Pages.{page}
use Rattle.frames.specs.Text.{sealed, text}
use Rattle.bitpages.specs.Table.{Table, share, count, entries, parts, table_bytes}
use Rattle.bitpages.specs.Page.{packed, paged, alone}

-- the heading of n arguments
abbrev pub heading_frame : ℕ → List ℕ
heading_frame n = sealed (kind_byte BitPage ∷ n ∷ [])

-- the frame that carries these bytes
abbrev pub bits_frame : List ℕ → List ℕ
bits_frame ds = sealed (kind_byte Bits ∷ ds)

-- the frames of the page of n arguments with these bytes
abbrev pub page_frames : ℕ → List ℕ → List (List ℕ)
page_frames n ds = heading_frame n ∷ map bits_frame (parts (share n) (count n) ds)

-- the frames of the page of a table of n arguments
abbrev pub table_frames : ℕ → List Bool → List (List ℕ)
table_frames n es = page_frames n (table_bytes n es)

-- the text of that page
abbrev pub table_text : ℕ → List Bool → List ℕ
table_text n es = text (table_frames n es)

-- pages are written and read in one way
pub record PageLaws : Type 0 where
  -- the text of a table's page, whatever follows it, reads as n and the table's bytes
  pub written_reads : (n : ℕ) (es : List Bool) (rest : List ℕ) (line : ℕ) → Table n es → paged (table_text n es ++ rest) line ≡ page (packed n (table_bytes n es)) rest (line + (count n + 1))
  -- of which the entries are the table
  pub written_entries : (n : ℕ) (es : List Bool) → Table n es → entries n (table_bytes n es) ≡ es
  -- what reads as a page is the text of its entries, and what follows it
  pub read_is_written : (n : ℕ) (xs ds rest : List ℕ) (line after : ℕ) → paged xs line ≡ page (packed n ds) rest after → Table n (entries n ds) × (xs ≡ table_text n (entries n ds) ++ rest)
  -- a text that is the page of a table is that page
  pub written_loads : (n : ℕ) (es : List Bool) (line : ℕ) → Table n es → alone (table_text n es) line ≡ page (packed n (table_bytes n es)) [] (line + (count n + 1))
  -- and no other text is
  pub loaded_is_written : (n : ℕ) (xs ds rest : List ℕ) (line after : ℕ) → alone xs line ≡ page (packed n ds) rest after → Table n (entries n ds) × (xs ≡ table_text n (entries n ds))
