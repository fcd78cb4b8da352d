-- Tables that hold pages.
use Rattle.std.proofs.Common.{◌≡◌, ℕ, ◌^◌, ◌<◌, ◌≤◌, Bool, false, List, [], length, get_or, take, IfOk, Ok, Err, Result, sym, refl, ap, ◌∙◌, subst, inl, inr, arith, pow_mono}
use Rattle.std.proofs.lemmas.List.{ext_get_or, get_or_past, get_or-take, length-take-le}
use Rattle.std.proofs.lemmas.Bool.{cases_lt}
use Rattle.frames.specs.declared.faults.PageFault.{PageFault}
use Rattle.functions.specs.Functions.{Fn, tree}
use Rattle.functions.proofs.Rows.{tree-same}
use Rattle.bitpages.specs.Calls.{Holds, Filled}
use Rattle.frames.specs.Pages.{page}
use Rattle.bitpages.specs.Page.{Packed, packed, paged, alone}
use Rattle.bitpages.specs.Table.{entry_at, entries, meant}
use Rattle.bitpages.specs.Written.{table_text}
use Rattle.bitpages.proofs.Entries.{entry_at_clear, length-entries, get_or-entries}
use Rattle.bitpages.proofs.Pages.{page_laws, page-told}

-- a table whose entries are those of the bytes of a page holds it
pub holds : (n : ℕ) (xs ds rest : List ℕ) (line after : ℕ) (table : List Bool) → paged xs line ≡ page (packed n ds) rest after → length table ≡ 4096 → ((i : ℕ) → i < 4096 → get_or table i false ≡ entry_at ds i) → Holds n ds table
holds n xs ds rest line after table e long each =
    let t = (page-told n xs ds rest line after e).table in
    let high : n ≤ 12 = t.high in
    let room : 2 ^ n ≤ 4096 = pow_mono high in
    let front : length (take (2 ^ n) table) ≡ 2 ^ n = length-take-le (2 ^ n) table (omega arith) in
    record {
      range = (t.low, high);
      front = ext_get_or false (take (2 ^ n) table) (entries n ds) (front ∙ sym (length-entries n ds)) (λ i h. let l : i < 2 ^ n = omega arith in get_or-take (2 ^ n) table i false l ∙ each i (omega arith) ∙ sym (get_or-entries n ds i l));
      rest = λ i h. elim (cases_lt i 4096) [ inl inside ↦ each i inside ∙ entry_at_clear n ds t i h | inr past ↦ get_or_past table i false (omega arith) ];
      means = tree-same n (λ i. get_or table i false) (entry_at ds) (λ i l. each i (omega arith));
    }

pub filled : (d : Packed) (n : ℕ) (xs ds rest : List ℕ) (line after : ℕ) (table : List Bool) → paged xs line ≡ page d rest after → d ≡ packed n ds → length table ≡ 4096 → ((i : ℕ) → i < 4096 → get_or table i false ≡ entry_at ds i)
    → (n ≡ d.arity) × Holds d.arity d.bytes table
filled d n xs ds rest line after table e is long each =
    subst (λ (d : Packed). (n ≡ d.arity) × Holds d.arity d.bytes table) (sym is) (refl, holds n xs ds rest line after table (e ∙ ap (λ (d : Packed). page d rest after) is) long each)

-- a text that loads is the text of the table that it loads
pub loaded_text : (xs : List ℕ) (before after : List Bool) (r : Result ℕ PageFault) → (line : ℕ) × Filled (alone xs 1) [] line before after r → IfOk r (λ n. xs ≡ table_text n (take (2 ^ n) after))
loaded_text xs before after (Ok n) (line, (d, e, h)) =
    subst (λ (k : ℕ). xs ≡ table_text k (take (2 ^ k) after)) (sym h.0) ((page_laws.loaded_is_written d.arity xs d.bytes [] 1 line e).1 ∙ ap (table_text d.arity) (sym h.1.front))
loaded_text xs before after (Err e) f = tt

-- and its chart has the function that the page means
pub charted : (d : Packed) (n : ℕ) (table : List Bool) (f : Fn) → f ≡ tree n (λ i. get_or table i false) → n ≡ d.arity → Holds d.arity d.bytes table → f ≡ meant d.arity d.bytes
charted d n table f e m h = e ∙ ap (λ (k : ℕ). tree k (λ i. get_or table i false)) m ∙ h.means
