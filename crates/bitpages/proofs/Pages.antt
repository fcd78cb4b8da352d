-- Pages are written and read in one way.
use Rattle.std.proofs.Common.{◌≡◌, ℕ, zero, suc, ◌+◌, ◌*◌, ◌<◌, ◌≤◌, Bool, false, ◌&&◌, leb, List, [], ◌∷◌, ◌++◌, map, length, get_or, take, drop, sym, refl, ap, ◌∙◌, inl, inr, append_assoc, suc-mul, zero-mul, arith, lit<}
use Rattle.std.proofs.lemmas.List.{append-nil, drop_at, get_or_append_left, get_or-drop, get_or_past, get_or-take, length-append, length-drop, length-take-le, nil_from_length, take-append-drop, take_at}
use Rattle.std.proofs.lemmas.Bool.{cases_lt, cond-true, cond-false, and_from, and_parts, le-leb, leb-true}
use Rattle.std.proofs.lemmas.Bool.Decides.{nat_tests}
use Rattle.frames.specs.declared.kinds.Kind.TheVariants.{BitPage, Bits}
use Rattle.frames.specs.Outcome.{Outcome, past, line_after}
use Rattle.frames.specs.Text.{Bytes, line_text, text, sealed}
use Rattle.frames.proofs.RoundTrip.{past-line}
use Rattle.frames.proofs.Seals.{front_bytes}
use Rattle.frames.proofs.Pages.{onward-told, ended-told}
use Rattle.frames.proofs.Telling.{pass_true, pass_false, recorded-told}
use Rattle.bitpages.specs.Table.{Table, share, count, spare, entries, parts, table_bytes}
use Rattle.frames.specs.Pages.{page, onward, ended}
use Rattle.frames.specs.Records.{Got, got, due, recorded}
use Rattle.bitpages.specs.Page.{headed, heading, carried, filled, bits, Packed, packed, shares, paged}
use Rattle.bitpages.specs.Written.{heading_frame, bits_frame, page_frames, table_text, PageLaws}
use Rattle.bitpages.proofs.Sizes.{size_small, share-low, whole, count_low}
use Rattle.bitpages.proofs.Entries.{TableBytes, spare-none, written_entries, table-bytes, table-entries, bytes-entries}
use Rattle.frames.proofs.Forms.{line-past, bytes-append, due-front, due-told}

-- the frame that carries a share
module _ (n : ℕ) where
  bits-front : (es rest : List ℕ) (line : ℕ) → length es ≡ share n → Bytes es → spare n (get_or es 0 0) ≡ false → bits n (line_text (bits_frame es) ++ rest) line ≡ got es
  bits-front es rest line long bytes clear =
      let a = due-front Bits es rest (share n) line long (omega arith) bytes (lit< tt) in
      let first : get_or (bits_frame es) 1 0 ≡ get_or es 0 0 = get_or_append_left es _ 0 0 (omega (arith, share-low n)) in
      ap (λ (o : Outcome). recorded o (filled n line)) a ∙ cond-false _ _ _ (ap (spare n) first ∙ clear) ∙ ap got (take_at es _ (share n) long)

  -- what a share is that was read
  record Share (xs es : List ℕ) : Type 0 where
    long : length es ≡ share n
    bytes : Bytes es
    clear : spare n (get_or es 0 0) ≡ false
    starts : xs ≡ line_text (bits_frame es) ++ past xs

  bits-told : (xs es : List ℕ) (line : ℕ) → bits n xs line ≡ got es → Share xs es
  bits-told xs es line e =
      let r = recorded-told (due Bits (share n + 2) xs line) (filled n line) es e in
      let f = r.0 in
      let p = pass_false (spare n (get_or f 1 0)) (carried n f) es _ _ r.2 in
      let d = due-told Bits xs (share n) line f r.1 in
      let first : get_or f 1 0 ≡ get_or (carried n f) 0 0 = sym (get_or-take (share n) (drop 1 f) 0 0 (share-low n) ∙ get_or-drop 1 f 0 0) in
      let clear : spare n (get_or (carried n f) 0 0) ≡ false = ap (spare n) (sym first) ∙ p.0 in
      let c : Share xs (carried n f) = record {
        long = length-take-le (share n) (drop 1 f) (omega (arith, length-drop 1 f, d.2));
        bytes = front_bytes (drop 1 f) (share n) (λ k. rw get_or-drop (d.1 (1 + k)));
        clear = clear;
        starts = d.0;
      } in
      rw p.1 at c

-- the frames that carry the bytes
module _ (n : ℕ) where
  abbrev shares_text : ℕ → List ℕ → List ℕ
  shares_text k ds = text (map bits_frame (parts (share n) k ds))

  shares-front : (k : ℕ) (acc ds rest : List ℕ) (line : ℕ) → length ds ≡ k * share n → Bytes ds → ((j : ℕ) → spare n (get_or ds j 0) ≡ false)
      → shares n k acc (shares_text k ds ++ rest) line ≡ page (packed n (acc ++ ds)) rest (line + k)
  shares-front zero acc ds rest line long bytes clear =
      let d : acc ≡ acc ++ ds = sym (append-nil acc) ∙ ap (λ (t : List ℕ). acc ++ t) (sym (nil_from_length ds (long ∙ zero-mul (share n)))) in
      let l : line ≡ line + 0 = omega arith in
      ap (λ (t : List ℕ). page (packed n t) rest line) d ∙ ap (page (packed n (acc ++ ds)) rest) l
  shares-front (suc k) acc ds rest line long bytes clear =
      let es = take (share n) ds in
      let more = shares_text k (drop (share n) ds) ++ rest in
      let xs = line_text (bits_frame es) ++ more in
      let room : share n ≤ length ds = omega (arith, suc-mul k (share n)) in
      let left : length (drop (share n) ds) ≡ k * share n = omega (arith, suc-mul k (share n), length-drop (share n) ds) in
      let first : get_or (take (share n) ds) 0 0 ≡ get_or ds 0 0 = get_or-take (share n) ds 0 0 (share-low n) in
      let b : bits n (line_text (bits_frame (take (share n) ds)) ++ (shares_text k (drop (share n) ds) ++ rest)) line ≡ got (take (share n) ds) = bits-front n es more line (length-take-le (share n) ds room) (front_bytes ds (share n) bytes) (ap (spare n) first ∙ clear 0) in
      let r = shares-front k (acc ++ es) (drop (share n) ds) rest (line + 1) left (λ j. rw get_or-drop (bytes (share n + j))) (λ j. rw get_or-drop (clear (share n + j))) in
      let all : (acc ++ take (share n) ds) ++ drop (share n) ds ≡ acc ++ ds = append_assoc acc es (drop (share n) ds) ∙ ap (λ (t : List ℕ). acc ++ t) (take-append-drop (share n) ds) in
      let l : line + 1 + k ≡ line + suc k = omega arith in
      ap (λ (t : List ℕ). shares n (suc k) acc t line) (append_assoc (line_text (bits_frame es)) (shares_text k (drop (share n) ds)) rest)
      ∙ ap (λ (g : Got (List ℕ)). onward line g (λ es. shares n k (acc ++ es) (past xs) (line_after xs line))) b
      ∙ ap (λ (t : List ℕ). shares n k (acc ++ es) t (line_after xs line)) (past-line (bits_frame es) more)
      ∙ ap (shares n k (acc ++ es) more) (line-past (bits_frame es) more line)
      ∙ r
      ∙ ap (λ (t : List ℕ). page (packed n t) rest (line + 1 + k)) all
      ∙ ap (page (packed n (acc ++ ds)) rest) l

  -- what the frames are that were read, k of them
  record Told (k : ℕ) (acc xs : List ℕ) (m : ℕ) (ds rest : List ℕ) : Type 0 where
    same : m ≡ n
    new : List ℕ
    all : ds ≡ acc ++ new
    long : length new ≡ k * share n
    bytes : Bytes new
    clear : 0 < k → spare n (get_or new 0 0) ≡ false
    starts : xs ≡ shares_text k new ++ rest

  module _ (m : ℕ) (ds rest : List ℕ) (after : ℕ) where
    shares-told : (k : ℕ) (acc xs : List ℕ) (line : ℕ) → shares n k acc xs line ≡ page (packed m ds) rest after → Told k acc xs m ds rest
    shares-told zero acc xs line e =
        let p : packed m ds ≡ packed n acc = cc in
        let d : ds ≡ acc = ap (λ (d : Packed). d.bytes) p in
        let y : xs ≡ rest = cc in
        record {
          same = ap (λ (d : Packed). d.arity) p;
          new = [];
          all = d ∙ sym (append-nil acc);
          long = sym (zero-mul (share n));
          bytes = λ k. omega arith;
          clear = λ h. absurd (omega arith);
          starts = y;
        }
    shares-told (suc k) acc xs line e =
        let o = onward-told line (bits n xs line) (λ es. shares n k (acc ++ es) (past xs) (line_after xs line)) (packed m ds) rest after e in
        let es = o.0 in
        let s = bits-told n xs es line o.1 in
        let t = shares-told k (acc ++ es) (past xs) (line_after xs line) o.2 in
        let c = t.new in
        let first : get_or (es ++ c) 0 0 ≡ get_or es 0 0 = get_or_append_left es c 0 0 (omega (arith, share-low n, s.long)) in
        let cut : parts (share n) (suc k) (es ++ c) ≡ es ∷ parts (share n) k c = rw (take_at es c (share n) s.long, drop_at es c (share n) s.long) in
        record {
          same = t.same;
          new = es ++ c;
          all = t.all ∙ append_assoc acc es c;
          long = length-append es c ∙ omega (arith, s.long, t.long, suc-mul k (share n));
          bytes = bytes-append es c s.bytes t.bytes;
          clear = λ _. ap (spare n) first ∙ s.clear;
          starts = s.starts ∙ ap (λ (y : List ℕ). line_text (bits_frame es) ++ y) t.starts ∙ sym (append_assoc (line_text (bits_frame es)) (shares_text k c) rest) ∙ ap (λ (ps : List (List ℕ)). text (map bits_frame ps) ++ rest) (sym cut);
        }

-- the one field of a heading
field : (f : List ℕ) → length f ≡ 3 → take 1 (drop 1 f) ≡ get_or f 1 0 ∷ []
field [] e = absurd (omega arith)
field (a ∷ []) e = absurd (omega arith)
field (a ∷ b ∷ bs) e = refl

heading-told : (xs : List ℕ) (line n : ℕ) → heading xs line ≡ got n → (1 ≤ n) × (n ≤ 12) × (xs ≡ line_text (heading_frame n) ++ past xs)
heading-told xs line n e =
    let r = recorded-told (due BitPage 3 xs line) (headed line) n e in
    let b = get_or r.0 1 0 in
    let p = pass_true (leb 1 b && leb b 12) b n _ _ r.2 in
    let q = and_parts (leb 1 b) (leb b 12) p.0 in
    let d = due-told BitPage xs 1 line r.0 r.1 in (
      omega (arith, leb-true 1 b q.0, p.1),
      omega (arith, leb-true b 12 q.1, p.1),
      d.0 ∙ ap (λ (cs : List ℕ). line_text (sealed (3 ∷ cs)) ++ past xs) (field r.0 d.2 ∙ ap (λ (b : ℕ). b ∷ []) p.1),
    )

heading-front : (n : ℕ) (rest : List ℕ) (line : ℕ) → 1 ≤ n → n ≤ 12 → heading (line_text (heading_frame n) ++ rest) line ≡ got n
heading-front n rest line low high =
    ap (λ (o : Outcome). recorded o (headed line)) (due-front BitPage (n ∷ []) rest 1 line refl (omega arith) (λ k. elim k as (λ k. get_or (n ∷ []) k 0 < 256) [ zero ↦ omega arith | suc k ↦ omega arith ]) (lit< tt))
    ∙ cond-true _ _ _ (and_from (leb 1 n) (leb n 12) (le-leb 1 n low) (le-leb n 12 high))

-- only the first byte can have spare bits
clear_each : (n : ℕ) (ds : List ℕ) → TableBytes n ds → (j : ℕ) → spare n (get_or ds j 0) ≡ false
clear_each n ds t zero = t.clear
clear_each n ds t (suc j) = elim (cases_lt n 3) [
  | inl small ↦ ap (spare n) (get_or_past ds (suc j) 0 (omega (arith, t.long, size_small n small))) ∙ grind (arith, nat_tests)
  | inr large ↦ spare-none n (get_or ds (suc j) 0) large
]

-- the whole page
page-front : (n : ℕ) (ds rest : List ℕ) (line : ℕ) → TableBytes n ds → paged (text (page_frames n ds) ++ rest) line ≡ page (packed n ds) rest (line + (count n + 1))
page-front n ds rest line t =
    let f = heading_frame n in
    let more = shares_text n (count n) ds ++ rest in
    let xs = line_text f ++ more in
    let l : line + 1 + count n ≡ line + (count n + 1) = omega arith in
    ap (λ (y : List ℕ). paged y line) (append_assoc (line_text f) (shares_text n (count n) ds) rest)
    ∙ ap (λ (g : Got ℕ). onward line g (λ m. shares m (count m) [] (past xs) (line_after xs line))) (heading-front n more line t.low t.high)
    ∙ ap (λ (y : List ℕ). shares n (count n) [] y (line_after xs line)) (past-line f more)
    ∙ ap (shares n (count n) [] more) (line-past f more line)
    ∙ shares-front n (count n) [] ds rest (line + 1) (t.long ∙ sym (whole n)) t.bytes (clear_each n ds t)
    ∙ ap (page (packed n ds) rest) l

-- xs begins with the page of n arguments with the bytes ds, and rest follows it
pub record Begun (n : ℕ) (xs ds rest : List ℕ) : Type 0 where
  pub table : TableBytes n ds
  pub starts : xs ≡ text (page_frames n ds) ++ rest

begun : (m n : ℕ) (xs ds rest : List ℕ) (line after : ℕ) → heading xs line ≡ got m → shares m (count m) [] (past xs) (line_after xs line) ≡ page (packed n ds) rest after → Begun n xs ds rest
begun m n xs ds rest line after is e =
    let h = heading-told xs line m is in
    let t = shares-told m n ds rest after (count m) [] (past xs) (line_after xs line) e in
    let b : Begun m xs t.new rest = record {
      table = record { low = h.0; high = h.1; long = t.long ∙ whole m; bytes = t.bytes; clear = t.clear (count_low m) };
      starts = h.2 ∙ ap (λ (y : List ℕ). line_text (heading_frame m) ++ y) t.starts ∙ sym (append_assoc (line_text (heading_frame m)) (shares_text m (count m) t.new) rest);
    } in
    rw (t.same, t.all) b

pub page-told : (n : ℕ) (xs ds rest : List ℕ) (line after : ℕ) → paged xs line ≡ page (packed n ds) rest after → Begun n xs ds rest
page-told n xs ds rest line after e =
    let o = onward-told line (heading xs line) (λ m. shares m (count m) [] (past xs) (line_after xs line)) (packed n ds) rest after e in
    begun o.0 n xs ds rest line after o.1 o.2

pub page_laws : PageLaws
page_laws =
    let reads : (n : ℕ) (es : List Bool) (rest : List ℕ) (line : ℕ) → Table n es → paged (table_text n es ++ rest) line ≡ page (packed n (table_bytes n es)) rest (line + (count n + 1)) = λ n es rest line t. page-front n (table_bytes n es) rest line (table-bytes n es t) in
    let written : (n : ℕ) (xs ds rest : List ℕ) (line after : ℕ) → paged xs line ≡ page (packed n ds) rest after → Table n (entries n ds) × (xs ≡ table_text n (entries n ds) ++ rest) = λ n xs ds rest line after e. let r = page-told n xs ds rest line after e in (table-entries n ds r.table, r.starts ∙ ap (λ (cs : List ℕ). text (page_frames n cs) ++ rest) (sym (bytes-entries n ds r.table))) in
    record {
      written_reads = reads;
      written_entries = written_entries;
      read_is_written = written;
      written_loads = λ n es line t. ap ended (ap (λ (y : List ℕ). paged y line) (sym (append-nil (table_text n es))) ∙ reads n es [] line t);
      loaded_is_written = λ n xs ds rest line after e. let a = ended-told (paged xs line) (packed n ds) rest after e in let r = written n xs ds rest line after a.0 in (r.0, r.1 ∙ ap (λ (y : List ℕ). table_text n (entries n ds) ++ y) a.1 ∙ append-nil (table_text n (entries n ds)));
    }
