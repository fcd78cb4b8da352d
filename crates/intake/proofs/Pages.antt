-- Network pages are written and read in one way.
use Rattle.std.proofs.Common.{◌≡◌, ℕ, zero, suc, ◌+◌, ◌<◌, ◌≤◌, true, eqb, leb, List, [], ◌∷◌, ◌++◌, map, length, get_or, take, drop, sym, refl, ap, ◌∙◌, append_assoc, arith, lit<}
use Rattle.std.proofs.lemmas.List.{append-nil, drop_at, drop-take, get_or-drop, length-append, length-drop, length_push, length-take-le, take-append-drop, take_at, take-take}
use Rattle.std.proofs.lemmas.Bool.{cond-true, and_from, and_parts, le-leb, leb-true, eq-eqb, eqb-true}
use Rattle.frames.specs.declared.kinds.Kind.TheVariants as kind
use Rattle.frames.specs.Kinds.{kind_byte}
use Rattle.frames.specs.Outcome.{Outcome, past, line_after}
use Rattle.frames.specs.Pages.{Page, page, onward, ended}
use Rattle.frames.specs.Records.{Got, got, due, recorded}
use Rattle.frames.specs.Text.{Bytes, line_text, text, sealing, sealed}
use Rattle.frames.proofs.Forms.{bytes-append, bytes_cons, due-front, due-told, line-past}
use Rattle.frames.proofs.RoundTrip.{past-line}
use Rattle.frames.proofs.Seals.{front_bytes}
use Rattle.frames.proofs.Pages.{onward-told, ended-told}
use Rattle.frames.proofs.Telling.{pass_true, recorded-told}
use Rattle.intake.specs.Laws.{IntakeLaws}
use Rattle.intake.specs.Networks.{NetCell, Network, Pinned, Wired, WellFormed}
use Rattle.intake.specs.Page.{Headed, in_range, headed, heading, pinned, celled, wired, cell, cells_from, paged, intake, taken}
use Rattle.intake.specs.Written.{heading_frame, cell_frame, network_text}
use Rattle.intake.proofs.Pins.{pinned_pass, pinned-long, pinned-bytes, pinned-told}

-- of a family with K pins and so many configuration bytes
module _ (K size : ℕ) (few : K ≤ 5) (small : size ≤ 16) where
  -- the frame of a cell reads as the cell
  cell-front : (n k : ℕ) (c : NetCell) (rest : List ℕ) (line : ℕ) → n ≤ 16 → k ≤ 48 → Pinned n K k c.pins → length c.config ≡ size → Bytes c.config
      → cell n K size k (line_text (cell_frame c) ++ rest) line ≡ got c
  cell-front n k c rest line narrow most p long bytes =
      let ps = c.pins in
      let cs = c.config in
      let end = sealing (kind_byte kind.Cell ∷ (ps ++ cs)) ∷ [] in
      let wide : length ps ≡ K = pinned-long n k narrow most K ps p in
      let all : length (ps ++ cs) ≡ K + size = length-append ps cs ∙ omega arith in
      let a = due-front kind.Cell (ps ++ cs) rest (K + size) line all (omega arith) (bytes-append ps cs (pinned-bytes n k narrow most K ps p) bytes) (lit< tt) in
      let first : take K ((ps ++ cs) ++ end) ≡ ps = ap (take K) (append_assoc ps cs end) ∙ take_at ps (cs ++ end) K wide in
      let last : take size (drop K ((ps ++ cs) ++ end)) ≡ cs = ap (λ (t : List ℕ). take size (drop K t)) (append_assoc ps cs end) ∙ ap (take size) (drop_at ps (cs ++ end) K wide) ∙ take_at cs end size long in
      ap (λ (o : Outcome). recorded o (wired n K size k line)) a
      ∙ cond-true _ _ _ (ap (pinned n k true) first ∙ pinned_pass n k narrow most K ps p)
      ∙ ap (λ (t : List ℕ). got (record { pins = t; config = take size (drop K ((ps ++ cs) ++ end)) })) first
      ∙ ap (λ (t : List ℕ). got (record { pins = ps; config = t })) last

  -- the frames of cells read as the cells
  cells-front : (n : ℕ) (cs acc : List NetCell) (line : ℕ) → n ≤ 16 → length acc + length cs ≤ 48 → Wired n K size (length acc) cs
      → cells_from n K size (length cs) acc (text (map cell_frame cs)) line ≡ page (record { inputs = n; cells = acc ++ cs }) [] (line + length cs)
  cells-front n [] acc line narrow most w =
      let l : line ≡ line + 0 = omega arith in
      ap (λ (t : List NetCell). page (record { inputs = n; cells = t }) [] line) (sym (append-nil acc)) ∙ ap (page (record { inputs = n; cells = acc ++ [] }) []) l
  cells-front n (c ∷ cs) acc line narrow most (p, long, bytes, w) =
      let f = cell_frame c in
      let more = text (map cell_frame cs) in
      let xs = line_text f ++ more in
      let go : Got NetCell → List ℕ → ℕ → Page Network = λ g ys next. onward line g (λ d. cells_from n K size (length cs) (acc ++ (d ∷ [])) ys next) in
      let one : length (acc ++ (c ∷ [])) ≡ suc (length acc) = length_push acc c ∙ omega arith in
      let g : cell n K size (length acc) (line_text f ++ more) line ≡ got c = cell-front n (length acc) c more line narrow (omega arith) p long bytes in
      let r = cells-front n cs (acc ++ (c ∷ [])) (line + 1) narrow (omega arith) (rw one w) in
      let l : line + 1 + length cs ≡ line + suc (length cs) = omega arith in
      ap (λ (o : Got NetCell). go o (past xs) (line_after xs line)) g
      ∙ ap (λ (ys : List ℕ). go (got c) ys (line_after xs line)) (past-line f more)
      ∙ ap (go (got c) more) (line-past f more line)
      ∙ r
      ∙ ap (λ (t : List NetCell). page (record { inputs = n; cells = t }) [] (line + 1 + length cs)) (append_assoc acc (c ∷ []) cs)
      ∙ ap (page (record { inputs = n; cells = acc ++ (c ∷ cs) }) []) l

  -- the heading of a network reads as its numbers
  heading-front : (number : ℕ) (w : Network) (rest : List ℕ) (line : ℕ) → number < 256 → WellFormed K size w → heading number (line_text (heading_frame number w) ++ rest) line ≡ got (record { inputs = w.inputs; count = length w.cells })
  heading-front number w rest line byte f =
      let n = w.inputs in
      let m = length w.cells in
      let none : Bytes [] = λ k. omega arith in
      let narrow : w.inputs ≤ 16 = f.narrow in
      let most : length w.cells ≤ 48 = f.most in
      ap (λ (o : Outcome). recorded o (headed number line)) (due-front kind.Network (number ∷ n ∷ m ∷ []) rest 3 line refl (omega arith) (bytes_cons number (n ∷ m ∷ []) byte (bytes_cons n (m ∷ []) (omega arith) (bytes_cons m [] (omega arith) none))) (lit< tt))
      ∙ cond-true _ _ _ (and_from (eqb number number) _ (eq-eqb number number refl) (and_from (leb n 16) _ (le-leb n 16 narrow) (and_from (leb 1 m) (leb m 48) (le-leb 1 m f.some) (le-leb m 48 most))))

  -- the text of a well-formed network is taken as that network
  pub written_taken : (number : ℕ) → number < 256 → (w : Network) → WellFormed K size w → intake number K size (network_text number w) ≡ taken w
  written_taken number byte w f =
      let h = heading_frame number w in
      let more = text (map cell_frame w.cells) in
      let xs = line_text h ++ more in
      let go : List ℕ → ℕ → Headed → Page Network = λ ys next h. cells_from h.inputs K size h.count [] ys next in
      let g = heading-front number w more 1 byte f in
      let l : 2 + length w.cells ≡ length w.cells + 2 = omega arith in
      let p : paged number K size (network_text number w) 1 ≡ taken w =
      ap (λ (o : Got Headed). onward 1 o (go (past xs) (line_after xs 1))) g
      ∙ ap (λ (ys : List ℕ). go ys (line_after xs 1) (record { inputs = w.inputs; count = length w.cells })) (past-line h more)
      ∙ ap (λ (l : ℕ). go more l (record { inputs = w.inputs; count = length w.cells })) (line-past h more 1)
      ∙ cells-front w.inputs w.cells [] 2 f.narrow (omega (arith, f.most)) f.wired
      ∙ ap (page w []) l in
      ap ended p

-- of a family with K pins and so many configuration bytes
module _ (K size : ℕ) where
  -- what a cell is that was read after k others
  record Celled (n k : ℕ) (xs : List ℕ) (c : NetCell) : Type 0 where
    pins : Pinned n K k c.pins
    long : length c.config ≡ size
    bytes : Bytes c.config
    starts : xs ≡ line_text (cell_frame c) ++ past xs

  cell-told : (n k : ℕ) (xs : List ℕ) (line : ℕ) (c : NetCell) → cell n K size k xs line ≡ got c → Celled n k xs c
  cell-told n k xs line c e =
      let r = recorded-told (due kind.Cell (K + size + 2) xs line) (wired n K size k line) c e in
      let f = r.0 in
      let fs = drop 1 f in
      let p = pass_true (pinned n k true (take K fs)) (celled K size fs) c _ _ r.2 in
      let d = due-told kind.Cell xs (K + size) line f r.1 in
      let wide : length (take K (drop 1 r.0)) ≡ K = length-take-le K fs (omega (arith, length-drop 1 f, d.2)) in
      let ps = pinned-told n k (take K fs) p.0 in
      let whole : take (K + size) (drop 1 r.0) ≡ take K (drop 1 r.0) ++ take size (drop K (drop 1 r.0)) = sym (take-append-drop K (take (K + size) fs)) ∙ ap (λ (t : List ℕ). t ++ drop K (take (K + size) fs)) (take-take K (K + size) fs (omega arith)) ∙ ap (λ (t : List ℕ). take K fs ++ t) (drop-take K size fs) in
      let h : Celled n k xs (celled K size fs) = record {
        pins = rw wide at ps;
        long = length-take-le size (drop K fs) (omega (arith, length-drop K fs, length-drop 1 f, d.2));
        bytes = front_bytes (drop K fs) size (λ j. rw (get_or-drop, get_or-drop) (d.1 (1 + (K + j))));
        starts = d.0 ∙ ap (λ (t : List ℕ). line_text (sealed (kind_byte kind.Cell ∷ t)) ++ past xs) whole;
      } in
      rw p.1 at h

  -- what the cells are that were read, m of them after those in acc
  record Told (n m : ℕ) (acc : List NetCell) (xs rest : List ℕ) (w : Network) : Type 0 where
    new : List NetCell
    all : w ≡ record { inputs = n; cells = acc ++ new }
    long : length new ≡ m
    wires : Wired n K size (length acc) new
    starts : xs ≡ text (map cell_frame new) ++ rest

  cells_told : (n m : ℕ) (acc : List NetCell) (xs rest : List ℕ) (line after : ℕ) (w : Network) → cells_from n K size m acc xs line ≡ page w rest after → Told n m acc xs rest w
  cells_told n zero acc xs rest line after w e =
      let h : record { inputs = n; cells = acc } ≡ w = cc in
      let s : xs ≡ rest = cc in
      record {
        new = [];
        all = sym h ∙ ap (λ (t : List NetCell). record { inputs = n; cells = t }) (sym (append-nil acc));
        long = refl;
        wires = tt;
        starts = s;
      }
  cells_told n (suc m) acc xs rest line after w e =
      let o = onward-told line (cell n K size (length acc) xs line) (λ c. cells_from n K size m (acc ++ (c ∷ [])) (past xs) (line_after xs line)) w rest after e in
      let c = o.0 in
      let h = cell-told n (length acc) xs line c o.1 in
      let t = cells_told n m (acc ++ (c ∷ [])) (past xs) rest (line_after xs line) after w o.2 in
      let one : length (acc ++ (o.0 ∷ [])) ≡ suc (length acc) = length_push acc c ∙ omega arith in
      let ws = t.wires in
      record {
        new = c ∷ t.new;
        all = t.all ∙ ap (λ (cs : List NetCell). record { inputs = n; cells = cs }) (append_assoc acc (c ∷ []) t.new);
        long = ap suc t.long;
        wires = (h.pins, h.long, h.bytes, rw one at ws);
        starts = h.starts ∙ ap (λ (ys : List ℕ). line_text (cell_frame c) ++ ys) t.starts ∙ sym (append_assoc (line_text (cell_frame c)) (text (map cell_frame t.new)) rest);
      }

-- the three fields of a heading
fields : (f : List ℕ) → length f ≡ 5 → take 3 (drop 1 f) ≡ get_or f 1 0 ∷ get_or f 2 0 ∷ get_or f 3 0 ∷ []
fields [] e = absurd (omega arith)
fields (a ∷ []) e = absurd (omega arith)
fields (a ∷ b ∷ []) e = absurd (omega arith)
fields (a ∷ b ∷ c ∷ []) e = absurd (omega arith)
fields (a ∷ b ∷ c ∷ d ∷ bs) e = refl

-- what a heading is that was read
record Heads (number : ℕ) (xs : List ℕ) (h : Headed) : Type 0 where
  narrow : h.inputs ≤ 16
  some : 1 ≤ h.count
  most : h.count ≤ 48
  starts : xs ≡ line_text (sealed (kind_byte kind.Network ∷ number ∷ h.inputs ∷ h.count ∷ [])) ++ past xs

heading-told : (number : ℕ) (xs : List ℕ) (line : ℕ) (h : Headed) → heading number xs line ≡ got h → Heads number xs h
heading-told number xs line h e =
    let r = recorded-told (due kind.Network 5 xs line) (headed number line) h e in
    let f = r.0 in
    let family = get_or f 1 0 in
    let n = get_or f 2 0 in
    let m = get_or f 3 0 in
    let p = pass_true (in_range number family n m) (record { inputs = n; count = m }) h _ _ r.2 in
    let a = and_parts (eqb family number) _ p.0 in
    let b = and_parts (leb n 16) _ a.1 in
    let c = and_parts (leb 1 m) (leb m 48) b.1 in
    let d = due-told kind.Network xs 3 line f r.1 in
    let g : Heads number xs (record { inputs = n; count = m }) = record {
      narrow = leb-true n 16 b.0;
      some = leb-true 1 m c.0;
      most = leb-true m 48 c.1;
      starts = d.0 ∙ ap (λ (cs : List ℕ). line_text (sealed (kind_byte kind.Network ∷ cs)) ++ past xs) (fields f d.2 ∙ ap (λ (x : ℕ). x ∷ n ∷ m ∷ []) (eqb-true family number a.0));
    } in
    rw p.1 at g

-- what is taken is a well-formed network, and the text is its page
pub taken_written : (number K size : ℕ) (w : Network) (xs rest : List ℕ) (line : ℕ) → intake number K size xs ≡ page w rest line → WellFormed K size w × (xs ≡ network_text number w)
taken_written number K size w xs rest line e =
    let a = ended-told (paged number K size xs 1) w rest line e in
    let o = onward-told 1 (heading number xs 1) (λ h. cells_from h.inputs K size h.count [] (past xs) (line_after xs 1)) w rest line a.0 in
    let h = o.0 in
    let t = heading-told number xs 1 h o.1 in
    let c = cells_told K size h.inputs h.count [] (past xs) rest (line_after xs 1) line w o.2 in
    let is = c.all in
    let v : Network = record { inputs = h.inputs; cells = c.new } in
    let more : past xs ≡ text (map cell_frame c.new) = c.starts ∙ ap (λ (ys : List ℕ). text (map cell_frame c.new) ++ ys) a.1 ∙ append-nil (text (map cell_frame c.new)) in
    let r : WellFormed K size v × (xs ≡ network_text number v) = (
      record {
        narrow = t.narrow;
        some = omega (arith, t.some, c.long);
        most = omega (arith, t.most, c.long);
        wired = c.wires;
      },
      t.starts ∙ ap (λ (ys : List ℕ). line_text (sealed (kind_byte kind.Network ∷ number ∷ h.inputs ∷ h.count ∷ [])) ++ ys) more ∙ ap (λ (m : ℕ). line_text (sealed (kind_byte kind.Network ∷ number ∷ h.inputs ∷ m ∷ [])) ++ text (map cell_frame c.new)) (sym c.long),
    ) in
    rw is r

pub intake_laws : (number K size : ℕ) → number < 256 → K ≤ 5 → size ≤ 16 → IntakeLaws number K size
intake_laws number K size byte few small = record { written_taken = written_taken K size few small number byte; taken_written = taken_written number K size }
