-- How designs are built: which signals are live, on which signals cells stand, and how many there are.
use Rattle.std.proofs.Common.{◌≡◌, ℕ, zero, suc, ◌+◌, ◌<◌, ◌≤◌, true, false, List, [], ◌∷◌, ◌++◌, map, length, take, drop, subst, inl, inr, ⊎_elim, arith}
use Rattle.std.specs.List.{range_with_len, AllByRecursion as All}
use Rattle.std.proofs.lemmas.List.{length_push, length-take-le}
use Rattle.std.proofs.lemmas.List.FromFn.{length-range_with_len}
use Rattle.std.proofs.ByRecursion.{All-append, All-take, All-drop, All-weaker}
use Rattle.std.proofs.lemmas.Bool.{true≢false, false≢true}
use Rattle.functions.specs.Functions.{Fn}
use Rattle.functions.specs.Words.{swapped}
use Rattle.functions.proofs.Words.{length_swapped}
use Rattle.intake.specs.Networks.{Signal}
use Rattle.mapping.specs.declared.call.Call.{Call}
use Rattle.mapping.specs.declared.call.Call.TheVariants.{Swap, Split, Close, Pin, Write}
use Rattle.mapping.specs.declared.answer.Answer.{Answer}
use Rattle.mapping.specs.States.{Cell, cell, State, opened, code_table, split_cells, closing_cell}
use Rattle.mapping.specs.Answers.{next, Answers}
use Rattle.mapping.specs.Histories.{Told}
use Rattle.mapping.specs.Kept.{Reaches, none, more}
use Rattle.mapping.proofs.Splitting.{count-split, width-split}
use Rattle.mapping.proofs.Allowed.{Allowed, answers_keep}

-- ---- cells on signals that come before them

-- the first of the cells comes after k others, in a design of n inputs: each has at most K pins, on signals before it
abbrev pub Seated : ℕ → ℕ → ℕ → List Cell → Type 0
Seated n K k [] = Unit {0}
Seated n K k (c ∷ cs) = (length c.pins ≤ K) × All (Signal n k) c.pins × Seated n K (suc k) cs

seated_append : (n K k : ℕ) (cs ds : List Cell) → Seated n K k cs → Seated n K (k + length cs) ds → Seated n K k (cs ++ ds)
seated_append n K k [] ds a b = let e : k + 0 ≡ k = omega arith in subst (λ i. Seated n K i ds) e b
seated_append n K k (c ∷ cs) ds a b =
    let e : k + suc (length cs) ≡ suc k + length cs = omega arith in
    (a.0, a.1, seated_append n K (suc k) cs ds a.2 (subst (λ i. Seated n K i ds) e b))

signals-later : (n k l : ℕ) (ps : List ℕ) → k ≤ l → All (Signal n k) ps → All (Signal n l) ps
signals-later n k l ps h = All-weaker (Signal n k) (Signal n l) (λ p s. ⊎_elim (λ x. inl x) (λ x. let y = x.1 in inr (x.0, omega arith)) s) ps

-- cells on the same pins
seated_same : {A : Type 0} (table : A → ℕ) (n K k l : ℕ) (ps : List ℕ) (xs : List A) → length ps ≤ K → k ≤ l → All (Signal n k) ps → Seated n K l (map (λ x. cell ps (table x)) xs)
seated_same table n K k l ps [] few h a = tt
seated_same table n K k l ps (x ∷ xs) few h a = (few, signals-later n k l ps h a, seated_same table n K k (suc l) ps xs few (omega arith) a)

-- ---- live signals

all_swapped : {A : Type 0} (P : A → Type 0) (p : ℕ) (xs : List A) → All P xs → All P (swapped p xs)
all_swapped P zero [] a = tt
all_swapped P zero (x ∷ []) a = a
all_swapped P zero (x ∷ y ∷ xs) a = (a.1.0, (a.0, a.1.1))
all_swapped P (suc p) [] a = tt
all_swapped P (suc p) (x ∷ xs) a = (a.0, all_swapped P p xs a.1)

all_counting : (P : ℕ → Type 0) (a k : ℕ) → ((p : ℕ) → a ≤ p → p < a + k → P p) → All P (range_with_len a k)
all_counting P a zero h = tt
all_counting P a (suc k) h = (h a (omega arith) (omega arith), all_counting P (a + 1) k (λ p l m. h p (omega arith) (omega arith)))

-- ---- states

-- what holds of every state of a design of n inputs, whose cells have K pins
pub record Built (n K : ℕ) (s : State) : Type 0 where
  pub narrow : length s.live ≤ n
  pub live : All (Signal n (length s.cells)) s.live
  pub cells : Seated n K 0 s.cells
  pub room : s.closed ≡ false → length s.cells ≤ 47
  pub most : length s.cells ≤ 48
  pub some : s.closed ≡ true → 1 ≤ length s.cells

module _ (n K : ℕ) where
  pub built_opened : (f : Fn) → Built n K (opened n f)
  built_opened f = record {
    narrow = omega (arith, length-range_with_len 0 n);
    live = all_counting (Signal n 0) 0 n (λ p l m. inl (omega arith));
    cells = tt;
    room = λ _. omega arith;
    most = omega arith;
    some = λ e. absurd (false≢true e);
  }

  module _ (code : ℕ → ℕ → ℕ) (config : ℕ) (fits : Fn → Type 0) (s : State) (x : Built n K s) where
    built_next : (c : Call) → Allowed K s c → Built n K (next code K config fits s c)
    built_next (Swap p) d = record {
      narrow = let h = x.narrow in omega (arith, length_swapped p s.live);
      live = all_swapped (Signal n (length s.cells)) p s.live x.live;
      cells = x.cells;
      room = λ _. x.room d.0;
      most = x.most;
      some = λ e. absurd (false≢true e);
    }
    built_next (Split b j room) d =
        let k = length s.cells in
        let new = split_cells code b j s in
        let total = count-split code b j s in
        let r = d.1 in
        let under = d.3 in
        let P : ℕ → Type 0 = Signal n (length (s.cells ++ new)) in
        record {
          narrow = let h = x.narrow in let q = r.fewer in let u = r.bound in omega (arith, width-split code b j s);
          live = All-append P (range_with_len (16 + k) j) (drop b s.live)
              (all_counting P (16 + k) j (λ p l m. inr (omega arith, omega arith)))
              (All-drop P b s.live (signals-later n k (length (s.cells ++ new)) s.live (omega arith) x.live));
          cells = seated_append n K 0 s.cells new x.cells
              (seated_same (code_table code b j s.left) n K k (0 + k) (take b s.live) (range_with_len 0 j) (let u = r.pinned in omega (arith, length-take-le b s.live r.bound)) (omega arith) (All-take (Signal n k) b s.live x.live));
          room = λ _. omega arith;
          most = omega arith;
          some = λ e. absurd (false≢true e);
        }
    built_next Close d =
        let k = length s.cells in
        let total : length (s.cells ++ (closing_cell s ∷ [])) ≡ length s.cells + 1 = length_push s.cells (closing_cell s) in
        let under = x.room d.0 in
        record {
          narrow = x.narrow;
          live = signals-later n k (length (s.cells ++ (closing_cell s ∷ []))) s.live (omega arith) x.live;
          cells = seated_append n K 0 s.cells (closing_cell s ∷ []) x.cells (d.1, signals-later n k (0 + k) s.live (omega arith) x.live, tt);
          room = λ e. absurd (true≢false e);
          most = omega arith;
          some = λ _. omega arith;
        }
    built_next (Pin v) d = x
    built_next (Write room) d = x

    -- a call leaves a state that is built so
    pub built_after : (t : State) (c : Call) (a : Answer) → Answers code K config fits s c a t → Built n K t
    built_after t c a y = answers_keep code K config fits s (λ _. Built n K) t c a y x (built_next c)

  pub built : (code : ℕ → ℕ → ℕ) (config : ℕ) (fits : Fn → Type 0) (f : Fn) {ts : List Told} {s : State} → Reaches code K config fits n f ts s → Built n K s
  built code config fits f none = built_opened f
  built code config fits f (more {s = s} {t = t} c a before y) = built_after code config fits s (built code config fits f before) t c a y

-- ---- bounds

module _ (n K : ℕ) (few : n ≤ 16) where
  signals-below : (k l : ℕ) (ps : List ℕ) → 16 + k ≤ l → All (Signal n k) ps → All (λ p. p < l) ps
  signals-below k l ps h = All-weaker (Signal n k) (λ p. p < l) (λ p s. ⊎_elim (λ x. omega arith) (λ x. let y = x.1 in omega arith) s) ps

  -- live signals are inputs or cells that there are
  pub live-within : (s : State) → Built n K s → All (λ p. p < 16 + length s.cells) s.live
  live-within s x = signals-below (length s.cells) (16 + length s.cells) s.live (omega arith) x.live

  -- and so below 64
  pub live_below : (s : State) → Built n K s → All (λ p. p < 64) s.live
  live_below s x = signals-below (length s.cells) 64 s.live (let h = x.most in omega arith) x.live

  seated_below : (k : ℕ) (cs : List Cell) → k + length cs ≤ 48 → Seated n K k cs → All (λ c. (length c.pins ≤ K) × All (λ p. p < 64) c.pins) cs
  seated_below k [] h a = tt
  seated_below k (c ∷ cs) h a = ((a.0, signals-below k 64 c.pins (omega arith) a.1), seated_below (suc k) cs (omega arith) a.2)

  -- and so are the pins of cells, K at most
  pub pins-below : (s : State) → Built n K s → All (λ c. (length c.pins ≤ K) × All (λ p. p < 64) c.pins) s.cells
  pins-below s x = seated_below 0 s.cells (let h = x.most in omega arith) x.cells
