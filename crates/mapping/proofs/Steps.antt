-- The function left at the live signals: no call that is done changes its value.
use Rattle.std.proofs.Common.{◌≡◌, ℕ, ◌+◌, ◌^◌, ◌<◌, ◌≤◌, Bool, true, false, not, List, [], ◌∷◌, ◌++◌, length, get_or, take, drop, sym, refl, ap, ◌∙◌, subst, arith}
use Rattle.std.specs.List.{range_with_len, AllByRecursion as All}
use Rattle.std.proofs.lemmas.List.{append-nil, length-map, length-take-le, map-append, take-append-drop}
use Rattle.std.proofs.ByRecursion.{All-take, All-drop, All-weaker}
use Rattle.std.proofs.lemmas.Bool.{cond-false}
use Rattle.functions.specs.Functions.{Fn, value, exchanged}
use Rattle.functions.specs.Words.{number, bits, swapped}
use Rattle.functions.specs.Classes.{columns, classes, class_of}
use Rattle.functions.proofs.Words.{length_bits, number_below, bits_number, length_swapped, swapped_twice, map_swapped}
use Rattle.functions.proofs.Values.{value_exchanged}
use Rattle.functions.proofs.Negation.{value_negated}
use Rattle.rules.specs.Codes.{Laws}
use Rattle.families.proofs.TableEntries.{tabled_entry}
use Rattle.intake.specs.Networks.{yielded, last}
use Rattle.mapping.specs.States.{values, yield, signals, State, left_value, pin, opened, swapped_state, coded, code_table, split_cells, split_state, closing_cell, closed_state}
use Rattle.mapping.proofs.Splitting.{code_bits, value-coded}
use Rattle.intake.proofs.Yields.{yielded-append, last_push}
use Rattle.mapping.proofs.Signals.{signals-append, length-signals, values-more, values_new, values-first, yielded_tables}

not_not : (b : Bool) → not (not b) ≡ b
not_not true = refl
not_not false = refl

-- as it is opened, a design shows the opened function
pub opened-pin : (n : ℕ) (f : Fn) (vs : List Bool) → n ≤ length vs → pin (opened n f) vs ≡ value f (take n vs)
opened-pin n f vs h =
    ap not (value_negated f (values (vs ++ []) (range_with_len 0 n)))
    ∙ not_not (value f (values (vs ++ []) (range_with_len 0 n)))
    ∙ ap (λ us. value f (values us (range_with_len 0 n))) (append-nil vs)
    ∙ ap (value f) (values-first n vs h)

module _ (s : State) (vs : List Bool) where
  pub open_pin : s.closed ≡ false → pin s vs ≡ not (left_value s vs)
  open_pin e = ap not (cond-false s.closed (last (yielded yield vs s.cells)) (left_value s vs) e)

  pub swapped-value : (p : ℕ) → p + 1 < length s.live → left_value (swapped_state p s) vs ≡ left_value s vs
  swapped-value p h =
      let at : ℕ → Bool = λ i. get_or (signals vs s.cells) i false in
      let us = values (signals vs s.cells) s.live in
      let long : length (swapped p us) ≡ length s.live = length_swapped p us ∙ length-map s.live at in
      ap (value (exchanged p s.left)) (map_swapped at p s.live)
      ∙ value_exchanged p s.left (swapped p us) (omega arith)
      ∙ ap (value s.left) (swapped_twice p us)

  -- the closing cell yields it
  pub closing_yields : yield (signals vs s.cells) (closing_cell s) ≡ left_value s vs
  closing_yields =
      let us = values (signals vs s.cells) s.live in
      let m = length s.live in
      let long : length us ≡ m = length-map s.live (λ i. get_or (signals vs s.cells) i false) in
      tabled_entry (2 ^ m) (λ e. value s.left (bits m e)) (number us) (rw (← long) (number_below us))
      ∙ ap (value s.left) (subst (λ k. bits k (number us) ≡ us) long (bits_number us))

  pub closed-last : last (yielded yield vs (closed_state s).cells) ≡ left_value s vs
  closed-last =
      ap last (yielded-append yield vs s.cells (closing_cell s ∷ [])) ∙ last_push (yielded yield vs s.cells) (yield (signals vs s.cells) (closing_cell s)) ∙ closing_yields

  module _ (wide : length vs ≡ 16) (within : All (λ p. p < 16 + length s.cells) s.live) (b j : ℕ) (fit : b ≤ length s.live) where
    abbrev all : List Bool
    all = signals vs s.cells

    abbrev bound : List Bool
    bound = values (signals vs s.cells) (take b s.live)

    abbrev free : List Bool
    free = values (signals vs s.cells) (drop b s.live)

    length_all : length all ≡ 16 + length s.cells
    length_all = omega (arith, length-signals vs s.cells)

    length-bound : length bound ≡ b
    length-bound = length-map (take b s.live) (λ i. get_or all i false) ∙ length-take-le b s.live fit

    inside : All (λ p. p < length all) s.live
    inside = All-weaker (λ p. p < 16 + length s.cells) (λ p. p < length all) (λ p l. omega (arith, length_all)) s.live within

    -- the new cells yield the code of the class of the bound signals
    pub split-signals : (code : ℕ → ℕ → ℕ) → signals vs (split_state code b j s).cells ≡ all ++ bits j (code j (class_of b s.left bound))
    split-signals code =
        signals-append vs s.cells (split_cells code b j s)
        ∙ ap (λ ws. all ++ ws) (yielded_tables (code_table code b j s.left) (take b s.live) (range_with_len 0 j) all (All-take (λ p. p < length all) b s.live inside) ∙ code_bits code b j s.left bound length-bound)

    split-live : (word : List Bool) → length word ≡ j → values (all ++ word) (range_with_len (16 + length s.cells) j ++ drop b s.live) ≡ word ++ free
    split-live word e =
        map-append (λ i. get_or (all ++ word) i false) (range_with_len (16 + length s.cells) j) (drop b s.live)
        ∙ ap (λ us. us ++ values (all ++ word) (drop b s.live)) (subst (λ k. values (all ++ word) (range_with_len k j) ≡ word) length_all (subst (λ k. values (all ++ word) (range_with_len (length all) k) ≡ word) e (values_new all word)))
        ∙ ap (λ us. word ++ us) (values-more all word (drop b s.live) (All-drop (λ p. p < length all) b s.live inside))

    pub split-value : {R : Type 0} (code : R → ℕ → ℕ → ℕ) → Laws code → (r : R) → j ≤ 4 → length (classes (columns b s.left)) ≤ 2 ^ j → left_value (split_state (code r) b j s) vs ≡ left_value s vs
    split-value code laws r small few =
        let word = bits j (code r j (class_of b s.left bound)) in
        ap (λ us. value (coded (code r) b j s.left) (values us (range_with_len (16 + length s.cells) j ++ drop b s.live))) (split-signals (code r))
        ∙ ap (value (coded (code r) b j s.left)) (split-live word (length_bits j (code r j (class_of b s.left bound))))
        ∙ value-coded code laws r b j s.left bound free small few length-bound
        ∙ ap (value s.left) (sym (map-append (λ i. get_or all i false) (take b s.live) (drop b s.live)) ∙ ap (values all) (take-append-drop b s.live))
