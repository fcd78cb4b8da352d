-- What a split makes of a design, by each of its ways out.
use Rattle.std.proofs.Common.{◌≡◌, ℕ, ◌+◌, ◌-◌, ◌/◌, ◌%◌, ◌^◌, ◌<◌, ◌≤◌, true, false, eqb, List, ◌++◌, map, length, get_or, take, drop, sym, refl, ap, ◌∙◌, subst, inl, inr, ⊎_elim, arith, pow_mono}
use Rattle.std.specs.List.{range_with_len}
use Rattle.std.proofs.lemmas.List.{length-map, length-take-le, take-take}
use Rattle.std.proofs.lemmas.Bool.{true≢false}
use Rattle.functions.specs.Functions.{Fn, recoded}
use Rattle.functions.specs.Words.{bits}
use Rattle.functions.specs.Classes.{columns, classes, class_of}
use Rattle.functions.proofs.Columns.{length_columns}
use Rattle.functions.proofs.Classes.{length_classes}
use Rattle.charts.specs.declared.chart.Chart as chart
use Rattle.charts.specs.declared.inverting.Inverting.{Inverting}
use Rattle.charts.specs.Changes.{whole, Became, Recodable, Refused}
use Rattle.charts.specs.Numbering.{Numberable, Numbered}
use Rattle.charts.specs.Walks.{chart_function, reached}
use Rattle.rules.specs.declared.rule.CodeRule as rule
use Rattle.rules.specs.Codes.{holder}
use Rattle.families.specs.Tables.{tabled}
use Rattle.families.specs.declared.family.CellFamily as family
use Rattle.mapping.specs.declared.call.Call.TheVariants.{Split}
use Rattle.mapping.specs.declared.answer.Answer.{Answer}
use Rattle.mapping.specs.declared.answer.Answer.TheVariants as answer
use Rattle.mapping.specs.declared.refusal.Refusal.TheVariants.{TooShort, TooManyCells, SplitDoesNotFit}
use Rattle.mapping.specs.Answers.{Ranged}
use Rattle.mapping.specs.States.{state, coded, code_table, split_cells}
use Rattle.mapping.proofs.Splitting.{some_class, holder-below, coded_from, code_table_from, code_table-negated, split_cells_from}
use Rattle.design.specs.declared.design.Design.{Design}
use Rattle.design.specs.declared.netlist.Netlist.{Netlist}
use Rattle.design.specs.Cells.{cells_of, number_table, code_cells}
use Rattle.design.specs.Designs.{inverted, left_of, seen, Step, SplitCall}
use Rattle.design.proofs.Swaps.{fits_below}

-- the strip is too short
module _ {C P R F : Type 0} (ch : chart.Ghosts C P) (ru : rule.Ghosts R) (fa : family.Ghosts F) (d : Design C R F P) (b j : ℕ) (before after : List P)
    (long : length d.live ≡ 16) (still : d.netlist.closed ≡ false) (ranged : Ranged (fa.pins d.family) (ch.arity d.chart.below) b j)
    (none : (after ≡ before) × (Numberable (ch.arity d.chart.below) b (length before) → ⊥)) where
  pub split_short : SplitCall ch ru fa d b j before after (answer.Refused TooShort) d
  split_short =
      let few : 2 ^ b ≤ length before → ⊥ = λ r. none.1 (record { bound = ranged.bound; room = r }) in
      let s = ch.laws.small d.chart.below in
      let Q : ℕ → Type 0 = λ n. Ranged (fa.pins d.family) n b j in
      let seen-range = subst Q (sym (length-take-le (ch.arity d.chart.below) d.live (omega arith))) ranged in
      record {
        step = record {
          answers = record { says = inr (λ e. true≢false (sym e ∙ still), inr (λ out. out seen-range, inl (omega arith, refl))); leaves = refl };
          refused = λ _. refl;
          rule = refl;
          family = refl;
          inputs = refl;
          fitting = λ g. (λ x. x, λ x. x);
        };
        untouched = λ _. none.0;
        places = λ counts. absurd (few counts.long);
      }

module _ {C P R F : Type 0} (ch : chart.Ghosts C P) (ru : rule.Ghosts R) (fa : family.Ghosts F) (d : Design C R F P) (b j k : ℕ) (before after : List P)
    (long : length d.live ≡ 16) (still : d.netlist.closed ≡ false) (ranged : Ranged (fa.pins d.family) (ch.arity d.chart.below) b j)
    (numbers : Numberable (ch.arity d.chart.below) b (length before) × Numbered ((inverted ch).column d.chart b) (reached (inverted ch) d.chart b) b (left_of ch ru fa d) before after k) where
  abbrev m : ℕ
  m = ch.arity d.chart.below

  abbrev f : Fn
  f = left_of ch ru fa d

  abbrev code : ℕ → ℕ → ℕ
  code = ru.code d.rule

  small : m ≤ 16
  small = ch.laws.small d.chart.below

  wide : length (take m d.live) ≡ m
  wide = let s = small in length-take-le m d.live (omega arith)

  ranged-seen : Ranged (fa.pins d.family) (length (seen ch ru fa d).live) b j
  ranged-seen = let Q : ℕ → Type 0 = λ n. Ranged (fa.pins d.family) n b j in subst Q (sym wide) ranged

  few_codes : j ≤ 4
  few_codes = omega (arith, fa.laws.few_pins d.family, ranged.pinned, ranged.fewer)

  counted : k ≡ length (classes (columns b f))
  counted = numbers.1.count

  not_closed : d.netlist.closed ≡ true → ⊥
  not_closed e = true≢false (sym e ∙ still)

  -- there are no more classes than entries of the strip
  pub classes-inside : k ≤ length before
  classes-inside = let r = numbers.0.room in omega (arith, counted, length_classes (columns b f), length_columns b f)

  -- the strip's part of the call
  pub split-call : (a : Answer) (e : Design C R F P) → Step ch ru fa d (Split b j (length before)) a e → SplitCall ch ru fa d b j before after a e
  split-call a e step = record {
    step = step;
    untouched = λ none. absurd (none (record { still_open = still; ranged = ranged-seen; long = numbers.0.room }));
    places = λ _. subst (Numbered ((inverted ch).column d.chart b) (reached (inverted ch) d.chart b) b f before after) counted numbers.1;
  }

  module _ (few : k ≤ 2 ^ j) where
    few-classes : 2 ^ j < length (classes (columns b f)) → ⊥
    few-classes h = let c = counted in omega arith

    room-there : length before < 2 ^ b → ⊥
    room-there h = let r = numbers.0.room in omega arith

    -- too many cells
    pub split_full : 47 < length (cells_of d.netlist) + j → SplitCall ch ru fa d b j before after (answer.Refused (TooManyCells k)) d
    split_full h = split-call (answer.Refused (TooManyCells k)) d (record {
      answers = record {
        says = inr (not_closed, inr (λ out. out ranged-seen, inr (room-there, inr (few-classes, inl (omega arith, ap (λ i. answer.Refused (TooManyCells i)) counted)))));
        leaves = refl;
      };
      refused = λ _. refl;
      rule = refl;
      family = refl;
      inputs = refl;
      fitting = λ g. (λ x. x, λ x. x);
    })

    module _ (spare : length (cells_of d.netlist) + j ≤ 47) (class-of-codes : List ℕ) (sixteen : length class-of-codes ≡ 16) (held : (q : ℕ) → q < 16 → get_or class-of-codes q 0 ≡ holder (code j) q k)
        (places : List P) (first_places : places ≡ take k after) where
      many_codes : 2 ^ j ≤ 16
      many_codes = pow_mono {i = j} {j = 4} few_codes

      held_all : (q : ℕ) → q < 2 ^ j → get_or class-of-codes q 0 ≡ holder (code j) q (length (classes (columns b f)))
      held_all q h = held q (let c = many_codes in omega arith) ∙ ap (holder (code j) q) counted

      means : map ((inverted ch).column d.chart b) places ≡ classes (columns b f)
      means = ap (map ((inverted ch).column d.chart b)) first_places ∙ numbers.1.means

      length-places : length places ≡ k
      length-places = sym (length-map places ((inverted ch).column d.chart b)) ∙ ap length means ∙ sym counted

      pub recodable : Recodable m b j (length places) class-of-codes
      recodable = record {
        bound = ranged.bound;
        few = few_codes;
        small = let s = small in let w = ranged.bound in let v = ranged.fewer in omega arith;
        coded = let c = many_codes in omega arith;
        placed = λ q h. let l = length-places in let some : 1 ≤ k = omega (arith, some_class b f, counted) in let c = many_codes in omega (arith, held q (omega arith), holder-below (code j) q k some);
      }

      recoded_is : recoded j (map ((inverted ch).column d.chart b) places) (λ q. get_or class-of-codes q 0) ≡ coded code b j f
      recoded_is = coded_from code b j f (map ((inverted ch).column d.chart b) places) (λ q. get_or class-of-codes q 0) means held_all

      cells-spare : 47 < length (seen ch ru fa d).cells + j → ⊥
      cells-spare h = omega arith

      -- no room in the chart
      pub split_unfit : (x : Inverting C P) (n : ℕ) → x ≡ d.chart → Refused (Recodable m b j (length places) class-of-codes) ((inverted ch).fits d.chart (recoded j (map ((inverted ch).column d.chart b) places) (λ q. get_or class-of-codes q 0))) n →
          SplitCall ch ru fa d b j before after (answer.Refused (SplitDoesNotFit k)) (record { chart = x; rule = d.rule; family = d.family; inputs = d.inputs; live = d.live; netlist = d.netlist })
      split_unfit x n same why =
          let T : Inverting C P → Type 0 = λ y. SplitCall ch ru fa d b j before after (answer.Refused (SplitDoesNotFit k)) (record { chart = y; rule = d.rule; family = d.family; inputs = d.inputs; live = d.live; netlist = d.netlist }) in
          let unfit : (inverted ch).fits d.chart (coded code b j f) → ⊥ = λ fit. ⊎_elim (λ w. w.1 recodable) (λ w. w.2 (subst ((inverted ch).fits d.chart) (sym recoded_is) fit)) why in
          subst T (sym same) (split-call (answer.Refused (SplitDoesNotFit k)) d (record {
            answers = record {
              says = inr (not_closed, inr (λ out. out ranged-seen, inr (room-there, inr (few-classes, inr (cells-spare, inl (unfit, ap (λ i. answer.Refused (SplitDoesNotFit i)) counted))))));
              leaves = refl;
            };
            refused = λ _. refl;
            rule = refl;
            family = refl;
            inputs = refl;
            fitting = λ g. (λ y. y, λ y. y);
          }))

      module _ (x : Inverting C P) (became : Became (inverted ch).arity (whole (inverted ch).column (inverted ch).root) (inverted ch).fits (m - b + j) (recoded j (map ((inverted ch).column d.chart b) places) (λ q. get_or class-of-codes q 0)) d.chart x)
          (classed : List ℕ) (entries : length classed ≡ 2 ^ b) (numbered : (e : ℕ) → e < 2 ^ b → get_or classed e 0 ≡ class_of b f (bits b e))
          (pins : List ℕ) (first : pins ≡ take b d.live) (w : Netlist) (made : cells_of w ≡ cells_of d.netlist ++ code_cells code j pins classed j) (open-still : w.closed ≡ d.netlist.closed)
          (live : List ℕ) (n : ℕ) (relived : take (m - b + j) live ≡ range_with_len (16 + n) j ++ drop b (take m d.live)) (were : n ≡ length (cells_of d.netlist)) where
        pins_are : pins ≡ take b (take m d.live)
        pins_are = first ∙ sym (take-take b m d.live ranged.bound)

        table_is : (t : ℕ) → number_table code j classed t ≡ code_table code b j f t
        table_is t = ap (λ n. tabled n (λ e. eqb (code j (get_or classed e 0) / 2 ^ (j - 1 - t) % 2) 1)) entries ∙ code_table_from code b j f t (λ e. get_or classed e 0) numbered

        cells_are : code_cells code j pins classed j ≡ split_cells code b j (seen ch ru fa d)
        cells_are =
            ap (λ ps. code_cells code j ps classed j) pins_are
            ∙ split_cells_from code b j (chart_function ch d.chart.below) (seen ch ru fa d) (number_table code j classed) refl (λ t l. table_is t ∙ code_table-negated code b j (chart_function ch d.chart.below) t)

        -- done
        pub split_done : SplitCall ch ru fa d b j before after (answer.Divided k (n + j)) (record { chart = x; rule = d.rule; family = d.family; inputs = d.inputs; live = live; netlist = w })
        split_done =
            split-call (answer.Divided k (n + j)) (record { chart = x; rule = d.rule; family = d.family; inputs = d.inputs; live = live; netlist = w }) (record {
              answers = record {
                says = inr (not_closed, inr (λ out. out ranged-seen, inr (room-there, inr (few-classes, inr (cells-spare, inr (λ unfit. unfit (subst ((inverted ch).fits d.chart) recoded_is became.fitted), ap (λ i. answer.Divided i (n + j)) counted ∙ ap (λ i. answer.Divided (length (classes (columns b f))) (i + j)) were))))));
                leaves =
                    ap (λ l. state l (cells_of w) (whole (inverted ch).column (inverted ch).root x) w.closed) (ap (λ i. take i live) became.counted ∙ relived ∙ ap (λ i. range_with_len (16 + i) j ++ drop b (take m d.live)) were)
                    ∙ ap (λ cs. state (range_with_len (16 + length (cells_of d.netlist)) j ++ drop b (take m d.live)) cs (whole (inverted ch).column (inverted ch).root x) w.closed) (made ∙ ap (λ cs. cells_of d.netlist ++ cs) cells_are)
                    ∙ ap (λ g. state (range_with_len (16 + length (cells_of d.netlist)) j ++ drop b (take m d.live)) (cells_of d.netlist ++ split_cells code b j (seen ch ru fa d)) g w.closed) (became.meaning ∙ recoded_is)
                    ∙ ap (state (range_with_len (16 + length (cells_of d.netlist)) j ++ drop b (take m d.live)) (cells_of d.netlist ++ split_cells code b j (seen ch ru fa d)) (coded code b j f)) (open-still ∙ still);
              };
              refused = λ e. absurd (true≢false e);
              rule = refl;
              family = refl;
              inputs = refl;
              fitting = fits_below ch d.chart x became.fitting;
            })
