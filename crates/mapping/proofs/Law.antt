-- The law over every list of calls.
use Rattle.std.proofs.Common.{◌≡◌, ℕ, ◌≤◌, Bool, true, not, List, [], sym, ap, ◌∙◌, arith}
use Rattle.std.proofs.lemmas.List.{length-map}
use Rattle.std.proofs.lemmas.Bool.{cond-true}
use Rattle.functions.specs.Functions.{Fn, Arity}
use Rattle.rules.specs.Codes.{Laws}
use Rattle.families.specs.Laws.{meant}
use Rattle.families.specs.Laws as families
use Rattle.intake.specs.Networks.{yielded, last}
use Rattle.mapping.specs.States.{State, yield, left_value}
use Rattle.mapping.specs.Histories.{Told, events}
use Rattle.mapping.specs.Judged.{Judged}
use Rattle.mapping.specs.Kept.{Reaches, none, more, Keeps, configured, Networked}
use Rattle.mapping.proofs.Building.{built}
use Rattle.mapping.proofs.Holding.{holds, keeps}
use Rattle.mapping.proofs.Judging.{judges, judged-more}
use Rattle.mapping.proofs.Networking.{cells_same, cells-wired}

module _ {R : Type 0} (code : R → ℕ → ℕ → ℕ) (laws : Laws code) (r : R) (K config : ℕ) (fits : Fn → Type 0) (n : ℕ) (f : Fn) where
  judged : {ts : List Told} {s : State} → K ≤ 5 → n ≤ 16 → Arity n f → Reaches (code r) K config fits n f ts s → Judged (code r) K config fits n f [] ts
  judged few_pins few a none = tt
  judged few_pins few a (more {ts = ts} {s = s} c y before step) =
      judged-more (code r) K config fits n f [] ts c y (judged few_pins few a before)
      (judges (code r) K config fits n f (events ts) s (holds code laws r K config fits n f few_pins few a before) c y step.says)

  -- each answer is the one that the calls before it demand, and the state keeps what it owes
  pub every_run_judged : (ts : List Told) (s : State) → K ≤ 5 → n ≤ 16 → Arity n f → Reaches (code r) K config fits n f ts s →
      Judged (code r) K config fits n f [] ts × Keeps (code r) n f (events ts) s
  every_run_judged ts s few_pins few a reach =
      (judged few_pins few a reach, keeps (code r) n f (events ts) s (holds code laws r K config fits n f few_pins few a reach))

-- the network of a design that was closed can be carried by a page, and has the opened function as its pin
pub every_network_keeps : {R F : Type 0} (code : R → ℕ → ℕ → ℕ) (laws : Laws code) (r : R) {number pins size : F → ℕ} {packed : F → ℕ → List ℕ} {reads : F → List ℕ → ℕ → Bool} (family : families.Laws number pins size packed reads)
    (a : F) (fits : Fn → Type 0) (n : ℕ) (f : Fn) (ts : List Told) (s : State) → n ≤ 16 → Arity n f → Reaches (code r) (pins a) (size a) fits n f ts s → s.closed ≡ true →
    Networked (pins a) (size a) (packed a) (λ bs e. meant (size a) (pins a) (reads a) bs e) n f s
every_network_keeps code laws r {pins = pins} {size = size} {packed = packed} {reads = reads} family a fits n f ts s few arity reach closed =
    let x = built n (pins a) (code r) (size a) fits f reach in
    let h = holds code laws r (pins a) (size a) fits n f (family.few_pins a) few arity reach in
    let long = length-map s.cells (configured (pins a) (packed a)) in
    let some = x.some closed in
    let most = x.most in
    record {
      formed = record { narrow = few; some = omega arith; most = omega arith; wired = cells-wired family a n few 0 s.cells x.cells };
      pins = λ vs l.
          ap (λ ys. not (last ys)) (cells_same family a n few 0 vs s.cells (omega arith) x.cells)
          ∙ ap not (sym (cond-true s.closed (last (yielded yield vs s.cells)) (left_value s vs) closed))
          ∙ h.pins vs l;
    }
