-- Places of functions in a list, and the classes of a list.
use Rattle.std.proofs.Common.{◌≡◌, ℕ, zero, suc, ◌+◌, ◌-◌, ◌^◌, ◌<◌, ◌≤◌, Bool, true, false, ◌||◌, ◌↔◌, List, [], ◌∷◌, ◌++◌, length, get_or, take, Decides, sym, refl, ap, ◌∙◌, subst, inl, inr, arith}
use mathlib.Core.Bool.{false≢true, or-false}
use Rattle.std.specs.List.{ContainsAt as Has, AllByRecursion as All}
use Rattle.std.proofs.ByRecursion.{All-from_get_or, all-has, has_get_or}
use Rattle.std.proofs.lemmas.List.{append_assoc, append-nil, length_push, get_or_append_left, get_or_push, get_or_default}
use Rattle.std.proofs.lemmas.List.Sums.{fold_push, fold_more}
use Rattle.std.proofs.lemmas.Bool.{cases_Bool, cases_lt, cases_order, or_right, or_parts}
use Rattle.functions.specs.Words.{number, bits}
use Rattle.functions.specs.Functions.{Fn, bit, Arity, under}
use Rattle.functions.specs.Classes.{columns, same_fn, among, place_of, noted, classes, first_of, class_of}
use Rattle.functions.proofs.Words.{number_below}
use Rattle.functions.proofs.Values.{same-sound, same_self}
use Rattle.functions.proofs.Columns.{length_columns, column_at, column_of, arity_columns}

-- ---- one of the functions, or none

pub among_push : (f : Fn) (gs : List Fn) (g : Fn) → among f (gs ++ (g ∷ [])) ≡ (among f gs || same_fn g f)
among_push f [] g = or-false (same_fn g f)
among_push f (h ∷ gs) g = elim (cases_Bool (same_fn h f)) [
  | inl s ↦ rw s
  | inr s ↦ rw s (among_push f gs g)
]

pub among-at : (fs : List Fn) (i : ℕ) (d : Fn) → i < length fs → among (get_or fs i d) fs ≡ true
among-at [] i d h = absurd (omega arith)
among-at (f ∷ fs) zero d h = rw (same_self f)
among-at (f ∷ fs) (suc i) d h = or_right (same_fn f (get_or fs i d)) (among (get_or fs i d) fs) (among-at fs i d (omega arith))

-- ---- the place of a function

pub place_below : (f : Fn) (gs : List Fn) → among f gs ≡ true → place_of f gs < length gs
place_below f [] e = absurd (false≢true e)
place_below f (g ∷ gs) e = elim (cases_Bool (same_fn g f)) [
  | inl s ↦ rw s (omega arith)
  | inr s ↦ let h = place_below f gs (rw s at e) in rw s (omega arith)
]

pub get_or_place : (f : Fn) (gs : List Fn) (d : Fn) → among f gs ≡ true → get_or gs (place_of f gs) d ≡ f
get_or_place f [] d e = absurd (false≢true e)
get_or_place f (g ∷ gs) d e = elim (cases_Bool (same_fn g f)) [
  | inl s ↦ rw s (same-sound g f s)
  | inr s ↦ rw s (get_or_place f gs d (rw s at e))
]

pub place_first : (fs : List Fn) (i : ℕ) (d : Fn) → i < length fs → place_of (get_or fs i d) fs ≤ i
place_first [] i d h = absurd (omega arith)
place_first (f ∷ fs) zero d h = rw (same_self f) (omega arith)
place_first (f ∷ fs) (suc i) d h = elim (cases_Bool (same_fn f (get_or fs i d))) [
  | inl s ↦ rw s (omega arith)
  | inr s ↦ let l = place_first fs i d (omega arith) in rw s (omega arith)
]

-- a function that does not stand before the place i, and stands there
pub place_at : (f : Fn) (fs : List Fn) (i : ℕ) (d : Fn) → i < length fs → among f (take i fs) ≡ false → get_or fs i d ≡ f → place_of f fs ≡ i
place_at f [] i d h none e = absurd (omega arith)
place_at f (g ∷ fs) zero d h none e = rw (e, same_self f)
place_at f (g ∷ fs) (suc i) d h none e =
    let parts = or_parts (same_fn g f) (among f (take i fs)) none in
    rw (parts.0, place_at f fs i d (omega arith) parts.1 e)

-- more functions behind them do not move one of them
place_old : (f : Fn) (gs hs : List Fn) → among f gs ≡ true → place_of f (gs ++ hs) ≡ place_of f gs
place_old f [] hs e = absurd (false≢true e)
place_old f (g ∷ gs) hs e = elim (cases_Bool (same_fn g f)) [
  | inl s ↦ rw s
  | inr s ↦ rw (s, place_old f gs hs (rw s at e))
]

-- a new one stands at the end
place_new : (f : Fn) (gs : List Fn) → among f gs ≡ false → place_of f (gs ++ (f ∷ [])) ≡ length gs
place_new f [] e = rw (same_self f)
place_new f (g ∷ gs) e = elim (cases_Bool (same_fn g f)) [
  | inl s ↦ absurd (false≢true (sym e ∙ rw s))
  | inr s ↦ rw (s, place_new f gs (rw s at e))
]

pub decides_among : (f : Fn) (fs : List Fn) → Decides (among f fs) (Has fs f)
decides_among f fs = (
  λ e. (place_of f fs, place_below f fs e, λ d. get_or_place f fs d e),
  λ h. subst (λ g. among g fs ≡ true) (h.2 f) (among-at fs h.0 f h.1),
)

-- ---- the classes, one function more at a time

pub classes_push : (fs : List Fn) (f : Fn) → classes (fs ++ (f ∷ [])) ≡ noted (classes fs) f
classes_push fs f = fold_push noted [] fs f

pub classes-more : (fs : List Fn) (i : ℕ) (d : Fn) → i < length fs → classes (take (i + 1) fs) ≡ noted (classes (take i fs)) (get_or fs i d)
classes-more fs i d h = fold_more noted [] fs i d h

-- a list, from its front
by_push : (P : List Fn → Type 0) → P [] → ((fs : List Fn) (f : Fn) → P fs → P (fs ++ (f ∷ []))) → (fs : List Fn) → P fs
by_push P none more fs = go [] fs none
  where
    go : (gs fs : List Fn) → P gs → P (gs ++ fs)
    go gs [] p = rw append-nil p
    go gs (f ∷ fs) p = subst P (append_assoc gs (f ∷ []) fs) (go (gs ++ (f ∷ [])) fs (more gs f p))

among-noted : (f : Fn) (gs : List Fn) (g : Fn) → among f (noted gs g) ≡ (among f gs || same_fn g f)
among-noted f gs g = elim (cases_Bool (among g gs)) [
  | inl t ↦ elim (cases_Bool (same_fn g f)) [
    | inl s ↦ let there : among f gs ≡ true = subst (λ h. among h gs ≡ true) (same-sound g f s) t in rw (t, there)
    | inr s ↦ rw (t, s) (sym (or-false (among f gs)))
  ]
  | inr t ↦ rw t (among_push f gs g)
]

pub among-classes : (fs : List Fn) (f : Fn) → among f (classes fs) ≡ among f fs
among-classes = by_push (λ fs. (f : Fn) → among f (classes fs) ≡ among f fs) (λ f. refl)
    (λ fs g same f. ap (among f) (classes_push fs g) ∙ among-noted f (classes fs) g ∙ ap (λ b. b || same_fn g f) (same f) ∙ sym (among_push f fs g))

pub has_classes : (fs : List Fn) (f : Fn) → Has (classes fs) f ↔ Has fs f
has_classes fs f = (
  λ h. (decides_among f fs).0 (sym (among-classes fs f) ∙ (decides_among f (classes fs)).1 h),
  λ h. (decides_among f (classes fs)).0 (among-classes fs f ∙ (decides_among f fs).1 h),
)

pub length_classes : (fs : List Fn) → length (classes fs) ≤ length fs
length_classes = by_push (λ fs. length (classes fs) ≤ length fs) (omega arith)
    (λ fs f h. rw (classes_push fs f, length_push fs f) (elim (cases_Bool (among f (classes fs))) [
      | inl t ↦ rw t (omega arith)
      | inr t ↦ rw (t, length_push (classes fs) f) (omega arith)
    ]))

-- the functions cs first stand in fs in their order
abbrev Rises : List Fn → List Fn → Type 0
Rises cs fs = (c e : ℕ) (d : Fn) → c < e → e < length cs → place_of (get_or cs c d) fs < place_of (get_or cs e d) fs

rises_more : (cs fs : List Fn) (f : Fn) → ((g : Fn) → among g cs ≡ among g fs) → Rises cs fs → Rises (noted cs f) (fs ++ (f ∷ []))
rises_more cs fs f same rises =
    let there : (c : ℕ) (d : Fn) → c < length cs → among (get_or cs c d) fs ≡ true = λ c d h. sym (same (get_or cs c d)) ∙ among-at cs c d h in
    let old : (c : ℕ) (d : Fn) → c < length cs → place_of (get_or cs c d) (fs ++ (f ∷ [])) ≡ place_of (get_or cs c d) fs = λ c d h. place_old (get_or cs c d) fs (f ∷ []) (there c d h) in
    elim (cases_Bool (among f cs)) [
      | inl t ↦ rw t (λ c e d l h. let k : c < length cs = omega arith in rw (old c d k, old e d h) (rises c e d l h))
      | inr t ↦ rw t (λ c e d l h.
          let long = length_push cs f in
          let k : c < length cs = omega arith in
          rw (get_or_append_left cs (f ∷ []) d c k, old c d k) (elim (cases_lt e (length cs)) [
            | inl m ↦ rw (get_or_append_left cs (f ∷ []) d e m, old e d m) (rises c e d l m)
            | inr m ↦
                let last : length cs ≡ e = omega arith in
                rw (get_or_push cs f d e last, place_new f fs (sym (same f) ∙ t)) (place_below (get_or cs c d) fs (there c d k))
          ]))
    ]

pub classes_rise : (fs : List Fn) → Rises (classes fs) fs
classes_rise = by_push (λ fs. Rises (classes fs) fs) (λ c e d l h. absurd (omega arith))
    (λ fs f h. rw (classes_push fs f) (rises_more (classes fs) fs f (among-classes fs) h))

pub classes_differ : (fs : List Fn) (c e : ℕ) (d : Fn) → c < length (classes fs) → e < length (classes fs) → get_or (classes fs) c d ≡ get_or (classes fs) e d → c ≡ e
classes_differ fs c e d h k is =
    let same = ap (λ f. place_of f fs) is in
    elim (cases_order c e) [
      | inl q ↦ q
      | inr (inl l) ↦ absurd (omega (arith, classes_rise fs c e d l k))
      | inr (inr l) ↦ absurd (omega (arith, classes_rise fs e c d l h))
    ]

pub all_classes : (P : Fn → Type 0) (fs : List Fn) → All P fs → All P (classes fs)
all_classes P fs a = All-from_get_or P (classes fs) (bit false)
    (λ c h. all-has P fs (get_or (classes fs) c (bit false)) a ((has_classes fs (get_or (classes fs) c (bit false))).0 (has_get_or (classes fs) c (bit false) h)))

-- ---- the classes of a function's columns

class_among : (b : ℕ) (f : Fn) (xs : List Bool) → length xs ≡ b → among (under f xs) (classes (columns b f)) ≡ true
class_among b f xs e =
    let within : number xs < length (columns b f) = rw (length_columns b f, ← e) (number_below xs) in
    among-classes (columns b f) (under f xs) ∙ subst (λ g. among g (columns b f) ≡ true) (column_of b f f xs e) (among-at (columns b f) (number xs) f within)

pub class_below : (b : ℕ) (f : Fn) (xs : List Bool) → length xs ≡ b → class_of b f xs < length (classes (columns b f))
class_below b f xs e = place_below (under f xs) (classes (columns b f)) (class_among b f xs e)

pub get_or_class : (b : ℕ) (f : Fn) (xs : List Bool) (d : Fn) → length xs ≡ b → get_or (classes (columns b f)) (class_of b f xs) d ≡ under f xs
get_or_class b f xs d e = get_or_place (under f xs) (classes (columns b f)) d (class_among b f xs e)

first-there : (b : ℕ) (f : Fn) (c : ℕ) → c < length (classes (columns b f)) → among (get_or (classes (columns b f)) c f) (columns b f) ≡ true
first-there b f c h = sym (among-classes (columns b f) (get_or (classes (columns b f)) c f)) ∙ among-at (classes (columns b f)) c f h

pub first_below : (b : ℕ) (f : Fn) (c : ℕ) → c < length (classes (columns b f)) → first_of b f c < 2 ^ b
first_below b f c h = let k = place_below (get_or (classes (columns b f)) c f) (columns b f) (first-there b f c h) in omega (arith, length_columns b f)

pub under_first : (b : ℕ) (f : Fn) (c : ℕ) (d : Fn) → c < length (classes (columns b f)) → under f (bits b (first_of b f c)) ≡ get_or (classes (columns b f)) c d
under_first b f c d h =
    sym (column_at b (first_of b f c) f f (first_below b f c h))
    ∙ get_or_place (get_or (classes (columns b f)) c f) (columns b f) f (first-there b f c h)
    ∙ get_or_default (classes (columns b f)) c f d h

pub arity_classes : (m b : ℕ) (f : Fn) → Arity m f → b ≤ m → All (Arity (m - b)) (classes (columns b f))
arity_classes m b f a h = all_classes (Arity (m - b)) (columns b f) (arity_columns m b f a h)
