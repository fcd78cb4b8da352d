-- Lists without repetition, the parts of a function, and how many there are.
use Rattle.std.proofs.Common.{◌≡◌, ℕ, zero, suc, ◌<◌, ◌≤◌, Bool, true, false, cond, ◌⊎◌, List, [], ◌∷◌, ◌++◌, length, get_or, sym, refl, ap, ◌∙◌, subst, inl, inr, ⊎_elim, arith}
use Rattle.std.proofs.lemmas.Bool.{cases_eq, cases_Bool, or_cases, true≢false}
use Rattle.functions.specs.Functions.{Fn, fork}
use Rattle.functions.specs.Classes.{same_fn, among, place_of, classes}
use Rattle.functions.proofs.Values.{same-sound, same_self}
use Rattle.functions.proofs.Classes.{place_below, get_or_place, among-classes, classes_differ}
use Rattle.nodes.specs.Sizes.{parts}

-- x is one of the list
abbrev pub In : {A : Type 0} → A → List A → Type 0
In x [] = ⊥
In x (y ∷ ys) = (x ≡ y) ⊎ In x ys

-- no element is there twice
abbrev pub Apart : {A : Type 0} → List A → Type 0
Apart [] = Unit {0}
Apart (x ∷ xs) = (In x xs → ⊥) × Apart xs

-- a list without one of its elements
without : {A : Type 0} (x : A) (ys : List A) → In x ys → (zs : List A) × (length ys ≡ suc (length zs)) × ((y : A) → In y ys → (y ≡ x → ⊥) → In y zs)
without x [] i = absurd i
without x (y ∷ ys) (inl e) = (ys, refl, λ z j nay. ⊎_elim (λ q. absurd (nay (q ∙ sym e))) (λ q. q) j)
without x (y ∷ ys) (inr i) =
    let w = without x ys i in
    (y ∷ w.0, ap suc w.1, λ z j nay. ⊎_elim (λ q. inl q) (λ q. inr (w.2 z q nay)) j)

-- what is apart and lies in a list is no longer than it
pub no_longer : {A : Type 0} (xs ys : List A) → Apart xs → ((x : A) → In x xs → In x ys) → length xs ≤ length ys
no_longer [] ys a s = omega arith
no_longer (x ∷ xs) ys a s =
    let w = without x ys (s x (inl refl)) in
    let h = no_longer xs w.0 a.1 (λ z i. w.2 z (s z (inr i)) (λ q. let P = λ (t : _). In t xs in a.0 (subst P q i))) in
    omega (arith, w.1)

-- the test says whether f is one of the functions
pub among_in : (f : Fn) (gs : List Fn) → among f gs ≡ true → In f gs
among_in f [] e = true≢false (sym e)
among_in f (g ∷ gs) e = ⊎_elim (λ q. inl (sym (same-sound g f q))) (λ q. inr (among_in f gs q)) (or_cases (same_fn g f) (among f gs) e)

pub in_among : (f : Fn) (gs : List Fn) → In f gs → among f gs ≡ true
in_among f [] i = absurd i
in_among f (g ∷ gs) (inl q) = rw (subst (λ (t : Fn). same_fn t f ≡ true) q (same_self f)) refl
in_among f (g ∷ gs) (inr i) = let e = in_among f gs i in elim (cases_Bool (same_fn g f)) [ inl s ↦ rw s | inr s ↦ rw (s, e) ]

-- the classes are the functions
pub in_classes : (gs : List Fn) (f : Fn) → In f gs → In f (classes gs)
in_classes gs f i = among_in f (classes gs) (among-classes gs f ∙ in_among f gs i)

pub classes_in : (gs : List Fn) (f : Fn) → In f (classes gs) → In f gs
classes_in gs f i = among_in f gs (sym (among-classes gs f) ∙ in_among f (classes gs) i)

-- a list whose entries differ is apart
differ_apart : (fs : List Fn) → ((c e : ℕ) (d : Fn) → c < length fs → e < length fs → get_or fs c d ≡ get_or fs e d → c ≡ e) → Apart fs
differ_apart [] h = tt
differ_apart (f ∷ fs) h = (
  (λ i. let t = in_among f fs i in
      let q = h 0 (suc (place_of f fs)) f (omega arith) (omega (arith, place_below f fs t)) (sym (get_or_place f fs f t)) in omega arith),
  differ_apart fs (λ c e d l k q. let w = h (suc c) (suc e) d (omega arith) (omega arith) q in omega arith),
)

-- and differ
pub classes-apart : (gs : List Fn) → Apart (classes gs)
classes-apart gs = differ_apart (classes gs) (classes_differ gs)

-- membership in a concatenation
in_left : {A : Type 0} (x : A) (xs ys : List A) → In x xs → In x (xs ++ ys)
in_left x [] ys i = absurd i
in_left x (z ∷ xs) ys (inl e) = inl e
in_left x (z ∷ xs) ys (inr i) = inr (in_left x xs ys i)

in_right : {A : Type 0} (x : A) (xs ys : List A) → In x ys → In x (xs ++ ys)
in_right x [] ys i = i
in_right x (z ∷ xs) ys i = inr (in_right x xs ys i)

in_either : {A : Type 0} (x : A) (xs ys : List A) → In x (xs ++ ys) → In x xs ⊎ In x ys
in_either x [] ys i = inr i
in_either x (z ∷ xs) ys (inl e) = inl (inl e)
in_either x (z ∷ xs) ys (inr i) = ⊎_elim (λ q. inl (inr q)) (λ q. inr q) (in_either x xs ys i)

-- the parts of a function are itself, where its halves differ, and those of its halves
pub part_self : (a b : Fn) → (a ≡ b → ⊥) → In (fork a b) (parts (fork a b))
unfolding parts
part_self a b nay = go (same_fn a b) refl
  where
    go : (t : Bool) → same_fn a b ≡ t → In (fork a b) (cond t (parts a ++ parts b) (fork a b ∷ (parts a ++ parts b)))
    go true e = absurd (nay (same-sound a b e))
    go false e = inl refl

-- the parts of a half are parts of the whole
pub part_left : (x a b : Fn) → In x (parts a) → In x (parts (fork a b))
unfolding parts
part_left x a b i = go (same_fn a b)
  where
    go : (t : Bool) → In x (cond t (parts a ++ parts b) (fork a b ∷ (parts a ++ parts b)))
    go true = in_left x (parts a) (parts b) i
    go false = inr (in_left x (parts a) (parts b) i)

pub part_right : (x a b : Fn) → In x (parts b) → In x (parts (fork a b))
unfolding parts
part_right x a b i = go (same_fn a b)
  where
    go : (t : Bool) → In x (cond t (parts a ++ parts b) (fork a b ∷ (parts a ++ parts b)))
    go true = in_right x (parts a) (parts b) i
    go false = inr (in_right x (parts a) (parts b) i)

-- where a part of a function is from
pub data Part (x a b : Fn) : Type 0 where
  whole : x ≡ fork a b → (a ≡ b → ⊥) → Part x a b
  of_left : In x (parts a) → Part x a b
  of_right : In x (parts b) → Part x a b

pub part_cases : (x a b : Fn) → In x (parts (fork a b)) → Part x a b
unfolding parts
part_cases x a b i = go (same_fn a b) refl i
  where
    below : In x (parts a ++ parts b) → Part x a b
    below j = ⊎_elim (λ q. of_left q) (λ q. of_right q) (in_either x (parts a) (parts b) j)

    go : (t : Bool) → same_fn a b ≡ t → In x (cond t (parts a ++ parts b) (fork a b ∷ (parts a ++ parts b))) → Part x a b
    go true e j = below j
    go false e (inl q) = whole q (λ r. let P : Fn → Type 0 = λ z. same_fn a z ≡ true in true≢false (sym (subst P r (same_self a)) ∙ e))
    go false e (inr j) = below j

-- the values of g below i, the last first
abbrev pub table : {A : Type 0} → (ℕ → A) → ℕ → List A
table g zero = []
table g (suc i) = g i ∷ table g i

pub length-table : {A : Type 0} (g : ℕ → A) (i : ℕ) → length (table g i) ≡ i
length-table g zero = refl
length-table g (suc i) = ap suc (length-table g i)

-- the entries of a table
pub table_in : {A : Type 0} (g : ℕ → A) (i j : ℕ) → j < i → In (g j) (table g i)
table_in g zero j h = absurd (omega arith)
table_in g (suc i) j h =
    ⊎_elim
    (λ (e : j ≡ i). inl (ap g e))
    (λ (e : j ≡ i → ⊥). let h' : j < i = omega arith in inr (table_in g i j h'))
    (cases_eq j i)

pub in_table : {A : Type 0} (g : ℕ → A) (i : ℕ) (x : A) → In x (table g i) → (j : ℕ) × (j < i) × (x ≡ g j)
in_table g zero x k = absurd k
in_table g (suc i) x (inl e) = (i, omega arith, e)
in_table g (suc i) x (inr k) = let r = in_table g i x k in (r.0, omega (arith, r.1), r.2)

-- a table of different values
pub table-apart : {A : Type 0} (g : ℕ → A) (i : ℕ) → ((j k : ℕ) → j < i → k < i → g j ≡ g k → j ≡ k) → Apart (table g i)
table-apart g zero inj = tt
table-apart g (suc i) inj = (
  (λ k. let r = in_table g i (g i) k in let q : i ≡ r.0 = inj i r.0 (omega arith) (omega (arith, r.1)) r.2 in omega (arith, r.1)),
  table-apart g i (λ j k a b e. inj j k (omega arith) (omega arith) e),
)
