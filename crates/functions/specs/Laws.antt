-- The laws of words, functions, columns and classes.
use Rattle.std.specs.Prelude.{◌≡◌, ℕ, ◌+◌, ◌-◌, ◌/◌, ◌%◌, ◌^◌, ◌<◌, ◌≤◌, Bool, true, false, not, ◌↔◌, List, ◌++◌, map, length, Decides, ◌==◌, slice_index_or}
use Rattle.std.specs.List.{ContainsAt, AllByRecursion}
use Rattle.functions.specs.Words.{number, bits, swapped}
use Rattle.functions.specs.Functions.{Fn, bit, Arity, value, under, rows, tree, negated, exchanged, recoded}
use Rattle.functions.specs.Classes.{columns, same_fn, among, place_of, classes, first_of, class_of}

-- words of bits and their numbers
pub record WordLaws : Type 0 where
  -- the word of k bits with the number i has k bits
  pub length_bits : (k i : ℕ) → length (bits k i) ≡ k
  -- and the number i, where i is below 2 ^ k
  pub number_bits : (k i : ℕ) → i < 2 ^ k → number (bits k i) ≡ i
  -- a word has a number below 2 ^ its length
  pub number_below : (xs : List Bool) → number xs < 2 ^ length xs
  -- and is known by its length and that number
  pub bits_number : (xs : List Bool) → bits (length xs) (number xs) ≡ xs
  -- bit t of a word of k bits has the weight 2 ^ (k - 1 - t)
  pub get_or_bits : (k i t : ℕ) → t < k → slice_index_or (bits k i) t false ≡ (i / 2 ^ (k - 1 - t) % 2 == 1)
  -- the exchange of two neighbours keeps the length
  pub length_swapped : (p : ℕ) (xs : List Bool) → length (swapped p xs) ≡ length xs
  -- and undoes itself
  pub swapped_twice : (p : ℕ) (xs : List Bool) → swapped p (swapped p xs) ≡ xs

-- functions by their values
pub record ValueLaws : Type 0 where
  -- functions of one arity with the same values are equal
  pub extensional : (m : ℕ) (f g : Fn) → Arity m f → Arity m g → ((xs : List Bool) → length xs ≡ m → value f xs ≡ value g xs) → f ≡ g
  -- the test tells whether two functions are equal
  pub decides_same_fn : (f g : Fn) → Decides (same_fn f g) (f ≡ g)
  -- the first arguments choose a row, and the others are the row's
  pub value_rows : (j : ℕ) (r : ℕ → Fn) (xs ys : List Bool) → length xs ≡ j → value (rows j r) (xs ++ ys) ≡ value (r (number xs)) ys
  -- a tree has its table's entry at each assignment
  pub value_tree : (k : ℕ) (t : ℕ → Bool) (xs : List Bool) → length xs ≡ k → value (tree k t) xs ≡ t (number xs)
  -- the exchanged function has the value of f at the exchanged assignment
  pub value_exchanged : (p : ℕ) (f : Fn) (xs : List Bool) → p + 1 < length xs → value (exchanged p f) xs ≡ value f (swapped p xs)
  -- the recoded function has, at a code and the other arguments, the value of the column of the code's class
  pub value_recoded : (j : ℕ) (cs : List Fn) (class : ℕ → ℕ) (xs ys : List Bool) → length xs ≡ j →
      value (recoded j cs class) (xs ++ ys) ≡ value (slice_index_or cs (class (number xs)) (bit false)) ys

-- how many arguments there are
pub record ArityLaws : Type 0 where
  -- a function has one arity
  pub one_arity : (m n : ℕ) (f : Fn) → Arity m f → Arity n f → m ≡ n
  -- rows of k arguments, chosen by j
  pub arity_rows : (j k : ℕ) (r : ℕ → Fn) → ((i : ℕ) → i < 2 ^ j → Arity k (r i)) → Arity (j + k) (rows j r)
  -- a tree has as many arguments as levels
  pub arity_tree : (k : ℕ) (t : ℕ → Bool) → Arity k (tree k t)
  -- an exchange keeps the arity
  pub arity_exchanged : (p m : ℕ) (f : Fn) → p + 1 < m → Arity m f → Arity m (exchanged p f)
  -- columns of k arguments, chosen by codes of j bits that have a class each
  pub arity_recoded : (j k : ℕ) (cs : List Fn) (class : ℕ → ℕ) → ((q : ℕ) → q < 2 ^ j → class q < length cs) → AllByRecursion (Arity k) cs → Arity (j + k) (recoded j cs class)
  -- each fixed argument is one less
  pub arity_under : (m : ℕ) (f : Fn) (xs : List Bool) → Arity m f → length xs ≤ m → Arity (m - length xs) (under f xs)
  -- the columns have the arguments that are left
  pub arity_columns : (m b : ℕ) (f : Fn) → Arity m f → b ≤ m → AllByRecursion (Arity (m - b)) (columns b f)
  -- and so have the classes
  pub arity_classes : (m b : ℕ) (f : Fn) → Arity m f → b ≤ m → AllByRecursion (Arity (m - b)) (classes (columns b f))

-- what negation changes and what it keeps
pub record NegationLaws : Type 0 where
  -- each value is negated
  pub value_negated : (f : Fn) (xs : List Bool) → value (negated f) xs ≡ not (value f xs)
  -- twice negated is as it was
  pub negated_twice : (f : Fn) → negated (negated f) ≡ f
  -- negation keeps the arity
  pub arity_negated : (m : ℕ) (f : Fn) → Arity m f → Arity m (negated f)
  -- the columns of the negation are the negated columns
  pub columns_negated : (b : ℕ) (f : Fn) → columns b (negated f) ≡ map negated (columns b f)
  -- and so are the classes
  pub classes_negated : (fs : List Fn) → classes (map negated fs) ≡ map negated (classes fs)
  -- so that each bound assignment keeps the number of its class
  pub class_of_negated : (b : ℕ) (f : Fn) (xs : List Bool) → class_of b (negated f) xs ≡ class_of b f xs
  -- negation goes through an exchange
  pub exchanged_negated : (p : ℕ) (f : Fn) → exchanged p (negated f) ≡ negated (exchanged p f)
  -- and through codes that have a class each
  pub recoded_negated : (j : ℕ) (cs : List Fn) (class : ℕ → ℕ) → ((q : ℕ) → q < 2 ^ j → class q < length cs) →
      recoded j (map negated cs) class ≡ negated (recoded j cs class)

-- the columns of f at its first b arguments
pub record ColumnLaws : Type 0 where
  -- there is a column for each assignment of b bits
  pub length_columns : (b : ℕ) (f : Fn) → length (columns b f) ≡ 2 ^ b
  -- the column with the number i is that of the assignment with the number i
  pub column_at : (b i : ℕ) (f d : Fn) → i < 2 ^ b → slice_index_or (columns b f) i d ≡ under f (bits b i)
  -- f's value is the column's value at the other arguments
  pub value_under : (f : Fn) (xs ys : List Bool) → value f (xs ++ ys) ≡ value (under f xs) ys

-- the classes of a list of functions
pub record ClassLaws : Type 0 where
  -- the test tells whether f is one of the functions
  pub decides_among : (f : Fn) (fs : List Fn) → Decides (among f fs) (ContainsAt fs f)
  -- the place of one of the functions is one of theirs
  pub place_below : (f : Fn) (fs : List Fn) → among f fs ≡ true → place_of f fs < length fs
  -- it holds the function
  pub get_or_place : (f : Fn) (fs : List Fn) (d : Fn) → among f fs ≡ true → slice_index_or fs (place_of f fs) d ≡ f
  -- and no place before it does
  pub place_first : (fs : List Fn) (i : ℕ) (d : Fn) → i < length fs → place_of (slice_index_or fs i d) fs ≤ i
  -- each function is one of the classes, and each class is one of the functions
  pub has_classes : (fs : List Fn) (f : Fn) → ContainsAt (classes fs) f ↔ ContainsAt fs f
  -- classes with different numbers differ
  pub classes_differ : (fs : List Fn) (c e : ℕ) (d : Fn) → c < length (classes fs) → e < length (classes fs) → slice_index_or (classes fs) c d ≡ slice_index_or (classes fs) e d → c ≡ e
  -- the class with the larger number first appears later
  pub classes_rise : (fs : List Fn) (c e : ℕ) (d : Fn) → c < e → e < length (classes fs) → place_of (slice_index_or (classes fs) c d) fs < place_of (slice_index_or (classes fs) e d) fs
  -- there are no more classes than functions
  pub length_classes : (fs : List Fn) → length (classes fs) ≤ length fs

-- the classes of the columns of f at its first b arguments
pub record ColumnClassLaws : Type 0 where
  -- each bound assignment has a class
  pub class_below : (b : ℕ) (f : Fn) (xs : List Bool) → length xs ≡ b → class_of b f xs < length (classes (columns b f))
  -- which is the assignment's column
  pub get_or_class : (b : ℕ) (f : Fn) (xs : List Bool) (d : Fn) → length xs ≡ b → slice_index_or (classes (columns b f)) (class_of b f xs) d ≡ under f xs
  -- each class has a first bound assignment
  pub first_below : (b : ℕ) (f : Fn) (c : ℕ) → c < length (classes (columns b f)) → first_of b f c < 2 ^ b
  -- of which it is the column
  pub under_first : (b : ℕ) (f : Fn) (c : ℕ) (d : Fn) → c < length (classes (columns b f)) → under f (bits b (first_of b f c)) ≡ slice_index_or (classes (columns b f)) c d
