-- A table of codes: its rule is one test over the whole table.
use Rattle.std.specs.Prelude.{ℕ, zero, suc, ◌^◌, Bool, true, not, ◌&&◌, List, [], ◌∷◌, take, ◌==◌, nat_lt}

-- is x none of the numbers?
abbrev pub lacking : ℕ → List ℕ → Bool
lacking x [] = true
lacking x (y ∷ ys) = not (x == y) && lacking x ys

-- are the numbers below n, and different?
abbrev pub distinct_below : ℕ → List ℕ → Bool
distinct_below n [] = true
distinct_below n (x ∷ xs) = nat_lt x n && (lacking x xs && distinct_below n xs)

-- are the first 2 ^ j entries the numbers below 2 ^ j in some order, for each j from 0 to k?
abbrev pub coding : ℕ → List ℕ → Bool
coding zero t = distinct_below 1 (take 1 t)
coding (suc k) t = distinct_below (2 ^ suc k) (take (2 ^ suc k) t) && coding k t
