-- The bytes that digits write.
use Rattle.std.proofs.Common.{◌≡◌, ℕ, ◌+◌, ◌*◌, ◌≤◌, ◌&&◌, leb, List, [], ◌∷◌, ◌++◌, length, get_or, Some, None, Option, sym, refl, ap, append_assoc, arith}
use Rattle.std.proofs.lemmas.Bool.{cond_both, cond-true, and_parts, and_from, leb-true, le-leb}
use Rattle.frames.specs.Text.{bytes_of, digit_value, paired, bounded}

-- bytes in front of others
abbrev pub onto : List ℕ → Option (List ℕ) → Option (List ℕ)
onto fs None = None
onto fs (Some bs) = Some (fs ++ bs)

pub onto_nil : (bs : Option (List ℕ)) → onto [] bs ≡ bs
onto_nil None = refl
onto_nil (Some bs) = refl

pub onto_paired : (fs : List ℕ) (h l : ℕ) (rest : Option (List ℕ)) → onto fs (paired (Some h) (Some l) rest) ≡ onto (fs ++ ((16 * h + l) ∷ [])) rest
onto_paired fs h l None = refl
onto_paired fs h l (Some bs) = ap Some (sym (append_assoc fs ((16 * h + l) ∷ []) bs))

-- two digits at the front of a list
pub pair_write : (xs pair rest : List ℕ) → xs ≡ pair ++ rest → length pair ≡ 2 → bytes_of xs ≡ paired (digit_value (get_or pair 0 0)) (digit_value (get_or pair 1 0)) (bytes_of rest)
pair_write xs [] rest e n = absurd (omega arith)
pair_write xs (h ∷ []) rest e n = absurd (omega arith)
pair_write xs (h ∷ l ∷ []) rest e n = ap bytes_of e
pair_write xs (h ∷ l ∷ m ∷ more) rest e n = absurd (omega arith)

-- two digits more of a loop that reads them
pub byte_more : (xs pair rest fs : List ℕ) (all : Option (List ℕ)) (h l : ℕ) → xs ≡ pair ++ rest → length pair ≡ 2
    → digit_value (get_or pair 0 0) ≡ Some h → digit_value (get_or pair 1 0) ≡ Some l
    → onto fs (bytes_of xs) ≡ all → onto (fs ++ ((16 * h + l) ∷ [])) (bytes_of rest) ≡ all
byte_more xs pair rest fs all h l e n high low before =
    let b = onto_paired fs h l (bytes_of rest) in
    let t = pair_write xs pair rest e n in
    cc

-- two digits a byte
paired-length : (h l : Option ℕ) (r : Option (List ℕ)) (n : ℕ) (bs : List ℕ) → ((cs : List ℕ) → r ≡ Some cs → n ≡ 2 * length cs) → paired h l r ≡ Some bs → n + 2 ≡ 2 * length bs
paired-length None l r n bs f e = cc
paired-length (Some h) None r n bs f e = cc
paired-length (Some h) (Some l) None n bs f e = absurd cc
paired-length (Some h) (Some l) (Some cs) n bs f e =
    let a : (16 * h + l) ∷ cs ≡ bs = cc in
    let b : n ≡ 2 * length cs = f cs refl in
    let d : length ((16 * h + l) ∷ cs) ≡ length bs = ap length a in
    omega arith

pub bytes_of-length : (ds bs : List ℕ) → bytes_of ds ≡ Some bs → length ds ≡ 2 * length bs
bytes_of-length [] bs e = let a : [] ≡ bs = cc in let b : length {A = ℕ} [] ≡ length bs = ap length a in omega arith
bytes_of-length (h ∷ []) bs e = absurd cc
bytes_of-length (h ∷ l ∷ ds) bs e =
    let a : length ds + 2 ≡ 2 * length bs = paired-length (digit_value h) (digit_value l) (bytes_of ds) (length ds) bs (bytes_of-length ds) e in
    omega arith

pub bounded-none : (o : Option (List ℕ)) → ((bs : List ℕ) → o ≡ Some bs → 2 ≤ length bs → length bs ≤ 24 → ⊥) → bounded o ≡ None
bounded-none None f = refl
bounded-none (Some bs) f =
    cond_both (leb 2 (length bs) && leb (length bs) 24) (Some bs) None (λ o. o ≡ None)
    (λ t. let p = and_parts (leb 2 (length bs)) (leb (length bs) 24) t in absurd (f bs refl (leb-true 2 (length bs) p.0) (leb-true (length bs) 24 p.1)))
    (λ _. refl)

pub bounded-some : (bs : List ℕ) → 2 ≤ length bs → length bs ≤ 24 → bounded (Some bs) ≡ Some bs
bounded-some bs a b = cond-true _ _ _ (and_from (leb 2 (length bs)) (leb (length bs) 24) (le-leb 2 (length bs) a) (le-leb (length bs) 24 b))
