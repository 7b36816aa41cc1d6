-- Two blocks XORed from their first byte on. Assumes nothing.
use mathlib.Core.Path.{◌≡◌, refl, sym, ◌∙◌, ap, ap₂}
use mathlib.Core.List.{List, [], ◌++◌, append-nil}
use Prim.Native.Nat.{ℕ, suc, ◌+◌, ◌≤◌, ◌<◌}
use native.Mathlib.Numerals.{add-one}
use native.Mathlib.Omega.{arith}
use lib.Bits.{bit_xor}
use lib.ListN.{length, get_or, take, drop, set, length-set, drop_of_length-le}
use lib.Seq.{drop-cons, drop-set-lt, take-suc-set, append_snoc, take_all}
use Rattle.sp800_38b.specs.Cmac.{xors}

-- the first n bytes are summed, and the sum of the rest is still to come
pub record Summed (x y sum : List ℕ) (n : ℕ) : Type 0 where
  pub room : length sum ≡ length y
  pub so_far : take n sum ++ xors (drop n sum) (drop n y) ≡ xors x y

pub summed_none : (x y : List ℕ) → length x ≡ length y → Summed x y x 0
summed_none x y e = record { room = e; so_far = refl }

pub summed_more : {x y sum : List ℕ} (n : ℕ) → n < length y → Summed x y sum n → Summed x y (set sum n (bit_xor (get_or sum n 0) (get_or y n 0))) (n + 1)
unfolding xors
summed_more {x} {y} {sum} n h s =
    let v = bit_xor (get_or sum n 0) (get_or y n 0) in
    let inside : n < length sum = omega (arith, s.room) in
    record {
      room = length-set sum n v ∙ s.room;
      so_far =
          ap (λ (m : ℕ). take m (set sum n v) ++ xors (drop m (set sum n v)) (drop m y)) (add-one n)
          ∙ ap₂ (λ (a b : List ℕ). a ++ xors b (drop (suc n) y)) (take-suc-set sum n v inside) (drop-set-lt (suc n) sum n v (omega arith))
          ∙ append_snoc (take n sum) v (xors (drop (suc n) sum) (drop (suc n) y))
          ∙ ap₂ (λ (a b : List ℕ). take n sum ++ xors a b) (sym (drop-cons sum n 0 inside)) (sym (drop-cons y n 0 h))
          ∙ s.so_far;
    }

pub summed_all : {x y sum : List ℕ} (n : ℕ) → length y ≤ n → Summed x y sum n → sum ≡ xors x y
unfolding xors
summed_all {x} {y} {sum} n h s =
    let none : drop n sum ≡ [] = drop_of_length-le sum {i = n} (omega (arith, s.room)) in
    sym (ap₂ (λ (a b : List ℕ). a ++ xors b (drop n y)) (take_all n sum (omega (arith, s.room))) none ∙ append-nil sum) ∙ s.so_far
