-- The bytes of a key joined by OR: the sum is zero exactly where all that was joined is. Assumes nothing.
use mathlib.Core.Path.{◌≡◌, refl, sym, ◌∙◌, ap}
use mathlib.Core.Bool.{Bool, ◌&&◌, and_assoc, and-true}
use mathlib.Core.List.{List}
use Prim.Native.Nat.{ℕ, zero, suc, ◌+◌, ◌≤◌, ◌<◌}
use native.Mathlib.Numerals.{add-one}
use native.Mathlib.Omega.{arith}
use borrow.Author.Tests.{ne_eqb}
use lib.Bits.{bit_or, or_add_and, and_le_r}
use lib.Dec.{eqb}
use lib.ListN.{length, get_or, drop, drop_of_length-le}
use lib.Seq.{drop-cons}
use Rattle.calls.specs.Calls.{zero_key}

-- two numbers
or_zero : (a b : ℕ) → eqb (bit_or a b) 0 ≡ (eqb a 0 && eqb b 0)
or_zero zero b = refl
or_zero (suc a) b =
    let s = or_add_and (suc a) b in
    let l = and_le_r (suc a) b in
    ne_eqb (bit_or (suc a) b) 0 (λ e. omega (arith, s, l, e)) ∙ sym (ap (λ (t : Bool). t && eqb b 0) (ne_eqb (suc a) 0 (λ e. omega arith)))

-- with the first i bytes joined to j
pub record Joined (key : List ℕ) (i j : ℕ) : Type 0 where
  pub so_far : zero_key key ≡ (eqb j 0 && zero_key (drop i key))

pub joined_none : (key : List ℕ) → Joined key 0 0
joined_none key = record { so_far = refl }

pub joined_more : (key : List ℕ) (i j : ℕ) → i < length key → Joined key i j → Joined key (i + 1) (bit_or j (get_or key i 0))
unfolding zero_key
joined_more key i j h e = record {
  so_far = e.so_far
      ∙ ap (λ (l : List ℕ). eqb j 0 && zero_key l) (drop-cons key i 0 h)
      ∙ sym (and_assoc (eqb j 0) (eqb (get_or key i 0) 0) (zero_key (drop (suc i) key)))
      ∙ ap (λ (t : Bool). t && zero_key (drop (suc i) key)) (sym (or_zero j (get_or key i 0)))
      ∙ ap (λ (n : ℕ). eqb (bit_or j (get_or key i 0)) 0 && zero_key (drop n key)) (sym (add-one i));
}

pub joined_all : (key : List ℕ) (i j : ℕ) → length key ≤ i → Joined key i j → eqb j 0 ≡ zero_key key
unfolding zero_key
joined_all key i j h e = sym (e.so_far ∙ ap (λ (l : List ℕ). eqb j 0 && zero_key l) (drop_of_length-le key h) ∙ and-true (eqb j 0))
