-- Laws of single bits: each operation on numbers is one on their bits, and numbers with the same bits are equal. Assumes nothing.
use mathlib.Core.Path.{◌≡◌, refl, sym, ap, ap₂, ◌∙◌}
use Prim.Native.Nat.{ℕ, zero, suc, ◌+◌, ◌-◌, ◌*◌, ◌/◌, ◌%◌, ◌^◌, ◌≤◌, ◌<◌}
use native.Mathlib.Nat.{lt_of_lt_of_le, zero-lt-suc, mod-lt, div-eq_of_lt, div-add-mod', div-one, not-suc-le-zero, le_of_suc-le-suc}
use native.Mathlib.Numerals.{one-add}
use native.Mathlib.Omega.{arith}
use lib.Arith.{bin_ind, digits_div, digits_mod}
use lib.Pow.{pow_mono, shr-shr, field, mod-mod-pow}
use lib.Bits.{bit_xor, bit_and, bit_or, xor_shr, xor_mod, and_shr, and_mod, or_shr, or_mod}
use Rattle.fips197.specs.Aes.{bit}

pub bit_lt : (k x : ℕ) → bit k x < 2
bit_lt k x = mod-lt (x / 2 ^ k) (zero-lt-suc 1)

pub xor_bit : (k a b : ℕ) → bit k (bit_xor a b) ≡ bit_xor (bit k a) (bit k b)
xor_bit k a b = ap (λ (x : ℕ). x % 2) (xor_shr a b k) ∙ xor_mod (a / 2 ^ k) (b / 2 ^ k) 1

pub and_bit : (k a b : ℕ) → bit k (bit_and a b) ≡ bit_and (bit k a) (bit k b)
and_bit k a b = ap (λ (x : ℕ). x % 2) (and_shr a b k) ∙ and_mod (a / 2 ^ k) (b / 2 ^ k) 1

pub or_bit : (k a b : ℕ) → bit k (bit_or a b) ≡ bit_or (bit k a) (bit k b)
or_bit k a b = ap (λ (x : ℕ). x % 2) (or_shr a b k) ∙ or_mod (a / 2 ^ k) (b / 2 ^ k) 1

pub bit_shr : (k x n : ℕ) → bit k (x / 2 ^ n) ≡ bit (n + k) x
bit_shr k x n = ap (λ (y : ℕ). y % 2) (shr-shr x n k)

pub bit_suc : (k x : ℕ) → bit (suc k) x ≡ bit k (x / 2)
bit_suc k x = ap (λ (y : ℕ). x / 2 ^ y % 2) (sym (one-add k)) ∙ sym (bit_shr k x 1)

pub bit_zero : (x : ℕ) → bit 0 x ≡ x % 2
bit_zero x = ap (λ (y : ℕ). y % 2) (div-one x)

-- numbers with the same bits are equal
ext_step : (n : ℕ) → ((y : ℕ) → ((k : ℕ) → bit k (n / 2) ≡ bit k y) → n / 2 ≡ y) → (y : ℕ) → ((k : ℕ) → bit k n ≡ bit k y) → n ≡ y
ext_step n ih y h =
    sym (div-add-mod' n 2)
    ∙ ap₂ (λ (p q : ℕ). p * 2 + q) (ih (y / 2) (λ k. sym (bit_suc k n) ∙ h (suc k) ∙ bit_suc k y)) (sym (bit_zero n) ∙ h 0 ∙ bit_zero y)
    ∙ div-add-mod' y 2

ext_zero : (y : ℕ) → ((k : ℕ) → bit k 0 ≡ bit k y) → 0 ≡ y
ext_zero = bin_ind (λ (y : ℕ). ((k : ℕ) → bit k 0 ≡ bit k y) → 0 ≡ y) (λ h. refl)
    (λ n ih h. ap₂ (λ (p q : ℕ). p * 2 + q) (ih (λ k. sym (bit_suc k 0) ∙ h (suc k) ∙ bit_suc k n)) (h 0 ∙ bit_zero n) ∙ div-add-mod' n 2)

pub bits_ext : (x y : ℕ) → ((k : ℕ) → bit k x ≡ bit k y) → x ≡ y
bits_ext x = bin_ind (λ (n : ℕ). (y : ℕ) → ((k : ℕ) → bit k n ≡ bit k y) → n ≡ y) ext_zero ext_step x

-- the low bits, and what lies above them
pub bit_low : (k W y : ℕ) → k < W → bit k (y % 2 ^ W) ≡ bit k y
bit_low k W y h =
    ap (λ (n : ℕ). bit k (y % 2 ^ n)) (width k W h)
    ∙ ap (λ (n : ℕ). n % 2) (field y (W - suc k + 1) k)
    ∙ mod-mod-pow (y / 2 ^ k) (W - suc k) 1
  where
    width : (k W : ℕ) → k < W → W ≡ W - suc k + 1 + k
    width k W h = omega arith

pub bit_above : (k W x : ℕ) → x < 2 ^ W → W ≤ k → bit k x ≡ 0
bit_above k W x hx h = ap (λ (y : ℕ). y % 2) (div-eq_of_lt (lt_of_lt_of_le hx (pow_mono h)))

-- what holds of 0 and of 1 holds of a bit
pub bit_cases : (P : ℕ → Type 0) → P 0 → P 1 → (x : ℕ) → x < 2 → P x
bit_cases P p q zero h = p
bit_cases P p q (suc zero) h = q
bit_cases P p q (suc (suc x)) h = absurd (not-suc-le-zero (le_of_suc-le-suc (le_of_suc-le-suc h)))

assoc_bits : (x y z : ℕ) → x < 2 → y < 2 → z < 2 → bit_xor (bit_xor x y) z ≡ bit_xor x (bit_xor y z)
assoc_bits x y z hx hy hz =
    bit_cases (λ (x : ℕ). bit_xor (bit_xor x y) z ≡ bit_xor x (bit_xor y z)) refl
    (bit_cases (λ (y : ℕ). bit_xor (bit_xor 1 y) z ≡ bit_xor 1 (bit_xor y z)) refl
    (bit_cases (λ (z : ℕ). bit_xor (bit_xor 1 1) z ≡ bit_xor 1 (bit_xor 1 z)) refl refl z hz) y hy) x hx

-- xor is associative
pub xor_assoc : (a b c : ℕ) → bit_xor (bit_xor a b) c ≡ bit_xor a (bit_xor b c)
xor_assoc a b c = bits_ext (bit_xor (bit_xor a b) c) (bit_xor a (bit_xor b c)) (λ k.
    xor_bit k (bit_xor a b) c
    ∙ ap (λ (x : ℕ). bit_xor x (bit k c)) (xor_bit k a b)
    ∙ assoc_bits (bit k a) (bit k b) (bit k c) (bit_lt k a) (bit_lt k b) (bit_lt k c)
    ∙ ap (bit_xor (bit k a)) (sym (xor_bit k b c))
    ∙ sym (xor_bit k a (bit_xor b c)))

-- a bit of a number that is given by its digits
pub bit_cons_zero : (n b : ℕ) → b < 2 → bit 0 (n * 2 + b) ≡ b
bit_cons_zero n b h = bit_zero (n * 2 + b) ∙ digits_mod n h

pub bit_cons_suc : (k n b : ℕ) → b < 2 → bit (suc k) (n * 2 + b) ≡ bit k n
bit_cons_suc k n b h = bit_suc k (n * 2 + b) ∙ ap (bit k) (digits_div n h)
