-- A rule for every byte is one computed test over the numbers below 256. Assumes nothing.
use mathlib.Core.Path.{◌≡◌, refl, sym, ap, ◌∙◌, subst}
use mathlib.Core.Bool.{Bool, true, false, ◌&&◌}
use mathlib.Core.List.{List, [], ◌∷◌}
use mathlib.Core.Logic.{◌⊎◌, inl, inr}
use Prim.Native.Nat.{ℕ, zero, suc, ◌/◌, ◌%◌, ◌^◌, ◌<◌}
use native.Mathlib.Nat.{not-suc-le-zero, eq-or-lt_of_le, le_of_suc-le-suc}
use lib.Dec.{T, eqb, ltb, eqb→eq, ltb→lt}
use lib.ListN.{get_or}
use Rattle.fips197.specs.Aes.{xtime, product, inverse, affine, inv_affine, sbox, inv_sbox}
use Rattle.fips197.proofs.Linear.{both_left, both_right}

-- the test holds at each number below n
abbrev pub below : (ℕ → Bool) → ℕ → Bool
below f zero = true
below f (suc n) = ◌&&◌ (f n) (below f n)

pub below_at : (f : ℕ → Bool) (n : ℕ) → T (below f n) → (x : ℕ) → x < n → T (f x)
below_at f zero t x h = absurd (not-suc-le-zero h)
below_at f (suc n) t x h = pick (below_at f n (both_right (f n) (below f n) t) x) (eq-or-lt_of_le (le_of_suc-le-suc h))
  where
    pick : (x < n → T (f x)) → ((x ≡ n) ⊎ (x < n)) → T (f x)
    pick ih (inl e) = subst (λ (m : ℕ). T (f m)) (sym e) (both_left (f n) (below f n) t)
    pick ih (inr l) = ih l

-- ---- 4.2: the inverses of the bytes 16 * i to 16 * i + 15 in row i: a look-up, where `inverse` computes eleven products
unfoldable pub inverses : List (List ℕ)
inverses =
    (0x00 ∷ 0x01 ∷ 0x8d ∷ 0xf6 ∷ 0xcb ∷ 0x52 ∷ 0x7b ∷ 0xd1 ∷ 0xe8 ∷ 0x4f ∷ 0x29 ∷ 0xc0 ∷ 0xb0 ∷ 0xe1 ∷ 0xe5 ∷ 0xc7 ∷ []) ∷
    (0x74 ∷ 0xb4 ∷ 0xaa ∷ 0x4b ∷ 0x99 ∷ 0x2b ∷ 0x60 ∷ 0x5f ∷ 0x58 ∷ 0x3f ∷ 0xfd ∷ 0xcc ∷ 0xff ∷ 0x40 ∷ 0xee ∷ 0xb2 ∷ []) ∷
    (0x3a ∷ 0x6e ∷ 0x5a ∷ 0xf1 ∷ 0x55 ∷ 0x4d ∷ 0xa8 ∷ 0xc9 ∷ 0xc1 ∷ 0x0a ∷ 0x98 ∷ 0x15 ∷ 0x30 ∷ 0x44 ∷ 0xa2 ∷ 0xc2 ∷ []) ∷
    (0x2c ∷ 0x45 ∷ 0x92 ∷ 0x6c ∷ 0xf3 ∷ 0x39 ∷ 0x66 ∷ 0x42 ∷ 0xf2 ∷ 0x35 ∷ 0x20 ∷ 0x6f ∷ 0x77 ∷ 0xbb ∷ 0x59 ∷ 0x19 ∷ []) ∷
    (0x1d ∷ 0xfe ∷ 0x37 ∷ 0x67 ∷ 0x2d ∷ 0x31 ∷ 0xf5 ∷ 0x69 ∷ 0xa7 ∷ 0x64 ∷ 0xab ∷ 0x13 ∷ 0x54 ∷ 0x25 ∷ 0xe9 ∷ 0x09 ∷ []) ∷
    (0xed ∷ 0x5c ∷ 0x05 ∷ 0xca ∷ 0x4c ∷ 0x24 ∷ 0x87 ∷ 0xbf ∷ 0x18 ∷ 0x3e ∷ 0x22 ∷ 0xf0 ∷ 0x51 ∷ 0xec ∷ 0x61 ∷ 0x17 ∷ []) ∷
    (0x16 ∷ 0x5e ∷ 0xaf ∷ 0xd3 ∷ 0x49 ∷ 0xa6 ∷ 0x36 ∷ 0x43 ∷ 0xf4 ∷ 0x47 ∷ 0x91 ∷ 0xdf ∷ 0x33 ∷ 0x93 ∷ 0x21 ∷ 0x3b ∷ []) ∷
    (0x79 ∷ 0xb7 ∷ 0x97 ∷ 0x85 ∷ 0x10 ∷ 0xb5 ∷ 0xba ∷ 0x3c ∷ 0xb6 ∷ 0x70 ∷ 0xd0 ∷ 0x06 ∷ 0xa1 ∷ 0xfa ∷ 0x81 ∷ 0x82 ∷ []) ∷
    (0x83 ∷ 0x7e ∷ 0x7f ∷ 0x80 ∷ 0x96 ∷ 0x73 ∷ 0xbe ∷ 0x56 ∷ 0x9b ∷ 0x9e ∷ 0x95 ∷ 0xd9 ∷ 0xf7 ∷ 0x02 ∷ 0xb9 ∷ 0xa4 ∷ []) ∷
    (0xde ∷ 0x6a ∷ 0x32 ∷ 0x6d ∷ 0xd8 ∷ 0x8a ∷ 0x84 ∷ 0x72 ∷ 0x2a ∷ 0x14 ∷ 0x9f ∷ 0x88 ∷ 0xf9 ∷ 0xdc ∷ 0x89 ∷ 0x9a ∷ []) ∷
    (0xfb ∷ 0x7c ∷ 0x2e ∷ 0xc3 ∷ 0x8f ∷ 0xb8 ∷ 0x65 ∷ 0x48 ∷ 0x26 ∷ 0xc8 ∷ 0x12 ∷ 0x4a ∷ 0xce ∷ 0xe7 ∷ 0xd2 ∷ 0x62 ∷ []) ∷
    (0x0c ∷ 0xe0 ∷ 0x1f ∷ 0xef ∷ 0x11 ∷ 0x75 ∷ 0x78 ∷ 0x71 ∷ 0xa5 ∷ 0x8e ∷ 0x76 ∷ 0x3d ∷ 0xbd ∷ 0xbc ∷ 0x86 ∷ 0x57 ∷ []) ∷
    (0x0b ∷ 0x28 ∷ 0x2f ∷ 0xa3 ∷ 0xda ∷ 0xd4 ∷ 0xe4 ∷ 0x0f ∷ 0xa9 ∷ 0x27 ∷ 0x53 ∷ 0x04 ∷ 0x1b ∷ 0xfc ∷ 0xac ∷ 0xe6 ∷ []) ∷
    (0x7a ∷ 0x07 ∷ 0xae ∷ 0x63 ∷ 0xc5 ∷ 0xdb ∷ 0xe2 ∷ 0xea ∷ 0x94 ∷ 0x8b ∷ 0xc4 ∷ 0xd5 ∷ 0x9d ∷ 0xf8 ∷ 0x90 ∷ 0x6b ∷ []) ∷
    (0xb1 ∷ 0x0d ∷ 0xd6 ∷ 0xeb ∷ 0xc6 ∷ 0x0e ∷ 0xcf ∷ 0xad ∷ 0x08 ∷ 0x4e ∷ 0xd7 ∷ 0xe3 ∷ 0x5d ∷ 0x50 ∷ 0x1e ∷ 0xb3 ∷ []) ∷
    (0x5b ∷ 0x23 ∷ 0x38 ∷ 0x34 ∷ 0x68 ∷ 0x46 ∷ 0x03 ∷ 0x8c ∷ 0xdd ∷ 0x9c ∷ 0x7d ∷ 0xa0 ∷ 0xcd ∷ 0x1a ∷ 0x41 ∷ 0x1c ∷ []) ∷
    []

unfoldable pub looked : ℕ → ℕ
looked x = get_or (get_or inverses (x / 16) []) (x % 16) 0

-- the one test that computes inverses
all_looked : T (below (λ x. eqb (inverse x) (looked x)) 256)
unfolding inverse product xtime looked inverses
all_looked = tt

pub inverse_at : (x : ℕ) → x < 2 ^ 8 → inverse x ≡ looked x
inverse_at x h = eqb→eq (inverse x) (looked x) (below_at (λ x. eqb (inverse x) (looked x)) 256 all_looked x h)

-- ---- what is known of a byte's inverse: a byte, undone by itself, and of product {01} but for {00}
abbrev either : Bool → Bool → Bool
either true b = true
either false b = b

abbrev inverted : ℕ → ℕ → Bool
inverted x y = ◌&&◌ (ltb y 256) (◌&&◌ (eqb (looked y) x) (either (eqb x 0) (eqb (product x y) 1)))

all_inverted : T (below (λ x. let y = looked x in inverted x y) 256)
unfolding product xtime looked inverses
all_inverted = tt

module _ (x : ℕ) (h : x < 2 ^ 8) where
  inverted_at : T (inverted x (looked x))
  inverted_at = below_at (λ x. let y = looked x in inverted x y) 256 all_inverted x h

  looked_lt : looked x < 2 ^ 8
  looked_lt = ltb→lt (looked x) 256 (both_left (ltb (looked x) 256) _ inverted_at)

  pub inverse_lt : inverse x < 2 ^ 8
  inverse_lt = subst (λ (y : ℕ). y < 2 ^ 8) (sym (inverse_at x h)) looked_lt

  pub inverse_inverse : inverse (inverse x) ≡ x
  inverse_inverse =
      ap inverse (inverse_at x h)
      ∙ inverse_at (looked x) looked_lt
      ∙ eqb→eq (looked (looked x)) x (both_left (eqb (looked (looked x)) x) _ (both_right (ltb (looked x) 256) _ inverted_at))

  pub product_inverse : (x ≡ 0 → ⊥) → product x (inverse x) ≡ 1
  product_inverse n =
      ap (product x) (inverse_at x h)
      ∙ go (eqb x 0) (eqb→eq x 0) (both_right (eqb (looked (looked x)) x) _ (both_right (ltb (looked x) 256) _ inverted_at))
    where
      go : (b : Bool) → (T b → x ≡ 0) → T (either b (eqb (product x (looked x)) 1)) → product x (looked x) ≡ 1
      go true e u = absurd (n (e tt))
      go false e u = eqb→eq (product x (looked x)) 1 u

pub inverse_zero : inverse 0 ≡ 0
unfolding inverse product xtime
inverse_zero = refl

-- ---- the affine map and its inverse
abbrev mapped : ℕ → Bool
mapped x = ◌&&◌ (◌&&◌ (ltb (affine x) 256) (ltb (inv_affine x) 256)) (◌&&◌ (eqb (inv_affine (affine x)) x) (eqb (affine (inv_affine x)) x))

all_mapped : T (below mapped 256)
unfolding affine inv_affine
all_mapped = tt

module _ (x : ℕ) (h : x < 2 ^ 8) where
  both_bytes : T (◌&&◌ (ltb (affine x) 256) (ltb (inv_affine x) 256))
  both_bytes = both_left (◌&&◌ (ltb (affine x) 256) (ltb (inv_affine x) 256)) _ (below_at mapped 256 all_mapped x h)

  both_undone : T (◌&&◌ (eqb (inv_affine (affine x)) x) (eqb (affine (inv_affine x)) x))
  both_undone = both_right (◌&&◌ (ltb (affine x) 256) (ltb (inv_affine x) 256)) _ (below_at mapped 256 all_mapped x h)

  affine_lt : affine x < 2 ^ 8
  affine_lt = ltb→lt (affine x) 256 (both_left (ltb (affine x) 256) _ both_bytes)

  inv_affine_lt : inv_affine x < 2 ^ 8
  inv_affine_lt = ltb→lt (inv_affine x) 256 (both_right (ltb (affine x) 256) _ both_bytes)

  inv_affine_affine : inv_affine (affine x) ≡ x
  inv_affine_affine = eqb→eq (inv_affine (affine x)) x (both_left (eqb (inv_affine (affine x)) x) _ both_undone)

  affine_inv_affine : affine (inv_affine x) ≡ x
  affine_inv_affine = eqb→eq (affine (inv_affine x)) x (both_right (eqb (inv_affine (affine x)) x) _ both_undone)

-- ---- the S-box and its inverse, by the table
pub sbox_at : (x : ℕ) → x < 2 ^ 8 → sbox x ≡ affine (looked x)
unfolding sbox
sbox_at x h = ap affine (inverse_at x h)

pub inv_sbox_at : (x : ℕ) → x < 2 ^ 8 → inv_sbox x ≡ looked (inv_affine x)
unfolding inv_sbox
inv_sbox_at x h = inverse_at (inv_affine x) (inv_affine_lt x h)

-- ---- they give bytes, and each undoes the other
pub sbox_lt : (x : ℕ) → x < 2 ^ 8 → sbox x < 2 ^ 8
unfolding sbox
sbox_lt x h = affine_lt (inverse x) (inverse_lt x h)

pub inv_sbox_lt : (x : ℕ) → x < 2 ^ 8 → inv_sbox x < 2 ^ 8
unfolding inv_sbox
inv_sbox_lt x h = inverse_lt (inv_affine x) (inv_affine_lt x h)

pub inv_sbox_sbox : (x : ℕ) → x < 2 ^ 8 → inv_sbox (sbox x) ≡ x
unfolding sbox inv_sbox
inv_sbox_sbox x h = ap inverse (inv_affine_affine (inverse x) (inverse_lt x h)) ∙ inverse_inverse x h

pub sbox_inv_sbox : (x : ℕ) → x < 2 ^ 8 → sbox (inv_sbox x) ≡ x
unfolding sbox inv_sbox
sbox_inv_sbox x h = ap affine (inverse_inverse (inv_affine x) (inv_affine_lt x h)) ∙ affine_inv_affine x h
