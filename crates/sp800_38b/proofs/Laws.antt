-- Blocks stay blocks, doubling is one-to-one, and what subkeys and a tag are made of. Assumes nothing.
use mathlib.Core.Path.{◌≡◌, refl, sym, ◌∙◌, ap, ap₂}
use mathlib.Core.Bool.{Bool, true, false, cond}
use mathlib.Core.List.{List, [], ◌∷◌}
use Prim.Native.Nat.{ℕ, zero, suc, ◌+◌, ◌*◌, ◌/◌, ◌%◌, ◌<◌}
use native.Mathlib.Omega.{arith}
use borrow.Author.Tests.{eqb-true, eqb-false}
use lib.Bits.{bit_xor, xor_lt, xor_self, xor_zero_r, xor_mod}
use lib.Dec.{eqb}
use lib.ListN.{length, get_or, drop, get_or-eq_default}
use Rattle.fips197.specs.Bytes.{Fit, Block}
use Rattle.fips197.specs.Aes.{bit}
use Rattle.fips197.proofs.Bits.{bit_lt, xor_assoc}
use Rattle.fips197.proofs.Blocks.{fit_nil, fit_cons, fit_tail, fit_test, chosen}
use Rattle.sp800_38b.specs.Cmac.{zeros, xors, msb1, shift_left, r128, double, subkey1, subkey2, cmac_of_block}

-- ---- XOR
pub xors_length : (xs ys : List ℕ) → length xs ≡ length ys → length (xors xs ys) ≡ length xs
unfolding xors
xors_length [] ys e = refl
xors_length (x ∷ xs) [] e = absurd (omega arith)
xors_length (x ∷ xs) (y ∷ ys) e = ap suc (xors_length xs ys (omega arith))

pub xors_fit : {W : ℕ} (xs ys : List ℕ) → Fit W xs → Fit W ys → Fit W (xors xs ys)
unfolding xors
xors_fit {W} [] ys f g = fit_nil W
xors_fit {W} (x ∷ xs) [] f g = fit_nil W
xors_fit {W} (x ∷ xs) (y ∷ ys) f g = fit_cons (bit_xor x y) (xor_lt W x y (f.at 0) (g.at 0)) (xors_fit xs ys (fit_tail f) (fit_tail g))

-- with the same string again, and with zeros
pub xors_again : (xs ys : List ℕ) → length xs ≡ length ys → xors (xors xs ys) ys ≡ xs
unfolding xors
xors_again [] ys e = refl
xors_again (x ∷ xs) [] e = absurd (omega arith)
xors_again (x ∷ xs) (y ∷ ys) e = ap₂ ◌∷◌ (xor_assoc x y y ∙ ap (bit_xor x) (xor_self y) ∙ xor_zero_r x) (xors_again xs ys (omega arith))

pub xors_zeros : (n : ℕ) (xs : List ℕ) → length xs ≡ n → xors xs (zeros n) ≡ xs
unfolding xors
xors_zeros n [] e = refl
xors_zeros zero (x ∷ xs) e = absurd (omega arith)
xors_zeros (suc n) (x ∷ xs) e = ap₂ ◌∷◌ (xor_zero_r x) (xors_zeros n xs (omega arith))

xors_at : (n : ℕ) (xs ys : List ℕ) → n < length xs → length xs ≡ length ys → get_or (xors xs ys) n 0 ≡ bit_xor (get_or xs n 0) (get_or ys n 0)
unfolding xors
xors_at n [] ys h e = absurd (omega arith)
xors_at n (x ∷ xs) [] h e = absurd (omega arith)
xors_at zero (x ∷ xs) (y ∷ ys) h e = refl
xors_at (suc n) (x ∷ xs) (y ∷ ys) h e = xors_at n xs ys (omega arith) (omega arith)

-- ---- the shift
shift_length : (xs : List ℕ) → length (shift_left xs) ≡ length xs
unfolding shift_left
shift_length [] = refl
shift_length (x ∷ xs) = ap suc (shift_length xs)

shift_fit : (xs : List ℕ) → Fit 8 (shift_left xs)
unfolding shift_left
shift_fit [] = fit_nil 8
shift_fit (x ∷ xs) = fit_cons (x * 2 % 256 + msb1 xs) (omega (arith, bit_lt 7 (get_or xs 0 0))) (shift_fit xs)

shift_at : (n : ℕ) (xs : List ℕ) → n < length xs → get_or (shift_left xs) n 0 ≡ get_or xs n 0 * 2 % 256 + bit 7 (get_or xs (suc n) 0)
unfolding shift_left
shift_at n [] h = absurd (omega arith)
shift_at zero (x ∷ xs) h = refl
shift_at (suc n) (x ∷ xs) h = shift_at n xs (omega arith)

-- a byte is its first bit and what the shift leaves of it
halves : (x : ℕ) → x < 256 → x ≡ bit 7 x * 128 + x * 2 % 256 / 2
halves x h =
    let first : bit 7 x ≡ x / 128 = omega arith in
    let lost : x * 2 / 256 ≡ x / 128 = omega arith in
    omega (arith, first, lost)

-- so the shift loses the first bit only
shift_one : (xs ys : List ℕ) → Fit 8 xs → Fit 8 ys → length xs ≡ length ys → msb1 xs ≡ msb1 ys → shift_left xs ≡ shift_left ys → xs ≡ ys
unfolding shift_left
shift_one [] [] f g l m e = refl
shift_one [] (y ∷ ys) f g l m e = absurd (omega arith)
shift_one (x ∷ xs) [] f g l m e = absurd (omega arith)
shift_one (x ∷ xs) (y ∷ ys) f g l m e =
    let p = bit_lt 7 (get_or xs 0 0) in
    let q = bit_lt 7 (get_or ys 0 0) in
    let h : x * 2 % 256 + msb1 xs ≡ y * 2 % 256 + msb1 ys = ap (λ (t : List ℕ). get_or t 0 0) e in
    let n : msb1 xs ≡ msb1 ys = omega (arith, h, p, q) in
    let same : x * 2 % 256 ≡ y * 2 % 256 = omega (arith, h, n) in
    ap₂ ◌∷◌ (halves x (f.at 0) ∙ ap₂ (λ (a b : ℕ). a * 128 + b / 2) m same ∙ sym (halves y (g.at 0)))
    (shift_one xs ys (fit_tail f) (fit_tail g) (omega arith) n (ap (drop 1) e))

-- ---- doubling
r128_block : Block r128
unfolding r128
r128_block = record { long = refl; bytes = fit_test 8 r128 tt }

-- what it does where the first bit is 0 (true), and where it is not
abbrev pub double_where : Bool → List ℕ → List ℕ
double_where t x = cond t (shift_left x) (xors (shift_left x) r128)

module _ {x : List ℕ} (b : Block x) where
  shift_block : Block (shift_left x)
  shift_block = record { long = shift_length x ∙ b.long; bytes = shift_fit x }

  same_long : length (shift_left x) ≡ length r128
  same_long = shift_block.long ∙ sym r128_block.long

  pub double_block : Block (double x)
  unfolding double
  double_block = chosen Block (eqb (msb1 x) 0) shift_block
      (record { long = xors_length (shift_left x) r128 same_long ∙ shift_block.long; bytes = xors_fit (shift_left x) r128 (shift_fit x) r128_block.bytes })

  -- its last bit is the first bit of x: the shift leaves a 0 there, and R_128 has a 1
  shift_last : get_or (shift_left x) 15 0 % 2 ≡ 0
  shift_last =
      let after : get_or x 16 0 ≡ 0 = get_or-eq_default x 0 (omega (arith, b.long)) in
      omega (arith, shift_at 15 x (omega (arith, b.long)), after)

  double_last : get_or (double x) 15 0 % 2 ≡ msb1 x
  unfolding double r128
  double_last = go (eqb (msb1 x) 0) refl
    where
      go : (t : Bool) → eqb (msb1 x) 0 ≡ t → get_or (double_where t x) 15 0 % 2 ≡ msb1 x
      go true e = shift_last ∙ sym (eqb-true (msb1 x) 0 e)
      go false e =
          ap (λ (n : ℕ). n % 2) (xors_at 15 (shift_left x) r128 (omega (arith, shift_block.long)) same_long)
          ∙ xor_mod (get_or (shift_left x) 15 0) 0x87 1
          ∙ ap (λ (n : ℕ). bit_xor n 1) shift_last
          ∙ omega (arith, bit_lt 7 (get_or x 0 0), eqb-false (msb1 x) 0 e)

-- so two blocks that are doubled alike were doubled in the same way
pub double_one_to_one : {x y : List ℕ} → Block x → Block y → double x ≡ double y → x ≡ y
unfolding double
double_one_to_one {x} {y} b c e =
    shift_one x y b.bytes c.bytes (b.long ∙ sym c.long) same (go (eqb (msb1 x) 0) (e ∙ ap (λ (n : ℕ). double_where (eqb n 0) y) (sym same)))
  where
    same : msb1 x ≡ msb1 y
    same = sym (double_last b) ∙ ap (λ (l : List ℕ). get_or l 15 0 % 2) e ∙ double_last c

    go : (t : Bool) → double_where t x ≡ double_where t y → shift_left x ≡ shift_left y
    go true p = p
    go false p =
        sym (xors_again (shift_left x) r128 (same_long b))
        ∙ ap (λ (l : List ℕ). xors l r128) p
        ∙ xors_again (shift_left y) r128 (same_long c)

-- ---- subkeys and a tag, step by step
module _ (ciph : List ℕ → List ℕ) where
  pub subkeys_are : {l k1 k2 : List ℕ} → l ≡ ciph (zeros 16) → k1 ≡ double l → k2 ≡ double k1 → (k1 ≡ subkey1 ciph) × (k2 ≡ subkey2 ciph)
  unfolding subkey1 subkey2
  subkeys_are e f g = (f ∙ ap double e, g ∙ ap double (f ∙ ap double e))

  pub tag_is : (m : List ℕ) {k1 x t : List ℕ} → k1 ≡ subkey1 ciph → x ≡ xors k1 m → t ≡ ciph x → t ≡ cmac_of_block ciph m
  unfolding cmac_of_block
  tag_is m e f g = g ∙ ap ciph (f ∙ ap (λ (k : List ℕ). xors k m) e)

  -- of zeros it is K1 encrypted
  pub tag_of_zeros : Block (ciph (zeros 16)) → cmac_of_block ciph (zeros 16) ≡ ciph (double (ciph (zeros 16)))
  unfolding cmac_of_block subkey1
  tag_of_zeros b = ap ciph (xors_zeros 16 (double (ciph (zeros 16))) (double_block b).long)
