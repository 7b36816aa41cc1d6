-- A block as a number, the first byte the highest: twice that number is the block shifted; and what is XORed into the last byte. Assumes nothing.
use mathlib.Core.Path.{◌≡◌, refl, sym, ◌∙◌, ap, ap₂}
use mathlib.Core.List.{List, [], ◌∷◌, ◌++◌}
use Prim.Native.Nat.{ℕ, zero, suc, ◌+◌, ◌-◌, ◌*◌, ◌/◌, ◌%◌, ◌^◌, ◌≤◌, ◌<◌}
use native.Mathlib.Nat as nat
use native.Mathlib.Omega.{arith}
use lib.Bits.{bit_xor, xor_zero_r}
use lib.Dec.{eqb, lit<}
use lib.ListN.{length, get_or, set}
use lib.Seq.{set-get_or}
use Rattle.std.specs.Int.{w128, byte_at, byte_worth, bytes_high_first, sum_through, from_be_bytes, to_be_bytes}
use Rattle.fips197.specs.Bytes.{Fit, Block}
use Rattle.fips197.proofs.Bits.{bit_cases, bit_lt}
use Rattle.sp800_38b.specs.Cmac.{zeros, xors, msb1, shift_left, r128, double}
use Rattle.sp800_38b.proofs.Laws.{double_where}

-- ---- a byte of a number, and its place in it
byte_is : (k n : ℕ) → byte_at k n ≡ n / 256 ^ k % 256
byte_is zero n = ap (λ (x : ℕ). x % 256) (sym (nat.div-one n))
byte_is (suc k) n = refl

worth_is : (k b : ℕ) → byte_worth k b ≡ b * 256 ^ k
worth_is zero b = omega arith
worth_is (suc k) b = refl

some : (k : ℕ) → 0 < 256 ^ k
some zero = lit< tt
some (suc k) = omega (arith, nat.pow-suc 256 k, some k)

-- the lowest k bytes go by nothing above them
low_bytes : (k n h : ℕ) → bytes_high_first k (n + h * 256 ^ k) ≡ bytes_high_first k n
low_bytes zero n h = refl
low_bytes (suc k) n h =
    let p = 256 ^ k in
    let e : n + h * 256 ^ suc k ≡ n + h * 256 * p = ap (λ (x : ℕ). n + h * x) (nat.pow-suc 256 k) ∙ omega arith in
    let d : (n + h * 256 * p) / p ≡ n / p + h * 256 = nat.add-mul-div_right n (h * 256) (some k) in
    ap (bytes_high_first (suc k)) e ∙ ap₂ ◌∷◌ (byte_is k (n + h * 256 * p) ∙ omega (arith, d) ∙ sym (byte_is k n)) (low_bytes k n (h * 256))

-- ---- a list of bytes as a number
abbrev pub worth : List ℕ → ℕ
worth [] = 0
worth (x ∷ xs) = x * 256 ^ length xs + worth xs

tail : {x : ℕ} {xs : List ℕ} → Fit 8 (x ∷ xs) → Fit 8 xs
tail f = record { at = λ i. f.at (suc i) }

worth_lt : (xs : List ℕ) → Fit 8 xs → worth xs < 256 ^ length xs
worth_lt [] f = lit< tt
worth_lt (x ∷ xs) f =
    let b : x < 256 = f.at 0 in
    let m : (x + 1) * 256 ^ length xs ≤ 256 * 256 ^ length xs = nat.mul-le-mul_right (256 ^ length xs) (omega arith) in
    omega (arith, worth_lt xs (tail f), nat.pow-suc 256 (length xs), nat.add-mul x 1 (256 ^ length xs), m)

-- twice it has the first bit above its bytes
carried : (xs : List ℕ) → Fit 8 xs → worth xs * 2 / 256 ^ length xs ≡ msb1 xs
carried [] f = refl
carried (x ∷ xs) f =
    let p = 256 ^ length xs in
    let v = worth xs in
    let b : x < 256 = f.at 0 in
    let d : (x * 2 * p + v * 2) / p ≡ x * 2 + v * 2 / p = nat.mul-add-div_right (some (length xs)) (x * 2) (v * 2) in
    let l : v * 2 / p < 2 = omega (arith, carried xs (tail f), bit_lt 7 (get_or xs 0 0)) in
    let e : (x * p + v) * 2 ≡ x * 2 * p + v * 2 = omega arith in
    ap₂ ◌/◌ e (nat.pow-suc 256 (length xs)) ∙ sym (nat.div-div-eq-div-mul (x * 2 * p + v * 2) p 256) ∙ omega (arith, d, l, b)

doubled_bytes : (xs : List ℕ) → Fit 8 xs → bytes_high_first (length xs) (worth xs * 2) ≡ shift_left xs
unfolding shift_left
doubled_bytes [] f = refl
doubled_bytes (x ∷ xs) f =
    let p = 256 ^ length xs in
    let v = worth xs in
    let d : (v * 2 + x * 2 * p) / p ≡ v * 2 / p + x * 2 = nat.add-mul-div_right (v * 2) (x * 2) (some (length xs)) in
    let e : (x * p + v) * 2 ≡ v * 2 + x * 2 * p = omega arith in
    ap (bytes_high_first (suc (length xs))) e
    ∙ ap₂ ◌∷◌ (byte_is (length xs) (v * 2 + x * 2 * p) ∙ omega (arith, d, carried xs (tail f), bit_lt 7 (get_or xs 0 0)))
    (low_bytes (length xs) (v * 2) (x * 2) ∙ doubled_bytes xs (tail f))

-- ---- the same by std's words
first_off : (f : ℕ → ℕ) (k : ℕ) → sum_through f (suc k) ≡ f 0 + sum_through (λ i. f (suc i)) k
first_off f zero = refl
first_off f (suc k) = omega (arith, first_off f k)

each_same : (f g : ℕ → ℕ) → ((i : ℕ) → f i ≡ g i) → (k : ℕ) → sum_through f k ≡ sum_through g k
each_same f g h zero = h 0
each_same f g h (suc k) = ap₂ ◌+◌ (each_same f g h k) (h (suc k))

summed : (x : ℕ) (xs : List ℕ) → sum_through (λ i. byte_worth (length xs - i) (get_or (x ∷ xs) i 0)) (length xs) ≡ worth (x ∷ xs)
summed x [] = omega arith
summed x (y ∷ xs) =
    first_off (λ i. byte_worth (length (y ∷ xs) - i) (get_or (x ∷ y ∷ xs) i 0)) (length xs)
    ∙ ap₂ ◌+◌ (ap (λ (n : ℕ). byte_worth n x) (nat.sub-zero (length (y ∷ xs))) ∙ worth_is (length (y ∷ xs)) x)
    (each_same (λ i. byte_worth (length (y ∷ xs) - suc i) (get_or (y ∷ xs) i 0)) (λ i. byte_worth (length xs - i) (get_or (y ∷ xs) i 0))
    (λ i. ap (λ (n : ℕ). byte_worth n (get_or (y ∷ xs) i 0)) (omega arith)) (length xs)
    ∙ summed y xs)

number_is : (xs : List ℕ) → length xs ≡ 16 → from_be_bytes w128 xs ≡ worth xs
number_is [] e = absurd (omega arith)
number_is (x ∷ xs) e =
    let n : length xs ≡ 15 = omega arith in
    ap (λ (n : ℕ). sum_through (λ i. byte_worth (n - i) (get_or (x ∷ xs) i 0)) n) (sym n) ∙ summed x xs

module _ {block : List ℕ} (b : Block block) where
  pub shifted_is : {n : ℕ} → n ≡ from_be_bytes w128 block → to_be_bytes w128 (n * 2 % 2 ^ 128) ≡ shift_left block
  shifted_is {n} e =
      let m = n * 2 in
      let p : 256 ^ 16 ≡ 2 ^ 128 = refl in
      let v : n ≡ worth block = e ∙ number_is block b.long in
      sym (low_bytes 16 (m % 2 ^ 128) (m / 2 ^ 128))
      ∙ ap (bytes_high_first 16) (omega (arith, p, nat.mod-add-div m (2 ^ 128)))
      ∙ ap₂ bytes_high_first (sym b.long) (ap (λ (x : ℕ). x * 2) v)
      ∙ doubled_bytes block b.bytes

-- 87 into the last byte, where the first bit is 1
last_xor : (l : List ℕ) (n c : ℕ) → length l ≡ suc n → xors l (zeros n ++ c ∷ []) ≡ set l n (bit_xor (get_or l n 0) c)
unfolding xors
last_xor [] n c e = absurd (omega arith)
last_xor (x ∷ []) zero c e = refl
last_xor (x ∷ y ∷ l) zero c e = absurd (omega arith)
last_xor (x ∷ l) (suc n) c e = ap₂ ◌∷◌ (xor_zero_r x) (last_xor l n c (omega arith))

pub doubled : {block : List ℕ} → Block block → {shifted : List ℕ} → length shifted ≡ 16 → shifted ≡ shift_left block
    → set shifted 15 (bit_xor (get_or shifted 15 0) (0x87 * (get_or block 0 0 / 128))) ≡ double block
unfolding double r128
doubled {block} b {shifted} room e =
    let byte : get_or block 0 0 < 256 = b.bytes.at 0 in
    let c = get_or block 0 0 / 128 in
    let out : c ≡ msb1 block = omega (arith, byte) in
    bit_cases (λ c. c ≡ msb1 block → set shifted 15 (bit_xor (get_or shifted 15 0) (0x87 * c)) ≡ double_where (eqb (msb1 block) 0) block)
    none one c (omega (arith, byte)) out
  where
    none : 0 ≡ msb1 block → set shifted 15 (bit_xor (get_or shifted 15 0) (0x87 * 0)) ≡ double_where (eqb (msb1 block) 0) block
    none z = ap (set shifted 15) (xor_zero_r (get_or shifted 15 0)) ∙ set-get_or shifted 15 0 ∙ e ∙ rw (sym z)

    one : 1 ≡ msb1 block → set shifted 15 (bit_xor (get_or shifted 15 0) (0x87 * 1)) ≡ double_where (eqb (msb1 block) 0) block
    one z = sym (last_xor shifted 15 0x87 room) ∙ ap (λ (l : List ℕ). xors l r128) e ∙ rw (sym z)
