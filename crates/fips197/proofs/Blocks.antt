-- Blocks stay blocks: sixteen long, and bytes. Assumes nothing.
use mathlib.Core.Path.{◌≡◌, refl, ap, ◌∙◌}
use mathlib.Core.List.{List, [], ◌∷◌, ◌++◌, map}
use Prim.Native.Nat.{ℕ, zero, suc, ◌+◌, ◌-◌, ◌*◌, ◌/◌, ◌%◌, ◌^◌, ◌≤◌, ◌<◌}
use native.Mathlib.Omega.{arith}
use mathlib.Core.Bool.{Bool, true, false, ◌&&◌, cond}
use lib.Dec.{T, eqb, ltb, ltb→lt}
use lib.Pow.{pow_pos}
use lib.Bits.{bit_xor, xor_lt}
use lib.ListN.{get_or, take, drop, length, length-map}
use lib.Seq.{take_all, drop-cons}
use Rattle.fips197.specs.Bytes.{Fit, Block}
use Rattle.fips197.specs.Aes.{bit, range, block, cell, xtime, bits_of, sum_where, product, sbox, inv_sbox, sub_bytes, inv_sub_bytes}
use Rattle.fips197.specs.Aes.{shift_rows, inv_shift_rows, mix_columns, inv_mix_columns, add_round_key}
use Rattle.fips197.proofs.Bits.{bit_lt}
use Rattle.fips197.proofs.Linear.{both_left, both_right}
use Rattle.fips197.proofs.Tables.{sbox_lt, inv_sbox_lt}

-- ---- a list by its elements
abbrev pub reads : ℕ → ℕ → List ℕ → List ℕ
reads i zero l = []
reads i (suc n) l = get_or l i 0 ∷ reads (suc i) n l

pub reads_part : (l : List ℕ) (n i : ℕ) → i + n ≤ length l → reads i n l ≡ take n (drop i l)
reads_part l zero i h = refl
reads_part l (suc n) i h =
    let k : i < length l = omega arith in
    rw (drop-cons l i 0) (ap (λ (t : List ℕ). get_or l i 0 ∷ t) (reads_part l n (suc i) (omega arith)))

pub reads_all : (l : List ℕ) (n : ℕ) → length l ≡ n → reads 0 n l ≡ l
reads_all l n e = reads_part l n 0 (omega arith) ∙ take_all n l (omega arith)

pub block_is : {s : List ℕ} → Block s → reads 0 16 s ≡ s
block_is {s} b = reads_all s 16 b.long

-- ---- every number of a list fits
pub fit_nil : (W : ℕ) → Fit W []
fit_nil W = record { at = λ p. pow_pos W }

pub fit_cons : {W : ℕ} {xs : List ℕ} (x : ℕ) → x < 2 ^ W → Fit W xs → Fit W (x ∷ xs)
fit_cons {W} {xs} x h f = record { at = go }
  where
    go : (p : ℕ) → get_or (x ∷ xs) p 0 < 2 ^ W
    go zero = h
    go (suc p) = f.at p

pub fit_tail : {W x : ℕ} {xs : List ℕ} → Fit W (x ∷ xs) → Fit W xs
fit_tail f = record { at = λ p. f.at (suc p) }

-- by a computed test
abbrev pub all_below : ℕ → List ℕ → Bool
all_below n [] = true
all_below n (x ∷ xs) = ◌&&◌ (ltb x n) (all_below n xs)

-- what holds of both choices
pub chosen : (P : List ℕ → Type 0) (t : Bool) {v u : List ℕ} → P v → P u → P (cond t v u)
chosen P true p q = p
chosen P false p q = q

pub fit_test : (W : ℕ) (l : List ℕ) → T (all_below (2 ^ W) l) → Fit W l
fit_test W [] t = fit_nil W
fit_test W (x ∷ xs) t =
    fit_cons x (ltb→lt x (2 ^ W) (both_left (ltb x (2 ^ W)) (all_below (2 ^ W) xs) t))
    (fit_test W xs (both_right (ltb x (2 ^ W)) (all_below (2 ^ W) xs) t))

pub fit_append : {W : ℕ} {xs ys : List ℕ} → Fit W xs → Fit W ys → Fit W (xs ++ ys)
fit_append {W} {xs} {ys} f g = go xs f
  where
    go : (l : List ℕ) → Fit W l → Fit W (l ++ ys)
    go [] h = g
    go (x ∷ l) h = fit_cons x (h.at 0) (go l (fit_tail h))

pub fit_reads : {W : ℕ} {ws : List ℕ} (i n : ℕ) → Fit W ws → Fit W (reads i n ws)
fit_reads {W} i zero f = fit_nil W
fit_reads {W} {ws} i (suc n) f = fit_cons (get_or ws i 0) (f.at i) (fit_reads (suc i) n f)

pub fit_map : (W : ℕ) (f : ℕ → ℕ) → ((i : ℕ) → f i < 2 ^ W) → (l : List ℕ) → Fit W (map f l)
fit_map W f h [] = fit_nil W
fit_map W f h (x ∷ xs) = fit_cons (f x) (h x) (fit_map W f h xs)

pub fit_each : {W : ℕ} (f : ℕ → ℕ) → ((x : ℕ) → x < 2 ^ W → f x < 2 ^ W) → (l : List ℕ) → Fit W l → Fit W (map f l)
fit_each {W} f h [] g = fit_nil W
fit_each f h (x ∷ xs) g = fit_cons (f x) (h x (g.at 0)) (fit_each f h xs (fit_tail g))

pub fit_drop : {W : ℕ} (n : ℕ) (l : List ℕ) → Fit W l → Fit W (drop n l)
fit_drop zero l g = g
fit_drop (suc n) [] g = g
fit_drop (suc n) (x ∷ xs) g = fit_drop n xs (fit_tail g)

pub fit_take : {W : ℕ} (n : ℕ) (l : List ℕ) → Fit W l → Fit W (take n l)
fit_take {W} zero l g = fit_nil W
fit_take (suc n) [] g = g
fit_take (suc n) (x ∷ xs) g = fit_cons x (g.at 0) (fit_take n xs (fit_tail g))

-- ---- bytes stay bytes
pub xtime_lt : (x : ℕ) → xtime x < 2 ^ 8
unfolding xtime
xtime_lt x =
    let h : x * 2 % 256 < 2 ^ 8 = omega arith in
    let k : bit 7 x * 27 < 2 ^ 8 = omega (arith, bit_lt 7 x) in
    xor_lt 8 (x * 2 % 256) (bit 7 x * 27) h k

pub product_lt : (c x : ℕ) → x < 2 ^ 8 → product c x < 2 ^ 8
unfolding product
product_lt c x h = go (bits_of 8 c) x h
  where
    term : (t : Bool) {x : ℕ} → x < 2 ^ 8 → cond t x 0 < 2 ^ 8
    term true h = h
    term false h = pow_pos 8

    go : (bs : List ℕ) (x : ℕ) → x < 2 ^ 8 → sum_where bs x < 2 ^ 8
    go [] x h = pow_pos 8
    go (b ∷ bs) x h = xor_lt 8 (cond (eqb b 1) x 0) (sum_where bs (xtime x)) (term (eqb b 1) h) (go bs (xtime x) (xtime_lt x))

-- ---- blocks stay blocks
block_block : (f : ℕ → ℕ → ℕ) → ((r c : ℕ) → f r c < 2 ^ 8) → Block (block f)
block_block f h = record { long = refl; bytes = fit_map 8 (λ n. f (n % 4) (n / 4)) (λ n. h (n % 4) (n / 4)) (range 0 16) }

module _ {s : List ℕ} (b : Block s) where
  pub sub_block : Block (sub_bytes s)
  unfolding sub_bytes
  sub_block = record { long = length-map s sbox ∙ b.long; bytes = fit_each sbox sbox_lt s b.bytes }

  pub inv_sub_block : Block (inv_sub_bytes s)
  unfolding inv_sub_bytes
  inv_sub_block = record { long = length-map s inv_sbox ∙ b.long; bytes = fit_each inv_sbox inv_sbox_lt s b.bytes }

  pub shift_block : Block (shift_rows s)
  unfolding shift_rows
  shift_block = block_block (λ r c. cell s r (c + r)) (λ r c. b.bytes.at _)

  pub inv_shift_block : Block (inv_shift_rows s)
  unfolding inv_shift_rows
  inv_shift_block = block_block (λ r c. cell s r (c + (4 - r))) (λ r c. b.bytes.at _)

  times_block : (k l m n : ℕ) → Block (block (λ r c.
      bit_xor (bit_xor (product k (cell s r c)) (product l (cell s (r + 1) c)))
      (bit_xor (product m (cell s (r + 2) c)) (product n (cell s (r + 3) c)))))
  times_block k l m n = block_block _ (λ r c.
      let p : (k r : ℕ) → product k (cell s r c) < 2 ^ 8 = λ k r. product_lt k (cell s r c) (b.bytes.at (r % 4 + 4 * (c % 4))) in
      xor_lt 8 (bit_xor (product k (cell s r c)) (product l (cell s (r + 1) c))) (bit_xor (product m (cell s (r + 2) c)) (product n (cell s (r + 3) c)))
      (xor_lt 8 (product k (cell s r c)) (product l (cell s (r + 1) c)) (p k r) (p l (r + 1)))
      (xor_lt 8 (product m (cell s (r + 2) c)) (product n (cell s (r + 3) c)) (p m (r + 2)) (p n (r + 3))))

  pub mix_block : Block (mix_columns s)
  unfolding mix_columns
  mix_block = times_block _ _ _ _

  pub inv_mix_block : Block (inv_mix_columns s)
  unfolding inv_mix_columns
  inv_mix_block = times_block _ _ _ _

  pub add_block : {k : List ℕ} → Block k → Block (add_round_key s k)
  unfolding add_round_key
  add_block {k} d = block_block (λ r c. bit_xor (cell s r c) (cell k r c))
      (λ r c. xor_lt 8 (cell s r c) (cell k r c) (b.bytes.at (r % 4 + 4 * (c % 4))) (d.bytes.at (r % 4 + 4 * (c % 4))))
