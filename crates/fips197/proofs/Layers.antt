-- The linear transformations written once over any bytes, so that they run on numbers (and are FIPS-197's, by computation) and on
-- `Related` ones; a law between two of them is then one computed test. Assumes nothing.
use mathlib.Core.Path.{◌≡◌, refl}
use mathlib.Core.Bool.{cond}
use mathlib.Core.List.{List, [], ◌∷◌, map}
use Prim.Native.Nat.{ℕ, ◌+◌, ◌-◌, ◌*◌, ◌/◌, ◌%◌}
use lib.Bits.{bit_xor}
use lib.Dec.{eqb}
use lib.ListN.{get_or}
use Rattle.fips197.specs.Aes.{range, bits_of, xtime, product, shift_rows, inv_shift_rows, mix_columns, inv_mix_columns, add_round_key}
use Rattle.fips197.proofs.Linear.{Related, value_of, xor_r, const_r, null_r, xtime_r}

-- what the layers ask of bytes: {00}, a constant, the sum, and the product with {02}
pub record Bytes (A : Type 0) : Type 0 where
  pub null : A
  pub byte : ℕ → A
  pub xor : A → A → A
  pub xtime : A → A

abbrev pub numbers8 : Bytes ℕ
numbers8 = record { null = 0; byte = λ c. c; xor = λ x y. bit_xor x y; xtime = λ x. xtime x }

module _ {A : Type 0} (o : Bytes A) where
  abbrev sum_where_of : List ℕ → A → A
  sum_where_of [] x = o.null
  sum_where_of (b ∷ bs) x = o.xor (cond (eqb b 1) x o.null) (sum_where_of bs (o.xtime x))

  abbrev pub product_of : ℕ → A → A
  product_of c x = sum_where_of (bits_of 8 c) x

  abbrev pub cell_of : List A → ℕ → ℕ → A
  cell_of s r c = get_or s (r % 4 + 4 * (c % 4)) o.null

  abbrev pub block_of : (ℕ → ℕ → A) → List A
  block_of f = map (λ n. f (n % 4) (n / 4)) (range 0 16)

  abbrev pub shift_rows_of : List A → List A
  shift_rows_of s = block_of (λ r c. cell_of s r (c + r))

  abbrev pub inv_shift_rows_of : List A → List A
  inv_shift_rows_of s = block_of (λ r c. cell_of s r (c + (4 - r)))

  abbrev columns_times_of : ℕ → ℕ → ℕ → ℕ → List A → List A
  columns_times_of k l m n s = block_of (λ r c.
      o.xor (o.xor (product_of k (cell_of s r c)) (product_of l (cell_of s (r + 1) c)))
      (o.xor (product_of m (cell_of s (r + 2) c)) (product_of n (cell_of s (r + 3) c))))

  abbrev pub mix_columns_of : List A → List A
  mix_columns_of = columns_times_of 0x02 0x03 0x01 0x01

  abbrev pub inv_mix_columns_of : List A → List A
  inv_mix_columns_of = columns_times_of 0x0e 0x0b 0x0d 0x09

  abbrev pub add_round_key_of : List A → List A → List A
  add_round_key_of s k = block_of (λ r c. o.xor (cell_of s r c) (cell_of k r c))

-- ---- on numbers they are FIPS-197's
pub shift_rows_is : (s : List ℕ) → shift_rows s ≡ shift_rows_of numbers8 s
unfolding shift_rows
shift_rows_is s = refl

pub inv_shift_rows_is : (s : List ℕ) → inv_shift_rows s ≡ inv_shift_rows_of numbers8 s
unfolding inv_shift_rows
inv_shift_rows_is s = refl

pub mix_columns_is : (s : List ℕ) → mix_columns s ≡ mix_columns_of numbers8 s
unfolding mix_columns product
mix_columns_is s = refl

pub inv_mix_columns_is : (s : List ℕ) → inv_mix_columns s ≡ inv_mix_columns_of numbers8 s
unfolding inv_mix_columns product
inv_mix_columns_is s = refl

pub add_round_key_is : (s k : List ℕ) → add_round_key s k ≡ add_round_key_of numbers8 s k
unfolding add_round_key
add_round_key_is s k = refl

-- ---- on related bytes
abbrev pub related8 : (ws : List ℕ) → Bytes (Related (value_of ws))
related8 ws = record { null = null_r ws; byte = const_r ws 8; xor = xor_r ws; xtime = xtime_r ws }
