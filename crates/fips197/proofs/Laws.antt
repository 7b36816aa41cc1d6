-- The transformations: what undoes what, and what commutes. Each linear law is one computed test. Assumes nothing.
use mathlib.Core.Path.{◌≡◌, refl, ap, ap₂, ◌∙◌}
use mathlib.Core.List.{List, [], ◌∷◌, ◌++◌, map}
use Prim.Native.Nat.{ℕ, ◌+◌, ◌*◌, ◌^◌, ◌<◌}
use lib.Dec.{T, lit≤}
use lib.ListN.{get_or}
use Rattle.fips197.specs.Bytes.{Fit, Block}
use Rattle.fips197.specs.Aes.{xtime, product, sbox, inv_sbox, sub_bytes, inv_sub_bytes, shift_rows, inv_shift_rows, mix_columns}
use Rattle.fips197.specs.Aes.{inv_mix_columns, add_round_key}
use Rattle.fips197.proofs.Linear.{Related, numbers, value_of, inputs, same, agree}
use Rattle.fips197.proofs.Layers.{Bytes, related8, block_of, mix_columns_of, inv_mix_columns_of, add_round_key_of}
use Rattle.fips197.proofs.Tables.{inv_sbox_sbox, sbox_inv_sbox}
use Rattle.fips197.proofs.Blocks.{reads, block_is, fit_tail, fit_append, fit_reads}

-- two layers over n bytes, and the test whether they are the same
abbrev pub Layer : Type 1
Layer = (A : Type 0) → Bytes A → List A → List A

module _ (n : ℕ) (F G : Layer) (ws : List ℕ) (fit : Fit 8 ws) where
  abbrev pub run : Layer → List (Related (value_of ws))
  run H = H (Related (value_of ws)) (related8 ws) (inputs 8 (lit≤ tt) ws fit 0 n)

  pub layers : T (same (value_of ws) (run F) (run G)) → numbers (value_of ws) (run F) ≡ numbers (value_of ws) (run G)
  layers t = agree (value_of ws) (run F) (run G) t

-- ---- what undoes what
map_undone : (f g : ℕ → ℕ) → ((x : ℕ) → x < 2 ^ 8 → g (f x) ≡ x) → (l : List ℕ) → Fit 8 l → map g (map f l) ≡ l
map_undone f g h [] b = refl
map_undone f g h (x ∷ xs) b = ap₂ ◌∷◌ (h x (b.at 0)) (map_undone f g h xs (fit_tail b))

module _ {s : List ℕ} (b : Block s) where
  pub inv_sub_sub : inv_sub_bytes (sub_bytes s) ≡ s
  unfolding sub_bytes inv_sub_bytes
  inv_sub_sub = map_undone sbox inv_sbox inv_sbox_sbox s b.bytes

  pub sub_inv_sub : sub_bytes (inv_sub_bytes s) ≡ s
  unfolding sub_bytes inv_sub_bytes
  sub_inv_sub = map_undone inv_sbox sbox sbox_inv_sbox s b.bytes

  pub inv_shift_shift : inv_shift_rows (shift_rows s) ≡ s
  unfolding shift_rows inv_shift_rows
  inv_shift_shift = block_is b

  pub shift_inv_shift : shift_rows (inv_shift_rows s) ≡ s
  unfolding shift_rows inv_shift_rows
  shift_inv_shift = block_is b

  -- ShiftRows four times is nothing
  pub shift_four : shift_rows (shift_rows (shift_rows (shift_rows s))) ≡ s
  unfolding shift_rows
  shift_four = block_is b

  pub inv_mix_mix : inv_mix_columns (mix_columns s) ≡ s
  unfolding mix_columns inv_mix_columns product xtime
  inv_mix_mix = layers 16 (λ A o l. inv_mix_columns_of o (mix_columns_of o l)) (λ A o l. l) s b.bytes tt ∙ block_is b

  pub mix_inv_mix : mix_columns (inv_mix_columns s) ≡ s
  unfolding mix_columns inv_mix_columns product xtime
  mix_inv_mix = layers 16 (λ A o l. mix_columns_of o (inv_mix_columns_of o l)) (λ A o l. l) s b.bytes tt ∙ block_is b

  -- SubBytes commutes with ShiftRows
  pub sub_shift : sub_bytes (shift_rows s) ≡ shift_rows (sub_bytes s)
  unfolding sub_bytes shift_rows
  sub_shift = ap (λ (l : List ℕ). shift_rows (map sbox l)) (block_is b)

-- ---- the sum of two blocks, which stand one after the other, sixteen and sixteen
abbrev pub front : {A : Type 0} → Bytes A → List A → List A
front o l = block_of o (λ r c. get_or l (r + 4 * c) o.null)

abbrev pub back : {A : Type 0} → Bytes A → List A → List A
back o l = block_of o (λ r c. get_or l (16 + (r + 4 * c)) o.null)

module _ {s t : List ℕ} (b : Block s) (d : Block t) where
  unfoldable pub pair : List ℕ
  pair = reads 0 16 s ++ reads 0 16 t

  pub pair_fits : Fit 8 pair
  unfolding pair
  pair_fits = fit_append (fit_reads 0 16 b.bytes) (fit_reads 0 16 d.bytes)

  -- a round key added twice is nothing
  pub add_add : add_round_key (add_round_key s t) t ≡ s
  unfolding add_round_key pair
  add_add = layers 32 (λ A o l. add_round_key_of o (add_round_key_of o (front o l) (back o l)) (back o l)) (λ A o l. front o l) pair pair_fits tt ∙ block_is b
