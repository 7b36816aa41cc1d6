-- The fixslicing argument, once over the number of rounds and over the arrangement of the row shifts that are left out, with no words in it: the
-- state after each round is FIPS-197's with those inverse row shifts, because SubBytes commutes with ShiftRows, form i of MixColumns is MixColumns
-- between i row shifts, and the stored key holds the same shifts and the missing 63. Decryption undoes encryption step by step, so it is InvCipher.
-- Assumes nothing.
use mathlib.Core.Path.{◌≡◌, refl, sym, ap, ap₂, ◌∙◌, subst₂}
use mathlib.Core.List.{List, map}
use Prim.Native.Nat.{ℕ, zero, suc, ◌+◌, ◌-◌, ◌%◌, ◌≤◌, ◌<◌}
use native.Mathlib.Omega.{arith}
use native.Mathlib.Nat.{add-zero, zero-add}
use native.Mathlib.Numerals.{add-one}
use mathlib.Core.Bool.{cond}
use borrow.Author.Tests.{eq-eqb, ne_eqb}
use lib.Dec.{eqb}
use Rattle.fips197.specs.Bytes.{Block}
use Rattle.fips197.specs.Aes.{
  range,
  product,
  xtime,
  sub_bytes,
  inv_sub_bytes,
  shift_rows,
  inv_shift_rows,
  mix_columns,
  add_round_key,
  rounds,
  cipher,
  inv_cipher,
}
use Rattle.fips197.proofs.Layers.{Bytes, mix_columns_of, add_round_key_of}
use Rattle.fips197.proofs.Blocks.{chosen, reads, block_is, sub_block, shift_block, mix_block, add_block}
use Rattle.fips197.proofs.Laws.{layers, front, back, pair, pair_fits, sub_shift, inv_sub_sub, shift_four, inv_mix_mix, add_add}
use Rattle.fips197.proofs.Ciphers.{Blocks, none, more, cipher_inv_cipher, inv_cipher_block}
use Rattle.lanes.specs.Schedule.{add63, rows_shifted, rows_unshifted}
use Rattle.lanes.specs.Leaves.{bare_sub_bytes, inv_bare_sub_bytes, mix_form, inv_mix_form}
use Rattle.lanes.proofs.Linear.{four, rows_shifted_of, mix_form_of, add63_of}
use Rattle.lanes.proofs.Rows.{add63_block, shifted_block, unshifted_block, add63_twice, unshifted_shifted, shifted_unshifted}
use Rattle.cipher.specs.Fixslice.{fix_round, fix_unround}

-- ---- blocks stay blocks
bare_block : {s : List ℕ} → Block s → Block (bare_sub_bytes s)
unfolding bare_sub_bytes
bare_block b = add63_block (sub_block b)

form_block : {s : List ℕ} (i : ℕ) → Block s → Block (mix_form i s)
unfolding mix_form
form_block i b = unshifted_block i (mix_block (shifted_block i b))

-- ---- the linear steps, by the check
module _ {A : Type 0} (o : Bytes A) where
  -- a round of form j on the S-box's bare result, with the rows shifted back; and FIPS-197's round
  abbrev fix_of : ℕ → List A → List A
  fix_of j l = rows_shifted_of o j (add_round_key_of o (mix_form_of o j (add63_of o (front o l))) (back o l))

  abbrev round_of : ℕ → List A → List A
  round_of j l = add_round_key_of o (mix_columns_of o (rows_shifted_of o j (front o l))) (rows_shifted_of o j (add63_of o (back o l)))

-- what form j of a round does, on the elements of two blocks
abbrev Step : List ℕ → List ℕ → ℕ → Type 0
Step t k j =
    rows_shifted j (add_round_key (mix_form j (add63 (reads 0 16 t))) (reads 0 16 k))
    ≡ add_round_key (mix_columns (rows_shifted j (reads 0 16 t))) (rows_shifted j (add63 (reads 0 16 k)))

module _ {t k : List ℕ} (b : Block t) (d : Block k) where
  step_0 : Step t k 0
  unfolding rows_shifted rows_unshifted mix_form add63 add_round_key mix_columns shift_rows inv_shift_rows product xtime pair
  step_0 = layers 32 (λ A o l. fix_of o 0 l) (λ A o l. round_of o 0 l) (pair b d) (pair_fits b d) tt

  step_1 : Step t k 1
  unfolding rows_shifted rows_unshifted mix_form add63 add_round_key mix_columns shift_rows inv_shift_rows product xtime pair
  step_1 = layers 32 (λ A o l. fix_of o 1 l) (λ A o l. round_of o 1 l) (pair b d) (pair_fits b d) tt

  step_2 : Step t k 2
  unfolding rows_shifted rows_unshifted mix_form add63 add_round_key mix_columns shift_rows inv_shift_rows product xtime pair
  step_2 = layers 32 (λ A o l. fix_of o 2 l) (λ A o l. round_of o 2 l) (pair b d) (pair_fits b d) tt

  step_3 : Step t k 3
  unfolding rows_shifted rows_unshifted mix_form add63 add_round_key mix_columns shift_rows inv_shift_rows product xtime pair
  step_3 = layers 32 (λ A o l. fix_of o 3 l) (λ A o l. round_of o 3 l) (pair b d) (pair_fits b d) tt

  -- form j is MixColumns between j row shifts, the key holds the same shifts, and MixColumns leaves the 63 as it is
  step : (j : ℕ) → j < 4 → rows_shifted j (add_round_key (mix_form j (add63 t)) k) ≡ add_round_key (mix_columns (rows_shifted j t)) (rows_shifted j (add63 k))
  step j h =
      subst₂
      (λ (x y : List ℕ). rows_shifted j (add_round_key (mix_form j (add63 x)) y) ≡ add_round_key (mix_columns (rows_shifted j x)) (rows_shifted j (add63 y)))
      (block_is b) (block_is d) (four (Step t k) step_0 step_1 step_2 step_3 j h)

  -- the last round's key holds the missing 63
  last_63 : add_round_key (add63 t) k ≡ add_round_key t (add63 k)
  unfolding add63 add_round_key pair
  last_63 =
      subst₂ (λ (x y : List ℕ). add_round_key (add63 x) y ≡ add_round_key x (add63 y)) (block_is b) (block_is d)
      (layers 32
      (λ A o l. add_round_key_of o (add63_of o (front o l)) (back o l))
      (λ A o l. add_round_key_of o (front o l) (add63_of o (back o l)))
      (pair b d) (pair_fits b d) tt)

-- ---- what undoes what
-- inv_sub_bytes undoes sub_bytes exactly
inv_bare_bare : {s : List ℕ} → Block s → inv_bare_sub_bytes (bare_sub_bytes s) ≡ s
unfolding bare_sub_bytes inv_bare_sub_bytes
inv_bare_bare {s} b = ap inv_sub_bytes (add63_twice (sub_bytes s)) ∙ inv_sub_sub b

-- inv_mix_columns of form i undoes mix_columns of form i
inv_form_form : {s : List ℕ} → Block s → (i : ℕ) → i < 4 → inv_mix_form i (mix_form i s) ≡ s
unfolding mix_form inv_mix_form
inv_form_form b i h = rw (shifted_unshifted (mix_block (shifted_block i b)) i h, inv_mix_mix (shifted_block i b)) (unshifted_shifted b i h)

-- ShiftRows is counted modulo four
shifted_mod : {s : List ℕ} → Block s → (n : ℕ) → n < 4 → rows_shifted (suc n % 4) s ≡ shift_rows (rows_shifted n s)
unfolding rows_shifted
shifted_mod b zero h = refl
shifted_mod b (suc zero) h = refl
shifted_mod b (suc (suc zero)) h = refl
shifted_mod b (suc (suc (suc zero))) h = sym (shift_four b)
shifted_mod b (suc (suc (suc (suc n)))) h = absurd (omega arith)

-- SubBytes commutes with row shifts
sub_shifted : {s : List ℕ} → Block s → (n : ℕ) → sub_bytes (rows_shifted n s) ≡ rows_shifted n (sub_bytes s)
unfolding rows_shifted
sub_shifted b zero = refl
sub_shifted b (suc n) = sub_shift (shifted_block n b) ∙ ap shift_rows (sub_shifted b n)

-- row shifts in a row add up, modulo four
shifted_add : (m n : ℕ) (s : List ℕ) → rows_shifted m (rows_shifted n s) ≡ rows_shifted (m + n) s
unfolding rows_shifted
shifted_add zero n s = ap (λ (p : ℕ). rows_shifted p s) (sym (zero-add n))
shifted_add (suc m) n s =
    let e : suc (m + n) ≡ suc m + n = omega arith in
    ap shift_rows (shifted_add m n s) ∙ ap (λ (p : ℕ). rows_shifted p s) e

counted : {s : List ℕ} → Block s → (m : ℕ) → rows_shifted (m % 4) s ≡ rows_shifted m s
unfolding rows_shifted
counted b zero = refl
counted {s} b (suc m) =
    let e : suc m % 4 ≡ suc (m % 4) % 4 = omega arith in
    ap (λ (p : ℕ). rows_shifted p s) e ∙ shifted_mod b (m % 4) (omega arith) ∙ ap shift_rows (counted b m)

-- m row shifts after n are one more than p
one_more : {s : List ℕ} → Block s → (m n p : ℕ) → (m + n) % 4 ≡ suc p % 4 → rows_shifted m (rows_shifted n s) ≡ shift_rows (rows_shifted p s)
unfolding rows_shifted
one_more {s} b m n p e = shifted_add m n s ∙ sym (counted b (m + n)) ∙ ap (λ (q : ℕ). rows_shifted q s) e ∙ counted b (suc p)

-- ---- FIPS-197's rounds: the state after m of them
fips : (ℕ → List ℕ) → ℕ → List ℕ → List ℕ
fips rk zero s = s
fips rk (suc m) s = add_round_key (mix_columns (shift_rows (sub_bytes (fips rk m s)))) (rk (suc m))

-- the rounds that are left after m: d of them and the last
rounds_left : (rk : ℕ → List ℕ) (d m : ℕ) (s : List ℕ)
    → rounds (map rk (range (suc m) (suc d))) (fips rk m s) ≡ add_round_key (shift_rows (sub_bytes (fips rk (m + d) s))) (rk (suc (m + d)))
unfolding rounds fips
rounds_left rk zero m s = ap (λ (i : ℕ). add_round_key (shift_rows (sub_bytes (fips rk i s))) (rk (suc i))) (sym (add-zero m))
rounds_left rk (suc d) m s =
    let e : suc m + d ≡ m + suc d = omega arith in
    rounds_left rk d (suc m) s ∙ ap (λ (i : ℕ). add_round_key (shift_rows (sub_bytes (fips rk i s))) (rk (suc i))) e

-- Cipher of d + 1 rounds
cipher_is : (rk : ℕ → List ℕ) (d : ℕ) (x : List ℕ)
    → cipher (map rk (range 0 (suc d + 1))) x ≡ add_round_key (shift_rows (sub_bytes (fips rk d (add_round_key x (rk 0))))) (rk (suc d))
unfolding cipher fips
cipher_is rk d x =
    ap (λ (n : ℕ). cipher (map rk (range 0 n)) x) (add-one (suc d))
    ∙ rounds_left rk d 0 (add_round_key x (rk 0))
    ∙ ap (λ (i : ℕ). add_round_key (shift_rows (sub_bytes (fips rk i (add_round_key x (rk 0))))) (rk (suc i))) (zero-add d)

-- the rows of the S-box's result
sub_ahead : {s t : List ℕ} → Block s → Block t → (j : ℕ) → rows_shifted j s ≡ shift_rows t → rows_shifted j (sub_bytes s) ≡ shift_rows (sub_bytes t)
sub_ahead b c j e = sym (sub_shifted b j) ∙ ap sub_bytes e ∙ sub_shift c

-- ---- an arrangement: round r has form i r, its stored key holds i r inverse row shifts and the missing 63, b r row shifts are made after it, and e
-- before the last S-box. Round n, the last, has no MixColumns, and its key holds the 63 only.
-- THE LAW: what a round leaves out is one row shift more than before, less what is made up for
pub record Arranged (n : ℕ) (i b : ℕ → ℕ) (e : ℕ) : Type 0 where
  pub some : 1 ≤ n
  pub form : (r : ℕ) → i r < 4
  pub made : (r : ℕ) → b r < 4
  pub last : e < 4
  pub starts : i 0 ≡ 0
  pub none : b 0 ≡ 0
  pub law : (r : ℕ) → (i (suc r) + b r) % 4 ≡ suc (i r) % 4
  pub ends : (e + b (n - 1)) % 4 ≡ suc (i (n - 1)) % 4

-- how round key r of n is read
unfoldable pub read_as : (ℕ → ℕ) → ℕ → ℕ → List ℕ → List ℕ
read_as i n zero k = k
read_as i n (suc r) k = cond (eqb (suc r) n) (add63 k) (rows_shifted (i (suc r)) (add63 k))

-- rounds 1 to m; and all n rounds
unfoldable pub arranged_to : (i b : ℕ → ℕ) → (ℕ → List ℕ) → ℕ → List ℕ → List ℕ
arranged_to i b k zero x = x
arranged_to i b k (suc m) x = rows_shifted (b (suc m)) (fix_round (i (suc m)) (k (suc m)) (arranged_to i b k m x))

unfoldable pub arranged_cipher : (i b : ℕ → ℕ) → ℕ → (ℕ → List ℕ) → ℕ → List ℕ → List ℕ
arranged_cipher i b e k n x = add_round_key (bare_sub_bytes (rows_shifted e (arranged_to i b k (n - 1) (add_round_key x (k 0))))) (k n)

-- each step undone, the last first
unfoldable pub undone_as : (i b : ℕ → ℕ) → (ℕ → List ℕ) → ℕ → List ℕ → List ℕ
undone_as i b k zero x = x
undone_as i b k (suc m) x = undone_as i b k m (fix_unround (i (suc m)) (k (suc m)) (rows_unshifted (b (suc m)) x))

unfoldable pub arranged_inv_cipher : (i b : ℕ → ℕ) → ℕ → (ℕ → List ℕ) → ℕ → List ℕ → List ℕ
arranged_inv_cipher i b e k n x = add_round_key (undone_as i b k (n - 1) (rows_unshifted e (inv_bare_sub_bytes (add_round_key x (k n))))) (k 0)

-- how a key is read
read_middle : (i : ℕ → ℕ) (n r : ℕ) (k : List ℕ) → suc r < n → read_as i n (suc r) k ≡ rows_shifted (i (suc r)) (add63 k)
unfolding read_as
read_middle i n r k h = rw (ne_eqb (suc r) n (λ e. omega arith))

read_last : (i : ℕ → ℕ) (n r : ℕ) (k : List ℕ) → suc r ≡ n → read_as i n (suc r) k ≡ add63 k
unfolding read_as
read_last i n r k h = rw (eq-eqb (suc r) n h)

key_block : (i : ℕ → ℕ) (n r : ℕ) {k : List ℕ} → Block k → Block (read_as i n r k)
unfolding read_as
key_block i n zero b = b
key_block i n (suc r) b = chosen Block (eqb (suc r) n) (add63_block b) (shifted_block (i (suc r)) (add63_block b))

module _ {n : ℕ} {i b : ℕ → ℕ} {e : ℕ} (a : Arranged n i b e) (k : ℕ → List ℕ) (bs : (r : ℕ) → Block (k r)) where
  abbrev rk : ℕ → List ℕ
  rk r = read_as i n r (k r)

  arranged_block : {x : List ℕ} → Block x → (m : ℕ) → Block (arranged_to i b k m x)
  unfolding arranged_to
  arranged_block d zero = d
  arranged_block d (suc m) =
      shifted_block (b (suc m)) (add_block (form_block (i (suc m)) (bare_block (arranged_block d m))) (bs (suc m)))

  fips_block : {x : List ℕ} → Block x → (m : ℕ) → Block (fips rk m x)
  unfolding fips
  fips_block d zero = d
  fips_block d (suc m) = add_block (mix_block (shift_block (sub_block (fips_block d m)))) (key_block i n (suc m) (bs (suc m)))

  -- after m rounds the state is FIPS-197's, rows shifted once, with the inverse row shifts that are left out
  ahead : {x : List ℕ} → Block x → (m j : ℕ) → m < n → (j + b m) % 4 ≡ suc (i m) % 4
      → rows_shifted j (arranged_to i b k m x) ≡ shift_rows (fips rk m x)
  unfolding arranged_to fips rows_shifted bare_sub_bytes
  ahead d zero j h q = rw (a.none, a.starts) at (one_more d j (b 0) (i 0) q)
  ahead {x} d (suc m) j h q =
      let c = arranged_block d m in
      let before = ahead d m (i (suc m)) (omega arith) (a.law m) in
      one_more (add_block (form_block (i (suc m)) (bare_block c)) (bs (suc m))) j (b (suc m)) (i (suc m)) q
      ∙ ap shift_rows
      (step (sub_block c) (bs (suc m)) (i (suc m)) (a.form (suc m))
      ∙ ap₂ (λ (u v : List ℕ). add_round_key (mix_columns u) v)
      (sub_ahead c (fips_block d m) (i (suc m)) before)
      (sym (read_middle i n m (k (suc m)) h)))

  -- THE ARGUMENT: the arranged cipher is Cipher under the round keys as they are read
  pub encrypts : {x : List ℕ} → Block x → arranged_cipher i b e k n x ≡ cipher (map (λ r. read_as i n r (k r)) (range 0 (n + 1))) x
  unfolding arranged_cipher bare_sub_bytes read_as
  encrypts {x} d =
      let some = a.some in
      let z : suc (n - 1) ≡ n = omega arith in
      let d₀ = add_block d (bs 0) in
      let c = arranged_block d₀ (n - 1) in
      last_63 (sub_block (shifted_block e c)) (bs n)
      ∙ ap₂ add_round_key
      (sub_shifted c e ∙ sub_ahead c (fips_block d₀ (n - 1)) e (ahead d₀ (n - 1) e (omega arith) a.ends))
      (rw z at (sym (read_last i n (n - 1) (k (suc (n - 1))) z)))
      ∙ sym (rw z at (cipher_is rk (n - 1) x))

  undone_done : {x : List ℕ} → Block x → (m : ℕ) → undone_as i b k m (arranged_to i b k m x) ≡ x
  unfolding undone_as arranged_to
  undone_done d zero = refl
  undone_done d (suc m) =
      let c = arranged_block d m in
      let f = form_block (i (suc m)) (bare_block c) in
      rw (
        unshifted_shifted (add_block f (bs (suc m))) (b (suc m)) (a.made (suc m)),
        add_add f (bs (suc m)),
        inv_form_form (bare_block c) (i (suc m)) (a.form (suc m)),
        inv_bare_bare c,
      )
      (undone_done d m)

  -- decryption undoes encryption, step by step
  undoes : {x : List ℕ} → Block x → arranged_inv_cipher i b e k n (arranged_cipher i b e k n x) ≡ x
  unfolding arranged_inv_cipher arranged_cipher
  undoes d =
      let c = arranged_block (add_block d (bs 0)) (n - 1) in
      let f = shifted_block e c in
      rw
      (add_add (bare_block f) (bs n), inv_bare_bare f, unshifted_shifted c e a.last, undone_done (add_block d (bs 0)) (n - 1))
      (add_add d (bs 0))

  keys_block : (m r : ℕ) → Blocks (map (λ r. read_as i n r (k r)) (range r m))
  keys_block zero r = none
  keys_block (suc m) r = more (key_block i n r (bs r)) (keys_block m (suc r))

  -- so the arranged decryption is InvCipher
  pub decrypts : {x : List ℕ} → Block x → arranged_inv_cipher i b e k n x ≡ inv_cipher (map (λ r. read_as i n r (k r)) (range 0 (n + 1))) x
  decrypts {x} d =
      let ks = keys_block (n + 1) 0 in
      ap (arranged_inv_cipher i b e k n) (sym (encrypts (inv_cipher_block ks d) ∙ cipher_inv_cipher ks d))
      ∙ undoes (inv_cipher_block ks d)
