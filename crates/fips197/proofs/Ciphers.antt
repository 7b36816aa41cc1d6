-- InvCipher undoes Cipher and Cipher undoes InvCipher, for every list of round keys; so Cipher is one-to-one. Assumes nothing.
use mathlib.Core.Path.{◌≡◌, refl, sym, ap, ◌∙◌}
use mathlib.Core.List.{List, [], ◌∷◌}
use Prim.Native.Nat.{ℕ}
use lib.ListN.{length}
use Rattle.fips197.specs.Bytes.{Block}
use Rattle.fips197.specs.Aes.{sub_bytes, inv_sub_bytes, shift_rows, inv_shift_rows, mix_columns, inv_mix_columns, add_round_key, rounds, cipher}
use Rattle.fips197.specs.Aes.{inv_rounds, inv_cipher}
use Rattle.fips197.proofs.Blocks.{sub_block, inv_sub_block, shift_block, inv_shift_block, mix_block, inv_mix_block, add_block}
use Rattle.fips197.proofs.Laws.{inv_sub_sub, sub_inv_sub, inv_shift_shift, shift_inv_shift, inv_mix_mix, mix_inv_mix, add_add}

-- a list of blocks
pub data Blocks : List (List ℕ) → Type 0 where
  none : Blocks []
  more : {k : List ℕ} {ks : List (List ℕ)} → Block k → Blocks ks → Blocks (k ∷ ks)

-- ---- blocks stay blocks
pub rounds_block : {ks : List (List ℕ)} {s : List ℕ} → Blocks ks → Block s → Block (rounds ks s)
unfolding rounds
rounds_block none b = b
rounds_block (more k none) b = add_block (shift_block (sub_block b)) k
rounds_block (more k (more l ks)) b = rounds_block (more l ks) (add_block (mix_block (shift_block (sub_block b))) k)

pub cipher_block : {ks : List (List ℕ)} {s : List ℕ} → Blocks ks → Block s → Block (cipher ks s)
unfolding cipher
cipher_block none b = b
cipher_block (more k ks) b = rounds_block ks (add_block b k)

pub inv_rounds_block : {ks : List (List ℕ)} {s : List ℕ} → Blocks ks → Block s → Block (inv_rounds ks s)
unfolding inv_rounds
inv_rounds_block none b = b
inv_rounds_block (more k none) b = inv_sub_block (inv_shift_block (add_block b k))
inv_rounds_block (more k (more l ks)) b = inv_sub_block (inv_shift_block (inv_mix_block (add_block (inv_rounds_block (more l ks) b) k)))

pub inv_cipher_block : {ks : List (List ℕ)} {s : List ℕ} → Blocks ks → Block s → Block (inv_cipher ks s)
unfolding inv_cipher
inv_cipher_block none b = b
inv_cipher_block (more k ks) b = add_block (inv_rounds_block ks b) k

-- ---- under one round key or more, whatever goes in, sixteen bytes come out
rounds_long : (ks : List (List ℕ)) (s : List ℕ) → length s ≡ 16 → length (rounds ks s) ≡ 16
unfolding rounds add_round_key
rounds_long [] s e = e
rounds_long (k ∷ []) s e = refl
rounds_long (k ∷ l ∷ ks) s e = rounds_long (l ∷ ks) (add_round_key (mix_columns (shift_rows (sub_bytes s))) k) refl

pub cipher_long : (k : List ℕ) (ks : List (List ℕ)) (x : List ℕ) → length (cipher (k ∷ ks) x) ≡ 16
unfolding cipher add_round_key
cipher_long k ks x = rounds_long ks (add_round_key x k) refl

pub inv_cipher_long : (k : List ℕ) (ks : List (List ℕ)) (x : List ℕ) → length (inv_cipher (k ∷ ks) x) ≡ 16
unfolding inv_cipher add_round_key
inv_cipher_long k ks x = refl

-- ---- one round, and back
module _ {s k : List ℕ} (b : Block s) (d : Block k) where
  last_undone : inv_sub_bytes (inv_shift_rows (add_round_key (add_round_key (shift_rows (sub_bytes s)) k) k)) ≡ s
  last_undone = rw (add_add (shift_block (sub_block b)) d, inv_shift_shift (sub_block b)) (inv_sub_sub b)

  last_redone : add_round_key (shift_rows (sub_bytes (inv_sub_bytes (inv_shift_rows (add_round_key s k))))) k ≡ s
  last_redone = rw (sub_inv_sub (inv_shift_block (add_block b d)), shift_inv_shift (add_block b d)) (add_add b d)

  round_undone : inv_sub_bytes (inv_shift_rows (inv_mix_columns (add_round_key (add_round_key (mix_columns (shift_rows (sub_bytes s))) k) k))) ≡ s
  round_undone = rw (add_add (mix_block (shift_block (sub_block b))) d, inv_mix_mix (shift_block (sub_block b)), inv_shift_shift (sub_block b)) (inv_sub_sub b)

  round_redone : add_round_key (mix_columns (shift_rows (sub_bytes (inv_sub_bytes (inv_shift_rows (inv_mix_columns (add_round_key s k))))))) k ≡ s
  round_redone =
      let added = add_block b d in
      rw (sub_inv_sub (inv_shift_block (inv_mix_block added)), shift_inv_shift (inv_mix_block added), mix_inv_mix added) (add_add b d)

-- ---- all rounds, and back
inv_rounds_rounds : {ks : List (List ℕ)} {s : List ℕ} → Blocks ks → Block s → inv_rounds ks (rounds ks s) ≡ s
unfolding rounds inv_rounds
inv_rounds_rounds none b = refl
inv_rounds_rounds (more k none) b = last_undone b k
inv_rounds_rounds (more {k = x} k (more l ks)) b =
    ap (λ t. inv_sub_bytes (inv_shift_rows (inv_mix_columns (add_round_key t x))))
    (inv_rounds_rounds (more l ks) (add_block (mix_block (shift_block (sub_block b))) k))
    ∙ round_undone b k

rounds_inv_rounds : {ks : List (List ℕ)} {s : List ℕ} → Blocks ks → Block s → rounds ks (inv_rounds ks s) ≡ s
unfolding rounds inv_rounds
rounds_inv_rounds none b = refl
rounds_inv_rounds (more k none) b = last_redone b k
rounds_inv_rounds (more k (more {k = y} {ks = ys} l ks)) b =
    ap (rounds (y ∷ ys)) (round_redone (inv_rounds_block (more l ks) b) k) ∙ rounds_inv_rounds (more l ks) b

pub inv_cipher_cipher : {ks : List (List ℕ)} {s : List ℕ} → Blocks ks → Block s → inv_cipher ks (cipher ks s) ≡ s
unfolding cipher inv_cipher
inv_cipher_cipher none b = refl
inv_cipher_cipher (more {k = x} k ks) b = ap (λ t. add_round_key t x) (inv_rounds_rounds ks (add_block b k)) ∙ add_add b k

pub cipher_inv_cipher : {ks : List (List ℕ)} {s : List ℕ} → Blocks ks → Block s → cipher ks (inv_cipher ks s) ≡ s
unfolding cipher inv_cipher
cipher_inv_cipher none b = refl
cipher_inv_cipher (more {ks = xs} k ks) b = ap (rounds xs) (add_add (inv_rounds_block ks b) k) ∙ rounds_inv_rounds ks b

-- one-to-one
pub cipher_one : {ks : List (List ℕ)} {s t : List ℕ} → Blocks ks → Block s → Block t → cipher ks s ≡ cipher ks t → s ≡ t
cipher_one {ks} ds b d e = sym (inv_cipher_cipher ds b) ∙ ap (inv_cipher ks) e ∙ inv_cipher_cipher ds d
