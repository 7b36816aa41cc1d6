-- Blocks under any words as a schedule: each by the round keys of its own slot, so what holds of a block holds of all. Once over the width, the
-- numbers of rounds and of blocks, and the direction. Assumes nothing.
use mathlib.Core.Path.{◌≡◌, sym, ap, ◌∙◌}
use mathlib.Core.List.{List, ◌∷◌, map}
use Prim.Native.Nat.{ℕ, suc, ◌+◌, ◌%◌, ◌<◌}
use native.Mathlib.Omega.{arith}
use lib.ListN.{length}
use Rattle.fips197.specs.Bytes.{Block, Data}
use Rattle.fips197.specs.Aes.{range, sixteen, cipher, inv_cipher}
use Rattle.fips197.proofs.Ciphers.{cipher_long, inv_cipher_long, Blocks, cipher_block, inv_cipher_block, inv_cipher_cipher, cipher_inv_cipher}
use Rattle.lanes.specs.Layout.{Width, slots}
use Rattle.lanes.specs.Schedule.{read_key, reading, stored, crypted_blocks}
use Rattle.lanes.proofs.Packing.{stored_block}
use Rattle.lanes.proofs.EachBlock.{Keeping, each_at, each_data, each_undone}
use Rattle.cipher.proofs.Arrangements.{read_blocks}

-- ---- a direction: Cipher or InvCipher, and what undoes it
pub record Way : Type 0 where
  pub go : List (List ℕ) → List ℕ → List ℕ
  pub back : List (List ℕ) → List ℕ → List ℕ
  pub go_block : {ks : List (List ℕ)} {x : List ℕ} → Blocks ks → Block x → Block (go ks x)
  pub back_block : {ks : List (List ℕ)} {x : List ℕ} → Blocks ks → Block x → Block (back ks x)
  pub go_long : (k : List ℕ) (ks : List (List ℕ)) (x : List ℕ) → length (go (k ∷ ks) x) ≡ 16
  pub undone : {ks : List (List ℕ)} {x : List ℕ} → Blocks ks → Block x → back ks (go ks x) ≡ x

abbrev pub forth : Way
forth = record {
  go = cipher;
  back = inv_cipher;
  go_block = cipher_block;
  back_block = inv_cipher_block;
  go_long = cipher_long;
  undone = inv_cipher_cipher;
}

abbrev pub backwards : Way
backwards = record {
  go = inv_cipher;
  back = cipher;
  go_block = inv_cipher_block;
  back_block = cipher_block;
  go_long = inv_cipher_long;
  undone = cipher_inv_cipher;
}

-- a block under the round keys of a slot, which are one or more
pub reading_long : (c : List (List ℕ) → List ℕ → List ℕ) → ((k : List ℕ) (ks : List (List ℕ)) (x : List ℕ) → length (c (k ∷ ks) x) ≡ 16)
    → (w : Width) (n : ℕ) (l : List ℕ) (b : ℕ) (x : List ℕ) → length (c (reading w n l b) x) ≡ 16
unfolding reading
reading_long c long w n l b x =
    let e : n + 1 ≡ suc n = omega arith in
    rw e (long (read_key n 0 (stored w l b 0)) (map (λ r. read_key n r (stored w l b r)) (range 1 n)) x)

-- ---- under n rounds of the words l
module _ (v : Way) (w : Width) (n : ℕ) (l : List ℕ) where
  pub keys : (b : ℕ) → Blocks (reading w n l b)
  unfolding reading stored
  keys b = read_blocks (stored w l b) (stored_block w l b) n (n + 1) 0

  goes : Keeping (λ b. v.go (reading w n l b))
  goes = record { keeps = λ b d. v.go_block (keys b) d }

  comes : Keeping (λ b. v.back (reading w n l b))
  comes = record { keeps = λ b d. v.back_block (keys b) d }

  -- sixteen bytes become of any: there is a round key
  pub crypted_long : (b : ℕ) (x : List ℕ) → length (v.go (reading w n l b) x) ≡ 16
  crypted_long b x = reading_long v.go v.go_long w n l b x

  module _ {k : ℕ} {i : List ℕ} (d : Data k i) where
    -- block j by the round keys of slot j mod slots
    pub crypted_at : (j : ℕ) → j < k → sixteen (crypted_blocks v.go w n l k i) j ≡ v.go (reading w n l (j % slots w)) (sixteen i j)
    crypted_at j h = each_at w goes d j h

    -- blocks become as many blocks
    pub crypted_data : Data k (crypted_blocks v.go w n l k i)
    crypted_data = each_data w goes d

    -- the other direction undoes it
    pub crypted_undone : crypted_blocks v.back w n l k (crypted_blocks v.go w n l k i) ≡ i
    crypted_undone = each_undone w goes comes (λ b x y. v.undone (keys b) y) d

  -- so no two become the same
  pub crypted_one : {k : ℕ} {i j : List ℕ} → Data k i → Data k j → crypted_blocks v.go w n l k i ≡ crypted_blocks v.go w n l k j → i ≡ j
  crypted_one {k} d e h = sym (crypted_undone d) ∙ ap (crypted_blocks v.back w n l k) h ∙ crypted_undone e
