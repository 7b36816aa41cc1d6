-- Blocks cut after full batches: the slots start anew, so what is joined of the parts is what all of them become. And some blocks are the front of more.
-- Once over the width, what each slot does, and the numbers of batches and blocks. Assumes nothing.
use mathlib.Core.Path.{◌≡◌, refl, sym, ap, ap₂, ◌∙◌}
use mathlib.Core.List.{List, [], ◌++◌, append_assoc}
use Prim.Native.Nat.{ℕ, zero, suc, ◌+◌, ◌-◌, ◌*◌, ◌/◌, ◌%◌, ◌≤◌, ◌<◌}
use native.Mathlib.Nat.{mul-add-mod_self_left, mul-div_cancel_left}
use native.Mathlib.Omega.{arith}
use lib.Dec.{lit<}
use lib.ListN.{get_or, take, drop, length, length-drop}
use lib.Seq.{take_at, take-append-le, drop-append-le, drop-drop}
use Rattle.std.specs.Simd.{first_chunks}
use Rattle.fips197.specs.Aes.{sixteen}
use Rattle.lanes.specs.Layout.{Width, slots, join}
use Rattle.lanes.specs.Schedule.{each_block, blocks_in}
use Rattle.lanes.proofs.EqualParts.{joined, joined_length, joined_same}

-- ---- parts joined, in two
pub joined_append : (f : ℕ → List ℕ) (n i m : ℕ) → joined f i (n + m) ≡ joined f i n ++ joined f (i + n) m
joined_append f zero i m =
    let e : 0 + m ≡ m = omega arith in
    let g : i + 0 ≡ i = omega arith in
    rw (e, g)
joined_append f (suc n) i m =
    let e : suc n + m ≡ suc (n + m) = omega arith in
    let g : suc i + n ≡ i + suc n = omega arith in
    ap (joined f i) e
    ∙ ap (λ (l : List ℕ). f i ++ l) (joined_append f n (suc i) m ∙ ap (λ (k : ℕ). joined f (suc i) n ++ joined f k m) g)
    ∙ sym (append_assoc (f i) (joined f (suc i) n) (joined f (i + suc n) m))

pub joined_from : (f : ℕ → List ℕ) (a n i : ℕ) → joined f (a + i) n ≡ joined (λ r. f (a + r)) i n
joined_from f a zero i = refl
joined_from f a (suc n) i =
    let e : suc (a + i) ≡ a + suc i = omega arith in
    ap (λ (l : List ℕ). f (a + i) ++ l) (ap (λ (k : ℕ). joined f k n) e ∙ joined_from f a n (suc i))

-- ---- how many blocks
pub blocks_are : (k : ℕ) (i : List ℕ) → length i ≡ 16 * k → blocks_in i ≡ k
unfolding blocks_in
blocks_are k i e = ap (λ (n : ℕ). n / 16) e ∙ mul-div_cancel_left k (lit< tt)

-- block r of the front, and of what is behind m blocks
front_block : (r k : ℕ) (i j : List ℕ) → 16 * k ≤ length i → r < k → sixteen (i ++ j) r ≡ sixteen i r
front_block r k i j h l =
    ap (take 16) (drop-append-le (16 * r) i j (omega arith))
    ∙ take-append-le 16 (drop (16 * r) i) j (omega (arith, length-drop (16 * r) i))

behind_block : (m r : ℕ) (i : List ℕ) → sixteen i (m + r) ≡ sixteen (drop (16 * m) i) r
behind_block m r i =
    let e : 16 * (m + r) ≡ 16 * m + 16 * r = omega arith in
    rw e (ap (take 16) (sym (drop-drop (16 * r) (16 * m) i)))

module _ (w : Width) (f : ℕ → List ℕ → List ℕ) where
  abbrev block_of : List ℕ → ℕ → List ℕ
  block_of i j = f (j % slots w) (sixteen i j)

  -- the first k blocks go by the first k blocks
  pub each_front : (k : ℕ) (i j : List ℕ) → 16 * k ≤ length i → each_block w f k (i ++ j) ≡ each_block w f k i
  unfolding each_block
  each_front k i j h = ap join (joined_same (block_of (i ++ j)) (block_of i) k 0 (λ r l. ap (f (r % slots w)) (front_block r k i j h (omega arith))))

  -- cut after a blocks, where each slot does what slot 0 and those after it do
  cut : (a k : ℕ) (i : List ℕ) → ((r : ℕ) → f ((a + r) % slots w) ≡ f (r % slots w))
      → each_block w f (a + k) i ≡ each_block w f a i ++ each_block w f k (drop (16 * a) i)
  unfolding each_block
  cut a k i same =
      let e : 0 + a ≡ a + 0 = omega arith in
      joined_append (block_of i) a 0 k
      ∙ ap (λ (l : List ℕ). joined (block_of i) 0 a ++ l)
      (ap (λ (n : ℕ). joined (block_of i) n k) e
      ∙ joined_from (block_of i) a k 0
      ∙ ap join (joined_same (λ r. block_of i (a + r)) (block_of (drop (16 * a) i)) k 0
      (λ r l. ap₂ (λ (g : List ℕ → List ℕ) (x : List ℕ). g x) (same r) (behind_block a r i))))

  -- so after m full batches
  pub each_cut : (m k : ℕ) (i : List ℕ)
      → each_block w f (slots w * m + k) i ≡ each_block w f (slots w * m) i ++ each_block w f k (drop (16 * (slots w * m)) i)
  each_cut m k i = cut (slots w * m) k i (λ r. ap f (mul-add-mod_self_left (slots w) m r))

  module _ (long : (b : ℕ) (x : List ℕ) → length (f b x) ≡ 16) where
    pub each_length : (k : ℕ) (i : List ℕ) → length (each_block w f k i) ≡ 16 * k
    unfolding each_block
    each_length k i = joined_length 16 (block_of i) k 0 (λ r l. long (r % slots w) (sixteen i r))

    -- the first r of k blocks
    pub each_take : (r k : ℕ) (i : List ℕ) → r ≤ k → take (16 * r) (each_block w f k i) ≡ each_block w f r i
    unfolding each_block
    each_take r k i h =
        let e : k ≡ r + (k - r) = omega arith in
        ap (λ (n : ℕ). take (16 * r) (joined (block_of i) 0 n)) e
        ∙ ap (take (16 * r)) (joined_append (block_of i) r 0 (k - r))
        ∙ take_at (joined (block_of i) 0 r) (joined (block_of i) (0 + r) (k - r)) (16 * r)
        (joined_length 16 (block_of i) r 0 (λ r l. long (r % slots w) (sixteen i r)))

-- and where all slots do the same, after any block
pub alike_cut : (w : Width) (g : List ℕ → List ℕ) (a k : ℕ) (i : List ℕ)
    → each_block w (λ slot. g) (a + k) i ≡ each_block w (λ slot. g) a i ++ each_block w (λ slot. g) k (drop (16 * a) i)
alike_cut w g a k i = cut w (λ slot. g) a k i (λ r. refl)

-- ---- block i of the k that as_chunks gives
pub chunk_at : (k i : ℕ) (xs : List ℕ) → i < k → get_or (first_chunks 16 k xs) i [] ≡ take 16 (drop (16 * i) xs)
chunk_at zero i xs h = absurd (omega arith)
chunk_at (suc k) zero xs h = refl
chunk_at (suc k) (suc i) xs h =
    chunk_at k i (drop 16 xs) (omega arith) ∙ ap (take 16) (drop-drop (16 * i) 16 xs ∙ ap (λ (n : ℕ). drop n xs) (omega arith))
