-- KeyExpansion: the standard's rule for each word, the round keys' lengths and bytes, and the key read back. Assumes nothing.
use mathlib.Core.Path.{◌≡◌, refl, sym, ap, ap₂, ◌∙◌}
use mathlib.Core.Bool.{◌&&◌}
use mathlib.Core.List.{List, [], ◌∷◌, ◌++◌, map}
use Prim.Native.Nat.{ℕ, zero, suc, ◌+◌, ◌-◌, ◌*◌, ◌/◌, ◌%◌, ◌^◌, ◌≤◌, ◌<◌}
use native.Mathlib.Omega.{arith}
use native.Mathlib.Nat.{add-zero, zero-add}
use native.Mathlib.Decide.{dec_lt}
use lib.Bits.{bit_xor, xor_lt}
use lib.Dec.{eqb, ltb}
use lib.ListN.{get_or, take, drop, length, length-append, length-drop}
use lib.Seq.{take-append-le, drop-append-le, take_at, drop_at, take-take, take-add, length-take-le, take_all}
use Rattle.fips197.specs.Bytes.{Fit, Block}
use Rattle.fips197.specs.Aes.{range, sbox, word_of, sixteen, rot_word, sub_word, add_word, round_constants, rcon, key_temp, more_words}
use Rattle.fips197.specs.Aes.{rounds_for, key_words, key_expansion}
use Rattle.fips197.proofs.Tables.{sbox_lt}
use Rattle.fips197.proofs.Blocks.{chosen, fit_nil, fit_cons, fit_test, fit_append, fit_drop, fit_take}
use Rattle.fips197.proofs.Ciphers.{Blocks, none, more}

-- ---- words of longer lists
pub word_prefix : (xs ys : List ℕ) (i : ℕ) → 4 * i + 4 ≤ length xs → word_of (xs ++ ys) i ≡ word_of xs i
word_prefix xs ys i h =
    let a : 4 * i ≤ length xs = omega arith in
    let b : 4 ≤ length (drop (4 * i) xs) = omega (arith, length-drop (4 * i) xs) in
    rw (drop-append-le (4 * i) xs ys a) (take-append-le 4 (drop (4 * i) xs) ys b)

word_next : (xs w : List ℕ) (i : ℕ) → length xs ≡ 4 * i → length w ≡ 4 → word_of (xs ++ w) i ≡ w
word_next xs w i e f = rw (drop_at xs w (4 * i) e) (take_all 4 w (omega arith))

add_length : (v w : List ℕ) → length (add_word v w) ≡ 4
unfolding add_word
add_length v w = refl

-- ---- the bytes so far stay as they are, and each further word follows the rule
module _ (nk : ℕ) where
  -- the word that the rule gives, of words i - nk and i - 1
  abbrev pub ruled : List ℕ → ℕ → List ℕ
  ruled ws i = add_word (word_of ws (i - nk)) (key_temp nk i (word_of ws (i - 1)))

  ruled_length : (ws : List ℕ) (i : ℕ) → length (ruled ws i) ≡ 4
  ruled_length ws i = add_length (word_of ws (i - nk)) (key_temp nk i (word_of ws (i - 1)))

  longer : (i : ℕ) (ws : List ℕ) → length ws ≡ 4 * i → length (ws ++ ruled ws i) ≡ 4 * suc i
  longer i ws e = length-append ws (ruled ws i) ∙ rw (e, ruled_length ws i) (omega arith)

  pub more_length : (n i : ℕ) (ws : List ℕ) → length ws ≡ 4 * i → length (more_words nk n i ws) ≡ 4 * (i + n)
  unfolding more_words
  more_length zero i ws e = rw (add-zero i) e
  more_length (suc n) i ws e =
      more_length n (suc i) (ws ++ ruled ws i) (longer i ws e) ∙ omega arith

  pub more_keeps : (n i : ℕ) (ws : List ℕ) → (rest : List ℕ) × (more_words nk n i ws ≡ ws ++ rest)
  unfolding more_words
  more_keeps zero i ws = ([], sym (mathlib.Core.List.append-nil ws))
  more_keeps (suc n) i ws =
      let r = more_keeps n (suc i) (ws ++ ruled ws i) in
      (ruled ws i ++ r.0, r.1 ∙ mathlib.Core.List.append_assoc ws (ruled ws i) r.0)

  -- a word of the bytes so far
  more_word : (n i : ℕ) (ws : List ℕ) (j : ℕ) → length ws ≡ 4 * i → j < i → word_of (more_words nk n i ws) j ≡ word_of ws j
  more_word n i ws j e h = let r = more_keeps n i ws in rw r.1 (word_prefix ws r.0 j (omega arith))

  more_rule : (n i : ℕ) (ws : List ℕ) → 1 ≤ nk → nk ≤ i → length ws ≡ 4 * i → (j : ℕ) → i ≤ j → j < i + n
      → word_of (more_words nk n i ws) j ≡ ruled (more_words nk n i ws) j
  unfolding more_words
  more_rule zero i ws p h e j l m = absurd (omega arith)
  more_rule (suc n) i ws p h e j l m = pick (λ q. more_rule n (suc i) ws' p (omega arith) long j q (omega arith)) (dec_lt i j)
    where
      ws' : List ℕ
      ws' = ws ++ ruled ws i

      long : length ws' ≡ 4 * suc i
      long = longer i ws e

      -- the words that the rule reads are among those so far
      old : (k : ℕ) → k < i → word_of (more_words nk n (suc i) ws') k ≡ word_of ws k
      old k q = more_word n (suc i) ws' k long (omega arith) ∙ word_prefix ws (ruled ws i) k (omega arith)

      pick : (i < j → word_of (more_words nk n (suc i) ws') j ≡ ruled (more_words nk n (suc i) ws') j)
          → Dec (i < j) → word_of (more_words nk n (suc i) ws') j ≡ ruled (more_words nk n (suc i) ws') j
      pick rest (yes q) = rest q
      pick rest (no q) =
          let f : j ≡ i = omega arith in
          rw f (more_word n (suc i) ws' i long (omega arith)
          ∙ word_next ws (ruled ws i) i e (ruled_length ws i)
          ∙ ap₂ (λ (v w : List ℕ). add_word v (key_temp nk i w)) (sym (old (i - nk) (omega arith))) (sym (old (i - 1) (omega arith))))

-- ---- KeyExpansion
module _ (nk : ℕ) (key : List ℕ) (pos : 1 ≤ nk) (long : length key ≡ 4 * nk) where
  pub words_length : length (key_words nk key) ≡ 16 * (rounds_for nk + 1)
  unfolding key_words
  words_length = more_length nk (4 * (rounds_for nk + 1) - nk) nk key long ∙ omega arith

  -- 5.2: the rule of each word
  pub word_rule : (i : ℕ) → nk ≤ i → i < 4 * (rounds_for nk + 1)
      → word_of (key_words nk key) i ≡ add_word (word_of (key_words nk key) (i - nk)) (key_temp nk i (word_of (key_words nk key) (i - 1)))
  unfolding key_words
  word_rule i h l = more_rule nk (4 * (rounds_for nk + 1) - nk) nk key pos (omega arith) long i h (omega arith)

  -- the key stands at the front
  pub key_first : take (4 * nk) (key_words nk key) ≡ key
  unfolding key_words
  key_first = let r = more_keeps nk (4 * (rounds_for nk + 1) - nk) nk key in rw r.1 (take_at key r.0 (4 * nk) long)

range_at : {A : Type 0} (f : ℕ → A) (d : A) (n i k : ℕ) → k < n → get_or (map f (range i n)) k d ≡ f (i + k)
range_at f d zero i k h = absurd (omega arith)
range_at f d (suc n) i zero h = ap f (sym (add-zero i))
range_at f d (suc n) i (suc k) h = let e : suc i + k ≡ i + suc k = omega arith in range_at f d n (suc i) k (omega arith) ∙ ap f e

-- round key r
pub key_at : (nk : ℕ) (key : List ℕ) (r : ℕ) → r < rounds_for nk + 1 → get_or (key_expansion nk key) r [] ≡ sixteen (key_words nk key) r
unfolding key_expansion
key_at nk key r h = range_at (sixteen (key_words nk key)) [] (rounds_for nk + 1) 0 r h ∙ ap (sixteen (key_words nk key)) (zero-add r)

-- the key read back from the first two round keys
pub key_back : (nk : ℕ) (key : List ℕ) → 1 ≤ nk → nk ≤ 8 → length key ≡ 4 * nk
    → take (4 * nk) (get_or (key_expansion nk key) 0 [] ++ get_or (key_expansion nk key) 1 []) ≡ key
key_back nk key p q e =
    let w : List ℕ = key_words nk key in
    let h : take 32 w ≡ take 16 w ++ take 16 (drop 16 w) = take-add 16 16 w in
    rw (key_at nk key 0 (omega arith), key_at nk key 1 (omega arith), ← h, take-take (4 * nk) 32 w (omega arith)) (key_first nk key p e)

-- KeyExpansion of two different keys of one length differs
pub expansion_one : (nk : ℕ) (k l : List ℕ) → 1 ≤ nk → nk ≤ 8 → length k ≡ 4 * nk → length l ≡ 4 * nk → key_expansion nk k ≡ key_expansion nk l → k ≡ l
expansion_one nk k l p q e f h =
    sym (key_back nk k p q e) ∙ ap (λ (ks : List (List ℕ)). take (4 * nk) (get_or ks 0 [] ++ get_or ks 1 [])) h ∙ key_back nk l p q f

-- ---- bytes stay bytes, and round keys are blocks
add_word_fits : (v w : List ℕ) → Fit 8 v → Fit 8 w → Fit 8 (add_word v w)
unfolding add_word
add_word_fits v w f g =
    let at : (i : ℕ) → bit_xor (get_or v i 0) (get_or w i 0) < 2 ^ 8 = λ i. xor_lt 8 (get_or v i 0) (get_or w i 0) (f.at i) (g.at i) in
    fit_cons _ (at 0) (fit_cons _ (at 1) (fit_cons _ (at 2) (fit_cons _ (at 3) (fit_nil 8))))

sub_word_fits : (w : List ℕ) → Fit 8 w → Fit 8 (sub_word w)
unfolding sub_word
sub_word_fits w f =
    let at : (i : ℕ) → sbox (get_or w i 0) < 2 ^ 8 = λ i. sbox_lt (get_or w i 0) (f.at i) in
    fit_cons _ (at 0) (fit_cons _ (at 1) (fit_cons _ (at 2) (fit_cons _ (at 3) (fit_nil 8))))

rot_word_fits : (w : List ℕ) → Fit 8 w → Fit 8 (rot_word w)
unfolding rot_word
rot_word_fits w f = fit_cons _ (f.at 1) (fit_cons _ (f.at 2) (fit_cons _ (f.at 3) (fit_cons _ (f.at 0) (fit_nil 8))))

rcon_fits : (j : ℕ) → Fit 8 (rcon j)
unfolding rcon round_constants
rcon_fits j = fit_cons _ ((fit_test 8 round_constants tt).at (j - 1)) (fit_test 8 (0 ∷ 0 ∷ 0 ∷ []) tt)

temp_fits : (nk i : ℕ) (w : List ℕ) → Fit 8 w → Fit 8 (key_temp nk i w)
unfolding key_temp
temp_fits nk i w f =
    chosen (Fit 8) (eqb (i % nk) 0)
    (add_word_fits (sub_word (rot_word w)) (rcon (i / nk)) (sub_word_fits (rot_word w) (rot_word_fits w f)) (rcon_fits (i / nk)))
    (chosen (Fit 8) (◌&&◌ (ltb 6 nk) (eqb (i % nk) 4)) (sub_word_fits w f) f)

more_fits : (nk n i : ℕ) (ws : List ℕ) → Fit 8 ws → Fit 8 (more_words nk n i ws)
unfolding more_words
more_fits nk zero i ws f = f
more_fits nk (suc n) i ws f =
    let part : (j : ℕ) → Fit 8 (word_of ws j) = λ j. fit_take 4 (drop (4 * j) ws) (fit_drop (4 * j) ws f) in
    more_fits nk n (suc i) (ws ++ ruled nk ws i)
    (fit_append f
    (add_word_fits (word_of ws (i - nk)) (key_temp nk i (word_of ws (i - 1))) (part (i - nk)) (temp_fits nk i (word_of ws (i - 1)) (part (i - 1)))))

module _ (nk : ℕ) (key : List ℕ) (pos : 1 ≤ nk) (long : length key ≡ 4 * nk) (fits : Fit 8 key) where
  pub words_fit : Fit 8 (key_words nk key)
  unfolding key_words
  words_fit = more_fits nk (4 * (rounds_for nk + 1) - nk) nk key fits

  pub key_block : (r : ℕ) → r < rounds_for nk + 1 → Block (sixteen (key_words nk key) r)
  key_block r h = record {
    long = length-take-le 16 (drop (16 * r) (key_words nk key)) (rw (length-drop (16 * r) (key_words nk key), words_length nk key pos long) (omega arith));
    bytes = fit_take 16 (drop (16 * r) (key_words nk key)) (fit_drop (16 * r) (key_words nk key) words_fit);
  }

  pub expansion_blocks : Blocks (key_expansion nk key)
  unfolding key_expansion
  expansion_blocks = go (rounds_for nk + 1) 0 (omega arith)
    where
      go : (n i : ℕ) → i + n ≤ rounds_for nk + 1 → Blocks (map (sixteen (key_words nk key)) (range i n))
      go zero i h = none
      go (suc n) i h = more (key_block i (omega arith)) (go n (suc i) (omega arith))
