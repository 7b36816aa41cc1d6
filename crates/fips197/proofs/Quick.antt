-- KeyExpansion, Cipher and InvCipher written once over any inverse: at `inverse` they are FIPS-197's, and with the inverse looked up they are
-- quick to compute. Assumes nothing.
use mathlib.Core.Path.{◌≡◌, refl, ap, ◌∙◌, fun_ext}
use mathlib.Core.Bool.{Bool, true, false, ◌&&◌, cond}
use mathlib.Core.List.{List, [], ◌∷◌, ◌++◌, map}
use Prim.Native.Nat.{ℕ, zero, suc, ◌+◌, ◌-◌, ◌*◌, ◌/◌, ◌%◌, ◌<◌}
use lib.Dec.{T, eqb, ltb, ltb→lt}
use lib.ListN.{get_or}
use Rattle.fips197.specs.Aes.{range, xtime, product, inverse, affine, inv_affine, sbox, inv_sbox, sub_bytes, inv_sub_bytes, shift_rows, inv_shift_rows}
use Rattle.fips197.specs.Aes.{mix_columns, inv_mix_columns, add_round_key, word_of, rot_word, sub_word, add_word, round_constants, rcon, key_temp}
use Rattle.fips197.specs.Aes.{more_words, rounds_for, key_words, sixteen, key_expansion, rounds, cipher, inv_rounds, inv_cipher}
use Rattle.fips197.proofs.Tables.{inverses, looked, inverse_at}

module _ (inv : ℕ → ℕ) where
  abbrev sbox_of : ℕ → ℕ
  sbox_of b = affine (inv b)

  abbrev sub_word_of : List ℕ → List ℕ
  sub_word_of w = sbox_of (get_or w 0 0) ∷ sbox_of (get_or w 1 0) ∷ sbox_of (get_or w 2 0) ∷ sbox_of (get_or w 3 0) ∷ []

  abbrev key_temp_of : ℕ → ℕ → List ℕ → List ℕ
  key_temp_of nk i temp =
      cond (eqb (i % nk) 0) (add_word (sub_word_of (rot_word temp)) (rcon (i / nk)))
      (cond (ltb 6 nk && eqb (i % nk) 4) (sub_word_of temp) temp)

  abbrev more_words_of : ℕ → ℕ → ℕ → List ℕ → List ℕ
  more_words_of nk zero i ws = ws
  more_words_of nk (suc n) i ws = more_words_of nk n (suc i) (ws ++ add_word (word_of ws (i - nk)) (key_temp_of nk i (word_of ws (i - 1))))

  abbrev expansion_of : ℕ → List ℕ → List (List ℕ)
  expansion_of nk key =
      let ws = more_words_of nk (4 * (rounds_for nk + 1) - nk) nk key in
      map (sixteen ws) (range 0 (rounds_for nk + 1))

  abbrev rounds_of : List (List ℕ) → List ℕ → List ℕ
  rounds_of [] s = s
  rounds_of (k ∷ []) s = add_round_key (shift_rows (map sbox_of s)) k
  rounds_of (k ∷ l ∷ ks) s = rounds_of (l ∷ ks) (add_round_key (mix_columns (shift_rows (map sbox_of s))) k)

  abbrev cipher_of : List (List ℕ) → List ℕ → List ℕ
  cipher_of [] s = s
  cipher_of (k ∷ ks) s = rounds_of ks (add_round_key s k)

  abbrev inv_sub_bytes_of : List ℕ → List ℕ
  inv_sub_bytes_of s = map (λ b. inv (inv_affine b)) s

  abbrev inv_rounds_of : List (List ℕ) → List ℕ → List ℕ
  inv_rounds_of [] s = s
  inv_rounds_of (k ∷ []) s = inv_sub_bytes_of (inv_shift_rows (add_round_key s k))
  inv_rounds_of (k ∷ l ∷ ks) s = inv_sub_bytes_of (inv_shift_rows (inv_mix_columns (add_round_key (inv_rounds_of (l ∷ ks) s) k)))

  abbrev inv_cipher_of : List (List ℕ) → List ℕ → List ℕ
  inv_cipher_of [] s = s
  inv_cipher_of (k ∷ ks) s = add_round_key (inv_rounds_of ks s) k

-- ---- at `inverse` they are FIPS-197's
more_words_is : (nk n i : ℕ) (ws : List ℕ) → more_words nk n i ws ≡ more_words_of inverse nk n i ws
unfolding more_words key_temp sub_word sbox
more_words_is nk zero i ws = refl
more_words_is nk (suc n) i ws = more_words_is nk n (suc i) (ws ++ add_word (word_of ws (i - nk)) (key_temp nk i (word_of ws (i - 1))))

rounds_is : (ks : List (List ℕ)) (s : List ℕ) → rounds ks s ≡ rounds_of inverse ks s
unfolding rounds sub_bytes sbox
rounds_is [] s = refl
rounds_is (k ∷ []) s = refl
rounds_is (k ∷ l ∷ ks) s = rounds_is (l ∷ ks) (add_round_key (mix_columns (shift_rows (sub_bytes s))) k)

cipher_is : (ks : List (List ℕ)) (s : List ℕ) → cipher ks s ≡ cipher_of inverse ks s
unfolding cipher
cipher_is [] s = refl
cipher_is (k ∷ ks) s = rounds_is ks (add_round_key s k)

inv_rounds_is : (ks : List (List ℕ)) (s : List ℕ) → inv_rounds ks s ≡ inv_rounds_of inverse ks s
unfolding inv_rounds inv_sub_bytes inv_sbox
inv_rounds_is [] s = refl
inv_rounds_is (k ∷ []) s = refl
inv_rounds_is (k ∷ l ∷ ks) s = ap (λ (t : List ℕ). inv_sub_bytes (inv_shift_rows (inv_mix_columns (add_round_key t k)))) (inv_rounds_is (l ∷ ks) s)

inv_cipher_is : (ks : List (List ℕ)) (s : List ℕ) → inv_cipher ks s ≡ inv_cipher_of inverse ks s
unfolding inv_cipher
inv_cipher_is [] s = refl
inv_cipher_is (k ∷ ks) s = ap (λ (t : List ℕ). add_round_key t k) (inv_rounds_is ks s)

-- ---- the inverse of any number, looked up where it is a byte
abbrev quick : ℕ → ℕ
quick x = elim (ltb x 256) [ true ↦ looked x | false ↦ inverse x ]

quick_is : inverse ≡ quick
quick_is = fun_ext (λ x. go x (ltb x 256) (ltb→lt x 256))
  where
    go : (x : ℕ) (b : Bool) → (T b → x < 256) → inverse x ≡ elim b [ true ↦ looked x | false ↦ inverse x ]
    go x true h = inverse_at x (h tt)
    go x false h = refl

unfoldable pub quick_expansion : ℕ → List ℕ → List (List ℕ)
unfolding looked inverses affine rot_word add_word round_constants rcon
quick_expansion nk key = expansion_of quick nk key

unfoldable pub quick_cipher : List (List ℕ) → List ℕ → List ℕ
unfolding looked inverses affine shift_rows mix_columns product xtime add_round_key
quick_cipher ks s = cipher_of quick ks s

unfoldable pub quick_inv_cipher : List (List ℕ) → List ℕ → List ℕ
unfolding looked inverses inv_affine inv_shift_rows inv_mix_columns product xtime add_round_key
quick_inv_cipher ks s = inv_cipher_of quick ks s

pub expansion_quick : (nk : ℕ) (key : List ℕ) → key_expansion nk key ≡ quick_expansion nk key
unfolding key_expansion key_words quick_expansion
expansion_quick nk key =
    ap (λ (ws : List ℕ). map (sixteen ws) (range 0 (rounds_for nk + 1))) (more_words_is nk (4 * (rounds_for nk + 1) - nk) nk key)
    ∙ ap (λ (inv : ℕ → ℕ). expansion_of inv nk key) quick_is

pub cipher_quick : (ks : List (List ℕ)) (s : List ℕ) → cipher ks s ≡ quick_cipher ks s
unfolding quick_cipher
cipher_quick ks s = cipher_is ks s ∙ ap (λ (inv : ℕ → ℕ). cipher_of inv ks s) quick_is

pub inv_cipher_quick : (ks : List (List ℕ)) (s : List ℕ) → inv_cipher ks s ≡ quick_inv_cipher ks s
unfolding quick_inv_cipher
inv_cipher_quick ks s = inv_cipher_is ks s ∙ ap (λ (inv : ℕ → ℕ). inv_cipher_of inv ks s) quick_is
