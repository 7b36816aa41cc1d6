-- The row shifts by their calls: the program's two swaps, the law of the words over every number, and what undoes them. Assumes nothing.
use mathlib.Core.Path.{◌≡◌, refl, ◌∙◌}
use mathlib.Core.List.{List, map}
use Prim.Native.Nat.{ℕ, zero, suc, ◌*◌, ◌<◌}
use native.Mathlib.Omega.{arith}
use lib.ListN.{get_or, length, length-map}
use Rattle.fips197.specs.Bytes.{Fit}
use Rattle.fips197.proofs.Blocks.{reads_all}
use Rattle.lanes.specs.Layout.{Width, bits, quarter_row}
use Rattle.lanes.specs.Masks.{pack_rows}
use Rattle.lanes.specs.Schedule.{rows_shifted, rows_unshifted}
use Rattle.lanes.specs.Leaves.{Does, all}
use Rattle.lanes.specs.Programs.{words, each8, delta_swap1, shift_word}
use Rattle.lanes.proofs.Linear.{shift_words, shift_law, unshift_1, unshift_2, unshift_3, does_is}
use Rattle.lanes.proofs.Calls.{numbered}

module _ (w : Width) where
  -- a swap of halves and one of quarters, by the words between
  pub swaps : (x y z h q m o : ℕ) → y ≡ delta_swap1 (words w) w h m x → z ≡ delta_swap1 (words w) w q o y
      → h ≡ quarter_row w * 2 → q ≡ quarter_row w → o ≡ pack_rows w 0 0x33 0 0x33
      → z ≡ delta_swap1 (words w) w (quarter_row w) (pack_rows w 0 0x33 0 0x33) (delta_swap1 (words w) w (quarter_row w * 2) m x)
  swaps x y z h q m o a b c d e = cc

  -- the law of the words, for no shift too
  pub shift_does : {A : Type 0} (v : A → ℕ) (s : List A) → length s ≡ 8 → Fit (bits w) (map v s) → (n : ℕ) → n < 4 → {r : List ℕ}
      → r ≡ each8 (shift_word (words w) w n) (λ p. get_or (map v s) p 0) → Does w (all (rows_shifted n)) (map v s) r
  unfolding rows_shifted shift_words
  shift_does v s l fit zero h e = does_is (e ∙ reads_all (map v s) 8 (simp length-map l)) (record { each = λ b h. refl })
  shift_does v s l fit (suc n) h e = does_is e (shift_law w n (omega arith) fit)

  -- 0, 1, 2 and 3 inverse row shifts are 0, 3, 2 and 1 row shifts
  pub back_0 : {t : ℕ} (s : List ℕ) → t ≡ 0 → Does w (all (rows_unshifted t)) s s
  unfolding rows_unshifted
  back_0 s e = numbered rows_unshifted e (record { each = λ b h. refl })

  pub back_1 : {t : ℕ} {s r : List ℕ} → t ≡ 1 → Does w (all (rows_shifted 3)) s r → Does w (all (rows_unshifted t)) s r
  back_1 {t} {s} e d = numbered rows_unshifted e (record { each = λ b h. d.each b h ∙ unshift_1 w s b })

  pub back_2 : {t : ℕ} {s r : List ℕ} → t ≡ 2 → Does w (all (rows_shifted 2)) s r → Does w (all (rows_unshifted t)) s r
  back_2 {t} {s} e d = numbered rows_unshifted e (record { each = λ b h. d.each b h ∙ unshift_2 w s b })

  pub back_3 : {t : ℕ} {s r : List ℕ} → t ≡ 3 → Does w (all (rows_shifted 1)) s r → Does w (all (rows_unshifted t)) s r
  back_3 {t} {s} e d = numbered rows_unshifted e (record { each = λ b h. d.each b h ∙ unshift_3 w s b })
