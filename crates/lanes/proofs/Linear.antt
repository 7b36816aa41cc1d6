-- The linear leaves: each word program does to every slot what its name says. One law a leaf, over the width and the form; the tests are
-- computed for each, the argument is `law`. Assumes nothing.
use mathlib.Core.Path.{◌≡◌, refl, sym, ap, ◌∙◌, subst}
use mathlib.Core.List.{List, [], ◌∷◌, ◌++◌, map}
use Prim.Native.Nat.{ℕ, zero, suc, ◌+◌, ◌*◌, ◌/◌, ◌%◌, ◌^◌, ◌<◌}
use native.Mathlib.Omega.{arith}
use lib.Dec.{lit≤}
use lib.Bits.{bit_xor}
use lib.ListN.{get_or, set, replicate}
use Rattle.fips197.specs.Bytes.{Fit}
use Rattle.fips197.specs.Aes.{range, product, xtime, shift_rows, inv_shift_rows, mix_columns, inv_mix_columns, add_round_key}
use Rattle.fips197.proofs.Blocks.{reads, fit_nil, fit_cons, fit_append, fit_reads, fit_map}
use Rattle.fips197.proofs.Layers.{Bytes, shift_rows_of, inv_shift_rows_of, mix_columns_of, inv_mix_columns_of, add_round_key_of, block_of, cell_of}
use Rattle.lanes.specs.Layout.{Width, w32, w64, bits, slots, slot}
use Rattle.lanes.specs.Schedule.{add63, rows_shifted, rows_unshifted}
use Rattle.lanes.specs.Leaves.{Does, all, mix_form, inv_mix_form, add_key_of, add_constant, key_columns, next_key_of}
use Rattle.lanes.specs.Programs.{words, each8, shift_word, column_word, nots_program, constant_program, mix_program, inv_mix_program}
use Rattle.lanes.proofs.Check.{Program, Meaning, law, law_of}

-- ---- what the leaves do to a block, over any bytes
module _ {A : Type 0} (o : Bytes A) where
  abbrev pub rows_shifted_of : ℕ → List A → List A
  rows_shifted_of zero s = s
  rows_shifted_of (suc n) s = shift_rows_of o (rows_shifted_of n s)

  abbrev pub rows_unshifted_of : ℕ → List A → List A
  rows_unshifted_of zero s = s
  rows_unshifted_of (suc n) s = inv_shift_rows_of o (rows_unshifted_of n s)

  abbrev pub mix_form_of : ℕ → List A → List A
  mix_form_of i s = rows_unshifted_of i (mix_columns_of o (rows_shifted_of i s))

  abbrev inv_mix_form_of : ℕ → List A → List A
  inv_mix_form_of i s = rows_unshifted_of i (inv_mix_columns_of o (rows_shifted_of i s))

  abbrev pub add63_of : List A → List A
  add63_of s = map (λ x. o.xor x (o.byte 0x63)) s

  abbrev key_column_of : ℕ → List A → List A → ℕ → ℕ → A
  key_column_of n prev t r zero = o.xor (cell_of o prev r 0) (cell_of o t (r + n) 3)
  key_column_of n prev t r (suc c) = o.xor (cell_of o prev r (suc c)) (key_column_of n prev t r c)

-- what a function does, where its result is known by an equation
pub does_is : {w : Width} {f : ℕ → List ℕ → List ℕ} {s r r' : List ℕ} → r ≡ r' → Does w f s r' → Does w f s r
does_is {w} {f} {s} e d = subst (Does w f s) (sym e) d

-- a number below four is one of four
pub four : (P : ℕ → Type 0) → P 0 → P 1 → P 2 → P 3 → (i : ℕ) → i < 4 → P i
four P a b c d zero h = a
four P a b c d (suc zero) h = b
four P a b c d (suc (suc zero)) h = c
four P a b c d (suc (suc (suc zero))) h = d
four P a b c d (suc (suc (suc (suc i)))) h = absurd (omega arith)

-- ---- mix_columns and inv_mix_columns
unfoldable pub mix_words : Width → ℕ → List ℕ → List ℕ
mix_words w i ws = mix_program (words w) w i (λ p. get_or ws p 0)

unfoldable pub inv_mix_words : Width → ℕ → List ℕ → List ℕ
inv_mix_words w i ws = inv_mix_program (words w) w i (λ p. get_or ws p 0)

mix32_0 : (ws : List ℕ) → Fit 32 ws → Does w32 (all (mix_form 0)) ws (mix_words w32 0 ws)
unfolding slot mix_words mix_form rows_shifted rows_unshifted shift_rows inv_shift_rows mix_columns product xtime
mix32_0 ws fit = record { each = law w32 (λ A o a. mix_program o w32 0 a) (λ A o a s b. mix_form_of o 0 (s 0 b)) ws fit tt }

mix32_1 : (ws : List ℕ) → Fit 32 ws → Does w32 (all (mix_form 1)) ws (mix_words w32 1 ws)
unfolding slot mix_words mix_form rows_shifted rows_unshifted shift_rows inv_shift_rows mix_columns product xtime
mix32_1 ws fit = record { each = law w32 (λ A o a. mix_program o w32 1 a) (λ A o a s b. mix_form_of o 1 (s 0 b)) ws fit tt }

mix32_2 : (ws : List ℕ) → Fit 32 ws → Does w32 (all (mix_form 2)) ws (mix_words w32 2 ws)
unfolding slot mix_words mix_form rows_shifted rows_unshifted shift_rows inv_shift_rows mix_columns product xtime
mix32_2 ws fit = record { each = law w32 (λ A o a. mix_program o w32 2 a) (λ A o a s b. mix_form_of o 2 (s 0 b)) ws fit tt }

mix32_3 : (ws : List ℕ) → Fit 32 ws → Does w32 (all (mix_form 3)) ws (mix_words w32 3 ws)
unfolding slot mix_words mix_form rows_shifted rows_unshifted shift_rows inv_shift_rows mix_columns product xtime
mix32_3 ws fit = record { each = law w32 (λ A o a. mix_program o w32 3 a) (λ A o a s b. mix_form_of o 3 (s 0 b)) ws fit tt }

mix64_0 : (ws : List ℕ) → Fit 64 ws → Does w64 (all (mix_form 0)) ws (mix_words w64 0 ws)
unfolding slot mix_words mix_form rows_shifted rows_unshifted shift_rows inv_shift_rows mix_columns product xtime
mix64_0 ws fit = record { each = law w64 (λ A o a. mix_program o w64 0 a) (λ A o a s b. mix_form_of o 0 (s 0 b)) ws fit tt }

mix64_1 : (ws : List ℕ) → Fit 64 ws → Does w64 (all (mix_form 1)) ws (mix_words w64 1 ws)
unfolding slot mix_words mix_form rows_shifted rows_unshifted shift_rows inv_shift_rows mix_columns product xtime
mix64_1 ws fit = record { each = law w64 (λ A o a. mix_program o w64 1 a) (λ A o a s b. mix_form_of o 1 (s 0 b)) ws fit tt }

mix64_2 : (ws : List ℕ) → Fit 64 ws → Does w64 (all (mix_form 2)) ws (mix_words w64 2 ws)
unfolding slot mix_words mix_form rows_shifted rows_unshifted shift_rows inv_shift_rows mix_columns product xtime
mix64_2 ws fit = record { each = law w64 (λ A o a. mix_program o w64 2 a) (λ A o a s b. mix_form_of o 2 (s 0 b)) ws fit tt }

mix64_3 : (ws : List ℕ) → Fit 64 ws → Does w64 (all (mix_form 3)) ws (mix_words w64 3 ws)
unfolding slot mix_words mix_form rows_shifted rows_unshifted shift_rows inv_shift_rows mix_columns product xtime
mix64_3 ws fit = record { each = law w64 (λ A o a. mix_program o w64 3 a) (λ A o a s b. mix_form_of o 3 (s 0 b)) ws fit tt }

pub mix_law : (w : Width) (i : ℕ) → i < 4 → {ws : List ℕ} → Fit (bits w) ws → Does w (all (mix_form i)) ws (mix_words w i ws)
mix_law w32 i h {ws} fit =
    four (λ i. Does w32 (all (mix_form i)) ws (mix_words w32 i ws))
    (mix32_0 ws fit) (mix32_1 ws fit) (mix32_2 ws fit) (mix32_3 ws fit) i h
mix_law w64 i h {ws} fit =
    four (λ i. Does w64 (all (mix_form i)) ws (mix_words w64 i ws))
    (mix64_0 ws fit) (mix64_1 ws fit) (mix64_2 ws fit) (mix64_3 ws fit) i h

inv_mix32_0 : (ws : List ℕ) → Fit 32 ws → Does w32 (all (inv_mix_form 0)) ws (inv_mix_words w32 0 ws)
unfolding slot inv_mix_words inv_mix_form rows_shifted rows_unshifted shift_rows inv_shift_rows inv_mix_columns product xtime
inv_mix32_0 ws fit = record { each = law w32 (λ A o a. inv_mix_program o w32 0 a) (λ A o a s b. inv_mix_form_of o 0 (s 0 b)) ws fit tt }

inv_mix32_1 : (ws : List ℕ) → Fit 32 ws → Does w32 (all (inv_mix_form 1)) ws (inv_mix_words w32 1 ws)
unfolding slot inv_mix_words inv_mix_form rows_shifted rows_unshifted shift_rows inv_shift_rows inv_mix_columns product xtime
inv_mix32_1 ws fit = record { each = law w32 (λ A o a. inv_mix_program o w32 1 a) (λ A o a s b. inv_mix_form_of o 1 (s 0 b)) ws fit tt }

inv_mix32_2 : (ws : List ℕ) → Fit 32 ws → Does w32 (all (inv_mix_form 2)) ws (inv_mix_words w32 2 ws)
unfolding slot inv_mix_words inv_mix_form rows_shifted rows_unshifted shift_rows inv_shift_rows inv_mix_columns product xtime
inv_mix32_2 ws fit = record { each = law w32 (λ A o a. inv_mix_program o w32 2 a) (λ A o a s b. inv_mix_form_of o 2 (s 0 b)) ws fit tt }

inv_mix32_3 : (ws : List ℕ) → Fit 32 ws → Does w32 (all (inv_mix_form 3)) ws (inv_mix_words w32 3 ws)
unfolding slot inv_mix_words inv_mix_form rows_shifted rows_unshifted shift_rows inv_shift_rows inv_mix_columns product xtime
inv_mix32_3 ws fit = record { each = law w32 (λ A o a. inv_mix_program o w32 3 a) (λ A o a s b. inv_mix_form_of o 3 (s 0 b)) ws fit tt }

inv_mix64_0 : (ws : List ℕ) → Fit 64 ws → Does w64 (all (inv_mix_form 0)) ws (inv_mix_words w64 0 ws)
unfolding slot inv_mix_words inv_mix_form rows_shifted rows_unshifted shift_rows inv_shift_rows inv_mix_columns product xtime
inv_mix64_0 ws fit = record { each = law w64 (λ A o a. inv_mix_program o w64 0 a) (λ A o a s b. inv_mix_form_of o 0 (s 0 b)) ws fit tt }

inv_mix64_1 : (ws : List ℕ) → Fit 64 ws → Does w64 (all (inv_mix_form 1)) ws (inv_mix_words w64 1 ws)
unfolding slot inv_mix_words inv_mix_form rows_shifted rows_unshifted shift_rows inv_shift_rows inv_mix_columns product xtime
inv_mix64_1 ws fit = record { each = law w64 (λ A o a. inv_mix_program o w64 1 a) (λ A o a s b. inv_mix_form_of o 1 (s 0 b)) ws fit tt }

inv_mix64_2 : (ws : List ℕ) → Fit 64 ws → Does w64 (all (inv_mix_form 2)) ws (inv_mix_words w64 2 ws)
unfolding slot inv_mix_words inv_mix_form rows_shifted rows_unshifted shift_rows inv_shift_rows inv_mix_columns product xtime
inv_mix64_2 ws fit = record { each = law w64 (λ A o a. inv_mix_program o w64 2 a) (λ A o a s b. inv_mix_form_of o 2 (s 0 b)) ws fit tt }

inv_mix64_3 : (ws : List ℕ) → Fit 64 ws → Does w64 (all (inv_mix_form 3)) ws (inv_mix_words w64 3 ws)
unfolding slot inv_mix_words inv_mix_form rows_shifted rows_unshifted shift_rows inv_shift_rows inv_mix_columns product xtime
inv_mix64_3 ws fit = record { each = law w64 (λ A o a. inv_mix_program o w64 3 a) (λ A o a s b. inv_mix_form_of o 3 (s 0 b)) ws fit tt }

pub inv_mix_law : (w : Width) (i : ℕ) → i < 4 → {ws : List ℕ} → Fit (bits w) ws → Does w (all (inv_mix_form i)) ws (inv_mix_words w i ws)
inv_mix_law w32 i h {ws} fit =
    four (λ i. Does w32 (all (inv_mix_form i)) ws (inv_mix_words w32 i ws))
    (inv_mix32_0 ws fit) (inv_mix32_1 ws fit) (inv_mix32_2 ws fit) (inv_mix32_3 ws fit) i h
inv_mix_law w64 i h {ws} fit =
    four (λ i. Does w64 (all (inv_mix_form i)) ws (inv_mix_words w64 i ws))
    (inv_mix64_0 ws fit) (inv_mix64_1 ws fit) (inv_mix64_2 ws fit) (inv_mix64_3 ws fit) i h

-- ---- shift_rows_n; n is 1, 2 or 3
unfoldable pub shift_words : Width → ℕ → List ℕ → List ℕ
shift_words w n ws = each8 (shift_word (words w) w n) (λ p. get_or ws p 0)

shift32_1 : (ws : List ℕ) → Fit 32 ws → Does w32 (all (rows_shifted 1)) ws (shift_words w32 1 ws)
unfolding slot shift_words rows_shifted shift_rows
shift32_1 ws fit = record { each = law w32 (λ A o a. each8 (shift_word o w32 1) a) (λ A o a s b. rows_shifted_of o 1 (s 0 b)) ws fit tt }

shift32_2 : (ws : List ℕ) → Fit 32 ws → Does w32 (all (rows_shifted 2)) ws (shift_words w32 2 ws)
unfolding slot shift_words rows_shifted shift_rows
shift32_2 ws fit = record { each = law w32 (λ A o a. each8 (shift_word o w32 2) a) (λ A o a s b. rows_shifted_of o 2 (s 0 b)) ws fit tt }

shift32_3 : (ws : List ℕ) → Fit 32 ws → Does w32 (all (rows_shifted 3)) ws (shift_words w32 3 ws)
unfolding slot shift_words rows_shifted shift_rows
shift32_3 ws fit = record { each = law w32 (λ A o a. each8 (shift_word o w32 3) a) (λ A o a s b. rows_shifted_of o 3 (s 0 b)) ws fit tt }

shift64_1 : (ws : List ℕ) → Fit 64 ws → Does w64 (all (rows_shifted 1)) ws (shift_words w64 1 ws)
unfolding slot shift_words rows_shifted shift_rows
shift64_1 ws fit = record { each = law w64 (λ A o a. each8 (shift_word o w64 1) a) (λ A o a s b. rows_shifted_of o 1 (s 0 b)) ws fit tt }

shift64_2 : (ws : List ℕ) → Fit 64 ws → Does w64 (all (rows_shifted 2)) ws (shift_words w64 2 ws)
unfolding slot shift_words rows_shifted shift_rows
shift64_2 ws fit = record { each = law w64 (λ A o a. each8 (shift_word o w64 2) a) (λ A o a s b. rows_shifted_of o 2 (s 0 b)) ws fit tt }

shift64_3 : (ws : List ℕ) → Fit 64 ws → Does w64 (all (rows_shifted 3)) ws (shift_words w64 3 ws)
unfolding slot shift_words rows_shifted shift_rows
shift64_3 ws fit = record { each = law w64 (λ A o a. each8 (shift_word o w64 3) a) (λ A o a s b. rows_shifted_of o 3 (s 0 b)) ws fit tt }

pub shift_law : (w : Width) (n : ℕ) → n < 3 → {ws : List ℕ} → Fit (bits w) ws → Does w (all (rows_shifted (suc n))) ws (shift_words w (suc n) ws)
shift_law w32 zero h {ws} fit = shift32_1 ws fit
shift_law w32 (suc zero) h {ws} fit = shift32_2 ws fit
shift_law w32 (suc (suc zero)) h {ws} fit = shift32_3 ws fit
shift_law w32 (suc (suc (suc n))) h {ws} fit = absurd (omega arith)
shift_law w64 zero h {ws} fit = shift64_1 ws fit
shift_law w64 (suc zero) h {ws} fit = shift64_2 ws fit
shift_law w64 (suc (suc zero)) h {ws} fit = shift64_3 ws fit
shift_law w64 (suc (suc (suc n))) h {ws} fit = absurd (omega arith)

-- ---- sub_bytes_nots
unfoldable pub not_words : Width → List ℕ → List ℕ
not_words w ws = nots_program (words w) w (λ p. get_or ws p 0)

pub nots_law : (w : Width) {ws : List ℕ} → Fit (bits w) ws → Does w (all add63) ws (not_words w ws)
unfolding slot not_words add63
nots_law w32 {ws} fit = record { each = law w32 (λ A o a. nots_program o w32 a) (λ A o a s b. add63_of o (s 0 b)) ws fit tt }
nots_law w64 {ws} fit = record { each = law w64 (λ A o a. nots_program o w64 a) (λ A o a s b. add63_of o (s 0 b)) ws fit tt }

-- ---- two states, one after the other
pair_fits : {W : ℕ} {s t : List ℕ} → Fit W s → Fit W t → Fit W (reads 0 8 s ++ reads 0 8 t)
pair_fits f g = fit_append (fit_reads 0 8 f) (fit_reads 0 8 g)

-- add_round_key
unfoldable pub add_words : List ℕ → List ℕ → List ℕ
add_words s t = map (λ p. bit_xor (get_or s p 0) (get_or t p 0)) (range 0 8)

abbrev add_program : Program
add_program A o a = map (λ p. o.xor (a p) (a (8 + p))) (range 0 8)

abbrev add_meaning : Meaning
add_meaning A o a s b = add_round_key_of o (s 0 b) (s 1 b)

pub add_law : (w : Width) {s t : List ℕ} → Fit (bits w) s → Fit (bits w) t → Does w (add_key_of w t) s (add_words s t)
unfolding slot add_words add_round_key
add_law w32 {s} {t} f g = record { each = law w32 add_program add_meaning (reads 0 8 s ++ reads 0 8 t) (pair_fits f g) tt }
add_law w64 {s} {t} f g = record { each = law w64 add_program add_meaning (reads 0 8 s ++ reads 0 8 t) (pair_fits f g) tt }

-- xor_columns: n is 0 or 1
unfoldable pub column_words : Width → ℕ → List ℕ → List ℕ → List ℕ
column_words w n prev cur = map (λ p. column_word (words w) w n (get_or prev p 0) (get_or cur p 0)) (range 0 8)

abbrev columns_program : Width → ℕ → Program
columns_program w n A o a = map (λ p. column_word o w n (a p) (a (8 + p))) (range 0 8)

abbrev columns_meaning : ℕ → Meaning
columns_meaning n A o a s b = block_of o (key_column_of o n (s 0 b) (s 1 b))

columns32_0 : (prev cur : List ℕ) → Fit 32 prev → Fit 32 cur → Does w32 (next_key_of w32 0 prev) cur (column_words w32 0 prev cur)
unfolding slot column_words key_columns
columns32_0 prev cur f g = record {
  each = law w32 (columns_program w32 0) (columns_meaning 0) (reads 0 8 prev ++ reads 0 8 cur) (pair_fits f g) tt;
}

columns32_1 : (prev cur : List ℕ) → Fit 32 prev → Fit 32 cur → Does w32 (next_key_of w32 1 prev) cur (column_words w32 1 prev cur)
unfolding slot column_words key_columns
columns32_1 prev cur f g = record {
  each = law w32 (columns_program w32 1) (columns_meaning 1) (reads 0 8 prev ++ reads 0 8 cur) (pair_fits f g) tt;
}

columns64_0 : (prev cur : List ℕ) → Fit 64 prev → Fit 64 cur → Does w64 (next_key_of w64 0 prev) cur (column_words w64 0 prev cur)
unfolding slot column_words key_columns
columns64_0 prev cur f g = record {
  each = law w64 (columns_program w64 0) (columns_meaning 0) (reads 0 8 prev ++ reads 0 8 cur) (pair_fits f g) tt;
}

columns64_1 : (prev cur : List ℕ) → Fit 64 prev → Fit 64 cur → Does w64 (next_key_of w64 1 prev) cur (column_words w64 1 prev cur)
unfolding slot column_words key_columns
columns64_1 prev cur f g = record {
  each = law w64 (columns_program w64 1) (columns_meaning 1) (reads 0 8 prev ++ reads 0 8 cur) (pair_fits f g) tt;
}

pub columns_law : (w : Width) (n : ℕ) → n < 2 → {prev cur : List ℕ} → Fit (bits w) prev
    → Fit (bits w) cur → Does w (next_key_of w n prev) cur (column_words w n prev cur)
columns_law w32 zero h {prev} {cur} f g = columns32_0 prev cur f g
columns_law w32 (suc zero) h {prev} {cur} f g = columns32_1 prev cur f g
columns_law w32 (suc (suc n)) h f g = absurd (omega arith)
columns_law w64 zero h {prev} {cur} f g = columns64_0 prev cur f g
columns_law w64 (suc zero) h {prev} {cur} f g = columns64_1 prev cur f g
columns_law w64 (suc (suc n)) h f g = absurd (omega arith)

-- ---- the round constant
unfoldable pub constant_words : Width → ℕ → List ℕ
constant_words w x = constant_program (words w) w x

-- the byte x alone, at row 1 and column 3
abbrev constant_meaning : Meaning
constant_meaning A o a s b = set (replicate 16 (o.byte 0)) 13 (a 0)

constant_slot : (w : Width) (x : ℕ) → x < 2 ^ 8 → (b : ℕ) → b < slots w → slot w (constant_words w x) b ≡ set (replicate 16 0) 13 x
unfolding slot constant_words
constant_slot w32 x h = law_of 8 (lit≤ tt) w32 (λ A o a. constant_program o w32 (a 0)) constant_meaning (x ∷ []) (fit_cons x h (fit_nil 8)) tt
constant_slot w64 x h = law_of 8 (lit≤ tt) w64 (λ A o a. constant_program o w64 (a 0)) constant_meaning (x ∷ []) (fit_cons x h (fit_nil 8)) tt

constant_fits : (w : Width) (x : ℕ) → Fit (bits w) (constant_words w x)
unfolding constant_words
constant_fits w32 x = fit_map 32 (λ p. x / 2 ^ p % 2 * 0xc000) (λ p. omega arith) (range 0 8)
constant_fits w64 x = fit_map 64 (λ p. x / 2 ^ p % 2 * 0xf0000000) (λ p. omega arith) (range 0 8)

pub constant_law : (w : Width) (x : ℕ) → x < 2 ^ 8 → {ws : List ℕ} → Fit (bits w) ws → Does w (all (add_constant x)) ws (add_words ws (constant_words w x))
unfolding add_constant
constant_law w x h {ws} fit = record { each = λ b l. (add_law w fit (constant_fits w x)).each b l ∙ ap (add_round_key (slot w ws b)) (constant_slot w x h b l) }

-- ---- the inverse row shifts are row shifts
pub unshift_1 : (w : Width) (ws : List ℕ) (b : ℕ) → rows_shifted 3 (slot w ws b) ≡ rows_unshifted 1 (slot w ws b)
unfolding slot rows_shifted rows_unshifted shift_rows inv_shift_rows
unshift_1 w ws b = refl

pub unshift_2 : (w : Width) (ws : List ℕ) (b : ℕ) → rows_shifted 2 (slot w ws b) ≡ rows_unshifted 2 (slot w ws b)
unfolding slot rows_shifted rows_unshifted shift_rows inv_shift_rows
unshift_2 w ws b = refl

pub unshift_3 : (w : Width) (ws : List ℕ) (b : ℕ) → rows_shifted 1 (slot w ws b) ≡ rows_unshifted 3 (slot w ws b)
unfolding slot rows_shifted rows_unshifted shift_rows inv_shift_rows
unshift_3 w ws b = refl
