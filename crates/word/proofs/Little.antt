-- Eight bytes as std's little-endian word are the word program's. Assumes nothing.
use mathlib.Core.Path.{◌≡◌, refl, sym, ap₂, ◌∙◌}
use mathlib.Core.List.{[], ◌∷◌}
use Prim.Native.Nat.{ℕ, ◌+◌, ◌*◌, ◌%◌, ◌^◌, ◌<◌}
use native.Mathlib.Nat.{mod-eq_of_lt}
use native.Mathlib.Omega.{arith}
use lib.Bits.{bit_or, or_shifted_r}
use Rattle.std.specs.Int as Int
use Rattle.lanes.specs.Layout.{w64}
use Rattle.lanes.specs.Programs.{words, load_word}

-- one byte more, at bit k
byte_more : (k x : ℕ) {s t : ℕ} → t < 2 ^ k → x * 2 ^ k < 2 ^ 64 → t ≡ s → t + x * 2 ^ k ≡ bit_or s (x * 2 ^ k % 2 ^ 64)
byte_more k x {s} {t} h g e = sym (ap₂ bit_or (sym e) (mod-eq_of_lt g) ∙ or_shifted_r x k t h ∙ omega arith)

pub eight_bytes : (a : ℕ → ℕ) (i : ℕ) → ((p : ℕ) → a p < 2 ^ 8)
    → Int.from_le_bytes Int.w64 (a i ∷ a (i + 1) ∷ a (i + 2) ∷ a (i + 3) ∷ a (i + 4) ∷ a (i + 5) ∷ a (i + 6) ∷ a (i + 7) ∷ [])
    ≡ load_word (words w64) w64 a i
eight_bytes a i h =
    let h₀ = h i in
    let h₁ = h (i + 1) in
    let h₂ = h (i + 2) in
    let h₃ = h (i + 3) in
    let h₄ = h (i + 4) in
    let h₅ = h (i + 5) in
    let h₆ = h (i + 6) in
    let h₇ = h (i + 7) in
    byte_more 56 (a (i + 7)) (omega arith) (omega arith)
    (byte_more 48 (a (i + 6)) (omega arith) (omega arith)
    (byte_more 40 (a (i + 5)) (omega arith) (omega arith)
    (byte_more 32 (a (i + 4)) (omega arith) (omega arith)
    (byte_more 24 (a (i + 3)) (omega arith) (omega arith)
    (byte_more 16 (a (i + 2)) (omega arith) (omega arith)
    (byte_more 8 (a (i + 1)) (omega arith) (omega arith) refl))))))
