-- The loop over the batches of a call: what is done is what the first batches become. Once over the width and what each slot does. Assumes nothing.
use mathlib.Core.Path.{◌≡◌, refl, sym, ◌∙◌, ap, ap₂}
use mathlib.Core.List.{List, ◌++◌, append_assoc}
use Prim.Native.Nat.{ℕ, ◌+◌, ◌*◌, ◌/◌, ◌%◌, ◌<◌, ◌≤◌}
use native.Mathlib.Nat.{mul-suc}
use native.Mathlib.Omega.{arith}
use lib.ListN.{take, drop, length, length-append, length-drop, take-append-drop}
use lib.Seq.{take_at, take_all, length-take-le}
use Rattle.lanes.specs.Layout.{Width, w32, w64, slots}
use Rattle.lanes.specs.Schedule.{each_block, blocks_in}
use Rattle.lanes.proofs.Cuts.{each_front, each_cut, blocks_are}

-- ---- a part is written at `at`, as the borrow checker hands it back: the length stays, and in front of its end are what was before it and what was written
module _ (at k : ℕ) (o ws : List ℕ) (h : at + k ≤ length o) (e : length ws ≡ k) where
  front : length (take at o) ≡ at
  front = length-take-le at o (omega arith)

  pub written_long : length (take at o ++ (ws ++ drop k (drop at o))) ≡ length o
  written_long = simp (length-append, length-drop) (omega (arith, front))

  pub written : (n : ℕ) → n ≡ at + k → take n (take at o ++ (ws ++ drop k (drop at o))) ≡ take at o ++ ws
  written n g =
      ap (take n) (sym (append_assoc (take at o) ws (drop k (drop at o))))
      ∙ take_at (take at o ++ ws) (drop k (drop at o)) n (length-append (take at o) ws ∙ omega (arith, front))

-- ---- offsets in batches of so many bytes
module _ (w : Width) {batch : ℕ} (e : batch ≡ 16 * slots w) where
  pub offset : (i : ℕ) → batch * i ≡ 16 * (slots w * i)
  offset i = rw e (by_width w)
    where
      by_width : (w : Width) → 16 * slots w * i ≡ 16 * (slots w * i)
      by_width w32 = omega arith
      by_width w64 = omega arith

  pub fits : (i len : ℕ) → i < len / batch → batch * i + batch ≤ len
  fits i len h = rw e (by_width w (rw e at h))
    where
      by_width : (w : Width) → i < len / (16 * slots w) → 16 * slots w * i + 16 * slots w ≤ len
      by_width w32 h = omega arith
      by_width w64 h = omega arith

  -- the full batches of so many bytes
  pub under : (len : ℕ) → batch * (len / batch) ≤ len
  under len = rw e (by_width w)
    where
      by_width : (w : Width) → 16 * slots w * (len / (16 * slots w)) ≤ len
      by_width w32 = omega arith
      by_width w64 = omega arith

  -- at the end nothing is left
  pub over : (i len : ℕ) → len % (16 * slots w) ≡ 0 → len / batch ≤ i → 16 * (slots w * i) ≤ len → len ≡ 16 * (slots w * i)
  over i len z h k = by_width w z (rw e at h) k
    where
      by_width : (w : Width) → len % (16 * slots w) ≡ 0 → len / (16 * slots w) ≤ i → 16 * (slots w * i) ≤ len → len ≡ 16 * (slots w * i)
      by_width w32 z h k = omega arith
      by_width w64 z h k = omega arith

-- ---- batches: i of them are done, of an output that was o₀
pub record BatchesDone (w : Width) (f : ℕ → List ℕ → List ℕ) (input : List ℕ) (i : ℕ) (o₀ o : List ℕ) : Type 0 where
  pub few : 16 * (slots w * i) ≤ length input
  pub long : length o ≡ length o₀
  pub done : take (16 * (slots w * i)) o ≡ each_block w f (slots w * i) input

module _ (w : Width) (f : ℕ → List ℕ → List ℕ) (input : List ℕ) {o₀ : List ℕ} where
  pub batches_none : BatchesDone w f input 0 o₀ o₀
  unfolding each_block
  batches_none =
      let e : slots w * 0 ≡ 0 = omega arith in
      record { few = omega (arith, e); long = refl; done = rw e }

  -- the next: the parts of the input and of the output as they are lent and given back
  pub batches_next : {o ws : List ℕ} (i at k : ℕ) → at ≡ 16 * (slots w * i) → k ≡ 16 * slots w → at + k ≤ length input → length o₀ ≡ length input
      → length ws ≡ k → ws ≡ each_block w f (slots w) (take k (drop at input))
      → BatchesDone w f input i o₀ o → BatchesDone w f input (i + 1) o₀ (take at o ++ (ws ++ drop k (drop at o)))
  batches_next {o} {ws} i at k ea ek room out eight e t = record { few = omega (arith, more); long = written_long at k o ws room' eight ∙ t.long; done = done }
    where
      room' : at + k ≤ length o
      room' = omega (arith, t.long)

      more : slots w * (i + 1) ≡ slots w * i + slots w
      more = ap (λ (n : ℕ). slots w * n) (omega arith) ∙ mul-suc (slots w) i ∙ omega arith

      -- the batch is what comes next of the input
      next : each_block w f (slots w) (take k (drop at input)) ≡ each_block w f (slots w) (drop at input)
      next =
          let h : length (take k (drop at input)) ≡ k = length-take-le k (drop at input) (omega (arith, length-drop at input)) in
          sym (each_front w f (slots w) (take k (drop at input)) (drop k (drop at input)) (omega arith))
          ∙ ap (each_block w f (slots w)) (take-append-drop k (drop at input))

      done : take (16 * (slots w * (i + 1))) (take at o ++ (ws ++ drop k (drop at o))) ≡ each_block w f (slots w * (i + 1)) input
      done =
          written at k o ws room' eight (16 * (slots w * (i + 1))) (omega (arith, more))
          ∙ ap₂ ◌++◌ (ap (λ (n : ℕ). take n o) ea ∙ t.done) (e ∙ next ∙ ap (λ (n : ℕ). each_block w f (slots w) (drop n input)) ea)
          ∙ sym (each_cut w f i (slots w) input)
          ∙ ap (λ (n : ℕ). each_block w f n input) (sym more)

  -- all of them
  pub batches_all : {o : List ℕ} (i : ℕ) → length input ≡ 16 * (slots w * i) → length o₀ ≡ length input → BatchesDone w f input i o₀ o
      → o ≡ each_block w f (blocks_in input) input
  batches_all {o} i e out t =
      sym (take_all (16 * (slots w * i)) o (omega (arith, t.long)))
      ∙ t.done
      ∙ ap (λ (n : ℕ). each_block w f n input) (sym (blocks_are (slots w * i) input e))
