-- Blocks copied one after the other; blocks at the front of a batch; and full batches with the part behind them. Once over the width and what each slot
-- does. Assumes nothing.
use mathlib.Core.Path.{◌≡◌, refl, sym, ◌∙◌, ap, ap₂}
use mathlib.Core.List.{List, ◌++◌, append-nil}
use Prim.Native.Nat.{ℕ, ◌+◌, ◌-◌, ◌*◌, ◌/◌, ◌%◌, ◌≤◌}
use native.Mathlib.Nat.{mod-eq_of_lt}
use native.Mathlib.Omega.{arith}
use lib.ListN.{take, drop, length, length-append, length-drop, take-append-drop, drop_of_length-le}
use lib.Seq.{take_all, take-add, take_at, length-take-le}
use Rattle.fips197.specs.Aes.{sixteen}
use Rattle.lanes.specs.Layout.{Width, w32, w64, slots}
use Rattle.lanes.specs.Schedule.{each_block, blocks_in}
use Rattle.lanes.proofs.EachBlock.{some_slot}
use Rattle.lanes.proofs.Cuts.{blocks_are, each_front, each_cut, each_take}
use Rattle.cipher.proofs.Loop.{written, written_long}

-- ---- copying: i blocks are done
pub record BlocksDone (from : List ℕ) (i : ℕ) (to₀ to : List ℕ) : Type 0 where
  pub few : 16 * i ≤ length from
  pub long : length to ≡ length to₀
  pub done : take (16 * i) to ≡ take (16 * i) from

module _ (from : List ℕ) {to₀ : List ℕ} where
  pub blocks_none : BlocksDone from 0 to₀ to₀
  blocks_none = record { few = omega arith; long = refl; done = refl }

  pub blocks_next : {to ws : List ℕ} (i at k : ℕ) → at ≡ 16 * i → k ≡ 16 → at + k ≤ length from → length to₀ ≡ length from
      → length ws ≡ k → ws ≡ take k (drop at from) → BlocksDone from i to₀ to → BlocksDone from (i + 1) to₀ (take at to ++ (ws ++ drop k (drop at to)))
  blocks_next {to} {ws} i at k ea ek room out eight e t = record {
    few = omega arith;
    long = written_long at k to ws room' eight ∙ t.long;
    done = written at k to ws room' eight (16 * (i + 1)) (sym end)
        ∙ ap₂ ◌++◌ (ap (λ (n : ℕ). take n to) ea ∙ t.done ∙ ap (λ (n : ℕ). take n from) (sym ea)) e
        ∙ sym (take-add at k from) ∙ ap (λ (n : ℕ). take n from) end;
  }
    where
      end : at + k ≡ 16 * (i + 1)
      end = omega arith

      room' : at + k ≤ length to
      room' = omega (arith, t.long)

  pub blocks_all : {to : List ℕ} (i : ℕ) → length from ≡ 16 * i → length to₀ ≡ length from → BlocksDone from i to₀ to → to ≡ from
  blocks_all {to} i e out t = sym (take_all (16 * i) to (omega (arith, t.long))) ∙ t.done ∙ take_all (16 * i) from (omega arith)

-- a batch is full batches
one_batch : (w : Width) → 16 * slots w % (16 * slots w) ≡ 0
one_batch w32 = refl
one_batch w64 = refl

-- ---- blocks p at the front of a batch that was z: ws is the part that they were copied to, as it is given back
module _ (w : Width) {p ws : List ℕ} (z : List ℕ) (k : ℕ) (all : k ≡ length p) (copied : ws ≡ p) (batch : length z ≡ 16 * slots w)
    (most : length p ≤ 16 * slots w) where
  pub front_length : length (take 0 z ++ (ws ++ drop k (drop 0 z))) ≡ 16 * slots w
  front_length = simp (length-append, length-drop) (omega (arith, ap length copied))

  -- it is a full batch, with as much room for what it becomes
  pub front_ready : {o : ℕ} → o ≡ 16 * slots w
      → (length (take 0 z ++ (ws ++ drop k (drop 0 z))) % (16 * slots w) ≡ 0) × (o ≡ length (take 0 z ++ (ws ++ drop k (drop 0 z))))
  front_ready room = (ap (λ (l : ℕ). l % (16 * slots w)) front_length ∙ one_batch w, room ∙ sym front_length)

  -- the first of what the batch becomes is what they become
  pub front_is : (f : ℕ → List ℕ → List ℕ) → ((b : ℕ) (x : List ℕ) → length (f b x) ≡ 16) → length p % 16 ≡ 0 → {out : List ℕ}
      → out ≡ each_block w f (blocks_in (take 0 z ++ (ws ++ drop k (drop 0 z)))) (take 0 z ++ (ws ++ drop k (drop 0 z)))
      → take k (drop 0 out) ≡ each_block w f (blocks_in p) p
  front_is f long whole {out} e =
      let r : ℕ = length p / 16 in
      let n : length p ≡ 16 * r = omega (arith, whole) in
      let h : k ≡ 16 * r = omega (arith, n) in
      let few : r ≤ slots w = omega (arith, n) in
      let enough : 16 * r ≤ length ws = omega (arith, ap length copied, n) in
      ap (take k) (e ∙ ap (λ (m : ℕ). each_block w f m (ws ++ drop k z)) (blocks_are (slots w) (ws ++ drop k z) front_length))
      ∙ ap (λ (m : ℕ). take m (each_block w f (slots w) (ws ++ drop k z))) h
      ∙ each_take w f long r (slots w) (ws ++ drop k z) few
      ∙ each_front w f r ws (drop k z) enough
      ∙ ap₂ (each_block w f) (sym (blocks_are r p n)) copied

-- ---- m full batches of i are done: ws is the part of the output o that holds them, as it is given back
module _ (w : Width) (f : ℕ → List ℕ → List ℕ) (i o : List ℕ) {ws : List ℕ} (m full k : ℕ) (are : full ≡ 16 * (slots w * m)) (all : k ≡ full)
    (room : full ≤ length i) (out : length o ≡ length i) (long : length ws ≡ k)
    (done : ws ≡ each_block w f (blocks_in (take k (drop 0 i))) (take k (drop 0 i))) where
  -- so they are what the first blocks become
  front_done : ws ≡ each_block w f (slots w * m) i
  front_done =
      let n : length (take k i) ≡ 16 * (slots w * m) = length-take-le k i (omega arith) ∙ omega arith in
      let enough : 16 * (slots w * m) ≤ length (take k i) = omega (arith, n) in
      done
      ∙ ap (λ (x : ℕ). each_block w f x (take k i)) (blocks_are (slots w * m) (take k i) n)
      ∙ sym (each_front w f (slots w * m) (take k i) (drop k i) enough)
      ∙ ap (each_block w f (slots w * m)) (take-append-drop k i)

  -- and else with the part that is left, vs being that part of the output
  pub rest_done : {vs : List ℕ} (l : ℕ) → l ≡ length i - full → length i % 16 ≡ 0 → length vs ≡ l
      → vs ≡ each_block w f (blocks_in (take l (drop full i))) (take l (drop full i))
      → take full (ws ++ drop k o) ++ (vs ++ drop l (drop full (ws ++ drop k o))) ≡ each_block w f (blocks_in i) i
  rest_done {vs} l left whole has e =
      let r : ℕ = (length i - full) / 16 in
      let n : length i ≡ 16 * (slots w * m + r) = omega (arith, whole, are) in
      let behind : length (drop full i) ≡ 16 * r = length-drop full i ∙ omega (arith, n) in
      let seam : length ws ≡ full = long ∙ all in
      let none : length (drop full (ws ++ drop k o)) ≤ l = simp (length-drop, length-append) (omega (arith, seam)) in
      ap₂ ◌++◌ (take_at ws (drop k o) full seam)
      (ap (λ (x : List ℕ). vs ++ x) (drop_of_length-le (drop full (ws ++ drop k o)) {i = l} none) ∙ append-nil vs)
      ∙ ap₂ ◌++◌ front_done
      (e ∙ ap (λ (x : List ℕ). each_block w f (blocks_in x) x) (take_all l (drop full i) (omega (arith, length-drop full i)))
      ∙ ap (λ (x : ℕ). each_block w f x (drop full i)) (blocks_are r (drop full i) behind)
      ∙ ap (λ (x : ℕ). each_block w f r (drop x i)) are)
      ∙ sym (each_cut w f m r i)
      ∙ ap (λ (x : ℕ). each_block w f x i) (sym (blocks_are (slots w * m + r) i n))

-- ---- one block is in slot 0
pub one_block : (w : Width) (f : ℕ → List ℕ → List ℕ) {x : List ℕ} → length x ≡ 16 → each_block w f (blocks_in x) x ≡ f 0 x
unfolding each_block
one_block w f {x} e =
    ap (λ (n : ℕ). each_block w f n x) (blocks_are 1 x e)
    ∙ append-nil (f (0 % slots w) (sixteen x 0))
    ∙ ap₂ f (mod-eq_of_lt (some_slot w)) (take_all 16 x (omega arith))
