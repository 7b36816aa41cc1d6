-- The test of an input's length says what its words say: it holds of 1 to 4,096 whole blocks, and of nothing else. And what the calls on blocks ask of
-- lengths. Assumes nothing.
use mathlib.Core.Path.{◌≡◌, refl, sym, ap, ap₂}
use mathlib.Core.Bool.{Bool, true, false, not, ◌&&◌, true≢false}
use mathlib.Core.List.{List}
use Prim.Native.Nat.{ℕ, ◌*◌, ◌/◌, ◌%◌, ◌≤◌, ◌<◌}
use native.Mathlib.Omega.{arith}
use borrow.Author.Tests.{leb-true, le-leb, lt-leb, eqb-true, eq-eqb}
use lib.Dec.{leb, eqb}
use lib.ListN.{length}
use Rattle.outcome.specs.Outcome.{Outcome, answers, refuse}
use Rattle.outcome.proofs.Laws.{agrees, agreed, pass, passed}
use Rattle.calls.specs.Calls.{whole_blocks, TakenBlocks}

-- n bytes are blocks
pub record Counted (n : ℕ) : Type 0 where
  pub blocks : n ≡ 16 * (n / 16)
  pub some : 1 ≤ n / 16
  pub most : n / 16 ≤ 4096

pub whole_taken : (n : ℕ) → Counted n → whole_blocks n ≡ true
unfolding whole_blocks
whole_taken n c =
    let low : 16 ≤ n = omega (arith, c.blocks, c.some) in
    let high : n ≤ 65536 = omega (arith, c.blocks, c.most) in
    let rest : n % 16 ≡ 0 = omega (arith, c.blocks) in
    ap₂ ◌&&◌ (ap₂ ◌&&◌ (le-leb 16 n low) (le-leb n 65536 high)) (eq-eqb (n % 16) 0 rest)

-- as k blocks
pub blocks_taken : (k : ℕ) → 1 ≤ k → k ≤ 4096 → whole_blocks (16 * k) ≡ true
blocks_taken k some most = whole_taken (16 * k) (record { blocks = omega arith; some = omega arith; most = omega arith })

both : (a b : Bool) → (a && b) ≡ true → (a ≡ true) × (b ≡ true)
both true b e = (refl, e)
both false b e = absurd (true≢false (sym e))

pub whole_are : (n : ℕ) → whole_blocks n ≡ true → Counted n
unfolding whole_blocks
whole_are n e =
    let p = both (leb 16 n && leb n 65536) (eqb (n % 16) 0) e in
    let q = both (leb 16 n) (leb n 65536) p.0 in
    let low : 16 ≤ n = leb-true 16 n q.0 in
    let high : n ≤ 65536 = leb-true n 65536 q.1 in
    let rest : n % 16 ≡ 0 = eqb-true (n % 16) 0 p.1 in
    record { blocks = omega (arith, rest); some = omega (arith, low); most = omega (arith, high) }

-- as the code learns it: its test is the `not` of this one
was : (b : Bool) → not b ≡ false → b ≡ true
was true e = refl
was false e = absurd (true≢false e)

pub was_whole : (n : ℕ) → not (whole_blocks n) ≡ false → whole_blocks n ≡ true
was_whole n e = was (whole_blocks n) e

pub whole_rest : (n : ℕ) → not (whole_blocks n) ≡ false → n % 16 ≡ 0
whole_rest n e = omega (arith, (whole_are n (was_whole n e)).blocks)

-- ---- what is not taken: too short, too long; and between these it is the rest that says
pub too_short : (n : ℕ) → n < 16 → whole_blocks n ≡ false
unfolding whole_blocks
too_short n h = ap (λ (b : Bool). b && leb n 65536 && eqb (n % 16) 0) (lt-leb 16 n h)

module _ (n : ℕ) (low : 16 ≤ n) where
  pub too_long : 65536 < n → whole_blocks n ≡ false
  unfolding whole_blocks
  too_long h = ap₂ (λ (a b : Bool). a && b && eqb (n % 16) 0) (le-leb 16 n low) (lt-leb n 65536 h)

  pub by_rest : n ≤ 65536 → whole_blocks n ≡ eqb (n % 16) 0
  unfolding whole_blocks
  by_rest h = ap₂ (λ (a b : Bool). a && b && eqb (n % 16) 0) (le-leb 16 n low) (le-leb n 65536 h)

-- ---- the two tests of blocks: of the input's length and of the output's
module _ (i o : List ℕ) where
  -- what is taken passes both, and what has passed both is taken
  pub blocks_pass : TakenBlocks i o → (before : List ℕ) {rest out : Outcome (List ℕ)} → out ≡ rest
      → out ≡ refuse (not (whole_blocks (length i))) 3 before (refuse (not (eqb (length o) (length i))) 4 before rest)
  blocks_pass b before e = pass 3 before (ap not b.whole) (pass 4 before (agrees b.room) e)

  pub blocks_passed : (before : List ℕ) {rest : Outcome (List ℕ)} {x : List ℕ}
      → answers 0 x ≡ refuse (not (whole_blocks (length i))) 3 before (refuse (not (eqb (length o) (length i))) 4 before rest)
      → TakenBlocks i o × (answers 0 x ≡ rest)
  blocks_passed before e =
      let p = passed (not (whole_blocks (length i))) 3 before (λ z. omega arith) e in
      let q = passed (not (eqb (length o) (length i))) 4 before (λ z. omega arith) p.1 in
      (record { whole = was_whole (length i) p.0; room = agreed (length o) (length i) q.0 }, q.1)
