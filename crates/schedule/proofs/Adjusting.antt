-- The round keys adjusted so far, and all parts of the expansion together, once over the width and the key's length: the words that are left
-- hold each round key as it is written, and those are the schedule. Assumes nothing.
use mathlib.Core.Path.{◌≡◌, refl, ap, ◌∙◌}
use mathlib.Core.List.{List}
use Prim.Native.Nat.{ℕ, zero, suc, ◌+◌, ◌*◌, ◌%◌, ◌≤◌, ◌<◌}
use native.Mathlib.Decide.{dec_lt}
use native.Mathlib.Omega.{arith}
use borrow.Author.Tests.{eq-eqb, ne_eqb}
use lib.ListN.{length}
use Rattle.fips197.specs.Bytes.{Fit}
use Rattle.fips197.specs.Aes.{sixteen, rounds_for, key_words}
use Rattle.lanes.specs.Layout.{Width, bits, slots}
use Rattle.lanes.specs.Schedule.{add63, rows_unshifted, words_at, stored, write_key, schedule_of}
use Rattle.lanes.specs.Leaves.{Does, all, put}
use Rattle.schedule.specs.Steps.{Keys, Adjusted}
use Rattle.schedule.proofs.Reading.{schedule_is}
use Rattle.schedule.proofs.Passes.{Changed, passed, stored_before, stored_after, stored_here}

-- ---- the round keys adjusted so far
-- those below r, of those below `end`
pub record AdjustedSo (w : Width) (f : ℕ → List ℕ → List ℕ) (end r : ℕ) (l m : List ℕ) : Type 0 where
  pub some : 1 ≤ r
  pub few : r ≤ end
  pub long : length m ≡ length l
  pub done : Adjusted w f r l m

module _ (w : Width) (f : ℕ → List ℕ → List ℕ) where
  adjusted_more : (r : ℕ) {l m m' : List ℕ} → 1 ≤ r → length m ≡ length l → Adjusted w f r l m → Changed w (all (f r)) (8 * r) m m' → Adjusted w f (r + 1) l m'
  adjusted_more r {l} {m} {m'} pos long t d = record {
    first = λ b h. stored_before d b 0 (omega arith) ∙ t.first b h;
    inner = λ b h q k. more b h q k (dec_lt (suc q) r);
    outer = λ b h q k e. stored_after d b q (omega arith) ∙ t.outer b h q (omega arith) e;
  }
    where
      more : (b : ℕ) → b < slots w → (q : ℕ) → suc q < r + 1 → Dec (suc q < r) → stored w m' b (suc q) ≡ f (suc q) (stored w l b (suc q))
      more b h q k (yes y) = stored_before d b (suc q) (omega arith) ∙ t.inner b h q y
      more b h q k (no y) =
          let e : suc q ≡ r = omega arith in
          let fits : 8 * r + 8 ≤ length l = omega (arith, d.fits) in
          rw e (stored_here d b h r refl ∙ ap (f r) (t.outer b h r (omega arith) fits))

  -- the schedule m so far, and round key r loaded, worked on and stored
  pub adjusted_on : (r : ℕ) {end : ℕ} {l m m' x y : List ℕ} → r < end → 8 * r + 8 ≤ length m → length m' ≡ length m → length y ≡ 8
      → x ≡ words_at m (8 * r) → Does w (all (f r)) x y → m' ≡ put m (8 * r) y → AdjustedSo w f end r l m → AdjustedSo w f end (r + 1) l m'
  adjusted_on r less fits long eight loaded d kept t =
      let c = passed (8 * r) fits long eight loaded d kept in
      record { some = omega arith; few = omega arith; long = long ∙ t.long; done = adjusted_more r t.some t.long t.done c }

-- ---- a round key as it is held: the last by its NOTs only, another by its row shifts before them
written_last : (n r : ℕ) (k : List ℕ) → 1 ≤ r → r ≡ n → add63 k ≡ write_key n r k
unfolding write_key
written_last n zero k h e = absurd (omega arith)
written_last n (suc r) k h e = rw (eq-eqb (suc r) n e) refl

written_inner : (n r : ℕ) (k : List ℕ) → 1 ≤ r → (r ≡ n → ⊥) → add63 (rows_unshifted (r % 4) k) ≡ write_key n r k
unfolding write_key
written_inner n zero k h e = absurd (omega arith)
written_inner n (suc r) k h e = rw (ne_eqb (suc r) n e) refl

module _ {w : Width} {s t : List ℕ} where
  pub write_last : {r n : ℕ} → 1 ≤ r → r ≡ n → Does w (all add63) s t → Does w (all (write_key n r)) s t
  write_last {r} {n} pos e d = record { each = λ b k. d.each b k ∙ written_last n r _ pos e }

  pub write_inner : {r n : ℕ} → 1 ≤ r → (r ≡ n → ⊥) → Does w (all (λ k. add63 (rows_unshifted (r % 4) k))) s t → Does w (all (write_key n r)) s t
  write_inner {r} {n} pos e d = record { each = λ b k. d.each b k ∙ written_inner n r _ pos e }

-- ---- all parts: the round keys, and keys 1 to n as they are held
module _ (w : Width) (nk : ℕ) (key : List ℕ) (pos : 1 ≤ nk) (long : length key ≡ 4 * nk) (fits : Fit 8 key) where
  module _ {n : ℕ} {l₁ l₂ : List ℕ} (rounds : n ≡ rounds_for nk) (long₁ : length l₁ ≡ 8 * (n + 1))
      (keys : Keys w nk (nk + 7) key l₁) (written : Adjusted w (write_key n) (n + 1) l₁ l₂) where
    key_there : (b : ℕ) → b < slots w → (r : ℕ) → r < n + 1 → stored w l₁ b r ≡ sixteen (key_words nk key) r
    key_there b h r k = keys.at b h r (omega arith) (omega arith)

    each : (b : ℕ) → b < slots w → (r : ℕ) → r < n + 1 → stored w l₂ b r ≡ write_key n r (sixteen (key_words nk key) r)
    unfolding write_key
    each b h zero k = written.first b h ∙ key_there b h 0 k
    each b h (suc r) k = written.inner b h r k ∙ ap (write_key n (suc r)) (key_there b h (suc r) k)

    pub whole : length l₂ ≡ length l₁ → Fit (bits w) l₂ → l₂ ≡ schedule_of w nk key
    whole e₂ fit₂ =
        schedule_is w nk key pos long fits l₂ (e₂ ∙ long₁ ∙ ap (λ (m : ℕ). 8 * (m + 1)) rounds) fit₂
        (λ b h r k. rw (← rounds) (each b h r (rw (← rounds) at k)))
