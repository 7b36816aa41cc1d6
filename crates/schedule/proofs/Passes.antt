-- One step of the key expansion, once over the width: passes follow each other, and the copy, the pass and the columns are one write of the
-- next round key. Assumes nothing.
use mathlib.Core.Path.{◌≡◌, sym, ap, ap₂, ◌∙◌, subst}
use mathlib.Core.List.{List, map}
use Prim.Native.Nat.{ℕ, ◌+◌, ◌-◌, ◌*◌, ◌≤◌, ◌<◌}
use native.Mathlib.Omega.{arith}
use lib.ListN.{length, length-map}
use Rattle.fips197.specs.Aes.{sub_bytes}
use Rattle.lanes.specs.Layout.{Width, slots, slot}
use Rattle.lanes.specs.Schedule.{add63, words_at, stored}
use Rattle.lanes.specs.Leaves.{Does, all, bare_sub_bytes, add_constant, key_columns, put, Changes, next_key_of}
use Rattle.lanes.proofs.Parts.{words_length, at_put, before_put, after_put, put_put, changed}
use Rattle.lanes.proofs.Rows.{add63_twice}
use Rattle.schedule.specs.Steps.{key_pass, next_of, Follows}

-- ---- the pass over a round key: the bare S-box, its NOTs and the constant
pub pass_is : {w : Width} (c : ℕ) {s t u r : List ℕ} → Does w (all bare_sub_bytes) s t → Does w (all add63) t u → Does w (all (add_constant c)) u r
    → Does w (all (key_pass c)) s r
unfolding bare_sub_bytes
pass_is {w} c {s} sub nots constant = record {
  each = λ b h.
      constant.each b h
      ∙ ap (add_constant c) (nots.each b h ∙ ap add63 (sub.each b h) ∙ add63_twice (sub_bytes (slot w s b)));
}

-- ---- eight words at an offset of a schedule changed, by round keys
pub record Changed (w : Width) (f : ℕ → List ℕ → List ℕ) (at : ℕ) (l m : List ℕ) : Type 0 where
  pub fits : at + 8 ≤ length l
  pub long : length m ≡ length l
  pub change : Changes w f at l m

-- loaded, worked on and stored
pub passed : {w : Width} {f : ℕ → List ℕ → List ℕ} {l m x y : List ℕ} (at : ℕ) → at + 8 ≤ length l → length m ≡ length l → length y ≡ 8
    → x ≡ words_at l at → Does w f x y → m ≡ put l at y → Changed w f at l m
passed {w} {f} {l} at h long eight e d p = record { fits = h; long = long; change = subst (Changes w f at l) (sym p) (changed w at h eight e d) }

module _ {w : Width} {f : ℕ → List ℕ → List ℕ} {at : ℕ} {l m : List ℕ} (d : Changed w f at l m) where
  here_length : length (words_at m at) ≡ 8
  here_length = words_length m at (omega arith)

  words_before : (i : ℕ) → i + 8 ≤ at → words_at m i ≡ words_at l i
  words_before i h = ap (λ (x : List ℕ). words_at x i) d.change.only ∙ before_put l at (words_at m at) d.fits here_length i h

  words_after : (i : ℕ) → at + 8 ≤ i → words_at m i ≡ words_at l i
  words_after i h = ap (λ (x : List ℕ). words_at x i) d.change.only ∙ after_put l at (words_at m at) d.fits here_length i h

  pub stored_before : (b r : ℕ) → 8 * r + 8 ≤ at → stored w m b r ≡ stored w l b r
  unfolding stored
  stored_before b r h = ap (λ (x : List ℕ). slot w x b) (words_before (8 * r) h)

  pub stored_after : (b r : ℕ) → at + 8 ≤ 8 * r → stored w m b r ≡ stored w l b r
  unfolding stored
  stored_after b r h = ap (λ (x : List ℕ). slot w x b) (words_after (8 * r) h)

  pub stored_here : (b : ℕ) → b < slots w → (r : ℕ) → 8 * r ≡ at → stored w m b r ≡ f b (stored w l b r)
  unfolding stored
  stored_here b h r e = rw e (d.change.here.each b h)

-- words have room where their values have
pub follows_map : {A : Type 0} {m r : ℕ} (v : A → ℕ) (l : List A) → Follows m r (length l) → Follows m r (length (map v l))
follows_map v l f = record { some = f.some; old = f.old; room = omega (arith, f.room, length-map l v) }

pub follows_of : {A : Type 0} {m r : ℕ} (v : A → ℕ) (l : List A) → Follows m r (length (map v l)) → Follows m r (length l)
follows_of v l f = record { some = f.some; old = f.old; room = omega (arith, f.room, length-map l v) }

-- ---- a step: the words copied, passed over and added to the key m before them are one write of round key r
module _ (w : Width) (n m r : ℕ) {f : List ℕ → List ℕ} {l a b c : List ℕ} (follows : Follows m r (length l)) (copied-long : length a ≡ length l) where
  next_passes : a ≡ put l (8 * r) (words_at l (8 * (r - 1)))
      → Changed w (all f) (8 * r) a b
      → Changed w (next_key_of w n (words_at b (8 * (r - m)))) (8 * r) b c
      → Changes w (next_of w n f l r m) (8 * r) l c
  unfolding stored
  next_passes copy pass columns = record {
    here = record {
      each = λ i h.
          columns.change.here.each i h
          ∙ ap₂ (λ (p t : List ℕ). key_columns n (slot w p i) t) prev
          (pass.change.here.each i h ∙ ap (λ (x : List ℕ). f (slot w x i)) copied);
    };
    only =
        columns.change.only
        ∙ ap (λ (x : List ℕ). put x at (words_at c at)) (pass.change.only ∙ ap (λ (x : List ℕ). put x at (words_at b at)) copy)
        ∙ ap (λ (x : List ℕ). put x at (words_at c at)) (put_put l at before fits eight (words_at b at))
        ∙ put_put l at (words_at b at) fits (words_length b at (omega arith)) (words_at c at);
  }
    where
      at : ℕ
      at = 8 * r

      before : List ℕ
      before = words_at l (8 * (r - 1))

      fits : 8 * r + 8 ≤ length l
      fits = follows.room

      eight : length (words_at l (8 * (r - 1))) ≡ 8
      eight = words_length l (8 * (r - 1)) (omega arith)

      copied : words_at a (8 * r) ≡ words_at l (8 * (r - 1))
      copied = ap (λ (x : List ℕ). words_at x (8 * r)) copy ∙ at_put l (8 * r) (words_at l (8 * (r - 1))) fits eight

      prev : words_at b (8 * (r - m)) ≡ words_at l (8 * (r - m))
      prev =
          let some = follows.some in
          words_before pass (8 * (r - m)) (omega arith)
          ∙ ap (λ (x : List ℕ). words_at x (8 * (r - m))) copy
          ∙ before_put l (8 * r) (words_at l (8 * (r - 1))) fits eight (8 * (r - m)) (omega arith)

-- the same in the shape of the calls: off is where the round key before stands, back how far the one to add
pub next_is : (w : Width) (n m r off back : ℕ) {f : List ℕ → List ℕ} {l a x y b c : List ℕ} → Follows m r (length l) → off + 8 ≡ 8 * r → back ≡ 8 * m
    → length a ≡ length l → length b ≡ length a → length c ≡ length b → length y ≡ 8
    → a ≡ put l (off + 8) (words_at l off) → x ≡ words_at a (8 * r) → Does w (all f) x y → b ≡ put a (8 * r) y
    → Changes w (next_key_of w n (words_at b (8 * r - back))) (8 * r) b c → Changes w (next_of w n f l r m) (8 * r) l c
next_is w n m r off back {l = l} {a = a} follows eo eb la lb lc eight copy loaded pass kept columns =
    let h : 8 * r + 8 ≤ length a = omega (arith, follows.room) in
    let e₁ : off ≡ 8 * (r - 1) = omega arith in
    let e₂ : 8 * r - back ≡ 8 * (r - m) = omega arith in
    next_passes w n m r follows la (rw (eo, e₁) at copy) (passed (8 * r) h lb eight loaded pass kept)
    (record { fits = omega (arith, follows.room); long = lc; change = rw e₂ at columns })
