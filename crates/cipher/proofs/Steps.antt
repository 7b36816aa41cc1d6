-- The loops of the rounds, and all that is done to a batch, slot by slot: one round of the code is one round of the argument. Once over the width.
-- Assumes nothing.
use mathlib.Core.Path.{◌≡◌, refl, sym, ◌∙◌, ap, ap₂, subst, subst₂}
use mathlib.Core.List.{List}
use Prim.Native.Nat.{ℕ, suc, ◌+◌, ◌-◌, ◌*◌, ◌%◌, ◌<◌, ◌≤◌}
use native.Mathlib.Omega.{arith}
use Rattle.fips197.specs.Aes.{cipher, inv_cipher}
use Rattle.lanes.specs.Layout.{Width, slots, slot}
use Rattle.lanes.specs.Schedule.{rows_shifted, rows_unshifted, words_at, stored, reading, crypted_batch, encrypted_batch, decrypted_batch}
use Rattle.lanes.specs.Leaves.{Does, all, Packs, unpacked, bare_sub_bytes, inv_bare_sub_bytes, mix_form, inv_mix_form, add_key_of}
use Rattle.lanes.proofs.Packing.{slot_block, stored_block}
use Rattle.lanes.proofs.EachBlock.{each_slot_batch}
use Rattle.cipher.specs.Fixslice.{fix_round, fix_unround, rounds_to, undone_from, add_key_in, rounds_in, undone_in}
use Rattle.cipher.proofs.Arrangements.{encrypts, decrypts}

-- ---- one round
-- round key r, of words that are loaded
pub key_loaded : (w : Width) (l : List ℕ) (r : ℕ) {k s t : List ℕ} → k ≡ words_at l (8 * r) → Does w (add_key_of w k) s t → Does w (add_key_in w l r) s t
unfolding stored
key_loaded w l r {k} {s} {t} e d = subst (λ (x : List ℕ). Does w (add_key_of w x) s t) e d

-- no row shift, and none undone
pub shifted_none : {w : Width} (n : ℕ) {s : List ℕ} → n ≡ 0 → Does w (all (rows_shifted n)) s s
unfolding rows_shifted
shifted_none n e = rw e (record { each = λ b h. refl })

-- round r with form i, and the same undone
pub record Round (w : Width) (l : List ℕ) (r i : ℕ) (s v : List ℕ) : Type 0 where
  pub each : (b : ℕ) → b < slots w → slot w v b ≡ fix_round i (stored w l b r) (slot w s b)

pub record Unround (w : Width) (l : List ℕ) (r i : ℕ) (s v : List ℕ) : Type 0 where
  pub each : (b : ℕ) → b < slots w → slot w v b ≡ fix_unround i (stored w l b r) (slot w s b)

-- their calls, through the states s, t, u, v
module _ {w : Width} {l : List ℕ} {r i : ℕ} {s t u v : List ℕ} where
  pub round_is : Does w (all bare_sub_bytes) s t → Does w (all (mix_form i)) t u → Does w (add_key_in w l r) u v → Round w l r i s v
  round_is f g h = record { each = λ b y. rw (h.each b y, g.each b y, f.each b y) }

  pub unround_is : Does w (add_key_in w l r) s t → Does w (all (inv_mix_form i)) t u → Does w (all inv_bare_sub_bytes) u v → Unround w l r i s v
  unround_is f g h = record { each = λ b y. rw (h.each b y, g.each b y, f.each b y) }

-- ---- upwards: rounds 1 to n are done
pub record Done (w : Width) (l : List ℕ) (n : ℕ) (s₀ s : List ℕ) : Type 0 where
  pub each : (b : ℕ) → b < slots w → slot w s b ≡ rounds_to (stored w l b) n (slot w s₀ b)

pub done_none : {w : Width} {l : List ℕ} {s : List ℕ} → Done w l 0 s s
unfolding rounds_to
done_none = record { each = λ b h. refl }

-- one more: round r with form i
pub done_more : {w : Width} {l : List ℕ} {r n i : ℕ} {s₀ s v : List ℕ} → r ≡ n + 1 → r % 4 ≡ i → Done w l n s₀ s → Round w l r i s v → Done w l r s₀ v
unfolding rounds_to
done_more {w} {l} {r} {n} {i} {s₀} e z d f = record {
  each = λ b y.
      let next : ℕ → ℕ → List ℕ = λ i r. fix_round i (stored w l b r) (rounds_to (stored w l b) n (slot w s₀ b)) in
      let e₁ : r ≡ suc n = omega arith in
      f.each b y
      ∙ ap (fix_round i (stored w l b r)) (d.each b y)
      ∙ ap₂ next (sym z ∙ ap (λ (r : ℕ). r % 4) e₁) e₁
      ∙ ap (λ (p : ℕ). rounds_to (stored w l b) p (slot w s₀ b)) (sym e₁);
}

-- counted otherwise
pub done_are : {w : Width} {l : List ℕ} {m n : ℕ} {s₀ s : List ℕ} → m ≡ n → Done w l m s₀ s → Done w l n s₀ s
done_are {w} {l} {s₀ = s₀} {s = s} e d = subst (λ (n : ℕ). Done w l n s₀ s) e d

pub done_does : {w : Width} {l : List ℕ} {m n : ℕ} {s₀ s : List ℕ} → m ≡ n → Done w l m s₀ s → Does w (rounds_in w l n) s₀ s
done_does e d = record { each = (done_are e d).each }

-- before a turn of the loop
pub record Upwards (w : Width) (l : List ℕ) (n : ℕ) (s₀ s : List ℕ) (r : ℕ) : Type 0 where
  pub form : r % 4 ≡ 1
  pub less : r < n
  pub done : Done w l (r - 1) s₀ s

-- after form 1 of a turn, which is round r, and after form 3
module _ {w : Width} {l : List ℕ} {n r : ℕ} {s₀ s : List ℕ} (u : Upwards w l n s₀ s r) where
  pub after_1 : {v : List ℕ} → Round w l r 1 s v → Done w l r s₀ v
  after_1 f = let form : r % 4 ≡ 1 = u.form in done_more (omega arith) form u.done f

  pub after_3 : {t v x : List ℕ} → Round w l r 1 s t → Round w l (r + 1) 2 t v → Round w l (r + 1 + 1) 3 v x → Done w l (r + 1 + 1) s₀ x
  after_3 f g h =
      let form : r % 4 ≡ 1 = u.form in
      done_more refl (omega arith) (done_more refl (omega arith) (after_1 f) g) h

-- ---- downwards: rounds n to 1 are left to undo of s where m to 1 were of s₀
pub record Left (w : Width) (l : List ℕ) (n m : ℕ) (s₀ s : List ℕ) : Type 0 where
  pub each : (b : ℕ) → b < slots w → undone_from (stored w l b) n (slot w s b) ≡ undone_from (stored w l b) m (slot w s₀ b)

-- one less: round r with form i
pub left_less : {w : Width} {l : List ℕ} {r n m i : ℕ} {s₀ s v : List ℕ} → r ≡ n + 1 → r % 4 ≡ i → Left w l r m s₀ s → Unround w l r i s v → Left w l n m s₀ v
unfolding undone_from
left_less {w} {l} {r} {n} {i = i} {s = s} e z d f = record {
  each = λ b y.
      let next : ℕ → ℕ → List ℕ = λ i r. fix_unround i (stored w l b r) (slot w s b) in
      let e₁ : r ≡ suc n = omega arith in
      ap (undone_from (stored w l b) n) (f.each b y ∙ ap₂ next (sym z ∙ ap (λ (r : ℕ). r % 4) e₁) e₁)
      ∙ ap (λ (p : ℕ). undone_from (stored w l b) p (slot w s b)) (sym e₁)
      ∙ d.each b y;
}

-- known by equations
pub left_are : {w : Width} {l : List ℕ} {n p m : ℕ} {s₀ s t : List ℕ} → n ≡ p → s ≡ t → Left w l p m s₀ t → Left w l n m s₀ s
left_are {w} {l} {m = m} {s₀ = s₀} e f d = subst₂ (λ (n : ℕ) (s : List ℕ). Left w l n m s₀ s) (sym e) (sym f) d

-- none left
pub left_none : {w : Width} {l : List ℕ} {n m : ℕ} {s₀ s : List ℕ} → n ≡ 0 → Left w l n m s₀ s → Does w (undone_in w l m) s₀ s
unfolding undone_from
left_none {w} {l} {s = s} e d = record { each = λ b y. ap (λ (n : ℕ). undone_from (stored w l b) n (slot w s b)) (sym e) ∙ d.each b y }

-- before a turn of the loop
pub record Downwards (w : Width) (l : List ℕ) (n : ℕ) (s₀ s : List ℕ) (r : ℕ) : Type 0 where
  pub odd : r % 2 ≡ 1
  pub less : r < n
  pub left : Left w l r (n - 1) s₀ s

-- before form 1 of a turn that began at round r₀: where forms 3 and 2 were to be undone, they are
pub record Form1 (w : Width) (l : List ℕ) (n : ℕ) (s₀ s : List ℕ) (r₀ r : ℕ) : Type 0 where
  pub form : r % 4 ≡ 1
  pub down : r ≤ r₀
  pub less : r < n
  pub left : Left w l r (n - 1) s₀ s

module _ {w : Width} {l : List ℕ} {n r₀ r : ℕ} {s₀ s t : List ℕ} (d : Downwards w l n s₀ s r₀) where
  pub from_3 : {u v : List ℕ} → r₀ % 4 ≡ 3 → Unround w l r₀ 3 s u → Unround w l (r₀ - 1) 2 u v → r ≡ r₀ - 1 - 1 → t ≡ v → Form1 w l n s₀ t r₀ r
  from_3 form f g e h =
      let less : r₀ < n = d.less in
      record {
        form = omega arith;
        down = omega arith;
        less = omega arith;
        left = left_are e h (left_less (omega arith) (omega arith) (left_less (omega arith) form d.left f) g);
      }

  pub from_1 : (r₀ % 4 ≡ 3 → ⊥) → r ≡ r₀ → t ≡ s → Form1 w l n s₀ t r₀ r
  from_1 other e h =
      let less : r₀ < n = d.less in
      let odd : r₀ % 2 ≡ 1 = d.odd in
      record { form = omega arith; down = omega arith; less = omega arith; left = left_are e h d.left }

-- after form 1
pub after_form_1 : {w : Width} {l : List ℕ} {n r₀ r : ℕ} {s₀ s v : List ℕ} → Form1 w l n s₀ s r₀ r → Unround w l r 1 s v → Left w l (r - 1) (n - 1) s₀ v
after_form_1 {r = r} t f = let form : r % 4 ≡ 1 = t.form in left_less (omega arith) form t.left f

-- ---- from the batch that comes in to the batch that goes out
module _ (w : Width) (l : List ℕ) (n : ℕ) (some : 2 ≤ n) (i : List ℕ) {s₀ s₁ s₂ s₃ s₄ s₅ : List ℕ} where
  pub encrypted_is : Packs w i s₀
      → Does w (add_key_in w l 0) s₀ s₁
      → Does w (rounds_in w l (n - 1)) s₁ s₂
      → Does w (all (rows_shifted (n % 4))) s₂ s₃
      → Does w (all bare_sub_bytes) s₃ s₄
      → Does w (add_key_in w l n) s₄ s₅
      → unpacked w s₅ ≡ encrypted_batch w n l i
  unfolding crypted_batch reading
  encrypted_is e f g h u v =
      let one≤ : 1 ≤ n = omega arith in
      each_slot_batch w (λ b. cipher (reading w n l b)) i s₅ (λ b y.
      v.each b y
      ∙ rw (u.each b y, h.each b y, g.each b y, f.each b y)
      (encrypts (stored w l b) (stored_block w l b) n one≤ (slot_block w s₀ b)
      ∙ ap (cipher (reading w n l b)) (e.each b y)))

  pub decrypted_is : Packs w i s₀
      → Does w (add_key_in w l n) s₀ s₁
      → Does w (all inv_bare_sub_bytes) s₁ s₂
      → Does w (all (rows_unshifted (n % 4))) s₂ s₃
      → Does w (undone_in w l (n - 1)) s₃ s₄
      → Does w (add_key_in w l 0) s₄ s₅
      → unpacked w s₅ ≡ decrypted_batch w n l i
  unfolding crypted_batch reading
  decrypted_is e f g h u v =
      let one≤ : 1 ≤ n = omega arith in
      each_slot_batch w (λ b. inv_cipher (reading w n l b)) i s₅ (λ b y.
      v.each b y
      ∙ rw (u.each b y, h.each b y, g.each b y, f.each b y)
      (decrypts (stored w l b) (stored_block w l b) n one≤ (slot_block w s₀ b)
      ∙ ap (inv_cipher (reading w n l b)) (e.each b y)))
