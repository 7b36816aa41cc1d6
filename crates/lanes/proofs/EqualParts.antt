-- Lists in parts of q elements each: a joined list has its parts where they belong, and a list is its parts. Once over q, by induction on the
-- number of parts; eight words of a schedule and the sixteen bytes of a block are two uses. Assumes nothing.
use mathlib.Core.Path.{◌≡◌, refl, sym, ap, ap₂, ◌∙◌}
use mathlib.Core.List.{List, [], ◌∷◌, ◌++◌, map}
use Prim.Native.Nat.{ℕ, zero, suc, ◌+◌, ◌*◌, ◌≤◌, ◌<◌}
use native.Mathlib.Nat.{mul-suc, mul-le-mul_left}
use native.Mathlib.Omega.{arith}
use lib.ListN.{take, drop, length, length-append, length-drop, take-append-drop}
use lib.Seq.{take_at, drop_at, drop-drop, length-take-le}
use Rattle.fips197.specs.Bytes.{Fit}
use Rattle.fips197.specs.Aes.{range}
use Rattle.fips197.proofs.Blocks.{fit_nil, fit_append}
use Rattle.lanes.specs.Layout.{join}

-- part r of a list
abbrev pub part_at : ℕ → List ℕ → ℕ → List ℕ
part_at q l r = take q (drop (q * r) l)

-- ---- the parts f i, f (i + 1), .., n of them, joined
abbrev pub joined : (ℕ → List ℕ) → ℕ → ℕ → List ℕ
joined f i n = join (map f (range i n))

module _ (q : ℕ) (f : ℕ → List ℕ) where
  pub joined_length : (n i : ℕ) → ((r : ℕ) → r < i + n → length (f r) ≡ q) → length (joined f i n) ≡ q * n
  joined_length zero i long = omega arith
  joined_length (suc n) i long =
      length-append (f i) (joined f (suc i) n)
      ∙ ap₂ ◌+◌ (long i (omega arith)) (joined_length n (suc i) (λ r h. long r (omega arith)))
      ∙ omega (arith, mul-suc q n)

  pub joined_at : (n i : ℕ) → ((r : ℕ) → r < i + n → length (f r) ≡ q) → (r : ℕ) → r < n → part_at q (joined f i n) r ≡ f (i + r)
  joined_at zero i long r h = absurd (omega arith)
  joined_at (suc n) i long zero h =
      let e : q * 0 ≡ 0 = omega arith in
      let g : i + 0 ≡ i = omega arith in
      rw (e, g) (take_at (f i) (joined f (suc i) n) q (long i (omega arith)))
  joined_at (suc n) i long (suc r) h =
      let e : q * suc r ≡ q + q * r = omega (arith, mul-suc q r) in
      let g : suc i + r ≡ i + suc r = omega arith in
      rw (e, ← drop-drop (q * r) q (joined f i (suc n)), drop_at (f i) (joined f (suc i) n) q (long i (omega arith)))
      (joined_at n (suc i) (λ r h. long r (omega arith)) r (omega arith) ∙ ap f g)

pub joined_fit : {W : ℕ} (f : ℕ → List ℕ) (n i : ℕ) → ((r : ℕ) → r < i + n → Fit W (f r)) → Fit W (joined f i n)
joined_fit {W} f zero i fits = fit_nil W
joined_fit f (suc n) i fits = fit_append (fits i (omega arith)) (joined_fit f n (suc i) (λ r h. fits r (omega arith)))

-- the same parts joined are the same
pub joined_same : {A : Type 0} (f g : ℕ → A) (n i : ℕ) → ((r : ℕ) → r < i + n → f r ≡ g r) → map f (range i n) ≡ map g (range i n)
joined_same f g zero i h = refl
joined_same f g (suc n) i h = ap₂ ◌∷◌ (h i (omega arith)) (joined_same f g n (suc i) (λ r k. h r (omega arith)))

-- ---- a list by its parts
pub part_length : (q n : ℕ) (l : List ℕ) → length l ≡ q * n → (r : ℕ) → r < n → length (part_at q l r) ≡ q
part_length q n l e r h =
    let k : q * suc r ≤ q * n = mul-le-mul_left q h in
    length-take-le q (drop (q * r) l) (rw length-drop (omega (arith, mul-suc q r)))

after : (q : ℕ) (l : List ℕ) (r : ℕ) → part_at q (drop q l) r ≡ part_at q l (suc r)
after q l r = let e : q * suc r ≡ q + q * r = omega (arith, mul-suc q r) in rw (e, drop-drop (q * r) q l)

none : (l : List ℕ) → length l ≡ 0 → l ≡ []
none [] e = refl
none (x ∷ l) e = absurd (omega arith)

-- two lists of n parts with the same parts are the same
pub parts_one : (q n : ℕ) (l m : List ℕ) → length l ≡ q * n → length m ≡ q * n → ((r : ℕ) → r < n → part_at q l r ≡ part_at q m r) → l ≡ m
parts_one q zero l m e g h = none l (omega arith) ∙ sym (none m (omega arith))
parts_one q (suc n) l m e g h =
    let z : q * 0 ≡ 0 = omega arith in
    sym (take-append-drop q l)
    ∙ ap₂ ◌++◌ (rw z at (h 0 (omega arith)))
    (parts_one q n (drop q l) (drop q m) (length-drop q l ∙ omega (arith, mul-suc q n)) (length-drop q m ∙ omega (arith, mul-suc q n))
    (λ r k. after q l r ∙ h (suc r) (omega arith) ∙ sym (after q m r)))
    ∙ take-append-drop q m
