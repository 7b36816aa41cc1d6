-- The check of everything linear. A number is carried together with its bits as sums of named input bits and the proof that they agree
-- (`Related`); each operation works on all three. Where two computations end in the same sums, which is a computed test, their numbers are
-- equal (`agree`). Assumes nothing.
use mathlib.Core.Path.{◌≡◌, refl, sym, ap, ap₂, ◌∙◌}
use mathlib.Core.List.{List, [], ◌∷◌, map}
use mathlib.Core.Bool.{Bool, true, false, ◌&&◌}
use Prim.Native.Nat.{ℕ, zero, suc, ◌+◌, ◌*◌, ◌/◌, ◌%◌, ◌^◌, ◌≤◌, ◌<◌, zero-le}
use native.Mathlib.Nat.{mul-one, zero-mul, one-mul, zero-lt-suc, mod-lt, pow-suc, not-suc-le-zero, le_of_suc-le-suc, add-zero, suc-add, add-suc}
use native.Mathlib.Omega.{arith}
use native.Mathlib.Decide.{dec_lt}
use lib.Dec.{T, eqb, ltb, eqb→eq, ltb→lt}
use lib.Arith.{lt-one, digits_div, digits_mod}
use lib.Pow.{pow_pos}
use lib.Bits.{bit_xor, bit_and, bit_or, xor_comm, xor_self, xor_zero_r, or_zero_r, and_zero_r, xor_lt, shifted_half, shifted_even}
use lib.ListN.{get_or, take, drop, length-take, get_or-eq_default}
use lib.Seq.{get_or-take, get_or-drop}
use Rattle.fips197.specs.Bytes.{Fit}
use Rattle.fips197.specs.Aes.{bit}
use Rattle.fips197.proofs.Bits.{bit_lt, xor_bit, and_bit, or_bit, bit_shr, bit_suc, bit_zero, bits_ext, bit_low, bit_above, bit_cases, xor_assoc}

pub both_left : (a b : Bool) → T (◌&&◌ a b) → T a
both_left true b t = tt
both_left false b t = t

pub both_right : (a b : Bool) → T (◌&&◌ a b) → T b
both_right true b t = t
both_right false b t = absurd t

-- ---- a sum of named bits, the names rising
abbrev pub Sum : Type 0
Sum = List ℕ

abbrev insert : ℕ → Sum → (Sum → Sum) → Sum → Sum
insert x xs rest [] = x ∷ xs
insert x xs rest (y ∷ ys) =
    elim (eqb x y) [ true ↦ rest ys | false ↦ elim (ltb x y) [ true ↦ x ∷ rest (y ∷ ys) | false ↦ y ∷ insert x xs rest ys ] ]

abbrev add : Sum → Sum → Sum
add [] ys = ys
add (x ∷ xs) ys = insert x xs (add xs) ys

-- ---- a word: the sum for each bit, lowest first; `ok` is false where an operation was not linear
pub record Word : Type 0 where
  pub ok : Bool
  pub sums : List Sum

abbrev xor_sums : List Sum → List Sum → List Sum
xor_sums [] ys = ys
xor_sums (x ∷ xs) [] = x ∷ xs
xor_sums (x ∷ xs) (y ∷ ys) = add x y ∷ xor_sums xs ys

-- of two sums one is empty
abbrev apart : Sum → Sum → Bool
apart [] y = true
apart (n ∷ x) [] = true
apart (n ∷ x) (m ∷ y) = false

abbrev all_apart : List Sum → List Sum → Bool
all_apart [] ys = true
all_apart (x ∷ xs) [] = true
all_apart (x ∷ xs) (y ∷ ys) = ◌&&◌ (apart x y) (all_apart xs ys)

abbrev keep : ℕ → Sum → Sum
keep zero x = []
keep (suc d) x = x

abbrev mask_sums : ℕ → List Sum → List Sum
mask_sums m [] = []
mask_sums m (x ∷ xs) = keep (m % 2) x ∷ mask_sums (m / 2) xs

abbrev const_sums : ℕ → ℕ → List Sum
const_sums zero m = []
const_sums (suc n) m = keep (m % 2) (0 ∷ []) ∷ const_sums n (m / 2)

abbrev shl_sums : ℕ → List Sum → List Sum
shl_sums zero xs = xs
shl_sums (suc n) xs = [] ∷ shl_sums n xs

-- ---- what a sum stands for, once the named bits have values
abbrev pub den : (ℕ → ℕ) → Sum → ℕ
den ρ [] = 0
den ρ (x ∷ xs) = bit_xor (ρ x) (den ρ xs)

-- a number, and the sums for its bits
pub record Related (ρ : ℕ → ℕ) : Type 0 where
  pub word : ℕ
  pub sym : Word
  pub holds : T sym.ok → (k : ℕ) → bit k word ≡ den ρ (get_or sym.sums k [])

module _ (ρ : ℕ → ℕ) where
  abbrev pub all_ok : List (Related ρ) → Bool
  all_ok [] = true
  all_ok (x ∷ xs) = ◌&&◌ x.sym.ok (all_ok xs)

  abbrev pub numbers : List (Related ρ) → List ℕ
  numbers xs = map (λ x. x.word) xs

xor_swap : (a b c : ℕ) → bit_xor b (bit_xor a c) ≡ bit_xor a (bit_xor b c)
xor_swap a b c = sym (xor_assoc b a c) ∙ ap (λ (z : ℕ). bit_xor z c) (xor_comm b a) ∙ xor_assoc a b c

xor_twice : (a b : ℕ) → bit_xor a (bit_xor a b) ≡ b
xor_twice a b = sym (xor_assoc a a b) ∙ ap (λ (z : ℕ). bit_xor z b) (xor_self a)

cancel : (r a b : ℕ) → bit_xor a b ≡ bit_xor (bit_xor r a) (bit_xor r b)
cancel r a b = sym (xor_assoc r a (bit_xor r b) ∙ ap (bit_xor r) (xor_swap r a b) ∙ xor_twice r (bit_xor a b))

pub zero_bit : (k : ℕ) → bit k 0 ≡ 0
zero_bit k = bit_above k 0 0 (zero-lt-suc 0) zero-le

-- the named bits: bit k of word p has the name 64 * (p + 1) + k, and the name 0 is the constant 1
abbrev pub value_of : List ℕ → ℕ → ℕ
value_of ws n = bit (n % 64) (get_or (1 ∷ ws) (n / 64) 0)

value_of_lt : (ws : List ℕ) (n : ℕ) → value_of ws n < 2
value_of_lt ws n = bit_lt (n % 64) (get_or (1 ∷ ws) (n / 64) 0)

module _ (ws : List ℕ) where
  den_lt : (x : Sum) → den (value_of ws) x < 2
  den_lt [] = zero-lt-suc 1
  den_lt (x ∷ xs) = xor_lt 1 ((value_of ws) x) (den (value_of ws) xs) (value_of_lt ws x) (den_lt xs)

  cond : (t : ℕ) (e : Bool) (a b : Sum) → (T e → den (value_of ws) a ≡ t) → den (value_of ws) b ≡ t → den (value_of ws) (elim e [ true ↦ a | false ↦ b ]) ≡ t
  cond t true a b p q = p tt
  cond t false a b p q = q

  insert_den : (x : ℕ) (xs : Sum) (rest : Sum → Sum) → ((zs : Sum) → den (value_of ws) (rest zs) ≡ bit_xor (den (value_of ws) xs) (den (value_of ws) zs))
      → (ys : Sum) → den (value_of ws) (insert x xs rest ys) ≡ bit_xor (den (value_of ws) (x ∷ xs)) (den (value_of ws) ys)
  insert_den x xs rest h [] = sym (xor_zero_r (bit_xor ((value_of ws) x) (den (value_of ws) xs)))
  insert_den x xs rest h (y ∷ ys) =
      cond (bit_xor (den (value_of ws) (x ∷ xs)) (den (value_of ws) (y ∷ ys))) (eqb x y) (rest ys)
      (elim (ltb x y) [ true ↦ x ∷ rest (y ∷ ys) | false ↦ y ∷ insert x xs rest ys ])
      (λ t. h ys ∙ cancel ((value_of ws) x) (den (value_of ws) xs) (den (value_of ws) ys)
      ∙ ap (λ (z : ℕ). bit_xor (den (value_of ws) (x ∷ xs)) (bit_xor ((value_of ws) z) (den (value_of ws) ys))) (eqb→eq x y t))
      (cond (bit_xor (den (value_of ws) (x ∷ xs)) (den (value_of ws) (y ∷ ys))) (ltb x y) (x ∷ rest (y ∷ ys)) (y ∷ insert x xs rest ys)
      (λ t. ap (bit_xor ((value_of ws) x)) (h (y ∷ ys)) ∙ sym (xor_assoc ((value_of ws) x) (den (value_of ws) xs) (den (value_of ws) (y ∷ ys))))
      (ap (bit_xor ((value_of ws) y)) (insert_den x xs rest h ys) ∙ xor_swap (den (value_of ws) (x ∷ xs)) ((value_of ws) y) (den (value_of ws) ys)))

  add_den : (x y : Sum) → den (value_of ws) (add x y) ≡ bit_xor (den (value_of ws) x) (den (value_of ws) y)
  add_den [] y = refl
  add_den (x ∷ xs) y = insert_den x xs (add xs) (add_den xs) y

  -- ---- the operations, bit by bit
  pub xor_at : (xs ys : List Sum) (k : ℕ)
      → den (value_of ws) (get_or (xor_sums xs ys) k []) ≡ bit_xor (den (value_of ws) (get_or xs k [])) (den (value_of ws) (get_or ys k []))
  xor_at [] ys k = refl
  xor_at (x ∷ xs) [] k = sym (xor_zero_r (den (value_of ws) (get_or (x ∷ xs) k [])))
  xor_at (x ∷ xs) (y ∷ ys) zero = add_den x y
  xor_at (x ∷ xs) (y ∷ ys) (suc k) = xor_at xs ys k

  apart_den : (x y : Sum) → T (apart x y) → den (value_of ws) (add x y) ≡ bit_or (den (value_of ws) x) (den (value_of ws) y)
  apart_den [] y t = refl
  apart_den (n ∷ x) [] t = sym (or_zero_r (den (value_of ws) (n ∷ x)))
  apart_den (n ∷ x) (m ∷ y) t = absurd t

  pub or_at : (xs ys : List Sum) (k : ℕ) → T (all_apart xs ys)
      → den (value_of ws) (get_or (xor_sums xs ys) k []) ≡ bit_or (den (value_of ws) (get_or xs k [])) (den (value_of ws) (get_or ys k []))
  or_at [] ys k t = refl
  or_at (x ∷ xs) [] k t = sym (or_zero_r (den (value_of ws) (get_or (x ∷ xs) k [])))
  or_at (x ∷ xs) (y ∷ ys) zero t = apart_den x y (both_left (apart x y) (all_apart xs ys) t)
  or_at (x ∷ xs) (y ∷ ys) (suc k) t = or_at xs ys k (both_right (apart x y) (all_apart xs ys) t)

  keep_den : (x : Sum) (d : ℕ) → d < 2 → den (value_of ws) (keep d x) ≡ bit_and (den (value_of ws) x) d
  keep_den x d h =
      bit_cases (λ (d : ℕ). den (value_of ws) (keep d x) ≡ bit_and (den (value_of ws) x) d) (sym (and_zero_r (den (value_of ws) x)))
      (bit_cases (λ (v : ℕ). v ≡ bit_and v 1) refl refl (den (value_of ws) x) (den_lt x)) d h

  pub mask_at : (xs : List Sum) (m k : ℕ) → den (value_of ws) (get_or (mask_sums m xs) k []) ≡ bit_and (den (value_of ws) (get_or xs k [])) (bit k m)
  mask_at [] m k = refl
  mask_at (x ∷ xs) m zero = keep_den x (m % 2) (mod-lt m (zero-lt-suc 1)) ∙ ap (bit_and (den (value_of ws) x)) (sym (bit_zero m))
  mask_at (x ∷ xs) m (suc k) = mask_at xs (m / 2) k ∙ ap (bit_and (den (value_of ws) (get_or xs k []))) (sym (bit_suc k m))

  pub shl_at : (x : ℕ) (xs : List Sum) → ((k : ℕ) → bit k x ≡ den (value_of ws) (get_or xs k []))
      → (n k : ℕ) → bit k (x * 2 ^ n) ≡ den (value_of ws) (get_or (shl_sums n xs) k [])
  shl_at x xs h zero k = ap (bit k) (mul-one x) ∙ h k
  shl_at x xs h (suc n) zero = bit_zero (x * 2 ^ suc n) ∙ shifted_even x n
  shl_at x xs h (suc n) (suc k) = bit_suc k (x * 2 ^ suc n) ∙ ap (bit k) (shifted_half x n) ∙ shl_at x xs h n k

  -- the low W bits
  pub low_at : (y W : ℕ) (xs : List Sum) → ((k : ℕ) → bit k y ≡ den (value_of ws) (get_or xs k []))
      → (k : ℕ) → bit k (y % 2 ^ W) ≡ den (value_of ws) (get_or (take W xs) k [])
  low_at y W xs h k = pick (dec_lt k W)
    where
      pick : Dec (k < W) → bit k (y % 2 ^ W) ≡ den (value_of ws) (get_or (take W xs) k [])
      pick (yes l) = bit_low k W y l ∙ h k ∙ ap (den (value_of ws)) (sym (get_or-take W xs k [] l))
      pick (no l) =
          bit_above k W (y % 2 ^ W) (mod-lt y (pow_pos W)) (omega arith)
          ∙ ap (den (value_of ws)) (sym (get_or-eq_default (take W xs) [] {n = k} (omega (arith, length-take W xs))))

  -- a bit times a constant of n bits: the sum stands wherever the constant has a 1
  abbrev pub spread_sums : ℕ → ℕ → Sum → List Sum
  spread_sums zero m x = []
  spread_sums (suc n) m x = keep (m % 2) x ∷ spread_sums n (m / 2) x

  spread_zero : (n m : ℕ) (x : Sum) → den (value_of ws) x ≡ 0 → (k : ℕ) → den (value_of ws) (get_or (spread_sums n m x) k []) ≡ 0
  spread_zero zero m x e k = refl
  spread_zero (suc n) m x e zero = keep_den x (m % 2) (mod-lt m (zero-lt-suc 1)) ∙ ap (λ (v : ℕ). bit_and v (m % 2)) e
  spread_zero (suc n) m x e (suc k) = spread_zero n (m / 2) x e k

  spread_one : (n m : ℕ) (x : Sum) → den (value_of ws) x ≡ 1 → m < 2 ^ n → (k : ℕ) → bit k m ≡ den (value_of ws) (get_or (spread_sums n m x) k [])
  spread_one zero m x e h k = ap (bit k) (lt-one h) ∙ zero_bit k
  spread_one (suc n) m x e h zero =
      let low : m % 2 < 2 = mod-lt m (zero-lt-suc 1) in
      bit_zero m
      ∙ sym (keep_den x (m % 2) low ∙ ap (λ (v : ℕ). bit_and v (m % 2)) e ∙ bit_cases (λ (d : ℕ). bit_and 1 d ≡ d) refl refl (m % 2) low)
  spread_one (suc n) m x e h (suc k) = bit_suc k m ∙ spread_one n (m / 2) x e (omega (arith, h, pow-suc 2 n)) k

  pub spread_at : (n m : ℕ) (x : Sum) (v : ℕ) → v < 2 → m < 2 ^ n → v ≡ den (value_of ws) x
      → (k : ℕ) → bit k (v * m) ≡ den (value_of ws) (get_or (spread_sums n m x) k [])
  spread_at n m x v l h e k =
      bit_cases (λ (v : ℕ). v ≡ den (value_of ws) x → bit k (v * m) ≡ den (value_of ws) (get_or (spread_sums n m x) k []))
      (λ e. ap (bit k) (zero-mul m) ∙ zero_bit k ∙ sym (spread_zero n m x (sym e) k))
      (λ e. ap (bit k) (one-mul m) ∙ spread_one n m x (sym e) h k) v l e

  -- ---- the operations on related numbers
  abbrev pub xor_r : Related (value_of ws) → Related (value_of ws) → Related (value_of ws)
  xor_r a b = record {
    word = bit_xor a.word b.word;
    sym = record { ok = ◌&&◌ a.sym.ok b.sym.ok; sums = xor_sums a.sym.sums b.sym.sums };
    holds = λ t k.
        xor_bit k a.word b.word
        ∙ ap₂ bit_xor (a.holds (both_left a.sym.ok b.sym.ok t) k) (b.holds (both_right a.sym.ok b.sym.ok t) k)
        ∙ sym (xor_at a.sym.sums b.sym.sums k);
  }

  abbrev pub or_r : Related (value_of ws) → Related (value_of ws) → Related (value_of ws)
  or_r a b = record {
    word = bit_or a.word b.word;
    sym = record { ok = ◌&&◌ (all_apart a.sym.sums b.sym.sums) (◌&&◌ a.sym.ok b.sym.ok); sums = xor_sums a.sym.sums b.sym.sums };
    holds = λ t k.
        let u = both_right (all_apart a.sym.sums b.sym.sums) (◌&&◌ a.sym.ok b.sym.ok) t in
        or_bit k a.word b.word
        ∙ ap₂ bit_or (a.holds (both_left a.sym.ok b.sym.ok u) k) (b.holds (both_right a.sym.ok b.sym.ok u) k)
        ∙ sym (or_at a.sym.sums b.sym.sums k (both_left (all_apart a.sym.sums b.sym.sums) (◌&&◌ a.sym.ok b.sym.ok) t));
  }

  abbrev pub mask_r : Related (value_of ws) → ℕ → Related (value_of ws)
  mask_r a m = record {
    word = bit_and a.word m;
    sym = record { ok = a.sym.ok; sums = mask_sums m a.sym.sums };
    holds = λ t k. and_bit k a.word m ∙ ap (λ (v : ℕ). bit_and v (bit k m)) (a.holds t k) ∙ sym (mask_at a.sym.sums m k);
  }

  abbrev pub shr_r : Related (value_of ws) → ℕ → Related (value_of ws)
  shr_r a n = record {
    word = a.word / 2 ^ n;
    sym = record { ok = a.sym.ok; sums = drop n a.sym.sums };
    holds = λ t k. bit_shr k a.word n ∙ a.holds t (n + k) ∙ ap (den (value_of ws)) (sym (get_or-drop n a.sym.sums k []));
  }

  abbrev pub shl_r : ℕ → Related (value_of ws) → ℕ → Related (value_of ws)
  shl_r W a n = record {
    word = (a.word * 2 ^ n) % 2 ^ W;
    sym = record { ok = a.sym.ok; sums = take W (shl_sums n a.sym.sums) };
    holds = λ t k. low_at (a.word * 2 ^ n) W (shl_sums n a.sym.sums) (shl_at a.word a.sym.sums (a.holds t) n) k;
  }

  -- the low n bits
  abbrev pub low_r : ℕ → Related (value_of ws) → Related (value_of ws)
  low_r n a = record {
    word = a.word % 2 ^ n;
    sym = record { ok = a.sym.ok; sums = take n a.sym.sums };
    holds = λ t k. low_at a.word n a.sym.sums (a.holds t) k;
  }

  -- a constant of n bits
  pub const_at : (n m k : ℕ) → m < 2 ^ n → bit k m ≡ den (value_of ws) (get_or (const_sums n m) k [])
  const_at zero m k h = ap (bit k) (lt-one h) ∙ zero_bit k
  const_at (suc n) m zero h = bit_zero m ∙ bit_cases (λ (d : ℕ). d ≡ den (value_of ws) (keep d (0 ∷ []))) refl refl (m % 2) (mod-lt m (zero-lt-suc 1))
  const_at (suc n) m (suc k) h = bit_suc k m ∙ const_at n (m / 2) k (omega (arith, h, pow-suc 2 n))

  abbrev pub const_r : ℕ → ℕ → Related (value_of ws)
  const_r n m = record { word = m; sym = record { ok = ltb m (2 ^ n); sums = const_sums n m }; holds = λ t k. const_at n m k (ltb→lt m (2 ^ n) t) }

  abbrev pub null_r : Related (value_of ws)
  null_r = record { word = 0; sym = record { ok = true; sums = [] }; holds = λ t k. zero_bit k }

  -- bit q times a constant of n bits
  abbrev pub bit_times_r : ℕ → ℕ → ℕ → Related (value_of ws) → Related (value_of ws)
  bit_times_r n q m a = record {
    word = bit q a.word * m;
    sym = record { ok = ◌&&◌ (ltb m (2 ^ n)) a.sym.ok; sums = spread_sums n m (get_or a.sym.sums q []) };
    holds = λ t k.
        spread_at n m (get_or a.sym.sums q []) (bit q a.word) (bit_lt q a.word) (ltb→lt m (2 ^ n) (both_left (ltb m (2 ^ n)) a.sym.ok t))
        (a.holds (both_right (ltb m (2 ^ n)) a.sym.ok t) q) k;
  }

  -- the product with {02}
  abbrev pub xtime_r : Related (value_of ws) → Related (value_of ws)
  xtime_r a = xor_r (shl_r 8 a 1) (bit_times_r 8 7 0x1b a)

-- ---- the comparison
abbrev same_sum : Sum → Sum → Bool
same_sum [] [] = true
same_sum [] (y ∷ ys) = false
same_sum (x ∷ xs) [] = false
same_sum (x ∷ xs) (y ∷ ys) = ◌&&◌ (eqb x y) (same_sum xs ys)

abbrev same_sums : List Sum → List Sum → Bool
same_sums [] [] = true
same_sums [] (y ∷ ys) = false
same_sums (x ∷ xs) [] = false
same_sums (x ∷ xs) (y ∷ ys) = ◌&&◌ (same_sum x y) (same_sums xs ys)

abbrev same_word : Word → Word → Bool
same_word a b = ◌&&◌ a.ok (◌&&◌ b.ok (same_sums a.sums b.sums))

sum_eq : (x y : Sum) → T (same_sum x y) → x ≡ y
sum_eq [] [] t = refl
sum_eq [] (y ∷ ys) t = absurd t
sum_eq (x ∷ xs) [] t = absurd t
sum_eq (x ∷ xs) (y ∷ ys) t = ap₂ ◌∷◌ (eqb→eq x y (both_left (eqb x y) (same_sum xs ys) t)) (sum_eq xs ys (both_right (eqb x y) (same_sum xs ys) t))

sums_eq : (x y : List Sum) → T (same_sums x y) → x ≡ y
sums_eq [] [] t = refl
sums_eq [] (y ∷ ys) t = absurd t
sums_eq (x ∷ xs) [] t = absurd t
sums_eq (x ∷ xs) (y ∷ ys) t =
    ap₂ ◌∷◌ (sum_eq x y (both_left (same_sum x y) (same_sums xs ys) t)) (sums_eq xs ys (both_right (same_sum x y) (same_sums xs ys) t))

module _ (ρ : ℕ → ℕ) where
  abbrev pub same : List (Related ρ) → List (Related ρ) → Bool
  same [] [] = true
  same [] (y ∷ ys) = false
  same (x ∷ xs) [] = false
  same (x ∷ xs) (y ∷ ys) = ◌&&◌ (same_word x.sym y.sym) (same xs ys)

  abbrev pub same_lists : List (List (Related ρ)) → List (List (Related ρ)) → Bool
  same_lists [] [] = true
  same_lists [] (y ∷ ys) = false
  same_lists (x ∷ xs) [] = false
  same_lists (x ∷ xs) (y ∷ ys) = ◌&&◌ (same x y) (same_lists xs ys)

  -- numbers with the same sums are equal
  word_eq : (x y : Related ρ) → T (same_word x.sym y.sym) → x.word ≡ y.word
  word_eq x y t = bits_ext x.word y.word (λ k. x.holds tx k ∙ ap (λ (l : List Sum). den ρ (get_or l k [])) e ∙ sym (y.holds ty k))
    where
      u : T (◌&&◌ y.sym.ok (same_sums x.sym.sums y.sym.sums))
      u = both_right x.sym.ok (◌&&◌ y.sym.ok (same_sums x.sym.sums y.sym.sums)) t

      tx : T x.sym.ok
      tx = both_left x.sym.ok (◌&&◌ y.sym.ok (same_sums x.sym.sums y.sym.sums)) t

      ty : T y.sym.ok
      ty = both_left y.sym.ok (same_sums x.sym.sums y.sym.sums) u

      e : x.sym.sums ≡ y.sym.sums
      e = sums_eq x.sym.sums y.sym.sums (both_right y.sym.ok (same_sums x.sym.sums y.sym.sums) u)

  pub agree : (xs ys : List (Related ρ)) → T (same xs ys) → numbers ρ xs ≡ numbers ρ ys
  agree [] [] t = refl
  agree [] (y ∷ ys) t = absurd t
  agree (x ∷ xs) [] t = absurd t
  agree (x ∷ xs) (y ∷ ys) t =
      ap₂ ◌∷◌ (word_eq x y (both_left (same_word x.sym y.sym) (same xs ys) t)) (agree xs ys (both_right (same_word x.sym y.sym) (same xs ys) t))

  -- THE SOUNDNESS THEOREM, for lists of blocks
  pub agree_lists : (xs ys : List (List (Related ρ))) → T (same_lists xs ys) → map (numbers ρ) xs ≡ map (numbers ρ) ys
  agree_lists [] [] t = refl
  agree_lists [] (y ∷ ys) t = absurd t
  agree_lists (x ∷ xs) [] t = absurd t
  agree_lists (x ∷ xs) (y ∷ ys) t =
      ap₂ ◌∷◌ (agree x y (both_left (same x y) (same_lists xs ys) t)) (agree_lists xs ys (both_right (same x y) (same_lists xs ys) t))

-- ---- the inputs
abbrev names : ℕ → ℕ → List Sum
names i zero = []
names i (suc n) = (i ∷ []) ∷ names (suc i) n

names_at : (n i k : ℕ) → k < n → get_or (names i n) k [] ≡ (i + k) ∷ []
names_at zero i k h = absurd (not-suc-le-zero h)
names_at (suc n) i zero h = ap (λ (m : ℕ). m ∷ []) (sym (add-zero i))
names_at (suc n) i (suc k) h = names_at n (suc i) k (le_of_suc-le-suc h) ∙ ap (λ (m : ℕ). m ∷ []) (suc-add i k ∙ sym (add-suc i k))

names_above : (n i k : ℕ) → n ≤ k → get_or (names i n) k [] ≡ []
names_above zero i k h = refl
names_above (suc n) i zero h = absurd (not-suc-le-zero h)
names_above (suc n) i (suc k) h = names_above n (suc i) k (le_of_suc-le-suc h)

module _ (W : ℕ) (narrow : W ≤ 64) (ws : List ℕ) (fit : Fit W ws) where
  pub input_at : (p k : ℕ) → bit k (get_or ws p 0) ≡ den (value_of ws) (get_or (names (suc p * 64) W) k [])
  input_at p k = pick (dec_lt k W)
    where
      pick : Dec (k < W) → bit k (get_or ws p 0) ≡ den (value_of ws) (get_or (names (suc p * 64) W) k [])
      pick (yes l) =
          let l' : k < 64 = omega arith in
          ap₂ (λ (i j : ℕ). bit i (get_or (1 ∷ ws) j 0)) (sym (digits_mod (suc p) l')) (sym (digits_div (suc p) l'))
          ∙ sym (xor_zero_r (value_of ws (suc p * 64 + k)))
          ∙ ap (den (value_of ws)) (sym (names_at W (suc p * 64) k l))
      pick (no l) =
          let m : W ≤ k = omega arith in
          bit_above k W (get_or ws p 0) (fit.at p) m ∙ ap (den (value_of ws)) (sym (names_above W (suc p * 64) k m))

  abbrev pub input : ℕ → Related (value_of ws)
  input p = record { word = get_or ws p 0; sym = record { ok = true; sums = names (suc p * 64) W }; holds = λ t k. input_at p k }

  abbrev pub inputs : ℕ → ℕ → List (Related (value_of ws))
  inputs p zero = []
  inputs p (suc n) = input p ∷ inputs (suc p) n
