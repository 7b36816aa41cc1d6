-- What the table of sizes says of each row, by one computed test over the table; and what is found in it is a row. Assumes nothing.
use mathlib.Core.Path.{◌≡◌, refl}
use mathlib.Core.Bool.{Bool, true, false, ◌&&◌, cond}
use mathlib.Core.List.{List, [], ◌∷◌}
use Prim.Native.Nat.{ℕ, zero, suc, ◌+◌, ◌*◌, ◌%◌, ◌≤◌}
use lib.Dec.{T, eqb, leb, ltb, eqb→eq, leb→le, ltb→lt}
use lib.ListN.{get_or}
use Rattle.fips197.specs.Aes.{rounds_for}
use Rattle.fips197.proofs.Linear.{both_left, both_right}
use Rattle.lanes.specs.Sizes.{Size, sizes, no_size, row_of, key_size, schedule_size}

-- what a row says
pub record Sized (z : Size) : Type 0 where
  pub some : 1 ≤ z.nk
  pub most : z.nk ≤ 8
  pub rounds_are : z.rounds ≡ rounds_for z.nk
  pub words_are : z.words ≡ 8 * (z.rounds + 1)
  pub room : z.words ≤ 120
  pub even : z.rounds % 2 ≡ 0
  pub found_again : (schedule_size z.words).rounds ≡ z.rounds

-- the same, as tests
abbrev tests : Size → List Bool
tests z =
    ltb 0 z.nk ∷
    leb z.nk 8 ∷
    eqb z.rounds (rounds_for z.nk) ∷
    eqb z.words (8 * (z.rounds + 1)) ∷
    leb z.words 120 ∷
    eqb (z.rounds % 2) 0 ∷
    eqb (schedule_size z.words).rounds z.rounds ∷
    []

abbrev all_hold : List Bool → Bool
all_hold [] = true
all_hold (b ∷ bs) = b && all_hold bs

abbrev all_test : List Size → Bool
all_test [] = true
all_test (z ∷ zs) = all_hold (tests z) && all_test zs

tested : T (all_test sizes)
unfolding schedule_size
tested = tt

holds : (bs : List Bool) → T (all_hold bs) → (i : ℕ) → T (get_or bs i true)
holds [] t i = tt
holds (b ∷ bs) t zero = both_left b (all_hold bs) t
holds (b ∷ bs) t (suc i) = holds bs (both_right b (all_hold bs) t) i

passes : (z : Size) → T (all_hold (tests z)) → Sized z
passes z t = record {
  some = ltb→lt 0 z.nk (holds (tests z) t 0);
  most = leb→le z.nk 8 (holds (tests z) t 1);
  rounds_are = eqb→eq z.rounds (rounds_for z.nk) (holds (tests z) t 2);
  words_are = eqb→eq z.words (8 * (z.rounds + 1)) (holds (tests z) t 3);
  room = leb→le z.words 120 (holds (tests z) t 4);
  even = eqb→eq (z.rounds % 2) 0 (holds (tests z) t 5);
  found_again = eqb→eq (schedule_size z.words).rounds z.rounds (holds (tests z) t 6);
}

-- ---- what is found is a row, where it is not the row of zeros
pub record Found (f : Size → ℕ) (n : ℕ) (z : Size) : Type 0 where
  pub at : n ≡ f z
  pub sized : Sized z

module _ (f g : Size → ℕ) (none : g no_size ≡ 0) (n : ℕ) where
  -- the test of the first row, and the rest
  either : (b : Bool) (z s : Size) → (T b → Found f n z) → ((g s ≡ 0 → ⊥) → Found f n s) → (g (cond b z s) ≡ 0 → ⊥) → Found f n (cond b z s)
  either true z s p q h = p tt
  either false z s p q h = q h

  find : (zs : List Size) → T (all_test zs) → (g (row_of f n zs) ≡ 0 → ⊥) → Found f n (row_of f n zs)
  find [] t h = absurd (h none)
  find (z ∷ zs) t h = either (eqb n (f z)) z (row_of f n zs)
      (λ e. record { at = eqb→eq n (f z) e; sized = passes z (both_left (all_hold (tests z)) (all_test zs) t) })
      (find zs (both_right (all_hold (tests z)) (all_test zs) t)) h

-- a key's length
pub key_found : (n : ℕ) → ((key_size n).nk ≡ 0 → ⊥) → Found (λ z. 4 * z.nk) n (key_size n)
unfolding key_size
key_found n h = find (λ z. 4 * z.nk) (λ z. z.nk) refl n sizes tested h

-- a schedule's
pub schedule_found : (n : ℕ) → ((schedule_size n).rounds ≡ 0 → ⊥) → Found (λ z. z.words) n (schedule_size n)
unfolding schedule_size
schedule_found n h = find (λ z. z.words) (λ z. z.rounds) refl n sizes tested h
