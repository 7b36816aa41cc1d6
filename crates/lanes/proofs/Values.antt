-- Words of any type by what each is as a number: they fit, what is made of them by their places, and a machine's words are those numbers. Assumes nothing.
use mathlib.Core.Path.{◌≡◌, refl, sym, ◌∙◌, ap, ap₂}
use mathlib.Core.List.{List, [], ◌∷◌, map}
use Prim.Native.Nat.{ℕ, ◌%◌, ◌^◌, ◌<◌}
use native.Mathlib.Nat.{mod-eq_of_lt}
use native.Mathlib.Omega.{arith}
use lib.ListN.{get_or, length}
use Rattle.std.proofs.lemmas.List.{get_or-map}
use Rattle.fips197.specs.Bytes.{Fit}
use Rattle.fips197.proofs.Blocks.{fit_nil, fit_cons, fit_tail}

pub values_fit : {A : Type 0} {W : ℕ} {v : A → ℕ} → ((x : A) → v x < 2 ^ W) → (l : List A) → Fit W (map v l)
values_fit {A} {W} {v} h [] = fit_nil W
values_fit {A} {W} {v} h (x ∷ xs) = fit_cons (v x) (h x) (values_fit h xs)

-- at u32 and u64
pub values_are : (W : ℕ) (l : List ℕ) → Fit W l → map (λ x. x % 2 ^ W) l ≡ l
values_are W [] f = refl
values_are W (x ∷ xs) f = ap₂ ◌∷◌ (mod-eq_of_lt (f.at 0)) (values_are W xs (fit_tail f))

-- what is made of a word of an array of eight, and of a word of each of two
pub at_place : {A : Type 0} (v : A → ℕ) (f : ℕ → ℕ) (l : List A) → length l ≡ 8 → (p : ℕ) → p < 8 → (d : A) {r : ℕ} → r ≡ f (v (get_or l p d))
    → r ≡ f (get_or (map v l) p 0)
at_place v f l n p h d q = q ∙ ap f (sym (get_or-map v l p d 0 (omega arith)))

pub at_places : {A : Type 0} (v : A → ℕ) (f : ℕ → ℕ → ℕ) (l m : List A) → length l ≡ 8 → length m ≡ 8 → (p : ℕ) → p < 8 → (d e : A) {r : ℕ}
    → r ≡ f (v (get_or l p d)) (v (get_or m p e)) → r ≡ f (get_or (map v l) p 0) (get_or (map v m) p 0)
at_places v f l m n k p h d e q =
    q ∙ ap₂ f (sym (get_or-map v l p d 0 (omega arith))) (sym (get_or-map v m p e 0 (omega arith)))
