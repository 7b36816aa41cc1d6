-- Eight words of any type at an offset, through what each is as a number. Assumes nothing.
use mathlib.Core.Path.{◌≡◌, sym, ◌∙◌, ap, ap₂}
use mathlib.Core.List.{List, ◌++◌, map}
use Prim.Native.Nat.{ℕ}
use lib.ListN.{drop, take}
use Rattle.std.proofs.lemmas.List.{take-map, drop-map, map-append}
use Rattle.lanes.specs.Schedule.{words_at}
use Rattle.lanes.specs.Leaves.{put}

module _ {A : Type 0} (v : A → ℕ) (l : List A) (at k : ℕ) where
  -- a part, k being at + 8 - at
  pub part_words : k ≡ 8 → {xs : List A} → xs ≡ take k (drop at l) → map v xs ≡ words_at (map v l) at
  unfolding words_at
  part_words e p =
      ap (map v) p ∙ sym (take-map v k (drop at l)) ∙ ap₂ take e (sym (drop-map v at l))

  -- and one that was put back
  pub put_words : k ≡ 8 → {xs ys : List A} → xs ≡ ys → map v (take at l ++ (xs ++ drop k (drop at l))) ≡ put (map v l) at (map v ys)
  unfolding put
  put_words e {xs} {ys} p =
      map-append v (take at l) (xs ++ drop k (drop at l))
      ∙ ap₂ ◌++◌ (sym (take-map v at l))
      (map-append v xs (drop k (drop at l))
      ∙ ap₂ ◌++◌ (ap (map v) p) (sym (drop-map v k (drop at l)) ∙ ap₂ drop e (sym (drop-map v at l))))
