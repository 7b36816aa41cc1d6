-- Laws of parts of eight words of a schedule, and of lists by their elements. Assumes nothing.
use mathlib.Core.Path.{◌≡◌, refl, sym, ◌∙◌, ap, ap₂, subst, subst₂}
use mathlib.Core.List.{List, [], ◌∷◌, ◌++◌, append_assoc}
use Prim.Native.Nat.{ℕ, ◌+◌, ◌-◌, ◌≤◌}
use native.Mathlib.Omega.{arith}
use lib.ListN.{take, drop, length, length-append, length-drop, take-append-drop}
use lib.Seq.{drop-drop, take_at, drop_at, take-append-le, drop-append-le, length-take-le}
use Rattle.lanes.specs.Layout.{Width}
use Rattle.lanes.specs.Schedule.{words_at}
use Rattle.lanes.specs.Leaves.{Does, put, Changes, next_key_of}

-- two lists are equal, element by element
infixr 60 ◌∷≡◌
pub ◌∷≡◌ : {x y : ℕ} {xs ys : List ℕ} → x ≡ y → xs ≡ ys → x ∷ xs ≡ y ∷ ys
◌∷≡◌ p q = ap₂ ◌∷◌ p q

pub done : ◌≡◌ {A = List ℕ} [] []
done = refl

-- ---- a part, and a part put back
pub words_length : (l : List ℕ) (at : ℕ) → at + 8 ≤ length l → length (words_at l at) ≡ 8
unfolding words_at
words_length l at h = length-take-le 8 (drop at l) (omega (arith, length-drop at l))

module _ (l : List ℕ) (at : ℕ) (ws : List ℕ) (h : at + 8 ≤ length l) (e : length ws ≡ 8) where
  front : length (take at l) ≡ at
  front = length-take-le at l (omega arith)

  pub at_put : words_at (put l at ws) at ≡ ws
  unfolding put words_at
  at_put = rw (drop_at (take at l) (ws ++ drop 8 (drop at l)) at front) (take_at ws (drop 8 (drop at l)) 8 e)

  pub before_put : (i : ℕ) → i + 8 ≤ at → words_at (put l at ws) i ≡ words_at l i
  unfolding put words_at
  before_put i k =
      let a : i ≤ length (take at l) = omega (arith, front) in
      let b : 8 ≤ length (drop i (take at l)) = omega (arith, front, length-drop i (take at l)) in
      let g : take 8 (drop i (take at l ++ drop at l)) ≡ take 8 (drop i (take at l)) =
      rw (drop-append-le i (take at l) (drop at l) a) (take-append-le 8 (drop i (take at l)) (drop at l) b) in
      rw (drop-append-le i (take at l) (ws ++ drop 8 (drop at l)) a) (take-append-le 8 (drop i (take at l)) (ws ++ drop 8 (drop at l)) b)
      ∙ sym (rw (take-append-drop at l) at g)

  pub after_put : (i : ℕ) → at + 8 ≤ i → words_at (put l at ws) i ≡ words_at l i
  unfolding put words_at
  after_put i k =
      let n : ℕ = i - (at + 8) in
      let m : at + 8 + n ≡ i = omega arith in
      let p : length (take at l ++ ws) ≡ at + 8 = length-append (take at l) ws ∙ (rw (front, e)) in
      let q : drop (at + 8) (take at l ++ (ws ++ drop 8 (drop at l))) ≡ drop (at + 8) l =
      rw (← append_assoc (take at l) ws (drop 8 (drop at l))) (drop_at (take at l ++ ws) (drop 8 (drop at l)) (at + 8) p ∙ drop-drop 8 at l) in
      rw (← m, ← drop-drop n (at + 8) (take at l ++ (ws ++ drop 8 (drop at l))), ← drop-drop n (at + 8) l) (rw q refl)

  pub put_put : (vs : List ℕ) → put (put l at ws) at vs ≡ put l at vs
  unfolding put
  put_put vs =
      rw (take_at (take at l) (ws ++ drop 8 (drop at l)) at front, drop_at (take at l) (ws ++ drop 8 (drop at l)) at front, drop_at ws (drop 8 (drop at l)) 8 e)

-- a part lent, changed and given back: what the callee says of it is said of the whole
pub changed : (w : Width) {f : ℕ → List ℕ → List ℕ} {l part ws : List ℕ} (at : ℕ) → at + 8 ≤ length l → length ws ≡ 8
    → part ≡ words_at l at → Does w f part ws → Changes w f at l (put l at ws)
changed w {f} {l} {part} {ws} at h e p d =
    let q : words_at (put l at ws) at ≡ ws = at_put l at ws h e in
    record {
      here = subst₂ (Does w f) p (sym q) d;
      only = ap (put l at) (sym q);
    }

-- xor_columns, where the words of the key before are known by an equation
pub key_is : (w : Width) (n : ℕ) {p q s r : List ℕ} → p ≡ q → Does w (next_key_of w n p) s r → Does w (next_key_of w n q) s r
key_is w n {p} {q} {s} {r} e d = subst (λ (l : List ℕ). Does w (next_key_of w n l) s r) e d
