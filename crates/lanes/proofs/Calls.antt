-- mix_columns and inv_mix_columns by their calls: where the words between are known by equations, as the callees' contracts give them, the
-- result is the program's. One law for the form and the width. Assumes nothing.
use mathlib.Core.Path.{◌≡◌, sym, subst}
use mathlib.Core.List.{List}
use Prim.Native.Nat.{ℕ, ◌<◌}
use lib.ListN.{get_or}
use Rattle.fips197.specs.Bytes.{Fit}
use Rattle.lanes.specs.Layout.{Width, bits}
use Rattle.lanes.specs.Leaves.{Does, all, mix_form, inv_mix_form}
use Rattle.lanes.specs.Programs.{words, sums8, mix_outer, first_rotates, second_rotates, inv_mix_d, inv_mix_e, sums83}
use Rattle.lanes.proofs.Linear.{mix_words, inv_mix_words, mix_law, inv_mix_law}

-- the words of a list by their places
abbrev pub at : List ℕ → ℕ → ℕ
at l p = get_or l p 0

-- four calls, each on what came before
calls4 : (B : List ℕ) (C S : List ℕ → List ℕ) (R : List ℕ → List ℕ → List ℕ → List ℕ) {b c s r : List ℕ}
    → b ≡ B → c ≡ C b → s ≡ S c → r ≡ R b c s → r ≡ R B (C B) (S (C B))
calls4 B C S R p q u v = cc

-- six calls
calls6 : (B : List ℕ) (C D : List ℕ → List ℕ) (E : List ℕ → List ℕ → List ℕ) (S : List ℕ → List ℕ) (R : List ℕ → List ℕ → List ℕ → List ℕ)
    {b c d e s r : List ℕ}
    → b ≡ B → c ≡ C b → d ≡ D c → e ≡ E c d → s ≡ S e → r ≡ R d e s → r ≡ R (D (C B)) (E (C B) (D (C B))) (S (E (C B) (D (C B))))
calls6 B C D E S R p q t u v x = cc

pub mix_calls : (w : Width) (i : ℕ) → i < 4 → {a b c s r : List ℕ} → Fit (bits w) a
    → b ≡ first_rotates (words w) w i (at a) → c ≡ sums8 (words w) w (at a) (at b) → s ≡ second_rotates (words w) w i (at c)
    → r ≡ mix_outer (words w) w (at b) (at c) (at s) → Does w (all (mix_form i)) a r
unfolding mix_words
mix_calls w i h {a} {b} {c} {s} {r} fit p q u v =
    let e : r ≡ mix_words w i a =
    calls4 (first_rotates (words w) w i (at a)) (λ b. sums8 (words w) w (at a) (at b)) (λ c. second_rotates (words w) w i (at c))
    (λ b c s. mix_outer (words w) w (at b) (at c) (at s)) p q u v in
    subst (λ (l : List ℕ). Does w (all (mix_form i)) a l) (sym e) (mix_law w i h fit)

pub inv_mix_calls : (w : Width) (i : ℕ) → i < 4 → {a b c d e s r : List ℕ} → Fit (bits w) a
    → b ≡ first_rotates (words w) w i (at a) → c ≡ sums8 (words w) w (at a) (at b) → d ≡ inv_mix_d (words w) w (at a) (at c)
    → e ≡ inv_mix_e (words w) w (at c) (at d) → s ≡ second_rotates (words w) w i (at e) → r ≡ sums83 (words w) w (at d) (at e) (at s)
    → Does w (all (inv_mix_form i)) a r
unfolding inv_mix_words
inv_mix_calls w i h {a} {b} {c} {d} {e} {s} {r} fit p q t u v x =
    let z : r ≡ inv_mix_words w i a =
    calls6 (first_rotates (words w) w i (at a)) (λ b. sums8 (words w) w (at a) (at b)) (λ c. inv_mix_d (words w) w (at a) (at c))
    (λ c d. inv_mix_e (words w) w (at c) (at d)) (λ e. second_rotates (words w) w i (at e)) (λ d e s. sums83 (words w) w (at d) (at e) (at s)) p q t u v x in
    subst (λ (l : List ℕ). Does w (all (inv_mix_form i)) a l) (sym z) (inv_mix_law w i h fit)

-- a layer chosen by its number
pub numbered : (f : ℕ → List ℕ → List ℕ) {w : Width} {n k : ℕ} {s r : List ℕ} → n ≡ k → Does w (all (f k)) s r → Does w (all (f n)) s r
numbered f {w} {n} {k} {s} {r} e d = subst (λ (i : ℕ). Does w (all (f i)) s r) (sym e) d
