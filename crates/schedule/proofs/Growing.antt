-- The round keys so far, once over the width and the key's length: the key's own blocks come first, and each step leaves one more, by FIPS-197's
-- rule for round keys. Assumes nothing.
use mathlib.Core.Path.{◌≡◌, refl, sym, ap, ap₂, ◌∙◌, subst}
use mathlib.Core.List.{List}
use Prim.Native.Nat.{ℕ, zero, suc, ◌+◌, ◌-◌, ◌*◌, ◌/◌, ◌≤◌, ◌<◌}
use native.Mathlib.Decide.{dec_lt}
use native.Mathlib.Omega.{arith}
use lib.ListN.{get_or, length}
use Rattle.fips197.specs.Aes.{sixteen, round_constants, key_words}
use Rattle.fips197.proofs.Keys.{key_first}
use Rattle.lanes.specs.Layout.{Width, slots, slot}
use Rattle.lanes.specs.Schedule.{stored}
use Rattle.lanes.specs.Leaves.{key_columns, put, Changes}
use Rattle.schedule.specs.Steps.{Follows, key_pass, next_of, step_constant, step_rows, Loaded, Keys, Grows}
use Rattle.schedule.proofs.RoundKeys.{sixteen_take, next_constant, next_plain}
use Rattle.schedule.proofs.Passes.{Changed, passed, stored_before, stored_here}

-- ---- the blocks of the key, in every slot
-- i of m so far
pub record LoadedSo (w : Width) (m i : ℕ) (key l₀ l : List ℕ) : Type 0 where
  pub few : i ≤ m
  pub long : length l ≡ length l₀
  pub done : Loaded w i key l

pub loaded_none : {w : Width} {m : ℕ} {key l : List ℕ} → LoadedSo w m 0 key l l
loaded_none = record { few = omega arith; long = refl; done = record { at = λ b h r k. absurd (omega arith) } }

-- block i broadcast to s, and s stored
pub loaded_more : (w : Width) (i : ℕ) {m : ℕ} {key l₀ l l' : List ℕ} (s : List ℕ) → i < m → 8 * i + 8 ≤ length l → length l' ≡ length l → length s ≡ 8
    → ((b : ℕ) → b < slots w → slot w s b ≡ sixteen key i) → l' ≡ put l (8 * i) s → LoadedSo w m i key l₀ l
    → LoadedSo w m (i + 1) key l₀ l'
loaded_more w i {key = key} {l₀} {l} {l'} s less fits long eight each kept t =
    record { few = omega arith; long = long ∙ t.long; done = record { at = λ b h r y. more b h r y (dec_lt r i) } }
  where
    d : Changed w (λ b x. sixteen key i) (8 * i) l l'
    d = passed (8 * i) fits long eight refl (record { each = each }) kept

    more : (b : ℕ) → b < slots w → (r : ℕ) → r < i + 1 → Dec (r < i) → stored w l' b r ≡ sixteen key r
    more b h r y (yes z) = stored_before d b r (omega arith) ∙ t.done.at b h r z
    more b h r y (no z) =
        let e : i ≡ r = omega arith in
        stored_here d b h r (ap (λ (n : ℕ). 8 * n) (sym e)) ∙ ap (sixteen key) e

-- all of them
pub loaded_all : {w : Width} {m i : ℕ} {key l₀ l : List ℕ} → m ≤ i → LoadedSo w m i key l₀ l → Loaded w m key l
loaded_all {w} {m} {i} {key} {l = l} h t = let e : i ≡ m = omega (arith, t.few) in rw e at t.done

-- they are the first round keys
pub loaded_keys : (w : Width) (m : ℕ) {key l : List ℕ} → 1 ≤ m → length key ≡ 4 * (4 * m) → Loaded w m key l → Keys w (4 * m) m key l
loaded_keys w m {key} some long t = record {
  at = λ b h r k fits.
      t.at b h r k
      ∙ ap (λ (s : List ℕ). sixteen s r) (sym (key_first (4 * m) key (omega arith) long))
      ∙ sixteen_take (key_words (4 * m) key) (4 * (4 * m)) r (omega arith);
}

-- ---- one round key more
-- round key r is there, after a step from round keys r - 1 and r - m
keys_more : (w : Width) (nk n m r : ℕ) (f : List ℕ → List ℕ) {key l l' : List ℕ} → Follows m r (length l)
    → sixteen (key_words nk key) r ≡ key_columns n (sixteen (key_words nk key) (r - m)) (f (sixteen (key_words nk key) (r - 1)))
    → Keys w nk r key l → Changed w (next_of w n f l r m) (8 * r) l l' → Keys w nk (r + 1) key l'
keys_more w nk n m r f {key} {l} {l'} follows rule ks d = record { at = λ b h q k g. more b h q k g (dec_lt q r) }
  where
    more : (b : ℕ) → b < slots w → (q : ℕ) → q < r + 1 → 8 * q + 8 ≤ length l' → Dec (q < r) → stored w l' b q ≡ sixteen (key_words nk key) q
    more b h q k g (yes y) = stored_before d b q (omega arith) ∙ ks.at b h q y (omega (arith, d.long))
    more b h q k g (no y) =
        let e : r ≡ q = omega arith in
        let some = follows.some in
        let old = follows.old in
        let room = follows.room in
        stored_here d b h q (ap (λ (n : ℕ). 8 * n) (sym e))
        ∙ ap₂ (λ (p t : List ℕ). key_columns n p (f t)) (ks.at b h (r - m) (omega arith) (omega arith)) (ks.at b h (r - 1) (omega arith) (omega arith))
        ∙ sym rule
        ∙ ap (sixteen (key_words nk key)) e

-- the schedule ends before key p: there are no more
keys_end : {w : Width} {nk : ℕ} (p q : ℕ) {key l : List ℕ} → length l ≤ 8 * p → Keys w nk p key l → Keys w nk q key l
keys_end p q h ks = record { at = λ b c r k g. ks.at b c r (omega arith) g }

-- ---- what a step adds and rotates
pub constant_later : (j p : ℕ) → (p ≡ 0 → ⊥) → 0 ≡ step_constant j p
unfolding step_constant
constant_later j zero h = absurd (h refl)
constant_later j (suc p) h = refl

pub rows_later : (p : ℕ) → (p ≡ 0 → ⊥) → 0 ≡ step_rows p
unfolding step_rows
rows_later zero h = absurd (h refl)
rows_later (suc p) h = refl

pub rows_few : (p : ℕ) {n : ℕ} → n ≡ step_rows p → n < 2
unfolding step_rows
rows_few zero e = omega arith
rows_few (suc p) e = omega arith

-- ---- the m steps of one round constant, once over the key's length
-- round constant j comes into round key `from`, which begins at j + 1 times Nk words
pub record Begins (m from j : ℕ) : Type 0 where
  pub some : 1 ≤ m
  pub few : m ≤ 2
  pub begins : from ≡ (j + 1) * m

two : (P : ℕ → Type 0) → P 1 → P 2 → (m : ℕ) → 1 ≤ m → m ≤ 2 → P m
two P p q zero h k = absurd (omega arith)
two P p q (suc zero) h k = p
two P p q (suc (suc zero)) h k = q
two P p q (suc (suc (suc m))) h k = absurd (omega arith)

module _ {m from j : ℕ} (t : Begins m from j) where
  -- that is at a multiple of Nk words,
  begins_words : 4 * from ≡ (j + 1) * (4 * m)
  begins_words = two (λ (m : ℕ). from ≡ (j + 1) * m → 4 * from ≡ (j + 1) * (4 * m)) (λ e. omega arith) (λ e. omega arith) m t.some t.few t.begins

  -- not before the first m keys end,
  pub begins_late : m ≤ from
  begins_late = two (λ (m : ℕ). from ≡ (j + 1) * m → m ≤ from) (λ e. omega arith) (λ e. omega arith) m t.some t.few t.begins

-- key p of them: the first has round constant j, and only AES-256 has a second
keys_step : (w : Width) (m j from p : ℕ) {c n : ℕ} {key l l' : List ℕ} → Begins m from j → p < m → from + p < 4 * m + 7
    → length key ≡ 4 * (4 * m) → Follows m (from + p) (length l) → c ≡ step_constant j p → n ≡ step_rows p
    → Keys w (4 * m) (from + p) key l → Changed w (next_of w n (key_pass c) l (from + p) m) (8 * (from + p)) l l' → Keys w (4 * m) (from + p + 1) key l'
unfolding step_constant step_rows
keys_step w m j from zero {key = key} t h there long follows ec en ks d =
    let e : from + 0 ≡ from = omega arith in
    let some = t.some in
    keys_more w (4 * m) 1 m (from + 0) (key_pass (get_or round_constants j 0)) follows
    (next_constant (4 * m) key (omega arith) long m refl (from + 0) follows.old (omega arith) j (rw e (begins_words t)))
    ks (rw (en, ec) at d)
keys_step w zero j from (suc p) t h there long follows ec en ks d = absurd (omega arith)
keys_step w (suc zero) j from (suc p) t h there long follows ec en ks d = absurd (omega arith)
keys_step w (suc (suc zero)) j from (suc zero) {key = key} t h there long follows ec en ks d =
    keys_more w 8 0 2 (from + 1) (key_pass 0) follows
    (next_plain 8 key (omega arith) long 2 refl (from + 1) follows.old (omega arith) refl (j + 1) (omega (arith, t.begins)))
    ks (rw (en, ec) at d)
keys_step w (suc (suc zero)) j from (suc (suc p)) t h there long follows ec en ks d = absurd (omega arith)
keys_step w (suc (suc (suc m))) j from (suc p) t h there long follows ec en ks d = absurd (omega (arith, t.few))

-- ---- the loops: where l has the first p round keys of a key, m has the first q, and it is as long
pub record Grown (w : Width) (nk p q : ℕ) (l m : List ℕ) : Type 0 where
  pub long : length m ≡ length l
  pub grows : Grows w nk p q l m

pub grown_none : {w : Width} {nk p q : ℕ} {l : List ℕ} → p ≡ q → Grown w nk p q l l
grown_none {w} {nk} {l = l} e = record { long = refl; grows = record { more = λ key f ks. subst (λ (n : ℕ). Keys w nk n key l) e ks } }

pub grown_on : {w : Width} {nk p q r : ℕ} {k l m : List ℕ} → Grown w nk p q k l → Grown w nk q r l m → Grown w nk p r k m
grown_on f g = record { long = g.long ∙ f.long; grows = record { more = λ key e ks. g.grows.more key e (f.grows.more key e ks) } }

-- known by an equation
pub grown_at : {w : Width} {nk p q : ℕ} {k l m : List ℕ} → m ≡ l → Grown w nk p q k l → Grown w nk p q k m
grown_at {w} {nk} {p} {q} {k} e g = subst (Grown w nk p q k) (sym e) g

-- one step
pub grown_step : {w : Width} {m j from p c n : ℕ} {l l' : List ℕ} → Begins m from j → p < m → from + p < 4 * m + 7 → Follows m (from + p) (length l)
    → c ≡ step_constant j p → n ≡ step_rows p → length l' ≡ length l → Changes w (next_of w n (key_pass c) l (from + p) m) (8 * (from + p)) l l'
    → Grown w (4 * m) (from + p) (from + p + 1) l l'
grown_step {w} {m} {j} {from} {p} t h there follows ec en long d = record {
  long = long;
  grows = record {
    more = λ key e ks. keys_step w m j from p t h there e follows ec en ks (record { fits = follows.room; long = long; change = d });
  };
}

-- no room for one
pub grown_end : {w : Width} {nk p q : ℕ} {l : List ℕ} → length l ≤ 8 * p → Grown w nk p q l l
grown_end {p = p} {q = q} h = record { long = refl; grows = record { more = λ key e ks. keys_end p q h ks } }

-- before the steps of a round constant, and before step p of them
pub record AtConstant (w : Width) (m from j : ℕ) (l₀ l : List ℕ) : Type 0 where
  pub begins : Begins m from j
  pub grown : Grown w (4 * m) m from l₀ l

pub record AtStep (w : Width) (m from p : ℕ) (l₀ l : List ℕ) : Type 0 where
  pub few : p ≤ m
  pub grown : Grown w (4 * m) from (from + p) l₀ l

-- what a step asks for that does not begin at the end: the next key follows the m before it, and has room
pub step_follows : {w : Width} {m from j p : ℕ} {l₀ l₁ l : List ℕ} → AtConstant w m from j l₀ l₁ → AtStep w m from p l₁ l
    → length l₀ ≡ 8 * (4 * m + 7) → from + p < length l₀ / 8 → Follows m (from + p) (length l)
step_follows {m = m} {l = l} c s words there =
    let late = begins_late c.begins in
    let long : length l ≡ 8 * (4 * m + 7) = s.grown.long ∙ c.grown.long ∙ words in
    record { some = c.begins.some; old = omega arith; room = omega arith }
