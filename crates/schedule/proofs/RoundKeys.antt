-- FIPS-197's rule for words, as the rule for round keys that the code follows: a round key is columns of the one Nk words before it and of
-- the last column of the one just before, for Nk = 4 and Nk = 8. Assumes nothing.
use mathlib.Core.Path.{◌≡◌, refl, sym, ap, ap₂, ◌∙◌}
use mathlib.Core.List.{List, [], ◌∷◌, ◌++◌, map}
use Prim.Native.Nat.{ℕ, zero, suc, ◌+◌, ◌-◌, ◌*◌, ◌/◌, ◌%◌, ◌≤◌, ◌<◌}
use native.Mathlib.Omega.{arith}
use borrow.Author.Tests.{ne_eqb}
use mathlib.Core.Bool.{Bool, true, false, ◌&&◌}
use lib.Bits.{bit_xor, xor_zero_r}
use lib.Dec.{ltb}
use lib.Arith.{digits_div, digits_mod}
use lib.ListN.{get_or, take, drop, length, length-drop}
use lib.Seq.{take-nil, drop-nil, take-take, drop-drop, length-take-le}
use Rattle.fips197.specs.Aes.{
  sbox,
  sub_bytes,
  word_of,
  sixteen,
  rot_word,
  sub_word,
  add_word,
  round_constants,
  rcon,
  key_temp,
  rounds_for,
  key_words,
  add_round_key,
}
use Rattle.fips197.proofs.Blocks.{reads, reads_all}
use Rattle.fips197.proofs.Keys.{words_length, word_rule}
use Rattle.lanes.specs.Leaves.{add_constant, key_columns}

-- ---- the words of a round key
drop_take : (n m : ℕ) (l : List ℕ) → drop n (take (n + m) l) ≡ take m (drop n l)
drop_take zero m l = let e : 0 + m ≡ m = omega arith in rw e
drop_take (suc n) m [] = rw (take-nil (suc n + m), drop-nil (suc n), take-nil m)
drop_take (suc n) m (x ∷ l) = let e : suc n + m ≡ suc (n + m) = omega arith in rw e (drop_take n m l)

-- sixteen bytes of a longer part
pub sixteen_take : (l : List ℕ) (n r : ℕ) → 16 * r + 16 ≤ n → sixteen (take n l) r ≡ sixteen l r
sixteen_take l n r h =
    let e : n ≡ 16 * r + (n - 16 * r) = omega arith in
    ap (λ (n : ℕ). take 16 (drop (16 * r) (take n l))) e
    ∙ ap (take 16) (drop_take (16 * r) (n - 16 * r) l)
    ∙ take-take 16 (n - 16 * r) (drop (16 * r) l) (omega arith)

-- word j of round key r is word 4r + j
word_of_key : (bs : List ℕ) (r j : ℕ) → j < 4 → word_of (sixteen bs r) j ≡ word_of bs (4 * r + j)
word_of_key bs r j h =
    let e : 16 ≡ 4 * j + (16 - 4 * j) = omega arith in
    let f : 16 * r + 4 * j ≡ 4 * (4 * r + j) = omega arith in
    ap (λ (n : ℕ). take 4 (drop (4 * j) (take n (drop (16 * r) bs)))) e
    ∙ ap (take 4) (drop_take (4 * j) (16 - 4 * j) (drop (16 * r) bs))
    ∙ take-take 4 (16 - 4 * j) (drop (4 * j) (drop (16 * r) bs)) (omega arith)
    ∙ ap (take 4) (drop-drop (4 * j) (16 * r) bs ∙ ap (λ (n : ℕ). drop n bs) f)

-- sixteen bytes are four words
four_words : (s : List ℕ) → length s ≡ 16 → s ≡ word_of s 0 ++ (word_of s 1 ++ (word_of s 2 ++ word_of s 3))
four_words s e = sym (reads_all s 16 e) ∙ ap (λ (t : List ℕ). word_of t 0 ++ (word_of t 1 ++ (word_of t 2 ++ word_of t 3))) (reads_all s 16 e)

-- ---- key_columns, word by word: the first word is prev's plus the last of t, rotated by n; each further one is prev's plus the new one before it
abbrev rotated : ℕ → List ℕ → List ℕ
rotated zero w = reads 0 4 w
rotated (suc n) w = rot_word w

calls4 : (Q : List ℕ) (F G H : List ℕ → List ℕ) {a b c d : List ℕ} → a ≡ Q → b ≡ F a → c ≡ G b → d ≡ H c
    → a ++ (b ++ (c ++ d)) ≡ Q ++ (F Q ++ (G (F Q) ++ H (G (F Q))))
calls4 Q F G H p q r s = cc

columns_explicit : (n : ℕ) → n < 2 → (p t : List ℕ)
    → (let a = add_word (word_of (reads 0 16 p) 0) (rotated n (word_of (reads 0 16 t) 3)) in
    let b = add_word (word_of (reads 0 16 p) 1) a in
    let c = add_word (word_of (reads 0 16 p) 2) b in
    a ++ (b ++ (c ++ add_word (word_of (reads 0 16 p) 3) c))) ≡ key_columns n p t
unfolding add_word rot_word key_columns
columns_explicit zero h p t = refl
columns_explicit (suc zero) h p t = refl
columns_explicit (suc (suc n)) h p t = absurd (omega arith)

columns_are : (n : ℕ) → n < 2 → (p t q : List ℕ) → length p ≡ 16 → length t ≡ 16 → length q ≡ 16
    → word_of q 0 ≡ add_word (word_of p 0) (rotated n (word_of t 3)) → word_of q 1 ≡ add_word (word_of p 1) (word_of q 0)
    → word_of q 2 ≡ add_word (word_of p 2) (word_of q 1) → word_of q 3 ≡ add_word (word_of p 3) (word_of q 2) → q ≡ key_columns n p t
columns_are n h p t q ep et eq a b c d =
    four_words q eq
    ∙ calls4 (add_word (word_of p 0) (rotated n (word_of t 3))) (add_word (word_of p 1)) (add_word (word_of p 2)) (add_word (word_of p 3)) a b c d
    ∙ ap₂ (λ (x y : List ℕ). let a = add_word (word_of x 0) (rotated n (word_of y 3)) in
    let b = add_word (word_of x 1) a in
    let c = add_word (word_of x 2) b in
    a ++ (b ++ (c ++ add_word (word_of x 3) c))) (sym (reads_all p 16 ep)) (sym (reads_all t 16 et))
    ∙ columns_explicit n h p t

-- ---- round key r from the one before it and from the one Nk words before it, where Nk is 4 m
module _ (nk : ℕ) (key : List ℕ) (pos : 1 ≤ nk) (long : length key ≡ 4 * nk) where
  abbrev round_key : ℕ → List ℕ
  round_key r = sixteen (key_words nk key) r

  key_length : (r : ℕ) → r < rounds_for nk + 1 → length (round_key r) ≡ 16
  key_length r h =
      length-take-le 16 (drop (16 * r) (key_words nk key))
      (rw (length-drop (16 * r) (key_words nk key), words_length nk key pos long) (omega arith))

  module _ (m : ℕ) (four : nk ≡ 4 * m) (r : ℕ) (old : m ≤ r) (there : r < rounds_for nk + 1) where
    -- 5.2's rule for word j of round key r
    rule : (j : ℕ) → j < 4
        → word_of (round_key r) j ≡ add_word (word_of (round_key (r - m)) j) (key_temp nk (4 * r + j) (word_of (key_words nk key) (4 * r + j - 1)))
    rule j h =
        let n : ℕ = 4 * r + j in
        let e : n - nk ≡ 4 * (r - m) + j = omega arith in
        word_of_key (key_words nk key) r j h
        ∙ word_rule nk key pos long n (omega arith) (omega arith)
        ∙ ap (λ (w : List ℕ). add_word w (key_temp nk n (word_of (key_words nk key) (n - 1))))
        (ap (word_of (key_words nk key)) e ∙ sym (word_of_key (key_words nk key) (r - m) j h))

    -- words 1 to 3: nothing is done to the word before
    rule_plain : (j : ℕ) → suc j < 4 → ((w : List ℕ) → key_temp nk (4 * r + suc j) w ≡ w)
        → word_of (round_key r) (suc j) ≡ add_word (word_of (round_key (r - m)) (suc j)) (word_of (round_key r) j)
    rule_plain j h plain =
        let e : 4 * r + suc j - 1 ≡ 4 * r + j = omega arith in
        rule (suc j) h
        ∙ ap (add_word (word_of (round_key (r - m)) (suc j)))
        (plain (word_of (key_words nk key) (4 * r + suc j - 1))
        ∙ ap (word_of (key_words nk key)) e
        ∙ sym (word_of_key (key_words nk key) r j (omega arith)))

    -- t is what was done to the round key before
    next_key : (n : ℕ) → n < 2 → (t : List ℕ) → length t ≡ 16
        → rotated n (word_of t 3) ≡ key_temp nk (4 * r) (word_of (round_key (r - 1)) 3)
        → ((j : ℕ) → 0 < j → j < 4 → (w : List ℕ) → key_temp nk (4 * r + j) w ≡ w)
        → round_key r ≡ key_columns n (round_key (r - m)) t
    next_key n h t e first plain =
        let z : 4 * r + 0 ≡ 4 * r = omega arith in
        let y : 4 * r + 0 - 1 ≡ 4 * (r - 1) + 3 = omega arith in
        columns_are n h (round_key (r - m)) t (round_key r) (key_length (r - m) (omega arith)) e (key_length r there)
        (rule 0 (omega arith)
        ∙ ap (add_word (word_of (round_key (r - m)) 0))
        (ap₂ (λ (p q : ℕ). key_temp nk p (word_of (key_words nk key) q)) z y
        ∙ ap (key_temp nk (4 * r)) (sym (word_of_key (key_words nk key) (r - 1) 3 (omega arith)))
        ∙ sym first))
        (rule_plain 0 (omega arith) (plain 1 (omega arith) (omega arith)))
        (rule_plain 1 (omega arith) (plain 2 (omega arith) (omega arith)))
        (rule_plain 2 (omega arith) (plain 3 (omega arith) (omega arith)))

-- ---- what the code does to the key before: SubBytes, and a constant; its last column rotated is the standard's temp
constant_length : (c : ℕ) (s : List ℕ) → length (add_constant c s) ≡ 16
unfolding add_constant add_round_key
constant_length c s = refl

sub_length : (s : List ℕ) → length s ≡ 16 → length (sub_bytes s) ≡ 16
unfolding sub_bytes
sub_length s e = lib.ListN.length-map s sbox ∙ e

-- the constant 0 adds nothing
constant_none : (s : List ℕ) → length s ≡ 16 → add_constant 0 s ≡ s
unfolding add_constant add_round_key
constant_none s e = each (reads 0 16 s) ∙ reads_all s 16 e
  where
    each : (l : List ℕ) → map (λ (x : ℕ). bit_xor x 0) l ≡ l
    each [] = refl
    each (x ∷ l) = ap₂ ◌∷◌ (xor_zero_r x) (each l)

-- SubWord of the last word
sub_last : (s : List ℕ) → length s ≡ 16 → rotated 0 (word_of (sub_bytes s) 3) ≡ sub_word (word_of s 3)
unfolding sub_bytes sub_word
sub_last s e = ap (λ (t : List ℕ). rotated 0 (word_of (map sbox t) 3)) (sym (reads_all s 16 e)) ∙ ap (λ (t : List ℕ). sub_word (word_of t 3)) (reads_all s 16 e)

-- and with RotWord and Rcon
constant_last : (c : ℕ) (s : List ℕ) → length s ≡ 16
    → rotated 1 (word_of (add_constant c (sub_bytes s)) 3) ≡ add_word (sub_word (rot_word (word_of s 3))) (c ∷ 0 ∷ 0 ∷ 0 ∷ [])
unfolding add_constant add_round_key sub_bytes sub_word rot_word add_word
constant_last c s e =
    ap (λ (t : List ℕ). rot_word (word_of (add_constant c (map sbox t)) 3)) (sym (reads_all s 16 e))
    ∙ ap (λ (t : List ℕ). add_word (sub_word (rot_word (word_of t 3))) (c ∷ 0 ∷ 0 ∷ 0 ∷ [])) (reads_all s 16 e)

-- ---- the standard's temp, by i modulo Nk
temp_constant : (nk i : ℕ) (w : List ℕ) → i % nk ≡ 0 → key_temp nk i w ≡ add_word (sub_word (rot_word w)) (rcon (i / nk))
unfolding key_temp
temp_constant nk i w e = rw e

temp_sub : (i : ℕ) (w : List ℕ) → i % 8 ≡ 4 → key_temp 8 i w ≡ sub_word w
unfolding key_temp
temp_sub i w e = rw e

temp_plain : (nk i : ℕ) (w : List ℕ) → (i % nk ≡ 0 → ⊥) → (i % nk ≡ 4 → ⊥) → key_temp nk i w ≡ w
unfolding key_temp
temp_plain nk i w p q = rw (ne_eqb (i % nk) 0 p, ne_eqb (i % nk) 4 q, none (ltb 6 nk))
  where
    none : (b : Bool) → ◌&&◌ b false ≡ false
    none true = refl
    none false = refl

rcon_is : (j : ℕ) → rcon (j + 1) ≡ get_or round_constants j 0 ∷ 0 ∷ 0 ∷ 0 ∷ []
unfolding rcon
rcon_is j = let e : j + 1 - 1 ≡ j = omega arith in rw e

-- ---- the two steps of the code
module _ (nk : ℕ) (key : List ℕ) (pos : 1 ≤ nk) (long : length key ≡ 4 * nk) where
  module _ (m : ℕ) (four : nk ≡ 4 * m) (r : ℕ) (old : m ≤ r) (there : r < rounds_for nk + 1) where
    -- round key r begins at j + 1 times Nk words: round constant j, and the last column rotated
    pub next_constant : (j : ℕ) → 4 * r ≡ (j + 1) * nk
        → sixteen (key_words nk key) r
        ≡ key_columns 1 (sixteen (key_words nk key) (r - m)) (add_constant (get_or round_constants j 0) (sub_bytes (sixteen (key_words nk key) (r - 1))))
    next_constant j e =
        let k : List ℕ = round_key nk key pos long (r - 1) in
        let c : ℕ = get_or round_constants j 0 in
        let digit : (p : ℕ) → p < nk → (4 * r + p) % nk ≡ p = λ p h. rw e (digits_mod (j + 1) h) in
        let z : 4 * r + 0 ≡ 4 * r = omega arith in
        let times : 4 * r / nk ≡ j + 1 = rw (← z, e) (digits_div (j + 1) pos) in
        next_key nk key pos long m four r old there 1 (omega arith) (add_constant c (sub_bytes k)) (constant_length c (sub_bytes k))
        (constant_last c k (key_length nk key pos long (r - 1) (omega arith))
        ∙ sym (temp_constant nk (4 * r) (word_of k 3) (rw z at (digit 0 pos))
        ∙ ap (add_word (sub_word (rot_word (word_of k 3)))) (ap rcon times ∙ rcon_is j)))
        (λ p h l w.
        temp_plain nk (4 * r + p) w (λ f. omega (arith, digit p (omega arith))) (λ f. omega (arith, digit p (omega arith))))

    -- at Nk = 8, half way between two such: no constant, and the last column as it is
    pub next_plain : nk ≡ 8 → (j : ℕ) → 4 * r ≡ j * 8 + 4
        → sixteen (key_words nk key) r
        ≡ key_columns 0 (sixteen (key_words nk key) (r - m)) (add_constant 0 (sub_bytes (sixteen (key_words nk key) (r - 1))))
    next_plain g j e =
        let k : List ℕ = round_key nk key pos long (r - 1) in
        let l : length k ≡ 16 = key_length nk key pos long (r - 1) (omega arith) in
        let digit : (p : ℕ) → p < 4 → (4 * r + p) % 8 ≡ 4 + p =
        λ p h. let f : j * 8 + 4 + p ≡ j * 8 + (4 + p) = omega arith in rw (e, f) (digits_mod j (omega arith)) in
        let z : 4 * r + 0 ≡ 4 * r = omega arith in
        next_key nk key pos long m four r old there 0 (omega arith) (sub_bytes k) (sub_length k l)
        (sub_last k l
        ∙ sym (ap (λ (n : ℕ). key_temp n (4 * r) (word_of k 3)) g
        ∙ temp_sub (4 * r) (word_of k 3) (rw z at (digit 0 (omega arith)))))
        (λ p h l w.
        ap (λ (n : ℕ). key_temp n (4 * r + p) w) g
        ∙ temp_plain 8 (4 * r + p) w (λ f. omega (arith, digit p l)) (λ f. omega (arith, digit p l)))
        ∙ ap (key_columns 0 (round_key nk key pos long (r - m))) (sym (constant_none (sub_bytes k) (sub_length k l)))
