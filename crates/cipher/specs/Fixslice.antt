-- The fixsliced rounds on a block, as the code does them: no ShiftRows, round r has MixColumns form r mod 4, the S-box lacks its 63.
-- k r is round key r as it stands in the schedule. proofs/Argument.antt says what they are in FIPS-197.
use Rattle.std.specs.Prelude.{◌≡◌, List, ℕ, zero, suc, ◌+◌, ◌*◌, ◌%◌, ◌≤◌}
use Rattle.fips197.specs.Aes.{add_round_key}
use Rattle.lanes.specs.Layout.{Width}
use Rattle.lanes.specs.Schedule.{stored}
use Rattle.lanes.specs.Leaves.{bare_sub_bytes, inv_bare_sub_bytes, mix_form, inv_mix_form}

-- ---- what is asked of a call
-- s words are a schedule for n rounds: n + 1 round keys of eight words each. The rounds go by twos.
pub record Scheduled (n s : ℕ) : Type 0 where
  pub words : s ≡ 8 * n + 8
  pub even : n % 2 ≡ 0
  pub some : 2 ≤ n

-- ---- rounds
-- one round of form i
abbrev pub fix_round : ℕ → List ℕ → List ℕ → List ℕ
fix_round i k x = add_round_key (mix_form i (bare_sub_bytes x)) k

-- rounds 1 to n
unfoldable pub rounds_to : (ℕ → List ℕ) → ℕ → List ℕ → List ℕ
rounds_to k zero x = x
rounds_to k (suc n) x = fix_round (suc n % 4) (k (suc n)) (rounds_to k n x)

-- one round of form i undone
abbrev pub fix_unround : ℕ → List ℕ → List ℕ → List ℕ
fix_unround i k x = inv_bare_sub_bytes (inv_mix_form i (add_round_key x k))

-- rounds n to 1 undone
unfoldable pub undone_from : (ℕ → List ℕ) → ℕ → List ℕ → List ℕ
undone_from k zero x = x
undone_from k (suc n) x = undone_from k n (fix_unround (suc n % 4) (k (suc n)) x)

-- ---- the same in each slot of a schedule l
abbrev pub add_key_in : Width → List ℕ → ℕ → ℕ → List ℕ → List ℕ
add_key_in w l r b x = add_round_key x (stored w l b r)

abbrev pub rounds_in : Width → List ℕ → ℕ → ℕ → List ℕ → List ℕ
rounds_in w l n b x = rounds_to (stored w l b) n x

abbrev pub undone_in : Width → List ℕ → ℕ → ℕ → List ℕ → List ℕ
undone_in w l n b x = undone_from (stored w l b) n x
