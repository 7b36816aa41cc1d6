-- Bytes, words and blocks as what a theorem supposes of a list: no promise of a call needs them.
use Rattle.std.specs.Prelude.{◌≡◌, List, ℕ, ◌*◌, ◌^◌, ◌<◌, get_or, length}

-- every number of a list has at most W bits
pub record Fit (W : ℕ) (l : List ℕ) : Type 0 where
  pub at : (n : ℕ) → get_or l n 0 < 2 ^ W

-- sixteen bytes
pub record Block (s : List ℕ) : Type 0 where
  pub long : length s ≡ 16
  pub bytes : Fit 8 s

-- k blocks, one after the other
pub record Data (k : ℕ) (i : List ℕ) : Type 0 where
  pub long : length i ≡ 16 * k
  pub bytes : Fit 8 i
