-- The sizes of keys and schedules (docs/SCOPE.md, "Sizes"), one row for each. Whatever goes by the length of a key or of a schedule is read off it.
use Rattle.std.specs.Prelude.{cond, List, [], ◌∷◌, ℕ, ◌*◌, eqb}

-- the words of a key (FIPS-197's Nk), the number of rounds (Nr), the words of a schedule
pub record Size : Type 0 where
  pub nk : ℕ
  pub rounds : ℕ
  pub words : ℕ

-- THE TABLE: AES-128 and AES-256
abbrev pub sizes : List Size
sizes = record { nk = 4; rounds = 10; words = 88 } ∷ record { nk = 8; rounds = 14; words = 120 } ∷ []

-- no row: neither a key nor a schedule
abbrev pub no_size : Size
no_size = record { nk = 0; rounds = 0; words = 0 }

-- the first row of which f is n
abbrev pub row_of : (Size → ℕ) → ℕ → List Size → Size
row_of f n [] = no_size
row_of f n (z ∷ zs) = cond (eqb n (f z)) z (row_of f n zs)

-- the size of a key of so many bytes: four to a word
unfoldable pub key_size : ℕ → Size
key_size n = row_of (λ z. 4 * z.nk) n sizes

-- the size of a schedule of so many words
unfoldable pub schedule_size : ℕ → Size
schedule_size n = row_of (λ z. z.words) n sizes
