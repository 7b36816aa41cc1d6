-- The masks of the code, as word.rs makes them: what only the word programs and P11 use.
use Rattle.std.specs.Prelude.{map, ℕ, ◌+◌, ◌-◌, ◌*◌, ◌/◌, ◌^◌}
use Rattle.fips197.specs.Aes.{bit, from_bits, range}
use Rattle.lanes.specs.Layout.{Width, w32, w64, bits, row_width}

-- double_bits: bit i becomes bits 2i and 2i + 1
abbrev pub double_bits : ℕ → ℕ
double_bits x = from_bits (map (λ k. bit (k / 2) x) (range 0 16))

-- a byte as the pattern of a row: two bits to a column, at 64 bits four
abbrev pub row_pattern : Width → ℕ → ℕ
row_pattern w32 x = x
row_pattern w64 x = double_bits x

-- pack_rows: a pattern to each row
abbrev pub pack_rows : Width → ℕ → ℕ → ℕ → ℕ → ℕ
pack_rows w a b c d =
    row_pattern w a + row_pattern w b * 2 ^ row_width w + row_pattern w c * 2 ^ (row_width w * 2) + row_pattern w d * 2 ^ (row_width w * 3)

-- uniform_row: the same pattern to every row
abbrev pub uniform_row : Width → ℕ → ℕ
uniform_row w x = pack_rows w x x x x

-- byte_repeat: a byte to every byte of a word
abbrev pub byte_repeat : Width → ℕ → ℕ
byte_repeat w x = x * ((2 ^ bits w - 1) / 255)

-- not the Rust's: the lower n of every 2n bits of a word, for the swaps that read_reordered became
abbrev pub low_halves : Width → ℕ → ℕ
low_halves w n = (2 ^ bits w - 1) / (2 ^ n + 1)
