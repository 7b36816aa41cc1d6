-- Cases P5 to P8 of docs/SCOPE.md, as statements; `Rattle.schedule.specs.Cases` puts all eleven into one table.
use Rattle.std.specs.Prelude.{◌≡◌, List, [], ◌∷◌, ◌++◌, ℕ, get_or, replicate}
use Rattle.fips197.specs.Aes.{sbox, product, mix_columns, key_expansion}

-- the S-box of 00 and of 53
abbrev pub P5 : Type 0
P5 = (sbox 0x00 ≡ 0x63) × (sbox 0x53 ≡ 0xed)

-- a product in the field
abbrev pub P6 : Type 0
P6 = product 0x57 0x83 ≡ 0xc1

-- MixColumns of the column db 13 53 45, and of columns of equal bytes
abbrev pub P7 : Type 0
P7 = mix_columns ((0xdb ∷ 0x13 ∷ 0x53 ∷ 0x45 ∷ []) ++ replicate 12 0x01) ≡ (0x8e ∷ 0x4d ∷ 0xa1 ∷ 0xbc ∷ []) ++ replicate 12 0x01

abbrev word62 : List ℕ
word62 = 0x62 ∷ 0x63 ∷ 0x63 ∷ 0x63 ∷ []

-- round key 1 of a key of 16 zero bytes
abbrev pub P8 : Type 0
P8 = get_or (key_expansion 4 (replicate 16 0)) 1 [] ≡ word62 ++ word62 ++ word62 ++ word62
