-- CMAC: NIST SP 800-38B (May 2005), sections 4 to 6, for blocks of 128 bits, in the standard's order and names; so far of messages of one complete block.
-- A string of bits is a list of bytes, as in fips197's specs/Aes: its first bit, the leftmost, is bit 7 of its first byte.
use Rattle.std.specs.Prelude.{cond, List, [], ◌∷◌, ◌++◌, ℕ, ◌+◌, ◌*◌, ◌%◌, eqb, get_or, replicate}
use Rattle.std.specs.Int.Bits.{bit_xor}
use Rattle.fips197.specs.Aes.{bit}

-- ---- 4.2.2: operations on strings

-- 0^s, of 8n bits
abbrev pub zeros : ℕ → List ℕ
zeros n = replicate n 0

-- X XOR Y, of strings of one length
unfoldable pub xors : List ℕ → List ℕ → List ℕ
xors [] ys = []
xors (x ∷ xs) [] = []
xors (x ∷ xs) (y ∷ ys) = bit_xor x y ∷ xors xs ys

-- MSB_1(X): the first bit; of the empty string 0
abbrev pub msb1 : List ℕ → ℕ
msb1 xs = bit 7 (get_or xs 0 0)

-- X << 1: the first bit is discarded and a 0 appended, so the last bit of each byte is the first bit of what comes after it
unfoldable pub shift_left : List ℕ → List ℕ
shift_left [] = []
shift_left (x ∷ xs) = (x * 2 % 256 + msb1 xs) ∷ shift_left xs

-- ---- 5.3, 6.1: the subkeys. CIPH is the block cipher under its key

-- 5.3: R_128, 0^120 10000111
unfoldable pub r128 : List ℕ
r128 = zeros 15 ++ 0x87 ∷ []

-- 6.1, steps 2 and 3, K1 from L and K2 from K1: X << 1, and where the first bit of X is not 0, XOR R_128
unfoldable pub double : List ℕ → List ℕ
double x = cond (eqb (msb1 x) 0) (shift_left x) (xors (shift_left x) r128)

-- 6.1: K1; L, in step 1, is CIPH(0^128)
unfoldable pub subkey1 : (List ℕ → List ℕ) → List ℕ
subkey1 ciph = double (ciph (zeros 16))

-- and K2
unfoldable pub subkey2 : (List ℕ → List ℕ) → List ℕ
subkey2 ciph = double (subkey1 ciph)

-- ---- 6.2: the tag, in full length

-- of a message M of one complete block: in step 4 M_1 is K1 XOR M, and in steps 5 to 7 the tag is CIPH(C_0 XOR M_1), where C_0 is 0^128
unfoldable pub cmac_of_block : (List ℕ → List ℕ) → List ℕ → List ℕ
cmac_of_block ciph m = ciph (xors (subkey1 ciph) m)
