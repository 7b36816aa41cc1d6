-- SP 800-38B's appendix D.1 to D.3 (RFC 4493 has the first), computed from the definitions: the keys are those of FIPS-197's appendix A. And the tags of a
-- block of zeros under keys of FIPS-197's appendices A and C, as OpenSSL has them (tools/check_values.py). Assumes nothing.
use mathlib.Core.Path.{◌≡◌, refl, sym, ap, ◌∙◌}
use mathlib.Core.List.{List, [], ◌∷◌}
use Prim.Native.Nat.{ℕ}
use Rattle.fips197.specs.Aes.{range, key_expansion, cipher}
use Rattle.fips197.proofs.Quick.{quick_expansion, quick_cipher, expansion_quick, cipher_quick}
use Rattle.sp800_38b.specs.Cmac.{zeros, xors, shift_left, r128, double, subkey1, subkey2, cmac_of_block}
use Rattle.sp800_38b.proofs.Laws.{subkeys_are}
use Rattle.appendices.proofs.Examples.{key_a1, key_a2, key_a3}

-- CIPH: AES with a key of Nk words
abbrev pub aes : ℕ → List ℕ → List ℕ → List ℕ
aes nk key = cipher (key_expansion nk key)

-- how it is computed, and how a tag is
unfoldable quick_aes : ℕ → List ℕ → List ℕ → List ℕ
unfolding quick_expansion quick_cipher
quick_aes nk key x = quick_cipher (quick_expansion nk key) x

aes_quick : (nk : ℕ) (key x : List ℕ) → aes nk key x ≡ quick_aes nk key x
unfolding quick_aes
aes_quick nk key x = ap (λ (ks : List (List ℕ)). cipher ks x) (expansion_quick nk key) ∙ cipher_quick (quick_expansion nk key) x

unfoldable quick_tag : ℕ → List ℕ → List ℕ → List ℕ
unfolding quick_aes double shift_left xors r128
quick_tag nk key m = quick_aes nk key (xors (double (quick_aes nk key (zeros 16))) m)

tag_quick : (nk : ℕ) (key m : List ℕ) → cmac_of_block (aes nk key) m ≡ quick_tag nk key m
unfolding cmac_of_block subkey1 quick_tag
tag_quick nk key m = ap (λ (l : List ℕ). aes nk key (xors (double l) m)) (aes_quick nk key (zeros 16)) ∙ aes_quick nk key _

-- section 6.1's L, K1 and K2, which are L doubled and K1 doubled
pub record Subkeys (ciph : List ℕ → List ℕ) (l k1 k2 : List ℕ) : Type 0 where
  pub l_is : ciph (zeros 16) ≡ l
  pub k1_is : subkey1 ciph ≡ k1
  pub k2_is : subkey2 ciph ≡ k2

subkeys : {ciph : List ℕ → List ℕ} {l k1 k2 : List ℕ} → ciph (zeros 16) ≡ l → k1 ≡ double l → k2 ≡ double k1 → Subkeys ciph l k1 k2
subkeys {ciph} e f g = let k = subkeys_are ciph (sym e) f g in record { l_is = e; k1_is = sym k.0; k2_is = sym k.1 }

-- ---- appendix D: of each key the subkeys, and the tag of its example 2, whose message is one block
unfoldable pub message : List ℕ
message = 0x6b ∷ 0xc1 ∷ 0xbe ∷ 0xe2 ∷ 0x2e ∷ 0x40 ∷ 0x9f ∷ 0x96 ∷ 0xe9 ∷ 0x3d ∷ 0x7e ∷ 0x11 ∷ 0x73 ∷ 0x93 ∷ 0x17 ∷ 0x2a ∷ []

-- D.1: AES-128
pub subkeys_d1 : Subkeys (aes 4 key_a1)
    (0x7d ∷ 0xf7 ∷ 0x6b ∷ 0x0c ∷ 0x1a ∷ 0xb8 ∷ 0x99 ∷ 0xb3 ∷ 0x3e ∷ 0x42 ∷ 0xf0 ∷ 0x47 ∷ 0xb9 ∷ 0x1b ∷ 0x54 ∷ 0x6f ∷ [])
    (0xfb ∷ 0xee ∷ 0xd6 ∷ 0x18 ∷ 0x35 ∷ 0x71 ∷ 0x33 ∷ 0x66 ∷ 0x7c ∷ 0x85 ∷ 0xe0 ∷ 0x8f ∷ 0x72 ∷ 0x36 ∷ 0xa8 ∷ 0xde ∷ [])
    (0xf7 ∷ 0xdd ∷ 0xac ∷ 0x30 ∷ 0x6a ∷ 0xe2 ∷ 0x66 ∷ 0xcc ∷ 0xf9 ∷ 0x0b ∷ 0xc1 ∷ 0x1e ∷ 0xe4 ∷ 0x6d ∷ 0x51 ∷ 0x3b ∷ [])
unfolding key_a1 quick_aes double shift_left xors r128
subkeys_d1 = subkeys (aes_quick 4 key_a1 (zeros 16)) refl refl

pub tag_d1 : cmac_of_block (aes 4 key_a1) message
    ≡ 0x07 ∷ 0x0a ∷ 0x16 ∷ 0xb4 ∷ 0x6b ∷ 0x4d ∷ 0x41 ∷ 0x44 ∷ 0xf7 ∷ 0x9b ∷ 0xdd ∷ 0x9d ∷ 0xd0 ∷ 0x4a ∷ 0x28 ∷ 0x7c ∷ []
unfolding key_a1 message quick_tag
tag_d1 = tag_quick 4 key_a1 message

-- D.2: AES-192
pub subkeys_d2 : Subkeys (aes 6 key_a2)
    (0x22 ∷ 0x45 ∷ 0x2d ∷ 0x8e ∷ 0x49 ∷ 0xa8 ∷ 0xa5 ∷ 0x93 ∷ 0x9f ∷ 0x73 ∷ 0x21 ∷ 0xce ∷ 0xea ∷ 0x6d ∷ 0x51 ∷ 0x4b ∷ [])
    (0x44 ∷ 0x8a ∷ 0x5b ∷ 0x1c ∷ 0x93 ∷ 0x51 ∷ 0x4b ∷ 0x27 ∷ 0x3e ∷ 0xe6 ∷ 0x43 ∷ 0x9d ∷ 0xd4 ∷ 0xda ∷ 0xa2 ∷ 0x96 ∷ [])
    (0x89 ∷ 0x14 ∷ 0xb6 ∷ 0x39 ∷ 0x26 ∷ 0xa2 ∷ 0x96 ∷ 0x4e ∷ 0x7d ∷ 0xcc ∷ 0x87 ∷ 0x3b ∷ 0xa9 ∷ 0xb5 ∷ 0x45 ∷ 0x2c ∷ [])
unfolding key_a2 quick_aes double shift_left xors r128
subkeys_d2 = subkeys (aes_quick 6 key_a2 (zeros 16)) refl refl

pub tag_d2 : cmac_of_block (aes 6 key_a2) message
    ≡ 0x9e ∷ 0x99 ∷ 0xa7 ∷ 0xbf ∷ 0x31 ∷ 0xe7 ∷ 0x10 ∷ 0x90 ∷ 0x06 ∷ 0x62 ∷ 0xf6 ∷ 0x5e ∷ 0x61 ∷ 0x7c ∷ 0x51 ∷ 0x84 ∷ []
unfolding key_a2 message quick_tag
tag_d2 = tag_quick 6 key_a2 message

-- D.3: AES-256
pub subkeys_d3 : Subkeys (aes 8 key_a3)
    (0xe5 ∷ 0x68 ∷ 0xf6 ∷ 0x81 ∷ 0x94 ∷ 0xcf ∷ 0x76 ∷ 0xd6 ∷ 0x17 ∷ 0x4d ∷ 0x4c ∷ 0xc0 ∷ 0x43 ∷ 0x10 ∷ 0xa8 ∷ 0x54 ∷ [])
    (0xca ∷ 0xd1 ∷ 0xed ∷ 0x03 ∷ 0x29 ∷ 0x9e ∷ 0xed ∷ 0xac ∷ 0x2e ∷ 0x9a ∷ 0x99 ∷ 0x80 ∷ 0x86 ∷ 0x21 ∷ 0x50 ∷ 0x2f ∷ [])
    (0x95 ∷ 0xa3 ∷ 0xda ∷ 0x06 ∷ 0x53 ∷ 0x3d ∷ 0xdb ∷ 0x58 ∷ 0x5d ∷ 0x35 ∷ 0x33 ∷ 0x01 ∷ 0x0c ∷ 0x42 ∷ 0xa0 ∷ 0xd9 ∷ [])
unfolding key_a3 quick_aes double shift_left xors r128
subkeys_d3 = subkeys (aes_quick 8 key_a3 (zeros 16)) refl refl

pub tag_d3 : cmac_of_block (aes 8 key_a3) message
    ≡ 0x28 ∷ 0xa7 ∷ 0x02 ∷ 0x3f ∷ 0x45 ∷ 0x2e ∷ 0x8f ∷ 0x82 ∷ 0xbd ∷ 0x4b ∷ 0xf2 ∷ 0x8d ∷ 0x8c ∷ 0x37 ∷ 0xc3 ∷ 0x5c ∷ []
unfolding key_a3 message quick_tag
tag_d3 = tag_quick 8 key_a3 message

-- ---- the tags of sixteen zero bytes, of which the first three are the key check value
pub zeros_a1 : cmac_of_block (aes 4 key_a1) (zeros 16)
    ≡ 0x7a ∷ 0xd3 ∷ 0x86 ∷ 0xc3 ∷ 0x76 ∷ 0x0f ∷ 0xb3 ∷ 0x49 ∷ 0x83 ∷ 0x61 ∷ 0xa1 ∷ 0xcb ∷ 0x55 ∷ 0x63 ∷ 0xbd ∷ 0x70 ∷ []
unfolding key_a1 quick_tag
zeros_a1 = tag_quick 4 key_a1 (zeros 16)

pub zeros_a3 : cmac_of_block (aes 8 key_a3) (zeros 16)
    ≡ 0x1a ∷ 0x0b ∷ 0x2d ∷ 0xf2 ∷ 0x67 ∷ 0x63 ∷ 0xcf ∷ 0xd6 ∷ 0xaf ∷ 0xb9 ∷ 0xd3 ∷ 0xb1 ∷ 0xa2 ∷ 0xa8 ∷ 0x46 ∷ 0xda ∷ []
unfolding key_a3 quick_tag
zeros_a3 = tag_quick 8 key_a3 (zeros 16)

pub zeros_c1 : cmac_of_block (aes 4 (range 0 16)) (zeros 16)
    ≡ 0xbe ∷ 0x7e ∷ 0xd6 ∷ 0xae ∷ 0x78 ∷ 0x7d ∷ 0xd5 ∷ 0x54 ∷ 0x4c ∷ 0x55 ∷ 0x61 ∷ 0xc7 ∷ 0xdc ∷ 0xd0 ∷ 0x6a ∷ 0xbb ∷ []
unfolding quick_tag
zeros_c1 = tag_quick 4 (range 0 16) (zeros 16)

pub zeros_c3 : cmac_of_block (aes 8 (range 0 32)) (zeros 16)
    ≡ 0x37 ∷ 0x78 ∷ 0x22 ∷ 0xc0 ∷ 0x93 ∷ 0x48 ∷ 0xad ∷ 0x3b ∷ 0xcf ∷ 0x3f ∷ 0x19 ∷ 0x87 ∷ 0xbc ∷ 0xf8 ∷ 0x9b ∷ 0x4a ∷ []
unfolding quick_tag
zeros_c3 = tag_quick 8 (range 0 32) (zeros 16)
