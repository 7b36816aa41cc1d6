-- Cases P5 to P8, computed. Assumes nothing.
use mathlib.Core.Path.{refl}
use Rattle.fips197.specs.Cases.{P5, P6, P7, P8}
use Rattle.fips197.specs.Aes.{xtime, product, inverse, affine, sbox, mix_columns, rot_word, sub_word, add_word, round_constants, rcon}
use Rattle.fips197.specs.Aes.{key_temp, more_words, key_words, key_expansion}

pub p5 : P5
unfolding sbox affine inverse product xtime
p5 = (refl, refl)

pub p6 : P6
unfolding product xtime
p6 = refl

pub p7 : P7
unfolding mix_columns product xtime
p7 = refl

pub p8 : P8
unfolding key_expansion key_words more_words key_temp rcon round_constants add_word sub_word rot_word sbox affine inverse product xtime
p8 = refl
