-- Each case by computing both sides. Assumes nothing.
use mathlib.Core.Path.{refl}
use Rattle.fips197.specs.Aes.{sub_bytes, inv_shift_rows, xtime, product, inverse, affine, sbox}
use Rattle.fips197.specs.Aes.{rot_word, sub_word, add_word, round_constants, rcon, key_temp, more_words, key_words, key_expansion}
use Rattle.fips197.proofs.Cases.{p5, p6, p7, p8}
use Rattle.lanes.specs.Layout.{pack}
use Rattle.lanes.specs.Schedule.{add63, rows_unshifted, words_at, write_key, schedule_of}
use Rattle.lanes.specs.Leaves.{bare_sub_bytes}
use Rattle.schedule.specs.Cases.{Cases}

pub cases : Cases
unfolding pack bare_sub_bytes sub_bytes words_at schedule_of write_key add63 rows_unshifted inv_shift_rows
    key_expansion key_words more_words key_temp rcon round_constants add_word sub_word rot_word sbox affine inverse product xtime
cases = record { p1 = refl; p2 = refl; p3 = refl; p4 = refl; p5 = (p5, refl); p6 = p6; p7 = p7; p8 = p8; p9 = refl; p10 = (refl, refl); p11 = refl }
