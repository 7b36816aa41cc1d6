-- Each slot goes through the fixsliced cipher, which is Cipher by the argument.
use mathlib.Core.List.{map}
use mathlib.Core.Path.{◌∙◌}
use Rattle.cipher.proofs.Steps.{encrypted_is}
use Rattle.cipher.proofs.direction.EncryptCrypt.batch.Goals as goal

pub returns : goal.returns
returns g c =
    let l = c.args.schedule.now in
    c.inv_bitslice.ensures
    ∙ encrypted_is g.W.Word.width (map g.W.Word.value l.words.now) l.rounds l.scheduled.some c.args.input.now
    c.bitslice.ensures
    c.add_key-s0.ensures
    c.do_rounds-s1.ensures
    c.rows_left_out-s2.ensures
    c.sub_bytes.ensures
    c.add_key-s3.ensures
