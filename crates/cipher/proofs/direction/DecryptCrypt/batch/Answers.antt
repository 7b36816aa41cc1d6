-- Each slot goes through the fixsliced cipher undone, which is InvCipher by the argument.
use mathlib.Core.List.{map}
use mathlib.Core.Path.{◌∙◌}
use Rattle.cipher.proofs.Steps.{decrypted_is}
use Rattle.cipher.proofs.direction.DecryptCrypt.batch.Goals as goal

pub returns : goal.returns
returns g c =
    let l = c.args.schedule.now in
    c.inv_bitslice.ensures
    ∙ decrypted_is g.W.Word.width (map g.W.Word.value l.words.now) l.rounds l.scheduled.some c.args.input.now
    c.bitslice.ensures
    c.add_key.ensures
    c.inv_sub_bytes-s0.ensures
    c.inv_shift_rows.ensures
    c.undo_rounds-s1.ensures
    c.add_key-s2.ensures
