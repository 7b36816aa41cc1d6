-- Before each turn the state is that of the rounds so far; a turn is four rounds, or one or three before the loop is left.
use borrow.Author.Rules.{rules}
use mathlib.Core.Path.{refl}
use native.Mathlib.Omega.{arith}
use Rattle.cipher.proofs.Steps.{round_is, done_none, done_more, done_are, done_does, after_1, after_3}
use Rattle.cipher.proofs.schedule.Schedule.do_rounds.Goals as goal

pub loop-r-init : goal.loop-r-init
loop-r-init g c = let some = c.args.self.now.scheduled.some in record { form = search rules; less = omega arith; done = done_none }

pub loop-r-preserved : goal.loop-r-preserved
loop-r-preserved g c =
    let form = c.loop-r.invariant.form in
    let less = c.loop-r.invariant.less in
    let even = c.args.self.now.scheduled.even in
    record {
      form = omega arith;
      less = omega (arith, c.if-r-n.false, c.if-r-n-2.false);
      done = done_are (omega arith)
          (done_more refl (omega arith) (after_3 c.loop-r.invariant
          (round_is c.sub_bytes.ensures c.mix_columns.ensures c.add_key-s1.ensures)
          (round_is c.sub_bytes-in-loop-r.ensures c.mix_columns-in-loop-r.ensures c.add_key-s2.ensures)
          (round_is c.sub_bytes-in-loop-r-2.ensures c.mix_columns-in-loop-r-2.ensures c.add_key-s3.ensures))
          (round_is c.sub_bytes-in-loop-r-3.ensures c.mix_columns-in-loop-r-3.ensures c.add_key-s4.ensures));
    }

pub returns-then-r-n : goal.returns-then-r-n
returns-then-r-n g c = done_does (omega arith) (after_1 c.loop-r.invariant (round_is c.sub_bytes.ensures c.mix_columns.ensures c.add_key-s1.ensures))

pub returns-then-r-n-2 : goal.returns-then-r-n-2
returns-then-r-n-2 g c = done_does (omega arith) (after_3 c.loop-r.invariant
    (round_is c.sub_bytes.ensures c.mix_columns.ensures c.add_key-s1.ensures)
    (round_is c.sub_bytes-in-loop-r.ensures c.mix_columns-in-loop-r.ensures c.add_key-s2.ensures)
    (round_is c.sub_bytes-in-loop-r-2.ensures c.mix_columns-in-loop-r-2.ensures c.add_key-s3.ensures))
