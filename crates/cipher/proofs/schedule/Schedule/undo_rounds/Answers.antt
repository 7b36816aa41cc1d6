-- Before each turn, what is left to undo of the state is all that was to undo of the first.
use mathlib.Core.List.{map}
use mathlib.Core.Path.{ap}
use native.Mathlib.Omega.{arith}
use Rattle.cipher.proofs.Steps.{unround_is, left_less, left_none, Form1, from_3, from_1, after_form_1}
use Rattle.cipher.proofs.schedule.Schedule.undo_rounds.Goals as goal
use Rattle.cipher.proofs.schedule.Schedule.undo_rounds.Goals.{Joined-r-eq3, then-r-eq3, else-r-eq3}

-- before form 1
before-1 : (g : _) (c : Joined-r-eq3 g)
    → Form1 g.W.Word.width (map g.W.Word.value c.args.self.now.words.now) c.args.self.now.rounds (map g.W.Word.value c.args.first)
    (map g.W.Word.value c.if-r-eq3.state) c.loop-r.r c.if-r-eq3.r
before-1 g c =
    elim c.if-r-eq3.branch [
      | then-r-eq3 t ↦ from_3 c.loop-r.invariant t.if-r-eq3.true
          (unround_is t.add_key.ensures t.inv_mix_columns.ensures t.inv_sub_bytes-t3.ensures)
          (unround_is t.add_key-then-r-eq3.ensures t.inv_mix_columns-then-r-eq3.ensures t.inv_sub_bytes-t2.ensures) t.r-is (ap (map g.W.Word.value) t.state-is)
      | else-r-eq3 e ↦ from_1 c.loop-r.invariant e.if-r-eq3.false e.r-is (ap (map g.W.Word.value) e.state-is)
    ]

pub loop-r-preserved : goal.loop-r-preserved
loop-r-preserved g c =
    let f = before-1 g (goal.at.loop-r-preserved g c).Joined-r-eq3 in
    let on = c.if-r-eq0.false in
    record {
      odd = omega arith;
      less = omega arith;
      left = left_less (omega arith) (omega arith)
          (after_form_1 f (unround_is c.add_key-in-loop-r.ensures c.inv_mix_columns-in-loop-r.ensures c.inv_sub_bytes-t1.ensures))
          (unround_is c.add_key-in-loop-r-2.ensures c.inv_mix_columns-in-loop-r-2.ensures c.inv_sub_bytes-t0.ensures);
    }

pub returns : goal.returns
returns g c =
    left_none c.if-r-eq0.true
    (after_form_1 (before-1 g (goal.at.returns g c).Joined-r-eq3)
    (unround_is c.add_key-in-loop-r.ensures c.inv_mix_columns-in-loop-r.ensures c.inv_sub_bytes-t1.ensures))
