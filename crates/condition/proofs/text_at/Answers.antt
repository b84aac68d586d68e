-- `text_at` meets its contract. Assumes nothing.
use Rattle.std.proofs.Common.{◌+◌, length, get_or, drop, sym, ap, ◌∙◌, arith, length-drop, drop_of_length-le, length-take-le, take_all}
use lib.Seq.{take-nil}
use Rattle.condition.proofs.Answering.{rest_all}
use Rattle.condition.proofs.text_at.Goals as goal

pub returns-else-at-s : goal.returns-else-at-s
returns-else-at-s c = sym (rw (drop_of_length-le c.args.s.now {i = c.args.at + 1} (omega arith)) (take-nil (get_or c.args.s.now c.args.at 0)))

pub slice_bounds-result-end-then-size-rest : goal.slice_bounds-result-end-then-size-rest
slice_bounds-result-end-then-size-rest c = sym (length-take-le _ _ (omega (arith, ap length (rest_all c.args.s.now (c.args.at + 1)), length-drop (c.args.at + 1) c.args.s.now)))

pub returns-then-size-rest : goal.returns-then-size-rest
returns-then-size-rest c = rw (rest_all, ← c.from-size.ensures)

pub returns-else-size-rest : goal.returns-else-size-rest
returns-else-size-rest c = rest_all c.args.s.now (c.args.at + 1) ∙ sym (take_all (get_or c.args.s.now c.args.at 0) (drop (c.args.at + 1) c.args.s.now) (omega (arith, length-drop (c.args.at + 1) c.args.s.now, c.from-size.ensures)))
