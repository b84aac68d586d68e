-- `words`: four bytes more are dropped for one word more.
use Rattle.std.proofs.Common.{arith, ap, ◌∙◌, ◌≡◌, ◌+◌, ◌*◌, drop, length-append, drop-drop}
use Rattle.frames.proofs.Reader.words.Goals as goal

pub loop-preserved : goal.loop-preserved
loop-preserved c =
    let four_more : 4 * c.loop.counter + 4 ≡ 4 * (c.loop.counter + 1) = grind arith in (
      grind (arith, length-append, c.push.ensures.items),
      c.in_ok-word.ensures.read.1 ∙ ap (drop 4) c.loop.invariant.1 ∙ drop-drop 4 (4 * c.loop.counter) c.byte.new.self ∙ ap (λ n. drop n c.byte.new.self) four_more,
    )
