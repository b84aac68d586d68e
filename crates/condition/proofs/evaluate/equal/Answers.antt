-- `evaluate::equal` meets its contract. Assumes nothing.
use Rattle.condition.specs.Word.{equal_word}
use Rattle.condition.proofs.evaluate.equal.Goals as goal

pub returns : goal.returns
unfolding equal_word
returns c = c.judged.ensures
