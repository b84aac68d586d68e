-- `first` meets its contract. Assumes nothing.
use Rattle.bench.proofs.Answering.{first_answer}
use Rattle.bench.proofs.first.Goals as goal

pub returns : goal.returns
returns c = first_answer c.args.n c.in_ok-count.ensures.ok.1 c.in_ok-count.ensures.ok.0 c.one_condition.ensures.is c.complete.ensures c.unwrap-bytes.ensures
