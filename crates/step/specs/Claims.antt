-- What is claimed of the answers to events and runs beside what the operations promise.
use Rattle.condition.specs.Claims.{Injective}
use Rattle.step.specs.Answers.{answer_paper, run_paper}

-- "a definition gives this paper's number and values for each of its cases": no two have the same
pub record Told : Type 0 where
  pub answers : Injective answer_paper
  pub runs : Injective run_paper
