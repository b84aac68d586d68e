-- What the private functions promise.
use Rattle.std.specs.Prelude.{List, ℕ, ◌+◌, ◌≤◌}
use Rattle.translation.specs.Walk.{Writes}
use Rattle.step.specs.declared.RunAnswer.{RunAnswer}
use Rattle.step.specs.Answers.{run_paper}
use Rattle.lines.specs.Text.{line}

-- the line of an answer
unfoldable pub line_of : RunAnswer → List ℕ
line_of a = line (run_paper a)

-- l stored from `at` on, the place behind it, and that it is not far
pub record Puts (o p : List ℕ) (at : ℕ) (l : List ℕ) (r most : ℕ) : Type 0 where
  pub writes : Writes o p at l r
  pub near : r ≤ at + most
