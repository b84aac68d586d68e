-- What is claimed of the lines beside what printing them promises.
use Rattle.std.specs.Prelude.{◌≡◌, List, ◌++◌, ℕ, suc, ◌≤◌, length}
use Rattle.sheet.specs.Reading.{reading, sheet_layout}
use Rattle.step.specs.Answers.{refused}
use Rattle.monitor.specs.Answers.{run_of}
use Rattle.lines.specs.Text.{line}
use Rattle.lines.specs.Lines.{most_input, sheet_in, log_in, lines_of}

-- "It prints two lines, first the sheet's run, then the network's (for a refused sheet both give that refusal)"; and the two are always equal.
pub record TwoLines (i : List ℕ) : Type 0 where
  pub equal : lines_of i ≡ line (run_of (sheet_in i) (log_in i)) ++ line (run_of (sheet_in i) (log_in i))
  pub unread : (n : ℕ) → reading sheet_layout (sheet_in i) ≡ suc n → lines_of i ≡ line (refused (suc n)) ++ line (refused (suc n))

abbrev pub Lines : Type 0
Lines = (i : List ℕ) → length i ≤ most_input → TwoLines i
