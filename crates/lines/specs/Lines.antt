-- What the program prints for its input (document 01, "The program and a sample").
use Rattle.std.specs.Prelude.{cond, List, ◌++◌, ℕ, min, leb, ltb, length, take, drop}
use Rattle.sheet.specs.Bytes.{half}
use Rattle.sheet.specs.Reading.{reading, sheet_layout}
use Rattle.step.specs.Answers.{Ending, unless_refused}
use Rattle.translation.specs.Answer.{network_bytes}
use Rattle.monitor.specs.Answers as OnSheet
use Rattle.network.specs.Answers as OnNetwork
use Rattle.lines.specs.Text.{too_long, line}

-- "at most 65,536 bytes"
abbrev pub most_input : ℕ
most_input = 65536

-- "The sheet is as many bytes as the first two say, or all input if fewer than that or fewer than two; the rest is the log."
unfoldable pub sheet_size : List ℕ → ℕ
sheet_size i = cond (ltb (length i) 2) (length i) (min (half i 0) (length i))

abbrev pub sheet_in : List ℕ → List ℕ
sheet_in i = take (sheet_size i) i

abbrev pub log_in : List ℕ → List ℕ
log_in i = drop (sheet_size i) i

-- "first the sheet's run, then the network's (for a refused sheet both give that refusal)"
abbrev pub network_run : List ℕ → List ℕ → Ending
network_run s log = unless_refused (reading sheet_layout s) (OnNetwork.run_of (network_bytes s) log)

-- "It prints two lines"; "more: it prints `too long` only"
unfoldable pub lines_of : List ℕ → List ℕ
lines_of i = cond (leb (length i) most_input) (line (OnSheet.run_of (sheet_in i) (log_in i)) ++ line (network_run (sheet_in i) (log_in i))) too_long
