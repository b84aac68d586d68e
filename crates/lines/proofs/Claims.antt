-- The two lines are equal, and for a refused sheet they are its refusal's. Assumes nothing.
use mathlib.Core.Path.{◌≡◌, refl, sym, ap, ◌∙◌}
use mathlib.Core.List.{List, ◌++◌}
use Prim.Native.Nat.{ℕ, zero, suc}
use borrow.Author.Tests.{le-leb}
use lib.ListN.{length}
use Rattle.sheet.specs.Reading.{reading, sheet_layout}
use Rattle.step.specs.Answers.{Ending, refused}
use Rattle.monitor.specs.Answers.{run_of}
use Rattle.agreement.proofs.Agreement.{network_defined}
use Rattle.lines.specs.Text.{line}
use Rattle.lines.specs.Lines.{most_input, sheet_in, log_in, network_run, lines_of}
use Rattle.lines.specs.Claims.{Lines}

-- what the sheet's run answers where the sheet is not read
unread : (s log : List ℕ) (n : ℕ) → reading sheet_layout s ≡ suc n → run_of s log ≡ refused (suc n)
unfolding run_of
unread s log n h = rw h

-- the network's run is the sheet's
same : (s log : List ℕ) → network_run s log ≡ run_of s log
same s log = go (reading sheet_layout s) refl
  where
    go : (n : ℕ) → reading sheet_layout s ≡ n → network_run s log ≡ run_of s log
    go zero h = rw h ((network_defined s h).same_run log)
    go (suc n) h = rw h (sym (unread s log n h))

pub two_lines : Lines
unfolding lines_of
two_lines i h =
    let a = run_of (sheet_in i) (log_in i) in
    let equal : lines_of i ≡ line a ++ line a = rw (le-leb (length i) most_input h) (ap (λ (r : Ending). line a ++ line r) (same (sheet_in i) (log_in i))) in
    record { equal = equal; unread = λ n k. equal ∙ ap (λ (r : Ending). line r ++ line r) (unread (sheet_in i) (log_in i) n k) }
