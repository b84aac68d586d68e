-- `pack::append` meets its contract. Assumes nothing.
use Rattle.std.proofs.Common.{◌≡◌, ◌+◌, map, take, drop}
use Rattle.std.proofs.lemmas.List.Edits.{sets}
use Rattle.network.specs.Grouped.{checker}
use Rattle.network.proofs.pack.append.Given as goal

-- i of the checkers are there
abbrev pub invariant-loop-i : goal.invariant-loop-i
invariant-loop-i l =
    let numbers = take l.arms.count l.arms.numbers in
    sets l.checkers (l.living + l.i) (map (checker l.number l.entry) (drop l.i numbers)) ≡ sets l.initial.checkers l.living (map (checker l.number l.entry) numbers)
