-- `sound::in_order` meets its contract. Assumes nothing.
use Rattle.std.proofs.Common.{◌≡◌, ℕ, List, map, drop, eqb}
use Rattle.step.specs.declared.Call.{Call}
use Rattle.step.specs.Lists.{place_of}
use Rattle.network.specs.declared.Checker.{Checker}
use Rattle.network.specs.Sound.{never_falls}
use Rattle.network.proofs.sound.in_order.Given as goal

abbrev pub call_of : List Call → Checker → ℕ
call_of calls h = place_of (λ (c : Call). eqb c.number h.number) calls

abbrev pub invariant-loop-h : goal.invariant-loop-h
invariant-loop-h l = never_falls l.last (map (call_of l.calls) (drop l.h-index l.checkers)) ≡ never_falls 0 (map (call_of l.calls) l.checkers)
