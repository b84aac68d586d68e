-- What a network owes a sheet: it moves as the sheet does, an entry creates a checker for each triple armed, and a template is judged as its triple.
-- Sheet and network are then machines that are alike (`engine`), so demand 3 follows for every accepted network of which this holds, whatever its version.
use Rattle.std.specs.Prelude.{◌≡◌, true, map, ℕ, ◌<◌}
use Rattle.condition.specs.Meaning.{Environment}
use Rattle.sheet.specs.Parts.{Sheet, Network, bases}
use Rattle.sheet.specs.Log.{Event}
use Rattle.step.specs.Meets.{meets}
use Rattle.step.specs.Moves.{Configuration, moved}
use Rattle.step.specs.Calls.{is_entry}
use Rattle.monitor.specs.Monitor.{triple_in, armed_by}
use Rattle.network.specs.Network.{template_in, created}

pub record Realises (S : Sheet) (N : Network) : Type 0 where
  pub states : N.common.states ≡ S.common.states
  pub units : N.common.units ≡ S.common.units
  pub programs : N.common.programs ≡ S.common.programs
  pub start : N.common.start ≡ S.common.start
  pub bad : N.common.bad ≡ S.common.bad
  pub initial : N.common.initial ≡ S.common.initial
  pub moves : (k : Configuration) (e : Event) → moved N.common (bases N) k e ≡ moved S.common S.transitions k e
  pub creates : (k : Configuration) (position : ℕ) (e : Event) → is_entry e ≡ true → k.main < S.common.states → e.unit < S.common.units
      → created N k position e ≡ map (λ i. record { number = e.number; template = i; entry = position }) (armed_by S k e)
  pub judges : (i : ℕ) (E : Environment) → meets N.common (template_in N i).postcondition E ≡ meets S.common (triple_in S i).postcondition E
