-- Sheets and networks without their bytes (document 01, "Sheet layout", "Network layout and translation").
use Rattle.std.specs.Prelude.{List, map, ℕ}
use Rattle.sheet.specs.declared.Transition.{Transition}
use Rattle.sheet.specs.declared.Triple.{Triple}
use Rattle.sheet.specs.declared.Pair.{Pair}
use Rattle.sheet.specs.declared.Template.{Template}

-- What a sheet and a network share: "states Q", "units U", "program variables P", "monitor variables V", "start state", "bad states,
-- state s being the bit worth 2^s", "V initial values", and the conditions and actions as bytes.
pub record Common : Type 0 where
  pub states : ℕ
  pub units : ℕ
  pub programs : ℕ
  pub monitors : ℕ
  pub start : ℕ
  pub bad : ℕ
  pub initial : List ℕ
  pub conditions : List (List ℕ)
  pub actions : List (List ℕ)

pub record Sheet : Type 0 where
  pub common : Common
  pub transitions : List Transition
  pub triples : List Triple

-- "A transition has a seventh byte n, 0-4, and n pairs: a condition and a template."
pub record Paired : Type 0 where
  pub base : Transition
  pub pairs : List Pair

pub record Network : Type 0 where
  pub common : Common
  pub transitions : List Paired
  pub templates : List Template

-- a network's transitions without their pairs
abbrev pub bases : Network → List Transition
bases N = map (λ (t : Paired). t.base) N.transitions
