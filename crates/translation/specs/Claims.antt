-- What is claimed of translating beside what the operations promise; demand 3 is in `agreement`.
use Rattle.condition.specs.Claims.{Injective}
use Rattle.translation.specs.Answer.{translated_paper}

-- "a definition gives this paper's number and values for each of its cases": no two have the same
abbrev pub Told : Type 0
Told = Injective translated_paper
