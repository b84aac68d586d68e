-- A sheet and a network as machines.
use Rattle.std.specs.Prelude.{Bool, cond, ◌&&◌, List, [], ◌∷◌, map, ℕ, suc, eqb, get_or}
use Rattle.std.proofs.Math.Option.{Option, none, some}
use Rattle.sheet.specs.declared.Triple.{Triple}
use Rattle.sheet.specs.declared.Pair.{Pair}
use Rattle.sheet.specs.Parts.{Sheet, Paired, Network, bases}
use Rattle.sheet.specs.Reading.{no_template}
use Rattle.step.specs.Lists.{first}
use Rattle.step.specs.Moves.{enabled}
use Rattle.engine.specs.Machine.{Candidate, Machine}

abbrev pub no_triple : Triple
no_triple = record { state = 0; unit = 0; precondition = 0; postcondition = 0 }

-- the triples that pass a test, from a first number on
unfoldable pub triples_from : (Triple → Bool) → ℕ → List Triple → List Candidate
triples_from p i [] = []
triples_from p i (t ∷ l) = cond (p t) (record { condition = t.precondition; number = i } ∷ triples_from p (suc i) l) (triples_from p (suc i) l)

-- the triples of the state held before the event and of its unit
unfoldable pub of_sheet : Sheet → Machine
of_sheet S =
    record {
      common = S.common;
      transitions = S.transitions;
      candidates = λ k e. triples_from (λ (t : Triple). eqb t.state k.main && eqb t.unit e.unit) 0 S.triples;
      postcondition = λ i. (get_or S.triples i no_triple).postcondition;
    }

abbrev pub pairs_of : Option Paired → List Pair
pairs_of none = []
pairs_of (some t) = t.pairs

-- the pairs of the transition that is taken, each with its template
unfoldable pub of_network : Network → Machine
of_network N =
    record {
      common = N.common;
      transitions = bases N;
      candidates = λ k e. map (λ (p : Pair). record { condition = p.condition; number = p.template }) (pairs_of (first (λ (t : Paired). enabled N.common k e t.base) N.transitions));
      postcondition = λ i. (get_or N.templates i no_template).postcondition;
    }
