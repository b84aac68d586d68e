-- What the private functions that write the card's network promise. They read the network's bytes in version 2.
use Rattle.std.specs.Prelude.{◌≡◌, Bool, true, false, ◌&&◌, List, map, ℕ, leb, length}
use Rattle.sheet.specs.declared.Header.{Header}
use Rattle.sheet.specs.declared.Transition.{Transition}
use Rattle.sheet.specs.Parts.{Paired}
use Rattle.sheet.specs.Table.{table, every}
use Rattle.sheet.specs.Decode.{wide, paired_form, transitions_at, last_at, network_of}
use Rattle.sheet.specs.Encode.{encode}
use Rattle.sheet.specs.Reading.{unless, reading, network_layout}
use Rattle.sheet.specs.Answer.{header_of, places_of}
use Rattle.translation.specs.declared.card.Network.{Network}
use Rattle.translation.specs.Card.{joined_conditions, separated}

-- An accepted network of version 2, the index of its conditions, and where its transitions stand.
pub record Narrow (n index : List ℕ) (transitions : ℕ) : Type 0 where
  pub accepted : reading network_layout n ≡ 0
  pub narrow : wide n ≡ false
  pub places : index ≡ (places_of network_layout n).conditions
  pub from : transitions ≡ transitions_at n

-- and its header, and where its templates stand
pub record PreparedNetwork (n : List ℕ) (h : Header) (index : List ℕ) (transitions last : ℕ) : Type 0 where
  pub network : Narrow n index transitions
  pub header : h ≡ header_of n
  pub templates : last ≡ last_at paired_form n

-- the same of a network as it is handed on
abbrev pub Narrowed : Network → Type 0
Narrowed net = Narrow net.n.now net.p.now.conditions net.p.now.transitions

abbrev pub Prepared : Network → Type 0
Prepared net = PreparedNetwork net.n.now net.h net.p.now.conditions net.p.now.transitions net.p.now.last

-- its first k transitions
abbrev pub earlier_in : List ℕ → ℕ → List Transition
earlier_in n k = map (λ (t : Paired). t.base) (table paired_form k n (transitions_at n))

-- the network for the card, from the bytes of the other
abbrev pub separated_bytes : List ℕ → List ℕ
separated_bytes n = encode true (separated (network_of n))

abbrev pub joined_short : List ℕ → Bool
joined_short n = every (λ t. leb (length t) 1024) (joined_conditions (network_of n))

abbrev pub separate_refusal : List ℕ → List ℕ → ℕ
separate_refusal n o = unless (joined_short n && leb (length (separated_bytes n)) 65535) 21 (unless (leb (length (separated_bytes n)) (length o)) 19 0)
