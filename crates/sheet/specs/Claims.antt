-- What is claimed of sheets, networks and logs beside what the operations promise.
use Rattle.std.specs.Prelude.{◌≡◌, Bool, true, false, List, ℕ, ◌≤◌, length}
use Rattle.condition.specs.Claims.{Injective}
use Rattle.sheet.specs.Parts.{Network}
use Rattle.sheet.specs.Decode.{wide, network_of}
use Rattle.sheet.specs.Encode.{admitted, encode}
use Rattle.sheet.specs.Reading.{reading, sheet_layout, network_layout}
use Rattle.sheet.specs.Answer.{reading_paper, log_paper}

-- "a definition gives this paper's number and values for each of its cases": no two have the same
pub record Told : Type 0 where
  pub readings : Injective reading_paper
  pub logs : Injective log_paper

-- "The longest sheet has 6,782 bytes." An accepted network of version 2 has at most 7,904. Both are reached.
pub record Longest : Type 0 where
  pub sheet : (s : List ℕ) → reading sheet_layout s ≡ 0 → length s ≤ 6782
  pub sheet_reached : (s : List ℕ) × (reading sheet_layout s ≡ 0) × (length s ≡ 6782)
  pub network : (n : List ℕ) → reading network_layout n ≡ 0 → wide n ≡ false → length n ≤ 7904
  pub network_reached : (n : List ℕ) × (reading network_layout n ≡ 0) × (wide n ≡ false) × (length n ≡ 7904)

-- An admitted network is read back from its bytes, in either version, and these are accepted.
abbrev pub ReadBack : Type 0
ReadBack = (w : Bool) (N : Network) → admitted w N ≡ true → (network_of (encode w N) ≡ N) × (reading network_layout (encode w N) ≡ 0)
