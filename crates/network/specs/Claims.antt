-- What is claimed of a network's states and counts beside what the operations promise; demand 3 is in `agreement`.
use Rattle.std.specs.Prelude.{◌≡◌, Bool, true, List, ℕ, ◌+◌, ◌*◌, ◌≤◌}
use Rattle.sheet.specs.Decode.{wide, network_of}
use Rattle.sheet.specs.Reading.{most_bytes, reading, network_layout}
use Rattle.sheet.specs.Log.{Event}
use Rattle.network.specs.declared.NetworkState.{NetworkState}
use Rattle.network.specs.Padded.{sound_state, fresh_of}
use Rattle.network.specs.Answers.{offer_of, count_of}

-- A state that offering events leads to from the fresh one, taken or refused.
pub data Reached (s : List ℕ) : NetworkState → Type 0 where
  begun : Reached s (fresh_of s)
  more : {w : NetworkState} → Reached s w → (e : Event) → Reached s (offer_of s w e).state

-- On an accepted network an offered event leaves a sound state sound, and from fresh every state is sound and no event is refused 9.
pub record SoundKept (s : List ℕ) : Type 0 where
  pub kept : (w : NetworkState) → sound_state (network_of s) w ≡ true → (e : Event) → sound_state (network_of s) (offer_of s w e).state ≡ true
  pub reached : (w : NetworkState) → Reached s w → sound_state (network_of s) w ≡ true
  pub never_nine : (w : NetworkState) → Reached s w → (e : Event) → (offer_of s w e).answer ≡ 9 → ⊥

abbrev pub Soundness : Type 0
Soundness = (s : List ℕ) → reading network_layout s ≡ 0 → SoundKept s

-- Document 02, request 3: one event on a network counts at most 6,464 in version 2, and 102,464 in version 3: 96 conditions, an action of 64 bytes, and four
-- conditions of pairs or postconditions; a condition has up to 64 or 1,024 bytes.
abbrev pub most_counted : Bool → ℕ
most_counted w = 96 * most_bytes w + 64 + 4 * most_bytes w

abbrev pub FewCounted : Type 0
FewCounted = (n : List ℕ) (w : NetworkState) (e : Event) → count_of n w e ≤ most_counted (wide n)
