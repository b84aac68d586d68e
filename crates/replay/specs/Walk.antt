-- What the private functions promise.
use Rattle.std.specs.Prelude.{◌≡◌, List, [], map, ℕ}
use Rattle.std.proofs.lemmas.List.Edits.{sets}
use Rattle.step.specs.Answers.{unless_taken}
use Rattle.network.specs.declared.NetworkState.{NetworkState}
use Rattle.network.specs.Padded.{zero_state}
use Rattle.agreement.specs.Shown.{Followed}
use Rattle.replay.specs.declared.Replayed.{Replayed}
use Rattle.replay.specs.Replay.{replay_paper, replay_with, number_of}

-- The answer and the state for a refusal or 0, so many records, and what they came to; p is what was lent for the answers, o what that was before.
pub record Replays (refusal count : ℕ) (followed : Followed NetworkState) (o : List ℕ) (r : Replayed) (p : List ℕ) : Type 0 where
  pub answer : replay_paper r.answer ≡ replay_with refusal count
  pub state : r.state ≡ unless_taken refusal zero_state followed.state
  pub answers : p ≡ sets o 0 (unless_taken refusal [] (map number_of followed.answers))
