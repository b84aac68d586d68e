-- What replaying comes to, from what translating a sheet and reading a log answer. Assumes nothing.
use mathlib.Core.Path.{◌≡◌, refl, sym, ap, subst, ◌∙◌}
use mathlib.Core.List.{List}
use Prim.Native.Nat.{ℕ, suc, ◌≤◌}
use native.Mathlib.Omega.{arith}
use lib.ListN.{length, take}
use lib.Seq.{sets}
use Rattle.std.specs.Prelude.{Result, Ok, Err}
use Rattle.refusal.specs.declared.Refusal.{Refusal}
use Rattle.refusal.specs.Numbers.{number_of}
use Rattle.sheet.specs.Bytes.{byte}
use Rattle.sheet.specs.Decode.{common_of}
use Rattle.sheet.specs.Reading.{sheet_layout}
use Rattle.sheet.specs.Log.{log_reading, records_in, events_of}
use Rattle.sheet.specs.Answer.{log_paper, read_of}
use Rattle.sheet.proofs.Accepted.{accepted, bounds}
use Rattle.sheet.proofs.Answers.{log_read, log_refused}
use Rattle.translation.specs.Answer.{translated_paper, translated_of, buffer_of}
use Rattle.translation.proofs.Cut.{sheet_accepted, refused_reading, told}
use Rattle.network.specs.declared.NetworkState.{NetworkState}
use Rattle.network.specs.Padded.{zero_state, pad}
use Rattle.network.specs.Grouped.{ungrouped}
use Rattle.agreement.specs.Shown.{Followed, offered_to}
use Rattle.agreement.proofs.Agreement.{translation_offered}
use Rattle.replay.specs.declared.Replayed.{Replayed}
use Rattle.replay.specs.Replay.{refused, replay_paper, replay_refusal, defined_over, replay_of, replayed_state, replayed_answers}
use Rattle.replay.specs.Walk.{Replays}

-- A refusal is handed back with the all-zero state.
module _ (r : Replayed) (n : ℕ) (e : (replay_paper r.answer ≡ refused n) × (r.state ≡ zero_state)) (k : ℕ) (g : n ≡ suc k) where
  turned_away : (refusal : ℕ) → refusal ≡ suc k → (count : ℕ) (followed : Followed NetworkState) (o : List ℕ) → Replays refusal count followed o r o
  turned_away refusal f count followed o = rw f (record { answer = e.0 ∙ ap refused g; state = e.1; answers = refl })

-- What reading a log answered.
module _ (P : ℕ) (l : List ℕ) (t : Result ℕ Refusal) (e : log_paper t ≡ read_of (log_reading P l) (records_in P l)) where
  pub log_accepted : (m : ℕ) → t ≡ Ok m → log_reading P l ≡ 0
  log_accepted m h = log_read (log_reading P l) (records_in P l) t e m h

  pub log_replayed : (m : ℕ) → t ≡ Ok m → (followed : Followed NetworkState) (o : List ℕ) (r : Replayed) (p : List ℕ) → Replays 0 (records_in P l) followed o r p → Replays (log_reading P l) (records_in P l) followed o r p
  log_replayed m h followed o r p v = rw (log_accepted m h) v

  pub log_turned_away : (m : Refusal) → t ≡ Err m → (followed : Followed NetworkState) (o : List ℕ) (r : Replayed) → (replay_paper r.answer ≡ refused (number_of m)) × (r.state ≡ zero_state) → Replays (log_reading P l) (records_in P l) followed o r o
  log_turned_away m h followed o r v =
      let (k, f, g) = log_refused (log_reading P l) (records_in P l) t e m h in
      turned_away r (number_of m) v k g (log_reading P l) f (records_in P l) followed o

-- What `replay` promises.
module _ (s l : List ℕ) where
  -- the definition's answers, and its state as a network holds it
  abbrev defined_for : Followed NetworkState
  defined_for = record { answers = (defined_over s l).answers; state = pad (ungrouped (defined_over s l).state) }

  module _ (o : List ℕ) (r : Replayed) (p : List ℕ) where
    abbrev Promised : Type 0
    Promised = (replay_paper r.answer ≡ replay_of s l) × ((r.state ≡ replayed_state s l) × (p ≡ sets o 0 (replayed_answers s l)))

    promised : Replays (replay_refusal s l) (records_in (byte s 5) l) defined_for o r p → Promised
    unfolding replay_of replayed_state replayed_answers
    promised v = (v.answer, (v.state, v.answers))

-- What translating the sheet answered.
module _ (s buffer : List ℕ) (t : Result ℕ Refusal) (e : translated_paper t ≡ translated_of s buffer) where
  module _ (n : ℕ) (h : t ≡ Ok n) where
    pub few_programs_lem : (P : ℕ) → P ≡ byte s 5 → P ≤ 8
    unfolding common_of
    few_programs_lem P f = omega (arith, (bounds (accepted sheet_layout s (sheet_accepted s buffer n (told s buffer t e n h)))).programs)

    -- the network is the part of the buffer that was written
    module _ (last : List ℕ) (f : last ≡ buffer_of s buffer) (l : List ℕ) where
      offered_defined : offered_to (take n last) (events_of (byte s 5) l) ≡ defined_for s l
      unfolding defined_over
      offered_defined = ap (λ (b : List ℕ). offered_to (take n b) (events_of (byte s 5) l)) f ∙ translation_offered s buffer n (told s buffer t e n h) (events_of (byte s 5) l)

      pub written_replayed : (P : ℕ) → P ≡ byte s 5 → (o : List ℕ) (r : Replayed) (p : List ℕ) → Replays (log_reading P l) (records_in P l) (offered_to (take n last) (events_of P l)) o r p → Promised s l o r p
      unfolding replay_refusal
      written_replayed P g o r p v =
          let read : Replays (log_reading (byte s 5) l) (records_in (byte s 5) l) (offered_to (take n last) (events_of (byte s 5) l)) o r p = subst (λ (k : ℕ). Replays (log_reading k l) (records_in k l) (offered_to (take n last) (events_of k l)) o r p) g v in
          promised s l o r p (rw (sheet_accepted s buffer n (told s buffer t e n h), ← offered_defined) read)

  pub refused_turned_away : 8192 ≤ length buffer → (n : Refusal) → t ≡ Err n → (l o : List ℕ) (r : Replayed) → (replay_paper r.answer ≡ refused (number_of n)) × (r.state ≡ zero_state) → Promised s l o r o
  unfolding replay_refusal
  refused_turned_away k n h l o r v =
      let (m, g, f) = refused_reading s buffer k (number_of n) (sym e ∙ ap translated_paper h) in
      promised s l o r o (turned_away r (number_of n) v m g (replay_refusal s l) (rw f) (records_in (byte s 5) l) (defined_for s l) o)
