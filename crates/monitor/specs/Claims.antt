-- What is claimed of states, of counts and of open calls beside what the operations promise; demand 2 is in `Demand`.
use Rattle.std.specs.Prelude.{◌≡◌, true, false, List, [], ◌∷◌, ◌++◌, ℕ, ◌+◌, ◌*◌, ◌≤◌, ◌<◌, eqb, length}
use Rattle.std.proofs.Math.Option.{Option}
use Rattle.sheet.specs.Parts.{Sheet}
use Rattle.sheet.specs.Decode.{sheet_of}
use Rattle.sheet.specs.Reading.{reading, sheet_layout}
use Rattle.sheet.specs.Log.{Event}
use Rattle.step.specs.Lists.{Among, any}
use Rattle.step.specs.Calls.{most_calls, last_position, Call}
use Rattle.monitor.specs.declared.WatchState.{WatchState}
use Rattle.monitor.specs.Published.{Leading, Breaks}
use Rattle.monitor.specs.Demand.{still_open, refusal_after, Taken, Violated}
use Rattle.monitor.specs.Padded.{sound_state, fresh_of}
use Rattle.monitor.specs.Answers.{offer_of, count_of}

-- A state that offering events leads to from the fresh one, taken or refused.
pub data Reached (s : List ℕ) : WatchState → Type 0 where
  begun : Reached s (fresh_of s)
  more : {w : WatchState} → Reached s w → (e : Event) → Reached s (offer_of s w e).state

-- On an accepted sheet an offered event leaves a sound state sound, and from fresh every state is sound and no event is refused 9.
pub record SoundKept (s : List ℕ) : Type 0 where
  pub kept : (w : WatchState) → sound_state (sheet_of s) w ≡ true → (e : Event) → sound_state (sheet_of s) (offer_of s w e).state ≡ true
  pub reached : (w : WatchState) → Reached s w → sound_state (sheet_of s) w ≡ true
  pub never_nine : (w : WatchState) → Reached s w → (e : Event) → (offer_of s w e).answer ≡ 9 → ⊥

abbrev pub Soundness : Type 0
Soundness = (s : List ℕ) → reading sheet_layout s ≡ 0 → SoundKept s

-- Document 02, request 3: one event on a sheet counts "never above 4,416": 64 conditions, an action, and four pre- or postconditions, of 64 bytes each.
abbrev pub most_counted : ℕ
most_counted = 64 * 64 + 64 + 4 * 64

abbrev pub FewCounted : Type 0
FewCounted = (s : List ℕ) (w : WatchState) (e : Event) → count_of s w e ≤ most_counted

-- Sentences of document 01 on calls, on traces.
pub record Calls (S : Sheet) (R : Leading) : Type 0 where
  -- "its number may be used again afterwards": after an exit no call of its number is open
  pub used_again : (w : List Event) (exit : Event) → exit.kind ≡ 1 → any (λ (c : Call). eqb c.number exit.number) (still_open (w ++ exit ∷ [])) ≡ false
  -- "Exits need not come innermost first": whichever call is open can be left
  pub any_exit : (w : List Event) (call : Call) → Among call (still_open w) → (exit : Event) → exit.kind ≡ 1 → exit.number ≡ call.number → exit.unit ≡ call.unit
      → exit.unit < S.common.units → length exit.values ≡ S.common.programs → (length w ≡ last_position → ⊥) → refusal_after S false w exit ≡ 0
  -- "At most 16 calls are open."
  pub at_most : (w : List Event) → Taken S w → length (still_open w) ≤ most_calls
  -- "A call still open when a log ends breaks nothing": a triple is broken by an exit alone
  pub by_exit : (w : List Event) (i : ℕ) → Breaks S R w i → (u : List Event) × (exit : Event) × (w ≡ u ++ exit ∷ []) × (exit.kind ≡ 1)
  -- "Records after a verdict aren't judged."
  pub later : (es rest : List Event) (n : ℕ) (q t : Option ℕ) (m : ℕ) → Violated S R es n q t m → Violated S R (es ++ rest) n q t m
