-- From the definition of one event to what offering it answers. Assumes nothing.
use mathlib.Core.Path.{◌≡◌, refl}
use mathlib.Core.Bool.{true, false}
use mathlib.Core.List.{List}
use Prim.Native.Nat.{ℕ}
use Rattle.std.specs.Prelude.{Result, Err}
use Rattle.refusal.specs.declared.Refusal.{Refusal}
use Rattle.refusal.specs.Numbers.{number_of}
use Rattle.sheet.specs.Decode.{sheet_of}
use Rattle.sheet.specs.Reading.{reading, sheet_layout}
use Rattle.sheet.specs.Answer.{reading_paper, answer}
use Rattle.sheet.specs.Log.{Event}
use Rattle.step.specs.Answers.{Response, taken, declined, answer_of}
use Rattle.step.proofs.OnEvents.Runs.{refused_with_lem, unread_offer}
use Rattle.step.proofs.OnEvents.Counts.{refused_count, unread_count}
use Rattle.monitor.specs.declared.WatchState.{WatchState}
use Rattle.monitor.specs.Monitor as Monitor
use Rattle.monitor.specs.Padded.{pad, view, sound_state}
use Rattle.monitor.specs.Answers.{offer_of, count_of}

module _ (s : List ℕ) (w : WatchState) (e : Event) where
  -- what offering the event answers, the state that comes back, and what is counted
  abbrev pub Comes : Response → WatchState → ℕ → Type 0
  Comes r τ n = (r ≡ answer_of (offer_of s w e).answer) × ((τ ≡ (offer_of s w e).state) × (n ≡ count_of s w e))

  module _ (a : reading sheet_layout s ≡ 0) where
    pub unsound : sound_state (sheet_of s) w ≡ false → Comes (declined 9) w 0
    unfolding offer_of count_of
    unsound h = rw (a, h) (refl, (refl, refl))

    module _ (h : sound_state (sheet_of s) w ≡ true) (n : ℕ) (f : n ≡ Monitor.refusal (sheet_of s) (view (sheet_of s) w) e) where
      pub offer_takes : n ≡ 0 → (τ : WatchState) → τ ≡ pad (Monitor.offer (sheet_of s) (view (sheet_of s) w) e).state → (m : ℕ) → m ≡ Monitor.count (sheet_of s) (view (sheet_of s) w) e → Comes taken τ m
      unfolding offer_of count_of
      offer_takes z τ g m q = rw (a, h, ← f, z, g, q) (refl, (refl, refl))

      pub offer_refuses : (n ≡ 0 → ⊥) → Comes (declined n) w 0
      unfolding offer_of count_of Monitor.count
      offer_refuses k =
          let (x, y) = refused_with_lem n k w _ in
          rw (a, h, ← f) (x, (y, refused_count n k _))

  -- a sheet that is not read
  pub offer_unread : (r : Result (Unit {0}) Refusal) → reading_paper r ≡ answer (reading sheet_layout s) → (n : Refusal) → r ≡ Err n → Comes (declined (number_of n)) w 0
  unfolding offer_of count_of
  offer_unread r er n h =
      let (x, y) = unread_offer (reading sheet_layout s) r er n h _ w _ in
      (x, (y, unread_count (reading sheet_layout s) r er n h _))
