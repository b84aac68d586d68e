-- The records of a log offered one after another: what is left to offer from a state comes to what the whole comes to. Assumes nothing.
use mathlib.Core.Path.{◌≡◌, refl, sym, ap, ◌∙◌}
use mathlib.Core.List.{List, ◌∷◌, map}
use Prim.Native.Nat.{ℕ, zero, suc, ◌+◌, ◌*◌, ◌≤◌, ◌<◌}
use native.Mathlib.Nat.{mul-suc}
use native.Mathlib.Numerals.{add-one}
use native.Mathlib.Omega.{arith}
use lib.ListN.{length, set, take, drop}
use lib.Seq.{drop-drop, sets, length-sets}
use Rattle.sheet.specs.declared.Record.{Record}
use Rattle.sheet.specs.Bytes.{word}
use Rattle.sheet.specs.Table.{records, table, fit}
use Rattle.sheet.specs.Decode.{word_form}
use Rattle.sheet.specs.Log.{Event, record_size, event_form, log_reading, records_in, events_of}
use Rattle.sheet.specs.Answer.{record_of}
use Rattle.sheet.proofs.Tables.{length_records, table_step}
use Rattle.step.specs.Calls.{event_of}
use Rattle.step.specs.Answers.{answer_paper, answer_of}
use Rattle.step.proofs.OnEvents.Following.{log_length, log_filled}
use Rattle.step.proofs.OnLists.Rooms.{take_fitted}
use Rattle.network.specs.declared.NetworkState.{NetworkState}
use Rattle.step.specs.declared.Offered.{Offered}
use Rattle.network.specs.Padded.{fresh_of}
use Rattle.network.specs.Answers.{offer_of}
use Rattle.agreement.specs.Shown.{follow, offered_to}
use Rattle.std.specs.Prelude.{Ok}
use Rattle.replay.specs.Replay.{offered, number_of}
use Rattle.replay.specs.Walk.{Replays}

-- What is read at a place of a log is the event that stands there.
module _ (P : ℕ) (log : List ℕ) (at : ℕ) (few : P ≤ 8) (r : Record) (er : r ≡ record_of (drop at log)) (words : List ℕ) (ew : words ≡ fit 8 0 (table word_form P log (at + 4))) where
  values_there : take P words ≡ table word_form P log (at + 4)
  values_there = ap (take P) ew ∙ take_fitted 0 8 P (table word_form P log (at + 4)) (length_records word_form P (drop (at + 4) log)) few

  pub values_many : P ≡ length (take P words)
  values_many = sym (ap length values_there ∙ length_records word_form P (drop (at + 4) log))

  event_there : event_of r (take P words) ≡ (event_form P).value (drop at log)
  event_there =
      let values : take P words ≡ records word_form P (drop 4 (drop at log)) = values_there ∙ ap (records word_form P) (sym (drop-drop 4 at log)) in
      λ i. event_of (er i) (values i)

  pub offered_there : (n : List ℕ) (w : NetworkState) (o : Offered NetworkState) → answer_paper o.answer ≡ answer_of (offer_of n w (event_of r (take P words))).answer → o.state ≡ (offer_of n w (event_of r (take P words))).state
      → (answer_paper o.answer ≡ answer_of (offer_of n w ((event_form P).value (drop at log))).answer) × (o.state ≡ (offer_of n w ((event_form P).value (drop at log))).state)
  offered_there n w o ea es = (ea ∙ ap (λ (e : Event). answer_of (offer_of n w e).answer) event_there, es ∙ ap (λ (e : Event). (offer_of n w e).state) event_there)

-- With `left` records to offer from `at` on, i of them offered, the last state and the answers are those of the whole log.
pub record Offering (n : List ℕ) (P : ℕ) (log o : List ℕ) (size end : ℕ) (out : List ℕ) (w : NetworkState) (i at : ℕ) : Type 0 where
  pub left : ℕ
  pub state : (follow (offer_of n) w (table (event_form P) left log at)).state ≡ (offered_to n (events_of P log)).state
  pub answers : sets out i (map number_of (follow (offer_of n) w (table (event_form P) left log at)).answers) ≡ sets o 0 (map number_of (offered_to n (events_of P log)).answers)
  pub count : i + left ≡ records_in P log
  pub ends : at + record_size P * left ≡ end
  pub each : size ≡ record_size P
  pub low : i < at
  pub fits : end < 4294967296

module _ (n : List ℕ) (P : ℕ) (log o : List ℕ) (size end : ℕ) where
  pub offering_start : log_reading P log ≡ 0 → size ≡ record_size P → end ≡ word log 0 → end < 4294967296 → (w : NetworkState) → w ≡ fresh_of n → Offering n P log o size end o w 0 6
  unfolding offered_to events_of
  offering_start h f g l w e =
      record {
        left = records_in P log;
        state = rw e;
        answers = rw e;
        count = omega arith;
        ends = log_filled P log h ∙ sym (g ∙ log_length P log h);
        each = f;
        low = omega arith;
        fits = l;
      }

  module _ (out : List ℕ) (w : NetworkState) (i at : ℕ) (g : Offering n P log o size end out w i at) where
    pub offering_long : length out ≡ length o
    offering_long = simp length-sets at (ap length g.answers)

    pub offering_end : end ≤ at → Replays 0 (records_in P log) (offered_to n (events_of P log)) o (record { answer = Ok i; state = w }) out
    unfolding follow records
    offering_end h = go g.left g.ends g.count g.state g.answers
      where
        go : (left : ℕ) → at + record_size P * left ≡ end → i + left ≡ records_in P log → (follow (offer_of n) w (table (event_form P) left log at)).state ≡ (offered_to n (events_of P log)).state
            → sets out i (map number_of (follow (offer_of n) w (table (event_form P) left log at)).answers) ≡ sets o 0 (map number_of (offered_to n (events_of P log)).answers)
            → Replays 0 (records_in P log) (offered_to n (events_of P log)) o (record { answer = Ok i; state = w }) out
        go zero e c s a =
            let all : i ≡ records_in P log = omega arith in
            record { answer = ap offered all; state = s; answers = a }
        go (suc left) e c s a = absurd (omega (arith, mul-suc (record_size P) left))

    module _ (h : at < end) where
      record Next : Type 0 where
        left : ℕ
        more : g.left ≡ suc left
        ends : at + record_size P + record_size P * left ≡ end

      next : Next
      next = go g.left refl g.ends
        where
          go : (left : ℕ) → g.left ≡ left → at + record_size P * left ≡ end → Next
          go zero f e = absurd (omega arith)
          go (suc left) f e = record { left = left; more = f; ends = omega (arith, mul-suc (record_size P) left) }

      -- there is room for a whole record
      pub offering_room : (at + size ≤ end) × (4 ≤ size)
      offering_room = (omega (arith, next.ends, g.each), omega (arith, g.each))

      abbrev event : Event
      event = (event_form P).value (drop at log)

      abbrev rest : List Event
      rest = table (event_form P) next.left log (at + record_size P)

      whole : table (event_form P) g.left log at ≡ event ∷ rest
      whole = ap (λ (k : ℕ). table (event_form P) k log at) next.more ∙ table_step (event_form P) next.left log at

      -- the record at this place is offered
      module _ (r : Offered NetworkState) (ea : answer_paper r.answer ≡ answer_of (offer_of n w ((event_form P).value (drop at log))).answer) (es : r.state ≡ (offer_of n w ((event_form P).value (drop at log))).state) where
        pub offering_next : (b : ℕ) → b ≡ number_of (answer_paper r.answer) → (p : List ℕ) → p ≡ set out i b → Offering n P log o size end p r.state (i + 1) (at + size)
        unfolding follow
        offering_next b f p d =
            rw (g.each, add-one i, es, d, f, ea)
            (record {
              left = next.left;
              state = rw whole at g.state;
              answers = rw whole at g.answers;
              count = omega (arith, g.count, next.more);
              ends = next.ends;
              each = refl;
              low = omega (arith, g.low);
              fits = g.fits;
            })
