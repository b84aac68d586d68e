-- Running a log on any engine: what is left of it, and what it comes to. Assumes nothing.
use mathlib.Core.Path.{◌≡◌, refl, sym, ap, subst, ◌∙◌}
use mathlib.Core.Bool.{Bool, true}
use mathlib.Core.Option.{Option, none, some}
use mathlib.Core.List.{List}
use Prim.Native.Nat.{ℕ, zero, suc, ◌+◌, ◌-◌, ◌*◌, ◌/◌, ◌≤◌, ◌<◌}
use native.Mathlib.Nat.{mul-suc, div-add-mod}
use native.Mathlib.Numerals.{add-one}
use native.Mathlib.Omega.{arith}
use lib.ListN.{length, drop}
use lib.Seq.{drop-drop}
use Rattle.sheet.specs.Bytes.{word}
use Rattle.sheet.specs.Table.{records}
use Rattle.sheet.specs.Log.{Event, record_size, event_form, log_reading, records_in, events_of}
use Rattle.sheet.proofs.Accepted.{unless_iff}
use Rattle.sheet.proofs.Tests.{and_iff, leb_iff, eqb_iff}
use Rattle.step.specs.declared.Verdict.{Verdict}
use Rattle.std.specs.Prelude as Prelude
use Rattle.std.specs.Prelude.{Some, None}
use Rattle.step.specs.declared.RunAnswer.TheVariants.{Violated}
use Rattle.step.specs.Verdicts.{outcome_of, verdict_in}
use Rattle.step.specs.Runs.{Offered, Ran, unless_judged, unless_refused_at, run_from, unless_ended, run_count_from}
use Rattle.step.specs.Answers as words
use Rattle.step.specs.Answers.{Ending, run_paper, ran_answer}
use Rattle.step.proofs.OnLists.Rooms.{verdict_outcome}

-- What reading a log leaves: it says its length, and its records fill it.
pub log_length : (P : ℕ) (log : List ℕ) → log_reading P log ≡ 0 → word log 0 ≡ length log
unfolding log_reading
log_length P log h = let ((a, (b, c)), rest) = simp (unless_iff, and_iff, eqb_iff) at h in b

whole_length : (n m : ℕ) → 6 ≤ n → m + 0 ≡ n - 6 → 6 + m ≡ n
whole_length n m h e = omega arith

pub log_filled : (P : ℕ) (log : List ℕ) → log_reading P log ≡ 0 → 6 + record_size P * records_in P log ≡ length log
unfolding log_reading records_in
log_filled P log h =
    let ((a, rest), (b, (c, z))) = simp (unless_iff, and_iff, leb_iff, eqb_iff) at h in
    whole_length (length log) (record_size P * ((length log - 6) / record_size P)) a (ap (λ k. record_size P * ((length log - 6) / record_size P) + k) (sym c) ∙ div-add-mod (length log - 6) (record_size P))

-- An engine: its states as they are defined and as they are held, what it does with an event and with a log, what both count, and what it answers at a clean end.
pub record Engine (S W : Type 0) : Type 0 where
  pub fresh : S
  pub refusal : S → Event → ℕ
  pub offer : S → Event → Offered S
  pub verdict : S → Option Verdict
  pub run : List Event → Ran S
  pub count : S → Event → ℕ
  pub run_count : List Event → ℕ
  pub sound : S → Bool
  pub pad : S → W
  pub view : W → S
  pub outcome : W → Prelude.Option Verdict
  pub ends : W → Ending
  pub ends_in : S → Ending

-- What is known of it: the fresh state is sound and an event keeps a state sound, what is held shows what is defined, and no event counts above 2^25, a refused one 0.
pub record Works {S W : Type 0} (E : Engine S W) : Type 0 where
  pub starts : E.sound E.fresh ≡ true
  pub keeps : (σ : S) (e : Event) → E.sound σ ≡ true → E.sound (E.offer σ e).state ≡ true
  pub answers : (σ : S) (e : Event) → (E.offer σ e).answer ≡ E.refusal σ e
  pub runs : (es : List Event) → E.run es ≡ run_from E.offer E.verdict 1 E.fresh es
  pub counts : (es : List Event) → E.run_count es ≡ run_count_from E.offer E.verdict E.count E.fresh es
  pub few : (σ : S) (e : Event) → E.count σ e ≤ 33554432
  pub free : (σ : S) (e : Event) (n : ℕ) → E.refusal σ e ≡ suc n → E.count σ e ≡ 0
  pub seen : (σ : S) → E.sound σ ≡ true → E.view (E.pad σ) ≡ σ
  pub shows : (σ : S) → E.outcome (E.pad σ) ≡ outcome_of (E.verdict σ)
  pub ending : (σ : S) → E.ends (E.pad σ) ≡ E.ends_in σ

-- with `left` records to go from `at` on, the run is that of the whole log, and what it counts is what the whole counts, less the `sum` of the i records before
pub record Following {S W : Type 0} (E : Engine S W) (P : ℕ) (log : List ℕ) (w : W) (i sum at end : ℕ) : Type 0 where
  pub σ : S
  pub left : ℕ
  pub padded : w ≡ E.pad σ
  pub sound : E.sound σ ≡ true
  pub same : run_from E.offer E.verdict (i + 1) σ (records (event_form P) left (drop at log)) ≡ E.run (events_of P log)
  pub counted : sum + run_count_from E.offer E.verdict E.count σ (records (event_form P) left (drop at log)) ≡ E.run_count (events_of P log)
  pub small : sum ≤ 33554432 * i
  pub ends : at + record_size P * left ≡ end
  pub low : i < at
  pub fits : end < 4294967296

module _ {S W : Type 0} {E : Engine S W} (works : Works E) (P : ℕ) (log : List ℕ) where
  abbrev whole : Ran S
  whole = E.run (events_of P log)

  pub follow_start : log_reading P log ≡ 0 → (w : W) → w ≡ E.pad E.fresh → (end : ℕ) → end ≡ word log 0 → end < 4294967296 → Following E P log w 0 0 6 end
  unfolding events_of
  follow_start h w e end f l =
      record {
        σ = E.fresh;
        left = records_in P log;
        padded = e;
        sound = works.starts;
        same = sym (works.runs (events_of P log));
        counted = omega (arith, works.counts (events_of P log));
        small = omega arith;
        ends = log_filled P log h ∙ sym (f ∙ log_length P log h);
        low = omega arith;
        fits = l;
      }

  module _ (w : W) (i sum at end : ℕ) (g : Following E P log w i sum at end) where
    pub follow_seen : E.view w ≡ g.σ
    follow_seen = ap E.view g.padded ∙ works.seen g.σ g.sound

    none_left : end ≤ at → (left : ℕ) → at + record_size P * left ≡ end → left ≡ 0
    none_left h zero e = refl
    none_left h (suc left) e = absurd (omega (arith, mul-suc (record_size P) left))

    pub follow_end : end ≤ at → (E.ends w ≡ ran_answer E.ends_in (E.run (events_of P log))) × (sum ≡ E.run_count (events_of P log))
    unfolding run_from run_count_from records
    follow_end h =
        let none = none_left h g.left g.ends in
        (ap E.ends g.padded ∙ works.ending g.σ ∙ ap (ran_answer E.ends_in) (rw none at g.same), omega (arith, rw none at g.counted))

    module _ (h : at < end) where
      record Next : Type 0 where
        left : ℕ
        more : g.left ≡ suc left
        ends : at + record_size P + record_size P * left ≡ end

      next : Next
      next = go g.left refl g.ends
        where
          go : (left : ℕ) → g.left ≡ left → at + record_size P * left ≡ end → Next
          go zero f e = absurd (omega arith)
          go (suc left) f e = record { left = left; more = f; ends = omega (arith, mul-suc (record_size P) left) }

      -- there is room for a whole record
      pub follow_room : at + record_size P ≤ end
      follow_room = omega (arith, next.ends)

      module _ (e : Event) (there : e ≡ (event_form P).value (drop at log)) where
        abbrev rest : List Event
        rest = records (event_form P) next.left (drop (at + record_size P) log)

        abbrev first : Offered S
        first = E.offer g.σ ((event_form P).value (drop at log))

        abbrev to : S
        to = (E.offer g.σ e).state

        unfolded : unless_refused_at (E.offer g.σ e).answer (i + 1) (unless_judged (E.verdict to) (run_from E.offer E.verdict (i + 1 + 1) to rest)) ≡ whole
        unfolding run_from records
        unfolded = rw (there, add-one (i + 1)) (subst (λ (l : List ℕ). unless_refused_at first.answer (i + 1) (unless_judged (E.verdict first.state) (run_from E.offer E.verdict (suc (i + 1)) first.state (records (event_form P) next.left l))) ≡ whole) (drop-drop (record_size P) at log) (rw next.more at g.same))

        counted : sum + (E.count g.σ e + unless_ended (E.offer g.σ e).answer (E.verdict to) (run_count_from E.offer E.verdict E.count to rest)) ≡ E.run_count (events_of P log)
        unfolding run_count_from records
        counted = rw there (subst (λ (l : List ℕ). sum + (E.count g.σ ((event_form P).value (drop at log)) + unless_ended first.answer (E.verdict first.state) (run_count_from E.offer E.verdict E.count first.state (records (event_form P) next.left l))) ≡ E.run_count (events_of P log)) (drop-drop (record_size P) at log) (rw next.more at g.counted))

        refused : E.refusal (E.view w) e ≡ (E.offer g.σ e).answer
        refused = ap (λ (σ : S). E.refusal σ e) follow_seen ∙ sym (works.answers g.σ e)

        pub follow_refused : (n : ℕ) → n ≡ E.refusal (E.view w) e → (n ≡ 0 → ⊥) → (words.refused_at n (i + 1) ≡ ran_answer E.ends_in (E.run (events_of P log))) × (sum ≡ E.run_count (events_of P log))
        follow_refused n f k = go n k (f ∙ refused)
          where
            go : (m : ℕ) → (m ≡ 0 → ⊥) → m ≡ (E.offer g.σ e).answer → (words.refused_at m (i + 1) ≡ ran_answer E.ends_in whole) × (sum ≡ E.run_count (events_of P log))
            go zero k f = absurd (k refl)
            go (suc m) k f = (ap (ran_answer E.ends_in) (rw (← f) at unfolded), omega (arith, works.free g.σ e m (sym (works.answers g.σ e) ∙ sym f), rw (← f) at counted))

        module _ (z : E.refusal (E.view w) e ≡ 0) (v : W) (f : v ≡ E.pad (E.offer (E.view w) e).state) (n : ℕ) (c : n ≡ E.count (E.view w) e) where
          taken : (E.offer g.σ e).answer ≡ 0
          taken = sym refused ∙ z

          moved : v ≡ E.pad to
          moved = f ∙ ap (λ (σ : S). E.pad (E.offer σ e).state) follow_seen

          shown : E.outcome v ≡ outcome_of (E.verdict to)
          shown = ap E.outcome moved ∙ works.shows to

          judged : (x : Verdict) → E.outcome v ≡ Some x → E.verdict to ≡ some x
          judged x k = sym (verdict_outcome (E.verdict to)) ∙ ap verdict_in (sym shown ∙ k)

          unjudged : E.outcome v ≡ None → E.verdict to ≡ none
          unjudged k = sym (verdict_outcome (E.verdict to)) ∙ ap verdict_in (sym shown ∙ k)

          counts : n ≡ E.count g.σ e
          counts = c ∙ ap (λ (σ : S). E.count σ e) follow_seen

          pub follow_violated : (x : Verdict) → E.outcome v ≡ Some x → (run_paper (Violated x) ≡ ran_answer E.ends_in (E.run (events_of P log))) × (sum + n ≡ E.run_count (events_of P log))
          follow_violated x k = (ap (ran_answer E.ends_in) (rw (taken, judged x k) at unfolded), omega (arith, counts, rw (taken, judged x k) at counted))

          pub follow_next : E.outcome v ≡ None → (size : ℕ) → size ≡ record_size P → Following E P log v (i + 1) (sum + n) (at + size) end
          follow_next k size b =
              rw b
              (record {
                σ = to;
                left = next.left;
                padded = moved;
                sound = works.keeps g.σ e g.sound;
                same = rw (taken, unjudged k) at unfolded;
                counted = omega (arith, counts, rw (taken, unjudged k) at counted);
                small = omega (arith, counts, works.few g.σ e, g.small);
                ends = next.ends;
                low = omega (arith, g.low);
                fits = g.fits;
              })
