-- Following a log in words: what is read off it in place, and the engine in words as one that runs logs. Assumes nothing.
use mathlib.Core.Path.{◌≡◌, refl, sym, ap, ◌∙◌}
use mathlib.Core.Bool.{true}
use mathlib.Core.List.{List, [], ◌∷◌, ◌++◌}
use Prim.Native.Nat.{ℕ, suc, ◌+◌, ◌-◌, ◌*◌, ◌≤◌, ◌<◌}
use native.Mathlib.Nat.{sub-zero}
use native.Mathlib.Numerals.{add-one}
use native.Mathlib.Omega.{arith}
use lib.ListN.{length, set, take, drop, replicate}
use lib.Seq.{drop-drop, sets, sets-eq}
use Rattle.sheet.specs.declared.Header.{Header}
use Rattle.sheet.specs.Bytes.{byte, word}
use Rattle.sheet.specs.Table.{records, table, fit}
use Rattle.sheet.specs.Decode.{word_form}
use Rattle.sheet.specs.Log.{Event, record_size, event_form, events_of}
use Rattle.sheet.specs.Answer.{header_of}
use Rattle.sheet.proofs.Readers.Indexing.{sets_fit}
use Rattle.sheet.proofs.Tables.{length_records, table_step}
use Rattle.sheet.proofs.Readers.Loops.{byte_here, byte_past}
use Rattle.sheet.proofs.Readers.Logs.{word_here, half_past}
use Rattle.step.specs.declared.Verdict.{Verdict}
use Rattle.std.specs.Prelude as Prelude
use Rattle.std.specs.Prelude.{Some, None}
use Rattle.step.specs.declared.RunAnswer.TheVariants.{Violated}
use Rattle.step.specs.Verdicts.{outcome_of, verdict_in}
use Rattle.step.specs.Runs.{Offered}
use Rattle.step.specs.Answers as words
use Rattle.step.specs.Answers.{run_paper, ran_answer}
use Rattle.step.proofs.OnLists.Rooms.{four, behind_fit, length_fit}
use Rattle.step.proofs.OnEvents.Following.{Engine, Works, Following, follow_refused, follow_violated, follow_next}
use Rattle.engine.specs.declared.Running.{Running}
use Rattle.engine.specs.declared.Given.{Given}
use Rattle.engine.specs.Walk.{Answered, Words, words, offer_in, event_count_in, given_of, eight_of}
use Rattle.engine.specs.Runs.{offer_by, start_in, follow_in, event_count_by, follow_count, ends_by, given_at}
use Rattle.engine.proofs.InWords.Answering.{event_few}

-- The words before the first event, from the header and the words behind it.
pub run_started : (s : List ℕ) (h : Header) → h ≡ header_of s → record { main = h.start; opened = 0; position = 0; outcome = None } ≡ (start_in s).run
unfolding start_in
run_started s h e = ap (λ (x : Header). record { main = x.start; opened = 0; position = 0; outcome = None }) e

four_taken : (l : List ℕ) → four (fit 8 0 l) ≡ take 4 (fit 8 0 l)
unfolding fit
four_taken [] = refl
four_taken (a ∷ []) = refl
four_taken (a ∷ b ∷ []) = refl
four_taken (a ∷ b ∷ c ∷ []) = refl
four_taken (a ∷ b ∷ c ∷ d ∷ l) = refl

pub variables_started : (s : List ℕ) (h : Header) → h ≡ header_of s → (w : List ℕ) → w ≡ fit 8 0 (table word_form h.monitors s 14) → four w ≡ (start_in s).variables
unfolding start_in
variables_started s h e w f = ap four f ∙ ap (λ (x : Header). four (fit 8 0 (table word_form x.monitors s 14))) e ∙ four_taken (table word_form (byte s 6) s 14)

pub started_words : (s : List ℕ) (r : Running) → r ≡ (start_in s).run → (variables : List ℕ) → variables ≡ (start_in s).variables → words r (replicate 256 0) variables ≡ start_in s
unfolding start_in
started_words s r e variables f = λ i. words (e i) (replicate 256 0) (f i)

-- The record at a place.
pub given_read : (log : List ℕ) (at P number n : ℕ) → number ≡ byte log (at + 2) * 256 + byte log (at + 3) → n ≡ P → record { kind = byte log at; unit = byte log (at + 1); number = number; count = n } ≡ given_at log at P
given_read log at P number n e g =
    let next : at + 3 ≡ at + 2 + 1 = omega arith in
    rw (e, g, next)

-- Reading n values into words, i of them read.
pub record Filling (n : ℕ) (log : List ℕ) (at : ℕ) (old values : List ℕ) (i here : ℕ) : Type 0 where
  pub all : sets values i (table word_form (n - i) log here) ≡ sets old 0 (table word_form n log at)
  pub room : here ≡ at + 4 * i
  pub few : i ≤ n

module _ (n : ℕ) (log : List ℕ) (at : ℕ) (old : List ℕ) where
  pub filling_start : Filling n log at old old 0 at
  filling_start = record { all = rw (sub-zero n); room = omega arith; few = omega arith }

  module _ (values : List ℕ) (i here : ℕ) (g : Filling n log at old values i here) where
    pub filling_next : i < n → (w : ℕ) → w ≡ word log here → Filling n log at old (set values i w) (i + 1) (here + 4)
    filling_next h w e =
        let m : n - i ≡ suc (n - (i + 1)) = omega arith in
        record {
          all = rw (add-one i, e, word_here log here) (rw (add-one i) at (rw (m, table_step word_form (n - (i + 1)) log here) at g.all));
          room = omega (arith, g.room);
          few = omega arith;
        }

    pub filling_end : n ≤ i → values ≡ sets old 0 (table word_form n log at)
    unfolding records
    filling_end h =
        let m : n - i ≡ 0 = omega arith in
        rw m at g.all

-- As many values over those before, with zeros behind them.
refit : (n : ℕ) (l m : List ℕ) → length l ≡ length m → length m ≤ n → sets (fit n 0 l) 0 m ≡ fit n 0 m
refit n l m e h = sets-eq m (fit n 0 l) 0 (omega (arith, length_fit n 0 l)) ∙ ap (λ (k : ℕ). m ++ drop k (fit n 0 l)) {x = 0 + length m} {y = length l} (omega (arith, e)) ∙ behind_fit 0 n l m e h

module _ (P : ℕ) (log : List ℕ) (at : ℕ) where
  abbrev event_at : Event
  event_at = (event_form P).value (drop at log)

  given_event : given_at log at P ≡ given_of event_at
  given_event =
      let count = length_records word_form P (drop 4 (drop at log)) in
      λ i. record { kind = byte_here log at i; unit = byte_past log at 1 i; number = half_past log at i; count = sym count i }

  eight_event : fit 8 0 (table word_form P log (at + 4)) ≡ eight_of event_at
  eight_event = ap (λ (l : List ℕ). fit 8 0 (table word_form P l 0)) (sym (drop-drop 4 at log))

-- The engine in words.
abbrev pub engine : List ℕ → List ℕ → Engine Words Words
engine s p =
    record {
      fresh = start_in s;
      refusal = λ σ e. (offer_by s p σ e).answer;
      offer = offer_by s p;
      verdict = λ σ. verdict_in σ.run.outcome;
      run = follow_in s p;
      count = event_count_by s p;
      run_count = follow_count s p;
      sound = λ σ. true;
      pad = λ σ. σ;
      view = λ σ. σ;
      outcome = λ σ. σ.run.outcome;
      ends = ends_by;
      ends_in = ends_by;
    }

outcome_shown : (o : Prelude.Option Verdict) → o ≡ outcome_of (verdict_in o)
outcome_shown None = refl
outcome_shown (Some v) = refl

pub works : (s p : List ℕ) → Works (engine s p)
unfolding follow_in follow_count event_count_in
works s p =
    record {
      starts = refl;
      keeps = λ σ e h. refl;
      answers = λ σ e. refl;
      runs = λ es. refl;
      counts = λ es. refl;
      few = λ σ e. event_few s p σ (given_of e) (eight_of e);
      free = λ σ e n h. rw h;
      seen = λ σ h. refl;
      shows = λ σ. outcome_shown σ.run.outcome;
      ending = λ σ. refl;
    }

-- What holds before each record: the run so far and what it counted, how many values and how long a record and the log are, and that values read leave zeros behind them.
pub record Held (s p : List ℕ) (P : ℕ) (log : List ℕ) (count size end : ℕ) (w : Words) (old : List ℕ) (i sum at : ℕ) : Type 0 where
  pub following : Following (engine s p) P log w i sum at end
  pub many : count ≡ P
  pub each : size ≡ record_size P
  pub whole : end ≡ length log
  pub few : count ≤ 8
  pub clear : (l : List ℕ) → length l ≡ count → sets old 0 l ≡ fit 8 0 l

pub clear_start : (n : ℕ) (l : List ℕ) → length l ≡ n → sets (replicate 8 0) 0 l ≡ fit 8 0 l
clear_start n l e = sets_fit 0 8 l

-- One event of a log: it ends the run, or the run goes on behind it.
module _ (s p : List ℕ) (P : ℕ) (log : List ℕ) (count size end : ℕ) (r : Running) (row variables old : List ℕ) (i sum at : ℕ) (g : Held s p P log count size end (words r row variables) old i sum at) (h : at < end) (given : Given) (eg : given ≡ given_at log at P) (values : List ℕ) (ev : values ≡ sets old 0 (table word_form count log (at + 4))) (next : Answered) (en : next ≡ record { answer = (offer_in s p (words r row variables) given values).answer; count = event_count_in s p (words r row variables) given values; run = (offer_in s p (words r row variables) given values).state.run }) where
  abbrev σ : Words
  σ = words r row variables

  values_read : values ≡ fit 8 0 (table word_form count log (at + 4))
  values_read = ev ∙ g.clear (table word_form count log (at + 4)) (length_records word_form count (drop (at + 4) log))

  values_there : values ≡ eight_of (event_at P log at)
  values_there = values_read ∙ ap (λ (m : ℕ). fit 8 0 (table word_form m log (at + 4))) g.many ∙ eight_event P log at

  offer_there : offer_in s p (words r row variables) given values ≡ offer_by s p (words r row variables) (event_at P log at)
  offer_there = λ j. offer_in s p σ ((eg ∙ given_event P log at) j) (values_there j)

  answer_there : next.answer ≡ (offer_by s p (words r row variables) (event_at P log at)).answer
  answer_there = ap (λ (a : Answered). a.answer) en ∙ ap (λ (o : Offered Words). o.answer) offer_there

  count_there : next.count ≡ event_count_by s p (words r row variables) (event_at P log at)
  count_there = ap (λ (a : Answered). a.count) en ∙ (λ j. event_count_in s p σ ((eg ∙ given_event P log at) j) (values_there j))

  run_there : next.run ≡ (offer_by s p (words r row variables) (event_at P log at)).state.run
  run_there = ap (λ (a : Answered). a.run) en ∙ ap (λ (o : Offered Words). o.state.run) offer_there

  pub ends_refused : (next.answer ≡ 0 → ⊥) → (words.refused_at next.answer (i + 1) ≡ ran_answer ends_by (follow_in s p (events_of P log))) × (sum ≡ follow_count s p (events_of P log))
  ends_refused k = follow_refused (works s p) P log σ i sum at end g.following h (event_at P log at) refl next.answer answer_there k

  module _ (z : next.answer ≡ 0) (m : ℕ) (em : m ≡ next.count) where
    -- as many events as a log has places, and 2^25 for each
    pub sum_fits : sum + m < 18446744073709551616
    sum_fits = omega (arith, em, count_there, event_few s p σ (given_of (event_at P log at)) (eight_of (event_at P log at)), g.following.small, g.following.low, g.following.fits)

    pub ends_violated : (x : Verdict) → next.run.outcome ≡ Some x → (run_paper (Violated x) ≡ ran_answer ends_by (follow_in s p (events_of P log))) × (sum + m ≡ follow_count s p (events_of P log))
    ends_violated x k =
        follow_violated (works s p) P log σ i sum at end g.following h (event_at P log at) refl (sym answer_there ∙ z) (offer_by s p σ (event_at P log at)).state refl m (em ∙ count_there) x (ap (λ (q : Running). q.outcome) (sym run_there) ∙ k)

    pub goes_on : next.run.outcome ≡ None → (row₁ variables₁ : List ℕ)
        → (row₁ ≡ (offer_in s p (words r row variables) given values).state.row) × (variables₁ ≡ (offer_in s p (words r row variables) given values).state.variables)
        → Held s p P log count size end (words next.run row₁ variables₁) values (i + 1) (sum + m) (at + size)
    goes_on k row₁ variables₁ (a, b) =
        let row-there = a ∙ ap (λ (o : Offered Words). o.state.row) offer_there in
        let variables-there = b ∙ ap (λ (o : Offered Words). o.state.variables) offer_there in
        let read = table word_form count log (at + 4) in
        let many = length_records word_form count (drop (at + 4) log) in
        let to : words next.run row₁ variables₁ ≡ (offer_by s p σ (event_at P log at)).state = λ j. words (run_there j) (row-there j) (variables-there j) in
        record {
          following = follow_next (works s p) P log σ i sum at end g.following h (event_at P log at) refl (sym answer_there ∙ z) (words next.run row₁ variables₁) to m (em ∙ count_there) k size g.each;
          many = g.many;
          each = g.each;
          whole = g.whole;
          few = g.few;
          clear = λ l e. ap (λ (v : List ℕ). sets v 0 l) values_read ∙ refit 8 read l (many ∙ sym e) (omega (arith, e, g.few));
        }
