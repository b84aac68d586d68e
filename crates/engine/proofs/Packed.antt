-- Calls put into a row of words and taken out of it. Assumes nothing.
use mathlib.Core.Path.{◌≡◌, refl, sym, ap, ◌∙◌}
use mathlib.Core.Bool.{Bool, true, false, not, cond, ◌&&◌}
use mathlib.Core.List.{List, [], ◌∷◌, ◌++◌, map}
use Prim.Native.Nat.{ℕ, zero, suc, ◌+◌, ◌-◌, ◌*◌, ◌%◌, ◌≤◌, ◌<◌, min}
use native.Mathlib.Nat.{add-suc, min-eq_right, mod-eq_of_lt}
use native.Mathlib.Numerals.{add-one}
use native.Mathlib.Omega.{arith}
use borrow.Author.Tests.{lt-ltb, le-ltb, ltb-true}
use lib.Dec.{ltb}
use lib.ListN.{length, get_or, set, take, drop, length-take, length-drop, length-append}
use lib.Seq.{sets, get_or-drop, get_or-take, drop-drop, take-take, take_at, sets-eq, length-sets}
use Rattle.sheet.specs.Table.{every, fit}
use Rattle.sheet.specs.Parts.{Common}
use Rattle.sheet.specs.Log.{Event}
use Rattle.sheet.proofs.Tables.{and_parts, and_both, every_append, every_weaker}
use Rattle.sheet.proofs.Tests.{and_iff}
use Rattle.step.specs.declared.Call.{Call}
use Rattle.step.specs.Calls.{is_entry}
use Rattle.step.specs.Runs.{offered}
use Rattle.step.specs.Padding.{zero_call, pad_call}
use Rattle.step.proofs.OnLists.Keeping.{every_keep}
use Rattle.step.proofs.OnLists.Rooms as Rooms
use Rattle.step.proofs.OnLists.Rooms.{map_same}
use Rattle.engine.specs.declared.pack.Arms.{Arms}
use Rattle.engine.specs.Packed.{words_of, put_at, call_in, arms_in, call_at, arms_at}
use Rattle.engine.specs.Machine.{Machine, Armed, State, arming, of_number, entered, exited, refusal, offer}
use Rattle.engine.specs.Walk.{entries, Words}
use Rattle.engine.specs.Showing.{armed_of, shown_by, Carries}
use Rattle.engine.proofs.InWords.Entries.{length_entries, take_sets, drop_sets, drop_take, entries_same, entries_more}
use Rattle.engine.proofs.InWords.Rowing.{reads, reads_all, reads_some}

-- a call's words stored one by one
module _ (row : List ℕ) (i : ℕ) (c : Call) (a : Arms) where
  abbrev at : ℕ
  at = 16 * i

  pub put_nothing : 16 ≤ i → row ≡ put_at row i c a
  unfolding put_at
  put_nothing h = rw (le-ltb i 16 h)

  pub put_there : i < 16 → (n u k x y z w : ℕ) → n ≡ c.number → u ≡ c.unit → k ≡ a.count → x ≡ get_or a.numbers 0 0 → y ≡ get_or a.numbers 1 0 → z ≡ get_or a.numbers 2 0 → w ≡ get_or a.numbers 3 0
      → length a.numbers ≡ 4 → length c.kept ≡ 8
      → set (set (set (set (set (set (set (set (set (set (set (set (set (set (set (set row (16 * i) n) (16 * i + 1) u) (16 * i + 2) k) (16 * i + 3) x) (16 * i + 4) y) (16 * i + 5) z) (16 * i + 6) w) (16 * i + 7) c.entry)
      (16 * i + 8) (get_or c.kept 0 0)) (16 * i + 9) (get_or c.kept 1 0)) (16 * i + 10) (get_or c.kept 2 0)) (16 * i + 11) (get_or c.kept 3 0)) (16 * i + 12) (get_or c.kept 4 0)) (16 * i + 13) (get_or c.kept 5 0)) (16 * i + 14) (get_or c.kept 6 0)) (16 * i + 15) (get_or c.kept 7 0)
      ≡ put_at row i c a
  unfolding put_at
  put_there h n u k x y z w en eu ek ex ey ez ew four eight =
      rw (lt-ltb i 16 h, add-suc at 14, add-suc at 13, add-suc at 12, add-suc at 11, add-suc at 10, add-suc at 9, add-suc at 8, add-suc at 7, add-suc at 6, add-suc at 5, add-suc at 4, add-suc at 3, add-suc at 2, add-suc at 1, add-one at)
      ((λ j. sets row at (en j ∷ eu j ∷ ek j ∷ ex j ∷ ey j ∷ ez j ∷ ew j ∷ c.entry ∷ reads c.kept 0 8))
      ∙ (λ j. sets row at (c.number ∷ c.unit ∷ a.count ∷ (reads_all 4 0 a.numbers four j ++ c.entry ∷ reads_all 8 0 c.kept eight j))))

-- what is taken out, by the words from its place on
word_there : (row : List ℕ) (i j : ℕ) → get_or row (16 * i + j) 0 ≡ get_or (drop (16 * i) row) j 0
word_there row i j = sym (get_or-drop (16 * i) row j 0)

module _ (row : List ℕ) (i : ℕ) where
  pub no_call_there : (P : ℕ) → 16 ≤ i → (r : Call) → r ≡ zero_call → r ≡ call_at row i P
  unfolding call_at
  no_call_there P h r e = rw (le-ltb i 16 h) e

  pub call_there : (P : ℕ) → i < 16 → (program kept : List ℕ) → program ≡ take P (take (16 * i + 16 - (16 * i + 8)) (drop (16 * i + 8) row)) → kept ≡ fit 8 0 program
      → record { number = get_or row (16 * i) 0 % 65536; unit = get_or row (16 * i + 1) 0 % 256; entry = get_or row (16 * i + 7) 0; kept = kept } ≡ call_at row i P
  unfolding call_at
  call_there P h program kept e f =
      let at = 16 * i in
      let first : get_or row at 0 ≡ get_or (drop at row) 0 0 = ap (λ (k : ℕ). get_or row k 0) {x = at} {y = at + 0} (omega arith) ∙ word_there row i 0 in
      let eight : at + 16 - (at + 8) ≡ 8 = omega arith in
      let whole : take (at + 16 - (at + 8)) (drop (at + 8) row) ≡ take 8 (drop 8 (drop at row)) = ap (λ (k : ℕ). take k (drop (at + 8) row)) eight ∙ ap (take 8) (sym (drop-drop 8 at row)) in
      let values : kept ≡ fit 8 0 (take P (take 8 (drop 8 (drop at row)))) = f ∙ ap (fit 8 0) (e ∙ ap (take P) whole) in
      rw (lt-ltb i 16 h) (λ j. record { number = first j % 65536; unit = word_there row i 1 j % 256; entry = word_there row i 7 j; kept = values j })

  pub no_arms_there : 16 ≤ i → record { count = 0; numbers = 0 ∷ 0 ∷ 0 ∷ 0 ∷ [] } ≡ arms_at row i
  unfolding arms_at
  no_arms_there h = rw (le-ltb i 16 h)

-- the first of four numbers, and zeros behind them
four_numbers : (f : ℕ → ℕ) (k n x y z w : ℕ) → n ≡ min k 4 → fit 4 0 (map f (take k (x ∷ y ∷ z ∷ w ∷ []))) ≡ cond (ltb 0 n) (f x) 0 ∷ cond (ltb 1 n) (f y) 0 ∷ cond (ltb 2 n) (f z) 0 ∷ cond (ltb 3 n) (f w) 0 ∷ []
unfolding fit
four_numbers f zero n x y z w e = rw e
four_numbers f (suc zero) n x y z w e = rw e
four_numbers f (suc (suc zero)) n x y z w e = rw e
four_numbers f (suc (suc (suc zero))) n x y z w e = rw e
four_numbers f (suc (suc (suc (suc k)))) n x y z w e =
    let all : n ≡ 4 = e ∙ min-eq_right (omega arith) in
    rw all

four_there : (l : List ℕ) → 7 ≤ length l → take 4 (drop 3 l) ≡ get_or l 3 0 ∷ get_or l 4 0 ∷ get_or l 5 0 ∷ get_or l 6 0 ∷ []
four_there l h = reads_some 4 3 l h

pub arms_there_lem : (row : List ℕ) (i : ℕ) → i < 16 → length row ≡ 256 → (n : ℕ) → n ≡ min (get_or row (16 * i + 2) 0) 4 → (x y z w : ℕ)
    → x ≡ cond (ltb 0 n) (get_or row (16 * i + 3) 0 % 256) 0 → y ≡ cond (ltb 1 n) (get_or row (16 * i + 4) 0 % 256) 0 → z ≡ cond (ltb 2 n) (get_or row (16 * i + 5) 0 % 256) 0 → w ≡ cond (ltb 3 n) (get_or row (16 * i + 6) 0 % 256) 0
    → record { count = n; numbers = x ∷ y ∷ z ∷ w ∷ [] } ≡ arms_at row i
unfolding arms_at
arms_there_lem row i h long n en x y z w ex ey ez ew =
    let m = drop (16 * i) row in
    let f : ℕ → ℕ = λ k. k % 256 in
    let there : (j : ℕ) → get_or row (16 * i + j) 0 ≡ get_or m j 0 = word_there row i in
    let count : n ≡ min (get_or m 2 0) 4 = en ∙ ap (λ (k : ℕ). min k 4) (there 2) in
    let four = four_there m (omega (arith, length-drop (16 * i) row)) in
    let many : length (take (get_or m 2 0) (take 4 (drop 3 m))) ≡ n = length-take (get_or m 2 0) (take 4 (drop 3 m)) ∙ ap (λ (l : List ℕ). min (get_or m 2 0) (length l)) four ∙ sym count in
    let shown : ℕ → ℕ → ℕ = λ k j. cond (ltb k n) (f j) 0 in
    let numbers : x ∷ y ∷ z ∷ w ∷ [] ≡ fit 4 0 (map f (take (get_or m 2 0) (take 4 (drop 3 m)))) =
    (λ j. ex j ∷ ey j ∷ ez j ∷ ew j ∷ []) ∙ (λ j. shown 0 (there 3 j) ∷ shown 1 (there 4 j) ∷ shown 2 (there 5 j) ∷ shown 3 (there 6 j) ∷ [])
    ∙ sym (four_numbers f (get_or m 2 0) n (get_or m 3 0) (get_or m 4 0) (get_or m 5 0) (get_or m 6 0) count) ∙ ap (λ (l : List ℕ). fit 4 0 (map f (take (get_or m 2 0) l))) (sym four) in
    rw (lt-ltb i 16 h) (λ j. record { count = sym many j; numbers = numbers j })

-- One more call in a row: those before it, and its words.
words_length : (c : Call) (a : Arms) → length c.kept ≡ 8 → length a.numbers ≡ 4 → length (words_of c a) ≡ 16
words_length c a eight four = omega (arith, length-append a.numbers (c.entry ∷ c.kept))

module _ (row : List ℕ) (n : ℕ) (c : Call) (a : Arms) (few : n < 16) (long : length row ≡ 256) where
  pub put_length : length (put_at row n c a) ≡ 256
  unfolding put_at
  put_length = rw (lt-ltb n 16 few) (length-sets row (16 * n) (words_of c a) ∙ long)

  pub put_more : length c.kept ≡ 8 → length a.numbers ≡ 4 → entries (n + 1) (put_at row n c a) ≡ entries n row ++ words_of c a ∷ []
  unfolding put_at
  put_more eight four =
      let at = 16 * n in
      let ws = words_of c a in
      let new = sets row at ws in
      let many = words_length c a eight four in
      let before : entries n new ≡ entries n row = entries_same n new row (take_sets at row at ws (omega arith)) in
      let front : drop at new ≡ sets (drop at row) 0 ws = ap (λ (k : ℕ). drop at (sets row k ws)) {x = at} {y = at + 0} (omega arith) ∙ drop_sets at row 0 ws in
      let own : take 16 (drop at new) ≡ ws = ap (take 16) (front ∙ sets-eq ws (drop at row) 0 (omega (arith, many, length-drop at row))) ∙ take_at ws _ 16 many in
      rw (lt-ltb n 16 few, add-one n) (entries_more n new ∙ (λ j. before j ++ own j ∷ []))

-- The calls of a row of words, taken out one by one.
abbrev first_words : List ℕ → ℕ → List ℕ
first_words row i = take 16 (drop (16 * i) row)

part_of : (k n : ℕ) (w : List ℕ) → k + n ≤ 16 → take n (drop k (take 16 w)) ≡ take n (drop k w)
part_of k n w h =
    let whole : 16 ≡ k + (n + (16 - (k + n))) = omega arith in
    ap (λ (m : ℕ). take n (drop k (take m w))) whole ∙ ap (take n) (drop_take k (n + (16 - (k + n))) w) ∙ take-take n (n + (16 - (k + n))) (drop k w) (omega arith)

module _ (row : List ℕ) (i : ℕ) (few : i < 16) where
  pub call_words_lem : (P : ℕ) → call_at row i P ≡ call_in P (take 16 (drop (16 * i) row))
  unfolding call_at
  call_words_lem P =
      let w = drop (16 * i) row in
      let word : (j : ℕ) → j < 16 → get_or w j 0 ≡ get_or (take 16 w) j 0 = λ j h. sym (get_or-take 16 w j 0 h) in
      rw (lt-ltb i 16 few) (λ j. record { number = word 0 (omega arith) j % 65536; unit = word 1 (omega arith) j % 256; entry = word 7 (omega arith) j; kept = fit 8 0 (take P (sym (part_of 8 8 w (omega arith)) j)) })

  pub arms_words : arms_at row i ≡ arms_in (take 16 (drop (16 * i) row))
  unfolding arms_at
  arms_words =
      let w = drop (16 * i) row in
      let shown : List ℕ → Arms = λ l. record { count = length l; numbers = fit 4 0 (map (λ n. n % 256) l) } in
      let count : get_or w 2 0 ≡ get_or (take 16 w) 2 0 = sym (get_or-take 16 w 2 0 (omega arith)) in
      rw (lt-ltb i 16 few) (λ j. shown (take (count j) (sym (part_of 3 4 w (omega arith)) j)))

-- What is small enough for the types that hold it.
abbrev pub narrow : Armed → Bool
narrow a = ltb a.call.number 65536 && (ltb a.call.unit 256 && every (λ i. ltb i 256) a.armed)

abbrev pub arms_for : List ℕ → Arms
arms_for l = record { count = length l; numbers = fit 4 0 l }

call_out : (P : ℕ) (w : List ℕ) → narrow (armed_of P w) ≡ true → call_in P w ≡ pad_call (armed_of P w).call
unfolding armed_of
call_out P w h =
    let (n, (u, r)) = simp and_iff at h in
    λ j. record { number = mod-eq_of_lt (ltb-true (get_or w 0 0) 65536 n) j; unit = mod-eq_of_lt (ltb-true (get_or w 1 0) 256 u) j; entry = get_or w 7 0; kept = fit 8 0 (take P (take 8 (drop 8 w))) }

arms_out : (P : ℕ) (w : List ℕ) → narrow (armed_of P w) ≡ true → arms_in w ≡ arms_for (armed_of P w).armed
unfolding armed_of
arms_out P w h =
    let (n, (u, r)) = simp and_iff at h in
    let l = take (get_or w 2 0) (take 4 (drop 3 w)) in
    λ j. record { count = length l; numbers = fit 4 0 (map_same (λ i. ltb i 256) (λ i. i % 256) (λ i k. mod-eq_of_lt (ltb-true i 256 k)) l r j) }

-- a function on the words of the calls, by what they show
all_out : {A : Type 0} (f : List ℕ → A) (g : Armed → A) (P : ℕ) → ((w : List ℕ) → narrow (armed_of P w) ≡ true → f w ≡ g (armed_of P w)) → (ws : List (List ℕ)) → every narrow (map (armed_of P) ws) ≡ true → map f ws ≡ map g (map (armed_of P) ws)
unfolding every
all_out f g P k [] h = refl
all_out {A} f g P k (w ∷ ws) h = let (a, b) = and_parts (narrow (armed_of P w)) (every narrow (map (armed_of P) ws)) h in λ j. k w a j ∷ all_out f g P k ws b j

-- The words of a state that shows another, taken out.
module _ (C : Common) (σ : Words) (τ : State) (e : shown_by C σ ≡ τ) where
  calls_shown : map (armed_of C.programs) (entries σ.run.opened σ.row) ≡ τ.calls
  unfolding shown_by
  calls_shown = ap (λ (x : State). x.calls) e

  module _ (small : every narrow τ.calls ≡ true) where
    pub calls_taken : map (call_in C.programs) (entries σ.run.opened σ.row) ≡ map (λ (a : Armed). pad_call a.call) τ.calls
    calls_taken = all_out (call_in C.programs) (λ a. pad_call a.call) C.programs (call_out C.programs) (entries σ.run.opened σ.row) (ap (every narrow) calls_shown ∙ small) ∙ ap (map (λ (a : Armed). pad_call a.call)) calls_shown

    pub arms_taken : map arms_in (entries σ.run.opened σ.row) ≡ map (λ (a : Armed). arms_for a.armed) τ.calls
    arms_taken = all_out arms_in (λ a. arms_for a.armed) C.programs (arms_out C.programs) (entries σ.run.opened σ.row) (ap (every narrow) calls_shown ∙ small) ∙ ap (map (λ (a : Armed). arms_for a.armed)) calls_shown

-- and an event keeps them small
module _ (M : Machine) (last : ℕ) (s p : List ℕ) (c : Carries M last s p) (σ : State) (e : Event) (number : e.number < 65536) (unit : e.unit < 256) where
  pub offer_narrow : every narrow σ.calls ≡ true → every narrow (offer M σ e).state.calls ≡ true
  unfolding offer entered exited every
  offer_narrow h = go (refusal M σ e) (is_entry e)
    where
      new : Armed
      new = record { call = record { number = e.number; unit = e.unit; entry = σ.position + 1; kept = e.values }; armed = arming M σ.configuration e }

      new_small : narrow new ≡ true
      new_small = and_both (lt-ltb e.number 65536 number) (and_both (lt-ltb e.unit 256 unit) (every_weaker (λ i. ltb i last) (λ i. ltb i 256) (λ i k. lt-ltb i 256 (omega (arith, ltb-true i last k, c.few_last))) (arming M σ.configuration e) (c.arms_there σ.configuration e)))

      go : (n : ℕ) (b : Bool) → every narrow (offered n σ (cond b (entered M σ e) (exited M σ e))).state.calls ≡ true
      go zero true = every_append narrow σ.calls (new ∷ []) ∙ and_both h (and_both new_small refl)
      go zero false = every_keep (λ a. not (of_number e.number a)) narrow σ.calls h
      go (suc n) b = h

-- One more of what is made of the words of each call.
pub out_more : {A : Type 0} (f : List ℕ → A) (d : A) (row : List ℕ) (i : ℕ) (l : List A) (y : A) → l ≡ fit 16 d (map f (entries i row)) → y ≡ f (take 16 (drop (16 * i) row)) → set l i y ≡ fit 16 d (map f (entries (i + 1) row))
out_more f d row i l y e h =
    let more : entries (i + 1) row ≡ entries i row ++ take 16 (drop (16 * i) row) ∷ [] = rw (add-one i) (entries_more i row) in
    Rooms.row_more f d 16 l (entries i row) (take 16 (drop (16 * i) row)) i y (sym e) (sym (length_entries i row)) h ∙ ap (λ (ws : List (List ℕ)). fit 16 d (map f ws)) (sym more)
