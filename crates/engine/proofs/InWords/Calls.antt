-- The calls that a row shows: what is asked of them, one more, one fewer. Assumes nothing.
use mathlib.Core.Path.{◌≡◌, refl, sym, ap, ap₂, subst, ◌∙◌}
use mathlib.Core.Bool.{Bool, true, false, not, cond, ◌&&◌, false≢true}
use mathlib.Core.List.{List, [], ◌∷◌, ◌++◌, map, map-append}
use Prim.Native.Nat.{ℕ, zero, suc, ◌+◌, ◌-◌, ◌*◌, ◌≤◌, ◌<◌}
use native.Mathlib.Numerals.{add-one, sub-one}
use native.Mathlib.Omega.{arith}
use borrow.Author.Tests.{lt-ltb, ltb-true, eqb-true, eqb-false, ne_eqb}
use lib.Dec.{eqb, ltb, leb, leb-suc-suc}
use lib.ListN.{length, get_or, set, take, drop, length-map, length-drop}
use lib.Seq.{sets, take-set-le, drop-set-add}
use Rattle.sheet.specs.Log.{Event}
use Rattle.sheet.proofs.Tests.{and_iff, not_iff}
use Rattle.step.specs.Lists.{any, keep, distinct, place_of}
use Rattle.step.specs.Calls.{Call, open_number, open_for}
use Rattle.step.proofs.OnLists.Lists.{any_map}
use Rattle.step.proofs.OnLists.Keeping.{keep_map, all_stay}
use Rattle.step.proofs.OnLists.Searching.{any_place}
use Rattle.engine.specs.Machine.{Armed, of_number}
use Rattle.engine.specs.Walk.{entries, row_with, row_without}
use Rattle.engine.specs.Showing.{call_of, armed_of}
use Rattle.engine.proofs.InWords.Entries.{length_entries, word_at, take_sets, drop_sets, entries_same, entries_more, entries_close}

-- Of different numbers, one with a number that passes a test is the first with that number.
module _ {A : Type 0} (f : A → ℕ) (q : A → Bool) (n : ℕ) where
  any_absent : (l : List A) → any (eqb n) (map f l) ≡ false → any (λ x. eqb (f x) n && q x) l ≡ false
  unfolding any
  any_absent [] h = refl
  any_absent (x ∷ l) h = go (eqb n (f x)) refl h (any_absent l)
    where
      go : (b : Bool) → eqb n (f x) ≡ b → cond b true (any (eqb n) (map f l)) ≡ false → (any (eqb n) (map f l) ≡ false → any (λ x. eqb (f x) n && q x) l ≡ false)
          → cond (eqb (f x) n && q x) true (any (λ x. eqb (f x) n && q x) l) ≡ false
      go true e h k = absurd (false≢true (sym h))
      go false e h k = rw (ne_eqb (f x) n (λ s. eqb-false n (f x) e (sym s))) (k h)

  only : (b : Bool) (m : ℕ) → cond b true false ≡ (ltb 0 (suc m) && b)
  only true m = sym (rw (lt-ltb 0 (suc m) (omega arith)))
  only false m = sym (rw (lt-ltb 0 (suc m) (omega arith)))

  any_place_distinct : (d : A) (l : List A) → distinct (map f l) ≡ true → any (λ x. eqb (f x) n && q x) l ≡ (ltb (place_of (λ x. eqb (f x) n) l) (length l) && q (get_or l (place_of (λ x. eqb (f x) n) l) d))
  unfolding any place_of distinct
  any_place_distinct d [] h = refl
  any_place_distinct d (x ∷ l) h =
      let (i, j) = simp (and_iff, not_iff) at h in
      go (eqb (f x) n) refl i (any_place_distinct d l j)
    where
      go : (b : Bool) → eqb (f x) n ≡ b → any (eqb (f x)) (map f l) ≡ false
          → any (λ x. eqb (f x) n && q x) l ≡ (ltb (place_of (λ x. eqb (f x) n) l) (length l) && q (get_or l (place_of (λ x. eqb (f x) n) l) d))
          → cond (b && q x) true (any (λ x. eqb (f x) n && q x) l) ≡ (ltb (cond b 0 (suc (place_of (λ x. eqb (f x) n) l))) (suc (length l)) && q (get_or (x ∷ l) (cond b 0 (suc (place_of (λ x. eqb (f x) n) l))) d))
      go true e i k = rw (any_absent l (subst (λ m. any (eqb m) (map f l) ≡ false) (eqb-true (f x) n e) i)) (only (q x) (length l))
      go false e i k = rw (leb-suc-suc (suc (place_of (λ x. eqb (f x) n) l)) (length l)) k

-- two answers that agree where a test is passed
and_same : (b c d : Bool) → (b ≡ true → c ≡ d) → (b && c) ≡ (b && d)
and_same true c d h = h refl
and_same false c d h = refl

-- What is asked of the open calls, by the words of the first n.
module _ (programs n : ℕ) (row : List ℕ) (e : Event) (place : ℕ) (at : place ≡ place_of (λ w. eqb (get_or w 0 0) e.number) (entries n row)) where
  pub number_there : ltb place n ≡ open_number e.number (map (call_of programs) (entries n row))
  number_there = sym (any_map (λ (c : Call). eqb c.number e.number) (call_of programs) (entries n row) ∙ any_place (λ (w : List ℕ). eqb (get_or w 0 0) e.number) (entries n row) ∙ rw (length_entries n row, at))

  pub full_there : leb 16 n ≡ leb 16 (length (map (call_of programs) (entries n row)))
  full_there = sym (ap (leb 16) (length-map (entries n row) (call_of programs) ∙ length_entries n row))

  pub unit_there : distinct (map (λ (w : List ℕ). get_or w 0 0) (entries n row)) ≡ true → (ltb place n && eqb (get_or row (16 * place + 1) 0) e.unit) ≡ open_for e (map (call_of programs) (entries n row))
  unit_there d =
      let ws = entries n row in
      let same = and_same (ltb place n) (eqb (get_or (get_or ws place []) 1 0) e.unit) (eqb (get_or row (16 * place + 1) 0) e.unit) (λ h. ap (λ (k : ℕ). eqb k e.unit) (word_at n row place [] (ltb-true place n h) 1 (omega arith))) in
      let found = any_place_distinct (λ (w : List ℕ). get_or w 0 0) (λ (w : List ℕ). eqb (get_or w 1 0) e.unit) e.number [] ws d in
      let first : any (λ (w : List ℕ). eqb (get_or w 0 0) e.number && eqb (get_or w 1 0) e.unit) ws ≡ (ltb place n && eqb (get_or (get_or ws place []) 1 0) e.unit) = rw (length_entries n row, ← at) at found in
      sym (any_map (λ (c : Call). eqb c.number e.number && eqb c.unit e.unit) (call_of programs) ws ∙ first ∙ same)

-- Lists of at least sixteen, of eight and of at most four words, word by word.
cons_at : (i : ℕ) (l : List ℕ) → i < length l → drop i l ≡ get_or l i 0 ∷ drop (suc i) l
cons_at i [] h = absurd (omega arith)
cons_at zero (x ∷ l) h = refl
cons_at (suc i) (x ∷ l) h = cons_at i l (omega arith)

sixteen : (l : List ℕ) → 16 ≤ length l → l ≡ get_or l 0 0 ∷ get_or l 1 0 ∷ get_or l 2 0 ∷ get_or l 3 0 ∷ get_or l 4 0 ∷ get_or l 5 0 ∷ get_or l 6 0 ∷ get_or l 7 0 ∷ get_or l 8 0 ∷ get_or l 9 0 ∷ get_or l 10 0 ∷ get_or l 11 0 ∷ get_or l 12 0 ∷ get_or l 13 0 ∷ get_or l 14 0 ∷ get_or l 15 0 ∷ drop 16 l
sixteen l h =
    let step : (i : ℕ) → i < 16 → drop i l ≡ get_or l i 0 ∷ drop (suc i) l = λ i k. cons_at i l (omega arith) in
    step 0 (omega arith) ∙ ap (λ (m : List ℕ). get_or l 0 0 ∷ m) (step 1 (omega arith) ∙ ap (λ (m : List ℕ). get_or l 1 0 ∷ m) (step 2 (omega arith) ∙ ap (λ (m : List ℕ). get_or l 2 0 ∷ m) (step 3 (omega arith) ∙ ap (λ (m : List ℕ). get_or l 3 0 ∷ m) (step 4 (omega arith) ∙ ap (λ (m : List ℕ). get_or l 4 0 ∷ m) (step 5 (omega arith) ∙ ap (λ (m : List ℕ). get_or l 5 0 ∷ m) (step 6 (omega arith) ∙ ap (λ (m : List ℕ). get_or l 6 0 ∷ m) (step 7 (omega arith) ∙ ap (λ (m : List ℕ). get_or l 7 0 ∷ m) (step 8 (omega arith) ∙ ap (λ (m : List ℕ). get_or l 8 0 ∷ m) (step 9 (omega arith) ∙ ap (λ (m : List ℕ). get_or l 9 0 ∷ m) (step 10 (omega arith) ∙ ap (λ (m : List ℕ). get_or l 10 0 ∷ m) (step 11 (omega arith) ∙ ap (λ (m : List ℕ). get_or l 11 0 ∷ m) (step 12 (omega arith) ∙ ap (λ (m : List ℕ). get_or l 12 0 ∷ m) (step 13 (omega arith) ∙ ap (λ (m : List ℕ). get_or l 13 0 ∷ m) (step 14 (omega arith) ∙ ap (λ (m : List ℕ). get_or l 14 0 ∷ m) (step 15 (omega arith))))))))))))))))

nothing : (l : List ℕ) (i : ℕ) → length l ≤ i → drop i l ≡ []
nothing [] zero h = refl
nothing [] (suc i) h = refl
nothing (x ∷ l) zero h = absurd (omega arith)
nothing (x ∷ l) (suc i) h = nothing l i (omega arith)

eight : (l : List ℕ) → length l ≡ 8 → l ≡ get_or l 0 0 ∷ get_or l 1 0 ∷ get_or l 2 0 ∷ get_or l 3 0 ∷ get_or l 4 0 ∷ get_or l 5 0 ∷ get_or l 6 0 ∷ get_or l 7 0 ∷ []
eight l h =
    let step : (i : ℕ) → i < 8 → drop i l ≡ get_or l i 0 ∷ drop (suc i) l = λ i k. cons_at i l (omega arith) in
    step 0 (omega arith) ∙ ap (λ (m : List ℕ). get_or l 0 0 ∷ m) (step 1 (omega arith) ∙ ap (λ (m : List ℕ). get_or l 1 0 ∷ m) (step 2 (omega arith) ∙ ap (λ (m : List ℕ). get_or l 2 0 ∷ m) (step 3 (omega arith) ∙ ap (λ (m : List ℕ). get_or l 3 0 ∷ m) (step 4 (omega arith) ∙ ap (λ (m : List ℕ). get_or l 4 0 ∷ m) (step 5 (omega arith) ∙ ap (λ (m : List ℕ). get_or l 5 0 ∷ m) (step 6 (omega arith) ∙ ap (λ (m : List ℕ). get_or l 6 0 ∷ m) (step 7 (omega arith) ∙ ap (λ (m : List ℕ). get_or l 7 0 ∷ m) (nothing l 8 (omega arith)))))))))

abbrev pub new_call : ℕ → ℕ → ℕ → List ℕ → List ℕ → Armed
new_call number unit entry kept armed = record { call = record { number = number; unit = unit; entry = entry; kept = kept }; armed = armed }

-- The words of a new call show it.
new_words : (P n u q : ℕ) (a0 a1 a2 a3 a4 a5 a6 a7 a8 a9 a10 a11 a12 a13 a14 a15 : ℕ) (m : List ℕ) (v0 v1 v2 v3 v4 v5 v6 v7 : ℕ) (l : List ℕ) → length l ≤ 4
    → armed_of P (take 16 (row_with (a0 ∷ a1 ∷ a2 ∷ a3 ∷ a4 ∷ a5 ∷ a6 ∷ a7 ∷ a8 ∷ a9 ∷ a10 ∷ a11 ∷ a12 ∷ a13 ∷ a14 ∷ a15 ∷ m) 0 n u q (v0 ∷ v1 ∷ v2 ∷ v3 ∷ v4 ∷ v5 ∷ v6 ∷ v7 ∷ []) l)) ≡ new_call n u q (take P (v0 ∷ v1 ∷ v2 ∷ v3 ∷ v4 ∷ v5 ∷ v6 ∷ v7 ∷ [])) l
unfolding armed_of row_with
new_words P n u q a0 a1 a2 a3 a4 a5 a6 a7 a8 a9 a10 a11 a12 a13 a14 a15 m v0 v1 v2 v3 v4 v5 v6 v7 [] h = refl
new_words P n u q a0 a1 a2 a3 a4 a5 a6 a7 a8 a9 a10 a11 a12 a13 a14 a15 m v0 v1 v2 v3 v4 v5 v6 v7 (x ∷ []) h = refl
new_words P n u q a0 a1 a2 a3 a4 a5 a6 a7 a8 a9 a10 a11 a12 a13 a14 a15 m v0 v1 v2 v3 v4 v5 v6 v7 (x ∷ y ∷ []) h = refl
new_words P n u q a0 a1 a2 a3 a4 a5 a6 a7 a8 a9 a10 a11 a12 a13 a14 a15 m v0 v1 v2 v3 v4 v5 v6 v7 (x ∷ y ∷ z ∷ []) h = refl
new_words P n u q a0 a1 a2 a3 a4 a5 a6 a7 a8 a9 a10 a11 a12 a13 a14 a15 m v0 v1 v2 v3 v4 v5 v6 v7 (x ∷ y ∷ z ∷ w ∷ []) h = refl
new_words P n u q a0 a1 a2 a3 a4 a5 a6 a7 a8 a9 a10 a11 a12 a13 a14 a15 m v0 v1 v2 v3 v4 v5 v6 v7 (x ∷ y ∷ z ∷ w ∷ o ∷ l) h = absurd (omega arith)

new_shown : (P n u q : ℕ) (r v l : List ℕ) → 16 ≤ length r → length v ≡ 8 → length l ≤ 4 → armed_of P (take 16 (row_with r 0 n u q v l)) ≡ new_call n u q (take P v) l
new_shown P n u q r v l h k few =
    ap₂ (λ (a b : List ℕ). armed_of P (take 16 (row_with a 0 n u q b l))) (sixteen r h) (eight v k)
    ∙ new_words P n u q _ _ _ _ _ _ _ _ _ _ _ _ _ _ _ _ (drop 16 r) _ _ _ _ _ _ _ _ l few
    ∙ ap (λ (b : List ℕ). new_call n u q (take P b) l) (sym (eight v k))

-- Storing a call behind a place leaves what stands before it, and behind it is storing it at the front.
with_before : (row : List ℕ) (at n u q : ℕ) (v l : List ℕ) → take at (row_with row at n u q v l) ≡ take at row
unfolding row_with
with_before row at n u q v l =
    take-set-le at _ (at + 2) (length l) (omega arith)
    ∙ take_sets at _ (at + 3) (take 4 l) (omega arith)
    ∙ take_sets at _ (at + 7) (q ∷ v) (omega arith)
    ∙ take_sets at row at (n ∷ u ∷ []) (omega arith)

with_behind : (row : List ℕ) (at n u q : ℕ) (v l : List ℕ) → drop at (row_with row at n u q v l) ≡ row_with (drop at row) 0 n u q v l
unfolding row_with
with_behind row at n u q v l =
    let front : drop at (sets row at (n ∷ u ∷ [])) ≡ sets (drop at row) 0 (n ∷ u ∷ []) = ap (λ (i : ℕ). drop at (sets row i (n ∷ u ∷ []))) {x = at} {y = at + 0} (omega arith) ∙ drop_sets at row 0 (n ∷ u ∷ []) in
    drop-set-add at _ 2 (length l)
    ∙ ap (λ (m : List ℕ). set m 2 (length l)) (drop_sets at _ 3 (take 4 l) ∙ ap (λ (m : List ℕ). sets m 3 (take 4 l)) (drop_sets at _ 7 (q ∷ v) ∙ ap (λ (m : List ℕ). sets m 7 (q ∷ v)) front))

-- One more call.
pub calls_more : (P n : ℕ) (row : List ℕ) (number unit entry : ℕ) (v l : List ℕ) → 16 * suc n ≤ length row → length v ≡ 8 → length l ≤ 4
    → map (armed_of P) (entries (n + 1) (row_with row (16 * n) number unit entry v l)) ≡ map (armed_of P) (entries n row) ++ new_call number unit entry (take P v) l ∷ []
calls_more P n row number unit entry v l h k few =
    let new = row_with row (16 * n) number unit entry v l in
    let before : entries n new ≡ entries n row = entries_same n new row (with_before row (16 * n) number unit entry v l) in
    let room : 16 ≤ length (drop (16 * n) row) = omega (arith, length-drop (16 * n) row) in
    let own : armed_of P (take 16 (drop (16 * n) new)) ≡ new_call number unit entry (take P v) l = ap (λ (m : List ℕ). armed_of P (take 16 m)) (with_behind row (16 * n) number unit entry v l) ∙ new_shown P number unit entry (drop (16 * n) row) v l room k few in
    rw (add-one n)
    (ap (map (armed_of P)) (entries_more n new)
    ∙ map-append (armed_of P) (entries n new) (take 16 (drop (16 * n) new) ∷ [])
    ∙ ap₂ (λ (ws : List (List ℕ)) (a : Armed). map (armed_of P) ws ++ a ∷ []) before own)

-- Of different numbers all stay but the one at its place.
keep_distinct : {A : Type 0} (f : A → ℕ) (n : ℕ) (l : List A) → distinct (map f l) ≡ true
    → keep (λ a. not (eqb (f a) n)) l ≡ take (place_of (λ a. eqb (f a) n) l) l ++ drop (suc (place_of (λ a. eqb (f a) n) l)) l
unfolding keep distinct place_of
keep_distinct f n [] d = refl
keep_distinct {A} f n (x ∷ l) d =
    let (i, j) = simp (and_iff, not_iff) at d in
    go (eqb (f x) n) refl i (keep_distinct f n l j)
  where
    go : (b : Bool) → eqb (f x) n ≡ b → any (eqb (f x)) (map f l) ≡ false
        → keep (λ a. not (eqb (f a) n)) l ≡ take (place_of (λ a. eqb (f a) n) l) l ++ drop (suc (place_of (λ a. eqb (f a) n) l)) l
        → cond (not b) (x ∷ keep (λ a. not (eqb (f a) n)) l) (keep (λ a. not (eqb (f a) n)) l)
        ≡ take (cond b 0 (suc (place_of (λ a. eqb (f a) n) l))) (x ∷ l) ++ drop (suc (cond b 0 (suc (place_of (λ a. eqb (f a) n) l)))) (x ∷ l)
    go true e i h = all_stay f n l (subst (λ m. any (eqb m) (map f l) ≡ false) (eqb-true (f x) n e) i)
    go false e i h = ap (λ (r : List A). x ∷ r) h

-- One call fewer.
module _ (P number : ℕ) where
  abbrev is_of : List ℕ → Bool
  is_of w = eqb (get_or w 0 0) number

  close_suc : (n : ℕ) (row : List ℕ) (place : ℕ) → place ≡ place_of is_of (entries (suc n) row) → place < suc n → 16 * suc n ≤ length row → distinct (map (λ (w : List ℕ). get_or w 0 0) (entries (suc n) row)) ≡ true
      → map (armed_of P) (entries n (row_without row (16 * place) (suc n))) ≡ keep (λ a. not (of_number number a)) (map (armed_of P) (entries (suc n) row))
  unfolding armed_of row_without
  close_suc n row place e k h d =
      let ws = entries (suc n) row in
      let left = entries_close place n row h k ∙ ap (λ (j : ℕ). take j ws ++ drop (suc j) ws) e ∙ sym (keep_distinct (λ (w : List ℕ). get_or w 0 0) number ws d) in
      ap (map (armed_of P)) left ∙ sym (keep_map (λ a. not (of_number number a)) (armed_of P) ws)

  pub calls_fewer : (n : ℕ) (row : List ℕ) (place : ℕ) → place ≡ place_of is_of (entries n row) → place < n → 16 * n ≤ length row → distinct (map (λ (w : List ℕ). get_or w 0 0) (entries n row)) ≡ true
      → map (armed_of P) (entries (n - 1) (row_without row (16 * place) n)) ≡ keep (λ a. not (of_number number a)) (map (armed_of P) (entries n row))
  calls_fewer zero row place e k h d = absurd (omega arith)
  calls_fewer (suc n) row place e k h d = rw (sub-one (suc n)) (close_suc n row place e k h d)
