-- What the loops over the row of words leave. Assumes nothing.
use mathlib.Core.Path.{◌≡◌, refl, sym, ap, ◌∙◌}
use mathlib.Core.List.{List, [], ◌∷◌, ◌++◌}
use Prim.Native.Nat.{ℕ, zero, suc, ◌+◌, ◌-◌, ◌*◌, ◌≤◌, ◌<◌}
use native.Mathlib.Nat.{add-suc}
use native.Mathlib.Numerals.{add-one}
use native.Mathlib.Omega.{arith}
use borrow.Author.Tests.{eq-eqb, ne_eqb}
use lib.Dec.{eqb}
use lib.ListN.{length, get_or, set, take, drop, drop_of_length-le}
use lib.Seq.{sets, sets-eq, slice, length-slice, paste, drop-cons}
use Rattle.std.proofs.lemmas.List.{drop-take}
use Rattle.step.proofs.OnLists.Searching.{Passed, passed_none, passed_end, passed_found, passed_more}
use Rattle.engine.specs.Walk.{entries, place_in, row_without}
use Rattle.engine.proofs.InWords.Entries.{length_entries, word_at}

-- Looking for the call of a number: some calls passed, and the words of the next begin at `at`.
pub record Looking (number opened : ℕ) (row : List ℕ) (at : ℕ) : Type 0 where
  pub calls : ℕ
  pub passed : Passed (λ w. eqb (get_or w 0 0) number) (entries opened row) calls
  pub there : at ≡ 16 * calls

module _ (number opened : ℕ) (row : List ℕ) where
  pub looking_start : Looking number opened row 0
  looking_start = record { calls = 0; passed = passed_none (λ w. eqb (get_or w 0 0) number) (entries opened row); there = refl }

  module _ (at : ℕ) (g : Looking number opened row at) where
    pub looking_end : 16 * opened ≤ at → at ≡ place_in number opened row
    looking_end h = g.there ∙ ap (λ (k : ℕ). 16 * k) (passed_end (λ w. eqb (get_or w 0 0) number) (entries opened row) g.calls g.passed (omega (arith, length_entries opened row, g.there)))

    module _ (h : at < 16 * opened) where
      first : get_or (get_or (entries opened row) g.calls []) 0 0 ≡ get_or row at 0
      first = word_at opened row g.calls [] (omega (arith, g.there)) 0 (omega arith) ∙ ap (λ (k : ℕ). get_or row k 0) (omega (arith, g.there))

      within : g.calls < length (entries opened row)
      within = omega (arith, length_entries opened row, g.there)

      pub looking_found : get_or row at 0 ≡ number → at ≡ place_in number opened row
      looking_found e =
          g.there
          ∙ ap (λ (k : ℕ). 16 * k) (passed_found (λ w. eqb (get_or w 0 0) number) (entries opened row) g.calls [] g.passed within (eq-eqb (get_or (get_or (entries opened row) g.calls []) 0 0) number (first ∙ e)))

      pub looking_more : (get_or row at 0 ≡ number → ⊥) → Looking number opened row (at + 16)
      looking_more e =
          record {
            calls = g.calls + 1;
            passed = passed_more (λ w. eqb (get_or w 0 0) number) (entries opened row) g.calls [] g.passed within (rw first (ne_eqb (get_or row at 0) number e));
            there = omega (arith, g.there);
          }

-- The words behind a call moved to its place.
pub closed_up : (row : List ℕ) (place opened : ℕ) → place + 16 ≤ 16 * opened → 16 * opened ≤ length row → paste row place (drop (place + 16) row) (16 * opened - (place + 16)) ≡ row_without row place opened
unfolding row_without
closed_up row place opened h k =
    let f = place + 16 in
    let t = 16 * opened in
    let n = t - f in
    let whole : f + n ≡ t = omega arith in
    let moved : take n (drop f row) ≡ slice f t row = sym (drop-take f n row) ∙ ap (λ (m : ℕ). drop f (take m row)) whole in
    let long : length (slice f t row) ≡ n = length-slice f t row k in
    (λ i. take place row ++ moved i ++ drop (place + (sym long) i) row) ∙ sym (sets-eq (slice f t row) row place (omega (arith, long)))

-- n elements of a list from a place on, and all of them
abbrev pub reads : List ℕ → ℕ → ℕ → List ℕ
reads l i zero = []
reads l i (suc n) = get_or l i 0 ∷ reads l (suc i) n

pub reads_all : (n i : ℕ) (l : List ℕ) → length l ≡ i + n → reads l i n ≡ drop i l
reads_all zero i l h = sym (drop_of_length-le l {i = i} (omega arith))
reads_all (suc n) i l h = ap (λ (r : List ℕ). get_or l i 0 ∷ r) (reads_all n (suc i) l (omega arith)) ∙ sym (drop-cons l i 0 (omega arith))

pub reads_some : (n i : ℕ) (l : List ℕ) → i + n ≤ length l → take n (drop i l) ≡ reads l i n
reads_some zero i l h = refl
reads_some (suc n) i l h = ap (take (suc n)) (drop-cons l i 0 (omega arith)) ∙ ap (λ (r : List ℕ). get_or l i 0 ∷ r) (reads_some n (suc i) l (omega arith))

-- a call's number, unit, position of its entry and values stored one by one
pub put_there : (row : List ℕ) (at n m : ℕ) → n ≡ m → (u w : ℕ) → u ≡ w → (q : ℕ) (v : List ℕ) → length v ≡ 8
    → set (set (set (set (set (set (set (set (set (set (set row at n) (at + 1) u) (at + 7) q) (at + 8) (get_or v 0 0)) (at + 9) (get_or v 1 0)) (at + 10) (get_or v 2 0)) (at + 11) (get_or v 3 0)) (at + 12) (get_or v 4 0)) (at + 13) (get_or v 5 0)) (at + 14) (get_or v 6 0)) (at + 15) (get_or v 7 0)
    ≡ sets (sets row at (m ∷ w ∷ [])) (at + 7) (q ∷ v)
put_there row at n m e u w f q v h =
    rw (add-suc at 14, add-suc at 13, add-suc at 12, add-suc at 11, add-suc at 10, add-suc at 9, add-suc at 8, add-suc at 7, add-one at) (λ i. sets (sets row at (e i ∷ f i ∷ [])) (at + 7) (q ∷ reads v 0 8)) ∙ ap (λ (l : List ℕ). sets (sets row at (m ∷ w ∷ [])) (at + 7) (q ∷ l)) (reads_all 8 0 v h)
