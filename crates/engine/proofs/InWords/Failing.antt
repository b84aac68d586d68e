-- The lowest of the numbers armed for a call whose postcondition fails, and how much is evaluated to judge them. Assumes nothing.
use mathlib.Core.Path.{◌≡◌, refl, sym, ap, ◌∙◌}
use mathlib.Core.Bool.{Bool, true, false, not}
use mathlib.Core.List.{List, map, map-id}
use Prim.Native.Nat.{ℕ, ◌+◌, ◌-◌, min, ◌≤◌, ◌<◌}
use native.Mathlib.Omega.{arith}
use borrow.Author.Tests.{leb-true, leb-false}
use lib.Dec.{leb}
use lib.ListN.{length, get_or, take, drop, length-take, length-drop}
use lib.Seq.{get_or-take, get_or-drop, take_all, take-take}
use Rattle.condition.specs.Meaning.{Environment, environment}
use Rattle.step.specs.Lists.{keep, total}
use Rattle.step.specs.Walk.{least_of}
use Rattle.step.proofs.OnLists.Keeping.{least_end, least_here, least_not_here}
use Rattle.step.proofs.OnLists.Sums.{total_most, total_end, total_next}
use Rattle.engine.specs.Plan.{programs_in, post_of}
use Rattle.engine.specs.Walk.{holds_by, count_by, armed_at, kept_at, low_in, low_count}
use Rattle.engine.proofs.InWords.Chains.{count_few}

-- the numbers armed for the call at a place, all four
abbrev four_at : List ℕ → ℕ → List ℕ
four_at row at = take 4 (drop (at + 3) row)

abbrev fails : List ℕ → List ℕ → List ℕ → List ℕ → List ℕ → ℕ → Bool
fails s p values variables kept n = not (holds_by s (post_of p n) (environment values variables kept))

abbrev counts : List ℕ → List ℕ → List ℕ → List ℕ → List ℕ → ℕ → ℕ
counts s p values variables kept n = count_by s (post_of p n) (environment values variables kept)

-- i of `count` numbers seen, of which `low` is the least that fails; judging them counted `sum`
pub record Judging (s p row : List ℕ) (at : ℕ) (values variables kept : List ℕ) (count low sum i : ℕ) : Type 0 where
  pub same : least_of low (map (λ n. n) (keep (fails s p values variables kept) (drop i (take count (four_at row at))))) ≡ least_of 256 (map (λ n. n) (keep (fails s p values variables kept) (take count (four_at row at))))
  pub counted : sum + total (counts s p values variables kept) (drop i (take count (four_at row at))) ≡ total (counts s p values variables kept) (take count (four_at row at))

-- as many as are counted, and at most four
take_four : (b : Bool) (c : ℕ) (l : List ℕ) → leb c 4 ≡ b → take (min c 4) (take 4 l) ≡ take c (take 4 l)
take_four true c l e =
    let few : min c 4 ≡ c = omega (arith, leb-true c 4 e) in
    ap (λ (k : ℕ). take k (take 4 l)) few
take_four false c l e =
    let many : min c 4 ≡ 4 = omega (arith, leb-false c 4 e) in
    ap (λ (k : ℕ). take k (take 4 l)) many ∙ take-take 4 4 l (omega arith) ∙ sym (take_all c (take 4 l) (omega (arith, leb-false c 4 e, length-take 4 l)))

-- four conditions at most
judged_few : (f : ℕ → ℕ) (s : List ℕ) (E : Environment) (k : ℕ) (l : List ℕ) → total (λ n. count_by s (f n) E) (take k (take 4 l)) ≤ 262136
judged_few f s E k l = omega (arith, total_most (λ n. count_by s (f n) E) 65534 (λ n. count_few s (f n) E) (take k (take 4 l)), length-take k (take 4 l), length-take 4 l)

pub low_few : (s p row : List ℕ) (at : ℕ) (values variables : List ℕ) (n : ℕ) → n ≡ low_count s p row at values variables → n ≤ 262136
unfolding low_count
low_few s p row at values variables n e = omega (arith, e, judged_few (post_of p) s (environment values variables (kept_at p row at)) (get_or row (at + 2) 0) (drop (at + 3) row))

module _ (s p row : List ℕ) (at : ℕ) (values variables kept : List ℕ) (count : ℕ) where
  pub judging_start : Judging s p row at values variables kept count 256 0 0
  judging_start = record { same = refl; counted = omega arith }

  module _ (low sum i : ℕ) (g : Judging s p row at values variables kept count low sum i) where
    pub judging_end : count ≤ i → count ≡ min (get_or row (at + 2) 0) 4 → (n : ℕ) → n ≡ programs_in p → kept ≡ take n (take (at + 16 - (at + 8)) (drop (at + 8) row))
        → (low ≡ low_in s p row at values variables) × (sum ≡ low_count s p row at values variables)
    unfolding low_in low_count
    judging_end h e n en ek =
        let eight : at + 16 - (at + 8) ≡ 8 = omega arith in
        let q = fails s p values variables kept in
        let there : kept ≡ kept_at p row at = ek ∙ ap (λ (k : ℕ). take n (take k (drop (at + 8) row))) eight ∙ ap (λ (k : ℕ). take k (take 8 (drop (at + 8) row))) en in
        let armed : take count (four_at row at) ≡ armed_at row at = ap (λ (k : ℕ). take k (four_at row at)) e ∙ take_four (leb (get_or row (at + 2) 0) 4) (get_or row (at + 2) 0) (drop (at + 3) row) refl in (
          least_end (λ n. n) q (four_at row at) count low i 256 g.same count refl h ∙ ap (least_of 256) (map-id _) ∙ ap (λ (l : List ℕ). least_of 256 (keep q l)) armed ∙ ap (λ (k : List ℕ). least_of 256 (keep (fails s p values variables k) (armed_at row at))) there,
          total_end (counts s p values variables kept) (four_at row at) count sum i _ g.counted h ∙ ap (total (counts s p values variables kept)) armed ∙ ap (λ (k : List ℕ). total (counts s p values variables k) (armed_at row at)) there,
        )

    module _ (h : i < count) (few : count ≤ 4) (room : at + 16 ≤ length row) where
      here : get_or (four_at row at) i 0 ≡ get_or row (at + 3 + i) 0
      here = get_or-take 4 (drop (at + 3) row) i 0 (omega arith) ∙ get_or-drop (at + 3) row i 0

      within : i < length (four_at row at)
      within = omega (arith, length-take 4 (drop (at + 3) row), length-drop (at + 3) row)

      module _ (post : ℕ) (ep : post ≡ post_of p (get_or row (at + 3 + i) 0)) (b : Bool) (m : ℕ) (eh : (b ≡ holds_by s post (environment values variables kept)) × (m ≡ count_by s post (environment values variables kept))) where
        judged : fails s p values variables kept (get_or (four_at row at) i 0) ≡ not b
        judged = rw (here, ← ep, ← eh.0)

        added : sum + m + total (counts s p values variables kept) (drop (i + 1) (take count (four_at row at))) ≡ total (counts s p values variables kept) (take count (four_at row at))
        added =
            let c : counts s p values variables kept (get_or (four_at row at) i 0) ≡ m = rw (here, ← ep, ← eh.1) in
            rw c at (total_next (counts s p values variables kept) (four_at row at) count sum i _ g.counted 0 h within)

        -- the count stays far below 2^32
        pub judging_fits : sum + m < 4294967296
        judging_fits = omega (arith, added, judged_few (post_of p) s (environment values variables kept) count (drop (at + 3) row))

        pub judging_fails : b ≡ false → (least : ℕ) → least ≡ min low (get_or row (at + 3 + i) 0) → Judging s p row at values variables kept count least (sum + m) (i + 1)
        judging_fails f least e =
            let q = fails s p values variables kept in
            let more = least_here (λ n. n) q (four_at row at) count low i 256 g.same 0 h within (judged ∙ ap not f) in
            record { same = rw (e, ← here) more; counted = added }

        pub judging_holds : b ≡ true → Judging s p row at values variables kept count low (sum + m) (i + 1)
        judging_holds t = record { same = least_not_here (λ n. n) (fails s p values variables kept) (four_at row at) count low i 256 g.same 0 h within (judged ∙ ap not t); counted = added }
