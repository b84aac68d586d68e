-- Candidates that stand one behind the other: their chain. Assumes nothing.
use mathlib.Core.Path.{◌≡◌, refl, sym, ap, subst, ◌∙◌}
use mathlib.Core.Bool.{Bool, cond}
use mathlib.Core.List.{List, [], ◌∷◌, map}
use Prim.Native.Nat.{ℕ, zero, suc, ◌+◌, ◌*◌, ◌≤◌, ◌<◌}
use native.Mathlib.Omega.{arith}
use borrow.Author.Tests.{ne_eqb}
use lib.Dec.{eqb}
use lib.ListN.{length, get_or, drop}
use Rattle.sheet.specs.Table.{records, table}
use Rattle.sheet.specs.Decode.{pair_form}
use Rattle.sheet.specs.declared.Pair.{Pair}
use Rattle.sheet.proofs.Tables.{length_records, table_step}
use Rattle.sheet.proofs.Readers.Loops.{byte_here, byte_past}
use Rattle.engine.specs.Plan.{absent, asked_of, number_of, behind_of}
use Rattle.engine.specs.Walk.{chain}
use Rattle.engine.specs.Prepared.{text_place, pair_words}
use Rattle.engine.proofs.Plans.Spacing.{chain_none, chain_some}

-- the words of pairs as candidates
unfoldable pub candidates : List ℕ → List ℕ → List Pair → List ℕ
candidates s conditions [] = []
candidates s conditions (q ∷ l) = text_place s conditions q.condition ∷ q.template ∷ cond (eqb (length l) 0) absent 0 ∷ candidates s conditions l

module _ (s conditions : List ℕ) where
  pub pair_words_lem : (n at : ℕ) → pair_words s conditions n at ≡ candidates s conditions (table pair_form n s at)
  unfolding pair_words candidates records
  pair_words_lem zero at = refl
  pair_words_lem (suc n) at =
      let many : n ≡ length (table pair_form n s (at + 2)) = sym (length_records pair_form n (drop (at + 2) s)) in
      (λ j. text_place s conditions (byte_here s at j) ∷ byte_past s at 1 j ∷ cond (eqb (many j) 0) absent 0 ∷ pair_words_lem n (at + 2) j)
      ∙ ap (candidates s conditions) (sym (table_step pair_form n s at))

  -- the words from the candidate of number i on are those of some pairs
  abbrev pub Candidates : List ℕ → ℕ → List Pair → Type 0
  Candidates p i l = (j k : ℕ) → k ≡ 1192 + 3 * i + j → j < length (candidates s conditions l) → get_or p k 0 ≡ get_or (candidates s conditions l) j 0

  module _ (p : List ℕ) where
    pub run_chain : (q : Pair) (l : List Pair) (i fuel : ℕ) → Candidates p i (q ∷ l) → i + length l < 384 → length l < fuel
        → (map (asked_of p) (chain (behind_of p) 384 fuel i) ≡ map (λ r. text_place s conditions r.condition) (q ∷ l)) × (map (number_of p) (chain (behind_of p) 384 fuel i) ≡ map (λ r. r.template) (q ∷ l))
    unfolding candidates
    run_chain q l i zero c h few = absurd (omega arith)
    run_chain q [] i (suc fuel) c h few =
        let asked : asked_of p i ≡ text_place s conditions q.condition = c 0 (1192 + 3 * i) (omega arith) (omega arith) in
        let number : number_of p i ≡ q.template = c 1 (1193 + 3 * i) (omega arith) (omega arith) in
        let behind : behind_of p i ≡ absent = c 2 (1194 + 3 * i) (omega arith) (omega arith) in
        let all : chain (behind_of p) 384 (suc fuel) i ≡ i ∷ [] = chain_some (behind_of p) 384 fuel i (omega arith) ∙ ap (λ (m : List ℕ). i ∷ m) (chain_none (behind_of p) 384 fuel (suc (i + behind_of p i)) (omega arith)) in
        (ap (map (asked_of p)) all ∙ (λ j. asked j ∷ []), ap (map (number_of p)) all ∙ (λ j. number j ∷ []))
    run_chain q (r ∷ l) i (suc fuel) c h few =
        let asked : asked_of p i ≡ text_place s conditions q.condition = c 0 (1192 + 3 * i) (omega arith) (omega arith) in
        let number : number_of p i ≡ q.template = c 1 (1193 + 3 * i) (omega arith) (omega arith) in
        let behind : behind_of p i ≡ 0 = c 2 (1194 + 3 * i) (omega arith) (omega arith) ∙ ap (λ (b : Bool). cond b absent 0) (ne_eqb (suc (length l)) 0 (λ e. omega arith)) in
        let next : suc (i + behind_of p i) ≡ suc i = omega arith in
        let all : chain (behind_of p) 384 (suc fuel) i ≡ i ∷ chain (behind_of p) 384 fuel (suc i) = chain_some (behind_of p) 384 fuel i (omega arith) ∙ ap (λ (m : ℕ). i ∷ chain (behind_of p) 384 fuel m) next in
        let rest = run_chain r l (suc i) fuel (λ j k e b. c (suc (suc (suc j))) k (omega arith) (omega arith)) (omega arith) (omega arith) in
        (ap (map (asked_of p)) all ∙ (λ j. asked j ∷ rest.0 j), ap (map (number_of p)) all ∙ (λ j. number j ∷ rest.1 j))

    -- from the first of at most four candidates on, or from none
    pub run_from_lem : (t : ℕ) (l : List Pair) (i : ℕ) → i ≡ cond (eqb (length l) 0) absent (4 * t) → t < 96 → length l ≤ 4 → Candidates p (4 * t) l
        → (map (asked_of p) (chain (behind_of p) 384 384 i) ≡ map (λ r. text_place s conditions r.condition) l) × (map (number_of p) (chain (behind_of p) 384 384 i) ≡ map (λ r. r.template) l)
    run_from_lem t [] i e few h c =
        let none : chain (behind_of p) 384 384 i ≡ [] = chain_none (behind_of p) 384 384 i (omega arith) in
        (ap (map (asked_of p)) none, ap (map (number_of p)) none)
    run_from_lem t (q ∷ l) i e few h c =
        let start : 4 * t ≡ i = sym (e ∙ ap (λ (b : Bool). cond b absent (4 * t)) (ne_eqb (suc (length l)) 0 (λ z. omega arith))) in
        subst
        (λ (m : ℕ). (map (asked_of p) (chain (behind_of p) 384 384 m) ≡ map (λ r. text_place s conditions r.condition) (q ∷ l)) × (map (number_of p) (chain (behind_of p) 384 384 m) ≡ map (λ r. r.template) (q ∷ l)))
        start (run_chain q l (4 * t) 384 c (omega arith) (omega arith))
