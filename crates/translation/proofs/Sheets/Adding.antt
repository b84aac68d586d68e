-- Writing transitions with their pairs: those of the sheet, and those that are added. Assumes nothing.
use mathlib.Core.Path.{◌≡◌, refl, sym, ap, subst, ◌∙◌}
use mathlib.Core.List.{List, [], ◌∷◌, ◌++◌, append-nil}
use Prim.Native.Nat.{ℕ, zero, suc, ◌+◌, ◌-◌, ◌≤◌, ◌<◌}
use native.Mathlib.Numerals.{add-one}
use native.Mathlib.Omega.{arith}
use borrow.Author.Tests.{eq-eqb, ne_eqb}
use lib.ListN.{length, length-append}
use Rattle.sheet.specs.declared.Transition.{Transition}
use Rattle.sheet.specs.declared.Pair.{Pair}
use Rattle.sheet.specs.Parts.{Paired}
use Rattle.sheet.specs.Encode.{pair_bytes, paired_bytes, written}
use Rattle.translation.specs.declared.write.Frame.{Frame}
use Rattle.translation.specs.declared.write.Spot.{Spot}
use Rattle.translation.specs.Translate.{pairs_from, joined}
use Rattle.translation.specs.Walk.{Room, Writes, WritesAdded, triples_at, counted_pairs, base_bytes, copied_at, back_with, back_at}
use Rattle.translation.proofs.Writing.{writes_then, room_then, written_append}

-- how many pairs there are, then these
pub counted_then : {o p q : List ℕ} {at m r n : ℕ} (l : List Pair) → n ≡ length l → Writes o p at (n ∷ []) m → Writes p q m (written pair_bytes l) r → Writes o q at (counted_pairs l) r
counted_then {o} {p} {at = at} {m = m} l e v w = writes_then (length l ∷ []) (written pair_bytes l) (subst (λ (k : ℕ). Writes o p at (k ∷ []) m) e v) w

-- A transition of the sheet, with the pairs of its state and unit where it is an entry.
module _ (s : List ℕ) (f : Frame) (t v : Transition) (e : t ≡ v) where
  abbrev own : List Pair
  own = pairs_from 0 t.from t.unit (triples_at s f)

  entry_bytes : t.kind ≡ 0 → paired_bytes (copied_at s f v) ≡ base_bytes t ++ counted_pairs own
  entry_bytes h = ap (λ (x : Transition). paired_bytes (copied_at s f x)) (sym e) ∙ rw (eq-eqb t.kind 0 h)

  exit_bytes : (t.kind ≡ 0 → ⊥) → paired_bytes (copied_at s f v) ≡ base_bytes t ++ 0 ∷ []
  unfolding written
  exit_bytes h = ap (λ (x : Transition). paired_bytes (copied_at s f x)) (sym e) ∙ rw (ne_eqb t.kind 0 h)

  module _ {o p : List ℕ} {at m : ℕ} (first : Writes o p at (base_bytes t) m) where
    pub entry_room : t.kind ≡ 0 → Room at (paired_bytes (copied_at s f v)) → Room m (counted_pairs own)
    entry_room h k = room_then (base_bytes t) (counted_pairs own) first (subst (Room at) (entry_bytes h) k)

    pub entry_then : t.kind ≡ 0 → {q : List ℕ} {r : ℕ} → Writes p q m (counted_pairs own) r → Writes o q at (paired_bytes (copied_at s f v)) r
    entry_then h {q} {r} w = subst (λ (l : List ℕ). Writes o q at l r) (sym (entry_bytes h)) (writes_then (base_bytes t) (counted_pairs own) first w)

    pub exit_then : (t.kind ≡ 0 → ⊥) → {q : List ℕ} {r : ℕ} → Writes p q m (0 ∷ []) r → Writes o q at (paired_bytes (copied_at s f v)) r
    exit_then h {q} {r} w = subst (λ (l : List ℕ). Writes o q at l r) (sym (exit_bytes h)) (writes_then (base_bytes t) (0 ∷ []) first w)

-- nothing added
added_none : (o : List ℕ) (b : Spot) → WritesAdded o o b [] b
unfolding written
added_none o b = record { writes = record { all = refl; next = omega arith }; more = omega arith }

-- The transition back to a state, where there are pairs.
abbrev pub back_base : Frame → ℕ → ℕ → Transition
back_base f q u = record { from = q; kind = 0; unit = u; condition = f.condition; action = f.action; to = q }

module _ (f : Frame) (q u n : ℕ) where
  none : (l : List Pair) → n ≡ length l → n ≡ 0 → back_with f q u l ≡ []
  none [] e h = refl
  none (p ∷ l) e h = absurd (omega arith)

  back_bytes : (l : List Pair) → n ≡ length l → (n ≡ 0 → ⊥) → written paired_bytes (back_with f q u l) ≡ base_bytes (back_base f q u) ++ counted_pairs l
  unfolding written
  back_bytes [] e h = absurd (h e)
  back_bytes (p ∷ l) e h = append-nil (base_bytes (back_base f q u) ++ counted_pairs (p ∷ l))

  back_one : (l : List Pair) → n ≡ length l → (n ≡ 0 → ⊥) → length (back_with f q u l) ≡ 1
  back_one [] e h = absurd (h e)
  back_one (p ∷ l) e h = refl

  module _ (s : List ℕ) (e : n ≡ length (pairs_from 0 q u (triples_at s f))) where
    abbrev pairs : List Pair
    pairs = pairs_from 0 q u (triples_at s f)

    pub back_none : n ≡ 0 → (o : List ℕ) (b : Spot) → WritesAdded o o b (back_at s f q u) b
    back_none h o b = subst (λ (l : List Paired). WritesAdded o o b l b) (sym (none pairs e h)) (added_none o b)

    module _ (h : n ≡ 0 → ⊥) where
      pub back_room : (at : ℕ) → Room at (written paired_bytes (back_at s f q u)) → Room at (base_bytes (back_base f q u) ++ counted_pairs pairs)
      back_room at = subst (Room at) (back_bytes pairs e h)

      pub back_some : {o p x : List ℕ} (b : Spot) {m r : ℕ} → Writes o p b.at (base_bytes (back_base f q u)) m → Writes p x m (counted_pairs pairs) r
          → WritesAdded o x b (back_at s f q u) (record { at = r; added = b.added + 1 })
      back_some {o} {p} {x} b {m} {r} v w =
          record {
            writes = subst (λ (k : List ℕ). Writes o x b.at k r) (sym (back_bytes pairs e h)) (writes_then (base_bytes (back_base f q u)) (counted_pairs pairs) v w);
            more = omega (arith, back_one pairs e h);
          }

-- one list of transitions behind another
added_then : {o p q : List ℕ} (b : Spot) (x y : List Paired) (m r : Spot) → WritesAdded o p b x m → WritesAdded p q m y r → WritesAdded o q b (x ++ y) r
added_then {o} {q = q} b x y m r v w =
    record {
      writes = subst (λ (l : List ℕ). Writes o q b.at l r.at) (sym (written_append paired_bytes x y)) (writes_then (written paired_bytes x) (written paired_bytes y) v.writes w.writes);
      more = omega (arith, v.more, w.more, length-append x y);
    }

-- What is joined: that of the numbers below k is written.
pub record Adding (f : ℕ → List Paired) (n : ℕ) (o : List ℕ) (b : Spot) (out : List ℕ) (k : ℕ) (r : Spot) : Type 0 where
  pub done : WritesAdded o out b (joined k f) r
  pub few : k ≤ n

module _ (f : ℕ → List Paired) where
  -- a size of lists that adds up: the next part is within the whole
  within : (m : List Paired → ℕ) → ((x y : List Paired) → m (x ++ y) ≡ m x + m y) → (k d n : ℕ) → n ≡ k + 1 + d → m (joined k f) + m (f k) ≤ m (joined n f)
  unfolding joined
  within m sum k d zero e = absurd (omega arith)
  within m sum k zero (suc n) e =
      let h : k ≡ n = omega arith in
      subst (λ (j : ℕ). m (joined k f) + m (f k) ≤ m (joined j f ++ f j)) h (omega (arith, sum (joined k f) (f k)))
  within m sum k (suc d) (suc n) e = omega (arith, within m sum k d n (omega arith), sum (joined n f) (f n))

  module _ (n : ℕ) (o : List ℕ) (b : Spot) where
    pub adding_start : Adding f n o b o 0 b
    unfolding joined
    adding_start = record { done = added_none o b; few = omega arith }

    module _ (out : List ℕ) (k : ℕ) (r : Spot) (g : Adding f n o b out k r) where
      pub adding_end : n ≤ k → WritesAdded o out b (joined n f) r
      adding_end h =
          let e : k ≡ n = omega (arith, g.few) in
          subst (λ (m : ℕ). WritesAdded o out b (joined m f) r) e g.done

      module _ (h : k < n) where
        pub adding_room : Room b.at (written paired_bytes (joined n f)) → Room r.at (written paired_bytes (f k))
        adding_room m =
            let sum : (x y : List Paired) → length (written paired_bytes (x ++ y)) ≡ length (written paired_bytes x) + length (written paired_bytes y) = λ x y. ap length (written_append paired_bytes x y) ∙ length-append (written paired_bytes x) (written paired_bytes y) in
            omega (arith, m, within (λ l. length (written paired_bytes l)) sum k (n - (k + 1)) n (omega arith), g.done.writes.next)

        pub adding_many : b.added + length (joined n f) ≤ 1000 → r.added + length (f k) ≤ 1000
        adding_many m = omega (arith, m, within length length-append k (n - (k + 1)) n (omega arith), g.done.more)

        pub adding_next : (p : List ℕ) (v : Spot) → WritesAdded out p r (f k) v → Adding f n o b p (k + 1) v
        unfolding joined
        adding_next p v w = record { done = rw (add-one k) (added_then b (joined k f) (f k) r v g.done w); few = omega arith }
