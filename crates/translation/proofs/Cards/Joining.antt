-- One joined condition, transition by transition. Assumes nothing.
use mathlib.Core.Path.{◌≡◌, refl, sym, ap, ◌∙◌}
use mathlib.Core.Bool.{Bool, true, false, cond}
use mathlib.Core.List.{List, [], ◌∷◌, ◌++◌, map}
use Prim.Native.Nat.{ℕ, suc, ◌+◌, ◌-◌, ◌*◌, ◌≤◌, ◌<◌}
use native.Mathlib.Nat.{sub-zero}
use native.Mathlib.Omega.{arith}
use lib.ListN.{length, drop, length-append, length-map}
use Rattle.sheet.specs.declared.Transition.{Transition}
use Rattle.sheet.specs.Parts.{Common, Paired}
use Rattle.sheet.specs.Table.{table, after, records}
use Rattle.sheet.specs.Decode.{transition_of, paired_form, conditions_in, transitions_in, transitions_at, common_of}
use Rattle.sheet.specs.Reading.{condition_in}
use Rattle.sheet.proofs.Tables.{table_step, length_records}
use Rattle.translation.specs.Card.{is_of, joined_text, joined_from}
use Rattle.translation.specs.Walk.{Room, Writes}
use Rattle.translation.specs.CardWalk.{Narrow, earlier_in}
use Rattle.translation.proofs.Writing.{Writing, writing_start, writing_room, writing_next, writing_last}
use Rattle.translation.proofs.Cards.Reaching.{network_short, few_transitions, condition_most, reached_start, reached_next, reached_within, reached_there}

-- as many joined conditions as transitions
pub length_joined : (C : Common) (e l : List Transition) → length (joined_from C e l) ≡ length l
unfolding joined_from
length_joined C e [] = refl
length_joined C e (t ∷ l) = ap suc (length_joined C (e ++ t ∷ []) l)

abbrev bases_at : List ℕ → ℕ → ℕ → List Transition
bases_at n left place = map (λ (t : Paired). t.base) (table paired_form left n place)

-- All but i of the first k transitions are to be looked at, from `place` on.
pub record Joining (n : List ℕ) (k : ℕ) (t : Transition) (o : List ℕ) (at : ℕ) (out : List ℕ) (i place here : ℕ) : Type 0 where
  pub writing : Writing o at (joined_text (common_of n) t (earlier_in n k)) out here (joined_text (common_of n) t (map (λ (u : Paired). u.base) (table paired_form (k - i) n place)))
  pub few : i ≤ k
  pub reached : place ≡ after paired_form i n (transitions_at n)

module _ {n index : List ℕ} {from : ℕ} (p : Narrow n index from) (k : ℕ) (t : Transition) (o : List ℕ) (at : ℕ) where
  abbrev C : Common
  C = common_of n

  abbrev whole : List ℕ
  whole = joined_text (common_of n) t (earlier_in n k)

  pub joining_start : Joining n k t o at o 0 from at
  joining_start = record { writing = rw (sub-zero k, p.from) (writing_start o at whole); few = omega arith; reached = reached_start p }

  module _ (out : List ℕ) (i place here : ℕ) (g : Joining n k t o at out i place here) where
    -- nothing is left but its own condition
    joining_own : k ≤ i → Writing o at (joined_text (common_of n) t (earlier_in n k)) out here (condition_in (common_of n) t.condition)
    unfolding joined_text records
    joining_own h =
        let none : k - i ≡ 0 = omega arith in
        rw none at g.writing

    pub joining_room_own : k ≤ i → Room at (joined_text (common_of n) t (earlier_in n k)) → Room here (condition_in (common_of n) t.condition)
    joining_room_own h r = omega (arith, (joining_own h).place, r)

    pub joining_end : k ≤ i → (q : List ℕ) (r : ℕ) → Writes out q here (condition_in (common_of n) t.condition) r → Writes o q at (joined_text (common_of n) t (earlier_in n k)) r
    joining_end h q r w = writing_last o at whole out here (condition_in C t.condition) (joining_own h) q r w

    -- the next transition
    module _ (h : i < k) (few : k ≤ transitions_in n) where
      joining_below : i < transitions_in n
      joining_below = omega arith

      joining_within : place + paired_form.size (drop place n) ≤ length n
      joining_within = reached_within p i place joining_below g.reached

      pub joining_small : (place ≤ 100000) × (place + paired_form.size (drop place n) ≤ 100000)
      joining_small = (omega (arith, joining_within, network_short p), omega (arith, joining_within, network_short p))

      joining_reached : place + paired_form.size (drop place n) ≡ after paired_form (i + 1) n (transitions_at n)
      joining_reached = reached_next p i place joining_below g.reached

      module _ (u : Transition) (e : u ≡ transition_of (drop place n)) where
        abbrev rest : List ℕ
        rest = joined_text (common_of n) t (map (λ (v : Paired). v.base) (table paired_form (k - (i + 1)) n (place + paired_form.size (drop place n))))

        split : map (λ (v : Paired). v.base) (table paired_form (k - i) n place) ≡ u ∷ map (λ (v : Paired). v.base) (table paired_form (k - (i + 1)) n (place + paired_form.size (drop place n)))
        split =
            let some : k - i ≡ suc (k - (i + 1)) = omega arith in
            ap (λ (m : ℕ). bases_at n m place) some ∙ ap (map (λ (v : Paired). v.base)) (table_step paired_form (k - (i + 1)) n place) ∙ ap (λ (v : Transition). v ∷ bases_at n (k - (i + 1)) (place + paired_form.size (drop place n))) (sym e)

        pub joining_there : u.condition < conditions_in n
        joining_there = rw e (reached_there p i place joining_below g.reached)

        module _ (own : is_of t.from t.kind t.unit u ≡ true) where
          joining_more : Writing o at (joined_text (common_of n) t (earlier_in n k)) out here ((2 ∷ 1 ∷ []) ++ (condition_in (common_of n) u.condition ++ rest))
          unfolding joined_text
          joining_more = rw (split, own) at g.writing

          pub joining_room_two : Room at (joined_text (common_of n) t (earlier_in n k)) → Room here (2 ∷ 1 ∷ [])
          joining_room_two = writing_room o at whole out here (2 ∷ 1 ∷ []) (condition_in C u.condition ++ rest) joining_more

          module _ (q : List ℕ) (next : ℕ) (w : Writes out q here (2 ∷ 1 ∷ []) next) where
            joining_old : Writing o at (joined_text (common_of n) t (earlier_in n k)) q next (condition_in (common_of n) u.condition ++ rest)
            joining_old = writing_next o at whole out here (2 ∷ 1 ∷ []) (condition_in C u.condition ++ rest) joining_more q next w

            pub joining_room_old : Room at (joined_text (common_of n) t (earlier_in n k)) → Room next (condition_in (common_of n) u.condition)
            joining_room_old = writing_room o at whole q next (condition_in C u.condition) rest joining_old

            pub joining_next : (x : List ℕ) (r : ℕ) → Writes q x next (condition_in (common_of n) u.condition) r → Joining n k t o at x (i + 1) (place + paired_form.size (drop place n)) r
            joining_next x r v = record { writing = writing_next o at whole q next (condition_in C u.condition) rest joining_old x r v; few = omega arith; reached = joining_reached }

        pub joining_other : is_of t.from t.kind t.unit u ≡ false → Joining n k t o at out (i + 1) (place + paired_form.size (drop place n)) here
        unfolding joined_text
        joining_other other = record { writing = rw (split, other) at g.writing; few = omega arith; reached = joining_reached }

  -- how long it can be
  pub joined_most : (l : List Transition) → length (joined_text (common_of n) t l) ≤ 66 * length l + 64
  unfolding joined_text
  joined_most [] = condition_most p t.condition
  joined_most (u ∷ l) = go (is_of t.from t.kind t.unit u) (joined_most l)
    where
      go : (b : Bool) → length (joined_text (common_of n) t l) ≤ 66 * length l + 64 → length (cond b (2 ∷ 1 ∷ (condition_in (common_of n) u.condition ++ joined_text (common_of n) t l)) (joined_text (common_of n) t l)) ≤ 66 * length (u ∷ l) + 64
      go true h = omega (arith, length-append (condition_in C u.condition) (joined_text C t l), condition_most p u.condition)
      go false h = omega arith

  pub earlier_most : k ≤ transitions_in n → length (joined_text (common_of n) t (earlier_in n k)) ≤ 6400
  earlier_most h =
      let long : length (earlier_in n k) ≡ k = length-map (table paired_form k n (transitions_at n)) (λ (u : Paired). u.base) ∙ length_records paired_form k (drop (transitions_at n) n) in
      omega (arith, joined_most (earlier_in n k), long, few_transitions p)
