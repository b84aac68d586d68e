-- The joined conditions of a network, one behind the other. Assumes nothing.
use mathlib.Core.Path.{◌≡◌, refl, sym, ap, ap₂, ◌∙◌}
use mathlib.Core.Bool.{Bool, true, ◌&&◌}
use mathlib.Core.List.{List, [], ◌∷◌, ◌++◌, map}
use Prim.Native.Nat.{ℕ, suc, ◌+◌, ◌-◌, ◌≤◌, ◌<◌}
use native.Mathlib.Nat.{sub-zero}
use native.Mathlib.Omega.{arith}
use lib.Dec.{leb}
use lib.ListN.{length, drop}
use Rattle.sheet.specs.declared.Transition.{Transition}
use Rattle.sheet.specs.Parts.{Paired}
use Rattle.sheet.specs.Table.{table, after, records, every}
use Rattle.sheet.specs.Decode.{transition_of, paired_form, conditions_in, transitions_in, transitions_at, common_of, network_of}
use Rattle.sheet.specs.Encode.{half_bytes, text_bytes, written}
use Rattle.sheet.proofs.Tables.{table_step, and_assoc, and_true}
use Rattle.translation.specs.Card.{joined_text, joined_from, joined_conditions}
use Rattle.translation.specs.Walk.{Room, Writes}
use Rattle.translation.specs.CardWalk.{Narrow, earlier_in, joined_short}
use Rattle.translation.proofs.Writing.{Writing, writing_start, writing_room, writing_next, writing_end, writes_then, room_then}
use Rattle.translation.proofs.Cards.Reaching.{network_short, few_transitions, reached_start, reached_next, reached_within, reached_there, earlier_next}
use Rattle.translation.proofs.Cards.Joining.{earlier_most}

-- those behind the first k
abbrev left_from : List ℕ → ℕ → ℕ → List (List ℕ)
left_from n k place = joined_from (common_of n) (earlier_in n k) (map (λ (t : Paired). t.base) (table paired_form (transitions_in n - k) n place))

-- The loops stand behind the first k, at `place`: each has been tested, or is written.
pub record Testing (n : List ℕ) (ok : Bool) (k place : ℕ) : Type 0 where
  pub tested : (ok && every (λ t. leb (length t) 1024) (joined_from (common_of n) (earlier_in n k) (map (λ (t : Paired). t.base) (table paired_form (transitions_in n - k) n place)))) ≡ joined_short n
  pub reached : place ≡ after paired_form k n (transitions_at n)

pub record Listing (n o : List ℕ) (at : ℕ) (out : List ℕ) (k place here : ℕ) : Type 0 where
  pub writing : Writing o at (written (text_bytes true) (joined_conditions (network_of n))) out here (written (text_bytes true) (joined_from (common_of n) (earlier_in n k) (map (λ (t : Paired). t.base) (table paired_form (transitions_in n - k) n place))))
  pub reached : place ≡ after paired_form k n (transitions_at n)

module _ {n index : List ℕ} {from : ℕ} (p : Narrow n index from) where
  left_start : left_from n 0 from ≡ joined_conditions (network_of n)
  unfolding network_of records
  left_start = rw (sub-zero (transitions_in n), p.from) refl

  left_end : (k place : ℕ) → transitions_in n ≤ k → left_from n k place ≡ []
  unfolding joined_from records
  left_end k place h =
      let none : transitions_in n - k ≡ 0 = omega arith in
      rw none refl

  -- what is known of the next one
  module _ (k place : ℕ) (h : k < transitions_in n) (e : place ≡ after paired_form k n (transitions_at n)) where
    pub next_small : (place ≤ 100000) × (place + paired_form.size (drop place n) ≤ 100000) × (k < 96)
    next_small =
        let within = reached_within p k place h e in
        (omega (arith, network_short p), omega (arith, network_short p), omega (arith, few_transitions p))

    module _ (t : Transition) (f : t ≡ transition_of (drop place n)) where
      pub next_there : (k ≤ transitions_in n) × (t.condition < conditions_in n)
      next_there = (omega arith, rw f (reached_there p k place h e))

      left_next : left_from n k place ≡ joined_text (common_of n) t (earlier_in n k) ∷ left_from n (k + 1) (place + paired_form.size (drop place n))
      unfolding joined_from
      left_next =
          let some : transitions_in n - k ≡ suc (transitions_in n - (k + 1)) = omega arith in
          let rest = map (λ (u : Paired). u.base) (table paired_form (transitions_in n - (k + 1)) n (place + paired_form.size (drop place n))) in
          ap (λ (m : ℕ). joined_from (common_of n) (earlier_in n k) (map (λ (u : Paired). u.base) (table paired_form m n place))) some
          ∙ ap (λ (l : List Paired). joined_from (common_of n) (earlier_in n k) (map (λ (u : Paired). u.base) l)) (table_step paired_form (transitions_in n - (k + 1)) n place)
          ∙ ap₂ (λ (u : Transition) (x : List Transition). joined_text (common_of n) u (earlier_in n k) ∷ joined_from (common_of n) x rest) (sym f) (sym (earlier_next p k place h e))

      text_short : length (joined_text (common_of n) t (earlier_in n k)) ≤ 6400
      text_short = earlier_most p k t [] 0 (omega arith)

      pub testing_next : (ok : Bool) → Testing n ok k place → (r : ℕ) → r ≡ length (joined_text (common_of n) t (earlier_in n k)) → Testing n (ok && leb r 1024) (k + 1) (place + paired_form.size (drop place n))
      unfolding every
      testing_next ok g r er = record { tested = rw er (and_assoc ok _ _ ∙ rw left_next at g.tested); reached = reached_next p k place h e }

      module _ (o : List ℕ) (at : ℕ) (out : List ℕ) (here : ℕ) (g : Listing n o at out k place here) (room : Room at (written (text_bytes true) (joined_conditions (network_of n)))) (r : ℕ) (er : r ≡ length (joined_text (common_of n) t (earlier_in n k))) where
        abbrev rest : List ℕ
        rest = written (text_bytes true) (left_from n (k + 1) (place + paired_form.size (drop place n)))

        text_next : Writing o at (written (text_bytes true) (joined_conditions (network_of n))) out here ((half_bytes r ++ joined_text (common_of n) t (earlier_in n k)) ++ rest)
        unfolding written
        text_next = rw er (rw left_next at g.writing)

        text_room : Room here (half_bytes r ++ joined_text (common_of n) t (earlier_in n k))
        text_room = writing_room o at _ out here (half_bytes r ++ joined_text (common_of n) t (earlier_in n k)) rest text_next room

        pub listing_half : Room here (half_bytes r)
        listing_half = omega (arith, text_room)

        module _ (q : List ℕ) (next : ℕ) (w : Writes out q here (half_bytes r) next) where
          pub listing_room : Room next (joined_text (common_of n) t (earlier_in n k))
          listing_room = room_then (half_bytes r) (joined_text (common_of n) t (earlier_in n k)) w text_room

          pub listing_next : (x : List ℕ) (z : ℕ) → Writes q x next (joined_text (common_of n) t (earlier_in n k)) z → Listing n o at x (k + 1) (place + paired_form.size (drop place n)) z
          listing_next x z v = record { writing = writing_next o at _ out here (half_bytes r ++ joined_text (common_of n) t (earlier_in n k)) rest text_next x z (writes_then (half_bytes r) (joined_text (common_of n) t (earlier_in n k)) w v); reached = reached_next p k place h e }

  pub testing_start : Testing n true 0 from
  testing_start = record { tested = rw left_start refl; reached = reached_start p }

  pub testing_end : (ok : Bool) (k place : ℕ) → Testing n ok k place → transitions_in n ≤ k → ok ≡ joined_short n
  unfolding every
  testing_end ok k place g h = sym (and_true ok) ∙ rw (left_end k place h) at g.tested

  pub listing_start : (o : List ℕ) (at : ℕ) → Listing n o at o 0 from at
  listing_start o at = record { writing = rw left_start (writing_start o at _); reached = reached_start p }

  pub listing_end : (o : List ℕ) (at : ℕ) (out : List ℕ) (k place here : ℕ) → Listing n o at out k place here → transitions_in n ≤ k → Writes o out at (written (text_bytes true) (joined_conditions (network_of n))) here
  unfolding written
  listing_end o at out k place here g h = writing_end o at _ out here (rw (left_end k place h) at g.writing)
