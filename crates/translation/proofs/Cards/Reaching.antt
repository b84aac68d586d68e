-- The transitions of an accepted network of version 2, as a loop meets them. Assumes nothing.
use mathlib.Core.Path.{◌≡◌, refl, sym, ap, subst, ◌∙◌}
use mathlib.Core.Bool.{Bool, true, ◌&&◌}
use mathlib.Core.List.{List, [], ◌∷◌, ◌++◌, map, map-append}
use Prim.Native.Nat.{ℕ, suc, ◌+◌, ◌-◌, ◌≤◌, ◌<◌}
use native.Mathlib.Omega.{arith}
use borrow.Author.Tests.{ltb-true, lt-ltb}
use lib.Dec.{ltb, leb}
use lib.ListN.{length, get_or, drop}
use Rattle.sheet.specs.Parts.{Paired}
use Rattle.sheet.specs.Table.{table, after, extent, records, every}
use Rattle.sheet.specs.Decode.{wide, text_form, transition_of, paired_form, conditions_in, transitions_in, conditions_at, transitions_at, last_at, common_of}
use Rattle.sheet.specs.Reading.{most_bytes, condition_in, network_layout, ranged, transition_ranged, pair_ranged, transitions_of, last_of, counts_of}
use Rattle.sheet.proofs.Tests.{and_iff, leb_iff}
use Rattle.sheet.proofs.Tables.{length_records, table_step, table_add, after_add, after_none, every_or, every_append, every_weaker, and_parts}
use Rattle.sheet.proofs.Accepted.{Accepted, accepted, bounds, condition_lengths_lem, tables_end}
use Rattle.sheet.proofs.Placed.{network_few, condition_there}
use Rattle.sheet.proofs.Limits.{most_network, network_longest}
use Rattle.translation.specs.CardWalk.{Narrow, earlier_in}
use Rattle.translation.proofs.Networks.{texts_most}

module _ {n index : List ℕ} {from : ℕ} (p : Narrow n index from) where
  pub network : Accepted network_layout n
  network = accepted network_layout n p.accepted

  pub network_short : length n ≤ 7904
  network_short = subst (λ (w : Bool). length n ≤ most_network w) p.narrow (network_longest n p.accepted)

  pub few_conditions_lem : conditions_in n ≤ 65
  unfolding common_of
  few_conditions_lem =
      let c : length (table (text_form (wide n)) (conditions_in n) n (conditions_at n)) ≤ network_layout.conditions (wide n) = (bounds network).conditions in
      let d : conditions_in n ≤ network_layout.conditions (wide n) = rw length_records at c in
      subst (λ (w : Bool). conditions_in n ≤ network_layout.conditions w) p.narrow d

  pub few_transitions : transitions_in n ≤ 96
  few_transitions = rw length_records at (bounds network).transitions

  -- no condition is longer than 64 bytes
  pub condition_most : (i : ℕ) → length (condition_in (common_of n) i) ≤ 64
  unfolding common_of
  condition_most i =
      let lengths = texts_most (wide n) 1 (most_bytes (wide n)) (conditions_in n) (drop (conditions_at n) n) (condition_lengths_lem network) in
      let narrow = subst (λ (w : Bool). every (λ t. leb (length t) (most_bytes w)) (table (text_form (wide n)) (conditions_in n) n (conditions_at n)) ≡ true) p.narrow lengths in
      simp leb_iff at (every_or (λ t. leb (length t) 64) (table (text_form (wide n)) (conditions_in n) n (conditions_at n)) i (0 ∷ []) narrow refl)

  -- a condition by its place in the index
  pub condition_is : (i k : ℕ) → k ≡ i → i < conditions_in n → (t : List ℕ) → t ≡ (text_form (wide n)).value (drop (get_or index k 0) n) → t ≡ condition_in (common_of n) i
  unfolding common_of
  condition_is i k e h t f =
      let long = length_records (text_form (wide n)) (conditions_in n) (drop (conditions_at n) n) in
      f ∙ rw (e, p.places) (condition_there network i (network_few (wide n)) (omega arith))

  -- each transition's condition is there
  one_there : (t : Paired) → network_layout.transition_ranged (common_of n) (last_of network_layout n) t ≡ true → ltb t.base.condition (conditions_in n) ≡ true
  unfolding transition_ranged common_of
  one_there t e =
      let long = length_records (text_form (wide n)) (conditions_in n) (drop (conditions_at n) n) in
      let (x, y) = and_parts (transition_ranged (counts_of (common_of n)) t.base) (every (pair_ranged (counts_of (common_of n)) (last_of network_layout n) t.base) t.pairs) e in
      let (a, (b, (c, (d, g)))) = simp (and_iff, leb_iff) at x in
      lt-ltb t.base.condition (conditions_in n) (omega (arith, d, long))

  all_there : every (λ (t : Paired). ltb t.base.condition (conditions_in n)) (table paired_form (transitions_in n) n (transitions_at n)) ≡ true
  unfolding ranged
  all_there =
      let (x, y) = and_parts (every (network_layout.transition_ranged (common_of n) (last_of network_layout n)) (transitions_of network_layout n)) (every (network_layout.last_ranged (common_of n)) (last_of network_layout n)) network.ranged in
      every_weaker (network_layout.transition_ranged (common_of n) (last_of network_layout n)) (λ (t : Paired). ltb t.base.condition (conditions_in n)) one_there (transitions_of network_layout n) x

  -- behind the last of them there are bytes still, or the end
  pub transitions_end : after paired_form (transitions_in n) n (transitions_at n) ≤ length n
  unfolding last_at
  transitions_end = omega (arith, tables_end network)

  -- The transition behind the first k.
  module _ (k place : ℕ) (h : k < transitions_in n) (e : place ≡ after paired_form k n (transitions_at n)) where
    abbrev rest : ℕ
    rest = transitions_in n - k

    split : k + rest ≡ transitions_in n
    split = omega arith

    some : rest ≡ suc (rest - 1)
    some = omega arith

    pub reached_next : place + paired_form.size (drop place n) ≡ after paired_form (k + 1) n (transitions_at n)
    unfolding extent
    reached_next = sym (after_add paired_form k 1 n (transitions_at n) ∙ rw (← e) (omega arith))

    pub reached_within : place + paired_form.size (drop place n) ≤ length n
    reached_within =
        let more : k + 1 + (rest - 1) ≡ transitions_in n = omega arith in
        let all = after_add paired_form (k + 1) (rest - 1) n (transitions_at n) in
        omega (arith, reached_next, transitions_end, ap (λ (m : ℕ). after paired_form m n (transitions_at n)) more, all)

    reached_parts : table paired_form (transitions_in n) n (transitions_at n) ≡ table paired_form k n (transitions_at n) ++ paired_form.value (drop place n) ∷ table paired_form (transitions_in n - k - 1) n (place + paired_form.size (drop place n))
    reached_parts =
        let front = table paired_form k n (transitions_at n) in
        ap (λ (m : ℕ). table paired_form m n (transitions_at n)) (sym split)
        ∙ table_add paired_form k rest n (transitions_at n)
        ∙ ap (λ (a : ℕ). front ++ table paired_form rest n a) (sym e)
        ∙ ap (λ (m : ℕ). front ++ table paired_form m n place) some
        ∙ ap (λ (l : List Paired). front ++ l) (table_step paired_form (rest - 1) n place)

    pub reached_there : (transition_of (drop place n)).condition < conditions_in n
    unfolding every
    reached_there =
        let p : Paired → Bool = λ (t : Paired). ltb t.base.condition (conditions_in n) in
        let behind = table paired_form (rest - 1) n (place + paired_form.size (drop place n)) in
        let all : (every p (table paired_form k n (transitions_at n)) && (p (paired_form.value (drop place n)) && every p behind)) ≡ true =
        sym (every_append p (table paired_form k n (transitions_at n)) (paired_form.value (drop place n) ∷ behind)) ∙ ap (every p) (sym reached_parts) ∙ all_there in
        ltb-true (transition_of (drop place n)).condition (conditions_in n) (and_parts (p (paired_form.value (drop place n))) (every p behind) (and_parts (every p (table paired_form k n (transitions_at n))) _ all).1).0

    pub earlier_next : earlier_in n (k + 1) ≡ earlier_in n k ++ transition_of (drop place n) ∷ []
    unfolding records
    earlier_next =
        let front = table paired_form k n (transitions_at n) in
        ap (map (λ (t : Paired). t.base)) (table_add paired_form k 1 n (transitions_at n) ∙ ap (λ (a : ℕ). front ++ table paired_form 1 n a) (sym e))
        ∙ map-append (λ (t : Paired). t.base) front (paired_form.value (drop place n) ∷ [])

  pub reached_start : from ≡ after paired_form 0 n (transitions_at n)
  reached_start = p.from ∙ sym (after_none paired_form n (transitions_at n))
