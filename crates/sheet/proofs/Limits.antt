-- "The longest sheet has 6,782 bytes", and how long a network can be. Assumes nothing.
use mathlib.Core.Path.{◌≡◌, refl, subst}
use mathlib.Core.Bool.{Bool, true, false, cond}
use mathlib.Core.List.{List, [], ◌∷◌}
use Prim.Native.Nat.{ℕ, zero, suc, ◌+◌, ◌*◌, ◌≤◌, ◌<◌}
use native.Mathlib.Omega.{arith}
use native.Mathlib.Nat.{le_refl, mul-le-mul_right}
use borrow.Author.Tests.{ne_eqb}
use lib.ListN.{length, get_or, drop, length-take}
use Rattle.sheet.specs.Bytes.{byte}
use Rattle.sheet.specs.Table.{records, extent, every}
use Rattle.sheet.specs.Parts.{Network}
use Rattle.sheet.specs.Decode.{wide, word_form, lead, said, text_form, length_form, conditions_in, actions_in, transitions_in, last_in, conditions_at, actions_at, transitions_at, last_at, common_of}
use Rattle.sheet.specs.Reading.{Layout, between, most_bytes, condition_in, reading, sheet_layout, network_layout}
use Rattle.sheet.specs.Encode.{encode, admitted}
use Rattle.sheet.proofs.Tables.{length_records, fixed_extent, extent_most, same_extent}
use Rattle.sheet.proofs.Tests.{and_iff, leb_iff}
use Rattle.sheet.proofs.Encoding.{encode_wide, reading_encode}
use Rattle.sheet.proofs.Accepted.{Accepted, accepted, bounds, condition_lengths_lem, action_lengths_lem, pair_counts_lem, tables_end}

-- a text with its length
text_most : (w : Bool) (low n : ℕ) (s : List ℕ) → every (between low (most_bytes w)) (records (length_form w) n s) ≡ true → extent (text_form w) n s ≤ n * (lead w + most_bytes w)
text_most w low n s e = rw (same_extent (text_form w) (length_form w) (λ t. refl) n s) (extent_most (length_form w) (between low (most_bytes w)) (lead w + most_bytes w) (λ t h. omega (arith, simp (and_iff, leb_iff) at h)) n s e)

-- The header, the values, texts of at most 65 bytes, transitions of at most k, and the last table's records of m.
module _ {T R : Type 0} {F : Layout T R} {s : List ℕ} (a : Accepted F s) (k m : ℕ)
    (same : (t : List ℕ) → F.transition.size t ≡ F.pair_counts.size t) (sized : (t : List ℕ) → between 0 4 (F.pair_counts.value t) ≡ true → F.pair_counts.size t ≤ k) (last : (t : List ℕ) → F.last.size t ≡ m) where
  pub length_most : length s ≤ 14 + byte s 6 * 4 + conditions_in s * (lead (wide s) + most_bytes (wide s)) + actions_in s * 65 + transitions_in s * k + last_in s * m
  unfolding conditions_at actions_at transitions_at last_at
  length_most =
      let v = fixed_extent word_form 4 (λ t. refl) (byte s 6) (drop 14 s) in
      let c = text_most (wide s) 1 (conditions_in s) (drop (conditions_at s) s) (condition_lengths_lem a) in
      let t = text_most false 0 (actions_in s) (drop (actions_at s) s) (action_lengths_lem a) in
      let n = extent_most F.pair_counts (between 0 4) k sized (transitions_in s) (drop (transitions_at s) s) (pair_counts_lem a) in
      let n' = same_extent F.transition F.pair_counts same (transitions_in s) (drop (transitions_at s) s) in
      let l = fixed_extent F.last m last (last_in s) (drop (last_at F.transition s) s) in
      omega (arith, tables_end a)

  -- the counts are at most the layout's
  pub length_bound : length s ≤ 14 + 4 * 4 + F.conditions (wide s) * (lead (wide s) + most_bytes (wide s)) + F.actions * 65 + F.transitions * k + 32 * m
  unfolding common_of
  length_bound =
      let b = bounds a in
      let c : conditions_in s ≤ F.conditions (wide s) = rw length_records at b.conditions in
      let t : actions_in s ≤ F.actions = rw length_records at b.actions in
      let n : transitions_in s ≤ F.transitions = rw length_records at b.transitions in
      let l : last_in s ≤ 32 = rw length_records at b.last in
      omega (arith, length_most, b.monitors, mul-le-mul_right (lead (wide s) + most_bytes (wide s)) c, mul-le-mul_right k n, mul-le-mul_right m l)

-- The texts of accepted bytes by their numbers, the default among them, have as many bytes as a length may say.
texts_short : (w : Bool) (low n : ℕ) (s : List ℕ) → every (between low (most_bytes w)) (records (length_form w) n s) ≡ true → (d : List ℕ) → length d ≤ most_bytes w → (i : ℕ) → length (get_or (records (text_form w) n s) i d) ≤ most_bytes w
unfolding records every
texts_short w low zero s e d h i = h
texts_short w low (suc n) s e d h zero =
    let (a, b) = simp (and_iff, leb_iff) at e in
    omega (arith, a, length-take (said w s) (drop (lead w) s))
texts_short w low (suc n) s e d h (suc i) =
    let (a, b) = simp and_iff at e in
    texts_short w low n (drop (lead w + said w s) s) b d h i

module _ {T R : Type 0} {F : Layout T R} {s : List ℕ} (a : Accepted F s) (i : ℕ) where
  pub condition_short : length (condition_in (common_of s) i) ≤ most_bytes (wide s)
  unfolding common_of
  condition_short = texts_short (wide s) 1 (conditions_in s) (drop (conditions_at s) s) (condition_lengths_lem a) (0 ∷ []) (go (wide s)) i
    where
      go : (w : Bool) → 1 ≤ most_bytes w
      go true = omega arith
      go false = omega arith

  pub action_short : length (get_or (common_of s).actions i []) ≤ 64
  unfolding common_of
  action_short = texts_short false 0 (actions_in s) (drop (actions_at s) s) (action_lengths_lem a) [] (omega arith) i

-- 14 and 4 values, 64 conditions, 32 actions, 64 transitions of 6 bytes, 32 triples of 4
pub sheet_narrow : (s : List ℕ) → sheet_layout.version (byte s 2) ≡ true → wide s ≡ false
sheet_narrow s h =
    let (a, b) = simp (and_iff, leb_iff) at h in
    ne_eqb (byte s 2) 3 (λ e. omega arith)

pub sheet_longest : (s : List ℕ) → reading sheet_layout s ≡ 0 → length s ≤ 6782
sheet_longest s h =
    let a = accepted sheet_layout s h in
    rw (sheet_narrow s a.version) at (length_bound a 6 4 (λ t. refl) (λ t e. le_refl 6) (λ t. refl))

-- 14 and 4 values, 65 conditions, 33 actions, 96 transitions of 7 bytes and 4 pairs, 32 templates of 2; in version 3 161 conditions of up to 1,024
abbrev pub most_network : Bool → ℕ
most_network w = cond w 168865 7904

pub network_longest : (s : List ℕ) → reading network_layout s ≡ 0 → length s ≤ most_network (wide s)
network_longest s h = go (wide s) (length_bound (accepted network_layout s h) 15 2 (λ t. refl) (λ t e. omega (arith, simp (and_iff, leb_iff) at e)) (λ t. refl))
  where
    go : (w : Bool) → length s ≤ 14 + 4 * 4 + network_layout.conditions w * (lead w + most_bytes w) + 33 * 65 + 96 * 15 + 32 * 2 → length s ≤ most_network w
    go true h = h
    go false h = h

-- The tables begin within the bytes.
pub table_places : {T R : Type 0} {F : Layout T R} {s : List ℕ} → Accepted F s → (m : ℕ) → length s < m → (transitions_at s < m) × (last_at F.transition s < m)
unfolding last_at
table_places a m h =
    let e = tables_end a in
    (omega arith, omega arith)

pub encode_longest : (w : Bool) (N : Network) → admitted w N ≡ true → length (encode w N) ≤ most_network w
encode_longest w N h = subst (λ v. length (encode w N) ≤ most_network v) (encode_wide w N) (network_longest (encode w N) (reading_encode w N h))
