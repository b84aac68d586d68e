-- What the loops that make a plan leave. Assumes nothing.
use mathlib.Core.Path.{◌≡◌, refl, sym, ap, ◌∙◌}
use mathlib.Core.Bool.{Bool, true, false, cond}
use mathlib.Core.List.{List, [], ◌∷◌}
use Prim.Native.Nat.{ℕ, zero, suc, ◌+◌, ◌-◌, ◌*◌, ◌≤◌, ◌<◌, min}
use native.Mathlib.Nat.{sub-zero}
use native.Mathlib.Numerals.{add-one, sub-one}
use native.Mathlib.Omega.{arith}
use borrow.Author.Tests.{le-leb}
use lib.Dec.{eqb, leb}
use lib.ListN.{length, get_or, set, take, drop, replicate, drop_of_length-le}
use lib.Seq.{sets, drop-cons, get_or-take, length-take-le}
use Rattle.sheet.specs.Bytes.{byte}
use Rattle.sheet.specs.Table.{starts, every, fit}
use Rattle.sheet.specs.Decode.{pair_form, triple_form}
use Rattle.sheet.specs.declared.Pair.{Pair}
use Rattle.sheet.proofs.Readers.Indexing.{sets_fit}
use Rattle.sheet.proofs.Tables.{and_parts, and_both, length_starts, fixed_start}
use Rattle.sheet.proofs.Readers.Loops.{byte_here, byte_past}
use Rattle.step.specs.Walk.{base_form}
use Rattle.engine.specs.Prepared.{text_place, linked, with_transition, pair_words, with_pairs, with_transitions, with_triple, post_words}
use Rattle.engine.proofs.Plans.Storing.{stores_three}

-- Records put into a plan from the last to the first: those from number i on are there.
pub record Linking (f : ℕ → ℕ → List ℕ → List ℕ) (l old p : List ℕ) (i : ℕ) : Type 0 where
  pub same : p ≡ linked f i (drop i l) old
  pub few : i ≤ length l

module _ (f : ℕ → ℕ → List ℕ → List ℕ) (l old : List ℕ) where
  pub linking_start : (n : ℕ) → n ≡ length l → Linking f l old old n
  unfolding linked
  linking_start n e = record { same = rw (drop_of_length-le l {i = n} (omega (arith, e))); few = omega (arith, e) }

  pub linking_end : (p : List ℕ) (i : ℕ) → Linking f l old p i → i ≤ 0 → p ≡ linked f 0 l old
  linking_end p zero g h = g.same
  linking_end p (suc i) g h = absurd (omega arith)

  pub linking_next : (p : List ℕ) (i : ℕ) → Linking f l old p i → 0 < i → (x : ℕ) → x ≡ get_or l (i - 1) 0 → (q : List ℕ) → q ≡ f (i - 1) x p → Linking f l old q (i - 1)
  unfolding linked
  linking_next p zero g z x ex q e = absurd (omega arith)
  linking_next p (suc i) g z x ex q e =
      let one = sub-one (suc i) in
      let ex' : x ≡ get_or l i 0 = rw one at ex in
      let e' : q ≡ f i x p = rw one at e in
      let within : i < length l = omega (arith, g.few) in
      rw one (record { same = rw (drop-cons l i 0 within) (e' ∙ (λ j. f i (ex' j) (g.same j))); few = omega (arith, g.few) })

-- a transition, with its pairs if it has them
unfoldable pub turn_of : List ℕ → List ℕ → List ℕ → Bool → ℕ → ℕ → List ℕ → List ℕ
turn_of s conditions actions false i at p = with_transition s conditions actions i at p
turn_of s conditions actions true i at p = with_pairs s conditions i at (with_transition s conditions actions i at p)

module _ (s conditions actions : List ℕ) where
  pub turns : (paired : Bool) (places p : List ℕ) → with_transitions paired s conditions actions places p ≡ linked (turn_of s conditions actions paired) 0 places p
  unfolding with_transitions turn_of
  turns false places p = refl
  turns true places p = refl

  module _ (paired : Bool) (i at : ℕ) (p q : List ℕ) (e : q ≡ with_transition s conditions actions i at p) where
    pub turn_alone : paired ≡ false → q ≡ turn_of s conditions actions paired i at p
    unfolding turn_of
    turn_alone h = rw h e

    pub turn_paired : paired ≡ true → (r : List ℕ) → r ≡ with_pairs s conditions i at q → r ≡ turn_of s conditions actions paired i at p
    unfolding turn_of
    turn_paired h r f = rw h (f ∙ ap (with_pairs s conditions i at) e)

  module _ (paired : Bool) (places : List ℕ) (n : ℕ) (few : n ≤ length places) (old : List ℕ) where
    pub turning_start : Linking (turn_of s conditions actions paired) (take n places) old old n
    turning_start = linking_start (turn_of s conditions actions paired) (take n places) old n (sym (length-take-le n places few))

    module _ (p : List ℕ) (i : ℕ) (g : Linking (turn_of s conditions actions paired) (take n places) old p i) where
      pub turning_end : i ≤ 0 → p ≡ with_transitions paired s conditions actions (take n places) old
      turning_end h = linking_end (turn_of s conditions actions paired) (take n places) old p i g h ∙ sym (turns paired (take n places) old)

      pub turning_few : i ≤ n
      turning_few = omega (arith, g.few, length-take-le n places few)

      pub turning_next : 0 < i → (q : List ℕ) → q ≡ turn_of s conditions actions paired (i - 1) (get_or places (i - 1) 0) p → Linking (turn_of s conditions actions paired) (take n places) old q (i - 1)
      turning_next z q e = linking_next (turn_of s conditions actions paired) (take n places) old p i g z (get_or places (i - 1) 0) (sym (get_or-take n places (i - 1) 0 (omega (arith, turning_few)))) q e

-- the triples: the last one put there stands at a place
pub record Tripling (s conditions : List ℕ) (at n : ℕ) (old p : List ℕ) (i here : ℕ) : Type 0 where
  pub linking : Linking (with_triple s conditions) (starts triple_form n s at) old p i
  pub there : here ≡ at + 4 * i

module _ (s conditions : List ℕ) (at n : ℕ) (old : List ℕ) where
  pub tripling_start : Tripling s conditions at n old old n (at + 4 * n)
  tripling_start = record { linking = linking_start (with_triple s conditions) (starts triple_form n s at) old n (sym (length_starts triple_form n s at)); there = refl }

  module _ (p : List ℕ) (i here : ℕ) (g : Tripling s conditions at n old p i here) where
    pub tripling_few : i ≤ n
    tripling_few = omega (arith, g.linking.few, length_starts triple_form n s at)

    pub tripling_end : i ≤ 0 → p ≡ linked (with_triple s conditions) 0 (starts triple_form n s at) old
    tripling_end h = linking_end (with_triple s conditions) (starts triple_form n s at) old p i g.linking h

    pub tripling_next : 0 < i → (q : List ℕ) → q ≡ with_triple s conditions (i - 1) (here - 4) p → Tripling s conditions at n old q (i - 1) (here - 4)
    tripling_next z q e =
        let start : here - 4 ≡ get_or (starts triple_form n s at) (i - 1) 0 = omega (arith, g.there, fixed_start triple_form 4 (λ t. refl) n s at (i - 1) 0 (omega (arith, tripling_few))) in
        record { linking = linking_next (with_triple s conditions) (starts triple_form n s at) old p i g.linking z (here - 4) start q e; there = omega (arith, g.there) }

-- The places of n transitions, i of them stored.
pub record Placing (paired : Bool) (n : ℕ) (s : List ℕ) (at : ℕ) (out : List ℕ) (i here : ℕ) : Type 0 where
  pub all : sets out i (starts (base_form paired) (n - i) s here) ≡ fit 96 0 (starts (base_form paired) n s at)
  pub room : here ≤ at + 517 * i
  pub few : i ≤ n
  pub small : every (λ x. leb x 1000000) out ≡ true

every_set : (p : ℕ → Bool) (l : List ℕ) (i x : ℕ) → every p l ≡ true → p x ≡ true → every p (set l i x) ≡ true
unfolding every
every_set p [] i x e h = refl
every_set p (y ∷ l) zero x e h = and_both h (and_parts (p y) (every p l) e).1
every_set p (y ∷ l) (suc i) x e h = let (a, b) = and_parts (p y) (every p l) e in and_both a (every_set p l i x b h)

module _ (paired : Bool) (n : ℕ) (s : List ℕ) (at : ℕ) (near : at < 200000) (most : n ≤ 96) where
  pub placing_start : Placing paired n s at (replicate 96 0) 0 at
  unfolding every
  placing_start = record { all = rw (sub-zero n) (sets_fit 0 96 (starts (base_form paired) n s at)); room = omega arith; few = omega arith; small = refl }

  module _ (out : List ℕ) (i here : ℕ) (g : Placing paired n s at out i here) where
    pub placing_near : here ≤ 1000000
    placing_near = omega (arith, g.room, g.few)

    pub placing_next : i < n → (k : ℕ) → k ≡ (base_form paired).size (drop here s) → k ≤ 517 → Placing paired n s at (set out i here) (i + 1) (here + k)
    unfolding starts
    placing_next h k e b =
        let m : n - i ≡ suc (n - (i + 1)) = omega arith in
        record {
          all = rw (add-one i, e) (rw (add-one i) at (rw m at g.all));
          room = omega (arith, g.room);
          few = omega arith;
          small = every_set (λ x. leb x 1000000) out i here g.small (le-leb here 1000000 placing_near);
        }

    pub placing_end : n ≤ i → (out ≡ fit 96 0 (starts (base_form paired) n s at)) × (every (λ x. leb x 1000000) out ≡ true)
    unfolding starts
    placing_end h =
        let m : n - i ≡ 0 = omega arith in
        (rw m at g.all, g.small)

-- The postconditions of n records, i of them stored.
pub record Posting (s conditions : List ℕ) (size n at : ℕ) (old p : List ℕ) (i here : ℕ) : Type 0 where
  pub same : sets p (520 + i) (post_words s conditions size (n - i) here) ≡ sets old 520 (post_words s conditions size n at)
  pub room : here ≤ at + 4 * i
  pub few : i ≤ n

module _ (s conditions : List ℕ) (size n at : ℕ) (old : List ℕ) where
  pub posting_start : Posting s conditions size n at old old 0 at
  posting_start = record { same = rw (sub-zero n); room = omega arith; few = omega arith }

  module _ (p : List ℕ) (i here : ℕ) (g : Posting s conditions size n at old p i here) where
    pub posting_end : n ≤ i → p ≡ sets old 520 (post_words s conditions size n at)
    unfolding post_words
    posting_end h =
        let m : n - i ≡ 0 = omega arith in
        rw m at g.same

    pub posting_next : i < n → size ≤ 4 → (b : ℕ) → b ≡ byte s (here + (size - 1)) → (x : ℕ) → x ≡ text_place s conditions b → Posting s conditions size n at old (set p (520 + i) x) (i + 1) (here + size)
    unfolding post_words
    posting_next h k b eb x ex =
        let m : n - i ≡ suc (n - (i + 1)) = omega arith in
        let to : 520 + (i + 1) ≡ suc (520 + i) = omega arith in
        let word : x ≡ text_place s conditions (byte s (here + (size - 1))) = ex ∙ ap (text_place s conditions) eb in
        record {
          same = (λ j. sets (set p (520 + i) (word j)) (to j) (post_words s conditions size (n - (i + 1)) (here + size))) ∙ (rw m at g.same);
          room = omega (arith, g.room);
          few = omega arith;
        }

-- The pairs of a transition, `left` of n to go.
pub record Pairing (s conditions : List ℕ) (i at n : ℕ) (old p : List ℕ) (left from to : ℕ) : Type 0 where
  pub same : sets p to (pair_words s conditions left from) ≡ sets old (1192 + 12 * i) (pair_words s conditions n (at + 7))
  pub there : to + 3 * left ≡ 1192 + 12 * i + 3 * n
  pub here : from + 2 * left ≡ at + 7 + 2 * n

module _ (s conditions : List ℕ) (i at n : ℕ) (old : List ℕ) where
  pub pairing_start : Pairing s conditions i at n old old n (at + 7) (1192 + 12 * i)
  pairing_start = record { same = refl; there = refl; here = refl }

  module _ (p : List ℕ) where
    pub pairing_end : (left from to : ℕ) → Pairing s conditions i at n old p left from to → left ≤ 0 → n ≡ min (byte s (at + 6)) 4 → (r : ℕ) → r ≡ cond (eqb n 0) 1000 (4 * i) → set p (936 + i) r ≡ with_pairs s conditions i at old
    unfolding pair_words with_pairs
    pairing_end (suc left) from to g h e r er = absurd (omega arith)
    pairing_end zero from to g h e r er =
        (λ j. set (g.same j) (936 + i) (er j)) ∙ ap (λ (m : ℕ). set (sets old (1192 + 12 * i) (pair_words s conditions m (at + 7))) (936 + i) (cond (eqb m 0) 1000 (4 * i))) e

    pub pairing_next : (left from to : ℕ) → Pairing s conditions i at n old p left from to → 0 < left → (q : Pair) → q ≡ pair_form.value (drop from s) → (x : ℕ) → x ≡ text_place s conditions q.condition → (y : ℕ) → y ≡ q.template
        → (z : ℕ) → z ≡ cond (eqb (left - 1) 0) 1000 0 → Pairing s conditions i at n old (set (set (set p to x) (to + 1) y) (to + 2) z) (left - 1) (from + 2) (to + 3)
    unfolding pair_words
    pairing_next zero from to g h q eq x ex y ey z ez = absurd (omega arith)
    pairing_next (suc left) from to g h q eq x ex y ey z ez =
        let one = sub-one (suc left) in
        let three : to + 3 ≡ suc (suc (suc to)) = omega arith in
        let first : x ≡ text_place s conditions (byte s from) = ex ∙ ap (λ (r : Pair). text_place s conditions r.condition) eq ∙ ap (text_place s conditions) (sym (byte_here s from)) in
        let second : y ≡ byte s (from + 1) = ey ∙ ap (λ (r : Pair). r.template) eq ∙ sym (byte_past s from 1) in
        let third : z ≡ cond (eqb left 0) 1000 0 = rw one at ez in
        rw one (record {
          same = (λ j. sets (stores_three p to x y z j) (three j) (pair_words s conditions left (from + 2))) ∙ (λ j. sets p to (first j ∷ second j ∷ third j ∷ pair_words s conditions left (from + 2))) ∙ g.same;
          there = omega (arith, g.there);
          here = omega (arith, g.here);
        })
