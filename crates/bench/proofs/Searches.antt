-- The searches of `search`, turn by turn. Assumes nothing.
use mathlib.Core.Path.{◌≡◌, refl, sym, ap, ◌∙◌}
use mathlib.Core.List.{List, [], ◌∷◌}
use Prim.Native.Nat.{ℕ, suc, ◌+◌, ◌-◌, ◌≤◌, ◌<◌}
use native.Mathlib.Numerals.{add-one}
use native.Mathlib.Omega.{arith}
use lib.Dec.{ltb, leb}
use lib.ListN.{length, get_or, set, take, drop, length-drop}
use lib.Seq.{sets, set-get_or, get_or-take, drop-cons, drop-length, length-take-le}
use Rattle.std.specs.Prelude.{Bool, true, false, is_some, max, Option, None, Some, option_and_then}
use Rattle.std.specs.Option.{option_or}
use Rattle.std.proofs.lemmas.Bool.{and_parts}
use borrow.Author.Tests.{ne_eqb, ltb-true, leb-true}
use Rattle.condition.specs.Parse.{no_condition, condition_operator}
use Rattle.bench.specs.declared.parts.Part.TheVariants as part
use Rattle.bench.specs.declared.parts.Part.{Part}
use Rattle.bench.specs.declared.parts.Pending.{Pending}
use Rattle.bench.specs.declared.search.Found.{Found}
use Rattle.bench.specs.Walk.{Small, split_first, onward, lowest, limit, seek, least_of, least, prefixed, completed, greater_at, following, if_some, accepts, stored, fewest, enough, orders, fits}

none_some : {v : List ℕ} → ◌≡◌ {A = Option (List ℕ)} None (Some v) → ⊥
none_some e = let z : ◌≡◌ {A = Bool} false true = ap is_some e in let y : ◌≡◌ {A = ℕ} 0 1 = cc in omega arith

-- Bytes that are no operator.
module _ (b : ℕ) where
  pub no_condition_lem : (b ≡ 0 → ⊥) → (b ≡ 1 → ⊥) → (b ≡ 2 → ⊥) → (b ≡ 3 → ⊥) → (b ≡ 4 → ⊥) → (b ≡ 5 → ⊥) → (b ≡ 6 → ⊥) → condition_operator b ≡ no_condition
  unfolding condition_operator
  no_condition_lem n0 n1 n2 n3 n4 n5 n6 = rw (ne_eqb b 0 n0, ne_eqb b 1 n1, ne_eqb b 2 n2, ne_eqb b 3 n3, ne_eqb b 4 n4, ne_eqb b 5 n5, ne_eqb b 6 n6)

-- What eight bytes can hold is small.
pub fits_small : (p : Pending) (k : ℕ) → k ≤ 8 → fits p k ≡ true → Small p
unfolding fits
fits_small p k l h =
    let (a, b) = and_parts (ltb p.order orders) (enough p k) h in
    let m = leb-true (fewest p) k (and_parts (leb (fewest p) k) _ b).0 in
    record { order = ltb-true p.order orders a; parts = omega arith }

-- The least byte.
pub seek_on : (f : ℕ → Option Pending) (h b : ℕ) → b < h → f b ≡ None → seek f (h - (b + 1)) (b + 1) ≡ seek f (h - b) b
unfolding seek
seek_on f h b l e = let d : h - b ≡ suc (h - (b + 1)) = omega arith in rw (d, add-one b, e)

-- The bytes that complete a condition.
pub completed_end : (n i : ℕ) (p : Pending) → n ≤ i → completed (n - i) p ≡ Some []
unfolding completed
completed_end n i p l = let e : n - i ≡ 0 = omega arith in rw e

module _ (out : List ℕ) (n i : ℕ) (p : Pending) (l : i < n) where
  pub completed_none : least p (n - 1 - i) 0 ≡ None → completed (n - i) p ≡ None
  unfolding completed
  completed_none e = let d : n - i ≡ suc (n - 1 - i) = omega arith in rw (d, e)

  pub completed_on : (f : Found) → least p (n - 1 - i) 0 ≡ Some f
      → stored (set out i f.byte) (i + 1) (completed (n - (i + 1)) f.pending) ≡ stored out i (completed (n - i) p)
  unfolding completed
  completed_on f e =
      let d : n - i ≡ suc (n - 1 - i) = omega arith in
      let m : n - (i + 1) ≡ n - 1 - i = omega arith in
      rw (d, e, m, add-one i) (go (completed (n - 1 - i) f.pending))
    where
      go : (o : Option (List ℕ)) → stored (set out i f.byte) (suc i) o ≡ stored out i (prefixed f.byte o)
      go None = refl
      go (Some v) = refl

-- The bytes that are left of the first n.
module _ (g : List ℕ) (n i : ℕ) (eight : length g ≡ 8) (high : n ≤ 8) (p : Pending) where
  left_on : i < n → drop i (take n g) ≡ get_or g i 0 ∷ drop (suc i) (take n g)
  left_on l = let z = length-take-le n g (omega arith) in drop-cons (take n g) i 0 (omega arith) ∙ rw (get_or-take n g i 0 l)

  left_long : i < n → length (drop (suc i) (take n g)) ≡ n - 1 - i
  left_long l = let z = length-take-le n g (omega arith) in length-drop (suc i) (take n g) ∙ omega arith

  left_end : i ≡ n → drop i (take n g) ≡ []
  left_end h = let m : i ≡ length (take n g) = (let z = length-take-le n g (omega arith) in omega arith) in ap (λ j. drop j (take n g)) m ∙ drop-length (take n g)

  pub accepts_end : i ≡ n → accepts p (drop i (take n g)) ≡ fits p 0
  unfolding accepts
  accepts_end h = ap (accepts p) (left_end h)

  pub accepts_on : i < n → accepts p (drop i (take n g)) ≡ if_some (onward p (get_or g i 0) (n - 1 - i)) (λ q. accepts q (drop (i + 1) (take n g)))
  unfolding accepts
  accepts_on l = ap (accepts p) (left_on l) ∙ rw (left_long l, add-one i)

  pub following_end : i ≡ n → following p (drop i (take n g)) ≡ None
  unfolding following
  following_end h = ap (following p) (left_end h)

  pub following_on : i < n → following p (drop i (take n g))
      ≡ option_or (option_and_then (λ q. prefixed (get_or g i 0) (following q (drop (i + 1) (take n g)))) (onward p (get_or g i 0) (n - 1 - i))) (greater_at (n - 1 - i) p (get_or g i 0))
  unfolding following
  following_on l = ap (following p) (left_on l) ∙ rw (left_long l, add-one i)

  module _ (l : i < n) {v : List ℕ} where
    stays : (o : Option (List ℕ)) → Some v ≡ stored g (i + 1) o → Some v ≡ stored g i (option_or (prefixed (get_or g i 0) o) (greater_at (n - 1 - i) p (get_or g i 0)))
    stays None e = absurd (none_some (sym e))
    stays (Some w) e = e ∙ rw (add-one i) (ap (λ x. Some (sets x (suc i) w)) (sym (set-get_or g i 0)))

    pub following_stays : (q : Pending) → onward p (get_or g i 0) (n - 1 - i) ≡ Some q → Some v ≡ stored g (i + 1) (following q (drop (i + 1) (take n g)))
        → Some v ≡ stored g i (following p (drop i (take n g)))
    following_stays q e h = rw (following_on l, e) (stays (following q (drop (i + 1) (take n g))) h)

  module _ (l : i < n) where
    rises : (q : Pending) (o : Option (List ℕ)) → None ≡ stored g (i + 1) o → option_or (prefixed (get_or g i 0) o) (greater_at (n - 1 - i) p (get_or g i 0)) ≡ greater_at (n - 1 - i) p (get_or g i 0)
    rises q None e = refl
    rises q (Some w) e = absurd (none_some e)

    pub following_rises : (q : Pending) → onward p (get_or g i 0) (n - 1 - i) ≡ Some q → None ≡ stored g (i + 1) (following q (drop (i + 1) (take n g)))
        → following p (drop i (take n g)) ≡ greater_at (n - 1 - i) p (get_or g i 0)
    following_rises q e h = rw (following_on l, e) (rises q (following q (drop (i + 1) (take n g))) h)

    pub following_lost : onward p (get_or g i 0) (n - 1 - i) ≡ None → following p (drop i (take n g)) ≡ greater_at (n - 1 - i) p (get_or g i 0)
    following_lost e = rw (following_on l, e)

-- No part begins with a byte above 254.
pub greater_none : (k : ℕ) (p : Pending) (b : ℕ) → 255 ≤ b → greater_at k p b ≡ None
unfolding least seek
greater_none k p b h = go (split_first p)
  where
    short : (kind : Part) → limit kind - max (suc b) (lowest kind) ≡ 0
    short part.Condition = omega arith
    short part.Value = omega arith
    short part.Number = omega arith

    go : (o : Option (Part × Pending)) → option_and_then (λ (f : Found). prefixed f.byte (completed k f.pending)) (least_of p k (suc b) o) ≡ None
    go None = refl
    go (Some (kind, rest)) = rw (short kind)
