-- Going on from the first comes to an end for every n, and how many there are: document 02's numbers, by computation. Assumes nothing.
use mathlib.Core.Path.{◌≡◌, refl, sym, ap, subst, ◌∙◌}
use mathlib.Core.Bool.{Bool, true, false, ◌&&◌}
use Rattle.std.specs.Prelude.{Option, None as none, Some as some}
use mathlib.Core.List.{List, [], ◌∷◌, map}
use Prim.Native.Nat.{ℕ, zero, suc, ◌+◌, ◌-◌, ◌≤◌, ◌<◌}
use native.Mathlib.Omega.{arith}
use lib.Dec.{eqb, ltb}
use lib.ListN.{length, drop, replicate}
use lib.Seq.{drop_at}
use borrow.Author.Tests.{ltb-true, le-leb, eqb-true, eqb-false}
use Rattle.condition.specs.Parse.{condition_operator, value_operator}
use Rattle.bench.specs.Bench.{is_test_condition, precedes, in_range, padded, is_given, next_refusal}
use Rattle.bench.specs.Claims.{GoesOn, Answered, AnsweredEnds, Counts, numbers, Numbers, OfThreeBytes}
use Rattle.bench.specs.Walk.{one_condition, after, fits, seek, least, completed, following}
use Rattle.std.proofs.lemmas.Bool.{and_parts, and_from}
use Rattle.bench.proofs.Answering.{test_in, range_parts, zero_eight, first_found, next_is, none_is}
use Rattle.bench.proofs.Claims.{front_padded, Next, Firsts, firsts_list}

-- The conditions behind a given one, at most k; none where there are more.
abbrev fronted : List ℕ → Option (List (List ℕ)) → Option (List (List ℕ))
fronted g none = none
fronted g (some w) = some (g ∷ w)

abbrev stepped : (List ℕ → Option (List (List ℕ))) → Option (List ℕ) → Option (List (List ℕ))
stepped more none = some []
stepped more (some r) = fronted r (more r)

unfoldable walked : ℕ → List ℕ → Option (List (List ℕ))
walked zero g = none
walked (suc k) g = stepped (walked k) (following one_condition g)

abbrev walked_from : Option (List ℕ) → Option (List (List ℕ))
walked_from none = none
walked_from (some s) = fronted s (walked 640 s)

abbrev walk : ℕ → Option (List (List ℕ))
walk n = walked_from (completed n one_condition)

no_walk : {A : Type 0} {w : List (List ℕ)} → none ≡ some w → A
no_walk e = absurd (let z : ◌≡◌ {A = ℕ} 0 1 = cc in omega arith)

fronted_parts : (g : List ℕ) (o : Option (List (List ℕ))) (w : List (List ℕ)) → fronted g o ≡ some w → (v : List (List ℕ)) × ((o ≡ some v) × (w ≡ g ∷ v))
fronted_parts g none w e = no_walk e
fronted_parts g (some v) w e = (v, (refl, cc))

module _ (n : ℕ) (range : in_range n ≡ true) where
  walked_next : (k : ℕ) (g : List ℕ) (w : List (List ℕ)) → is_test_condition n g ≡ true → walked k g ≡ some w → Next n g w
  unfolding walked
  walked_next zero g w h e = no_walk e
  walked_next (suc k) g w h e = go (walked_next k) (following one_condition g) refl e
    where
      go : ((r : List ℕ) (v : List (List ℕ)) → is_test_condition n r ≡ true → walked k r ≡ some v → Next n r v)
          → (o : Option (List ℕ)) → following one_condition g ≡ o → stepped (walked k) o ≡ some w → Next n g w
      go ih none f e = let d : [] ≡ w = cc in subst (Next n g) d (none_is n range g h f)
      go ih (some r) f e =
          let (v, (a, b)) = fronted_parts r (walked k r) w e in
          let i = next_is n range g h r f in
          subst (Next n g) (sym b) (i, ih r v (and_parts (is_test_condition n r) (precedes g r) i.passes).0 a)

  walk_firsts : (w : List (List ℕ)) → walk n ≡ some w → Firsts n w
  walk_firsts w e =
      let (s, (d, f)) = first_found n range in
      let (v, (a, b)) = fronted_parts s (walked 640 s) w (sym (ap walked_from d) ∙ e) in
      subst (Firsts n) (sym b) (f, walked_next 640 s v f.passes a)

  -- What was answered can be given back.
  given_back : (s : List ℕ) → is_test_condition n s ≡ true → next_refusal n (padded s) ≡ 0
  unfolding is_given
  given_back s h =
      let d : drop n (padded s) ≡ replicate (8 - length s) 0 = drop_at s (replicate (8 - length s) 0) n (test_in n s h).0 in
      rw (range, front_padded n s h, h, d, zero_eight (8 - length s) 0)

  next_goes : (g : List ℕ) (w : List (List ℕ)) → is_test_condition n g ≡ true → Next n g w → GoesOn n (padded g) (map padded w)
  next_goes g [] h f = (given_back g h, rw (front_padded n g h) f)
  next_goes g (r ∷ w) h (i, f) =
      ((given_back g h, (r, (rw (front_padded n g h) i, refl))), next_goes r w (and_parts (is_test_condition n r) (precedes g r) i.passes).0 f)

  firsts_answered : (w : List (List ℕ)) → Firsts n w → Answered n (map padded w)
  firsts_answered [] f = absurd f
  firsts_answered (g ∷ w) (i, f) = ((rw range, (g, (i, refl))), next_goes g w i.passes f)

-- How many conditions a walk has.
abbrev length_of : Option (List (List ℕ)) → ℕ
length_of none = 0
length_of (some w) = length w

abbrev Walks : ℕ → List ℕ → Type 0
Walks n [] = Unit {0}
Walks n (k ∷ more) = (length_of (walk n) ≡ k) × Walks (suc n) more

walks : Walks 1 numbers
unfolding walked following completed least seek fits after condition_operator value_operator
walks = (refl, (refl, (refl, (refl, (refl, (refl, (refl, (refl, tt))))))))

unfoldable positive : List ℕ → Bool
positive [] = true
positive (k ∷ l) = ltb 0 k && positive l

walk_there : (o : Option (List (List ℕ))) {k : ℕ} → length_of o ≡ k → 0 < k → (w : List (List ℕ)) × ((o ≡ some w) × (length w ≡ k))
walk_there none e h = absurd (omega arith)
walk_there (some w) e h = (w, (refl, e))

-- The walks' numbers, from m on.
counts_hold_lem : (m : ℕ) (l : List ℕ) → 1 ≤ m → m + length l ≤ 9 → positive l ≡ true → Walks m l → Counts m l
unfolding positive
counts_hold_lem m [] low high h u = tt
counts_hold_lem m (k ∷ l) low high h (e, more) =
    let (a, b) = and_parts (ltb 0 k) (positive l) h in
    let (w, (f, d)) = walk_there (walk m) e (ltb-true 0 k a) in
    ((w, (firsts_list m w (walk_firsts m (and_from _ _ (le-leb 1 m low) (le-leb m 8 (omega arith))) w f), d)), counts_hold_lem (suc m) l (omega arith) (omega arith) b more)

walks_end : (m : ℕ) (l : List ℕ) → positive l ≡ true → Walks m l → (n : ℕ) → m ≤ n → n < m + length l → (w : List (List ℕ)) × (walk n ≡ some w)
unfolding positive
walks_end m [] h u n low high = absurd (omega arith)
walks_end m (k ∷ l) h (e, more) n low high = go (eqb m n) refl (walks_end (suc m) l (and_parts (ltb 0 k) (positive l) h).1 more n)
  where
    go : (t : Bool) → eqb m n ≡ t → (suc m ≤ n → n < suc m + length l → (w : List (List ℕ)) × (walk n ≡ some w)) → (w : List (List ℕ)) × (walk n ≡ some w)
    go true d ih = let (w, (f, i)) = walk_there (walk m) e (ltb-true 0 k (and_parts (ltb 0 k) (positive l) h).0) in subst (λ (j : ℕ). (w : List (List ℕ)) × (walk j ≡ some w)) (eqb-true m n d) (w, f)
    go false d ih = let z = eqb-false m n d in ih (omega arith) (omega arith)

pub numbers_hold : Numbers
unfolding positive
numbers_hold = counts_hold_lem 1 numbers (omega arith) (omega arith) refl walks

pub of_three_bytes : OfThreeBytes
unfolding walked following completed least seek fits after condition_operator value_operator
of_three_bytes = firsts_list 3 _ (walk_firsts 3 refl _ refl)

pub answered_ends : AnsweredEnds
unfolding positive
answered_ends n range =
    let (a, b) = range_parts n range in
    let (w, e) = walks_end 1 numbers refl walks n a (omega arith) in
    (map padded w, firsts_answered n range w (walk_firsts n range w e))
