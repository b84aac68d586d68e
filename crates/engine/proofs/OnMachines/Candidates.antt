-- What an entry arms on a sheet and on a network, and how much is evaluated to find it. Assumes nothing.
use mathlib.Core.Path.{◌≡◌, refl, ap, ◌∙◌}
use mathlib.Core.Bool.{Bool, true, false, cond, ◌&&◌}
use mathlib.Core.List.{List, [], ◌∷◌, map, map-map}
use Prim.Native.Nat.{ℕ, suc, ◌+◌}
use lib.Dec.{eqb}
use Rattle.sheet.specs.declared.Triple.{Triple}
use Rattle.sheet.specs.declared.Pair.{Pair}
use Rattle.sheet.specs.Parts.{Sheet, Paired, Network}
use Rattle.sheet.specs.Log.{Event}
use Rattle.sheet.proofs.Tables.{and_assoc}
use Rattle.step.specs.Lists.{first, keep, numbers, total}
use Rattle.step.specs.Meets.{meets, meets_count}
use Rattle.step.specs.Moves.{Configuration, seen, enabled}
use Rattle.step.proofs.OnLists.Keeping.{keep_map}
use Rattle.step.proofs.OnLists.Sums.{total_map}
use Rattle.engine.specs.Machine.{Candidate, arming, asked_count}
use Rattle.engine.specs.Machines.{triples_from, of_sheet, pairs_of, of_network}

-- Of the triples that pass a test: the numbers of those whose precondition passes another, and a sum over their preconditions.
module _ (p : Triple → Bool) where
  triples_kept : (q : ℕ → Bool) (i : ℕ) (l : List Triple) → map (λ (c : Candidate). c.number) (keep (λ (c : Candidate). q c.condition) (triples_from p i l)) ≡ numbers (λ (t : Triple). p t && q t.precondition) i l
  unfolding triples_from keep numbers
  triples_kept q i [] = refl
  triples_kept q i (t ∷ l) = go (p t) (q t.precondition) refl (triples_kept q (suc i) l)
    where
      new : Candidate
      new = record { condition = t.precondition; number = i }

      more : List ℕ
      more = numbers (λ (t : Triple). p t && q t.precondition) (suc i) l

      go : (b c : Bool) → q t.precondition ≡ c → map (λ (c : Candidate). c.number) (keep (λ (c : Candidate). q c.condition) (triples_from p (suc i) l)) ≡ more
          → map (λ (c : Candidate). c.number) (keep (λ (c : Candidate). q c.condition) (cond b (new ∷ triples_from p (suc i) l) (triples_from p (suc i) l))) ≡ cond (b && q t.precondition) (i ∷ more) more
      go true true e h = rw e (ap (λ (m : List ℕ). i ∷ m) h)
      go true false e h = rw e h
      go false c e h = h

  triples_total : (f : ℕ → ℕ) (i : ℕ) (l : List Triple) → total (λ (c : Candidate). f c.condition) (triples_from p i l) ≡ total (λ (t : Triple). f t.precondition) (keep p l)
  unfolding triples_from keep total
  triples_total f i [] = refl
  triples_total f i (t ∷ l) = go (p t) (triples_total f (suc i) l)
    where
      new : Candidate
      new = record { condition = t.precondition; number = i }

      go : (b : Bool) → total (λ (c : Candidate). f c.condition) (triples_from p (suc i) l) ≡ total (λ (t : Triple). f t.precondition) (keep p l)
          → total (λ (c : Candidate). f c.condition) (cond b (new ∷ triples_from p (suc i) l) (triples_from p (suc i) l)) ≡ total (λ (t : Triple). f t.precondition) (cond b (t ∷ keep p l) (keep p l))
      go true h = ap (λ (n : ℕ). f t.precondition + n) h
      go false h = h

module _ (S : Sheet) (k : Configuration) (e : Event) where
  pub sheet_arming : arming (of_sheet S) k e ≡ numbers (λ (t : Triple). eqb t.state k.main && (eqb t.unit e.unit && meets S.common t.precondition (seen e k))) 0 S.triples
  unfolding arming of_sheet
  sheet_arming =
      let q : ℕ → Bool = λ c. meets S.common c (seen e k) in
      triples_kept (λ t. eqb t.state k.main && eqb t.unit e.unit) q 0 S.triples
      ∙ (λ i. numbers (λ (t : Triple). and_assoc (eqb t.state k.main) (eqb t.unit e.unit) (q t.precondition) i) 0 S.triples)

  pub sheet_asked : asked_count (of_sheet S) k e ≡ total (λ (t : Triple). meets_count S.common t.precondition (seen e k)) (keep (λ (t : Triple). eqb t.state k.main && eqb t.unit e.unit) S.triples)
  unfolding asked_count of_sheet
  sheet_asked = triples_total (λ t. eqb t.state k.main && eqb t.unit e.unit) (λ c. meets_count S.common c (seen e k)) 0 S.triples

module _ (N : Network) (k : Configuration) (e : Event) where
  -- the pairs of the transition that is taken
  abbrev taken : List Pair
  taken = pairs_of (first (λ (t : Paired). enabled N.common k e t.base) N.transitions)

  abbrev candidate : Pair → Candidate
  candidate p = record { condition = p.condition; number = p.template }

  pub network_arming : arming (of_network N) k e
      ≡ map (λ (p : Pair). p.template) (keep (λ (p : Pair). meets N.common p.condition (seen e k)) (pairs_of (first (λ (t : Paired). enabled N.common k e t.base) N.transitions)))
  unfolding arming of_network
  network_arming =
      ap (map (λ (c : Candidate). c.number)) (keep_map (λ (c : Candidate). meets N.common c.condition (seen e k)) candidate taken)
      ∙ map-map (λ (c : Candidate). c.number) candidate (keep (λ (p : Pair). meets N.common p.condition (seen e k)) taken)

  pub network_asked : asked_count (of_network N) k e ≡ total (λ (p : Pair). meets_count N.common p.condition (seen e k)) (pairs_of (first (λ (t : Paired). enabled N.common k e t.base) N.transitions))
  unfolding asked_count of_network
  network_asked = total_map candidate (λ (c : Candidate). meets_count N.common c.condition (seen e k)) taken
