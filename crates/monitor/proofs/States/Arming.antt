-- The triples armed at an entry: in rising order, at most four, of one state and unit. Assumes nothing.
use mathlib.Core.Path.{◌≡◌, refl, sym, ap, ◌∙◌}
use mathlib.Core.Logic.{inl}
use mathlib.Core.Bool.{Bool, true, false, cond, ◌&&◌, false≢true}
use mathlib.Core.List.{List, [], ◌∷◌}
use Prim.Native.Nat.{ℕ, suc, ◌≤◌, ◌<◌}
use native.Mathlib.Omega.{arith}
use borrow.Author.Tests.{eq-eqb, lt-ltb}
use lib.Dec.{eqb, ltb}
use lib.ListN.{length}
use Rattle.sheet.specs.declared.Triple.{Triple}
use Rattle.sheet.specs.Table.{every}
use Rattle.sheet.specs.Parts.{Sheet}
use Rattle.sheet.specs.Decode.{sheet_of}
use Rattle.sheet.specs.Reading.{together, last_of, sheet_layout}
use Rattle.sheet.specs.Log.{Event}
use Rattle.sheet.proofs.Accepted.{Accepted, sheet_together}
use Rattle.sheet.proofs.Tables.{and_both}
use Rattle.sheet.proofs.Tests.{and_iff, eqb_iff}
use Rattle.step.specs.Lists.{Among, numbers, rising}
use Rattle.step.specs.Moves.{Configuration}
use Rattle.step.proofs.OnLists.Keeping.{among_every}
use Rattle.monitor.specs.Monitor.{arms, armed_by, triple_in}
use Rattle.monitor.specs.Sound.{of_one_state}
use Rattle.monitor.proofs.Demand2.Broken.{no_triple, armed_there}

module _ {A : Type 0} (p : A → Bool) where
  above : (n i : ℕ) → n < i → (l : List A) → every (ltb n) (numbers p i l) ≡ true
  unfolding every numbers
  above n i h [] = refl
  above n i h (x ∷ l) = go (p x) (above n (suc i) (omega arith) l)
    where
      go : (b : Bool) → every (ltb n) (numbers p (suc i) l) ≡ true → every (ltb n) (cond b (i ∷ numbers p (suc i) l) (numbers p (suc i) l)) ≡ true
      go true k = and_both (lt-ltb n i h) k
      go false k = k

  pub rising_numbers : (i : ℕ) (l : List A) → rising (numbers p i l) ≡ true
  unfolding rising numbers
  rising_numbers i [] = refl
  rising_numbers i (x ∷ l) = go (p x) (above i (suc i) (omega arith) l) (rising_numbers (suc i) l)
    where
      go : (b : Bool) → every (ltb i) (numbers p (suc i) l) ≡ true → rising (numbers p (suc i) l) ≡ true → rising (cond b (i ∷ numbers p (suc i) l) (numbers p (suc i) l)) ≡ true
      go true h k = and_both h k
      go false h k = k

-- as many as there are triples of that state and unit, or fewer
few : (p : Triple → Bool) (t : Triple) → ((u : Triple) → p u ≡ true → (eqb u.state t.state && eqb u.unit t.unit) ≡ true) → (i : ℕ) (l : List Triple) → length (numbers p i l) ≤ together t l
unfolding numbers together
few p t h i [] = omega arith
few p t h i (u ∷ l) = go (p u) refl (eqb u.state t.state && eqb u.unit t.unit) refl (few p t h (suc i) l)
  where
    go : (b : Bool) → p u ≡ b → (c : Bool) → (eqb u.state t.state && eqb u.unit t.unit) ≡ c → length (numbers p (suc i) l) ≤ together t l
        → length (cond b (i ∷ numbers p (suc i) l) (numbers p (suc i) l)) ≤ cond c (suc (together t l)) (together t l)
    go true e true f k = omega arith
    go true e false f k = absurd (false≢true (sym f ∙ h u e))
    go false e true f k = omega arith
    go false e false f k = k

module _ (S : Sheet) (k : Configuration) (e : Event) where
  pub armed_of_lem : (i : ℕ) → Among i (armed_by S k e) → (i < length S.triples) × ((triple_in S i).state ≡ k.main) × ((triple_in S i).unit ≡ e.unit)
  unfolding arms
  armed_of_lem i a =
      let (h, t) = armed_there S k e i a in
      let (x, (y, z)) = simp (and_iff, eqb_iff) at t in
      (h, x, y)

  pub armed_rising : rising (armed_by S k e) ≡ true
  unfolding armed_by
  armed_rising = rising_numbers (arms S k e) 0 S.triples

  pub armed_one_state : of_one_state S (armed_by S k e) ≡ true
  unfolding every
  armed_one_state = go (armed_by S k e) armed_of_lem
    where
      go : (l : List ℕ) → ((i : ℕ) → Among i l → (i < length S.triples) × ((triple_in S i).state ≡ k.main) × ((triple_in S i).unit ≡ e.unit)) → of_one_state S l ≡ true
      go [] h = refl
      go (n ∷ l) h = among_every (λ i. eqb (triple_in S i).state (triple_in S n).state) (n ∷ l) (λ i m. eq-eqb _ _ ((h i m).1 ∙ sym (h n (inl refl)).1))

pub armed_few : {s : List ℕ} → Accepted sheet_layout s → (k : Configuration) (e : Event) → length (armed_by (sheet_of s) k e) ≤ 4
unfolding armed_by arms sheet_of
armed_few {s} a k e = go (numbers (arms (sheet_of s) k e) 0 (last_of sheet_layout s)) refl (armed_of_lem (sheet_of s) k e)
  where
    go : (l : List ℕ) → numbers (arms (sheet_of s) k e) 0 (last_of sheet_layout s) ≡ l
        → ((i : ℕ) → Among i (armed_by (sheet_of s) k e) → (i < length (sheet_of s).triples) × ((triple_in (sheet_of s) i).state ≡ k.main) × ((triple_in (sheet_of s) i).unit ≡ e.unit)) → length l ≤ 4
    go [] f h = omega arith
    go (n ∷ l) f h =
        let (i, x, y) = h n (rw f (inl refl)) in
        let t = triple_in (sheet_of s) n in
        let same : (u : Triple) → arms (sheet_of s) k e u ≡ true → (eqb u.state t.state && eqb u.unit t.unit) ≡ true = λ u z.
        let (v, (w, r)) = simp (and_iff, eqb_iff) at z in and_both (eq-eqb _ _ (v ∙ sym x)) (eq-eqb _ _ (w ∙ sym y)) in
        let b = few (arms (sheet_of s) k e) t same 0 (last_of sheet_layout s) in
        let c = sheet_together a n no_triple i in
        let d : length (numbers (arms (sheet_of s) k e) 0 (last_of sheet_layout s)) ≡ length (n ∷ l) = ap length f in
        omega arith
