-- The bytes that the search finds are the least, and the least greater than given ones, of those that are exactly what is pending. Assumes nothing.
use mathlib.Core.Path.{◌≡◌, refl, sym, ap, subst, ◌∙◌}
use mathlib.Core.Logic.{◌⊎◌, inl, inr}
use mathlib.Core.Bool.{Bool, true, false, cond}
use mathlib.Core.List.{List, [], ◌∷◌}
use Prim.Native.Nat.{ℕ, zero, suc, ◌+◌, ◌-◌, ◌≤◌, ◌<◌}
use native.Mathlib.Omega.{arith}
use lib.Dec.{eqb, ltb}
use lib.ListN.{length}
use borrow.Author.Tests.{ltb-true, ltb-false, eqb-true, eqb-false}
use Rattle.std.specs.Prelude.{max, Option, None as none, Some as some, is_some, option_and_then}
use Rattle.std.specs.Option.{option_or}
use Rattle.bench.specs.declared.parts.Part.{Part}
use Rattle.bench.specs.declared.parts.Pending.{Pending}
use Rattle.bench.specs.declared.search.Found.{Found}
use Rattle.bench.specs.Bench.{precedes}
use Rattle.bench.specs.Walk.{onward, lowest, limit, found_or, seek, least_of, least, completed, greater_at, prefixed, following, if_some, accepts}
use Rattle.bench.proofs.Tests.{none_true}
use Rattle.bench.proofs.ByteOrder.{AtLeast, less_precedes, same_precedes, precedes_parts, cons_at_least}
use Rattle.bench.proofs.LeastBytes.InOrder.{behind_list, behind, counted, shown, kept, holds, admits, none_admits, split_shown, fits_shown, onward_shown}
use Rattle.bench.proofs.LeastBytes.Holding.{holds_down, holds_up, byte_reach}

-- What the search for a byte finds, of the n from b on.
abbrev Sought : (ℕ → Option Pending) → ℕ → ℕ → Option Found → Type 0
Sought f n b none = (x : ℕ) → b ≤ x → x < b + n → f x ≡ none
Sought f n b (some r) = (b ≤ r.byte) × ((f r.byte ≡ some r.pending) × ((x : ℕ) → b ≤ x → x < r.byte → f x ≡ none))

module _ (f : ℕ → Option Pending) where
  seek_finds : (n b : ℕ) → Sought f n b (seek f n b)
  unfolding seek
  seek_finds zero b = λ x l h. absurd (omega arith)
  seek_finds (suc n) b = go (f b) refl (seek f n (suc b)) (seek_finds n (suc b))
    where
      past : (m : ℕ) → f b ≡ none → ((x : ℕ) → suc b ≤ x → x < m → f x ≡ none) → (x : ℕ) → b ≤ x → x < m → f x ≡ none
      past m e i x l h = other (eqb b x) refl
        where
          other : (t : Bool) → eqb b x ≡ t → f x ≡ none
          other true d = rw (← eqb-true b x d) e
          other false d = let n = eqb-false b x d in i x (omega arith) h

      go : (t : Option Pending) → f b ≡ t → (o : Option Found) → Sought f n (suc b) o → Sought f (suc n) b (found_or b t o)
      go (some p) e o i = (omega arith, (e, λ x l h. absurd (omega arith)))
      go none e none i = λ x l h. past (suc b + n) e i x l (omega arith)
      go none e (some r) (l, (g, i)) = (omega arith, (g, past r.byte e i))

-- Where k bytes can hold what is left behind a byte, that is what is found there; else nothing is.
module _ (k : ℕ) (p : List Part) (b : ℕ) where
  kept_some : {r : Pending} → shown (kept k (behind_list p b)) ≡ some r → (q : List Part) × ((behind_list p b ≡ some q) × ((holds k (some q) ≡ true) × (r ≡ counted q)))
  kept_some {r} e = go (behind_list p b) refl e
    where
      go : (o : Option (List Part)) → behind_list p b ≡ o → shown (kept k o) ≡ some r → (q : List Part) × ((behind_list p b ≡ some q) × ((holds k (some q) ≡ true) × (r ≡ counted q)))
      go none d e = none_true (ap is_some e)
      go (some q) d e = pick (holds k (some q)) refl e
        where
          pick : (t : Bool) → holds k (some q) ≡ t → shown (cond t (some q) none) ≡ some r → (q : List Part) × ((behind_list p b ≡ some q) × ((holds k (some q) ≡ true) × (r ≡ counted q)))
          pick true h e = (q, (d, (h, cc)))
          pick false h e = none_true (ap is_some e)

  kept_none : shown (kept k (behind_list p b)) ≡ none → holds k (behind_list p b) ≡ true → ⊥
  kept_none e h = go (behind_list p b) e h
    where
      go : (o : Option (List Part)) → shown (kept k o) ≡ none → holds k o ≡ true → ⊥
      go none e h = none_true h
      go (some q) e h = none_true (sym (ap is_some (ap (λ t. shown (cond t (some q) none)) (sym h) ∙ e)))

-- The least byte, and that there is none.
pub record LeastByte (k : ℕ) (p : List Part) (from : ℕ) (f : Found) : Type 0 where
  pub rest : List Part
  pub left : behind_list p f.byte ≡ some rest
  pub is : f.pending ≡ counted rest
  pub low : from ≤ f.byte
  pub good : holds k (some rest) ≡ true
  pub first : (y : ℕ) → from ≤ y → holds k (behind_list p y) ≡ true → f.byte ≤ y

abbrev pub LeastFound : ℕ → List Part → ℕ → Option Found → Type 0
LeastFound k p from none = (y : ℕ) → from ≤ y → holds k (behind_list p y) ≡ true → ⊥
LeastFound k p from (some f) = LeastByte k p from f

module _ (k : ℕ) (few : k ≤ 8) (from : ℕ) where
  pub least_finds : (p : List Part) → LeastFound k p from (least (counted p) k from)
  unfolding least counted behind_list
  least_finds [] = λ y l h. none_true h
  least_finds (a ∷ p) = subst (λ o. LeastFound k (a ∷ p) from (least_of (counted (a ∷ p)) k from o)) (sym (split_shown a p)) (go (seek test (limit a - start) start) (seek_finds test (limit a - start) start))
    where
      test : ℕ → Option Pending
      test x = onward (counted (a ∷ p)) x k

      start : ℕ
      start = max from (lowest a)

      go : (r : Option Found) → Sought test (limit a - start) start r → LeastFound k (a ∷ p) from r
      go none i = λ y l h.
          let (m, n) = byte_reach k a p y h in
          kept_none k (a ∷ p) y (sym (onward_shown k few (a ∷ p) y) ∙ i y (omega arith) (omega arith)) h
      go (some f) (l, (g, i)) =
          let (q, (d, (h, e))) = kept_some k (a ∷ p) f.byte (sym (onward_shown k few (a ∷ p) f.byte) ∙ g) in
          record { rest = q; left = d; is = e; low = omega arith; good = h; first = λ y l h. above y l h (ltb y f.byte) refl }
        where
          above : (y : ℕ) → from ≤ y → holds k (behind_list (a ∷ p) y) ≡ true → (t : Bool) → ltb y f.byte ≡ t → f.byte ≤ y
          above y m h true e =
              let (b, c) = byte_reach k a p y h in
              let under = ltb-true y f.byte e in
              absurd (kept_none k (a ∷ p) y (sym (onward_shown k few (a ∷ p) y) ∙ i y (omega arith) under) h)
          above y m h false e = ltb-false y f.byte e

-- Bytes that are exactly what is pending are so many as can hold it.
pub admits_holds : (l : List ℕ) (o : Option (List Part)) → admits o l ≡ true → holds (length l) o ≡ true
unfolding admits
admits_holds [] o h = h
admits_holds (b ∷ l) o h = holds_down (length l) o b (admits_holds l (behind o b) h)

pub accepts_admits : (l : List ℕ) (p : List Part) → length l ≤ 8 → accepts (counted p) l ≡ admits (some p) l
unfolding accepts admits
accepts_admits [] p h = fits_shown 0 (omega arith) p
accepts_admits (b ∷ l) p h = ap (λ o. if_some o (λ q. accepts q l)) (onward_shown (length l) (omega arith) p b) ∙ go (behind_list p b) (λ q. accepts_admits l q (omega arith))
  where
    go : (o : Option (List Part)) → ((q : List Part) → accepts (counted q) l ≡ admits (some q) l) → if_some (shown (kept (length l) o)) (λ q. accepts q l) ≡ admits o l
    go none ih = sym (none_admits l)
    go (some q) ih = pick (holds (length l) (some q)) refl (admits (some q) l) refl
      where
        pick : (t : Bool) → holds (length l) (some q) ≡ t → (u : Bool) → admits (some q) l ≡ u → if_some (shown (cond t (some q) none)) (λ q. accepts q l) ≡ u
        pick true e u d = ih q ∙ d
        pick false e true d = none_true (sym e ∙ admits_holds l (some q) d)
        pick false e false d = refl

-- r is the least of those that are exactly o, in k bytes, and of which P says something.
pub record LeastAdmitted (k : ℕ) (o : Option (List Part)) (P : List ℕ → Type 0) (r : List ℕ) : Type 0 where
  pub long : length r ≡ k
  pub is : admits o r ≡ true
  pub meets : P r
  pub first : (t : List ℕ) → length t ≡ k → admits o t ≡ true → P t → AtLeast r t

-- The least of all.
abbrev pub LeastOf : ℕ → List Part → Option (List ℕ) → Type 0
LeastOf k p none = ⊥
LeastOf k p (some r) = LeastAdmitted k (some p) (λ t. Unit {0}) r

-- The bytes behind a greater byte, or the least.
behind_byte : (k : ℕ) (p : List Part) (f : Found) {from : ℕ} → (m : LeastByte k p from f) (P : List ℕ → Type 0) → ((l : List ℕ) → P (f.byte ∷ l))
    → ((c : ℕ) (t : List ℕ) → length t ≡ k → admits (behind_list p c) t ≡ true → P (c ∷ t) → from ≤ c)
    → (r : List ℕ) → LeastAdmitted k (some m.rest) (λ t. Unit {0}) r → LeastAdmitted (suc k) (some p) P (f.byte ∷ r)
unfolding admits
behind_byte k p f m P meets above r i = record {
  long = ap suc i.long;
  is = rw m.left i.is;
  meets = meets r;
  first = elim [
    | [] ↦ λ e a u. absurd (omega arith)
    | c ∷ t ↦ λ e a u.
        let l : length t ≡ k = omega arith in
        let ok = subst (λ (j : ℕ). holds j (behind_list p c) ≡ true) l (admits_holds t (behind_list p c) a) in
        cons_at_least f.byte c r t (m.first c (above c t l a u) ok)
        (λ d. i.first t l (ap (λ o. admits o t) (sym m.left ∙ ap (behind_list p) d) ∙ a) tt)
  ];
}

pub completed_least : (k : ℕ) → k ≤ 8 → (p : List Part) → holds k (some p) ≡ true → LeastOf k p (completed k (counted p))
unfolding completed admits
completed_least zero few p h = record {
  long = refl;
  is = h;
  meets = tt;
  first = elim [ [] ↦ λ e a u. inl refl | b ∷ t ↦ λ e a u. absurd (omega arith) ];
}
completed_least (suc k) few p h = go (least (counted p) k 0) (least_finds k (omega arith) 0 p) (completed_least k (omega arith))
  where
    go : (o : Option Found) → LeastFound k p 0 o → ((q : List Part) → holds k (some q) ≡ true → LeastOf k q (completed k (counted q)))
        → LeastOf (suc k) p (option_and_then (λ f. prefixed f.byte (completed k f.pending)) o)
    go none m ih = let (b, e) = holds_up k (some p) h in absurd (m b (omega arith) e)
    go (some f) m ih = rw m.is (inner (completed k (counted m.rest)) (ih m.rest m.good))
      where
        inner : (o : Option (List ℕ)) → LeastOf k m.rest o → LeastOf (suc k) p (prefixed f.byte o)
        inner none i = i
        inner (some r) i = behind_byte k p f m (λ t. Unit {0}) (λ l. tt) (λ c t l a u. omega arith) r i

-- What is found behind given bytes, and that nothing is.
abbrev pub NextAdmitted : Option (List Part) → List ℕ → Option (List ℕ) → Type 0
NextAdmitted o g none = (t : List ℕ) → length t ≡ length g → admits o t ≡ true → precedes g t ≡ true → ⊥
NextAdmitted o g (some r) = LeastAdmitted (length g) o (λ t. precedes g t ≡ true) r

module _ (p : List Part) (b : ℕ) (g : List ℕ) where
  -- The first byte stays.
  stays : (r : List ℕ) → NextAdmitted (behind_list p b) g (some r) → NextAdmitted (some p) (b ∷ g) (some (b ∷ r))
  unfolding admits
  stays r i = record {
    long = ap suc i.long;
    is = i.is;
    meets = same_precedes b g r ∙ i.meets;
    first = elim [
      | [] ↦ λ e a u. absurd (omega arith)
      | c ∷ t ↦ λ e a u. go c t (omega arith) a (precedes_parts b c g t u)
    ];
  }
    where
      go : (c : ℕ) (t : List ℕ) → length t ≡ length g → admits (behind_list p c) t ≡ true → (b < c) ⊎ ((b ≡ c) × (precedes g t ≡ true)) → AtLeast (b ∷ r) (c ∷ t)
      go c t e a (inl l) = inr (less_precedes b c r t l)
      go c t e a (inr (d, u)) = cons_at_least b c r t (omega arith) (λ d. i.first t e (subst (λ (j : ℕ). admits (behind_list p j) t ≡ true) (sym d) a) u)

  -- Nothing follows with the same first byte, so it is a greater one.
  module _ (few : length g ≤ 8) (i : NextAdmitted (behind_list p b) g none) where
    above : (c : ℕ) (t : List ℕ) → length t ≡ length g → admits (behind_list p c) t ≡ true → precedes (b ∷ g) (c ∷ t) ≡ true → b < c
    above c t e a u = go (precedes_parts b c g t u)
      where
        go : (b < c) ⊎ ((b ≡ c) × (precedes g t ≡ true)) → b < c
        go (inl l) = l
        go (inr (d, u)) = absurd (i t e (subst (λ (j : ℕ). admits (behind_list p j) t ≡ true) (sym d) a) u)

    rises : NextAdmitted (some p) (b ∷ g) (greater_at (length g) (counted p) b)
    unfolding admits
    rises = go (least (counted p) (length g) (suc b)) (least_finds (length g) few (suc b) p)
      where
        go : (o : Option Found) → LeastFound (length g) p (suc b) o → NextAdmitted (some p) (b ∷ g) (option_and_then (λ f. prefixed f.byte (completed (length g) f.pending)) o)
        go none m = elim [
          | [] ↦ λ e a u. omega arith
          | c ∷ t ↦ λ e a u.
              let d : length t ≡ length g = omega arith in
              m c (above c t d a u) (subst (λ (j : ℕ). holds j (behind_list p c) ≡ true) d (admits_holds t (behind_list p c) a))
        ]
        go (some f) m = rw m.is (inner (completed (length g) (counted m.rest)) (completed_least (length g) few m.rest m.good))
          where
            inner : (o : Option (List ℕ)) → LeastOf (length g) m.rest o → NextAdmitted (some p) (b ∷ g) (prefixed f.byte o)
            inner none i = absurd i
            inner (some r) i = behind_byte (length g) p f m (λ t. precedes (b ∷ g) t ≡ true) (λ l. less_precedes b f.byte g l m.low) above r i

pub following_finds : (g : List ℕ) → length g ≤ 8 → (p : List Part) → admits (some p) g ≡ true → NextAdmitted (some p) g (following (counted p) g)
unfolding following precedes admits
following_finds [] few p h = elim [ [] ↦ λ e a u. none_true u | c ∷ t ↦ λ e a u. absurd (omega arith) ]
following_finds (b ∷ g) few p h = go (behind_list p b) refl (λ q. following_finds g (omega arith) q)
  where
    go : (o : Option (List Part)) → behind_list p b ≡ o → ((q : List Part) → admits (some q) g ≡ true → NextAdmitted (some q) g (following (counted q) g))
        → NextAdmitted (some p) (b ∷ g) (option_or (option_and_then (λ q. prefixed b (following q g)) (onward (counted p) b (length g))) (greater_at (length g) (counted p) b))
    go none d ih = none_true (sym (none_admits g) ∙ ap (λ o. admits o g) (sym d) ∙ h)
    go (some q) d ih =
        let a : admits (some q) g ≡ true = ap (λ o. admits o g) (sym d) ∙ h in
        let same : onward (counted p) b (length g) ≡ some (counted q) =
        onward_shown (length g) (omega arith) p b ∙ ap (λ o. shown (kept (length g) o)) d ∙ ap (λ t. shown (cond t (some q) none)) (admits_holds g (some q) a) in
        rw same (inner (following (counted q) g) (subst (λ o. NextAdmitted o g (following (counted q) g)) (sym d) (ih q a)))
      where
        inner : (r : Option (List ℕ)) → NextAdmitted (behind_list p b) g r → NextAdmitted (some p) (b ∷ g) (option_or (prefixed b r) (greater_at (length g) (counted p) b))
        inner none i = rises p b g (omega arith) i
        inner (some r) i = stays p b g r i
