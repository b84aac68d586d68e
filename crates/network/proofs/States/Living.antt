-- How many checkers live: at most four a call, so at most 64 on a sound state. Assumes nothing.
use mathlib.Core.Path.{◌≡◌, refl, sym, ap}
use mathlib.Core.Bool.{Bool, true, false, not, cond, ◌&&◌, false≢true}
use mathlib.Core.List.{List, [], ◌∷◌}
use Prim.Native.Nat.{ℕ, suc, ◌+◌, ◌*◌, ◌≤◌}
use native.Mathlib.Omega.{arith}
use borrow.Author.Tests.{le-leb, leb-true, eqb-false, ne_eqb, not-true}
use lib.Dec.{eqb, leb}
use lib.ListN.{length}
use Rattle.sheet.specs.Table.{every}
use Rattle.sheet.specs.Parts.{Network}
use Rattle.sheet.proofs.Tables.{and_parts, every_weaker}
use Rattle.sheet.proofs.Tests.{and_iff, leb_iff}
use Rattle.step.specs.Lists.{keep, any}
use Rattle.step.specs.Calls.{Call}
use Rattle.step.proofs.OnLists.Lists.{kept_passes}
use Rattle.step.proofs.OnLists.Keeping.{every_among, among_every, length_keep, any_weaker}
use Rattle.network.specs.declared.Checker.{Checker}
use Rattle.network.specs.Network.{State, template_in, bound_to, of_number}
use Rattle.network.specs.Sound.{on_call, four_acall, sound}

-- Those that pass a test and those that do not are all; of fewer, no more pass.
module _ {A : Type 0} (p : A → Bool) where
  pub length_parts : (l : List A) → length l ≡ length (keep p l) + length (keep (λ x. not (p x)) l)
  unfolding keep
  length_parts [] = refl
  length_parts (x ∷ l) = go (p x) (length_parts l)
    where
      go : (b : Bool) → length l ≡ length (keep p l) + length (keep (λ x. not (p x)) l)
          → suc (length l) ≡ length (cond b (x ∷ keep p l) (keep p l)) + length (cond (not b) (x ∷ keep (λ x. not (p x)) l) (keep (λ x. not (p x)) l))
      go true h = omega arith
      go false h = omega arith

  pub keep_swap : (q : A → Bool) (l : List A) → keep p (keep q l) ≡ keep q (keep p l)
  unfolding keep
  keep_swap q [] = refl
  keep_swap q (x ∷ l) = go (p x) refl (q x) refl (keep_swap q l)
    where
      go : (b : Bool) → p x ≡ b → (c : Bool) → q x ≡ c → keep p (keep q l) ≡ keep q (keep p l) → keep p (cond c (x ∷ keep q l) (keep q l)) ≡ keep q (cond b (x ∷ keep p l) (keep p l))
      go true e true f h = rw (e, f) (ap (λ (m : List A). x ∷ m) h)
      go true e false f h = rw f h
      go false e true f h = rw e h
      go false e false f h = h

  pub fewer_pass : (q : A → Bool) (l : List A) → length (keep p (keep q l)) ≤ length (keep p l)
  fewer_pass q l = rw (keep_swap q l) (length_keep q (keep p l))

-- of fewer checkers, too, at most four are bound to each call
pub four_fewer : (q : Checker → Bool) (calls : List Call) (l : List Checker) → four_acall calls l ≡ true → four_acall calls (keep q l) ≡ true
unfolding four_acall
four_fewer q calls l h =
    every_weaker (λ (c : Call). leb (length (keep (bound_to c.number) l)) 4) (λ (c : Call). leb (length (keep (bound_to c.number) (keep q l))) 4)
    (λ c t. le-leb (length (keep (bound_to c.number) (keep q l))) 4 (omega (arith, fewer_pass (bound_to c.number) q l, leb-true (length (keep (bound_to c.number) l)) 4 t))) calls h

-- a number that is open, but not as the first call's
elsewhere : (m n : ℕ) (b : Bool) → cond (eqb m n) true b ≡ true → not (eqb n m) ≡ true → b ≡ true
elsewhere m n b h k = rw (ne_eqb m n (λ e. eqb-false n m (not-true (eqb n m) k) (sym e))) at h

pub living_few : (calls : List Call) (l : List Checker) → every (λ (h : Checker). any (λ (c : Call). eqb c.number h.number) calls) l ≡ true → four_acall calls l ≡ true → length l ≤ 4 * length calls
unfolding four_acall every any
living_few [] [] h f = omega arith
living_few [] (x ∷ l) h f = absurd (false≢true h)
living_few (c ∷ calls) l h f =
    let n = c.number in
    let q : Checker → Bool = λ x. not (bound_to n x) in
    let (a, b) = and_parts (leb (length (keep (bound_to n) l)) 4) (four_acall calls l) f in
    let first = leb-true (length (keep (bound_to n) l)) 4 a in
    let on : Checker → Bool = λ x. any (λ (d : Call). eqb d.number x.number) (c ∷ calls) in
    let there : every (λ (x : Checker). any (λ (d : Call). eqb d.number x.number) calls) (keep q l) ≡ true =
    among_every (λ (x : Checker). any (λ (d : Call). eqb d.number x.number) calls) (keep q l) (λ x m.
    let (i, j) = kept_passes q l x m in elsewhere n x.number (any (λ (d : Call). eqb d.number x.number) calls) (every_among on l x h i) j) in
    let rest = living_few calls (keep q l) there (four_fewer q calls l b) in
    omega (arith, length_parts (bound_to n) l)

-- a checker is on an open call
pub on_open : (N : Network) (calls : List Call) (h : Checker) → on_call N calls h ≡ true → any (of_number h.number) calls ≡ true
unfolding on_call
on_open N calls h e =
    let q : Call → Bool = λ c. eqb c.number h.number && eqb c.unit (template_in N h.template).unit in
    any_weaker (of_number h.number) q (λ c t. (and_parts (eqb c.number h.number) (eqb c.unit (template_in N h.template).unit) t).0) calls (simp and_iff at e).1

pub checkers_few : (N : Network) (σ : State) → sound N σ ≡ true → length σ.checkers ≤ 64
unfolding sound
checkers_few N σ h =
    let (m, (v, (c, (d, (n, (k, ((o, (q, (f, i))), w))))))) = simp (and_iff, leb_iff) at h in
    let on = every_weaker (on_call N σ.calls) (λ (x : Checker). any (λ (c : Call). eqb c.number x.number) σ.calls) (on_open N σ.calls) σ.checkers o in
    omega (arith, living_few σ.calls σ.checkers on f)
