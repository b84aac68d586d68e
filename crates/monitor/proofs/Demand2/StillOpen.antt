-- The calls that a trace leaves open, and what is refused after it, by the trace and by the state that it leads to. Assumes nothing.
use mathlib.Core.Path.{◌≡◌, refl, sym, ◌∙◌, ap, ap₂}
use mathlib.Core.Logic.{◌⊎◌, inl, inr}
use mathlib.Core.Bool.{Bool, true, false, not, cond, ◌&&◌}
use mathlib.Core.List.{List, [], ◌∷◌, ◌++◌, map, append-nil, append_assoc}
use Prim.Native.Nat.{ℕ, zero, suc, ◌≤◌, ◌+◌}
use native.Mathlib.Omega.{arith}
use borrow.Author.Tests.{eqb-true, eqb-false, eq-eqb, ne_eqb}
use lib.Dec.{eqb}
use lib.ListN.{length, length-map}
use Rattle.sheet.specs.Parts.{Sheet}
use Rattle.sheet.specs.Log.{Event}
use Rattle.step.specs.Lists.{keep, any}
use Rattle.step.specs.Calls.{Call, is_entry, is_exit, refusals, lowest}
use Rattle.step.specs.Verdicts.{is_judged}
use Rattle.step.specs.Moves.{Configuration}
use Rattle.monitor.specs.Monitor.{Armed, State, initial, fresh, of_number, entered, exited, refusal}
use Rattle.monitor.specs.Published.{shift, reached}
use Rattle.monitor.specs.Demand.{stays_open, still_open, opened_by, refusal_after, Taken, open_from}
use Rattle.monitor.proofs.Demand2.Traces.{Leads, begun, more, stepped, opening, snoc_same, not_snoc, prefix_snoc}
use Rattle.monitor.proofs.Demand2.Calls.{free, offer_taken, holds}

pub one : (n : ℕ) → n ≤ 1 → (n ≡ 0 → ⊥) → n ≡ 1
one zero h k = absurd (k refl)
one (suc n) h k = omega arith

any_more : {A : Type 0} (p : A → Bool) (l : List A) (x : A) → any p (l ++ x ∷ []) ≡ cond (any p l) true (cond (p x) true false)
unfolding any
any_more p [] x = refl
any_more p (y ∷ l) x = go (p y) (any_more p l x)
  where
    go : (b : Bool) → any p (l ++ x ∷ []) ≡ cond (any p l) true (cond (p x) true false) → cond b true (any p (l ++ x ∷ [])) ≡ cond (cond b true (any p l)) true (cond (p x) true false)
    go true h = refl
    go false h = h

keep_all : {A : Type 0} (l : List A) → keep (λ _. true) l ≡ l
unfolding keep
keep_all [] = refl
keep_all (x ∷ l) = ap (λ k. x ∷ k) (keep_all l)

-- the calls that a trace leaves open, as a state holds them; the configuration is the one held before its first event, which stands at the position
unfoldable pub openings : Sheet → Configuration → ℕ → List Event → List Armed
openings S k p [] = []
openings S k p (e ∷ w) = cond (stays_open e w) (opening S k p e ∷ openings S (stepped S k e) (p + 1) w) (openings S (stepped S k e) (p + 1) w)

pub openings_calls : (S : Sheet) (k : Configuration) (p : ℕ) (w : List Event) → map (λ (a : Armed). a.call) (openings S k p w) ≡ open_from p w
unfolding openings open_from
openings_calls S k p [] = refl
openings_calls S k p (e ∷ w) = go (stays_open e w) (openings_calls S (stepped S k e) (p + 1) w)
  where
    go : (b : Bool) → map (λ (a : Armed). a.call) (openings S (stepped S k e) (p + 1) w) ≡ open_from (p + 1) w
        → map (λ (a : Armed). a.call) (cond b (opening S k p e ∷ openings S (stepped S k e) (p + 1) w) (openings S (stepped S k e) (p + 1) w)) ≡ cond b (opened_by p e ∷ open_from (p + 1) w) (open_from (p + 1) w)
    go true h = ap (λ l. opened_by p e ∷ l) h
    go false h = h

-- With one event more an entry is open, and an exit leaves the calls of its number.
module _ (S : Sheet) (e : Event) where
  abbrev pub stays : Armed → Bool
  stays a = not (is_exit e && eqb a.call.number e.number)

  abbrev pub last : Configuration → ℕ → Bool → List Armed
  last k p b = cond b (opening S k p e ∷ []) []

  alone : (k : Configuration) (p q : ℕ) → p ≡ q → (b : Bool) → cond (b && true) (opening S k p e ∷ []) [] ≡ last k q b
  alone k p q h true = ap (λ (n : ℕ). opening S k n e ∷ []) h
  alone k p q h false = refl

  step : (x : Armed) (b a c : Bool) (k o t : List Armed) → keep stays o ≡ k → not c ≡ stays x → cond (b && not (cond a true (cond c true false))) (x ∷ (k ++ t)) (k ++ t) ≡ keep stays (cond (b && not a) (x ∷ o) o) ++ t
  unfolding keep
  step x true true c k o t h s = ap (λ l. l ++ t) (sym h)
  step x true false true k o t h s = rw (← s) (ap (λ l. l ++ t) (sym h))
  step x true false false k o t h s = rw (← s) (ap (λ l. x ∷ (l ++ t)) (sym h))
  step x false a c k o t h s = ap (λ l. l ++ t) (sym h)

  pub openings_more : (w : List Event) (k : Configuration) (p : ℕ) → openings S k p (w ++ e ∷ []) ≡ keep stays (openings S k p w) ++ last (shift S k w) (length w + p) (is_entry e)
  unfolding openings keep any shift
  openings_more [] k p = alone k p (0 + p) (omega arith) (is_entry e)
  openings_more (x ∷ w) k p =
      let left : Event → Bool = λ y. is_exit y && eqb x.number y.number in
      let j = stepped S k x in
      let o = openings S j (p + 1) w in
      rw (any_more left w e, openings_more w j (p + 1))
      (step (opening S k p x) (is_entry x) (any left w) (left e) (keep stays o) o (last (shift S j w) (length w + (p + 1)) (is_entry e)) refl refl
      ∙ ap (λ (q : ℕ). keep stays (cond (is_entry x && not (any left w)) (opening S k p x ∷ o) o) ++ last (shift S j w) q (is_entry e)) (omega arith))

  calls_step : (w : List Event) (σ : State) (b : Bool) → is_entry e ≡ b → e.kind ≤ 1 → σ.configuration ≡ reached S w → σ.position ≡ length w → σ.calls ≡ openings S (initial S) 1 w
      → (cond b (entered S σ e) (exited S σ e)).calls ≡ openings S (initial S) 1 (w ++ e ∷ [])
  unfolding entered exited
  calls_step w σ true x k c p h =
      let entry = eqb-true e.kind 0 x in
      let no-exit : is_exit e ≡ false = ne_eqb e.kind 1 (λ z. omega arith) in
      let o = openings S (initial S) 1 w in
      let all : keep stays o ≡ o = ap (λ (b : Bool). keep (λ (a : Armed). not (b && eqb a.call.number e.number)) o) no-exit ∙ keep_all o in
      (λ i. (h ∙ sym all) i ++ opening S (c i) (p i + 1) e ∷ []) ∙ ap (λ (b : Bool). keep stays o ++ last (reached S w) (length w + 1) b) (sym x) ∙ sym (openings_more w (initial S) 1)
  calls_step w σ false x k c p h =
      let some = eqb-false e.kind 0 x in
      let exit : is_exit e ≡ true = eq-eqb e.kind 1 (one e.kind k some) in
      let o = openings S (initial S) 1 w in
      let left : keep stays o ≡ keep (λ (a : Armed). not (of_number e.number a)) o = ap (λ (b : Bool). keep (λ (a : Armed). not (b && eqb a.call.number e.number)) o) exit in
      ap (keep (λ (a : Armed). not (of_number e.number a))) h ∙ sym left ∙ sym (append-nil (keep stays o)) ∙ ap (λ (b : Bool). keep stays o ++ last (reached S w) (length w + 1) b) (sym x) ∙ sym (openings_more w (initial S) 1)

module _ (S : Sheet) where
  pub calls_are : {w : List Event} {σ : State} → Leads S w σ → σ.calls ≡ openings S (initial S) 1 w
  unfolding fresh openings
  calls_are begun = refl
  calls_are (more {w} {σ} t e h) = rw (offer_taken S σ e h) (calls_step S e w σ (is_entry e) refl (free S σ e h).kind (holds S t).configuration (holds S t).position (calls_are t))

  pub calls_open : {w : List Event} {σ : State} → Leads S w σ → map (λ (a : Armed). a.call) σ.calls ≡ still_open w
  calls_open {w} t = ap (map (λ (a : Armed). a.call)) (calls_are t) ∙ openings_calls S (initial S) 1 w

  module _ {w : List Event} {σ : State} (t : Leads S w σ) where
    pub count_open : length σ.calls ≡ length (still_open w)
    count_open = sym (length-map σ.calls (λ (a : Armed). a.call)) ∙ ap length (calls_open t)

    pub refusal_after_lem : (e : Event) → refusal S σ e ≡ refusal_after S (is_judged σ.verdict) w e
    unfolding refusal refusal_after
    refusal_after_lem e = ap₂ (λ (p : ℕ) (l : List Call). lowest (refusals S.common (is_judged σ.verdict) p l e)) (holds S t).position (calls_open t)

  -- Each event of a trace that leads somewhere is taken.
  pub leads_taken : {w : List Event} {σ : State} → Leads S w σ → Taken S w
  leads_taken begun u x v q = absurd (not_snoc u x v q)
  leads_taken (more {w} {σ} t e h) u x v q = either (λ r p. leads_taken t u x r p) (prefix_snoc w e (u ++ x ∷ []) v (q ∙ sym (append_assoc u (x ∷ []) v)))
    where
      here : refusal_after S false w e ≡ 0
      here = ap (λ (j : Bool). refusal_after S j w e) (sym (free S σ e h).unjudged) ∙ sym (refusal_after_lem t e) ∙ h

      either : ((r : List Event) → w ≡ u ++ x ∷ r → refusal_after S false u x ≡ 0) → (u ++ x ∷ [] ≡ w ++ e ∷ []) ⊎ ((r : List Event) × (w ≡ (u ++ x ∷ []) ++ r)) → refusal_after S false u x ≡ 0
      either k (inl p) = let (i, j) = snoc_same u w x e p in rw (i, j) here
      either k (inr (r, p)) = k r (p ∙ append_assoc u (x ∷ []) r)
