-- Traces: prefixes, the configuration that they lead to, and the call that they leave open under a number. Assumes nothing.
use mathlib.Core.Path.{◌≡◌, refl, sym, ◌∙◌, ap, subst}
use mathlib.Core.Logic.{◌⊎◌, inl, inr}
use mathlib.Core.Bool.{Bool, true, false, not, cond, false≢true}
use mathlib.Core.Option.{Option, none, some}
use mathlib.Core.List.{List, [], ◌∷◌, ◌++◌}
use Prim.Native.Nat.{ℕ, ◌+◌, suc}
use native.Mathlib.Omega.{arith}
use lib.Dec.{eqb}
use lib.ListN.{length, length-append}
use borrow.Author.Tests.{eqb-true, eq-eqb, not-true}
use Rattle.sheet.specs.Parts.{Sheet}
use Rattle.sheet.specs.Table.{every}
use Rattle.sheet.specs.Log.{Event}
use Rattle.sheet.proofs.Tables.{and_parts, every_append}
use Rattle.step.specs.Moves.{Configuration, moved}
use Rattle.step.specs.Calls.{is_entry}
use Rattle.step.proofs.OnLists.Lists.{none_some}
use Rattle.monitor.specs.Monitor.{Armed, State, armed_by, fresh, refusal, offer}
use Rattle.monitor.specs.Published.{shift}

-- The state is reached from the fresh one by offering the events of the trace in order, each of them taken.
pub data Leads (S : Sheet) : List Event → State → Type 0 where
  begun : Leads S [] (fresh S)
  more : {w : List Event} {σ : State} → Leads S w σ → (e : Event) → refusal S σ e ≡ 0 → Leads S (w ++ e ∷ []) (offer S σ e).state

-- A list with one more element at its end: its parts, and its prefixes.
module _ {A : Type 0} where
  pub snoc_same : (u v : List A) (x y : A) → u ++ x ∷ [] ≡ v ++ y ∷ [] → (u ≡ v) × (x ≡ y)
  snoc_same [] [] x y e = (refl, cc)
  snoc_same [] (b ∷ v) x y e = absurd (omega (arith, ap length e, length-append v (y ∷ [])))
  snoc_same (a ∷ u) [] x y e = absurd (omega (arith, ap length e, length-append u (x ∷ [])))
  snoc_same (a ∷ u) (b ∷ v) x y e =
      let (p, q) = snoc_same u v x y (cc) in
      let r : a ≡ b = cc in
      (cc, q)

  pub not_snoc : (u : List A) (x : A) (v : List A) → [] ≡ u ++ x ∷ v → ⊥
  not_snoc u x v e = omega (arith, ap length e, length-append u (x ∷ v))

  pub empty_prefix : (u v : List A) → [] ≡ u ++ v → u ≡ []
  empty_prefix [] v e = refl
  empty_prefix (x ∷ u) v e = let z : ◌≡◌ {A = ℕ} 0 1 = cc in absurd (omega arith)

  pub prefix_snoc : (w : List A) (e : A) (u v : List A) → w ++ e ∷ [] ≡ u ++ v → (u ≡ w ++ e ∷ []) ⊎ ((r : List A) × (w ≡ u ++ r))
  prefix_snoc w e [] v h = inr (w, refl)
  prefix_snoc [] e (x ∷ u) v h =
      let k : u ≡ [] = empty_prefix u v (cc) in
      let j : e ≡ x = cc in
      inl (cc)
  prefix_snoc (y ∷ w) e (x ∷ u) v h =
      let j : y ≡ x = cc in
      (elim (prefix_snoc w e u v (cc)) as (λ _. (x ∷ u ≡ y ∷ (w ++ e ∷ [])) ⊎ ((r : List A) × (y ∷ w ≡ x ∷ (u ++ r)))) [ inl k ↦ inl (cc) | inr r ↦ inr (r.0, let k = r.1 in cc) ])

-- the configuration after one event
abbrev pub stepped : Sheet → Configuration → Event → Configuration
stepped S k e = moved S.common S.transitions k e

-- the call that an entry at a position opens, in the configuration held before it
abbrev pub opening : Sheet → Configuration → ℕ → Event → Armed
opening S k p e = record { call = record { number = e.number; unit = e.unit; entry = p; kept = e.values }; armed = armed_by S k e }

-- the call open under a number after one more event, and after a trace whose first event stands at a position
abbrev pub next : Sheet → ℕ → Configuration → ℕ → Event → Option Armed → Option Armed
next S n k p e o = cond (eqb e.number n) (cond (is_entry e) (some (opening S k p e)) none) o

unfoldable pub call_of : Sheet → ℕ → Configuration → ℕ → Option Armed → List Event → Option Armed
call_of S n k p o [] = o
call_of S n k p o (e ∷ w) = call_of S n (stepped S k e) (p + 1) (next S n k p e o) w

abbrev pub another : ℕ → Event → Bool
another n e = not (eqb e.number n)

-- From a configuration k on, the trace opens this call under n and leaves it open: an entry of that number, and no event of it since.
pub record Opened (S : Sheet) (n : ℕ) (k : Configuration) (p : ℕ) (w : List Event) (a : Armed) : Type 0 where
  pub w₁ : List Event
  pub entry : Event
  pub w₂ : List Event
  pub parts : w ≡ w₁ ++ entry ∷ w₂
  pub kind : entry.kind ≡ 0
  pub number : entry.number ≡ n
  pub apart : every (another n) w₂ ≡ true
  pub call : a ≡ opening S (shift S k w₁) (length w₁ + p) entry

module _ (S : Sheet) where
  pub shift_append : (k : Configuration) (u v : List Event) → shift S k (u ++ v) ≡ shift S (shift S k u) v
  unfolding shift
  shift_append k [] v = refl
  shift_append k (e ∷ u) v = shift_append (stepped S k e) u v

  pub shift_snoc : (k : Configuration) (w : List Event) (e : Event) → shift S k (w ++ e ∷ []) ≡ stepped S (shift S k w) e
  unfolding shift
  shift_snoc k w e = shift_append k w (e ∷ [])

  module _ (n : ℕ) where
    pub call_append : (k : Configuration) (p : ℕ) (o : Option Armed) (u v : List Event) → call_of S n k p o (u ++ v) ≡ call_of S n (shift S k u) (length u + p) (call_of S n k p o u) v
    unfolding shift call_of
    call_append k p o [] v = ap (λ (q : ℕ). call_of S n k q o v) (omega arith)
    call_append k p o (e ∷ u) v =
        call_append (stepped S k e) (p + 1) (next S n k p e o) u v ∙ ap (λ (q : ℕ). call_of S n (shift S (stepped S k e) u) q (call_of S n (stepped S k e) (p + 1) (next S n k p e o) u) v) (omega arith)

    pub call_snoc : (k : Configuration) (p : ℕ) (o : Option Armed) (w : List Event) (e : Event) → call_of S n k p o (w ++ e ∷ []) ≡ next S n (shift S k w) (length w + p) e (call_of S n k p o w)
    unfolding call_of
    call_snoc k p o w e = call_append k p o w (e ∷ [])

    pub call_stays : (k : Configuration) (p : ℕ) (o : Option Armed) (w : List Event) → every (another n) w ≡ true → call_of S n k p o w ≡ o
    unfolding call_of every
    call_stays k p o [] h = refl
    call_stays k p o (e ∷ w) h =
        let (x, y) = and_parts (another n e) (every (another n) w) h in
        call_stays (stepped S k e) (p + 1) (next S n k p e o) w y ∙ rw (not-true (eqb e.number n) x)

    -- what the trace opened is what it leaves open
    pub opened_call : (k : Configuration) (p : ℕ) (o : Option Armed) (w : List Event) (a : Armed) → Opened S n k p w a → call_of S n k p o w ≡ some a
    unfolding call_of
    opened_call k p o w a h =
        rw (h.parts, call_append k p o h.w₁ (h.entry ∷ h.w₂), call_stays _ _ _ h.w₂ h.apart, eq-eqb h.entry.number n h.number, eq-eqb h.entry.kind 0 h.kind) (ap some (sym h.call))

    later : (k : Configuration) (p : ℕ) (e : Event) (w : List Event) (a : Armed) → Opened S n (stepped S k e) (p + 1) w a → Opened S n k p (e ∷ w) a
    unfolding shift
    later k p e w a h =
        record {
          w₁ = e ∷ h.w₁;
          entry = h.entry;
          w₂ = h.w₂;
          parts = ap (λ l. e ∷ l) h.parts;
          kind = h.kind;
          number = h.number;
          apart = h.apart;
          call = h.call ∙ ap (λ (q : ℕ). opening S (shift S (stepped S k e) h.w₁) q h.entry) (omega arith);
        }

    here : (b c : Bool) (k : Configuration) (p : ℕ) (o : Option Armed) (e : Event) (w : List Event) (a : Armed) → eqb e.number n ≡ b → is_entry e ≡ c → every (another n) w ≡ true
        → cond b (cond c (some (opening S k p e)) none) o ≡ some a → ((o ≡ some a) × (every (another n) (e ∷ w) ≡ true)) ⊎ Opened S n k p (e ∷ w) a
    unfolding shift every
    here true true k p o e w a x y h i =
        let same : a ≡ opening S k p e = cc in
        inr (record { w₁ = []; entry = e; w₂ = w; parts = refl; kind = eqb-true e.kind 0 y; number = eqb-true e.number n x; apart = h; call = same ∙ ap (λ (q : ℕ). opening S k q e) (omega arith) })
    here true false k p o e w a x y h i = absurd (none_some i)
    here false c k p o e w a x y h i = inl (i, rw x h)

    -- and what it leaves open was opened by it, or before it
    pub call_opened : (k : Configuration) (p : ℕ) (o : Option Armed) (w : List Event) (a : Armed) → call_of S n k p o w ≡ some a
        → ((o ≡ some a) × (every (another n) w ≡ true)) ⊎ Opened S n k p w a
    unfolding call_of every
    call_opened k p o [] a h = inl (h, refl)
    call_opened k p o (e ∷ w) a h = either (call_opened (stepped S k e) (p + 1) (next S n k p e o) w a h)
      where
        either : ((next S n k p e o ≡ some a) × (every (another n) w ≡ true)) ⊎ Opened S n (stepped S k e) (p + 1) w a → ((o ≡ some a) × (every (another n) (e ∷ w) ≡ true)) ⊎ Opened S n k p (e ∷ w) a
        either (inl (i, j)) = here (eqb e.number n) (is_entry e) k p o e w a refl refl j i
        either (inr r) = inr (later k p e w a r)

    -- No event of the number since: so the entry stands in one place only.
    pub last_one : (u v u' v' : List Event) (x x' : Event) → u ++ x ∷ v ≡ u' ++ x' ∷ v' → x.number ≡ n → x'.number ≡ n → every (another n) v ≡ true → every (another n) v' ≡ true → length u ≡ length u'
    unfolding every
    last_one [] v [] v' x x' e a b h k = refl
    last_one [] v (y ∷ u) v' x x' e a b h k =
        let r : v ≡ u ++ x' ∷ v' = cc in
        let s = subst (λ (l : List Event). every (another n) l ≡ true) r h in
        let z = (and_parts (every (another n) u) (every (another n) (x' ∷ v')) (sym (every_append (another n) u (x' ∷ v')) ∙ s)).1 in
        absurd (false≢true (sym (ap not (eq-eqb x'.number n b)) ∙ (and_parts (another n x') (every (another n) v') z).0))
    last_one (y ∷ u) v [] v' x x' e a b h k =
        let r : v' ≡ u ++ x ∷ v = cc in
        let s = subst (λ (l : List Event). every (another n) l ≡ true) r k in
        let z = (and_parts (every (another n) u) (every (another n) (x ∷ v)) (sym (every_append (another n) u (x ∷ v)) ∙ s)).1 in
        absurd (false≢true (sym (ap not (eq-eqb x.number n a)) ∙ (and_parts (another n x) (every (another n) v) z).0))
    last_one (y ∷ u) v (y' ∷ u') v' x x' e a b h k = ap suc (last_one u v u' v' x x' (cc) a b h k)
