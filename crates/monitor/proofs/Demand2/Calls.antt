-- What a monitor holds after the events of a trace: the trace's configuration, its length, and the calls that it leaves open. Assumes nothing.
use mathlib.Core.Path.{◌≡◌, refl, sym, ◌∙◌, ap}
use mathlib.Core.Logic.{◌⊎◌, inl, inr, ◌↔◌}
use mathlib.Core.Bool.{Bool, true, false, not, cond, ◌&&◌, false≢true}
use mathlib.Core.Option.{Option, none, some}
use mathlib.Core.List.{List, [], ◌∷◌, ◌++◌, map, append-nil}
use Prim.Native.Nat.{ℕ, ◌≤◌, ◌+◌}
use native.Mathlib.Omega.{arith}
use lib.Dec.{eqb}
use lib.ListN.{length, length-append}
use borrow.Author.Tests.{eqb-true, eqb-false, eq-eqb, ne_eqb, not-false}
use Rattle.sheet.specs.Parts.{Sheet}
use Rattle.sheet.specs.Table.{every}
use Rattle.sheet.specs.Log.{Event}
use Rattle.sheet.proofs.Tables.{and_parts}
use Rattle.step.specs.declared.Verdict.{Verdict}
use Rattle.step.specs.Lists.{first, keep, any}
use Rattle.step.specs.Moves.{Configuration}
use Rattle.step.specs.Calls.{is_entry, open_for}
use Rattle.step.specs.Verdicts.{is_judged}
use Rattle.step.proofs.OnEvents.Refusing as Refusing
use Rattle.step.proofs.OnLists.Lists.{none_some, head_of, first_keep, keep_append, keep_none, keep_again, keep_without, any_keep, any_map}
use Rattle.monitor.specs.Monitor.{Armed, State, initial, fresh, of_number, entered, exited, refusal, offer}
use Rattle.monitor.specs.Published.{shift, reached}
use Rattle.monitor.proofs.Demand2.Traces.{Leads, begun, more, opening, next, call_of, another, Opened, shift_snoc, call_snoc, opened_call, call_opened}

-- An event that is refused for no reason.
abbrev pub Free : Sheet → State → Event → Type 0
Free S σ e = Refusing.Free S.common (is_judged σ.verdict) σ.position (map (λ (a : Armed). a.call) σ.calls) e

pub free : (S : Sheet) (σ : State) (e : Event) → refusal S σ e ≡ 0 → Free S σ e
unfolding refusal
free S σ e h = Refusing.free S.common (is_judged σ.verdict) σ.position (map (λ (a : Armed). a.call) σ.calls) e h

unjudged_none : (o : Option Verdict) → is_judged o ≡ false → o ≡ none
unjudged_none none h = refl
unjudged_none (some v) h = absurd (false≢true (sym h))

pub unjudged : (S : Sheet) (σ : State) (e : Event) → refusal S σ e ≡ 0 → σ.verdict ≡ none
unjudged S σ e h = unjudged_none σ.verdict (free S σ e h).unjudged

-- the state after an event that is taken
abbrev pub taken_state : Sheet → State → Event → State
taken_state S σ e = cond (is_entry e) (entered S σ e) (exited S σ e)

pub offer_taken : (S : Sheet) (σ : State) (e : Event) → refusal S σ e ≡ 0 → (offer S σ e).state ≡ taken_state S σ e
unfolding offer
offer_taken S σ e h = rw h

passed : (b : Bool) → cond b true false ≡ true → b ≡ true
passed true h = refl
passed false h = h

-- the calls of an optional one
abbrev pub list_of : {A : Type 0} → Option A → List A
list_of none = []
list_of (some a) = a ∷ []

pub head_list : {A : Type 0} (o : Option A) → head_of (list_of o) ≡ o
head_list none = refl
head_list (some a) = refl

-- What holds of the state: of each number it holds the call that the trace leaves open under it, and no other.
pub record Holds (S : Sheet) (w : List Event) (σ : State) : Type 0 where
  pub configuration : σ.configuration ≡ reached S w
  pub position : σ.position ≡ length w
  pub calls : (n : ℕ) → keep (of_number n) σ.calls ≡ list_of (call_of S n (initial S) 1 none w)

module _ (S : Sheet) (n : ℕ) (k : Configuration) (p : ℕ) (e : Event) (l : List Armed) (o : Option Armed) (h : keep (of_number n) l ≡ list_of o) where
  entry_step : (b : Bool) → eqb e.number n ≡ b → is_entry e ≡ true → keep (of_number e.number) l ≡ []
      → keep (of_number n) (l ++ opening S k p e ∷ []) ≡ list_of (next S n k p e o)
  unfolding keep
  entry_step true x q z =
      let t = eqb-true e.number n x in
      rw (keep_append (of_number n) l (opening S k p e ∷ []), x, q) (ap (λ j. j ++ opening S k p e ∷ []) (rw t at z))
  entry_step false x q z = rw (keep_append (of_number n) l (opening S k p e ∷ []), x, h) (append-nil (list_of o))

  exit_step : (b : Bool) → eqb e.number n ≡ b → is_entry e ≡ false → keep (of_number n) (keep (λ a. not (of_number e.number a)) l) ≡ list_of (next S n k p e o)
  exit_step true x q =
      rw (x, q) (keep_without (of_number n) (λ a. not (of_number e.number a)) (λ a t. rw (eqb-true a.call.number n t, eqb-true e.number n x, eq-eqb n n refl)) l)
  exit_step false x q =
      rw x (keep_again (of_number n) (λ a. not (of_number e.number a)) (λ a t. rw (ne_eqb a.call.number e.number (λ s. eqb-false e.number n x (sym s ∙ eqb-true a.call.number n t)))) l ∙ h)

module _ (S : Sheet) where
  -- the number that an entry opens was not open
  pub not_open_lem : (σ : State) (e : Event) → refusal S σ e ≡ 0 → is_entry e ≡ true → keep (of_number e.number) σ.calls ≡ []
  not_open_lem σ e h t =
      keep_none (of_number e.number) σ.calls (sym (any_map (λ c. eqb c.number e.number) (λ a. a.call) σ.calls) ∙ (rw t at (free S σ e h).not_open))

  holds_step : (w : List Event) (σ : State) (e : Event) (b : Bool) → is_entry e ≡ b → refusal S σ e ≡ 0 → Holds S w σ → Holds S (w ++ e ∷ []) (cond b (entered S σ e) (exited S σ e))
  unfolding entered exited
  holds_step w σ e true t h i =
      record {
        configuration = rw (shift_snoc S (initial S) w e, i.configuration);
        position = rw (length-append w (e ∷ []), i.position);
        calls = λ n. rw (call_snoc S n (initial S) 1 none w e, i.configuration, i.position) (entry_step S n (reached S w) (length w + 1) e σ.calls (call_of S n (initial S) 1 none w) (i.calls n) (eqb e.number n) refl t (not_open_lem σ e h t));
      }
  holds_step w σ e false t h i =
      record {
        configuration = rw (shift_snoc S (initial S) w e, i.configuration);
        position = rw (length-append w (e ∷ []), i.position);
        calls = λ n. rw (call_snoc S n (initial S) 1 none w e) (exit_step S n (reached S w) (length w + 1) e σ.calls (call_of S n (initial S) 1 none w) (i.calls n) (eqb e.number n) refl t);
      }

  pub holds : {w : List Event} {σ : State} → Leads S w σ → Holds S w σ
  unfolding fresh keep call_of shift
  holds begun = record { configuration = refl; position = refl; calls = λ n. refl }
  holds (more {w} {σ} t e h) = rw (offer_taken S σ e h) (holds_step w σ e (is_entry e) refl h (holds t))

  -- The call held under a number is the one that the trace opened and left open, if there is one; no two calls have one number.
  module _ {w : List Event} {σ : State} (t : Leads S w σ) (n : ℕ) where
    pub held : first (of_number n) σ.calls ≡ call_of S n (initial S) 1 none w
    held = first_keep (of_number n) σ.calls ∙ rw ((holds t).calls n) (head_list (call_of S n (initial S) 1 none w))

    pub held_opened : (a : Armed) → first (of_number n) σ.calls ≡ some a → Opened S n (initial S) 1 w a
    held_opened a h = either (call_opened S n (initial S) 1 none w a (sym held ∙ h))
      where
        either : ((none ≡ some a) × (every (another n) w ≡ true)) ⊎ Opened S n (initial S) 1 w a → Opened S n (initial S) 1 w a
        either (inl p) = absurd (none_some p.0)
        either (inr r) = r

    pub opened_held : (a : Armed) → Opened S n (initial S) 1 w a → first (of_number n) σ.calls ≡ some a
    opened_held a h = held ∙ opened_call S n (initial S) 1 none w a h

    -- so there is none just where the trace leaves none open
    pub held_none : first (of_number n) σ.calls ≡ none ↔ ((a : Armed) → Opened S n (initial S) 1 w a → ⊥)
    held_none = (λ q a h. none_some (sym q ∙ opened_held a h), λ k. decide (first (of_number n) σ.calls) refl k)
      where
        decide : (o : Option Armed) → first (of_number n) σ.calls ≡ o → ((a : Armed) → Opened S n (initial S) 1 w a → ⊥) → o ≡ none
        decide none q k = refl
        decide (some a) q k = absurd (k a (held_opened a q))

    pub different : length (keep (of_number n) σ.calls) ≤ 1
    different = rw ((holds t).calls n) (short (call_of S n (initial S) 1 none w))
      where
        short : (o : Option Armed) → length (list_of o) ≤ 1
        short none = omega arith
        short (some a) = omega arith

    -- the call that an exit closes is open for its unit
    pub unit_held : (e : Event) (a : Armed) → refusal S σ e ≡ 0 → e.kind ≡ 1 → e.number ≡ n → first (of_number n) σ.calls ≡ some a → a.call.unit ≡ e.unit
    unfolding any
    unit_held e a h x y f =
        let q : Armed → Bool = λ c. eqb c.call.number e.number && eqb c.call.unit e.unit in
        let o : open_for e (map (λ c. c.call) σ.calls) ≡ true = not-false _ (rw (eq-eqb e.kind 1 x) at (free S σ e h).is_open) in
        let i : any q σ.calls ≡ true = sym (any_map (λ c. eqb c.number e.number && eqb c.unit e.unit) (λ c. c.call) σ.calls) ∙ o in
        let j = sym (any_keep (of_number n) q (λ c m. rw (← y) (and_parts (eqb c.call.number e.number) (eqb c.call.unit e.unit) m).0) σ.calls) ∙ i in
        let l = rw ((holds t).calls n, ← held, f) at j in
        eqb-true a.call.unit e.unit (and_parts (eqb a.call.number e.number) (eqb a.call.unit e.unit) (passed (q a) l)).1
