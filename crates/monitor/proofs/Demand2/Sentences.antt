-- What document 01 says of calls, on traces. Assumes nothing.
use mathlib.Core.Path.{◌≡◌, refl, sym, ap, subst, ◌∙◌}
use mathlib.Core.Logic.{inl, inr}
use mathlib.Core.Bool.{Bool, true, false, not, cond, ◌&&◌}
use mathlib.Core.List.{List, [], ◌∷◌, ◌++◌, append-nil, append_assoc}
use Prim.Native.Nat.{◌+◌, ◌≤◌, ◌<◌}
use native.Mathlib.Omega.{arith}
use borrow.Author.Tests.{eqb-true, eq-eqb, ne_eqb, lt-ltb}
use lib.Dec.{eqb}
use lib.ListN.{length, length-append, length-map}
use Rattle.sheet.specs.Parts.{Sheet}
use Rattle.sheet.specs.Log.{Event}
use Rattle.step.specs.Lists.{Among, keep, any}
use Rattle.step.specs.Calls.{Call, is_entry, open_for, most_calls, last_position, refusals, lowest}
use Rattle.step.proofs.OnLists.Lists.{keep_without, any_keep, any_map}
use Rattle.step.proofs.OnLists.Keeping.{length_keep}
use Rattle.step.proofs.OnEvents.Refusing as Refusing
use Rattle.monitor.specs.Monitor.{Armed, initial, of_number}
use Rattle.monitor.specs.Published.{Leading, shift, reached}
use Rattle.monitor.specs.Demand.{open_from, still_open, refusal_after, Taken}
use Rattle.monitor.specs.Claims.{Calls}
use Rattle.monitor.proofs.Demand2.StillOpen.{openings, openings_calls, stays, last, openings_more}

-- a test that one of the elements passes
among_any : {A : Type 0} (p : A → Bool) (l : List A) (x : A) → Among x l → p x ≡ true → any p l ≡ true
unfolding any
among_any p [] x m h = absurd m
among_any p (y ∷ l) x (inl e) h = rw (← e, h)
among_any p (y ∷ l) x (inr m) h = go (p y) (among_any p l x m h)
  where
    go : (b : Bool) → any p l ≡ true → cond b true (any p l) ≡ true
    go true k = refl
    go false k = k

module _ (S : Sheet) where
  count : (w : List Event) → length (still_open w) ≡ length (openings S (initial S) 1 w)
  count w = ap length (sym (openings_calls S (initial S) 1 w)) ∙ length-map (openings S (initial S) 1 w) (λ (a : Armed). a.call)

  used_again_lem : (w : List Event) (exit : Event) → exit.kind ≡ 1 → any (λ (c : Call). eqb c.number exit.number) (still_open (w ++ exit ∷ [])) ≡ false
  unfolding any
  used_again_lem w exit h =
      let n = exit.number in
      let o = openings S (initial S) 1 w in
      let no-entry : is_entry exit ≡ false = ne_eqb exit.kind 0 (λ z. omega arith) in
      let leaves : keep (stays S exit) o ≡ keep (λ (a : Armed). not (of_number n a)) o = ap (λ (b : Bool). keep (λ (a : Armed). not (b && eqb a.call.number n)) o) (eq-eqb exit.kind 1 h) in
      let left : openings S (initial S) 1 (w ++ exit ∷ []) ≡ keep (λ (a : Armed). not (of_number n a)) o
      = openings_more S exit w (initial S) 1 ∙ ap (λ (b : Bool). keep (stays S exit) o ++ last S exit (reached S w) (length w + 1) b) no-entry ∙ append-nil (keep (stays S exit) o) ∙ leaves in
      let none : any (of_number n) (keep (λ (a : Armed). not (of_number n a)) o) ≡ false
      = any_keep (of_number n) (of_number n) (λ a t. t) (keep (λ (a : Armed). not (of_number n a)) o) ∙ ap (any (of_number n)) (keep_without (of_number n) (λ (a : Armed). not (of_number n a)) (λ a t. rw t) o) in
      ap (any (λ (c : Call). eqb c.number n)) (sym (openings_calls S (initial S) 1 (w ++ exit ∷ [])))
      ∙ any_map (λ (c : Call). eqb c.number n) (λ (a : Armed). a.call) (openings S (initial S) 1 (w ++ exit ∷ []))
      ∙ ap (any (of_number n)) left
      ∙ none

  any_exit_lem : (w : List Event) (call : Call) → Among call (still_open w) → (exit : Event) → exit.kind ≡ 1 → exit.number ≡ call.number → exit.unit ≡ call.unit
      → exit.unit < S.common.units → length exit.values ≡ S.common.programs → (length w ≡ last_position → ⊥) → refusal_after S false w exit ≡ 0
  unfolding refusal_after refusals lowest
  any_exit_lem w call m exit k en eu u v p =
      let opened : open_for exit (still_open w) ≡ true
      = among_any (λ (c : Call). eqb c.number exit.number && eqb c.unit exit.unit) (still_open w) call m (rw (eq-eqb call.number exit.number (sym en), eq-eqb call.unit exit.unit (sym eu))) in
      rw (k, lt-ltb exit.unit S.common.units u, eq-eqb (length exit.values) S.common.programs v, ne_eqb (length w) last_position p, opened)

  -- one event more
  most_step : (w : List Event) (e : Event) → refusal_after S false w e ≡ 0 → length (still_open w) ≤ most_calls → length (still_open (w ++ e ∷ [])) ≤ most_calls
  unfolding refusal_after
  most_step w e h few = rw (count (w ++ e ∷ []), openings_more S e w (initial S) 1, length-append (keep (stays S e) (openings S (initial S) 1 w))) (go (is_entry e) refl)
    where
      kept : length (keep (stays S e) (openings S (initial S) 1 w)) ≤ length (still_open w)
      kept = rw (count w) (length_keep (stays S e) (openings S (initial S) 1 w))

      go : (b : Bool) → is_entry e ≡ b → length (keep (stays S e) (openings S (initial S) 1 w)) + length (last S e (shift S (initial S) w) (length w + 1) b) ≤ most_calls
      go true x =
          let f = Refusing.free S.common false (length w) (still_open w) e h in
          let room = Refusing.entry_room f (eqb-true e.kind 0 x) in
          omega (arith, room, kept)
      go false x = omega (arith, kept)

  most_from : (v w : List Event) → length (still_open w) ≤ most_calls → Taken S (w ++ v) → length (still_open (w ++ v)) ≤ most_calls
  most_from [] w few t = rw (append-nil w) few
  most_from (e ∷ v) w few t =
      let next = most_step w e (t w e v refl) few in
      let same = append_assoc w (e ∷ []) v in
      subst (λ (l : List Event). length (still_open l) ≤ most_calls) same (most_from v (w ++ e ∷ []) next (subst (Taken S) (sym same) t))

  pub calls_said : (R : Leading) → Calls S R
  unfolding open_from
  calls_said R =
      record {
        used_again = used_again_lem;
        any_exit = any_exit_lem;
        at_most = λ w t. most_from w [] (omega arith) t;
        by_exit = λ w i b. (b.w₁ ++ b.entry ∷ b.w₂, b.exit, b.parts ∙ sym (append_assoc b.w₁ (b.entry ∷ b.w₂) (b.exit ∷ [])), b.is_exit);
        later = λ es rest n q t m h. record { w = h.w; e = h.e; rest = h.rest ++ rest; parts = ap (λ (l : List Event). l ++ rest) h.parts ∙ append_assoc h.w (h.e ∷ h.rest) rest; taken = h.taken; before = h.before; finds = h.finds };
      }
