-- The plans of accepted bytes as they are made, part by part. Assumes nothing.
use mathlib.Core.Path.{◌≡◌, refl, sym, ap, subst, ◌∙◌}
use mathlib.Core.Bool.{Bool, true, false}
use mathlib.Core.List.{List}
use Prim.Native.Nat.{ℕ, ◌≤◌, ◌<◌, min}
use native.Mathlib.Omega.{arith}
use lib.ListN.{length, take, replicate}
use lib.Seq.{sets}
use Rattle.sheet.specs.Table.{starts, fit}
use Rattle.sheet.specs.Decode.{wide, triple_form}
use Rattle.sheet.specs.Reading.{Layout, reading, sheet_layout, network_layout}
use Rattle.sheet.specs.declared.Header.{Header}
use Rattle.std.specs.Prelude.{Result, Ok, Err}
use Rattle.refusal.specs.declared.Refusal.{Refusal}
use Rattle.refusal.specs.Numbers.{number_of}
use Rattle.sheet.specs.declared.Places.{Places}
use Rattle.sheet.specs.Answer as paper
use Rattle.sheet.specs.Answer.{reading_paper, answer, header_of, places_of}
use Rattle.sheet.proofs.Accepted.{Accepted, accepted}
use Rattle.sheet.proofs.Answers.{answer_accepted, answer_refused}
use Rattle.sheet.proofs.Limits.{sheet_longest, most_network, network_longest, table_places}
use Rattle.sheet.proofs.Tables.{length_starts}
use Rattle.step.specs.Answers.{unless_taken}
use Rattle.step.specs.Walk.{base_form}
use Rattle.step.proofs.OnLists.Rooms.{take_fitted}
use Rattle.engine.specs.Plan.{plan_size, absent}
use Rattle.engine.specs.Prepared.{linked, with_transitions, with_triple, post_words, head_words, transition_places, empty, sheet_into, network_into}

-- The tables begin near.
near_places : {T R : Type 0} {F : Layout T R} {s : List ℕ} → Accepted F s → length s < 200000 → (x : Places) → x ≡ places_of F s → (x.transitions < 200000) × (x.last < 200000)
near_places a h x e = subst (λ (y : Places). (y.transitions < 200000) × (y.last < 200000)) (sym e) (table_places a 200000 h)

pub sheet_near : (s : List ℕ) → reading sheet_layout s ≡ 0 → (x : Places) → x ≡ places_of sheet_layout s → (x.transitions < 200000) × (x.last < 200000)
sheet_near s h x e = near_places (accepted sheet_layout s h) (omega (arith, sheet_longest s h)) x e

most_near : (w : Bool) → most_network w < 200000
most_near true = omega arith
most_near false = omega arith

pub network_near : (s : List ℕ) → reading network_layout s ≡ 0 → (x : Places) → x ≡ places_of network_layout s → (x.transitions < 200000) × (x.last < 200000)
network_near s h x e = near_places (accepted network_layout s h) (omega (arith, network_longest s h, most_near (wide s))) x e

-- what is read is put into a plan, and what is not leaves it as it was
module _ (n : ℕ) (r : Result (Unit {0}) Refusal) (er : reading_paper r ≡ answer n) where
  pub put_accepted : r ≡ Ok tt → (before after put : List ℕ) → after ≡ put → (paper.accepted tt ≡ answer n) × (after ≡ unless_taken n before put)
  put_accepted h before after put e = rw (answer_accepted n r er h) (refl, e)

  pub kept_refused : (m : Refusal) → r ≡ Err m → (before put : List ℕ) → (paper.refused (number_of m) ≡ answer n) × (before ≡ unless_taken n before put)
  kept_refused m h before put = let (k, g, x) = answer_refused n r er m h in rw g (ap paper.refused x, refl)

-- made where there was nothing, it is the plan
pub planned : (n : ℕ) → n ≡ 0 → (into : List ℕ → List ℕ) (p : List ℕ) → p ≡ unless_taken n (replicate plan_size absent) (into (replicate plan_size absent)) → p ≡ into empty
unfolding empty
planned n h into p e = subst (λ (k : ℕ). p ≡ unless_taken k (replicate plan_size absent) (into (replicate plan_size absent))) h e

module _ (s : List ℕ) (h : Header) (x : Places) (given : List ℕ) (n : ℕ) (en : n ≡ min h.transitions 96) (few : n ≤ 96) where
  -- the transitions by the places that were stored
  made : (paired : Bool) (places : List ℕ) → places ≡ fit 96 0 (starts (base_form paired) n s x.transitions) → (b : List ℕ) (k : ℕ) → b ≡ sets given 0 (head_words h k x.last) → (p : List ℕ)
      → p ≡ with_transitions paired s x.conditions x.actions (take n places) b → p ≡ with_transitions paired s x.conditions x.actions (transition_places paired h s x.transitions) (sets given 0 (head_words h k x.last))
  made paired places e b k eb p ep =
      let front : take n places ≡ starts (base_form paired) n s x.transitions = ap (take n) e ∙ take_fitted 0 96 n (starts (base_form paired) n s x.transitions) (length_starts (base_form paired) n s x.transitions) few in
      let all : take n places ≡ transition_places paired h s x.transitions = front ∙ ap (λ (m : ℕ). starts (base_form paired) m s x.transitions) en in
      ep ∙ (λ j. with_transitions paired s x.conditions x.actions (all j) (eb j))

  module _ (eh : h ≡ header_of s) (places b p : List ℕ) (m : ℕ) (em : m ≡ min h.last 32) where
    pub sheet_made : x ≡ places_of sheet_layout s → places ≡ fit 96 0 (starts (base_form false) n s x.transitions) → b ≡ sets given 0 (head_words h 0 x.last) → p ≡ with_transitions false s x.conditions x.actions (take n places) b
        → (q : List ℕ) → q ≡ linked (with_triple s x.conditions) 0 (starts triple_form m s x.last) p → (r : List ℕ) → r ≡ sets q 520 (post_words s x.conditions 4 m x.last) → r ≡ sheet_into s given
    unfolding sheet_into
    sheet_made ex e eb ep q eq r er =
        let whole : p ≡ with_transitions false s x.conditions x.actions (transition_places false h s x.transitions) (sets given 0 (head_words h 0 x.last)) = made false places e b 0 eb p ep in
        er
        ∙ (λ j. sets (eq j) 520 (post_words s x.conditions 4 m x.last))
        ∙ (λ j. sets (linked (with_triple s x.conditions) 0 (starts triple_form (em j) s x.last) (whole j)) 520 (post_words s x.conditions 4 (em j) x.last))
        ∙ (λ j. sets (linked (with_triple s (ex j).conditions) 0 (starts triple_form (min (eh j).last 32) s (ex j).last) (with_transitions false s (ex j).conditions (ex j).actions (transition_places false (eh j) s (ex j).transitions) (sets given 0 (head_words (eh j) 0 (ex j).last)))) 520
        (post_words s (ex j).conditions 4 (min (eh j).last 32) (ex j).last))

    pub network_made : x ≡ places_of network_layout s → places ≡ fit 96 0 (starts (base_form true) n s x.transitions) → b ≡ sets given 0 (head_words h 1 x.last) → p ≡ with_transitions true s x.conditions x.actions (take n places) b
        → (r : List ℕ) → r ≡ sets p 520 (post_words s x.conditions 2 m x.last) → r ≡ network_into s given
    unfolding network_into
    network_made ex e eb ep r er =
        let whole : p ≡ with_transitions true s x.conditions x.actions (transition_places true h s x.transitions) (sets given 0 (head_words h 1 x.last)) = made true places e b 1 eb p ep in
        er
        ∙ (λ j. sets (whole j) 520 (post_words s x.conditions 2 (em j) x.last))
        ∙ (λ j. sets (with_transitions true s (ex j).conditions (ex j).actions (transition_places true (eh j) s (ex j).transitions) (sets given 0 (head_words (eh j) 1 (ex j).last))) 520 (post_words s (ex j).conditions 2 (min (eh j).last 32) (ex j).last))
