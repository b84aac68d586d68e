-- Sheet order against definition 3 of source document 003, which takes some transition whose condition holds. Assumes nothing.
use mathlib.Core.Path.{◌≡◌, refl, sym, ◌∙◌, subst}
use mathlib.Core.Logic.{inl, inr}
use mathlib.Core.Option.{Option, none, some}
use mathlib.Core.List.{List, [], ◌∷◌}
use Prim.Native.Nat.{ℕ}
use Rattle.sheet.specs.declared.Transition.{Transition}
use Rattle.sheet.specs.Parts.{Sheet}
use Rattle.sheet.specs.Decode.{sheet_of}
use Rattle.sheet.specs.Log.{Event}
use Rattle.step.specs.Lists.{first}
use Rattle.step.specs.Meets.{acted}
use Rattle.step.specs.Moves.{Configuration, seen, enabled, after, moved}
use Rattle.step.specs.Answers.{Ending}
use Rattle.step.proofs.OnLists.Lists.{first_passes, none_passes}
use Rattle.monitor.specs.Monitor.{initial}
use Rattle.monitor.specs.Published.{shift, Leading, in_order, as_printed, Step, Shifts, Breaks, Counterexample}
use Rattle.monitor.specs.Demand.{Clear, Finds, Violated, Refused, Clean, Published, Exclusive, OrderAgrees, Began}
use Rattle.monitor.proofs.Demand2.Traces.{stepped}
use Rattle.monitor.proofs.Demand2.Acceptance.{demand2}

module _ (S : Sheet) where
  module _ (k : Configuration) (e : Event) where
    order_step : (o : Option Transition) → first (enabled S.common k e) S.transitions ≡ o → Step S k e (after S.common k e o)
    order_step none q = inr (λ t h. none_passes (enabled S.common k e) S.transitions q t h.0 h.1, refl)
    order_step (some t) q = inl (t, first_passes (enabled S.common k e) S.transitions t q, refl)

    -- sheet order takes a step of definition 3
    moved_step : Step S k e (stepped S k e)
    unfolding moved
    moved_step = order_step (first (enabled S.common k e) S.transitions) refl

    -- and where conditions exclude each other all steps are the same
    steps_same : Exclusive S → (i j : Configuration) → Step S k e i → Step S k e j → i ≡ j
    steps_same x i j (inl (t, h, p)) (inl (u, l, q)) = let (a, b) = x k e t u h l in p ∙ (λ m. record { main = a m; variables = acted S.common (b m) (seen e k) }) ∙ sym q
    steps_same x i j (inl (t, h, p)) (inr (n, q)) = absurd (n t h)
    steps_same x i j (inr (n, p)) (inl (u, l, q)) = absurd (n u l)
    steps_same x i j (inr (n, p)) (inr (m, q)) = p ∙ sym q

  shift_shifts : (k : Configuration) (w : List Event) → Shifts S k w (shift S k w)
  unfolding shift
  shift_shifts k [] = refl
  shift_shifts k (e ∷ w) = (stepped S k e, moved_step k e, shift_shifts (stepped S k e) w)

  shifts_same : Exclusive S → (k : Configuration) (w : List Event) (k' : Configuration) → Shifts S k w k' → k' ≡ shift S k w
  unfolding shift
  shifts_same x k [] k' p = sym p
  shifts_same x k (e ∷ w) k' (j, h, r) =
      shifts_same x (stepped S k e) w k' (subst (λ i. Shifts S i w k') (steps_same k e x j (stepped S k e) h (moved_step k e)) r)

-- What is found by one way of leading is found by another that leads to the same configurations.
module _ (S : Sheet) (R Q : Leading) (f : (w : List Event) (k : Configuration) → R w k → Q w k) where
  breaks_over : {w : List Event} {i : ℕ} → Breaks S R w i → Breaks S Q w i
  breaks_over b =
      record {
        w₁ = b.w₁;
        entry = b.entry;
        w₂ = b.w₂;
        exit = b.exit;
        parts = b.parts;
        is_entry = b.is_entry;
        is_exit = b.is_exit;
        same_number = b.same_number;
        same_unit = b.same_unit;
        apart = b.apart;
        before = b.before;
        leads = f b.w₁ b.before b.leads;
        there = b.there;
        in_state = b.in_state;
        of_unit = b.of_unit;
        precondition = b.precondition;
        postcondition = b.postcondition;
      }

  counter_over : {w : List Event} → Counterexample S R w → Counterexample S Q w
  counter_over {w} (inl (k, h, b)) = inl (k, f w k h, b)
  counter_over (inr (i, b)) = inr (i, breaks_over b)

module _ (S : Sheet) (R Q : Leading) (f : (w : List Event) (k : Configuration) → R w k → Q w k) (g : (w : List Event) (k : Configuration) → Q w k → R w k) where
  clear_over : {w : List Event} → Clear S R w → Clear S Q w
  clear_over h u v p c = h u v p (counter_over S Q R g c)

  began_over : (w : List Event) (t : Option ℕ) (a : ℕ) → Began S R w t a → Began S Q w t a
  unfolding breaks_over
  began_over w none a h = h
  began_over w (some i) a (b, h) = (breaks_over S R Q f b, h)

  finds_over : {w : List Event} {n : ℕ} {q t : Option ℕ} {a : ℕ} → Finds S R w n q t a → Finds S Q w n q t a
  finds_over {w} {t = t} {a = a} h =
      record {
        counterexample = counter_over S R Q f h.counterexample;
        counted = h.counted;
        to = h.to;
        leads = f w h.to h.leads;
        bad = h.bad;
        lowest = record {
          unbroken = λ e i b. h.lowest.unbroken e i (breaks_over S Q R g b);
          broken = λ i e. let (b, l) = h.lowest.broken i e in (breaks_over S R Q f b, λ j c. l j (breaks_over S Q R g c));
        };
        began = began_over w t a h.began;
      }

  violated_over : {es : List Event} {n : ℕ} {q t : Option ℕ} {a : ℕ} → Violated S R es n q t a → Violated S Q es n q t a
  violated_over h = record { w = h.w; e = h.e; rest = h.rest; parts = h.parts; taken = h.taken; before = clear_over h.before; finds = finds_over h.finds }

  refused_over : {es : List Event} {n i : ℕ} → Refused S R es n i → Refused S Q es n i
  refused_over h = record { w = h.w; e = h.e; rest = h.rest; parts = h.parts; taken = h.taken; before = clear_over h.before; refused = h.refused; some = h.some; at = h.at }

  clean_over : {es : List Event} {n q k : ℕ} → Clean S R es n q k → Clean S Q es n q k
  clean_over {es} h = record { taken = h.taken; clear = clear_over h.clear; counted = h.counted; to = h.to; leads = f es h.to h.leads; state = h.state; still_open = h.still_open }

module _ (S : Sheet) (R Q : Leading) (f : (w : List Event) (k : Configuration) → R w k → Q w k) (g : (w : List Event) (k : Configuration) → Q w k → R w k) where
  published_over : {es : List Event} {r : Ending} → Published S R es r → Published S Q es r
  published_over h =
      record {
        when_violated = λ n q t m. let (a, b) = h.when_violated n q t m in (λ e. violated_over S R Q f g (a e), λ x. b (violated_over S Q R g f x));
        when_refused = λ n i. let (a, b) = h.when_refused n i in (λ e. refused_over S R Q f g (a e), λ x. b (refused_over S Q R g f x));
        when_clean = λ n q k. let (a, b) = h.when_clean n q k in (λ e. clean_over S R Q f g (a e), λ x. b (clean_over S Q R g f x));
        read = h.read;
      }

pub order_agrees : OrderAgrees
order_agrees s log a l x =
    let S = sheet_of s in
    published_over S (in_order S) (as_printed S) (λ w k p. subst (Shifts S (initial S) w) (sym p) (shift_shifts S (initial S) w)) (λ w k h. shifts_same S x (initial S) w k h) (demand2 s log a l)
