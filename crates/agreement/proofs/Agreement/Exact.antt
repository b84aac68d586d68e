-- One living checker for each open call and armed triple, and no other. Assumes nothing.
use mathlib.Core.Path.{◌≡◌, refl, sym, ap, subst, ◌∙◌}
use mathlib.Core.Logic.{◌⊎◌, inl, inr}
use mathlib.Core.Bool.{Bool, true, false, cond, ◌&&◌}
use mathlib.Core.Option.{Option, none, some}
use mathlib.Core.List.{List, [], ◌∷◌, ◌++◌, map}
use Prim.Native.Nat.{ℕ, ◌≤◌, ◌+◌}
use native.Mathlib.Omega.{arith}
use borrow.Author.Tests.{eqb-true, eq-eqb, ne_eqb, ltb-true}
use lib.Dec.{eqb, ltb}
use lib.ListN.{length, length-map}
use Rattle.sheet.specs.Parts.{Sheet}
use Rattle.sheet.specs.Table.{every}
use Rattle.sheet.specs.Log.{Event}
use Rattle.sheet.proofs.Tables.{and_parts}
use Rattle.sheet.proofs.Tests.{and_iff, not_iff}
use Rattle.step.specs.Lists.{Among, first, keep, any, distinct, rising}
use Rattle.step.proofs.OnLists.Lists.{any_map, none_some, kept_passes, passes_kept}
use Rattle.step.proofs.OnLists.Keeping.{every_among, keep_map, keep_both}
use Rattle.monitor.specs.Monitor as Monitor
use Rattle.monitor.specs.Monitor.{Armed, of_number, initial}
use Rattle.monitor.specs.Published as Published
use Rattle.monitor.proofs.Demand2.Traces.{Leads, opening, Opened}
use Rattle.monitor.proofs.Demand2.Calls.{held_opened, opened_held}
use Rattle.monitor.proofs.Demand2.Broken.{armed_arms, arms_armed}
use Rattle.monitor.proofs.States.Arming.{armed_rising}
use Rattle.network.specs.declared.Checker.{Checker}
use Rattle.network.specs.Network.{bound_to}
use Rattle.network.specs.Grouped.{checker, row_of}
use Rattle.network.proofs.States.Created.{none_kept, none_among}
use Rattle.network.proofs.ByMachine.Bound.{bound_none, bound_first}
use Rattle.agreement.specs.Shown.{Living, armed_row, living}
use Rattle.agreement.specs.Meant.{many, Due, Exactly}
use Rattle.agreement.proofs.Agreement.Row.{row_own}

among_append : {A : Type 0} (l m : List A) (x : A) → Among x (l ++ m) → Among x l ⊎ Among x m
among_append [] m x h = inr h
among_append (y ∷ l) m x (inl e) = inl (inl e)
among_append (y ∷ l) m x (inr h) = either (among_append l m x h)
  where
    either : Among x l ⊎ Among x m → Among x (y ∷ l) ⊎ Among x m
    either (inl k) = inl (inr k)
    either (inr k) = inr k

among_map : {A B : Type 0} (f : A → B) (l : List A) (y : B) → Among y (map f l) → (x : A) × Among x l × (y ≡ f x)
among_map f [] y h = absurd h
among_map f (x ∷ l) y (inl e) = (x, inl refl, e)
among_map f (x ∷ l) y (inr h) = let (z, j, e) = among_map f l y h in (z, inr j, e)

-- Of rising numbers each stands once.
module _ (i : ℕ) where
  above_none : (x : ℕ) (l : List ℕ) → i ≤ x → every (ltb x) l ≡ true → keep (λ j. eqb j i) l ≡ []
  above_none x l h k = none_kept (λ j. eqb j i) l (λ y m. let low = ltb-true x y (every_among (ltb x) l y k m) in ne_eqb y i (λ e. omega arith))

  rising_once : (l : List ℕ) → rising l ≡ true → length (keep (λ j. eqb j i) l) ≤ 1
  unfolding rising keep
  rising_once [] h = omega arith
  rising_once (x ∷ l) h = let (a, b) = and_parts (every (ltb x) l) (rising l) h in go (eqb x i) refl a (rising_once l b)
    where
      go : (c : Bool) → eqb x i ≡ c → every (ltb x) l ≡ true → length (keep (λ j. eqb j i) l) ≤ 1 → length (cond c (x ∷ keep (λ j. eqb j i) l) (keep (λ j. eqb j i) l)) ≤ 1
      go true e a k =
          let same = eqb-true x i e in
          let z = above_none x l (omega arith) a in
          rw z (omega arith)
      go false e a k = k

  among_one : (l : List ℕ) → rising l ≡ true → Among i l → length (keep (λ j. eqb j i) l) ≡ 1
  among_one l h m = go (keep (λ j. eqb j i) l) (passes_kept (λ j. eqb j i) l i m (eq-eqb i i refl)) (rising_once l h)
    where
      go : (k : List ℕ) → Among i k → length k ≤ 1 → length k ≡ 1
      go [] a f = absurd a
      go (x ∷ k) a f = omega arith

  one_among : (l : List ℕ) → length (keep (λ j. eqb j i) l) ≡ 1 → Among i l
  one_among l h = go (keep (λ j. eqb j i) l) (kept_passes (λ j. eqb j i) l) h
    where
      go : (k : List ℕ) → ((x : ℕ) → Among x k → Among x l × (eqb x i ≡ true)) → length k ≡ 1 → Among i l
      go [] f h = absurd (omega arith)
      go (x ∷ k) f h = let (a, b) = f x (inl refl) in subst (λ (j : ℕ). Among j l) (eqb-true x i b) a

-- How many checkers a call number and a triple have: by the call that is open under the number.
abbrev many_in : ℕ → Option Armed → ℕ
many_in i none = 0
many_in i (some a) = length (keep (λ j. eqb j i) a.armed)

none_any : (n : ℕ) (l : List Armed) → first (of_number n) l ≡ none → any (of_number n) l ≡ false
unfolding first any
none_any n [] h = refl
none_any n (a ∷ l) h = go (eqb a.call.number n) h (none_any n l)
  where
    go : (b : Bool) → cond b (some a) (first (of_number n) l) ≡ none → (first (of_number n) l ≡ none → any (of_number n) l ≡ false) → cond b true (any (of_number n) l) ≡ false
    go true h k = absurd (none_some (sym h))
    go false h k = k h

module _ (n i : ℕ) (l : List Armed) (d : distinct (map (λ (a : Armed). a.call.number) l) ≡ true) where
  many_bound : many n i (armed_row l) ≡ length (keep (λ (h : Checker). eqb h.template i) (keep (bound_to n) (row_of l)))
  many_bound =
      let test : Living → Bool = λ h. eqb h.number n && eqb h.triple i in
      let show = living (map (λ (a : Armed). a.call) l) in
      ap (λ (r : List Living). length (keep test r)) (sym (row_own l d))
      ∙ ap length (keep_map test show (row_of l))
      ∙ length-map (keep (λ (h : Checker). eqb h.number n && eqb h.template i) (row_of l)) show
      ∙ ap length (keep_both (bound_to n) (λ (h : Checker). eqb h.template i) (row_of l))

  many_held : many n i (armed_row l) ≡ many_in i (first (of_number n) l)
  unfolding keep
  many_held = many_bound ∙ go (first (of_number n) l) refl
    where
      go : (o : Option Armed) → first (of_number n) l ≡ o → length (keep (λ (h : Checker). eqb h.template i) (keep (bound_to n) (row_of l))) ≡ many_in i o
      go none e = rw (bound_none n l (none_any n l e))
      go (some a) e = rw (bound_first n l d a e) (ap length (keep_map (λ (h : Checker). eqb h.template i) (checker n a.call.entry) a.armed) ∙ length-map (keep (λ j. eqb j i) a.armed) (checker n a.call.entry))

-- A living checker is of a call that is open, and of a triple armed for it.
row_among : (l : List Armed) (h : Living) → Among h (armed_row l) → (a : Armed) × Among a l × (h.number ≡ a.call.number) × Among h.triple a.armed × (h.values ≡ a.call.kept) × (h.entry ≡ a.call.entry)
unfolding armed_row
row_among [] h m = absurd m
row_among (a ∷ l) h m = either (row_among l h) (among_append (map (λ i. record { number = a.call.number; triple = i; entry = a.call.entry; values = a.call.kept }) a.armed) (armed_row l) h m)
  where
    either : (Among h (armed_row l) → (b : Armed) × Among b l × (h.number ≡ b.call.number) × Among h.triple b.armed × (h.values ≡ b.call.kept) × (h.entry ≡ b.call.entry))
        → Among h (map (λ i. record { number = a.call.number; triple = i; entry = a.call.entry; values = a.call.kept }) a.armed) ⊎ Among h (armed_row l)
        → (b : Armed) × Among b (a ∷ l) × (h.number ≡ b.call.number) × Among h.triple b.armed × (h.values ≡ b.call.kept) × (h.entry ≡ b.call.entry)
    either r (inl m) = let (i, j, e) = among_map (λ i. record { number = a.call.number; triple = i; entry = a.call.entry; values = a.call.kept }) a.armed h m in (a, inl refl, ap (λ (x : Living). x.number) e, subst (λ (k : ℕ). Among k a.armed) (sym (ap (λ (x : Living). x.triple) e)) j, ap (λ (x : Living). x.values) e, ap (λ (x : Living). x.entry) e)
    either r (inr m) = let (b, j, e, f, g, n) = r m in (b, inr j, e, f, g, n)

first_among : (l : List Armed) → distinct (map (λ (a : Armed). a.call.number) l) ≡ true → (a : Armed) → Among a l → first (of_number a.call.number) l ≡ some a
unfolding first distinct
first_among [] d a m = absurd m
first_among (x ∷ l) d a (inl e) = rw (e, eq-eqb x.call.number x.call.number refl)
first_among (x ∷ l) d a (inr m) =
    let (i, j) = simp (and_iff, not_iff) at d in
    let apart = none_among (λ (b : Armed). eqb x.call.number b.call.number) l (sym (any_map (eqb x.call.number) (λ (b : Armed). b.call.number) l) ∙ i) a m in
    rw apart (first_among l j a m)

-- A checker is due just where the call held under its number has the triple armed.
module _ (S : Sheet) {w : List Event} {σ : Monitor.State} (t : Leads S w σ) (n i : ℕ) where
  due_held : Due S w n i → (a : Armed) × (first (of_number n) σ.calls ≡ some a) × (rising a.armed ≡ true) × Among i a.armed
  due_held d =
      let k = Published.reached S d.w₁ in
      let a = opening S k (length d.w₁ + 1) d.entry in
      let o : Opened S n (initial S) 1 w a = record { w₁ = d.w₁; entry = d.entry; w₂ = d.w₂; parts = d.parts; kind = d.is_entry; number = d.number; apart = d.apart; call = refl } in
      (a, opened_held S t n a o, armed_rising S k d.entry, arms_armed S k d.entry i (record { there = d.there; in_state = d.in_state; of_unit = d.of_unit; precondition = d.precondition }))

  held_due : (a : Armed) → first (of_number n) σ.calls ≡ some a → Among i a.armed → Due S w n i
  held_due a h m =
      let o = held_opened S t n a h in
      let k = Published.reached S o.w₁ in
      let g = armed_arms S k o.entry i (subst (λ (b : Armed). Among i b.armed) o.call m) in
      record { w₁ = o.w₁; entry = o.entry; w₂ = o.w₂; parts = o.parts; is_entry = o.kind; number = o.number; apart = o.apart; there = g.there; in_state = g.in_state; of_unit = g.of_unit; precondition = g.precondition }

  held_rising : (a : Armed) → first (of_number n) σ.calls ≡ some a → rising a.armed ≡ true
  held_rising a h = let o = held_opened S t n a h in subst (λ (b : Armed). rising b.armed ≡ true) (sym o.call) (armed_rising S (Published.reached S o.w₁) o.entry)

  module _ (d : distinct (map (λ (a : Armed). a.call.number) σ.calls) ≡ true) where
    once_held : many n i (armed_row σ.calls) ≤ 1
    once_held = rw (many_held n i σ.calls d) (go (first (of_number n) σ.calls) refl)
      where
        go : (o : Option Armed) → first (of_number n) σ.calls ≡ o → many_in i o ≤ 1
        go none h = omega arith
        go (some a) h = rising_once i a.armed (held_rising a h)

    one_due : many n i (armed_row σ.calls) ≡ 1 → Due S w n i
    one_due e = go (first (of_number n) σ.calls) refl (sym (many_held n i σ.calls d) ∙ e)
      where
        go : (o : Option Armed) → first (of_number n) σ.calls ≡ o → many_in i o ≡ 1 → Due S w n i
        go none h e = absurd (omega arith)
        go (some a) h e = held_due a h (one_among i a.armed e)

    due_one : Due S w n i → many n i (armed_row σ.calls) ≡ 1
    due_one u =
        let (a, h, r, m) = due_held u in
        many_held n i σ.calls d ∙ ap (many_in i) h ∙ among_one i a.armed r m

    -- each living checker is due, with the values and the position of its entry
    values_held : (h : Living) → Among h (armed_row σ.calls) → h.number ≡ n → h.triple ≡ i → (u : Due S w n i) × (h.values ≡ u.entry.values) × (h.entry ≡ length u.w₁ + 1)
    unfolding held_due
    values_held h m en ei =
        let (a, at, en₂, j, v, p) = row_among σ.calls h m in
        let f : first (of_number n) σ.calls ≡ some a = subst (λ (m : ℕ). first (of_number m) σ.calls ≡ some a) (sym en₂ ∙ en) (first_among σ.calls d a at) in
        let o = held_opened S t n a f in
        (held_due a f (subst (λ (k : ℕ). Among k a.armed) ei j), v ∙ ap (λ (b : Armed). b.call.kept) o.call, p ∙ ap (λ (b : Armed). b.call.entry) o.call)

-- So they are exactly those due.
pub exactly_held : (S : Sheet) {w : List Event} {σ : Monitor.State} → Leads S w σ → distinct (map (λ (a : Armed). a.call.number) σ.calls) ≡ true → length (armed_row σ.calls) ≤ 64 → Exactly S w (armed_row σ.calls)
exactly_held S t d few =
    record {
      due = λ n i. (one_due S t n i d, due_one S t n i d);
      once = λ n i. once_held S t n i d;
      values = λ h m. values_held S t h.number h.triple d h m refl refl;
      few = few;
    }
