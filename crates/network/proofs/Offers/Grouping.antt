-- On a sound state the checkers are those of the calls, in the calls' order; with them it is a state of the machine. Assumes nothing.
use mathlib.Core.Path.{◌≡◌, refl, sym, ap, ap₂, ◌∙◌}
use mathlib.Core.Logic.{inl, inr}
use mathlib.Core.Bool.{Bool, true, false, not, cond, ◌&&◌, false≢true}
use mathlib.Core.List.{List, [], ◌∷◌, ◌++◌, map, map-map}
use Prim.Native.Nat.{ℕ, suc, ◌≤◌}
use native.Mathlib.Omega.{arith}
use borrow.Author.Tests.{le-leb, leb-true, eqb-true, eqb-false, eq-eqb, ne_eqb, not-true}
use lib.Dec.{eqb, leb, ltb, leb-suc-suc}
use lib.ListN.{length, length-map}
use Rattle.sheet.specs.Table.{every}
use Rattle.sheet.specs.Parts.{Network}
use Rattle.sheet.proofs.Tables.{and_parts, and_both, every_weaker, every_map}
use Rattle.sheet.proofs.Tests.{and_iff, not_iff, leb_iff, eqb_iff}
use Rattle.step.specs.Lists.{Among, keep, any, distinct, place_of}
use Rattle.step.specs.Calls.{Call}
use Rattle.step.proofs.OnLists.Lists.{keep_none, any_map, kept_passes}
use Rattle.step.proofs.OnLists.Keeping.{every_among, among_every, every_keep, any_weaker}
use Rattle.engine.specs.Machine.{Armed}
use Rattle.engine.specs.Showing.{Steady}
use Rattle.network.specs.declared.Checker.{Checker}
use Rattle.network.specs.Network as Network
use Rattle.network.specs.Network.{bound_to, of_number}
use Rattle.network.specs.Sound.{call_sound, on_call, entry_of_call, four_acall, never_falls, in_order, sound}
use Rattle.network.proofs.States.Ordering.{images_same, never_keep}
use Rattle.network.specs.Grouped.{checker, row_of, ungrouped, templates_of, grouped_calls, grouped}

-- Where numbers never fall, those of 0 come first.
module _ {A : Type 0} (p : A → Bool) (f : A → ℕ) (above : (x : A) → p x ≡ true → f x ≡ 0) (below : (x : A) → p x ≡ false → 1 ≤ f x) where
  none_above_lem : (m : ℕ) (l : List A) → 1 ≤ m → never_falls m (map f l) ≡ true → any p l ≡ false
  unfolding any never_falls
  none_above_lem m [] h e = refl
  none_above_lem m (x ∷ l) h e =
      let (a, b) = and_parts (leb m (f x)) (never_falls (f x) (map f l)) e in
      let up : 1 ≤ f x = omega (arith, leb-true m (f x) a) in
      go (p x) refl up (none_above_lem (f x) l up b)
    where
      go : (c : Bool) → p x ≡ c → 1 ≤ f x → any p l ≡ false → cond c true (any p l) ≡ false
      go true e h k = absurd (omega (arith, above x e))
      go false e h k = k

  all_kept : (l : List A) → any p l ≡ false → keep (λ x. not (p x)) l ≡ l
  unfolding any keep
  all_kept [] h = refl
  all_kept (x ∷ l) h = go (p x) refl h (all_kept l)
    where
      go : (c : Bool) → p x ≡ c → cond c true (any p l) ≡ false → (any p l ≡ false → keep (λ x. not (p x)) l ≡ l) → cond (not c) (x ∷ keep (λ x. not (p x)) l) (keep (λ x. not (p x)) l) ≡ x ∷ l
      go true e h k = absurd (false≢true (sym h))
      go false e h k = ap (λ (m : List A). x ∷ m) (k h)

  parted : (m : ℕ) (l : List A) → never_falls m (map f l) ≡ true → keep p l ++ keep (λ x. not (p x)) l ≡ l
  unfolding keep never_falls
  parted m [] e = refl
  parted m (x ∷ l) e =
      let (a, b) = and_parts (leb m (f x)) (never_falls (f x) (map f l)) e in
      go (p x) refl b (parted (f x) l b)
    where
      go : (c : Bool) → p x ≡ c → never_falls (f x) (map f l) ≡ true → keep p l ++ keep (λ x. not (p x)) l ≡ l
          → cond c (x ∷ keep p l) (keep p l) ++ cond (not c) (x ∷ keep (λ x. not (p x)) l) (keep (λ x. not (p x)) l) ≡ x ∷ l
      go true e b k = ap (λ (m : List A). x ∷ m) k
      go false e b k =
          let none = none_above_lem (f x) l (below x e) b in
          rw (keep_none p l none) (ap (λ (m : List A). x ∷ m) (all_kept l none))

-- a checker of a number, from its template, where all of that number carry one position
own_back : (n q : ℕ) (l : List Checker) → ((h : Checker) → Among h l → eqb h.number n ≡ true → h.entry ≡ q) → map (checker n q) (templates_of n l) ≡ keep (bound_to n) l
unfolding keep
own_back n q [] f = refl
own_back n q (h ∷ l) f = go (eqb h.number n) refl (own_back n q l (λ x m. f x (inr m)))
  where
    go : (b : Bool) → eqb h.number n ≡ b → map (checker n q) (templates_of n l) ≡ keep (bound_to n) l
        → map (checker n q) (map (λ (x : Checker). x.template) (cond b (h ∷ keep (bound_to n) l) (keep (bound_to n) l))) ≡ cond b (h ∷ keep (bound_to n) l) (keep (bound_to n) l)
    go true e k =
        let same = eqb-true h.number n e in
        λ i. checker (sym same i) (sym (f h (inl refl) e) i) h.template ∷ k i
    go false e k = k

-- the checkers of other numbers are not those of one
others : (n m : ℕ) (l : List Checker) → eqb n m ≡ false → keep (bound_to m) (keep (λ h. not (bound_to n h)) l) ≡ keep (bound_to m) l
unfolding keep
others n m [] e = refl
others n m (h ∷ l) e = go (eqb h.number n) refl (eqb h.number m) refl (others n m l e)
  where
    go : (b : Bool) → eqb h.number n ≡ b → (c : Bool) → eqb h.number m ≡ c → keep (bound_to m) (keep (λ h. not (bound_to n h)) l) ≡ keep (bound_to m) l
        → keep (bound_to m) (cond (not b) (h ∷ keep (λ h. not (bound_to n h)) l) (keep (λ h. not (bound_to n h)) l)) ≡ cond c (h ∷ keep (bound_to m) l) (keep (bound_to m) l)
    go true f true g k = absurd (false≢true (sym e ∙ eq-eqb n m (sym (eqb-true h.number n f) ∙ eqb-true h.number m g)))
    go true f false g k = k
    go false f true g k = rw g (ap (λ (r : List Checker). h ∷ r) k)
    go false f false g k = rw g k

without : (n : ℕ) (calls : List Call) (l : List Checker) → any (λ (c : Call). eqb n c.number) calls ≡ false → grouped_calls calls (keep (λ h. not (bound_to n h)) l) ≡ grouped_calls calls l
unfolding any
without n [] l h = refl
without n (c ∷ calls) l h = go (eqb n c.number) refl h (without n calls l)
  where
    go : (b : Bool) → eqb n c.number ≡ b → cond b true (any (λ (c : Call). eqb n c.number) calls) ≡ false
        → (any (λ (c : Call). eqb n c.number) calls ≡ false → grouped_calls calls (keep (λ h. not (bound_to n h)) l) ≡ grouped_calls calls l)
        → grouped_calls (c ∷ calls) (keep (λ h. not (bound_to n h)) l) ≡ grouped_calls (c ∷ calls) l
    go true e h k = absurd (false≢true (sym h))
    go false e h k =
        let own : Armed = record { call = c; armed = templates_of c.number l } in
        ap₂ (λ (r : List Checker) (m : List Armed). record { call = c; armed = map (λ (x : Checker). x.template) r } ∷ m) (others n c.number l e) (k h)

-- numbers that never fall, each less by one
never_less : (m : ℕ) (l : List ℕ) → never_falls (suc m) (map suc l) ≡ never_falls m l
unfolding never_falls
never_less m [] = refl
never_less m (k ∷ l) = rw (leb-suc-suc m k, never_less k l)

never_down : (l : List ℕ) → never_falls 0 (map suc l) ≡ true → never_falls 0 l ≡ true
unfolding never_falls
never_down [] h = refl
never_down (k ∷ l) h = and_both (le-leb 0 k (omega arith)) (sym (never_less k l) ∙ (and_parts (leb 0 (suc k)) (never_falls (suc k) (map suc l)) h).1)

flip : (m n : ℕ) (b : Bool) → eqb m n ≡ b → eqb n m ≡ b
flip m n true e = eq-eqb n m (sym (eqb-true m n e))
flip m n false e = ne_eqb n m (λ h. eqb-false m n e (sym h))

-- A checker carries the position of its call's entry: that of the first call, where this is its call and no other has its number, or else that of one behind it.
module _ (c : Call) (calls : List Call) (h : Checker) (k : entry_of_call (c ∷ calls) h ≡ true) where
  carried_here : any (λ (x : Call). eqb c.number x.number) calls ≡ false → eqb h.number c.number ≡ true → h.entry ≡ c.entry
  unfolding entry_of_call any
  carried_here apart e = go (eqb c.entry h.entry) refl (rw (flip h.number c.number true e) at k)
    where
      go : (b : Bool) → eqb c.entry h.entry ≡ b → cond b true (entry_of_call calls h) ≡ true → h.entry ≡ c.entry
      go true f k = sym (eqb-true c.entry h.entry f)
      go false f k =
          absurd (false≢true (sym apart ∙ any_weaker (λ (x : Call). eqb c.number x.number) (λ (x : Call). eqb x.number h.number && eqb x.entry h.entry)
          (λ x t. eq-eqb c.number x.number (sym (eqb-true h.number c.number e) ∙ sym (eqb-true x.number h.number (and_parts (eqb x.number h.number) _ t).0))) calls k))

  carried_behind : eqb c.number h.number ≡ false → entry_of_call calls h ≡ true
  unfolding entry_of_call any
  carried_behind e = rw e at k

-- The row of the calls with their checkers is the row of checkers.
pub row_grouped : (calls : List Call) (l : List Checker) → distinct (map (λ (c : Call). c.number) calls) ≡ true → every (entry_of_call calls) l ≡ true → in_order calls l ≡ true → row_of (grouped_calls calls l) ≡ l
unfolding row_of every any distinct in_order place_of entry_of_call
row_grouped [] [] d o i = refl
row_grouped [] (h ∷ l) d o i = absurd (false≢true o)
row_grouped (c ∷ calls) l d o i =
    let n = c.number in
    let q : Checker → Bool = λ h. not (bound_to n h) in
    let f : Checker → ℕ = λ h. place_of (of_number h.number) (c ∷ calls) in
    let g : Checker → ℕ = λ h. place_of (of_number h.number) calls in
    let (a, b) = simp (and_iff, not_iff) at d in
    let apart : any (λ (x : Call). eqb n x.number) calls ≡ false = sym (any_map (eqb n) (λ (x : Call). x.number) calls) ∙ a in
    let other : (h : Checker) → Among h (keep q l) → eqb n h.number ≡ false = λ h m. flip h.number n false (not-true (eqb h.number n) (kept_passes q l h m).1) in
    let on : every (entry_of_call calls) (keep q l) ≡ true = among_every (entry_of_call calls) (keep q l) (λ h m. carried_behind c calls h (every_among (entry_of_call (c ∷ calls)) l h o (kept_passes q l h m).0) (other h m)) in
    let places : map f (keep q l) ≡ map suc (map g (keep q l)) = images_same f (λ h. suc (g h)) (keep q l) (λ h m. rw (other h m)) ∙ sym (map-map suc g (keep q l)) in
    let order : in_order calls (keep q l) ≡ true = never_down (map g (keep q l)) (ap (never_falls 0) (sym places) ∙ never_keep f q 0 l i) in
    let rest = row_grouped calls (keep q l) b on order in
    let whole = parted (bound_to n) f (λ h e. rw (flip h.number n true e)) (λ h e. rw (flip h.number n false e) (omega arith)) 0 l i in
    ap₂ (λ (x y : List Checker). x ++ y) (own_back n c.entry l (λ h m. carried_here c calls h (every_among (entry_of_call (c ∷ calls)) l h o m) apart)) (ap row_of (sym (without n calls l apart)) ∙ rest) ∙ whole

pub calls_back : (calls : List Call) (l : List Checker) → map (λ (a : Armed). a.call) (grouped_calls calls l) ≡ calls
calls_back [] l = refl
calls_back (c ∷ calls) l = ap (λ (m : List Call). c ∷ m) (calls_back calls l)

-- A sound state is the one of its calls with their checkers.
pub ungrouped_grouped : (N : Network) (σ : Network.State) → sound N σ ≡ true → ungrouped (grouped σ) ≡ σ
unfolding sound grouped ungrouped
ungrouped_grouped N σ h =
    let (m, (v, (c, (d, (n, (k, ((o, (q, (f, i))), w))))))) = simp and_iff at h in
    let row = row_grouped σ.calls σ.checkers d q i in
    let calls = calls_back σ.calls σ.checkers in
    λ j. record { configuration = σ.configuration; calls = calls j; checkers = row j; position = σ.position; verdict = σ.verdict }

-- At most four checkers stand with each call, and it is a state that the engine may rest on.
module _ (N : Network) (σ : Network.State) (h : sound N σ ≡ true) where
  abbrev of : Call → Armed
  of c = record { call = c; armed = templates_of c.number σ.checkers }

  pub grouped_few : every (λ (a : Armed). leb (length a.armed) 4) (grouped_calls σ.calls σ.checkers) ≡ true
  unfolding sound four_acall
  grouped_few =
      let (m, (v, (f, (d, (n, (k, ((o, (q, (g, i))), w))))))) = simp and_iff at h in
      every_map (λ (a : Armed). leb (length a.armed) 4) of σ.calls
      ∙ every_weaker (λ (c : Call). leb (length (keep (bound_to c.number) σ.checkers)) 4) (λ (c : Call). leb (length (templates_of c.number σ.checkers)) 4) (λ c t. rw (length-map (keep (bound_to c.number) σ.checkers) (λ (x : Checker). x.template)) t) σ.calls g

  keeps_all : (c : Call) → call_sound N c ≡ true → eqb (length c.kept) N.common.programs ≡ true
  unfolding call_sound
  keeps_all c t = (simp and_iff at t).1

  there : (n : ℕ) (l : List Checker) → every (on_call N σ.calls) l ≡ true → every (λ j. ltb j (length N.templates)) (templates_of n l) ≡ true
  unfolding on_call
  there n l o =
      let low : Checker → Bool = λ x. ltb x.template (length N.templates) in
      every_map (λ j. ltb j (length N.templates)) (λ (x : Checker). x.template) (keep (bound_to n) l)
      ∙ every_keep (bound_to n) low l (every_weaker (on_call N σ.calls) low (λ x t. (and_parts (low x) _ t).0) l o)

  pub grouped_steady : Steady N.common (length N.templates) (grouped σ)
  unfolding sound grouped
  grouped_steady =
      let (m, (v, (f, (d, (p, (k, ((o, (q, (g, i))), w))))))) = simp (and_iff, leb_iff, eqb_iff) at h in
      record {
        main = m;
        variables = v;
        few = omega (arith, f, length-map σ.calls of);
        apart = ap distinct (map-map (λ (a : Armed). a.call.number) of σ.calls) ∙ d;
        kept = every_map (λ (a : Armed). eqb (length a.call.kept) N.common.programs) of σ.calls ∙ every_weaker (call_sound N) (λ (c : Call). eqb (length c.kept) N.common.programs) keeps_all σ.calls k;
        there = every_map (λ (a : Armed). every (λ j. ltb j (length N.templates)) a.armed) of σ.calls ∙ among_every (λ (c : Call). every (λ j. ltb j (length N.templates)) (templates_of c.number σ.checkers)) σ.calls (λ c n. there c.number σ.checkers o);
      }
