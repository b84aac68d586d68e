-- The checkers that an entry creates: bound to its call, of its unit's templates, at most four; with them the checkers stay sound. Assumes nothing.
use mathlib.Core.Path.{◌≡◌, refl, sym, ap, ◌∙◌}
use mathlib.Core.Logic.{inl, inr}
use mathlib.Core.Bool.{Bool, true, false, cond, ◌&&◌, false≢true}
use mathlib.Core.Option.{Option, none, some}
use mathlib.Core.List.{List, [], ◌∷◌, ◌++◌, map, append-nil}
use Prim.Native.Nat.{ℕ, ◌≤◌, ◌<◌}
use native.Mathlib.Omega.{arith}
use borrow.Author.Tests.{le-leb, lt-ltb, eq-eqb, eqb-true}
use lib.Dec.{eqb, leb}
use lib.ListN.{length, length-map}
use Rattle.sheet.specs.declared.Pair.{Pair}
use Rattle.sheet.specs.Table.{every}
use Rattle.sheet.specs.Parts.{Paired, Network}
use Rattle.sheet.specs.Decode.{transition_of, common_of, network_of}
use Rattle.sheet.specs.Reading.{transitions_of, network_layout}
use Rattle.sheet.specs.Log.{Event}
use Rattle.sheet.proofs.Accepted.{Accepted, network_pair, network_pairs}
use Rattle.sheet.proofs.Tables.{and_both, every_append, every_weaker}
use Rattle.sheet.proofs.Tests.{and_iff, eqb_iff}
use Rattle.step.specs.Lists.{Among, first, keep, any}
use Rattle.step.specs.Meets.{meets}
use Rattle.step.specs.Moves.{Configuration, seen, enabled}
use Rattle.step.specs.Calls.{Call}
use Rattle.step.proofs.OnLists.Lists.{keep_append, first_passes, kept_passes}
use Rattle.step.proofs.OnLists.Turns.{any_append}
use Rattle.step.proofs.OnLists.Keeping.{every_among, among_every, among_at, length_keep}
use Rattle.network.specs.declared.Checker.{Checker}
use Rattle.network.specs.Network.{template_in, pairs_in, created, bound_to, of_number}
use Rattle.network.specs.Sound.{on_call, entry_of_call, four_acall, in_order, checkers_sound}
use Rattle.network.proofs.States.Living.{on_open}
use Rattle.network.proofs.States.Ordering.{among_image, order_more}

no_paired : Paired
no_paired = record { base = transition_of []; pairs = [] }

no_pair : Pair
no_pair = record { condition = 0; template = 0 }

-- a checker that is bound to an event's call, which is entered at a position, of a template of its unit
pub record Bound (s : List ℕ) (position : ℕ) (e : Event) (h : Checker) : Type 0 where
  pub number : h.number ≡ e.number
  pub entry : h.entry ≡ position
  pub template : h.template < length (network_of s).templates
  pub unit : (template_in (network_of s) h.template).unit ≡ e.unit

module _ {s : List ℕ} (a : Accepted network_layout s) (k : Configuration) (position : ℕ) (e : Event) where
  abbrev takes : Paired → Bool
  takes t = enabled (common_of s) k e t.base

  abbrev starts : Pair → Bool
  starts p = meets (common_of s) p.condition (seen e k)

  abbrev of_pair : Pair → Checker
  of_pair p = record { number = e.number; template = p.template; entry = position }

  pub created_few : length (created (network_of s) k position e) ≤ 4
  unfolding created network_of keep
  created_few = go (first takes (transitions_of network_layout s)) refl
    where
      go : (o : Option Paired) → first takes (transitions_of network_layout s) ≡ o → length (map of_pair (keep starts (pairs_in o))) ≤ 4
      go none f = omega arith
      go (some t) f =
          let (i, j, x) = among_at no_paired (transitions_of network_layout s) t (first_passes takes (transitions_of network_layout s) t f).0 in
          let few : length t.pairs ≤ 4 = rw x at (network_pairs a i no_paired j) in
          omega (arith, length-map (keep starts t.pairs) of_pair, length_keep starts t.pairs)

  pub created_bound : (h : Checker) → Among h (created (network_of s) k position e) → Bound s position e h
  unfolding created network_of keep enabled
  created_bound h m = go (first takes (transitions_of network_layout s)) refl m
    where
      go : (o : Option Paired) → first takes (transitions_of network_layout s) ≡ o → Among h (map of_pair (keep starts (pairs_in o))) → Bound s position e h
      go none f m = absurd m
      go (some t) f m =
          let ts = transitions_of network_layout s in
          let (p, b, y) = among_image of_pair (keep starts t.pairs) h m in
          let (c, d) = first_passes takes ts t f in
          let (i, j, x) = among_at no_paired ts t c in
          let (u, v, w) = among_at no_pair t.pairs p (kept_passes starts t.pairs p b).0 in
          let g = rw (x, w) at (network_pair a i no_paired j u no_pair (rw x v)) in
          let (q, (r, (z, n))) = simp (and_iff, eqb_iff) at d in
          record { number = ap (λ (h : Checker). h.number) y; entry = ap (λ (h : Checker). h.entry) y; template = rw y g.template; unit = rw y (g.unit ∙ z) }

-- What no element passes, each fails; what each fails, none is kept by; and one more that passes is enough.
module _ {A : Type 0} (p : A → Bool) where
  pub none_among : (l : List A) → any p l ≡ false → (x : A) → Among x l → p x ≡ false
  unfolding any
  none_among [] h x m = absurd m
  none_among (y ∷ l) h x m = go (p y) refl h (λ k. none_among l k x) m
    where
      go : (b : Bool) → p y ≡ b → cond b true (any p l) ≡ false → (any p l ≡ false → Among x l → p x ≡ false) → Among x (y ∷ l) → p x ≡ false
      go true e k f n = absurd (false≢true (sym k))
      go false e k f (inl i) = ap p i ∙ e
      go false e k f (inr n) = f k n

  pub none_kept : (l : List A) → ((x : A) → Among x l → p x ≡ false) → keep p l ≡ []
  unfolding keep
  none_kept [] h = refl
  none_kept (x ∷ l) h = rw (h x (inl refl)) (none_kept l (λ y m. h y (inr m)))

  pub any_last : (l : List A) (x : A) → p x ≡ true → any p (l ++ x ∷ []) ≡ true
  unfolding any
  any_last l x t = any_append p l (x ∷ []) ∙ rw t (go (any p l))
    where
      go : (b : Bool) → cond b true true ≡ true
      go true = refl
      go false = refl

-- With a call more behind theirs, and its checkers, checkers still carry their calls' positions.
carried_more : (calls : List Call) (c : Call) (l m : List Checker) → every (entry_of_call calls) l ≡ true → every (entry_of_call (calls ++ c ∷ [])) m ≡ true → every (entry_of_call (calls ++ c ∷ [])) (l ++ m) ≡ true
unfolding entry_of_call
carried_more calls c l m o h =
    every_append (entry_of_call (calls ++ c ∷ [])) l m
    ∙ and_both (every_weaker (entry_of_call calls) (entry_of_call (calls ++ c ∷ [])) (λ x t. any_append (λ (d : Call). eqb d.number x.number && eqb d.entry x.entry) calls (c ∷ []) ∙ rw t) l o) h

-- A call that comes last, of a number that is not open, with its checkers.
module _ (N : Network) (calls : List Call) (c : Call) (l m : List Checker) (z : any (of_number c.number) calls ≡ false) (o : every (on_call N calls) l ≡ true) where
  on_more : every (on_call N (calls ++ c ∷ [])) m ≡ true → every (on_call N (calls ++ c ∷ [])) (l ++ m) ≡ true
  unfolding on_call
  on_more h =
      every_append (on_call N (calls ++ c ∷ [])) l m
      ∙ and_both (every_weaker (on_call N calls) (on_call N (calls ++ c ∷ [])) (λ x t. let (i, j) = simp and_iff at t in
      and_both i (any_append (λ (d : Call). eqb d.number x.number && eqb d.unit (template_in N x.template).unit) calls (c ∷ []) ∙ rw j)) l o) h

  open_all : every (λ (h : Checker). any (of_number h.number) calls) l ≡ true
  open_all = every_weaker (on_call N calls) (λ (h : Checker). any (of_number h.number) calls) (on_open N calls) l o

  module _ (b : every (bound_to c.number) m ≡ true) where
    -- none of its checkers is bound to another call, and none of the others to it
    new_apart : (d : Call) → Among d calls → keep (bound_to d.number) m ≡ []
    new_apart d i =
        none_kept (bound_to d.number) m (λ x j. rw (eqb-true x.number c.number (every_among (bound_to c.number) m x b j)) (apart (eqb c.number d.number) refl (none_among (of_number c.number) calls z d i)))
      where
        apart : (b : Bool) → eqb c.number d.number ≡ b → eqb d.number c.number ≡ false → b ≡ false
        apart true e f = absurd (false≢true (sym f ∙ eq-eqb d.number c.number (sym (eqb-true c.number d.number e))))
        apart false e f = refl

    old_apart : keep (bound_to c.number) l ≡ []
    old_apart = none_kept (bound_to c.number) l (λ x i. apart x (eqb x.number c.number) refl (every_among (λ (h : Checker). any (of_number h.number) calls) l x open_all i))
      where
        apart : (x : Checker) (b : Bool) → eqb x.number c.number ≡ b → any (of_number x.number) calls ≡ true → b ≡ false
        apart x true e f = absurd (false≢true (sym z ∙ (rw (eqb-true x.number c.number e) at f)))
        apart x false e f = refl

    four_more : length m ≤ 4 → four_acall calls l ≡ true → four_acall (calls ++ c ∷ []) (l ++ m) ≡ true
    unfolding four_acall every
    four_more few h =
        let four : List Checker → Call → Bool = λ r d. leb (length (keep (bound_to d.number) r)) 4 in
        let old : every (four (l ++ m)) calls ≡ true = among_every (four (l ++ m)) calls (λ d i. rw (keep_append (bound_to d.number) l m, new_apart d i, append-nil (keep (bound_to d.number) l)) (every_among (four l) calls d h i)) in
        let new : four (l ++ m) c ≡ true = rw (keep_append (bound_to c.number) l m, old_apart) (le-leb (length (keep (bound_to c.number) m)) 4 (omega (arith, length_keep (bound_to c.number) m))) in
        every_append (four (l ++ m)) calls (c ∷ []) ∙ and_both old (and_both new refl)

pub created_sound : {s : List ℕ} → Accepted network_layout s → (k : Configuration) (position : ℕ) (e : Event) (calls : List Call) (c : Call) (l : List Checker) → c.number ≡ e.number → c.unit ≡ e.unit → c.entry ≡ position
    → any (of_number e.number) calls ≡ false → every (on_call (network_of s) calls) l ≡ true → every (entry_of_call calls) l ≡ true → four_acall calls l ≡ true → in_order calls l ≡ true
    → checkers_sound (network_of s) (calls ++ c ∷ []) (l ++ created (network_of s) k position e) ≡ true
unfolding on_call entry_of_call
created_sound {s} a k position e calls c l n u q z o p f i =
    let N = network_of s in
    let m = created N k position e in
    let shut : any (of_number c.number) calls ≡ false = rw n z in
    let b : every (bound_to c.number) m ≡ true = among_every (bound_to c.number) m (λ x j. eq-eqb x.number c.number ((created_bound a k position e x j).number ∙ sym n)) in
    let on : every (on_call N (calls ++ c ∷ [])) m ≡ true = among_every (on_call N (calls ++ c ∷ [])) m (λ x j.
    let g = created_bound a k position e x j in
    and_both (lt-ltb x.template (length N.templates) g.template) (any_last (λ (d : Call). eqb d.number x.number && eqb d.unit (template_in N x.template).unit) calls c
    (and_both (eq-eqb c.number x.number (n ∙ sym g.number)) (eq-eqb c.unit (template_in N x.template).unit (u ∙ sym g.unit))))) in
    let carried : every (entry_of_call (calls ++ c ∷ [])) m ≡ true = among_every (entry_of_call (calls ++ c ∷ [])) m (λ x j.
    let g = created_bound a k position e x j in
    any_last (λ (d : Call). eqb d.number x.number && eqb d.entry x.entry) calls c (and_both (eq-eqb c.number x.number (n ∙ sym g.number)) (eq-eqb c.entry x.entry (q ∙ sym g.entry)))) in
    and_both (on_more N calls c l m shut o on)
    (and_both (carried_more calls c l m p carried)
    (and_both (four_more N calls c l m shut o b (created_few a k position e) f) (order_more calls c l m i (open_all N calls c l m shut o) shut b)))
