-- Which states are sound: the fresh one, and what a sound one comes to at an event. Assumes nothing.
use mathlib.Core.Path.{◌≡◌, refl, sym, ap, ◌∙◌}
use mathlib.Core.Bool.{Bool, true, false, not, cond, ◌&&◌}
use mathlib.Core.Option.{Option, none, some}
use mathlib.Core.List.{List, [], ◌∷◌, ◌++◌, map, map-append}
use Prim.Native.Nat.{ℕ, zero, suc, ◌+◌}
use native.Mathlib.Omega.{arith}
use borrow.Author.Tests.{eq-eqb, lt-ltb, le-leb, leb-false, eqb-true}
use lib.Dec.{eqb, ltb, leb}
use lib.ListN.{length, length-append}
use Rattle.sheet.specs.Table.{every}
use Rattle.sheet.specs.Parts.{Network, bases}
use Rattle.sheet.specs.Decode.{common_of, network_of}
use Rattle.sheet.specs.Reading.{network_layout}
use Rattle.sheet.specs.Log.{Event}
use Rattle.sheet.proofs.Accepted.{Accepted, bounds}
use Rattle.sheet.proofs.Tables.{and_parts, and_both, every_append, every_map, every_weaker}
use Rattle.sheet.proofs.Tests.{and_iff, leb_iff, eqb_iff}
use Rattle.step.specs.Lists.{first, keep, any, least, distinct, rising}
use Rattle.step.specs.Moves.{Configuration}
use Rattle.step.specs.Calls.{Call, is_entry, entry_for, entries_sound}
use Rattle.step.specs.Verdicts.{is_judged, if_there}
use Rattle.step.specs.Runs.{offered}
use Rattle.step.proofs.OnLists.Lists.{any_map, any_keep, first_passes, kept_passes, least_some}
use Rattle.step.proofs.OnEvents.Refusing as Refusing
use Rattle.step.proofs.OnEvents.Entries.{entries_fewer, entries_more, entry_before}
use Rattle.step.proofs.OnLists.Keeping.{every_among, among_every, every_keep, length_keep, distinct_keep, distinct_more}
use Rattle.network.specs.declared.Checker.{Checker}
use Rattle.network.specs.Network.{State, fresh, template_in, bound_to, fails, failing, of_number, entered, exited, refusal, offer}
use Rattle.network.specs.Sound.{call_sound, on_call, entry_of_call, four_acall, never_falls, in_order, checkers_sound, sound}
use Rattle.step.proofs.OnEvents.Moving.{network_good, moved_main, moved_variables, verdict_fits_lem}
use Rattle.network.proofs.States.Living.{four_fewer}
use Rattle.network.proofs.States.Ordering.{order_fewer}
use Rattle.network.proofs.States.Created.{created_sound}

-- "A fresh state is defined for every accepted" network: it is sound
pub fresh_sound : {s : List ℕ} → Accepted network_layout s → sound (network_of s) (fresh (network_of s)) ≡ true
unfolding sound fresh network_of every distinct rising four_acall in_order never_falls
fresh_sound {s} a =
    let b = bounds a in
    let C = common_of s in
    rw (lt-ltb C.start C.states b.start, eq-eqb _ C.monitors b.initial, b.start_good)

-- An event that is refused for no reason.
abbrev pub Free : Network → State → Event → Type 0
Free N σ e = Refusing.Free N.common (is_judged σ.verdict) σ.position σ.calls e

pub free : (N : Network) (σ : State) (e : Event) → refusal N σ e ≡ 0 → Free N σ e
unfolding refusal
free N σ e h = Refusing.free N.common (is_judged σ.verdict) σ.position σ.calls e h

-- The checkers that are left where the calls and checkers of a number go.
module _ (N : Network) (n : ℕ) (calls : List Call) (l : List Checker) where
  abbrev others : Call → Bool
  others c = not (of_number n c)

  -- a call of another number stays open, with what it passes
  still_open_lem : (x : Checker) → not (bound_to n x) ≡ true → (t : Call → Bool) → any (λ c. eqb c.number x.number && t c) calls ≡ true → any (λ c. eqb c.number x.number && t c) (keep (λ c. not (of_number n c)) calls) ≡ true
  still_open_lem x j t h = sym (any_keep others (λ c. eqb c.number x.number && t c) (λ c e. rw (eqb-true c.number x.number (and_parts (eqb c.number x.number) (t c) e).0) j) calls) ∙ h

  on_fewer : every (on_call N calls) l ≡ true → every (on_call N (keep (λ c. not (of_number n c)) calls)) (keep (λ h. not (bound_to n h)) l) ≡ true
  unfolding on_call
  on_fewer h =
      let r : Checker → Bool = λ x. not (bound_to n x) in
      among_every (on_call N (keep others calls)) (keep r l) (λ x m.
      let (i, j) = kept_passes r l x m in
      let (t, o) = and_parts (ltb x.template (length N.templates)) _ (every_among (on_call N calls) l x h i) in
      and_both t (still_open_lem x j (λ c. eqb c.unit (template_in N x.template).unit) o))

  carried_fewer : every (entry_of_call calls) l ≡ true → every (entry_of_call (keep (λ c. not (of_number n c)) calls)) (keep (λ h. not (bound_to n h)) l) ≡ true
  unfolding entry_of_call
  carried_fewer h =
      let r : Checker → Bool = λ x. not (bound_to n x) in
      among_every (entry_of_call (keep others calls)) (keep r l) (λ x m.
      let (i, j) = kept_passes r l x m in still_open_lem x j (λ c. eqb c.entry x.entry) (every_among (entry_of_call calls) l x h i))

  pub checkers_left : every (on_call N calls) l ≡ true → every (entry_of_call calls) l ≡ true → four_acall calls l ≡ true → in_order calls l ≡ true
      → checkers_sound N (keep (λ c. not (of_number n c)) calls) (keep (λ h. not (bound_to n h)) l) ≡ true
  unfolding four_acall
  checkers_left o p f i =
      let r : Checker → Bool = λ x. not (bound_to n x) in
      and_both (on_fewer o)
      (and_both (carried_fewer p)
      (and_both (every_keep (λ c. not (of_number n c)) (λ (c : Call). leb (length (keep (bound_to c.number) (keep r l))) 4) calls (four_fewer r calls l f)) (order_fewer n calls l i)))

-- what holds of all numbers holds of the least
pub least_passes : (p : ℕ → Bool) (l : List ℕ) → every p l ≡ true → if_there (least l) p ≡ true
least_passes p l h = go (least l) refl
  where
    go : (o : Option ℕ) → least l ≡ o → if_there o p ≡ true
    go none e = refl
    go (some i) e = every_among p l i h (least_some l i e).0

-- the template that fails is that of a checker, so it exists; b is a test that passes where the call is open
failing_there : (N : Network) (k : Configuration) (e : Event) (calls : List Call) (l : List Checker) → every (on_call N calls) l ≡ true
    → (b : Bool) (o : Option Call) → ((c : Call) → o ≡ some c → b ≡ true) → if_there (failing N k e l o) (λ i. ltb i (length N.templates) && b) ≡ true
unfolding on_call
failing_there N k e calls l h b none f = refl
failing_there N k e calls l h b (some c) f =
    let p : ℕ → Bool = λ i. ltb i (length N.templates) && b in
    let of : Checker → Bool = λ x. p x.template in
    let all : every of l ≡ true = every_weaker (on_call N calls) of (λ x t. and_both (and_parts (ltb x.template (length N.templates)) _ t).0 (f c refl)) l h in
    let row = keep (fails N k e c) (keep (bound_to c.number) l) in
    least_passes p (map (λ (x : Checker). x.template) row) (every_map p (λ (x : Checker). x.template) row ∙ every_keep (fails N k e c) of (keep (bound_to c.number) l) (every_keep (bound_to c.number) of l all))

-- and that call was entered before the exit
entered_before : (n position : ℕ) (calls : List Call) → entries_sound position (map (λ (c : Call). c.entry) calls) ≡ true → (c : Call) → first (of_number n) calls ≡ some c
    → (leb 1 (entry_for n calls) && ltb (entry_for n calls) (position + 1)) ≡ true
entered_before n position calls h c e = rw e (entry_before (λ (c : Call). c.entry) position calls h c (first_passes (of_number n) calls c e).0)

module _ {s : List ℕ} (a : Accepted network_layout s) (σ : State) (e : Event) where
  -- An exit keeps a sound state sound.
  pub exited_sound : sound (network_of s) σ ≡ true → sound (network_of s) (exited (network_of s) σ e) ≡ true
  unfolding sound exited network_of
  exited_sound h =
      let N = network_of s in
      let k = σ.configuration in
      let (m, (v, (c, (d, (((z, b), r), (f, ((g, (p, (x, y))), w))))))) = simp (and_iff, leb_iff, eqb_iff) at h in
      let sound-entries = and_both (and_both z b) r in
      let q : Call → Bool = λ b. not (of_number e.number b) in
      let few = length_keep q σ.calls in
      and_both (lt-ltb _ _ (moved_main (common_of s) (bases N) (λ t i. (network_good a t i).to) k e m))
      (and_both (eq-eqb _ _ (moved_variables (common_of s) (bases N) k e ∙ v))
      (and_both (le-leb (length (keep q σ.calls)) 16 (omega arith))
      (and_both (distinct_keep (λ (b : Call). b.number) q σ.calls d)
      (and_both (entries_fewer (λ (b : Call). b.entry) σ.position σ.calls sound-entries q)
      (and_both (every_keep q (call_sound N) σ.calls f)
      (and_both (checkers_left N e.number σ.calls σ.checkers g p x y)
      (verdict_fits_lem (common_of s).bad (length N.templates) _ (σ.position + 1) _ _ (failing_there N k e σ.calls σ.checkers g _ (first (of_number e.number) σ.calls) (entered_before e.number σ.position σ.calls sound-entries)))))))))

  -- An entry that is taken keeps a sound state sound.
  pub entered_sound : sound (network_of s) σ ≡ true → refusal (network_of s) σ e ≡ 0 → is_entry e ≡ true → sound (network_of s) (entered (network_of s) σ e) ≡ true
  unfolding sound entered call_sound every network_of
  entered_sound h z y =
      let N = network_of s in
      let k = σ.configuration in
      let f = free N σ e z in
      let (m, (v, (c, (d, (((z, j), r), (g, ((o, (p, (b, i))), w))))))) = simp (and_iff, leb_iff, eqb_iff) at h in
      let new : Call = record { number = e.number; unit = e.unit; entry = σ.position + 1; kept = e.values } in
      let shut : any (of_number e.number) σ.calls ≡ false = rw y at f.not_open in
      let room = leb-false 16 (length σ.calls) (rw y at f.room) in
      let longer = length-append σ.calls (new ∷ []) in
      and_both (lt-ltb _ _ (moved_main (common_of s) (bases N) (λ t i. (network_good a t i).to) k e m))
      (and_both (eq-eqb _ _ (moved_variables (common_of s) (bases N) k e ∙ v))
      (and_both (le-leb (length (σ.calls ++ new ∷ [])) 16 (omega arith))
      (and_both (ap distinct (map-append (λ (b : Call). b.number) σ.calls (new ∷ [])) ∙ distinct_more (map (λ (b : Call). b.number) σ.calls) e.number d (any_map (λ n. eqb n e.number) (λ (b : Call). b.number) σ.calls ∙ shut))
      (and_both (ap (entries_sound (σ.position + 1)) (map-append (λ (b : Call). b.entry) σ.calls (new ∷ [])) ∙ entries_more (λ (b : Call). b.entry) σ.position σ.calls (and_both (and_both z j) r))
      (and_both (every_append (call_sound N) σ.calls (new ∷ []) ∙ and_both g (and_both (and_both (lt-ltb _ _ f.unit) (eq-eqb _ _ f.values)) refl))
      (and_both (created_sound a k (σ.position + 1) e σ.calls new σ.checkers refl refl refl shut o p b i)
      (verdict_fits_lem (common_of s).bad (length N.templates) _ (σ.position + 1) 0 none refl)))))))

  -- "The state comes back as it went in" where the event is refused; a taken one keeps it sound.
  pub offer_sound : sound (network_of s) σ ≡ true → sound (network_of s) (offer (network_of s) σ e).state ≡ true
  unfolding offer
  offer_sound h = go (refusal (network_of s) σ e) refl (is_entry e) refl
    where
      go : (n : ℕ) → refusal (network_of s) σ e ≡ n → (b : Bool) → is_entry e ≡ b → sound (network_of s) (offered n σ (cond b (entered (network_of s) σ e) (exited (network_of s) σ e))).state ≡ true
      go zero z true y = entered_sound h z y
      go zero z false y = exited_sound h
      go (suc n) z b y = h
