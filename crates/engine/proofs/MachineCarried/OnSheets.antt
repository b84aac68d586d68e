-- The plan of an accepted sheet carries the sheet's machine. Assumes nothing.
use mathlib.Core.Path.{◌≡◌, refl, sym, ap, subst, ◌∙◌}
use mathlib.Core.Logic.{inl}
use mathlib.Core.Bool.{Bool, true, false, cond, ◌&&◌, false≢true}
use mathlib.Core.List.{List, [], ◌∷◌, map, map-id}
use Prim.Native.Nat.{ℕ, suc, ◌+◌, ◌≤◌, ◌<◌}
use native.Mathlib.Omega.{arith}
use borrow.Author.Tests.{eq-eqb}
use lib.Dec.{eqb, ltb}
use lib.ListN.{length, get_or}
use Rattle.condition.specs.Meaning.{environment}
use Rattle.sheet.specs.declared.Transition.{Transition}
use Rattle.sheet.specs.declared.Triple.{Triple}
use Rattle.sheet.specs.Table.{every}
use Rattle.sheet.specs.Parts.{Common}
use Rattle.sheet.specs.Decode.{common_of, sheet_of}
use Rattle.sheet.specs.Reading.{together, transitions_of, last_of, sheet_layout}
use Rattle.sheet.specs.Log.{Event}
use Rattle.sheet.specs.Answer.{places_of}
use Rattle.sheet.proofs.Accepted.{Accepted, bounds, sheet_transition, sheet_triple, sheet_together}
use Rattle.sheet.proofs.Placed.{condition_places, action_places}
use Rattle.sheet.proofs.Tables.{and_assoc, and_both}
use Rattle.sheet.proofs.Tests.{and_iff, eqb_iff}
use Rattle.step.specs.Lists.{keep, total, numbers}
use Rattle.step.specs.Meets.{meets, meets_count}
use Rattle.step.specs.Moves.{Configuration, seen}
use Rattle.step.proofs.OnLists.Lists.{kept_passes}
use Rattle.step.proofs.OnLists.Keeping.{among_at, keep_same}
use Rattle.step.proofs.OnEvents.Bridge.{no_transition}
use Rattle.step.proofs.OnEvents.Moving.{sheet_good, moved_main}
use Rattle.engine.specs.Machine.{arming, asked_count}
use Rattle.engine.specs.Machines.{of_sheet, no_triple}
use Rattle.engine.specs.Plan.{cell_of, paired_in, candidate_of, asked_of, number_of, behind_of}
use Rattle.engine.specs.Prepared.{sheet_plan}
use Rattle.engine.specs.Walk.{holds_by, count_by, chain, armed_in, armed_count}
use Rattle.engine.specs.Showing.{Fits, found_by, Carries}
use Rattle.engine.proofs.MachineCarried.Numbered.{keep_numbered, total_numbered, numbers_there, numbers_same, numbers_below, map_same}
use Rattle.engine.proofs.OnMachines.Candidates.{sheet_arming, sheet_asked}
use Rattle.engine.proofs.Plans.Turned.{Moves}
use Rattle.engine.proofs.Plans.Planned.{SheetPlanned, sheet_planned}
use Rattle.engine.proofs.MachineCarried.Carried.{cell_plain, cell_same, post_means, guard_means, moves_main, moves_variables, moves_count}

-- As many triples of one state and unit pass a test as there are of them, or fewer: 8 says that those are at most four.
few_of : (p : Triple → Bool) (t : Triple) → ((u : Triple) → p u ≡ true → (eqb u.state t.state && eqb u.unit t.unit) ≡ true) → (i : ℕ) (l : List Triple) → length (numbers p i l) ≤ together t l
unfolding numbers together
few_of p t h i [] = omega arith
few_of p t h i (u ∷ l) = go (p u) refl (eqb u.state t.state && eqb u.unit t.unit) refl (few_of p t h (suc i) l)
  where
    go : (b : Bool) → p u ≡ b → (c : Bool) → (eqb u.state t.state && eqb u.unit t.unit) ≡ c → length (numbers p (suc i) l) ≤ together t l
        → length (cond b (i ∷ numbers p (suc i) l) (numbers p (suc i) l)) ≤ cond c (suc (together t l)) (together t l)
    go true e true f k = omega arith
    go true e false f k = absurd (false≢true (sym f ∙ h u e))
    go false e true f k = omega arith
    go false e false f k = k

pub spread_few : {s : List ℕ} (a : Accepted sheet_layout s) (p : Triple → Bool) (m v : ℕ) → ((u : Triple) → p u ≡ true → (u.state ≡ m) × (u.unit ≡ v)) → length (numbers p 0 (last_of sheet_layout s)) ≤ 4
spread_few {s} a p m v h = go (numbers p 0 us) refl
  where
    us : List Triple
    us = last_of sheet_layout s

    go : (l : List ℕ) → numbers p 0 us ≡ l → length l ≤ 4
    go [] f = omega arith
    go (n ∷ l) f =
        let (i, y) = numbers_there no_triple us p n (rw f (inl refl)) in
        let t = get_or us n no_triple in
        let (ms, vs) = h t y in
        let same : (u : Triple) → p u ≡ true → (eqb u.state t.state && eqb u.unit t.unit) ≡ true = λ u z. and_both (eq-eqb _ _ ((h u z).0 ∙ sym ms)) (eq-eqb _ _ ((h u z).1 ∙ sym vs)) in
        omega (arith, few_of p t same 0 us, sheet_together a n no_triple i, ap length f)

module _ {s : List ℕ} (a : Accepted sheet_layout s) (short : length s ≤ 65535) where
  abbrev C : Common
  C = common_of s

  abbrev p : List ℕ
  p = sheet_plan s

  y : SheetPlanned s (condition_places s) (action_places s) (places_of sheet_layout s).last (transitions_of sheet_layout s) (last_of sheet_layout s) (sheet_plan s)
  y = sheet_planned a short

  x : Moves s (condition_places s) (action_places s) (map (λ t. t) (transitions_of sheet_layout s)) (sheet_plan s)
  x = rw (map-id (transitions_of sheet_layout s)) y.moves

  abbrev ts : List Transition
  ts = transitions_of sheet_layout s

  abbrev us : List Triple
  us = last_of sheet_layout s

  few_transitions : length (transitions_of sheet_layout s) ≤ 96
  few_transitions = omega (arith, (bounds a).transitions)

  module _ (k : Configuration) (e : Event) where
    armed_few : length (arming (of_sheet (sheet_of s)) k e) ≤ 4
    unfolding sheet_of
    armed_few = subst (λ (l : List ℕ). length l ≤ 4) (sym (sheet_arming (sheet_of s) k e)) (spread_few a _ k.main e.unit (λ u z. let (v, (w, r)) = simp (and_iff, eqb_iff) at z in (v, w)))

    armed_there : every (λ i. ltb i (length (last_of sheet_layout s))) (arming (of_sheet (sheet_of s)) k e) ≡ true
    unfolding sheet_of
    armed_there = ap (every (λ i. ltb i (length us))) (sheet_arming (sheet_of s) k e) ∙ numbers_below _ 0 (length us) us (omega arith)

    module _ (f : Fits (common_of s) k e) where
      abbrev c : ℕ
      c = cell_of k.main e.unit

      main_low : k.main < 16
      main_low = omega (arith, f.main, (bounds a).states)

      unit_low : e.unit < 16
      unit_low = omega (arith, f.unit, (bounds a).units)

      abbrev in_cell : Triple → Bool
      in_cell u = eqb (cell_of u.state u.unit) c

      -- of each triple: what its precondition means and counts, and the test of its cell
      asked_same : (i : ℕ) → i < length (last_of sheet_layout s)
          → (holds_by s (asked_of (sheet_plan s) i) (seen e k) ≡ meets (common_of s) (get_or (last_of sheet_layout s) i no_triple).precondition (seen e k)) × (count_by s (asked_of (sheet_plan s) i) (seen e k) ≡ meets_count (common_of s) (get_or (last_of sheet_layout s) i no_triple).precondition (seen e k))
      asked_same i l =
          let q = sheet_triple a i no_triple l in
          let (z, w) = guard_means a short (omega arith) (omega arith) 0 (λ t. t) no_transition p ts few_transitions (λ j m. sheet_transition a j no_transition m) y.heads x k e f (get_or us i no_triple).precondition q.precondition q.no_entry in
          (ap (λ (j : ℕ). holds_by s j (seen e k)) (y.asked i no_triple l) ∙ z, ap (λ (j : ℕ). count_by s j (seen e k)) (y.asked i no_triple l) ∙ w)

      cell_test : (i : ℕ) → i < length (last_of sheet_layout s)
          → eqb (cell_of (get_or (last_of sheet_layout s) i no_triple).state (get_or (last_of sheet_layout s) i no_triple).unit) (cell_of k.main e.unit) ≡ (eqb (get_or (last_of sheet_layout s) i no_triple).state k.main && eqb (get_or (last_of sheet_layout s) i no_triple).unit e.unit)
      cell_test i l =
          let u = get_or us i no_triple in
          let q = sheet_triple a i no_triple l in
          cell_same u.state u.unit k.main e.unit (omega (arith, q.state, (bounds a).states)) (omega (arith, q.unit, (bounds a).units)) main_low unit_low

      -- the numbers that the plan looks through are those of the cell
      celled_numbers : chain (behind_of (sheet_plan s)) 384 384 (candidate_of (sheet_plan s) (cell_of k.main e.unit) (found_by s (sheet_plan s) k e)) ≡ numbers (λ (u : Triple). eqb (cell_of u.state u.unit) (cell_of k.main e.unit)) 0 (last_of sheet_layout s)
      celled_numbers =
          let below : c < 256 = omega (arith, cell_plain k.main e.unit main_low unit_low, main_low, unit_low) in
          let first : get_or p (936 + cond (eqb (paired_in p) 0) c (found_by s p k e)) 0 ≡ get_or p (936 + c) 0 = ap (λ (n : ℕ). get_or p (936 + cond (eqb n 0) c (found_by s p k e)) 0) y.heads.paired in
          ap (chain (behind_of p) 384 384) first ∙ y.celled c below

      armed_same : armed_in s (sheet_plan s) (candidate_of (sheet_plan s) (cell_of k.main e.unit) (found_by s (sheet_plan s) k e)) (seen e k) ≡ arming (of_sheet (sheet_of s)) k e
      unfolding sheet_of armed_in
      armed_same =
          let h : Triple → Bool = λ u. meets C u.precondition (seen e k) in
          let g : ℕ → Bool = λ i. holds_by s (asked_of p i) (seen e k) in
          let tests = numbers_same no_triple (λ u. in_cell u && h u) _ 0 us (λ i l. ap (λ (b : Bool). b && h (get_or us i no_triple)) (cell_test i l) ∙ and_assoc (eqb (get_or us i no_triple).state k.main) _ _) in
          ap (λ (l : List ℕ). map (number_of p) (keep g l)) celled_numbers
          ∙ map_same (number_of p) (keep g (numbers in_cell 0 us)) (λ n m. y.number n (numbers_there no_triple us in_cell n (kept_passes g (numbers in_cell 0 us) n m).0).0)
          ∙ keep_numbered no_triple us in_cell h g (λ i l. (asked_same i l).0)
          ∙ tests
          ∙ sym (sheet_arming (sheet_of s) k e)

      asked_count_lem : armed_count s (sheet_plan s) (candidate_of (sheet_plan s) (cell_of k.main e.unit) (found_by s (sheet_plan s) k e)) (seen e k) ≡ asked_count (of_sheet (sheet_of s)) k e
      unfolding sheet_of armed_count
      asked_count_lem =
          let n : ℕ → ℕ = λ i. count_by s (asked_of p i) (seen e k) in
          let m : Triple → ℕ = λ u. meets_count C u.precondition (seen e k) in
          let here : Triple → Bool = λ u. eqb u.state k.main && eqb u.unit e.unit in
          let same : keep in_cell us ≡ keep here us = keep_same in_cell here us (λ u z. let (i, j, w) = among_at no_triple us u z in subst (λ (v : Triple). in_cell v ≡ here v) w (cell_test i j)) in
          ap (total n) celled_numbers ∙ total_numbered no_triple us in_cell n m (λ i l. (asked_same i l).1) ∙ ap (total m) same ∙ sym (sheet_asked (sheet_of s) k e)

  pub sheet_carried : Carries (of_sheet (sheet_of s)) (length (last_of sheet_layout s)) s (sheet_plan s)
  unfolding of_sheet sheet_of
  sheet_carried =
      record {
        units = y.heads.units;
        programs = y.heads.programs;
        monitors = y.heads.monitors;
        bad = y.heads.bad;
        few_programs = (bounds a).programs;
        few_last = (bounds a).last;
        moves = λ k e f. moves_main a short (omega arith) (omega arith) 0 (λ t. t) no_transition p ts few_transitions (λ j m. sheet_transition a j no_transition m) y.heads x k e f ts (sym (map-id ts));
        alters = λ k e f. moves_variables a short (omega arith) (omega arith) 0 (λ t. t) no_transition p ts few_transitions (λ j m. sheet_transition a j no_transition m) y.heads x k e f ts (sym (map-id ts));
        stays = λ k e h. moved_main C ts (λ t m. (sheet_good a t m).to) k e h;
        arms = λ k e f z. armed_same k e f;
        few_arms = armed_few;
        arms_there = armed_there;
        judges = λ i h values variables kept v m q. ap (λ (j : ℕ). holds_by s j (environment values variables kept)) (y.post i no_triple h) ∙ (post_means a short (omega arith) (get_or us i no_triple).postcondition (sheet_triple a i no_triple h).postcondition values variables kept v m q).0;
        move_counts = λ k e f. moves_count a short (omega arith) (omega arith) 0 (λ t. t) no_transition p ts few_transitions (λ j m. sheet_transition a j no_transition m) y.heads x k e f ts (sym (map-id ts));
        ask_counts = λ k e f z. asked_count_lem k e f;
        judge_counts = λ i h values variables kept v m q. ap (λ (j : ℕ). count_by s j (environment values variables kept)) (y.post i no_triple h) ∙ (post_means a short (omega arith) (get_or us i no_triple).postcondition (sheet_triple a i no_triple h).postcondition values variables kept v m q).1;
      }
