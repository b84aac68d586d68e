-- The plan of an accepted network carries the network's machine. Assumes nothing.
use mathlib.Core.Path.{◌≡◌, refl, sym, ap, subst, ◌∙◌}
use mathlib.Core.Bool.{Bool, true, cond}
use mathlib.Core.Option.{Option, none, some}
use mathlib.Core.List.{List, map}
use Prim.Native.Nat.{ℕ, ◌+◌, ◌*◌, ◌≤◌}
use native.Mathlib.Omega.{arith}
use borrow.Author.Tests.{lt-ltb}
use lib.Dec.{eqb, ltb}
use lib.ListN.{length, get_or, length-map}
use Rattle.condition.specs.Meaning.{environment}
use Rattle.sheet.specs.declared.Transition.{Transition}
use Rattle.sheet.specs.declared.Pair.{Pair}
use Rattle.sheet.specs.declared.Template.{Template}
use Rattle.sheet.specs.Table.{every}
use Rattle.sheet.specs.Parts.{Common, Paired}
use Rattle.sheet.specs.Decode.{wide, common_of, network_of}
use Rattle.sheet.specs.Reading.{transitions_of, last_of, network_layout, no_template}
use Rattle.sheet.specs.Log.{Event}
use Rattle.sheet.specs.Answer.{places_of}
use Rattle.sheet.proofs.Accepted.{Accepted, GoodPair, bounds, network_transition, network_pair, network_pairs, network_template}
use Rattle.sheet.proofs.Placed.{condition_places, action_places, network_few}
use Rattle.sheet.proofs.Tables.{every_map}
use Rattle.step.specs.Lists.{Among, first, keep, total}
use Rattle.step.specs.Meets.{meets, meets_count}
use Rattle.step.specs.Moves.{Configuration, seen, enabled}
use Rattle.step.proofs.OnLists.Lists.{first_passes, kept_passes}
use Rattle.step.proofs.OnLists.Keeping.{among_at, among_every, keep_same, length_keep}
use Rattle.step.proofs.OnLists.Sums.{total_map, total_same}
use Rattle.step.proofs.OnEvents.Bridge.{no_paired}
use Rattle.step.proofs.OnEvents.Moving.{network_good, moved_main}
use Rattle.engine.specs.Machine.{arming, asked_count}
use Rattle.engine.specs.Machines.{of_network, pairs_of}
use Rattle.engine.specs.Plan.{cell_of, first_of, guard_of, gap_of, candidate_of, asked_of, number_of, behind_of}
use Rattle.engine.specs.Prepared.{text_place, network_plan}
use Rattle.engine.specs.Walk.{holds_by, count_by, chain, otherwise, found_in, armed_in, armed_count}
use Rattle.engine.specs.Showing.{Fits, found_by, Carries}
use Rattle.engine.proofs.MachineCarried.Numbered.{Both, keep_images}
use Rattle.engine.proofs.OnMachines.Candidates.{network_arming, network_asked}
use Rattle.engine.proofs.Plans.Planned.{NetworkPlanned, network_planned}
use Rattle.engine.proofs.MachineCarried.Carried.{post_means, guard_means, found_both, moves_main, moves_variables, moves_count}

abbrev no_pair : Pair
no_pair = record { condition = 0; template = 0 }

module _ {s : List ℕ} (a : Accepted network_layout s) (short : length s ≤ 65535) where
  abbrev C : Common
  C = common_of s

  abbrev p : List ℕ
  p = network_plan s

  y : NetworkPlanned s (condition_places s) (action_places s) (places_of network_layout s).last (transitions_of network_layout s) (last_of network_layout s) (network_plan s)
  y = network_planned a short

  abbrev qs : List Paired
  qs = transitions_of network_layout s

  abbrev ts : List Transition
  ts = map (λ (t : Paired). t.base) (transitions_of network_layout s)

  abbrev us : List Template
  us = last_of network_layout s

  good_pair : (t : Paired) → Among t (transitions_of network_layout s) → (q : Pair) → Among q t.pairs → GoodPair (common_of s) (last_of network_layout s) t.base q
  good_pair t m q n =
      let (i, j, z) = among_at no_paired qs t m in
      let (u, v, w) = among_at no_pair t.pairs q n in
      rw (z, w) at (network_pair a i no_paired j u no_pair (rw z v))

  module _ (k : Configuration) (e : Event) where
    abbrev takes : Paired → Bool
    takes t = enabled C k e t.base

    abbrev starts : Pair → Bool
    starts q = meets C q.condition (seen e k)

    abbrev templates : List Pair → List ℕ
    templates l = map (λ (q : Pair). q.template) l

    arming_few : length (arming (of_network (network_of s)) k e) ≤ 4
    unfolding network_of keep
    arming_few = subst (λ (l : List ℕ). length l ≤ 4) (sym (network_arming (network_of s) k e)) (go (first takes qs) refl)
      where
        go : (o : Option Paired) → first takes (transitions_of network_layout s) ≡ o → length (templates (keep starts (pairs_of o))) ≤ 4
        go none f = omega arith
        go (some t) f =
            let (i, j, z) = among_at no_paired qs t (first_passes takes qs t f).0 in
            let few : length t.pairs ≤ 4 = rw z at (network_pairs a i no_paired j) in
            omega (arith, length-map (keep starts t.pairs) (λ (q : Pair). q.template), length_keep starts t.pairs)

    arming_there : every (λ i. ltb i (length (last_of network_layout s))) (arming (of_network (network_of s)) k e) ≡ true
    unfolding network_of keep every
    arming_there = ap (every (λ i. ltb i (length us))) (network_arming (network_of s) k e) ∙ go (first takes qs) refl
      where
        go : (o : Option Paired) → first takes (transitions_of network_layout s) ≡ o → every (λ i. ltb i (length (last_of network_layout s))) (templates (keep starts (pairs_of o))) ≡ true
        go none f = refl
        go (some t) f =
            let m = (first_passes takes qs t f).0 in
            every_map (λ i. ltb i (length us)) (λ (q : Pair). q.template) (keep starts t.pairs)
            ∙ among_every (λ (q : Pair). ltb q.template (length us)) (keep starts t.pairs) (λ q n. lt-ltb q.template (length us) (good_pair t m q (kept_passes starts t.pairs q n).0).template)

    module _ (f : Fits (common_of s) k e) where
      abbrev starts_at : Pair → Bool
      starts_at q = holds_by s (text_place s (condition_places s) q.condition) (seen e k)

      abbrev counts_at : Pair → ℕ
      counts_at q = count_by s (text_place s (condition_places s) q.condition) (seen e k)

      -- what the condition of a pair means and counts
      pair_means : (t : Paired) → Among t (transitions_of network_layout s) → (q : Pair) → Among q t.pairs
          → (holds_by s (text_place s (condition_places s) q.condition) (seen e k) ≡ meets (common_of s) q.condition (seen e k)) × (count_by s (text_place s (condition_places s) q.condition) (seen e k) ≡ meets_count (common_of s) q.condition (seen e k))
      pair_means t m q n =
          let g = good_pair t m q n in
          guard_means a short (network_few (wide s)) (omega arith) 1 (λ (u : Paired). u.base) no_paired p qs (bounds a).transitions (λ i h. network_transition a i no_paired h) y.heads y.moves k e f q.condition g.condition g.no_entry

      -- the candidates that the plan looks through: none, or the pairs of the transition that is taken
      abbrev list : Option ℕ → List ℕ
      list n = chain (behind_of p) 384 384 (get_or p (936 + otherwise 96 n) 0)

      abbrev found : Option ℕ
      found = first (λ i. holds_by s (guard_of p i) (seen e k)) (chain (gap_of p) 96 96 (first_of p (2 * cell_of k.main e.unit + e.kind)))

      asked_list : chain (behind_of (network_plan s)) 384 384 (candidate_of (network_plan s) (cell_of k.main e.unit) (found_by s (network_plan s) k e)) ≡ list found
      unfolding found_in
      asked_list = ap (λ (n : ℕ). chain (behind_of p) 384 384 (get_or p (936 + cond (eqb n 0) (cell_of k.main e.unit) (otherwise 96 found)) 0)) y.heads.paired

      both : Both no_paired (transitions_of network_layout s) found (first takes (transitions_of network_layout s))
      both = found_both a short (network_few (wide s)) (omega arith) 1 (λ (u : Paired). u.base) no_paired p qs (bounds a).transitions (λ i h. network_transition a i no_paired h) y.heads y.moves k e f

      armed_same : armed_in s (network_plan s) (candidate_of (network_plan s) (cell_of k.main e.unit) (found_by s (network_plan s) k e)) (seen e k) ≡ arming (of_network (network_of s)) k e
      unfolding network_of armed_in keep
      armed_same =
          let g : ℕ → Bool = λ i. holds_by s (asked_of p i) (seen e k) in
          ap (λ (l : List ℕ). map (number_of p) (keep g l)) asked_list ∙ go found (first takes qs) refl both ∙ sym (network_arming (network_of s) k e)
        where
          go : (n : Option ℕ) (o : Option Paired) → first takes qs ≡ o → Both no_paired qs n o
              → map (number_of p) (keep (λ i. holds_by s (asked_of p i) (seen e k)) (list n)) ≡ templates (keep starts (pairs_of (first takes qs)))
          go none none z b = rw (y.none, z)
          go none (some t) z b = absurd b
          go (some n) none z b = absurd b
          go (some n) (some t) z b =
              let m = (first_passes takes qs t z).0 in
              keep_images (λ j. holds_by s j (seen e k)) (asked_of p) (number_of p) (λ (q : Pair). text_place s (condition_places s) q.condition) (λ (q : Pair). q.template) (list (some n)) (get_or qs n no_paired).pairs (y.asked n no_paired b.0) (y.number n no_paired b.0)
              ∙ ap (λ (u : Paired). templates (keep starts_at u.pairs)) b.1
              ∙ ap templates (keep_same starts_at starts t.pairs (λ q i. (pair_means t m q i).0))
              ∙ ap (λ (o : Option Paired). templates (keep starts (pairs_of o))) (sym z)

      asked_count_lem : armed_count s (network_plan s) (candidate_of (network_plan s) (cell_of k.main e.unit) (found_by s (network_plan s) k e)) (seen e k) ≡ asked_count (of_network (network_of s)) k e
      unfolding network_of armed_count total
      asked_count_lem = ap (total (λ i. count_by s (asked_of p i) (seen e k))) asked_list ∙ go found (first takes qs) refl both ∙ sym (network_asked (network_of s) k e)
        where
          counts : Pair → ℕ
          counts q = meets_count C q.condition (seen e k)

          go : (n : Option ℕ) (o : Option Paired) → first takes qs ≡ o → Both no_paired qs n o → total (λ i. count_by s (asked_of p i) (seen e k)) (list n) ≡ total counts (pairs_of (first takes qs))
          go none none z b = rw (y.none, z)
          go none (some t) z b = absurd b
          go (some n) none z b = absurd b
          go (some n) (some t) z b =
              let m = (first_passes takes qs t z).0 in
              let by : ℕ → ℕ = λ j. count_by s j (seen e k) in
              sym (total_map (asked_of p) by (list (some n)))
              ∙ ap (total by) (y.asked n no_paired b.0)
              ∙ total_map (λ (q : Pair). text_place s (condition_places s) q.condition) by (get_or qs n no_paired).pairs
              ∙ ap (λ (u : Paired). total counts_at u.pairs) b.1
              ∙ total_same counts_at counts t.pairs (λ q i. (pair_means t m q i).1)
              ∙ ap (λ (o : Option Paired). total counts (pairs_of o)) (sym z)

  pub network_carried : Carries (of_network (network_of s)) (length (last_of network_layout s)) s (network_plan s)
  unfolding of_network network_of
  network_carried =
      record {
        units = y.heads.units;
        programs = y.heads.programs;
        monitors = y.heads.monitors;
        bad = y.heads.bad;
        few_programs = (bounds a).programs;
        few_last = (bounds a).last;
        moves = λ k e f. moves_main a short (network_few (wide s)) (omega arith) 1 (λ (u : Paired). u.base) no_paired p qs (bounds a).transitions (λ i h. network_transition a i no_paired h) y.heads y.moves k e f ts refl;
        alters = λ k e f. moves_variables a short (network_few (wide s)) (omega arith) 1 (λ (u : Paired). u.base) no_paired p qs (bounds a).transitions (λ i h. network_transition a i no_paired h) y.heads y.moves k e f ts refl;
        stays = λ k e h. moved_main C ts (λ t m. (network_good a t m).to) k e h;
        arms = λ k e f z. armed_same k e f;
        few_arms = arming_few;
        arms_there = arming_there;
        judges = λ i h values variables kept v m q. ap (λ (j : ℕ). holds_by s j (environment values variables kept)) (y.post i no_template h) ∙ (post_means a short (network_few (wide s)) (get_or us i no_template).postcondition (network_template a i no_template h).postcondition values variables kept v m q).0;
        move_counts = λ k e f. moves_count a short (network_few (wide s)) (omega arith) 1 (λ (u : Paired). u.base) no_paired p qs (bounds a).transitions (λ i h. network_transition a i no_paired h) y.heads y.moves k e f ts refl;
        ask_counts = λ k e f z. asked_count_lem k e f;
        judge_counts = λ i h values variables kept v m q. ap (λ (j : ℕ). count_by s j (environment values variables kept)) (y.post i no_template h) ∙ (post_means a short (network_few (wide s)) (get_or us i no_template).postcondition (network_template a i no_template h).postcondition values variables kept v m q).1;
      }
