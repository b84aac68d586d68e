-- Runs of assignments, from place to place. Assumes nothing.
use Rattle.std.proofs.Common.{◌≡◌, ℕ, zero, suc, ◌+◌, ◌-◌, ◌/◌, ◌%◌, ◌<◌, ◌≤◌, min, Bool, true, false, eqb, List, [], ◌++◌, length, get_or, take, drop, set, sym, refl, ap, ◌∙◌, subst, arith, length-set, take-append-drop, drop_of_length-le, length-take, drop-set-lt, le-ltb, lt-ltb, eqb-true}
use mathlib.Core.Option.{Option, none, some}
use borrow.Author.Tests.{eqb-false}
use lib.Seq.{take-set-lt}
use Rattle.condition.specs.declared.Lent.{Lent}
use Rattle.condition.specs.Tree.{Assignment}
use Rattle.condition.specs.Parse.{Parsed, malformed, parsed, one, assignment_from, prefixed, then_run, run_from, parse_action}
use Rattle.condition.specs.Meaning.{Environment, environment, lent, word, assigned, performed}
use Rattle.condition.specs.Count.{value_count, action_count}
use Rattle.condition.specs.Answer.{Evaluation, refused, given, judged, count_in, run_outcome, run_counted, done, performed_on, whether}
use Rattle.condition.specs.Walk.{Ends, Skips, Gives, value_reader, EvaluatesValue, ValueAt, SkipsAssignment, Assigns}
use Rattle.condition.proofs.Walking.{open_at, ends_one}
use Rattle.condition.proofs.Evaluating.{gives_one, gives_any, beyond_place, beyond_count}

module _ (L : Lent) (s : List ℕ) (at : ℕ) (h : at < length s) where
  -- the number of the variable is read first
  lent_opens : (P : Parsed Assignment → Type 0) (k : ℕ) → get_or s at 0 < L.monitors → P (one (value_reader L k) (λ e. record { target = get_or s at 0; source = e }) (drop (at + 1) s)) → P (assignment_from k L (drop at s))
  unfolding assignment_from
  lent_opens P k t x = rw (open_at s at h, lt-ltb (get_or s at 0) L.monitors t) x

  unlent_opens : (P : Parsed Assignment → Type 0) (k : ℕ) → L.monitors ≤ get_or s at 0 → P malformed → P (assignment_from k L (drop at s))
  unfolding assignment_from
  unlent_opens P k t x = rw (open_at s at h, le-ltb (get_or s at 0) L.monitors t) x

  pub skips_assignment : (r : ℕ) → get_or s at 0 < L.monitors → Skips (value_reader L) s (at + 1) r → SkipsAssignment L s at r
  skips_assignment r t x = record { low = x.low; high = x.high; ends = λ k d. lent_opens (Ends s r) k t (ends_one s r (value_reader L k (drop (at + 1) s)) (λ e. record { target = get_or s at 0; source = e }) (x.ends k d)) }

  pub skips_unlent : L.monitors ≤ get_or s at 0 → SkipsAssignment L s at (length s + 1)
  skips_unlent t = record { low = omega arith; high = omega arith; ends = λ k d. unlent_opens (Ends s (length s + 1)) k t refl }

module _ (E : Environment) (s : List ℕ) (at n count : ℕ) (before : List ℕ) (h : at < length s) where
  -- what is known of the assignment
  abbrev Assigned : ℕ → List ℕ → Assignment → Type 0
  Assigned m after a = (after ≡ set before a.target (word a.source E)) × ((a.target < count) × (m ≡ n + value_count a.source E))

  pub assigns : (q w m : ℕ) → get_or s at 0 < length E.monitors → length E.monitors ≤ count → EvaluatesValue E s (at + 1) n q w m → Assigns E s at n q m count before (set before (get_or s at 0) w)
  assigns q w m t c x =
      record {
        skips = skips_assignment (lent E) s at h q t x.skips;
        few = x.few;
        long = length-set before (get_or s at 0) w;
        rest = drop-set-lt count before (get_or s at 0) w (omega arith);
        means = λ k d.
            lent_opens (lent E) s at h (Gives (Assigned m (set before (get_or s at 0) w))) k t
            (gives_one (λ e. (w ≡ word e E) × (m ≡ n + value_count e E)) (Assigned m (set before (get_or s at 0) w)) (λ e. record { target = get_or s at 0; source = e }) (value_reader (lent E) k (drop (at + 1) s)) (x.means k d)
            (λ e p. (ap (set before (get_or s at 0)) p.0, (omega arith, p.1))));
      }

  pub assigns_none : length E.monitors ≤ get_or s at 0 → Assigns E s at n (length s + 1) 0 count before before
  assigns_none t = record { skips = skips_unlent (lent E) s at h t; few = omega arith; long = refl; rest = refl; means = λ k d. unlent_opens (lent E) s at h (Gives (Assigned 0 before)) k t tt }

-- What a run from a place on comes to: J of the assignments that are left, or J of none past the end.
pub record Left {X : Type 0} (L : Lent) (s : List ℕ) (at : ℕ) (J : Option (List Assignment) → X) (result : X) : Type 0 where
  pub place : at ≤ length s + 1
  pub fuel : ℕ
  pub enough : length s - at ≤ fuel
  pub inside : at ≤ length s → J (run_from fuel L (drop at s)) ≡ result
  pub beyond : length s < at → J none ≡ result

pub left_all : {X : Type 0} (L : Lent) (s : List ℕ) (J : Option (List Assignment) → X) → Left L s 0 J (J (parse_action L s))
unfolding parse_action
left_all L s J = record { place = omega arith; fuel = length s; enough = omega arith; inside = λ h. refl; beyond = λ h. absurd (omega arith) }

run_nil : (k : ℕ) (L : Lent) → run_from k L [] ≡ some []
unfolding run_from
run_nil zero L = refl
run_nil (suc k) L = refl

run_opens : (k : ℕ) (L : Lent) (s : List ℕ) (at : ℕ) → at < length s → run_from (suc k) L (drop at s) ≡ then_run (assignment_from k L (drop at s)) (run_from k L)
unfolding run_from
run_opens k L s at h = rw (open_at s at h)

module _ {X : Type 0} (L : Lent) (s : List ℕ) (at r : ℕ) (J K : Option (List Assignment) → X) (result : X) (h : at < length s) (x : SkipsAssignment L s at r) (Q : Assignment → Type 0) (m : (k : ℕ) → length s - (at + 1) ≤ k → Gives Q (assignment_from k L (drop at s))) (bad : J none ≡ K none) (good : (a : Assignment) → Q a → (o : Option (List Assignment)) → J (prefixed a o) ≡ K o) where
  left_by : (k : ℕ) → length s - (at + 1) ≤ k → (p : Parsed Assignment) → Ends s r p → Gives Q p → J (then_run p (run_from k L)) ≡ result → Left L s r K result
  left_by k d malformed e g i = record { place = x.high; fuel = k; enough = omega (arith, x.low); inside = λ n. absurd (omega arith); beyond = λ n. sym bad ∙ i }
  left_by k d (parsed a rest) e g i = record { place = x.high; fuel = k; enough = omega (arith, x.low); inside = λ n. subst (λ (t : List ℕ). K (run_from k L t) ≡ result) (sym e.0) (sym (good a g (run_from k L rest)) ∙ i); beyond = λ n. absurd (omega (arith, e.1)) }

  left_from_lem : (k : ℕ) → length s - at ≤ k → J (run_from k L (drop at s)) ≡ result → Left L s r K result
  left_from_lem zero d i = absurd (omega arith)
  left_from_lem (suc k) d i = left_by k (omega arith) (assignment_from k L (drop at s)) (x.ends k (omega arith)) (m k (omega arith)) (rw (run_opens k L s at h) at i)

  pub left_next : Left L s at J result → Left L s r K result
  left_next l = left_from_lem l.fuel l.enough (l.inside (omega arith))

module _ {X : Type 0} (L : Lent) (s : List ℕ) (at : ℕ) (J : Option (List Assignment) → X) (result : X) (l : Left L s at J result) where
  pub left_end : at ≡ length s → J (some []) ≡ result
  left_end h = rw (drop_of_length-le s {i = at} (omega arith), run_nil l.fuel L) at (l.inside (omega arith))

  pub left_bad : length s ≤ at → (at ≡ length s → ⊥) → J none ≡ result
  left_bad h n = l.beyond (omega arith)

-- judging a run
abbrev pub any_run : Option (List Assignment) → Bool
any_run o = whether o (λ _. true)

any_prefixed : (a : Assignment) (o : Option (List Assignment)) → any_run (prefixed a o) ≡ any_run o
any_prefixed a none = refl
any_prefixed a (some more) = refl

module _ (L : Lent) (s : List ℕ) (at : ℕ) (result : Bool) (l : Left L s at any_run result) where
  pub judged_next : (r : ℕ) → at < length s → SkipsAssignment L s at r → Left L s r any_run result
  judged_next r h x = left_next L s at r any_run any_run result h x (λ _. Unit {0}) (λ k d. gives_any (assignment_from k L (drop at s))) refl (λ a q o. any_prefixed a o) l

  pub judged_end : length s ≤ at → eqb at (length s) ≡ result
  judged_end h = go (eqb at (length s)) refl
    where
      go : (b : Bool) → eqb at (length s) ≡ b → b ≡ result
      go true e = left_end L s at any_run result l (eqb-true at (length s) e)
      go false e = left_bad L s at any_run result l h (eqb-false at (length s) e)

-- carrying a run out, on the first variables of an array
module _ (programs : List ℕ) (count : ℕ) (kept : List ℕ) where
  abbrev pub upon : List ℕ → Environment
  upon l = environment programs (take count l) kept

  abbrev pub outcome_upon : List ℕ → Option (List Assignment) → Evaluation (List ℕ)
  outcome_upon l o = judged o (λ a. performed a (upon l))

  -- n so far, and what the run that is left evaluates
  abbrev pub count_upon : List ℕ → ℕ → Option (List Assignment) → ℕ
  count_upon l n o = count_in o (λ a. n + action_count a (upon l))

  pub record Carried (s : List ℕ) (at n : ℕ) (before present : List ℕ) : Type 0 where
    pub few : n ≤ at
    pub long : length present ≡ length before
    pub rest : drop count present ≡ drop count before
    pub left : Left (lent (upon before)) s at (outcome_upon present) (run_outcome s (upon before))
    pub counted : Left (lent (upon before)) s at (count_upon present n) (run_counted s (upon before))

  none_yet : (l : List ℕ) (o : Option (List Assignment)) → count_upon l 0 o ≡ count_in o (λ a. action_count a (upon l))
  none_yet l none = refl
  none_yet l (some a) = omega arith

  pub carried_start : (s before : List ℕ) → Carried s 0 0 before before
  unfolding run_outcome run_counted
  carried_start s before =
      let L = lent (upon before) in
      record {
        few = omega arith;
        long = refl;
        rest = refl;
        left = left_all L s (outcome_upon before);
        counted = subst (Left L s 0 (count_upon before 0)) (none_yet before (parse_action L s)) (left_all L s (count_upon before 0));
      }

  same_lent : (l m : List ℕ) → length l ≡ length m → lent (upon l) ≡ lent (upon m)
  same_lent l m e = ap (λ (n : ℕ). record { programs = length programs; monitors = n; kept = length kept }) (length-take count l ∙ ap (min count) e ∙ sym (length-take count m))

  -- an assignment in front is carried out first
  outcome_next : (l after : List ℕ) (a : Assignment) → (after ≡ set l a.target (word a.source (upon l))) → (a.target < count) → (o : Option (List Assignment)) → outcome_upon l (prefixed a o) ≡ outcome_upon after o
  unfolding performed assigned
  outcome_next l after a e i none = refl
  outcome_next l after a e i (some more) = rw (e, take-set-lt count l a.target (word a.source (upon l)) i)

  counted_first : (n v m x : ℕ) → m ≡ n + v → n + (v + x) ≡ m + x
  counted_first n v m x e = omega arith

  count_next : (l after : List ℕ) (n m : ℕ) (a : Assignment) → (after ≡ set l a.target (word a.source (upon l))) → (a.target < count) → (m ≡ n + value_count a.source (upon l)) → (o : Option (List Assignment)) → count_upon l n (prefixed a o) ≡ count_upon after m o
  unfolding action_count assigned
  count_next l after n m a e i f none = refl
  count_next l after n m a e i f (some more) = rw (e, take-set-lt count l a.target (word a.source (upon l)) i) (counted_first n (value_count a.source (upon l)) m (action_count more (assigned a (upon l))) f)

  module _ (s : List ℕ) (at n : ℕ) (before present : List ℕ) (x : Carried s at n before present) where
    pub carried_next : (r m : ℕ) (after : List ℕ) → at < length s → Assigns (upon present) s at n r m count present after → Carried s r m before after
    carried_next r m after h y =
        let L = lent (upon before) in
        let e = same_lent present before x.long in
        let Q : Assignment → Type 0 = λ a. (after ≡ set present a.target (word a.source (upon present))) × ((a.target < count) × (m ≡ n + value_count a.source (upon present))) in
        let skipped = subst (λ (M : Lent). SkipsAssignment M s at r) e y.skips in
        let means = subst (λ (M : Lent). (k : ℕ) → length s - (at + 1) ≤ k → Gives Q (assignment_from k M (drop at s))) e y.means in
        record {
          few = y.few;
          long = y.long ∙ x.long;
          rest = y.rest ∙ x.rest;
          left = left_next L s at r (outcome_upon present) (outcome_upon after) (run_outcome s (upon before)) h skipped Q means refl (λ a q. outcome_next present after a q.0 q.1.0) x.left;
          counted = left_next L s at r (count_upon present n) (count_upon after m) (run_counted s (upon before)) h skipped Q means refl (λ a q. count_next present after n m a q.0 q.1.0 q.1.1) x.counted;
        }

    pub carried_end : at ≡ length s → (given tt ≡ done (run_outcome s (upon before))) × (present ≡ performed_on count before (run_outcome s (upon before))) × (n ≡ run_counted s (upon before))
    unfolding performed action_count
    carried_end h =
        let c = left_end (lent (upon before)) s at (count_upon present n) (run_counted s (upon before)) x.counted h in
        rw (← left_end (lent (upon before)) s at (outcome_upon present) (run_outcome s (upon before)) x.left h) (refl, sym (ap (λ (l : List ℕ). take count present ++ l) (sym x.rest) ∙ take-append-drop count present), omega (arith, c))

    pub carried_bad : length s ≤ at → (at ≡ length s → ⊥) → (refused 5 ≡ done (run_outcome s (upon before))) × (before ≡ performed_on count before (run_outcome s (upon before))) × (0 ≡ run_counted s (upon before))
    carried_bad h i = rw (← left_bad (lent (upon before)) s at (outcome_upon present) (run_outcome s (upon before)) x.left h i) (refl, refl, left_bad (lent (upon before)) s at (count_upon present n) (run_counted s (upon before)) x.counted h i)

-- a cursor one byte on, with nothing counted
module _ (c : ℕ) (h : c % 65536 < 65535) where
  target_place : (c + 1) % 65536 ≡ c % 65536 + 1
  target_place = omega arith

  target_count : (c + 1) / 65536 ≡ c / 65536
  target_count = omega arith

-- four variables, of which the first are the action's, and the number t of the one that is assigned
module _ (P K s : List ℕ) (c count : ℕ) (before : List ℕ) (four : length before ≡ 4) (t : ℕ) (z : length s ≤ 65534) (h : c % 65536 < length s) (f : t ≡ get_or s (c % 65536) 0) where
  lent_few : length (take count before) ≡ min count 4
  lent_few = length-take count before ∙ ap (min count) four

  abbrev Upon : Environment
  Upon = environment P (take count before) K

  pub assigns_front : (q w : ℕ) → t < min count 4 → ValueAt Upon s (c + 1) q w → Assigns Upon s (c % 65536) (c / 65536) (q % 65536) (q / 65536) count before (set before t w)
  assigns_front q w i x = rw f (assigns Upon s (c % 65536) (c / 65536) count before h (q % 65536) w (q / 65536) (omega (arith, lent_few)) (omega (arith, lent_few)) (rw (target_place c (omega arith), target_count c (omega arith)) at x))

  pub assigns_past : min count 4 ≤ t → Assigns Upon s (c % 65536) (c / 65536) ((length s + 1) % 65536) ((length s + 1) / 65536) count before before
  assigns_past i = rw (beyond_place s z, beyond_count s z) (assigns_none Upon s (c % 65536) (c / 65536) count before h (omega (arith, lent_few)))
