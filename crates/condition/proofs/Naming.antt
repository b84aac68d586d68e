-- What the variables that a tree names decide: which counts admit it, and what it means. Assumes nothing.
use Rattle.std.proofs.Common.{◌≡◌, ℕ, Bool, true, false, cond, not, ◌&&◌, ◌||◌, ltb, List, [], ◌∷◌, set, sym, refl, ap, ◌∙◌, ap₂, arith, le-ltb}
use mathlib.Core.Bool.{and-eq-true_iff, false≢true}
use mathlib.Mathlib.Data.Bool.Basic.{or-eq-false-eq-eq-false-and-eq-false as or-clear}
use mathlib.Core.Option.{Option, none, some}
use borrow.Author.Tests.{not-true}
use Rattle.condition.specs.declared.Lent.{Lent}
use Rattle.condition.specs.Word.{signed, plus_word, minus_word, less_word, equal_word, within_word}
use Rattle.condition.specs.Tree.{Variable, program, monitor, at_entry, Condition, always, negation, both, either, less, equal, within, Value, constant, variable, plus, minus, choose, Assignment, condition_names, value_names, action_names, is_monitor, is_at_entry}
use Rattle.condition.specs.Parse.{is_lent, unlent, targets_below, parsed, condition_from, value_from, run_from, parse_condition, parse_value, parse_action}
use Rattle.condition.specs.Meaning.{Environment, environment, lent, value_of, holds, word, assigned, performed}
use Rattle.condition.specs.Answer.{refused, given, sized, action_sized, judged, condition_outcome, value_outcome, action_outcome, run_outcome, whether, condition_which, action_which}
use Rattle.condition.proofs.Parsing.{condition_lent, value_lent, action_lent, action_targets, condition_under, value_under, action_under_any, parse_lent, parse_under, parse_action_lent, parse_action_under}

-- Operands of which neither names a variable of the wrong sort.
pair_same : {X Y Z : Type 0} {a b : Bool} {x x' : X} {y y' : Y} (g : X → Y → Z)
    → (a ≡ false → x ≡ x') → (b ≡ false → y ≡ y') → (a || b) ≡ false → g x y ≡ g x' y'
pair_same {a} {b} g u v e = ap₂ g (u ((or-clear a b).0 e).0) (v ((or-clear a b).0 e).1)

triple_same : {X Y Z W : Type 0} {a b c : Bool} {x x' : X} {y y' : Y} {z z' : Z} (g : X → Y → Z → W)
    → (a ≡ false → x ≡ x') → (b ≡ false → y ≡ y') → (c ≡ false → z ≡ z') → (a || (b || c)) ≡ false → g x y z ≡ g x' y' z'
triple_same {Y} {Z} g u v w = pair_same (λ x (t : Y × Z). g x t.0 t.1) u (pair_same (λ y z. (y, z)) v w)

-- Tests that agree on each variable that r does not pick agree on a tree that names none that r picks.
module _ {p q r : Variable → Bool} (h : (v : Variable) → r v ≡ false → p v ≡ q v) where
  mutual
    unfolding condition_names value_names

    pub condition_names_same : (c : Condition) → condition_names c r ≡ false → condition_names c p ≡ condition_names c q
    condition_names_same always = λ e. refl
    condition_names_same (negation c) = condition_names_same c
    condition_names_same (both c d) = pair_same ◌||◌ (condition_names_same c) (condition_names_same d)
    condition_names_same (either c d) = pair_same ◌||◌ (condition_names_same c) (condition_names_same d)
    condition_names_same (less e f) = pair_same ◌||◌ (value_names_same e) (value_names_same f)
    condition_names_same (equal e f) = pair_same ◌||◌ (value_names_same e) (value_names_same f)
    condition_names_same (within e f g) = pair_same ◌||◌ (value_names_same e) (pair_same ◌||◌ (value_names_same f) (value_names_same g))

    pub value_names_same : (e : Value) → value_names e r ≡ false → value_names e p ≡ value_names e q
    value_names_same (constant a b c d) = λ e. refl
    value_names_same (variable v) = h v
    value_names_same (plus e f) = pair_same ◌||◌ (value_names_same e) (value_names_same f)
    value_names_same (minus e f) = pair_same ◌||◌ (value_names_same e) (value_names_same f)
    value_names_same (choose c e f) = pair_same ◌||◌ (condition_names_same c) (pair_same ◌||◌ (value_names_same e) (value_names_same f))

  pub action_names_same : (a : List Assignment) → action_names a r ≡ false → action_names a p ≡ action_names a q
  unfolding action_names
  action_names_same [] = λ e. refl
  action_names_same (a ∷ more) = pair_same ◌||◌ (value_names_same a.source) (action_names_same more)

implied : (a b : Bool) → (a ≡ true → b ≡ true) → b ≡ false → a ≡ b
implied true b f e = sym (f refl)
implied false b f e = sym e

-- Naming nothing that p picks is naming nothing that a narrower q picks.
module _ {p q : Variable → Bool} (h : (v : Variable) → q v ≡ true → p v ≡ true) where
  narrower : (v : Variable) → p v ≡ false → q v ≡ p v
  narrower v = implied (q v) (p v) (h v)

  pub condition_names_weaken : (c : Condition) → condition_names c p ≡ false → condition_names c q ≡ false
  condition_names_weaken c e = condition_names_same narrower c e ∙ e

  pub value_names_weaken : (e : Value) → value_names e p ≡ false → value_names e q ≡ false
  value_names_weaken e n = value_names_same narrower e n ∙ n

  pub action_names_weaken : (a : List Assignment) → action_names a p ≡ false → action_names a q ≡ false
  action_names_weaken a e = action_names_same narrower a e ∙ e

-- Lending more leaves what was parsed as it was.
module _ (L L' : Lent) (w : (v : Variable) → is_lent L v ≡ true → is_lent L' v ≡ true) where
  still : (v : Variable) → unlent L' v ≡ true → unlent L v ≡ true
  still v e = let n = not-true (is_lent L' v) e in rw (implied (is_lent L v) (is_lent L' v) (w v) n, n)

  targets_wider : (a : List Assignment) → targets_below L.monitors a ≡ true → targets_below L'.monitors a ≡ true
  unfolding targets_below is_lent
  targets_wider [] t = refl
  targets_wider (a ∷ more) t =
      let u = (and-eq-true_iff (ltb a.target L.monitors) (targets_below L.monitors more)).0 t in
      (and-eq-true_iff (ltb a.target L'.monitors) (targets_below L'.monitors more)).1 (w (monitor a.target) u.0, targets_wider more u.1)

  module _ (k : ℕ) (s : List ℕ) where
    pub condition_wider : {c : Condition} {r : List ℕ} → condition_from k L s ≡ parsed c r → condition_from k L' s ≡ parsed c r
    condition_wider {c} h = rw (condition_names_weaken still c (condition_lent k L s h)) at (condition_under k L s h L')

    pub value_wider : {e : Value} {r : List ℕ} → value_from k L s ≡ parsed e r → value_from k L' s ≡ parsed e r
    value_wider {e} h = rw (value_names_weaken still e (value_lent k L s h)) at (value_under k L s h L')

    pub action_wider : {a : List Assignment} → run_from k L s ≡ some a → run_from k L' s ≡ some a
    action_wider {a} h = rw (targets_wider a (action_targets k L s h), action_names_weaken still a (action_lent k L s h)) at (action_under_any k L s h L')

-- Lending none of a kind refuses just what names one of that kind.
abbrev pub unkept : Lent → Lent
unkept L = record { programs = L.programs; monitors = L.monitors; kept = 0 }

abbrev pub unmonitored : Lent → Lent
unmonitored L = record { programs = L.programs; monitors = 0; kept = L.kept }

unkept_is : (L : Lent) (v : Variable) → unlent L v ≡ false → unlent (unkept L) v ≡ is_at_entry v
unfolding is_lent is_at_entry
unkept_is L (program i) e = e
unkept_is L (monitor i) e = e
unkept_is L (at_entry i) e = rw (le-ltb i 0 (omega arith))

unmonitored_is : (L : Lent) (v : Variable) → unlent L v ≡ false → unlent (unmonitored L) v ≡ is_monitor v
unfolding is_lent is_monitor
unmonitored_is L (program i) e = e
unmonitored_is L (monitor i) e = rw (le-ltb i 0 (omega arith))
unmonitored_is L (at_entry i) e = e

module _ (L : Lent) where
  pub no_kept_lent : (c : Condition) → condition_names c (unlent L) ≡ false → condition_names c (unlent (unkept L)) ≡ condition_names c is_at_entry
  no_kept_lent = condition_names_same (unkept_is L)

  pub no_kept_lent_action : (a : List Assignment) → action_names a (unlent L) ≡ false → action_names a (unlent (unkept L)) ≡ action_names a is_at_entry
  no_kept_lent_action = action_names_same (unkept_is L)

  pub no_monitors_lent : (c : Condition) → condition_names c (unlent L) ≡ false → condition_names c (unlent (unmonitored L)) ≡ condition_names c is_monitor
  no_monitors_lent = condition_names_same (unmonitored_is L)

  module _ (s : List ℕ) where
    pub entry_narrow : {c : Condition} → parse_condition L s ≡ some c → parse_condition (unkept L) s ≡ cond (condition_names c is_at_entry) none (some c)
    entry_narrow {c} h = rw (no_kept_lent c (parse_lent L s h)) at (parse_under L s h (unkept L))

    pub monitor_narrow : {c : Condition} → parse_condition L s ≡ some c → parse_condition (unmonitored L) s ≡ cond (condition_names c is_monitor) none (some c)
    monitor_narrow {c} h = rw (no_monitors_lent c (parse_lent L s h)) at (parse_under L s h (unmonitored L))

    pub action_entry_narrow : {a : List Assignment} → parse_action L s ≡ some a → parse_action (unkept L) s ≡ cond (action_names a is_at_entry) none (some a)
    action_entry_narrow {a} h = rw (no_kept_lent_action a (parse_action_lent L s h)) at (parse_action_under L s h (unkept L) refl)

-- What was accepted for an environment is never refused there.
accepted : {A B : Type 0} (b : Bool) (x : Option A) (p : A → Bool) (f : A → B)
    → (b && whether x p) ≡ true → (a : A) × (x ≡ some a) × (cond b (judged x f) (refused 4) ≡ given (f a))
accepted true none p f e = absurd (false≢true e)
accepted true (some a) p f e = (a, refl, refl)
accepted false x p f e = absurd (false≢true e)

module _ (s : List ℕ) (E : Environment) where
  pub accepted_never_5 : (p : Condition → Bool) → condition_which p (lent E) s ≡ true
      → (c : Condition) × (parse_condition (lent E) s ≡ some c) × (condition_outcome s E ≡ given (holds c E))
  unfolding condition_which condition_outcome
  accepted_never_5 p = accepted (sized s) (parse_condition (lent E) s) p (λ c. holds c E)

  pub accepted_value_never_5 : {e : Value} → sized s ≡ true → parse_value (lent E) s ≡ some e → value_outcome s E ≡ given (signed (word e E))
  unfolding value_outcome
  accepted_value_never_5 t e = rw (t, e)

  pub accepted_action_never_5 : (p : List Assignment → Bool) → action_which p (lent E) s ≡ true
      → (a : List Assignment) × (parse_action (lent E) s ≡ some a) × (action_outcome s E ≡ given (performed a E))
  unfolding action_which action_outcome run_outcome
  accepted_action_never_5 p = accepted (action_sized s) (parse_action (lent E) s) p (λ a. performed a E)

-- A tree means the same in environments that agree on each variable that r does not pick, if it names none that r picks.
module _ (E E' : Environment) {r : Variable → Bool} (h : (v : Variable) → r v ≡ false → value_of v E ≡ value_of v E') where
  mutual
    unfolding condition_names value_names holds word

    pub condition_agrees : (c : Condition) → condition_names c r ≡ false → holds c E ≡ holds c E'
    condition_agrees always = λ e. refl
    condition_agrees (negation c) = λ e. ap not (condition_agrees c e)
    condition_agrees (both c d) = pair_same ◌&&◌ (condition_agrees c) (condition_agrees d)
    condition_agrees (either c d) = pair_same ◌||◌ (condition_agrees c) (condition_agrees d)
    condition_agrees (less e f) = pair_same less_word (value_agrees e) (value_agrees f)
    condition_agrees (equal e f) = pair_same equal_word (value_agrees e) (value_agrees f)
    condition_agrees (within e f g) = triple_same within_word (value_agrees e) (value_agrees f) (value_agrees g)

    pub value_agrees : (e : Value) → value_names e r ≡ false → word e E ≡ word e E'
    value_agrees (constant a b c d) = λ e. refl
    value_agrees (variable v) = h v
    value_agrees (plus e f) = pair_same plus_word (value_agrees e) (value_agrees f)
    value_agrees (minus e f) = pair_same minus_word (value_agrees e) (value_agrees f)
    value_agrees (choose c e f) = triple_same cond (condition_agrees c) (value_agrees e) (value_agrees f)

-- Naming no monitor variable, or no value at entry, it does not depend on them.
module _ (p m m' k : List ℕ) where
  no_monitor_value : (v : Variable) → is_monitor v ≡ false → value_of v (environment p m k) ≡ value_of v (environment p m' k)
  unfolding is_monitor value_of
  no_monitor_value (program i) e = refl
  no_monitor_value (monitor i) e = cc
  no_monitor_value (at_entry i) e = refl

  pub no_monitor_means : (c : Condition) → condition_names c is_monitor ≡ false → holds c (environment p m k) ≡ holds c (environment p m' k)
  no_monitor_means = condition_agrees (environment p m k) (environment p m' k) no_monitor_value

  pub no_monitor_word : (e : Value) → value_names e is_monitor ≡ false → word e (environment p m k) ≡ word e (environment p m' k)
  no_monitor_word = value_agrees (environment p m k) (environment p m' k) no_monitor_value

module _ (p m k k' : List ℕ) where
  no_entry_value : (v : Variable) → is_at_entry v ≡ false → value_of v (environment p m k) ≡ value_of v (environment p m k')
  unfolding is_at_entry value_of
  no_entry_value (program i) e = refl
  no_entry_value (monitor i) e = refl
  no_entry_value (at_entry i) e = cc

  pub no_entry_means : (c : Condition) → condition_names c is_at_entry ≡ false → holds c (environment p m k) ≡ holds c (environment p m k')
  no_entry_means = condition_agrees (environment p m k) (environment p m k') no_entry_value

  pub no_entry_word : (e : Value) → value_names e is_at_entry ≡ false → word e (environment p m k) ≡ word e (environment p m k')
  no_entry_word = value_agrees (environment p m k) (environment p m k') no_entry_value

-- the same of an action, whose assignments see one another
pub no_entry_performed : (p m k k' : List ℕ) (a : List Assignment) → action_names a is_at_entry ≡ false → performed a (environment p m k) ≡ performed a (environment p m k')
unfolding action_names performed assigned
no_entry_performed p m k k' [] e = refl
no_entry_performed p m k k' (x ∷ more) e =
    let n = (or-clear (value_names x.source is_at_entry) (action_names more is_at_entry)).0 e in
    rw (no_entry_word p m k k' x.source n.0) (no_entry_performed p (set m x.target (word x.source (environment p m k'))) k k' more n.1)
