-- What is refused counts nothing, and no condition or action more than its bytes. Assumes nothing.
use mathlib.Core.Path.{◌≡◌, refl, ap}
use mathlib.Core.Bool.{Bool, ◌&&◌}
use mathlib.Core.Option.{Option, none, some}
use mathlib.Core.List.{List, []}
use Prim.Native.Nat.{ℕ, zero, suc, ◌+◌, ◌*◌, ◌≤◌}
use native.Mathlib.Nat.{mul-le-mul_left}
use native.Mathlib.Omega.{arith}
use lib.Dec.{eqb}
use lib.ListN.{length, get_or}
use Rattle.condition.specs.Parse.{parse_condition, parse_action}
use Rattle.condition.specs.Meaning.{Environment}
use Rattle.condition.specs.Answer.{count_in}
use Rattle.condition.proofs.Parsing.{condition_whole, action_whole}
use Rattle.condition.proofs.Counting.{condition_few, action_few}
use Rattle.sheet.specs.declared.Transition.{Transition}
use Rattle.sheet.specs.Parts.{Common}
use Rattle.sheet.specs.Reading.{lent_in, condition_in}
use Rattle.sheet.specs.Log.{Event}
use Rattle.std.specs.Prelude.{Result, Err}
use Rattle.refusal.specs.declared.Refusal.{Refusal}
use Rattle.sheet.specs.Answer.{reading_paper, answer}
use Rattle.sheet.proofs.Answers.{answer_refused}
use Rattle.step.specs.Lists.{first, keep, up_to}
use Rattle.step.specs.Meets.{meets, meets_count, acted_count}
use Rattle.step.specs.Moves.{Configuration, seen, enabled, tried, after_count, moved_count}
use Rattle.step.specs.Answers.{unless_taken}
use Rattle.step.proofs.OnLists.Keeping.{length_keep}
use Rattle.step.proofs.OnLists.Sums.{total_most, length_up_to}

pub refused_count : (n : ℕ) → (n ≡ 0 → ⊥) → (c : ℕ) → 0 ≡ unless_taken n 0 c
refused_count zero k c = absurd (k refl)
refused_count (suc n) k c = refl

-- bytes that are not read
pub unread_count : (n : ℕ) (r : Result (Unit {0}) Refusal) → reading_paper r ≡ answer n → (m : Refusal) → r ≡ Err m → (c : ℕ) → 0 ≡ unless_taken n 0 c
unread_count n r e m h c =
    let (k, g, x) = answer_refused n r e m h in
    rw g refl

-- A condition and an action by their numbers count no more than they have bytes.
few_in : {A : Type 0} (o : Option A) (f : A → ℕ) (n : ℕ) → ((a : A) → o ≡ some a → f a ≤ n) → count_in o f ≤ n
few_in none f n h = omega arith
few_in (some a) f n h = h a refl

module _ (C : Common) (i : ℕ) (E : Environment) where
  pub meets_few : meets_count C i E ≤ length (condition_in C i)
  unfolding meets_count
  meets_few = few_in (parse_condition (lent_in C) (condition_in C i)) _ _ (λ c h. omega (arith, condition_few c E, ap length (condition_whole (lent_in C) (condition_in C i) h)))

  acted_few : acted_count C i E ≤ length (get_or C.actions i [])
  unfolding acted_count
  acted_few = few_in (parse_action (lent_in C) (get_or C.actions i [])) _ _ (λ a h. omega (arith, action_few a E, ap length (action_whole (lent_in C) (get_or C.actions i []) h)))

-- So what is tried and assigned counts at most n for each transition, and m.
pub moved_most : (C : Common) (n m : ℕ) → ((i : ℕ) → length (condition_in C i) ≤ n) → ((i : ℕ) → length (get_or C.actions i []) ≤ m) → (ts : List Transition) (k : Configuration) (e : Event) → moved_count C ts k e ≤ n * length ts + m
unfolding moved_count tried
moved_most C n m h g ts k e =
    let of : Transition → Bool = λ t. eqb t.from k.main && (eqb t.kind e.kind && eqb t.unit e.unit) in
    let holds : Transition → Bool = λ t. meets C t.condition (seen e k) in
    let l = up_to holds (keep of ts) in
    let most = total_most (λ (t : Transition). meets_count C t.condition (seen e k)) n (λ t. omega (arith, meets_few C t.condition (seen e k), h t.condition)) l in
    let short : length l ≤ length ts = omega (arith, length_up_to holds (keep of ts), length_keep of ts) in
    omega (arith, most, mul-le-mul_left n short, assigned (first (enabled C k e) ts))
  where
    assigned : (o : Option Transition) → after_count C k e o ≤ m
    assigned none = omega arith
    assigned (some t) = omega (arith, acted_few C t.action (seen e k), g t.action)
