-- The published definition on the sheets that reading accepts. Assumes nothing.
use mathlib.Core.Path.{◌≡◌, refl}
use mathlib.Core.Bool.{Bool, true, false, ◌&&◌, false≢true}
use mathlib.Core.Option.{Option, none, some}
use mathlib.Core.List.{List, []}
use Prim.Native.Nat.{ℕ, ◌<◌}
use lib.ListN.{length}
use Rattle.condition.specs.Tree.{Condition, condition_names, is_monitor}
use Rattle.condition.specs.Parse.{parse_condition}
use Rattle.condition.specs.Meaning.{environment, holds}
use Rattle.condition.specs.Answer.{sized, whether, condition_which}
use Rattle.condition.proofs.Naming.{no_monitor_means}
use Rattle.sheet.specs.Parts.{Common}
use Rattle.sheet.specs.Decode.{common_of, sheet_of}
use Rattle.sheet.specs.Reading.{lent_in, condition_in, names_monitor, reading, last_of, sheet_layout}
use Rattle.sheet.specs.Bytes.{byte}
use Rattle.sheet.specs.Log.{events_of}
use Rattle.sheet.proofs.Accepted.{accepted, bounds, condition_formed, GoodTriple, sheet_triple}
use Rattle.step.specs.Meets.{meets}
use Rattle.monitor.specs.Monitor.{triple_in}
use Rattle.monitor.specs.Answers.{run_of}
use Rattle.monitor.specs.Demand.{Demand2}
use Rattle.monitor.proofs.Demand2.Broken.{Plain, no_triple}
use Rattle.monitor.proofs.Demand2.Published.{published}

-- a condition that is formed and names nothing that p picks
clear_of : (b : Bool) (x : Option Condition) (p f g : Condition → Bool) → (b && whether x (λ _. true)) ≡ true → (b && whether x p) ≡ false
    → ((c : Condition) → p c ≡ false → f c ≡ g c) → whether x f ≡ whether x g
clear_of true none p f g h k s = refl
clear_of true (some c) p f g h k s = s c k
clear_of false x p f g h k s = absurd (false≢true h)

module _ (C : Common) (i : ℕ) (formed : condition_which (λ _. true) (lent_in C) (condition_in C i) ≡ true) (p m k : List ℕ) where
  pub meets_no_monitor : names_monitor C (condition_in C i) ≡ false → (m' : List ℕ) → meets C i (environment p m k) ≡ meets C i (environment p m' k)
  unfolding meets condition_which
  meets_no_monitor h m' =
      clear_of (sized (condition_in C i)) (parse_condition (lent_in C) (condition_in C i)) (λ c. condition_names c is_monitor) (λ c. holds c (environment p m k)) (λ c. holds c (environment p m' k)) formed h
      (no_monitor_means p m m' k)

-- Of an accepted sheet all that the published definition needs is known.
pub accepted_plain : (s : List ℕ) → reading sheet_layout s ≡ 0 → Plain (sheet_of s)
unfolding sheet_of
accepted_plain s h =
    let a = accepted sheet_layout s h in
    let C = common_of s in
    let formed = condition_formed C a.formed in
    let t : (i : ℕ) → i < length (last_of sheet_layout s) → GoodTriple C (triple_in (sheet_of s) i) = λ i l. sheet_triple a i no_triple l in
    record {
      start_good = (bounds a).start_good;
      postcondition = λ i l p m k. meets_no_monitor C (triple_in (sheet_of s) i).postcondition (formed _) p m k (t i l).no_monitor_after [];
    }

-- Demand 2: every run on an accepted sheet has the published answer.
pub demand2 : Demand2
unfolding run_of
demand2 s log a l = rw (a, l) (published (sheet_of s) (accepted_plain s a) (events_of (byte s 5) log))
