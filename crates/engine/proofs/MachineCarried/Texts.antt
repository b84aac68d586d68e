-- Conditions and actions of accepted bytes by their places in the plan. Assumes nothing.
use mathlib.Core.Path.{◌≡◌, refl, sym, ap, ap₂, ◌∙◌}
use mathlib.Core.Bool.{Bool, true, false, cond, and-eq-true_iff}
use mathlib.Core.Option.{Option, none, some}
use mathlib.Core.List.{List, [], ◌∷◌}
use Prim.Native.Nat.{ℕ, zero, suc, ◌+◌, ◌%◌, ◌≤◌, ◌<◌}
use native.Mathlib.Nat.{mod-eq_of_lt}
use native.Mathlib.Omega.{arith}
use borrow.Author.Tests.{leb-true, eqb-true, ne_eqb, lt-ltb}
use lib.Dec.{eqb, leb}
use lib.ListN.{length, get_or, take, drop, length-take, length-drop, take-append-drop}
use lib.Seq.{drop-drop, get_or-drop, get_or-take}
use Rattle.condition.specs.declared.Lent.{Lent}
use Rattle.condition.specs.Tree.{Condition, always}
use Rattle.condition.specs.Parse.{parse_condition, parse_action, condition_from, condition_operator, run_from}
use Rattle.condition.specs.Meaning.{Environment, environment, lent, holds, performed}
use Rattle.condition.specs.Count.{condition_count, action_count}
use Rattle.condition.specs.Answer.{sized, action_outcome, action_counted, run_outcome, run_counted, performed_on, text_from}
use Rattle.condition.proofs.Placed.{behind_first, holds_text, count_text}
use Rattle.sheet.specs.Bytes.{byte}
use Rattle.sheet.specs.Table.{Form, starts, extent, fit}
use Rattle.sheet.specs.Decode.{wide, lead, said, text_form, conditions_in, actions_in, conditions_at, actions_at, transitions_at, last_at, common_of}
use Rattle.sheet.specs.Reading.{Layout, condition_in}
use Rattle.sheet.proofs.Accepted.{Accepted, bounds, tables_end}
use Rattle.sheet.proofs.Placed.{condition_places, action_places, condition_there}
use Rattle.sheet.proofs.Tables.{length_records}
use Rattle.step.specs.Walk.{acted_at}
use Rattle.step.proofs.OnLists.Lists.{none_some}
use Rattle.engine.specs.Prepared.{start_of, text_place, action_place}
use Rattle.engine.specs.Walk.{holds_by, count_by, performed_at, action_count_at}

-- A record begins within its table.
starts_within : {A : Type 0} (F : Form A) (n : ℕ) (s : List ℕ) (a i : ℕ) → i < n → get_or (starts F n s a) i 0 ≤ a + extent F n (drop a s)
unfolding starts extent
starts_within F zero s a i h = absurd (omega arith)
starts_within F (suc n) s a zero h = omega arith
starts_within F (suc n) s a (suc i) h =
    let k = F.size (drop a s) in
    let rest : extent F n (drop k (drop a s)) ≡ extent F n (drop (a + k) s) = ap (extent F n) (drop-drop k a s) in
    omega (arith, rest, starts_within F n s (a + k) i (omega arith))

starts_from : {A : Type 0} (F : Form A) (n : ℕ) (s : List ℕ) (a i : ℕ) → i < n → a ≤ get_or (starts F n s a) i 0
unfolding starts
starts_from F zero s a i h = absurd (omega arith)
starts_from F (suc n) s a zero h = omega arith
starts_from F (suc n) s a (suc i) h = omega (arith, starts_from F n s (a + F.size (drop a s)) i (omega arith))

fit_at : (m : ℕ) (l : List ℕ) (i : ℕ) → i < m → get_or (fit m 0 l) i 0 ≡ get_or l i 0
unfolding fit
fit_at zero l i h = absurd (omega arith)
fit_at (suc m) [] zero h = refl
fit_at (suc m) [] (suc i) h = fit_at m [] i (omega arith)
fit_at (suc m) (x ∷ l) zero h = refl
fit_at (suc m) (x ∷ l) (suc i) h = fit_at m l i (omega arith)

-- What begins with the byte of `true` and is one condition is just that.
abbrev tree_in : Option Condition → Condition
tree_in none = always
tree_in (some c) = c

no_text : (L : Lent) (c : Condition) → parse_condition L [] ≡ some c → ⊥
unfolding parse_condition condition_from
no_text L c e = none_some e

from_true : (L : Lent) (t : List ℕ) → tree_in (parse_condition L (0 ∷ t)) ≡ always
unfolding parse_condition condition_from condition_operator
from_true L [] = refl
from_true L (x ∷ t) = refl

begins_true : (L : Lent) (t : List ℕ) (c : Condition) → get_or t 0 0 ≡ 0 → parse_condition L t ≡ some c → c ≡ always
begins_true L [] c z e = absurd (no_text L c e)
begins_true L (x ∷ t) c z e = sym (ap tree_in e) ∙ ap (λ (y : ℕ). tree_in (parse_condition L (y ∷ t))) z ∙ from_true L t

true_means : (c : Condition) (E : Environment) → c ≡ always → (true ≡ holds c E) × (1 ≡ condition_count c E)
unfolding holds condition_count
true_means c E e = rw e (refl, refl)

-- a text that is sized has a byte
some_bytes : (t : List ℕ) → sized t ≡ true → 1 ≤ length t
some_bytes t e = leb-true 1 (length t) ((and-eq-true_iff (leb 1 (length t)) _).0 e).0

-- the empty action leaves the variables, and counts nothing
no_action : (values : List ℕ) (count : ℕ) (variables : List ℕ) → performed_on count variables (action_outcome [] (environment values (take count variables) [])) ≡ variables
unfolding action_outcome run_outcome parse_action run_from performed
no_action values count variables = take-append-drop count variables

no_action_count : (E : Environment) → action_counted [] E ≡ 0
unfolding action_counted run_counted parse_action run_from action_count
no_action_count E = refl

module _ {T R : Type 0} {F : Layout T R} {s : List ℕ} (a : Accepted F s) (fits : length s ≤ 65535) (i : ℕ) where
  module _ (few : F.conditions (wide s) ≤ 161) (h : i < length (common_of s).conditions) where
    abbrev at : ℕ
    at = get_or (condition_places s) i 0

    condition_within : get_or (condition_places s) i 0 ≤ 65535
    unfolding common_of conditions_at actions_at transitions_at last_at
    condition_within =
        let most = (bounds a).conditions in
        let long = length_records (text_form (wide s)) (conditions_in s) (drop (conditions_at s) s) in
        let first = fit_at 161 (starts (text_form (wide s)) (conditions_in s) s (conditions_at s)) i (omega arith) in
        omega (arith, first, starts_within (text_form (wide s)) (conditions_in s) s (conditions_at s) i (omega arith), tables_end a)

    -- at its place in the plan it means what it does, and counts as much
    pub text_means : (E : Environment) (c : Condition) → sized (condition_in (common_of s) i) ≡ true → parse_condition (lent E) (condition_in (common_of s) i) ≡ some c
        → (holds_by s (text_place s (condition_places s) i) E ≡ holds c E) × (count_by s (text_place s (condition_places s) i) E ≡ condition_count c E)
    unfolding text_place
    text_means E c z e =
        let w = wide s in
        let q = at + lead w in
        let n = said w (drop at s) in
        let start : start_of (condition_places s) i ≡ at = mod-eq_of_lt (omega (arith, condition_within)) in
        let same : take n (drop q s) ≡ condition_in (common_of s) i = ap (take n) (sym (drop-drop (lead w) at s)) ∙ condition_there a i few h in
        let tree : parse_condition (lent E) (take n (drop q s)) ≡ some c = ap (parse_condition (lent E)) same ∙ e in
        let long : 1 ≤ length (take n (drop q s)) = rw same (some_bytes (condition_in (common_of s) i) z) in
        let place : (start_of (condition_places s) i + lead w) % 65536 ≡ q = ap (λ (k : ℕ). (k + lead w) % 65536) start ∙ mod-eq_of_lt (omega (arith, long, length-take n (drop q s), length-drop q s, fits)) in
        let byte-first : get_or (take n (drop q s)) 0 0 ≡ byte s q = get_or-take n (drop q s) 0 0 (omega (arith, length-take n (drop q s))) ∙ get_or-drop q s 0 0 ∙ ap (λ (k : ℕ). get_or s k 0) {x = q + 0} {y = q} (omega arith) in
        rw place (go (eqb (byte s q) 0) refl (some_lead w at) tree byte-first)
      where
        some_lead : (w : Bool) (at : ℕ) → at + lead w ≡ 0 → ⊥
        some_lead true at e = omega arith
        some_lead false at e = omega arith

        go : (b : Bool) → eqb (byte s (at + lead (wide s))) 0 ≡ b → (at + lead (wide s) ≡ 0 → ⊥) → parse_condition (lent E) (take (said (wide s) (drop at s)) (drop (at + lead (wide s)) s)) ≡ some c
            → get_or (take (said (wide s) (drop at s)) (drop (at + lead (wide s)) s)) 0 0 ≡ byte s (at + lead (wide s))
            → (holds_by s (cond b 0 (at + lead (wide s))) E ≡ holds c E) × (count_by s (cond b 0 (at + lead (wide s))) E ≡ condition_count c E)
        go true y l tree first = true_means c E (begins_true (lent E) _ c (first ∙ eqb-true _ _ y) tree)
        go false y l tree first =
            let q = at + lead (wide s) in
            let n = said (wide s) (drop at s) in
            let left = behind_first s q l fits in
            rw (ne_eqb q 0 l) (holds_text s q n E c left tree, count_text s q n E c left tree)

  module _ (few : F.actions ≤ 161) (h : i < length (common_of s).actions) where
    abbrev place : ℕ
    place = get_or (action_places s) i 0

    action_within : get_or (action_places s) i 0 ≤ 65535
    unfolding common_of actions_at transitions_at last_at
    action_within =
        let most = (bounds a).actions in
        let long = length_records (text_form false) (actions_in s) (drop (actions_at s) s) in
        let first = fit_at 161 (starts (text_form false) (actions_in s) s (actions_at s)) i (omega arith) in
        omega (arith, first, starts_within (text_form false) (actions_in s) s (actions_at s) i (omega arith), tables_end a)

    action_past : get_or (action_places s) i 0 ≡ 0 → ⊥
    unfolding common_of conditions_at actions_at
    action_past e =
        let most = (bounds a).actions in
        let long = length_records (text_form false) (actions_in s) (drop (actions_at s) s) in
        let first = fit_at 161 (starts (text_form false) (actions_in s) s (actions_at s)) i (omega arith) in
        omega (arith, first, starts_from (text_form false) (actions_in s) s (actions_at s) i (omega arith))

    action_start : action_place s (action_places s) i ≡ cond (eqb (byte s (get_or (action_places s) i 0)) 0) 0 (get_or (action_places s) i 0)
    unfolding action_place
    action_start = ap (λ (k : ℕ). cond (eqb (byte s k) 0) 0 k) {x = start_of (action_places s) i} {y = place} (mod-eq_of_lt (omega (arith, action_within)))

    action_text : text_from s (get_or (action_places s) i 0) ≡ (text_form false).value (drop (get_or (action_places s) i 0) s)
    action_text = ap₂ (λ (n : ℕ) (l : List ℕ). take n l) (sym (get_or-drop place s 0 0 ∙ ap (λ (k : ℕ). get_or s k 0) {x = place + 0} {y = place} (omega arith))) (sym (drop-drop 1 place s))

    -- at its place in the plan it does what it does, and counts as much
    module _ (values : List ℕ) (count : ℕ) (variables : List ℕ) where
      abbrev E : Environment
      E = environment values (take count variables) []

      pub action_performs : performed_at s (action_place s (action_places s) i) values count variables ≡ acted_at s (action_places s) i values count variables
      action_performs =
          let most = (bounds a).actions in
          rw (action_start, lt-ltb i 161 (omega arith)) (go (eqb (byte s place) 0) refl ∙ ap (λ (l : List ℕ). performed_on count variables (action_outcome l E)) action_text)
        where
          empty : byte s place ≡ 0 → variables ≡ performed_on count variables (action_outcome (text_from s place) E)
          empty z = rw z (sym (no_action values count variables))

          go : (b : Bool) → eqb (byte s place) 0 ≡ b → performed_at s (cond b 0 place) values count variables ≡ performed_on count variables (action_outcome (text_from s place) E)
          go true y = empty (eqb-true _ _ y)
          go false y = rw (ne_eqb place 0 action_past)

      pub action_counted_lem : action_count_at s (action_place s (action_places s) i) values count variables ≡ action_counted ((text_form false).value (drop (get_or (action_places s) i 0) s)) (environment values (take count variables) [])
      action_counted_lem = rw action_start (go (eqb (byte s place) 0) refl ∙ ap (λ (l : List ℕ). action_counted l E) action_text)
        where
          empty : byte s place ≡ 0 → 0 ≡ action_counted (text_from s place) E
          empty z = rw z (sym (no_action_count E))

          go : (b : Bool) → eqb (byte s place) 0 ≡ b → action_count_at s (cond b 0 place) values count variables ≡ action_counted (text_from s place) E
          go true y = empty (eqb-true _ _ y)
          go false y = rw (ne_eqb place 0 action_past)
